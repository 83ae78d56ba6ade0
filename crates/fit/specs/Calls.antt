-- What a fit answers. Assumes nothing.
use Rattle.std.specs.Prelude.{ℕ, cond, Ok, Err, Result, ◌==◌, nat_le}
use Rattle.fit.specs.declared.Misfit.{Misfit}
use Rattle.fit.specs.declared.Misfit.TheVariants.{TooMany, Places}

-- first whether there are at most 1,024 points, then whether there is one place for each
abbrev pub fit_answer : ℕ → ℕ → Result (Unit {0}) Misfit
fit_answer points places = cond (nat_le points 1024) (cond (places == points) (Ok tt) (Err Places)) (Err TooMany)
