use Rattle.std.proofs.Common.{◌≡◌, ℤ, pos, ◌*ℤ◌, ◌∙◌, arith, w64, to_z, of_z}
use borrow.Author.Differences.{ints}
use Rattle.std.proofs.lemmas.Int.{to_z-of_z}
use Rattle.loss.specs.Weights.{weighed_within}
use Rattle.loss.proofs.losses.weighed.Goals as goal

abbrev held : ℤ → ℤ
held z = to_z w64 (of_z w64 z)

factors : (c : goal.After-from) → held c.from.result *ℤ held c.args.rise ≡ pos c.args.weight *ℤ c.args.rise
factors c =
    let w : held c.from.result ≡ pos c.args.weight = omega (arith, ints) in
    let d : held c.args.rise ≡ c.args.rise = omega (arith, ints) in
    rw (w, d)

pub overflow_mul-result : goal.overflow_mul-result
overflow_mul-result c =
    let b = weighed_within c.args.weight c.args.rise (omega arith) c.requires.0 c.requires.1 in
    rw (factors c) (omega (arith, ints))

pub returns : goal.returns
returns c =
    let b = weighed_within c.args.weight c.args.rise (omega arith) c.requires.0 c.requires.1 in
    let v : held (held c.from.result *ℤ held c.args.rise) ≡ pos c.args.weight *ℤ c.args.rise = to_z-of_z w64 _ (overflow_mul-result c) ∙ factors c in
    record { value = v; low = rw v (omega (arith, ints)); high = rw v (omega (arith, ints)) }
