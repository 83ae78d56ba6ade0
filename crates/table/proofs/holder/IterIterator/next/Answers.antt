use Rattle.std.proofs.Common.{rules, ◌≡◌, ◌+◌, ◌∷◌, drop, sym, ap, ◌∙◌, Some}
use Rattle.std.specs.List.{slice_get}
use Rattle.std.proofs.lemmas.List.{drop_more, drop_all, length-drop}
use Rattle.std.proofs.lemmas.Option.{slice_get_within, get_or_from_slice_get}
use Rattle.table.proofs.Found.{nth_none}
use Rattle.table.proofs.holder.IterIterator.next.Given as given
use Rattle.table.proofs.holder.IterIterator.next.Goals as goal
use Rattle.table.proofs.holder.IterIterator.next.Goals.{In_ok-row}

there : (g : given.Over) (c : In_ok-row g) → slice_get (g.H.Holder.listed c.args.self.now.holder.now) c.args.self.now.next ≡ Some c.in_ok-row.row
there g c = sym c.row.ensures ∙ c.in_ok-row.was

pub returns-in_err-row-clause-steps : goal.returns-in_err-row-clause-steps
returns-in_err-row-clause-steps g c =
    let rs = g.H.Holder.listed c.args.self.now.holder.now in
    let none = drop_all c.args.self.now.next rs (nth_none rs c.args.self.now.next (sym c.row.ensures ∙ c.in_err-row.was)) in
    rw c.from_residual.ensures (none, none)

pub overflow_add-self : goal.overflow_add-self
overflow_add-self g c =
    let within = slice_get_within _ c.args.self.now.next _ (there g (goal.at.overflow_add-self g c).In_ok-row) in
    let b = g.H.Holder.bounded c.args.self.now.holder.now in
    let w = g.H.Holder.within c.args.self.now.holder.now in
    search rules

pub returns-clause-steps : goal.returns-clause-steps
returns-clause-steps g c =
    let rs = g.H.Holder.listed c.args.self.now.holder.now in
    let i = c.args.self.now.next in
    let row = there g (goal.at.returns-clause-steps g c).In_ok-row in
    drop_more rs i c.in_ok-row.row (slice_get_within rs i _ row) ∙ ap (λ r. r ∷ drop (i + 1) rs) (get_or_from_slice_get rs i _ _ row)

pub returns-clause-goes : goal.returns-clause-goes
returns-clause-goes g c =
    let rs = g.H.Holder.listed c.args.self.now.holder.now in
    let within = slice_get_within rs c.args.self.now.next _ (there g (goal.at.returns-clause-goes g c).In_ok-row) in
    let old = length-drop c.args.self.now.next rs in
    let new = length-drop (c.args.self.now.next + 1) rs in
    search rules
