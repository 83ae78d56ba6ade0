use Rattle.std.proofs.Common.{sym, subst₂}
use Rattle.bench.specs.Runs.Event.{added, dropped, laid, converted}
use Rattle.bench.specs.Told.{Told}
use Rattle.bench.specs.Told.Told.{told_add, told_drop, told_lay, told_convert}
use Rattle.bench.proofs.state.Bench.serve.Goals as goal

pub returns-in-Add-clause-law : goal.returns-in-Add-clause-law
returns-in-Add-clause-law g c =
    let r = c.add.result in
    let e = added c.in-Add.count c.in-Add.point r in
    λ h k. (e, subst₂ (λ q a. Told g.L.Loss.cost q a e) (sym c.in-Add.is) (sym c.into.ensures) (told_add c.in-Add.count c.in-Add.point r), c.add.ensures.law _ _ h k)

pub returns-in-Drop-clause-law : goal.returns-in-Drop-clause-law
returns-in-Drop-clause-law g c =
    let r = c.drop.result in
    let e = dropped c.in-Drop.count r in
    λ h k. (e, subst₂ (λ q a. Told g.L.Loss.cost q a e) (sym c.in-Drop.is) (sym c.into-in-Drop.ensures) (told_drop c.in-Drop.count r), c.drop.ensures.law _ _ h k)

pub returns-in-Lay-clause-law : goal.returns-in-Lay-clause-law
returns-in-Lay-clause-law g c =
    let r = c.lay.result in
    let l = c.in-Lay.loss in
    let rows = g.H.Holder.listed c.lay.new.holder in
    let e = laid (g.L.Loss.cost l) r rows in
    λ h k. (e, subst₂ (λ q a. Told g.L.Loss.cost q a e) (sym c.in-Lay.is) (sym c.into-in-Lay.ensures) (told_lay l r rows), c.lay.ensures.law h k)

pub returns-in-Convert-clause-law : goal.returns-in-Convert-clause-law
returns-in-Convert-clause-law g c =
    let r = c.convert.result in
    let e = converted c.in-Convert.count r in
    λ h k. (e, subst₂ (λ q a. Told g.L.Loss.cost q a e) (sym c.in-Convert.is) (sym c.into-in-Convert.ensures) (told_convert c.in-Convert.count r), c.convert.ensures.law h k)
