use Rattle.std.proofs.Common.{◌≡◌, ◌+◌, ◌<◌, [], ◌∷◌, ◌++◌, length, get_or, take, drop, set, sym, refl, ap, ◌∙◌, append_assoc, arith}
use Rattle.std.proofs.lemmas.List.{drop_more, length-take-le, get_or-take, set_at, take_more, take_more_set}
use Rattle.bench.specs.Served.{Writing, answered, served, answered_all, served_all}
use Rattle.bench.specs.State.{standing}
use Rattle.bench.proofs.Standings.{served_more, answered_more, length_answered}
use Rattle.bench.proofs.state.Bench.run.Goals as goal

pub loop-i-init : goal.loop-i-init
loop-i-init g c = record {
  answers = refl;
  after = refl;
  top = refl;
  room = refl;
  law = λ new none. ([], (refl, refl), record { held = new; table = none; lawful = tt });
}

pub loop-i-preserved : goal.loop-i-preserved
loop-i-preserved g c =
    let h = g.H.Holder in
    let w : Writing = record { clears = h.cleared; extends = h.extended } in
    let step = g.L.Loss.slope in
    let top = c.args.self.now.top in
    let room = h.room c.args.holder.now in
    let s = standing c.args.self.now (h.listed c.args.holder.now) (h.memory c.args.holder.now) in
    let i = c.loop-i.i in
    let qs = c.args.requests.now in
    let old = c.args.answers.now in
    let was = c.loop-i.answers in
    let q = c.request-item.result in
    let a = c.serve.result in
    let inv = c.loop-i.invariant in
    let told = c.serve.ensures in
    let n = c.min-n.result in
    let within : i < n = omega (arith, length-take-le n qs (omega (arith, c.min-n.ensures))) in
    let asked : i < length qs = omega (arith, c.min-n.ensures) in
    let place : i < length old = omega (arith, c.min-n.ensures) in
    let here_asked : get_or qs i q ≡ q = sym (c.request-item.is ∙ get_or-take n qs i q within) in
    let more : take (i + 1) qs ≡ take i qs ++ q ∷ [] = take_more qs i q asked ∙ ap (λ x. take i qs ++ x ∷ []) here_asked in
    let done = answered_all step top room w s (take i qs) in
    let long : length done ≡ i = length_answered step top room w s (take i qs) ∙ length-take-le i qs (omega arith) in
    let here : a ≡ answered step top room w (served_all step top room w s (take i qs)) q = told.answer ∙ (λ j. answered step (inv.top j) (inv.room j) w (inv.after j) q) in
    let all : done ++ a ∷ [] ≡ answered_all step top room w s (take (i + 1) qs) =
    ap (λ x. done ++ x ∷ []) here ∙ sym (answered_more step top room w s (take i qs) q) ∙ ap (answered_all step top room w s) (sym more) in
    record {
      answers = ap (λ x. set x i a) (inv.answers ∙ ap (λ x. done ++ x) (drop_more old i a place)) ∙ set_at done (get_or old i a) (drop (i + 1) old) a i long ∙ sym (append_assoc done (a ∷ []) (drop (i + 1) old)) ∙ ap (λ x. x ++ drop (i + 1) old) all;
      after = told.after ∙ (λ j. served step (inv.top j) (inv.room j) w (inv.after j) q) ∙ sym (served_more step top room w s (take i qs) q) ∙ ap (served_all step top room w s) (sym more);
      top = told.top ∙ inv.top;
      room = told.room ∙ inv.room;
      law = λ new none.
          let before = inv.law new none in
          let next = told.law before.0 before.2 in
          (next.0 ∷ before.0, (q, a, take i qs, take i was, more, take_more_set was i a (omega (arith, c.loop-i.auto.answers)), next.1, before.1), next.2);
    }
