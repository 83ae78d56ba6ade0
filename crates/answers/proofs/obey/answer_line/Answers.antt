use Rattle.std.proofs.Common.{◌≡◌, Bool, true, false, cond, leb, ◌++◌, length, drop, is_ok, Ok, Err, sym, refl, ap, ◌∙◌, subst}
use Rattle.std.proofs.lemmas.Bool.{cond-true, false≢true}
use Rattle.fault.specs.declared.Fault.{Fault}
use Rattle.bench.specs.Served.{Writing, answered}
use Rattle.bench.specs.State.{standing}
use Rattle.answers.specs.Obeyed.{Entered, after_request}
use Rattle.lines.specs.Reads.{and_then}
use Rattle.answers.specs.Replies.{answer_text}
use Rattle.lines.specs.Requests.{line_request}
use Rattle.answers.proofs.obey.answer_line.Goals as goal

-- what was not refused was answered yes
room_told : {X : Type 0} (x : X) (t : Bool) (f : Fault) → Ok x ≡ cond t (Ok x) (Err f) → t ≡ true
room_told x true f e = refl
room_told x false f e = absurd (false≢true (sym (ap is_ok e)))

pub returns : goal.returns
returns g c =
    let h = g.H.Holder in
    let w : Writing = record { clears = h.cleared; extends = h.extended } in
    let b = c.args.bench.now in
    let holder = c.args.holder.now in
    let room = h.room holder in
    let st = standing b (h.listed holder) (h.memory holder) in
    let fields = g.L.LineLoss.LINE_FIELDS in
    let loss = c.args.loss.now in
    let told = g.P.LinePoint.told in
    let slope = g.L.Loss.slope in
    let mem = c.args.answer.now in
    let request = line_request told fields loss c.args.number c.args.bytes.now in
    let wide : leb 32 (length mem) ≡ true = room_told {X = Unit {0}} tt (leb 32 (length mem)) _ c.in_ok-check_room.ensures in
    let taken = ap (λ r. and_then {X = Unit {0}} r (λ _. request)) (cond-true (leb 32 (length mem)) (Ok tt) _ wide) in
    record {
      value = ap Ok (c.write.ensures.written ∙ ap (λ a. length (answer_text a)) c.obey.ensures.answer) ∙ sym (cond-true (leb 32 (length mem)) _ _ wide);
      text = c.write.ensures.memory ∙ (ap (λ a. answer_text a ++ drop (length (answer_text a)) mem) c.obey.ensures.answer ∙ sym (cond-true (leb 32 (length mem)) _ _ wide));
      after = c.obey.ensures.after ∙ ap (after_request told slope fields loss b.top room w st) (sym taken);
      top = c.obey.ensures.top;
      room = c.obey.ensures.room;
      places = c.obey.ensures.places;
      law = λ hs k.
          let x = c.obey.ensures.law hs k in
          (x.0, subst (λ r. Entered g.L.Loss.cost r (answered slope b.top room w st) hs x.0) (sym taken) x.1, x.2);
    }
