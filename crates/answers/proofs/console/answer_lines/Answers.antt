use Rattle.std.proofs.Common.{◌≡◌, ℕ, ◌+◌, ◌≤◌, ◌++◌, length, sym, refl, ap, ap₂, ◌∙◌, subst, subst₂, inl, arith}
use Rattle.std.specs.List.{flat_map}
use Rattle.bench.specs.Served.{Writing, answered}
use Rattle.bench.specs.State.{standing, Kept}
use Rattle.answers.specs.Obeyed.{Entered, line_answer, line_after}
use Rattle.lines.specs.Pieces.{pieces}
use Rattle.answers.specs.Replies.{answer_text}
use Rattle.lines.specs.Requests.{line_request}
use Rattle.answers.specs.Sessions.{answers, after, EnteredAll}
use Rattle.lines.proofs.Cuts.{pieces_take, no_more_pieces}
use Rattle.answers.proofs.Steps.{text_more, after_more, entered_more}
use Rattle.answers.proofs.console.answer_lines.Goals as goal

pub loop-i-init : goal.loop-i-init
loop-i-init g c =
    let holder = g.H.Holder in
    let told = g.P.LinePoint.told in
    let cost = g.L.Loss.cost in
    let slope = g.L.Loss.slope in
    let fields = g.L.LineLoss.LINE_FIELDS in
    let loss = c.args.loss.now in
    let w : Writing = record { clears = holder.cleared; extends = holder.extended } in
    let top = c.args.bench.now.top in
    let room = holder.room c.args.holder.now in
    let from = standing c.args.bench.now (holder.listed c.args.holder.now) (holder.memory c.args.holder.now) in
    let all = pieces 10 c.args.lines.bytes.now in
    let made = c.into_iter-i-iterator.ensures.into_iter_gives in
    let it = c.into_iter-i-iterator.result in
    let count : it.count ≡ 0 = ap (λ e. e.count) made ∙ c.enumerate-i-items.ensures.count in
    let number : it.count + 2 ≡ 2 = ap (λ i. i + 2) count in
    let left : pieces it.iter.end it.iter.rest.now ≡ all =
    ap (λ e. pieces e.iter.end e.iter.rest.now) made ∙ (ap (λ p. pieces p.end p.rest.now) c.enumerate-i-items.ensures.source ∙ c.new.ensures) in
    let few : it.count + length (pieces it.iter.end it.iter.rest.now) ≤ 65537 = omega (arith, count, ap length left, c.args.lines.short, pieces_take 10 c.args.lines.bytes.now, no_more_pieces all) in
    record {
      can_next = (tt, tt, inl (omega (arith, few)));
      is_finite = tt;
      few = few;
      output = ap₂ (λ n ls. c.args.output.now.items ++ flat_map answer_text (answers told cost slope fields loss top room w from n ls)) number left;
      after = ap₂ (after told cost slope fields loss top room w from) number left;
      law = λ h k. (h, k, λ end x. subst₂ (λ n ls. EnteredAll told cost slope fields loss top room w from n ls h end) number left x);
      same_top = refl;
      same_room = refl;
      same_places = refl;
    }

pub loop-i-preserved : goal.loop-i-preserved
loop-i-preserved g c =
    let holder = g.H.Holder in
    let told = g.P.LinePoint.told in
    let cost = g.L.Loss.cost in
    let slope = g.L.Loss.slope in
    let fields = g.L.LineLoss.LINE_FIELDS in
    let loss = c.args.loss.now in
    let w : Writing = record { clears = holder.cleared; extends = holder.extended } in
    let top = c.args.bench.now.top in
    let room = holder.room c.args.holder.now in
    let b = c.loop-i.bench in
    let held = c.loop-i.holder in
    let b2 = c.append_answer.new.bench in
    let held2 = c.append_answer.new.holder in
    let here = standing b (holder.listed held) (holder.memory held) in
    let there = standing b2 (holder.listed held2) (holder.memory held2) in
    let from = standing c.args.bench.now (holder.listed c.args.holder.now) (holder.memory c.args.holder.now) in
    let all = pieces 10 c.args.lines.bytes.now in
    let n = c.loop-i.i-iterator.count + 2 in
    let l = c.in-Some.line.now in
    let ls = pieces c.next.new.self.iter.end c.next.new.self.iter.rest.now in
    let inv = c.loop-i.invariant in
    let step = c.in-Some.ensures.steps in
    let split = step.0 in
    let number : c.in-Some.i + 2 ≡ n = ap (λ i. i + 2) step.1 in
    let later : c.next.new.self.count ≡ c.loop-i.i-iterator.count + 1 = step.2 in
    let less : c.next.new.self.count + length ls ≤ 65537 = omega (arith, later, ap length split, inv.few) in
    let more = c.in_ok-append_answer.ensures in
    let at : (Q : ℕ → ℕ → ℕ → Type 0) → Q b.top (holder.room held) (c.in-Some.i + 2) → Q top room n =
    λ Q x. subst₂ (λ r k. Q top r k) inv.same_room number (subst (λ t. Q t (holder.room held) (c.in-Some.i + 2)) inv.same_top x) in
    let moved = at (λ t r k. there ≡ line_after told slope fields loss t r w here k l) more.after in
    let written = at (λ t r k. c.append_answer.new.output.items ≡ c.loop-i.output.items ++ answer_text (line_answer told slope fields loss t r w here k l)) more.output in
    let number_more : c.next.new.self.count + 2 ≡ n + 1 = omega (arith, later) in
    let onward : (Q : ℕ → Type 0) → Q (n + 1) → Q (c.next.new.self.count + 2) = λ Q x. subst Q (sym number_more) x in
    record {
      can_next = (tt, tt, inl (omega (arith, less)));
      is_finite = tt;
      few = less;
      output =
          onward (λ k. c.append_answer.new.output.items ++ flat_map answer_text (answers told cost slope fields loss top room w there k ls) ≡ c.args.output.now.items ++ flat_map answer_text (answers told cost slope fields loss top room w from 2 all))
          (text_more told cost slope fields loss top room w here there n l ls _ _ _ _ written moved split inv.output);
      after = onward (λ k. after told cost slope fields loss top room w there k ls ≡ after told cost slope fields loss top room w from 2 all) (after_more told cost slope fields loss top room w here there n l ls _ _ moved split inv.after);
      law = λ h k.
          let m = inv.law h k in
          let x = more.law m.0 (subst (λ r. Kept b r (holder.listed held) m.0) (sym inv.same_room) m.1) in
          let one = at (λ t r k. Entered cost (line_request told fields loss k l) (answered slope t r w here) m.0 x.0) x.1 in (
            x.0,
            subst (λ r. Kept b2 r (holder.listed held2) x.0) (more.room ∙ inv.same_room) x.2,
            (λ end rest. m.2 end (entered_more told cost slope fields loss top room w here there n l ls _ m.0 x.0 end moved split one
                (subst (λ k. EnteredAll told cost slope fields loss top room w there k ls x.0 end) number_more rest))),
          );
      same_top = more.top ∙ inv.same_top;
      same_room = more.room ∙ inv.same_room;
      same_places = more.places ∙ inv.same_places;
    }
