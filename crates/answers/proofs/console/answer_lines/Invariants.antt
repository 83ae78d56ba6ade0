use Rattle.std.proofs.Common.{◌≡◌, ◌+◌, ◌≤◌, ◌++◌, length}
use Rattle.std.specs.List.{flat_map}
use Rattle.bench.specs.Held.{places_of}
use Rattle.bench.specs.Runs.{History}
use Rattle.bench.specs.Served.{Writing}
use Rattle.bench.specs.State.{memory_of, standing, Kept}
use Rattle.lines.specs.Pieces.{pieces}
use Rattle.answers.specs.Replies.{answer_text}
use Rattle.answers.specs.Sessions.{answers, after, EnteredAll}
use Rattle.answers.proofs.console.answer_lines.Given as goal

-- what the lines left come to from here is what all come to from the start
abbrev pub invariant-loop-i : goal.invariant-loop-i
invariant-loop-i g l =
    let holder = g.H.Holder in
    let told = g.P.LinePoint.told in
    let cost = g.L.Loss.cost in
    let slope = g.L.Loss.slope in
    let fields = g.L.LineLoss.LINE_FIELDS in
    let loss = l.loss in
    let w : Writing = record { clears = holder.cleared; extends = holder.extended } in
    let b = l.initial.bench in
    let room = holder.room l.initial.holder in
    let from = standing b (holder.listed l.initial.holder) (holder.memory l.initial.holder) in
    let here = standing l.bench (holder.listed l.holder) (holder.memory l.holder) in
    let n = l.i-iterator.count + 2 in
    let ls = pieces 10 l.lines.bytes.now in
    let left = pieces l.i-iterator.iter.end l.i-iterator.iter.rest.now in
    record {
      can_next : (goal.iterator-loop-i g).can_next l.i-iterator;
      is_finite : (goal.iterator-loop-i g).is_finite l.i-iterator;
      few : l.i-iterator.count + length left ≤ 65537;
      output : l.output.items ++ flat_map answer_text (answers told cost slope fields loss b.top room w here n left) ≡ l.initial.output.items ++ flat_map answer_text (answers told cost slope fields loss b.top room w from 2 ls);
      after : after told cost slope fields loss b.top room w here n left ≡ after told cost slope fields loss b.top room w from 2 ls;
      law : (h : History g.row.P.Denot) → Kept b room (holder.listed l.initial.holder) h →
          ((m : History g.row.P.Denot) × Kept l.bench room (holder.listed l.holder) m
          × ((end : History g.row.P.Denot) → EnteredAll told cost slope fields loss b.top room w here n left m end → EnteredAll told cost slope fields loss b.top room w from 2 ls h end));
      same_top : l.bench.top ≡ b.top;
      same_room : holder.room l.holder ≡ room;
      same_places : places_of (memory_of l.bench) ≡ places_of (memory_of b);
    }
