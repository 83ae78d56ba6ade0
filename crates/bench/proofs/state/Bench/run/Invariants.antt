use Rattle.std.proofs.Common.{◌≡◌, [], ◌++◌, take, drop}
use Rattle.bench.specs.Runs.{History}
use Rattle.bench.specs.Served.{Writing, answered_all, served_all}
use Rattle.bench.specs.State.{held_of, standing, Kept}
use Rattle.bench.specs.Told.{ToldAll}
use Rattle.bench.proofs.state.Bench.run.Given as goal

-- the requests so far are answered and served; they make a history, and all is kept after it
abbrev pub invariant-loop-i : goal.invariant-loop-i
invariant-loop-i g l =
    let h = g.H.Holder in
    let w : Writing = record { clears = h.cleared; extends = h.extended } in
    let b = l.initial.self in
    let s = standing b (h.listed l.initial.holder) (h.memory l.initial.holder) in
    let step = g.L.Loss.slope in
    let room = h.room l.initial.holder in
    let asked = take l.i l.requests in
    record {
      answers : l.answers ≡ answered_all step b.top room w s asked ++ drop l.i l.initial.answers;
      after : standing l.self (h.listed l.holder) (h.memory l.holder) ≡ served_all step b.top room w s asked;
      top : l.self.top ≡ b.top;
      room : h.room l.holder ≡ room;
      law : held_of b ≡ [] → h.listed l.initial.holder ≡ [] → (k : History g.row.P.Denot) × ToldAll g.L.Loss.cost asked (take l.i l.answers) k × Kept l.self (h.room l.holder) (h.listed l.holder) k;
    }
