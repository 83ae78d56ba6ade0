-- What a bench holds. Assumes nothing.
use Rattle.std.specs.Prelude.{ℕ, List, take}
use Rattle.fit.specs.declared.Entry.{Entry}
use Rattle.bench.specs.Held.{places_of}
use Rattle.bench.specs.Runs.{History, Keeps}
use Rattle.bench.specs.Served.{Standing}
use Rattle.bench.specs.declared.state.Bench.{Bench}

-- all entries of the lent memory, held or not
abbrev pub memory_of : {P : Type 0} → Bench P → List (Entry P)
memory_of b = b.list.entries.now

-- the points held, by rising count
abbrev pub held_of : {P : Type 0} → Bench P → List (Entry P)
held_of b = take b.list.held b.list.entries.now

-- after a run, this bench and a holder with so much room and these rows keep every promise
abbrev pub Kept : {P : Type 0} → Bench P → ℕ → List (ℕ × ℕ) → History P → Type 0
Kept b room rs h = Keeps (places_of (memory_of b)) b.top room h (held_of b) rs

-- a bench with the rows and bytes of a holder
abbrev pub standing : {P : Type 0} → Bench P → List (ℕ × ℕ) → List ℕ → Standing P
standing b rs bs = record { entries = memory_of b; points = held_of b; rows = rs; bytes = bs }
