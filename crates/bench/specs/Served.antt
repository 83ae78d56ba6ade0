-- What requests make of a bench and a holder, whatever they hold. Assumes nothing.
use Rattle.std.specs.Prelude.{ℕ, List, [], ◌∷◌, ℤ}
use Rattle.fit.specs.declared.Entry.{Entry}
use Rattle.table.specs.Convert.{conversion}
use Rattle.table.specs.Rows.{once_accepted, bytes_after}
use Rattle.bench.specs.declared.runs.Answer.{Answer}
use Rattle.bench.specs.declared.runs.Request.{Request}
use Rattle.bench.specs.declared.runs.Request.TheVariants.{Add, Drop, Lay, Convert}
use Rattle.bench.specs.Held.{places_of, with_point, without, memory_with, memory_without, add_answer, drop_answer, lay_answer, laid_rows}
use Rattle.bench.specs.Told.{done_answer, level_answer}

-- a bench's memory and points, and a holder's rows and bytes
pub record Standing (P : Type 0) : Type 0 where
  pub entries : List (Entry P)
  pub points : List (Entry P)
  pub rows : List (ℕ × ℕ)
  pub bytes : List ℕ

-- what a holder says that clearing and one more row make of its bytes
pub record Writing : Type 0 where
  pub clears : List ℕ → List (ℕ × ℕ) → List ℕ
  pub extends : List ℕ → List (ℕ × ℕ) → ℕ × ℕ → List ℕ

module _ {P L : Type 0} (step : L → P → ℕ → ℤ) (top room : ℕ) (w : Writing) where
  -- the answer to one request
  abbrev pub answered : Standing P → Request P L → Answer
  answered s (Add c p) = done_answer (add_answer (places_of s.entries) s.points c)
  answered s (Drop c) = done_answer (drop_answer s.points c)
  answered s (Lay l) = done_answer (lay_answer room s.points)
  answered s (Convert c) = level_answer (conversion s.rows c)

  -- and what there is after it
  abbrev pub served : Standing P → Request P L → Standing P
  served s (Add c p) =
      let r = add_answer (places_of s.entries) s.points c in
      let e : Entry P = record { count = c; point = p } in
      record {
        entries = once_accepted r (memory_with e s.points s.entries) s.entries;
        points = once_accepted r (with_point e s.points) s.points;
        rows = s.rows;
        bytes = s.bytes;
      }
  served s (Drop c) =
      let r = drop_answer s.points c in
      record {
        entries = once_accepted r (memory_without c s.points s.entries) s.entries;
        points = once_accepted r (without c s.points) s.points;
        rows = s.rows;
        bytes = s.bytes;
      }
  served s (Lay l) =
      let r = lay_answer room s.points in
      let rs = laid_rows (step l) top s.points in
      record {
        entries = s.entries;
        points = s.points;
        rows = once_accepted r rs s.rows;
        bytes = once_accepted r (bytes_after w.extends (w.clears s.bytes s.rows) [] rs) s.bytes;
      }
  served s (Convert c) = s

  -- the same of a list of requests, one after the other
  abbrev pub answered_all : Standing P → List (Request P L) → List Answer
  answered_all s [] = []
  answered_all s (q ∷ qs) = answered s q ∷ answered_all (served s q) qs

  abbrev pub served_all : Standing P → List (Request P L) → Standing P
  served_all s [] = s
  served_all s (q ∷ qs) = served_all (served s q) qs
