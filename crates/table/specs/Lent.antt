-- What a text table holds. Assumes nothing.
use Rattle.std.specs.Prelude.{ℕ, ◌≤◌, List, length}
use Rattle.std.proofs.Common.{arith}
use Rattle.table.specs.declared.text.TextTable.{TextTable}
use Rattle.table.specs.Text.{text_room}

abbrev pub text_rows : TextTable → List (ℕ × ℕ)
text_rows t = t.rows

-- all of the lent bytes, in use or not
abbrev pub text_bytes : TextTable → List ℕ
text_bytes t = t.page.bytes.now

pub text_bounded : (t : TextTable) → text_room (text_bytes t) ≤ 1024
text_bounded t = omega arith

pub text_within : (t : TextTable) → length (text_rows t) ≤ text_room (text_bytes t)
text_within t = t.fits
