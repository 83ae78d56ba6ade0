use Rattle.std.proofs.Common.{◌≡◌, ◌*◌, length, Ok, ap, sym, ◌∙◌, arith}
use Rattle.std.proofs.lemmas.List.{take_all}
use Rattle.table.specs.Binary.{block_count, binary_bytes}
use Rattle.table.specs.Opening.{opened}
use Rattle.table.proofs.OnlyThat.{only_that, opened_few}
use Rattle.table.proofs.Stacked.{length_binary}
use Rattle.table.proofs.binary.BinaryTable.reopen.Goals as goal

pub invariant_of-result : goal.invariant_of-result
invariant_of-result c =
    let bs = c.args.bytes.now in
    let rs = c.of.result in
    let kept : rs ≡ c.in-Ok.found.items = grind (arith, c.of.ensures, c.deref.ensures.0, take_all) in
    let found : opened bs ≡ Ok rs = sym c.in-Ok.ensures.answer ∙ ap Ok (sym kept) in
    let same : bs ≡ binary_bytes rs = only_that bs rs found in
    let long : length bs ≡ 512 * block_count (length rs) = ap length same ∙ length_binary rs in
    record {
      fits = omega (arith, long, opened_few bs rs found);
      blocks = take_all (512 * block_count (length rs)) bs (omega (arith, long)) ∙ same;
    }
