use Rattle.std.proofs.Common.{refl}
use Rattle.worked.proofs.Examples.{all_hold}
use Rattle.worked.proofs.examples_hold.Goals as goal

pub returns : goal.returns
returns c = record { count = refl; all = all_hold }
