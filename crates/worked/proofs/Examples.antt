-- Every example holds: each answer computes. Assumes nothing.
use Rattle.std.proofs.Common.{refl}
use Rattle.std.specs.List.{AllByRecursion}
use Rattle.fit.specs.Best.{first_up, best_level}
use Rattle.fit.specs.MaxMin.{part, least, greatest, max_min, fitted}
use Rattle.table.specs.Binary.{block_places, block_body, sum_bytes, block_bytes}
use Rattle.table.specs.Convert.{conversion}
use Rattle.worked.specs.Worked.{Holds, examples}

pub all_hold : AllByRecursion Holds examples
unfolding first_up best_level part least greatest max_min fitted conversion block_places block_body sum_bytes block_bytes
all_hold = (refl, (refl, (refl, (refl, (refl, (refl, (refl, (refl, (refl, (refl, (refl, (refl, ((refl, refl), ((refl, refl), (refl, tt)))))))))))))))
