-- The names of orders. Assumes nothing.
use Rattle.std.specs.Prelude.{ℕ, List, codes}
use Rattle.measure.specs.declared.Order.{Order}
use Rattle.measure.specs.declared.Order.TheVariants.{Random, Rising, Falling}

abbrev pub order_name : Order → List ℕ
order_name Random = codes "random"
order_name Rising = codes "rising"
order_name Falling = codes "falling"
