-- What is printed where no table is derived.
use Rattle.std.specs.Prelude.{ℕ, List, codes}
use Rattle.route_derivation.specs.declared.fault.Underived.{Underived}
use Rattle.route_derivation.specs.declared.fault.Underived.TheVariants.{TooMany, NoName, OutOfMemory}

abbrev pub message : Underived → List ℕ
message TooMany = codes "more than 64 routes"
message NoName = codes "no name for a route"
message OutOfMemory = codes "out of memory"
