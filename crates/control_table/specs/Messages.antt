-- What is printed for a fault: its number and name, and the name of the faulty route.
use Rattle.std.specs.Prelude.{ℕ, List, ◌++◌, codes}
use Rattle.control_table.specs.declared.fault.FaultyRoute.{FaultyRoute}
use Rattle.control_table.specs.declared.fault.TableFault.{TableFault}
use Rattle.control_table.specs.declared.fault.TableFault.TheVariants.{PathBroken, PathRepeats, PointMissing, PointWrong, FlankMissing, FlankOpen, FlankContradicts, SignalPlace, NotSymmetric, OutOfMemory}

abbrev pub route_text : FaultyRoute → List ℕ
route_text route = codes "route " ++ route.name

abbrev pub fault_text : TableFault → List ℕ
fault_text (PathBroken route) = codes "1 PathBroken at " ++ route_text route
fault_text (PathRepeats route) = codes "2 PathRepeats at " ++ route_text route
fault_text (PointMissing route) = codes "3 PointMissing at " ++ route_text route
fault_text (PointWrong route) = codes "4 PointWrong at " ++ route_text route
fault_text (FlankMissing route) = codes "5 FlankMissing at " ++ route_text route
fault_text (FlankOpen route) = codes "6 FlankOpen at " ++ route_text route
fault_text (FlankContradicts route) = codes "7 FlankContradicts at " ++ route_text route
fault_text (SignalPlace route) = codes "8 SignalPlace at " ++ route_text route
fault_text (NotSymmetric route) = codes "9 NotSymmetric at " ++ route_text route
fault_text OutOfMemory = codes "10 OutOfMemory"
