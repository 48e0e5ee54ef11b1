-- What C is told of a layout's text.
use Rattle.std.specs.Prelude.{ℕ}
use Rattle.layout_text.specs.declared.fault.LayoutFault.{LayoutFault}
use Rattle.layout_text.specs.declared.fault.LayoutFault.TheVariants.{Toml, MissingKey, WrongKind, UnknownName, DoubleName, DoubleJoint, Limit, OutOfMemory}

-- the number of a fault
abbrev pub fault_number : LayoutFault → ℕ
fault_number Toml = 1
fault_number (MissingKey place) = 2
fault_number (WrongKind place) = 3
fault_number (UnknownName place) = 4
fault_number (DoubleName place) = 5
fault_number (DoubleJoint place) = 6
fault_number (Limit place) = 7
fault_number OutOfMemory = 8
