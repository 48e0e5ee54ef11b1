-- How the fault of a line is told.
use Rattle.std.specs.Prelude.{ℕ, List, ◌++◌, codes, decimal}
use Rattle.node_drive.specs.replay_words.Fault.{number_of}
use Rattle.node_drive.specs.replay_words.declared.fault.Fault.{Fault}

abbrev pub complaint : ℕ → Fault → List ℕ
complaint line fault = codes "line " ++ (decimal line ++ (codes ": fault " ++ decimal (number_of fault)))
