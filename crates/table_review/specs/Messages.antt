-- What is printed where nothing is told of a table.
use Rattle.std.specs.Prelude.{ℕ, List, ◌++◌, codes}
use Rattle.std.specs.Fmt.{decimal}
use Rattle.layout_text.specs.Messages.{fault_text as layout_fault_text}
use Rattle.route_derivation.specs.Messages.{message as underived_text}
use Rattle.route_derivation.specs.control_table.Messages.{fault_text as table_fault_text}
use Rattle.table_review.specs.declared.fault.ReviewFault.{ReviewFault}
use Rattle.table_review.specs.declared.fault.ReviewFault.TheVariants as fault

abbrev pub message : ReviewFault → List ℕ
message (fault.Layout why) = codes "layout fault " ++ layout_fault_text why
message (fault.Table why) = codes "table fault " ++ table_fault_text why
message (fault.Signal place) = codes "signal fault 2 Name at " ++ decimal place
message (fault.Underived why) = codes "routes fault: " ++ underived_text why
message fault.NoPlace = codes "routes fault: no place for them in the text"
message fault.OutOfMemory = codes "out of memory"
