-- Lines that were kept, before those that are left.
use Rattle.std.proofs.Common.{List, ◌++◌, Result, Ok, Err}
use Rattle.replay_lines.specs.declared.text.SessionFault.{SessionFault}

-- what was kept before more lines, or their fault
abbrev pub behind : {A : Type 0} → List A → Result (List A) SessionFault → Result (List A) SessionFault
behind kept (Ok more) = Ok (kept ++ more)
behind kept (Err fault) = Err fault
