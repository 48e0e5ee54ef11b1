-- Why there is no interlocking of a text, as C is told.
use Rattle.std.specs.Prelude.{◌≡◌, ◌≢◌, ℕ, nat_lt, List, ◌++◌, codes, drop, length, take, if◌then◌else◌}
use Rattle.embedded_ixl.specs.Made.{Explains}
use Rattle.embedded_ixl.specs.declared.start_fault.StartFault.{StartFault}
use Rattle.embedded_ixl.specs.declared.start_fault.StartFault.TheVariants.{Layout, Table, OutOfMemory}
use Rattle.embedded_ixl.specs.ixl_state.control_table.Messages.{fault_text as table_fault_text}
use Rattle.layout_text.specs.Messages.{fault_text as layout_fault_text}

-- the line of a fault, as `station` tells it
abbrev pub fault_line : StartFault → List ℕ
fault_line (Layout fault) = codes "layout fault " ++ layout_fault_text fault
fault_line (Table fault) = codes "table fault " ++ table_fault_text fault
fault_line OutOfMemory = codes "out of memory"

-- how many bytes of a line are told: all, or as many as there is room for
abbrev pub told_count : List ℕ → List ℕ → ℕ
told_count line room = if nat_lt (length line) (length room) then length line else length room

-- The line of a fault stands at the front of the room, as far as there is room for it, and the rest of the room is as it was.
pub record IsTold (fault : StartFault) (old new : List ℕ) (count : ℕ) : Type 0 where
  pub count_is : count ≡ told_count (fault_line fault) old
  pub told : new ≡ take count (fault_line fault) ++ drop count old

-- It is the fault of a text that there is no interlocking of it, and not that memory was refused.
pub record IsOfText (text : List ℕ) (fault : StartFault) : Type 0 where
  pub explains : Explains text fault
  pub of_text : fault ≢ OutOfMemory
