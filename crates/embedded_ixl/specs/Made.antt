-- How an interlocking is made of a text, and why it isn't.
use Rattle.std.specs.Prelude.{◌≡◌, ℕ, List, Ok}
use Rattle.ixl_state.specs.control_table.Faults as tables
use Rattle.ixl_state.specs.control_table.Table.{Sound}
use Rattle.ixl_state.specs.control_table.declared.fault.TableFault.{TableFault}
use Rattle.ixl_state.specs.control_table.declared.fault.TableFault.TheVariants as table_faults
use Rattle.ixl_state.specs.ixl_table.Table.{IsTableOf, SitedTable}
use Rattle.ixl_state.specs.layout.Entries.{Site}
use Rattle.ixl_state.specs.layout.Faults as layouts
use Rattle.ixl_state.specs.layout.NamesResolved.{layout_in}
use Rattle.layout_text.specs.declared.fault.LayoutFault.{LayoutFault}
use Rattle.layout_text.specs.declared.fault.LayoutFault.TheVariants as layout_faults
use Rattle.embedded_ixl.specs.Embedded.{EmbeddedIxlState, new_state, started}
use Rattle.embedded_ixl.specs.declared.start_fault.StartFault.{StartFault}
use Rattle.embedded_ixl.specs.declared.start_fault.StartFault.TheVariants.{Layout, Table, OutOfMemory}

-- It was made at a reading of its clock, of the layout of this text and of the control table of that, which is sound. It numbers its
-- PDUs from `first` on.
pub record IsMadeOf (text : List ℕ) (first now : ℕ) (it : EmbeddedIxlState) : Type 0 where
  pub sited : SitedTable
  pub layout : layout_in text ≡ Ok sited.site
  pub sound : Sound sited.site
  pub table : IsTableOf sited.site sited.table
  pub state : it ≡ started (new_state sited first now) now

-- a fault of the text, and one of its table
abbrev pub fault_of_text : LayoutFault → StartFault
fault_of_text layout_faults.OutOfMemory = OutOfMemory
fault_of_text fault = Layout fault

abbrev pub fault_of_table : TableFault → StartFault
fault_of_table table_faults.OutOfMemory = OutOfMemory
fault_of_table fault = Table fault

-- Why there is none: the text isn't a layout, or has a table that isn't sound; or memory was refused.
abbrev pub Explains : List ℕ → StartFault → Type 0
Explains text (Layout fault) = layouts.IsFirstFault text fault
Explains text (Table fault) = (site : Site) × (layout_in text ≡ Ok site) × tables.IsFirstFault site fault
Explains text OutOfMemory = Unit {0}
