-- What lies at the memory of a handle: room for an interlocking, and an interlocking once it was started, which the handle's number tells.
use Rattle.std.specs.Prelude.{ℕ, Bool, true, false, Option, Some, None}
use Rattle.std.specs.Borrow.{Fml, full_share}
use Rattle.std.specs.Ptr.{lies_at, room_at}
use base.Fml.{fsep, feq}
use denote.RawPtr.{Ptr}
use Rattle.interlocking_c.specs.declared.held.Held.{Held}
use Rattle.interlocking_c.specs.contracts.held.Held.{the_row}

abbrev pub lies_or_room : ℕ → Ptr → Option Held → Fml
lies_or_room state p None = fsep (feq ℕ state 0) (room_at the_row p)
lies_or_room state p (Some x) = fsep (feq ℕ state 1) (lies_at the_row full_share p x)

abbrev pub is_started : Option Held → Bool
is_started None = false
is_started (Some x) = true
