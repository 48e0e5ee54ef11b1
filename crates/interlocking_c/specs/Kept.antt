-- What a handle holds, and a handle after a call of it.
use Rattle.std.specs.Prelude.{Option, Some, None}
use Rattle.embedded_ixl.specs.Embedded.{EmbeddedIxlState}
use Rattle.interlocking_c.specs.declared.held.Held.{Held}

-- before its start it holds none
abbrev pub held_interlocking : Option Held → Option EmbeddedIxlState
held_interlocking None = None
held_interlocking (Some held) = Some held.embedded

abbrev pub held_after : (EmbeddedIxlState → EmbeddedIxlState) → Option Held → Option Held
held_after change None = None
held_after change (Some held) = Some (record held { embedded = change held.embedded })
