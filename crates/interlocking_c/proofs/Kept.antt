-- What a handle holds, as its interlocking.
use Rattle.std.proofs.Common.{◌≡◌, Option, Some, None}
use Rattle.embedded_ixl.specs.Embedded.{EmbeddedIxlState}
use Rattle.interlocking_c.specs.Kept.{held_interlocking}
use Rattle.interlocking_c.specs.declared.held.Held.{Held}

pub is_held : (m : Option Held) (x : Held) (it : EmbeddedIxlState) → m ≡ Some x → held_interlocking m ≡ Some it → x.embedded ≡ it
is_held None x it e there = cc
is_held (Some y) x it e there = cc
