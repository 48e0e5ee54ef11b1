-- What a handle ends as whose interlocking was lent.
use Rattle.std.specs.Prelude.{Some}
use Rattle.std.specs.Borrow.{Lends, MutBor, Fml}
use Rattle.interlocking_c.specs.declared.held.Held.{Held}
use Rattle.interlocking_c.specs.declared.handle.Handle.{Handle}
use Rattle.interlocking_c.specs.contracts.held.Held.{the_row as held_row}
use Rattle.interlocking_c.specs.contracts.handle.Handle.{the_row}

abbrev pub with_held : Handle → Held → Handle
with_held h x = record h { held = Some x }

abbrev pub LendsHeld : MutBor Handle → MutBor Held → Fml
LendsHeld s r = Lends the_row held_row s r (with_held s.now)
