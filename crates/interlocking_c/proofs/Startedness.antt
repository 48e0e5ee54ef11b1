-- What a handle's number tells of what it holds.
use Rattle.std.proofs.Common.{◌≡◌, true, false, Option, Some, None, refl}
use Rattle.interlocking_c.specs.declared.held.Held.{Held}
use Rattle.interlocking_c.specs.Owned.{is_started}

pub held_in : (m : Option Held) → is_started m ≡ true → (x : Held) × (m ≡ Some x)
held_in None e = cc
held_in (Some x) e = (x, refl)

pub none_in : (m : Option Held) → is_started m ≡ false → m ≡ None
none_in None e = refl
none_in (Some x) e = cc
