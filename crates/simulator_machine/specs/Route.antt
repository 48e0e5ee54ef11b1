-- A route, as far as the promise depends on it.
use Rattle.std.specs.Prelude.{Bool, true, false}

-- how far a route is
pub data Phase : Type 0 where
  -- it isn't set
  Free : Phase
  -- it is set, and has had no authority since
  Waiting : Phase
  -- it has authority
  Authorised : Phase
  -- its authority has ended, and the route is still whole or partly freed
  Ended : (whole : Bool) → Phase

abbrev pub has_authority : Phase → Bool
has_authority Free = false
has_authority Waiting = false
has_authority Authorised = true
has_authority (Ended whole) = false

abbrev pub has_ended : Phase → Bool
has_ended Free = false
has_ended Waiting = false
has_ended Authorised = false
has_ended (Ended whole) = true

-- it is set and nothing of it is freed
abbrev pub is_whole : Phase → Bool
is_whole Free = false
is_whole Waiting = true
is_whole Authorised = true
is_whole (Ended whole) = whole
