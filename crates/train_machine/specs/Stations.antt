-- Three small stations, on which runs are computed.
use Rattle.std.specs.Prelude.{ℕ, zero, suc, Bool, true, false, List, [], ◌∷◌, ◌||◌, Some, None}
use Rattle.train_machine.specs.Lists.{is_same}
use Rattle.train_machine.specs.Track.{Left, Right, Track}

-- one of a list by its number, or else what stands for all others
abbrev pub numbered : {A : Type 0} → List A → A → ℕ → A
numbered [] other n = other
numbered (first ∷ later) other zero = first
numbered (first ∷ later) other (suc n) = numbered later other n

abbrev pub is_of : List ℕ → ℕ → Bool
is_of [] n = false
is_of (first ∷ later) n = is_same first n || is_of later n

-- A line of three sections, each one track: 0, 1 and 2, from border 0 to border 1. Place 2s leads up, 2s + 1 down. Each
-- of signals 0 to 3 stands between two sections, the even ones for trains up; route n leads from signal n over one section.
abbrev pub line : Track
line = record {
  section = numbered (0 ∷ 0 ∷ 1 ∷ 1 ∷ 2 ∷ 2 ∷ []) 9;
  point = λ place. None;
  leg = λ place. Left;
  is_facing = λ place. false;
  own = λ point. 9;
  follows = λ place. is_of (numbered ((2 ∷ []) ∷ [] ∷ (4 ∷ []) ∷ (1 ∷ []) ∷ [] ∷ (3 ∷ []) ∷ []) [] place);
  turned = numbered (1 ∷ 0 ∷ 3 ∷ 2 ∷ 5 ∷ 4 ∷ []) 9;
  signal = numbered (Some 0 ∷ None ∷ Some 2 ∷ Some 1 ∷ None ∷ Some 3 ∷ []) None;
  entry = numbered (0 ∷ 1 ∷ 2 ∷ 3 ∷ []) 9;
  first = numbered (2 ∷ 1 ∷ 4 ∷ 3 ∷ []) 9;
  later = λ route. [];
  throat = numbered ((0 ∷ []) ∷ (5 ∷ []) ∷ []) [];
}

-- A point between three tracks. Section 0 is the track at its tip (place 0 leads to the point, place 1 to border 0), section
-- 1 is the point, section 2 the track at its left leg (place 6 to border 1, place 7 to the point), section 3 that at its right
-- leg (place 8 to border 2, place 9 to the point). Over the point lead the places 2 and 4 from the tip to the right and the
-- left, and 3 and 5 back. Signals 0, 1 and 2 stand before the point on the three tracks. Route 0 leads right, route 1 left, and
-- routes 2 and 3 come from the left and the right.
abbrev pub small : Track
small = record {
  section = numbered (0 ∷ 0 ∷ 1 ∷ 1 ∷ 1 ∷ 1 ∷ 2 ∷ 2 ∷ 3 ∷ 3 ∷ []) 9;
  point = numbered (None ∷ None ∷ Some 0 ∷ Some 0 ∷ Some 0 ∷ Some 0 ∷ []) None;
  leg = numbered (Left ∷ Left ∷ Right ∷ Right ∷ []) Left;
  is_facing = numbered (false ∷ false ∷ true ∷ false ∷ true ∷ []) false;
  own = λ point. 1;
  follows = λ place. is_of (numbered ((2 ∷ 4 ∷ []) ∷ [] ∷ (8 ∷ []) ∷ (1 ∷ []) ∷ (6 ∷ []) ∷ (1 ∷ []) ∷ [] ∷ (5 ∷ []) ∷ [] ∷ (3 ∷ []) ∷ []) [] place);
  turned = numbered (1 ∷ 0 ∷ 3 ∷ 2 ∷ 5 ∷ 4 ∷ 7 ∷ 6 ∷ 9 ∷ 8 ∷ []) 99;
  signal = numbered (Some 0 ∷ None ∷ None ∷ None ∷ None ∷ None ∷ None ∷ Some 1 ∷ None ∷ Some 2 ∷ []) None;
  entry = numbered (0 ∷ 0 ∷ 1 ∷ 2 ∷ []) 9;
  first = numbered (2 ∷ 4 ∷ 5 ∷ 3 ∷ []) 99;
  later = numbered ((8 ∷ []) ∷ (6 ∷ []) ∷ (1 ∷ []) ∷ (1 ∷ []) ∷ []) [];
  throat = numbered ((0 ∷ []) ∷ (7 ∷ []) ∷ (9 ∷ []) ∷ []) [];
}

-- Two borders whose throats share section 1: that of border 0 has place 0 of section 0 and place 2 of section 1, that of
-- border 1 place 4 of section 1. Route 0 leads from signal 0 over section 2 (place 6), route 1 from signal 2 there back over
-- section 1 (place 3), up to signal 3.
abbrev pub joined : Track
joined = record {
  section = numbered (0 ∷ 0 ∷ 1 ∷ 1 ∷ 1 ∷ 1 ∷ 2 ∷ 2 ∷ []) 9;
  point = λ place. None;
  leg = λ place. Left;
  is_facing = λ place. false;
  own = λ point. 9;
  follows = λ place. is_of (numbered ((2 ∷ []) ∷ [] ∷ (6 ∷ []) ∷ (1 ∷ []) ∷ [] ∷ [] ∷ [] ∷ (3 ∷ []) ∷ []) [] place);
  turned = numbered (1 ∷ 0 ∷ 3 ∷ 2 ∷ 5 ∷ 4 ∷ 7 ∷ 6 ∷ []) 9;
  signal = numbered (None ∷ None ∷ Some 0 ∷ Some 3 ∷ Some 1 ∷ None ∷ None ∷ Some 2 ∷ []) None;
  entry = numbered (0 ∷ 2 ∷ []) 9;
  first = numbered (6 ∷ 3 ∷ []) 9;
  later = λ route. [];
  throat = numbered ((0 ∷ 2 ∷ []) ∷ (4 ∷ []) ∷ []) [];
}
