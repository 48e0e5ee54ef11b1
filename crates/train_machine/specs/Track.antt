-- The track of a station, and its table of routes. All are numbers, of which any may be in use.
use Rattle.std.specs.Prelude.{◌≡◌, ◌≢◌, ◌⊎◌, ℕ, Bool, true, List, ◌∷◌, Option, Some, None}
use Rattle.train_machine.specs.Lists.{IsOf, IsNext, IsLast, IsEnd}

-- the sides of a point
pub data Side : Type 0 where
  Left Right : Side

-- A place is an element of the track with the direction in which a train stands on it: the port to its rear and the port
-- to its front. A track has two places, a point four. A border has none. A border at whose own port a signal stands has a
-- throat of one track outside the station, before this signal; its section is in no route.
pub record Track : Type 0 where
  -- the section in which the element of a place lies
  pub section : (place : ℕ) → ℕ
  -- the point that the element is, if it is one; the leg by which a train lies on it there; and whether this train came
  -- over its tip
  pub point : (place : ℕ) → Option ℕ
  pub leg : (place : ℕ) → Side
  pub is_facing : (place : ℕ) → Bool
  -- the section in which a point lies
  pub own : (point : ℕ) → ℕ
  -- the front port of a place is joined to the rear port of the next
  pub follows : (place next : ℕ) → Bool
  -- the same element the other way round
  pub turned : (place : ℕ) → ℕ
  -- the signal that stands at the front port
  pub signal : (place : ℕ) → Option ℕ
  -- of a route: the signal at which it begins, the first place of its path, and the later ones
  pub entry : (route : ℕ) → ℕ
  pub first : (route : ℕ) → ℕ
  pub later : (route : ℕ) → List ℕ
  -- the places from a border up to the first signal that stands toward the station; none where trains can't come in
  pub throat : (border : ℕ) → List ℕ

abbrev pub path : Track → ℕ → List ℕ
path track route = track.first route ∷ track.later route

-- Two places follow the same one because a point lies between: it is entered by the tip, and left by either leg.
pub record IsFork (track : Track) (a b : ℕ) : Type 0 where
  pub point : ℕ
  pub over_a : track.point a ≡ Some point
  pub over_b : track.point b ≡ Some point
  pub facing : track.is_facing b ≡ true
  pub legs : track.leg a ≢ track.leg b

-- What the theorem needs of a track.
pub record IsSound (track : Track) : Type 0 where
  -- one port is joined to one other
  pub one_way : (place a b : ℕ) → track.follows place a ≡ true → track.follows place b ≡ true → (a ≡ b) ⊎ IsFork track a b
  -- a point lies in one section
  pub own : (place point : ℕ) → track.point place ≡ Some point → track.own point ≡ track.section place
  -- the other way round it is the same element, and the same leg
  pub turned_section : (place : ℕ) → track.section (track.turned place) ≡ track.section place
  pub turned_point : (place : ℕ) → track.point (track.turned place) ≡ track.point place
  pub turned_leg : (place : ℕ) → track.leg (track.turned place) ≡ track.leg place
  -- a path leads on from its signal, from place to place, without a signal between, up to the next signal or a border
  pub begins : (route place : ℕ) → track.signal place ≡ Some (track.entry route) → track.follows place (track.first route) ≡ true
  pub leads : (route a b : ℕ) → IsNext a b (path track route) → track.follows a b ≡ true
  pub between : (route a b : ℕ) → IsNext a b (path track route) → track.signal a ≡ None
  pub ends : (route place next : ℕ) → IsLast place (path track route) → track.signal place ≡ None → track.follows place next ≡ true → ⊥
  -- a path doesn't come again into a section that it has left
  pub once : (route place next again : ℕ) (after : List ℕ) → IsEnd place (next ∷ after) (path track route) → IsOf again after
      → track.section again ≡ track.section place → track.section next ≡ track.section place
  pub one_entrance : (route a b c d : ℕ) → IsNext a b (path track route) → IsNext c d (path track route) → track.section b ≡ track.section d
      → track.section a ≢ track.section b → track.section c ≢ track.section d → track.section a ≡ track.section c
  pub not_back : (route a b : ℕ) → IsNext a b (path track route) → track.section a ≢ track.section b → track.section b ≢ track.section (track.first route)
  -- routes from one signal begin in one section
  pub one_begin : (a b : ℕ) → track.entry a ≡ track.entry b → track.section (track.first a) ≡ track.section (track.first b)
  -- a throat leads from place to place, over tracks alone, without a signal between, up to a signal
  pub throat_leads : (border a b : ℕ) → IsNext a b (track.throat border) → track.follows a b ≡ true
  pub throat_ends : (border place : ℕ) → IsLast place (track.throat border) → track.signal place ≢ None
  pub throat_plain : (border place : ℕ) → IsOf place (track.throat border) → track.point place ≡ None
