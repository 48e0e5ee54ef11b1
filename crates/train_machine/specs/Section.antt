-- A section, and what the interlocking was told of it.
use Rattle.std.specs.Prelude.{ℕ, Bool, true, false, if◌then◌else◌}

-- What the interlocking believes of a section. It is unknown while the link to its detector isn't ready.
pub data Belief : Type 0 where
  Unknown Occupied Clear : Belief

-- How much of the section's last occupation the interlocking was told of.
pub data Told : Type 0 where
  -- nothing, and it may still be told of earlier ones
  Late : Told
  -- nothing, but it was told that each earlier one is over
  Awaited : Told
  -- that it began
  Came : Told
  -- that it is over
  Gone : Told

pub record Section : Type 0 where
  pub belief : Belief
  pub told : Told
  -- the interlocking's reading when a train last came into it, and whether this train came from a border and had passed
  -- no signal yet
  pub entered : ℕ
  pub inlet : Bool
  -- the interlocking's reading when it was last told anything of the section while this wasn't believed clear: since then
  -- the section is believed clear, if it is
  pub since : ℕ

abbrev pub is_clear : Belief → Bool
is_clear Unknown = false
is_clear Occupied = false
is_clear Clear = true

abbrev pub is_occupied : Belief → Bool
is_occupied Unknown = false
is_occupied Occupied = true
is_occupied Clear = false

-- the interlocking wasn't told that the last occupation began
abbrev pub is_unheard : Told → Bool
is_unheard Late = true
is_unheard Awaited = true
is_unheard Came = false
is_unheard Gone = false

abbrev pub is_gone : Told → Bool
is_gone Late = false
is_gone Awaited = false
is_gone Came = false
is_gone Gone = true

-- what is told of a section into which a train comes
abbrev pub told_entered : Told → Told
told_entered told = if is_gone told then Awaited else Late

-- a train comes into a section at this reading
abbrev pub section_entered : (inlet : Bool) (clock : ℕ) → Section → Section
section_entered inlet clock section = record {
  belief = section.belief;
  told = told_entered section.told;
  entered = clock;
  inlet = inlet;
  since = section.since;
}

-- what the interlocking can be told of a section
pub data News : Type 0 where
  -- its link is lost, or not ready any more
  Lost : News
  -- what was sensed before a train last came into it
  Old : (belief : Belief) → News
  -- that it is occupied, sensed since then
  IsOccupied : News
  -- that it is clear, sensed since the last train left it
  IsLeft : News

abbrev pub belief_told : News → Belief
belief_told Lost = Unknown
belief_told (Old belief) = belief
belief_told IsOccupied = Occupied
belief_told IsLeft = Clear

abbrev pub told_after : Told → News → Told
told_after told Lost = told
told_after told (Old belief) = told
told_after told IsOccupied = Came
told_after told IsLeft = Gone

-- the section after such news, at this reading
abbrev pub section_told : (clock : ℕ) → News → Section → Section
section_told clock news section = record {
  belief = belief_told news;
  told = told_after section.told news;
  entered = section.entered;
  inlet = section.inlet;
  since = if is_clear section.belief then section.since else clock;
}
