-- The words by which lines name things.
use Rattle.std.specs.Prelude.{◌≡◌, ℕ, ◌==◌, ◌||◌, Bool, List, ◌∷◌, ◌++◌, length, Option, Some, None, option_and_then, slice_get, codes, if◌then◌else◌}
use Rattle.std.specs.Option.{option_map, option_map_or, option_or}
use Rattle.std.specs.List.{after_first, before_first, position, position_or_len}
use Rattle.std.specs.Str.{bytes_eq}
use Rattle.control_table.specs.layout.Entries.{Site}
use Rattle.control_table.specs.sci_telegram.Names.{is_name_byte}
use Rattle.control_table.specs.sci_telegram.declared.message.Side.{Side}
use Rattle.control_table.specs.sci_telegram.declared.message.Side.TheVariants as side
use Rattle.closings.specs.declared.thing.Thing.{Thing}
use Rattle.closings.specs.declared.thing.Thing.TheVariants.{Section, Point, Signal, Route}
use Rattle.closings.specs.declared.thing.Named.{Named}
use Rattle.closings.specs.declared.thing.Named.TheVariants.{One, BothSides}

-- The name of a thing, which is that of its entry in the layout.
abbrev pub thing_name : Site → Thing → Option (List ℕ)
thing_name l (Section s) = slice_get l.sections s.0
thing_name l (Point p side) = option_map (λ point. point.name) (slice_get l.points p.0)
thing_name l (Signal s) = option_map (λ signal. signal.name) (slice_get l.signals s.0)
thing_name l (Route r) = option_map (λ route. route.name) (slice_get l.routes r.0)

-- The name of what a command names.
abbrev pub name_of : Site → Named → Option (List ℕ)
name_of l (One t) = thing_name l t
name_of l (BothSides p) = option_map (λ point. point.name) (slice_get l.points p.0)

-- The side that a command gives.
abbrev pub thing_side : Thing → Option Side
thing_side (Point p side) = Some side
thing_side _ = None

abbrev pub side_of : Named → Option Side
side_of (One t) = thing_side t
side_of (BothSides p) = None

-- A name and perhaps a side say what a command names.
pub record Says (l : Site) (n : Named) (word : List ℕ) (side : Option Side) : Type 0 where
  pub name : name_of l n ≡ Some word
  pub at : side_of n ≡ side

-- The places of entries by their names.
abbrev pub section_place : Site → List ℕ → Option ℕ
section_place l word = position (λ name. bytes_eq name word) l.sections

abbrev pub point_place : Site → List ℕ → Option ℕ
point_place l word = position (λ p. bytes_eq p.name word) l.points

abbrev pub signal_place : Site → List ℕ → Option ℕ
signal_place l word = position (λ s. bytes_eq s.name word) l.signals

abbrev pub route_place : Site → List ℕ → Option ℕ
route_place l word = position (λ r. bytes_eq r.name word) l.routes

-- What a word without a side names: the section, the point at both sides, the signal or the route of this name.
abbrev pub whole_named : Site → List ℕ → Option Named
whole_named l word =
    option_or (option_map (λ k. One (Section (record { 0 = k }))) (section_place l word))
    (option_or (option_map (λ k. BothSides (record { 0 = k })) (point_place l word))
    (option_or (option_map (λ k. One (Signal (record { 0 = k }))) (signal_place l word))
    (option_map (λ k. One (Route (record { 0 = k }))) (route_place l word))))

-- What a name and perhaps a side name.
abbrev pub named : Site → List ℕ → Option Side → Option Named
named l word (Some side) = option_map (λ k. One (Point (record { 0 = k }) side)) (point_place l word)
named l word None = whole_named l word

-- The word for a side.
abbrev pub side_word : Side → List ℕ
side_word side.Left = codes "left"
side_word side.Right = codes "right"

-- The side that a word says.
abbrev pub side_said : List ℕ → Option Side
side_said word =
    if bytes_eq word (codes "left") then Some side.Left else
    if bytes_eq word (codes "right") then Some side.Right else
    None

-- Letters, digits, hyphens and spaces.
abbrev pub is_plain : ℕ → Bool
is_plain b = is_name_byte b || b == 32

-- The name as a word, or `_` where the layout lacks it.
abbrev pub name_word : Site → Named → List ℕ
name_word l n = option_map_or (λ name. name) (name_of l n) (codes "_")

-- A name, and behind a space the side where there is one.
abbrev pub with_side : List ℕ → Option Side → List ℕ
with_side word None = word
with_side word (Some side) = word ++ 32 ∷ side_word side

-- The words for what a command names.
abbrev pub words_of : Site → Named → List ℕ
words_of l n = with_side (name_word l n) (side_of n)

-- What words name: a word alone, or a name and a side that a space parts.
abbrev pub named_by : Site → List ℕ → Option Named
named_by l text =
    if position_or_len (λ b. b == 32) text == length text then named l text None
    else option_and_then (λ side. named l (before_first (λ b. b == 32) text) (Some side)) (side_said (after_first (λ b. b == 32) text))
