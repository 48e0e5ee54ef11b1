-- Where routes are put into a text.
use Rattle.std.specs.Prelude.{◌==◌, ◌||◌, ◌-◌, ◌<◌, ◌≤◌, ℕ, Bool, false, List, [], codes, drop, length, slice_get, Option, Some, None, IsTrue, if◌then◌else◌}
use Rattle.std.specs.List.{starts_with}
use Rattle.table_review.specs.declared.block.Form.{Form}
use Rattle.table_review.specs.declared.block.Form.TheVariants as form
use Rattle.table_review.specs.declared.places.Spot.{Spot}
use Rattle.table_review.specs.declared.places.Spot.TheVariants as spot

abbrev pub is_byte : ℕ → Option ℕ → Bool
is_byte b None = false
is_byte b (Some a) = a == b

-- a byte stands at a place
abbrev pub has_byte : List ℕ → ℕ → ℕ → Bool
has_byte text n b = is_byte b (slice_get text n)

-- a space or a tab
abbrev pub has_blank : List ℕ → ℕ → Bool
has_blank text n = has_byte text n 32 || has_byte text n 9

-- only blanks stand from one place to another
abbrev pub AreBlanks : List ℕ → ℕ → ℕ → Type 0
AreBlanks text from to = (n : ℕ) → from ≤ n → n < to → IsTrue (has_blank text n)

-- a line begins at the first place, and behind each line end
abbrev pub begins_line : List ℕ → ℕ → Bool
begins_line text n = (n == 0) || has_byte text (n - 1) 10

abbrev pub is_drawing : List ℕ → Bool
is_drawing line = starts_with (λ a b. a == b) line (codes "[drawing]")

-- Blocks stand at the end of a text, or before the line with the table `drawing`. Items stand before a bracket, or, where
-- only blanks stand before that in its line, before the line.
abbrev pub IsSpot : List ℕ → Spot → Type 0
IsSpot text spot.End = Unit {0}
IsSpot text (spot.Drawing n) = IsTrue (begins_line text n) × IsTrue (is_drawing (drop n text))
IsSpot text (spot.Line n b c) = IsTrue (begins_line text n) × AreBlanks text n b × IsTrue (has_byte text b 93)
IsSpot text (spot.Bracket n c) = IsTrue (has_byte text n 93)

abbrev pub place_of : List ℕ → Spot → ℕ
place_of text spot.End = length text
place_of text (spot.Drawing n) = n
place_of text (spot.Line n b c) = n
place_of text (spot.Bracket n c) = n

abbrev pub form_at : Spot → Form
form_at spot.End = form.Block
form_at (spot.Drawing n) = form.Block
form_at (spot.Line n b c) = form.Item
form_at (spot.Bracket n c) = form.Item

-- blocks begin in a line of their own, and items behind a comma where one is needed
abbrev pub before_routes : List ℕ → Spot → List ℕ
before_routes text spot.End = if begins_line text (length text) then [] else codes "\n"
before_routes text (spot.Drawing n) = []
before_routes text (spot.Line n b c) = if c then codes "  ,\n" else []
before_routes text (spot.Bracket n c) = if c then codes ",\n" else codes "\n"

abbrev pub behind_routes : Spot → List ℕ
behind_routes spot.End = []
behind_routes (spot.Drawing n) = codes "\n"
behind_routes (spot.Line n b c) = []
behind_routes (spot.Bracket n c) = []
