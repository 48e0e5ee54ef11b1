-- Things of a station by their kinds and names, as C tells and is told.
use Rattle.std.specs.Prelude.{ℕ, zero, suc, nat_lt, List, length, Option, Some, None, if◌then◌else◌}
use Rattle.embedded_ixl.specs.Embedded.{EmbeddedIxlState}
use Rattle.embedded_ixl.specs.Places.{name_in, place_in}
use Rattle.embedded_ixl.specs.declared.places.Kind.{Kind}
use Rattle.embedded_ixl.specs.declared.places.Kind.TheVariants.{Signal, Point, Section, Route, Node}
use Rattle.interlocking_c.specs.declared.answers.TheConstants.{OK, NOT_STARTED, PLACE, ROOM, VALUE}

-- the kind of a number
abbrev pub kind_of : ℕ → Option Kind
kind_of zero = Some Signal
kind_of (suc zero) = Some Point
kind_of (suc (suc zero)) = Some Section
kind_of (suc (suc (suc zero))) = Some Route
kind_of (suc (suc (suc (suc zero)))) = Some Node
kind_of (suc (suc (suc (suc (suc more))))) = None

-- to the question how many there are of a kind
abbrev pub answer_to_count : Option Kind → Option EmbeddedIxlState → ℕ
answer_to_count kind None = NOT_STARTED
answer_to_count None (Some it) = VALUE
answer_to_count (Some kind) (Some it) = OK

-- to the question for the place of one by its name
abbrev pub answer_by_place : Option ℕ → ℕ
answer_by_place None = PLACE
answer_by_place (Some place) = OK

abbrev pub answer_to_place : Option Kind → List ℕ → EmbeddedIxlState → ℕ
answer_to_place None name it = VALUE
answer_to_place (Some kind) name it = answer_by_place (place_in it.interlocking.state.sited.site kind name)

abbrev pub answer_to_place_in : Option Kind → List ℕ → Option EmbeddedIxlState → ℕ
answer_to_place_in kind name None = NOT_STARTED
answer_to_place_in kind name (Some it) = answer_to_place kind name it

-- to the question for the name of one, with so much room for it
abbrev pub answer_by_name : ℕ → Option (List ℕ) → ℕ
answer_by_name room None = PLACE
answer_by_name room (Some name) = if nat_lt room (length name) then ROOM else OK

abbrev pub answer_to_name : ℕ → Option Kind → ℕ → EmbeddedIxlState → ℕ
answer_to_name room None place it = VALUE
answer_to_name room (Some kind) place it = answer_by_name room (name_in it.interlocking.state.sited.site kind place)

abbrev pub answer_to_name_in : ℕ → Option Kind → ℕ → Option EmbeddedIxlState → ℕ
answer_to_name_in room kind place None = NOT_STARTED
answer_to_name_in room kind place (Some it) = answer_to_name room kind place it
