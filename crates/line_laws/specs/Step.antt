-- A step of an end: its rules, in their order.
use Rattle.std.specs.Prelude.{Bool, true, false, not, ◌&&◌, ◌||◌, if◌then◌else◌, Option, Some, None, List, [], ◌∷◌, ◌++◌}
use Rattle.line_laws.specs.declared.words.Side.{Side}
use Rattle.line_laws.specs.declared.words.Side.TheVariants.{First, Second}
use Rattle.line_laws.specs.declared.words.Position.{Position}
use Rattle.line_laws.specs.declared.words.Position.TheVariants.{Left, Right}
use Rattle.line_laws.specs.declared.words.Item.{Item}
use Rattle.line_laws.specs.declared.words.Item.TheVariants.{Ask, Give, Query, Clear, NoToken}
use Rattle.line_laws.specs.declared.words.QueryOut.{QueryOut}
use Rattle.line_laws.specs.declared.words.QueryOut.TheVariants.{No, Sound, Spoiled}
use Rattle.line_laws.specs.End.{End, Seen, unlinked}

-- What a step has done up to a part of it: the end, and the items that it gives to its link, oldest first.
pub record StepSoFar : Type 0 where
  pub end : End
  pub given : List Item

abbrev pub begun : End → StepSoFar
begun end = record { end = end; given = [] }

-- ---- words of the rules

abbrev pub is_first : Side → Bool
is_first First = true
is_first Second = false

abbrev pub is_right : Position → Bool
is_right Left = false
is_right Right = true

abbrev pub is_driven_right : Option Position → Bool
is_driven_right None = false
is_driven_right (Some position) = is_right position

abbrev pub is_no : QueryOut → Bool
is_no No = true
is_no Sound = false
is_no Spoiled = false

abbrev pub is_sound : QueryOut → Bool
is_sound No = false
is_sound Sound = true
is_sound Spoiled = false

-- a sound query becomes spoiled
abbrev pub spoiled : QueryOut → QueryOut
spoiled No = No
spoiled Sound = Spoiled
spoiled Spoiled = Spoiled

-- ---- the rules

-- The lock comes to lie at the left where it is driven there, and at the right where it is driven there and the token
-- is here.
abbrev pub lock_after : Option Position → Bool → Position → Position
lock_after None token lock = lock
lock_after (Some Left) token lock = Left
lock_after (Some Right) token lock = if token then Right else lock

abbrev pub lock_moved : Seen → End → End
lock_moved seen end = record end { lock = lock_after seen.drive end.token end.lock }

-- An occupied contact ends what was known, and spoils a query.
abbrev pub noticed : Seen → End → End
noticed seen end = if seen.busy then record end { empty = false; query = spoiled end.query } else end

-- The next item is taken.
abbrev pub taken : Seen → Item → End → End
taken seen Ask end = record end { asked = true }
taken seen Give end = record end { token = true; asking = false; empty = false }
taken seen Query end = record end { queried = true }
taken seen Clear end = record end { empty = (if is_sound end.query && not seen.busy && end.token then true else end.empty); query = No }
taken seen NoToken end = record end { none_told = true }

abbrev pub all_taken : Seen → List Item → End → End
all_taken seen [] end = end
all_taken seen (item ∷ items) end = all_taken seen items (taken seen item end)

-- The first end makes a lost token again, when it was told that the second has none.
abbrev pub made_again : Side → End → End
made_again side end = if is_first side && not end.token && end.none_told then record end { token = true; none_told = false } else end

-- The second end says once in a connection, before all else, whether it has no token.
abbrev pub introduced : Side → StepSoFar → StepSoFar
introduced side so_far =
    if not (is_first side) && not so_far.end.none_said
    then record { end = record so_far.end { none_said = true }; given = (if so_far.end.token then so_far.given else so_far.given ++ NoToken ∷ []) }
    else so_far

-- The token may be given away: it is asked for, and the lock isn't at the right and isn't driven there.
abbrev pub may_give : Seen → End → Bool
may_give seen end = end.token && end.asked && not (is_right end.lock) && not (is_driven_right seen.drive)

abbrev pub without_token : End → End
without_token end = record end { token = false; none_told = false; query = spoiled end.query; empty = false; asked = false }

abbrev pub token_given : Seen → StepSoFar → StepSoFar
token_given seen so_far =
    if may_give seen so_far.end then record { end = without_token so_far.end; given = so_far.given ++ Give ∷ [] } else so_far

-- The token is asked for where the operator wishes it or the lock is driven right.
abbrev pub may_ask : Seen → End → Bool
may_ask seen end = not end.token && not end.asking && (seen.wish || is_driven_right seen.drive)

abbrev pub token_asked : Seen → StepSoFar → StepSoFar
token_asked seen so_far =
    if may_ask seen so_far.end then record { end = record so_far.end { asking = true }; given = so_far.given ++ Ask ∷ [] } else so_far

-- The partner is queried where that may tell that the line is empty.
abbrev pub may_query : Seen → End → Bool
may_query seen end = end.token && not seen.busy && not end.empty && is_no end.query

abbrev pub partner_queried : Seen → StepSoFar → StepSoFar
partner_queried seen so_far =
    if may_query seen so_far.end then record { end = record so_far.end { query = Sound }; given = so_far.given ++ Query ∷ [] } else so_far

-- A query is answered where the own part is clear.
abbrev pub may_answer : Seen → End → Bool
may_answer seen end = end.queried && not seen.busy

abbrev pub query_answered : Seen → StepSoFar → StepSoFar
query_answered seen so_far =
    if may_answer seen so_far.end then record { end = record so_far.end { queried = false }; given = so_far.given ++ Clear ∷ [] } else so_far

-- ---- the step

-- in a connection, where these items come
abbrev pub linked_step : Side → Seen → List Item → End → StepSoFar
linked_step side seen items end =
    query_answered seen (partner_queried seen (token_asked seen (token_given seen (introduced side (begun (made_again side (all_taken seen items end)))))))

-- in a connection or out of any
abbrev pub step_between : Side → Bool → Seen → List Item → End → StepSoFar
step_between side up seen items end = if up then linked_step side seen items end else begun (unlinked end)

-- A step of an end whose link is up or isn't. The lock is looked at first and last.
abbrev pub step : Side → Bool → Seen → List Item → End → StepSoFar
step side up seen items end =
    let so_far = step_between side up seen items (noticed seen (lock_moved seen end))
    in record so_far { end = lock_moved seen so_far.end }
