-- Rules with one of them changed, each with a run that breaks a promise: every rule is needed.
use Rattle.std.specs.Prelude.{Bool, true, false, not, ◌&&◌, if◌then◌else◌, Option, Some, None, List, [], ◌∷◌, ◌++◌, map}
use Rattle.line_laws.specs.declared.words.Side.{Side}
use Rattle.line_laws.specs.declared.words.Side.TheVariants.{First, Second}
use Rattle.line_laws.specs.declared.words.Position.{Position}
use Rattle.line_laws.specs.declared.words.Item.{Item}
use Rattle.line_laws.specs.declared.words.Item.TheVariants.{Ask, Give, Query, Clear, NoToken}
use Rattle.line_laws.specs.End.{End, Seen, made_anew, unlinked}
use Rattle.line_laws.specs.Step.{StepSoFar, begun, is_first, is_driven_right, spoiled, lock_moved, noticed, taken, made_again, introduced, may_give, without_token, token_given, token_asked, partner_queried, query_answered}
use Rattle.line_laws.specs.Line.{Line, Move, Leaves, Looks, Whole, Cut, Rules, right_rules, Writes, Gives, node}
use Rattle.line_laws.specs.Run.{run, begins}
use Rattle.line_laws.specs.Promise.{HasToken, IsLocked, TellsClear, WasClear}
use Rattle.line_laws.specs.Runs.{free, occupied, wishing, locking, looks, connects, asked_for, told_clear}

-- ---- what is broken

abbrev pub wrong_line : Rules → List Move → Line
wrong_line rules moves = run rules moves (begins false false)

-- both ends have the token
abbrev pub EndsWithTwoTokens : Rules → List Move → Type 0
EndsWithTwoTokens rules moves = HasToken (wrong_line rules moves).first × HasToken (wrong_line rules moves).second

-- both locks lie at the right
abbrev pub EndsWithTwoLocked : Rules → List Move → Type 0
EndsWithTwoLocked rules moves = IsLocked (wrong_line rules moves).first × IsLocked (wrong_line rules moves).second

-- an end tells its station clear, and the line wasn't
abbrev pub TellsFalsely : Rules → Side → List Move → Type 0
TellsFalsely rules side moves = TellsClear (node side (wrong_line rules moves)) × (WasClear rules side (begins false false) moves → ⊥)

-- ---- the parts of a step

pub record Parts : Type 0 where
  pub lock_moved : Seen → End → End
  pub noticed : Seen → End → End
  pub taken : Seen → Item → End → End
  pub made_again : Side → End → End
  pub introduced : Side → StepSoFar → StepSoFar
  pub token_given : Seen → StepSoFar → StepSoFar
  pub query_answered : Seen → StepSoFar → StepSoFar

abbrev pub right_parts : Parts
right_parts = record {
  lock_moved = lock_moved;
  noticed = noticed;
  taken = taken;
  made_again = made_again;
  introduced = introduced;
  token_given = token_given;
  query_answered = query_answered;
}

abbrev pub all_taken_by : Parts → Seen → List Item → End → End
all_taken_by parts seen [] end = end
all_taken_by parts seen (item ∷ items) end = all_taken_by parts seen items (parts.taken seen item end)

abbrev pub linked_step_by : Parts → Side → Seen → List Item → End → StepSoFar
linked_step_by parts side seen items end =
    parts.query_answered seen
    (partner_queried seen (token_asked seen (parts.token_given seen (parts.introduced side (begun (parts.made_again side (all_taken_by parts seen items end)))))))

abbrev pub step_by : Parts → Side → Bool → Seen → List Item → End → StepSoFar
step_by parts side up seen items end =
    let before = parts.noticed seen (parts.lock_moved seen end)
    in let so_far = if up then linked_step_by parts side seen items before else begun (unlinked before)
    in record so_far { end = parts.lock_moved seen so_far.end }

abbrev pub rules_by : Parts → Rules
rules_by parts = record right_rules { step = step_by parts }

-- ---- the token is kept when it is given

abbrev pub given_leaving : (Seen → End → Bool) → (End → End) → Seen → StepSoFar → StepSoFar
given_leaving may leave seen so_far = if may seen so_far.end then record { end = leave so_far.end; given = so_far.given ++ Give ∷ [] } else so_far

abbrev pub keeps_token : Rules
keeps_token = rules_by (record right_parts { token_given = given_leaving may_give (λ end. record (without_token end) { token = true }) })

abbrev pub token_kept : List Move
token_kept = asked_for ++ looks First free ∷ looks Second free ∷ []

-- ---- a token is made again, though nothing was told

abbrev pub made_untold : Side → End → End
made_untold side end = if is_first side && not end.token then record end { token = true; none_told = false } else end

abbrev pub makes_untold : Rules
makes_untold = rules_by (record right_parts { made_again = made_untold })

abbrev pub token_made_untold : List Move
token_made_untold = asked_for ++ looks First free ∷ looks First free ∷ looks Second free ∷ []

-- ---- what was told is kept when the token is given

abbrev pub keeps_told : Rules
keeps_told = rules_by (record right_parts { token_given = given_leaving may_give (λ end. record (without_token end) { none_told = end.none_told }) })

-- ---- the second says that it has no token, though it has

abbrev pub introduced_always : Side → StepSoFar → StepSoFar
introduced_always side so_far =
    if not (is_first side) && not so_far.end.none_said then record { end = record so_far.end { none_said = true }; given = so_far.given ++ NoToken ∷ [] } else so_far

abbrev pub says_none_always : Rules
says_none_always = rules_by (record right_parts { introduced = introduced_always })

-- the first gives the token and leaves; the second takes it and leaves; in a new connection it says that it has none
abbrev pub none_said_falsely : List Move
none_said_falsely =
    asked_for ++ (looks First free ∷ Leaves First ∷ looks Second free ∷ Leaves Second ∷ connects ++ looks Second free ∷ looks First free ∷ [])

-- ---- the file is written last

abbrev pub writes_last : Rules
writes_last = record right_rules { effects = λ file items. map Gives items ++ Writes file ∷ [] }

-- the first gives the token, and is down before its file is written
abbrev pub given_unwritten : List Move
given_unwritten = asked_for ++ Looks First free 9 (Cut 1) ∷ looks Second free ∷ []

-- ---- the token is given though the lock lies at the right

abbrev pub may_give_locked : Seen → End → Bool
may_give_locked seen end = end.token && end.asked && not (is_driven_right seen.drive)

abbrev pub gives_locked : Rules
gives_locked = rules_by (record right_parts { token_given = given_leaving may_give_locked without_token })

abbrev pub given_locked : List Move
given_locked = looks First locking ∷ asked_for ++ looks First free ∷ looks Second locking ∷ []

-- ---- the token isn't kept over a restart

abbrev pub forgets_token : Rules
forgets_token = record right_rules { made_anew = λ file end. record (made_anew file) { token = false } }

-- the second has it and locks, and is made anew; the first is told that it has none
abbrev pub token_forgotten : List Move
token_forgotten =
    asked_for ++ (looks First free ∷ looks Second locking ∷ Looks Second free 0 (Cut 0) ∷ Leaves First ∷ connects ++ looks Second free ∷ looks First locking ∷ [])

-- ---- the lock comes to lie at the right without the token

abbrev pub lock_after_drive : Option Position → Position → Position
lock_after_drive None lock = lock
lock_after_drive (Some position) lock = position

abbrev pub locks_without_token : Rules
locks_without_token = rules_by (record right_parts { lock_moved = λ seen end. record end { lock = lock_after_drive seen.drive end.lock } })

abbrev pub locked_without_token : List Move
locked_without_token = looks First locking ∷ looks Second locking ∷ []

-- ---- a query is answered while a contact is occupied

abbrev pub answered_busy : Seen → StepSoFar → StepSoFar
answered_busy seen so_far =
    if so_far.end.queried then record { end = record so_far.end { queried = false }; given = so_far.given ++ Clear ∷ [] } else so_far

abbrev pub answers_busy : Rules
answers_busy = rules_by (record right_parts { query_answered = answered_busy })

-- both parts are occupied, the first becomes clear, and queries
abbrev pub queried_busy : List Move
queried_busy = looks First occupied ∷ looks Second occupied ∷ looks First free ∷ connects ++ looks First free ∷ looks Second occupied ∷ looks First free ∷ []

-- ---- the own contacts don't spoil a query

abbrev pub noticed_unspoiled : Seen → End → End
noticed_unspoiled seen end = if seen.busy then record end { empty = false } else end

abbrev pub unspoiled_by_contacts : Rules
unspoiled_by_contacts = rules_by (record right_parts { noticed = noticed_unspoiled })

-- the first queries, and a train comes onto its part; the second answers, and the train comes onto its part
abbrev pub passed_between : List Move
passed_between = connects ++ looks First free ∷ looks First occupied ∷ looks Second free ∷ looks Second occupied ∷ looks First free ∷ []

-- ---- giving the token doesn't spoil a query

abbrev pub unspoiled_by_give : Rules
unspoiled_by_give = rules_by (record right_parts { token_given = given_leaving may_give (λ end. record (without_token end) { query = end.query }) })

-- the first queries, gives the token and asks for it; the second gives it back and answers, and then its part is occupied
abbrev pub given_between : List Move
given_between =
    connects ++ looks First free ∷ Looks Second wishing 0 Whole ∷ looks First wishing ∷ looks Second free ∷ looks Second occupied ∷ looks First free ∷ []

-- ---- what was known is kept while a contact is occupied

abbrev pub noticed_empty : Seen → End → End
noticed_empty seen end = if seen.busy then record end { query = spoiled end.query } else end

abbrev pub keeps_empty_busy : Rules
keeps_empty_busy = rules_by (record right_parts { noticed = noticed_empty })

abbrev pub known_busy : List Move
known_busy = told_clear ++ looks First occupied ∷ looks Second occupied ∷ looks First free ∷ []

-- ---- over a Give

abbrev pub keeps_empty_given : Rules
keeps_empty_given = rules_by (record right_parts { token_given = given_leaving may_give (λ end. record (without_token end) { empty = end.empty }) })

abbrev pub known_given : List Move
known_given = told_clear ++ looks Second wishing ∷ looks First free ∷ []

-- ---- it is taken over with the token

abbrev pub taken_empty : Seen → Item → End → End
taken_empty seen Ask end = taken seen Ask end
taken_empty seen Give end = record (taken seen Give end) { empty = true }
taken_empty seen Query end = taken seen Query end
taken_empty seen Clear end = taken seen Clear end
taken_empty seen NoToken end = taken seen NoToken end

abbrev pub takes_empty_with_give : Rules
takes_empty_with_give = rules_by (record right_parts { taken = taken_empty })

abbrev pub known_by_give : List Move
known_by_give = looks First occupied ∷ looks Second occupied ∷ looks Second free ∷ connects ++ looks Second wishing ∷ looks First occupied ∷ looks Second free ∷ []

-- ---- it is kept over a restart

abbrev pub keeps_empty_restarted : Rules
keeps_empty_restarted = record right_rules { made_anew = λ file end. record (made_anew file) { empty = end.empty } }

-- the first is down while a train comes onto its part, and from there onto the other's
abbrev pub known_restarted : List Move
known_restarted = told_clear ++ Looks First occupied 0 (Cut 0) ∷ looks Second occupied ∷ looks First free ∷ []
