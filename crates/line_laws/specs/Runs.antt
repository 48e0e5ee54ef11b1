-- Runs of a line: its token is handed over, both ask for it, its link is lost, and the token is.
use Rattle.std.specs.Prelude.{◌≡◌, true, false, Some, None, List, [], ◌∷◌, ◌++◌}
use Rattle.line_laws.specs.declared.words.Side.{Side}
use Rattle.line_laws.specs.declared.words.Side.TheVariants.{First, Second}
use Rattle.line_laws.specs.declared.words.Position.TheVariants.{Left, Right}
use Rattle.line_laws.specs.End.{Seen}
use Rattle.line_laws.specs.Line.{Line, Move, Opens, Enters, ComesUp, Leaves, Looks, Whole, Refused, Cut, right_rules}
use Rattle.line_laws.specs.Run.{run, begins}
use Rattle.line_laws.specs.Promise.{HasToken}

-- ---- what an end sees

-- nothing
abbrev pub free : Seen
free = record { busy = false; drive = None; wish = false }

-- a contact is occupied
abbrev pub occupied : Seen
occupied = record { busy = true; drive = None; wish = false }

-- its operator asks for the line
abbrev pub wishing : Seen
wishing = record { busy = false; drive = None; wish = true }

-- its lock is driven right, and left
abbrev pub locking : Seen
locking = record { busy = false; drive = Some Right; wish = false }

abbrev pub unlocking : Seen
unlocking = record { busy = false; drive = Some Left; wish = false }

-- ---- moves

-- an end looks, and takes all that comes
abbrev pub looks : Side → Seen → Move
looks side seen = Looks side seen 9 Whole

-- a connection begins and comes up
abbrev pub connects : List Move
connects = Opens ∷ Enters ∷ ComesUp First ∷ ComesUp Second ∷ []

-- the link is lost
abbrev pub disconnects : List Move
disconnects = Leaves First ∷ Leaves Second ∷ []

-- the line after these moves, where no contact was occupied as it began
abbrev pub line_after : List Move → Line
line_after moves = run right_rules moves (begins false false)

-- ---- where the token is

abbrev pub TokenAtFirst : Line → Type 0
TokenAtFirst line = HasToken line.first × (line.second.end.token ≡ false)

abbrev pub TokenAtSecond : Line → Type 0
TokenAtSecond line = (line.first.end.token ≡ false) × HasToken line.second

-- neither end has it, and it isn't on the way
pub record TokenIsLost (line : Line) : Type 0 where
  pub first : line.first.end.token ≡ false
  pub second : line.second.end.token ≡ false
  pub nothing_comes : line.first.coming ≡ []
  pub nothing_goes : line.second.coming ≡ []

-- ---- runs

-- The second end asks and is given the token. It queries, is told clear, and locks.
abbrev pub asked_for : List Move
asked_for = connects ++ looks Second wishing ∷ []

abbrev pub handed_over : List Move
handed_over = asked_for ++ looks First free ∷ looks Second free ∷ looks First free ∷ looks Second free ∷ looks Second locking ∷ []

-- Both ask: the first gives the token and asks for it back at once. The second, whose lock is driven right, keeps it
-- until its lock is driven left.
abbrev pub both_asked : List Move
both_asked = asked_for ++ looks First wishing ∷ looks Second locking ∷ []

abbrev pub given_back : List Move
given_back = both_asked ++ looks Second unlocking ∷ looks First free ∷ []

-- The link is lost while the second has the token: it keeps it over a new connection, and the first makes no other.
abbrev pub link_lost : List Move
link_lost = handed_over ++ (disconnects ++ (connects ++ looks Second free ∷ looks First free ∷ []))

-- The second is made anew: its file has the token, and its lock still lies at the right.
abbrev pub second_restarted : List Move
second_restarted = handed_over ++ Looks Second free 0 (Cut 0) ∷ []

-- The first writes its file, and is down before it gives the token; or the link refuses the Give.
abbrev pub given_unsent : List Move
given_unsent = asked_for ++ Looks First free 9 (Cut 1) ∷ Leaves Second ∷ []

abbrev pub give_refused : List Move
give_refused = asked_for ++ Looks First free 9 (Refused 0) ∷ Leaves Second ∷ []

-- the second leaves before it takes it
abbrev pub give_missed : List Move
give_missed = asked_for ++ looks First free ∷ Leaves Second ∷ Leaves First ∷ []

-- in the next connection the first is told that the second has none, and makes it again
abbrev pub made_again_after : List Move → List Move
made_again_after moves = moves ++ (connects ++ looks Second free ∷ looks First free ∷ [])

-- The line is occupied while the first has it: it is told clear again only when both parts are clear.
abbrev pub told_clear : List Move
told_clear = connects ++ looks First free ∷ looks Second free ∷ looks First free ∷ []

abbrev pub occupied_after : List Move
occupied_after = told_clear ++ looks First occupied ∷ []

abbrev pub occupied_there : List Move
occupied_there = occupied_after ++ looks Second occupied ∷ looks First free ∷ looks Second occupied ∷ looks First free ∷ []

abbrev pub cleared_again : List Move
cleared_again = occupied_there ++ looks Second free ∷ looks First free ∷ []
