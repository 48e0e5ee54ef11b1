-- A node's process that ran for some time.
use Rattle.std.specs.Prelude.{◌≡◌, ◌<◌, ◌≤◌, ◌-◌, ℕ, nat_le, nat_lt, ◌&&◌, ◌||◌, if◌then◌else◌, Bool, true, false, List, [], ◌∷◌, ◌++◌, length, map, Option, Some, None}
use Rattle.node_drive.specs.Calls.{Arrival, Calls, CallsCut, Told}
use Rattle.node_drive.specs.Kinds.{Kind}
use Rattle.node_drive.specs.Rounds.{Coming, RoundBegins, Listened, Line, NoLine, LinesEnd, Datagram, NoDatagram, FailedDatagram, Tick, Ends, CourseState, Standing, all_come, comes}
use Rattle.node_drive.specs.Seen.{is_heard}
use Rattle.node_drive.specs.declared.outside.Origin.{Origin}
use Rattle.node_drive.specs.declared.outside.ThrownAway.{ThrownAway}
use Rattle.node_drive.specs.declared.socket_seen.SocketSeen.{SocketSeen}

-- ---- one round

-- how many lines a round takes at most, and how many datagrams
abbrev pub most_in_a_round : ℕ
most_in_a_round = 64

-- An input, the reading that was taken once it had come, and what was answered after it.
pub record Timed (In : Type 0) : Type 0 where
  pub now : ℕ
  pub input : In
  pub ends : Ends

-- What came in a round.
pub record Round : Type 0 where
  -- the reading at its beginning
  pub begins : ℕ
  -- whether somebody began to listen
  pub listened : Bool
  -- the lines, and whether the round ended there, since none comes any more
  pub lines : List (Timed (List ℕ))
  pub closed : Bool
  -- the datagrams that were heard, and how they ended
  pub datagrams : List (Timed Arrival)
  pub datagrams_end : List (ℕ × Coming)
  -- the reading of the tick, which comes last, and what was answered after it
  pub ticks : ℕ
  pub ends : Ends

abbrev pub line_in : Timed (List ℕ) → ℕ × Coming
line_in one = (one.now, Line one.input one.ends)

-- nothing is thrown away after one that is heard
abbrev pub nothing_thrown : ThrownAway
nothing_thrown = record { count = 0; found_empty = false }

abbrev pub datagram_in : Timed Arrival → ℕ × Coming
datagram_in one = (one.now, Datagram one.input.0 one.input.1 nothing_thrown one.ends)

-- nothing was asked: no step was made, and nothing leaves
abbrev pub unasked : Ends
unasked = record { kept = []; leaves = 0 }

-- fewer than the most, after which there was none
abbrev pub lines_end : ℕ → List (ℕ × Coming)
lines_end taken = if nat_lt taken most_in_a_round then (0, NoLine) ∷ [] else []

-- The most datagrams that are taken; fewer, after which the socket was empty, or the call failed; or fewer, and one that isn't heard.
-- What waits after that one is thrown away.
pub data EndsDatagrams (seen : SocketSeen) (taken : ℕ) : List (ℕ × Coming) → Type 0 where
  full : taken ≡ most_in_a_round → EndsDatagrams seen taken []
  silent : taken < most_in_a_round → EndsDatagrams seen taken ((0, NoDatagram) ∷ [])
  failed : taken < most_in_a_round → EndsDatagrams seen taken ((0, FailedDatagram) ∷ [])
  too_old : {now : ℕ} {origin : Origin} {bytes : List ℕ} {thrown : ThrownAway} → taken < most_in_a_round → is_heard now seen ≡ false
      → EndsDatagrams seen taken ((now, Datagram origin bytes thrown unasked) ∷ [])

abbrev pub opening : ℕ → Bool → List (ℕ × Coming)
opening begins listened = (begins, RoundBegins) ∷ (begins, Listened listened) ∷ []

-- the datagrams of a round, and its tick
abbrev pub datagrams_in : Round → List (ℕ × Coming)
datagrams_in round = map datagram_in round.datagrams ++ round.datagrams_end

abbrev pub behind_lines : Round → Bool → List (ℕ × Coming)
behind_lines round true = (0, LinesEnd) ∷ []
behind_lines round false = lines_end (length round.lines) ++ (datagrams_in round ++ (round.ticks, Tick round.ends) ∷ [])

-- all that comes in it, each with its reading: field lines first, then datagrams, a tick last
abbrev pub in_round : Round → List (ℕ × Coming)
in_round round = opening round.begins round.listened ++ (map line_in round.lines ++ behind_lines round round.closed)

-- what comes before its datagrams
abbrev pub before_datagrams : Round → List (ℕ × Coming)
before_datagrams round = opening round.begins round.listened ++ (map line_in round.lines ++ lines_end (length round.lines))

module _ {State Input : Type 0} (kind : Kind State Input) where
  -- these datagrams are heard
  abbrev pub AreHeard : List (Timed Arrival) → Standing State → Type 0
  AreHeard [] standing = Unit {0}
  AreHeard (one ∷ others) standing = (is_heard one.now standing.course.seen ≡ true) × AreHeard others (comes kind one.now (datagram_in one).1 standing).1

  -- A round, by how the process stands before it.
  pub record IsRound (standing : Standing State) (round : Round) : Type 0 where
    pub few_lines : length round.lines ≤ most_in_a_round
    pub few_datagrams : length round.datagrams ≤ most_in_a_round
    pub heard : AreHeard round.datagrams (all_come kind (before_datagrams round) standing).1
    pub ends : EndsDatagrams (all_come kind (map datagram_in round.datagrams) (all_come kind (before_datagrams round) standing).1).1.course.seen (length round.datagrams) round.datagrams_end

  -- ---- one after another

  -- none of which is closed
  abbrev pub AreRounds : List Round → Standing State → Type 0
  AreRounds [] standing = Unit {0}
  AreRounds (round ∷ rounds) standing = IsRound standing round × (round.closed ≡ false) × AreRounds rounds (all_come kind (in_round round) standing).1

abbrev pub in_rounds : List Round → List (ℕ × Coming)
in_rounds [] = []
in_rounds (round ∷ rounds) = in_round round ++ in_rounds rounds

-- ---- runs

-- these came, one after another: the node is as they leave it, and what was called is what they do
pub record Performs {State Input : Type 0} (kind : Kind State Input) (comings : List (ℕ × Coming)) (old new : Standing State) (told_old told_new : Told) : Type 0 where
  pub standing_is : new ≡ (all_come kind comings old).1
  pub called : Calls told_old told_new (all_come kind comings old).0

-- a beginning of what these do was called
pub record Stops {State Input : Type 0} (kind : Kind State Input) (comings : List (ℕ × Coming)) (old : Standing State) (told_old told_new : Told) : Type 0 where
  pub cut : CallsCut told_old told_new (all_come kind comings old).0

-- the last order is in force
abbrev pub is_settled : CourseState → Bool
is_settled course = nat_le course.written course.in_force

module _ {State Input : Type 0} (kind : Kind State Input) (for_ms first : ℕ) where
  -- A process ends after a round that ticks `for_ms` or more after its first reading, and where its node has nothing more to do and
  -- its last order is in force.
  abbrev pub is_over : ℕ → Standing State → Bool
  is_over ticks standing = nat_le for_ms (ticks - first) || (kind.is_done standing.state && is_settled standing.course)

  -- it doesn't end after any of these
  abbrev pub GoesOn : List Round → Standing State → Type 0
  GoesOn [] standing = Unit {0}
  GoesOn (round ∷ rounds) standing =
      let after = (all_come kind (in_round round) standing).1
      in (is_over round.ticks after ≡ false) × GoesOn rounds after

-- After a first reading rounds were made, up to and with the first after which the process ends.
pub record Ran {State Input : Type 0} (kind : Kind State Input) (for_ms first ticks : ℕ) (old new : Standing State) (told_old told_new : Told) : Type 0 where
  pub earlier : List Round
  pub last : Round
  pub are : AreRounds kind (earlier ++ last ∷ []) old
  pub goes_on : GoesOn kind for_ms first earlier old
  pub ticks_is : last.ticks ≡ ticks
  pub over : is_over kind for_ms first ticks new ≡ true
  pub performs : Performs kind (in_rounds (earlier ++ last ∷ [])) old new told_old told_new

-- the round that was broken off, if one had begun
abbrev pub broken_in : Option Round → List (ℕ × Coming)
broken_in None = []
broken_in (Some round) = in_round round

abbrev pub IsBrokenRound : {State Input : Type 0} → Kind State Input → Standing State → Option Round → Type 0
IsBrokenRound kind standing None = Unit {0}
IsBrokenRound kind standing (Some round) = IsRound kind standing round

-- The same process, cut off by a closed input, a failed write or want of memory: what was called is a beginning of what its rounds
-- do. Of the last line perhaps only a beginning was written; then nothing after it was called.
pub record CutOff {State Input : Type 0} (kind : Kind State Input) (for_ms first : ℕ) (old : Standing State) (told_old told_new : Told) : Type 0 where
  pub made : List Round
  pub broken : Option Round
  pub are : AreRounds kind made old
  pub goes_on : GoesOn kind for_ms first made old
  pub is_round : IsBrokenRound kind (all_come kind (in_rounds made) old).1 broken
  pub stops : Stops kind (in_rounds made ++ broken_in broken) old told_old told_new
