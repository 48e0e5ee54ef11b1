-- A small kind of node, and what its process does, worked by hand.
use Rattle.std.specs.Prelude.{◌≡◌, ℕ, suc, ◌*◌, ◌==◌, if◌then◌else◌, Bool, true, false, List, [], ◌∷◌, map, replicate, codes, Option, Some, None, Result, Ok, Err}
use Rattle.std.specs.List.{filter}
use Rattle.node_lines.specs.replay_words.Read.{decimal}
use Rattle.node_lines.specs.replay_words.declared.fault.Fault.{Fault}
use Rattle.node_lines.specs.replay_words.declared.fault.Fault.TheVariants.{Number}
use Rattle.node_lines.specs.ixl_spec.closings.Closed.{nothing}
use Rattle.node_lines.specs.declared.order.Order.TheVariants.{ShowStop, ShowProceed}
use Rattle.node_lines.specs.simulator_event.layout.declared.ids.NodeId.{NodeId}
use Rattle.node_drive.specs.Beginning.{first_course}
use Rattle.node_drive.specs.Calls.{Arrival, Call, Rests, Reads, AsksListener, AsksLine, AsksDatagram, ThrowsAway, Writes, Sends, Complains, Keeps, Nothing, Came, Empty}
use Rattle.node_drive.specs.Drives.{Round, Timed, in_rounds, unasked}
use Rattle.node_drive.specs.declared.outside.Network.TheVariants.{Alone}
use Rattle.node_drive.specs.declared.outside.Origin.{Origin}
use Rattle.node_drive.specs.declared.outside.ThrownAway.{ThrownAway}
use Rattle.node_drive.specs.declared.outside.ToKeep.{ToKeep}
use Rattle.node_drive.specs.Kinds.{AskedToKeep, Kind, Meaning, InForce, Faulty}
use Rattle.node_drive.specs.Rounds.{Datagram, Ends, FailedDatagram, NoDatagram, Standing, all_come}
use Rattle.node_drive.specs.Waiting.{Addressed}

-- It counts the datagrams that came. It shows proceed from the first on, up to 1000 times their number, and answers each with its
-- number. A line is the number of an order that is in force.
pub data Heard : Type 0 where
  Bytes : Heard
  Clock : Heard

abbrev pub counted : Heard → ℕ → ℕ
counted Bytes n = suc n
counted Clock n = n

abbrev pub answered : Heard → ℕ → List Addressed
answered Bytes n = (record { 0 = 0 }, suc n ∷ []) ∷ []
answered Clock n = []

abbrev pub in_force : Result ℕ Fault → Meaning Heard
in_force (Ok number) = InForce number
in_force (Err fault) = Faulty fault

-- its one partner
abbrev pub partner : NodeId
partner = record { 0 = 0 }

-- over the only network
abbrev pub from : Option NodeId → Origin
from node = record { from = node; over = Alone }

abbrev pub from_partner : Origin
from_partner = from (Some partner)

abbrev pub counting : Kind ℕ Heard
counting = record {
  after = λ now input n. counted input n;
  hands = λ now input n. answered input n;
  keeps = λ now input n. None;
  says = λ now input n. [];
  tick = Clock;
  datagram = λ bytes. Bytes;
  is_partner = λ node. node.0 == 0;
  order = λ n. Some (if n == 0 then ShowStop else ShowProceed (1000 * n));
  meaning = λ now text n. in_force (decimal text);
  stands = λ now n. [];
  is_done = λ n. false;
}

-- its first order is in force, and its socket was found empty after the reading 0
abbrev pub at_first : Standing ℕ
at_first = record { state = 0; course = record first_course { heard = 1; written = 1; order = Some ShowStop; in_force = 1; seen = record { latest = Some 0; empty = Some 0 } } }

-- a process that begins
abbrev pub anew : Standing ℕ
anew = record { state = 0; course = first_course }

abbrev pub calls : List Round → List Call
calls made = (all_come counting (in_rounds made) at_first).0

-- what is done outside, without the questions
abbrev pub is_act : Call → Bool
is_act (Writes text) = true
is_act (Sends to bytes) = true
is_act (Complains line fault) = true
is_act (Keeps all kept) = true
is_act call = false

abbrev pub does : List Round → List Call
does made = filter is_act (calls made)

abbrev pub strangers : List Round → ℕ
strangers made = (all_come counting (in_rounds made) at_first).1.course.strangers

-- how many datagrams were heard, and how many weren't, since they may have been too old
abbrev pub heard_from : Standing ℕ → List Round → ℕ × ℕ
heard_from standing made = ((all_come counting (in_rounds made) standing).1.state, (all_come counting (in_rounds made) standing).1.course.too_old)

-- ---- rounds

-- what waits leaves at a reading, and nothing was asked to be kept
abbrev pub leaving_at : ℕ → Ends
leaving_at time = record { kept = []; leaves = time }

abbrev pub quiet_at : ℕ → Round
quiet_at time = record { begins = time; listened = false; lines = []; closed = false; datagrams = []; datagrams_end = (0, NoDatagram) ∷ []; ticks = time; ends = leaving_at time }

abbrev pub one_at : ℕ → Timed Arrival
one_at time = record { now = time; input = (from_partner, 7 ∷ []); ends = leaving_at time }

abbrev pub hears_at : ℕ → Round
hears_at time = record (quiet_at time) { datagrams = one_at time ∷ [] }

-- so many come, and it isn't asked for more
abbrev pub hears_only_at : ℕ → ℕ → Round
hears_only_at count time = record (quiet_at time) { datagrams = replicate count (one_at time); datagrams_end = [] }

-- the call for a datagram fails
abbrev pub fails_at : ℕ → Round
fails_at time = record (quiet_at time) { datagrams_end = (0, FailedDatagram) ∷ [] }

-- a datagram from an address that is no node's, and one from a node that is no partner
abbrev pub strange_at : ℕ → Round
strange_at time = record (quiet_at time) { datagrams = (record { now = time; input = (from None, 7 ∷ []); ends = leaving_at time }) ∷ (record { now = time; input = (from (Some (record { 0 = 1 })), 7 ∷ []); ends = leaving_at time }) ∷ [] }

-- one that isn't heard, with what is thrown away after it
abbrev pub late_at : ℕ → ThrownAway → Round
late_at time thrown = record (quiet_at time) { datagrams_end = (time, Datagram from_partner (7 ∷ []) thrown unasked) ∷ [] }

abbrev pub told_at : ℕ → List ℕ → Round
told_at time text = record (quiet_at time) { lines = (record { now = time; input = text; ends = leaving_at time }) ∷ [] }

-- a line and a datagram come in one round
abbrev pub both_at : ℕ → List ℕ → Round
both_at time text = record (told_at time text) { datagrams = one_at time ∷ [] }

abbrev pub answer : ℕ → Call
answer n = Sends partner (n ∷ [])

-- the same kind without equipment, which tells a line with each answer
abbrev pub telling : Kind ℕ Heard
telling = record counting { order = λ n. None; says = λ now input n. map (λ (datagram : Addressed). codes "told") (answered input n) }

-- a datagram comes at 10, and its line was written at this reading
abbrev pub told_until : ℕ → List Call
told_until leaves = filter is_act (all_come telling (in_rounds (record (quiet_at 10) { datagrams = record (one_at 10) { ends = leaving_at leaves } ∷ [] } ∷ [])) at_first).0

abbrev pub one_release : ToKeep
one_release = record { counts = record { releases = 1; opens = 0 }; closings = nothing }

-- the same, where each answer is to be kept first, and another line is told where it isn't
abbrev pub kept_on : Heard → Option AskedToKeep
kept_on Bytes = Some (record { all = one_release; unless = Some (codes "not kept") })
kept_on Clock = None

abbrev pub keeping : Kind ℕ Heard
keeping = record telling { keeps = λ now input n. kept_on input }

-- a datagram comes at 10, and this was answered as its answer was to be kept
abbrev pub told_where : Bool → List Call
told_where kept = filter is_act (all_come keeping (in_rounds (record (quiet_at 10) { datagrams = record (one_at 10) { ends = record { kept = kept ∷ []; leaves = 10 } } ∷ [] } ∷ [])) at_first).0

pub record Worked : Type 0 where
  -- the first round writes the first order, and nothing leaves before it is in force
  pub begins : filter is_act (all_come counting (in_rounds (quiet_at 10 ∷ quiet_at 20 ∷ told_at 30 (codes "1") ∷ [])) anew).0 ≡ Writes (codes "1 at 10 show stop") ∷ []
  -- nothing comes, and no order changes: nothing is done, but all is asked for
  pub quiet : calls (quiet_at 10 ∷ []) ≡ Rests ∷ Reads 10 ∷ AsksListener false ∷ AsksLine Nothing ∷ AsksDatagram Empty ∷ Reads 10 ∷ []
  -- the clock is read once a datagram has come, and once more before what waits leaves
  pub read : calls (hears_at 10 ∷ []) ≡ Rests ∷ Reads 10 ∷ AsksListener false ∷ AsksLine Nothing
      ∷ AsksDatagram (Came (from_partner, 7 ∷ [])) ∷ Reads 10 ∷ Writes (codes "2 at 10 show proceed until 1000") ∷ Reads 10
      ∷ AsksDatagram Empty ∷ Reads 10 ∷ Reads 10 ∷ []
  -- what may be too old is thrown away, with all that wait
  pub late : calls (late_at 401 (record { count = 2; found_empty = true }) ∷ []) ≡ Rests ∷ Reads 401 ∷ AsksListener false ∷ AsksLine Nothing
      ∷ AsksDatagram (Came (from_partner, 7 ∷ [])) ∷ Reads 401 ∷ ThrowsAway 2 true ∷ Reads 401 ∷ []
  -- what came 400 ms after the reading before the socket was empty is heard, and later none is
  pub recent : heard_from at_first (hears_at 400 ∷ []) ≡ (1, 0)
  pub too_old : heard_from at_first (hears_at 401 ∷ []) ≡ (0, 1)
  -- nothing is heard before the socket was found empty, and a call that fails hasn't found it so
  pub first : heard_from anew (hears_only_at 1 10 ∷ hears_only_at 1 20 ∷ []) ≡ (0, 2)
  pub empty : heard_from anew (quiet_at 10 ∷ hears_at 20 ∷ []) ≡ (1, 0)
  pub failed : heard_from anew (fails_at 10 ∷ hears_at 20 ∷ []) ≡ (0, 1)
  -- a round that takes its 64 datagrams changes nothing of that
  pub full : heard_from at_first (hears_only_at 64 300 ∷ hears_only_at 1 400 ∷ hears_only_at 1 401 ∷ []) ≡ (65, 1)
  -- once all was thrown away the next is heard, and before that it isn't
  pub emptied : heard_from at_first (late_at 500 (record { count = 3; found_empty = true }) ∷ hears_at 510 ∷ []) ≡ (1, 4)
  pub flooded : heard_from at_first (late_at 500 (record { count = 4096; found_empty = false }) ∷ hears_at 510 ∷ []) ≡ (0, 4098)
  -- what comes from elsewhere than from a partner is dropped, and counted
  pub strange : does (strange_at 10 ∷ []) ≡ []
  pub counts : strangers (strange_at 10 ∷ hears_at 20 ∷ strange_at 30 ∷ []) ≡ 4
  -- the line of a step is written, and its datagram waits
  pub waits : does (hears_at 10 ∷ []) ≡ Writes (codes "2 at 10 show proceed until 1000") ∷ []
  -- it leaves once the line is in force
  pub leaves : does (hears_at 10 ∷ told_at 20 (codes "2") ∷ []) ≡ Writes (codes "2 at 10 show proceed until 1000") ∷ answer 1 ∷ []
  -- and never before
  pub held : does (hears_at 10 ∷ told_at 20 (codes "1") ∷ []) ≡ Writes (codes "2 at 10 show proceed until 1000") ∷ []
  -- the line of a later step puts the earlier in force too, and datagrams leave in their order
  pub in_order : does (hears_at 10 ∷ hears_at 20 ∷ told_at 30 (codes "3") ∷ [])
      ≡ Writes (codes "2 at 10 show proceed until 1000") ∷ Writes (codes "3 at 20 show proceed until 2000") ∷ answer 1 ∷ answer 2 ∷ []
  pub one_by_one : does (hears_at 10 ∷ hears_at 20 ∷ told_at 30 (codes "2") ∷ told_at 40 (codes "3") ∷ [])
      ≡ Writes (codes "2 at 10 show proceed until 1000") ∷ Writes (codes "3 at 20 show proceed until 2000") ∷ answer 1 ∷ answer 2 ∷ []
  -- a line comes before a datagram of its round
  pub lines_first : does (hears_at 10 ∷ both_at 20 (codes "2") ∷ [])
      ≡ Writes (codes "2 at 10 show proceed until 1000") ∷ answer 1 ∷ Writes (codes "3 at 20 show proceed until 2000") ∷ []
  -- what waited for 499 ms leaves, what waited for 500 is dropped
  pub early : does (hears_at 10 ∷ told_at 509 (codes "2") ∷ []) ≡ Writes (codes "2 at 10 show proceed until 1000") ∷ answer 1 ∷ []
  pub dropped : does (hears_at 10 ∷ told_at 510 (codes "2") ∷ []) ≡ Writes (codes "2 at 10 show proceed until 1000") ∷ []
  -- so it is with a datagram whose lines took as long to write
  pub in_time : told_until 509 ≡ Writes (codes "told") ∷ answer 1 ∷ []
  pub slowly_told : told_until 510 ≡ Writes (codes "told") ∷ []
  -- what a step asks for is kept before a line of it is told and before a datagram of it leaves, and where it isn't, that is told
  pub kept : told_where true ≡ Keeps one_release true ∷ Writes (codes "told") ∷ answer 1 ∷ []
  pub not_kept : told_where false ≡ Keeps one_release false ∷ Writes (codes "not kept") ∷ answer 1 ∷ []
  -- a number that no order has is a fault, told with the number of its line; it changes nothing
  pub unknown : does (hears_at 10 ∷ told_at 20 (codes "3") ∷ told_at 30 (codes "2") ∷ [])
      ≡ Writes (codes "2 at 10 show proceed until 1000") ∷ Complains 2 Number ∷ answer 1 ∷ []
  pub faulty : does (told_at 20 (codes "x") ∷ []) ≡ Complains 2 Number ∷ []
  -- an order in force stays in force
  pub again : does (hears_at 10 ∷ told_at 20 (codes "2") ∷ told_at 30 (codes "1") ∷ hears_at 40 ∷ told_at 50 (codes "3") ∷ [])
      ≡ Writes (codes "2 at 10 show proceed until 1000") ∷ answer 1 ∷ Writes (codes "3 at 40 show proceed until 2000") ∷ answer 2 ∷ []
