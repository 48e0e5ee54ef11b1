-- Two hosts as a line: what is kept of the ends of their link and of the nodes of an abstract line, event by event.
use Rattle.std.proofs.Common.{◌≡◌, ◌∙◌, ◌++◌, ◌+◌, ◌≤◌, ◌&&◌, ℕ, Bool, true, false, List, [], ◌∷◌, Option, Some, None, ap, arith, leb-false, leb-true, map, refl, sym}
use Rattle.std.specs.Prelude.{nat_le}
use Rattle.std.proofs.lemmas.Bool.{false≢true}
use Rattle.line_host.specs.Host.{HostState}
use Rattle.line_host.specs.Talk.{is_agreed}
use Rattle.line_laws.specs.End.{File}
use Rattle.line_laws.specs.declared.words.Side.{Side}
use Rattle.line_world.specs.Happens.{just_sent, still_flying}
use Rattle.line_world.specs.State.{EndRun, Flying}
use Rattle.line_world.specs.declared.names.LineNames.{LineNames}
use Rattle.rasta_core.specs.Bag.{lifetime}
use Rattle.rasta_core.specs.Ends.{EndState, Sent, reading_of}
use Rattle.rasta_core.specs.Events.{IsAmong}
use Rattle.rasta_core.specs.Run.{Ends}
use Rattle.rasta_core.specs.State.{LinkState, is_open, is_up}
use Rattle.rasta_core.specs.phase.Phase.TheVariants as phase
use Rattle.line_world.proofs.Below.{deadline, settled}
use Rattle.line_world.proofs.AtEnds.{AreSentNow, IsSentNow}
use Rattle.line_world.proofs.EndEvents.{IsLater, later_stays}
use Rattle.line_world.proofs.Hears.{up_is_open}
use Rattle.line_world.proofs.Nodes.{Half}
use Rattle.line_world.proofs.Quiet.{GoesOn}
use Rattle.line_world.proofs.Talked.{Talked}
use Rattle.line_world.proofs.Whole.{IsProcess, half_by}

-- ---- datagrams

-- A datagram in flight was sent, as long ago as its age says.
pub record WasSent (ends : Ends) (one : Flying) : Type 0 where
  pub datagram : Sent
  pub among : IsAmong datagram ends.sent
  pub bytes : datagram.bytes ≡ one.bytes
  pub at : datagram.at + one.age ≡ ends.time
  pub young : one.age ≤ lifetime

abbrev pub WereSent : Ends → List Flying → Type 0
WereSent ends [] = Unit {0}
WereSent ends (one ∷ others) = WasSent ends one × WereSent ends others

-- in ends that have the same time, and all that was sent
pub still_sent : (old new : Ends) (flying : List Flying) → new.time ≡ old.time → ((datagram : Sent) → IsAmong datagram old.sent → IsAmong datagram new.sent) → WereSent old flying
    → WereSent new flying
still_sent old new [] time among were = tt
still_sent old new (one ∷ others) time among were = (
  record {
    datagram = were.0.datagram;
    among = among were.0.datagram were.0.among;
    bytes = were.0.bytes;
    at = were.0.at ∙ sym time;
    young = were.0.young;
  },
  still_sent old new others time among were.1,
)

pub both_fly : (ends : Ends) (some more : List Flying) → WereSent ends some → WereSent ends more → WereSent ends (some ++ more)
both_fly ends [] more first second = second
both_fly ends (one ∷ some) more first second = (first.0, both_fly ends some more first.1 second)

sent_now : (ends : Ends) (bytes : List ℕ) → IsSentNow ends bytes → WasSent ends (just_sent bytes)
sent_now ends bytes is = record { datagram = is.0; among = is.1; bytes = is.2; at = omega (arith, is.3); young = omega arith }

pub just_flying : (ends : Ends) (datagrams : List (List ℕ)) → AreSentNow ends datagrams → WereSent ends (map just_sent datagrams)
just_flying ends [] sent = tt
just_flying ends (bytes ∷ others) sent = (sent_now ends bytes sent.0, just_flying ends others sent.1)

-- ---- an end with its process, or without

pub data IsRun (names : LineNames) (side : Side) (run : EndRun) (mine : EndState) (own : Talked) : Type 0 where
  runs : (process : HostState) → run.process ≡ Some process → IsProcess names side run.clock run.file mine process own → IsRun names side run mine own
  ended : run.process ≡ None → is_open mine.link.phase ≡ false → IsRun names side run mine own

abbrev pub half_of : EndRun → EndState → (busy : Bool) → Talked → Half
half_of run mine busy own = half_by mine run.file busy own run.process

-- ---- time

-- a link whose time has come, one whose time hasn't, and one that is closed
settled_over : (now : ℕ) (link : LinkState) → (is_open link.phase && nat_le (deadline link) now) ≡ true
    → settled now link ≡ record link { phase = phase.Closed; closed_at = deadline link; clock = now }
unfolding settled
settled_over now link is = rw is refl

settled_on : (now : ℕ) (link : LinkState) → (is_open link.phase && nat_le (deadline link) now) ≡ false → settled now link ≡ record link { clock = now }
unfolding settled
settled_on now link is = rw is refl

settled_shut : (now : ℕ) (link : LinkState) → is_open link.phase ≡ false → settled now link ≡ record link { clock = now }
settled_shut now link shut = settled_on now link (ap (λ (o : Bool). o && nat_le (deadline link) now) shut)

-- the reading before doesn't matter
settled_again : (earlier now : ℕ) (link : LinkState) → settled now (record link { clock = earlier }) ≡ settled now link
unfolding settled deadline
settled_again earlier now link = refl

settled_twice : (earlier now : ℕ) (link : LinkState) → earlier ≤ now → settled now (settled earlier link) ≡ settled now link
settled_twice earlier now link before = by_early (is_open link.phase && nat_le (deadline link) earlier) refl
  where
    late_then : (opened early late : Bool) → is_open link.phase ≡ opened → nat_le (deadline link) earlier ≡ early → nat_le (deadline link) now ≡ late → (opened && early) ≡ true → (opened && late) ≡ true
    late_then true true true open_is early_is late_is both = refl
    late_then true true false open_is early_is late_is both =
        absurd (omega (arith, before, leb-true (deadline link) earlier early_is, leb-false (deadline link) now late_is))
    late_then true false late open_is early_is late_is both = absurd (false≢true both)
    late_then false early late open_is early_is late_is both = absurd (false≢true both)

    closed_then : LinkState
    closed_then = record link { phase = phase.Closed; closed_at = deadline link; clock = earlier }

    by_early : (b : Bool) → (is_open link.phase && nat_le (deadline link) earlier) ≡ b → settled now (settled earlier link) ≡ settled now link
    by_early true is =
        ap (settled now) (settled_over earlier link is)
        ∙ (settled_shut now closed_then refl
        ∙ sym (settled_over now link (late_then (is_open link.phase) (nat_le (deadline link) earlier) (nat_le (deadline link) now) refl refl refl is)))
    by_early false is = ap (settled now) (settled_on earlier link is) ∙ settled_again earlier now link

read_later : (clock elapsed : ℕ) → reading_of clock ≤ reading_of (clock + elapsed)
read_later clock elapsed = omega arith

-- a process goes on with its clock
later_process : (names : LineNames) (side : Side) (clock elapsed : ℕ) (file : File) (old new : EndState) (process : HostState) (own : Talked) → IsProcess names side clock file old process own
    → IsLater elapsed old new → IsProcess names side (clock + elapsed) file new process own
later_process names side clock elapsed file old new process own is then = record {
  clock_is = then.clock ∙ ap (λ (c : ℕ). c + elapsed) is.clock_is;
  link =
      sym (settled_twice (reading_of clock) (reading_of (clock + elapsed)) process.talk.link (read_later clock elapsed))
      ∙ (ap (settled (reading_of (clock + elapsed))) is.link
      ∙ (ap (λ (c : ℕ). settled (reading_of (c + elapsed)) old.link) (sym is.clock_is) ∙ sym then.link));
  own_name = is.own_name;
  peer_name = is.peer_name;
  side_is = is.side_is;
  kept = is.kept;
  staged = record {
    side_is = is.staged.side_is;
    version = is.staged.version;
    up = λ up. is.staged.up (ap is_up (sym (later_stays then (up_is_open new.link.phase up))) ∙ up);
    starting = λ opened down. is.staged.starting (ap is_open (sym (later_stays then opened)) ∙ opened) (ap is_up (sym (later_stays then opened)) ∙ down);
  };
}

later_shut : {elapsed : ℕ} {old new : EndState} → IsLater elapsed old new → is_open old.link.phase ≡ false → is_open new.link.phase ≡ false
later_shut {elapsed} {old} {new} then shut = by_open (is_open new.link.phase) refl
  where
    by_open : (b : Bool) → is_open new.link.phase ≡ b → is_open new.link.phase ≡ false
    by_open true opened = absurd (false≢true (sym shut ∙ (sym (ap is_open (later_stays then opened)) ∙ opened)))
    by_open false is = is

pub later_run : (names : LineNames) (side : Side) (run : EndRun) (elapsed : ℕ) (old new : EndState) (own : Talked) → IsRun names side run old own → IsLater elapsed old new
    → IsRun names side (record run { clock = run.clock + elapsed }) new own
later_run names side run elapsed old new own (runs process is at) then = runs process is (later_process names side run.clock elapsed run.file old new process own at then)
later_run names side run elapsed old new own (ended none shut) then = ended none (later_shut then shut)

pub later_half : (file : File) (busy : Bool) (elapsed : ℕ) (old new : EndState) (own : Talked) (process : Option HostState) → IsLater elapsed old new
    → GoesOn (half_by old file busy own process) (half_by new file busy own process)
later_half file busy elapsed old new own None then = record {
  end = λ joined. absurd (false≢true joined);
  out = refl;
  apart = λ down joined. absurd (false≢true joined);
  file = refl;
  busy = refl;
  said = refl;
  heard = refl;
  joined_open = λ joined. absurd (false≢true joined);
  shut = later_shut then;
  joined = λ opened joined. joined;
}
later_half file busy elapsed old new own (Some process) then = record {
  end = λ joined. refl;
  out = refl;
  apart = λ down joined. absurd (false≢true (sym down ∙ (sym (same_joined (joined_opens joined)) ∙ joined)));
  file = refl;
  busy = refl;
  said = refl;
  heard = refl;
  joined_open = joined_opens;
  shut = later_shut then;
  joined = λ opened joined. same_joined opened ∙ joined;
}
  where
    agreed : Bool
    agreed = is_agreed process.talk.greeting.stage

    same_joined : is_open new.link.phase ≡ true → (is_up new.link.phase && agreed) ≡ (is_up old.link.phase && agreed)
    same_joined opened = ap (λ (p : _). is_up p && agreed) (later_stays then opened)

    joined_opens : (is_up new.link.phase && agreed) ≡ true → is_open new.link.phase ≡ true
    joined_opens joined = by_up (is_up new.link.phase) refl joined
      where
        by_up : (b : Bool) → is_up new.link.phase ≡ b → (b && agreed) ≡ true → is_open new.link.phase ≡ true
        by_up true up both = up_is_open new.link.phase up
        by_up false down both = absurd (false≢true both)

one_older : (old new : Ends) (elapsed : ℕ) (one : Flying) (others : List Flying) → new.time ≡ old.time + elapsed
    → ((datagram : Sent) → IsAmong datagram old.sent → IsAmong datagram new.sent) → WasSent old one → WereSent new (still_flying elapsed others)
    → (b : Bool) → nat_le (one.age + elapsed) lifetime ≡ b → WereSent new (still_flying elapsed (one ∷ others))
one_older old new elapsed one others time among was rest true young = rw young (
  record {
    datagram = was.datagram;
    among = among was.datagram was.among;
    bytes = was.bytes;
    at = omega (arith, was.at, time);
    young = leb-true (one.age + elapsed) lifetime young;
  },
  rest,
)
one_older old new elapsed one others time among was rest false old_then = rw old_then rest

-- datagrams that are as much older then
pub older : (old new : Ends) (elapsed : ℕ) (flying : List Flying) → new.time ≡ old.time + elapsed → ((datagram : Sent) → IsAmong datagram old.sent → IsAmong datagram new.sent)
    → WereSent old flying → WereSent new (still_flying elapsed flying)
older old new elapsed [] time among were = tt
older old new elapsed (one ∷ others) time among were =
    one_older old new elapsed one others time among were.0 (older old new elapsed others time among were.1) (nat_le (one.age + elapsed) lifetime) refl
