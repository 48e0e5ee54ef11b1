-- Clocks that are steady between any two moments keep time, however short the events are.
use Rattle.std.proofs.Common.{◌≡◌, ◌⊎◌, inl, inr, ℕ, ◌+◌, ◌*◌, ◌-◌, ◌≤◌, List, [], ◌∷◌, refl, sym, ◌∙◌, subst, arith}
use native.Mathlib.Decide.{dec_lt}
use Rattle.rasta_core_spec.specs.Run.{Ends, called, later, lost, restarted}
use Rattle.rasta_core_spec.specs.Ends.{Call, end_after, end_later}
use Rattle.rasta_core_spec.specs.identity.Role.{Role}
use Rattle.rasta_core_spec.specs.identity.Role.TheVariants as role
use Rattle.rasta_core_spec.specs.Names.{Names, AreNames}
use Rattle.rasta_core_spec.specs.Events.{Event, Calls, Passes, Loses, Restarts, Elsewhere, May, happened, run, Start, started}
use Rattle.rasta_core_spec.specs.TrueClocks.{GoesOff, GoesOffSince, IsAtOnce, IsOffSince, IsSteady, KeepTime, MayAllCome, MayCome, Moment, Offset, StaysSteady, moment_of, moment_on, most_off, offsets_after, set}
use Rattle.rasta_core.specs.Invariant.{Timely, TimelyBy}
use Rattle.rasta_core.specs.Ordered.{Ordered}
use Rattle.rasta_core.proofs.Conversation.{WrittenIsRead}
use Rattle.rasta_core.proofs.Called.{ReadIsIntact, called_kept}
use Rattle.rasta_core.proofs.Clocks.{later_off, lost_kept, client_restarted, server_restarted, elsewhere_kept, started_timely}
use Rattle.rasta_core.proofs.BothEndsAfter.{Follows}

-- ---- one clock

-- what becomes of the moment that a clock is after
record Slower (slow now : Moment) (old elapsed own : ℕ) : Type 0 where
  then_slow : Moment
  behind : ℕ
  is : (then_slow ≡ slow) ⊎ (then_slow ≡ moment_on elapsed own now)
  small : behind ≤ most_off
  least : 999 * elapsed + old ≤ 1000 * own + behind
  since : 1000 * (now.clock + own) + behind + 999 * then_slow.at ≡ 1000 * then_slow.clock + 999 * (now.at + elapsed)

slower : (slow now : Moment) (old elapsed own : ℕ) → 1000 * now.clock + old + 999 * slow.at ≡ 1000 * slow.clock + 999 * now.at
    → 999 * (now.at + elapsed) + 1000 * slow.clock ≤ 1000 * (now.clock + own) + 999 * slow.at + most_off → Slower slow now old elapsed own
slower slow now old elapsed own since steady = elim (dec_lt (1000 * slow.clock + 999 * (now.at + elapsed)) (1000 * (now.clock + own) + 999 * slow.at)) [
  | yes passed ↦ record {
    then_slow = moment_on elapsed own now;
    behind = 0;
    is = inr refl;
    small = omega arith;
    least = omega (arith, passed, since);
    since = omega arith;
  }
  | no stays ↦ record {
    then_slow = slow;
    behind = (1000 * slow.clock + 999 * (now.at + elapsed)) - (1000 * (now.clock + own) + 999 * slow.at);
    is = inl refl;
    small = omega (arith, steady);
    least = omega (arith, stays, since);
    since = omega (arith, stays);
  }
]

-- and of the one that it is ahead of
record Faster (fast now : Moment) (old elapsed own : ℕ) : Type 0 where
  then_fast : Moment
  ahead : ℕ
  is : (then_fast ≡ fast) ⊎ (then_fast ≡ moment_on elapsed own now)
  small : ahead ≤ most_off
  most : 1000 * own + old ≤ 1001 * elapsed + ahead
  since : 1000 * (now.clock + own) + 1001 * then_fast.at ≡ 1000 * then_fast.clock + 1001 * (now.at + elapsed) + ahead

faster : (fast now : Moment) (old elapsed own : ℕ) → 1000 * now.clock + 1001 * fast.at ≡ 1000 * fast.clock + 1001 * now.at + old
    → 1000 * (now.clock + own) + 1001 * fast.at ≤ 1000 * fast.clock + 1001 * (now.at + elapsed) + most_off → Faster fast now old elapsed own
faster fast now old elapsed own since steady = elim (dec_lt (1000 * (now.clock + own) + 1001 * fast.at) (1000 * fast.clock + 1001 * (now.at + elapsed))) [
  | yes passed ↦ record {
    then_fast = moment_on elapsed own now;
    ahead = 0;
    is = inr refl;
    small = omega arith;
    most = omega (arith, passed, since);
    since = omega arith;
  }
  | no stays ↦ record {
    then_fast = fast;
    ahead = (1000 * (now.clock + own) + 1001 * fast.at) - (1000 * fast.clock + 1001 * (now.at + elapsed));
    is = inl refl;
    small = omega (arith, steady);
    most = omega (arith, stays, since);
    since = omega (arith, stays);
  }
]

pub goes_off_since : (slow fast now : Moment) (old : Offset) (elapsed own : ℕ) → IsOffSince slow fast now old → IsSteady slow (moment_on elapsed own now)
    → IsSteady fast (moment_on elapsed own now) → GoesOffSince slow fast now old elapsed own
goes_off_since slow fast now old elapsed own since slow_steady fast_steady =
    let s = slower slow now old.behind elapsed own since.behind slow_steady.least in
    let f = faster fast now old.ahead elapsed own since.ahead fast_steady.most in
    record {
      slow_then = s.then_slow;
      fast_then = f.then_fast;
      offset = record { behind = s.behind; ahead = f.ahead };
      slow_is = s.is;
      fast_is = f.is;
      goes = record { small = record { behind = s.small; ahead = f.small }; least = s.least; most = f.most };
      since = record { behind = s.since; ahead = f.since };
    }

-- ---- two ends

pub starts_by : (names : Names) (start : Start) → AreNames names → TimelyBy names (λ who. set) (started names start)
starts_by names start are =
    let new = started_timely names start are in
    record { timely = new.timely; client = new.client_off; server = new.server_off }

pub passes_by : (names : Names) (old new : Role → Offset) (elapsed of_client of_server : ℕ) (ends : Ends) → TimelyBy names old ends
    → GoesOff elapsed of_client (old role.Client) (new role.Client) → GoesOff elapsed of_server (old role.Server) (new role.Server)
    → TimelyBy names new (later elapsed of_client of_server ends)
passes_by names old new elapsed of_client of_server ends is goes goes_too =
    let after = later_off names elapsed of_client of_server (new role.Client) (new role.Server) ends is.timely
    (subst (λ (o : Offset). GoesOff elapsed of_client o (new role.Client)) (sym is.client) goes)
    (subst (λ (o : Offset). GoesOff elapsed of_server o (new role.Server)) (sym is.server) goes_too) in
    record { timely = after.timely; client = after.client_off; server = after.server_off }

module _ (law : WrittenIsRead) (intact : ReadIsIntact) (names : Names) (offsets : Role → Offset) (ends : Ends) (are : AreNames names) (is : TimelyBy names offsets ends) where
  stays_by : (new : Ends) → Follows names ends is.timely new → TimelyBy names offsets new
  stays_by new after = record { timely = after.timely; client = after.client_off ∙ is.client; server = after.server_off ∙ is.server }

  pub at_once_by : (event : Event) → IsAtOnce event → May names event ends → TimelyBy names (offsets_after event offsets) (happened event ends)
  at_once_by (Calls who call) once may = stays_by _ (called_kept law intact names are who call ends is.timely may)
  at_once_by (Passes elapsed of_client of_server) once may = absurd once
  at_once_by (Loses bytes) once may = stays_by _ (lost_kept names bytes ends is.timely)
  at_once_by (Restarts role.Client clock first) once may =
      let new = client_restarted names clock first ends is.timely in record { timely = new.timely; client = new.client_off; server = new.server_off ∙ is.server }
  at_once_by (Restarts role.Server clock first) once may =
      let new = server_restarted names clock first ends is.timely in record { timely = new.timely; client = new.client_off ∙ is.client; server = new.server_off }
  at_once_by (Elsewhere count) once may = stays_by _ (elsewhere_kept names count ends is.timely)

-- ---- a list of events

-- the clock of an end is off so far since two moments, and stays steady from both
record IsKept (who : Role) (events : List Event) (ends : Ends) (offset : Offset) : Type 0 where
  slow : Moment
  fast : Moment
  since : IsOffSince slow fast (moment_of who ends) offset
  slow_steady : StaysSteady who slow events ends
  fast_steady : StaysSteady who fast events ends

steady_now : (who : Role) (from : Moment) (events : List Event) (ends : Ends) → StaysSteady who from events ends → IsSteady from (moment_of who ends)
steady_now who from [] ends is = is
steady_now who from (first ∷ others) ends is = is.0

-- the laws that this stands on
pub record ClockLaws : Type 0 where
  pub off : (slow fast now : Moment) (old : Offset) (elapsed own : ℕ) → IsOffSince slow fast now old → IsSteady slow (moment_on elapsed own now)
      → IsSteady fast (moment_on elapsed own now) → GoesOffSince slow fast now old elapsed own
  pub starts : (names : Names) (start : Start) → AreNames names → TimelyBy names (λ who. set) (started names start)
  pub passes : (names : Names) (old new : Role → Offset) (elapsed of_client of_server : ℕ) (ends : Ends) → TimelyBy names old ends
      → GoesOff elapsed of_client (old role.Client) (new role.Client) → GoesOff elapsed of_server (old role.Server) (new role.Server)
      → TimelyBy names new (later elapsed of_client of_server ends)
  pub at_once : (names : Names) (offsets : Role → Offset) (event : Event) (ends : Ends) → AreNames names → TimelyBy names offsets ends → IsAtOnce event
      → May names event ends → TimelyBy names (offsets_after event offsets) (happened event ends)
  pub order : (names : Names) (event : Event) (ends : Ends) → AreNames names → Timely names ends → Ordered names ends → May names event ends → Ordered names (happened event ends)
  pub order_passes : (names : Names) (elapsed of_client of_server : ℕ) (ends : Ends) → Ordered names ends → Ordered names (later elapsed of_client of_server ends)

-- two ends that have kept time so far, with what is still asked of their clocks
record HaveKept (names : Names) (events : List Event) (ends : Ends) : Type 0 where
  offsets : Role → Offset
  timely : TimelyBy names offsets ends
  ordered : Ordered names ends
  kept : (who : Role) → IsKept who events ends (offsets who)
  time : KeepTime events ends

itself : (who : Role) (ends : Ends) → IsSteady (moment_of who ends) (moment_of who ends)
itself who ends = record { least = omega arith; most = omega arith }

fresh : (who : Role) (events : List Event) (ends : Ends) → KeepTime events ends → StaysSteady who (moment_of who ends) events ends
fresh who [] ends time = itself who ends
fresh who (first ∷ others) ends time = time.0 who

just_set : (now : Moment) → IsOffSince now now now set
just_set now = record { behind = omega arith; ahead = omega arith }

new_kept : (who : Role) (events : List Event) (ends : Ends) → KeepTime events ends → IsKept who events ends set
new_kept who events ends time = record {
  slow = moment_of who ends;
  fast = moment_of who ends;
  since = just_set (moment_of who ends);
  slow_steady = fresh who events ends time;
  fast_steady = fresh who events ends time;
}

-- the clock of an end as it was
as_before : (who : Role) (ends new : Ends) (offset : Offset) (others : List Event) (slow fast : Moment) → moment_of who new ≡ moment_of who ends
    → IsOffSince slow fast (moment_of who ends) offset → StaysSteady who slow others new → StaysSteady who fast others new → IsKept who others new offset
as_before who ends new offset others slow fast same since slow_steady fast_steady = record {
  slow = slow;
  fast = fast;
  since = subst (λ (m : Moment). IsOffSince slow fast m offset) (sym same) since;
  slow_steady = slow_steady;
  fast_steady = fast_steady;
}

pub called_moment : (who caller : Role) (call : Call) (ends : Ends) → moment_of who (called caller call ends) ≡ moment_of who ends
unfolding called end_after
called_moment role.Client role.Client call ends = refl
called_moment role.Client role.Server call ends = refl
called_moment role.Server role.Client call ends = refl
called_moment role.Server role.Server call ends = refl

pub lost_moment : (who : Role) (bytes : List ℕ) (ends : Ends) → moment_of who (lost bytes ends) ≡ moment_of who ends
unfolding lost
lost_moment role.Client bytes ends = refl
lost_moment role.Server bytes ends = refl

pub elsewhere_moment : (who : Role) (count : ℕ) (ends : Ends) → moment_of who (record ends { moment = ends.moment + count }) ≡ moment_of who ends
elsewhere_moment role.Client count ends = refl
elsewhere_moment role.Server count ends = refl

kept_at_once : (who : Role) (event : Event) (others : List Event) (ends : Ends) (offsets : Role → Offset) → IsAtOnce event → IsKept who (event ∷ others) ends (offsets who)
    → KeepTime (event ∷ others) ends → IsKept who others (happened event ends) (offsets_after event offsets who)
unfolding restarted
kept_at_once who (Calls caller call) others ends offsets once is time =
    as_before who ends (called caller call ends) (offsets who) others is.slow is.fast (called_moment who caller call ends) is.since is.slow_steady.1 is.fast_steady.1
kept_at_once who (Passes elapsed of_client of_server) others ends offsets once is time = absurd once
kept_at_once who (Loses bytes) others ends offsets once is time =
    as_before who ends (lost bytes ends) (offsets who) others is.slow is.fast (lost_moment who bytes ends) is.since is.slow_steady.1 is.fast_steady.1
kept_at_once role.Client (Restarts role.Client clock first) others ends offsets once is time = new_kept role.Client others _ time.1
kept_at_once role.Server (Restarts role.Server clock first) others ends offsets once is time = new_kept role.Server others _ time.1
kept_at_once role.Client (Restarts role.Server clock first) others ends offsets once is time =
    as_before role.Client ends _ (offsets role.Client) others is.slow is.fast refl is.since is.slow_steady.1 is.fast_steady.1
kept_at_once role.Server (Restarts role.Client clock first) others ends offsets once is time =
    as_before role.Server ends _ (offsets role.Server) others is.slow is.fast refl is.since is.slow_steady.1 is.fast_steady.1
kept_at_once who (Elsewhere count) others ends offsets once is time =
    as_before who ends _ (offsets who) others is.slow is.fast (elsewhere_moment who count ends) is.since is.slow_steady.1 is.fast_steady.1

-- how far the clock of one end goes on
abbrev pub own : Role → ℕ → ℕ → ℕ
own role.Client of_client of_server = of_client
own role.Server of_client of_server = of_server

pub later_moment : (who : Role) (elapsed of_client of_server : ℕ) (ends : Ends) → moment_of who (later elapsed of_client of_server ends) ≡ moment_on elapsed (own who of_client of_server) (moment_of who ends)
unfolding later end_later
later_moment role.Client elapsed of_client of_server ends = refl
later_moment role.Server elapsed of_client of_server ends = refl

-- one end over time
record Passed (who : Role) (elapsed step : ℕ) (others : List Event) (new : Ends) (old : Offset) : Type 0 where
  offset : Offset
  goes : GoesOff elapsed step old offset
  kept : IsKept who others new offset

module _ (laws : ClockLaws) where
  kept_passes : (who : Role) (elapsed of_client of_server : ℕ) (others : List Event) (ends : Ends) (old : Offset) → IsKept who (Passes elapsed of_client of_server ∷ others) ends old
      → KeepTime others (later elapsed of_client of_server ends) → Passed who elapsed (own who of_client of_server) others (later elapsed of_client of_server ends) old
  kept_passes who elapsed of_client of_server others ends old is time = record {
    offset = next.offset;
    goes = next.goes;
    kept = record {
      slow = next.slow_then;
      fast = next.fast_then;
      since = subst (λ (m : Moment). IsOffSince next.slow_then next.fast_then m next.offset) (sym same) next.since;
      slow_steady = steady next.slow_then is.slow next.slow_is is.slow_steady.1;
      fast_steady = steady next.fast_then is.fast next.fast_is is.fast_steady.1;
    };
  }
    where
      new : Ends
      new = later elapsed of_client of_server ends

      step : ℕ
      step = own who of_client of_server

      same : moment_of who new ≡ moment_on elapsed step (moment_of who ends)
      same = later_moment who elapsed of_client of_server ends

      next : GoesOffSince is.slow is.fast (moment_of who ends) old elapsed step
      next = laws.off is.slow is.fast (moment_of who ends) old elapsed step is.since
          (subst (λ (m : Moment). IsSteady is.slow m) same (steady_now who is.slow others new is.slow_steady.1))
          (subst (λ (m : Moment). IsSteady is.fast m) same (steady_now who is.fast others new is.fast_steady.1))

      steady : (m before : Moment) → (m ≡ before) ⊎ (m ≡ moment_on elapsed step (moment_of who ends)) → StaysSteady who before others new → StaysSteady who m others new
      steady m before (inl e) stays = subst (λ (n : Moment). StaysSteady who n others new) (sym e) stays
      steady m before (inr e) stays = subst (λ (n : Moment). StaysSteady who n others new) (same ∙ sym e) (fresh who others new time)

  abbrev by_role : Offset → Offset → Role → Offset
  by_role client server role.Client = client
  by_role client server role.Server = server

  at_once_kept : (names : Names) → AreNames names → (event : Event) (others : List Event) (ends : Ends) → IsAtOnce event → May names event ends → HaveKept names (event ∷ others) ends
      → HaveKept names others (happened event ends)
  at_once_kept names are event others ends once may has = record {
    offsets = offsets_after event has.offsets;
    timely = laws.at_once names has.offsets event ends are has.timely once may;
    ordered = laws.order names event ends are has.timely.timely has.ordered may;
    kept = λ who. kept_at_once who event others ends has.offsets once (has.kept who) has.time;
    time = has.time.1;
  }

  one_kept : (names : Names) → AreNames names → (event : Event) (others : List Event) (ends : Ends) → MayCome names event ends → HaveKept names (event ∷ others) ends
      → HaveKept names others (happened event ends)
  one_kept names are (Passes elapsed of_client of_server) others ends may has = record {
    offsets = by_role client.offset server.offset;
    timely = laws.passes names has.offsets (by_role client.offset server.offset) elapsed of_client of_server ends has.timely client.goes server.goes;
    ordered = laws.order_passes names elapsed of_client of_server ends has.ordered;
    kept = λ who. each who;
    time = has.time.1;
  }
    where
      client : Passed role.Client elapsed of_client others (later elapsed of_client of_server ends) (has.offsets role.Client)
      client = kept_passes role.Client elapsed of_client of_server others ends (has.offsets role.Client) (has.kept role.Client) has.time.1

      server : Passed role.Server elapsed of_server others (later elapsed of_client of_server ends) (has.offsets role.Server)
      server = kept_passes role.Server elapsed of_client of_server others ends (has.offsets role.Server) (has.kept role.Server) has.time.1

      each : (who : Role) → IsKept who others (later elapsed of_client of_server ends) (by_role client.offset server.offset who)
      each role.Client = client.kept
      each role.Server = server.kept
  one_kept names are (Calls who call) others ends may has = at_once_kept names are (Calls who call) others ends tt may has
  one_kept names are (Loses bytes) others ends may has = at_once_kept names are (Loses bytes) others ends tt may has
  one_kept names are (Restarts who clock first) others ends may has = at_once_kept names are (Restarts who clock first) others ends tt may has
  one_kept names are (Elsewhere count) others ends may has = at_once_kept names are (Elsewhere count) others ends tt may has

  all_kept : (names : Names) → AreNames names → (events : List Event) (ends : Ends) → MayAllCome names events ends → HaveKept names events ends → HaveKept names [] (run events ends)
  all_kept names are [] ends may has = has
  all_kept names are (first ∷ others) ends may has = all_kept names are others (happened first ends) may.1 (one_kept names are first others ends may.0 has)

  from_start : (names : Names) (start : Start) (events : List Event) → AreNames names → Ordered names (started names start) → MayAllCome names events (started names start)
      → KeepTime events (started names start) → HaveKept names [] (run events (started names start))
  from_start names start events are ordered may time = all_kept names are events (started names start) may (record {
    offsets = λ who. set;
    timely = laws.starts names start are;
    ordered = ordered;
    kept = λ who. new_kept who events (started names start) time;
    time = time;
  })

  pub run_timely : (names : Names) (start : Start) (events : List Event) → AreNames names → Ordered names (started names start) → MayAllCome names events (started names start)
      → KeepTime events (started names start) → Timely names (run events (started names start))
  run_timely names start events are ordered may time = let done = from_start names start events are ordered may time in done.timely.timely

  pub run_ordered : (names : Names) (start : Start) (events : List Event) → AreNames names → Ordered names (started names start) → MayAllCome names events (started names start)
      → KeepTime events (started names start) → Ordered names (run events (started names start))
  run_ordered names start events are ordered may time = let done = from_start names start events are ordered may time in done.ordered
