-- An end that enters a connection: a client that is down opens one, and a server outside takes its request.
use Rattle.std.proofs.Common.{◌≡◌, ◌⊎◌, inl, inr, ℕ, ◌+◌, ◌<◌, ◌≤◌, Bool, true, false, ◌&&◌, not, nat_le, nat_lt, List, [], ◌∷◌, Some, None, refl, sym, ap, subst, ◌∙◌, arith}
use Rattle.std.specs.Prelude.{if◌then◌else◌}
use Rattle.std.proofs.lemmas.Bool.Decides.{nat_tests}
use native.Mathlib.Decide.{ℕ_discrete}
use Rattle.rasta_core.specs.Bag.{lifetime}
use Rattle.rasta_core.specs.Calls.{opening, opens}
use Rattle.rasta_core.specs.Clock.{deadline, open_state, state_at}
use Rattle.rasta_core.specs.Each.{Each}
use Rattle.rasta_core.specs.Ends.{Sent, Receives, is_taken, outcome}
use Rattle.rasta_core.specs.Events.{AreForeign, IsAmong, IsDelivered, MayCall}
use Rattle.rasta_core.specs.Invariant.{InFlight, Timely}
use Rattle.rasta_core.specs.Names.{AreNames, Names}
use Rattle.rasta_core.specs.Establishment.{beginning, is_down, may_open, requesting}
use Rattle.rasta_core.specs.Parameters.{connection_limit, quiet_time, time_limit}
use Rattle.rasta_core.specs.Run.{Ends, end_of}
use Rattle.rasta_core.specs.Safe.{IsIdle}
use Rattle.rasta_core.specs.PdusHandedOut.{Step, entered, limited, sending, silent, telling}
use Rattle.rasta_core.specs.Sentences.{IsDownNow, IsOpening, IsOut, receipt_at}
use Rattle.rasta_core.specs.State.{LinkState, is_client, is_open, is_up}
use Rattle.rasta_core.specs.identity.Role.{Role}
use Rattle.rasta_core.specs.identity.Role.TheVariants as role
use Rattle.rasta_core.specs.phase.State.{State}
use Rattle.rasta_core.specs.phase.State.TheVariants as state
use Rattle.rasta_core.specs.reason.Reason.TheVariants as reason
use Rattle.rasta_pdu.specs.SafetyCode.{IsIntact}
use Rattle.simulator_move_laws.proofs.Links.States.{IsSettled, IsShut}
use Rattle.simulator_move_laws.proofs.Links.Tests.{by_test}

-- the laws of the link on what is taken
pub record TakingLaws : Type 0 where
  pub opening : (names : Names) (ends : Ends) (who : Role) (bytes : List ℕ) (connection : ℕ) (datagram : Sent) → AreNames names → Timely names ends
      → IsDelivered ends bytes connection datagram → IsOut who ends → is_taken (receipt_at who bytes ends).verdict ≡ true → IsOpening names who ends datagram
  pub nothing : (names : Names) (ends : Ends) (who : Role) (bytes : List ℕ) → Timely names ends → (IsIntact names.key bytes → ⊥) ⊎ AreForeign names who bytes
      → IsIdle (receipt_at who bytes ends)
  pub dead : (names : Names) (ends : Ends) → Timely names ends → IsDownNow role.Client ends → Each (λ sent. sent.at + lifetime < ends.time) ends.sent

-- ---- what can be delivered

pub among_each : (P : Sent → Type 0) (datagram : Sent) (sent : List Sent) → IsAmong datagram sent → Each P sent → P datagram
among_each P datagram [] among each = absurd among
among_each P datagram (first ∷ others) (inl same) each = subst P same each.0
among_each P datagram (first ∷ others) (inr later) each = among_each P datagram others later each.1

-- is of the client's last connection
pub of_last : (names : Names) (ends : Ends) (bytes : List ℕ) (connection : ℕ) (datagram : Sent) → Timely names ends → IsDelivered ends bytes connection datagram
    → ends.client.connection ≡ Some connection
of_last names ends bytes connection datagram timely delivered =
    let flies = among_each (InFlight names _) datagram ends.sent delivered.was_sent timely.datagrams
    in elim (ℕ_discrete datagram.connection timely.newest) [
      | yes same ↦ flies.known.begun ∙ ap (λ (n : ℕ). Some n) (sym same ∙ delivered.connection_same)
      | no other ↦ absurd (late (flies.known.dead other) delivered.in_time)
    ]
  where
    late : datagram.at + lifetime < ends.time → ends.time ≤ datagram.at + lifetime → ⊥
    late dead alive = omega arith

-- and of a client that isn't down
pub not_down : TakingLaws → (names : Names) (ends : Ends) (bytes : List ℕ) (connection : ℕ) (datagram : Sent) → Timely names ends → IsDelivered ends bytes connection datagram
    → IsDownNow role.Client ends → ⊥
not_down laws names ends bytes connection datagram timely delivered down =
    late (among_each (λ (sent : Sent). sent.at + lifetime < ends.time) datagram ends.sent delivered.was_sent (laws.dead names ends timely down)) delivered.in_time
  where
    late : datagram.at + lifetime < ends.time → ends.time ≤ datagram.at + lifetime → ⊥
    late dead alive = omega arith

-- ---- a request is taken

-- what a datagram is that an end enters a connection by
pub record EntersBy (names : Names) (who : Role) (ends : Ends) (bytes : List ℕ) (connection entered : ℕ) : Type 0 where
  pub datagram : Sent
  pub delivered : IsDelivered ends bytes connection datagram
  pub outside : IsOut who ends
  pub opens : IsOpening names who ends datagram
  pub same : entered ≡ connection

entry : (connection number : ℕ) (inside taken : Bool) → (if not inside && taken then Some connection else None) ≡ Some number → (inside ≡ false) × (taken ≡ true) × (number ≡ connection)
entry connection number true taken e = absurd (cc e)
entry connection number false false e = absurd (cc e)
entry connection number false true e = (refl, refl, numbers connection number e) where
  numbers : (a b : ℕ) → Some a ≡ Some b → b ≡ a
  numbers a b e = cc

pub enters_by : TakingLaws → (names : Names) (ends : Ends) (who : Role) (bytes : List ℕ) (connection entered : ℕ) → AreNames names → Timely names ends → MayCall names who (Receives bytes connection) ends
    → (outcome (Receives bytes connection) ends.moment (end_of who ends)).enters ≡ Some entered → EntersBy names who ends bytes connection entered
unfolding outcome
enters_by laws names ends who bytes connection number are timely may enters = choose may where
  told : (is_open (end_of who ends).link.phase ≡ false) × (is_taken (receipt_at who bytes ends).verdict ≡ true) × (number ≡ connection)
  told = entry connection number (is_open (end_of who ends).link.phase) (is_taken (receipt_at who bytes ends).verdict) enters

  choose : MayCall names who (Receives bytes connection) ends → EntersBy names who ends bytes connection number
  choose (inl (datagram, delivered)) = record {
    datagram = datagram;
    delivered = delivered;
    outside = told.0;
    opens = laws.opening names ends who bytes connection datagram are timely delivered told.0 told.1;
    same = told.2;
  }
  choose (inr other) = absurd (cc ((laws.nothing names ends who bytes timely other).1, told.1))

-- ---- a client opens

pub later_not_down : (l : LinkState) → IsShut l → l.closed_at ≡ l.clock → is_down (state_at l.clock l) ≡ true → ⊥
unfolding state_at deadline
later_not_down l shut now = subst (λ (o : Bool). is_down (if o && nat_lt l.clock (if o then l.own_stamp + time_limit else l.closed_at) then open_state l.phase else if nat_lt l.clock ((if o then l.own_stamp + time_limit else l.closed_at) + quiet_time) then state.Quiet else state.Down) ≡ true → ⊥)
    (sym shut) (subst (λ (b : Bool). is_down (if b then state.Quiet else state.Down) ≡ true → ⊥) (sym still) (λ e. cc e))
  where
    still : nat_lt l.clock (l.closed_at + quiet_time) ≡ true
    still = grind (arith, nat_tests)

pub told_shut : (l : LinkState) → IsShut (telling reason.Sequence l).link × ((telling reason.Sequence l).link.closed_at ≡ (telling reason.Sequence l).link.clock)
unfolding telling sending
told_shut l = (refl, refl)

down_state : (s : State) → is_down s ≡ true → s ≡ state.Down
down_state state.Quiet e = absurd (cc e)
down_state state.Down e = refl
down_state state.Start e = absurd (cc e)
down_state state.Up e = absurd (cc e)
down_state state.RetransmissionRequested e = absurd (cc e)
down_state state.RetransmissionRunning e = absurd (cc e)

pub and_second : (a b : Bool) → (a && b) ≡ true → b ≡ true
and_second true b e = e
and_second false b e = absurd (cc e)

limited_down : (l : LinkState) → may_open (limited l).link ≡ true → state_at l.clock l ≡ state.Down
unfolding limited
limited_down l = by_test (λ (step : Step). may_open step.link ≡ true → state_at l.clock l ≡ state.Down) (is_open l.phase && nat_le connection_limit l.sent) (telling reason.Sequence l) (silent l)
    (λ e may. absurd (later_not_down (telling reason.Sequence l).link (told_shut l).0 (told_shut l).1 (and_second (is_client _) _ may)))
    (λ e may. down_state (state_at l.clock l) (and_second (is_client l.identity.role) (is_down (state_at l.clock l)) may))

pub opens_down : (now : ℕ) (link : LinkState) → IsSettled now link → link.clock ≡ now → opens now link ≡ true → state_at now link ≡ state.Down
unfolding opens entered
opens_down now link settles clock may =
    subst (λ (n : ℕ). state_at n link ≡ state.Down) clock (limited_down link (ap (λ (l : LinkState). may_open (limited l).link) (sym settles) ∙ may))

requested_start : (l : LinkState) → (is_open (requesting l).link.phase ≡ true) × (is_up (requesting l).link.phase ≡ false)
unfolding requesting sending beginning
requested_start l = (refl, refl)

pub opening_start : (now : ℕ) (link : LinkState) → opens now link ≡ true → (is_open (opening now link).link.phase ≡ true) × (is_up (opening now link).link.phase ≡ false)
unfolding opening opens
opening_start now link may = by_test (λ (step : Step). may_open (entered now link).link ≡ true → (is_open step.link.phase ≡ true) × (is_up step.link.phase ≡ false)) (may_open (entered now link).link)
    (requesting (entered now link).link) (silent (entered now link).link) (λ e f. requested_start (entered now link).link) (λ e f. absurd (cc (e, f))) may
