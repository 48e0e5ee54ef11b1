-- A point that awaits no report hears none in a step: after the clock and the input it is as before, where its link is still in its connection.
use Rattle.simulator_recovery.proofs.Words.Basics.{◌≡◌, ◌≢◌, ◌⊎◌, inl, inr, ℕ, Bool, true, false, if◌then◌else◌, List, Option, Some, None, slice_get, refl, sym, ap, subst, ◌∙◌, empty, false≢true, same_Some}
use Rattle.simulator_recovery.proofs.Words.Links.{settled, reading_of, is_up, reading as pdu_reading, Key}
use Rattle.simulator_recovery.proofs.Words.Controllers.{Protocol, Side}
use Rattle.simulator_recovery.proofs.Words.Interlockings.{ClientState, is_available, is_outside, ClientSoFar, begun, clocked, hearing, Indication, Stage, count, IxlState, KnownPointState, Commands, Datagram, Input, Tick, addressed, all_clocked, clocked_known_point, detector_hearing, given, known_point_hearing, known_signal_hearing, looking, looking_by, looks, node_hearing, occupied_heard, side_heard, Detector, Node, Point, Signal, StepSoFar, begun_with, detector_after, empty_outbox, known_point_after, noted, with_detector, with_one, Table, was_authorised, Command}
use Rattle.simulator_recovery.proofs.Words.Stations.{Places, Site, key_of, WorldState, IsReached}
use Rattle.simulator_recovery.proofs.Words.Recovery.{known_in_step}
use Rattle.simulator_recovery.proofs.Lemmas.Ground.AtLink.{mapped}
use Rattle.simulator_recovery.proofs.Lemmas.RoutesComing.DueKnown.{HearsNothing, always_speak, is_completed, point_clocked, point_hears, still_clocked, available_inside}
use Rattle.simulator_recovery.proofs.Lemmas.Ground.DueShapes.{along_keeps, one_keeps, over_keeps, route_keeps, where_keeps}
use Rattle.simulator_recovery.proofs.Lemmas.Ground.IxlSoFar.{set_at}

-- A point awaits no report, and is known at the same side, if any, as another, and moved for the same routes.
pub record IsSame (was known : KnownPointState) : Type 0 where
  pub available : is_available known.client.stage ≡ true
  pub side : known.side ≡ was.side
  pub moved : known.moved ≡ was.moved

-- what is kept of a point whose client isn't outside
pub record Keeps (side : Option Side) (moved : Places) (client : ClientState) (known : KnownPointState) : Type 0 where
  pub client_is : known.client ≡ client
  pub side_is : known.side ≡ side
  pub moved_is : known.moved ≡ moved

pub after_keeps : (side : Option Side) (moved : Places) (client : ClientState) → is_outside (known_point_after side moved client).client.stage ≡ false → Keeps side moved client (known_point_after side moved client)
unfolding known_point_after
after_keeps side moved client = choose (is_outside client.stage) refl
  where
    none : KnownPointState
    none = record { client = client; side = None; moved = empty }

    some : KnownPointState
    some = record { client = client; side = side; moved = moved }

    choose : (b : Bool) → is_outside client.stage ≡ b → is_outside (if b then none else some).client.stage ≡ false → Keeps side moved client (if b then none else some)
    choose true e inside = absurd (false≢true (sym inside ∙ e))
    choose false e inside = record { client_is = refl; side_is = refl; moved_is = refl }

-- ---- the clock

-- after the clock it is as before, where it is up by it
same_clocked : (now : ℕ) (known : KnownPointState) → is_up (settled now known.client.link).phase ≡ true → is_available known.client.stage ≡ true → IsSame known (clocked_known_point now known)
unfolding known_point_after
same_clocked now known up available = choose (is_outside after.stage) refl
  where
    after : ClientState
    after = clocked now known.client

    same : is_available after.stage ≡ true
    same = ap is_available (still_clocked now known.client up) ∙ available

    none : KnownPointState
    none = record { client = after; side = None; moved = empty }

    some : KnownPointState
    some = record { client = after; side = known.side; moved = known.moved }

    choose : (b : Bool) → is_outside after.stage ≡ b → IsSame known (if b then none else some)
    choose true e = absurd (false≢true (sym (available_inside after.stage same) ∙ e))
    choose false e = record { available = same; side = refl; moved = refl }

-- ---- what is heard

-- this point is as before, where it isn't outside
abbrev pub SameInside : ℕ → KnownPointState → IxlState → Type 0
SameInside point was ixl = (known : KnownPointState) → slice_get ixl.known_points point ≡ Some known → is_outside known.client.stage ≡ false → IsSame was known

module _ (now : ℕ) (table : Table) (point : ℕ) (was : KnownPointState) where
  abbrev Inside : StepSoFar → Type 0
  Inside part = SameInside point was part.ixl

  -- the points of an interlocking speak as such
  abbrev Speak : StepSoFar → Type 0
  Speak part = (place : ℕ) (known : KnownPointState) → slice_get part.ixl.known_points place ≡ Some known → known.client.peer.protocol ≡ Protocol.Point

  looking_inside : (look : ℕ × Bool) (part : StepSoFar) → Inside part → Inside (looking table look part)
  unfolding looking_by
  looking_inside look part is = over_keeps Inside (looking_by look.0 look.1 table) (λ number q all. route_keeps Inside table number _ q (λ row one there here. where_keeps Inside (was_authorised one.phase) q _
      (λ due. all) all) all) (count table) part is

  module _ (part : StepSoFar) (speak : Speak part) (known : KnownPointState) (there : slice_get part.ixl.known_points point ≡ Some known) (same : IsSame was known) where
    stays : Inside part
    stays other e inside = subst (IsSame was) (same_Some known other (sym there ∙ e)) same

    hearing_inside : (bytes : List ℕ) (node : Node) → Inside (node_hearing now table bytes node part)
    unfolding node_hearing known_signal_hearing known_point_hearing detector_hearing
    hearing_inside bytes (Signal place) = one_keeps Inside (slice_get part.ixl.known_signals place) _ part (λ one e. stays) stays
    hearing_inside bytes (Point place) = one_keeps Inside (slice_get part.ixl.known_points place) _ part (λ one e. λ later f inside.
        let done = hearing now bytes (begun one.client part.outbox)
        in heard_here one done later place e inside (λ still. point_hears now bytes one.client part.outbox (completed_there one place e still.0) (speak place one e) still.1)
        (set_at place (known_point_after (side_heard done.heard one.side) one.moved done.client) part.ixl.known_points point later f)) stays
      where
        is_here : (one : KnownPointState) (place : ℕ) → slice_get part.ixl.known_points place ≡ Some one → point ≡ place → known ≡ one
        is_here one place e here = same_Some known one (sym there ∙ (ap (slice_get part.ixl.known_points) here ∙ e))

        completed_there : (one : KnownPointState) (place : ℕ) → slice_get part.ixl.known_points place ≡ Some one → point ≡ place → one.client.stage ≡ Stage.Completed
        completed_there one place e here = is_completed one.client.stage (ap (λ (k : KnownPointState). is_available k.client.stage) (sym (is_here one place e here)) ∙ same.available)

        heard_here : (one : KnownPointState) (done : ClientSoFar) (later : KnownPointState) (place : ℕ) → slice_get part.ixl.known_points place ≡ Some one → is_outside later.client.stage ≡ false
            → ((point ≡ place) × (is_outside done.client.stage ≡ false) → HearsNothing done)
            → ((point ≡ place) × (later ≡ known_point_after (side_heard done.heard one.side) one.moved done.client)) ⊎ ((point ≢ place) × (slice_get part.ixl.known_points point ≡ Some later))
            → IsSame was later
        heard_here one done later place e inside hears (inr (differ, f)) = stays later f inside
        heard_here one done later place e inside hears (inl (here, so)) =
            let kept = after_keeps (side_heard done.heard one.side) one.moved done.client (ap (λ (k : KnownPointState). is_outside k.client.stage) (sym so) ∙ inside)
            in let nothing = hears (here, ap (λ (c : ClientState). is_outside c.stage) (sym kept.client_is) ∙ (ap (λ (k : KnownPointState). is_outside k.client.stage) (sym so) ∙ inside))
            in record {
              available = ap (λ (k : KnownPointState). is_available k.client.stage) so ∙ (ap (λ (c : ClientState). is_available c.stage) kept.client_is ∙ ap is_available nothing.completed);
              side = ap (λ (k : KnownPointState). k.side) so ∙ (kept.side_is ∙ (ap (λ (heard : List Indication). side_heard heard one.side) nothing.none
                  ∙ (ap (λ (k : KnownPointState). k.side) (sym (is_here one place e here)) ∙ same.side)));
              moved = ap (λ (k : KnownPointState). k.moved) so ∙ (kept.moved_is ∙ (ap (λ (k : KnownPointState). k.moved) (sym (is_here one place e here)) ∙ same.moved));
            }
    hearing_inside bytes (Detector place) = one_keeps Inside (slice_get table.detectors place) _ part (λ sections f. one_keeps Inside (slice_get part.ixl.detectors place) _ part (λ one e.
        let done = hearing now bytes (begun one.client part.outbox)
        in along_keeps Inside (looking table) looking_inside (looks sections one done.heard done.client)
        (with_detector place (detector_after (occupied_heard done.heard one.occupied) done.client) (noted (Detector place) done part)) stays) stays) stays

    heard_at : (bytes : List ℕ) (found : Option Node) → Inside (with_one found (node_hearing now table bytes) part)
    heard_at bytes None = stays
    heard_at bytes (Some node) = hearing_inside bytes node

    given_inside : (key : Key) (input : Input) → ((command : Command) → input ≡ Commands command → ⊥) → Inside (given now table key input part)
    unfolding given
    given_inside key Tick none = stays
    given_inside key (Datagram bytes) none = heard_at bytes (addressed (pdu_reading key bytes) part.ixl)
    given_inside key (Commands command) none = absurd (none command refl)

-- After the clock and the input of a step in which no command comes.
pub same_heard : (site : Site) (table : Table) (input : Input) (world : WorldState) (point : ℕ) (was : KnownPointState) → IsReached site table world → ((command : Command) → input ≡ Commands command → ⊥)
    → slice_get world.interlocking.ixl.known_points point ≡ Some was → is_available was.client.stage ≡ true → is_up (settled (reading_of world.interlocking.clock) was.client.link).phase ≡ true
    → SameInside point was (known_in_step site table input world)
unfolding all_clocked
same_heard site table input world point was reached none there available up = given_inside now table point was start (point_clocked now world.interlocking.ixl (always_speak site table world reached))
    (clocked_known_point now was) (mapped (clocked_known_point now) world.interlocking.ixl.known_points point was there) (same_clocked now was up available) (key_of site) input none
  where
    now : ℕ
    now = reading_of world.interlocking.clock

    start : StepSoFar
    start = begun_with (all_clocked now world.interlocking.ixl) empty_outbox
