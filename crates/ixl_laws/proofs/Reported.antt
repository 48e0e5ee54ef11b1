-- A section is kept as it was told last in the present connection.
use Rattle.std.proofs.Common.{◌≡◌, ℕ, Bool, true, false, if◌then◌else◌, not, List, [], ◌∷◌, ◌++◌, append-nil, length, refl, ap, sym, ◌∙◌, subst}
use Rattle.std.specs.Prelude.{◌==◌, ◌&&◌, ◌||◌, Option, Some, None, slice_get}
use Rattle.std.specs.Cmp.{nat_cmp_total, unsigned_tied}
use Rattle.std.specs.FinSet.{contains, contains-empty, contains-insert, contains-remove, empty, insert, remove}
use Rattle.std.specs.Ordering.{nat_cmp}
use Rattle.std.proofs.lemmas.Bool.{eq-eqb, eqb-true, false≢true}
use Rattle.ixl_state.specs.layout.Entries.{Site}
use Rattle.ixl_state.specs.bit_row.Places.{Places}
use Rattle.ixl_state.specs.rasta_core.Clock.{settled}
use Rattle.ixl_state.specs.rasta_core.Outbox.{OutboxState}
use Rattle.ixl_state.specs.rasta_pdu.PduRead.{reading}
use Rattle.ixl_state.specs.ixl_client.Client.{ClientState, is_outside}
use Rattle.ixl_state.specs.ixl_client.Made.{ActsOn, told_by_all}
use Rattle.ixl_state.specs.ixl_client.ClientSoFar as client
use Rattle.ixl_state.specs.ixl_client.ClientSoFar.{begun, calling}
use Rattle.ixl_state.specs.ixl_client.Step.{clocked, hearing, ticking}
use Rattle.ixl_state.specs.ixl_client.declared.indication.Indication.{Indication}
use Rattle.ixl_state.specs.ixl_spec.Commands.{commanded_by, moved_at_once, obeyed, refusal}
use Rattle.ixl_state.specs.ixl_spec.StepSoFar.{Detector, Node, Point, Signal, StepSoFar, begun_with, detector_after, empty_outbox, giving_aspect, giving_move, noted, with_detector, with_route}
use Rattle.ixl_state.specs.ixl_spec.State.{IxlState, KnownDetectorState, RouteState}
use Rattle.ixl_state.specs.ixl_spec.Step.{Commands, Datagram, Input, Reply, Tick, addressed, all_clocked, clocked_detector, detector_hearing, detector_ticking, given, is_told_occupied, known_point_hearing, known_point_ticking, known_signal_hearing, known_signal_ticking, looking, looks, node_hearing, occupied_heard, stepped, ticked}
use Rattle.ixl_state.specs.ixl_spec.Table.{Table}
use Rattle.ixl_state.specs.ixl_spec.declared.command.Command.{Command}
use Rattle.ixl_state.specs.ixl_spec.declared.command.Command.TheVariants as commands
use Rattle.ixl_state.specs.ixl_spec.declared.command.Refusal.{Refusal}
use Rattle.ixl_state.specs.First.{Beginning, key_of, new_detector_of, new_ixl}
use Rattle.ixl.specs.Interlocking.{HasStepped, InterlockingState, step_of}
use Rattle.ixl_laws.specs.Answered.{kept_by}
use Rattle.ixl_laws.specs.History.{last_told}
use Rattle.ixl_laws.specs.Nodes.{is_node, of_node}
use Rattle.ixl_laws.specs.Reported.{GoesOnReported, IsReported, told_at}
use Rattle.ixl_laws.proofs.Answered.{was_mapped}
use Rattle.ixl_laws.proofs.CalledSteps.{ticking_acts}
use Rattle.ixl_laws.proofs.Clients.{becomes_there, detector_client, mapped}
use Rattle.ixl_laws.proofs.Hears.{fallen_peer, inside_stays}
use Rattle.ixl_laws.proofs.HistoryLists.{last_joined}
use Rattle.ixl_laws.proofs.Nodes.{noted_elsewhere, noted_here}
use Rattle.ixl_laws.proofs.PickedByTest.{changed_elsewhere, some_same}
use Rattle.ixl_laws.proofs.Ruled.{IsKeptByChanges, along_holds, looking_holds, over_holds, ruled_holds, seen_holds, with_one_holds}

-- ---- what is heard

at_joined : (place : ℕ) (some more : List Indication) → told_at place (some ++ more) ≡ told_at place some ++ told_at place more
at_joined place [] more = refl
at_joined place (first ∷ others) more = cases (first.place == place) (at_joined place others more) where
  cases : (b : Bool) → told_at place (others ++ more) ≡ told_at place others ++ told_at place more →
      (if b then is_told_occupied first.state ∷ told_at place (others ++ more) else told_at place (others ++ more)) ≡ (if b then is_told_occupied first.state ∷ told_at place others else told_at place others) ++ told_at place more
  cases true rest = ap (λ list. is_told_occupied first.state ∷ list) rest
  cases false rest = rest

-- one report more
one_heard : (place other : ℕ) (occupied : Bool) (set : Places) → contains (if occupied then insert set other else remove set other) place ≡ (if other == place then occupied else contains set place)
one_heard place other occupied set = by_occupied occupied where
  tested : (place == other) ≡ (other == place)
  tested = by_test (other == place) refl where
    by_test : (b : Bool) → (other == place) ≡ b → (place == other) ≡ b
    by_test true is = eq-eqb place other (sym (eqb-true other place is))
    by_test false is = apart (place == other) refl where
      apart : (b : Bool) → (place == other) ≡ b → (place == other) ≡ false
      apart true same = absurd (false≢true (sym is ∙ eq-eqb other place (sym (eqb-true place other same))))
      apart false same = same

  put : (b : Bool) → b || contains set place ≡ (if b then true else contains set place)
  put true = refl
  put false = refl

  taken : (b : Bool) → not b && contains set place ≡ (if b then false else contains set place)
  taken true = refl
  taken false = refl

  by_occupied : (b : Bool) → contains (if b then insert set other else remove set other) place ≡ (if other == place then b else contains set place)
  by_occupied true = contains-insert nat_cmp_total set other place ∙ ap (λ b. b || contains set place) (unsigned_tied place other ∙ tested) ∙ put (other == place)
  by_occupied false = contains-remove nat_cmp_total set other place ∙ ap (λ b. not b && contains set place) (unsigned_tied place other ∙ tested) ∙ taken (other == place)

heard_last : (place : ℕ) (heard : List Indication) (set : Places) → contains (occupied_heard heard set) place ≡ last_told (contains set place) (told_at place heard)
heard_last place [] set = refl
heard_last place (first ∷ others) set = heard_last place others _ ∙ ap (λ b. last_told b (told_at place others)) (one_heard place first.place (is_told_occupied first.state) set) ∙ cases (first.place == place) where
  cases : (b : Bool) → last_told (if b then is_told_occupied first.state else contains set place) (told_at place others)
      ≡ last_told (contains set place) (if b then is_told_occupied first.state ∷ told_at place others else told_at place others)
  cases true = refl
  cases false = refl

-- ---- a detector

occupied_inside : (set : Places) (one : ClientState) → is_outside one.stage ≡ false → (detector_after set one).occupied ≡ set
unfolding detector_after
occupied_inside set one inside = rw inside refl

occupied_outside : (set : Places) (one : ClientState) → is_outside one.stage ≡ true → (detector_after set one).occupied ≡ empty
unfolding detector_after
occupied_outside set one outside = rw outside refl

-- the client of this detector is inside
inside_of : (set : Places) (one : ClientState) → is_outside (detector_after set one).client.stage ≡ false → is_outside one.stage ≡ false
inside_of set one inside = ap (λ (c : ClientState). is_outside c.stage) (sym (detector_client set one)) ∙ inside

module _ (now place : ℕ) (before : KnownDetectorState) (told : List Indication) where
  abbrev kept : List Indication
  kept = kept_by (clocked now before.client) told

  abbrev all_told : StepSoFar → List Indication
  all_told part = kept ++ told_by_all before.client.peer (of_node (Detector place) part.acted)

  record Fine (part : StepSoFar) : Type 0 where
    detector : KnownDetectorState
    there : slice_get part.ixl.detectors place ≡ Some detector
    peer : detector.client.peer ≡ before.client.peer
    reported : IsReported (all_told part) detector

  same_fine : (a b : StepSoFar) → b.ixl.detectors ≡ a.ixl.detectors → of_node (Detector place) b.acted ≡ of_node (Detector place) a.acted → Fine a → Fine b
  same_fine a b detectors acted is = record {
    detector = is.detector;
    there = ap (λ (list : List KnownDetectorState). slice_get list place) detectors ∙ is.there;
    peer = is.peer;
    reported = subst (λ list. IsReported (kept ++ told_by_all before.client.peer list) is.detector) (sym acted) is.reported;
  }

  -- ---- the clock

  clocked_peer : (clocked now before.client).peer ≡ before.client.peer
  unfolding clocked
  clocked_peer = fallen_peer (record before.client { link = settled now before.client.link })

  clocked_stage : is_outside (clocked now before.client).stage ≡ false → (clocked now before.client).stage ≡ before.client.stage
  unfolding clocked
  clocked_stage inside = inside_stays (record before.client { link = settled now before.client.link }) inside

  -- before anything is heard a section is kept as it was told, also where the connection is gone
  begins_as_told : IsReported told before → (own : ℕ) → contains (clocked_detector now before).occupied own ≡ last_told false (told_at own kept)
  begins_as_told was own = by_stage (is_outside (clocked now before.client).stage) refl where
    by_stage : (b : Bool) → is_outside (clocked now before.client).stage ≡ b → contains (clocked_detector now before).occupied own ≡ last_told false (told_at own (if b then [] else told))
    by_stage true outside = ap (λ (set : Places). contains set own) (occupied_outside before.occupied (clocked now before.client) outside) ∙ contains-empty nat_cmp own
    by_stage false inside = ap (λ (set : Places). contains set own) (occupied_inside before.occupied (clocked now before.client) inside) ∙ was (ap is_outside (sym (clocked_stage inside)) ∙ inside) own

  module _ (old : InterlockingState) (is : slice_get old.state.ixl.detectors place ≡ Some before) (was : IsReported told before) (acts : (bytes : List ℕ) (part : client.ClientSoFar) → ActsOn now bytes part (hearing now bytes part))
      (same_receipt : (bytes : List ℕ) (part : client.ClientSoFar) → (hearing now bytes part).client.peer ≡ part.client.peer) (same_tick : (part : client.ClientSoFar) → (ticking now part).client.peer ≡ part.client.peer) where
    abbrev table : Table
    table = old.state.sited.table

    abbrev first : StepSoFar
    first = begun_with (all_clocked now old.state.ixl) empty_outbox

    first_there : slice_get first.ixl.detectors place ≡ Some (clocked_detector now before)
    unfolding all_clocked
    first_there = mapped (clocked_detector now) place old.state.ixl.detectors before is

    first_peer : (clocked_detector now before).client.peer ≡ before.client.peer
    first_peer = ap (λ (c : ClientState). c.peer) (detector_client before.occupied (clocked now before.client)) ∙ clocked_peer

    begins : Fine first
    unfolding of_node told_by_all
    begins = record {
      detector = clocked_detector now before;
      there = first_there;
      peer = first_peer;
      reported = λ inside own. begins_as_told was own ∙ ap (λ list. last_told false (told_at own list)) (sym (append-nil kept));
    }

    -- ---- a datagram

    module _ (bytes : List ℕ) where
      abbrev done : client.ClientSoFar
      done = hearing now bytes (begun (clocked_detector now before).client empty_outbox)

      abbrev base : StepSoFar
      base = with_detector place (detector_after (occupied_heard done.heard (clocked_detector now before).occupied) done.client) (noted (Detector place) done first)

      heard_here : Fine base
      unfolding of_node
      heard_here = record {
        detector = detector_after (occupied_heard done.heard (clocked_detector now before).occupied) done.client;
        there = becomes_there place _ first.ixl.detectors (clocked_detector now before) first_there;
        peer = ap (λ (c : ClientState). c.peer) (detector_client (occupied_heard done.heard (clocked_detector now before).occupied) done.client) ∙ same_receipt bytes (begun (clocked_detector now before).client empty_outbox) ∙ first_peer;
        reported = λ inside own.
            ap (λ (set : Places). contains set own) (occupied_inside (occupied_heard done.heard (clocked_detector now before).occupied) done.client (inside_of _ done.client inside))
            ∙ heard_last own done.heard (clocked_detector now before).occupied ∙ ap (λ b. last_told b (told_at own done.heard)) (begins_as_told was own)
            ∙ sym (last_joined false (told_at own kept) (told_at own done.heard)) ∙ ap (last_told false) (sym (at_joined own kept done.heard))
            ∙ ap (λ list. last_told false (told_at own (kept ++ list))) heard_is;
      } where
        acting : ActsOn now bytes (begun (clocked_detector now before).client empty_outbox) done
        acting = acts bytes (begun (clocked_detector now before).client empty_outbox)

        heard_is : done.heard ≡ told_by_all before.client.peer (of_node (Detector place) base.acted)
        heard_is = acting.heard ∙ ap (λ peer. told_by_all peer acting.items) first_peer ∙ ap (told_by_all before.client.peer) (sym (noted_here (Detector place) [] done.acted ∙ acting.acted))

      -- what is heard of another controller
      elsewhere : (node : Node) (part : StepSoFar) (made : client.ClientSoFar) → is_node (Detector place) node ≡ false → slice_get part.ixl.detectors place ≡ slice_get first.ixl.detectors place →
          part.acted ≡ (noted node made first).acted → Fine part
      elsewhere node part made apart same acted = record {
        detector = begins.detector;
        there = same ∙ begins.there;
        peer = begins.peer;
        reported = subst (λ list. IsReported (kept ++ told_by_all before.client.peer list) begins.detector)
            (sym (ap (of_node (Detector place)) acted ∙ noted_elsewhere (Detector place) node first.acted made.acted apart)) begins.reported;
      }

      detector_here : (other : ℕ) (detector : KnownDetectorState) → slice_get first.ixl.detectors other ≡ Some detector → other ≡ place →
          Fine (with_detector other (detector_after (occupied_heard (hearing now bytes (begun detector.client empty_outbox)).heard detector.occupied) (hearing now bytes (begun detector.client empty_outbox)).client)
          (noted (Detector other) (hearing now bytes (begun detector.client empty_outbox)) first))
      detector_here other detector found same =
          subst (λ n. Fine (with_detector n (detector_after (occupied_heard (hearing now bytes (begun detector.client empty_outbox)).heard detector.occupied) (hearing now bytes (begun detector.client empty_outbox)).client)
          (noted (Detector n) (hearing now bytes (begun detector.client empty_outbox)) first))) (sym same)
          (subst (λ (d : KnownDetectorState). Fine (with_detector place (detector_after (occupied_heard (hearing now bytes (begun d.client empty_outbox)).heard d.occupied) (hearing now bytes (begun d.client empty_outbox)).client)
          (noted (Detector place) (hearing now bytes (begun d.client empty_outbox)) first))) (some_same (sym first_there ∙ ap (slice_get first.ixl.detectors) (sym same) ∙ found)) heard_here)

      detector_fine : (other : ℕ) (detector : KnownDetectorState) → slice_get first.ixl.detectors other ≡ Some detector →
          Fine (with_detector other (detector_after (occupied_heard (hearing now bytes (begun detector.client empty_outbox)).heard detector.occupied) (hearing now bytes (begun detector.client empty_outbox)).client)
          (noted (Detector other) (hearing now bytes (begun detector.client empty_outbox)) first))
      detector_fine other detector found = by_place (other == place) refl where
        by_place : (b : Bool) → (other == place) ≡ b →
            Fine (with_detector other (detector_after (occupied_heard (hearing now bytes (begun detector.client empty_outbox)).heard detector.occupied) (hearing now bytes (begun detector.client empty_outbox)).client)
            (noted (Detector other) (hearing now bytes (begun detector.client empty_outbox)) first))
        by_place true same = detector_here other detector found (eqb-true other place same)
        by_place false apart = elsewhere (Detector other) _ (hearing now bytes (begun detector.client empty_outbox)) apart
            (changed_elsewhere _ other place first.ixl.detectors (λ same. false≢true (sym apart ∙ eq-eqb other place (sym same)))) refl

      route_fine : (number : ℕ) (change : RouteState → RouteState) (part : StepSoFar) → Fine part → Fine (with_route number change part)
      route_fine number change part is = same_fine part (with_route number change part) refl refl is

      node_fine : (node : Node) → Fine (node_hearing now table bytes node first)
      unfolding node_hearing known_signal_hearing known_point_hearing detector_hearing
      node_fine (Signal other) = with_one_holds Fine (slice_get first.ixl.known_signals other) _ first (λ known_signal found. elsewhere (Signal other) _ (hearing now bytes (begun known_signal.client empty_outbox)) refl refl refl) begins
      node_fine (Point other) = with_one_holds Fine (slice_get first.ixl.known_points other) _ first (λ known_point found. elsewhere (Point other) _ (hearing now bytes (begun known_point.client empty_outbox)) refl refl refl) begins
      node_fine (Detector other) = with_one_holds Fine (slice_get table.detectors other) _ first (λ sections listed. with_one_holds Fine (slice_get first.ixl.detectors other) _ first (λ detector found.
          along_holds Fine (looking table) (looking_holds Fine route_fine table) (looks sections detector (hearing now bytes (begun detector.client empty_outbox)).heard (hearing now bytes (begun detector.client empty_outbox)).client) _
          (detector_fine other detector found)) begins) begins

    -- ---- the input, the rules and ticks

    commanded_detectors : (cause : Option Refusal) (command : Command) (ixl : IxlState) → (commanded_by now cause command ixl).detectors ≡ ixl.detectors
    unfolding obeyed
    commanded_detectors (Some refused) command ixl = refl
    commanded_detectors None (commands.Request route) ixl = refl
    commanded_detectors None (commands.Cancel route) ixl = refl
    commanded_detectors None commands.Resume ixl = refl
    commanded_detectors None (commands.Release route) ixl = refl
    commanded_detectors None (commands.Move point side) ixl = refl
    commanded_detectors None (commands.Close named) ixl = refl
    commanded_detectors None (commands.Open named) ixl = refl

    move_fine : (point : ℕ) (side : _) (part : StepSoFar) → Fine part → Fine (giving_move now point side part)
    unfolding giving_move
    move_fine point side part is = with_one_holds Fine (slice_get part.ixl.known_points point) _ part (λ known_point found. same_fine part _ refl (noted_elsewhere (Detector place) (Point point) part.acted _ refl) is) is

    moved_fine : (cause : Option Refusal) (command : Command) (part : StepSoFar) → Fine part → Fine (moved_at_once now cause command part)
    unfolding moved_at_once
    moved_fine (Some refused) command part is = is
    moved_fine None (commands.Move point side) part is = move_fine point.0 side part is
    moved_fine None (commands.Request route) part is = is
    moved_fine None (commands.Cancel route) part is = is
    moved_fine None commands.Resume part is = is
    moved_fine None (commands.Release route) part is = is
    moved_fine None (commands.Close named) part is = is
    moved_fine None (commands.Open named) part is = is

    given_fine : (input : Input) → Fine (given now table (key_of old.state.sited.site) input first)
    unfolding given
    given_fine Tick = begins
    given_fine (Commands command) =
        let cause = refusal now table command first.ixl
        in moved_fine cause command (record first { ixl = commanded_by now cause command first.ixl })
        (same_fine first (record first { ixl = commanded_by now cause command first.ixl }) (commanded_detectors cause command first.ixl) refl begins)
    given_fine (Datagram bytes) = with_one_holds Fine (addressed (reading (key_of old.state.sited.site) bytes) first.ixl) (node_hearing now table bytes) first (λ node found. node_fine bytes node) begins

    aspect_fine : (signal : ℕ) (aspect : _) (part : StepSoFar) → Fine part → Fine (giving_aspect now signal aspect part)
    unfolding giving_aspect
    aspect_fine signal aspect part is = with_one_holds Fine (slice_get part.ixl.known_signals signal) _ part (λ known_signal found. same_fine part _ refl (noted_elsewhere (Detector place) (Signal signal) part.acted _ refl) is) is

    changes_fine : IsKeptByChanges now Fine
    changes_fine = record { route = λ number change part is. same_fine part (with_route number change part) refl refl is; aspect = aspect_fine; move = λ point side part available is. move_fine point side part is }

    ticking_stage : (one : ClientState) (outbox : OutboxState) → is_outside (ticking now (begun one outbox)).client.stage ≡ false → (ticking now (begun one outbox)).client.stage ≡ one.stage
    unfolding ticking calling
    ticking_stage one outbox inside = inside_stays _ inside

    beaten_here : (part : StepSoFar) (is : Fine part) → Fine (with_detector place (detector_after is.detector.occupied (ticking now (begun is.detector.client part.outbox)).client) (noted (Detector place) (ticking now (begun is.detector.client part.outbox)) part))
    beaten_here part is = record {
      detector = detector_after is.detector.occupied made.client;
      there = becomes_there place _ part.ixl.detectors is.detector is.there;
      peer = ap (λ (c : ClientState). c.peer) (detector_client is.detector.occupied made.client) ∙ same_tick (begun is.detector.client part.outbox) ∙ is.peer;
      reported = subst (λ list. IsReported (kept ++ told_by_all before.client.peer list) (detector_after is.detector.occupied made.client))
          (sym (noted_here (Detector place) part.acted made.acted ∙ ap (λ list. of_node (Detector place) part.acted ++ list) (ticking_acts now (begun is.detector.client part.outbox)) ∙ append-nil (of_node (Detector place) part.acted)))
          (λ inside own. ap (λ (set : Places). contains set own) (occupied_inside is.detector.occupied made.client (inside_of _ made.client inside))
          ∙ is.reported (ap is_outside (sym (ticking_stage is.detector.client part.outbox (inside_of _ made.client inside))) ∙ inside_of _ made.client inside) own);
    } where
      made : client.ClientSoFar
      made = ticking now (begun is.detector.client part.outbox)

    beaten : (other : ℕ) (part : StepSoFar) → Fine part → Fine (detector_ticking now other part)
    unfolding detector_ticking
    beaten other part is = with_one_holds Fine (slice_get part.ixl.detectors other) _ part (λ detector found. by_place other detector found (other == place) refl) is where
      beat_at : ℕ → KnownDetectorState → StepSoFar
      beat_at n d = with_detector n (detector_after d.occupied (ticking now (begun d.client part.outbox)).client) (noted (Detector n) (ticking now (begun d.client part.outbox)) part)

      by_place : (n : ℕ) (detector : KnownDetectorState) → slice_get part.ixl.detectors n ≡ Some detector → (b : Bool) → (n == place) ≡ b → Fine (beat_at n detector)
      by_place n detector found true same = subst (λ m. Fine (beat_at m detector)) (sym (eqb-true n place same))
          (subst (λ (d : KnownDetectorState). Fine (beat_at place d)) (some_same (sym is.there ∙ ap (slice_get part.ixl.detectors) (sym (eqb-true n place same)) ∙ found)) (beaten_here part is))
      by_place n detector found false apart = record {
        detector = is.detector;
        there = changed_elsewhere _ n place part.ixl.detectors (λ same. false≢true (sym apart ∙ eq-eqb n place (sym same))) ∙ is.there;
        peer = is.peer;
        reported = subst (λ list. IsReported (kept ++ told_by_all before.client.peer list) is.detector) (sym (noted_elsewhere (Detector place) (Detector n) part.acted (ticking now (begun detector.client part.outbox)).acted apart)) is.reported;
      }

    ticked_fine : (input : Input) (part : StepSoFar) → Fine part → Fine (ticked now input part)
    unfolding ticked known_signal_ticking known_point_ticking
    ticked_fine (Datagram bytes) part is = is
    ticked_fine (Commands command) part is = is
    ticked_fine Tick part is =
        over_holds Fine (detector_ticking now) beaten (length part.ixl.detectors) _
        (over_holds Fine (known_point_ticking now) (λ n mid holds. with_one_holds Fine (slice_get mid.ixl.known_points n) _ mid (λ kept_point found. same_fine mid _ refl (noted_elsewhere (Detector place) (Point n) mid.acted _ refl) holds) holds) (length part.ixl.known_points) _
        (over_holds Fine (known_signal_ticking now) (λ n mid holds. with_one_holds Fine (slice_get mid.ixl.known_signals n) _ mid (λ kept_signal found. same_fine mid _ refl (noted_elsewhere (Detector place) (Signal n) mid.acted _ refl) holds) holds) (length part.ixl.known_signals) part is))

    pub goes_on_reported : (input : Input) (new : InterlockingState) (answer : Reply) (after : KnownDetectorState) → HasStepped now input old new answer → slice_get new.state.ixl.detectors place ≡ Some after → GoesOnReported now input old place before after told
    unfolding stepped
    goes_on_reported input new answer after step also =
        let ends : Fine (step_of now input old.state) = ticked_fine input _ (ruled_holds Fine now changes_fine table _ (seen_holds Fine (λ number change part is. same_fine part (with_route number change part) refl refl is) table _ (given_fine input)))
        in subst (IsReported (all_told (step_of now input old.state))) (some_same (sym ends.there ∙ ap (λ (ixl : IxlState). slice_get ixl.detectors place) (sym step.ixl) ∙ also)) ends.reported

-- ---- an interlocking that was just made

pub first_reported : (site : Site) (table : Table) (begins : Beginning) (place : ℕ) (detector : KnownDetectorState) → slice_get (new_ixl site table begins).detectors place ≡ Some detector → IsReported [] detector
unfolding new_ixl
first_reported site table begins place detector is inside own =
    let made = was_mapped (new_detector_of site begins) place site.detectors detector is
    in ap (λ (d : KnownDetectorState). contains d.occupied own) made.1 ∙ contains-empty nat_cmp own
