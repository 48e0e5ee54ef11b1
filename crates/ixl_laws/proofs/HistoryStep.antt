-- What a route keeps of its sections and its approach is what was told since authority was given.
use Rattle.std.proofs.Common.{◌≡◌, ◌↔◌, inl, inr, ℕ, zero, suc, Bool, true, false, if◌then◌else◌, List, [], ◌∷◌, ◌++◌, append-nil, length, ◌<◌, arith, refl, ap, sym, ◌∙◌, subst}
use Rattle.std.specs.Prelude.{◌==◌, ◌&&◌, ◌||◌, not, map, Option, Some, None, slice_get}
use Rattle.std.specs.FinSet.{contains, contains-empty}
use Rattle.std.specs.List.{Contains, list_all}
use Rattle.std.specs.Ordering.{nat_cmp}
use Rattle.std.proofs.lemmas.Bool.{eqb-true, false≢true, true≢false}
use Rattle.std.proofs.lemmas.List.Sums.{AllPass-from_list_all, list_all-from_AllPass}
use Rattle.ixl_state.specs.release.Passage.{PassageState, passage_after}
use Rattle.ixl_state.specs.rasta_pdu.PduRead.{reading}
use Rattle.ixl_state.specs.ixl_client.Client.{ClientState, is_ready}
use Rattle.ixl_state.specs.ixl_client.Made.{ActsOn, told_by_all}
use Rattle.ixl_state.specs.ixl_client.ClientSoFar as client
use Rattle.ixl_state.specs.ixl_client.ClientSoFar.{begun}
use Rattle.ixl_state.specs.ixl_client.Step.{commanding, hearing}
use Rattle.ixl_state.specs.ixl_client.declared.command.Command.TheVariants as given_commands
use Rattle.ixl_state.specs.ixl_client.declared.indication.Indication.{Indication}
use Rattle.ixl_state.specs.ixl_spec.Commands.{commanded_by, moved_at_once, obeyed, refusal, released_at, set_anew}
use Rattle.ixl_state.specs.ixl_spec.Due.{At, IsClear}
use Rattle.ixl_state.specs.ixl_spec.StepSoFar.{Detector, Node, Point, Signal, StepSoFar, along, begun_with, detector_after, empty_outbox, giving_aspect, giving_move, noted, with_detector, with_one}
use Rattle.ixl_state.specs.ixl_spec.Rules.{count}
use Rattle.ixl_state.specs.ixl_spec.State.{IxlState, KnownDetectorState, RouteState}
use Rattle.ixl_state.specs.ixl_spec.Step.{Commands, Datagram, Input, Reply, Tick, addressed, all_clocked, client_at, detector_hearing, given, known_point_hearing, known_signal_hearing, looking, looks, node_hearing, occupied_heard, stepped, ticked, told_before, told_now}
use Rattle.ixl_state.specs.ixl_spec.Table.{Row, Table, at, passes}
use Rattle.ixl_state.specs.ixl_spec.View.{has_authority, is_approach_clear, is_clear, was_authorised}
use Rattle.ixl_state.specs.ixl_spec.declared.command.Command.{Command}
use Rattle.ixl_state.specs.ixl_spec.declared.command.Command.TheVariants as commands
use Rattle.ixl_state.specs.ixl_spec.declared.command.Refusal.{Refusal}
use Rattle.ixl_state.specs.First.{key_of}
use Rattle.ixl.specs.Interlocking.{HasStepped, InterlockingState, step_of}
use Rattle.ixl_laws.specs.Called.{acted_at}
use Rattle.ixl_laws.specs.History.{BeginsTold, GoesOnTold, History, IsApproachClear, TellsOf, told_by_detector, told_by_node, told_in, told_if_listed, kept_of, last_told, reports_of}
use Rattle.ixl_laws.specs.Nodes.{of_node}
use Rattle.ixl_laws.proofs.CalledSteps.{commanding_acts}
use Rattle.ixl_laws.proofs.Clients.{becomes_there, detection_at, detector_client, detector_kept}
use Rattle.ixl_laws.proofs.RoutesGoOn.{request_free}
use Rattle.ixl_laws.proofs.OnPath.{found_at}
use Rattle.ixl_laws.proofs.HistoryLists.{approached_more, before_told, begins_approached, look_all, looks_at, looks_joined, now_told, occupied_is, seen_after, seen_is, seen_more, told_last}
use Rattle.ixl_laws.proofs.HistoryParts.{Has, HasBegun, IsKept, IsUnauthorised, Keeps, Of, along_looks, along_unauthorised, authorised_set, changes_has, changing_all, move_of, ruled_begins, ruled_kept, seen_unauthorised, seen_watched, ticked_of, watched}
use Rattle.ixl_laws.proofs.Nodes.{node_self, of_itself}
use Rattle.ixl_laws.proofs.PickedByTest.{both, none_is, some_same}
use Rattle.ixl_laws.proofs.Ruled.{IsKeptByChanges, looking_holds, along_holds, ruled_holds, seen_holds, with_one_holds}

-- ---- what is known of the approach

at_is : {A : Type 0} (list : List A) (place : ℕ) (test : A → Bool) (Holds : A → Type 0) → ((one : A) → test one ≡ true ↔ Holds one) → at list place test ≡ true ↔ At list place Holds
unfolding at
at_is {A} list place test Holds each = by_kept (slice_get list place) refl where
  by_kept : (kept : Option A) → slice_get list place ≡ kept → passes test kept ≡ true ↔ At list place Holds
  by_kept None is = (λ passed. absurd (false≢true passed), λ found. absurd (none_is (sym is ∙ found.1)))
  by_kept (Some one) is = (λ passed. (one, is, (each one).0 passed), λ found. (each one).1 (subst Holds (some_same (sym found.1 ∙ is)) found.2))

both_is : (a b : Bool) → a && not b ≡ true ↔ (a ≡ true) × (b ≡ false)
both_is true true = (λ passed. absurd (false≢true passed), λ is. absurd (true≢false is.1))
both_is true false = (λ passed. (refl, refl), λ is. refl)
both_is false b = (λ passed. absurd (false≢true passed), λ is. absurd (false≢true is.0))

clear_is : (table : Table) (ixl : IxlState) (section : ℕ) → is_clear table ixl section ≡ true ↔ IsClear table ixl section
unfolding is_clear
clear_is table ixl section = at_is table.reporters section _ _ (λ reporter. at_is ixl.detectors reporter.0 _ _ (λ detector. both_is (is_ready detector.client.stage) (contains detector.occupied reporter.1)))

some_there : (list : List ℕ) → not (length list == 0) ≡ true ↔ (list ≡ [] → ⊥)
some_there [] = (λ passed. absurd (false≢true passed), λ apart. absurd (apart refl))
some_there (first ∷ others) = (λ passed none. some_is_none none, λ apart. by_test (length (first ∷ others) == 0) refl) where
  some_is_none : first ∷ others ≡ [] → ⊥
  some_is_none none = absurd (omega (arith, ap length none))

  by_test : (b : Bool) → (length (first ∷ others) == 0) ≡ b → not b ≡ true
  by_test false is = refl
  by_test true is = absurd (omega (arith, eqb-true (length (first ∷ others)) 0 is))

approach_is : (table : Table) (ixl : IxlState) (row : Row) → is_approach_clear table ixl row ≡ true ↔ IsApproachClear table ixl row
approach_is table ixl row = (to, back) where
  to : is_approach_clear table ixl row ≡ true → IsApproachClear table ixl row
  to passed =
      let tests = both (not (length row.approach == 0)) (list_all (is_clear table ixl) row.approach) passed
      in ((some_there row.approach).0 tests.0, λ place other within. (clear_is table ixl _).0 (AllPass-from_list_all (is_clear table ixl) row.approach tests.1 place other within))

  back : IsApproachClear table ixl row → is_approach_clear table ixl row ≡ true
  back is = rw ((some_there row.approach).1 is.0) (list_all-from_AllPass (is_clear table ixl) row.approach (λ place other within. (clear_is table ixl _).1 (is.1 place other within)))

is_within : {A : Type 0} (list : List A) (place : ℕ) (one : A) → slice_get list place ≡ Some one → place < length list
is_within [] place one is = absurd (none_is is)
is_within (first ∷ others) zero one is = omega arith
is_within (first ∷ others) (suc place) one is = omega (arith, is_within others place one is)

-- ---- what was acted on isn't changed by the rules

module _ (acted : List (Node × List ℕ)) where
  abbrev Acts : StepSoFar → Type 0
  Acts part = part.acted ≡ acted

  nothing_more : (node : Node) (more : List (List ℕ)) (part : StepSoFar) → more ≡ [] → Acts part → part.acted ++ map (λ item. (node, item)) more ≡ acted
  nothing_more node more part none is = ap (λ items. part.acted ++ map (λ item. (node, item)) items) none ∙ append-nil part.acted ∙ is

  aspect_acts : (now signal : ℕ) (aspect : _) (part : StepSoFar) → Acts part → Acts (giving_aspect now signal aspect part)
  unfolding giving_aspect
  aspect_acts now signal aspect part is = with_one_holds Acts (slice_get part.ixl.known_signals signal) _ part (λ known_signal there. nothing_more (Signal signal) (commanding now (given_commands.Indicate aspect) (begun known_signal.client part.outbox)).acted part
      (commanding_acts now (given_commands.Indicate aspect) (begun known_signal.client part.outbox)) is) is

  move_acts : (now point : ℕ) (side : _) (part : StepSoFar) → Acts part → Acts (giving_move now point side part)
  unfolding giving_move
  move_acts now point side part is = with_one_holds Acts (slice_get part.ixl.known_points point) _ part (λ known_point there. nothing_more (Point point) (commanding now (given_commands.Move side) (begun known_point.client part.outbox)).acted part
      (commanding_acts now (given_commands.Move side) (begun known_point.client part.outbox)) is) is

  changes_acts : (now : ℕ) → IsKeptByChanges now Acts
  changes_acts now = record { route = λ number change part is. is; aspect = aspect_acts now; move = λ point side part available is. move_acts now point side part is }

-- ---- one look after another

looks_told : (section : ℕ) (sections : List ℕ) (kept : KnownDetectorState) (heard : List Indication) (one : ClientState) → looks_at section (looks sections kept heard one)
    ≡ (if is_ready one.stage then (if is_ready kept.client.stage then [] else kept_of section kept.occupied 0 sections) ++ reports_of section sections heard else [])
unfolding looks_at
looks_told section sections kept heard one = by_new (is_ready one.stage) where
  by_old : (b : Bool) → looks_at section (if b then told_now sections heard else told_before kept.occupied 0 sections ++ told_now sections heard)
      ≡ (if b then [] else kept_of section kept.occupied 0 sections) ++ reports_of section sections heard
  by_old true = now_told section sections heard
  by_old false = looks_joined section (told_before kept.occupied 0 sections) (told_now sections heard) ∙ ap (λ list. list ++ looks_at section (told_now sections heard)) (before_told section kept.occupied 0 sections)
      ∙ ap (λ list. kept_of section kept.occupied 0 sections ++ list) (now_told section sections heard)

  by_new : (b : Bool) → looks_at section (if not b then [] else if is_ready kept.client.stage then told_now sections heard else told_before kept.occupied 0 sections ++ told_now sections heard)
      ≡ (if b then (if is_ready kept.client.stage then [] else kept_of section kept.occupied 0 sections) ++ reports_of section sections heard else [])
  by_new true = by_old (is_ready kept.client.stage)
  by_new false = refl

-- ---- a step

module _ (now : ℕ) (acts : (bytes : List ℕ) (part : client.ClientSoFar) → ActsOn now bytes part (hearing now bytes part)) (old : InterlockingState) where
  abbrev table : Table
  table = old.state.sited.table

  abbrev clocked : IxlState
  clocked = all_clocked now old.state.ixl

  abbrev first : StepSoFar
  first = begun_with clocked empty_outbox

  abbrev heard : Input → StepSoFar
  heard input = given now table (key_of old.state.sited.site) input first

  same_routes : clocked.routes ≡ old.state.ixl.routes
  unfolding all_clocked
  same_routes = refl

  module _ (number : ℕ) (row : Row) (there : slice_get table.rows number ≡ Some row) where
    within : number < count table
    within = is_within table.rows number row there

    -- ---- a route that was authorised

    -- a move by command changes no route
    moved_of_route : (fact : RouteState → Type 0) (cause : Option Refusal) (command : Command) (part : StepSoFar) → Of number fact part → Of number fact (moved_at_once now cause command part)
    unfolding moved_at_once
    moved_of_route fact (Some refused) command part is = is
    moved_of_route fact None (commands.Move point side) part is = move_of number fact now point.0 side part is
    moved_of_route fact None (commands.Request route) part is = is
    moved_of_route fact None (commands.Cancel route) part is = is
    moved_of_route fact None commands.Resume part is = is
    moved_of_route fact None (commands.Release route) part is = is
    moved_of_route fact None (commands.Close named) part is = is
    moved_of_route fact None (commands.Open named) part is = is

    module _ (before : RouteState) (is : slice_get old.state.ixl.routes number ≡ Some before) (authorised : was_authorised before.phase ≡ true) where
      abbrev Looked : PassageState → RouteState → Type 0
      Looked passage = Keeps before.phase passage before.approached

      abbrev starts : Of number (Looked before.passage) first
      starts = (before, ap (λ routes. slice_get routes number) same_routes ∙ is, (refl, refl, refl))

      -- after the input, with the looks that it brought
      record Told (input : Input) (new : InterlockingState) : Type 0 where
        looks : List (ℕ × Bool)
        of : Of number (Looked (look_all row looks before.passage)) (heard input)
        are : (section : ℕ) → looks_at section looks ≡ told_in now input old new section

      told_tick : (new : InterlockingState) → Told Tick new
      unfolding given look_all looks_at
      told_tick new = record { looks = []; of = starts; are = λ section. refl }

      -- a command changes no route that is authorised, but for being cancelled and released
      obeyed_keeps : (command : Command) → refusal now table command clocked ≡ None → Of number (Looked before.passage) (record first { ixl = obeyed now command clocked })
      unfolding obeyed
      obeyed_keeps (commands.Request route) none = changing_all number (Looked before.passage) route.0 set_anew first (λ same other kept. absurd (true≢false
          (sym (authorised_set before.phase authorised) ∙ request_free now table route clocked before (ap (slice_get clocked.routes) same ∙ starts.1) none))) starts
      obeyed_keeps (commands.Cancel route) none = changing_all number (Looked before.passage) route.0 (λ old. record old { cancelled = true }) first (λ same other kept. kept) starts
      obeyed_keeps commands.Resume none = starts
      obeyed_keeps (commands.Release route) none = changing_all number (Looked before.passage) route.0 (released_at now) first (λ same other kept. kept) starts
      obeyed_keeps (commands.Move point side) none = starts
      obeyed_keeps (commands.Close named) none = starts
      obeyed_keeps (commands.Open named) none = starts

      told_command : (command : Command) (new : InterlockingState) → Told (Commands command) new
      unfolding given look_all looks_at
      told_command command new = record {
        looks = [];
        of = moved_of_route (Looked before.passage) (refusal now table command clocked) command _ (by_cause (refusal now table command clocked) refl);
        are = λ section. refl;
      } where
        by_cause : (cause : Option Refusal) → refusal now table command clocked ≡ cause → Of number (Looked before.passage) (record first { ixl = commanded_by now cause command clocked })
        by_cause None none = obeyed_keeps command none
        by_cause (Some refused) is = starts

      module _ (bytes : List ℕ) (new : InterlockingState) where
        record ToldBy (sender : Option Node) : Type 0 where
          looks : List (ℕ × Bool)
          of : Of number (Looked (look_all row looks before.passage)) (with_one sender (node_hearing now table bytes) first)
          are : (section : ℕ) → looks_at section looks ≡ told_by_node now (Datagram bytes) old new section sender

        module _ (place : ℕ) where
          abbrev hears : List ℕ → KnownDetectorState → StepSoFar → StepSoFar
          hears sections detector part =
              let done = hearing now bytes (begun detector.client part.outbox)
              in along (looking table) (looks sections detector done.heard done.client)
              (with_detector place (detector_after (occupied_heard done.heard detector.occupied) done.client) (noted (Detector place) done part))

          record Tells (listed : Option (List ℕ)) (kept : Option KnownDetectorState) : Type 0 where
            looks : List (ℕ × Bool)
            of : Of number (Looked (look_all row looks before.passage)) (with_one listed (λ sections. with_one kept (hears sections)) first)
            are : (section : ℕ) → looks_at section looks ≡ told_if_listed section listed kept (client_at (Detector place) new.state.ixl) (acted_at now (Datagram bytes) old (Detector place))

          module _ (answer : Reply) (step : HasStepped now (Datagram bytes) old new answer) (sender : addressed (reading (key_of old.state.sited.site) bytes) clocked ≡ Some (Detector place))
              (sections : List ℕ) (listed : slice_get table.detectors place ≡ Some sections) (detector : KnownDetectorState) (kept : slice_get clocked.detectors place ≡ Some detector) where
            abbrev done : client.ClientSoFar
            done = hearing now bytes (begun detector.client empty_outbox)

            abbrev base : StepSoFar
            base = with_detector place (detector_after (occupied_heard done.heard detector.occupied) done.client) (noted (Detector place) done first)

            heard_is : heard (Datagram bytes) ≡ hears sections detector first
            unfolding given node_hearing detector_hearing
            heard_is = ap (λ node. with_one node (node_hearing now table bytes) first) sender
                ∙ ap (λ (list : Option (List ℕ)). with_one list (λ own. with_one (slice_get clocked.detectors place) (hears own)) first) listed
                ∙ ap (λ (one : Option KnownDetectorState). with_one one (hears sections) first) kept

            behind : (Holds : StepSoFar → Type 0) → IsKeptByChanges now Holds → Holds base → Holds (step_of now (Datagram bytes) old.state)
            unfolding stepped ticked
            behind Holds keeps is = ruled_holds Holds now keeps table _ (seen_holds Holds keeps.route table (heard (Datagram bytes)) (subst Holds (sym heard_is)
                (along_holds Holds (looking table) (looking_holds Holds keeps.route table) (looks sections detector done.heard done.client) base is)))

            detectors_are : new.state.ixl.detectors ≡ base.ixl.detectors
            detectors_are = ap (λ (ixl : IxlState). ixl.detectors) step.ixl ∙ behind (Has base.ixl.detectors) (changes_has base.ixl.detectors now) refl

            client_is : client_at (Detector place) new.state.ixl ≡ Some done.client
            client_is = detection_at place new.state.ixl ∙ ap (λ (detectors : List KnownDetectorState). detector_kept (slice_get detectors place)) detectors_are
                ∙ ap detector_kept (becomes_there place (detector_after (occupied_heard done.heard detector.occupied) done.client) clocked.detectors detector kept)
                ∙ ap Some (detector_client (occupied_heard done.heard detector.occupied) done.client)

            acted_is : acted_at now (Datagram bytes) old (Detector place) ≡ done.acted
            acted_is = ap (of_node (Detector place)) (behind (Acts base.acted) (changes_acts base.acted now) refl) ∙ of_itself (Detector place) (Detector place) done.acted (node_self (Detector place))

            told_is : told_by_all detector.client.peer (acted_at now (Datagram bytes) old (Detector place)) ≡ done.heard
            told_is = let acting = acts bytes (begun detector.client empty_outbox) in ap (told_by_all detector.client.peer) (acted_is ∙ acting.acted) ∙ sym acting.heard

            detector_tells : Tells (Some sections) (Some detector)
            detector_tells = record {
              looks = looks sections detector done.heard done.client;
              of = along_looks number now table row there clocked.detectors clocked refl before.phase authorised before.approached within (looks sections detector done.heard done.client) before.passage base (starts.0, starts.1, starts.2);
              are = λ section. looks_told section sections detector done.heard done.client
                  ∙ ap (λ told. if is_ready done.client.stage then (if is_ready detector.client.stage then [] else kept_of section detector.occupied 0 sections) ++ reports_of section sections told else []) (sym told_is)
                  ∙ ap (λ one. told_by_detector section sections detector one (acted_at now (Datagram bytes) old (Detector place))) (sym client_is);
            }

          told_by_detection : (answer : Reply) → HasStepped now (Datagram bytes) old new answer → addressed (reading (key_of old.state.sited.site) bytes) clocked ≡ Some (Detector place) → ToldBy (Some (Detector place))
          unfolding node_hearing detector_hearing look_all looks_at
          told_by_detection answer step sender =
              let told = by_sections (slice_get table.detectors place) refl
              in record { looks = told.looks; of = told.of; are = told.are }
            where
              by_detector : (sections : List ℕ) → slice_get table.detectors place ≡ Some sections → (kept : Option KnownDetectorState) → slice_get clocked.detectors place ≡ kept → Tells (Some sections) kept
              by_detector sections listed None none = record { looks = []; of = starts; are = λ section. refl }
              by_detector sections listed (Some detector) kept = detector_tells answer step sender sections listed detector kept

              by_sections : (listed : Option (List ℕ)) → slice_get table.detectors place ≡ listed → Tells listed (slice_get clocked.detectors place)
              by_sections None none = record { looks = []; of = starts; are = λ section. refl }
              by_sections (Some sections) listed = by_detector sections listed (slice_get clocked.detectors place) refl

        told_by : (answer : Reply) → HasStepped now (Datagram bytes) old new answer → (sender : Option Node) → addressed (reading (key_of old.state.sited.site) bytes) clocked ≡ sender → ToldBy sender
        unfolding node_hearing known_signal_hearing known_point_hearing look_all looks_at
        told_by answer step None is = record { looks = []; of = starts; are = λ section. refl }
        told_by answer step (Some (Signal place)) is = record {
          looks = [];
          of = with_one_holds (Of number (Looked before.passage)) (slice_get clocked.known_signals place) _ first (λ known_signal found. (starts.0, starts.1, starts.2)) starts;
          are = λ section. refl;
        }
        told_by answer step (Some (Point place)) is = record {
          looks = [];
          of = with_one_holds (Of number (Looked before.passage)) (slice_get clocked.known_points place) _ first (λ known_point found. (starts.0, starts.1, starts.2)) starts;
          are = λ section. refl;
        }
        told_by answer step (Some (Detector place)) is = told_by_detection place answer step is

        told_datagram : (answer : Reply) → HasStepped now (Datagram bytes) old new answer → Told (Datagram bytes) new
        unfolding given
        told_datagram answer step =
            let told = told_by answer step (addressed (reading (key_of old.state.sited.site) bytes) clocked) refl
            in record { looks = told.looks; of = told.of; are = told.are }

      told_of : (input : Input) (new : InterlockingState) (answer : Reply) → HasStepped now input old new answer → Told input new
      told_of Tick new answer step = told_tick new
      told_of (Commands command) new answer step = told_command command new
      told_of (Datagram bytes) new answer step = told_datagram bytes new answer step

      -- after all parts of the step

      module _ (input : Input) (new : InterlockingState) (answer : Reply) (step : HasStepped now input old new answer) (after : RouteState) (also : slice_get new.state.ixl.routes number ≡ Some after)
          (still : was_authorised after.phase ≡ true) where
        told : Told input new
        told = told_of input new answer step

        abbrev clear : Bool
        clear = is_approach_clear table (heard input).ixl row

        abbrev approached : Bool
        approached = watched before.phase clear before.approached

        abbrev passage : PassageState
        passage = look_all row told.looks before.passage

        ends : Of number (IsKept passage approached) (step_of now input old.state)
        unfolding stepped
        ends =
            let seen = seen_watched number now table row there (heard input).ixl.detectors (heard input).ixl refl before.phase passage before.approached (heard input) within (refl, told.of)
            in ticked_of number (IsKept passage approached) now input _ (ruled_kept number now table passage approached _ (seen.0, seen.1, inr (ap was_authorised seen.2.0 ∙ authorised, seen.2.1, seen.2.2)))

        kept : IsKept passage approached after
        kept = subst (IsKept passage approached) (some_same (sym ends.1 ∙ ap (λ (ixl : IxlState). slice_get ixl.routes number) (sym step.ixl) ∙ also)) ends.2

        kept_is : (after.passage ≡ passage) × (after.approached ≡ approached)
        kept_is = by_kept kept where
          by_kept : IsKept passage approached after → (after.passage ≡ passage) × (after.approached ≡ approached)
          by_kept (inl free) = absurd (true≢false (sym (authorised_set after.phase still) ∙ free))
          by_kept (inr is) = (is.1, is.2)

        watched_more : (stood : List Bool) → (before.approached ≡ true ↔ Contains stood false) → (b : Bool) →
            (if b then before.approached || not clear else before.approached) ≡ true ↔ Contains (if b then stood ++ clear ∷ [] else stood) false
        watched_more stood was true = approached_more before.approached clear stood was
        watched_more stood was false = was

        pub goes_on_told : (history : History) → TellsOf history row before → GoesOnTold now input old new row before after history
        goes_on_told history was = record {
          clear = clear;
          is_clear = approach_is table (heard input).ixl row;
          tells = record {
            seen = λ section place at. subst (λ b. b ≡ true ↔ Contains (history.reports section ++ told_in now input old new section) true)
                (sym (ap (λ (p : PassageState). contains p.seen place) kept_is.0 ∙ seen_is row section place (found_at row.sections section place at) told.looks before.passage ∙ ap (seen_after (contains before.passage.seen place)) (told.are section)))
                (seen_more (contains before.passage.seen place) (history.reports section) (told_in now input old new section) (was.seen section place at));
            occupied = λ section place at. ap (λ (p : PassageState). contains p.occupied place) kept_is.0 ∙ occupied_is row section place (found_at row.sections section place at) told.looks before.passage
                ∙ ap (last_told (contains before.passage.occupied place)) (told.are section)
                ∙ told_last (contains before.passage.occupied place) (history.reports section) (told_in now input old new section) (was.occupied section place at);
            approached = subst (λ b. b ≡ true ↔ Contains (if has_authority before.phase then history.approaches ++ clear ∷ [] else history.approaches) false) (sym kept_is.1)
                (watched_more history.approaches was.approached (has_authority before.phase));
          };
        }

    -- ---- a route that gets authority

    module _ (before : RouteState) (is : slice_get old.state.ixl.routes number ≡ Some before) (not_yet : was_authorised before.phase ≡ false) where
      starts_without : Of number IsUnauthorised first
      starts_without = (before, ap (λ routes. slice_get routes number) same_routes ∙ is, not_yet)

      commanded_without : (cause : Option Refusal) (command : Command) → Of number IsUnauthorised (record first { ixl = commanded_by now cause command clocked })
      unfolding obeyed
      commanded_without (Some refused) command = starts_without
      commanded_without None (commands.Request route) = changing_all number IsUnauthorised route.0 set_anew first (λ same other kept. refl) starts_without
      commanded_without None (commands.Cancel route) = changing_all number IsUnauthorised route.0 (λ old. record old { cancelled = true }) first (λ same other kept. kept) starts_without
      commanded_without None commands.Resume = starts_without
      commanded_without None (commands.Release route) = changing_all number IsUnauthorised route.0 (released_at now) first (λ same other kept. kept) starts_without
      commanded_without None (commands.Move point side) = starts_without
      commanded_without None (commands.Close named) = starts_without
      commanded_without None (commands.Open named) = starts_without

      node_without : (bytes : List ℕ) (node : Node) → Of number IsUnauthorised (node_hearing now table bytes node first)
      unfolding node_hearing known_signal_hearing known_point_hearing detector_hearing
      node_without bytes (Signal place) = with_one_holds (Of number IsUnauthorised) (slice_get clocked.known_signals place) _ first (λ known_signal found. (starts_without.0, starts_without.1, starts_without.2)) starts_without
      node_without bytes (Point place) = with_one_holds (Of number IsUnauthorised) (slice_get clocked.known_points place) _ first (λ known_point found. (starts_without.0, starts_without.1, starts_without.2)) starts_without
      node_without bytes (Detector place) = with_one_holds (Of number IsUnauthorised) (slice_get table.detectors place) _ first (λ sections listed.
          with_one_holds (Of number IsUnauthorised) (slice_get clocked.detectors place) _ first (λ detector found.
          let done = hearing now bytes (begun detector.client empty_outbox)
          in along_unauthorised number now table row there clocked.detectors clocked refl (looks sections detector done.heard done.client)
          (with_detector place (detector_after (occupied_heard done.heard detector.occupied) done.client) (noted (Detector place) done first)) (starts_without.0, starts_without.1, starts_without.2)) starts_without) starts_without

      heard_without : (input : Input) → Of number IsUnauthorised (heard input)
      unfolding given
      heard_without Tick = starts_without
      heard_without (Commands command) = moved_of_route IsUnauthorised (refusal now table command clocked) command _ (commanded_without (refusal now table command clocked) command)
      heard_without (Datagram bytes) = with_one_holds (Of number IsUnauthorised) (addressed (reading (key_of old.state.sited.site) bytes) clocked) (node_hearing now table bytes) first (λ node found. node_without bytes node) starts_without

      module _ (input : Input) (new : InterlockingState) (answer : Reply) (step : HasStepped now input old new answer) (after : RouteState) (also : slice_get new.state.ixl.routes number ≡ Some after)
          (given_now : was_authorised after.phase ≡ true) where
        abbrev stands : Bool
        stands = is_approach_clear table (heard input).ixl row

        ends_begun : Of number (HasBegun row stands) (step_of now input old.state)
        unfolding stepped
        ends_begun = ticked_of number (HasBegun row stands) now input _
            (ruled_begins number now table row there (heard input).ixl.detectors (heard input).ixl refl _ within
            (seen_unauthorised number now table row there (heard input).ixl.detectors (heard input).ixl refl (heard input) (refl, heard_without input)))

        begun_is : (after.passage ≡ passage_after (length row.sections) []) × (after.approached ≡ not stands)
        begun_is = by_begun (subst (HasBegun row stands) (some_same (sym ends_begun.1 ∙ ap (λ (ixl : IxlState). slice_get ixl.routes number) (sym step.ixl) ∙ also)) ends_begun.2) where
          by_begun : HasBegun row stands after → (after.passage ≡ passage_after (length row.sections) []) × (after.approached ≡ not stands)
          by_begun (inl without) = absurd (true≢false (sym given_now ∙ without))
          by_begun (inr begun) = begun

        none_seen : (place : ℕ) → contains (passage_after (length row.sections) []).seen place ≡ false
        unfolding passage_after
        none_seen place = contains-empty nat_cmp place

        none_occupied : (place : ℕ) → contains (passage_after (length row.sections) []).occupied place ≡ false
        unfolding passage_after
        none_occupied place = contains-empty nat_cmp place

        none_told : Contains {X = Bool} [] true → ⊥
        none_told is = omega (arith, is.1)

        pub begins_told : BeginsTold now input old row after
        begins_told = record {
          clear = stands;
          is_clear = approach_is table (heard input).ixl row;
          tells = record {
            seen = λ section place at. (λ passed. absurd (false≢true (sym (ap (λ (p : PassageState). contains p.seen place) begun_is.0 ∙ none_seen place) ∙ passed)), λ told. absurd (none_told told));
            occupied = λ section place at. ap (λ (p : PassageState). contains p.occupied place) begun_is.0 ∙ none_occupied place;
            approached = subst (λ b. b ≡ true ↔ Contains (stands ∷ []) false) (sym begun_is.1) (begins_approached stands);
          };
        }
