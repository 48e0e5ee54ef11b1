-- The clients of an interlocking's controllers, and one of them changed.
use Rattle.std.proofs.Common.{◌≡◌, ℕ, zero, suc, false, List, [], ◌∷◌, refl, ap, sym, ◌∙◌}
use Rattle.std.specs.Prelude.{map, Option, Some, None, option_map, slice_get}
use Rattle.std.proofs.lemmas.Bool.{eq-eqb, false≢true}
use Rattle.ixl_state.specs.ixl_client.Client.{ClientState, is_outside}
use Rattle.ixl_state.specs.ixl_spec.StepSoFar.{Detector, Node, Point, Signal, detector_after, known_signal_after, known_point_after}
use Rattle.ixl_state.specs.ixl_spec.State.{KnownDetectorState, IxlState, KnownSignalState, KnownPointState, changed}
use Rattle.ixl_state.specs.ixl_spec.Step.{client_at}
use Rattle.ixl_laws.specs.Nodes.{is_node}
use Rattle.ixl_laws.proofs.PickedByTest.{changed_elsewhere, either, none_is, some_same}

pub known_signal_client : (aspect : _) (number : ℕ) (indicated : _) (client : ClientState) → (known_signal_after aspect number indicated client).client ≡ client
unfolding known_signal_after
known_signal_client aspect number indicated client = either (λ (l : KnownSignalState). l.client ≡ client) (is_outside client.stage) _ _ refl refl

pub known_point_client : (side : _) (moved : _) (client : ClientState) → (known_point_after side moved client).client ≡ client
unfolding known_point_after
known_point_client side moved client = either (λ (s : KnownPointState). s.client ≡ client) (is_outside client.stage) _ _ refl refl

pub detector_client : (occupied : _) (client : ClientState) → (detector_after occupied client).client ≡ client
unfolding detector_after
detector_client occupied client = either (λ (d : KnownDetectorState). d.client ≡ client) (is_outside client.stage) _ _ refl refl

-- ---- lists

pub becomes_there : {A : Type 0} (place : ℕ) (new : A) (list : List A) (old : A) → slice_get list place ≡ Some old → slice_get (changed (λ one. new) place list) place ≡ Some new
becomes_there place new [] old is = absurd (none_is is)
becomes_there zero new (first ∷ others) old is = refl
becomes_there (suc place) new (first ∷ others) old is = becomes_there place new others old is

pub mapped : {A B : Type 0} (change : A → B) (place : ℕ) (list : List A) (one : A) → slice_get list place ≡ Some one → slice_get (map change list) place ≡ Some (change one)
mapped change place [] one is = absurd (none_is is)
mapped change zero (first ∷ others) one is = ap (λ a. Some (change a)) (some_same is)
mapped change (suc place) (first ∷ others) one is = mapped change place others one is

pub mapped_option : {A B : Type 0} (change : A → B) (place : ℕ) (list : List A) → slice_get (map change list) place ≡ option_map change (slice_get list place)
mapped_option change place [] = refl
mapped_option change zero (first ∷ others) = refl
mapped_option change (suc place) (first ∷ others) = mapped_option change place others

-- ---- the client at a place

abbrev pub known_signal_kept : Option KnownSignalState → Option ClientState
known_signal_kept kept = option_map (λ (l : KnownSignalState). l.client) kept

abbrev pub known_point_kept : Option KnownPointState → Option ClientState
known_point_kept kept = option_map (λ (s : KnownPointState). s.client) kept

abbrev pub detector_kept : Option KnownDetectorState → Option ClientState
detector_kept kept = option_map (λ (d : KnownDetectorState). d.client) kept

pub signal_at : (place : ℕ) (ixl : IxlState) → client_at (Signal place) ixl ≡ known_signal_kept (slice_get ixl.known_signals place)
signal_at place ixl = by_kept (slice_get ixl.known_signals place) refl where
  by_kept : (kept : Option KnownSignalState) → slice_get ixl.known_signals place ≡ kept → client_at (Signal place) ixl ≡ known_signal_kept (slice_get ixl.known_signals place)
  by_kept None is = rw is refl
  by_kept (Some known_signal) is = rw is refl

pub point_at : (place : ℕ) (ixl : IxlState) → client_at (Point place) ixl ≡ known_point_kept (slice_get ixl.known_points place)
point_at place ixl = by_kept (slice_get ixl.known_points place) refl where
  by_kept : (kept : Option KnownPointState) → slice_get ixl.known_points place ≡ kept → client_at (Point place) ixl ≡ known_point_kept (slice_get ixl.known_points place)
  by_kept None is = rw is refl
  by_kept (Some known_point) is = rw is refl

pub detection_at : (place : ℕ) (ixl : IxlState) → client_at (Detector place) ixl ≡ detector_kept (slice_get ixl.detectors place)
detection_at place ixl = by_kept (slice_get ixl.detectors place) refl where
  by_kept : (kept : Option KnownDetectorState) → slice_get ixl.detectors place ≡ kept → client_at (Detector place) ixl ≡ detector_kept (slice_get ixl.detectors place)
  by_kept None is = rw is refl
  by_kept (Some detector) is = rw is refl

-- ---- one client is put in place of another

pub record Puts (node : Node) (client : ClientState) (old new : IxlState) : Type 0 where
  pub here : client_at node new ≡ Some client
  pub elsewhere : (other : Node) → is_node other node ≡ false → client_at other new ≡ client_at other old

another : (place other : ℕ) → is_node (Signal other) (Signal place) ≡ false → other ≡ place → ⊥
another place other apart same = false≢true (sym apart ∙ eq-eqb place other (sym same))

pub known_signal_put : (place : ℕ) (old known_signal : KnownSignalState) (ixl : IxlState) → slice_get ixl.known_signals place ≡ Some old → Puts (Signal place) known_signal.client ixl (record ixl { known_signals = changed (λ one. known_signal) place ixl.known_signals })
known_signal_put place old known_signal ixl there = record { here = signal_at place new ∙ ap known_signal_kept (becomes_there place known_signal ixl.known_signals old there); elsewhere = elsewhere } where
  new : IxlState
  new = record ixl { known_signals = changed (λ one. known_signal) place ixl.known_signals }

  elsewhere : (other : Node) → is_node other (Signal place) ≡ false → client_at other new ≡ client_at other ixl
  elsewhere (Signal other) apart = signal_at other new ∙ ap known_signal_kept (changed_elsewhere (λ one. known_signal) place other ixl.known_signals (another place other apart)) ∙ sym (signal_at other ixl)
  elsewhere (Point other) apart = refl
  elsewhere (Detector other) apart = refl

pub known_point_put : (place : ℕ) (old known_point : KnownPointState) (ixl : IxlState) → slice_get ixl.known_points place ≡ Some old → Puts (Point place) known_point.client ixl (record ixl { known_points = changed (λ one. known_point) place ixl.known_points })
known_point_put place old known_point ixl there = record { here = point_at place new ∙ ap known_point_kept (becomes_there place known_point ixl.known_points old there); elsewhere = elsewhere } where
  new : IxlState
  new = record ixl { known_points = changed (λ one. known_point) place ixl.known_points }

  elsewhere : (other : Node) → is_node other (Point place) ≡ false → client_at other new ≡ client_at other ixl
  elsewhere (Signal other) apart = refl
  elsewhere (Point other) apart = point_at other new ∙ ap known_point_kept (changed_elsewhere (λ one. known_point) place other ixl.known_points (another place other apart)) ∙ sym (point_at other ixl)
  elsewhere (Detector other) apart = refl

pub detector_put : (place : ℕ) (old detector : KnownDetectorState) (ixl : IxlState) → slice_get ixl.detectors place ≡ Some old → Puts (Detector place) detector.client ixl (record ixl { detectors = changed (λ one. detector) place ixl.detectors })
detector_put place old detector ixl there = record { here = detection_at place new ∙ ap detector_kept (becomes_there place detector ixl.detectors old there); elsewhere = elsewhere } where
  new : IxlState
  new = record ixl { detectors = changed (λ one. detector) place ixl.detectors }

  elsewhere : (other : Node) → is_node other (Detector place) ≡ false → client_at other new ≡ client_at other ixl
  elsewhere (Signal other) apart = refl
  elsewhere (Point other) apart = refl
  elsewhere (Detector other) apart = detection_at other new ∙ ap detector_kept (changed_elsewhere (λ one. detector) place other ixl.detectors (another place other apart)) ∙ sym (detection_at other ixl)
