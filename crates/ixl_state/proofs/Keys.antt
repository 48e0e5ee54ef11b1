-- Every link is under the key of its network.
use Rattle.std.proofs.Common.{◌≡◌, ◌∙◌, ℕ, Bool, true, false, if◌then◌else◌, List, get_or, map, refl, sym, subst}
use Rattle.std.specs.Prelude.{◌&&◌, nat_le, Option, None}
use Rattle.std.specs.FinSet.{empty}
use Rattle.std.specs.List.{All}
use Rattle.std.proofs.lemmas.List.Elements.{All-map}
use Rattle.ixl_spec.specs.bit_row.Places.{Places}
use Rattle.ixl_spec.specs.layout.declared.entries.Point.{Point}
use Rattle.ixl_spec.specs.layout.declared.entries.Signal.{Signal}
use Rattle.ixl_spec.specs.layout.Entries.{DetectorEntry, Site}
use Rattle.ixl_spec.specs.rasta_core.Calls.{created}
use Rattle.ixl_spec.specs.rasta_core.Clock.{deadline, settled}
use Rattle.ixl_spec.specs.rasta_core.State.{LinkState, is_open, is_up}
use Rattle.ixl_spec.specs.rasta_core.phase.Phase.TheVariants as phase
use Rattle.ixl_spec.specs.rasta_pdu.declared.key.Key.{Key}
use Rattle.ixl_spec.specs.sci_telegram.declared.message.Aspect.{Aspect}
use Rattle.ixl_spec.specs.sci_telegram.declared.message.Protocol.{Protocol}
use Rattle.ixl_spec.specs.sci_telegram.declared.message.Side.{Side}
use Rattle.ixl_spec.specs.ixl_client.Client.{ClientState, is_outside, new_client}
use Rattle.ixl_spec.specs.ixl_client.Step.{clocked, fallen}
use Rattle.ixl_spec.specs.ixl_client.declared.stage.Stage.TheVariants as stage
use Rattle.ixl_spec.specs.Commands.{unmoved_for}
use Rattle.ixl_spec.specs.First.{Beginning, client_of, key_of, new_detector_of, new_known_point_of, new_known_signal_of}
use Rattle.ixl_spec.specs.State.{KnownDetectorState, KnownPointState, KnownSignalState}
use Rattle.ixl_spec.specs.Step.{clocked_detector, clocked_known_point, clocked_known_signal}
use Rattle.ixl_spec.specs.StepSoFar.{detector_after, known_point_after, known_signal_after}
use Rattle.ixl_known.specs.Field.{AllUnder, FieldState, field_clocked}

abbrev key_at : ClientState → Key
key_at client = client.link.identity.key

abbrev signal_under : Key → KnownSignalState → Type 0
signal_under key known_signal = key_at known_signal.client ≡ key

abbrev point_under : Key → KnownPointState → Type 0
point_under key known_point = key_at known_point.client ≡ key

abbrev detector_under : Key → KnownDetectorState → Type 0
detector_under key detector = key_at detector.client ≡ key

all-mapped : {A : Type 0} (fact : A → Type 0) (change : A → A) (list : List A) → ((one : A) → fact one → fact (change one)) → All fact list → All fact (map change list)
all-mapped fact change list keeps all = All-map fact change list (λ k d within. keeps (get_or list k d) (all k d within))

-- ---- the clock

settled-key : (now : ℕ) (link : LinkState) → (settled now link).identity.key ≡ link.identity.key
unfolding settled
settled-key now link = cases (is_open link.phase && nat_le (deadline link) now) where
  cases : (b : Bool) → (if b then record link { phase = phase.Closed; closed_at = deadline link; clock = now } else record link { clock = now }).identity.key ≡ link.identity.key
  cases true = refl
  cases false = refl

fallen-key : (client : ClientState) → key_at (fallen client) ≡ key_at client
unfolding fallen
fallen-key client = cases (is_up client.link.phase) where
  cases : (b : Bool) → key_at (if b then client else record client { stage = stage.Outside }) ≡ key_at client
  cases true = refl
  cases false = refl

clocked-key : (now : ℕ) (client : ClientState) → key_at (clocked now client) ≡ key_at client
unfolding clocked
clocked-key now client = fallen-key (record client { link = settled now client.link }) ∙ settled-key now client.link

abbrev signal_of : ClientState → Option Aspect → ℕ → Option Aspect → KnownSignalState
signal_of client aspect number indicated = record { client = client; aspect = aspect; number = number; indicated = indicated }

abbrev point_of : ClientState → Option Side → Places → KnownPointState
point_of client side moved = record { client = client; side = side; moved = moved }

abbrev detector_of : ClientState → Places → KnownDetectorState
detector_of client occupied = record { client = client; occupied = occupied }

signal-key : (aspect : Option Aspect) (number : ℕ) (indicated : Option Aspect) (client : ClientState) → key_at (known_signal_after aspect number indicated client).client ≡ key_at client
unfolding known_signal_after
signal-key aspect number indicated client = cases (is_outside client.stage) where
  cases : (b : Bool) → key_at (if b then signal_of client None 0 None else signal_of client aspect number indicated).client ≡ key_at client
  cases true = refl
  cases false = refl

point-key : (side : Option Side) (moved : Places) (client : ClientState) → key_at (known_point_after side moved client).client ≡ key_at client
unfolding known_point_after
point-key side moved client = cases (is_outside client.stage) where
  cases : (b : Bool) → key_at (if b then point_of client None empty else point_of client side moved).client ≡ key_at client
  cases true = refl
  cases false = refl

detector-key : (occupied : Places) (client : ClientState) → key_at (detector_after occupied client).client ≡ key_at client
unfolding detector_after
detector-key occupied client = cases (is_outside client.stage) where
  cases : (b : Bool) → key_at (if b then detector_of client empty else detector_of client occupied).client ≡ key_at client
  cases true = refl
  cases false = refl

pub clocked-under : (now : ℕ) (key : Key) (field : FieldState) → AllUnder key field → AllUnder key (field_clocked now field)
clocked-under now key field under = record {
  known_signals = all-mapped (signal_under key) (clocked_known_signal now) field.known_signals (λ one is. signal-key one.aspect one.number one.indicated (clocked now one.client) ∙ clocked-key now one.client ∙ is) under.known_signals;
  known_points = all-mapped (point_under key) (clocked_known_point now) field.known_points (λ one is. point-key one.side one.moved (clocked now one.client) ∙ clocked-key now one.client ∙ is) under.known_points;
  detectors = all-mapped (detector_under key) (clocked_detector now) field.detectors (λ one is. detector-key one.occupied (clocked now one.client) ∙ clocked-key now one.client ∙ is) under.detectors;
}

-- ---- a route that is set

pub unmoved-under : (number : ℕ) (key : Key) (field : FieldState) → AllUnder key field → AllUnder key (record field { known_points = map (unmoved_for number) field.known_points })
unmoved-under number key field under = record {
  known_signals = under.known_signals;
  known_points = all-mapped (point_under key) (unmoved_for number) field.known_points (λ one is. is) under.known_points;
  detectors = under.detectors;
}

-- ---- the first state

made-key : (protocol : Protocol) (site : Site) (begins : Beginning) (name : List ℕ) (id : ℕ) (objects : List (List ℕ)) → key_at (client_of protocol site begins name id objects) ≡ key_of site
unfolding new_client created
made-key protocol site begins name id objects = refl

signal-made : (site : Site) (begins : Beginning) (signal : Signal) → signal_under (key_of site) (new_known_signal_of site begins signal)
signal-made site begins signal = made-key _ site begins _ _ _

point-made : (site : Site) (begins : Beginning) (point : Point) → point_under (key_of site) (new_known_point_of site begins point)
point-made site begins point = made-key _ site begins _ _ _

detector-made : (site : Site) (begins : Beginning) (detector : DetectorEntry) → detector_under (key_of site) (new_detector_of site begins detector)
detector-made site begins detector = made-key _ site begins _ _ _

pub first-under : (site : Site) (begins : Beginning) (field : FieldState) → field.known_signals ≡ map (new_known_signal_of site begins) site.signals → field.known_points ≡ map (new_known_point_of site begins) site.points →
    field.detectors ≡ map (new_detector_of site begins) site.detectors → AllUnder (key_of site) field
first-under site begins field signals points detectors = record {
  known_signals = subst (All (signal_under (key_of site))) (sym signals) (All-map (signal_under (key_of site)) (new_known_signal_of site begins) site.signals (λ k d within. signal-made site begins (get_or site.signals k d)));
  known_points = subst (All (point_under (key_of site))) (sym points) (All-map (point_under (key_of site)) (new_known_point_of site begins) site.points (λ k d within. point-made site begins (get_or site.points k d)));
  detectors = subst (All (detector_under (key_of site))) (sym detectors) (All-map (detector_under (key_of site)) (new_detector_of site begins) site.detectors (λ k d within. detector-made site begins (get_or site.detectors k d)));
}
