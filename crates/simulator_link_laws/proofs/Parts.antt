-- Each part of a step of the interlocking goes on from where its links are.
use Rattle.std.proofs.Common.{◌≡◌, ℕ, zero, suc, ◌+◌, ◌<◌, Bool, List, [], ◌∷◌, ◌++◌, length, map, Option, Some, None, option_map, slice_get, slice_set, refl, sym, ap, subst, ◌∙◌, arith}
use Rattle.std.specs.Prelude.{◌&&◌, ◌||◌}
use Rattle.std.proofs.lemmas.Option.{same_Some}
use Rattle.simulator_spec.specs.layout.Entries.{Site}
use Rattle.simulator_spec.specs.sci_telegram.declared.message.Aspect.{Aspect}
use Rattle.simulator_spec.specs.sci_telegram.declared.message.Aspect.TheVariants as aspects
use Rattle.simulator_spec.specs.sci_telegram.declared.message.Side.{Side}
use Rattle.simulator_spec.specs.bit_row.Places.{Places}
use Rattle.simulator_spec.specs.ixl_client.Client.{ClientState, is_outside}
use Rattle.simulator_spec.specs.ixl_client.Made.{Makes, MakesAfterReceipt, MakesOwn}
use Rattle.simulator_spec.specs.ixl_client.ClientSoFar as client
use Rattle.simulator_spec.specs.ixl_client.ClientSoFar.{LinkCall, Receives, begun}
use Rattle.simulator_spec.specs.ixl_client.Step.{commanding, hearing, ticking}
use Rattle.simulator_spec.specs.ixl_client.declared.command.Command.{Command as ClientCommand}
use Rattle.simulator_spec.specs.ixl_client.declared.command.Command.TheVariants as commands
use Rattle.simulator_spec.specs.ixl_spec.Commands.{commanded_by, moved_at_once, obeyed, refusal, route_set, unmoved_for}
use Rattle.simulator_spec.specs.ixl_spec.StepSoFar.{Node, Signal, Point, Detector, StepSoFar, along, at_route, detector_after, giving_aspect, giving_move, known_signal_after, noted, over, known_point_after, with_detector, with_known_signal, with_one, with_route, with_known_point}
use Rattle.simulator_spec.specs.ixl_spec.Rules.{authorised, come_to, count, ended, ending_authority, freed, freed_by_cancel, freed_by_passage, freeing_by_cancel, freeing_by_passage, freeing_next, frees_cancelled, frees_next, is_move_due, is_proceed_due, is_proceeding, is_stop_due, is_withdrawn, moved, moving, moving_one, one_freed, proceeding, repeated, ruled, stopped, withdrawing, withdrawn}
use Rattle.simulator_spec.specs.ixl_spec.State.{KnownDetectorState, IxlState, KnownSignalState, RouteState, KnownPointState, changed}
use Rattle.simulator_spec.specs.ixl_spec.Step.{Input, Tick, Datagram, Commands, addressed, all_clocked, stepped, detector_hearing, detector_ticking, given, known_signal_hearing, known_signal_ticking, looking, looking_by, looks, node_hearing, occupied_heard, known_point_hearing, known_point_ticking, ticked, watching}
use Rattle.simulator_spec.specs.ixl_spec.Table.{Need, Row, Table}
use Rattle.simulator_spec.specs.ixl_spec.View.{is_at_known_stop, is_signal_ready, was_authorised}
use Rattle.simulator_spec.specs.ixl_spec.declared.command.Command.{Command}
use Rattle.simulator_spec.specs.ixl_spec.declared.command.Command.TheVariants as requests
use Rattle.simulator_spec.specs.ixl_spec.declared.command.Refusal.{Refusal}
use Rattle.simulator_spec.specs.ixl_spec.declared.phase.Phase.TheVariants as phase
use Rattle.simulator_spec.specs.rasta_core.Links.{AreLinks, Links}
use Rattle.simulator_spec.specs.rasta_pdu.PduRead.{reading}
use Rattle.simulator_spec.specs.rasta_pdu.declared.key.Key.{Key}
use Rattle.simulator_spec.specs.Links.{names_at}
use Rattle.simulator_spec.specs.Nodes.{detector_link, links, point_link}
use Rattle.simulator_spec.specs.Interlocking.{Sending}
use Rattle.simulator_link_laws.proofs.ClientItems.{AreSendable, SaysItems, commanding_says, hearing_says, ticking_says}
use Rattle.simulator_link_laws.proofs.HostItems.{TelegramsAreItems}
use Rattle.simulator_link_laws.proofs.Laws.{ClientLaws, LinkLaws}
use Rattle.simulator_link_laws.proofs.Lists.{by_test, changed_to, get_left, get_map, get_right, length_map, length_set, map_set, within_some}
use Rattle.simulator_link_laws.proofs.PartCalls.{AllMayMake, MayMake, own_sendable}
use Rattle.simulator_link_laws.proofs.Places.{first_set, second_set, third_set}
use Rattle.simulator_link_laws.proofs.Reached.{Does, IsManned, Reached, reached_next}
use Rattle.simulator_link_laws.specs.Whole.{IsPeer, client_states}

-- ---- what each keeps is kept by all

over_kept : (Keeps : StepSoFar → Type 0) (does : ℕ → StepSoFar → StepSoFar) → ((number : ℕ) (part : StepSoFar) → Keeps part → Keeps (does number part)) → (count : ℕ) (part : StepSoFar) → Keeps part → Keeps (over does count part)
over_kept Keeps does each zero part is = is
over_kept Keeps does each (suc number) part is = each number (over does number part) (over_kept Keeps does each number part is)

along_kept : {A : Type 0} (Keeps : StepSoFar → Type 0) (does : A → StepSoFar → StepSoFar) → ((one : A) (part : StepSoFar) → Keeps part → Keeps (does one part)) → (list : List A) (part : StepSoFar) → Keeps part → Keeps (along does list part)
along_kept Keeps does each [] part is = is
along_kept Keeps does each (first ∷ others) part is = along_kept Keeps does each others (does first part) (each first part is)

one_kept : {A : Type 0} (Keeps : StepSoFar → Type 0) (found : Option A) (does : A → StepSoFar → StepSoFar) (part : StepSoFar) → ((one : A) → found ≡ Some one → Keeps (does one part)) → Keeps part → Keeps (with_one found does part)
one_kept Keeps None does part each is = is
one_kept Keeps (Some one) does part each is = each one refl

at_kept : (Keeps : StepSoFar → Type 0) (table : Table) (number : ℕ) (does : Row → RouteState → StepSoFar → StepSoFar) (part : StepSoFar) → ((row : Row) (route : RouteState) → Keeps (does row route part)) → Keeps part → Keeps (at_route table number does part)
unfolding at_route
at_kept Keeps table number does part each is = one_kept Keeps (slice_get table.rows number) _ part (λ row has. one_kept Keeps (slice_get part.ixl.routes number) (does row) part (λ route at. each row route) is) is

repeated_kept : (Keeps : StepSoFar → Type 0) (does : StepSoFar → StepSoFar) → ((part : StepSoFar) → Keeps part → Keeps (does part)) → (count : ℕ) (part : StepSoFar) → Keeps part → Keeps (repeated count does part)
repeated_kept Keeps does each zero part is = is
repeated_kept Keeps does each (suc more) part is = repeated_kept Keeps does each more (does part) (each part is)

-- ---- the clients of each kind

abbrev known_signal_clients : IxlState → List ClientState
known_signal_clients ixl = map (λ (known_signal : KnownSignalState). known_signal.client) ixl.known_signals

abbrev known_point_clients : IxlState → List ClientState
known_point_clients ixl = map (λ (known_point : KnownPointState). known_point.client) ixl.known_points

abbrev detector_clients : IxlState → List ClientState
detector_clients ixl = map (λ (detector : KnownDetectorState). detector.client) ixl.detectors

pub known_signal_client : (aspect : Option Aspect) (number : ℕ) (indicated : Option Aspect) (one : ClientState) → (known_signal_after aspect number indicated one).client ≡ one
unfolding known_signal_after
known_signal_client aspect number indicated one = by_test (λ (l : KnownSignalState). l.client ≡ one) (is_outside one.stage) (record { client = one; aspect = None; number = 0; indicated = None }) (record { client = one; aspect = aspect; number = number; indicated = indicated }) (λ e. refl) (λ e. refl)

pub known_point_client : (side : Option Side) (gone : Places) (one : ClientState) → (known_point_after side gone one).client ≡ one
unfolding known_point_after
known_point_client side gone one = by_test (λ (s : KnownPointState). s.client ≡ one) (is_outside one.stage) _ (record { client = one; side = side; moved = gone }) (λ e. refl) (λ e. refl)

pub detector_client : (occupied : Places) (one : ClientState) → (detector_after occupied one).client ≡ one
unfolding detector_after
detector_client occupied one = by_test (λ (d : KnownDetectorState). d.client ≡ one) (is_outside one.stage) _ (record { client = one; occupied = occupied }) (λ e. refl) (λ e. refl)

length_changed : {A : Type 0} (one : A) (place : ℕ) (list : List A) → length (changed (λ old. one) place list) ≡ length list
length_changed one place list = ap length (changed_to one place list) ∙ length_set list place one

-- the laws of a client
pub record StepLaws : Type 0 where
  pub receipt : (now : ℕ) (bytes : List ℕ) (part : client.ClientSoFar) → MakesAfterReceipt now bytes part (hearing now bytes part)
  pub command : (now : ℕ) (command : ClientCommand) (part : client.ClientSoFar) → MakesOwn now part (commanding now command part)
  pub tick : (now : ℕ) (part : client.ClientSoFar) → MakesOwn now part (ticking now part)
  pub written : TelegramsAreItems

module _ (laws : LinkLaws) (client_laws : ClientLaws) (site : Site) (are : AreLinks (links site) (names_at site)) (time connection now : ℕ) (before : Links) (start : Sending)
    (steps : StepLaws) (table : Table) where
  abbrev pub On : StepSoFar → Type 0
  On part = Reached laws client_laws site are time connection now before start part

  -- the calls are those of a node's client, and its place is set
  abbrev DoesAt : Node → ClientState → StepSoFar → client.ClientSoFar → IxlState → Type 0
  DoesAt node old part done ixl = Does laws client_laws site are time connection now before start node old part done ixl

  next : (node : Node) (old : ClientState) (part : StepSoFar) (done : client.ClientSoFar) (ixl : IxlState) → On part → DoesAt node old part done ixl → On (record (noted node done part) { ixl = ixl })
  next node old part done ixl on does = reached_next laws client_laws site are time connection now before start node old part done ixl on does

  -- an interlocking with the same clients
  ixl_kept : (part : StepSoFar) (ixl : IxlState) → client_states ixl ≡ client_states part.ixl → IsManned site ixl → On part → On (record part { ixl = ixl })
  ixl_kept part ixl same manned on = record {
    nodes = on.nodes;
    may = on.may;
    tells = on.tells;
    manned = manned;
    clients = λ link below. let is = on.clients link below in record { client = is.client; there = ap (λ l. slice_get l link) same ∙ is.there; link_is = is.link_is; peer = is.peer };
    reads = on.reads;
  }

  route_kept : (number : ℕ) (change : RouteState → RouteState) (part : StepSoFar) → On part → On (with_route number change part)
  route_kept number change part on = ixl_kept part _ refl (record { known_signals = on.manned.known_signals; known_points = on.manned.known_points; detectors = on.manned.detectors }) on

  -- what a client does by itself, and what it does with a datagram
  record IsDone (link : ℕ) (old : ClientState) (outbox : _) (done : client.ClientSoFar) : Type 0 where
    list : List LinkCall
    makes : Makes now list (begun old outbox) done
    may : AllMayMake (names_at site link) connection list before
    same_peer : done.client.peer ≡ old.peer

  own_done : (link : ℕ) (old : ClientState) (outbox : _) (done : client.ClientSoFar) → (is_peer : IsPeer old.peer) → MakesOwn now (begun old outbox) done → SaysItems steps.written old.peer is_peer done → IsDone link old outbox done
  own_done link old outbox done is_peer own says = record {
    list = own.0;
    makes = own.1;
    may = own_sendable (names_at site link) connection own.0 before own.2 (subst AreSendable own.1.calls_are says.items);
    same_peer = says.same;
  }

  begins : (old : ClientState) (outbox : _) (is_peer : IsPeer old.peer) → SaysItems steps.written old.peer is_peer (begun old outbox)
  begins old outbox is_peer = record { items = tt; same = refl }

  commanded_done : (link : ℕ) (old : ClientState) (outbox : _) (command : ClientCommand) → IsPeer old.peer → IsDone link old outbox (commanding now command (begun old outbox))
  commanded_done link old outbox command is_peer = own_done link old outbox _ is_peer (steps.command now command (begun old outbox)) (commanding_says steps.written old.peer is_peer now command (begun old outbox) (begins old outbox is_peer))

  ticked_done : (link : ℕ) (old : ClientState) (outbox : _) → IsPeer old.peer → IsDone link old outbox (ticking now (begun old outbox))
  ticked_done link old outbox is_peer = own_done link old outbox _ is_peer (steps.tick now (begun old outbox)) (ticking_says steps.written old.peer is_peer now (begun old outbox) (begins old outbox is_peer))

  abbrev MayHear : List ℕ → Type 0
  MayHear bytes = (link : ℕ) → link < links site → MayMake (names_at site link) connection (Receives bytes) before

  heard_done : (link : ℕ) (old : ClientState) (outbox : _) (bytes : List ℕ) → link < links site → MayHear bytes → IsPeer old.peer → IsDone link old outbox (hearing now bytes (begun old outbox))
  heard_done link old outbox bytes below may is_peer =
      let made = steps.receipt now bytes (begun old outbox)
      in let says = hearing_says steps.written old.peer is_peer now bytes (begun old outbox) (begins old outbox is_peer)
      in record {
        list = Receives bytes ∷ made.0;
        makes = made.1;
        may = (may link below, own_sendable (names_at site link) connection made.0 before made.2 (subst AreSendable made.1.calls_are says.items));
        same_peer = says.same;
      }

  -- ---- signals

  signal_link : (part : StepSoFar) → On part → (place : ℕ) (known_signal : KnownSignalState) → slice_get part.ixl.known_signals place ≡ Some known_signal → place < links site
  signal_link part on place known_signal is = sums (length site.signals) (length site.points) (length site.detectors) (subst (λ n. place < n) on.manned.known_signals (within_some part.ixl.known_signals place known_signal is)) where
    sums : (a b c : ℕ) → place < a → place < a + b + c
    sums a b c below = omega arith

  known_signal_at : (part : StepSoFar) (place : ℕ) (known_signal : KnownSignalState) → slice_get part.ixl.known_signals place ≡ Some known_signal → slice_get (client_states part.ixl) place ≡ Some known_signal.client
  known_signal_at part place known_signal is =
      let found = get_map (λ (l : KnownSignalState). l.client) part.ixl.known_signals place ∙ ap (option_map (λ (l : KnownSignalState). l.client)) is
      in get_left (known_signal_clients part.ixl) (known_point_clients part.ixl ++ detector_clients part.ixl) place (within_some (known_signal_clients part.ixl) place known_signal.client found) ∙ found

  known_signal_peer : (part : StepSoFar) → On part → (place : ℕ) (known_signal : KnownSignalState) → slice_get part.ixl.known_signals place ≡ Some known_signal → IsPeer known_signal.client.peer
  known_signal_peer part on place known_signal is = let found = on.clients place (signal_link part on place known_signal is) in subst (λ (c : ClientState). IsPeer c.peer) (same_Some found.client known_signal.client (sym found.there ∙ known_signal_at part place known_signal is)) found.peer

  known_signal_kept : (part : StepSoFar) → On part → (place : ℕ) (known_signal : KnownSignalState) → slice_get part.ixl.known_signals place ≡ Some known_signal → (done : client.ClientSoFar) (aspect : Option Aspect) (number : ℕ) (indicated : Option Aspect) → IsDone place known_signal.client part.outbox done
      → On (with_known_signal place (known_signal_after aspect number indicated done.client) (noted (Signal place) done part))
  known_signal_kept part on place known_signal is done aspect number indicated made = next (Signal place) known_signal.client part done (record part.ixl { known_signals = changed (λ old. known_signal_after aspect number indicated done.client) place part.ixl.known_signals }) on (record {
    node_is = subst (λ n. place < n) on.manned.known_signals (within_some part.ixl.known_signals place known_signal is);
    below = signal_link part on place known_signal is;
    at = known_signal_at part place known_signal is;
    list = made.list;
    makes = made.makes;
    may = made.may;
    same_peer = made.same_peer;
    set = ap (λ l. map (λ (known_signal : KnownSignalState). known_signal.client) l ++ (known_point_clients part.ixl ++ detector_clients part.ixl)) (changed_to (known_signal_after aspect number indicated done.client) place part.ixl.known_signals)
        ∙ ap (λ l. l ++ (known_point_clients part.ixl ++ detector_clients part.ixl)) (map_set (λ (known_signal : KnownSignalState). known_signal.client) part.ixl.known_signals place (known_signal_after aspect number indicated done.client))
        ∙ ap (λ c. slice_set (known_signal_clients part.ixl) place c ++ (known_point_clients part.ixl ++ detector_clients part.ixl)) (known_signal_client aspect number indicated done.client)
        ∙ first_set (known_signal_clients part.ixl) (known_point_clients part.ixl) (detector_clients part.ixl) place done.client
        (subst (λ n. place < n) (sym (length_map (λ (known_signal : KnownSignalState). known_signal.client) part.ixl.known_signals)) (within_some part.ixl.known_signals place known_signal is));
    manned = record { known_signals = length_changed (known_signal_after aspect number indicated done.client) place part.ixl.known_signals ∙ on.manned.known_signals; known_points = on.manned.known_points; detectors = on.manned.detectors };
  })

  aspect_given : (place : ℕ) (aspect : Aspect) (part : StepSoFar) → On part → On (giving_aspect now place aspect part)
  unfolding giving_aspect
  aspect_given place aspect part on = one_kept On (slice_get part.ixl.known_signals place) _ part (λ known_signal is. known_signal_kept part on place known_signal is (commanding now (commands.Indicate aspect) (begun known_signal.client part.outbox)) _ _ _
      (commanded_done place known_signal.client part.outbox (commands.Indicate aspect) (known_signal_peer part on place known_signal is))) on

  known_signal_ticks : (place : ℕ) (part : StepSoFar) → On part → On (known_signal_ticking now place part)
  unfolding known_signal_ticking
  known_signal_ticks place part on = one_kept On (slice_get part.ixl.known_signals place) _ part (λ known_signal is. known_signal_kept part on place known_signal is (ticking now (begun known_signal.client part.outbox)) _ _ _
      (ticked_done place known_signal.client part.outbox (known_signal_peer part on place known_signal is))) on

  known_signal_hears : (bytes : List ℕ) → MayHear bytes → (place : ℕ) (part : StepSoFar) → On part → On (known_signal_hearing now bytes place part)
  unfolding known_signal_hearing
  known_signal_hears bytes may place part on = one_kept On (slice_get part.ixl.known_signals place) _ part (λ known_signal is. known_signal_kept part on place known_signal is (hearing now bytes (begun known_signal.client part.outbox)) _ _ _
      (heard_done place known_signal.client part.outbox bytes (signal_link part on place known_signal is) may (known_signal_peer part on place known_signal is))) on

  -- ---- points

  known_point_link : (part : StepSoFar) → On part → (place : ℕ) (known_point : KnownPointState) → slice_get part.ixl.known_points place ≡ Some known_point → point_link site place < links site
  known_point_link part on place known_point is = sums (length site.signals) (length site.points) (length site.detectors) (subst (λ n. place < n) on.manned.known_points (within_some part.ixl.known_points place known_point is)) where
    sums : (a b c : ℕ) → place < b → a + place < a + b + c
    sums a b c below = omega arith

  known_point_at : (part : StepSoFar) → On part → (place : ℕ) (known_point : KnownPointState) → slice_get part.ixl.known_points place ≡ Some known_point → slice_get (client_states part.ixl) (point_link site place) ≡ Some known_point.client
  known_point_at part on place known_point is =
      let found = get_map (λ (s : KnownPointState). s.client) part.ixl.known_points place ∙ ap (option_map (λ (s : KnownPointState). s.client)) is
      in get_right (known_signal_clients part.ixl) (known_point_clients part.ixl ++ detector_clients part.ixl) place (point_link site place) (ap (λ n. n + place) (sym (length_map (λ (l : KnownSignalState). l.client) part.ixl.known_signals ∙ on.manned.known_signals)))
      ∙ get_left (known_point_clients part.ixl) (detector_clients part.ixl) place (within_some (known_point_clients part.ixl) place known_point.client found) ∙ found

  known_point_peer : (part : StepSoFar) → On part → (place : ℕ) (known_point : KnownPointState) → slice_get part.ixl.known_points place ≡ Some known_point → IsPeer known_point.client.peer
  known_point_peer part on place known_point is = let found = on.clients (point_link site place) (known_point_link part on place known_point is) in subst (λ (c : ClientState). IsPeer c.peer) (same_Some found.client known_point.client (sym found.there ∙ known_point_at part on place known_point is)) found.peer

  known_point_kept : (part : StepSoFar) → On part → (place : ℕ) (known_point : KnownPointState) → slice_get part.ixl.known_points place ≡ Some known_point → (done : client.ClientSoFar) (side : Option Side) (gone : Places) → IsDone (point_link site place) known_point.client part.outbox done
      → On (with_known_point place (known_point_after side gone done.client) (noted (Point place) done part))
  known_point_kept part on place known_point is done side gone made = next (Point place) known_point.client part done (record part.ixl { known_points = changed (λ old. known_point_after side gone done.client) place part.ixl.known_points }) on (record {
    node_is = subst (λ n. place < n) on.manned.known_points (within_some part.ixl.known_points place known_point is);
    below = known_point_link part on place known_point is;
    at = known_point_at part on place known_point is;
    list = made.list;
    makes = made.makes;
    may = made.may;
    same_peer = made.same_peer;
    set = ap (λ l. known_signal_clients part.ixl ++ (map (λ (known_point : KnownPointState). known_point.client) l ++ detector_clients part.ixl)) (changed_to (known_point_after side gone done.client) place part.ixl.known_points)
        ∙ ap (λ l. known_signal_clients part.ixl ++ (l ++ detector_clients part.ixl)) (map_set (λ (known_point : KnownPointState). known_point.client) part.ixl.known_points place (known_point_after side gone done.client))
        ∙ ap (λ c. known_signal_clients part.ixl ++ (slice_set (known_point_clients part.ixl) place c ++ detector_clients part.ixl)) (known_point_client side gone done.client)
        ∙ second_set (known_signal_clients part.ixl) (known_point_clients part.ixl) (detector_clients part.ixl) place (point_link site place) done.client
        (subst (λ n. place < n) (sym (length_map (λ (known_point : KnownPointState). known_point.client) part.ixl.known_points)) (within_some part.ixl.known_points place known_point is))
        (ap (λ n. n + place) (sym (length_map (λ (l : KnownSignalState). l.client) part.ixl.known_signals ∙ on.manned.known_signals)));
    manned = record { known_signals = on.manned.known_signals; known_points = length_changed (known_point_after side gone done.client) place part.ixl.known_points ∙ on.manned.known_points; detectors = on.manned.detectors };
  })

  move_given : (place : ℕ) (side : Side) (part : StepSoFar) → On part → On (giving_move now place side part)
  unfolding giving_move
  move_given place side part on = one_kept On (slice_get part.ixl.known_points place) _ part (λ known_point is. known_point_kept part on place known_point is (commanding now (commands.Move side) (begun known_point.client part.outbox)) _ _
      (commanded_done (point_link site place) known_point.client part.outbox (commands.Move side) (known_point_peer part on place known_point is))) on

  known_point_ticks : (place : ℕ) (part : StepSoFar) → On part → On (known_point_ticking now place part)
  unfolding known_point_ticking
  known_point_ticks place part on = one_kept On (slice_get part.ixl.known_points place) _ part (λ known_point is. known_point_kept part on place known_point is (ticking now (begun known_point.client part.outbox)) _ _
      (ticked_done (point_link site place) known_point.client part.outbox (known_point_peer part on place known_point is))) on

  known_point_hears : (bytes : List ℕ) → MayHear bytes → (place : ℕ) (part : StepSoFar) → On part → On (known_point_hearing now bytes place part)
  unfolding known_point_hearing
  known_point_hears bytes may place part on = one_kept On (slice_get part.ixl.known_points place) _ part (λ known_point is. known_point_kept part on place known_point is (hearing now bytes (begun known_point.client part.outbox)) _ _
      (heard_done (point_link site place) known_point.client part.outbox bytes (known_point_link part on place known_point is) may (known_point_peer part on place known_point is))) on

  -- ---- detectors

  detector_below : (part : StepSoFar) → On part → (place : ℕ) (detector : KnownDetectorState) → slice_get part.ixl.detectors place ≡ Some detector → detector_link site place < links site
  detector_below part on place detector is = sums (length site.signals) (length site.points) (length site.detectors) (subst (λ n. place < n) on.manned.detectors (within_some part.ixl.detectors place detector is)) where
    sums : (a b c : ℕ) → place < c → a + b + place < a + b + c
    sums a b c below = omega arith

  known_signals_long : (part : StepSoFar) → On part → length (known_signal_clients part.ixl) ≡ length site.signals
  known_signals_long part on = length_map (λ (l : KnownSignalState). l.client) part.ixl.known_signals ∙ on.manned.known_signals

  known_points_long : (part : StepSoFar) → On part → length (known_point_clients part.ixl) ≡ length site.points
  known_points_long part on = length_map (λ (s : KnownPointState). s.client) part.ixl.known_points ∙ on.manned.known_points

  detector_at : (part : StepSoFar) → On part → (place : ℕ) (detector : KnownDetectorState) → slice_get part.ixl.detectors place ≡ Some detector → slice_get (client_states part.ixl) (detector_link site place) ≡ Some detector.client
  detector_at part on place detector is =
      let found = get_map (λ (d : KnownDetectorState). d.client) part.ixl.detectors place ∙ ap (option_map (λ (d : KnownDetectorState). d.client)) is
      in get_right (known_signal_clients part.ixl) (known_point_clients part.ixl ++ detector_clients part.ixl) (length (known_point_clients part.ixl) + place) (detector_link site place)
      (sums (length site.signals) (length site.points) (length (known_signal_clients part.ixl)) (length (known_point_clients part.ixl)) place (known_signals_long part on) (known_points_long part on))
      ∙ get_right (known_point_clients part.ixl) (detector_clients part.ixl) place (length (known_point_clients part.ixl) + place) refl ∙ found
    where
      sums : (a b c d n : ℕ) → c ≡ a → d ≡ b → a + b + n ≡ c + (d + n)
      sums a b c d n p q = omega arith

  detector_peer : (part : StepSoFar) → On part → (place : ℕ) (detector : KnownDetectorState) → slice_get part.ixl.detectors place ≡ Some detector → IsPeer detector.client.peer
  detector_peer part on place detector is = let found = on.clients (detector_link site place) (detector_below part on place detector is) in subst (λ (c : ClientState). IsPeer c.peer) (same_Some found.client detector.client (sym found.there ∙ detector_at part on place detector is)) found.peer

  detector_kept : (part : StepSoFar) → On part → (place : ℕ) (detector : KnownDetectorState) → slice_get part.ixl.detectors place ≡ Some detector → (done : client.ClientSoFar) (occupied : Places) → IsDone (detector_link site place) detector.client part.outbox done
      → On (with_detector place (detector_after occupied done.client) (noted (Detector place) done part))
  detector_kept part on place detector is done occupied made = next (Detector place) detector.client part done (record part.ixl { detectors = changed (λ old. detector_after occupied done.client) place part.ixl.detectors }) on (record {
    node_is = subst (λ n. place < n) on.manned.detectors (within_some part.ixl.detectors place detector is);
    below = detector_below part on place detector is;
    at = detector_at part on place detector is;
    list = made.list;
    makes = made.makes;
    may = made.may;
    same_peer = made.same_peer;
    set = ap (λ l. known_signal_clients part.ixl ++ (known_point_clients part.ixl ++ map (λ (detector : KnownDetectorState). detector.client) l)) (changed_to (detector_after occupied done.client) place part.ixl.detectors)
        ∙ ap (λ l. known_signal_clients part.ixl ++ (known_point_clients part.ixl ++ l)) (map_set (λ (detector : KnownDetectorState). detector.client) part.ixl.detectors place (detector_after occupied done.client))
        ∙ ap (λ c. known_signal_clients part.ixl ++ (known_point_clients part.ixl ++ slice_set (detector_clients part.ixl) place c)) (detector_client occupied done.client)
        ∙ third_set (known_signal_clients part.ixl) (known_point_clients part.ixl) (detector_clients part.ixl) place (detector_link site place) done.client
        (ap (λ n. n + length site.points + place) (sym (known_signals_long part on)) ∙ ap (λ n. length (known_signal_clients part.ixl) + n + place) (sym (known_points_long part on)));
    manned = record { known_signals = on.manned.known_signals; known_points = on.manned.known_points; detectors = length_changed (detector_after occupied done.client) place part.ixl.detectors ∙ on.manned.detectors };
  })

  looks_on : (section : ℕ) (occupied : Bool) (number : ℕ) (part : StepSoFar) → On part → On (looking_by section occupied table number part)
  unfolding looking_by
  looks_on section occupied number part on = at_kept On table number _ part (λ row route. by_test On (was_authorised route.phase) _ part (λ e. route_kept number _ part on) (λ e. on)) on

  detector_ticks : (place : ℕ) (part : StepSoFar) → On part → On (detector_ticking now place part)
  unfolding detector_ticking
  detector_ticks place part on = one_kept On (slice_get part.ixl.detectors place) _ part (λ detector is. detector_kept part on place detector is (ticking now (begun detector.client part.outbox)) _
      (ticked_done (detector_link site place) detector.client part.outbox (detector_peer part on place detector is))) on

  detector_hears : (bytes : List ℕ) → MayHear bytes → (place : ℕ) (part : StepSoFar) → On part → On (detector_hearing now table bytes place part)
  unfolding detector_hearing
  detector_hears bytes may place part on = one_kept On (slice_get table.detectors place) _ part (λ sections has. one_kept On (slice_get part.ixl.detectors place) _ part (λ detector is.
      along_kept On (looking table) (λ look some. over_kept On (looking_by look.0 look.1 table) (λ number other. looks_on look.0 look.1 number other) (count table) some)
      (looks sections detector (hearing now bytes (begun detector.client part.outbox)).heard (hearing now bytes (begun detector.client part.outbox)).client) _
      (detector_kept part on place detector is (hearing now bytes (begun detector.client part.outbox)) (occupied_heard (hearing now bytes (begun detector.client part.outbox)).heard detector.occupied)
      (heard_done (detector_link site place) detector.client part.outbox bytes (detector_below part on place detector is) may (detector_peer part on place detector is)))) on) on

  -- ---- the rules

  stops : (row : Row) (part : StepSoFar) → On part → On (stopped now row part)
  stops row part on = by_test On (is_signal_ready part.ixl row.entry) (giving_aspect now row.entry aspects.Stop part) part (λ e. aspect_given row.entry aspects.Stop part on) (λ e. on)

  withdraws : (number : ℕ) (part : StepSoFar) → On part → On (withdrawing now table number part)
  unfolding withdrawing
  withdraws number part on = at_kept On table number _ part (λ row route. by_test On (is_stop_due table part.ixl row route) _ part (λ e. stops row _ (route_kept number (come_to phase.Withdrawn) part on)) (λ e. on)) on

  ends_one : (number : ℕ) (part : StepSoFar) → On part → On (ending_authority now table number part)
  unfolding ending_authority
  ends_one number part on = at_kept On table number _ part (λ row route. by_test On (is_withdrawn route.phase && is_at_known_stop now part.ixl row.entry) _ part (λ e. route_kept number (come_to (phase.Ended now 0)) part on) (λ e. on)) on

  frees_one : (number : ℕ) (part : StepSoFar) → On part → On (freeing_next table number part)
  unfolding freeing_next
  frees_one number part on = at_kept On table number _ part (λ row route. by_test On (frees_next table part.ixl row route route.phase) _ part (λ e. route_kept number (one_freed row route.phase) part on) (λ e. on)) on

  frees_all : (number : ℕ) (part : StepSoFar) → On part → On (freeing_by_passage table number part)
  unfolding freeing_by_passage
  frees_all number part on = at_kept On table number _ part (λ row route. repeated_kept On (freeing_next table number) (frees_one number) (length row.sections) part on) on

  cancels : (number : ℕ) (part : StepSoFar) → On part → On (freeing_by_cancel now table number part)
  unfolding freeing_by_cancel
  cancels number part on = at_kept On table number _ part (λ row route. by_test On (route.cancelled && frees_cancelled now table part.ixl row route route.phase) _ part (λ e. route_kept number freed part on) (λ e. on)) on

  moves_one : (number : ℕ) (need : Need) (part : StepSoFar) → On part → On (moving_one now table number need part)
  unfolding moving_one
  moves_one number need part on = at_kept On table number _ part (λ row route. by_test On (is_move_due table part.ixl number route need) _ part (λ e. move_given need.point need.side part on) (λ e. on)) on

  moves_all : (number : ℕ) (part : StepSoFar) → On part → On (moving now table number part)
  unfolding moving
  moves_all number part on = at_kept On table number _ part (λ row route. along_kept On (moving_one now table number) (moves_one number) row.needs part on) on

  proceeds : (number : ℕ) (part : StepSoFar) → On part → On (proceeding now table number part)
  unfolding proceeding
  proceeds number part on = at_kept On table number _ part (λ row route. by_test On (is_proceed_due now table part.ixl row route) _ part
      (λ e. aspect_given row.entry row.aspect (with_route number (authorised table part.ixl row) part) (route_kept number (authorised table part.ixl row) part on)) (λ e. on)) on

  pub rules_kept : (part : StepSoFar) → On part → On (ruled now table part)
  rules_kept part on =
      over_kept On (proceeding now table) proceeds (count table) (moved now table part)
      (over_kept On (moving now table) moves_all (count table) (freed_by_cancel now table part)
      (over_kept On (freeing_by_cancel now table) cancels (count table) (freed_by_passage now table part)
      (over_kept On (freeing_by_passage table) frees_all (count table) (ended now table part)
      (over_kept On (ending_authority now table) ends_one (count table) (withdrawn now table part)
      (over_kept On (withdrawing now table) withdraws (count table) part on)))))

  watches : (number : ℕ) (part : StepSoFar) → On part → On (watching table number part)
  unfolding watching
  watches number part on = at_kept On table number _ part (λ row route. by_test On (is_proceeding route.phase || is_withdrawn route.phase) _ part (λ e. route_kept number _ part on) (λ e. on)) on

  -- ---- the input

  -- the clients are the same where each point forgets a route
  unmoved_clients : (number : ℕ) (known_points : List KnownPointState) → map (λ (s : KnownPointState). s.client) (map (unmoved_for number) known_points) ≡ map (λ (s : KnownPointState). s.client) known_points
  unmoved_clients number [] = refl
  unmoved_clients number (first ∷ others) = ap (λ l. first.client ∷ l) (unmoved_clients number others)

  obeys : (command : Command) (part : StepSoFar) → On part → On (record part { ixl = obeyed now command part.ixl })
  unfolding obeyed
  obeys (requests.Request route) part on = ixl_kept part (route_set route.0 part.ixl)
      (ap (λ l. known_signal_clients part.ixl ++ (l ++ detector_clients part.ixl)) (unmoved_clients route.0 part.ixl.known_points))
      (record { known_signals = on.manned.known_signals; known_points = length_map (unmoved_for route.0) part.ixl.known_points ∙ on.manned.known_points; detectors = on.manned.detectors }) on
  obeys (requests.Cancel route) part on = ixl_kept part _ refl (record { known_signals = on.manned.known_signals; known_points = on.manned.known_points; detectors = on.manned.detectors }) on
  obeys requests.Resume part on = ixl_kept part _ refl (record { known_signals = on.manned.known_signals; known_points = on.manned.known_points; detectors = on.manned.detectors }) on
  obeys (requests.Release route) part on = ixl_kept part _ refl (record { known_signals = on.manned.known_signals; known_points = on.manned.known_points; detectors = on.manned.detectors }) on
  obeys (requests.Move point side) part on = on
  obeys (requests.Close named) part on = ixl_kept part _ refl (record { known_signals = on.manned.known_signals; known_points = on.manned.known_points; detectors = on.manned.detectors }) on
  obeys (requests.Open named) part on = ixl_kept part _ refl (record { known_signals = on.manned.known_signals; known_points = on.manned.known_points; detectors = on.manned.detectors }) on

  commands_kept : (why : Option Refusal) (command : Command) (part : StepSoFar) → On part → On (record part { ixl = commanded_by now why command part.ixl })
  commands_kept None command part on = obeys command part on
  commands_kept (Some refusal) command part on = on

  moves_at_once : (why : Option Refusal) (command : Command) (part : StepSoFar) → On part → On (moved_at_once now why command part)
  unfolding moved_at_once
  moves_at_once (Some refusal) command part on = on
  moves_at_once None (requests.Move point side) part on = move_given point.0 side part on
  moves_at_once None (requests.Request route) part on = on
  moves_at_once None (requests.Cancel route) part on = on
  moves_at_once None requests.Resume part on = on
  moves_at_once None (requests.Release route) part on = on
  moves_at_once None (requests.Close named) part on = on
  moves_at_once None (requests.Open named) part on = on

  hears : (bytes : List ℕ) → MayHear bytes → (node : Node) (part : StepSoFar) → On part → On (node_hearing now table bytes node part)
  unfolding node_hearing
  hears bytes may (Signal place) part on = known_signal_hears bytes may place part on
  hears bytes may (Point place) part on = known_point_hears bytes may place part on
  hears bytes may (Detector place) part on = detector_hears bytes may place part on

  -- what may come with an input
  abbrev pub MayComeIn : Input → Type 0
  MayComeIn Tick = Unit {0}
  MayComeIn (Datagram bytes) = MayHear bytes
  MayComeIn (Commands command) = Unit {0}

  given_kept : (key : Key) (input : Input) → MayComeIn input → (part : StepSoFar) → On part → On (given now table key input part)
  unfolding given
  given_kept key Tick may part on = on
  given_kept key (Datagram bytes) may part on = one_kept On (addressed (reading key bytes) part.ixl) (node_hearing now table bytes) part (λ node found. hears bytes may node part on) on
  given_kept key (Commands command) may part on =
      let why = refusal now table command part.ixl
      in moves_at_once why command (record part { ixl = commanded_by now why command part.ixl }) (commands_kept why command part on)

  ticked_kept : (input : Input) (part : StepSoFar) → On part → On (ticked now input part)
  unfolding ticked
  ticked_kept Tick part on =
      over_kept On (detector_ticking now) detector_ticks (length part.ixl.detectors) _
      (over_kept On (known_point_ticking now) known_point_ticks (length part.ixl.known_points) _
      (over_kept On (known_signal_ticking now) known_signal_ticks (length part.ixl.known_signals) part on))
  ticked_kept (Datagram bytes) part on = on
  ticked_kept (Commands command) part on = on

  -- a step from where the clock rules were applied
  pub step_kept : (key : Key) (input : Input) (part : StepSoFar) → MayComeIn input → On (record part { ixl = all_clocked now part.ixl }) → On (stepped now table key input part)
  unfolding stepped
  step_kept key input part may on = ticked_kept input _ (rules_kept _ (over_kept On (watching table) watches (count table) _ (given_kept key input may (record part { ixl = all_clocked now part.ixl }) on)))
