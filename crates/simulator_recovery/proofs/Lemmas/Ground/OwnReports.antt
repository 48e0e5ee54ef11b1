-- What a signal and a point tell their clients of, and that a client asks no other version than its own.
use Rattle.simulator_recovery.proofs.Words.Basics.{◌≡◌, ℕ, zero, suc, ◌∙◌, Bool, true, false, List, [], ◌∷◌, ◌++◌, length, map, Option, Some, None, Ok, refl, sym, ap, subst, if◌then◌else◌, slice_get, ◌==◌, Result, Err, IsTrue, position, bytes_eq, none-some, same_Some, bytes_eq-Decides}
use Rattle.simulator_recovery.proofs.Words.Controllers.{reading, IsMessage, writing, SciFault, Telegram, InitialisationRequest, VersionCheck, protocol_of, IsName, Message, IndicatedAspect, PointPosition, Timeout, Behaviour, HostState, Report, SignalState, indicated_report, signal_behaviour, point_behaviour, PointState, final_report, position_report, Progress}
use Rattle.simulator_recovery.proofs.Words.Interlockings.{item_of as item_said, message_of, telegram_to, Node, PeerState, is_in_version, is_status, place_of, state_in, ObjectState}
use Rattle.simulator_recovery.proofs.Words.Stations.{Site, IsPeer}
use Rattle.simulator_recovery.proofs.Words.Recovery.{ClientSaid, asked, checked, commanded, nothing, SomeAsks, Any, IndicatesSpoken, WrittenIsRead, AreMatched, ReportsState}
use Rattle.simulator_spec.specs.ixl_client.declared.command.Command.{Command}
use Rattle.simulator_recovery.proofs.Lemmas.Ground.ClientItem.{is_none, at_front}
use Rattle.simulator_recovery.proofs.Lemmas.Talk.ExpectedItems.{only_at, KindReports}
use Rattle.simulator_recovery.proofs.Lemmas.Ground.IxlClients.{mapped_at}
use Rattle.simulator_recovery.proofs.Lemmas.Ground.MatchedEnds.{spoken}
use Rattle.simulator_recovery.proofs.Lemmas.Talk.Standing.{point_tells, signal_tells}

module _ (written : WrittenIsRead) {Object : Type 0} (does : Behaviour Object) (peer : PeerState) (is_peer : IsPeer peer) (host : HostState Object) (matched : AreMatched does peer host) (alone : peer.objects ≡ peer.name ∷ []) where
  -- the controller's own name is the only one that its client hears of
  own_place : place_of peer host.own_name ≡ Some 0
  own_place = ap (position (λ name. bytes_eq name host.own_name)) alone ∙ (let same = (bytes_eq-Decides peer.name host.own_name).1 (sym matched.name) in rw same refl)

  -- a report of the object itself
  pub reports_own : (told : Message) (state : ObjectState) → state_in told ≡ Some state → protocol_of told ≡ peer.protocol → IsTrue (is_in_version peer.version state)
      → ReportsState peer host (record { section = None; message = told }) 0
  reports_own told state is protocol version = record {
    name = subst IsName (sym matched.name) is_peer.name;
    of = own_place;
    state = state;
    told = is;
    protocol = protocol;
    version = version;
  }

-- ---- the kinds

module _ (written : WrittenIsRead) (site : Site) (peer : PeerState) (is_peer : IsPeer peer) (version : peer.version ≡ spoken site) (alone : peer.objects ≡ peer.name ∷ []) where
  module _ (host : HostState SignalState) (matched : AreMatched signal_behaviour peer host) where
    signal_reports : (signal : SignalState) → IndicatesSpoken site signal → ReportsState peer host (indicated_report signal) 0
    signal_reports signal fits = reports_own written signal_behaviour peer is_peer host matched alone (Message.Signal (IndicatedAspect signal.lamp.indicated)) (ObjectState.Aspect signal.lamp.indicated) refl matched.protocol
        (subst (λ (v : ℕ). IsTrue (is_in_version v (ObjectState.Aspect signal.lamp.indicated))) (sym version) fits)

    pub signal_kind : KindReports written signal_behaviour (IndicatesSpoken site) peer is_peer host matched
    unfolding signal_reports reports_own
    signal_kind = record {
      many = λ signal fits. signal_tells signal ∙ ap length (sym alone);
      status = λ signal fits place report e. choose signal fits report place (place == 0) refl e;
      owed = λ signal fits report e. owes signal fits report signal.owes e;
    }
      where
        choose : (signal : SignalState) → IndicatesSpoken site signal → (report : Report) (place : ℕ) (b : Bool) → (place == 0) ≡ b → (if b then Some (indicated_report signal) else None) ≡ Some report → (is : ReportsState peer host report place) × IsTrue (is_status is.state)
        choose signal fits report place true f e = subst (λ (n : ℕ). (is : ReportsState peer host report n) × IsTrue (is_status is.state)) (sym (is_none place f))
            (subst (λ (r : Report). (is : ReportsState peer host r 0) × IsTrue (is_status is.state)) (same_Some _ report e) (signal_reports signal fits, refl))
        choose signal fits report place false f e = absurd (none-some report e)

        owes : (signal : SignalState) → IndicatesSpoken site signal → (report : Report) (b : Bool) → (if b then Some (indicated_report signal) else None) ≡ Some report → (place : ℕ) × ReportsState peer host report place
        owes signal fits report true e = (0, subst (λ (r : Report). ReportsState peer host r 0) (same_Some _ report e) (signal_reports signal fits))
        owes signal fits report false e = absurd (none-some report e)

  module _ (host : HostState PointState) (matched : AreMatched point_behaviour peer host) where
    position_reports : (point : PointState) → ReportsState peer host (position_report point) 0
    position_reports point = reports_own written point_behaviour peer is_peer host matched alone (Message.Point (PointPosition point.sensed)) (ObjectState.Position point.sensed) refl matched.protocol refl

    pub point_kind : KindReports written point_behaviour Any peer is_peer host matched
    unfolding position_reports reports_own
    point_kind = record {
      many = λ point fits. point_tells point ∙ ap length (sym alone);
      status = λ point fits place report e. told point place report e;
      owed = λ point fits report e. owes point point.progress report e;
    }
      where
        told : (point : PointState) (place : ℕ) (report : Report) → point_behaviour.status place point ≡ Some report → (is : ReportsState peer host report place) × IsTrue (is_status is.state)
        told point zero report e = subst (λ (r : Report). (is : ReportsState peer host r 0) × IsTrue (is_status is.state)) (same_Some _ report e) (position_reports point, refl)
        told point (suc place) report e = absurd (none-some report e)

        owes : (point : PointState) (how : Progress) (report : Report) → final_report how point ≡ Some report → (place : ℕ) × ReportsState peer host report place
        owes point Progress.Answered report e = absurd (none-some report e)
        owes point (Progress.Driving side since) report e = absurd (none-some report e)
        owes point Progress.Arrived report e = (0, subst (λ (r : Report). ReportsState peer host r 0) (same_Some _ report e) (position_reports point))
        owes point Progress.TimedOut report e = (
          0,
          subst (λ (r : Report). ReportsState peer host r 0) (same_Some _ report e)
              (reports_own written point_behaviour peer is_peer host matched alone (Message.Point Timeout) ObjectState.Timeout refl matched.protocol refl),
        )

-- ---- a client asks its own version

abbrev asked_in : Message → Option ℕ
asked_in (Message.Initialisation protocol (VersionCheck wanted)) = Some wanted
asked_in _ = None

abbrev asked_of : Result Telegram SciFault → Option ℕ
asked_of (Ok telegram) = asked_in telegram.message
asked_of (Err fault) = None

abbrev AsksRight : ℕ → List ℕ → Type 0
AsksRight version x = (wanted : ℕ) → asked_of (reading x) ≡ Some wanted → wanted ≡ version

module _ (written : WrittenIsRead) (site : Site) (node : Node) (peer : PeerState) (is_peer : IsPeer peer) where
  said_read : (told : Message) → IsMessage told → asked_of (reading (writing (telegram_to peer told))) ≡ asked_in told
  said_read told is = ap asked_of (written (telegram_to peer told) (record { sender = is_peer.own_name; receiver = is_peer.name; message = is }))

  check_right : AsksRight peer.version (item_said peer (VersionCheck peer.version))
  check_right wanted e = sym (same_Some peer.version wanted (sym (said_read (Message.Initialisation peer.protocol (VersionCheck peer.version)) is_peer.version) ∙ e))

  request_right : AsksRight peer.version (item_said peer InitialisationRequest)
  request_right wanted e = absurd (none-some wanted (sym (said_read (Message.Initialisation peer.protocol InitialisationRequest) tt) ∙ e))

  command_right : (command : Command) → AsksRight peer.version (commanded peer command)
  command_right (Command.Indicate aspect) wanted e = absurd (none-some wanted (sym (said_read (message_of (Command.Indicate aspect)) tt) ∙ e))
  command_right (Command.Move side) wanted e = absurd (none-some wanted (sym (said_read (message_of (Command.Move side)) tt) ∙ e))

  each_right : (taken : ℕ) (items : List (List ℕ)) → ClientSaid site node peer taken items → (k : ℕ) (x : List ℕ) → slice_get items k ≡ Some x → AsksRight peer.version x
  each_right taken items (nothing is) k x e = absurd (none-some x (sym (ap (λ (list : List (List ℕ)). slice_get list k) is) ∙ e))
  each_right taken items (checked is) k x e = subst (AsksRight peer.version) (only_at _ k x (sym (ap (λ (list : List (List ℕ)). slice_get list k) is) ∙ e)).1 check_right
  each_right taken items (asked c) k x e = at_place k (sym (ap (λ (list : List (List ℕ)). slice_get list k) c.are) ∙ e)
    where
      at_place : (n : ℕ) → slice_get (item_said peer (VersionCheck peer.version) ∷ item_said peer InitialisationRequest ∷ map (commanded peer) c.commands) n ≡ Some x → AsksRight peer.version x
      at_place zero f = subst (AsksRight peer.version) (same_Some _ x f) check_right
      at_place (suc zero) f = subst (AsksRight peer.version) (same_Some _ x f) request_right
      at_place (suc (suc n)) f = let found = mapped_at (commanded peer) c.commands n x f in subst (AsksRight peer.version) (sym found.2) (command_right found.0)

  -- so none of what its controller has taken asks another
  pub asks_none_other : (taken : ℕ) (given rest other : List (List ℕ)) → ClientSaid site node peer taken given → given ≡ other ++ rest → SomeAsks peer.version other → ⊥
  asks_none_other taken given rest other said begins some =
      some.asks.other (each_right taken given said (length some.front) some.item at some.asks.asked (ap asked_of some.asks.read ∙ ap asked_in some.asks.says))
    where
      here : (front more : List (List ℕ)) → slice_get (front ++ some.item ∷ more) (length front) ≡ Some some.item
      here [] more = refl
      here (first ∷ front) more = here front more

      at : slice_get given (length some.front) ≡ Some some.item
      at = ap (λ (list : List (List ℕ)). slice_get list (length some.front)) (begins ∙ ap (λ (list : List (List ℕ)). list ++ rest) some.are) ∙ at_front (some.front ++ some.item ∷ some.rest) rest (length some.front) some.item (here some.front some.rest)
