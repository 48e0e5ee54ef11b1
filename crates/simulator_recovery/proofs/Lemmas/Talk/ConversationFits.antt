-- What each end of a link says, the other expects.
use Rattle.simulator_recovery.proofs.Words.Basics.{◌≡◌, inl, inr, ℕ, ◌-◌, ◌<◌, true, length, Some, Ok, refl, sym, ap, subst, ◌∙◌, IsTrue, none-some}
use Rattle.simulator_recovery.proofs.Words.Controllers.{protocol_of, IsName, reading, IsMessage, writing, Match, Aspect, Initialisation, InitialisationCompleted, InitialisationRequest, StartInitialisation, VersionAnswer, VersionCheck, Message, MovePoint, Protocol, Side, IndicateAspect, Behaviour, HostState, said, telegram_of, Report, Stage as HostStage, SignalState, signal_behaviour, point_behaviour, PointState, is_answered}
use Rattle.simulator_recovery.proofs.Words.Interlockings.{PeerState, IsExpected, IsForClient, Tells, TellsState, item_of, is_same_protocol, is_status, reports_changes, state_in, message_of, telegram_to, ObjectState, Stage}
use Rattle.simulator_recovery.proofs.Words.Stations.{IsPeer}
use Rattle.simulator_recovery.proofs.Words.Recovery.{AreMatched, HostExpects, HostExpectsItem, IsForHost, ReportsState, WrittenIsRead}
use Rattle.simulator_spec.specs.object_host.Step as hosts
use Rattle.simulator_spec.specs.object_host.Told as told_by_hosts
use Rattle.simulator_spec.specs.ixl_client.declared.command.Command.{Command}

same_for_hosts : (protocol : Protocol) → hosts.is_same_protocol protocol protocol ≡ true
same_for_hosts Protocol.TrainDetection = refl
same_for_hosts Protocol.LightSignal = refl
same_for_hosts Protocol.Point = refl

same_for_clients : (protocol : Protocol) → is_same_protocol protocol protocol ≡ true
same_for_clients Protocol.TrainDetection = refl
same_for_clients Protocol.LightSignal = refl
same_for_clients Protocol.Point = refl

module _ (written : WrittenIsRead) where
  -- ---- what a client says

  module _ {Object : Type 0} (does : Behaviour Object) (now : ℕ) (peer : PeerState) (is_peer : IsPeer peer) (host : HostState Object) (matched : AreMatched does peer host) where
    -- a telegram of the client in the protocol of its controller
    for_host : (told : Message) → protocol_of told ≡ peer.protocol → IsTrue (hosts.is_in_version host.version told) → IsForHost does host (telegram_to peer told)
    for_host told protocol version = record {
      protocol = subst (λ (p : Protocol). hosts.is_same_protocol p does.protocol ≡ true) (sym (protocol ∙ sym matched.protocol)) (same_for_hosts does.protocol);
      sender = sym matched.own_name;
      receiver = sym matched.name;
      version = version;
    }

    expects : (told : Message) (how_far : HostStage) → IsMessage told → protocol_of told ≡ peer.protocol → IsTrue (hosts.is_in_version host.version told) → host.stage ≡ how_far
        → HostExpects does now host (telegram_to peer told) how_far told → HostExpectsItem does now host (reading (writing (telegram_to peer told)))
    expects told how_far is protocol version at so = subst (HostExpectsItem does now host) (sym (written (telegram_to peer told) (record { sender = is_peer.own_name; receiver = is_peer.name; message = is })))
        (for_host told protocol version, subst (λ (s : HostStage). HostExpects does now host (telegram_to peer told) s told) (sym at) so)

    pub check_expected : host.stage ≡ HostStage.AwaitsCheck → HostExpectsItem does now host (reading (item_of peer (VersionCheck peer.version)))
    check_expected at = expects (Message.Initialisation peer.protocol (VersionCheck peer.version)) HostStage.AwaitsCheck is_peer.version refl refl at
        (peer.protocol, ap (λ (version : ℕ). Message.Initialisation peer.protocol (VersionCheck version)) (sym matched.version))

    pub request_expected : host.stage ≡ HostStage.AwaitsRequest → HostExpectsItem does now host (reading (item_of peer InitialisationRequest))
    request_expected at = expects (Message.Initialisation peer.protocol InitialisationRequest) HostStage.AwaitsRequest tt refl refl at (peer.protocol, refl)

  pub aspect_expected : (now : ℕ) (aspect : Aspect) (peer : PeerState) (host : HostState SignalState) → IsPeer peer → AreMatched signal_behaviour peer host → host.stage ≡ HostStage.Completed
      → IsTrue (hosts.is_in_version host.version (message_of (Command.Indicate aspect))) → HostExpectsItem signal_behaviour now host (reading (writing (telegram_to peer (message_of (Command.Indicate aspect)))))
  aspect_expected now aspect peer host is_peer matched at version =
      expects signal_behaviour now peer is_peer host matched (Message.Signal (IndicateAspect aspect)) HostStage.Completed tt matched.protocol version at (refl, refl)

  pub move_expected : (now : ℕ) (side : Side) (peer : PeerState) (host : HostState PointState) → IsPeer peer → AreMatched point_behaviour peer host → host.stage ≡ HostStage.Completed
      → is_answered host.object.progress ≡ true → HostExpectsItem point_behaviour now host (reading (writing (telegram_to peer (message_of (Command.Move side)))))
  move_expected now side peer host is_peer matched at answered =
      expects point_behaviour now peer is_peer host matched (Message.Point (MovePoint side)) HostStage.Completed tt matched.protocol refl at (refl, fits)
    where
      fits : point_behaviour.accepts now (telegram_to peer (Message.Point (MovePoint side))) host.object ≡ true
      fits = rw answered refl

  -- ---- what a controller says

  module _ {Object : Type 0} (does : Behaviour Object) (peer : PeerState) (is_peer : IsPeer peer) (host : HostState Object) (matched : AreMatched does peer host) where
    for_client : (report : Report) → protocol_of report.message ≡ peer.protocol → IsForClient peer (telegram_of report host)
    for_client report protocol = record {
      protocol = subst (λ (p : Protocol). is_same_protocol p peer.protocol ≡ true) (sym protocol) (same_for_clients peer.protocol);
      receiver = matched.own_name;
    }

    own_name_is : IsName host.own_name
    own_name_is = subst IsName (sym matched.name) is_peer.name

    peer_name_is : IsName host.peer_name
    peer_name_is = subst IsName (sym matched.own_name) is_peer.own_name

    tells : (told : Initialisation) → Tells peer (telegram_of (said does told) host) told
    tells told = record { protocol = does.protocol; message = refl; sender = matched.name }

    said_read : (told : Initialisation) → IsMessage (Message.Initialisation does.protocol told) → reading (told_by_hosts.item_of host (said does told)) ≡ Ok (telegram_of (said does told) host)
    said_read told is = written (telegram_of (said does told) host) (record { sender = own_name_is; receiver = peer_name_is; message = is })

    pub answer_expected : IsExpected peer Stage.AwaitsAnswer (reading (told_by_hosts.item_of host (said does (VersionAnswer Match host.version))))
    answer_expected = subst (IsExpected peer Stage.AwaitsAnswer) (sym (said_read (VersionAnswer Match host.version) (subst (λ (v : ℕ). v < 256) (sym matched.version) is_peer.version))) (
      for_client (said does (VersionAnswer Match host.version)) matched.protocol,
      subst (λ (v : ℕ). Tells peer (telegram_of (said does (VersionAnswer Match host.version)) host) (VersionAnswer Match v)) matched.version (tells (VersionAnswer Match host.version)),
    )

    pub start_expected : IsExpected peer Stage.AwaitsStart (reading (told_by_hosts.item_of host (said does StartInitialisation)))
    start_expected = subst (IsExpected peer Stage.AwaitsStart) (sym (said_read StartInitialisation tt)) (for_client (said does StartInitialisation) matched.protocol, tells StartInitialisation)

    pub completed_expected : IsExpected peer (Stage.AwaitsStatus 0) (reading (told_by_hosts.item_of host (said does InitialisationCompleted)))
    completed_expected = subst (IsExpected peer (Stage.AwaitsStatus 0)) (sym (said_read InitialisationCompleted tt)) (for_client (said does InitialisationCompleted) matched.protocol, inr (refl, tells InitialisationCompleted))

    -- reports
    is_report : (told : Message) (state : ObjectState) → state_in told ≡ Some state → IsMessage told
    is_report (Message.Initialisation protocol told) state is = absurd (none-some state is)
    is_report (Message.Point told) state is = tt
    is_report (Message.Signal told) state is = tt
    is_report (Message.Detection told) state is = tt

    report_read : (report : Report) (place : ℕ) → ReportsState peer host report place → reading (told_by_hosts.item_of host report) ≡ Ok (telegram_of report host)
    report_read report place is = written (telegram_of report host) (record { sender = is.name; receiver = peer_name_is; message = is_report report.message is.state is.told })

    tells_state : (report : Report) (place : ℕ) → ReportsState peer host report place → TellsState peer (telegram_of report host) place
    tells_state report place is = record { state = is.state; of = is.of; told = is.told; version = is.version }

    pub status_expected : (report : Report) (left : ℕ) (is : ReportsState peer host report (length peer.objects - left)) → IsTrue (is_status is.state) → IsExpected peer (Stage.AwaitsStatus left) (reading (told_by_hosts.item_of host report))
    unfolding tells_state
    status_expected report left is status = subst (IsExpected peer (Stage.AwaitsStatus left)) (sym (report_read report (length peer.objects - left) is))
        (for_client report is.protocol, inl (tells_state report (length peer.objects - left) is, status))

    pub change_expected : (report : Report) (place : ℕ) → ReportsState peer host report place → IsTrue (reports_changes peer.protocol) → IsExpected peer Stage.Completed (reading (told_by_hosts.item_of host report))
    change_expected report place is changes = subst (IsExpected peer Stage.Completed) (sym (report_read report place is)) (for_client report is.protocol, ((place, tells_state report place is), changes))

    pub answer_to_move_expected : (report : Report) (place : ℕ) → ReportsState peer host report place → IsExpected peer Stage.AwaitsReport (reading (told_by_hosts.item_of host report))
    answer_to_move_expected report place is = subst (IsExpected peer Stage.AwaitsReport) (sym (report_read report place is)) (for_client report is.protocol, (place, tells_state report place is))
