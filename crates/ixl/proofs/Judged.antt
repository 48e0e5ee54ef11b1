-- What the link of a datagram's sender makes of bytes that weren't read is what an interlocking is to do with them.
use Rattle.std.proofs.Common.{◌≡◌, ℕ, List, [], refl, ap, sym, ◌∙◌, subst}
use Rattle.std.specs.Prelude.{Option, Some, None, Result, Ok, Err, slice_get}
use Rattle.std.specs.List.{All}
use Rattle.std.proofs.lemmas.Option.{get_or_from_slice_get, none-some, same_Some, slice_get_within}
use Rattle.ixl_state.specs.rasta_core.Outbox.{OutboxState}
use Rattle.ixl_state.specs.rasta_core.Receipt.{Receipt}
use Rattle.ixl_state.specs.rasta_core.verdict.Verdict.{Verdict}
use Rattle.ixl_state.specs.rasta_pdu.Header.{sender_of}
use Rattle.ixl_state.specs.rasta_pdu.PduRead.{reading}
use Rattle.ixl_state.specs.rasta_pdu.declared.fault.PduFault.{PduFault}
use Rattle.ixl_state.specs.rasta_pdu.declared.key.Key.{Key}
use Rattle.ixl_state.specs.rasta_pdu.declared.pdu.Pdu.{Pdu}
use Rattle.ixl_state.specs.ixl_client.Client.{ClientState}
use Rattle.ixl_state.specs.ixl_known.Field.{AllUnder, node_at}
use Rattle.ixl_state.specs.ixl_known.declared.node.Node.{Node as NamedNode}
use Rattle.ixl_state.specs.ixl_known.declared.node.Node.TheVariants as nodes
use Rattle.ixl_state.specs.ixl_spec.State.{IxlState, KnownDetectorState, KnownPointState, KnownSignalState}
use Rattle.ixl_state.specs.ixl_spec.Step.{Datagram, addressed, all_clocked, client_at, client_of, given, node_hearing, node_of, verdict_at, verdict_of}
use Rattle.ixl_state.specs.ixl_spec.StepSoFar.{begun_with}
use Rattle.ixl_state.specs.First.{key_of}
use Rattle.ixl_state.specs.State.{Goes, StateView, field_of}
use Rattle.ixl.specs.inside.Judged.{IsClocked, MayJudge}
use Rattle.ixl.proofs.StepParts.{Comes, goes_as, leads_at, part_at}
use Rattle.ixl.proofs.Unread.{CannotRead, node_settled, node_stays, unread_refused}

-- ---- the key of a link

one-of : {A : Type 0} (fact : A → Type 0) (list : List A) (place : ℕ) (one : A) → All fact list → slice_get list place ≡ Some one → fact one
one-of fact list place one all is = subst fact (get_or_from_slice_get list place one one is) (all place one (slice_get_within list place one is))

under-at : (key : Key) (state : StateView) (node : NamedNode) (one : ClientState) → AllUnder key (field_of state) → client_at (node_at node) state.ixl ≡ Some one → one.link.identity.key ≡ key
under-at key state (nodes.Signal place) one under is = by_kept (slice_get state.ixl.known_signals place) refl where
  by_kept : (kept : Option KnownSignalState) → slice_get state.ixl.known_signals place ≡ kept → one.link.identity.key ≡ key
  by_kept None none = absurd (none-some one (rw none at is))
  by_kept (Some known_signal) there = subst (λ (c : ClientState). c.link.identity.key ≡ key) (same_Some known_signal.client one (rw there at is))
      (one-of (λ (l : KnownSignalState). l.client.link.identity.key ≡ key) state.ixl.known_signals place known_signal under.known_signals there)
under-at key state (nodes.Point place) one under is = by_kept (slice_get state.ixl.known_points place) refl where
  by_kept : (kept : Option KnownPointState) → slice_get state.ixl.known_points place ≡ kept → one.link.identity.key ≡ key
  by_kept None none = absurd (none-some one (rw none at is))
  by_kept (Some known_point) there = subst (λ (c : ClientState). c.link.identity.key ≡ key) (same_Some known_point.client one (rw there at is))
      (one-of (λ (s : KnownPointState). s.client.link.identity.key ≡ key) state.ixl.known_points place known_point under.known_points there)
under-at key state (nodes.Detector place) one under is = by_kept (slice_get state.ixl.detectors place) refl where
  by_kept : (kept : Option KnownDetectorState) → slice_get state.ixl.detectors place ≡ kept → one.link.identity.key ≡ key
  by_kept None none = absurd (none-some one (rw none at is))
  by_kept (Some detector) there = subst (λ (c : ClientState). c.link.identity.key ≡ key) (same_Some detector.client one (rw there at is))
      (one-of (λ (d : KnownDetectorState). d.client.link.identity.key ≡ key) state.ixl.detectors place detector under.detectors there)

-- ---- what the link makes of the bytes

-- what is read of bytes has the sender that they tell
abbrev pub TellsSender : Type 0
TellsSender = (key : Key) (bytes : List ℕ) (pdu : Pdu) → reading key bytes ≡ Ok pdu → sender_of bytes ≡ pdu.sender

module _ (now : ℕ) (key : Key) (bytes : List ℕ) (node : NamedNode) (old : StateView) (tells : TellsSender) (clocked : IsClocked now old.ixl) (key_is : key ≡ key_of old.sited.site)
    (under : AllUnder (key_of old.sited.site) (field_of old)) (may : MayJudge bytes old node) where
  -- a PDU goes to this node
  to_node : (pdu : Pdu) → reading key bytes ≡ Ok pdu → node_of pdu.sender old.ixl ≡ Some (node_at node)
  to_node pdu read = ap (λ id. node_of id old.ixl) (sym (tells key bytes pdu read)) ∙ may.named

  cannot_read : (fault : PduFault) → reading key bytes ≡ Err fault → CannotRead bytes fault may.client
  cannot_read fault read = record {
    steady = may.steady;
    below = may.below;
    read = ap (λ (k : Key). reading k bytes) (under-at (key_of old.sited.site) old node may.client under may.at ∙ sym key_is) ∙ read;
  }

  client_there : client_at (node_at node) (all_clocked now clocked.0) ≡ Some may.client
  client_there = subst (λ (i : IxlState). client_at (node_at node) i ≡ Some may.client) clocked.1 may.at

  pub judged_goes : (box : OutboxState) (new : StateView) (out : OutboxState) → Goes now 30 (node_hearing now old.sited.table bytes (node_at node)) old box new out →
      Goes now 30 (given now old.sited.table key (Datagram bytes)) old box new out
  unfolding given
  judged_goes box new out goes = by_reading (reading key bytes) refl where
    by_reading : (read : Result Pdu PduFault) → reading key bytes ≡ read → Goes now 30 (given now old.sited.table key (Datagram bytes)) old box new out
    by_reading (Ok pdu) read =
        let to : addressed (reading key bytes) old.ixl ≡ Some (node_at node) = ap (λ (r : Result Pdu PduFault). addressed r old.ixl) read ∙ to_node pdu read
        in goes_as now 30 (node_hearing now old.sited.table bytes (node_at node)) (given now old.sited.table key (Datagram bytes)) old box new out
        (λ leads. leads_at (given now old.sited.table key (Datagram bytes)) old.ixl box new.ixl out (λ calls acted. rw to (leads (part_at old.ixl box calls acted) refl refl))) goes
    by_reading (Err fault) read =
        let stays : Comes (node_hearing now old.sited.table bytes (node_at node) (begun_with old.ixl box)) old.ixl box =
        subst (λ (i : IxlState). Comes (node_hearing now old.sited.table bytes (node_at node) (begun_with i box)) i box) (sym clocked.1)
        (node_stays now old.sited.table bytes fault clocked.0 box (node_at node) may.client client_there (cannot_read fault read))
        in let comes : Comes (node_hearing now old.sited.table bytes (node_at node) (begun_with old.ixl box)) new.ixl out = goes.leads (begun_with old.ixl box) refl refl
        in goes_as now 30 (node_hearing now old.sited.table bytes (node_at node)) (given now old.sited.table key (Datagram bytes)) old box new out
        (λ leads. leads_at (given now old.sited.table key (Datagram bytes)) old.ixl box new.ixl out (λ calls acted. rw read (sym stays.0 ∙ comes.0, sym stays.1 ∙ comes.1))) goes

  pub judged_told : (verdict : Verdict) → verdict ≡ verdict_at now bytes (client_at (node_at node) old.ixl) → verdict ≡ verdict_of now bytes (reading key bytes) old.ixl
  judged_told verdict is = is ∙ by_reading (reading key bytes) refl where
    by_reading : (read : Result Pdu PduFault) → reading key bytes ≡ read → verdict_at now bytes (client_at (node_at node) old.ixl) ≡ verdict_of now bytes (reading key bytes) old.ixl
    by_reading (Ok pdu) read = sym (ap (λ (r : Result Pdu PduFault). verdict_of now bytes r old.ixl) read ∙ ap (λ n. verdict_at now bytes (client_of n old.ixl)) (to_node pdu read))
    by_reading (Err fault) read =
        let cannot = cannot_read fault read
        in ap (verdict_at now bytes) may.at
        ∙ ap (λ (r : Receipt). r.verdict) (unread_refused now bytes may.client.link fault (node_settled now old.sited.table bytes fault clocked.0 box_none (node_at node) may.client client_there) cannot.below cannot.read)
        ∙ sym (ap (λ (r : Result Pdu PduFault). verdict_of now bytes r old.ixl) read)
      where
        box_none : OutboxState
        box_none = record { datagrams = []; capacity = 0 }
