-- Each call of an end keeps the order of its connection.
use Rattle.std.proofs.Common.{◌≡◌, ℕ, ◌<◌, Bool, true, false, List, [], ◌∷◌, ◌++◌, length, ◌⊎◌, inl, inr, refl, sym, ap, subst, ◌∙◌, arith}
use Rattle.std.specs.Prelude.{nat_lt, nat_le, ◌-◌, ◌==◌, ◌&&◌, not, if◌then◌else◌, Result, Ok, Err, is_ok}
use Rattle.std.proofs.lemmas.Bool.{ltb-true}
use Rattle.std.proofs.lemmas.List.{append-nil}
use Rattle.rasta_core_spec.specs.Parameters.{connection_limit, heartbeat_interval, window_size}
use Rattle.rasta_core_spec.specs.State.{LinkState, is_open, is_up, is_asking}
use Rattle.rasta_core_spec.specs.Clock.{deadline, settled}
use Rattle.rasta_core_spec.specs.PdusHandedOut.{Step, silent, then_do, sending, telling, closing, limited, entered, beating, giving}
use Rattle.rasta_core_spec.specs.Receipt.{Receipt, hearing, refusing}
use Rattle.rasta_core_spec.specs.Calls.{ticking, closing_by, acceptance, answer_to_send, sending_item, hearing_bytes, receiving}
use Rattle.rasta_core_spec.specs.identity.Identity.{Identity}
use Rattle.rasta_core_spec.specs.reason.Reason.{Reason}
use Rattle.rasta_core_spec.specs.fault.SendFault.{SendFault}
use Rattle.rasta_core_spec.specs.fault.SendFault.TheVariants as fault
use Rattle.rasta_core_spec.specs.verdict.Verdict.{Verdict}
use Rattle.rasta_core_spec.specs.verdict.Verdict.TheVariants as verdict
use Rattle.rasta_core_spec.specs.pdu.Pdu.{Pdu}
use Rattle.rasta_core_spec.specs.pdu_fault.PduFault.{PduFault}
use Rattle.rasta_core_spec.specs.PduRead.{reading}
use Rattle.rasta_core.specs.EndFlow.{IsOf, EndFlow}
use Rattle.rasta_core.specs.Order.{InOrder}
use Rattle.rasta_core.specs.LinkAndFlow.{HasJoined, IsStillAsking, Plays, GoesOn}
use Rattle.rasta_core.proofs.OrderTests.{by_test}
use Rattle.rasta_core.proofs.OrderSteps.{stays, closed_on, beat_on, gave_on}
use Rattle.rasta_core.proofs.Enters.{Enters, outside, inside, enters}
use Rattle.rasta_core.proofs.Hears.{heard_on}

-- what a part of a call must do, inside and outside
module _ (now : ℕ) (link : LinkState) (own other : EndFlow) (order : InOrder own other) (act : LinkState → Step) (accepted : LinkState → List (List ℕ))
    (silent_outside : (link : LinkState) → is_open link.phase ≡ false → act link ≡ silent link) (none_outside : (link : LinkState) → is_open link.phase ≡ false → accepted link ≡ [])
    (keeps_inside : (link : LinkState) → HasJoined link own other ⊎ IsStillAsking link own other → link.sent < connection_limit → nat_lt link.clock (deadline link) ≡ true
    → GoesOn own other (act link).link (act link).pdus (accepted link) []) where
  called_outside : (begun : Step) → is_open begun.link.phase ≡ false → GoesOn own other begun.link begun.pdus [] []
      → GoesOn own other (then_do begun act).link (then_do begun act).pdus (accepted begun.link) []
  called_outside begun shut goes =
      let same = silent_outside begun.link shut
      in subst (λ (step : Step). GoesOn own other step.link (begun.pdus ++ step.pdus) (accepted begun.link) []) (sym same)
      (subst (λ (pdus : List Pdu). GoesOn own other begun.link pdus (accepted begun.link) []) (sym (append-nil begun.pdus))
      (subst (λ (items : List (List ℕ)). GoesOn own other begun.link begun.pdus items []) (sym (none_outside begun.link shut)) goes))

  called : Enters now link own other → GoesOn own other (then_do (entered now link) act).link (then_do (entered now link) act).pdus (accepted (entered now link).link) []
  called (outside shut goes) = called_outside (entered now link) shut goes
  called (inside is one room alive) =
      subst (λ (begun : Step). GoesOn own other (then_do begun act).link (then_do begun act).pdus (accepted begun.link) []) (sym is)
      (keeps_inside (record link { clock = now }) one room alive)

  pub call_on : Plays link own other → GoesOn own other (then_do (entered now link) act).link (then_do (entered now link) act).pdus (accepted (entered now link).link) []
  call_on plays = called (enters now link own other order plays)

pub not_up : (link : LinkState) → is_open link.phase ≡ false → is_up link.phase ≡ false
not_up link shut = grind (arith, shut)

-- an end that is up has joined
up_joined : (link : LinkState) (own other : EndFlow) → HasJoined link own other ⊎ IsStillAsking link own other → is_up link.phase ≡ true → HasJoined link own other
up_joined link own other (inl has) e = has
up_joined link own other (inr still) e = absurd (not_asking still.asking e)
  where
    not_asking : is_asking link ≡ true → is_up link.phase ≡ true → ⊥
    not_asking asks up = grind (arith, asks, up)

both_left : (one other : Bool) → (one && other) ≡ true → one ≡ true
both_left true other e = refl
both_left false other e = cc (e)

plays_inside : (link : LinkState) (own other : EndFlow) → HasJoined link own other ⊎ IsStillAsking link own other → Plays link own other
plays_inside link own other (inl has) = Plays.joined has
plays_inside link own other (inr still) = Plays.asking still

is_connected : (link : LinkState) (own other : EndFlow) → HasJoined link own other ⊎ IsStillAsking link own other → is_open link.phase ≡ true
is_connected link own other (inl has) = has.inside.connected
is_connected link own other (inr still) = still.inside.connected

pub false_then : {A : Type 0} (test : Bool) (one other : A) → test ≡ false → (if test then one else other) ≡ other
false_then true one other e = absurd (cc (e))
false_then false one other e = refl

pub and_false : (one other : Bool) → one ≡ false → (one && other) ≡ false
and_false true other e = absurd (cc (e))
and_false false other e = refl

pub both_not : (one other : Bool) → not one ≡ false → not other ≡ false → (one && other) ≡ false → ⊥
both_not true true a b e = cc (e)
both_not true false a b e = cc (b)
both_not false other a b e = cc (a)

pub same_ends : (now : ℕ) (link : LinkState) → (entered now link).link.identity ≡ link.identity
unfolding entered settled limited telling sending
same_ends now link =
    by_test (λ (begun : LinkState). (limited begun).link.identity ≡ link.identity) (is_open link.phase && nat_le (deadline link) now) _ (record link { clock = now })
    (λ e. refl)
    (λ e. by_test (λ (step : Step). step.link.identity ≡ link.identity) (is_open link.phase && nat_le connection_limit link.sent) _ (silent (record link { clock = now })) (λ e. refl) (λ e. refl))

module _ (now : ℕ) (link : LinkState) (own other : EndFlow) (order : InOrder own other) (plays : Plays link own other) where
  pub ticking_on : GoesOn own other (ticking now link).link (ticking now link).pdus [] []
  unfolding ticking beating
  ticking_on =
      call_on now link own other order beating (λ l. []) (λ l shut. beating_outside l shut) (λ l shut. refl) (λ l one room alive. beating_inside l one room) plays
    where
      beating_outside : (l : LinkState) → is_open l.phase ≡ false → beating l ≡ silent l
      beating_outside l shut =
          false_then (is_up l.phase && nat_le heartbeat_interval (l.clock - l.sent_at)) (sending _ l) (silent l)
          (and_false (is_up l.phase) (nat_le heartbeat_interval (l.clock - l.sent_at)) (not_up l shut))

      beating_inside : (l : LinkState) → HasJoined l own other ⊎ IsStillAsking l own other → l.sent < connection_limit → GoesOn own other (beating l).link (beating l).pdus [] []
      beating_inside l one room =
          by_test (λ (step : Step). GoesOn own other step.link step.pdus [] []) (is_up l.phase && nat_le heartbeat_interval (l.clock - l.sent_at)) _ (silent l)
          (λ e. let up = both_left (is_up l.phase) (nat_le heartbeat_interval (l.clock - l.sent_at)) e in beat_on l own other order (up_joined l own other one up) up room)
          (λ e. stays own other l order (plays_inside l own other one))

  pub closing_on : (why : Reason) → GoesOn own other (closing_by now why link).link (closing_by now why link).pdus [] []
  unfolding closing_by
  closing_on why =
      call_on now link own other order (λ l. if is_open l.phase then closing why l else silent l) (λ l. [])
      (λ l shut. false_then (is_open l.phase) (closing why l) (silent l) shut) (λ l shut. refl)
      (λ l one room alive. by_test (λ (step : Step). GoesOn own other step.link step.pdus [] []) (is_open l.phase) (closing why l) (silent l)
      (λ e. closed_on why l own other order one) (λ e. stays own other l order (plays_inside l own other one)))
      plays

  -- the items that a call accepts
  abbrev pub accepts : List ℕ → LinkState → List (List ℕ)
  accepts item l = if is_ok (acceptance l) then item ∷ [] else []

  accepts_none : (item : List ℕ) (l : LinkState) → is_open l.phase ≡ false → is_ok (acceptance l) ≡ false
  unfolding acceptance
  accepts_none item l shut = ap is_ok (false_then (is_up l.phase) _ (Err fault.NotUp) (not_up l shut))

  accepts_up : (l : LinkState) → is_ok (acceptance l) ≡ true → (is_up l.phase ≡ true) × (length l.waiting < 20)
  unfolding acceptance
  accepts_up l =
      by_test (λ (answer : Result Unit SendFault). is_ok answer ≡ true → (is_up l.phase ≡ true) × (length l.waiting < 20)) (is_up l.phase)
      (if nat_lt (length l.waiting) window_size then Ok tt else Err fault.WindowFull) (Err fault.NotUp)
      (λ up. by_test (λ (answer : Result Unit SendFault). is_ok answer ≡ true → (is_up l.phase ≡ true) × (length l.waiting < 20)) (nat_lt (length l.waiting) window_size)
      (Ok tt) (Err fault.WindowFull) (λ few ok. (up, ltb-true (length l.waiting) 20 few)) (λ full ok. absurd (cc (ok))))
      (λ e ok. absurd (cc (ok)))

  pub sending_on : (item : List ℕ) → GoesOn own other (sending_item now item link).link (sending_item now item link).pdus
      (if is_ok (answer_to_send now link) then item ∷ [] else []) []
  unfolding sending_item answer_to_send
  sending_on item =
      call_on now link own other order (λ l. if is_ok (acceptance l) then giving item l else silent l) (λ l. if is_ok (acceptance l) then item ∷ [] else [])
      (λ l shut. false_then (is_ok (acceptance l)) (giving item l) (silent l) (accepts_none item l shut))
      (λ l shut. false_then (is_ok (acceptance l)) (item ∷ []) [] (accepts_none item l shut))
      (λ l one room alive. go l one room (is_ok (acceptance l)) refl)
      plays
    where
      go : (l : LinkState) → HasJoined l own other ⊎ IsStillAsking l own other → l.sent < connection_limit → (ok : Bool) → is_ok (acceptance l) ≡ ok
          → GoesOn own other (if ok then giving item l else silent l).link (if ok then giving item l else silent l).pdus (if ok then item ∷ [] else []) []
      go l one room true is = let up = accepts_up l is in gave_on item l own other order (up_joined l own other one up.0) up.0 room up.1
      go l one room false is = stays own other l order (plays_inside l own other one)

  -- ---- hearing

  abbrev Hears : Result Pdu PduFault → Step → Type 0
  Hears read begun =
      GoesOn own other (hearing_bytes read begun.link).link (begun.pdus ++ (hearing_bytes read begun.link).pdus) [] (hearing_bytes read begun.link).items

  -- the beginning of a call alone
  pub entering_on : GoesOn own other (entered now link).link (entered now link).pdus [] []
  entering_on = go (enters now link own other order plays)
    where
      go : Enters now link own other → GoesOn own other (entered now link).link (entered now link).pdus [] []
      go (outside shut goes) = goes
      go (inside is one room alive) =
          subst (λ (begun : Step). GoesOn own other begun.link begun.pdus [] []) (sym is) (stays own other (record link { clock = now }) order (plays_inside (record link { clock = now }) own other one))

  -- a PDU of the partner, at an end inside
  pub hearing_on : (bytes : List ℕ) (pdu : Pdu) → reading link.identity.key bytes ≡ Ok pdu → IsOf pdu other.flow → is_open (entered now link).link.phase ≡ true
      → GoesOn own other (receiving now bytes link).link (receiving now bytes link).pdus [] (receiving now bytes link).items
  unfolding receiving hearing_bytes
  hearing_on bytes pdu read of connected = go (enters now link own other order plays)
    where
      go : Enters now link own other → Hears (reading link.identity.key bytes) (entered now link)
      go (outside shut goes) = absurd (cc (shut, connected))
      go (inside is one room alive) =
          subst (λ (found : Result Pdu PduFault). Hears found (entered now link)) (sym read)
          (subst (Hears (Ok pdu)) (sym is) (heard_on (record link { clock = now }) own other order pdu of.0 of.1 room one alive))

  refused_on : GoesOn own other (entered now link).link ((entered now link).pdus ++ []) [] []
  refused_on = subst (λ (pdus : List Pdu). GoesOn own other (entered now link).link pdus [] []) (sym (append-nil (entered now link).pdus)) entering_on

  -- bytes that are no PDU
  pub unreadable_on : (bytes : List ℕ) (fault : PduFault) → reading link.identity.key bytes ≡ Err fault
      → GoesOn own other (receiving now bytes link).link (receiving now bytes link).pdus [] (receiving now bytes link).items
  unfolding receiving hearing_bytes
  unreadable_on bytes fault read = subst (λ (found : Result Pdu PduFault). Hears found (entered now link)) (sym read) refused_on

  abbrev After : Receipt → Type 0
  After receipt = GoesOn own other receipt.link ((entered now link).pdus ++ receipt.pdus) [] receipt.items

  -- a PDU that names another receiver, or another sender
  pub stranger_on : (bytes : List ℕ) (pdu : Pdu) → reading link.identity.key bytes ≡ Ok pdu
      → ((pdu.receiver == link.identity.own) && (pdu.sender == link.identity.partner)) ≡ false
      → GoesOn own other (receiving now bytes link).link (receiving now bytes link).pdus [] (receiving now bytes link).items
  unfolding receiving hearing_bytes hearing
  stranger_on bytes pdu read others =
      subst (λ (found : Result Pdu PduFault). Hears found (entered now link)) (sym read)
      (by_test After (not (pdu.receiver == (entered now link).link.identity.own)) (refusing verdict.NotForMe (entered now link).link) _ (λ e. refused_on)
      (λ mine. by_test After (not (pdu.sender == (entered now link).link.identity.partner)) (refusing verdict.WrongSender (entered now link).link) _ (λ e. refused_on)
      (λ his. absurd (both_not (pdu.receiver == (entered now link).link.identity.own) (pdu.sender == (entered now link).link.identity.partner) mine his
      (ap (λ (identity : Identity). (pdu.receiver == identity.own) && (pdu.sender == identity.partner)) (same_ends now link) ∙ others)))))

  -- a PDU that an end refuses that the beginning of the call has left outside
  pub refusing_on : (bytes : List ℕ) (pdu : Pdu) (why : Verdict) → reading link.identity.key bytes ≡ Ok pdu
      → hearing pdu (entered now link).link ≡ refusing why (entered now link).link
      → GoesOn own other (receiving now bytes link).link (receiving now bytes link).pdus [] (receiving now bytes link).items
  unfolding receiving hearing_bytes
  refusing_on bytes pdu why read is = subst (λ (found : Result Pdu PduFault). Hears found (entered now link)) (sym read) (subst After (sym is) refused_on)
