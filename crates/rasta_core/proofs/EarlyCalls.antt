-- Each call of a client alone in its connection leaves it so.
use Rattle.std.proofs.Common.{◌≡◌, ℕ, ◌-◌, true, false, List, [], ◌∷◌, ◌++◌, ◌⊎◌, inl, inr, refl, sym, ap, subst, ◌∙◌, arith}
use Rattle.std.specs.Prelude.{nat_lt, nat_le, ◌==◌, ◌&&◌, not, if◌then◌else◌, Result, Ok, Err, is_ok}
use Rattle.std.proofs.lemmas.List.{append-nil}
use Rattle.rasta_core_spec.specs.Parameters.{connection_limit, heartbeat_interval}
use Rattle.rasta_core_spec.specs.State.{LinkState, is_open, is_up, is_asking}
use Rattle.rasta_core_spec.specs.Clock.{deadline, settled}
use Rattle.rasta_core_spec.specs.PdusHandedOut.{Step, silent, then_do, sending, telling, closing, limited, entered, beating, giving}
use Rattle.rasta_core_spec.specs.Receipt.{Receipt, hearing, refusing}
use Rattle.rasta_core_spec.specs.Calls.{ticking, closing_by, acceptance, answer_to_send, sending_item, hearing_bytes, receiving}
use Rattle.rasta_core_spec.specs.reason.Reason.{Reason}
use Rattle.rasta_core_spec.specs.reason.Reason.TheVariants as reason
use Rattle.rasta_core_spec.specs.fault.SendFault.TheVariants as fault
use Rattle.rasta_core_spec.specs.identity.Identity.{Identity}
use Rattle.rasta_core_spec.specs.verdict.Verdict.TheVariants as verdict
use Rattle.rasta_core_spec.specs.PduRead.{reading}
use Rattle.rasta_core_spec.specs.pdu.Pdu.{Pdu}
use Rattle.rasta_core_spec.specs.pdu_fault.PduFault.{PduFault}
use Rattle.rasta_core.specs.EndFlow.{EndFlow}
use Rattle.rasta_core.specs.LinkAndFlow.{Keeps, IsNew, IsInside, accepted}
use Rattle.rasta_core.specs.FirstPdus.{IsEarly, PlaysEarly, asks, gone, EarlyGoesOn}
use Rattle.rasta_core.proofs.OrderTests.{by_test}
use Rattle.rasta_core.proofs.Enters.{both_left, not_right, told_closed, still_alive}
use Rattle.rasta_core.proofs.OrderCalls.{not_up, false_then, and_false, both_not, same_ends}
use Rattle.rasta_core.proofs.Early.{EarlyStep, early_stays, early_told, early_closed}

module _ (now : ℕ) (link : LinkState) (client : EndFlow) (early : IsEarly client) where
  later_inside : IsInside link client → IsInside (record link { clock = now }) client
  later_inside is = record {
    keeps = record { given = is.keeps.given; taken = is.keeps.taken; waiting = is.keeps.waiting };
    connected = is.connected;
    own_first = is.own_first;
    counted = is.counted;
    room = is.room;
    unsaid = is.unsaid;
    alone = is.alone;
    reading = is.reading;
  }

  later_gone : Keeps link client ⊎ IsNew link → Keeps (record link { clock = now }) client ⊎ IsNew (record link { clock = now })
  later_gone (inl keeps) = inl (record { given = keeps.given; taken = keeps.taken; waiting = keeps.waiting })
  later_gone (inr new) = inr (record { given = new.given; taken = new.taken })

  abbrev Out : Step → Type 0
  Out step = (is_open step.link.phase ≡ false) × EarlyStep client step

  abbrev In : Step → Type 0
  In step = (step ≡ silent (record link { clock = now })) × (nat_lt now (deadline (record link { clock = now })) ≡ true)

  begun_gone : is_open link.phase ≡ false → Keeps link client ⊎ IsNew link → Out (entered now link)
  unfolding entered settled limited
  begun_gone shut keeps =
      by_test (λ (begun : LinkState). Out (limited begun)) (is_open link.phase && nat_le (deadline link) now) _ (record link { clock = now })
      (λ e. absurd (cc (both_left (is_open link.phase) (nat_le (deadline link) now) e, shut)))
      (λ running. by_test Out (is_open link.phase && nat_le connection_limit link.sent) (telling reason.Sequence (record link { clock = now })) (silent (record link { clock = now }))
      (λ e. absurd (cc (both_left (is_open link.phase) (nat_le connection_limit link.sent) e, shut)))
      (λ e. (shut, early_stays client (record link { clock = now }) early (gone shut (later_gone keeps)))))

  begun_asking : IsInside link client → is_asking link ≡ true → Out (entered now link) ⊎ In (entered now link)
  unfolding entered settled limited
  begun_asking is alone =
      by_test (λ (begun : LinkState). Out (limited begun) ⊎ In (limited begun)) (is_open link.phase && nat_le (deadline link) now) _ (record link { clock = now })
      (λ e. inl (refl, early_stays client _ early (gone refl (inl (record { given = is.keeps.given; taken = is.keeps.taken; waiting = is.keeps.waiting })))))
      (λ running. by_test (λ (step : Step). Out step ⊎ In step) (is_open link.phase && nat_le connection_limit link.sent) (telling reason.Sequence (record link { clock = now }))
      (silent (record link { clock = now }))
      (λ e. inl (told_closed reason.Sequence (record link { clock = now }), early_told reason.Sequence client (record link { clock = now }) early (later_inside is) alone))
      (λ e. inr (refl, still_alive now link (not_right (is_open link.phase) (nat_le (deadline link) now) is.connected running))))

  pub early_settled : PlaysEarly link client → PlaysEarly (settled now link) client
  unfolding settled
  early_settled (asks is alone) =
      by_test (λ (after : LinkState). PlaysEarly after client) (is_open link.phase && nat_le (deadline link) now) _ (record link { clock = now })
      (λ e. gone refl (inl (record { given = is.keeps.given; taken = is.keeps.taken; waiting = is.keeps.waiting })))
      (λ e. asks (later_inside is) alone)
  early_settled (gone shut keeps) =
      by_test (λ (after : LinkState). PlaysEarly after client) (is_open link.phase && nat_le (deadline link) now) _ (record link { clock = now })
      (λ e. absurd (cc (both_left (is_open link.phase) (nat_le (deadline link) now) e, shut)))
      (λ e. gone shut (later_gone keeps))

  -- a call that is silent outside
  module _ (act : LinkState → Step) (silent_outside : (l : LinkState) → is_open l.phase ≡ false → act l ≡ silent l)
      (inside_on : (l : LinkState) → IsInside l client → is_asking l ≡ true → nat_lt l.clock (deadline l) ≡ true → EarlyStep client (act l)) where
    acted_outside : (begun : Step) → Out begun → EarlyStep client (then_do begun act)
    acted_outside begun out =
        subst (λ (step : Step). EarlyGoesOn client step.link (begun.pdus ++ step.pdus)) (sym (silent_outside begun.link out.0))
        (subst (λ (pdus : List Pdu). EarlyGoesOn client begun.link pdus) (sym (append-nil begun.pdus)) out.1)

    acted : IsInside link client → is_asking link ≡ true → Out (entered now link) ⊎ In (entered now link) → EarlyStep client (then_do (entered now link) act)
    acted is alone (inl out) = acted_outside (entered now link) out
    acted is alone (inr one) =
        subst (λ (begun : Step). EarlyStep client (then_do begun act)) (sym one.0) (inside_on (record link { clock = now }) (later_inside is) alone one.1)

    pub early_call : PlaysEarly link client → EarlyStep client (then_do (entered now link) act)
    early_call (asks is alone) = acted is alone (begun_asking is alone)
    early_call (gone shut keeps) = acted_outside (entered now link) (begun_gone shut keeps)

asking_not_up : (l : LinkState) → is_asking l ≡ true → is_up l.phase ≡ false
asking_not_up l alone = grind (arith, alone)

silent_beating : (l : LinkState) → is_up l.phase ≡ false → beating l ≡ silent l
unfolding beating
silent_beating l down =
    false_then (is_up l.phase && nat_le heartbeat_interval (l.clock - l.sent_at)) (sending _ l) (silent l) (and_false (is_up l.phase) (nat_le heartbeat_interval (l.clock - l.sent_at)) down)

refuses : (l : LinkState) → is_up l.phase ≡ false → is_ok (acceptance l) ≡ false
unfolding acceptance
refuses l down = ap is_ok (false_then (is_up l.phase) _ (Err fault.NotUp) down)

module _ (now : ℕ) (link : LinkState) (client : EndFlow) (early : IsEarly client) (plays : PlaysEarly link client) where
  -- the beginning of a call alone
  pub early_entering : EarlyStep client (entered now link)
  early_entering =
      subst (λ (pdus : List Pdu). EarlyGoesOn client (entered now link).link pdus) (append-nil (entered now link).pdus)
      (early_call now link client early silent (λ l shut. refl) (λ l is alone alive. early_stays client l early (asks is alone)) plays)

  pub early_ticking : EarlyStep client (ticking now link)
  unfolding ticking
  early_ticking =
      early_call now link client early beating (λ l shut. silent_beating l (not_up l shut))
      (λ l is alone alive. subst (EarlyStep client) (sym (silent_beating l (asking_not_up l alone))) (early_stays client l early (asks is alone))) plays

  pub early_closing : (why : Reason) → EarlyStep client (closing_by now why link)
  unfolding closing_by
  early_closing why =
      early_call now link client early (λ l. if is_open l.phase then closing why l else silent l) (λ l shut. false_then (is_open l.phase) (closing why l) (silent l) shut)
      (λ l is alone alive. by_test (EarlyStep client) (is_open l.phase) (closing why l) (silent l) (λ e. early_closed why client l early is alone)
      (λ e. early_stays client l early (asks is alone))) plays

  pub early_sending : (item : List ℕ) → EarlyStep client (sending_item now item link)
  unfolding sending_item
  early_sending item =
      early_call now link client early (λ l. if is_ok (acceptance l) then giving item l else silent l)
      (λ l shut. false_then (is_ok (acceptance l)) (giving item l) (silent l) (refuses l (not_up l shut)))
      (λ l is alone alive. subst (EarlyStep client) (sym (false_then (is_ok (acceptance l)) (giving item l) (silent l) (refuses l (asking_not_up l alone))))
      (early_stays client l early (asks is alone))) plays

  -- it accepts no item
  pub early_accepts : (item : List ℕ) → accepted (answer_to_send now link) item ≡ []
  unfolding answer_to_send
  early_accepts item = go plays
    where
      none : (l : LinkState) → is_up l.phase ≡ false → accepted (acceptance l) item ≡ []
      none l down = false_then (is_ok (acceptance l)) (item ∷ []) [] (refuses l down)

      goes : is_asking link ≡ true → Out now link client early (entered now link) ⊎ In now link client early (entered now link) → accepted (acceptance (entered now link).link) item ≡ []
      goes alone (inl out) = none (entered now link).link (not_up (entered now link).link out.0)
      goes alone (inr one) = none (entered now link).link (ap (λ (step : Step). is_up step.link.phase) one.0 ∙ asking_not_up link alone)

      go : PlaysEarly link client → accepted (acceptance (entered now link).link) item ≡ []
      go (asks is alone) = goes alone (begun_asking now link client early is alone)
      go (gone shut keeps) = none (entered now link).link (not_up (entered now link).link (begun_gone now link client early shut keeps).0)

  early_refused : EarlyGoesOn client (entered now link).link ((entered now link).pdus ++ [])
  early_refused = subst (λ (pdus : List Pdu). EarlyGoesOn client (entered now link).link pdus) (sym (append-nil (entered now link).pdus)) early_entering

  abbrev Hears : Result Pdu PduFault → Type 0
  Hears read = EarlyGoesOn client (hearing_bytes read (entered now link).link).link ((entered now link).pdus ++ (hearing_bytes read (entered now link).link).pdus)

  -- bytes that are no PDU
  pub early_unreadable : (bytes : List ℕ) (fault : PduFault) → reading link.identity.key bytes ≡ Err fault
      → EarlyGoesOn client (receiving now bytes link).link (receiving now bytes link).pdus
  unfolding receiving hearing_bytes
  early_unreadable bytes fault read = subst Hears (sym read) early_refused

  abbrev After : Receipt → Type 0
  After receipt = EarlyGoesOn client receipt.link ((entered now link).pdus ++ receipt.pdus)

  -- a PDU that names another receiver, or another sender
  pub early_stranger : (bytes : List ℕ) (pdu : Pdu) → reading link.identity.key bytes ≡ Ok pdu
      → ((pdu.receiver == link.identity.own) && (pdu.sender == link.identity.partner)) ≡ false
      → EarlyGoesOn client (receiving now bytes link).link (receiving now bytes link).pdus
  unfolding receiving hearing_bytes hearing
  early_stranger bytes pdu read others =
      subst Hears (sym read)
      (by_test After (not (pdu.receiver == (entered now link).link.identity.own)) (refusing verdict.NotForMe (entered now link).link) _ (λ e. early_refused)
      (λ mine. by_test After (not (pdu.sender == (entered now link).link.identity.partner)) (refusing verdict.WrongSender (entered now link).link) _ (λ e. early_refused)
      (λ his. absurd (both_not (pdu.receiver == (entered now link).link.identity.own) (pdu.sender == (entered now link).link.identity.partner) mine his
      (ap (λ (identity : Identity). (pdu.receiver == identity.own) && (pdu.sender == identity.partner)) (same_ends now link) ∙ others)))))
