-- An end that is outside, and what comes to it that opens nothing there.
use Rattle.rasta_core_recovery.proofs.Words.Basics.{◌≡◌, ℕ, ◌∙◌, ◌+◌, ◌≤◌, Bool, true, false, ◌==◌, nat_le, List, [], ◌∷◌, ◌++◌, refl, sym, ap, leb-true, leb-false}
use Rattle.rasta_core_recovery.proofs.Words.Links.{LinkState, is_client, is_open, state_at, Step, silent, then_do, by_state, hearing, resting, Verdict, Body, ConnectionRequest, ConnectionResponse, RetransmissionRequest, RetransmissionResponse, DisconnectionRequest, Heartbeat, Data, RetransmittedData, Each, Pdu}
use Rattle.rasta_core_recovery.proofs.Lemmas.Rounds.Links.{all_heard, heard, the_step, same_step}
use Rattle.rasta_core_recovery.proofs.Lemmas.ComingUp.Stays.{down_then, entered_out, quiet_hears, refused}

-- such an end, where it isn't quiet, leaves this PDU
abbrev pub IsLeft : LinkState → Pdu → Type 0
IsLeft k p = ((resting p.body p k).link ≡ k) × ((resting p.body p k).pdus ≡ [])

-- a client leaves all
client_leaves : (body : Body) (p : Pdu) (k : LinkState) → is_client k.identity.role ≡ true → ((resting body p k).link ≡ k) × ((resting body p k).pdus ≡ [])
unfolding resting
client_leaves (ConnectionRequest o) p k e = rw e (refl, refl)
client_leaves (ConnectionResponse o) p k e = (refl, refl)
client_leaves RetransmissionRequest p k e = (refl, refl)
client_leaves RetransmissionResponse p k e = (refl, refl)
client_leaves (DisconnectionRequest a b) p k e = (refl, refl)
client_leaves Heartbeat p k e = (refl, refl)
client_leaves (Data xs) p k e = (refl, refl)
client_leaves (RetransmittedData xs) p k e = (refl, refl)

pub left_by_client : (p : Pdu) (k : LinkState) → is_client k.identity.role ≡ true → IsLeft k p
left_by_client p k e = client_leaves p.body p k e

pub left_heard : (now : ℕ) (p : Pdu) (l : LinkState) → is_open l.phase ≡ false → IsLeft (record l { clock = now }) p → heard now p l ≡ silent (record l { clock = now })
unfolding heard hearing by_state
left_heard now p l shut left = choose (nat_le (l.closed_at + 6000) now) refl
  where
    k : LinkState
    k = record l { clock = now }

    down : l.closed_at + 6000 ≤ now → heard now p l ≡ silent (record l { clock = now })
    down over = ap (λ (s : Step). then_do s (λ j. record { link = (hearing p j).link; pdus = (hearing p j).pdus })) (entered_out now l shut) ∙ same_step same.0 same.1
      where
        same : ((hearing p k).link ≡ k) × ((hearing p k).pdus ≡ [])
        same = refused (p.receiver == k.identity.own) (p.sender == k.identity.partner) k Verdict.NotForMe Verdict.WrongSender (by_state (state_at k.clock k) p k)
            (ap (λ s. (by_state s p k).link) (down_then now k shut over) ∙ left.0) (ap (λ s. (by_state s p k).pdus) (down_then now k shut over) ∙ left.1)

    choose : (b : Bool) → nat_le (l.closed_at + 6000) now ≡ b → heard now p l ≡ silent (record l { clock = now })
    choose true e = down (leb-true _ _ e)
    choose false e = quiet_hears now p l shut (leb-false _ _ e)

pub left_all : (now : ℕ) (ps : List Pdu) (l : LinkState) → is_open l.phase ≡ false → l.clock ≡ now → Each (IsLeft (record l { clock = now })) ps → all_heard now ps l ≡ silent l
unfolding all_heard
left_all now [] l shut at each = refl
left_all now (p ∷ ps) l shut at each =
    ap (λ (s : Step). then_do s (λ k. all_heard now ps k)) (left_heard now p l shut each.0 ∙ ap (λ (c : ℕ). silent (record l { clock = c })) (sym at))
    ∙ ap (λ (s : Step). the_step s.link ([] ++ s.pdus)) (left_all now ps l shut at each.1)

pub all_left : (now : ℕ) (ps : List Pdu) (l : LinkState) → is_client l.identity.role ≡ true → Each (IsLeft (record l { clock = now })) ps
all_left now [] l e = tt
all_left now (p ∷ ps) l e = (left_by_client p (record l { clock = now }) e, all_left now ps l e)
