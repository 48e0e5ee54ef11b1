-- A client that asks when a round begins, and has joined when it ends, by the response of a server that has said nothing else.
use Rattle.rasta_core_recovery.proofs.Words.Basics.{◌≡◌, ℕ, ◌∙◌, ◌+◌, ◌<◌, ◌⊎◌, inl, inr, Bool, true, false, List, [], ◌++◌, refl, sym, ap, subst}
use Rattle.rasta_core_recovery.proofs.Words.Links.{LinkState, is_open, is_asking, is_up, settled, Step, silent, then_do, header_of, pdu_of, Header, Pdu, Heartbeat, Each}
use Rattle.rasta_core_recovery.proofs.Lemmas.Rounds.Links.{all_heard, worked, end_round}
use Rattle.rasta_core_recovery.proofs.Lemmas.ComingUp.Healthy.{beats}
use Rattle.rasta_core_recovery.proofs.Lemmas.Rounds.Calls.{at_reading, spoken}
use Rattle.rasta_core_recovery.proofs.Lemmas.Rounds.Words.{IsSimple, Says, says_then}
use Rattle.rasta_core_recovery.proofs.Lemmas.Rounds.Fold.{Out, Next, gone_next, stays_next, all_hear, Work, gone_work, calm_work, beats_work, works, Begins, late, on, begins, stays_out, works_out, round_on}
use Rattle.rasta_core_recovery.proofs.Lemmas.Rounds.Course.{Joined, lively}
use Rattle.rasta_core_recovery.proofs.Lemmas.Rounds.Turn.{reading_joined, Ended, gone_end, done, ends, one_less}
use Rattle.rasta_core_recovery.proofs.Lemmas.Asking.Asks.{Asks, asks_asking, asks_lively, reading_asks, not_up}
use Rattle.rasta_core_recovery.proofs.Lemmas.Rounds.Facts.{IsFirst}
use Rattle.rasta_core_recovery.proofs.Lemmas.ComingUp.Answered.{HasMet, Answered, Answers, answers_none, answers_then, answered_step, HasEntered}

-- ---- the client

same_header : (b : Bool) (k : LinkState) → header_of (spoken b k) ≡ header_of k
unfolding header_of
same_header false k = refl
same_header true k = refl

beats_say : (b : Bool) (k : LinkState) → Says IsSimple (header_of (spoken b k)) k.sent (beats b (spoken b k)) (spoken b k).sent
unfolding pdu_of
beats_say false k = refl
beats_say true k = (ap (λ (n : ℕ). pdu_of (header_of (spoken true k)) n Heartbeat) (one_less k.sent), tt, refl)

expected_stays : (b : Bool) (k : LinkState) → (spoken b k).expected ≡ k.expected
expected_stays false k = refl
expected_stays true k = refl

stamp_stays : (b : Bool) (k : LinkState) → (spoken b k).partner_stamp ≡ k.partner_stamp
stamp_stays false k = refl
stamp_stays true k = refl

-- where it has joined after the round
abbrev pub EntersBy : LinkState → LinkState → Step → Type 0
EntersBy m l s = is_open s.link.phase ≡ true → is_asking s.link ≡ false → HasEntered m l s

pub entered : (now : ℕ) (m : LinkState) (ps : List Pdu) (l : LinkState) → Asks l.clock l → Each (IsFirst m) ps → now ≡ l.clock + 10 → EntersBy m l (end_round now ps l)
entered now m ps l is first at = choose (begins now l at (ap is_open is.starts) is.young)
  where
    j : LinkState
    j = at_reading now l

    heard_all : Step
    heard_all = all_heard now ps j

    left_then : (s : Step) → Out now s.link → EntersBy m l s
    left_then s left in_it joined = absurd (cc (left.is_out, in_it))

    -- a client that has met says a heartbeat at most
    met_then : (k : LinkState) (qs : List Pdu) → HasMet now m k → Answers now m 0 j qs 0 k → Ended now k (worked now l.identity.role k) → EntersBy m l (record { link = (worked now l.identity.role k).link; pdus = qs ++ (worked now l.identity.role k).pdus })
    met_then k qs met o (gone_end left) = left_then _ left
    met_then k qs met o (done b e calm up) = subst (λ (s : Step). EntersBy m l (record { link = s.link; pdus = qs ++ s.pdus })) (sym e) (λ in_it joined. record {
      says = says_then IsSimple (header_of (spoken b k)) l.sent k.sent (spoken b k).sent qs (beats b (spoken b k)) (subst (λ (h : Header). Says IsSimple h l.sent qs k.sent) (sym (same_header b k)) (o.says met.is.joined)) (beats_say b k);
      heard = let s = o.heard met.is.joined (asks_asking l.clock l is) in record { reading = s.reading; kept_is = stamp_stays b k ∙ s.kept_is; before = s.before; recent = s.recent };
      expected = expected_stays b k ∙ met.expected;
    })

    asks_then : (k : LinkState) (qs : List Pdu) → Asks now k → Work now k (worked now l.identity.role k) → EntersBy m l (record { link = (worked now l.identity.role k).link; pdus = qs ++ (worked now l.identity.role k).pdus })
    asks_then k qs asks (gone_work left) = left_then _ left
    asks_then k qs asks (beats_work up e) = absurd (cc (up, not_up k (asks_asking now k asks)))
    asks_then k qs asks (calm_work e calm) = subst (λ (s : Step). EntersBy m l (record { link = s.link; pdus = qs ++ s.pdus })) (sym e) (λ in_it joined. absurd (cc (joined, asks_asking now k asks)))

    works_then : (k : LinkState) (qs : List Pdu) → Asks now k ⊎ HasMet now m k → Answers now m 0 j qs 0 k → EntersBy m l (record { link = (worked now l.identity.role k).link; pdus = qs ++ (worked now l.identity.role k).pdus })
    works_then k qs (inl asks) o = asks_then k qs asks (works now l.identity.role k (asks_lively now k asks))
    works_then k qs (inr met) o = met_then k qs met o (ends now l.identity.role k met.is)

    heard_then : Next ℕ now (Answered now m) (Answers now m) 0 j [] heard_all → EntersBy m l (then_do heard_all (λ k. worked now l.identity.role k))
    heard_then (gone_next left) = left_then _ (works_out now l.identity.role heard_all.link left)
    heard_then (stays_next g a o) = works_then heard_all.link heard_all.pdus a.0 (record { asks = o.asks; says = o.says; heard = o.heard; still = o.still })

    choose : Begins now l → EntersBy m l (end_round now ps l)
    choose (late left) = left_then _ (stays_out now ps l left)
    choose (on e young) = subst (EntersBy m l) (sym (round_on now ps l e))
        (heard_then (all_hear ℕ now (Answered now m) (Answers now m) (λ g k a. answers_none now m g k) (answers_then now m) (answered_step now m) ps 0 j (inl (reading_asks now l is at young), first)))

-- ---- its server, to which nothing comes

-- a server that isn't up, to which nothing comes, says nothing, and stands as before or is outside
pub server_silent : (now : ℕ) (l : LinkState) → Joined l.clock l → is_up l.phase ≡ false → now ≡ l.clock + 10 → Out now (end_round now [] l).link ⊎ (end_round now [] l ≡ silent (at_reading now l))
unfolding all_heard
server_silent now l is down at = choose (begins now l at is.connected is.young)
  where
    worked_then : now < l.own_stamp + 1800 → settled now l ≡ at_reading now l → Work now (at_reading now l) (worked now l.identity.role (at_reading now l)) → Out now (end_round now [] l).link ⊎ (end_round now [] l ≡ silent (at_reading now l))
    worked_then young e (gone_work left) = inl (subst (λ (s : Step). Out now s.link) (sym (round_on now [] l e)) left)
    worked_then young e (beats_work up f) = absurd (cc (up, down))
    worked_then young e (calm_work f calm) = inr (round_on now [] l e ∙ f)

    choose : Begins now l → Out now (end_round now [] l).link ⊎ (end_round now [] l ≡ silent (at_reading now l))
    choose (late left) = inl (stays_out now [] l left)
    choose (on e young) = worked_then young e (works now l.identity.role (at_reading now l) (lively now (at_reading now l) (reading_joined now l is at young)))
