-- An end of which it is known what it is when all has come in a round, before its own work.
use Rattle.rasta_core_recovery.proofs.Words.Basics.{◌≡◌, ℕ, inl, inr, ◌+◌, ◌≤◌, ◌<◌, true, List, [], refl, sym, ap, subst}
use Rattle.rasta_core_recovery.proofs.Words.Links.{LinkState, is_open, settled, Step, Pdu}
use Rattle.rasta_core_recovery.proofs.Lemmas.Asking.Asks.{InIt, Mute, in_lively, in_step, mute_then, reading_asks}
use Rattle.rasta_core_recovery.proofs.Lemmas.Rounds.Calls.{at_reading}
use Rattle.rasta_core_recovery.proofs.Lemmas.Rounds.Course.{Joined}
use Rattle.rasta_core_recovery.proofs.Lemmas.FirstRound.FirstEnters.{row_empty}
use Rattle.rasta_core_recovery.proofs.Lemmas.Rounds.Fold.{Begins, Next, all_hear, begins, gone_next, late, on, round_on, stays_next, stays_out, works_out}
use Rattle.rasta_core_recovery.proofs.Lemmas.Rounds.Links.{all_heard, end_round}
use Rattle.rasta_core_recovery.proofs.Lemmas.ComingUp.Stays.{quiet_hears_all}
use Rattle.rasta_core_recovery.proofs.Lemmas.Rounds.Turn.{Rowed, reading_joined, rows}
use Rattle.rasta_core_recovery.proofs.Lemmas.Rounds.Words.{voice_of}

-- an end that is inside before the round and after it was so when all had come
pub heard_in : (now : ℕ) (ps : List Pdu) (l : LinkState) → InIt l.clock l → now ≡ l.clock + 10 → is_open (end_round now ps l).link.phase ≡ true → is_open (all_heard now ps (settled now l)).link.phase ≡ true
heard_in now ps l is at then_in = choose (begins now l at (in_lively l.clock l is).connected (in_lively l.clock l is).young)
  where
    j : LinkState
    j = at_reading now l

    then_is : InIt l.clock l → now < l.own_stamp + 1800 → InIt now j
    then_is (inl joined) young = inl (reading_joined now l joined at young)
    then_is (inr asks) young = inr (reading_asks now l asks at young)

    by : settled now l ≡ at_reading now l → Next ℕ now (λ g ps l. InIt now l) (Mute now) 0 j [] (all_heard now ps j) → is_open (all_heard now ps j).link.phase ≡ true
    by e (gone_next left) = absurd (let o = works_out now l.identity.role (all_heard now ps j).link left in cc (ap (λ (s : Step). is_open s.link.phase) (round_on now ps l e), o.is_out, then_in))
    by e (stays_next g a o) = (in_lively now (all_heard now ps j).link a).connected

    choose : Begins now l → is_open (all_heard now ps (settled now l)).link.phase ≡ true
    choose (late left) = absurd (cc ((stays_out now ps l left).is_out, then_in))
    choose (on e young) = subst (λ (k : LinkState). is_open (all_heard now ps k).link.phase ≡ true) (sym e)
        (by e (all_hear ℕ now (λ g ps l. InIt now l) (Mute now) (λ g l a f. (f, refl, refl)) (mute_then now) (in_step now) ps 0 j (then_is is young)))

-- one that has joined before, and has said no more then than before, has said nothing
pub heard_mute : (now : ℕ) (ps : List Pdu) (l : LinkState) → Joined l.clock l → now ≡ l.clock + 10 → is_open (all_heard now ps (settled now l)).link.phase ≡ true
    → (all_heard now ps (settled now l)).link.sent ≤ l.sent → (all_heard now ps (settled now l)).pdus ≡ []
heard_mute now ps l is at then_in few = choose (begins now l at is.connected is.young)
  where
    j : LinkState
    j = at_reading now l

    by : settled now l ≡ at_reading now l → Next ℕ now (λ g ps l. Joined now l) (Rowed now) 0 j [] (all_heard now ps j) → (all_heard now ps j).pdus ≡ []
    by e (gone_next left) = absurd (cc (ap (λ (k : LinkState). is_open (all_heard now ps k).link.phase) e, left.is_out, then_in))
    by e (stays_next g a o) = row_empty (voice_of j) l.sent (all_heard now ps j).link.sent (all_heard now ps j).pdus o.row (subst (λ (k : LinkState). (all_heard now ps k).link.sent ≤ l.sent) e few)

    choose : Begins now l → (all_heard now ps (settled now l)).pdus ≡ []
    choose (late left) = ap (λ (s : Step). s.pdus) (quiet_hears_all now ps (settled now l) left.is_out left.quiet left.clock)
    choose (on e young) = subst (λ (k : LinkState). (all_heard now ps k).pdus ≡ []) (sym e) (by e (rows now ps j (reading_joined now l is at young)))
