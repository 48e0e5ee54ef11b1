-- A client at work that asks when a round begins, and has joined when it ends, by the response of a server that has said nothing else.
use Rattle.rasta_core_recovery.proofs.Words.Basics.{◌≡◌, ℕ, ◌∙◌, ◌+◌, ◌⊎◌, inl, inr, true, false, List, [], ◌∷◌, sym, ap, subst}
use Rattle.rasta_core_recovery.proofs.Words.Links.{LinkState, is_open, is_asking, settled, header_of, Header, Role, Pdu, Each}
use Rattle.rasta_core_recovery.proofs.Lemmas.Rounds.Links.{heard}
use Rattle.rasta_core_recovery.proofs.Lemmas.Rounds.Acts.{Act, acted, IsWork, HasRoom, Roomy}
use Rattle.rasta_core_recovery.proofs.Lemmas.Rounds.Calls.{at_reading}
use Rattle.rasta_core_recovery.proofs.Lemmas.Rounds.Words.{IsSimple, Says}
use Rattle.rasta_core_recovery.proofs.Lemmas.Rounds.Fold.{Next, gone_next, stays_next}
use Rattle.rasta_core_recovery.proofs.Lemmas.Rounds.Own.{Utters, Calm}
use Rattle.rasta_core_recovery.proofs.Lemmas.AtWork.WorkFold.{Done, gone_done, so_done, round_through}
use Rattle.rasta_core_recovery.proofs.Lemmas.Asking.Asks.{Asks, asks_asking, reading_asks}
use Rattle.rasta_core_recovery.proofs.Lemmas.Rounds.Facts.{IsFirst}
use Rattle.rasta_core_recovery.proofs.Lemmas.ComingUp.Answered.{HasMet, Answered, Answers, answers_none, answers_then, lively_then, answered_step, HasEntered}
use Rattle.rasta_core_recovery.proofs.Lemmas.AtWork.WorkTurn.{utters_joined}
use Rattle.rasta_core_recovery.proofs.Lemmas.AtWork.WorkAsks.{utters_asks, utters_none_then}
use Rattle.rasta_core_recovery.proofs.Lemmas.AtWork.WorkJoins.{says_none}

-- ---- the client

same_header : (l k : LinkState) (qs : List Pdu) → Utters l k qs → header_of k ≡ header_of l
unfolding header_of
same_header l k qs u = ap header_of u.same

utters_answered : (now : ℕ) (m l k : LinkState) (qs : List Pdu) → Asks now l ⊎ HasMet now m l → Utters l k qs → (Asks now k ⊎ HasMet now m k) × Answers now m 0 l qs 0 k
utters_answered now m l k qs (inl is) u = let none = utters_none_then now l k qs is u in let then_is = utters_asks now l k qs is u in (
  inl then_is,
  record {
    asks = λ e. (asks_asking now l is, none, says_none (header_of l) l.sent k.sent qs none u.says);
    says = λ e. absurd (cc (e, asks_asking now k then_is));
    heard = λ e. absurd (cc (e, asks_asking now k then_is));
    still = λ e. absurd (cc (e, asks_asking now l is));
  },
)
utters_answered now m l k qs (inr is) u = let then_is = utters_joined now l k qs is.is u in (
  inr (record { is = then_is; expected = ap (λ (j : LinkState). j.expected) u.same ∙ is.expected; first = ap (λ (j : LinkState). j.partner_first) u.same ∙ is.first }),
  record {
    asks = λ e. absurd (cc (e, then_is.joined));
    says = λ e. subst (λ (h : Header). Says IsSimple h l.sent qs k.sent) (sym (same_header l k qs u)) u.says;
    heard = λ e f. absurd (cc (f, is.is.joined));
    still = λ e. (then_is.joined, same_header l k qs u, ap (λ (j : LinkState). j.partner_stamp) u.same);
  },
)

pub entered_at_work : (now : ℕ) (m : LinkState) (due : List Pdu) (acts : List Act) (l : LinkState) → IsWork Role.Client due acts → Asks l.clock l → Each (IsFirst m) due → now ≡ l.clock + 10 → Roomy now acts (settled now l)
    → is_open (acted now acts l).link.phase ≡ true → is_asking (acted now acts l).link ≡ false → HasEntered m l (acted now acts l)
entered_at_work now m due acts l work is first at room is_in joined = finish (round_through (Unit {0}) ℕ now (Answered now m) (Answers now m) (λ g k. answers_none now m g k) (answers_then now m) (lively_then now m) hear own
    Role.Client due acts work 0 l tt at (ap is_open is.starts) is.young (λ young. (inl (reading_asks now l is at young), first)) room)
  where
    hear : (g : ℕ) (p : Pdu) (ps : List Pdu) (k : LinkState) → Answered now m g (p ∷ ps) k → HasRoom k → Done (Unit {0}) ℕ now (Answered now m) (Answers now m) g k ps (heard now p k)
    hear g p ps k in_it roomy = either (answered_step now m g p ps k in_it)
      where
        either : Next ℕ now (Answered now m) (Answers now m) g k ps (heard now p k) → Done (Unit {0}) ℕ now (Answered now m) (Answers now m) g k ps (heard now p k)
        either (gone_next left) = gone_done tt left
        either (stays_next h a o) = so_done h a o

    own : (g : ℕ) (ps : List Pdu) (k j : LinkState) (qs : List Pdu) → Answered now m g ps k → Utters k j qs → Answered now m g ps j × Answers now m g k qs g j
    own g ps k j qs (in_it, each) u = let o = utters_answered now m k j qs in_it u in ((o.0, each), record { asks = o.1.asks; says = o.1.says; heard = o.1.heard; still = o.1.still })

    finish : Done (Unit {0}) ℕ now (λ g ps k. Answered now m g ps k × Calm now k) (Answers now m) 0 (at_reading now l) [] (acted now acts l) → HasEntered m l (acted now acts l)
    finish (gone_done why left) = absurd (cc (left.is_out, is_in))
    finish (so_done h (a, calm) o) = record { says = o.says joined; heard = o.heard joined (asks_asking l.clock l is); expected = expects a.0 }
      where
        expects : Asks now (acted now acts l).link ⊎ HasMet now m (acted now acts l).link → (acted now acts l).link.expected ≡ 1
        expects (inl asks) = absurd (cc (joined, asks_asking now (acted now acts l).link asks))
        expects (inr met) = met.expected
