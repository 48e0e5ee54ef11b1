-- An end that waits takes the answer that comes, and then the rest.
use Rattle.rasta_core_recovery.proofs.Words.Basics.{◌≡◌, ℕ, zero, suc, ◌∙◌, ◌+◌, ◌-◌, ◌^◌, ◌≤◌, ◌<◌, ◌⊎◌, inl, inr, Bool, true, false, List, [], ◌∷◌, length, refl, sym, ap, subst, arith, ltb-true, ltb-false}
use Rattle.rasta_core_recovery.proofs.Words.Links.{LinkState, is_open, Step, then_do, age, ahead, behind, hearing, Pdu, RetransmissionResponse, Role, Names}
use Rattle.rasta_core_recovery.proofs.Lemmas.Rounds.Calls.{at_reading, spoken}
use Rattle.rasta_core_recovery.proofs.Lemmas.ComingUp.Converse.{Are, Way, bounds, hearing_now, hearing_number, round_of}
use Rattle.rasta_core_recovery.proofs.Lemmas.Rounds.Course.{Joined, lively}
use Rattle.rasta_core_recovery.proofs.Lemmas.Rounds.Deed.{Blocked, Deed, asks, discarded, far, hears, keeps, leaves, opens, other, stale, stranger, takes, unconfirming}
use Rattle.rasta_core_recovery.proofs.Lemmas.FirstRound.FirstNew.{StandsAt}
use Rattle.rasta_core_recovery.proofs.Lemmas.Rounds.Fold.{Begins, Next, Out, begins, gone_next, heard_case, late, on, round_on, stays_next, stays_out, works_out}
use Rattle.rasta_core_recovery.proofs.Lemmas.ComingUp.Healthy.{is_reading, waits}
use Rattle.rasta_core_recovery.proofs.Lemmas.Rounds.Links.{all_heard, end_round, heard, worked}
use Rattle.rasta_core_recovery.proofs.Lemmas.ComingUp.Stays.{quiet_hears_all}
use Rattle.rasta_core_recovery.proofs.Lemmas.ComingUp.TunedEnds.{Answers, Bounds, Ghost, Hearing, Mode, Round, age_is, away, behind_is, d_most, same_eq, tune_step, waits_not_reading}
use Rattle.rasta_core_recovery.proofs.Lemmas.Rounds.Turn.{Ended, done, ends, gone_end}
use Rattle.rasta_core_recovery.proofs.Lemmas.Rounds.Words.{Chain, IsNoAnswer, IsWord, Voice, voice_of}

pub chain_long : (v : Voice) (n c r end confirmed returned : ℕ) (ps : List Pdu) → Chain v n c r ps end confirmed returned → n + length ps ≡ end
chain_long v n c r end confirmed returned [] chain = omega (arith, chain.0)
chain_long v n c r end confirmed returned (p ∷ ps) (d, q, h, i, w, more) = let e = chain_long v (n + 1) d q end confirmed returned ps more in omega (arith, e)

module _ (x : Round) (bounds : Bounds x) (own : x.own ≤ x.reading) (counts : x.before.confirmed ≤ x.count) where
  -- ---- the answer is not blocked

  module _ (g : Ghost) (p : Pdu) (ps : List Pdu) (l : LinkState) (is : Hearing x g (p ∷ ps) l) (room : l.sent < 2147483000) (deaf : g.tuned ≡ false) (waiting : waits l.phase ≡ true)
      (answers : p.body ≡ RetransmissionResponse) (near : is.number ≤ x.before.expected + 200) where
    own_is : l.own_stamp ≡ x.own
    own_is = by g.tuned deaf is.mode
      where
        by : (b : Bool) → b ≡ false → Mode x b g.kept l is.number is.count is.reading (p ∷ ps) → l.own_stamp ≡ x.own
        by true e m = absurd (cc e)
        by false e m = m.1

    is_answer : IsNoAnswer p.body → ⊥
    is_answer none = subst IsNoAnswer answers none

    module _ (d q : ℕ) (h : is.count ≤ d) (i : is.reading ≤ q) (w : IsWord x.voice is.number d q p) (more : Chain x.voice (is.number + 1) d q ps x.end x.confirmed x.returned) where
      not_blocked_now : Blocked p l → ⊥
      not_blocked_now (stranger e) = absurd (cc (e, same_eq p.receiver l.identity.own (w.numbered.receiver ∙ is.receiver)))
      not_blocked_now (other e) = absurd (cc (e, same_eq p.sender l.identity.partner (w.numbered.sender ∙ is.sender)))
      not_blocked_now (opens e) = e w.numbered.talk
      not_blocked_now (far e) = let f = ltb-true 200 (ahead p l) e in
          let a = away x bounds g p ps l is room d q h i w more (omega (arith, (is.deaf deaf).expected, bounds.level, is.from_number)) in omega (arith, f, a, near, (is.deaf deaf).expected)
      not_blocked_now (stale e) = let f = ltb-true (l.clock - l.own_stamp) (age p l) e in
          let a = age_is x bounds g p ps l is room d q h i w more in omega (arith, f, a, is.is.clock, own_is, own, is.from_reading, i)
      not_blocked_now (unconfirming e) = let f = ltb-false (behind p l + l.confirmed) l.sent e in
          let b = behind_is x bounds g p ps l is room d q h i w more in let m = d_most x bounds g p ps l is room d q h i w more in
          omega (arith, f, b, (is.deaf deaf).confirmed, counts, is.from_count, h, m, is.counts)
      not_blocked_now (discarded e none) = is_answer none

    -- so it is taken
    taken_deed : (k : LinkState) (qs : List Pdu) → Deed p l k qs → (is_open k.phase ≡ false) ⊎ (is_reading k.phase ≡ true)
    taken_deed k qs (leaves why left) = inl left.is_out
    taken_deed k qs (keeps b same none) = absurd (cell is.chain)
      where
        cell : Chain x.voice is.number is.count is.reading (p ∷ ps) x.end x.confirmed x.returned → ⊥
        cell (d, q, h, i, w, more) = not_blocked_now d q h i w more b
    taken_deed k qs (asks passes apart a) = absurd (cc (a.free, waiting))
    taken_deed k qs (takes passes t) = inr t.reading

  -- ---- all that comes

  -- it takes what comes; or it waits, and an answer is still to come
  AnswerAhead : (g : Ghost) (ps : List Pdu) (l : LinkState) → Hearing x g ps l → Type 0
  AnswerAhead g ps l is = (g.tuned ≡ true) ⊎ ((waits l.phase ≡ true) × (i : ℕ) × (a : Pdu) × StandsAt i a ps × (a.body ≡ RetransmissionResponse) × (is.number + i ≤ x.before.expected + 200))

  Final : Step → Type 0
  Final s = Out x.now s.link ⊎ ((h : Ghost) × Hearing x h [] s.link × (h.tuned ≡ true))

  answered : (ps : List Pdu) (g : Ghost) (l : LinkState) (is : Hearing x g ps l) → AnswerAhead g ps l is → Final (all_heard x.now ps l)
  unfolding all_heard AnswerAhead Final
  answered [] g l is (inl t) = inr (g, is, t)
  answered [] g l is (inr (w, i, a, stands, e, near)) = absurd stands
  answered (p ∷ ps) g l is ahead_is = choose (λ h then_is then_ahead. answered ps h (heard x.now p l).link then_is then_ahead) (tune_step x bounds g p ps l is) (heard_case x.now p l (lively x.now l is.is))
    where
      Again : Type 0
      Again = (h : Ghost) (then_is : Hearing x h ps (heard x.now p l).link) → AnswerAhead h ps (heard x.now p l).link then_is → Final (all_heard x.now ps (heard x.now p l).link)

      out_now : Out x.now (heard x.now p l).link → Final (all_heard x.now (p ∷ ps) l)
      out_now left = inl (subst (Out x.now) (sym (ap (λ (s : Step). s.link) (quiet_hears_all x.now ps (heard x.now p l).link left.is_out left.quiet left.clock))) left)

      number_on : (h : Ghost) (then_is : Hearing x h ps (heard x.now p l).link) → then_is.number ≡ is.number + 1
      number_on h then_is = let one = chain_long x.voice is.number is.count is.reading x.end x.confirmed x.returned (p ∷ ps) is.chain in
          let other = chain_long x.voice then_is.number then_is.count then_is.reading x.end x.confirmed x.returned ps then_is.chain in omega (arith, one, other)

      -- what is so after this PDU
      behind_it : l.sent < 2147483000 → Deed p l (heard x.now p l).link (heard x.now p l).pdus → (h : Ghost) (then_is : Hearing x h ps (heard x.now p l).link)
          → Answers x g l (heard x.now p l).pdus h (heard x.now p l).link → AnswerAhead g (p ∷ ps) l is → AnswerAhead h ps (heard x.now p l).link then_is
      behind_it room deed h then_is a (inl t) = inl (a.stays_tuned t)
      behind_it room deed h then_is a (inr (w, i, answer, stands, e, near)) = by h.tuned refl
        where
          at_once : (i : ℕ) → StandsAt i answer (p ∷ ps) → is.number + i ≤ x.before.expected + 200 → h.tuned ≡ false → AnswerAhead h ps (heard x.now p l).link then_is
          at_once zero same close f = absurd (taken (taken_deed g p ps l is room was w (ap (λ (y : Pdu). y.body) same ∙ e) (omega (arith, close)) (heard x.now p l).link (heard x.now p l).pdus deed))
            where
              was : g.tuned ≡ false
              was = not_then g.tuned refl
                where
                  not_then : (b : Bool) → g.tuned ≡ b → g.tuned ≡ false
                  not_then true t = absurd (let u = a.stays_tuned t in cc (u, f))
                  not_then false t = t

              taken : (is_open (heard x.now p l).link.phase ≡ false) ⊎ (is_reading (heard x.now p l).link.phase ≡ true) → ⊥
              taken (inl out) = let c = then_is.is.connected in cc (out, c)
              taken (inr reads) = waits_not_reading (heard x.now p l).link.phase (a.waits_on w f).0 reads
          at_once (suc i) stood close f = inr ((a.waits_on w f).0, i, answer, stood, e, omega (arith, close, number_on h then_is))

          by : (b : Bool) → h.tuned ≡ b → AnswerAhead h ps (heard x.now p l).link then_is
          by true t = inl t
          by false f = at_once i stands near f

      choose : Again → Next Ghost x.now (Hearing x) (Answers x) g l ps (heard x.now p l)
          → Out x.now (heard x.now p l).link ⊎ ((l.sent < 2147483000) × ((heard x.now p l).link ≡ (hearing p l).link) × ((heard x.now p l).pdus ≡ (hearing p l).pdus))
          → Final (all_heard x.now (p ∷ ps) l)
      choose again (gone_next left) c = out_now left
      choose again (stays_next h then_is a) (inl left) = out_now left
      choose again (stays_next h then_is a) (inr (room, e, f)) = again h then_is (behind_it room
          (subst (λ (k : LinkState). Deed p l k (heard x.now p l).pdus) (sym e)
          (subst (λ (qs : List Pdu). Deed p l (hearing p l).link qs) (sym f) (hears p l is.is.connected is.is.joined (omega (arith, is.is.young, is.is.clock)))))
          h then_is a ahead_is)

  -- so it expects after the round what its partner says next
  pub answered_round : (g : Ghost) (l : LinkState) → x.now ≡ l.clock + 10 → Joined l.clock l → (hearing_is : x.now < l.own_stamp + 1800 → Hearing x g x.pdus (at_reading x.now l)) → waits l.phase ≡ true
      → (i : ℕ) (a : Pdu) → StandsAt i a x.pdus → a.body ≡ RetransmissionResponse → (from : ℕ) → ((young : x.now < l.own_stamp + 1800) → (hearing_is young).number ≡ from)
      → from + i ≤ x.before.expected + 200
      → is_open (end_round x.now x.pdus l).link.phase ≡ true → (end_round x.now x.pdus l).link.expected ≡ x.end
  unfolding AnswerAhead Final
  answered_round g l at is hearing_is waiting i a stands e from numbered near then_in = choose (begins x.now l at is.connected is.young)
    where
      j : LinkState
      j = at_reading x.now l

      heard_all : Step
      heard_all = all_heard x.now x.pdus j

      expected_stays : (b : Bool) (k : LinkState) → (spoken b k).expected ≡ k.expected
      expected_stays false k = refl
      expected_stays true k = refl

      tuned_expects : (h : Ghost) (k : LinkState) → Hearing x h [] k → h.tuned ≡ true → k.expected ≡ x.end
      tuned_expects h k hear t = by h.tuned t hear.mode
        where
          by : (b : Bool) → b ≡ true → Mode x b h.kept k hear.number hear.count hear.reading [] → k.expected ≡ x.end
          by true f m = m.0.expected ∙ hear.chain.0
          by false f m = absurd (cc f)

      ended : (k : LinkState) → k.expected ≡ x.end → Ended x.now k (worked x.now l.identity.role k) → (Out x.now (worked x.now l.identity.role k).link) ⊎ ((worked x.now l.identity.role k).link.expected ≡ x.end)
      ended k expects (gone_end left) = inl left
      ended k expects (done b f calm up) = inr (ap (λ (s : Step). s.link.expected) f ∙ expected_stays b k ∙ expects)

      finish : end_round x.now x.pdus l ≡ then_do heard_all (λ k. worked x.now l.identity.role k) → (Out x.now (worked x.now l.identity.role heard_all.link).link) ⊎ ((worked x.now l.identity.role heard_all.link).link.expected ≡ x.end) → (end_round x.now x.pdus l).link.expected ≡ x.end
      finish f (inl left) = absurd (cc (ap (λ (s : Step). is_open s.link.phase) f, left.is_out, then_in))
      finish f (inr expects) = ap (λ (s : Step). s.link.expected) f ∙ expects

      after : end_round x.now x.pdus l ≡ then_do heard_all (λ k. worked x.now l.identity.role k) → Final heard_all → (end_round x.now x.pdus l).link.expected ≡ x.end
      after f (inl left) = finish f (inl (works_out x.now l.identity.role heard_all.link left))
      after f (inr (h, hear, t)) = finish f (ended heard_all.link (tuned_expects h heard_all.link hear t) (ends x.now l.identity.role heard_all.link hear.is))

      choose : Begins x.now l → (end_round x.now x.pdus l).link.expected ≡ x.end
      choose (late left) = absurd (let o = stays_out x.now x.pdus l left in cc (o.is_out, then_in))
      choose (on f young) = let hear = hearing_is young in
          after (round_on x.now x.pdus l f) (answered x.pdus g j hear (inr (waiting, i, a, stands, e, omega (arith, near, numbered young))))

-- ---- the same of one direction between two ends

pub stands_some : (i : ℕ) (ps : List Pdu) → i < length ps → (a : Pdu) × StandsAt i a ps
stands_some i [] few = absurd (omega (arith, few))
stands_some zero (p ∷ ps) few = (p, refl)
stands_some (suc i) (p ∷ ps) few = stands_some i ps (omega (arith, few))

module _ (names : Names) (who : Role) (start own_start : ℕ) (tuned other_tuned : Bool) (kept other_kept : ℕ) (l m : LinkState) (ps qs : List Pdu) (are : Are names who l m)
    (there : Way start own_start tuned kept other_kept l m ps) (back : Way own_start start other_tuned other_kept kept m l qs) (fits : m.sent < 2 ^ 31) (short : l.clock ≤ own_start + 100000) where
  pub answered_way : waits l.phase ≡ true → l.own_stamp ≤ there.reading → l.confirmed ≤ there.count → (number : ℕ) → there.number ≤ number → number < m.sent → number ≤ l.expected + 200
      → ((i : ℕ) (p : Pdu) → there.number + i ≡ number → StandsAt i p ps → p.body ≡ RetransmissionResponse) → is_open (end_round (l.clock + 10) ps l).link.phase ≡ true
      → (end_round (l.clock + 10) ps l).link.expected ≡ m.sent
  answered_way waiting own counts number from below near answers then_in =
      let long = chain_long (voice_of m) there.number there.count there.reading m.sent (m.expected - 1) other_kept ps there.chain in
      let a = stands_some (number - there.number) ps (omega (arith, long, from, below)) in
      answered_round (round_of tuned kept other_kept l m ps there.number there.count there.reading)
      (bounds names who start own_start tuned other_tuned kept other_kept l m ps qs are there back fits short) own counts
      (record { kept = kept; tuned = tuned }) l refl there.is
      (hearing_now names who start own_start tuned other_tuned kept other_kept l m ps qs are there back fits short) waiting (number - there.number) a.0 a.1
      (answers (number - there.number) a.0 (omega (arith, from)) a.1)
      there.number (hearing_number names who start own_start tuned other_tuned kept other_kept l m ps qs are there back fits short) (omega (arith, from, near)) then_in
