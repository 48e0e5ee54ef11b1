-- Two ends that say nothing but asks and answers: where both wait, an answer is still to come.
use Rattle.rasta_core_recovery.proofs.Words.Basics.{◌≡◌, ℕ, zero, suc, ◌+◌, ◌-◌, ◌≤◌, ◌<◌, ◌⊎◌, inl, inr, Bool, true, false, nat_le, refl, subst, arith, leb-true, leb-false}
use Rattle.rasta_core_recovery.proofs.Words.Links.{Names}
use Rattle.rasta_core_recovery.proofs.Words.Recovery.{AsksInTurn, DontCross, HasAsked, IsAnswer, IsAnswerTo, IsAsk, View, of_partner, reached_by}

-- From this number on an end has said nothing but asks, answers, and what stands after an answer: where one is none of the two, the one before it
-- is of these numbers, too, and no ask.
abbrev pub SaysBlocks : Names → View → ℕ → Type 0
SaysBlocks names view base =
    (n : ℕ) → base ≤ n → n < view.own.link.sent → IsAsk names view n ⊎ (IsAnswer names view n ⊎ ((base < n) × ((m : ℕ) → m + 1 ≡ n → IsAsk names view m → ⊥)))

-- An answer of these numbers, and no ask after it up to that number.
pub record LastAnswered (names : Names) (view : View) (upto : ℕ) : Type 0 where
  pub number : ℕ
  pub most : number ≤ upto
  pub answer : IsAnswer names view number
  pub no_ask : (n : ℕ) → number < n → n ≤ upto → IsAsk names view n → ⊥

module _ (names : Names) (view : View) (base : ℕ) (blocks : SaysBlocks names view base) where
  -- it stands before each of them that isn't an ask
  answered_before : (count n : ℕ) → base + count ≡ n → n < view.own.link.sent → (IsAsk names view n → ⊥) → LastAnswered names view n
  answered_before zero n at below no_ask = choose (blocks n (omega (arith, at)) below)
    where
      choose : IsAsk names view n ⊎ (IsAnswer names view n ⊎ ((base < n) × ((m : ℕ) → m + 1 ≡ n → IsAsk names view m → ⊥))) → LastAnswered names view n
      choose (inl ask) = absurd (no_ask ask)
      choose (inr (inl answer)) = record { number = n; most = omega arith; answer = answer; no_ask = λ m over upto a. absurd (omega (arith, over, upto)) }
      choose (inr (inr (more, none))) = absurd (omega (arith, at, more))
  answered_before (suc count) n at below no_ask = choose (blocks n (omega (arith, at)) below) (answered_before count (n - 1) (omega (arith, at)) (omega (arith, below)))
    where
      choose : IsAsk names view n ⊎ (IsAnswer names view n ⊎ ((base < n) × ((m : ℕ) → m + 1 ≡ n → IsAsk names view m → ⊥))) → ((IsAsk names view (n - 1) → ⊥) → LastAnswered names view (n - 1))
          → LastAnswered names view n
      choose (inl ask) before = absurd (no_ask ask)
      choose (inr (inl answer)) before = record { number = n; most = omega arith; answer = answer; no_ask = λ m over upto a. absurd (omega (arith, over, upto)) }
      choose (inr (inr (more, none))) before = record {
        number = last.number;
        most = let m = last.most in omega (arith, m);
        answer = last.answer;
        no_ask = λ m over upto a. by m over upto a (nat_le m (n - 1)) refl;
      }
        where
          last : LastAnswered names view (n - 1)
          last = before (none (n - 1) (omega (arith, more)))

          by : (m : ℕ) → last.number < m → m ≤ n → IsAsk names view m → (b : Bool) → nat_le m (n - 1) ≡ b → ⊥
          by m over upto a true e = last.no_ask m over (leb-true _ _ e) a
          by m over upto a false e = no_ask (subst (IsAsk names view) (let f = leb-false _ _ e in omega (arith, f, upto)) a)

-- ---- an end that waits, whose ask its partner hasn't passed

module _ (names : Names) (view : View) (own : AsksInTurn names view) (partner : AsksInTurn names (of_partner view)) (base : ℕ) (blocks : SaysBlocks names (of_partner view) base)
    (asked : HasAsked names view) (not_passed : reached_by view.partner.link ≤ asked.number) (partner_asked : HasAsked names (of_partner view)) (partner_not_passed : reached_by view.own.link ≤ partner_asked.number)
    (took : base < reached_by view.own.link) where
  abbrev reached : ℕ
  reached = reached_by view.own.link

  -- the PDU that it expects is no ask
  expects_no_ask : IsAsk names (of_partner view) reached → ⊥
  expects_no_ask ask = choose (blocks (reached + 1) (omega (arith, took)) asked.missed)
    where
      same : reached ≡ partner_asked.number
      same = partner.few.one_ask reached partner_asked.number (record { ask = ask; ahead = omega arith }) (record { ask = partner_asked.ask; ahead = partner_not_passed })

      choose : IsAsk names (of_partner view) (reached + 1) ⊎ (IsAnswer names (of_partner view) (reached + 1)
          ⊎ ((base < reached + 1) × ((m : ℕ) → m + 1 ≡ reached + 1 → IsAsk names (of_partner view) m → ⊥))) → ⊥
      choose (inl more) = let m = partner_asked.asks_no_more (reached + 1) more in omega (arith, m, same)
      choose (inr (inl more)) = let m = partner_asked.answers_no_more (reached + 1) more in omega (arith, m, same)
      choose (inr (inr (over, none))) = none reached refl ask

  -- so the PDU that it took last stands after an answer
  pub took_answered : LastAnswered names (of_partner view) (reached - 1)
  took_answered = choose (blocks reached (omega (arith, took)) (let m = asked.missed in omega (arith, m)))
    where
      choose : IsAsk names (of_partner view) reached ⊎ (IsAnswer names (of_partner view) reached ⊎ ((base < reached) × ((m : ℕ) → m + 1 ≡ reached → IsAsk names (of_partner view) m → ⊥)))
          → LastAnswered names (of_partner view) (reached - 1)
      choose (inl ask) = absurd (expects_no_ask ask)
      choose (inr (inl answer)) = absurd (own.few.not_both asked.number reached (record { ask = asked.ask; ahead = not_passed }) (record { answer = answer; ahead = omega arith }))
      choose (inr (inr (over, none))) = answered_before names (of_partner view) base blocks (reached - 1 - base) (reached - 1) (omega (arith, took))
          (let m = asked.missed in omega (arith, m)) (none (reached - 1) (omega (arith, took)))

-- Both can't have passed no ask of the other, where what each took last was said so.
pub never_both : (names : Names) (view : View) → AsksInTurn names view → AsksInTurn names (of_partner view) → DontCross names view → (base partner_base : ℕ) → SaysBlocks names view base
    → SaysBlocks names (of_partner view) partner_base → (asked : HasAsked names view) → reached_by view.partner.link ≤ asked.number → (partner_asked : HasAsked names (of_partner view))
    → reached_by view.own.link ≤ partner_asked.number → base < reached_by view.partner.link → partner_base < reached_by view.own.link → ⊥
never_both names view own partner cross base partner_base blocks partner_blocks asked not_passed partner_asked partner_not_passed partner_took took =
    choose (cross from.0 said.number to.0 heard.number from.1 to.1)
  where
    -- of what the end took last, and of what its partner took last
    heard : LastAnswered names (of_partner view) (reached_by view.own.link - 1)
    heard = took_answered names view own partner partner_base partner_blocks asked not_passed partner_asked partner_not_passed took

    said : LastAnswered names view (reached_by view.partner.link - 1)
    said = took_answered names (of_partner view) partner own base blocks partner_asked partner_not_passed asked not_passed partner_took

    from : (n : ℕ) × IsAnswerTo names view n said.number
    from = own.answers said.number said.answer

    to : (n : ℕ) × IsAnswerTo names (of_partner view) n heard.number
    to = partner.answers heard.number heard.answer

    -- each answers an ask that stands before the other answer
    no_more : (v : View) (upto n : ℕ) (last : LastAnswered names v upto) → IsAsk names v n → n ≤ upto → (b : Bool) → nat_le n last.number ≡ b → n ≤ last.number
    no_more v upto n last ask most true e = leb-true _ _ e
    no_more v upto n last ask most false e = absurd (last.no_ask n (leb-false _ _ e) most ask)

    partner_ask_before : from.0 ≤ heard.number
    partner_ask_before = no_more (of_partner view) (reached_by view.own.link - 1) from.0 heard from.1.ask (let p = own.passed from.0 said.number from.1 in omega (arith, p)) (nat_le from.0 heard.number) refl

    ask_before : to.0 ≤ said.number
    ask_before = no_more view (reached_by view.partner.link - 1) to.0 said to.1.ask (let p = partner.passed to.0 heard.number to.1 in omega (arith, p)) (nat_le to.0 said.number) refl

    choose : (heard.number < from.0) ⊎ (said.number < to.0) → ⊥
    choose (inl e) = let b = partner_ask_before in omega (arith, e, b)
    choose (inr e) = let b = ask_before in omega (arith, e, b)
