-- What an end says in a round, as it hears: a retransmission or a request of one at a time.
use Rattle.rasta_core_recovery.proofs.Words.Basics.{◌≡◌, ℕ, suc, ◌∙◌, ◌+◌, ◌-◌, ◌≤◌, ◌<◌, ◌⊎◌, inl, inr, Bool, true, false, nat_le, List, [], ◌∷◌, ◌++◌, append_assoc, length, refl, sym, ap, subst, arith, leb-true, leb-false}
use Rattle.rasta_core_recovery.proofs.Words.Links.{LinkState, Step, header_of, pdu_of, then_do, hearing, Pdu, RetransmissionRequest, RetransmissionResponse}
use Rattle.rasta_core_recovery.proofs.Lemmas.Rounds.Blocks.{IsBlock, as_many_both}
use Rattle.rasta_core_recovery.proofs.Lemmas.Rounds.Calls.{at_reading, spoken}
use Rattle.rasta_core_recovery.proofs.Lemmas.Rounds.Course.{Joined, asked_joined, lively, taken_joined}
use Rattle.rasta_core_recovery.proofs.Lemmas.Rounds.Deed.{Deed, asks, hears, keeps, leaves, takes}
use Rattle.rasta_core_recovery.proofs.Lemmas.FirstRound.FirstNew.{StandsAt}
use Rattle.rasta_core_recovery.proofs.Lemmas.Rounds.Fold.{Begins, Next, Out, all_hear, begins, gone_next, heard_case, late, on, round_on, stays_next, stays_out, works_out}
use Rattle.rasta_core_recovery.proofs.Lemmas.ComingUp.Healthy.{beats}
use Rattle.rasta_core_recovery.proofs.Lemmas.Rounds.Links.{all_heard, end_round, heard, worked}
use Rattle.rasta_core_recovery.proofs.Lemmas.Rounds.Turn.{Either, Ended, done, ends, gone, gone_end, reading_joined, so}

-- it asks, or begins a retransmission
abbrev pub IsMark : Pdu → Type 0
IsMark p = (p.body ≡ RetransmissionRequest) ⊎ (p.body ≡ RetransmissionResponse)

pub data Steps : List Pdu → Type 0 where
  none : {ps : List Pdu} → ps ≡ [] → Steps ps
  step : {ps : List Pdu} (p : Pdu) (rest others : List Pdu) → ps ≡ p ∷ (rest ++ others) → IsMark p → length rest ≤ 21 → Steps others → Steps ps

pub steps_then : (ps qs : List Pdu) → Steps ps → Steps qs → Steps (ps ++ qs)
steps_then ps qs (none e) more = subst (λ (xs : List Pdu). Steps (xs ++ qs)) (sym e) more
steps_then ps qs (step p rest others e mark few s) more =
    step p rest (others ++ qs) (ap (λ (xs : List Pdu). xs ++ qs) e ∙ ap (λ (xs : List Pdu). p ∷ xs) (append_assoc rest others qs)) mark few (steps_then others qs s more)

one_step : (ps : List Pdu) (most : ℕ) → most ≤ 20 → IsBlock (most + 1) ps → Steps ps
one_step ps most few b = step b.first b.rest [] (b.are ∙ ap (λ (xs : List Pdu). b.first ∷ xs) (sym (none_behind b.rest))) (inr b.answers) (let f = b.few in omega (arith, f, few)) (none refl)
  where
    none_behind : (xs : List Pdu) → xs ++ [] ≡ xs
    none_behind [] = refl
    none_behind (x ∷ xs) = ap (λ (ys : List Pdu). x ∷ ys) (none_behind xs)

-- ---- a round

module _ (now : ℕ) where
  abbrev FewWait : ℕ → List Pdu → LinkState → Type 0
  FewWait g ps l = Joined now l × (length l.waiting ≤ 20)

  abbrev Says : ℕ → LinkState → List Pdu → ℕ → LinkState → Type 0
  Says g l ps h k = Steps ps

  one_deed : (p : Pdu) (l k : LinkState) (qs : List Pdu) → Joined now l → length l.waiting ≤ 20 → Deed p l k qs → Out now k ⊎ (Joined now k × (length k.waiting ≤ 20) × Steps qs)
  unfolding pdu_of
  one_deed p l k qs is few (leaves why left) =
      inl (record { clock = left.clock ∙ is.clock; is_out = left.is_out; quiet = omega (arith, left.closed_at, is.clock); lately = omega (arith, left.closed_at, is.clock) })
  one_deed p l k qs is few (keeps why same nothing) = inr (subst (Joined now) (sym same) is, omega (arith, ap (λ (j : LinkState). length j.waiting) same, few), none nothing)
  one_deed p l k qs is few (asks passes apart a) = inr (
    asked_joined now l k qs is a,
    omega (arith, ap (λ (j : LinkState). length j.waiting) a.link, few),
    step (pdu_of (header_of l) l.sent RetransmissionRequest) [] [] a.pdus (inl refl) (omega arith) (none refl),
  )
  one_deed p l k qs is few (takes passes t) = inr (taken_joined now p l k qs is passes t, let f = t.fewer in omega (arith, f, few), by t.block)
    where
      by : (qs ≡ []) ⊎ IsBlock (length l.waiting + 1) qs → Steps qs
      by (inl e) = none e
      by (inr b) = one_step qs (length l.waiting) few b

  hear_step : (g : ℕ) (p : Pdu) (ps : List Pdu) (l : LinkState) → FewWait g (p ∷ ps) l → Next ℕ now FewWait Says g l ps (heard now p l)
  hear_step g p ps l (is, few) = choose (heard_case now p l (lively now l is))
    where
      next : Out now (heard now p l).link ⊎ (Joined now (heard now p l).link × (length (heard now p l).link.waiting ≤ 20) × Steps (heard now p l).pdus) → Next ℕ now FewWait Says g l ps (heard now p l)
      next (inl left) = gone_next left
      next (inr (a, b, s)) = stays_next 0 (a, b) s

      choose : Out now (heard now p l).link ⊎ ((l.sent < 2147483000) × ((heard now p l).link ≡ (hearing p l).link) × ((heard now p l).pdus ≡ (hearing p l).pdus))
          → Next ℕ now FewWait Says g l ps (heard now p l)
      choose (inl left) = gone_next left
      choose (inr (room, e, f)) = next (one_deed p l (heard now p l).link (heard now p l).pdus is few
          (subst (λ (k : LinkState). Deed p l k (heard now p l).pdus) (sym e)
          (subst (λ (qs : List Pdu). Deed p l (hearing p l).link qs) (sym f) (hears p l is.connected is.joined (omega (arith, is.young, is.clock))))))

  -- what it says in a whole round: such steps, and a heartbeat at most
  pub record InSteps (ps : List Pdu) : Type 0 where
    pub front : List Pdu
    pub back : List Pdu
    pub are : ps ≡ front ++ back
    pub steps : Steps front
    pub few : length back ≤ 1

  pub round_in_steps : (ps : List Pdu) (l : LinkState) → now ≡ l.clock + 10 → Joined l.clock l → length l.waiting ≤ 20 → Either now (end_round now ps l).link (InSteps (end_round now ps l).pdus)
  round_in_steps ps l at is few = choose (begins now l at is.connected is.young)
    where
      j : LinkState
      j = at_reading now l

      Goal : Step → Type 0
      Goal s = Either now s.link (InSteps s.pdus)

      heard_all : Step
      heard_all = all_heard now ps j

      one_beat : (b : Bool) (k : LinkState) → length (beats b k) ≤ 1
      one_beat false k = omega arith
      one_beat true k = omega arith

      ended : (k : LinkState) (qs : List Pdu) → Steps qs → Ended now k (worked now l.identity.role k) → Goal (record { link = (worked now l.identity.role k).link; pdus = qs ++ (worked now l.identity.role k).pdus })
      ended k qs s (gone_end left) = gone left
      ended k qs s (done b e calm up) = subst (λ (x : Step). Goal (record { link = x.link; pdus = qs ++ x.pdus })) (sym e)
          (so (record { front = qs; back = beats b (spoken b k); are = refl; steps = s; few = one_beat b (spoken b k) }))

      heard_then : Next ℕ now FewWait Says 0 j [] heard_all → Goal (then_do heard_all (λ k. worked now l.identity.role k))
      heard_then (gone_next left) = gone (works_out now l.identity.role heard_all.link left)
      heard_then (stays_next g (a, b) s) = ended heard_all.link heard_all.pdus s (ends now l.identity.role heard_all.link a)

      choose : Begins now l → Goal (end_round now ps l)
      choose (late left) = gone (stays_out now ps l left)
      choose (on e young) = subst Goal (sym (round_on now ps l e))
          (heard_then (all_hear ℕ now FewWait Says (λ g l a. none refl) (λ g h i l k j ps qs a b. steps_then ps qs a b) hear_step ps 0 j (reading_joined now l is at young, few)))

-- ---- how long they are, where few of them are marks

pub stands_behind : (xs ys : List Pdu) (i : ℕ) (p : Pdu) → StandsAt i p ys → StandsAt (length xs + i) p (xs ++ ys)
stands_behind [] ys i p is = let e : i ≡ 0 + i = omega arith in subst (λ (m : ℕ). StandsAt m p ys) e is
stands_behind (x ∷ xs) ys i p is = let e : suc (length xs + i) ≡ suc (length xs) + i = omega arith in subst (λ (m : ℕ). StandsAt m p (x ∷ (xs ++ ys))) e (stands_behind xs ys i p is)

-- from this place on each kind of mark stands at one place at most
pub record FewMarks (from : ℕ) (ps : List Pdu) : Type 0 where
  pub one_ask : (i j : ℕ) (p q : Pdu) → from ≤ i → from ≤ j → StandsAt i p ps → StandsAt j q ps → p.body ≡ RetransmissionRequest → q.body ≡ RetransmissionRequest → i ≡ j
  pub one_answer : (i j : ℕ) (p q : Pdu) → from ≤ i → from ≤ j → StandsAt i p ps → StandsAt j q ps → p.body ≡ RetransmissionResponse → q.body ≡ RetransmissionResponse → i ≡ j

pub few_behind : (xs ys : List Pdu) (from then_from : ℕ) → from ≤ length xs + then_from → FewMarks from (xs ++ ys) → FewMarks then_from ys
few_behind xs ys from then_from le f = record {
  one_ask = λ i j p q a b s t e g. let same = f.one_ask (length xs + i) (length xs + j) p q (omega (arith, le, a)) (omega (arith, le, b)) (stands_behind xs ys i p s) (stands_behind xs ys j q t) e g in
      omega (arith, same);
  one_answer = λ i j p q a b s t e g. let same = f.one_answer (length xs + i) (length xs + j) p q (omega (arith, le, a)) (omega (arith, le, b)) (stands_behind xs ys i p s) (stands_behind xs ys j q t) e g in
      omega (arith, same);
}

-- three marks are too many
three : (ps : List Pdu) (i j k : ℕ) (p q r : Pdu) → FewMarks 0 ps → i < j → j < k → StandsAt i p ps → StandsAt j q ps → StandsAt k r ps → IsMark p → IsMark q → IsMark r → ⊥
three ps i j k p q r f a b s t u (inl d) (inl e) z = let same = f.one_ask i j p q (omega arith) (omega arith) s t d e in omega (arith, same, a)
three ps i j k p q r f a b s t u (inr d) (inr e) z = let same = f.one_answer i j p q (omega arith) (omega arith) s t d e in omega (arith, same, a)
three ps i j k p q r f a b s t u (inl d) (inr e) (inl g) = let same = f.one_ask i k p r (omega arith) (omega arith) s u d g in omega (arith, same, a, b)
three ps i j k p q r f a b s t u (inl d) (inr e) (inr g) = let same = f.one_answer j k q r (omega arith) (omega arith) t u e g in omega (arith, same, b)
three ps i j k p q r f a b s t u (inr d) (inl e) (inl g) = let same = f.one_ask j k q r (omega arith) (omega arith) t u e g in omega (arith, same, b)
three ps i j k p q r f a b s t u (inr d) (inl e) (inr g) = let same = f.one_answer i k p r (omega arith) (omega arith) s u d g in omega (arith, same, a, b)

two_steps : (ps : List Pdu) → Steps ps → FewMarks 0 ps → length ps ≤ 44
two_steps ps (none e) f = omega (arith, ap (λ (xs : List Pdu). length xs) e)
two_steps ps (step p rest others e mark few s) f = second s
  where
    f1 : FewMarks 0 ((p ∷ rest) ++ others)
    f1 = subst (FewMarks 0) e f

    long : length ps ≡ 1 + length rest + length others
    long = ap (λ (xs : List Pdu). length xs) e ∙ (let m = as_many_both rest others in omega (arith, m))

    second : Steps others → length ps ≤ 44
    second (none g) = omega (arith, long, few, ap (λ (xs : List Pdu). length xs) g)
    second (step q more last g then_mark then_few t) = third t
      where
        then_long : length others ≡ 1 + length more + length last
        then_long = ap (λ (xs : List Pdu). length xs) g ∙ (let m = as_many_both more last in omega (arith, m))

        third : Steps last → length ps ≤ 44
        third (none h) = omega (arith, long, few, then_long, then_few, ap (λ (xs : List Pdu). length xs) h)
        third (step r final tail h last_mark last_few u) = absurd (three ((p ∷ rest) ++ others) 0 (length (p ∷ rest) + 0) (length (p ∷ rest) + (length (q ∷ more) + 0)) p q r f1 (omega arith) (omega arith) refl
            (stands_behind (p ∷ rest) others 0 q (subst (StandsAt 0 q) (sym g) refl))
            (stands_behind (p ∷ rest) others (length (q ∷ more) + 0) r (subst (StandsAt (length (q ∷ more) + 0) r) (sym g) (stands_behind (q ∷ more) last 0 r (subst (StandsAt 0 r) (sym h) refl))))
            mark then_mark last_mark)

pub few_steps : (ps : List Pdu) (from : ℕ) → Steps ps → FewMarks from ps → length ps ≤ from + 66
few_steps ps from (none e) f = omega (arith, ap (λ (xs : List Pdu). length xs) e)
few_steps ps from (step p rest others e mark few s) f = choose (few_steps others (from - (1 + length rest)) s (few_behind (p ∷ rest) others from (from - (1 + length rest)) (omega arith) f1)) (nat_le from (1 + length rest)) refl
  where
    f1 : FewMarks from ((p ∷ rest) ++ others)
    f1 = subst (FewMarks from) e f

    long : length ps ≡ 1 + length rest + length others
    long = ap (λ (xs : List Pdu). length xs) e ∙ (let m = as_many_both rest others in omega (arith, m))

    choose : length others ≤ from - (1 + length rest) + 66 → (b : Bool) → nat_le from (1 + length rest) ≡ b → length ps ≤ from + 66
    choose most true g = omega (arith, long, few, two_steps others s (few_behind (p ∷ rest) others from 0 (let h = leb-true _ _ g in omega (arith, h)) f1))
    choose most false g = let h = leb-false _ _ g in omega (arith, long, most, h)
