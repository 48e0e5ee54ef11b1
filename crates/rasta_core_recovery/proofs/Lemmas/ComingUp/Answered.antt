-- A client that joins by the response of a server that has said nothing else: what it says then is known, and what it has heard.
use Rattle.rasta_core_recovery.proofs.Words.Basics.{◌≡◌, ℕ, ◌∙◌, ◌+◌, ◌≤◌, ◌<◌, ◌⊎◌, inl, inr, Bool, true, false, List, [], ◌∷◌, ◌++◌, refl, sym, subst, arith, ltb-false}
use Rattle.rasta_core_recovery.proofs.Words.Links.{wire, stamp, LinkState, is_asking, Step, header_of, ahead, hearing, Header, Pdu, Each}
use Rattle.rasta_core_recovery.proofs.Lemmas.Rounds.Links.{heard}
use Rattle.rasta_core_recovery.proofs.Lemmas.Rounds.Words.{IsSimple, Says, says_then}
use Rattle.rasta_core_recovery.proofs.Lemmas.Rounds.Deed.{Deed, leaves, keeps, asks, takes, hears, Passes}
use Rattle.rasta_core_recovery.proofs.Lemmas.Rounds.Fold.{Out, Lively, heard_case, Next, gone_next, stays_next}
use Rattle.rasta_core_recovery.proofs.Lemmas.Rounds.Course.{Joined, lively}
use Rattle.rasta_core_recovery.proofs.Lemmas.Asking.Asks.{AskDeed, ask_leaves, ask_keeps, ask_joins, Asks, asks_asking, asks_lively, asks_hears}
use Rattle.rasta_core_recovery.proofs.Lemmas.Rounds.Facts.{IsFirst}

-- it keeps a stamp of lately
pub record IsStamped (m l : LinkState) : Type 0 where
  pub reading : ℕ
  pub kept_is : l.partner_stamp ≡ stamp reading
  pub before : reading ≤ m.clock
  pub recent : m.clock ≤ reading + 4000

-- it has joined, and taken nothing but the response
pub record HasMet (now : ℕ) (m l : LinkState) : Type 0 where
  pub is : Joined now l
  pub expected : l.expected ≡ 1
  pub first : l.partner_first ≡ wire m.own_first 0

module _ (now : ℕ) (m : LinkState) where
  abbrev pub Answered : ℕ → List Pdu → LinkState → Type 0
  Answered g ps l = (Asks now l ⊎ HasMet now m l) × Each (IsFirst m) ps

  -- from one state of it to another in a round
  pub record Answers (g : ℕ) (l : LinkState) (ps : List Pdu) (h : ℕ) (k : LinkState) : Type 0 where
    pub asks : is_asking k ≡ true → (is_asking l ≡ true) × (ps ≡ []) × (k.sent ≡ l.sent)
    pub says : is_asking k ≡ false → Says IsSimple (header_of k) l.sent ps k.sent
    pub heard : is_asking k ≡ false → is_asking l ≡ true → IsStamped m k
    pub still : is_asking l ≡ false → (is_asking k ≡ false) × (header_of k ≡ header_of l) × (k.partner_stamp ≡ l.partner_stamp)

  pub answers_none : (g : ℕ) (l : LinkState) → Answers g l [] g l
  answers_none g l = record { asks = λ e. (e, refl, refl); says = λ e. refl; heard = λ e f. absurd (cc (e, f)); still = λ e. (e, refl, refl) }

  pub answers_then : (g h i : ℕ) (l k j : LinkState) (ps qs : List Pdu) → Answers g l ps h k → Answers h k qs i j → Answers g l (ps ++ qs) i j
  answers_then g h i l k j ps qs a b = record {
    asks = λ e. let y = b.asks e in let x = a.asks y.0 in (x.0, both x.1 y.1, y.2 ∙ x.2);
    says = λ e. says_on (is_asking k) refl (b.says e);
    heard = λ e f. heard_on (is_asking k) refl e f;
    still = λ e. let x = a.still e in let y = b.still x.0 in (y.0, y.1 ∙ x.1, y.2 ∙ x.2);
  }
    where
      both : ps ≡ [] → qs ≡ [] → ps ++ qs ≡ []
      both f g = cc

      says_on : (c : Bool) → is_asking k ≡ c → Says IsSimple (header_of j) k.sent qs j.sent → Says IsSimple (header_of j) l.sent (ps ++ qs) j.sent
      says_on true f says = let x = a.asks f in subst (λ (rs : List Pdu). Says IsSimple (header_of j) l.sent (rs ++ qs) j.sent) (sym x.1) (subst (λ (n : ℕ). Says IsSimple (header_of j) n qs j.sent) x.2 says)
      says_on false f says = says_then IsSimple (header_of j) l.sent k.sent j.sent ps qs (subst (λ (h : Header). Says IsSimple h l.sent ps k.sent) (sym (b.still f).1) (a.says f)) says

      heard_on : (c : Bool) → is_asking k ≡ c → is_asking j ≡ false → is_asking l ≡ true → IsStamped m j
      heard_on true f e asked = b.heard e f
      heard_on false f e asked = let s = a.heard f asked in record { reading = s.reading; kept_is = (b.still f).2 ∙ s.kept_is; before = s.before; recent = s.recent }

  answered_lively : (l : LinkState) → Asks now l ⊎ HasMet now m l → Lively now l
  answered_lively l (inl is) = asks_lively now l is
  answered_lively l (inr is) = lively now l is.is

  pub lively_then : (g : ℕ) (ps : List Pdu) (l : LinkState) → Answered g ps l → Lively now l
  lively_then g ps l is = answered_lively l is.0

  -- nothing that comes is near what it expects
  far : (p : Pdu) (l : LinkState) → HasMet now m l → IsFirst m p → Passes p l → ⊥
  unfolding ahead
  far p l is first passes = let near = ltb-false 200 (ahead p l) passes.near in omega (arith, near, is.expected, is.first, first.number)

  met_deed : (p : Pdu) (l k : LinkState) (qs : List Pdu) → HasMet now m l → IsFirst m p → Deed p l k qs → Out now k ⊎ (HasMet now m k × Answers 0 l qs 0 k)
  met_deed p l k qs is first (leaves why left) = inl (record { clock = left.clock ∙ is.is.clock; is_out = left.is_out; quiet = omega (arith, left.closed_at, is.is.clock); lately = omega (arith, left.closed_at, is.is.clock) })
  met_deed p l k qs is first (keeps why same none) = inr (subst (HasMet now m) (sym same) is, subst (λ (j : LinkState). Answers 0 l qs 0 j) (sym same) (subst (λ (rs : List Pdu). Answers 0 l rs 0 l) (sym none) (answers_none 0 l)))
  met_deed p l k qs is first (asks passes apart a) = absurd (far p l is first passes)
  met_deed p l k qs is first (takes passes t) = absurd (far p l is first passes)

  ask_deed : (p : Pdu) (l k : LinkState) (qs : List Pdu) → Asks now l → IsFirst m p → AskDeed p l k qs → Out now k ⊎ ((Asks now k ⊎ HasMet now m k) × Answers 0 l qs 0 k)
  ask_deed p l k qs is first (ask_leaves left) = inl (record { clock = left.clock ∙ is.clock; is_out = left.is_out; quiet = omega (arith, left.closed_at, is.clock); lately = omega (arith, left.closed_at, is.clock) })
  ask_deed p l k qs is first (ask_keeps same none) = inr (inl (subst (Asks now) (sym same) is), subst (λ (j : LinkState). Answers 0 l qs 0 j) (sym same) (subst (λ (rs : List Pdu). Answers 0 l rs 0 l) (sym none) (answers_none 0 l)))
  ask_deed p l k qs is first (ask_joins opens clock in_it joined own said confirmed sent row met) = inr (
    inr (record {
      is = record { clock = clock ∙ is.clock; connected = in_it; joined = joined; young = omega (arith, is.young, own); own = omega (arith, is.own, own) };
      expected = met.expected;
      first = met.first ∙ first.number;
    }),
    record {
      asks = λ e. absurd (cc (e, joined));
      says = λ e. met.says;
      heard = λ e f. record { reading = first.read_as; kept_is = met.heard ∙ first.stamped; before = first.before; recent = first.recent };
      still = λ e. absurd (cc (e, asks_asking now l is));
    },
  )

  pub answered_step : (g : ℕ) (p : Pdu) (ps : List Pdu) (l : LinkState) → Answered g (p ∷ ps) l → Next ℕ now Answered Answers g l ps (heard now p l)
  answered_step g p ps l (is, each) = choose (heard_case now p l (answered_lively l is))
    where
      k : LinkState
      k = (heard now p l).link

      next : Out now k ⊎ ((Asks now k ⊎ HasMet now m k) × Answers 0 l (heard now p l).pdus 0 k) → Next ℕ now Answered Answers g l ps (heard now p l)
      next (inl left) = gone_next left
      next (inr (a, b)) = stays_next 0 (a, each.1) (record { asks = b.asks; says = b.says; heard = b.heard; still = b.still })

      right : Out now k ⊎ (HasMet now m k × Answers 0 l (heard now p l).pdus 0 k) → Out now k ⊎ ((Asks now k ⊎ HasMet now m k) × Answers 0 l (heard now p l).pdus 0 k)
      right (inl left) = inl left
      right (inr (a, b)) = inr (inr a, b)

      deed : Asks now l ⊎ HasMet now m l → (k ≡ (hearing p l).link) → ((heard now p l).pdus ≡ (hearing p l).pdus) → Out now k ⊎ ((Asks now k ⊎ HasMet now m k) × Answers 0 l (heard now p l).pdus 0 k)
      deed (inl in_it) e f = ask_deed p l k (heard now p l).pdus in_it each.0
          (subst (λ (j : LinkState). AskDeed p l j (heard now p l).pdus) (sym e) (subst (λ (qs : List Pdu). AskDeed p l (hearing p l).link qs) (sym f) (asks_hears p l (subst (λ (n : ℕ). Asks n l) (sym in_it.clock) in_it))))
      deed (inr in_it) e f = right (met_deed p l k (heard now p l).pdus in_it each.0
          (subst (λ (j : LinkState). Deed p l j (heard now p l).pdus) (sym e) (subst (λ (qs : List Pdu). Deed p l (hearing p l).link qs) (sym f) (hears p l in_it.is.connected in_it.is.joined (omega (arith, in_it.is.young, in_it.is.clock))))))

      choose : Out now k ⊎ ((l.sent < 2147483000) × (k ≡ (hearing p l).link) × ((heard now p l).pdus ≡ (hearing p l).pdus)) → Next ℕ now Answered Answers g l ps (heard now p l)
      choose (inl left) = gone_next left
      choose (inr (room, e, f)) = next (deed is e f)

-- ---- what is so after the round

-- what it has said since it asked, and what it keeps
pub record HasEntered (m l : LinkState) (s : Step) : Type 0 where
  pub says : Says IsSimple (header_of s.link) l.sent s.pdus s.link.sent
  pub heard : IsStamped m s.link
  pub expected : s.link.expected ≡ 1
