-- What an end that has joined comes to in a round in which also comes what its partner says in it.
use Rattle.rasta_core_recovery.proofs.Words.Basics.{◌≡◌, ℕ, zero, suc, ◌∙◌, ◌+◌, ◌-◌, ◌^◌, ◌≤◌, ◌<◌, ◌⊎◌, inl, inr, Bool, true, false, List, [], ◌∷◌, ◌++◌, drop, sym, ap, subst, arith, ltb-true}
use Rattle.rasta_core_recovery.proofs.Words.Links.{stamp, wire, LinkState, Step, then_do, age, ahead, behind, confirms, hearing, Each, Pdu}
use Rattle.rasta_core_recovery.proofs.Lemmas.Rounds.Calls.{at_reading, spoken}
use Rattle.rasta_core_recovery.proofs.Lemmas.Rounds.Course.{Joined, asked_joined, counted, lively, placed, returned as returned_age, taken_joined}
use Rattle.rasta_core_recovery.proofs.Lemmas.Rounds.Deed.{Deed, Passes, Taken, asks, hears, keeps, leaves, takes}
use Rattle.rasta_core_recovery.proofs.Lemmas.FirstRound.FirstHears.{IsBelow, IsOld}
use Rattle.rasta_core_recovery.proofs.Lemmas.Rounds.Fold.{Begins, Next, Out, all_hear, begins, gone_next, heard_case, late, on, round_on, stays_next, stays_out, works_out}
use Rattle.rasta_core_recovery.proofs.Lemmas.ComingUp.Healthy.{is_reading, waits}
use Rattle.rasta_core_recovery.proofs.Lemmas.Rounds.Links.{all_heard, end_round, heard, worked}
use Rattle.rasta_core_recovery.proofs.Lemmas.Rounds.Turn.{Either, Ended, done, ends, gone, gone_end, reading_joined, so, spoken_joined}
use Rattle.rasta_core_recovery.proofs.Lemmas.Rounds.Words.{Chain, IsWord, Voice, chain_ends}

-- ---- one of the PDUs that its partner says

-- it stands at this place of a list
abbrev pub StandsAt : ℕ → Pdu → List Pdu → Type 0
StandsAt i p [] = ⊥
StandsAt zero p (x ∷ xs) = x ≡ p
StandsAt (suc i) p (x ∷ xs) = StandsAt i p xs

-- what such a PDU confirms and returns, and the chain of those after it
pub record WordAt (v : Voice) (n r end confirmed returned : ℕ) (ps : List Pdu) (i : ℕ) (p : Pdu) : Type 0 where
  pub count : ℕ
  pub reading : ℕ
  pub least : r ≤ reading
  pub word : IsWord v (n + i) count reading p
  pub rest : Chain v (n + i + 1) count reading (drop (suc i) ps) end confirmed returned

pub word_at : (v : Voice) (n c r end confirmed returned : ℕ) (ps : List Pdu) → Chain v n c r ps end confirmed returned → (i : ℕ) (p : Pdu) → StandsAt i p ps
    → WordAt v n r end confirmed returned ps i p
word_at v n c r end confirmed returned [] chain i p is = absurd is
word_at v n c r end confirmed returned (x ∷ xs) (d, q, h, k, w, more) zero p same = record {
  count = d;
  reading = q;
  least = k;
  word = subst (λ (m : ℕ). IsWord v m d q p) (omega arith) (subst (λ (y : Pdu). IsWord v n d q y) same w);
  rest = subst (λ (m : ℕ). Chain v m d q xs end confirmed returned) (omega arith) more;
}
word_at v n c r end confirmed returned (x ∷ xs) (d, q, h, k, w, more) (suc i) p is = let y = word_at v (n + 1) d q end confirmed returned xs more i p is in record {
  count = y.count;
  reading = y.reading;
  least = let l = y.least in omega (arith, k, l);
  word = subst (λ (m : ℕ). IsWord v m y.count y.reading p) (omega arith) y.word;
  rest = subst (λ (m : ℕ). Chain v m y.count y.reading (drop (suc i) xs) end confirmed returned) (omega arith) y.rest;
}

-- a PDU that passes confirms none that wasn't sent
confirms_sent : (d : ℕ) (p : Pdu) (l : LinkState) → confirms p l ≡ true → p.confirmed_sequence_number ≡ wire l.own_first d → d < 2 ^ 31 → l.sent < 2147483000 → d < l.sent
unfolding behind
confirms_sent d p l passes number fits room = let c = ltb-true (behind p l + l.confirmed) l.sent passes in omega (arith, c, number, fits, room)

-- ---- one PDU

module _ (first bound last now : ℕ) (v : Voice) (r end confirmed returned c : ℕ) (said : List Pdu) (chain : Chain v bound c r said end confirmed returned)
    (is_first : v.first ≡ first) (fits : end < 2 ^ 31) (confirmed_fits : confirmed < 2 ^ 31) (old : returned ≤ now) (low : now < r + 2 ^ 31)
    (R : Pdu → Type 0) (S : ℕ → Type 0) (turn : (p : Pdu) (l k : LinkState) (qs : List Pdu) → R p → Joined now l → Passes p l → Taken p l k qs → S k.own_stamp) where
  -- what comes: it was said before, and so it returns, or it is one of these
  abbrev pub Comes : Pdu → Type 0
  Comes p = (IsBelow first bound last p × R p) ⊎ ((i : ℕ) × StandsAt i p said)

  -- an end that took one of these last, and expects the next
  pub record HasNew (l : LinkState) : Type 0 where
    pub is : Joined now l
    pub place : ℕ
    pub pdu : Pdu
    pub at : WordAt v bound r end confirmed returned said place pdu
    pub expected : l.expected ≡ bound + place + 1
    pub own : l.own_stamp ≡ at.reading
    pub confirms_is : l.confirmed ≡ at.count
    pub kept : l.partner_stamp ≡ v.stamp
    pub phase : (is_reading l.phase ≡ true) ⊎ (waits l.phase ≡ true)

  abbrev pub Stood : LinkState → Type 0
  Stood l = (IsOld bound last now l × S l.own_stamp) ⊎ HasNew l

  bound_most : bound ≤ end
  bound_most = (chain_ends v bound c r end confirmed returned said chain).0

  expects_most : (l : LinkState) → Stood l → l.expected ≤ end
  expects_most l (inl (o, z)) = omega (arith, o.most, bound_most)
  expects_most l (inr h) = let m = (chain_ends v (bound + h.place + 1) h.at.count h.at.reading end confirmed returned (drop (suc h.place) said) h.at.rest).0 in omega (arith, m, h.expected)

  joined_of_stood : (l : LinkState) → Stood l → Joined now l
  joined_of_stood l (inl (o, z)) = o.is
  joined_of_stood l (inr h) = h.is

  After : LinkState → LinkState → Type 0
  After l k = Out now k ⊎ (Stood k × (k.partner_first ≡ first) × (k.own_first ≡ l.own_first))

  new_deed : (p : Pdu) (l k : LinkState) (qs : List Pdu) → Stood l → l.partner_first ≡ first → v.partner_first ≡ l.own_first → l.sent < 2147483000 → Comes p → Deed p l k qs → After l k
  unfolding After
  new_deed p l k qs s f g room b (leaves why left) = let is = joined_of_stood l s in
      inl (record { clock = left.clock ∙ is.clock; is_out = left.is_out; quiet = omega (arith, left.closed_at, is.clock); lately = omega (arith, left.closed_at, is.clock) })
  new_deed p l k qs s f g room b (keeps why same none) = inr (subst Stood (sym same) s, ap (λ (j : LinkState). j.partner_first) same ∙ f, ap (λ (j : LinkState). j.own_first) same)
  new_deed p l k qs s f g room b (asks passes apart a) = inr (by s, ap (λ (j : LinkState). j.partner_first) a.link ∙ f, ap (λ (j : LinkState). j.own_first) a.link)
    where
      by : Stood l → Stood k
      by (inl (o, z)) = inl (
        record {
          is = asked_joined now l k qs o.is a;
          most = omega (arith, ap (λ (j : LinkState). j.expected) a.link, o.most);
          kept = o.kept;
          kept_is = ap (λ (j : LinkState). j.partner_stamp) a.link ∙ o.kept_is;
          before = o.before;
          recent = o.recent;
        },
        subst S (sym (ap (λ (j : LinkState). j.own_stamp) a.link)) z,
      )
      by (inr h) = inr (record {
        is = asked_joined now l k qs h.is a;
        place = h.place;
        pdu = h.pdu;
        at = h.at;
        expected = ap (λ (j : LinkState). j.expected) a.link ∙ h.expected;
        own = ap (λ (j : LinkState). j.own_stamp) a.link ∙ h.own;
        confirms_is = ap (λ (j : LinkState). j.confirmed) a.link ∙ h.confirms_is;
        kept = ap (λ (j : LinkState). j.partner_stamp) a.link ∙ h.kept;
        phase = inr (ap (λ (j : LinkState). waits j.phase) a.link);
      })
  new_deed p l k qs s f g room b (takes passes t) = inr (by b, t.stays.partner_first ∙ f, t.stays.own_first)
    where
      is : Joined now l
      is = joined_of_stood l s

      taken_old : (b : IsBelow first bound last p) → R p → Stood l → Stood k
      taken_old b ret st =
          let at = placed (record { receiver = 0; sender = 0; first = first; partner_first = 0; stamp = 0 }) b.place end p l (sym f) b.number (omega (arith, b.below, bound_most)) fits
          (expects_most l st) passes.near in
          further at.0 at.1 st
        where
          further : l.expected ≤ b.place → wire l.expected (ahead p l + 1) ≡ b.place + 1 → Stood l → Stood k
          further le at (inl (o, z)) = inl (
            record {
              is = taken_joined now p l k qs is passes t;
              most = omega (arith, t.expected, at, b.below);
              kept = b.read_as;
              kept_is = t.partner_stamp ∙ b.stamped;
              before = b.before;
              recent = b.recent;
            },
            turn p l k qs ret is passes t,
          )
          further le at (inr h) = absurd (omega (arith, le, h.expected, b.below))

      taken_new : (i : ℕ) → StandsAt i p said → Stood k
      taken_new i stands = inr (record {
        is = taken_joined now p l k qs is passes t;
        place = i;
        pdu = p;
        at = w;
        expected = t.expected ∙ at.1;
        own = omega (arith, t.own_stamp, aged, is.clock, reading_most);
        confirms_is = omega (arith, t.confirmed, counted v w.count p l g w.word.confirms below (omega (arith, room)), below);
        kept = t.partner_stamp ∙ w.word.numbered.stamped;
        phase = inl t.reading;
      })
        where
          w : WordAt v bound r end confirmed returned said i p
          w = word_at v bound c r end confirmed returned said chain i p stands

          tail : (bound + i + 1 ≤ end) × (w.count ≤ confirmed) × (w.reading ≤ returned)
          tail = chain_ends v (bound + i + 1) w.count w.reading end confirmed returned (drop (suc i) said) w.rest

          at : (l.expected ≤ bound + i) × (wire l.expected (ahead p l + 1) ≡ bound + i + 1)
          at = placed v (bound + i) end p l (is_first ∙ sym f) w.word.numbered.number (omega (arith, tail.0)) fits (expects_most l s) passes.near

          reading_most : w.reading ≤ now
          reading_most = omega (arith, tail.2, old)

          aged : age p l ≡ now - w.reading
          aged = returned_age w.reading now p l is.clock w.word.returns reading_most (omega (arith, low, w.least))

          below : w.count < l.sent
          below = confirms_sent w.count p l passes.counts (w.word.confirms ∙ ap (λ (x : ℕ). wire x w.count) g) (omega (arith, tail.1, confirmed_fits)) room

      by : Comes p → Stood k
      by (inl (b, ret)) = taken_old b ret s
      by (inr (i, stands)) = taken_new i stands

  -- ---- all that comes

  abbrev Hears : ℕ → List Pdu → LinkState → Type 0
  Hears g ps l = Stood l × (l.partner_first ≡ first) × (v.partner_first ≡ l.own_first) × Each Comes ps

  abbrev Any : ℕ → LinkState → List Pdu → ℕ → LinkState → Type 0
  Any g l ps h k = Unit {0}

  new_step : (g : ℕ) (p : Pdu) (ps : List Pdu) (l : LinkState) → Hears g (p ∷ ps) l → Next ℕ now Hears Any g l ps (heard now p l)
  unfolding After
  new_step g p ps l (s, f, own, each) = choose (heard_case now p l (lively now l is))
    where
      is : Joined now l
      is = joined_of_stood l s

      next : After l (heard now p l).link → Next ℕ now Hears Any g l ps (heard now p l)
      next (inl left) = gone_next left
      next (inr (st, a, b)) = stays_next 0 (st, a, own ∙ sym b, each.1) tt

      choose : Out now (heard now p l).link ⊎ ((l.sent < 2147483000) × ((heard now p l).link ≡ (hearing p l).link) × ((heard now p l).pdus ≡ (hearing p l).pdus))
          → Next ℕ now Hears Any g l ps (heard now p l)
      choose (inl left) = gone_next left
      choose (inr (room, e, h)) = next (new_deed p l (heard now p l).link (heard now p l).pdus s f own room each.0
          (subst (λ (k : LinkState). Deed p l k (heard now p l).pdus) (sym e)
          (subst (λ (qs : List Pdu). Deed p l (hearing p l).link qs) (sym h) (hears p l is.connected is.joined (omega (arith, is.young, is.clock))))))

  spoken_stood : (b : Bool) (k : LinkState) → Stood k → Stood (spoken b k)
  spoken_stood false k s = s
  spoken_stood true k (inl (o, z)) = inl (record { is = spoken_joined now true k o.is; most = o.most; kept = o.kept; kept_is = o.kept_is; before = o.before; recent = o.recent }, z)
  spoken_stood true k (inr h) = inr (record {
    is = spoken_joined now true k h.is;
    place = h.place;
    pdu = h.pdu;
    at = h.at;
    expected = h.expected;
    own = h.own;
    confirms_is = h.confirms_is;
    kept = h.kept;
    phase = h.phase;
  })

  -- so it is after the round
  pub stood_behind : (ps : List Pdu) (l : LinkState) → now ≡ l.clock + 10 → Joined l.clock l → l.partner_first ≡ first → v.partner_first ≡ l.own_first → l.expected ≤ bound → (kept : ℕ)
      → l.partner_stamp ≡ stamp kept → kept ≤ last → last ≤ kept + 4000 → S l.own_stamp → Each Comes ps → Either now (end_round now ps l).link (Stood (end_round now ps l).link)
  stood_behind ps l at is f own most kept kept_is before recent starts each = choose (begins now l at is.connected is.young)
    where
      j : LinkState
      j = at_reading now l

      Goal : Step → Type 0
      Goal s = Either now s.link (Stood s.link)

      heard_all : Step
      heard_all = all_heard now ps j

      ended : (k : LinkState) (qs : List Pdu) → Stood k → Ended now k (worked now l.identity.role k)
          → Goal (record { link = (worked now l.identity.role k).link; pdus = qs ++ (worked now l.identity.role k).pdus })
      ended k qs s (gone_end left) = gone left
      ended k qs s (done b e calm up) = subst (λ (x : Step). Goal (record { link = x.link; pdus = qs ++ x.pdus })) (sym e) (so (spoken_stood b k s))

      heard_then : Next ℕ now Hears Any 0 j [] heard_all → Goal (then_do heard_all (λ k. worked now l.identity.role k))
      heard_then (gone_next left) = gone (works_out now l.identity.role heard_all.link left)
      heard_then (stays_next g a o) = ended heard_all.link heard_all.pdus a.0 (ends now l.identity.role heard_all.link (joined_of_stood heard_all.link a.0))

      choose : Begins now l → Goal (end_round now ps l)
      choose (late left) = gone (stays_out now ps l left)
      choose (on e young) = subst Goal (sym (round_on now ps l e))
          (heard_then (all_hear ℕ now Hears Any (λ g l a. tt) (λ g h i l k j ps qs a b. tt) new_step ps 0 j
          (inl (record { is = reading_joined now l is at young; most = most; kept = kept; kept_is = kept_is; before = before; recent = recent }, starts), f, own, each)))
