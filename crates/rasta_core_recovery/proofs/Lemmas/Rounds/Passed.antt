-- What an end has passed may come to it again: it changes nothing there. So it may be left out of what comes.
use Rattle.rasta_core_recovery.proofs.Words.Basics.{◌≡◌, ℕ, zero, suc, ◌∙◌, ◌+◌, ◌-◌, ◌^◌, ◌≤◌, ◌<◌, ◌⊎◌, inl, inr, true, false, nat_lt, List, [], ◌∷◌, drop, refl, sym, ap, subst, arith}
use Rattle.rasta_core_recovery.proofs.Words.Links.{wire, LinkState, is_open, settled, Step, silent, then_do, ahead, hearing, Pdu}
use Rattle.rasta_core_recovery.proofs.Lemmas.Rounds.Calls.{at_reading}
use Rattle.rasta_core_recovery.proofs.Lemmas.Rounds.Course.{Joined, lively, placed}
use Rattle.rasta_core_recovery.proofs.Lemmas.Rounds.Deed.{Deed, asks, hears, keeps, leaves, takes}
use Rattle.rasta_core_recovery.proofs.Lemmas.FirstRound.FirstRises.{Lately}
use Rattle.rasta_core_recovery.proofs.Lemmas.Rounds.Fold.{Begins, Out, begins, heard_case, late, on, round_on, stays_out, works_out}
use Rattle.rasta_core_recovery.proofs.Lemmas.Rounds.Links.{Pair, all_heard, end_round, heard, pair_round, worked, same_step}
use Rattle.rasta_core_recovery.proofs.Lemmas.ComingUp.Seen.{BothIn}
use Rattle.rasta_core_recovery.proofs.Lemmas.ComingUp.Stays.{quiet_hears_all}
use Rattle.rasta_core_recovery.proofs.Lemmas.Rounds.Turn.{reading_joined}
use Rattle.rasta_core_recovery.proofs.Lemmas.Rounds.Words.{Chain, IsNumbered, Row, Voice, voice_of}

-- ---- one end

-- a PDU of a place that is passed
module _ (now : ℕ) (v : Voice) (n end : ℕ) (p : Pdu) (l : LinkState) (is : Joined now l) (first : v.first ≡ l.partner_first) (number : p.sequence_number ≡ wire v.first n)
    (below : n < l.expected) (most : l.expected ≤ end) (fits : end < 2 ^ 31) where
  not_near : nat_lt 200 (ahead p l) ≡ false → ⊥
  not_near near = let at = placed v n end p l first number (omega (arith, below, most)) fits most near in omega (arith, at.0, below)

  by_deed : (k : LinkState) (qs : List Pdu) → Deed p l k qs → Out now k ⊎ ((k ≡ l) × (qs ≡ []))
  by_deed k qs (leaves why left) =
      inl (record { clock = left.clock ∙ is.clock; is_out = left.is_out; quiet = omega (arith, left.closed_at, is.clock); lately = omega (arith, left.closed_at, is.clock) })
  by_deed k qs (keeps why same none) = inr (same, none)
  by_deed k qs (asks passes apart a) = absurd (not_near passes.near)
  by_deed k qs (takes passes t) = absurd (not_near passes.near)

  pub one_passed : Out now (heard now p l).link ⊎ (heard now p l ≡ silent l)
  unfolding heard
  one_passed = choose (heard_case now p l (lively now l is))
    where
      next : Out now (heard now p l).link ⊎ (((heard now p l).link ≡ l) × ((heard now p l).pdus ≡ [])) → Out now (heard now p l).link ⊎ (heard now p l ≡ silent l)
      next (inl left) = inl left
      next (inr (same, none)) = inr (same_step same none)

      choose : Out now (heard now p l).link ⊎ ((l.sent < 2147483000) × ((heard now p l).link ≡ (hearing p l).link) × ((heard now p l).pdus ≡ (hearing p l).pdus))
          → Out now (heard now p l).link ⊎ (heard now p l ≡ silent l)
      choose (inl left) = inl left
      choose (inr (room, e, f)) = next (by_deed (heard now p l).link (heard now p l).pdus
          (subst (λ (k : LinkState). Deed p l k (heard now p l).pdus) (sym e)
          (subst (λ (qs : List Pdu). Deed p l (hearing p l).link qs) (sym f) (hears p l is.connected is.joined (omega (arith, is.young, is.clock))))))

-- PDUs of which so many are passed
all_passed : (now : ℕ) (v : Voice) (k n end : ℕ) (ps : List Pdu) (l : LinkState) → Joined now l → v.first ≡ l.partner_first → Row (IsNumbered v) n ps end → k ≤ l.expected - n → l.expected ≤ end
    → end < 2 ^ 31 → Out now (all_heard now ps l).link ⊎ (all_heard now ps l ≡ all_heard now (drop k ps) l)
unfolding all_heard
all_passed now v zero n end ps l is first row below most fits = inr refl
all_passed now v (suc k) n end [] l is first row below most fits = inr refl
all_passed now v (suc k) n end (p ∷ ps) l is first row below most fits =
    choose (one_passed now v n end p l is first row.0.number (omega (arith, below)) most fits) (all_passed now v k (n + 1) end ps l is first row.1 (omega (arith, below)) most fits)
  where
    on_from : heard now p l ≡ silent l → all_heard now (p ∷ ps) l ≡ all_heard now ps l
    on_from same = ap (λ (s : Step). then_do s (λ k. all_heard now ps k)) same

    choose : Out now (heard now p l).link ⊎ (heard now p l ≡ silent l) → Out now (all_heard now ps l).link ⊎ (all_heard now ps l ≡ all_heard now (drop k ps) l)
        → Out now (all_heard now (p ∷ ps) l).link ⊎ (all_heard now (p ∷ ps) l ≡ all_heard now (drop k ps) l)
    choose (inl left) others = inl (subst (Out now) (sym (ap (λ (s : Step). s.link) (quiet_hears_all now ps (heard now p l).link left.is_out left.quiet left.clock))) left)
    choose (inr same) (inl left) = inl (subst (λ (s : Step). Out now s.link) (sym (on_from same)) left)
    choose (inr same) (inr e) = inr (on_from same ∙ e)

-- a round in which the end stays
pub round_without : (now : ℕ) (v : Voice) (k n end : ℕ) (ps : List Pdu) (l : LinkState) → now ≡ l.clock + 10 → Joined l.clock l → v.first ≡ l.partner_first → Row (IsNumbered v) n ps end
    → k ≤ l.expected - n → l.expected ≤ end → end < 2 ^ 31 → is_open (end_round now ps l).link.phase ≡ true → end_round now ps l ≡ end_round now (drop k ps) l
unfolding end_round
round_without now v k n end ps l at is first row below most fits then_in = choose (begins now l at is.connected is.young)
  where
    j : LinkState
    j = at_reading now l

    goes_out : Out now (all_heard now ps j).link → settled now l ≡ at_reading now l → ⊥
    goes_out left e = let o = works_out now l.identity.role (all_heard now ps j).link left in cc (ap (λ (s : Step). is_open s.link.phase) (round_on now ps l e), o.is_out, then_in)

    same : settled now l ≡ at_reading now l → Out now (all_heard now ps j).link ⊎ (all_heard now ps j ≡ all_heard now (drop k ps) j) → end_round now ps l ≡ end_round now (drop k ps) l
    same e (inl left) = absurd (goes_out left e)
    same e (inr f) = round_on now ps l e ∙ ap (λ (s : Step). then_do s (λ m. worked now l.identity.role m)) f ∙ sym (round_on now (drop k ps) l e)

    choose : Begins now l → end_round now ps l ≡ end_round now (drop k ps) l
    choose (late left) = absurd (let o = stays_out now ps l left in cc (o.is_out, then_in))
    choose (on e young) = same e (all_passed now v k n end ps j (reading_joined now l is at young) first row below most fits)

-- ---- both

-- What is under way to an end goes on in its numbers, and so many of it are passed.
pub record IsUnderWay (l m : LinkState) (n k : ℕ) (ps : List Pdu) : Type 0 where
  pub is : Joined l.clock l
  pub first : l.partner_first ≡ m.own_first
  pub row : Row (IsNumbered (voice_of m)) n ps m.sent
  pub passed : k ≤ l.expected - n
  pub most : l.expected ≤ m.sent
  pub fits : m.sent < 2 ^ 31

-- two ends to which those don't come
abbrev pub without : ℕ → ℕ → Pair → Pair
without m n p = record { client = p.client; server = p.server; to_client = drop m p.to_client; to_server = drop n p.to_server }

-- their next round is the same, where both stay in it
pub same_without : (p : Pair) (n m j k : ℕ) → IsUnderWay p.client p.server n j p.to_client → IsUnderWay p.server p.client m k p.to_server → BothIn (pair_round p)
    → pair_round p ≡ pair_round (without j k p)
unfolding pair_round
same_without p n m j k c s both = two
    (round_without (p.client.clock + 10) (voice_of p.server) j n p.server.sent p.to_client p.client refl c.is (sym c.first) c.row c.passed c.most c.fits both.client)
    (round_without (p.server.clock + 10) (voice_of p.client) k m p.client.sent p.to_server p.server refl s.is (sym s.first) s.row s.passed s.most s.fits both.server)
  where
    of : Step → Step → Pair
    of one other = record { client = one.link; server = other.link; to_client = other.pdus; to_server = one.pdus }

    two : {a b d e : Step} → a ≡ b → d ≡ e → of a d ≡ of b e
    two e f = cc

-- ---- and what still comes is a chain

chain_without : (v : Voice) (k n c r end confirmed returned : ℕ) (ps : List Pdu) → Chain v n c r ps end confirmed returned → n + k ≤ end
    → (d : ℕ) × (q : ℕ) × (c ≤ d) × (r ≤ q) × Chain v (n + k) d q (drop k ps) end confirmed returned
chain_without v zero n c r end confirmed returned ps chain most =
    (c, r, omega arith, omega arith, subst (λ (m : ℕ). Chain v m c r ps end confirmed returned) (omega arith) chain)
chain_without v (suc k) n c r end confirmed returned [] chain most = absurd (omega (arith, chain.0, most))
chain_without v (suc k) n c r end confirmed returned (p ∷ ps) (x, y, h, i, w, more) most =
    let t = chain_without v k (n + 1) x y end confirmed returned ps more (omega (arith, most)) in
    (t.0, t.1, omega (arith, h, t.2), omega (arith, i, t.3), subst (λ (m : ℕ). Chain v m t.0 t.1 (drop k ps) end confirmed returned) (omega arith) t.4)

pub lately_without : (l m : LinkState) (k n end confirmed returned : ℕ) (ps : List Pdu) → Lately l m n end confirmed returned ps → n + k ≤ end
    → Lately l m (n + k) end confirmed returned (drop k ps)
lately_without l m k n end confirmed returned ps is most = let t = chain_without (voice_of m) k n is.count is.reading end confirmed returned ps is.chain most in
    record { count = t.0; reading = t.1; chain = t.4; recent = let r = is.recent in omega (arith, r, t.3) }
