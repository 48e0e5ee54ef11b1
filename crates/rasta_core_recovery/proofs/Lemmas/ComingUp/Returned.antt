-- What comes to an end in a good round returns no reading of its clock that is younger than the round before: nor is its own stamp.
use Rattle.rasta_core_recovery.proofs.Words.Basics.{◌≡◌, ℕ, ◌∙◌, ◌+◌, ◌≤◌, ◌<◌, ◌⊎◌, inl, inr, Bool, true, false, List, [], ◌∷◌, ◌++◌, refl, sym, ap, subst, arith}
use Rattle.rasta_core_recovery.proofs.Words.Links.{stamp, LinkState, Step, then_do, hearing, Pdu, Each}
use Rattle.rasta_core_recovery.proofs.Lemmas.Rounds.Links.{heard, all_heard, worked, end_round}
use Rattle.rasta_core_recovery.proofs.Lemmas.Rounds.Calls.{at_reading, spoken}
use Rattle.rasta_core_recovery.proofs.Lemmas.Rounds.Words.{IsSpeech}
use Rattle.rasta_core_recovery.proofs.Lemmas.Rounds.Deed.{Deed, leaves, keeps, asks, takes, hears}
use Rattle.rasta_core_recovery.proofs.Lemmas.Rounds.Fold.{Out, heard_case, Next, gone_next, stays_next, all_hear, Begins, late, on, begins, stays_out, works_out, round_on}
use Rattle.rasta_core_recovery.proofs.Lemmas.Rounds.Course.{Joined, lively, taken_joined, asked_joined, returned}
use Rattle.rasta_core_recovery.proofs.Lemmas.Rounds.Turn.{Either, gone, so, reading_joined, spoken_joined, Ended, gone_end, done, ends}

-- a PDU that returns a reading from this one back, and not from long ago
abbrev pub IsReturned : ℕ → Pdu → Type 0
IsReturned last p = IsSpeech p.body → (q : ℕ) × (p.confirmed_time_stamp ≡ stamp q) × (q ≤ last) × (last < q + 10000)

-- an end that has joined, and knows no younger own stamp
pub record IsBehind (last now : ℕ) (l : LinkState) : Type 0 where
  pub is : Joined now l
  pub own : l.own_stamp ≤ last

module _ (last now : ℕ) (at : now ≡ last + 10) where
  abbrev pub Returns : ℕ → List Pdu → LinkState → Type 0
  Returns g ps l = IsBehind last now l × Each (IsReturned last) ps

  abbrev pub Any : ℕ → LinkState → List Pdu → ℕ → LinkState → Type 0
  Any g l ps h k = Unit {0}

  returns_deed : (p : Pdu) (l k : LinkState) (qs : List Pdu) → IsBehind last now l → IsReturned last p → Deed p l k qs → Out now k ⊎ IsBehind last now k
  returns_deed p l k qs b r (leaves why left) = inl (record { clock = left.clock ∙ b.is.clock; is_out = left.is_out; quiet = omega (arith, left.closed_at, b.is.clock); lately = omega (arith, left.closed_at, b.is.clock) })
  returns_deed p l k qs b r (keeps why same none) = inr (subst (IsBehind last now) (sym same) b)
  returns_deed p l k qs b r (asks passes apart a) = inr (record { is = asked_joined now l k qs b.is a; own = omega (arith, ap (λ (j : LinkState). j.own_stamp) a.link, b.own) })
  returns_deed p l k qs b r (takes passes t) =
      let known = r t.speech in let old = known.2 in let recent = known.3 in
      let aged = returned known.0 now p l b.is.clock known.1 (omega (arith, old, at)) (omega (arith, recent, at)) in
      inr (record { is = taken_joined now p l k qs b.is passes t; own = omega (arith, t.own_stamp, aged, b.is.clock, old, at) })

  pub returns_step : (g : ℕ) (p : Pdu) (ps : List Pdu) (l : LinkState) → Returns g (p ∷ ps) l → Next ℕ now Returns Any g l ps (heard now p l)
  returns_step g p ps l (b, each) = choose (heard_case now p l (lively now l b.is))
    where
      next : Out now (heard now p l).link ⊎ IsBehind last now (heard now p l).link → Next ℕ now Returns Any g l ps (heard now p l)
      next (inl left) = gone_next left
      next (inr then_is) = stays_next 0 (then_is, each.1) tt

      choose : Out now (heard now p l).link ⊎ ((l.sent < 2147483000) × ((heard now p l).link ≡ (hearing p l).link) × ((heard now p l).pdus ≡ (hearing p l).pdus)) → Next ℕ now Returns Any g l ps (heard now p l)
      choose (inl left) = gone_next left
      choose (inr (room, e, f)) = next (returns_deed p l (heard now p l).link (heard now p l).pdus b each.0
          (subst (λ (k : LinkState). Deed p l k (heard now p l).pdus) (sym e) (subst (λ (qs : List Pdu). Deed p l (hearing p l).link qs) (sym f) (hears p l b.is.connected b.is.joined (omega (arith, b.is.young, b.is.clock))))))

  spoken_own : (b : Bool) (k : LinkState) → (spoken b k).own_stamp ≡ k.own_stamp
  spoken_own false k = refl
  spoken_own true k = refl

  -- so it is after the round
  pub own_behind : (ps : List Pdu) (l : LinkState) → l.clock ≡ last → Joined l.clock l → Each (IsReturned last) ps → Either now (end_round now ps l).link (IsBehind last now (end_round now ps l).link)
  own_behind ps l clock is each = choose (begins now l (omega (arith, at, clock)) is.connected is.young)
    where
      j : LinkState
      j = at_reading now l

      Goal : Step → Type 0
      Goal s = Either now s.link (IsBehind last now s.link)

      heard_all : Step
      heard_all = all_heard now ps j

      ended : (k : LinkState) (qs : List Pdu) → IsBehind last now k → Ended now k (worked now l.identity.role k) → Goal (record { link = (worked now l.identity.role k).link; pdus = qs ++ (worked now l.identity.role k).pdus })
      ended k qs b (gone_end left) = gone left
      ended k qs b (done f e calm up) = subst (λ (s : Step). Goal (record { link = s.link; pdus = qs ++ s.pdus })) (sym e) (so (record { is = spoken_joined now f k b.is; own = omega (arith, spoken_own f k, b.own) }))

      heard_then : Next ℕ now Returns Any 0 j [] heard_all → Goal (then_do heard_all (λ k. worked now l.identity.role k))
      heard_then (gone_next left) = gone (works_out now l.identity.role heard_all.link left)
      heard_then (stays_next g a o) = ended heard_all.link heard_all.pdus a.0 (ends now l.identity.role heard_all.link a.0.is)

      choose : Begins now l → Goal (end_round now ps l)
      choose (late left) = gone (stays_out now ps l left)
      choose (on e young) = subst Goal (sym (round_on now ps l e))
          (heard_then (all_hear ℕ now Returns Any (λ g l a. tt) (λ g h i l k j ps qs a b. tt) returns_step ps 0 j
          (record { is = reading_joined now l is (omega (arith, at, clock)) young; own = omega (arith, is.own, clock) }, each)))
