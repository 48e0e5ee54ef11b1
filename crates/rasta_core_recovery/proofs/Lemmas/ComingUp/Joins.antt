-- An end that asks when a round begins, and has joined when it ends: what it says in it goes on in its numbers.
use Rattle.rasta_core_recovery.proofs.Words.Basics.{◌≡◌, ℕ, ◌∙◌, ◌+◌, ◌<◌, ◌⊎◌, inl, inr, Bool, true, false, List, [], ◌++◌, refl, sym, ap, subst, arith}
use Rattle.rasta_core_recovery.proofs.Words.Links.{LinkState, is_open, is_asking, Step, then_do, hearing, Pdu}
use Rattle.rasta_core_recovery.proofs.Lemmas.Rounds.Links.{heard, all_heard, worked, end_round}
use Rattle.rasta_core_recovery.proofs.Lemmas.ComingUp.Healthy.{beats}
use Rattle.rasta_core_recovery.proofs.Lemmas.Rounds.Calls.{at_reading, spoken}
use Rattle.rasta_core_recovery.proofs.Lemmas.Rounds.Words.{Row, Voice, voice_of, IsNumbered, row_then}
use Rattle.rasta_core_recovery.proofs.Lemmas.Rounds.Deed.{Deed, hears}
use Rattle.rasta_core_recovery.proofs.Lemmas.Rounds.Fold.{Out, heard_case, Next, gone_next, stays_next, all_hear, Work, gone_work, calm_work, beats_work, works, Begins, late, on, begins, stays_out, works_out, round_on}
use Rattle.rasta_core_recovery.proofs.Lemmas.Rounds.Course.{Joined, voice_goes}
use Rattle.rasta_core_recovery.proofs.Lemmas.Rounds.Turn.{Rowed, rows_one, spoken_goes, spoken_row, spoken_joined, Ended, gone_end, done, ends}
use Rattle.rasta_core_recovery.proofs.Lemmas.Asking.Asks.{AskDeed, ask_leaves, ask_keeps, ask_joins, Asks, InIt, asks_asking, in_lively, asks_hears, asks_lively, reading_asks, not_up}

-- from one state of an end inside to another in a round: where it still asks it has said nothing, and where it has joined, what it
-- said goes on in its numbers
pub record Joins (g : ℕ) (l : LinkState) (ps : List Pdu) (h : ℕ) (k : LinkState) : Type 0 where
  pub asks : is_asking k ≡ true → (is_asking l ≡ true) × (ps ≡ []) × (k.sent ≡ l.sent)
  pub row : is_asking k ≡ false → Row (IsNumbered (voice_of k)) l.sent ps k.sent
  pub voice : is_asking l ≡ false → (is_asking k ≡ false) × (voice_of k ≡ voice_of l)

pub joins_none : (g : ℕ) (l : LinkState) → Joins g l [] g l
joins_none g l = record { asks = λ e. (e, refl, refl); row = λ e. refl; voice = λ e. (e, refl) }

pub joins_then : (g h i : ℕ) (l k j : LinkState) (ps qs : List Pdu) → Joins g l ps h k → Joins h k qs i j → Joins g l (ps ++ qs) i j
joins_then g h i l k j ps qs a b = record {
  asks = λ e. let y = b.asks e in let x = a.asks y.0 in (x.0, both x.1 y.1, y.2 ∙ x.2);
  row = λ e. choose (is_asking k) refl (b.row e);
  voice = λ e. let x = a.voice e in let y = b.voice x.0 in (y.0, y.1 ∙ x.1);
}
  where
    both : ps ≡ [] → qs ≡ [] → ps ++ qs ≡ []
    both f g = cc

    choose : (c : Bool) → is_asking k ≡ c → Row (IsNumbered (voice_of j)) k.sent qs j.sent → Row (IsNumbered (voice_of j)) l.sent (ps ++ qs) j.sent
    choose true f row = let x = a.asks f in subst (λ (rs : List Pdu). Row (IsNumbered (voice_of j)) l.sent (rs ++ qs) j.sent) (sym x.1) (subst (λ (n : ℕ). Row (IsNumbered (voice_of j)) n qs j.sent) x.2 row)
    choose false f row = row_then (IsNumbered (voice_of j)) l.sent k.sent j.sent ps qs (subst (λ (v : Voice). Row (IsNumbered v) l.sent ps k.sent) (sym (b.voice f).1) (a.row f)) row

module _ (now : ℕ) where
  pub of_rowed : (l k : LinkState) (ps : List Pdu) → Joined now l → Joined now k → Rowed now 0 l ps 0 k → Joins 0 l ps 0 k
  of_rowed l k ps is then_is r = record {
    asks = λ e. absurd (cc (e, then_is.joined));
    row = λ e. subst (λ (v : Voice). Row (IsNumbered v) l.sent ps k.sent) (sym (voice_goes now l k ps r.goes)) r.row;
    voice = λ e. (then_is.joined, voice_goes now l k ps r.goes);
  }

  joined_deed : (p : Pdu) (l k : LinkState) (qs : List Pdu) → Joined now l → Out now k ⊎ (Joined now k × Rowed now 0 l qs 0 k) → Out now k ⊎ (InIt now k × Joins 0 l qs 0 k)
  joined_deed p l k qs is (inl left) = inl left
  joined_deed p l k qs is (inr (then_is, r)) = inr (inl then_is, of_rowed l k qs is then_is r)

  asking_deed : (p : Pdu) (l k : LinkState) (qs : List Pdu) → Asks now l → AskDeed p l k qs → Out now k ⊎ (InIt now k × Joins 0 l qs 0 k)
  asking_deed p l k qs is (ask_leaves left) = inl (record { clock = left.clock ∙ is.clock; is_out = left.is_out; quiet = omega (arith, left.closed_at, is.clock); lately = omega (arith, left.closed_at, is.clock) })
  asking_deed p l k qs is (ask_keeps same none) = inr (inr (subst (Asks now) (sym same) is), subst (λ (j : LinkState). Joins 0 l qs 0 j) (sym same) (subst (λ (rs : List Pdu). Joins 0 l rs 0 l) (sym none) (joins_none 0 l)))
  asking_deed p l k qs is (ask_joins opens clock in_it joined own said confirmed sent row met) = inr (
    inl (record { clock = clock ∙ is.clock; connected = in_it; joined = joined; young = omega (arith, is.young, own); own = omega (arith, is.own, own) }),
    record { asks = λ e. absurd (cc (e, joined)); row = λ e. row; voice = λ e. absurd (cc (e, asks_asking now l is)) },
  )

  pub joins_step : (g : ℕ) (p : Pdu) (ps : List Pdu) (l : LinkState) → InIt now l → Next ℕ now (λ g ps l. InIt now l) Joins g l ps (heard now p l)
  joins_step g p ps l is = choose (heard_case now p l (in_lively now l is))
    where
      next : Out now (heard now p l).link ⊎ (InIt now (heard now p l).link × Joins 0 l (heard now p l).pdus 0 (heard now p l).link) → Next ℕ now (λ g ps l. InIt now l) Joins g l ps (heard now p l)
      next (inl left) = gone_next left
      next (inr (a, b)) = stays_next 0 a (record { asks = b.asks; row = b.row; voice = b.voice })

      deed : InIt now l → ((heard now p l).link ≡ (hearing p l).link) → ((heard now p l).pdus ≡ (hearing p l).pdus) → Out now (heard now p l).link ⊎ (InIt now (heard now p l).link × Joins 0 l (heard now p l).pdus 0 (heard now p l).link)
      deed (inl is) e f = joined_deed p l (heard now p l).link (heard now p l).pdus is (rows_one now p l (heard now p l).link (heard now p l).pdus is
          (subst (λ (k : LinkState). Deed p l k (heard now p l).pdus) (sym e) (subst (λ (qs : List Pdu). Deed p l (hearing p l).link qs) (sym f) (hears p l is.connected is.joined (omega (arith, is.young, is.clock))))))
      deed (inr is) e f = asking_deed p l (heard now p l).link (heard now p l).pdus is
          (subst (λ (k : LinkState). AskDeed p l k (heard now p l).pdus) (sym e) (subst (λ (qs : List Pdu). AskDeed p l (hearing p l).link qs) (sym f) (asks_hears p l (subst (λ (n : ℕ). Asks n l) (sym is.clock) is))))

      choose : Out now (heard now p l).link ⊎ ((l.sent < 2147483000) × ((heard now p l).link ≡ (hearing p l).link) × ((heard now p l).pdus ≡ (hearing p l).pdus)) → Next ℕ now (λ g ps l. InIt now l) Joins g l ps (heard now p l)
      choose (inl left) = gone_next left
      choose (inr (room, e, f)) = next (deed is e f)

-- so is its row where it has joined
abbrev pub JoinedRow : LinkState → Step → Type 0
JoinedRow l s = is_open s.link.phase ≡ true → is_asking s.link ≡ false → Row (IsNumbered (voice_of s.link)) l.sent s.pdus s.link.sent

pub joins_row : (now : ℕ) (ps : List Pdu) (l : LinkState) → Asks l.clock l → now ≡ l.clock + 10 → JoinedRow l (end_round now ps l)
joins_row now ps l is at = choose (begins now l at (ap is_open is.starts) is.young)
  where
    j : LinkState
    j = at_reading now l

    heard_all : Step
    heard_all = all_heard now ps j

    left_row : (s : Step) → Out now s.link → JoinedRow l s
    left_row s left in_it joined = absurd (cc (left.is_out, in_it))

    then_works : (k : LinkState) (qs : List Pdu) → Joins 0 j qs 0 k → InIt now k → JoinedRow l (record { link = (worked now l.identity.role k).link; pdus = qs ++ (worked now l.identity.role k).pdus })
    then_works k qs o (inl then_is) = ended (ends now l.identity.role k then_is)
      where
        ended : Ended now k (worked now l.identity.role k) → JoinedRow l (record { link = (worked now l.identity.role k).link; pdus = qs ++ (worked now l.identity.role k).pdus })
        ended (gone_end left) = left_row _ left
        ended (done b e calm up) = subst (λ (s : Step). JoinedRow l (record { link = s.link; pdus = qs ++ s.pdus })) (sym e) (λ in_it joined. (joins_then 0 0 0 j k (spoken b k) qs (beats b (spoken b k)) o last).row joined)
          where
            last : Joins 0 k (beats b (spoken b k)) 0 (spoken b k)
            last = of_rowed now k (spoken b k) (beats b (spoken b k)) then_is (spoken_joined now b k then_is) (record { goes = spoken_goes now b k then_is; row = spoken_row b k })
    then_works k qs o (inr asks) = worked_then (works now l.identity.role k (asks_lively now k asks))
      where
        worked_then : Work now k (worked now l.identity.role k) → JoinedRow l (record { link = (worked now l.identity.role k).link; pdus = qs ++ (worked now l.identity.role k).pdus })
        worked_then (gone_work left) = left_row _ left
        worked_then (beats_work up e) = absurd (cc (up, not_up k (asks_asking now k asks)))
        worked_then (calm_work e calm) = subst (λ (s : Step). JoinedRow l (record { link = s.link; pdus = qs ++ s.pdus })) (sym e) (λ in_it joined. absurd (cc (joined, asks_asking now k asks)))

    heard_then : Next ℕ now (λ g ps l. InIt now l) Joins 0 j [] heard_all → JoinedRow l (then_do heard_all (λ k. worked now l.identity.role k))
    heard_then (gone_next left) = left_row _ (works_out now l.identity.role heard_all.link left)
    heard_then (stays_next g a o) = then_works heard_all.link heard_all.pdus (record { asks = o.asks; row = o.row; voice = o.voice }) a

    choose : Begins now l → JoinedRow l (end_round now ps l)
    choose (late left) = left_row _ (stays_out now ps l left)
    choose (on e young) = subst (JoinedRow l) (sym (round_on now ps l e))
        (heard_then (all_hear ℕ now (λ g ps l. InIt now l) Joins (λ g l a. joins_none g l) joins_then (joins_step now) ps 0 j (inr (reading_asks now l is at young))))
