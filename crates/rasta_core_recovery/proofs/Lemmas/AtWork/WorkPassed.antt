-- What an end has passed may be left out of what comes to it in a round at work, too.
use Rattle.rasta_core_recovery.proofs.Words.Basics.{◌≡◌, ℕ, zero, suc, ◌∙◌, ◌+◌, ◌-◌, ◌^◌, ◌≤◌, ◌<◌, ◌⊎◌, inl, inr, true, List, [], ◌∷◌, ◌++◌, drop, refl, sym, ap, subst, arith}
use Rattle.rasta_core_recovery.proofs.Words.Links.{settled, LinkState, is_open, Step, silent, then_do, Role, Pdu, Each}
use Rattle.rasta_core_recovery.proofs.Lemmas.Rounds.Acts.{Act, Asks, Beats, Gives, Hears, IsBefore, IsWork, Roomy, WorkRound, acted, all_brought, all_did, behind, clock_acts, did}
use Rattle.rasta_core_recovery.proofs.Lemmas.Rounds.Calls.{at_reading}
use Rattle.rasta_core_recovery.proofs.Lemmas.Rounds.Course.{Joined, lively}
use Rattle.rasta_core_recovery.proofs.Lemmas.Rounds.Fold.{Begins, Out, begins, late, on}
use Rattle.rasta_core_recovery.proofs.Lemmas.Rounds.Links.{Pair, heard}
use Rattle.rasta_core_recovery.proofs.Lemmas.Rounds.Own.{Utters, out_all, own_utters}
use Rattle.rasta_core_recovery.proofs.Lemmas.Rounds.Passed.{IsUnderWay, one_passed, without}
use Rattle.rasta_core_recovery.proofs.Lemmas.ComingUp.Seen.{BothIn}
use Rattle.rasta_core_recovery.proofs.Lemmas.Rounds.Turn.{reading_joined}
use Rattle.rasta_core_recovery.proofs.Lemmas.AtWork.WorkTurn.{expects_still, utters_joined}
use Rattle.rasta_core_recovery.proofs.Lemmas.Rounds.Words.{IsNumbered, Row, Voice, voice_of}

-- the acts of a round, in which so many PDUs fewer come
abbrev unheard : ℕ → List Act → List Act
unheard zero acts = acts
unheard (suc k) [] = []
unheard (suc k) (Hears p ∷ acts) = unheard k acts
unheard (suc k) (Beats ∷ acts) = Beats ∷ unheard (suc k) acts
unheard (suc k) (Asks ∷ acts) = Asks ∷ unheard (suc k) acts
unheard (suc k) (Gives item ∷ acts) = Gives item ∷ unheard (suc k) acts

brought_without : (k : ℕ) (acts : List Act) → all_brought (unheard k acts) ≡ drop k (all_brought acts)
brought_without zero acts = refl
brought_without (suc k) [] = refl
brought_without (suc k) (Hears p ∷ acts) = brought_without k acts
brought_without (suc k) (Beats ∷ acts) = brought_without (suc k) acts
brought_without (suc k) (Asks ∷ acts) = brought_without (suc k) acts
brought_without (suc k) (Gives item ∷ acts) = brought_without (suc k) acts

before_without : (k : ℕ) (acts : List Act) → Each IsBefore acts → Each IsBefore (unheard k acts)
before_without zero acts before = before
before_without (suc k) [] before = tt
before_without (suc k) (Hears p ∷ acts) before = before_without k acts before.1
before_without (suc k) (Beats ∷ acts) before = absurd before.0
before_without (suc k) (Asks ∷ acts) before = absurd before.0
before_without (suc k) (Gives item ∷ acts) before = (tt, before_without (suc k) acts before.1)

-- they do the same, where the end stays
Same : ℕ → List Act → List Act → LinkState → Type 0
Same now acts others l = (all_did now acts l ≡ all_did now others l) × Roomy now others l

acts_without : (now : ℕ) (v : Voice) (k n end : ℕ) (front rest : List Act) (l : LinkState) → Joined now l → v.first ≡ l.partner_first → Each IsBefore front
    → Row (IsNumbered v) n (all_brought front) end → k ≤ l.expected - n → l.expected ≤ end → end < 2 ^ 31 → Roomy now (front ++ rest) l
    → Out now (all_did now (front ++ rest) l).link ⊎ Same now (front ++ rest) (unheard k front ++ rest) l
unfolding all_did did Same
acts_without now v zero n end front rest l is first before row below most fits room = inr (refl, room)
acts_without now v (suc k) n end [] rest l is first before row below most fits room = inr (refl, room)
acts_without now v (suc k) n end (Beats ∷ front) rest l is first before row below most fits room = absurd before.0
acts_without now v (suc k) n end (Asks ∷ front) rest l is first before row below most fits room = absurd before.0
acts_without now v (suc k) n end (Hears p ∷ front) rest l is first before row below most fits room =
    choose (one_passed now v n end p l is first row.0.number (omega (arith, below)) most fits)
    (λ roomy. acts_without now v k (n + 1) end front rest l is first before.1 row.1 (omega (arith, below)) most fits roomy)
  where
    on_from : heard now p l ≡ silent l → all_did now (Hears p ∷ (front ++ rest)) l ≡ all_did now (front ++ rest) l
    on_from same = ap (λ (s : Step). then_do s (λ j. all_did now (front ++ rest) j)) same

    next : heard now p l ≡ silent l → Out now (all_did now (front ++ rest) l).link ⊎ Same now (front ++ rest) (unheard k front ++ rest) l
        → Out now (all_did now (Hears p ∷ (front ++ rest)) l).link ⊎ Same now (Hears p ∷ (front ++ rest)) (unheard k front ++ rest) l
    next same (inl left) = inl (subst (λ (s : Step). Out now s.link) (sym (on_from same)) left)
    next same (inr (e, roomy)) = inr (on_from same ∙ e, roomy)

    choose : Out now (heard now p l).link ⊎ (heard now p l ≡ silent l)
        → (Roomy now (front ++ rest) l → Out now (all_did now (front ++ rest) l).link ⊎ Same now (front ++ rest) (unheard k front ++ rest) l)
        → Out now (all_did now (Hears p ∷ (front ++ rest)) l).link ⊎ Same now (Hears p ∷ (front ++ rest)) (unheard k front ++ rest) l
    choose (inl left) others = inl (out_all now (front ++ rest) (heard now p l).link left)
    choose (inr same) others = next same (others (subst (λ (s : Step). Roomy now (front ++ rest) s.link) same room.1))
acts_without now v (suc k) n end (Gives item ∷ front) rest l is first before row below most fits room =
    choose (acts_without now v (suc k) n end front rest j (utters_joined now l j (did now (Gives item) l).pdus is u) (first ∙ sym (ap (λ (m : LinkState). m.partner_first) u.same)) before.1 row
    (omega (arith, below, expects_still l j (did now (Gives item) l).pdus u)) (omega (arith, most, expects_still l j (did now (Gives item) l).pdus u)) fits room.1)
  where
    j : LinkState
    j = (did now (Gives item) l).link

    u : Utters l j (did now (Gives item) l).pdus
    u = own_utters now (Gives item) l tt (lively now l is) room.0

    choose : Out now (all_did now (front ++ rest) j).link ⊎ Same now (front ++ rest) (unheard (suc k) front ++ rest) j
        → Out now (all_did now (Gives item ∷ (front ++ rest)) l).link ⊎ Same now (Gives item ∷ (front ++ rest)) (Gives item ∷ (unheard (suc k) front ++ rest)) l
    choose (inl left) = inl left
    choose (inr (e, roomy)) = inr (ap (λ (s : Step). record { link = s.link; pdus = (did now (Gives item) l).pdus ++ s.pdus }) e, (room.0, roomy))

-- ---- a round at one end

record Less (who : Role) (now k : ℕ) (due : List Pdu) (acts : List Act) (l : LinkState) : Type 0 where
  others : List Act
  work : IsWork who (drop k due) others
  same : acted now acts l ≡ acted now others l
  room : Roomy now others (settled now l)

round_with_less : (who : Role) (now : ℕ) (v : Voice) (k n end : ℕ) (due : List Pdu) (acts : List Act) (l : LinkState) → now ≡ l.clock + 10 → Joined l.clock l → v.first ≡ l.partner_first
    → IsWork who due acts → Row (IsNumbered v) n due end → k ≤ l.expected - n → l.expected ≤ end → end < 2 ^ 31 → Roomy now acts (settled now l)
    → is_open (acted now acts l).link.phase ≡ true → Less who now k due acts l
unfolding acted Same
round_with_less who now v k n end due acts l at is first w row below most fits room then_in = choose (begins now l at is.connected is.young)
  where
    rest : List Act
    rest = clock_acts who ++ w.back

    less : List Act
    less = unheard k w.front ++ (clock_acts who ++ w.back)

    work : IsWork who (drop k due) less
    work = record {
      front = unheard k w.front;
      back = w.back;
      are = refl;
      brings = brought_without k w.front ∙ ap (λ (ps : List Pdu). drop k ps) w.brings;
      before = before_without k w.front w.before;
      behind = w.behind;
    }

    by : settled now l ≡ at_reading now l → Out now (all_did now (w.front ++ (clock_acts who ++ w.back)) (at_reading now l)).link ⊎ Same now (w.front ++ (clock_acts who ++ w.back)) less (at_reading now l)
        → Less who now k due acts l
    by e (inl left) = absurd (cc (
      ap (λ (bs : List Act). is_open (all_did now bs (settled now l)).link.phase) w.are,
      ap (λ (m : LinkState). is_open (all_did now (w.front ++ (clock_acts who ++ w.back)) m).link.phase) e,
      left.is_out,
      then_in,
    ))
    by e (inr (same, roomy)) = record {
      others = less;
      work = work;
      same = ap (λ (bs : List Act). all_did now bs (settled now l)) w.are ∙ ap (λ (m : LinkState). all_did now (w.front ++ (clock_acts who ++ w.back)) m) e ∙ same
          ∙ sym (ap (λ (m : LinkState). all_did now less m) e);
      room = subst (λ (m : LinkState). Roomy now less m) (sym e) roomy;
    }

    choose : Begins now l → Less who now k due acts l
    choose (late left) = absurd (let o = out_all now acts (settled now l) left in cc (o.is_out, then_in))
    choose (on e young) = by e (acts_without now v k n end w.front (clock_acts who ++ w.back) (at_reading now l) (reading_joined now l is at young) first w.before
        (subst (λ (ps : List Pdu). Row (IsNumbered v) n ps end) (sym w.brings) row) below most fits
        (subst (λ (m : LinkState). Roomy now (w.front ++ (clock_acts who ++ w.back)) m) e (subst (λ (bs : List Act). Roomy now bs (settled now l)) w.are room)))

-- ---- both

-- a round of two ends to which those don't come, that leaves the same
pub record SameRound (p q : Pair) (r : WorkRound p) : Type 0 where
  pub round : WorkRound q
  pub same : behind p r ≡ behind q round

pub same_at_work : (p : Pair) (r : WorkRound p) (n m j k : ℕ) → IsUnderWay p.client p.server n j p.to_client → IsUnderWay p.server p.client m k p.to_server → BothIn (behind p r)
    → SameRound p (without j k p) r
same_at_work p r n m j k c s both = record {
  round = record {
    client_acts = one.others;
    server_acts = other.others;
    client_work = one.work;
    server_work = other.work;
    client_room = one.room;
    server_room = other.room;
  };
  same = two one.same other.same;
}
  where
    one : Less Role.Client (p.client.clock + 10) j p.to_client r.client_acts p.client
    one = round_with_less Role.Client (p.client.clock + 10) (voice_of p.server) j n p.server.sent p.to_client r.client_acts p.client refl c.is (sym c.first) r.client_work c.row c.passed c.most c.fits
        r.client_room both.client

    other : Less Role.Server (p.server.clock + 10) k p.to_server r.server_acts p.server
    other = round_with_less Role.Server (p.server.clock + 10) (voice_of p.client) k m p.client.sent p.to_server r.server_acts p.server refl s.is (sym s.first) r.server_work s.row s.passed s.most s.fits
        r.server_room both.server

    of : Step → Step → Pair
    of one other = record { client = one.link; server = other.link; to_client = other.pdus; to_server = one.pdus }

    two : {a b d e : Step} → a ≡ b → d ≡ e → of a d ≡ of b e
    two e f = cc
