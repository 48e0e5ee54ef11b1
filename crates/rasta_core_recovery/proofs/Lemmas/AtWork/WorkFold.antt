-- A round at work at one end: what comes, what it says of its own, and its tick, one after another.
use Rattle.rasta_core_recovery.proofs.Words.Basics.{◌≡◌, ℕ, ◌+◌, ◌<◌, true, List, [], ◌∷◌, ◌++◌, sym, subst}
use Rattle.rasta_core_recovery.proofs.Words.Links.{LinkState, is_open, settled, Step, Role, Pdu, Each}
use Rattle.rasta_core_recovery.proofs.Lemmas.Rounds.Links.{heard}
use Rattle.rasta_core_recovery.proofs.Lemmas.Rounds.Acts.{Act, Hears, Beats, Asks, Gives, did, all_did, acted, all_brought, clock_acts, IsBefore, IsGift, IsWork, HasRoom, Roomy}
use Rattle.rasta_core_recovery.proofs.Lemmas.Rounds.Calls.{at_reading}
use Rattle.rasta_core_recovery.proofs.Lemmas.Rounds.Fold.{Out, Lively, Begins, late, on, begins}
use Rattle.rasta_core_recovery.proofs.Lemmas.Rounds.Own.{Utters, own_utters, Calm, ticked_calm, utters_calm, out_all}

-- after a step the end has left for some reason, or what is said of it holds of what is still to come
pub data Done (W G : Type 0) (now : ℕ) (Q : G → List Pdu → LinkState → Type 0) (O : G → LinkState → List Pdu → G → LinkState → Type 0) (g : G) (l : LinkState) (ps : List Pdu) (s : Step) : Type 0 where
  gone_done : W → Out now s.link → Done W G now Q O g l ps s
  so_done : (h : G) → Q h ps s.link → O g l s.pdus h s.link → Done W G now Q O g l ps s

module _ (W G : Type 0) (now : ℕ) (Q : G → List Pdu → LinkState → Type 0) (O : G → LinkState → List Pdu → G → LinkState → Type 0)
    (none : (g : G) (l : LinkState) → O g l [] g l)
    (both : (g h i : G) (l k j : LinkState) (ps qs : List Pdu) → O g l ps h k → O h k qs i j → O g l (ps ++ qs) i j)
    (lively : (g : G) (ps : List Pdu) (l : LinkState) → Q g ps l → Lively now l)
    (hear : (g : G) (p : Pdu) (ps : List Pdu) (l : LinkState) → Q g (p ∷ ps) l → HasRoom l → Done W G now Q O g l ps (heard now p l))
    (own : (g : G) (ps : List Pdu) (l k : LinkState) (qs : List Pdu) → Q g ps l → Utters l k qs → Q g ps k × O g l qs g k) where
  -- after all of it the end has spoken lately, too
  abbrev pub Ends : G → LinkState → Step → Type 0
  Ends g l s = Done W G now (λ h ps k. Q h ps k × Calm now k) O g l [] s

  then_ends : (g h : G) (l k : LinkState) (ps : List Pdu) (s : Step) → O g l ps h k → Ends h k s → Ends g l (record { link = s.link; pdus = ps ++ s.pdus })
  then_ends g h l k ps s o (gone_done why left) = gone_done why left
  then_ends g h l k ps s o (so_done i q more) = so_done i q (both g h i l k s.link ps s.pdus o more)

  gifts : (back : List Act) (g : G) (l : LinkState) → Each IsGift back → Q g [] l → Calm now l → Roomy now back l → Ends g l (all_did now back l)
  unfolding all_did
  gifts [] g l gift q calm room = so_done g (q, calm) (none g l)
  gifts (Hears p ∷ back) g l gift q calm room = absurd gift.0
  gifts (Beats ∷ back) g l gift q calm room = absurd gift.0
  gifts (Asks ∷ back) g l gift q calm room = absurd gift.0
  gifts (Gives item ∷ back) g l gift q calm room =
      let is = lively g [] l q in
      let u = own_utters now (Gives item) l tt is room.0 in
      let o = own g [] l (did now (Gives item) l).link (did now (Gives item) l).pdus q u in
      then_ends g g l (did now (Gives item) l).link (did now (Gives item) l).pdus (all_did now back (did now (Gives item) l).link) o.1
      (gifts back g (did now (Gives item) l).link gift.1 o.0 (utters_calm now l (did now (Gives item) l).link (did now (Gives item) l).pdus is.clock u calm) room.1)

  clocks : (who : Role) (back : List Act) (g : G) (l : LinkState) → Each IsGift back → Q g [] l → Roomy now (clock_acts who ++ back) l → Ends g l (all_did now (clock_acts who ++ back) l)
  unfolding all_did
  clocks Role.Server back g l gift q room =
      let is = lively g [] l q in
      let o = own g [] l (did now Beats l).link (did now Beats l).pdus q (own_utters now Beats l tt is room.0) in
      then_ends g g l (did now Beats l).link (did now Beats l).pdus (all_did now back (did now Beats l).link) o.1
      (gifts back g (did now Beats l).link gift o.0 (ticked_calm now l is room.0) room.1)
  clocks Role.Client back g l gift q room =
      let is = lively g [] l q in
      let k = (did now Beats l).link in
      let o = own g [] l k (did now Beats l).pdus q (own_utters now Beats l tt is room.0) in
      let then_is = lively g [] k o.0 in
      let u = own_utters now Asks k tt then_is room.1.0 in
      let a = own g [] k (did now Asks k).link (did now Asks k).pdus o.0 u in
      then_ends g g l k (did now Beats l).pdus (all_did now (Asks ∷ back) k) o.1
      (then_ends g g k (did now Asks k).link (did now Asks k).pdus (all_did now back (did now Asks k).link) a.1
      (gifts back g (did now Asks k).link gift a.0 (utters_calm now k (did now Asks k).link (did now Asks k).pdus then_is.clock u (ticked_calm now l is room.0)) room.1.1))

  fronts : (who : Role) (front back : List Act) (g : G) (l : LinkState) → Each IsBefore front → Each IsGift back → Q g (all_brought front) l → Roomy now (front ++ (clock_acts who ++ back)) l
      → Ends g l (all_did now (front ++ (clock_acts who ++ back)) l)
  unfolding all_did did
  fronts who [] back g l before gift q room = clocks who back g l gift q room
  fronts who (Beats ∷ front) back g l before gift q room = absurd before.0
  fronts who (Asks ∷ front) back g l before gift q room = absurd before.0
  fronts who (Gives item ∷ front) back g l before gift q room =
      let o = own g (all_brought front) l (did now (Gives item) l).link (did now (Gives item) l).pdus q (own_utters now (Gives item) l tt (lively g (all_brought front) l q) room.0) in
      then_ends g g l (did now (Gives item) l).link (did now (Gives item) l).pdus (all_did now (front ++ (clock_acts who ++ back)) (did now (Gives item) l).link) o.1
      (fronts who front back g (did now (Gives item) l).link before.1 gift o.0 room.1)
  fronts who (Hears p ∷ front) back g l before gift q room = choose (λ h then_q. fronts who front back h (heard now p l).link before.1 gift then_q room.1) (hear g p (all_brought front) l q room.0)
    where
      choose : ((h : G) → Q h (all_brought front) (heard now p l).link → Ends h (heard now p l).link (all_did now (front ++ (clock_acts who ++ back)) (heard now p l).link))
          → Done W G now Q O g l (all_brought front) (heard now p l) → Ends g l (all_did now (Hears p ∷ (front ++ (clock_acts who ++ back))) l)
      choose others (gone_done why left) = gone_done why (out_all now (front ++ (clock_acts who ++ back)) (heard now p l).link left)
      choose others (so_done h then_q o) = then_ends g h l (heard now p l).link (heard now p l).pdus (all_did now (front ++ (clock_acts who ++ back)) (heard now p l).link) o (others h then_q)

  -- what is done in the round
  pub works_through : (who : Role) (due : List Pdu) (acts : List Act) → IsWork who due acts → (g : G) (l : LinkState) → Q g due l → Roomy now acts l → Ends g l (all_did now acts l)
  works_through who due acts work g l q room = subst (λ (bs : List Act). Roomy now bs l → Ends g l (all_did now bs l)) (sym work.are)
      (fronts who work.front work.back g l work.before work.behind (subst (λ (ps : List Pdu). Q g ps l) (sym work.brings) q)) room

  -- and the whole of it
  pub round_through : (who : Role) (due : List Pdu) (acts : List Act) → IsWork who due acts → (g : G) (l : LinkState) → W → now ≡ l.clock + 10 → is_open l.phase ≡ true → l.clock < l.own_stamp + 1800
      → (now < l.own_stamp + 1800 → Q g due (at_reading now l)) → Roomy now acts (settled now l) → Ends g (at_reading now l) (acted now acts l)
  unfolding acted
  round_through who due acts work g l why at is_in young q room = choose (begins now l at is_in young)
    where
      choose : Begins now l → Ends g (at_reading now l) (all_did now acts (settled now l))
      choose (late left) = gone_done why (out_all now acts (settled now l) left)
      choose (on e then_young) = subst (λ (k : LinkState). Roomy now acts k → Ends g (at_reading now l) (all_did now acts k)) (sym e) (works_through who due acts work g (at_reading now l) (q then_young)) room
