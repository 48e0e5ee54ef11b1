-- Two ends at work in a connection: they are ready soon, or one of them leaves it early, or time is over for both at once.
use Rattle.rasta_core_recovery.proofs.Words.Basics.{◌≡◌, ℕ, zero, suc, ◌⊎◌, inl, inr, ◌∙◌, ◌+◌, ◌*◌, ◌-◌, ◌≤◌, ◌<◌, Bool, true, false, nat_le, List, [], refl, sym, ap, subst, arith, leb-true, leb-false}
use Rattle.rasta_core_recovery.proofs.Words.Links.{LinkState, is_open, settled, Step, silent, Names}
use Rattle.rasta_core_recovery.proofs.Lemmas.Rounds.Links.{Pair}
use Rattle.rasta_core_recovery.proofs.Lemmas.Rounds.Acts.{Act, acted, WorkRound, client_step, behind}
use Rattle.rasta_core_recovery.proofs.Lemmas.Rounds.Fold.{Out, Begins, late, on, begins}
use Rattle.rasta_core_recovery.proofs.Lemmas.Rounds.Own.{quiet_all, out_all}
use Rattle.rasta_core_recovery.proofs.Lemmas.Rounds.Course.{Joined}
use Rattle.rasta_core_recovery.proofs.Lemmas.Rounds.Turn.{Either, gone, so}
use Rattle.rasta_core_recovery.proofs.Lemmas.ComingUp.Seen.{BothIn}
use Rattle.rasta_core_recovery.proofs.Lemmas.ComingUp.Converse.{Talk}
use Rattle.rasta_core_recovery.proofs.Lemmas.AtWork.WorkTalk.{client_joined, server_joined}
use Rattle.rasta_core_recovery.proofs.Lemmas.AtWork.WorkRun.{Sound, Run, Rounds, shifted}
use Rattle.rasta_core_recovery.proofs.Lemmas.AtWork.WorkFates.{Soon, client_rests_on, opens_quickly, out_comes, left_alone, server_clock_on}
use Rattle.rasta_core_recovery.proofs.Lemmas.AtWork.WorkEarly.{HaleOrOld, hale_soon, ever_old, server_is, server_time, early_hale}

-- an end whose time is over in a round says nothing in it, and is outside after it
pub late_at_work : (now : ℕ) (acts : List Act) (l : LinkState) → is_open l.phase ≡ true → l.clock < l.own_stamp + 1800 → now ≡ l.clock + 10 → l.own_stamp + 1800 ≤ now → Out now (acted now acts l).link × ((acted now acts l).pdus ≡ [])
unfolding acted
late_at_work now acts l is_in young at over = choose (begins now l at is_in young)
  where
    choose : Begins now l → Out now (acted now acts l).link × ((acted now acts l).pdus ≡ [])
    choose (late left) = (out_all now acts (settled now l) left, ap (λ (s : Step). s.pdus) (quiet_all now acts (settled now l) left.is_out left.quiet left.clock))
    choose (on e young) = absurd (omega (arith, young, over))

-- two that left in the last two rounds
pub both_left : (names : Names) (n : ℕ) (p z : Pair) → 602 ≤ n → Sound names p → Run names n p z → is_open p.client.phase ≡ false → is_open p.server.phase ≡ false → p.client.clock < p.client.closed_at + 20 → p.server.clock < p.server.closed_at + 20 → Soon names z
both_left names n p z most sound run client_out server_out lately server_lately =
    opens_quickly names 599 n 598 p z most sound run client_out server_out (inr (omega (arith, server_lately))) (omega (arith, lately)) (omega (arith, sound.server_past.closed server_out)) (omega (arith, sound.client_past.closed client_out))

module _ (names : Names) (n : ℕ) (z : Pair) (at : ℕ → Pair) (rounds : Rounds names n z at) where
  client_on : (k : ℕ) (lt : k < n) → Joined (at k).client.clock (at k).client → Either ((at k).client.clock + 10) (at (suc k)).client (Joined (at (suc k)).client.clock (at (suc k)).client)
  client_on k lt j = let r = rounds.round k lt in subst (λ (q : Pair). Either ((at k).client.clock + 10) q.client (Joined q.client.clock q.client)) (sym r.1) (client_joined (at k) r.0 j)

  server_on : (k : ℕ) (lt : k < n) → Joined (at k).server.clock (at k).server → Either ((at k).server.clock + 10) (at (suc k)).server (Joined (at (suc k)).server.clock (at (suc k)).server)
  server_on k lt j = let r = rounds.round k lt in subst (λ (q : Pair). Either ((at k).server.clock + 10) q.server (Joined q.server.clock q.server)) (sym r.1) (server_joined (at k) r.0 j)

  -- ---- while both stay

  -- both are inside up to this round, and from the first one on the client has joined
  pub record Stays (m : ℕ) : Type 0 where
    pub both : (k : ℕ) → k ≤ m → BothIn (at k)
    pub joined : (k : ℕ) → 1 ≤ k → k ≤ m → Joined (at k).client.clock (at k).client

  -- what is so of each round before, and of the one after them
  for_all : (P : ℕ → Type 0) (m : ℕ) → ((k : ℕ) → k ≤ m → P k) → P (suc m) → (k : ℕ) → k ≤ suc m → P k
  for_all P m before last k most = pick (nat_le (suc m) k) refl
    where
      pick : (b : Bool) → nat_le (suc m) k ≡ b → P k
      pick true e = subst P (omega (arith, most, leb-true _ _ e)) last
      pick false e = before k (omega (arith, leb-false _ _ e))

  pub stays_first : BothIn (at 0) → Joined (at 1).client.clock (at 1).client → is_open (at 1).server.phase ≡ true → Stays 1
  stays_first now_in j e = record {
    both = for_all (λ (k : ℕ). BothIn (at k)) 0 (λ k most. subst (λ (i : ℕ). BothIn (at i)) (omega (arith, most)) now_in) (record { client = j.connected; server = e });
    joined = λ k some most. for_all (λ (i : ℕ). 1 ≤ i → Joined (at i).client.clock (at i).client) 0 (λ i le one. absurd (omega (arith, le, one))) (λ one. j) k most some;
  }

  stays_on : (m : ℕ) → Stays m → Joined (at (suc m)).client.clock (at (suc m)).client → is_open (at (suc m)).server.phase ≡ true → Stays (suc m)
  stays_on m s j e = record {
    both = for_all (λ (k : ℕ). BothIn (at k)) m s.both (record { client = j.connected; server = e });
    joined = λ k some most. for_all (λ (i : ℕ). 1 ≤ i → Joined (at i).client.clock (at i).client) m (λ i le one. s.joined i one le) (λ one. j) k most some;
  }

  -- the client, or its server, leaves in a round, or both stay
  pub stays_or_comes : (m : ℕ) (lt : m < n) → suc m + 1382 ≤ n → Joined (at m).client.clock (at m).client → Soon names z ⊎ (Joined (at (suc m)).client.clock (at (suc m)).client × (is_open (at (suc m)).server.phase ≡ true))
  stays_or_comes m lt most j = choose (client_on m lt j)
    where
      by_server : Joined (at (suc m)).client.clock (at (suc m)).client → (b : Bool) → is_open (at (suc m)).server.phase ≡ b → Soon names z ⊎ (Joined (at (suc m)).client.clock (at (suc m)).client × (is_open (at (suc m)).server.phase ≡ true))
      by_server k false e = inl (left_alone names (n - suc m) (at (suc m)) z (omega (arith, most)) (rounds.sound (suc m) lt) (rounds.rest (suc m) lt) k e)
      by_server k true e = inr (k, e)

      choose : Either ((at m).client.clock + 10) (at (suc m)).client (Joined (at (suc m)).client.clock (at (suc m)).client) → Soon names z ⊎ (Joined (at (suc m)).client.clock (at (suc m)).client × (is_open (at (suc m)).server.phase ≡ true))
      choose (gone left) = inl (out_comes names (n - suc m) (at (suc m)) z (omega (arith, most)) (rounds.sound (suc m) lt) (rounds.rest (suc m) lt) left.is_out)
      choose (so k) = by_server k (is_open (at (suc m)).server.phase) refl

  pub search : (fuel m : ℕ) → m + fuel + 1382 ≤ n → 1 ≤ m → Stays m → Soon names z ⊎ Stays (m + fuel)
  search zero m most some s = inr (subst Stays (omega arith) s)
  search (suc fuel) m most some s = choose (λ t. search fuel (suc m) (omega (arith, most)) (omega arith) t) (stays_or_comes m (omega (arith, most)) (omega (arith, most)) (s.joined m some (omega arith)))
    where
      choose : (Stays (suc m) → Soon names z ⊎ Stays (suc m + fuel)) → Soon names z ⊎ (Joined (at (suc m)).client.clock (at (suc m)).client × (is_open (at (suc m)).server.phase ≡ true)) → Soon names z ⊎ Stays (m + suc fuel)
      choose again (inl h) = inl h
      choose again (inr (j, e)) = subst (λ (k : ℕ). Soon names z ⊎ Stays k) (omega arith) (again (stays_on m s j e))

  -- ---- and then time is over for the server, and where the client left first it isn't quiet any more as the client asks

  server_late : (k : ℕ) (lt : k < n) → is_open (at k).server.phase ≡ true → (at k).server.own_stamp + 1800 ≤ (at k).server.clock + 10 → Out ((at k).server.clock + 10) (at (suc k)).server
  server_late k lt e over = let r = rounds.round k lt in let j = server_is names n z at rounds k (omega (arith, lt)) e in subst (λ (q : Pair). Out ((at k).server.clock + 10) q.server) (sym r.1)
      (late_at_work ((at k).server.clock + 10) r.0.server_acts (at k).server j.connected j.young refl over).0

  server_left : (k : ℕ) (lt : k < n) → is_open (at k).server.phase ≡ true → is_open (at (suc k)).server.phase ≡ false → Out ((at k).server.clock + 10) (at (suc k)).server
  server_left k lt e out = choose (server_on k lt (server_is names n z at rounds k (omega (arith, lt)) e))
    where
      choose : Either ((at k).server.clock + 10) (at (suc k)).server (Joined (at (suc k)).server.clock (at (suc k)).server) → Out ((at k).server.clock + 10) (at (suc k)).server
      choose (gone left) = left
      choose (so j) = absurd (cc (j.connected, out))

  -- Both have stayed for so many rounds, and the server knows no own stamp that is younger than this reading.
  module _ (m reading : ℕ) (long : m + 1382 ≤ n) (some : 1 ≤ m) (s : Stays m) (over : reading + 1780 ≤ (at 0).server.clock + 10 * m)
      (early : (k : ℕ) → m ≤ k → k ≤ suc m → Stays k → HaleOrOld names z (at k) (at (suc k)) reading) where
    lt : m < n
    lt = omega (arith, long)

    then_lt : suc m < n
    then_lt = omega (arith, long)

    -- the clock of the server, which goes on
    server_next : is_open (at (suc m)).server.phase ≡ true → (at (suc m)).server.clock ≡ (at 0).server.clock + 10 * suc m
    server_next e = omega (arith, server_time names n z at rounds m (omega (arith, long)) s.both m (omega arith), ap (λ (q : Pair). q.server.clock) r.1, clock)
      where
        r : (r : WorkRound (at m)) × (at (suc m) ≡ behind (at m) r)
        r = rounds.round m lt

        clock : (behind (at m) r.0).server.clock ≡ (at m).server.clock + 10
        clock = server_clock_on (at m) r.0 (server_is names n z at rounds m (omega (arith, long)) (s.both m (omega arith)).server) (subst (λ (q : Pair). is_open q.server.phase ≡ true) r.1 e)

    both_out : (k : ℕ) (le : k ≤ n) → k + 602 ≤ n → is_open (at k).client.phase ≡ false → is_open (at k).server.phase ≡ false → (at k).client.clock < (at k).client.closed_at + 20 → (at k).server.clock < (at k).server.closed_at + 20 → Soon names z
    both_out k le most client_out server_out lately server_lately = both_left names (n - k) (at k) z (omega (arith, most)) (rounds.sound k le) (rounds.rest k le) client_out server_out lately server_lately

    -- the client has left, and its server leaves a round later at the latest
    client_first : (is_open (at (suc m)).server.phase ≡ true → (at (suc m)).server.own_stamp ≤ reading) → Out ((at m).client.clock + 10) (at (suc m)).client → (b : Bool) → is_open (at (suc m)).server.phase ≡ b → Soon names z
    client_first old left false e = let out = server_left m lt (s.both m (omega arith)).server e in
        both_out (suc m) (omega (arith, long)) (omega (arith, long)) left.is_out e (omega (arith, left.clock, left.lately)) (omega (arith, out.clock, out.lately))
    client_first old left true e =
        both_out (suc (suc m)) then_lt (omega (arith, long)) (ap (λ (q : Pair). is_open q.client.phase) r.1 ∙ ap (λ (t : Step). is_open t.link.phase) rests ∙ left.is_out) out.is_out
        (omega (arith, left.clock, left.lately, ap (λ (q : Pair). q.client.clock) r.1, ap (λ (q : Pair). q.client.closed_at) r.1, ap (λ (t : Step). t.link.clock) rests, ap (λ (t : Step). t.link.closed_at) rests))
        (omega (arith, out.clock, out.lately))
      where
        r : (r : WorkRound (at (suc m))) × (at (suc (suc m)) ≡ behind (at (suc m)) r)
        r = rounds.round (suc m) then_lt

        out : Out ((at (suc m)).server.clock + 10) (at (suc (suc m))).server
        out = server_late (suc m) then_lt e (omega (arith, old e, server_next e, over))

        rests : client_step (at (suc m)) r.0 ≡ silent (record (at (suc m)).client { clock = (at (suc m)).client.clock + 10 })
        rests = client_rests_on (at (suc m)) r.0 left.is_out (omega (arith, left.clock, left.lately))

    -- both stay for a round more, and then the server leaves
    server_first : Out ((at (suc m)).server.clock + 10) (at (suc (suc m))).server → Either ((at (suc m)).client.clock + 10) (at (suc (suc m))).client (Joined (at (suc (suc m))).client.clock (at (suc (suc m))).client) → Soon names z
    server_first out (gone left) = both_out (suc (suc m)) then_lt (omega (arith, long)) left.is_out out.is_out (omega (arith, left.clock, left.lately)) (omega (arith, out.clock, out.lately))
    server_first out (so j) = left_alone names (n - suc (suc m)) (at (suc (suc m))) z (omega (arith, long)) (rounds.sound (suc (suc m)) then_lt) (rounds.rest (suc (suc m)) then_lt) j out.is_out

    both_last : (more : Stays (suc m)) → HaleOrOld names z (at (suc m)) (at (suc (suc m))) reading → Soon names z
    both_last more (hale_soon h) = h
    both_last more (ever_old d then_d) = let e = (more.both (suc m) (omega arith)).server in
        server_first (server_late (suc m) then_lt e (omega (arith, d, server_next e, over))) (client_on (suc m) then_lt (more.joined (suc m) (omega arith) (omega arith)))

    pub stays_comes : Soon names z
    stays_comes = choose (early m (omega arith) (omega arith) s)
      where
        both_stay : (b : Bool) → is_open (at (suc m)).server.phase ≡ b → Joined (at (suc m)).client.clock (at (suc m)).client → Soon names z
        both_stay false e j = left_alone names (n - suc m) (at (suc m)) z (omega (arith, long)) (rounds.sound (suc m) lt) (rounds.rest (suc m) lt) j e
        both_stay true e j = let more = stays_on m s j e in both_last more (early (suc m) (omega arith) (omega arith) more)

        choose : HaleOrOld names z (at m) (at (suc m)) reading → Soon names z
        choose (hale_soon h) = h
        choose (ever_old d then_d) = follow (client_on m lt (s.joined m some (omega arith)))
          where
            follow : Either ((at m).client.clock + 10) (at (suc m)).client (Joined (at (suc m)).client.clock (at (suc m)).client) → Soon names z
            follow (gone left) = client_first then_d left (is_open (at (suc m)).server.phase) refl
            follow (so j) = both_stay (is_open (at (suc m)).server.phase) refl j

  -- ---- from the first round on

  -- where it is known after the first round what is under way
  talked_early : 1486 ≤ n → Talk names (at 1).client.clock (at 0).server.clock false false (at 1) → (l : ℕ) → 68 ≤ l → l ≤ 1000 → suc l < n → Stays (suc l) → HaleOrOld names z (at (suc l)) (at (suc (suc l))) (at 0).server.clock
  talked_early rest talk l long short most s = early_hale names (n - 1) z (λ k. at (suc k)) (shifted names n z at (omega (arith, rest)) rounds) l (omega (arith, most)) short
      (record { both = λ k le. s.both (suc k) (omega (arith, le)); joined = λ k le. s.joined (suc k) (omega arith) (omega (arith, le)) }) (at 0).server.clock
      (omega (arith, server_time names n z at rounds (suc l) (omega (arith, most)) s.both 1 (omega arith))) long (omega (arith, rest)) talk

  pub first_comes : 1560 ≤ n → Stays 1 → Talk names (at 1).client.clock (at 0).server.clock false false (at 1) → Soon names z
  first_comes long s talk = choose (search 177 1 (omega (arith, long)) (omega arith) s)
    where
      early : (k : ℕ) → 178 ≤ k → k ≤ 179 → Stays k → HaleOrOld names z (at k) (at (suc k)) (at 0).server.clock
      early k least most t = subst (λ (i : ℕ). HaleOrOld names z (at i) (at (suc i)) (at 0).server.clock) same
          (talked_early (omega (arith, long)) talk (k - 1) (omega (arith, least)) (omega (arith, most)) (omega (arith, least, most, long)) (subst Stays (sym same) t))
        where
          same : suc (k - 1) ≡ k
          same = omega (arith, least)

      choose : Soon names z ⊎ Stays 178 → Soon names z
      choose (inl h) = h
      choose (inr stay) = stays_comes 178 (at 0).server.clock (omega (arith, long)) (omega arith) stay (omega arith) early
