-- Two ends at work of which one is outside, or that take what the other says: they are up after so many rounds.
use Rattle.rasta_core_recovery.proofs.Words.Basics.{◌≡◌, ℕ, zero, suc, ◌⊎◌, inl, inr, ◌∙◌, ◌+◌, ◌*◌, ◌-◌, ◌^◌, ◌≤◌, ◌<◌, Bool, true, false, nat_le, List, [], ◌∷◌, refl, sym, ap, subst, arith, leb-true, leb-false}
use Rattle.rasta_core_recovery.proofs.Words.Links.{wire, LinkState, is_open, is_up, settled, Step, silent, Role, Names}
use Rattle.rasta_core_recovery.proofs.Lemmas.Rounds.Links.{Pair}
use Rattle.rasta_core_recovery.proofs.Lemmas.Rounds.Acts.{Act, acted, all_did, WorkRound, client_step, server_step, behind}
use Rattle.rasta_core_recovery.proofs.Lemmas.Rounds.Calls.{at_reading}
use Rattle.rasta_core_recovery.proofs.Lemmas.ComingUp.Opens.{resting_link, asking_link, request, granted_link, response}
use Rattle.rasta_core_recovery.proofs.Lemmas.ComingUp.Stays.{left_of, out_is, settled_out}
use Rattle.rasta_core_recovery.proofs.Lemmas.Rounds.Fold.{Out, Begins, late, on, begins}
use Rattle.rasta_core_recovery.proofs.Lemmas.Rounds.Own.{quiet_all, out_all}
use Rattle.rasta_core_recovery.proofs.Lemmas.Rounds.Course.{Joined}
use Rattle.rasta_core_recovery.proofs.Lemmas.Rounds.Turn.{Either, gone, so, Numbers}
use Rattle.rasta_core_recovery.proofs.Lemmas.Asking.Asks.{Asks}
use Rattle.rasta_core_recovery.proofs.Lemmas.Rounds.Facts.{Facts}
use Rattle.rasta_core_recovery.proofs.Lemmas.ComingUp.Seen.{BothIn}
use Rattle.rasta_core_recovery.proofs.Lemmas.ComingUp.Converse.{Talk}
use Rattle.rasta_core_recovery.proofs.Lemmas.ComingUp.Fates.{both_rest}
use Rattle.rasta_core_recovery.proofs.Lemmas.AtWork.WorkOpens.{server_rests_at_work, client_opens_at_work, client_waits_at_work, server_grants_at_work}
use Rattle.rasta_core_recovery.proofs.Lemmas.AtWork.WorkAsks.{asks_on}
use Rattle.rasta_core_recovery.proofs.Lemmas.AtWork.WorkTalk.{GoesAtWork, still_in, client_numbers, server_numbers, client_joined, talks_at_work}
use Rattle.rasta_core_recovery.proofs.Lemmas.AtWork.WorkNew.{Is, client_acted, server_acted, then_is, client_work_of, server_work_of, JoinedBy, joins_then, hale_now, joined_keeps}
use Rattle.rasta_core_recovery.proofs.Lemmas.AtWork.WorkRun.{Sound, Run}
use Rattle.rasta_core_recovery.proofs.Lemmas.ComingUp.Hale.{Closely, Hale, Keeps, hale_keeps, hale_up, hale_on, Waiting, waiting_on, waiting_begins, hale_then, Calmly, calmly_then, Simply, simply_then, closely_then}

-- they are ready, or the client has just joined, of which its server hears in the next round
pub data Soon (names : Names) (p : Pair) : Type 0 where
  is_hale : Hale names p → Soon names p
  has_joined : (client_closed server_closed cf sf at grant : ℕ) (fits : cf < 2 ^ 32) (server_fits : sf < 2 ^ 32) (j : JoinedBy names client_closed server_closed cf sf at grant fits server_fits p) → j.now ≡ at + 20 → Soon names p

-- so they are ready in the next round
pub soon_on : (names : Names) (p : Pair) (r : WorkRound p) → Soon names p → Hale names (behind p r)
soon_on names p r (is_hale h) = hale_on names p r h
soon_on names p r (has_joined client_closed server_closed cf sf at grant fits server_fits j soon) = hale_now names client_closed server_closed cf sf at grant fits server_fits p j r (omega (arith, soon)) soon

-- and the round keeps what both have
pub soon_keeps : (names : Names) (p : Pair) (r : WorkRound p) → Soon names p → Keeps p r
soon_keeps names p r (is_hale h) = hale_keeps names p r h
soon_keeps names p r (has_joined client_closed server_closed cf sf at grant fits server_fits j soon) = joined_keeps names client_closed server_closed cf sf at grant fits server_fits p j r (omega (arith, soon))

-- the client is up
pub soon_up : (names : Names) (p : Pair) → Soon names p → is_up p.client.phase ≡ true
soon_up names p (is_hale h) = (hale_up names p h).0
soon_up names p (has_joined client_closed server_closed cf sf at grant fits server_fits j soon) = ap (λ (l : LinkState). is_up l.phase) j.tells.same

-- health is kept
pub hale_for : (names : Names) (n : ℕ) (p z : Pair) → Run names n p z → Hale names p → Hale names z
hale_for names zero p z run h = subst (Hale names) run h
hale_for names (suc n) p z run h = hale_for names n (behind p run.0) z run.2 (hale_on names p run.0 h)

-- ---- both are outside, the client quiet no longer in the next round

-- an end outside that is quiet
pub quiet_step : (now : ℕ) (acts : List Act) (l : LinkState) → is_open l.phase ≡ false → now < l.closed_at + 6000 → acted now acts l ≡ silent (record l { clock = now })
unfolding acted
quiet_step now acts l out quiet = ap (all_did now acts) (settled_out now l out) ∙ quiet_all now acts (record l { clock = now }) out quiet refl

-- the parts of two that rest
rest_is : (names : Names) (p : Pair) → Facts names p → is_open p.client.phase ≡ false → p.client.closed_at + 6000 ≤ p.client.clock + 10
    → Is p (resting_link names Role.Client p.client.clock p.client.closed_at (left_of p.client)) (resting_link names Role.Server p.server.clock p.server.closed_at (left_of p.server)) [] []
rest_is names p facts out over = let e = both_rest names p facts out over in record { client = ap (λ (q : Pair). q.client) e; server = ap (λ (q : Pair). q.server) e; to_client = ap (λ (q : Pair). q.to_client) e; to_server = ap (λ (q : Pair). q.to_server) e }

module _ (names : Names) (p : Pair) (over : p.client.closed_at + 6000 ≤ p.client.clock + 10)
    (i : Is p (resting_link names Role.Client p.client.clock p.client.closed_at (left_of p.client)) (resting_link names Role.Server p.server.clock p.server.closed_at (left_of p.server)) [] []) where
  abbrev cf : ℕ
  cf = wire p.client.own_first p.client.sent

  abbrev sf : ℕ
  sf = wire p.server.own_first p.server.sent

  abbrev at : ℕ
  at = p.client.clock + 10

  abbrev grant : ℕ
  grant = p.server.clock + 10 + 10

  fits : cf < 2 ^ 32
  fits = omega arith

  server_fits : sf < 2 ^ 32
  server_fits = omega arith

  opened : (r : WorkRound p) → Is (behind p r) (asking_link names at p.client.closed_at cf at) (resting_link names Role.Server (p.server.clock + 10) p.server.closed_at (left_of p.server)) [] (request names cf at ∷ [])
  opened r = then_is p r _ _
      (client_acted p r _ i.client ∙ client_opens_at_work names at p.client.clock p.client.closed_at (left_of p.client) r.client_acts over (client_work_of p r [] i.to_client))
      (server_acted p r _ i.server ∙ server_rests_at_work names (p.server.clock + 10) p.server.clock p.server.closed_at (left_of p.server) r.server_acts (server_work_of p r [] i.to_server))

  -- the server takes the request
  granted : (r1 : WorkRound p) (r2 : WorkRound (behind p r1)) → p.server.closed_at + 6000 ≤ grant
      → Is (behind (behind p r1) r2) (asking_link names (at + 10) p.client.closed_at cf at) (granted_link names grant p.server.closed_at sf (request names cf at) grant) (response names sf (request names cf at) grant ∷ []) []
  granted r1 r2 server_over = let o = opened r1 in then_is (behind p r1) r2 _ _
      (client_acted (behind p r1) r2 _ o.client ∙ client_waits_at_work names (at + 10) p.client.closed_at cf at at r2.client_acts (omega arith) (client_work_of (behind p r1) r2 [] o.to_client))
      (server_acted (behind p r1) r2 _ o.server ∙ server_grants_at_work names grant (p.server.clock + 10) p.server.closed_at cf at (left_of p.server) r2.server_acts server_over (server_work_of (behind p r1) r2 _ o.to_server))

  -- or refuses it
  refused : (r1 : WorkRound p) (r2 : WorkRound (behind p r1)) → grant < p.server.closed_at + 6000
      → Is (behind (behind p r1) r2) (asking_link names (at + 10) p.client.closed_at cf at) (resting_link names Role.Server grant p.server.closed_at (left_of p.server)) [] []
  refused r1 r2 quiet = let o = opened r1 in then_is (behind p r1) r2 _ _
      (client_acted (behind p r1) r2 _ o.client ∙ client_waits_at_work names (at + 10) p.client.closed_at cf at at r2.client_acts (omega arith) (client_work_of (behind p r1) r2 [] o.to_client))
      (server_acted (behind p r1) r2 _ o.server ∙ quiet_step grant r2.server_acts (resting_link names Role.Server (p.server.clock + 10) p.server.closed_at (left_of p.server)) refl quiet)

  joined_then : (r1 : WorkRound p) (r2 : WorkRound (behind p r1)) (r3 : WorkRound (behind (behind p r1) r2)) → p.server.closed_at + 6000 ≤ grant
      → (j : JoinedBy names p.client.closed_at p.server.closed_at cf sf at grant fits server_fits (behind (behind (behind p r1) r2) r3)) × (j.now ≡ at + 10 + 10)
  joined_then r1 r2 r3 server_over = joins_then names p.client.closed_at p.server.closed_at cf sf at grant fits server_fits (at + 10) (omega arith) (omega arith) (behind (behind p r1) r2) r3 (granted r1 r2 server_over)

  soon_in_three : (n : ℕ) (z : Pair) → 3 ≤ n → Run names n p z → p.server.closed_at + 6000 ≤ grant → Soon names z
  soon_in_three zero z most run server_over = absurd (omega (arith, most))
  soon_in_three (suc zero) z most run server_over = absurd (omega (arith, most))
  soon_in_three (suc (suc zero)) z most run server_over = absurd (omega (arith, most))
  soon_in_three (suc (suc (suc zero))) z most (r1, s1, (r2, s2, (r3, s3, run))) server_over =
      subst (Soon names) run (has_joined p.client.closed_at p.server.closed_at cf sf at grant fits server_fits (joined_then r1 r2 r3 server_over).0 (omega (arith, (joined_then r1 r2 r3 server_over).1)))
  soon_in_three (suc (suc (suc (suc n)))) z most (r1, s1, (r2, s2, (r3, s3, (r4, s4, run)))) server_over =
      is_hale (hale_for names n _ z run (hale_now names p.client.closed_at p.server.closed_at cf sf at grant fits server_fits _ (joined_then r1 r2 r3 server_over).0 r4 (omega (arith, (joined_then r1 r2 r3 server_over).1)) (omega (arith, (joined_then r1 r2 r3 server_over).1))))

-- both are ready
ready_soon : (names : Names) (n : ℕ) (p z : Pair) → 3 ≤ n → Sound names p → Run names n p z → is_open p.client.phase ≡ false → p.client.closed_at + 6000 ≤ p.client.clock + 10 → p.server.closed_at + 6000 ≤ p.server.clock + 20 → Soon names z
ready_soon names n p z most sound run out over server_over = soon_in_three names p over (rest_is names p sound.facts out over) n z most run (omega (arith, server_over))

-- ---- a client that is outside, whose server left before it

pub server_rests_on : (names : Names) (p : Pair) (r : WorkRound p) → Facts names p → is_open p.server.phase ≡ false → (p.to_server ≡ []) ⊎ (p.server.clock + 10 < p.server.closed_at + 6000) → server_step p r ≡ silent (record p.server { clock = p.server.clock + 10 })
server_rests_on names p r facts out (inr quiet) = quiet_step (p.server.clock + 10) r.server_acts p.server out quiet
server_rests_on names p r facts out (inl none) = server_acted p r resting same
    ∙ server_rests_at_work names (p.server.clock + 10) p.server.clock p.server.closed_at (left_of p.server) r.server_acts (server_work_of p r [] none)
    ∙ sym (ap (λ (l : LinkState). silent (record l { clock = p.server.clock + 10 })) same)
  where
    resting : LinkState
    resting = resting_link names Role.Server p.server.clock p.server.closed_at (left_of p.server)

    same : p.server ≡ resting
    same = out_is names Role.Server p.server facts.server out

pub client_rests_on : (p : Pair) (r : WorkRound p) → is_open p.client.phase ≡ false → p.client.clock + 10 < p.client.closed_at + 6000 → client_step p r ≡ silent (record p.client { clock = p.client.clock + 10 })
client_rests_on p r out quiet = quiet_step (p.client.clock + 10) r.client_acts p.client out quiet

pub opens_quickly : (names : Names) (fuel n j : ℕ) (p z : Pair) → fuel + 3 ≤ n → Sound names p → Run names n p z → is_open p.client.phase ≡ false → is_open p.server.phase ≡ false → (p.to_server ≡ []) ⊎ (p.server.clock + 10 < p.server.closed_at + 6000)
    → p.client.clock + 10 * j < p.client.closed_at + 6000 → p.server.closed_at + 6000 ≤ p.server.clock + 20 + 10 * j → p.client.closed_at + 6000 ≤ p.client.clock + 10 + 10 * fuel → Soon names z
opens_quickly names zero n j p z most sound run out server_out rests_or quiet before over = ready_soon names n p z (omega (arith, most)) sound run out (omega (arith, over)) (omega (arith, over, quiet, before))
opens_quickly names (suc fuel) zero j p z most sound run out server_out rests_or quiet before over = absurd (omega (arith, most))
opens_quickly names (suc fuel) (suc n) j p z most sound run out server_out rests_or quiet before over = choose (λ a b c d e f g. opens_quickly names fuel n (j - 1) (behind p run.0) z a run.1 run.2 b c d e f g) (nat_le (p.client.closed_at + 6000) (p.client.clock + 10)) refl
  where
    Again : Type 0
    Again = fuel + 3 ≤ n → is_open (behind p run.0).client.phase ≡ false → is_open (behind p run.0).server.phase ≡ false → ((behind p run.0).to_server ≡ []) ⊎ ((behind p run.0).server.clock + 10 < (behind p run.0).server.closed_at + 6000)
        → (behind p run.0).client.clock + 10 * (j - 1) < (behind p run.0).client.closed_at + 6000 → (behind p run.0).server.closed_at + 6000 ≤ (behind p run.0).server.clock + 20 + 10 * (j - 1)
        → (behind p run.0).client.closed_at + 6000 ≤ (behind p run.0).client.clock + 10 + 10 * fuel → Soon names z

    choose : Again → (b : Bool) → nat_le (p.client.closed_at + 6000) (p.client.clock + 10) ≡ b → Soon names z
    choose again true e = let g = leb-true _ _ e in ready_soon names (suc n) p z (omega (arith, most)) sound run out g (omega (arith, g, quiet, before))
    choose again false e =
        let still = leb-false _ _ e in
        let c = client_rests_on p run.0 out still in let s = server_rests_on names p run.0 sound.facts server_out rests_or in
        let cc1 = ap (λ (t : Step). t.link.clock) c in let cc2 = ap (λ (t : Step). t.link.closed_at) c in let ss1 = ap (λ (t : Step). t.link.clock) s in let ss2 = ap (λ (t : Step). t.link.closed_at) s in
        again (omega (arith, most)) (ap (λ (t : Step). is_open t.link.phase) c ∙ out) (ap (λ (t : Step). is_open t.link.phase) s ∙ server_out) (inl (ap (λ (t : Step). t.pdus) c))
        (omega (arith, quiet, still, cc1, cc2)) (omega (arith, before, ss1, ss2)) (omega (arith, over, cc1, cc2))

-- ---- a client that asks a server that is outside, in vain

record Lonely (p : Pair) : Type 0 where
  asks : Asks p.client.clock p.client
  to_client : p.to_client ≡ []
  to_server : p.to_server ≡ []
  server : is_open p.server.phase ≡ false
  since : p.server.closed_at ≤ p.server.clock

asks_in_vain : (names : Names) (fuel n : ℕ) (p z : Pair) → fuel + 602 ≤ n → Sound names p → Run names n p z → Lonely p → p.client.own_stamp + 1800 ≤ p.client.clock + 10 * fuel → Soon names z
asks_in_vain names zero n p z most sound run lonely over = let y = lonely.asks.young in absurd (omega (arith, y, over))
asks_in_vain names (suc fuel) zero p z most sound run lonely over = absurd (omega (arith, most))
asks_in_vain names (suc fuel) (suc n) p z most sound run lonely over = choose (λ a l o. asks_in_vain names fuel n (behind p run.0) z a run.1 run.2 l o)
    (asks_on (p.client.clock + 10) run.0.client_acts p.client (client_work_of p run.0 [] lonely.to_client) lonely.asks refl run.0.client_room)
  where
    s : server_step p run.0 ≡ silent (record p.server { clock = p.server.clock + 10 })
    s = server_rests_on names p run.0 sound.facts lonely.server (inl lonely.to_server)

    ss1 : (server_step p run.0).link.clock ≡ p.server.clock + 10
    ss1 = ap (λ (t : Step). t.link.clock) s

    ss2 : (server_step p run.0).link.closed_at ≡ p.server.closed_at
    ss2 = ap (λ (t : Step). t.link.closed_at) s

    server_out : is_open (behind p run.0).server.phase ≡ false
    server_out = ap (λ (t : Step). is_open t.link.phase) s ∙ lonely.server

    Again : Type 0
    Again = fuel + 602 ≤ n → Lonely (behind p run.0) → (behind p run.0).client.own_stamp + 1800 ≤ (behind p run.0).client.clock + 10 * fuel → Soon names z

    -- it is outside since now, and its server was so before
    left_then : Out (p.client.clock + 10) (client_step p run.0).link → (client_step p run.0).pdus ≡ [] → Soon names z
    left_then left none = opens_quickly names 599 n 599 (behind p run.0) z (omega (arith, most)) run.1 run.2 left.is_out server_out (inl none)
        (omega (arith, left.lately, left.clock)) (omega (arith, ss1, ss2, lonely.since)) (omega (arith, run.1.client_past.closed left.is_out))

    choose : Again → (Out (p.client.clock + 10) (client_step p run.0).link × ((client_step p run.0).pdus ≡ [])) ⊎ ((client_step p run.0 ≡ silent (at_reading (p.client.clock + 10) p.client)) × Asks (p.client.clock + 10) (at_reading (p.client.clock + 10) p.client))
        → Soon names z
    choose again (inl (left, none)) = left_then left none
    choose again (inr (c, asks)) = again (omega (arith, most)) (record {
      asks = subst (λ (t : Step). Asks t.link.clock t.link) (sym c) asks;
      to_client = ap (λ (t : Step). t.pdus) s;
      to_server = ap (λ (t : Step). t.pdus) c;
      server = server_out;
      since = omega (arith, ss1, ss2, lonely.since);
    }) (omega (arith, over, ap (λ (t : Step). t.link.own_stamp) c, ap (λ (t : Step). t.link.clock) c))

-- ---- a client that is outside

-- quiet no longer in the next round
ready : (names : Names) (n : ℕ) (p z : Pair) → 783 ≤ n → Sound names p → Run names n p z → is_open p.client.phase ≡ false → p.client.closed_at + 6000 ≤ p.client.clock + 10 → Soon names z
ready names zero p z most sound run out over = absurd (omega (arith, most))
ready names (suc zero) p z most sound run out over = absurd (omega (arith, most))
ready names (suc (suc n)) p z most sound (r1, s1, (r2, s2, run)) out over = choose (nat_le (p.server.closed_at + 6000) (p.server.clock + 20)) refl
  where
    rests : Is p (resting_link names Role.Client p.client.clock p.client.closed_at (left_of p.client)) (resting_link names Role.Server p.server.clock p.server.closed_at (left_of p.server)) [] []
    rests = rest_is names p sound.facts out over

    server_out : is_open p.server.phase ≡ false
    server_out = ap (λ (l : LinkState). is_open l.phase) rests.server

    -- the server refused
    lonely : (i : Is (behind (behind p r1) r2) (asking_link names (p.client.clock + 10 + 10) p.client.closed_at (wire p.client.own_first p.client.sent) (p.client.clock + 10))
        (resting_link names Role.Server (p.server.clock + 10 + 10) p.server.closed_at (left_of p.server)) [] []) → Soon names z
    lonely i = asks_in_vain names 179 n (behind (behind p r1) r2) z (omega (arith, most)) s2 run (record {
      asks = subst (λ (l : LinkState). Asks l.clock l) (sym i.client) (record { clock = refl; starts = refl; client = refl; young = omega arith; own = omega arith });
      to_client = i.to_client;
      to_server = i.to_server;
      server = ap (λ (l : LinkState). is_open l.phase) i.server;
      since = omega (arith, ap (λ (l : LinkState). l.closed_at) i.server, ap (λ (l : LinkState). l.clock) i.server, sound.server_past.closed server_out);
    }) (omega (arith, ap (λ (l : LinkState). l.own_stamp) i.client, ap (λ (l : LinkState). l.clock) i.client))

    choose : (b : Bool) → nat_le (p.server.closed_at + 6000) (p.server.clock + 20) ≡ b → Soon names z
    choose true e = ready_soon names (suc (suc n)) p z (omega (arith, most)) sound (r1, s1, (r2, s2, run)) out over (leb-true _ _ e)
    choose false e = lonely (refused names p over rests r1 r2 (omega (arith, leb-false _ _ e)))

waits_out : (names : Names) (fuel n : ℕ) (p z : Pair) → fuel + 783 ≤ n → Sound names p → Run names n p z → is_open p.client.phase ≡ false → p.client.closed_at + 6000 ≤ p.client.clock + 10 + 10 * fuel → Soon names z
waits_out names zero n p z most sound run out over = ready names n p z (omega (arith, most)) sound run out (omega (arith, over))
waits_out names (suc fuel) zero p z most sound run out over = absurd (omega (arith, most))
waits_out names (suc fuel) (suc n) p z most sound run out over = choose (λ a b c. waits_out names fuel n (behind p run.0) z a run.1 run.2 b c) (nat_le (p.client.closed_at + 6000) (p.client.clock + 10)) refl
  where
    Again : Type 0
    Again = fuel + 783 ≤ n → is_open (behind p run.0).client.phase ≡ false → (behind p run.0).client.closed_at + 6000 ≤ (behind p run.0).client.clock + 10 + 10 * fuel → Soon names z

    choose : Again → (b : Bool) → nat_le (p.client.closed_at + 6000) (p.client.clock + 10) ≡ b → Soon names z
    choose again true e = ready names (suc n) p z (omega (arith, most)) sound run out (leb-true _ _ e)
    choose again false e = let c = client_rests_on p run.0 out (leb-false _ _ e) in
        again (omega (arith, most)) (ap (λ (t : Step). is_open t.link.phase) c ∙ out) (omega (arith, over, ap (λ (t : Step). t.link.closed_at) c, ap (λ (t : Step). t.link.clock) c))

pub out_comes : (names : Names) (n : ℕ) (p z : Pair) → 1382 ≤ n → Sound names p → Run names n p z → is_open p.client.phase ≡ false → Soon names z
out_comes names n p z most sound run out = waits_out names 599 n p z (omega (arith, most)) sound run out (omega (arith, sound.client_past.closed out))

-- ---- a client that is left alone

alone_comes : (names : Names) (fuel n : ℕ) (p z : Pair) → fuel + 602 ≤ n → Sound names p → Run names n p z → Joined p.client.clock p.client → is_open p.server.phase ≡ false → p.server.closed_at + 1804 < p.server.clock + 10 * fuel → Soon names z
alone_comes names zero n p z most sound run joined out over = absurd (omega (arith, over, sound.facts.alone joined.connected joined.joined out))
alone_comes names (suc fuel) zero p z most sound run joined out over = absurd (omega (arith, most))
alone_comes names (suc fuel) (suc n) p z most sound run joined out over = choose (λ a b c d. alone_comes names fuel n (behind p run.0) z a run.1 run.2 b c d) (client_joined p run.0 joined)
  where
    lately : p.server.clock ≤ p.server.closed_at + 1804
    lately = sound.facts.alone joined.connected joined.joined out

    s : server_step p run.0 ≡ silent (record p.server { clock = p.server.clock + 10 })
    s = server_rests_on names p run.0 sound.facts out (inr (omega (arith, lately)))

    ss1 : (server_step p run.0).link.clock ≡ p.server.clock + 10
    ss1 = ap (λ (t : Step). t.link.clock) s

    ss2 : (server_step p run.0).link.closed_at ≡ p.server.closed_at
    ss2 = ap (λ (t : Step). t.link.closed_at) s

    then_out : is_open (behind p run.0).server.phase ≡ false
    then_out = ap (λ (t : Step). is_open t.link.phase) s ∙ out

    Again : Type 0
    Again = fuel + 602 ≤ n → Joined (behind p run.0).client.clock (behind p run.0).client → is_open (behind p run.0).server.phase ≡ false → (behind p run.0).server.closed_at + 1804 < (behind p run.0).server.clock + 10 * fuel → Soon names z

    choose : Again → Either (p.client.clock + 10) (client_step p run.0).link (Joined (client_step p run.0).link.clock (client_step p run.0).link) → Soon names z
    choose again (gone left) = opens_quickly names 599 n 599 (behind p run.0) z (omega (arith, most)) run.1 run.2 left.is_out then_out (inr (omega (arith, ss1, ss2, lately)))
        (omega (arith, left.lately, left.clock)) (omega (arith, ss1, ss2, sound.server_past.closed out)) (omega (arith, run.1.client_past.closed left.is_out))
    choose again (so j) = again (omega (arith, most)) j then_out (omega (arith, over, ss1, ss2))

pub left_alone : (names : Names) (n : ℕ) (p z : Pair) → 783 ≤ n → Sound names p → Run names n p z → Joined p.client.clock p.client → is_open p.server.phase ≡ false → Soon names z
left_alone names n p z most sound run joined out = alone_comes names 181 n p z (omega (arith, most)) sound run joined out (omega (arith, sound.server_past.closed out))

-- ---- both inside, the client having joined

-- what a round leaves of a client that had joined, and of its server
after_it : (names : Names) (n : ℕ) (p z : Pair) (r : WorkRound p) → 1382 ≤ n → Sound names (behind p r) → Run names n (behind p r) z → Joined p.client.clock p.client
    → (BothIn (behind p r) → Joined (behind p r).client.clock (behind p r).client → Soon names z) → Soon names z
after_it names n p z r most sound run joined goes_on = choose (client_joined p r joined)
  where
    by_server : Joined (behind p r).client.clock (behind p r).client → (b : Bool) → is_open (behind p r).server.phase ≡ b → Soon names z
    by_server j false e = left_alone names n (behind p r) z (omega (arith, most)) sound run j e
    by_server j true e = goes_on (record { client = j.connected; server = e }) j

    choose : Either (p.client.clock + 10) (client_step p r).link (Joined (client_step p r).link.clock (client_step p r).link) → Soon names z
    choose (gone left) = out_comes names n (behind p r) z most sound run left.is_out
    choose (so j) = by_server j (is_open (behind p r).server.phase) refl

-- an end that is inside after a round lives through it
lives_at_work : (now : ℕ) (acts : List Act) (l : LinkState) → now ≡ l.clock + 10 → is_open l.phase ≡ true → l.clock < l.own_stamp + 1800 → is_open (acted now acts l).link.phase ≡ true → now < l.own_stamp + 1800
unfolding acted
lives_at_work now acts l at is_in young then_in = choose (begins now l at is_in young)
  where
    choose : Begins now l → now < l.own_stamp + 1800
    choose (late left) = let gone_then = out_all now acts (settled now l) left in absurd (cc (gone_then.is_out, then_in))
    choose (on e y) = y

pub client_lives : (p : Pair) (r : WorkRound p) → Joined p.client.clock p.client → BothIn (behind p r) → p.client.clock + 10 < p.client.own_stamp + 1800
client_lives p r is then_in = lives_at_work (p.client.clock + 10) r.client_acts p.client refl is.connected is.young then_in.client

pub server_lives : (p : Pair) (r : WorkRound p) → Joined p.server.clock p.server → BothIn (behind p r) → p.server.clock + 10 < p.server.own_stamp + 1800
server_lives p r is then_in = lives_at_work (p.server.clock + 10) r.server_acts p.server refl is.connected is.young then_in.server

pub client_clock_on : (p : Pair) (r : WorkRound p) → Joined p.client.clock p.client → is_open (behind p r).client.phase ≡ true → (behind p r).client.clock ≡ p.client.clock + 10
client_clock_on p r is then_in = (still_in (p.client.clock + 10) (client_step p r).link (Numbers (p.client.clock + 10) p.client (client_step p r)) then_in (client_numbers p r is)).is.clock

pub server_clock_on : (p : Pair) (r : WorkRound p) → Joined p.server.clock p.server → is_open (behind p r).server.phase ≡ true → (behind p r).server.clock ≡ p.server.clock + 10
server_clock_on p r is then_in = (still_in (p.server.clock + 10) (server_step p r).link (Numbers (p.server.clock + 10) p.server (server_step p r)) then_in (server_numbers p r is)).is.clock

-- each waits to be heard
waiting_comes : (names : Names) (client_start server_start fuel n : ℕ) (p z : Pair) → fuel + 1383 ≤ n → Sound names p → Run names n p z → Waiting names client_start server_start p
    → client_start + 300 ≤ p.client.clock + 10 * fuel → server_start + 300 ≤ p.server.clock + 10 * fuel → Soon names z
waiting_comes names client_start server_start fuel zero p z most sound run w client_long server_long = absurd (omega (arith, most))
waiting_comes names client_start server_start zero (suc n) p z most sound run w client_long server_long = after_it names n p z run.0 (omega (arith, most)) run.1 run.2 w.near.to_client.way.is
    (λ then_in j. is_hale (hale_for names n (behind p run.0) z run.2 (hale_then names client_start server_start p run.0 (client_lives p run.0 w.near.to_client.way.is then_in) (server_lives p run.0 w.near.to_server.way.is then_in) w (omega (arith, client_long)) (omega (arith, server_long)))))
waiting_comes names client_start server_start (suc fuel) (suc n) p z most sound run w client_long server_long = after_it names n p z run.0 (omega (arith, most)) run.1 run.2 w.near.to_client.way.is
    (λ then_in j. let v = waiting_on names client_start server_start p run.0 (client_lives p run.0 w.near.to_client.way.is then_in) (server_lives p run.0 w.near.to_server.way.is then_in) w in
    waiting_comes names client_start server_start fuel n (behind p run.0) z (omega (arith, most)) run.1 run.2 v
    (omega (arith, client_long, client_clock_on p run.0 w.near.to_client.way.is then_in.client)) (omega (arith, server_long, server_clock_on p run.0 w.near.to_server.way.is then_in.server)))

pub closely_comes : (names : Names) (n : ℕ) (p z : Pair) → 1413 ≤ n → Sound names p → Run names n p z → Closely names p → Soon names z
closely_comes names n p z most sound run c = waiting_comes names p.client.clock p.server.clock 30 n p z (omega (arith, most)) sound run (waiting_begins names p c) (omega arith) (omega arith)

-- what both have sent, where both are inside
pub fits_of : (names : Names) (p : Pair) → Sound names p → Joined p.client.clock p.client → Joined p.server.clock p.server → (p.client.sent < 2 ^ 31) × (p.server.sent < 2 ^ 31)
fits_of names p sound c s = let shares = sound.facts.shares c.connected c.joined s.connected in (shares.0.fits, shares.1.fits)

pub tuned_comes : (names : Names) (of_client of_server n : ℕ) (p z : Pair) → 1416 ≤ n → Sound names p → Run names n p z → Talk names of_client of_server true true p → p.client.clock ≤ of_client + 90000 → p.server.clock ≤ of_server + 90000 → Soon names z
tuned_comes names of_client of_server zero p z most sound run talk client_short server_short = absurd (omega (arith, most))
tuned_comes names of_client of_server (suc zero) p z most sound run talk client_short server_short = absurd (omega (arith, most))
tuned_comes names of_client of_server (suc (suc zero)) p z most sound run talk client_short server_short = absurd (omega (arith, most))
tuned_comes names of_client of_server (suc (suc (suc n))) p z most sound (r1, s1, (r2, s2, (r3, s3, run))) talk client_short server_short =
    after_it names (suc (suc n)) p z r1 (omega (arith, most)) s1 (r2, s2, (r3, s3, run)) talk.to_client.is (λ in1 j1. first in1)
  where
    first : BothIn (behind p r1) → Soon names z
    first in1 = after_it names (suc n) (behind p r1) z r2 (omega (arith, most)) s2 (r3, s3, run) calm.talk.to_client.is (λ in2 j2. second in2)
      where
        fits : (p.client.sent < 2 ^ 31) × (p.server.sent < 2 ^ 31)
        fits = fits_of names p sound talk.to_client.is talk.to_server.is

        g : GoesAtWork names of_client of_server true true p r1 talk
        g = talks_at_work names of_client of_server true true p r1 talk fits.0 fits.1 (omega (arith, client_short)) (omega (arith, server_short)) in1

        calm : Calmly names of_client of_server (behind p r1)
        calm = calmly_then names of_client of_server p r1 talk g

        second : BothIn (behind (behind p r1) r2) → Soon names z
        second in2 = after_it names n (behind (behind p r1) r2) z r3 (omega (arith, most)) s3 run simple.calm.talk.to_client.is (λ in3 j3. third in3)
          where
            fits1 : ((behind p r1).client.sent < 2 ^ 31) × ((behind p r1).server.sent < 2 ^ 31)
            fits1 = fits_of names (behind p r1) s1 calm.talk.to_client.is calm.talk.to_server.is

            g1 : GoesAtWork names of_client of_server true true (behind p r1) r2 calm.talk
            g1 = talks_at_work names of_client of_server true true (behind p r1) r2 calm.talk fits1.0 fits1.1 (omega (arith, client_short, g.goes.client_clock)) (omega (arith, server_short, g.goes.server_clock)) in2

            simple : Simply names of_client of_server (behind (behind p r1) r2)
            simple = simply_then names of_client of_server (behind p r1) r2 calm g1

            third : BothIn (behind (behind (behind p r1) r2) r3) → Soon names z
            third in3 = closely_comes names n (behind (behind (behind p r1) r2) r3) z (omega (arith, most)) s3 run (closely_then names of_client of_server (behind (behind p r1) r2) r3 simple g2)
              where
                fits2 : ((behind (behind p r1) r2).client.sent < 2 ^ 31) × ((behind (behind p r1) r2).server.sent < 2 ^ 31)
                fits2 = fits_of names (behind (behind p r1) r2) s2 simple.calm.talk.to_client.is simple.calm.talk.to_server.is

                g2 : GoesAtWork names of_client of_server true true (behind (behind p r1) r2) r3 simple.calm.talk
                g2 = talks_at_work names of_client of_server true true (behind (behind p r1) r2) r3 simple.calm.talk fits2.0 fits2.1 (omega (arith, client_short, g.goes.client_clock, g1.goes.client_clock)) (omega (arith, server_short, g.goes.server_clock, g1.goes.server_clock)) in3
