-- Two ends at work: however they begin, they are up after so many rounds.
use Rattle.rasta_core_recovery.proofs.Words.Basics.{◌≡◌, ℕ, zero, suc, ◌⊎◌, inl, inr, ◌∙◌, ◌+◌, ◌-◌, ◌^◌, ◌≤◌, ◌<◌, Bool, true, false, List, [], ◌∷◌, refl, sym, ap, subst, arith}
use Rattle.rasta_core_recovery.proofs.Words.Links.{wire, LinkState, is_open, is_asking, Step, Pdu, Each, Names}
use Rattle.rasta_core_recovery.proofs.Lemmas.Rounds.Links.{Pair, the_step}
use Rattle.rasta_core_recovery.proofs.Lemmas.Rounds.Acts.{WorkRound, client_step, server_step, behind}
use Rattle.rasta_core_recovery.proofs.Lemmas.Rounds.Course.{Joined}
use Rattle.rasta_core_recovery.proofs.Lemmas.ComingUp.Converse.{Talk}
use Rattle.rasta_core_recovery.proofs.Lemmas.Rounds.Turn.{Either, gone, so}
use Rattle.rasta_core_recovery.proofs.Lemmas.Asking.Asks.{Asks, AsksOn, IsTalkPdu, asking_is, asks_asking}
use Rattle.rasta_core_recovery.proofs.Lemmas.Rounds.Facts.{Calls, Young, IsLately}
use Rattle.rasta_core_recovery.proofs.Lemmas.ComingUp.Seen.{BothIn, joined_of, server_not_asking}
use Rattle.rasta_core_recovery.proofs.Lemmas.ComingUp.Opens.{asking_link, granted_link, request, response}
use Rattle.rasta_core_recovery.proofs.Lemmas.ComingUp.Stays.{left_of}
use Rattle.rasta_core_recovery.proofs.Lemmas.FirstRound.FirstGrants.{Asking, ServerFirst, grants, rests}
use Rattle.rasta_core_recovery.proofs.Lemmas.FirstRound.FirstWork.{first_of_at_work, none_says_at_work, server_old_at_work, talk_at_once_at_work, talk_on_joining_at_work}
use Rattle.rasta_core_recovery.proofs.Lemmas.FirstRound.FirstWorkWaits.{Waits, granted_comes, still_comes, waits}
use Rattle.rasta_core_recovery.proofs.Lemmas.AtWork.WorkAsks.{in_round_at_work, alone_round_at_work}
use Rattle.rasta_core_recovery.proofs.Lemmas.AtWork.WorkTalk.{server_joined}
use Rattle.rasta_core_recovery.proofs.Lemmas.ComingUp.Hale.{Hale}
use Rattle.rasta_core_recovery.proofs.Lemmas.FirstRound.FirstRises.{Climbs}
use Rattle.rasta_core_recovery.proofs.Lemmas.AtWork.WorkRun.{Sound, Run, Rounds, Climb, reached, rounds_of, last_of, last_climbs, climbs_then}
use Rattle.rasta_core_recovery.proofs.Lemmas.AtWork.WorkFates.{Soon, soon_on, server_clock_on, server_rests_on, out_comes, left_alone}
use Rattle.rasta_core_recovery.proofs.Lemmas.AtWork.WorkEarly.{server_is}
use Rattle.rasta_core_recovery.proofs.Lemmas.AtWork.WorkStays.{Stays, stays_first, stays_or_comes, first_comes}

-- a client that asks, to which nothing comes, doesn't join
pub not_joined : (p : Pair) (r : WorkRound p) → Asks p.client.clock p.client → p.to_client ≡ [] → is_open (client_step p r).link.phase ≡ true → is_asking (client_step p r).link ≡ false → ⊥
not_joined p r is none in_it joined = choose (alone_round_at_work (p.client.clock + 10) p.to_client r.client_acts p.client r.client_work is (subst (Each IsTalkPdu) (sym none) tt) refl r.client_room)
  where
    choose : Either (p.client.clock + 10) (client_step p r).link (AsksOn (p.client.clock + 10) p.client (client_step p r)) → ⊥
    choose (gone left) = cc (left.is_out, in_it)
    choose (so a) = cc (asks_asking (p.client.clock + 10) (client_step p r).link a.asks, joined)

-- ---- a client that has joined, now or in the first round

module _ (names : Names) (n : ℕ) (z : Pair) (at : ℕ → Pair) (rounds : Rounds names n z at) (long : 1383 ≤ n) where
  lt0 : 0 < n
  lt0 = omega (arith, long)

  r : (r : WorkRound (at 0)) × (at 1 ≡ behind (at 0) r)
  r = rounds.round 0 lt0

  now_sound : Sound names (at 0)
  now_sound = rounds.sound 0 (omega arith)

  then_sound : Sound names (behind (at 0) r.0)
  then_sound = subst (Sound names) r.1 (rounds.sound 1 (omega (arith, long)))

  climbs_behind : (BothIn (at 1) → Climbs (at 1)) → Stays names n z at rounds 1 → Climbs (behind (at 0) r.0)
  climbs_behind climbs s = subst Climbs r.1 (climbs (s.both 1 (omega arith)))

  in_then : Stays names n z at rounds 1 → BothIn (behind (at 0) r.0)
  in_then s = subst BothIn r.1 (s.both 1 (omega arith))

  server_now : is_open (at 0).server.phase ≡ true → Joined (at 0).server.clock (at 0).server
  server_now e = server_is names n z at rounds 0 (omega (arith, long)) e

  talks : Talk names (behind (at 0) r.0).client.clock (at 0).server.clock false false (behind (at 0) r.0) → Talk names (at 1).client.clock (at 0).server.clock false false (at 1)
  talks talk = subst (λ (q : Pair). Talk names q.client.clock (at 0).server.clock false false q) (sym r.1) talk

  pub joined_comes : 1560 ≤ n → (BothIn (at 1) → Climbs (at 1)) → Joined (at 0).client.clock (at 0).client → Soon names z
  joined_comes longer climbs joined = by_server (is_open (at 0).server.phase) refl
    where
      goes_on : (e : is_open (at 0).server.phase ≡ true) → Stays names n z at rounds 1 → Soon names z
      goes_on e s = first_comes names n z at rounds longer s (talks
          (talk_at_once_at_work names (at 0) r.0 now_sound then_sound (climbs_behind climbs s) (record { client = joined.connected; server = e }) joined (in_then s)))

      choose : is_open (at 0).server.phase ≡ true → Soon names z ⊎ (Joined (at 1).client.clock (at 1).client × (is_open (at 1).server.phase ≡ true)) → Soon names z
      choose e (inl h) = h
      choose e (inr (j, f)) = goes_on e (stays_first names n z at rounds (record { client = joined.connected; server = e }) j f)

      by_server : (b : Bool) → is_open (at 0).server.phase ≡ b → Soon names z
      by_server false e = left_alone names (n - 0) (at 0) z (omega (arith, long)) now_sound (rounds.rest 0 (omega (arith, long))) joined e
      by_server true e = choose e (stays_or_comes names n z at rounds 0 lt0 (omega (arith, longer)) joined)

  -- where its server is outside it left lately, for it has said something that comes
  called_lately : Asks (at 0).client.clock (at 0).client → Joined (at 1).client.clock (at 1).client → is_open (at 0).server.phase ≡ false → (at 0).server.clock ≤ (at 0).server.closed_at + 1804
  called_lately is j out = choose (at 0).to_client refl (now_sound.facts.called (ap is_open is.starts) out)
    where
      choose : (ps : List Pdu) → (at 0).to_client ≡ ps → Each (IsLately (at 0).server) ps → (at 0).server.clock ≤ (at 0).server.closed_at + 1804
      choose [] e each = absurd (not_joined (at 0) r.0 is e (ap (λ (q : Pair). is_open q.client.phase) (sym r.1) ∙ j.connected) (ap (λ (q : Pair). is_asking q.client) (sym r.1) ∙ j.joined))
      choose (q ∷ qs) e each = each.0

  -- what it comes to where its server is inside, too
  pub joining : Asks (at 0).client.clock (at 0).client → Joined (at 1).client.clock (at 1).client → (is_open (at 0).server.phase ≡ true → Stays names n z at rounds 1 → Soon names z) → Soon names z
  joining is j goes_on = by_server (is_open (at 0).server.phase) refl
    where
      alone_then : is_open (at 1).server.phase ≡ false → Soon names z
      alone_then out = left_alone names (n - 1) (at 1) z (omega (arith, long)) (rounds.sound 1 (omega (arith, long))) (rounds.rest 1 (omega (arith, long))) j out

      both_in : (b : Bool) → is_open (at 1).server.phase ≡ b → is_open (at 0).server.phase ≡ true → Soon names z
      both_in false f e = alone_then f
      both_in true f e = goes_on e (stays_first names n z at rounds (record { client = ap is_open is.starts; server = e }) j f)

      by_server : (b : Bool) → is_open (at 0).server.phase ≡ b → Soon names z
      by_server true e = both_in (is_open (at 1).server.phase) refl e
      by_server false e = alone_then (ap (λ (q : Pair). is_open q.server.phase) r.1
          ∙ ap (λ (t : Step). is_open t.link.phase) (server_rests_on names (at 0) r.0 now_sound.facts e (inr (omega (arith, called_lately is j e)))) ∙ e)

  -- in the first round
  pub joining_comes : 1560 ≤ n → (BothIn (at 1) → Climbs (at 1)) → Asks (at 0).client.clock (at 0).client → Joined (at 1).client.clock (at 1).client
      → (at 1).client.clock ≡ (at 0).client.clock + 10 → Soon names z
  joining_comes longer climbs is j clock = joining is j (λ e s. first_comes names n z at rounds longer s
      (talks (talk_on_joining_at_work names (at 0) r.0 now_sound then_sound (climbs_behind climbs s) is e (ap (λ (q : Pair). is_asking q.client) (sym r.1) ∙ j.joined)
      (in_then s) (ap (λ (q : Pair). q.client.clock) (sym r.1) ∙ clock))))

-- ---- a client that asks

-- what a round makes of it
pub asked_round : (p : Pair) (r : WorkRound p) → Asks p.client.clock p.client → Either (p.client.clock + 10) (client_step p r).link (Joined (p.client.clock + 10) (client_step p r).link ⊎ AsksOn (p.client.clock + 10) p.client (client_step p r))
asked_round p r is = in_round_at_work (p.client.clock + 10) p.to_client r.client_acts p.client r.client_work (inr is) refl r.client_room

-- it has asked for a round, and nothing comes to it from a server that knows no own stamp that is younger than before that
asks_alone : (names : Names) (reading n : ℕ) (p z : Pair) → 1559 ≤ n → Sound names p → Run names n p z → Asks p.client.clock p.client → p.to_server ≡ [] → p.server.clock ≡ reading + 10 → p.client.own_stamp + 10 ≤ p.client.clock
    → (is_open p.server.phase ≡ true → (p.server.own_stamp ≤ reading) × (p.to_client ≡ [])) → Soon names z
asks_alone names reading zero p z most sound run is mute clock asked inside = absurd (omega (arith, most))
asks_alone names reading (suc n) p z most sound run is mute clock asked inside = choose (asked_round p run.0 is)
  where
    w : Waits reading p (behind p run.0)
    w = waits names reading p run.0 sound is mute (λ e. (inside e).0)

    in_vain : Joined (p.client.clock + 10) (client_step p run.0).link → is_open p.server.phase ≡ true → Stays names (suc n) z (λ k. reached k names (suc n) p z run) (rounds_of names (suc n) p z sound run) 1 → Soon names z
    in_vain j e s = absurd (not_joined p run.0 is (inside e).1 j.connected j.joined)

    choose : Either (p.client.clock + 10) (client_step p run.0).link (Joined (p.client.clock + 10) (client_step p run.0).link ⊎ AsksOn (p.client.clock + 10) p.client (client_step p run.0)) → Soon names z
    choose (gone left) = out_comes names n (behind p run.0) z (omega (arith, most)) run.1 run.2 left.is_out
    choose (so (inl j)) = joining names (suc n) z (λ k. reached k names (suc n) p z run) (rounds_of names (suc n) p z sound run) (omega (arith, most)) is (subst (λ (k : ℕ). Joined k (client_step p run.0).link) (sym j.clock) j) (in_vain j)
    choose (so (inr a)) = still_comes names reading 176 n (behind p run.0) z (omega (arith, most)) run.1 run.2
        (record { asks = subst (λ (k : ℕ). Asks k (client_step p run.0).link) (sym a.asks.clock) a.asks; to_server = a.silent; to_client = w.mute; inside = w.inside }) (omega (arith, a.asks.clock, a.own, asked)) (omega (arith, w.clock, clock))

-- it asks on in the first round
module _ (names : Names) (n : ℕ) (p z : Pair) (most : 1559 ≤ n) (sound : Sound names p) (r : WorkRound p) (then_sound : Sound names (behind p r)) (run : Run names n (behind p r) z) (is : Asks p.client.clock p.client) (a : AsksOn (p.client.clock + 10) p.client (client_step p r)) where
  asks_then : Asks (behind p r).client.clock (behind p r).client
  asks_then = subst (λ (k : ℕ). Asks k (client_step p r).link) (sym a.asks.clock) a.asks

  asking_now : Asking names p
  asking_now = sound.asking (asks_asking p.client.clock p.client is)

  asking_then : Asking names (behind p r)
  asking_then = then_sound.asking (asks_asking (behind p r).client.clock (behind p r).client asks_then)

  calls_then : is_open (behind p r).server.phase ≡ true → Calls (behind p r).client (behind p r).server (behind p r).to_client
  calls_then e = then_sound.facts.calls (ap is_open asks_then.starts) (asks_asking (behind p r).client.clock (behind p r).client asks_then) e

  alone_by : (behind p r).server.clock ≡ p.server.clock + 10 → (is_open (behind p r).server.phase ≡ true → ((behind p r).server.own_stamp ≤ p.server.clock) × ((behind p r).to_client ≡ [])) → Soon names z
  alone_by clock inside = asks_alone names p.server.clock n (behind p r) z most then_sound run asks_then a.silent clock (omega (arith, a.own, a.asks.clock, is.own)) inside

  -- its server was inside
  was_inside : is_open p.server.phase ≡ true → Soon names z
  was_inside e = by_server (server_joined p r server_in)
    where
      server_in : Joined p.server.clock p.server
      server_in = joined_of p.server e (server_not_asking names p.server sound.facts.server) (sound.facts.server_young e)

      calls : Calls p.client p.server p.to_client
      calls = sound.facts.calls (ap is_open is.starts) (asks_asking p.client.clock p.client is) e

      none : (f : is_open (behind p r).server.phase ≡ true) → (behind p r).to_client ≡ []
      none f = none_says_at_work p r server_in calls.said (one_said f) f (calls_then f).first
        where
          one_said : is_open (behind p r).server.phase ≡ true → (behind p r).server.sent < 2 ^ 31
          one_said g = let m = (calls_then g).alone in omega (arith, m)

      by_server : Either (p.server.clock + 10) (server_step p r).link (Joined (server_step p r).link.clock (server_step p r).link) → Soon names z
      by_server (gone left) = alone_by left.clock (λ f. absurd (cc (left.is_out, f)))
      by_server (so j) = alone_by (server_clock_on p r server_in j.connected) (λ f. (server_old_at_work p r names sound.facts server_in f, none f))

  abbrev taken_at : ℕ
  taken_at = p.server.clock + 10

  abbrev sf : ℕ
  sf = wire p.server.own_first p.server.sent

  sf_fits : sf < 2 ^ 32
  sf_fits = omega arith

  asked_as : {x y u v : ℕ} (clock closed : ℕ) → x ≡ y → u ≡ v → asking_link names clock closed x u ≡ asking_link names clock closed y v
  asked_as clock closed e f = cc

  -- it has just taken the request
  has_taken : server_step p r ≡ the_step (granted_link names taken_at p.server.closed_at sf (request names p.client.own_first p.client.own_stamp) taken_at) (response names sf (request names p.client.own_first p.client.own_stamp) taken_at ∷ []) → Soon names z
  has_taken same = granted_comes names (behind p r).client.closed_at p.server.closed_at p.client.own_first sf p.client.own_stamp taken_at asking_now.fits sf_fits (behind p r).client.clock n (behind p r) z (omega (arith, most))
      (omega (arith, a.own, asks_then.own)) (omega (arith, a.own, asks_then.young)) run
      (record { client = asking_then.link ∙ asked_as (behind p r).client.clock (behind p r).client.closed_at first_same a.own; server = server_then; to_client = ap (λ (s : Step). s.pdus) same; to_server = a.silent })
    where
      server_then : (behind p r).server ≡ granted_link names taken_at p.server.closed_at sf (request names p.client.own_first p.client.own_stamp) taken_at
      server_then = ap (λ (s : Step). s.link) same

      first_same : (behind p r).client.own_first ≡ p.client.own_first
      first_same = sym (calls_then (ap (λ (l : LinkState). is_open l.phase) server_then)).partner ∙ ap (λ (l : LinkState). l.partner_first) server_then ∙ (let f = asking_now.fits in omega (arith, f))

  pub asks_on_comes : Soon names z
  asks_on_comes = by_server (is_open p.server.phase) refl
    where
      by : ServerFirst names (p.server.clock + 10) p.server.closed_at (left_of p.server) p.client.own_first p.client.own_stamp (server_step p r) → Soon names z
      by (rests same) = alone_by (ap (λ (s : Step). s.link.clock) same) (λ f. absurd (cc (f, ap (λ (s : Step). is_open s.link.phase) same)))
      by (grants same) = has_taken same

      by_server : (b : Bool) → is_open p.server.phase ≡ b → Soon names z
      by_server true e = was_inside e
      by_server false e = by (first_of_at_work names p r sound.facts asking_now e)

asks_first : (names : Names) (n : ℕ) (p z : Pair) → 1560 ≤ n → Sound names p → (run : Run names n p z) → Climb names n p z run → Asks p.client.clock p.client → Soon names z
asks_first names zero p z most sound run climbs is = absurd (omega (arith, most))
asks_first names (suc n) p z most sound run climbs is = choose (asked_round p run.0 is)
  where
    choose : Either (p.client.clock + 10) (client_step p run.0).link (Joined (p.client.clock + 10) (client_step p run.0).link ⊎ AsksOn (p.client.clock + 10) p.client (client_step p run.0)) → Soon names z
    choose (gone left) = out_comes names n (behind p run.0) z (omega (arith, most)) run.1 run.2 left.is_out
    choose (so (inl j)) = joining_comes names (suc n) z (λ k. reached k names (suc n) p z run) (rounds_of names (suc n) p z sound run) (omega (arith, most)) most climbs is
        (subst (λ (k : ℕ). Joined k (client_step p run.0).link) (sym j.clock) j) j.clock
    choose (so (inr a)) = asks_on_comes names n p z (omega (arith, most)) sound run.0 run.1 run.2 is a

-- ---- the sum

-- two ends at work, whatever has happened before
pub soon_come : (names : Names) (n : ℕ) (p z : Pair) → 1560 ≤ n → Sound names p → (run : Run names n p z) → Climb names n p z run → Soon names z
soon_come names n p z most sound run climbs = by_phase (is_open p.client.phase) refl
  where
    inside : is_open p.client.phase ≡ true → Young p.client → (b : Bool) → is_asking p.client ≡ b → Soon names z
    inside is_in young false e = joined_comes names n z (λ k. reached k names n p z run) (rounds_of names n p z sound run) (omega (arith, most)) most
        (climbs_then names n p z run (omega (arith, most)) climbs) (joined_of p.client is_in e young)
    inside is_in young true e = asks_first names n p z most sound run climbs (asking_is p.client.clock p.client refl e young.young young.own)

    by_phase : (b : Bool) → is_open p.client.phase ≡ b → Soon names z
    by_phase false e = out_comes names n p z (omega (arith, most)) sound run e
    by_phase true e = inside e (sound.facts.client_young e) (is_asking p.client) refl

pub all_come : (names : Names) (n : ℕ) (p z : Pair) → 1561 ≤ n → Sound names p → (run : Run names n p z) → Climb names n p z run → Hale names z
all_come names zero p z most sound run climbs = absurd (omega (arith, most))
all_come names (suc n) p z most sound run climbs = let l = last_of names n p z run in subst (Hale names) l.ends
    (soon_on names l.before l.round (soon_come names n p l.before (omega (arith, most)) sound l.run (last_climbs names n p z run climbs)))
