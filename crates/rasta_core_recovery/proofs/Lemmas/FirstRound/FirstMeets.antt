-- A client that has joined in the first round, by a response that its server said in it, where both come to nothing but the response and the first
-- heartbeat: they are healthy soon.
use Rattle.rasta_core_recovery.proofs.Words.Basics.{◌≡◌, ℕ, ◌⊎◌, inl, inr, ◌∙◌, ◌+◌, ◌-◌, ◌^◌, ◌≤◌, ◌<◌, true, false, nat_le, [], ◌∷◌, refl, sym, ap, subst, arith, nat_tests}
use Rattle.rasta_core_recovery.proofs.Words.Links.{stamp, wire, LinkState, is_open, Step, silent, then_do, Names, Pdu}
use Rattle.rasta_core_recovery.proofs.Lemmas.Rounds.Calls.{IsCalm, at_reading, worked_calm}
use Rattle.rasta_core_recovery.proofs.Lemmas.Rounds.Course.{Joined}
use Rattle.rasta_core_recovery.proofs.Lemmas.ComingUp.Fates.{Comes, JustOut, Leaves, Stays, comes_later, joined_step, leaves_comes, search}
use Rattle.rasta_core_recovery.proofs.Lemmas.FirstRound.FirstEnters.{again}
use Rattle.rasta_core_recovery.proofs.Lemmas.FirstRound.FirstWaits.{both_up, near_comes, up_near}
use Rattle.rasta_core_recovery.proofs.Lemmas.Rounds.Fold.{Begins, Out, begins, late, on, round_on, stays_out, works_out}
use Rattle.rasta_core_recovery.proofs.Lemmas.Rounds.Links.{Pair, all_heard, end_round, pair_round, worked, the_step}
use Rattle.rasta_core_recovery.proofs.Lemmas.ComingUp.Opens.{first_beat, granted_link, joined_link, request, response, server_comes_up, step_is, up_link}
use Rattle.rasta_core_recovery.proofs.Lemmas.Rounds.Passed.{one_passed}
use Rattle.rasta_core_recovery.proofs.Lemmas.ComingUp.Seen.{BothIn, NearBy, Seen, seen_on}
use Rattle.rasta_core_recovery.proofs.Lemmas.Rounds.Turn.{reading_joined}
use Rattle.rasta_core_recovery.proofs.Lemmas.Rounds.Words.{Voice}

-- an end that has passed the one PDU that comes, and to which nothing is due: it stands as before, or goes out
passes_one : (now : ℕ) (v : Voice) (n : ℕ) (p : Pdu) (l : LinkState) → Joined l.clock l → now ≡ l.clock + 10 → v.first ≡ l.partner_first → p.sequence_number ≡ wire v.first n → n < l.expected
    → l.expected < 2 ^ 31 → l.sent < 2147483000 → IsCalm now (at_reading now l) → is_open (end_round now (p ∷ []) l).link.phase ≡ true → end_round now (p ∷ []) l ≡ silent (at_reading now l)
passes_one now v n p l is at first number below fits room calm then_in = choose (begins now l at is.connected is.young)
  where
    j : LinkState
    j = at_reading now l

    Goal : Step → Type 0
    Goal s = is_open s.link.phase ≡ true → s ≡ silent (at_reading now l)

    works_then : now < l.own_stamp + 1800 → Out now (all_heard now (p ∷ []) j).link ⊎ (all_heard now (p ∷ []) j ≡ silent j)
        → Goal (then_do (all_heard now (p ∷ []) j) (λ k. worked now l.identity.role k))
    works_then young (inl left) opened = absurd (cc ((works_out now l.identity.role (all_heard now (p ∷ []) j).link left).is_out, opened))
    works_then young (inr same) opened = ap (λ (s : Step). then_do s (λ k. worked now l.identity.role k)) same
        ∙ worked_calm now l.identity.role j (record { connected = is.connected; young = young; room = room }) calm

    choose : Begins now l → end_round now (p ∷ []) l ≡ silent (at_reading now l)
    choose (late left) = absurd (cc ((stays_out now (p ∷ []) l left).is_out, then_in))
    choose (on e young) = subst Goal (sym (round_on now (p ∷ []) l e))
        (works_then young (again now p j (p ∷ []) (refl, tt) (one_passed now v n l.expected p j (reading_joined now l is at young) first number below (omega arith) fits))) then_in

module _ (names : Names) (closed server_closed cf sf at c s : ℕ) (fits : cf < 2 ^ 32) (server_fits : sf < 2 ^ 32) (past : at ≤ c) where
  abbrev asked : Pdu
  asked = request names cf at

  abbrev answer : Pdu
  answer = response names sf asked s

  abbrev beat : Pdu
  beat = first_beat names c cf answer

  abbrev client_now : LinkState
  client_now = joined_link names c closed cf at answer

  abbrev granted_now : LinkState
  granted_now = granted_link names s server_closed sf asked s

  abbrev up_now : LinkState
  up_now = up_link names s server_closed sf asked s (stamp c)

  abbrev pub just_met : LinkState → Pair
  just_met l = record { client = client_now; server = l; to_client = answer ∷ []; to_server = beat ∷ [] }

  abbrev then_up : Pair
  then_up = both_up names closed server_closed cf sf at s c (s + 10)

  abbrev voice_from : ℕ → Voice
  voice_from first = record { receiver = 0; sender = 0; first = first; partner_first = 0; stamp = 0 }

  not_due : (now at_time : ℕ) → now ≡ at_time + 10 → nat_le 300 (now - at_time) ≡ false
  not_due now at_time e = let h = e in grind (arith, nat_tests)

  client_same : Joined c client_now → is_open (end_round (c + 10) (answer ∷ []) client_now).link.phase ≡ true → end_round (c + 10) (answer ∷ []) client_now ≡ the_step (at_reading (c + 10) client_now) []
  client_same is then_in = passes_one (c + 10) (voice_from (wire sf 0)) 0 answer client_now is refl refl (omega arith) (omega arith) (omega arith) (omega arith) (not_due (c + 10) c refl) then_in

  server_joined : Joined s up_now
  server_joined = record { clock = refl; connected = refl; joined = refl; young = omega arith; own = omega arith }

  server_same : (l : LinkState) → (l ≡ granted_now) ⊎ (l ≡ up_now) → is_open (end_round (l.clock + 10) (beat ∷ []) l).link.phase ≡ true
      → end_round (l.clock + 10) (beat ∷ []) l ≡ the_step (up_link names (s + 10) server_closed sf asked s (stamp c)) []
  server_same l (inl e) then_in = ap (λ (k : LinkState). end_round (k.clock + 10) (beat ∷ []) k) e ∙ server_comes_up names server_closed cf at sf s s c (omega arith) (omega arith) fits server_fits
  server_same l (inr e) then_in = ap (λ (k : LinkState). end_round (k.clock + 10) (beat ∷ []) k) e
      ∙ passes_one (s + 10) (voice_from (wire cf 0)) 1 beat up_now server_joined refl refl (omega arith) (omega arith) (omega arith) (omega arith) (not_due (s + 10) s refl)
      (subst (λ (k : LinkState). is_open (end_round (k.clock + 10) (beat ∷ []) k).link.phase ≡ true) e then_in)

  goes : (l : LinkState) → (l ≡ granted_now) ⊎ (l ≡ up_now) → Joined c client_now → BothIn (pair_round (just_met l)) → pair_round (just_met l) ≡ then_up
  unfolding pair_round
  goes l is j both = step_is (just_met l) (the_step (at_reading (c + 10) client_now) []) (the_step (up_link names (s + 10) server_closed sf asked s (stamp c)) [])
      (client_same j both.client) (server_same l is both.server)

  near_then : NearBy names then_up
  near_then = up_near names closed server_closed cf sf at s c (s + 10) fits server_fits past (omega arith) (omega arith)

  pub met_comes : (l : LinkState) → (l ≡ granted_now) ⊎ (l ≡ up_now) → (n : ℕ) → 1100 ≤ n → Seen names n (just_met l) → Joined c client_now → Comes names 1560 (just_met l)
  met_comes l is n long seen j = choose (search 1 (just_met l) j)
    where
      seen_then : Seen names (n - 1) (pair_round (just_met l))
      seen_then = seen_on names (n - 1) (just_met l) (subst (λ (k : ℕ). Seen names k (just_met l)) (omega (arith, long)) seen)

      stays : Stays 1 (just_met l) → Comes names 1414 then_up
      stays st = by (joined_step (just_met l) j)
        where
          same : pair_round (just_met l) ≡ then_up
          same = goes l is j (st.stay.both 1 (omega arith))

          by : JustOut (pair_round (just_met l)).client ⊎ Joined (pair_round (just_met l)).client.clock (pair_round (just_met l)).client → Comes names 1414 then_up
          by (inl out) = absurd (let b = (st.stay.both 1 (omega arith)).client in cc (out.is_out, b))
          by (inr then_joined) = near_comes names closed server_closed cf sf at s fits server_fits (n - 1) then_up (omega (arith, long)) (subst (Seen names (n - 1)) same seen_then) near_then
              (subst (λ (p : Pair). Joined p.client.clock p.client) same then_joined)

      choose : Leaves 1 (just_met l) ⊎ Stays 1 (just_met l) → Comes names 1560 (just_met l)
      choose (inl left) = let x = leaves_comes names 1 n (just_met l) (omega arith) (omega (arith, long)) seen left in record { rounds = x.rounds; soon = omega (arith, x.soon); healthy = x.healthy }
      choose (inr st) = comes_later names 1 1414 1560 (just_met l) (omega arith) (subst (Comes names 1414) (sym (goes l is j (st.stay.both 1 (omega arith)))) (stays st))
