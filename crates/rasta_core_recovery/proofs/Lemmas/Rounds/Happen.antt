-- A round may happen.
use Rattle.rasta_core_recovery.proofs.Words.Basics.{◌≡◌, ℕ, zero, suc, inl, inr, ◌∙◌, ◌+◌, ◌≤◌, Bool, true, false, ◌&&◌, not, nat_le, if◌then◌else◌, List, [], ◌∷◌, ◌++◌, drop, refl, sym, ap, subst, arith, leb-true}
use Rattle.rasta_core_recovery.proofs.Words.Links.{Role, lifetime, Sent, Call, Opens, Receives, Ticks, Ends, called, later, Event, Calls, IsAmong, IsDelivered, MayRun, Passes, happened, run, Names, partner_of}
use Rattle.rasta_core_recovery.proofs.Words.Recovery.{behind_comings, round_of, Flow, can_come, comings, own_work, round_events, good_round, good_rounds, events_of}

pub among_front : (d : Sent) (a b : List Sent) → IsAmong d a → IsAmong d (a ++ b)
among_front d [] b i = absurd i
among_front d (x ∷ a) b (inl e) = inl e
among_front d (x ∷ a) b (inr i) = inr (among_front d a b i)

among_drop : (d : Sent) (n : ℕ) (a : List Sent) → IsAmong d (drop n a) → IsAmong d a
among_drop d zero a i = i
among_drop d (suc n) [] i = absurd i
among_drop d (suc n) (x ∷ a) i = inr (among_drop d n a i)

stays_sent : (who : Role) (call : Call) (ends : Ends) (d : Sent) → IsAmong d ends.sent → IsAmong d (called who call ends).sent
unfolding called
stays_sent who call ends d i = among_front d ends.sent _ i

same_time : (who : Role) (call : Call) (ends : Ends) → (called who call ends).time ≡ ends.time
unfolding called
same_time Role.Client call ends = refl
same_time Role.Server call ends = refl

both_true : (a b : Bool) → (a && b) ≡ true → b ≡ true
both_true true b e = e
both_true false b e = cc

comings_may : (names : Names) (t : ℕ) (ds : List Sent) (ends : Ends) → ((d : Sent) → IsAmong d ds → IsAmong d ends.sent) → ends.time ≡ t → MayRun names (comings t ds ++ own_work) ends
comings_may names t [] ends among at = (tt, (tt, (tt, tt)))
comings_may names t (d ∷ ds) ends among at = choose (can_come t d) refl
    (comings_may names t ds ends (λ x i. among x (inr i)) at)
    (comings_may names t ds (called who call ends) (λ x i. stays_sent who call ends x (among x (inr i))) (same_time who call ends ∙ at))
  where
    who : Role
    who = partner_of d.sender

    call : Call
    call = Receives d.bytes d.connection

    delivered : can_come t d ≡ true → IsDelivered ends d.bytes d.connection d
    delivered e =
        let f : nat_le t (d.at + lifetime) ≡ true = both_true (not d.is_lost) (nat_le t (d.at + lifetime)) e in
        let g : t ≤ d.at + lifetime = leb-true _ _ f in
        record { was_sent = among d (inl refl); bytes_same = refl; connection_same = refl; in_time = omega (arith, at, g) }

    choose : (b : Bool) → can_come t d ≡ b → MayRun names (comings t ds ++ own_work) ends → MayRun names (comings t ds ++ own_work) (called who call ends)
        → MayRun names ((if b then Calls who call ∷ comings t ds else comings t ds) ++ own_work) ends
    choose false e skip take = skip
    choose true e skip take = (inl (d, delivered e), take)

-- also one in which these come, which were sent
pub round_may : (names : Names) (f : Flow) (due : List Sent) → ((d : Sent) → IsAmong d due → IsAmong d f.ends.sent)
    → MayRun names (Passes 10000 10000 10000 ∷ (comings (f.ends.time + 10000) due ++ own_work)) f.ends
unfolding later
round_may names f due among = (
  (record { least = omega arith; most = omega arith }, record { least = omega arith; most = omega arith }),
  comings_may names (f.ends.time + 10000) due (later 10000 10000 10000 f.ends) among refl,
)

pub may_happen : (names : Names) (f : Flow) → MayRun names (round_events f) f.ends
may_happen names f = round_may names f (drop f.passed f.ends.sent) (λ d i. among_drop d f.passed f.ends.sent i)

pub run_joined : (one other : List Event) (ends : Ends) → run (one ++ other) ends ≡ run other (run one ends)
run_joined [] other ends = refl
run_joined (first ∷ one) other ends = run_joined one other (happened first ends)

-- what was sent as all came was sent by the end of the round
pub sent_by_then : (due : List Sent) (f : Flow) (d : Sent) → IsAmong d (behind_comings due f).sent → IsAmong d (round_of due f).ends.sent
sent_by_then due f d is = subst (λ (ends : Ends). IsAmong d ends.sent) (sym (run_joined (Passes 10000 10000 10000 ∷ comings (f.ends.time + 10000) due) own_work f.ends))
    (stays_sent Role.Server Ticks _ d (stays_sent Role.Client Opens _ d (stays_sent Role.Client Ticks (behind_comings due f) d is)))

-- ---- and so may many

pub may_joined : (names : Names) (one other : List Event) (ends : Ends) → MayRun names one ends → MayRun names other (run one ends) → MayRun names (one ++ other) ends
may_joined names [] other ends first second = second
may_joined names (head ∷ one) other ends first second = (first.0, may_joined names one other (happened head ends) first.1 second)

round_leads : (f : Flow) → (good_round f).ends ≡ run (round_events f) f.ends
unfolding good_round
round_leads f = refl

pub rounds_lead : (n : ℕ) (f : Flow) → (good_rounds n f).ends ≡ run (events_of n f) f.ends
rounds_lead zero f = refl
rounds_lead (suc n) f = round_leads (good_rounds n f) ∙ ap (run (round_events (good_rounds n f))) (rounds_lead n f) ∙ sym (run_joined (events_of n f) (round_events (good_rounds n f)) f.ends)

pub rounds_may_happen : (names : Names) (n : ℕ) (f : Flow) → MayRun names (events_of n f) f.ends
rounds_may_happen names zero f = tt
rounds_may_happen names (suc n) f = may_joined names (events_of n f) (round_events (good_rounds n f)) f.ends (rounds_may_happen names n f)
    (subst (MayRun names (round_events (good_rounds n f))) (rounds_lead n f) (may_happen names (good_rounds n f)))
