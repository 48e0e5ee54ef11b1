-- A pair comes up as two ends do.
use Rattle.std.proofs.Common.{◌≡◌, ℕ, zero, suc, ◌∙◌, ◌+◌, ◌≤◌, ◌<◌, true, List, refl, ap, subst, arith}
use Rattle.rasta_core_spec.specs.State.{LinkState, is_open, is_up}
use Rattle.rasta_core_spec.specs.Each.{Each}
use Rattle.rasta_core_spec.specs.Ends.{Sent}
use Rattle.rasta_core_spec.specs.Run.{Ends}
use Rattle.rasta_core_spec.specs.Events.{Event, MayRun, Start, started}
use Rattle.rasta_core_spec.specs.Names.{AreNames, Names}
use Rattle.rasta_core_recovery.specs.FirstRound.{ComeFirst, StayBelowLimitFrom, round_of}
use Rattle.rasta_core_recovery.specs.Rounds.{AreUp, Flow, IsBelowLimit, good_rounds}
use Rattle.rasta_core_recovery.specs.Rounds as ends_level
use Rattle.simulator_pair.specs.Theorem.{names}
use Rattle.simulator_pair.specs.declared.event.PairEvent.{PairEvent}
use Rattle.simulator_pair_text.specs.Flow.{Flowing, rounds}
use Rattle.simulator_pair_recovery.specs.Recovery.{GivesItem, HasTime, StayBelowLimit, flow_after, recovery_rounds}
use Rattle.simulator_pair_recovery.proofs.FirstRoundShort.{ReadIsIntact}
use Rattle.simulator_pair_recovery.proofs.Fresh.{HandsOut, WrittenIsShort}
use Rattle.simulator_pair_recovery.proofs.Reached.{Laws, Reached, are_names, events_reached, new_reached, start}
use Rattle.simulator_pair_recovery.proofs.Rounds.{CanGo, Goes, LawsHere, all_go, rounds_first}
use Rattle.simulator_pair_recovery.proofs.FirstRoundComes.{FirstComes, ends_of, first_comes}

rounds_none : (f : Flowing) → rounds 0 f ≡ f
unfolding rounds
rounds_none f = refl

-- the law of two ends, handed in by who has it
abbrev pub EndsComeUpFromAny : Type 0
EndsComeUpFromAny = (names : Names) (start : Start) (events : List Event) (due : List Sent) (n : ℕ) → AreNames names → MayRun names events (started names start)
    → ComeFirst names due (ends_level.flow_after names start events 0) → ends_level.recovery_rounds ≤ suc n → StayBelowLimitFrom due n (ends_level.flow_after names start events 0)
    → AreUp (good_rounds n (round_of due (ends_level.flow_after names start events 0))).ends

pub recovers : Laws → HandsOut → WrittenIsShort → ReadIsIntact → EndsComeUpFromAny → (events : List PairEvent) (passed n : ℕ) → Each GivesItem events
    → recovery_rounds ≤ n → HasTime n (flow_after events passed) → StayBelowLimit n (flow_after events passed)
    → AreUp (rounds n (flow_after events passed)).pair.ends
recovers laws hands short read come_up events passed zero items long has below = absurd (omega (arith, long))
recovers laws hands short read come_up events passed (suc m) items long has below =
    (ap (λ (l : LinkState). is_up l.phase) (goes m (omega arith)).alike.client.link ∙ up.0, ap (λ (l : LinkState). is_up l.phase) (goes m (omega arith)).alike.server.link ∙ up.1)
  where
    law : LawsHere
    law = record { laws = laws; hands = hands; short = short }

    start_flow : Flowing
    start_flow = flow_after events passed

    here : Reached start_flow.pair.ends
    here = events_reached laws events _ items new_reached

    can_go : CanGo 0 (suc m) start_flow
    can_go = record { time = has; before = omega arith }

    began : FirstComes start_flow
    began = first_comes law read (suc m) start_flow can_go here

    then_flow : Flow
    then_flow = round_of began.due (ends_of start_flow)

    goes : (k : ℕ) → k ≤ m → Goes (suc k) start_flow (rounds (suc k) start_flow) (good_rounds k then_flow)
    goes k most = subst (λ (f : Flowing). Goes (suc k) start_flow f (good_rounds k then_flow)) (rounds_first k start_flow)
        (all_go law k (suc m) start_flow then_flow has (omega (arith, most)) began.goes)

    limited : (k : ℕ) → k ≤ m → IsBelowLimit (good_rounds k then_flow).ends.client × IsBelowLimit (good_rounds k then_flow).ends.server
    limited k most =
        let b = below (suc k) (omega (arith, most)) in let a = (goes k most).alike in
        (subst (λ (l : LinkState). is_open l.phase ≡ true → l.sent + 1 < 2147483000) a.client.link b.0, subst (λ (l : LinkState). is_open l.phase ≡ true → l.sent + 1 < 2147483000) a.server.link b.1)

    first_limited : IsBelowLimit start_flow.pair.ends.client × IsBelowLimit start_flow.pair.ends.server
    first_limited = subst (λ (f : Flowing). IsBelowLimit f.pair.ends.client × IsBelowLimit f.pair.ends.server) (rounds_none start_flow) (below 0 (omega arith))

    up : AreUp (good_rounds m then_flow).ends
    up = subst (λ (e : Ends). ComeFirst names began.due (record { ends = e; passed = 0 }) → StayBelowLimitFrom began.due m (record { ends = e; passed = 0 })
        → AreUp (good_rounds m (round_of began.due (record { ends = e; passed = 0 }))).ends) here.same
        (λ come room. come_up names start here.events began.due m are_names here.may come (omega (arith, long)) room)
        began.comes (first_limited.0, first_limited.1, limited)
