use Rattle.std.proofs.Common.{◌≡◌, ◌+◌, ◌<◌, ◌≤◌, true, List, ◌++◌, sym, ap, subst, ◌∙◌}
use Rattle.rasta_core_spec.specs.Events.{Event, MayRun, run}
use Rattle.rasta_core_spec.specs.Parameters.{time_limit}
use Rattle.rasta_core_spec.specs.Run.{Ends, end_of}
use Rattle.rasta_core_spec.specs.Sentences.{freshness}
use Rattle.rasta_core_spec.specs.State.{is_up}
use Rattle.rasta_core_spec.specs.identity.Role.{Role}
use Rattle.rasta_core.specs.Links.{begun, run_links, run_on, seen, start_of}
use Rattle.caught_up_laws.specs.Knowledge.{HasTaken, clock_of}
use Rattle.caught_up_laws.specs.Observer.{caught_up_until}
use Rattle.caught_up_laws.proofs.Links.{run_on_joined}
use Rattle.caught_up_laws.proofs.each_link.each_link_knows_all.Goals as goal

abbrev Clock_at : Role → Ends → Ends → List Event → Ends → Type 0
Clock_at who was now events ends = is_up (end_of who now).link.phase ≡ true → clock_of who now < caught_up_until who events ends → clock_of who was + time_limit ≤ clock_of who now → HasTaken who was now

abbrev Time_at : Role → Ends → Ends → List Event → Ends → Type 0
Time_at who was now events ends = is_up (end_of who now).link.phase ≡ true → clock_of who now < caught_up_until who events ends → was.time + freshness ≤ now.time → HasTaken who was now

pub returns-clause-by_clock : goal.returns-clause-by_clock
returns-clause-by_clock c = λ who count names start earlier later are may link below.
    let world = begun names start
    in let first = run_on link earlier world
    in let rest = run_on link later (run_links earlier world)
    in let joined : run_on link (earlier ++ later) world ≡ first ++ rest = run_on_joined link earlier later world
    in let seen_then : seen link (run_links earlier world) ≡ run first (seen link world) = c.each_link_sees_its_events.ensures.run link earlier world
    in let seen_now : seen link (run_links later (run_links earlier world)) ≡ run rest (run first (seen link world))
    = c.each_link_sees_its_events.ensures.run link later (run_links earlier world) ∙ ap (run rest) seen_then
    in let may_here : MayRun (names link) (first ++ rest) (seen link world) = subst (λ (events : List Event). MayRun (names link) events (seen link world)) joined
    (c.each_link_sees_its_events.ensures.may_run count names (earlier ++ later) world are (c.links_keep_time.ensures.starts count names start are) may link below)
    in let at_link : Clock_at who (run first (seen link world)) (run rest (run first (seen link world))) (first ++ rest) (seen link world)
    = c.who_is_caught_up_knows_all.ensures.by_clock who (names link) (start_of link start) first rest (are.each link below) may_here
    in subst (λ (events : List Event). Clock_at who (seen link (run_links earlier world)) (seen link (run_links later (run_links earlier world))) events (seen link world)) (sym joined)
    (subst (λ (now : Ends). Clock_at who (seen link (run_links earlier world)) now (first ++ rest) (seen link world)) (sym seen_now)
    (subst (λ (was : Ends). Clock_at who was (run rest (run first (seen link world))) (first ++ rest) (seen link world)) (sym seen_then) at_link))

pub returns-clause-in_time : goal.returns-clause-in_time
returns-clause-in_time c = λ who count names start earlier later are may link below.
    let world = begun names start
    in let first = run_on link earlier world
    in let rest = run_on link later (run_links earlier world)
    in let joined : run_on link (earlier ++ later) world ≡ first ++ rest = run_on_joined link earlier later world
    in let seen_then : seen link (run_links earlier world) ≡ run first (seen link world) = c.each_link_sees_its_events.ensures.run link earlier world
    in let seen_now : seen link (run_links later (run_links earlier world)) ≡ run rest (run first (seen link world))
    = c.each_link_sees_its_events.ensures.run link later (run_links earlier world) ∙ ap (run rest) seen_then
    in let may_here : MayRun (names link) (first ++ rest) (seen link world) = subst (λ (events : List Event). MayRun (names link) events (seen link world)) joined
    (c.each_link_sees_its_events.ensures.may_run count names (earlier ++ later) world are (c.links_keep_time.ensures.starts count names start are) may link below)
    in let at_link : Time_at who (run first (seen link world)) (run rest (run first (seen link world))) (first ++ rest) (seen link world)
    = c.who_is_caught_up_knows_all.ensures.in_time who (names link) (start_of link start) first rest (are.each link below) may_here
    in subst (λ (events : List Event). Time_at who (seen link (run_links earlier world)) (seen link (run_links later (run_links earlier world))) events (seen link world)) (sym joined)
    (subst (λ (now : Ends). Time_at who (seen link (run_links earlier world)) now (first ++ rest) (seen link world)) (sym seen_now)
    (subst (λ (was : Ends). Time_at who was (run rest (run first (seen link world))) (first ++ rest) (seen link world)) (sym seen_then) at_link))
