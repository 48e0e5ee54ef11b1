use Rattle.simulator_recovery.proofs.Words.Basics.{◌∙◌, ◌<◌, refl, sym, ap, subst, false≢true, same_Some}
use Rattle.simulator_recovery.proofs.Words.Interlockings.{is_available, HoldsPoint, KnownPointState, freed_sections, is_set}
use Rattle.simulator_recovery.proofs.Lemmas.RoutesComing.NothingDueStops.{holds_each}
use Rattle.simulator_recovery.proofs.points.points_of_proceeding_routes_await_nothing.Goals as goal

pub returns : goal.returns
returns c = λ site table world number row route need is_table reached is proceeds within ready awaits.
    let holds : HoldsPoint row route.phase need.point need.side = (ap is_set proceeds, (need, within, refl, refl, subst (λ n. n < need.until) (sym (ap freed_sections proceeds)) (holds_each site table is_table number row need is.0 within)))
    in let known = c.points_of_proceeding_routes_are_known.ensures site table world number row route need.point need.side need.side is_table reached is proceeds holds (number, row, route, is, holds) ready
    in false≢true (ap is_available (sym awaits.2) ∙ (ap (λ (k : KnownPointState). is_available k.client.stage) (same_Some awaits.0 known.0 (sym awaits.1 ∙ known.1)) ∙ known.2.0))
