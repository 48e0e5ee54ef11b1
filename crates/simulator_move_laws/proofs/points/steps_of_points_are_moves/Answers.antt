use Rattle.std.proofs.Common.{◌≡◌, ◌++◌, ℕ, ap, sym, ◌∙◌, subst}
use Rattle.std.proofs.Math.Nat.{le_refl}
use Rattle.rasta_core.specs.Clock.{settled}
use Rattle.rasta_core.specs.Ends.{kept, reading_of}
use Rattle.rasta_core.specs.Run.{Ends}
use Rattle.rasta_core.specs.State.{LinkState}
use Rattle.object_host.specs.Host.{HostSoFar}
use Rattle.object_host.specs.Made.{ActsOn, items_given, items_taken}
use Rattle.object_host.specs.Step.{host_step}
use Rattle.object_host_laws.specs.World.{World, called_all, entering, host_of, step_of, stepped}
use Rattle.point_ctl.specs.Controlled.{point_behaviour}
use Rattle.point_ctl.specs.Drive.{PointState}
use Rattle.object_host_laws.specs.Point.{IsPointStep}
use Rattle.simulator_move_laws.specs.Ends.{Steps, hosted_on}
use Rattle.simulator_move_laws.specs.Point.{IsPointSeen, PointGoes}
use Rattle.simulator_move_laws.proofs.Controllers.Places.{client_stays, connection_after}
use Rattle.simulator_move_laws.proofs.Controllers.Reported.{step_reported}
use Rattle.simulator_move_laws.proofs.Controllers.Steps.{point_goes}
use Rattle.simulator_move_laws.proofs.Controllers.KnownPoints.{IsStep}
use Rattle.simulator_move_laws.proofs.points.steps_of_points_are_moves.Goals as goal

pub returns : goal.returns
unfolding stepped
returns c input connection ends host point sound seen moves = subst Leads same here where
  world : World PointState
  world = hosted_on ends host

  now : ℕ
  now = reading_of ends.server.clock

  part : HostSoFar PointState
  part = step_of point_behaviour input world

  Leads : HostSoFar PointState → Type 0
  Leads made = Steps input connection ends (called_all connection made.calls ends) → PointGoes point (IsPointSeen (called_all connection made.calls ends) made.host)

  same : part ≡ host_step point_behaviour now input host
  same = ap (λ (l : LinkState). host_step point_behaviour now input (record host { link = l })) (sym seen.at_end)
      ∙ c.step_settles_first.ensures now now input host (le_refl now)

  step : IsPointStep now input (host_of world) part
  step = c.point_makes_a_step.ensures now input (host_of world)

  new : Ends
  new = called_all connection part.calls ends

  made : Steps input connection ends new → IsStep input connection ends host part
  made steps =
      let is_settled = steps.fit.settled_at
      in let link_is = c.step_takes_and_gives.ensures.link input connection world is_settled
      in record {
        step = step;
        acts = subst (λ l. ActsOn (items_taken now part.calls l) part) is_settled (c.step_tells_what_was_taken.ensures now input (host_of world));
        names = c.steps_keep_a_host.ensures.names now input (host_of world);
        taken_is = c.step_takes_and_gives.ensures.taken input connection world;
        given_is = c.step_takes_and_gives.ensures.given input connection world
            ∙ ap (λ items. kept (entering input connection ends) ends.server.given ++ items) (ap (items_given now part.calls) (sym is_settled) ∙ step.tells.gives);
        link_is = link_is;
        client_is = client_stays connection part.calls ends;
        connection_is = connection_after connection input part.calls ends (c.step_is_calls.ensures.first now input (host_of world));
        at_end = ap (settled (reading_of new.server.clock)) (sym link_is) ∙ steps.fit_after.settled_at;
        reported = step_reported c.point_reports_its_moves.ensures.kept c.what_is_taken_is_acted_on.ensures.steps input connection ends host steps.fit (c.steps_keep_a_host.ensures.names now input (host_of world)) seen.reported;
      }

  here : Leads part
  here steps =
      point_goes c.items_join.ensures.moves c.items_join.ensures.reports c.written_items_are_read.ensures.reports
      c.moves_of_links_are_moves.ensures.point c.moves_of_links_are_moves.ensures.point_link
      input connection ends host point part sound seen steps (λ side. c.point_reports_its_moves.ensures.driven world seen.reported side) moves (made steps)
      (c.steps_find_what_was_reported.ensures.inside world steps.fit.settled_at seen.reported)
      (c.steps_find_what_was_reported.ensures.outside world steps.fit.settled_at seen.reported)
      (c.steps_find_what_was_reported.ensures.undriven world steps.fit.settled_at seen.reported)
      (c.step_takes_and_gives.ensures.outside input connection world)
      (c.step_takes_and_gives.ensures.takes_none input connection world)
      (c.step_takes_and_gives.ensures.gives_none input connection world)
