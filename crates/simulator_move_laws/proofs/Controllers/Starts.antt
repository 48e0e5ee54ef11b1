-- How a step finds the machine's point, in the connection in which its items come.
use Rattle.std.proofs.Common.{◌≡◌, ◌+◌, ◌&&◌, ℕ, true, false, [], length, arith, refl, ap, sym, ◌∙◌, subst}
use Rattle.std.specs.Prelude.{◌≢◌, Option, Some, None, is_some}
use Rattle.std.proofs.lemmas.Bool.{false≢true}
use Rattle.rasta_core.specs.State.{is_open}
use Rattle.rasta_core.specs.Ends.{EndState, kept, newer, reading_of}
use Rattle.rasta_core.specs.Run.{Ends}
use Rattle.object_host.specs.Host.{HostState, HostSoFar}
use Rattle.object_host.specs.Made.{commands_of}
use Rattle.object_host.specs.declared.input.Input.{Input}
use Rattle.object_host_laws.specs.World.{called_all, entering, host_of}
use Rattle.point_ctl.specs.declared.progress.Progress.{Progress}
use Rattle.point_ctl.specs.declared.progress.Progress.TheVariants.{Answered}
use Rattle.point_ctl.specs.Drive.{PointState, move_in}
use Rattle.object_host_laws.specs.Point.{IsFound, found_by, is_moving}
use Rattle.simulator_machine.specs.Link.{Server, Before, In, Gone, Link, LinkMay, Enters, link_after}
use Rattle.simulator_machine.specs.Point.{Point, PointLink, moves_given, reports_made}
use Rattle.simulator_machine.specs.Chains.{LinkMayChain}
use Rattle.simulator_machine.specs.Invariant.{IsPointSound}
use Rattle.simulator_move_laws.specs.Items.{all_said, moves_in, reports_in}
use Rattle.simulator_move_laws.specs.Flows.{of_server}
use Rattle.simulator_move_laws.specs.LinkMoves.{server_moves}
use Rattle.simulator_move_laws.specs.EndsSeen.{client_of, represented, server_of}
use Rattle.simulator_move_laws.specs.Ends.{Steps, hosted_on}
use Rattle.simulator_move_laws.specs.Point.{IsPointSeen}
use Rattle.simulator_move_laws.proofs.Controllers.Moves.{Leads, one, stays}
use Rattle.simulator_move_laws.proofs.Controllers.Places.{in_where_open}

-- a server that enters may, whatever follows
enters_may : (old new : Server) (link : Link) → old ≡ Before → new ≢ Before → LinkMayChain (server_moves old new) link → LinkMay Enters link
enters_may Before Before link is enters may = absurd (enters refl)
enters_may Before In link is enters may = may.0
enters_may Before Gone link is enters may = may.0
enters_may In new link is enters may = absurd (cc (is))
enters_may Gone new link is enters may = absurd (cc (is))

none_of : (taken flight : ℕ) → taken + flight ≡ 0 → taken ≡ 0
none_of taken flight none = omega (arith, none)

module _ (input : Input) (connection : ℕ) (ends : Ends) (host : HostState PointState) (point : Point) (part : HostSoFar PointState) where
  abbrev now : ℕ
  now = reading_of ends.server.clock

  abbrev new : Ends
  new = called_all connection part.calls ends

  abbrev before : HostState PointState
  before = host_of (hosted_on ends host)

  abbrev found : PointState
  found = found_by now before

  -- The point in the connection in which the step's items come, where the server was in it or has entered this one.
  pub record Starts (enters : Option ℕ) (at : Point) : Type 0 where
    pub leads : Leads point at
    pub link : at.link ≡ record { client = client_of ends.client; server = In }
    pub total : moves_given at ≡ moves_given point
    pub taken_is : at.taken ≡ length (moves_in (kept enters ends.server.taken))
    pub heard : at.heard ≡ point.heard
    pub made : reports_made at ≡ reports_in (kept enters ends.server.given)
    pub position : at.position ≡ point.position
    pub driven : at.driven ≡ point.driven
    pub was : is_moving found ≡ true → at.driven ≡ true
    pub found_so : IsFound now (kept enters ends.server.given) (commands_of (kept enters ends.server.taken)) before
    pub in_one : (one : ℕ) × (new.client.connection ≡ Some one) × (new.server.connection ≡ Some one)

  module _ (sound : IsPointSound point) (seen : IsPointSeen ends host point) (steps : Steps input connection ends new)
      (client_same : new.client ≡ ends.client) (connection_is : new.server.connection ≡ newer (entering input connection ends) ends.server.connection)
    where
      -- in the connection that it was in
      pub starts_inside : is_open ends.server.link.phase ≡ true → entering input connection ends ≡ None → IsFound now ends.server.given (commands_of ends.server.taken) before → Starts None point
      unfolding represented
      starts_inside opened none is_found =
          let inside = in_where_open ends steps.fit opened
          in let here = steps.fit.same opened
          in record {
            leads = stays point;
            link = seen.link ∙ ap (λ (s : Server). record { client = client_of ends.client; server = s }) inside;
            total = refl;
            taken_is = seen.taken opened;
            heard = refl;
            made = seen.made ∙ ap (λ s. reports_in (of_server s ends.server.given)) inside;
            position = refl;
            driven = refl;
            was = λ moves. seen.driven ∙ ap (λ b. b && is_moving host.object) opened ∙ is_found.drive moves;
            found_so = is_found;
            in_one = (
              here.0,
              ap (λ (e : EndState). e.connection) client_same ∙ here.1,
              connection_is ∙ ap (λ (e : Option ℕ). newer e ends.server.connection) none ∙ here.2,
            );
          }

      abbrev entered_point : Point
      entered_point = record point { link = link_after Enters point.link }

      -- in one that it enters
      pub starts_entering : (entered : ℕ) → is_open ends.server.link.phase ≡ false → entering input connection ends ≡ Some entered → server_of new ≢ Before →
          found.progress ≡ Answered → IsFound now [] [] before → Starts (Some entered) entered_point
      unfolding represented all_said commands_of
      starts_entering entered closed some enters answered is_found =
          let rightly = steps.enters entered some
          in let at_before : point.link.server ≡ Before = ap (λ (l : Link). l.server) seen.link ∙ rightly.0
          in let may : LinkMay Enters point.link = enters_may (server_of ends) (server_of new) point.link rightly.0 enters (subst (LinkMayChain (server_moves (server_of ends) (server_of new))) (sym seen.link) steps.goes.may)
          in record {
            leads = one (PointLink Enters) point may;
            link = ap (λ (l : Link). record l { server = In }) seen.link;
            total = refl;
            taken_is = none_of point.taken point.flight (sound.none_given at_before);
            heard = refl;
            made = sound.none_made at_before;
            position = refl;
            driven = refl;
            was = λ moves. absurd (false≢true (sym (ap (λ (p : Progress). is_some (move_in p)) answered) ∙ moves));
            found_so = is_found;
            in_one = (
              entered,
              ap (λ (e : EndState). e.connection) client_same ∙ rightly.1,
              connection_is ∙ ap (λ (e : Option ℕ). newer e ends.server.connection) some,
            );
          }
