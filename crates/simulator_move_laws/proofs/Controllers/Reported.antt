-- What a step leaves of a point's host.
use Rattle.std.proofs.Common.{◌≡◌, ℕ, List, [], ◌++◌, refl, ap, sym, ◌∙◌, subst}
use Rattle.std.proofs.lemmas.List.{append-nil}
use Rattle.sci_telegram.specs.declared.telegram.Telegram.{Telegram}
use Rattle.rasta_core.specs.Clock.{settled}
use Rattle.rasta_core.specs.Ends.{kept, reading_of}
use Rattle.rasta_core.specs.Run.{Ends}
use Rattle.object_host.specs.Host.{HostState, HostSoFar}
use Rattle.object_host.specs.Hosted.{IsNamedAs}
use Rattle.object_host.specs.Made.{commands_of}
use Rattle.object_host.specs.Step.{host_step}
use Rattle.object_host.specs.declared.input.Input.{Input}
use Rattle.object_host_laws.specs.Acted.{IsActedOn}
use Rattle.object_host_laws.specs.World.{Event, Steps as WorldSteps, World, called_all, entering, happened, host_of, step_of, stepped, told_since}
use Rattle.point_ctl.specs.Controlled.{point_behaviour}
use Rattle.point_ctl.specs.Drive.{PointState}
use Rattle.object_host_laws.specs.Point as theorem
use Rattle.object_host_laws.specs.Point.{IsReported}
use Rattle.simulator_move_laws.specs.Ends.{AreFit, hosted_on}

module _
    (kept_law : (event : Event PointState) (world : World PointState) → settled (reading_of world.ends.server.clock) world.ends.server.link ≡ world.ends.server.link
    → IsReported world → IsReported (happened point_behaviour event world))
    (acted_law : (input : Input) (connection : ℕ) (ends : Ends) (host : HostState PointState) (acted : List (List ℕ)) (told : List Telegram) → host.link ≡ ends.server.link
    → settled (reading_of ends.server.clock) ends.server.link ≡ ends.server.link → IsActedOn ends.server acted told
    → IsActedOn (called_all connection (host_step point_behaviour (reading_of ends.server.clock) input host).calls ends).server
    (kept (entering input connection ends) acted ++ (host_step point_behaviour (reading_of ends.server.clock) input host).acted)
    (told_since (entering input connection ends) told ++ (host_step point_behaviour (reading_of ends.server.clock) input host).told))
  where
    pub step_reported : (input : Input) (connection : ℕ) (ends : Ends) (host : HostState PointState) → AreFit ends → IsNamedAs (host_of (hosted_on ends host)) (step_of point_behaviour input (hosted_on ends host)).host → IsReported (hosted_on ends host) →
        IsReported (hosted_on (called_all connection (step_of point_behaviour input (hosted_on ends host)).calls ends) (step_of point_behaviour input (hosted_on ends host)).host)
    unfolding happened stepped
    step_reported input connection ends host fit names reported =
        let world : World PointState = hosted_on ends host
        in let part : HostSoFar PointState = step_of point_behaviour input world
        in let new : Ends = called_all connection part.calls ends
        in let after : IsReported (stepped point_behaviour input connection world) = kept_law (WorldSteps input connection) world fit.settled_at reported
        in let acted = acted_law input connection ends (host_of world) ends.server.taken (commands_of ends.server.taken) refl fit.settled_at
        (record { dropped = []; beginning = sym (append-nil ends.server.taken); whole = λ _. refl; told_is = refl })
        in let named : List ℕ → List ℕ → ℕ → HostState PointState = λ own peer version.
        record { link = new.server.link; stage = part.host.stage; object = part.host.object; own_name = own; peer_name = peer; version = version }
        in let Reporting : List Telegram → HostState PointState → Type 0 = λ telegrams now. theorem.IsReporting new.server.given telegrams now
        in record {
          steady = record { outside = after.steady.outside; idle = after.steady.idle };
          until = after.until;
          answered = after.answered;
          inside = λ opened.
              let telegrams = told_since (entering input connection ends) (commands_of ends.server.taken) ++ part.told
              in let same : telegrams ≡ commands_of new.server.taken =
              acted.told_is ∙ ap commands_of (sym (acted.beginning ∙ ap (λ xs. (kept (entering input connection ends) ends.server.taken ++ part.acted) ++ xs) (acted.whole opened)
              ∙ append-nil (kept (entering input connection ends) ends.server.taken ++ part.acted)))
              in subst (λ ts. Reporting ts (named part.host.own_name part.host.peer_name part.host.version)) same
              (subst (λ v. Reporting telegrams (named part.host.own_name part.host.peer_name v)) (sym names.version)
              (subst (λ p. Reporting telegrams (named part.host.own_name p host.version)) (sym names.peer_name)
              (subst (λ o. Reporting telegrams (named o host.peer_name host.version)) (sym names.own_name) (after.inside opened))));
          late = after.late;
        }
