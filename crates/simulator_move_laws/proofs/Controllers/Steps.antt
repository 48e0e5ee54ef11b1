-- Every step of a point's host is a list of moves of the machine's point.
use Rattle.std.proofs.Common.{◌≡◌, ℕ, inl, inr, Bool, true, false, List, [], ◌∷◌, ◌++◌, map, refl, ap, sym, ◌∙◌, subst}
use Rattle.std.specs.Prelude.{◌<◌, ◌≢◌, Option, Some, None, is_some}
use Rattle.std.proofs.lemmas.Bool.{true≢false, false≢true}
use Rattle.sci_telegram.specs.Names.{IsName}
use Rattle.sci_telegram.specs.Telegrams.{IsTelegram, writing}
use Rattle.sci_telegram.specs.declared.message.Side as told
use Rattle.sci_telegram.specs.declared.telegram.Telegram.{Telegram}
use Rattle.rasta_core.specs.State.{is_open}
use Rattle.rasta_core.specs.Ends.{EndState, newer, reading_of}
use Rattle.rasta_core.specs.Run.{Ends}
use Rattle.object_host.specs.Host.{HostState, HostSoFar}
use Rattle.object_host.specs.Made.{commands_of}
use Rattle.object_host.specs.declared.input.Input.{Input}
use Rattle.object_host_laws.specs.World.{called_all, entering, host_of}
use Rattle.point_ctl.specs.declared.progress.Progress.TheVariants.{Answered}
use Rattle.point_ctl.specs.Drive.{PointState, drives}
use Rattle.object_host_laws.specs.Point.{IsFound, found_by, is_moving, position_told}
use Rattle.simulator_machine.specs.Link.{Before, LinkMove, Enters, link_after}
use Rattle.simulator_machine.specs.Point.{Point, PointLink}
use Rattle.simulator_machine.specs.Chains.{LinkMayChain, PointMayChain, link_chained, point_chained}
use Rattle.simulator_machine.specs.Invariant.{IsPointSound}
use Rattle.simulator_move_laws.specs.Items.{moves_in, reports_in, reports_of}
use Rattle.simulator_move_laws.specs.LinkMoves.{server_moves}
use Rattle.simulator_move_laws.specs.EndsSeen.{server_of}
use Rattle.simulator_move_laws.specs.Ends.{AreFit, Steps, hosted_on}
use Rattle.simulator_move_laws.specs.Point.{AreSaid, IsMovedDriven, IsPointSeen, PointGoes}
use Rattle.simulator_move_laws.proofs.Controllers.Moves.{one}
use Rattle.simulator_move_laws.proofs.Controllers.Places.{gone_where_closed, in_where_open, server_opens_none}
use Rattle.simulator_move_laws.proofs.Controllers.Starts.{starts_entering, starts_inside}
use Rattle.simulator_move_laws.proofs.Controllers.KnownPoints.{IsStep, inside_goes}
use Rattle.simulator_move_laws.proofs.Controllers.ItemsTold.{said_by_same}
use Rattle.simulator_move_laws.proofs.Controllers.Turns.{linked_seen, reports_stay}

-- an end that has left, or that has entered, hasn't the connection before it
not_before : (ends : Ends) → AreFit ends → ((one : ℕ) × (ends.client.connection ≡ Some one) × (ends.server.connection ≡ Some one)) → server_of ends ≢ Before
not_before ends fit here before = by (is_open ends.server.link.phase) refl where
  by : (b : Bool) → is_open ends.server.link.phase ≡ b → ⊥
  by true opened = absurd (cc (before, in_where_open ends fit opened))
  by false closed = absurd (cc (before, gone_where_closed ends fit closed here))

module _
    (moves_join : (first others : List (List ℕ)) → moves_in (first ++ others) ≡ moves_in first ++ moves_in others)
    (reports_join : (first others : List (List ℕ)) → reports_in (first ++ others) ≡ reports_in first ++ reports_in others)
    (reports_written : (telegram : Telegram) → IsTelegram telegram → reports_in (writing telegram ∷ []) ≡ reports_of telegram.message)
    (linked_may : (moves : List LinkMove) (point : Point) → LinkMayChain moves point.link → PointMayChain (map PointLink moves) point)
    (linked_link : (moves : List LinkMove) (point : Point) → (point_chained (map PointLink moves) point).link ≡ link_chained moves point.link)
  where
    module _ (input : Input) (connection : ℕ) (ends : Ends) (host : HostState PointState) (point : Point) (part : HostSoFar PointState)
        (sound : IsPointSound point) (seen : IsPointSeen ends host point) (steps : Steps input connection ends (called_all connection part.calls ends))
        (driven_law : (side : told.Side) → drives (reading_of ends.server.clock) host.object ≡ Some side → (is_open ends.server.link.phase ≡ true) × (is_moving host.object ≡ true))
        (moves : IsMovedDriven ends input host) (made : IsStep input connection ends host part)
        (found_inside : is_open ends.server.link.phase ≡ true → IsFound (reading_of ends.server.clock) ends.server.given (commands_of ends.server.taken) (host_of (hosted_on ends host)))
        (found_outside : is_open ends.server.link.phase ≡ false → IsFound (reading_of ends.server.clock) [] [] (host_of (hosted_on ends host)))
        (found_answered : is_open ends.server.link.phase ≡ false → (found_by (reading_of ends.server.clock) (host_of (hosted_on ends host))).progress ≡ Answered)
        (stays_out : entering input connection ends ≡ None → is_open ends.server.link.phase ≡ false → is_open (called_all connection part.calls ends).server.link.phase ≡ false)
        (takes_none : entering input connection ends ≡ None → is_open ends.server.link.phase ≡ false → (called_all connection part.calls ends).server.taken ≡ ends.server.taken)
        (gives_none : entering input connection ends ≡ None → is_open ends.server.link.phase ≡ false → (called_all connection part.calls ends).server.given ≡ ends.server.given)
      where
        abbrev new : Ends
        new = called_all connection part.calls ends

        -- a contact of a point whose controller is in no connection tells where the point stands
        stands_outside : is_open ends.server.link.phase ≡ false → part.host.object.sensed ≡ host.object.sensed
        stands_outside closed = made.step.stands_after ∙ made.step.stands ∙ (elim moves [
          | inl same ↦ same
          | inr driving ↦ by (drives (reading_of ends.server.clock) host.object) refl driving
        ]) where
          by : (side : Option told.Side) → drives (reading_of ends.server.clock) host.object ≡ side → is_some (drives (reading_of ends.server.clock) host.object) ≡ true →
              position_told input host.object.sensed ≡ host.object.sensed
          by None is driving = absurd (false≢true (sym (ap is_some is) ∙ driving))
          by (Some side) is driving = absurd (true≢false (sym (driven_law side is).0 ∙ closed))

        outside : entering input connection ends ≡ None → is_open ends.server.link.phase ≡ false → PointGoes point (IsPointSeen new part.host)
        outside none closed =
            linked_seen linked_may linked_link (server_moves (server_of ends) (server_of new)) ends new host part.host point steps.fit steps.fit_after
            (server_opens_none (server_of ends) (server_of new)) steps.goes seen made.at_end
            (record {
              own = subst IsName (sym made.names.own_name) seen.named.own;
              peer = subst IsName (sym made.names.peer_name) seen.named.peer;
              version = subst (λ v. v < 256) (sym made.names.version) seen.named.version;
            })
            (subst (AreSaid part.host.own_name part.host.peer_name) (sym (gives_none none closed)) (said_by_same host part.host ends.server.given made.names.own_name made.names.peer_name seen.said))
            made.reported (ap (λ (e : EndState). e.given) made.client_is) (takes_none none closed)
            (reports_stay ends new steps.fit steps.fit_after (ap (λ (e : EndState). e.connection) made.client_is)
            (made.connection_is ∙ ap (λ (e : Option ℕ). newer e ends.server.connection) none) (gives_none none closed)
            (λ opened. absurd (true≢false (sym opened ∙ stays_out none closed))))
            (stands_outside closed) (λ opened. absurd (true≢false (sym opened ∙ stays_out none closed)))

        entered : (one : ℕ) → entering input connection ends ≡ Some one → is_open ends.server.link.phase ≡ false → PointGoes point (IsPointSeen new part.host)
        entered one some closed =
            let in_one : (one : ℕ) × (new.client.connection ≡ Some one) × (new.server.connection ≡ Some one) = (
              one,
              ap (λ (e : EndState). e.connection) made.client_is ∙ (steps.enters one some).1,
              made.connection_is ∙ ap (λ (e : Option ℕ). newer e ends.server.connection) some,
            )
            in inside_goes moves_join reports_join reports_written input connection ends host point part (Some one) (record point { link = link_after Enters point.link }) seen steps driven_law moves made some
            (starts_entering input connection ends host point part sound seen steps made.client_is made.connection_is one closed some
            (not_before new steps.fit_after in_one) (found_answered closed) (found_outside closed))

        stayed : entering input connection ends ≡ None → is_open ends.server.link.phase ≡ true → PointGoes point (IsPointSeen new part.host)
        stayed none opened =
            inside_goes moves_join reports_join reports_written input connection ends host point part None point seen steps driven_law moves made none
            (starts_inside input connection ends host point part sound seen steps made.client_is made.connection_is opened none (found_inside opened))

        pub point_goes : PointGoes point (IsPointSeen new part.host)
        point_goes = by (is_open ends.server.link.phase) (entering input connection ends) refl refl where
          by : (b : Bool) (e : Option ℕ) → is_open ends.server.link.phase ≡ b → entering input connection ends ≡ e → PointGoes point (IsPointSeen new part.host)
          by true None opened none = stayed none opened
          by true (Some one) opened some = absurd (cc ((steps.enters one some).0, in_where_open ends steps.fit opened))
          by false None closed none = outside none closed
          by false (Some one) closed some = entered one some closed
