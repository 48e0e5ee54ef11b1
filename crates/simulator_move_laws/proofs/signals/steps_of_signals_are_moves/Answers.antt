use Rattle.std.proofs.Common.{◌≡◌, ℕ, Bool, true, false, refl, ap, sym, ◌∙◌, subst}
use Rattle.std.specs.Prelude.{None}
use Rattle.std.proofs.Math.Nat.{le_refl}
use Rattle.std.proofs.lemmas.Bool.{true≢false}
use Rattle.rasta_core.specs.Clock.{settled}
use Rattle.rasta_core.specs.Ends.{reading_of}
use Rattle.rasta_core.specs.Run.{Ends}
use Rattle.rasta_core.specs.State.{LinkState, is_open}
use Rattle.object_host.specs.Host.{HostSoFar}
use Rattle.object_host.specs.Made.{items_taken}
use Rattle.object_host.specs.Step.{host_step}
use Rattle.object_host_laws.specs.World.{World, called_all, entering, step_of, stepped}
use Rattle.signal_ctl.specs.Signal.{SignalState, signal_behaviour}
use Rattle.simulator_move_laws.specs.Ends.{IsAtEnd, Steps, hosted_on}
use Rattle.simulator_move_laws.specs.Signal.{IsSignalSeen, SignalGoes}
use Rattle.simulator_move_laws.proofs.Controllers.Places.{client_stays}
use Rattle.simulator_move_laws.proofs.Controllers.Lamps.{signal_goes, step_told}
use Rattle.simulator_move_laws.proofs.signals.steps_of_signals_are_moves.Goals as goal

pub returns : goal.returns
unfolding stepped
returns c input connection ends host signal sound seen =
    subst Leads same here
  where
    world : World SignalState
    world = hosted_on ends host

    now : ℕ
    now = reading_of ends.server.clock

    part : HostSoFar SignalState
    part = step_of signal_behaviour input world

    Leads : HostSoFar SignalState → Type 0
    Leads made = Steps input connection ends (called_all connection made.calls ends) → SignalGoes signal (IsSignalSeen (called_all connection made.calls ends) made.host)

    same : part ≡ host_step signal_behaviour now input host
    same = ap (λ (l : LinkState). host_step signal_behaviour now input (record host { link = l })) (sym seen.at_end)
        ∙ c.step_settles_first.ensures now now input host (le_refl now)

    opened : Steps input connection ends (called_all connection part.calls ends) → is_open (called_all connection part.calls ends).server.link.phase ≡ true → entering input connection ends ≡ None →
        is_open ends.server.link.phase ≡ true
    opened steps is none = by (is_open ends.server.link.phase) refl where
      by : (b : Bool) → is_open ends.server.link.phase ≡ b → b ≡ true
      by true was = refl
      by false was = absurd (true≢false (sym is ∙ c.step_takes_and_gives.ensures.outside input connection world none was))

    here : Leads part
    here steps =
        let new : Ends = called_all connection part.calls ends
        in let link_is = c.step_takes_and_gives.ensures.link input connection world steps.fit.settled_at
        in let at_end : IsAtEnd new part.host = ap (settled (reading_of new.server.clock)) (sym link_is) ∙ steps.fit_after.settled_at
        in signal_goes c.moves_of_links_are_moves.ensures.signal c.moves_of_links_are_moves.ensures.signal_link c.items_join.ensures.aspects
        input connection ends new host part.host signal sound seen steps (client_stays connection part.calls ends)
        (items_taken now part.calls ends.server.link) (c.step_takes_and_gives.ensures.taken input connection world)
        (opened steps) at_end (step_told c.signal_shows_what_was_told.ensures.kept c.what_is_taken_is_acted_on.ensures.steps input connection ends host steps.fit seen.told)
