use Rattle.std.proofs.Common.{◌≡◌, ℕ, List, sym, subst}
use Rattle.simulator_event.specs.declared.event.Event.{Event}
use Rattle.replay_lines.specs.Events.{event}
use Rattle.replay_lines.specs.Given.{Gives}
use Rattle.replay_lines.proofs.words.read_event.Goals as goal

pub returns-in-Some : goal.returns-in-Some
returns-in-Some c = subst (λ (ws : List (List ℕ)). Gives (λ (e : Event). e) (event c.args.layout.now ws) c.event_with.result) (sym c.in-Some.ensures.steps) c.event_with.ensures
