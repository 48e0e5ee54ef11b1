use Rattle.std.proofs.Common.{◌≤◌, ap, sym, ◌∙◌, arith}
use Rattle.rasta_core.specs.Calls.{created}
use Rattle.rasta_core.specs.Ends.{reading_of}
use Rattle.simulator_pair.specs.Events.{clock_limit}
use Rattle.simulator_pair.specs.inside.Seen.{IsAtClock}
use Rattle.simulator_pair.proofs.Limits.{reading-milliseconds}
use Rattle.simulator_pair.proofs.parts.Parts.restart.Goals as goal

pub returns-in-Client-clause-sound : goal.returns-in-Client-clause-sound
unfolding created
returns-in-Client-clause-sound c =
    let sound = c.requires.sound
    in let made = c.restart.ensures
    in let within : c.restart.new.self.clock ≤ clock_limit = omega (arith, made.clock, c.requires.allowed)
    in let at_clock : IsAtClock c.restart.new.self = ap (λ l. l.clock) (made.link ∙ c.in_ok-link.ensures) ∙ sym (ap reading_of made.clock ∙ reading-milliseconds c.args.clock)
    in record {
      client_clock = at_clock;
      server_clock = sound.server_clock;
      nothing_out = sound.nothing_out;
      outbox_room = sound.outbox_room;
      nothing_in = sound.nothing_in;
      in_order = sound.in_order;
      indexed = sound.indexed;
      time_within = sound.time_within;
      client_within = within;
      server_within = sound.server_within;
    }

pub returns-in-Server-clause-sound : goal.returns-in-Server-clause-sound
unfolding created
returns-in-Server-clause-sound c =
    let sound = c.requires.sound
    in let made = c.restart-in-Server.ensures
    in let within : c.restart-in-Server.new.self.clock ≤ clock_limit = omega (arith, made.clock, c.requires.allowed)
    in let at_clock : IsAtClock c.restart-in-Server.new.self = ap (λ l. l.clock) (made.link ∙ c.in_ok-link.ensures) ∙ sym (ap reading_of made.clock ∙ reading-milliseconds c.args.clock)
    in record {
      client_clock = sound.client_clock;
      server_clock = at_clock;
      nothing_out = sound.nothing_out;
      outbox_room = sound.outbox_room;
      nothing_in = sound.nothing_in;
      in_order = sound.in_order;
      indexed = sound.indexed;
      time_within = sound.time_within;
      client_within = sound.client_within;
      server_within = within;
    }
