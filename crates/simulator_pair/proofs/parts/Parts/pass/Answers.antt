use Rattle.std.proofs.Common.{ap, arith}
use Rattle.rasta_core.specs.Ends.{end_later}
use Rattle.simulator_pair.specs.inside.Seen.{seen_end}
use Rattle.simulator_pair.specs.inside.Parts.{seen_ends}
use Rattle.simulator_pair.proofs.Order.{in_order_later}
use Rattle.simulator_pair.proofs.Limits.{within_limits}
use Rattle.simulator_pair.proofs.parts.Parts.pass.Goals as goal

pub returns-clause-sound : goal.returns-clause-sound
unfolding seen_ends seen_end end_later
returns-clause-sound c =
    let sound = c.requires.sound
    in let limits = within_limits _ _ _ _ c.requires.allowed
    in let client = ap (λ e. e.clock) c.pass.ensures.end
    in let server = ap (λ e. e.clock) c.pass-2.ensures.end
    in record {
      client_clock = c.pass.ensures.clock;
      server_clock = c.pass-2.ensures.clock;
      nothing_out = sound.nothing_out;
      outbox_room = sound.outbox_room;
      nothing_in = sound.nothing_in;
      in_order = in_order_later _ _ _ (omega arith) sound.in_order;
      indexed = sound.indexed;
      time_within = limits.0;
      client_within = omega (arith, client, limits.1);
      server_within = omega (arith, server, limits.2);
    }
