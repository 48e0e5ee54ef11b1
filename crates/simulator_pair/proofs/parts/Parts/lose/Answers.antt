use Rattle.std.proofs.Common.{◌≡◌, sym, ap, ◌∙◌, subst, List, ◌++◌, take, drop, length, arith}
use Rattle.std.proofs.Math.Seq.{take-append_seam}
use Rattle.rasta_core.specs.Ends.{Sent}
use Rattle.simulator_pair.specs.inside.EventTest.{StandsAt}
use Rattle.simulator_pair.specs.inside.Indexed.{keys_of}
use Rattle.simulator_pair.specs.inside.Order.{AreInOrder}
use Rattle.simulator_pair.proofs.Order.{in_order_losing}
use Rattle.simulator_pair.proofs.parts.Parts.lose.Goals as goal

pub returns-clause-sound : goal.returns-clause-sound
returns-clause-sound c =
    let sound = c.requires.sound
    in let sent = c.as_mut_slice.result.now
    in let Ordered : List Sent → Type 0 = AreInOrder c.args.self.now.time
    in let before = subst Ordered (sym c.as_mut_slice.ensures.value) sound.in_order
    in let lost = c.lose_at.new.sent
    in let rest = drop (length lost) c.args.self.now.sent.items
    in let same_length : c.args.self.now.sent.len ≡ length lost = omega (arith, c.lose_at.auto.sent, c.as_mut_slice.ensures.len)
    in let written = ap (λ n. take n (lost ++ rest)) same_length ∙ take-append_seam lost rest
    in let stored = written ∙ c.lose_at.ensures.lost c.requires.stands.0 (subst (StandsAt c.args.place c.requires.stands.0) (sym c.as_mut_slice.ensures.value) c.requires.stands.1)
    in record {
      client_clock = sound.client_clock;
      server_clock = sound.server_clock;
      nothing_out = sound.nothing_out;
      outbox_room = sound.outbox_room;
      nothing_in = sound.nothing_in;
      in_order = subst Ordered (sym stored) (in_order_losing c.args.self.now.time c.requires.stands.0 sent before);
      indexed = c.lose_at.ensures.indexed ∙ sym (ap keys_of written);
      time_within = sound.time_within;
      client_within = sound.client_within;
      server_within = sound.server_within;
    }
