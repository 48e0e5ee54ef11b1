use Rattle.std.proofs.Common.{◌≡◌, ap, ◌∙◌, [], length, rules}
use Rattle.std.proofs.lemmas.List.{length-map}
use Rattle.std.specs.List.{zip}
use Rattle.simulator_spec.specs.layout.Entries.{Site}
use Rattle.simulator_spec.specs.First.{Outset, first_interlocking}
use Rattle.simulator_spec.specs.State.{WorldState}
use Rattle.simulator_field.specs.Field.{world_of}
use Rattle.simulator_field.specs.Network.{NetworkState}
use Rattle.simulator_field.proofs.First.{length_zipped, outset_seen}
use Rattle.simulator_field.proofs.field.Field.at.Goals as goal

pub returns-clause-first : goal.returns-clause-first
unfolding world_of
returns-clause-first c = λ table.
    let site : Site = c.args.table.now
    in let outset : Outset = record { positions = c.args.positions.now; occupancies = c.args.occupancies.now }
    in let seen : NetworkState → WorldState = λ network. record {
      time = network.time;
      interlocking = first_interlocking site table;
      signals = c.in_ok-first_signals.field-0.items;
      points = c.in_ok-first_points.field-0.items;
      detectors = c.in_ok-first_detectors.field-0.items;
      positions = c.in_ok-to_vec.field-0.items;
      occupancies = c.in_ok-to_vec-2.field-0.items;
      sent = network.sent;
      frozen = [];
    }
    in ap seen c.new.ensures
    ∙ outset_seen site table outset c.in_ok-first_signals.field-0.items c.in_ok-first_points.field-0.items c.in_ok-first_detectors.field-0.items c.in_ok-to_vec.field-0.items c.in_ok-to_vec-2.field-0.items
    c.in_ok-first_signals.ensures c.in_ok-first_points.ensures c.in_ok-first_detectors.ensures (c.in_ok-to_vec.ensures.items_if_clones_equal (search rules)) (c.in_ok-to_vec-2.ensures.items_if_clones_equal (search rules))

pub returns-clause-each : goal.returns-clause-each
returns-clause-each c =
    let site : Site = c.args.table.now
    in let positions = c.args.positions.now
    in record {
      signals = ap length c.in_ok-first_signals.ensures ∙ length-map site.signals _;
      points = ap length c.in_ok-first_points.ensures ∙ (length-map (zip site.points positions) _ ∙ length_zipped site.points positions c.requires.positions);
      detectors = ap length c.in_ok-first_detectors.ensures ∙ length-map site.detectors _;
      positions = ap length (c.in_ok-to_vec.ensures.items_if_clones_equal (search rules)) ∙ c.requires.positions;
      occupancies = ap length (c.in_ok-to_vec-2.ensures.items_if_clones_equal (search rules)) ∙ c.requires.occupancies;
    }
