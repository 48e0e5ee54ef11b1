use Rattle.simulator_link_laws.specs.rasta_core.Links.{begun}
use Rattle.simulator_link_laws.specs.simulator_move_laws.Lawful.{AreLawful}
use Rattle.simulator_link_laws.specs.simulator_move_laws.Rows.{machine_table}
use Rattle.simulator_link_laws.specs.Whole.{IsWhole}
use Rattle.simulator_link_laws.specs.simulator_spec.First.{world_at}
use Rattle.simulator_link_laws.specs.simulator_spec.Links.{names_at, starts_at_zero}
use Rattle.simulator_link_laws.specs.simulator_spec.Nodes.{links}
use Rattle.simulator_safety.specs.Seen.{positions_at}
use Rattle.simulator_safety.proofs.FirstWorld.{FirstLaws, first_frozen, first_points, first_signals, first_station}
use Rattle.simulator_safety.proofs.first.stations_begin_represented.Goals as goal

pub returns : goal.returns
returns c =
    let laws : FirstLaws = record {
      signals = c.signals_begin_seen.ensures;
      points = c.points_begin_seen.ensures;
      fit = c.lawful_ends_are_fit.ensures.fit;
      each = c.lawful_worlds_stay_lawful.ensures.each;
      signal_named = c.links_are_named_by_their_controllers.ensures.signal;
      point_named = c.links_are_named_by_their_controllers.ensures.point;
      made_seen = c.made_interlockings_are_seen.ensures.seen;
      quiet = c.made_interlockings_are_seen.ensures.first;
      holds = c.a_restarted_interlocking_holds.ensures;
    }
    in λ site table outset station once is.
    let lawful : AreLawful (links site) (names_at site) (begun (names_at site) starts_at_zero)
    = c.lawful_worlds_stay_lawful.ensures.starts (links site) (names_at site) starts_at_zero (c.layouts_name_their_links.ensures site station once)
    in let whole : IsWhole site (world_at site table outset) = (c.stations_have_links.ensures.first site table outset station is).whole
    in record {
      network = begun (names_at site) starts_at_zero;
      linked = record { are = c.a_station_begins_its_links.ensures site table outset is; lawful = lawful; whole = whole };
      signals = first_signals laws site table outset is lawful whole;
      points = first_points laws site table outset is lawful whole;
      station = first_station laws site table outset is lawful whole;
      frozen = first_frozen laws site table outset is lawful whole;
      invariant = c.invariant_is_kept.ensures.first (machine_table table) (positions_at outset);
    }
