use Rattle.simulator_safety.proofs.Changed.{ChangeLaws, none_changed, point_changed, signal_changed}
use Rattle.simulator_safety.proofs.changes.changes_are_represented.Goals as goal

pub returns : goal.returns
returns c =
    let laws : ChangeLaws = record {
      stays = record { signal = c.signals_stay_elsewhere.ensures; point = c.points_stay_elsewhere.ensures; station = c.controllers_change_nothing_seen.ensures };
      signal_moves = c.moves_of_one_are_moves.ensures.signal;
      point_moves = c.moves_of_one_are_moves.ensures.point;
      none = c.lists_of_moves_compose.ensures.none;
      reached = c.invariant_is_kept.ensures.reached;
      sound = c.tables_are_sound.ensures;
      same = c.equal_numbers_are_same.ensures.same;
      other = c.equal_numbers_are_same.ensures.other;
    }
    in record {
      signal = λ site table world new machine represented after place next below change goes.
          signal_changed laws site table world new machine represented after change.leaves place next below goes change.signals change.others change.host change.points change.positions;
      point = λ site table world new machine represented after place next below change goes.
          point_changed laws site table world new machine represented after change.leaves place next below goes change.points change.others change.host change.stands change.elsewhere change.signals change.count;
      none = λ site table world new machine represented after change.
          none_changed laws site table world new machine represented after change.leaves change.signals change.points change.positions change.servers;
    }
