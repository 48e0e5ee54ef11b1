-- What was worked by hand.
use Rattle.std.proofs.Common.{refl}
use Rattle.control_table.specs.layout.Entries.{Site}
use Rattle.node_record.specs.Worked.{Worked}

pub worked : (site : Site) → Worked site
worked site = record {
  read = refl;
  away = refl;
  away_in_part = refl;
  away_uncounted = refl;
  over_one = refl;
  over_second = refl;
  over_third = refl;
  over_none = refl;
  failed = refl;
  heard = refl;
  heard_nothing = refl;
  written = refl;
  broken_off = refl;
  complained = refl;
  no_number = refl;
  no_text = refl;
  no_line = refl;
  broken = refl;
  for_ever = refl;
  for_a_minute = refl;
  answered = refl;
  stranger = refl;
  another = refl;
  controller = refl;
  late = refl;
  unread = refl;
  told_over = refl;
  told_over_one = refl;
  outward = refl;
  inward = refl;
  inward_over_second = refl;
  stamped = refl;
  unremarked = refl;
  remarked = refl;
  lamp = refl;
  motor = refl;
  ordered_nothing = refl;
  commands = refl;
}
