-- The lines that were worked by hand.
use Rattle.std.proofs.Common.{refl}
use Rattle.std.specs.Fmt.{digits}
use Rattle.replay_lines.specs.ixl_spec.layout.Entries.{Site}
use Rattle.node_lines.specs.Worked.{Worked}

pub worked : (site : Site) → Worked site
unfolding digits
worked site = record {
  proceed = refl;
  stop = refl;
  left = refl;
  none = refl;
  lit = refl;
  slow = refl;
  fallen = refl;
  driven = refl;
  let_go = refl;
  without = refl;
  not_until = refl;
  too_much = refl;
  no_number = refl;
  done = refl;
  moves = refl;
  spaced = refl;
  all = refl;
}
