-- The requests that were worked by hand.
use Rattle.std.proofs.Common.{refl}
use Rattle.node_lines.specs.layout.Entries.{Site}
use Rattle.panel_desk.specs.Worked.{Worked}

pub worked : (site : Site) → Worked site
worked site = record {
  page = refl;
  station = refl;
  metrics = refl;
  state = refl;
  resume = refl;
  cancel_all = refl;
  drop = refl;
  posted_line = refl;
  other_host = refl;
  no_host = refl;
  other_port = refl;
  nothing = refl;
  other_name = refl;
  command_got = refl;
  metrics_posted = refl;
  metrics_elsewhere = refl;
  page_posted = refl;
  no_number = refl;
  other_origin = refl;
  no_origin = refl;
  other_token = refl;
  no_token = refl;
  too_long = refl;
  no_text = λ body not. rw not refl;
  no_command = refl;
  spaced = refl;
}
