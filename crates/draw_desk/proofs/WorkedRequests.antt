-- The requests that were worked by hand.
use Rattle.std.proofs.Common.{refl}
use Rattle.draw_desk.specs.Worked.{Worked}

pub worked : Worked
worked = record {
  page = refl;
  layout = refl;
  check = refl;
  save = refl;
  start = refl;
  stop = refl;
  other_host = refl;
  no_host = refl;
  other_port = refl;
  nothing = refl;
  save_got = refl;
  page_posted = refl;
  other_origin = refl;
  no_origin = refl;
  other_token = refl;
  no_token = refl;
  no_word = refl;
  anything = refl;
  no_claim = refl;
  as_known = refl;
  changed = refl;
  gone = refl;
  new = refl;
  came = refl;
  over = refl;
  read_again = refl;
  read_anew = refl;
}
