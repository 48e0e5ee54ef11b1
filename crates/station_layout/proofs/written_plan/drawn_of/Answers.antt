use Rattle.station_layout.proofs.written_plan.drawn_of.Goals as goal

pub returns-clause-drawn : goal.returns-clause-drawn
returns-clause-drawn c = record {
  answered = record { route = c.in-Ok.route; asked = c.in-Ok.ensures.asked; readable = c.in_ok-seen.ensures.given };
  seen = c.in_ok-seen.seen;
  seen_in = c.in_ok-seen.ensures.seen;
  drawn = (c.in_ok-plan.plan, c.in_ok-plan.ensures, c.in_ok-text.ensures);
}
