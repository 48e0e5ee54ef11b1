use Rattle.std.proofs.Common.{Some, sym}
use Rattle.station_layout.proofs.seen.seen_in.Goals as goal

pub returns-clause-seen : goal.returns-clause-seen
returns-clause-seen c =
    rw c.in-Some.is (
      Some c.in-Ok.sightings.items,
      c.in-Ok.ensures,
      rw (sym c.layout.ensures.entries) (rw (sym c.deref.ensures.value) c.in_ok-seen.ensures),
    )
