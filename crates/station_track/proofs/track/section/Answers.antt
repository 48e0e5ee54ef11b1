use Rattle.std.proofs.Common.{sym, subst}
use Rattle.station_track.specs.Meaning.{IfThere}
use Rattle.station_track.proofs.Meanings.{at-there}
use Rattle.station_track.proofs.track.section.Goals as goal

pub place_section-requires : goal.place_section-requires
place_section-requires c = subst (IfThere c.args.layout.now) (sym c.place_at.ensures) (at-there c.args.layout.now c.args.place)
