use Rattle.std.proofs.Common.{sym, subst}
use Rattle.station_track.specs.Meaning.{IfThere}
use Rattle.station_track.proofs.Loops.{between-there}
use Rattle.station_track.proofs.paths.places_from.Goals as goal

pub number_of-requires : goal.number_of-requires
number_of-requires c =
    subst (IfThere c.args.layout.now) (sym c.place_between-place.ensures) (between-there c.args.layout.now c.beyond.result _ (c.requires c.loop-left.left-index _ c.loop-left-test.true))
