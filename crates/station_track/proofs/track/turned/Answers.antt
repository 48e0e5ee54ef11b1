use Rattle.std.proofs.Common.{sym, subst}
use Rattle.station_track.specs.Places.{HasPlace}
use Rattle.station_track.proofs.Meanings.{turned-has}
use Rattle.station_track.proofs.track.turned.Goals as goal

pub place_number-requires : goal.place_number-requires
place_number-requires c = subst (HasPlace c.args.layout.now) (sym c.turned_place.ensures) (turned-has c.args.layout.now c.args.place c.in-Some.place (cc))
