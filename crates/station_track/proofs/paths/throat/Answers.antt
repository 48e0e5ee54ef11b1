use Rattle.std.proofs.Common.{◌≡◌, ◌∙◌, true, sym, ap, subst}
use Rattle.station_track.specs.declared.place.Place.TheVariants as place
use Rattle.station_track.specs.Ports.{front, beyond}
use Rattle.station_track.specs.Throats.{has_signal}
use Rattle.station_track.specs.Meaning.{IfPort}
use Rattle.station_track.proofs.Loops.{beyond-there}
use Rattle.station_track.proofs.AheadLaws.{outside-there}
use Rattle.station_track.proofs.paths.throat.Goals as goal

pub place_number-requires : goal.place_number-requires
place_number-requires c =
    let lit : has_signal c.args.layout.now (front (place.Outside (record { 0 = c.args.border }))) ≡ true = cc in
    outside-there c.args.layout.now (record { 0 = c.args.border }) c.limits.ensures.station lit

pub throat_from-requires : goal.throat_from-requires
throat_from-requires c =
    subst (IfPort c.args.layout.now) (sym (c.beyond.ensures ∙ ap (λ joints. beyond joints c.front-2.result) c.joints.ensures.lent))
    (beyond-there c.args.layout.now c.limits.ensures.station c.front-2.result)
