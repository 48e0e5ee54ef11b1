use Rattle.std.proofs.Common.{◌≡◌, sym, subst}
use Rattle.station_track.specs.Ahead.{IfOnto, ahead}
use Rattle.station_track.proofs.AheadLaws.{ahead-there}
use Rattle.station_track.proofs.ahead.ahead_of.Goals as goal

pub returns-clause-there : goal.returns-clause-there
returns-clause-there c =
    let is : c.behind_port.result ≡ ahead c.args.layout.now c.args.right c.args.place = cc in
    subst (IfOnto c.args.layout.now) (sym is) (ahead-there c.args.layout.now c.args.right c.args.place c.limits.ensures.station)
