use Rattle.std.proofs.Common.{sym, ◌∙◌}
use Rattle.railway_layout.specs.Rules.{tracks_among}
use Rattle.railway_layout.proofs.TracksAmong.{among_ends, among_goes_on, among_is_done}
use Rattle.railway_layout.proofs.rules.tracks_among.Goals as goal

pub returns-then-is_astray : goal.returns-then-is_astray
returns-then-is_astray c =
    among_ends c.args.way.now c.args.section c.args.tracks.now c.loop-place.place (tracks_among c.args.way.now c.args.section 0 c.args.tracks.now) c.index-tracks-place.result c.loop-place-test.true c.index-tracks-place.is
    (sym c.is_astray.ensures ∙ c.if-is_astray.true) c.loop-place.invariant

pub loop-place-preserved : goal.loop-place-preserved
loop-place-preserved c =
    among_goes_on c.args.way.now c.args.section c.args.tracks.now c.loop-place.place (tracks_among c.args.way.now c.args.section 0 c.args.tracks.now) c.index-tracks-place.result c.loop-place-test.true c.index-tracks-place.is
    (sym c.is_astray.ensures ∙ c.if-is_astray.false) c.loop-place.invariant

pub returns : goal.returns
returns c =
    among_is_done c.args.way.now c.args.section c.args.tracks.now c.loop-place.place (tracks_among c.args.way.now c.args.section 0 c.args.tracks.now) c.loop-place-test.false c.loop-place.invariant
