use Rattle.std.proofs.Common.{◌<◌, length, arith}
use Rattle.replay.proofs.Noted.{noted-all, noted-begins, noted-next}
use Rattle.replay.specs.World.{driven, played}
use Rattle.replay.proofs.drive.note_drives.Goals as goal

pub loop-place-init : goal.loop-place-init
loop-place-init c = noted-begins (driven (played c.args.world.now)) c.args.drives.now

pub loop-place-preserved : goal.loop-place-preserved
loop-place-preserved c =
    let before = c.loop-place.invariant
    in let counted = before.counted
    in let test = c.loop-place-test.true
    in let within : c.loop-place.place < length c.loop-place.drives = omega (arith, counted, test)
    in noted-next (driven (played c.args.world.now)) c.args.drives.now c.loop-place.drives c.loop-place.place _ c.driven-found.result c.next_drive.result
    within c.driven-found.ensures c.next_drive.ensures before

pub returns : goal.returns
returns c =
    let before = c.loop-place.invariant
    in let counted = before.counted
    in let test = c.loop-place-test.false
    in noted-all (driven (played c.args.world.now)) c.args.drives.now c.loop-place.drives c.loop-place.place (omega (arith, counted, test)) before
