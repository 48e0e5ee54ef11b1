use Rattle.std.proofs.Common.{◌≡◌, ◌-◌, length}
use Rattle.station_track.specs.Throats.{throat_from}
use Rattle.station_track.specs.Meaning.{IfPort}
use Rattle.station_track.proofs.Loops.{with_front}
use Rattle.station_track.proofs.paths.throat_from.Given as goal

abbrev pub invariant-loop-step : goal.invariant-loop-step
invariant-loop-step l =
    (with_front l.places.items (throat_from l.layout (length l.layout.tracks - l.step) l.next) ≡ throat_from l.fn.layout (length l.fn.layout.tracks) l.fn.entered)
    × IfPort l.layout l.next
