-- What networks tell of their calls.
use Rattle.std.specs.Prelude.{List, [], ◌∷◌, map, Bool, true, false, Option, Some, None}
use Rattle.station_drive.specs.Told.{Call, Sends, Asks, Datagram, Grows, Nothing, Failed}
use Rattle.station_drive.specs.declared.log.Log.{Log}
use Rattle.station_drive.specs.declared.log.NetCall.{NetCall}
use Rattle.station_drive.specs.declared.log.NetCall.TheVariants as call

abbrev pub call_of : NetCall → Call
call_of (call.Sent to bytes) = Sends to bytes.items
call_of (call.Heard node bytes) = Asks node (Datagram bytes.items)
call_of (call.Silent node) = Asks node Nothing
call_of (call.Failed node) = Asks node Failed

-- what is told as long as memory wasn't lacking
abbrev pub so_far : {A : Type 0} → Bool → List A → Option (List A)
so_far true all = Some all
so_far false all = None

-- what a log tells
abbrev pub told_by : Log → Option (List Call)
told_by log = so_far log.tells (map call_of log.calls.items)

-- what is told grows by a call
abbrev pub grows_by : Option (List Call) → Call → Option (List Call) → Type 0
grows_by old call new = Grows old new (call ∷ [])

-- what is told by a network that tells nothing of its calls
abbrev pub Silent : Type 0
Silent = Unit {0}

-- so nothing is told of what a call makes of it
abbrev pub anything : Silent → Call → Silent → Type 0
anything old call new = Unit {0}
