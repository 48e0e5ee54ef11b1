-- What a process over memory tells of its calls.
use Rattle.std.specs.Prelude.{List, Bool, true, false, Option, Some, None, map, string_bytes}
use Rattle.node_drive.specs.Calls as calls
use Rattle.node_network.specs.declared.log.OutsideCall.{OutsideCall}
use Rattle.node_network.specs.declared.log.OutsideCall.TheVariants as call

abbrev pub call_of : OutsideCall → calls.Call
call_of call.Rested = calls.Rests
call_of (call.Read reading) = calls.Reads reading
call_of (call.AskedListener began) = calls.AsksListener began
call_of (call.HeardLine text) = calls.AsksLine (calls.Text (string_bytes text))
call_of call.HeardNoLine = calls.AsksLine calls.Nothing
call_of call.HeardEnd = calls.AsksLine calls.Closed
call_of (call.HeardDatagram origin bytes) = calls.AsksDatagram (calls.Came (origin, bytes.items))
call_of call.HeardNoDatagram = calls.AsksDatagram calls.Empty
call_of call.FailedToReceive = calls.AsksDatagram calls.Failed
call_of (call.ThrewAway count empty) = calls.ThrowsAway count empty
call_of (call.Wrote text) = calls.Writes (string_bytes text)
call_of (call.BrokeOff text) = calls.BreaksOff (string_bytes text)
call_of (call.Sent to bytes) = calls.Sends to bytes.items
call_of (call.Complained line fault) = calls.Complains line fault
call_of (call.Kept all kept) = calls.Keeps all kept

-- what is told as long as memory wasn't lacking
abbrev pub told_calls : Bool → List OutsideCall → Option (List calls.Call)
told_calls true all = Some (map call_of all)
told_calls false all = None
