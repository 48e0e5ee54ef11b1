-- Every event, and every list of them, keeps the invariant.
use Rattle.std.proofs.Common.{◌∙◌, ℕ, List, [], ◌∷◌}
use Rattle.rasta_core_spec.specs.Run.{Ends, restarted}
use Rattle.rasta_core_spec.specs.identity.Role.TheVariants as role
use Rattle.rasta_core_spec.specs.Sentences.{LeavesClient, IsIn, IsOut}
use Rattle.rasta_core.specs.Invariant.{HasBeenOut, Timely}
use Rattle.rasta_core_spec.specs.Names.{Names, AreNames}
use Rattle.rasta_core_spec.specs.Events.{Event, Calls, Passes, Loses, Restarts, Elsewhere, May, MayRun, happened, run, Start, started}
use Rattle.rasta_core.proofs.Conversation.{WrittenIsRead}
use Rattle.rasta_core.proofs.Called.{ReadIsIntact, called_kept}
use Rattle.rasta_core.proofs.Clocks.{later_kept, lost_kept, client_restarted, server_restarted, elsewhere_kept, Renewed, started_timely}
use Rattle.rasta_core.proofs.BothEndsAfter.{FollowsOff}
use Rattle.rasta_core_spec.specs.TrueClocks.{Offset, set}

-- an event that doesn't make the client anew
pub event_follows : WrittenIsRead → ReadIsIntact → (names : Names) (event : Event) (ends : Ends) → AreNames names → (is : Timely names ends) → May names event ends → LeavesClient event
    → (server : Offset) × FollowsOff names ends is is.of_client.offset server (happened event ends)
event_follows law intact names (Calls who call) ends are is may leaves = (is.of_server.offset, called_kept law intact names are who call ends is may)
event_follows law intact names (Passes elapsed of_client of_server) ends are is may leaves = (is.of_server.offset, later_kept names elapsed of_client of_server ends is may.0 may.1)
event_follows law intact names (Loses bytes) ends are is may leaves = (is.of_server.offset, lost_kept names bytes ends is)
event_follows law intact names (Restarts role.Client clock first) ends are is may leaves = absurd leaves
event_follows law intact names (Restarts role.Server clock first) ends are is may leaves = (set, server_restarted names clock first ends is)
event_follows law intact names (Elsewhere count) ends are is may leaves = (is.of_server.offset, elsewhere_kept names count ends is)

pub event_kept : WrittenIsRead → ReadIsIntact → (names : Names) (event : Event) (ends : Ends) → AreNames names → Timely names ends → May names event ends → Timely names (happened event ends)
event_kept law intact names (Calls who call) ends are is may = (called_kept law intact names are who call ends is may).timely
event_kept law intact names (Passes elapsed of_client of_server) ends are is may = (later_kept names elapsed of_client of_server ends is may.0 may.1).timely
event_kept law intact names (Loses bytes) ends are is may = (lost_kept names bytes ends is).timely
event_kept law intact names (Restarts role.Client clock first) ends are is may = (client_restarted names clock first ends is).timely
event_kept law intact names (Restarts role.Server clock first) ends are is may = (server_restarted names clock first ends is).timely
event_kept law intact names (Elsewhere count) ends are is may = (elsewhere_kept names count ends is).timely

-- each event keeps it: as a law of its own, handed in by who has it
abbrev pub EventKept : Type 0
EventKept = (names : Names) (event : Event) (ends : Ends) → AreNames names → Timely names ends → May names event ends → Timely names (happened event ends)

pub run_kept : EventKept → (names : Names) (events : List Event) (ends : Ends) → AreNames names → Timely names ends → MayRun names events ends → Timely names (run events ends)
run_kept law names [] ends are is may = is
run_kept law names (first ∷ others) ends are is may = run_kept law names others (happened first ends) are (law names first ends are is may.0) may.1

-- ---- how long the client has been outside

pub started_out : (names : Names) (start : Start) → AreNames names → HasBeenOut names start.client_clock (started names start)
started_out names start are = let new : Renewed names start.client_clock set (started names start) = started_timely names start are in record { timely = new.timely; is_out = new.is_out; left_then = new.left_then }

pub restarted_out : (names : Names) (clock first : ℕ) (ends : Ends) → Timely names ends → HasBeenOut names clock (happened (Restarts role.Client clock first) ends)
restarted_out names clock first ends is = let new : Renewed names clock is.of_server.offset (restarted role.Client clock first ends) = client_restarted names clock first ends is in record { timely = new.timely; is_out = new.is_out; left_then = new.left_then }

pub left_out : WrittenIsRead → ReadIsIntact → (names : Names) (event : Event) (ends : Ends) → AreNames names → Timely names ends → May names event ends → LeavesClient event
    → IsIn role.Client ends → IsOut role.Client (happened event ends) → HasBeenOut names (happened event ends).client.link.closed_at (happened event ends)
left_out law intact names event ends are is may leaves was shut =
    let after = (event_follows law intact names event ends are is may leaves).1 in
    record { timely = after.timely; is_out = shut; left_then = after.leaves was shut }

pub kept_out : WrittenIsRead → ReadIsIntact → (names : Names) (since : ℕ) (event : Event) (ends : Ends) → AreNames names → HasBeenOut names since ends → May names event ends → LeavesClient event
    → IsOut role.Client (happened event ends) → HasBeenOut names since (happened event ends)
kept_out law intact names since event ends are has may leaves shut =
    let after = (event_follows law intact names event ends are has.timely may leaves).1 in
    record { timely = after.timely; is_out = shut; left_then = after.stays has.is_out shut ∙ has.left_then }
