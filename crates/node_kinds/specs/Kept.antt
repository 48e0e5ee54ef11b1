-- What the process of an interlocking keeps in a file for one that begins later, and the line about it:
--
--     not kept X        in the place of `accepted`: the command that named X was taken, and the file couldn't be written
use Rattle.std.specs.Prelude.{◌≡◌, ℕ, zero, suc, ◌&&◌, ◌||◌, not, if◌then◌else◌, Bool, true, false, List, [], ◌∷◌, ◌++◌, codes, filter, length, Option, Some, None}
use Rattle.std.specs.FinSet.{empty, insert}
use Rattle.std.specs.Option.{option_map}
use Rattle.simulator_spec.specs.layout.Entries.{Site}
use Rattle.simulator_spec.specs.bit_row.Places.{Places}
use Rattle.simulator_spec.specs.sci_telegram.declared.message.Side.TheVariants as sides
use Rattle.simulator_spec.specs.ixl_spec.closings.declared.closed.Closings.{Closings}
use Rattle.simulator_spec.specs.ixl_spec.closings.declared.thing.Thing.{Thing}
use Rattle.simulator_spec.specs.ixl_spec.closings.declared.thing.Thing.TheVariants.{Route}
use Rattle.simulator_spec.specs.ixl_spec.closings.declared.thing.Named.{Named}
use Rattle.simulator_spec.specs.ixl_spec.closings.declared.thing.Named.TheVariants.{One}
use Rattle.simulator_spec.specs.ixl_spec.closings.Closed.{closed_things, either, is_closed, nothing, track}
use Rattle.simulator_spec.specs.ixl_spec.closings.Things.{HasThing}
use Rattle.simulator_spec.specs.ixl_spec.closings.Words.{words_of}
use Rattle.simulator_spec.specs.ixl_spec.State.{IxlState}
use Rattle.simulator_spec.specs.ixl_spec.Step as ixl
use Rattle.simulator_spec.specs.ixl_spec.Table.{Table}
use Rattle.simulator_spec.specs.ixl_spec.View.{holds_section, is_held_at, some_route}
use Rattle.simulator_spec.specs.ixl_spec.declared.command.Command.TheVariants as command
use Rattle.node_drive.specs.Calls.{Call, Keeps}
use Rattle.node_drive.specs.Kinds.{AskedToKeep}
use Rattle.node_drive.specs.declared.outside.ToKeep.{ToKeep}
use Rattle.node_kinds.specs.declared.keeping.Keeping.{Keeping}
use Rattle.node_kinds.specs.declared.keeping.Keeping.TheVariants as keeping

-- ---- what set routes lock

-- the places below a count that pass a test
unfoldable pub places_where : (ℕ → Bool) → ℕ → Places
places_where test zero = empty
places_where test (suc count) = if test count then insert (places_where test count) count else places_where test count

-- a section that a set route hasn't freed
abbrev pub is_locked : Table → IxlState → ℕ → Bool
is_locked table state section = some_route (λ number row route. holds_section row route.phase section) 0 table.rows state.routes

-- a point that a set route holds, at whichever side
abbrev pub is_held : Table → IxlState → ℕ → Bool
is_held table state point = is_held_at table state point sides.Left || is_held_at table state point sides.Right

-- as closings: these sections, and these points at both sides
abbrev pub locked : Table → IxlState → Closings
locked table state = track (places_where (is_locked table state) (length table.reporters)) (places_where (is_held table state) (length table.point_sections))

-- ---- what is to be closed in a process that begins later

abbrev pub wanted : Keeping → Table → IxlState → Closings
wanted keeping.Nothing table state = nothing
wanted keeping.Closings table state = state.closed
wanted keeping.Locks table state = either state.closed (locked table state)

-- the things that are closed now and weren't before
abbrev pub newly : Site → (before now : Closings) → List Thing
newly site before now = filter (λ t. not (is_closed before t)) (closed_things site now)

abbrev pub is_none : List Thing → Bool
is_none [] = true
is_none (thing ∷ things) = false

abbrev pub is_same_closings : Site → Closings → Closings → Bool
is_same_closings site one other = is_none (newly site one other) && is_none (newly site other one)

-- ---- what a step asks to be kept

-- A close, an open or a release that was taken is kept also where what is closed stays: a close may not have been kept before, and each
-- of the others is counted.
abbrev pub is_always_kept : ixl.Input → ixl.Reply → Bool
is_always_kept (ixl.Commands (command.Close named)) ixl.Accepted = true
is_always_kept (ixl.Commands (command.Open named)) ixl.Accepted = true
is_always_kept (ixl.Commands (command.Release route)) ixl.Accepted = true
is_always_kept input reply = false

-- What a command names that was taken and that closes, opens, locks or is counted: where that isn't kept, its answer says so.
abbrev pub named_by : ixl.Input → ixl.Reply → Option Named
named_by (ixl.Commands (command.Request route)) ixl.Accepted = Some (One (Route route))
named_by (ixl.Commands (command.Release route)) ixl.Accepted = Some (One (Route route))
named_by (ixl.Commands (command.Close named)) ixl.Accepted = Some named
named_by (ixl.Commands (command.Open named)) ixl.Accepted = Some named
named_by input reply = None

abbrev pub not_kept_text : Site → Named → List ℕ
not_kept_text site named = codes "not kept " ++ words_of site named

-- A process that keeps nothing asks for nothing. Else all is to be kept after a close, an open or a release that was taken, and where
-- anything is closed or locked that wasn't, or isn't any more.
abbrev pub asks_to_keep : Keeping → Bool → Bool
asks_to_keep keeping.Nothing due = false
asks_to_keep keeping.Closings due = due
asks_to_keep keeping.Locks due = due

abbrev pub to_keep : Site → Keeping → ixl.Input → ixl.Reply → (before : Closings) → (now : ToKeep) → Option AskedToKeep
to_keep site keeping input reply before now =
    if asks_to_keep keeping (is_always_kept input reply || not (is_same_closings site before now.closings))
    then Some (record { all = now; unless = option_map (not_kept_text site) (named_by input reply) })
    else None

-- ---- what is promised of a life

-- what was to be kept last by these calls, where this was so before them
abbrev pub kept_last : ToKeep → List Call → ToKeep
kept_last before [] = before
kept_last before (Keeps all kept ∷ calls) = kept_last all calls
kept_last before (call ∷ calls) = kept_last before calls

-- the same things of a station are closed by both
abbrev pub AreSame : Site → Closings → Closings → Type 0
AreSame site one other = (t : Thing) → HasThing site t → is_closed one t ≡ is_closed other t

abbrev pub keeps_some : Keeping → Bool
keeps_some keeping.Nothing = false
keeps_some keeping.Closings = true
keeps_some keeping.Locks = true
