-- The request in the worked runs. Its answer rests on what is closed, and a test of a set doesn't compute: so what is asked
-- of closed things is taken out of the step, and told by a lemma on sets.
use Rattle.std.proofs.Common.{◌≡◌, ℕ, Bool, true, false, not, List, [], ◌∷◌, ◌++◌, refl, ap, ◌∙◌, if◌then◌else◌}
use Rattle.std.specs.Prelude.{Option, Some, None, drop, is_none, slice_get, take}
use Rattle.std.specs.Option.{option_or}
use Rattle.std.specs.FinSet.{contains, contains-empty}
use Rattle.std.specs.Ordering.{nat_cmp}
use Rattle.std.proofs.lemmas.Bool.{true≢false}
use Rattle.simulator_spec.specs.layout.declared.port.Port.{Port}
use Rattle.simulator_spec.specs.sci_telegram.declared.message.Aspect.TheVariants as aspects
use Rattle.simulator_spec.specs.simulator_event.declared.event.Event.{Event}
use Rattle.simulator_spec.specs.simulator_event.declared.event.Event.TheVariants as event
use Rattle.simulator_spec.specs.rasta_core.Ends.{reading_of}
use Rattle.simulator_spec.specs.ixl_spec.closings.Closed.{nothing}
use Rattle.simulator_spec.specs.ixl_spec.closings.declared.closed.Closings.{Closings}
use Rattle.simulator_spec.specs.ixl_spec.Commands.{closed_refusal, commanded_by, locking_refusal, moved_at_once, refusal as refused, refused_where, request_refusal}
use Rattle.simulator_spec.specs.ixl_spec.Operations.{route_thing, signal_thing}
use Rattle.simulator_spec.specs.ixl_spec.Rules.{count, ruled}
use Rattle.simulator_spec.specs.ixl_spec.State.{IxlState, RouteState}
use Rattle.simulator_spec.specs.ixl_spec.Step.{Commands, all_clocked, given, stepped, ticked, watching}
use Rattle.simulator_spec.specs.ixl_spec.StepSoFar.{begun_with, empty_outbox, over}
use Rattle.simulator_spec.specs.ixl_spec.Table.{Row}
use Rattle.simulator_spec.specs.ixl_spec.View.{is_holding, is_set}
use Rattle.simulator_spec.specs.ixl_spec.declared.command.Command.{Command}
use Rattle.simulator_spec.specs.ixl_spec.declared.command.Command.TheVariants as commands
use Rattle.simulator_spec.specs.ixl_spec.declared.command.Refusal.{Refusal}
use Rattle.simulator_spec.specs.ixl_spec.declared.command.Refusal.TheVariants as refusals
use Rattle.simulator_spec.specs.Happens.{happens, interlocking_stepped}
use Rattle.simulator_spec.specs.Interlocking.{sending_all}
use Rattle.simulator_spec.specs.Refusals.{refusal}
use Rattle.simulator_spec.specs.State.{WorldState}
use Rattle.simulator_node_laws.specs.Worked.{Happens, Move, event_of, events_of, short_begun, short_table, small, to_another, to_authority, to_stop}

-- ---- runs of moves, in parts

-- a move is made where it can be
abbrev pub made : Port → Move → WorldState → WorldState
made at move world = if is_none (refusal (small at) (event_of move world) world) then happens (small at) short_table (event_of move world) world else world

abbrev pub played : Port → List Move → WorldState → WorldState
played at [] world = world
played at (first ∷ others) world = played at others (made at first world)

played_parts : (at : Port) (moves behind : List Move) (world : WorldState) → played at (moves ++ behind) world ≡ played at behind (played at moves world)
played_parts at [] behind world = refl
played_parts at (first ∷ others) behind world = played_parts at others behind (made at first world)

events_parts : (at : Port) (moves behind : List Move) (world : WorldState) → events_of at (moves ++ behind) world ≡ events_of at moves world ++ events_of at behind (played at moves world)
events_parts at [] behind world = refl
events_parts at (first ∷ others) behind world =
    by_test (is_none (refusal (small at) (event_of first world) world)) (events_parts at others behind (happens (small at) short_table (event_of first world) world)) (events_parts at others behind world)
  where
    by_test : (test : Bool)
        → events_of at (others ++ behind) (happens (small at) short_table (event_of first world) world)
        ≡ events_of at others (happens (small at) short_table (event_of first world) world) ++ events_of at behind (played at others (happens (small at) short_table (event_of first world) world))
        → events_of at (others ++ behind) world ≡ events_of at others world ++ events_of at behind (played at others world)
        → (if test then event_of first world ∷ events_of at (others ++ behind) (happens (small at) short_table (event_of first world) world) else events_of at (others ++ behind) world)
        ≡ (if test then event_of first world ∷ events_of at others (happens (small at) short_table (event_of first world) world) else events_of at others world)
        ++ events_of at behind (played at others (if test then happens (small at) short_table (event_of first world) world else world))
    by_test true made_so left_out = ap (λ (events : List Event). event_of first world ∷ events) made_so
    by_test false made_so left_out = left_out

-- ---- the request

abbrev pub the_command : Command
the_command = commands.Request (record { 0 = 0 })

abbrev pub the_request : Event
the_request = event.Request the_command

-- the moves before it, and those behind it
abbrev pub to_resume : List Move
to_resume = take 12 to_authority

abbrev pub another_behind : List Move
another_behind = drop 13 to_another

abbrev pub stop_behind : List Move
stop_behind = drop 13 to_stop

abbrev pub short_row : Row
short_row = record { entry = 0; aspect = aspects.Proceed; sections = []; needs = []; approach = []; extra = [] }

-- what becomes of the world by the answer to the request
unfoldable pub requested : Port → Option Refusal → WorldState → WorldState
requested at cause world =
    let now = reading_of world.interlocking.clock
    in let clocked = all_clocked now world.interlocking.ixl
    in let heard = moved_at_once now cause the_command (record (begun_with world.interlocking.ixl empty_outbox) { ixl = commanded_by now cause the_command clocked })
    in let done = ticked now (Commands the_command) (ruled now short_table (over (watching short_table) (count short_table) heard))
    in let sending = sending_all (small at) world.time done.outbox.datagrams (record { connections = world.interlocking.connections; sent = world.sent })
    in record world { interlocking = record world.interlocking { ixl = done.ixl; connections = sending.connections }; sent = sending.sent }

happens_by_answer : (at : Port) (world : WorldState) →
    happens (small at) short_table the_request world ≡ requested at (refused (reading_of world.interlocking.clock) short_table the_command (all_clocked (reading_of world.interlocking.clock) world.interlocking.ixl)) world
unfolding requested happens interlocking_stepped stepped given
happens_by_answer at world = refl

-- ---- its answer

two_open : (one other : Bool) (first second : Refusal) → one ≡ false → other ≡ false → (if one then Some first else if other then Some second else None) ≡ None
two_open true other first second one_is other_is = absurd (true≢false one_is)
two_open false true first second one_is other_is = absurd (true≢false other_is)
two_open false false first second one_is other_is = refl

-- the route uses itself and its signal, and nothing is closed
unclosed : (ixl : IxlState) → ixl.closed ≡ nothing → closed_refusal short_table ixl 0 short_row ≡ None
unfolding closed_refusal
unclosed ixl none =
    two_open (contains ixl.closed.routes 0) (contains ixl.closed.signals 0) (refusals.Closed (route_thing 0)) (refusals.Closed (signal_thing 0))
    (ap (λ (c : Closings). contains c.routes 0) none ∙ contains-empty nat_cmp 0) (ap (λ (c : Closings). contains c.signals 0) none ∙ contains-empty nat_cmp 0)

-- the answer by that to the last test
abbrev pub answer_by_last : ℕ → IxlState → Option Refusal → Option RouteState → Option Refusal
answer_by_last now ixl last None = Some refusals.UnknownRoute
answer_by_last now ixl last (Some route) =
    refused_where (is_holding now ixl) refusals.Holding
    (refused_where (not ixl.resumed) refusals.NotResumed
    (refused_where (is_set route.phase) refusals.AlreadySet (option_or (locking_refusal now short_table ixl 0 short_row) last)))

answered_by_last : (now : ℕ) (ixl : IxlState) (route : Option RouteState) → request_refusal now short_table ixl 0 (Some short_row) route ≡ answer_by_last now ixl (closed_refusal short_table ixl 0 short_row) route
answered_by_last now ixl None = refl
answered_by_last now ixl (Some route) = refl

accepted_by_last : (now : ℕ) (ixl : IxlState) → ixl.closed ≡ nothing → answer_by_last now ixl None (slice_get ixl.routes 0) ≡ None → refused now short_table the_command ixl ≡ None
unfolding refused
accepted_by_last now ixl none passes =
    answered_by_last now ixl (slice_get ixl.routes 0) ∙ ap (λ (last : Option Refusal). answer_by_last now ixl last (slice_get ixl.routes 0)) (unclosed ixl none) ∙ passes

-- ---- the worlds before and behind it

unfoldable pub resumed : Port → WorldState
resumed at = played at to_resume (short_begun at)

-- the interlocking as the request comes to it
abbrev pub hearing_now : Port → ℕ
hearing_now at = reading_of (resumed at).interlocking.clock

abbrev pub hearing_it : Port → IxlState
hearing_it at = all_clocked (hearing_now at) (resumed at).interlocking.ixl

-- it is accepted
unfoldable pub authorised : Port → WorldState
authorised at = requested at None (resumed at)

-- it is accepted where nothing is closed, and no test before the last refuses it
pub record IsAccepted (at : Port) : Type 0 where
  pub none_closed : (hearing_it at).closed ≡ nothing
  pub passes : answer_by_last (hearing_now at) (hearing_it at) None (slice_get (hearing_it at).routes 0) ≡ None

happens_so : (at : Port) → IsAccepted at → happens (small at) short_table the_request (resumed at) ≡ authorised at
unfolding authorised
happens_so at is = happens_by_answer at (resumed at) ∙ ap (λ (cause : Option Refusal). requested at cause (resumed at)) (accepted_by_last (hearing_now at) (hearing_it at) is.none_closed is.passes)

resumed_is : (at : Port) → played at to_resume (short_begun at) ≡ resumed at
unfolding resumed
resumed_is at = refl

-- a request can always be made
request_played : (at : Port) (behind : List Move) (world : WorldState) → played at (Happens the_request ∷ behind) world ≡ played at behind (happens (small at) short_table the_request world)
unfolding refusal
request_played at behind world = refl

request_event : (at : Port) (behind : List Move) (world : WorldState) → events_of at (Happens the_request ∷ behind) world ≡ the_request ∷ events_of at behind (happens (small at) short_table the_request world)
unfolding refusal
request_event at behind world = refl

-- behind the request the moves go on from there
pub played_on : (at : Port) (behind : List Move) → IsAccepted at → played at (to_resume ++ Happens the_request ∷ behind) (short_begun at) ≡ played at behind (authorised at)
played_on at behind is = played_parts at to_resume (Happens the_request ∷ behind) (short_begun at)
    ∙ ap (λ (world : WorldState). played at (Happens the_request ∷ behind) world) (resumed_is at)
    ∙ request_played at behind (resumed at) ∙ ap (λ (world : WorldState). played at behind world) (happens_so at is)

pub events_on : (at : Port) (behind : List Move) → IsAccepted at →
    events_of at (to_resume ++ Happens the_request ∷ behind) (short_begun at) ≡ events_of at to_resume (short_begun at) ++ the_request ∷ events_of at behind (authorised at)
events_on at behind is = events_parts at to_resume (Happens the_request ∷ behind) (short_begun at)
    ∙ ap (λ (later : List Event). events_of at to_resume (short_begun at) ++ later)
    (ap (λ (world : WorldState). events_of at (Happens the_request ∷ behind) world) (resumed_is at)
    ∙ request_event at behind (resumed at) ∙ ap (λ (world : WorldState). the_request ∷ events_of at behind world) (happens_so at is))
