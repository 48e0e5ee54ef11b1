-- The clock of a release: which inputs note it and take it away, and that what was released is cancelled and ended.
use Rattle.std.proofs.Common.{◌≡◌, ◌⊎◌, inl, inr, ℕ, Bool, true, false, if◌then◌else◌, not, refl, ap, sym, ◌∙◌, subst, arith}
use Rattle.std.specs.Prelude.{◌&&◌, ◌==◌, Option, Some, None, slice_get}
use Rattle.std.specs.Option.{option_or}
use Rattle.std.proofs.lemmas.Bool.{eqb-false, eqb-true, false≢true, true≢false}
use Rattle.ixl_state.specs.layout.Entries.{Site}
use Rattle.ixl_state.specs.rasta_pdu.declared.key.Key.{Key}
use Rattle.ixl_state.specs.ixl_spec.Commands.{commanded_by, is_ended, obeyed, refusal, refused_where, release_refusal, released_at, set_anew}
use Rattle.ixl_state.specs.ixl_spec.State.{IxlState, RouteState, changed}
use Rattle.ixl_state.specs.ixl_spec.Step.{Accepted, Commands, Datagram, Input, Reply, Tick, all_clocked, answer_by, given, reply, stepped}
use Rattle.ixl_state.specs.ixl_spec.StepSoFar.{begun_with, empty_outbox}
use Rattle.ixl_state.specs.ixl_spec.Table.{Table}
use Rattle.ixl_state.specs.ixl_spec.View.{is_holding, is_set}
use Rattle.ixl_state.specs.ixl_spec.declared.command.Command.{Command}
use Rattle.ixl_state.specs.ixl_spec.declared.command.Command.TheVariants as commands
use Rattle.ixl_state.specs.ixl_spec.declared.command.Refusal.{Refusal}
use Rattle.ixl_state.specs.ixl_spec.declared.command.Refusal.TheVariants as refusals
use Rattle.ixl_state.specs.ixl_spec.declared.phase.Phase.{Phase}
use Rattle.ixl_state.specs.ixl_spec.declared.phase.Phase.TheVariants as phase
use Rattle.ixl_state.specs.First.{Beginning, key_of, new_ixl, new_route_of}
use Rattle.ixl.specs.Interlocking.{HasStepped, InterlockingState}
use Rattle.ixl_laws.specs.Onward.{IsOnward, order_of}
use Rattle.ixl_laws.specs.Operations.{IsCancelledAndEnded, IsUnreleased, ReleasedAreEnded, released_after}
use Rattle.ixl_laws.proofs.Apart.{set_back}
use Rattle.ixl_laws.proofs.Following.{FollowsAll}
use Rattle.ixl_laws.proofs.KeptBehind.{behind_input, command_stays, left_by, others_stay, stepped_stays}
use Rattle.ixl_laws.proofs.PickedByTest.{changed_elsewhere, changed_here, none_is, some_same}
use Rattle.ixl_laws.proofs.RoutesGoOn.{given_goes, where_none}
use Rattle.ixl_laws.proofs.UnsoundFalls.{mapped_from}
use Rattle.ixl_laws.proofs.WholeFits.{changed_or_same}

-- ---- the clock

-- a route that is changed at its place or at another, as a test of the two numbers says
by_number : {A : Type 0} (read : RouteState → A) (change : RouteState → RouteState) (changes : A → A) (place number : ℕ) (ixl : IxlState) (before after : RouteState) →
    ((route : RouteState) → read (change route) ≡ changes (read route)) → slice_get ixl.routes number ≡ Some before → slice_get (changed change place ixl.routes) number ≡ Some after →
    (same : Bool) → (place == number) ≡ same → read after ≡ (if same then changes (read before) else read before)
by_number read change changes place number ixl before after is there also true same =
    let here : place ≡ number = eqb-true place number same
    in let found = changed_here change number ixl.routes after (ap (λ n. slice_get (changed change n ixl.routes) number) (sym here) ∙ also)
    in ap read found.2 ∙ is found.0 ∙ ap (λ r. changes (read r)) (some_same (sym found.1 ∙ there))
by_number read change changes place number ixl before after is there also false same =
    ap read (some_same (sym also ∙ changed_elsewhere change place number ixl.routes (λ here. eqb-false place number same (sym here)) ∙ there))

-- a change that keeps it
kept_by : {A : Type 0} (read : RouteState → A) (change : RouteState → RouteState) (place number : ℕ) (ixl : IxlState) (before after : RouteState) → ((route : RouteState) → read (change route) ≡ read route) →
    slice_get ixl.routes number ≡ Some before → slice_get (changed change place ixl.routes) number ≡ Some after → read after ≡ read before
kept_by {A} read change place number ixl before after is there also = by_place (changed_or_same change place number ixl.routes after also) where
  by_place : (old : RouteState) × (slice_get ixl.routes number ≡ Some old) × ((after ≡ old) ⊎ ((number ≡ place) × (after ≡ change old))) → read after ≡ read before
  by_place (old, at, inl same) = ap read same ∙ ap read (some_same (sym at ∙ there))
  by_place (old, at, inr (here, same)) = ap read same ∙ is old ∙ ap read (some_same (sym at ∙ there))

abbrev read_clock : RouteState → Option ℕ
read_clock route = route.released

obeyed_clock : (now : ℕ) (command : Command) (ixl : IxlState) (number : ℕ) (before after : RouteState) → slice_get ixl.routes number ≡ Some before → slice_get (obeyed now command ixl).routes number ≡ Some after →
    after.released ≡ released_after now (Commands command) Accepted number before.released
unfolding obeyed
obeyed_clock now (commands.Request route) ixl number before after there also =
    by_number read_clock set_anew (λ clock. None) route.0 number ixl before after (λ r. refl) there also (route.0 == number) refl
obeyed_clock now (commands.Cancel route) ixl number before after there also =
    kept_by read_clock (λ old. record old { cancelled = true }) route.0 number ixl before after (λ r. refl) there also
obeyed_clock now commands.Resume ixl number before after there also = ap read_clock (some_same (sym also ∙ there))
obeyed_clock now (commands.Release route) ixl number before after there also =
    by_number read_clock (released_at now) (λ clock. option_or clock (Some now)) route.0 number ixl before after (λ r. refl) there also (route.0 == number) refl
obeyed_clock now (commands.Move point side) ixl number before after there also = ap read_clock (some_same (sym also ∙ there))
obeyed_clock now (commands.Close named) ixl number before after there also = ap read_clock (some_same (sym also ∙ there))
obeyed_clock now (commands.Open named) ixl number before after there also = ap read_clock (some_same (sym also ∙ there))

-- what is refused notes none
refused_clock : (now : ℕ) (command : Command) (cause : Refusal) (number : ℕ) (clock : Option ℕ) → released_after now (Commands command) (answer_by (Some cause)) number clock ≡ clock
refused_clock now (commands.Request route) cause number clock = refl
refused_clock now (commands.Cancel route) cause number clock = refl
refused_clock now commands.Resume cause number clock = refl
refused_clock now (commands.Release route) cause number clock = refl
refused_clock now (commands.Move point side) cause number clock = refl
refused_clock now (commands.Close named) cause number clock = refl
refused_clock now (commands.Open named) cause number clock = refl

left_clock : (now : ℕ) (cause : Option Refusal) (command : Command) (ixl : IxlState) (number : ℕ) (before after : RouteState) → slice_get ixl.routes number ≡ Some before →
    slice_get (commanded_by now cause command ixl).routes number ≡ Some after → after.released ≡ released_after now (Commands command) (answer_by cause) number before.released
left_clock now None command ixl number before after there also = obeyed_clock now command ixl number before after there also
left_clock now (Some cause) command ixl number before after there also =
    ap (λ (r : RouteState). r.released) (some_same (sym also ∙ there)) ∙ sym (refused_clock now command cause number before.released)

-- behind the input
pub heard_clock : (now : ℕ) (table : Table) (key : Key) (input : Input) (ixl : IxlState) (number : ℕ) (before after : RouteState) → slice_get ixl.routes number ≡ Some before →
    slice_get (behind_input now table key input ixl).ixl.routes number ≡ Some after → after.released ≡ released_after now input (reply now table key input ixl) number before.released
unfolding given reply all_clocked
heard_clock now table key Tick ixl number before after there also = ap (λ (r : RouteState). r.released) (some_same (sym also ∙ there))
heard_clock now table key (Datagram bytes) ixl number before after there also =
    let mid = (others_stay now table key bytes ixl).follow number after also
    in mid.2.released ∙ ap (λ (r : RouteState). r.released) (some_same (sym mid.1 ∙ there))
heard_clock now table key (Commands command) ixl number before after there also =
    let mid = (command_stays now table key command ixl).follow number after also
    in mid.2.released ∙ left_clock now (refusal now table command (all_clocked now ixl)) command (all_clocked now ixl) number before mid.0 there mid.1

-- a route that is kept then was kept before
pub was_kept : (now : ℕ) (table : Table) (key : Key) (input : Input) (ixl : IxlState) (number : ℕ) (after : RouteState) → slice_get (behind_input now table key input ixl).ixl.routes number ≡ Some after →
    (before : RouteState) × (slice_get ixl.routes number ≡ Some before)
unfolding all_clocked
was_kept now table key input ixl number after is = let before = given_goes now table key input (begun_with (all_clocked now ixl) empty_outbox) number after is in (before.0, before.1)

pub step_clock : (now : ℕ) (input : Input) (old new : InterlockingState) (answer : Reply) (number : ℕ) (before after : RouteState) → HasStepped now input old new answer →
    slice_get old.state.ixl.routes number ≡ Some before → slice_get new.state.ixl.routes number ≡ Some after → after.released ≡ released_after now input answer number before.released
step_clock now input old new answer number before after step there also =
    let table = old.state.sited.table
    in let key = key_of old.state.sited.site
    in let mid = (stepped_stays now table key input old.state.ixl).follow number after (ap (λ (ixl : IxlState). slice_get ixl.routes number) (sym step.ixl) ∙ also)
    in mid.2.released ∙ heard_clock now table key input old.state.ixl number before mid.0 there mid.1
    ∙ ap (λ a. released_after now input a number before.released) (sym step.answered)

-- ---- what was released is ended

-- a set route after one whose authority is ended
ended_on : (p q : Phase) → IsOnward p q → (ended : ℕ) × (done : ℕ) × (p ≡ phase.Ended ended done) → is_set q ≡ true → (ended : ℕ) × (done : ℕ) × (q ≡ phase.Ended ended done)
ended_on p phase.Free onward at set = absurd (false≢true set)
ended_on p phase.Waiting onward at set = let here : order_of p ≡ 3 = ap order_of at.2 in let less = onward.order in absurd (omega (arith, here, less))
ended_on p phase.Proceeding onward at set = let here : order_of p ≡ 3 = ap order_of at.2 in let less = onward.order in absurd (omega (arith, here, less))
ended_on p phase.Withdrawn onward at set = let here : order_of p ≡ 3 = ap order_of at.2 in let less = onward.order in absurd (omega (arith, here, less))
ended_on p (phase.Ended clock done) onward at set = (clock, done, refl)

pub ended_still : (old new : IxlState) → FollowsAll old.routes new.routes → ReleasedAreEnded old → ReleasedAreEnded new
ended_still old new follow ended number route clock is released set =
    let before = follow number route is
    in let over = ended number before.0 clock before.1 (sym before.2.released ∙ released) (set_back before.0.phase route.phase before.2.onward set)
    in (before.2.cancelled set ∙ over.0, ended_on before.0.phase route.phase before.2.onward over.1 set)

pub ended_is : (p : Phase) → is_ended p ≡ true → (ended : ℕ) × (done : ℕ) × (p ≡ phase.Ended ended done)
ended_is phase.Free is = absurd (false≢true is)
ended_is phase.Waiting is = absurd (false≢true is)
ended_is phase.Proceeding is = absurd (false≢true is)
ended_is phase.Withdrawn is = absurd (false≢true is)
ended_is (phase.Ended clock done) is = (clock, done, refl)

both_are : (a b : Bool) → not (a && b) ≡ false → (a ≡ true) × (b ≡ true)
both_are true true is = (refl, refl)
both_are true false is = absurd (true≢false is)
both_are false b is = absurd (true≢false is)

-- a release that isn't refused
release_passed : (now : ℕ) (ixl : IxlState) (route : RouteState) → release_refusal now ixl (Some route) ≡ None → IsCancelledAndEnded route
release_passed now ixl route none =
    let third : Option Refusal = refused_where (not (route.cancelled && is_ended route.phase)) refusals.NotEnded None
    in let second : Option Refusal = refused_where (not (is_set route.phase)) refusals.NotSet third
    in let over = where_none (is_holding now ixl) refusals.Holding (refused_where (not ixl.resumed) refusals.NotResumed second) none
    in let resumed = where_none (not ixl.resumed) refusals.NotResumed second over.1
    in let set = where_none (not (is_set route.phase)) refusals.NotSet third resumed.1
    in let last = both_are route.cancelled (is_ended route.phase) (where_none (not (route.cancelled && is_ended route.phase)) refusals.NotEnded None set.1).0
    in (last.0, ended_is route.phase last.1)

obeyed_ended : (now : ℕ) (table : Table) (command : Command) (ixl : IxlState) → refusal now table command ixl ≡ None → ReleasedAreEnded ixl → ReleasedAreEnded (obeyed now command ixl)
unfolding obeyed refusal
obeyed_ended now table (commands.Request route) ixl none ended number after clock is released set = by_place (changed_or_same set_anew route.0 number ixl.routes after is) where
  by_place : (before : RouteState) × (slice_get ixl.routes number ≡ Some before) × ((after ≡ before) ⊎ ((number ≡ route.0) × (after ≡ set_anew before))) → IsCancelledAndEnded after
  by_place (before, there, inl same) = ended number after clock (there ∙ ap Some (sym same)) released set
  by_place (before, there, inr (here, same)) = absurd (none_is (ap (λ (r : RouteState). r.released) (sym same) ∙ released))
obeyed_ended now table (commands.Cancel route) ixl none ended number after clock is released set = by_place (changed_or_same (λ old. record old { cancelled = true }) route.0 number ixl.routes after is) where
  by_place : (before : RouteState) × (slice_get ixl.routes number ≡ Some before) × ((after ≡ before) ⊎ ((number ≡ route.0) × (after ≡ record before { cancelled = true }))) → IsCancelledAndEnded after
  by_place (before, there, inl same) = ended number after clock (there ∙ ap Some (sym same)) released set
  by_place (before, there, inr (here, same)) =
      let over = ended number before clock there (ap (λ (r : RouteState). r.released) (sym same) ∙ released) (ap (λ (r : RouteState). is_set r.phase) (sym same) ∙ set)
      in (ap (λ (r : RouteState). r.cancelled) same, (over.1.0, over.1.1, ap (λ (r : RouteState). r.phase) same ∙ over.1.2))
obeyed_ended now table commands.Resume ixl none ended number after clock is released set = ended number after clock is released set
obeyed_ended now table (commands.Release route) ixl none ended number after clock is released set = by_place (changed_or_same (released_at now) route.0 number ixl.routes after is) where
  by_place : (before : RouteState) × (slice_get ixl.routes number ≡ Some before) × ((after ≡ before) ⊎ ((number ≡ route.0) × (after ≡ released_at now before))) → IsCancelledAndEnded after
  by_place (before, there, inl same) = ended number after clock (there ∙ ap Some (sym same)) released set
  by_place (before, there, inr (here, same)) =
      let over = release_passed now ixl before (ap (release_refusal now ixl) (sym (ap (λ n. slice_get ixl.routes n) (sym here) ∙ there)) ∙ none)
      in (ap (λ (r : RouteState). r.cancelled) same ∙ over.0, (over.1.0, over.1.1, ap (λ (r : RouteState). r.phase) same ∙ over.1.2))
obeyed_ended now table (commands.Move point side) ixl none ended number after clock is released set = ended number after clock is released set
obeyed_ended now table (commands.Close named) ixl none ended number after clock is released set = ended number after clock is released set
obeyed_ended now table (commands.Open named) ixl none ended number after clock is released set = ended number after clock is released set

left_ended : (now : ℕ) (table : Table) (cause : Option Refusal) (command : Command) (ixl : IxlState) → refusal now table command ixl ≡ cause → ReleasedAreEnded ixl → ReleasedAreEnded (commanded_by now cause command ixl)
left_ended now table (Some refused) command ixl told ended = ended
left_ended now table None command ixl told ended = obeyed_ended now table command ixl told ended

pub input_ended : (now : ℕ) (table : Table) (key : Key) (input : Input) (ixl : IxlState) → ReleasedAreEnded ixl → ReleasedAreEnded (behind_input now table key input ixl).ixl
unfolding given all_clocked
input_ended now table key Tick ixl ended = ended
input_ended now table key (Datagram bytes) ixl ended = ended_still ixl (behind_input now table key (Datagram bytes) ixl).ixl (others_stay now table key bytes ixl).follow ended
input_ended now table key (Commands command) ixl ended =
    ended_still (left_by now table command ixl) (behind_input now table key (Commands command) ixl).ixl (command_stays now table key command ixl).follow
    (left_ended now table (refusal now table command (all_clocked now ixl)) command (all_clocked now ixl) refl ended)

pub step_ended : (now : ℕ) (input : Input) (old new : InterlockingState) (answer : Reply) → HasStepped now input old new answer → ReleasedAreEnded old.state.ixl → ReleasedAreEnded new.state.ixl
step_ended now input old new answer step ended =
    let table = old.state.sited.table
    in let key = key_of old.state.sited.site
    in subst ReleasedAreEnded (sym step.ixl)
    (ended_still (behind_input now table key input old.state.ixl).ixl (stepped now table key input (begun_with old.state.ixl empty_outbox)).ixl (stepped_stays now table key input old.state.ixl).follow (input_ended now table key input old.state.ixl ended))

pub first_unreleased : (site : Site) (table : Table) (begins : Beginning) (number : ℕ) → IsUnreleased number (new_ixl site table begins)
unfolding new_ixl
first_unreleased site table begins number route is = ap (λ (r : RouteState). r.released) (sym (mapped_from new_route_of table.rows number route is).2)

pub first_ended : (site : Site) (table : Table) (begins : Beginning) → ReleasedAreEnded (new_ixl site table begins)
first_ended site table begins number route clock is released set = absurd (none_is (sym (first_unreleased site table begins number route is) ∙ released))
