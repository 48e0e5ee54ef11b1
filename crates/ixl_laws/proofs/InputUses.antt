-- Behind the input of a step no set route that isn't cancelled uses a closed thing, where none did before.
use Rattle.std.proofs.Common.{◌≡◌, ◌⊎◌, inl, inr, ℕ, true, false, refl, ap, sym, ◌∙◌, subst}
use Rattle.std.specs.Prelude.{Option, Some, None, slice_get}
use Rattle.std.specs.List.{Contains}
use Rattle.std.proofs.lemmas.Bool.{false≢true, true≢false}
use Rattle.ixl_state.specs.layout.declared.ids.RouteId.{RouteId}
use Rattle.ixl_state.specs.layout.Entries.{Site}
use Rattle.ixl_state.specs.rasta_pdu.declared.key.Key.{Key}
use Rattle.ixl_state.specs.ixl_spec.closings.declared.closed.Closings.{Closings}
use Rattle.ixl_state.specs.ixl_spec.closings.declared.thing.Named.{Named}
use Rattle.ixl_state.specs.ixl_spec.closings.declared.thing.Thing.{Thing}
use Rattle.ixl_state.specs.ixl_spec.closings.declared.thing.Thing.TheVariants.{Point, Route, Section, Signal}
use Rattle.ixl_state.specs.ixl_spec.closings.Closed.{IsClosed, with_named, without_named}
use Rattle.ixl_state.specs.ixl_spec.closings.Things.{Names}
use Rattle.ixl_state.specs.ixl_spec.Commands.{commanded_by, obeyed, refusal, released_at, set_anew}
use Rattle.ixl_state.specs.ixl_spec.Due.{Admissible, CountsAsClosed, HoldsPoint, HoldsSection, Uses}
use Rattle.ixl_state.specs.ixl_spec.OperationCauses.{MayBeClosed}
use Rattle.ixl_state.specs.ixl_spec.Operations.{things_used}
use Rattle.ixl_state.specs.ixl_spec.State.{IxlState, RouteState}
use Rattle.ixl_state.specs.ixl_spec.StepSoFar.{begun_with, empty_outbox}
use Rattle.ixl_state.specs.ixl_spec.Step.{Commands, Datagram, Input, Reply, Tick, all_clocked, given, stepped}
use Rattle.ixl_state.specs.ixl_spec.Table.{Row, SitedTable, Table}
use Rattle.ixl_state.specs.ixl_spec.View.{is_set}
use Rattle.ixl_state.specs.ixl_spec.declared.command.Command.{Command}
use Rattle.ixl_state.specs.ixl_spec.declared.command.Command.TheVariants as commands
use Rattle.ixl_state.specs.ixl_spec.declared.command.Refusal.{Refusal}
use Rattle.ixl_state.specs.ixl_spec.declared.phase.Phase.{Phase}
use Rattle.ixl_state.specs.First.{Beginning, key_of, new_ixl, new_route_of}
use Rattle.ixl.specs.Interlocking.{HasStepped, InterlockingState}
use Rattle.ixl_laws.specs.Operations.{NothingClosedIsUsed}
use Rattle.ixl_laws.proofs.KeptBehind.{behind_input, command_stays, left_by, others_stay, stepped_stays}
use Rattle.ixl_laws.proofs.PickedByTest.{some_same}
use Rattle.ixl_laws.proofs.UnsoundFalls.{mapped_from}
use Rattle.ixl_laws.proofs.UsedLess.{unused_still, uses_of_them, uses_set}
use Rattle.ixl_laws.proofs.WholeFits.{changed_or_same}

-- what is closed counts as closed
closed_counts : (table : Table) (ixl : IxlState) (thing : Thing) → IsClosed ixl.closed thing → CountsAsClosed table ixl thing
closed_counts table ixl (Section s) is = is
closed_counts table ixl (Point p side) is = inl is
closed_counts table ixl (Signal s) is = is
closed_counts table ixl (Route r) is = is

-- routes in one phase use the same
uses_alike : (number : ℕ) (row : Row) (one other : RouteState) (thing : Thing) → one.phase ≡ other.phase → Uses number row one thing → Uses number row other thing
uses_alike number row one other (Section s) same uses = subst (λ (p : Phase). HoldsSection row p s.0) same uses
uses_alike number row one other (Point p side) same uses = subst (λ (q : Phase). HoldsPoint row q p.0 side) same uses
uses_alike number row one other (Signal s) same uses = (ap is_set (sym same) ∙ uses.0, uses.1)
uses_alike number row one other (Route r) same uses = (ap is_set (sym same) ∙ uses.0, uses.1)

-- one route is changed: it is cancelled behind that, or in its phase and cancelled as before
changed_unused : (table : Table) (ixl : IxlState) (place : ℕ) (change : RouteState → RouteState) →
    ((route : RouteState) → ((change route).phase ≡ route.phase) × (((change route).cancelled ≡ true) ⊎ ((change route).cancelled ≡ route.cancelled))) →
    NothingClosedIsUsed table ixl → (number : ℕ) (row : Row) (after : RouteState) (thing : Thing) → slice_get table.rows number ≡ Some row →
    (before : RouteState) × (slice_get ixl.routes number ≡ Some before) × ((after ≡ before) ⊎ ((number ≡ place) × (after ≡ change before))) →
    after.cancelled ≡ false → Uses number row after thing → IsClosed ixl.closed thing → ⊥
changed_unused table ixl place change keeps unused number row after thing is_row (before, there, inl same) going uses closed =
    unused number row before thing (is_row, there) (ap (λ (r : RouteState). r.cancelled) (sym same) ∙ going)
    (uses_alike number row after before thing (ap (λ (r : RouteState). r.phase) same) uses) closed
changed_unused table ixl place change keeps unused number row after thing is_row (before, there, inr (here, same)) going uses closed = by_cancel (keeps before) where
  by_cancel : ((change before).phase ≡ before.phase) × (((change before).cancelled ≡ true) ⊎ ((change before).cancelled ≡ before.cancelled)) → ⊥
  by_cancel (alike, inl cancelled) = true≢false (sym cancelled ∙ ap (λ (r : RouteState). r.cancelled) (sym same) ∙ going)
  by_cancel (alike, inr as_before) =
      unused number row before thing (is_row, there) (sym as_before ∙ ap (λ (r : RouteState). r.cancelled) (sym same) ∙ going)
      (uses_alike number row after before thing (ap (λ (r : RouteState). r.phase) same ∙ alike) uses) closed

-- by what the laws of commands say
module _ (admits : (now : ℕ) (table : Table) (ixl : IxlState) (route : RouteId) → refusal now table (commands.Request route) ixl ≡ None → Admissible now table ixl route.0)
    (closes : (now : ℕ) (table : Table) (ixl : IxlState) (named : Named) → refusal now table (commands.Close named) ixl ≡ None → MayBeClosed table ixl named)
    (closed_by : (c : Closings) (n : Named) (t : Thing) → IsClosed (with_named c n) t → Names n t ⊎ IsClosed c t)
    (opened_by : (c : Closings) (n : Named) (t : Thing) → IsClosed (without_named c n) t → IsClosed c t) where
  set_unused : (now : ℕ) (table : Table) (route : RouteId) (ixl : IxlState) → refusal now table (commands.Request route) ixl ≡ None → NothingClosedIsUsed table ixl → (number : ℕ) (row : Row) (after : RouteState) (thing : Thing) →
      slice_get table.rows number ≡ Some row → (before : RouteState) × (slice_get ixl.routes number ≡ Some before) × ((after ≡ before) ⊎ ((number ≡ route.0) × (after ≡ set_anew before))) →
      after.cancelled ≡ false → Uses number row after thing → IsClosed ixl.closed thing → ⊥
  set_unused now table route ixl none unused number row after thing is_row (before, there, inl same) going uses closed =
      unused number row before thing (is_row, there) (ap (λ (r : RouteState). r.cancelled) (sym same) ∙ going)
      (uses_alike number row after before thing (ap (λ (r : RouteState). r.phase) same) uses) closed
  set_unused now table route ixl none unused number row after thing is_row (before, there, inr (here, same)) going uses closed =
      let admissible = admits now table ixl route none
      in admissible.unclosed thing
      (subst (λ (r : Row). Contains (things_used route.0 r) thing) (some_same (sym is_row ∙ ap (λ n. slice_get table.rows n) here ∙ admissible.known.0))
      (subst (λ n. Contains (things_used n row) thing) here (uses_of_them number row after thing uses)))
      (closed_counts table ixl thing closed)

  -- a command that is obeyed
  obeyed_unused : (now : ℕ) (table : Table) (command : Command) (ixl : IxlState) → refusal now table command ixl ≡ None → NothingClosedIsUsed table ixl → NothingClosedIsUsed table (obeyed now command ixl)
  unfolding obeyed
  obeyed_unused now table (commands.Request route) ixl none unused number row after thing is going uses closed =
      set_unused now table route ixl none unused number row after thing is.0 (changed_or_same set_anew route.0 number ixl.routes after is.1) going uses closed
  obeyed_unused now table (commands.Cancel route) ixl none unused number row after thing is going uses closed =
      changed_unused table ixl route.0 (λ old. record old { cancelled = true }) (λ old. (refl, inl refl)) unused number row after thing is.0
      (changed_or_same (λ old. record old { cancelled = true }) route.0 number ixl.routes after is.1) going uses closed
  obeyed_unused now table commands.Resume ixl none unused number row route thing is going uses closed = unused number row route thing is going uses closed
  obeyed_unused now table (commands.Release route) ixl none unused number row after thing is going uses closed =
      changed_unused table ixl route.0 (released_at now) (λ old. (refl, inr refl)) unused number row after thing is.0
      (changed_or_same (released_at now) route.0 number ixl.routes after is.1) going uses closed
  obeyed_unused now table (commands.Move point side) ixl none unused number row route thing is going uses closed = unused number row route thing is going uses closed
  obeyed_unused now table (commands.Close named) ixl none unused number row route thing is going uses closed = by_cause (closed_by ixl.closed named thing closed) where
    by_cause : Names named thing ⊎ IsClosed ixl.closed thing → ⊥
    by_cause (inl names) = (closes now table ixl named none).unused number (row, route, is, (going, inl (thing, names, uses)))
    by_cause (inr before) = unused number row route thing is going uses before
  obeyed_unused now table (commands.Open named) ixl none unused number row route thing is going uses closed =
      unused number row route thing is going uses (opened_by ixl.closed named thing closed)

  left_unused : (now : ℕ) (table : Table) (cause : Option Refusal) (command : Command) (ixl : IxlState) → refusal now table command ixl ≡ cause → NothingClosedIsUsed table ixl →
      NothingClosedIsUsed table (commanded_by now cause command ixl)
  left_unused now table (Some refused) command ixl told unused = unused
  left_unused now table None command ixl told unused = obeyed_unused now table command ixl told unused

  pub input_unused : (now : ℕ) (table : Table) (key : Key) (input : Input) (ixl : IxlState) → NothingClosedIsUsed table ixl → NothingClosedIsUsed table (behind_input now table key input ixl).ixl
  unfolding given all_clocked
  input_unused now table key Tick ixl unused = unused
  input_unused now table key (Datagram bytes) ixl unused =
      let stays = others_stay now table key bytes ixl
      in unused_still table ixl (behind_input now table key (Datagram bytes) ixl).ixl stays.closed_is stays.follow unused
  input_unused now table key (Commands command) ixl unused =
      let stays = command_stays now table key command ixl
      in unused_still table (left_by now table command ixl) (behind_input now table key (Commands command) ixl).ixl stays.closed_is stays.follow
      (left_unused now table (refusal now table command (all_clocked now ixl)) command (all_clocked now ixl) refl unused)

  pub step_unused : (now : ℕ) (input : Input) (old new : InterlockingState) (answer : Reply) → HasStepped now input old new answer →
      NothingClosedIsUsed old.state.sited.table old.state.ixl → NothingClosedIsUsed new.state.sited.table new.state.ixl
  step_unused now input old new answer step unused =
      let table = old.state.sited.table
      in let key = key_of old.state.sited.site
      in let stays = stepped_stays now table key input old.state.ixl
      in subst (λ (s : SitedTable). NothingClosedIsUsed s.table new.state.ixl) (sym step.sited)
      (subst (λ (ixl : IxlState). NothingClosedIsUsed table ixl) (sym step.ixl)
      (unused_still table (behind_input now table key input old.state.ixl).ixl (stepped now table key input (begun_with old.state.ixl empty_outbox)).ixl stays.closed_is stays.follow (input_unused now table key input old.state.ixl unused)))

-- at first no route is set
pub first_unset : (site : Site) (table : Table) (begins : Beginning) (number : ℕ) (route : RouteState) → slice_get (new_ixl site table begins).routes number ≡ Some route → is_set route.phase ≡ false
unfolding new_ixl
first_unset site table begins number route is =
    let found = mapped_from new_route_of table.rows number route is in ap (λ (r : RouteState). is_set r.phase) (sym found.2)

pub first_unused : (site : Site) (table : Table) (begins : Beginning) → NothingClosedIsUsed table (new_ixl site table begins)
first_unused site table begins number row route thing is going uses closed =
    false≢true (sym (first_unset site table begins number route is.1) ∙ uses_set number row route thing uses)
