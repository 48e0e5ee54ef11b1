-- Closes that come to an interlocking in which no route is set are accepted, and what they name is closed behind them.
use Rattle.std.proofs.Common.{◌≡◌, ◌⊎◌, inl, inr, ℕ, zero, suc, Bool, true, false, List, [], ◌∷◌, length, arith, refl, ap, sym, ◌∙◌, subst}
use Rattle.std.specs.Prelude.{Option, Some, None, slice_get}
use Rattle.std.specs.List.{All, Contains}
use Rattle.std.proofs.lemmas.Bool.{false≢true, true≢false}
use Rattle.std.proofs.lemmas.List.{length-map}
use Rattle.std.proofs.lemmas.List.Elements.{All-tail, All-weaker}
use Rattle.ixl_state.specs.State.{StateView}
use Rattle.ixl_state.specs.rasta_pdu.declared.key.Key.{Key}
use Rattle.ixl_state.specs.ixl_spec.closings.declared.closed.Closings.{Closings}
use Rattle.ixl_state.specs.ixl_spec.closings.declared.thing.Named.{Named}
use Rattle.ixl_state.specs.ixl_spec.closings.declared.thing.Named.TheVariants.{BothSides, One}
use Rattle.ixl_state.specs.ixl_spec.closings.declared.thing.Thing.{Thing}
use Rattle.ixl_state.specs.ixl_spec.closings.declared.thing.Thing.TheVariants.{Point, Route, Section, Signal}
use Rattle.ixl_state.specs.ixl_spec.closings.Closed.{IsClosed, with_named}
use Rattle.ixl_state.specs.ixl_spec.closings.Things.{Names}
use Rattle.ixl_state.specs.ixl_spec.Commands.{commanded_by, obeyed, refusal}
use Rattle.ixl_state.specs.ixl_spec.OperationCauses.{IsNamed, KeepsOpen, MayBeClosed, OfRoute}
use Rattle.ixl_state.specs.ixl_spec.State.{IxlState, RouteState}
use Rattle.ixl_state.specs.ixl_spec.Step.{Accepted, Commands, Datagram, Input, Reply, Tick, all_clocked, given}
use Rattle.ixl_state.specs.ixl_spec.Table.{SitedTable, Table}
use Rattle.ixl_state.specs.ixl_spec.View.{is_set}
use Rattle.ixl_state.specs.ixl_spec.declared.command.Command.{Command}
use Rattle.ixl_state.specs.ixl_spec.declared.command.Command.TheVariants as commands
use Rattle.ixl_state.specs.ixl_spec.declared.command.Refusal.{Refusal}
use Rattle.ixl_state.specs.First.{key_of}
use Rattle.ixl.specs.Interlocking.{HasStepped, InterlockingState}
use Rattle.ixl_laws.specs.GivenOnce.{OneAfterAnother, StepTaken}
use Rattle.ixl_laws.specs.Onward.{GoesOn}
use Rattle.ixl_laws.specs.Operations.{AllAccepted, AreCloses, closed_after, last_of}
use Rattle.ixl_laws.proofs.Apart.{set_back}
use Rattle.ixl_laws.proofs.KeptBehind.{behind_input, closed_step, command_stays, others_stay, stepped_stays}
use Rattle.ixl_laws.proofs.OperationAnswers.{accepted_so}
use Rattle.ixl_laws.proofs.PickedByTest.{none_is, some_same}
use Rattle.ixl_laws.proofs.RoutesGoOn.{routes_were_there, steps_go_on}
use Rattle.ixl_laws.proofs.UsedLess.{uses_set}

-- no route is set
abbrev pub NoneSet : IxlState → Type 0
NoneSet ixl = (number : ℕ) (route : RouteState) → slice_get ixl.routes number ≡ Some route → is_set route.phase ≡ false

-- ---- how many signals there are

left_signals : (now : ℕ) (cause : Option Refusal) (command : Command) (ixl : IxlState) → length (commanded_by now cause command ixl).known_signals ≡ length ixl.known_signals
unfolding obeyed
left_signals now (Some refused) command ixl = refl
left_signals now None (commands.Request route) ixl = refl
left_signals now None (commands.Cancel route) ixl = refl
left_signals now None commands.Resume ixl = refl
left_signals now None (commands.Release route) ixl = refl
left_signals now None (commands.Move point side) ixl = refl
left_signals now None (commands.Close named) ixl = refl
left_signals now None (commands.Open named) ixl = refl

clocked_signals : (now : ℕ) (ixl : IxlState) → length (all_clocked now ixl).known_signals ≡ length ixl.known_signals
unfolding all_clocked
clocked_signals now ixl = length-map ixl.known_signals _

input_signals : (now : ℕ) (table : Table) (key : Key) (input : Input) (ixl : IxlState) → length (behind_input now table key input ixl).ixl.known_signals ≡ length ixl.known_signals
unfolding given
input_signals now table key Tick ixl = clocked_signals now ixl
input_signals now table key (Datagram bytes) ixl = (others_stay now table key bytes ixl).signals_are
input_signals now table key (Commands command) ixl =
    (command_stays now table key command ixl).signals_are ∙ left_signals now (refusal now table command (all_clocked now ixl)) command (all_clocked now ixl) ∙ clocked_signals now ixl

step_signals : (now : ℕ) (input : Input) (old new : InterlockingState) (answer : Reply) → HasStepped now input old new answer → length new.state.ixl.known_signals ≡ length old.state.ixl.known_signals
step_signals now input old new answer step =
    let table = old.state.sited.table
    in let key = key_of old.state.sited.site
    in ap (λ (ixl : IxlState). length ixl.known_signals) step.ixl
    ∙ (stepped_stays now table key input old.state.ixl).signals_are ∙ input_signals now table key input old.state.ixl

-- so the station has the same
named_as : (table : Table) (one other : IxlState) (named : Named) → length other.known_signals ≡ length one.known_signals → IsNamed table one named → IsNamed table other named
named_as table one other (One (Section s)) same is = is
named_as table one other (One (Point p side)) same is = is
named_as table one other (One (Signal s)) same is = omega (arith, same, is)
named_as table one other (One (Route r)) same is = is
named_as table one other (BothSides p) same is = is

-- ---- one close

is_close : Input → Bool
is_close (Commands (commands.Close named)) = true
is_close (Commands (commands.Request route)) = false
is_close (Commands (commands.Cancel route)) = false
is_close (Commands commands.Resume) = false
is_close (Commands (commands.Release route)) = false
is_close (Commands (commands.Move point side)) = false
is_close (Commands (commands.Open named)) = false
is_close Tick = false
is_close (Datagram bytes) = false

-- ---- lists of closes

first_or : {A : Type 0} → A → List A → A
first_or one [] = one
first_or one (first ∷ others) = first

others_of : {A : Type 0} → List A → List A
others_of [] = []
others_of (first ∷ others) = others

-- the first of them, and the others
first_close : (name : Named) (names : List Named) (first : StepTaken) (others : List StepTaken) → AreCloses (name ∷ names) (first ∷ others) → first.input ≡ Commands (commands.Close name)
unfolding first_or
first_close name names first others are = ap (first_or Tick) are

other_closes : (name : Named) (names : List Named) (first : StepTaken) (others : List StepTaken) → AreCloses (name ∷ names) (first ∷ others) → AreCloses names others
unfolding others_of
other_closes name names first others are = ap others_of are

is_empty : {A : Type 0} → List A → Bool
is_empty [] = true
is_empty (first ∷ others) = false

some_close : (first : StepTaken) (others : List StepTaken) → AreCloses [] (first ∷ others) → ⊥
unfolding is_empty
some_close first others are = false≢true (ap is_empty are)

no_more : (name : Named) (names : List Named) → AreCloses (name ∷ names) [] → ⊥
unfolding is_empty
no_more name names are = true≢false (ap is_empty are)

module _ (closes : (now : ℕ) (table : Table) (ixl : IxlState) (named : Named) → MayBeClosed table ixl named → refusal now table (commands.Close named) ixl ≡ None)
    (closed_by : (c : Closings) (n : Named) (t : Thing) → Names n t ⊎ IsClosed c t → IsClosed (with_named c n) t) where
  accepted : (step : StepTaken) (named : Named) → step.input ≡ Commands (commands.Close named) → NoneSet step.old.state.ixl → IsNamed step.old.state.sited.table step.old.state.ixl named → step.answer ≡ Accepted
  unfolding all_clocked
  accepted step named is none there = accepted_so step.now (commands.Close named) step.old step.new step.answer
      (subst (λ input. HasStepped step.now input step.old step.new step.answer) is step.made)
      (closes step.now step.old.state.sited.table (all_clocked step.now step.old.state.ixl) named (record {
        there = named_as step.old.state.sited.table step.old.state.ixl (all_clocked step.now step.old.state.ixl) named (clocked_signals step.now step.old.state.ixl) there;
        unused = unused;
      }))
    where
      unused : (number : ℕ) → OfRoute step.old.state.sited.table (all_clocked step.now step.old.state.ixl) (KeepsOpen step.old.state.sited.table (all_clocked step.now step.old.state.ixl) named) number → ⊥
      unused number (row, route, at, (going, inl (thing, names, uses))) = false≢true (sym (none number route at.1) ∙ uses_set number row route thing uses)
      unused number (row, route, at, (going, inr (section, names, (point, side, holds, lies, unknown)))) = false≢true (sym (none number route at.1) ∙ holds.0)

  -- no route is set by it
  none_set : (step : StepTaken) (named : Named) → step.input ≡ Commands (commands.Close named) → NoneSet step.old.state.ixl → NoneSet step.new.state.ixl
  unfolding is_close
  none_set step named is none number route at = by_set (is_set route.phase) refl where
    before : (old : RouteState) × (slice_get step.old.state.ixl.routes number ≡ Some old)
    before = routes_were_there step.now step.input step.old step.new step.answer number route step.made at

    by_way : GoesOn step.input step.answer number before.0.phase route.phase → is_set route.phase ≡ true → ⊥
    by_way (inl onward) set = false≢true (sym (none number before.0 before.1) ∙ set_back before.0.phase route.phase onward set)
    by_way (inr anew) set = false≢true (ap is_close (sym anew.request ∙ is))

    by_set : (set : Bool) → is_set route.phase ≡ set → is_set route.phase ≡ false
    by_set false unset = unset
    by_set true set = absurd (by_way (steps_go_on step.now step.input step.old step.new step.answer number before.0 route step.made before.1 at) set)

  -- what it names is closed, and what was closed stays so
  closes_it : (step : StepTaken) (named : Named) (thing : Thing) → step.input ≡ Commands (commands.Close named) → step.answer ≡ Accepted → Names named thing ⊎ IsClosed step.old.state.ixl.closed thing →
      IsClosed step.new.state.ixl.closed thing
  closes_it step named thing is accepts names =
      subst (λ (c : Closings). IsClosed c thing) (sym (closed_step step.now step.input step.old step.new step.answer step.made
      ∙ ap (λ input. closed_after input step.answer step.old.state.ixl.closed) is ∙ ap (λ answer. closed_after (Commands (commands.Close named)) answer step.old.state.ixl.closed) accepts))
      (closed_by step.old.state.ixl.closed named thing names)

  -- ---- one after another

  -- what the next step begins with
  next_none : (before next : StepTaken) → next.old.state ≡ before.new.state → NoneSet before.new.state.ixl → NoneSet next.old.state.ixl
  next_none before next same none = subst (λ (s : StateView). NoneSet s.ixl) (sym same) none

  next_named : (name : Named) (names : List Named) (before next : StepTaken) → next.old.state ≡ before.new.state → All (IsNamed before.old.state.sited.table before.old.state.ixl) (name ∷ names) →
      All (IsNamed next.old.state.sited.table next.old.state.ixl) names
  next_named name names before next same all =
      let sited : next.old.state.sited ≡ before.old.state.sited = ap (λ (s : StateView). s.sited) same ∙ before.made.sited
      in let signals : length next.old.state.ixl.known_signals ≡ length before.old.state.ixl.known_signals =
      ap (λ (s : StateView). length s.ixl.known_signals) same ∙ step_signals before.now before.input before.old before.new before.answer before.made
      in All-weaker (IsNamed before.old.state.sited.table before.old.state.ixl) (IsNamed next.old.state.sited.table next.old.state.ixl)
      (λ named there. subst (λ (s : SitedTable). IsNamed s.table next.old.state.ixl named) (sym sited)
      (named_as before.old.state.sited.table before.old.state.ixl next.old.state.ixl named signals there))
      names (All-tail (IsNamed before.old.state.sited.table before.old.state.ixl) name names all)

  pub all_accepted : (names : List Named) (first : StepTaken) (others : List StepTaken) → OneAfterAnother first others → NoneSet first.old.state.ixl → AreCloses names (first ∷ others) →
      All (IsNamed first.old.state.sited.table first.old.state.ixl) names → AllAccepted (first ∷ others)
  all_accepted [] first others chain none are all place step at = absurd (some_close first others are)
  all_accepted (name ∷ names) first others chain none are all zero step at =
      subst (λ (s : StepTaken). s.answer ≡ Accepted) (some_same at) (accepted first name (first_close name names first others are) none (all 0 name (omega arith)))
  all_accepted (name ∷ names) first [] chain none are all (suc place) step at = absurd (none_is at)
  all_accepted (name ∷ names) first (next ∷ others) chain none are all (suc place) step at =
      all_accepted names next others chain.1 (next_none first next chain.0 (none_set first name (first_close name names first (next ∷ others) are) none)) (other_closes name names first (next ∷ others) are)
      (next_named name names first next chain.0 all) place step at

  -- what is closed at last: what is closed already, or is named by a close that comes yet
  abbrev IsComing : List Named → Named → Thing → IxlState → Type 0
  IsComing names named thing ixl = IsClosed ixl.closed thing ⊎ (Contains names named × Names named thing)

  -- behind the first of these closes
  behind_first : (name : Named) (names : List Named) (named : Named) (thing : Thing) (first : StepTaken) → first.input ≡ Commands (commands.Close name) → first.answer ≡ Accepted →
      IsComing (name ∷ names) named thing first.old.state.ixl → IsComing names named thing first.new.state.ixl
  behind_first name names named thing first is accepts (inl was) = inl (closes_it first name thing is accepts (inr was))
  behind_first name names named thing first is accepts (inr ((zero, within, at), said)) = inl (closes_it first name thing is accepts (inl (subst (λ n. Names n thing) (sym at) said)))
  behind_first name names named thing first is accepts (inr ((suc k, within, at), said)) = inr ((k, omega (arith, within), at), said)

  -- behind the last of them
  none_coming : (names : List Named) (named : Named) (thing : Thing) (ixl : IxlState) → AreCloses names [] → IsComing names named thing ixl → IsClosed ixl.closed thing
  none_coming names named thing ixl are (inl closed) = closed
  none_coming [] named thing ixl are (inr ((k, within, at), said)) = absurd (omega (arith, within))
  none_coming (name ∷ names) named thing ixl are (inr coming) = absurd (no_more name names are)

  -- what is closed, or is named by one of them, is closed at last
  pub all_closed : (names : List Named) (first : StepTaken) (others : List StepTaken) (named : Named) (thing : Thing) → OneAfterAnother first others → AreCloses names (first ∷ others) →
      AllAccepted (first ∷ others) → IsComing names named thing first.old.state.ixl → IsClosed (last_of first others).new.state.ixl.closed thing
  all_closed [] first others named thing chain are accepts is = absurd (some_close first others are)
  all_closed (name ∷ names) first [] named thing chain are accepts is = none_coming names named thing first.new.state.ixl (other_closes name names first [] are)
      (behind_first name names named thing first (first_close name names first [] are) (accepts 0 first refl) is)
  all_closed (name ∷ names) first (next ∷ others) named thing chain are accepts is =
      all_closed names next others named thing chain.1 (other_closes name names first (next ∷ others) are) (λ place step at. accepts (suc place) step at)
      (subst (λ (s : StateView). IsComing names named thing s.ixl) (sym chain.0)
      (behind_first name names named thing first (first_close name names first (next ∷ others) are) (accepts 0 first refl) is))
