-- What a program's interlocking sent left it by the events of its history.
use Rattle.std.proofs.Common.{◌≡◌, ◌∙◌, ◌≤◌, ◌<◌, ◌+◌, ℕ, List, [], ◌∷◌, ◌++◌, Some, Ok, Result, refl, sym, ap, subst, append_assoc, append-nil}
use Rattle.std.specs.Prelude.{is_ok, if◌then◌else◌}
use Rattle.node_kinds.specs.simulator_spec.First.{Outset, new_ixl}
use Rattle.node_kinds.specs.simulator_spec.Nodes.{key_of}
use Rattle.node_kinds.specs.simulator_spec.ixl_spec.State.{IxlState}
use Rattle.node_kinds.specs.simulator_spec.ixl_spec.Step as ixl
use Rattle.node_kinds.specs.simulator_spec.ixl_spec.StepSoFar.{begun_with, empty_outbox}
use Rattle.node_kinds.specs.simulator_spec.ixl_spec.Table.{SitedTable, Table}
use Rattle.node_kinds.specs.simulator_spec.layout.Entries.{Site}
use Rattle.node_kinds.specs.simulator_spec.simulator_event.declared.event.Event.{Event}
use Rattle.embedded_host.specs.Leaving.{IsIn}
use Rattle.embedded_ixl.specs.Calls.{Call, Takes, after_call, after_calls, answer_to, input_by, leaves_by}
use Rattle.embedded_ixl.specs.Embedded.{EmbeddedIxlState, new_state, started}
use Rattle.embedded_ixl.specs.Inputs.{inputs_by, state_after}
use Rattle.embedded_ixl.specs.Leaving.{LeavesRightly}
use Rattle.embedded_ixl.specs.declared.call_refusal.CallRefusal.{CallRefusal}
use Rattle.embedded_ixl.specs.ixl_state.State.{StateView}
use Rattle.simulator_node_laws.specs.Lives.{first_life, interlocking_hears, ixl_after, the_interlocking}
use Rattle.simulator_node_laws.specs.Said.{said_to}
use Rattle.simulator_node_laws.specs.Shown.{interlocking_life, interlocking_now}
use Rattle.simulator_node_laws.specs.Told.{Told, ToInterlocking, told}
use Rattle.node_safety.specs.Journeys.{HasLeft}
use Rattle.node_safety.specs.Runs.{IsOfIxlCalls}
use Rattle.node_safety.proofs.Departs.{has_left, was_told}
use Rattle.node_safety.proofs.ByCalls.{IxlComesOfInputs, ixl_alike}

-- the law of what leaves
abbrev pub LeavesFresh : Type 0
LeavesFresh = (state : StateView) (begun : ℕ) (calls : List Call) (now : ℕ) (datagram : List ℕ) → leaves_by (Takes now) (after_calls calls (started state begun)) ≡ Some datagram
    → LeavesRightly (started state begun) calls now datagram × (begun + 2000 ≤ now)

-- ---- a list of calls and more

inputs_then : (calls more : List Call) (it : EmbeddedIxlState) → inputs_by (calls ++ more) it ≡ inputs_by calls it ++ inputs_by more (after_calls calls it)
unfolding after_calls inputs_by
inputs_then [] more it = refl
inputs_then (call ∷ calls) more it =
    let brought : List (ℕ × ixl.Input) = if is_ok (answer_to call it) then input_by call else []
    in ap (λ (inputs : List (ℕ × ixl.Input)). brought ++ inputs) (inputs_then calls more (after_call call it))
    ∙ sym (append_assoc brought (inputs_by calls (after_call call it)) (inputs_by more (after_calls calls (after_call call it))))

brings : (step : Call) (more : List Call) (it : EmbeddedIxlState) (input : ℕ × ixl.Input) → answer_to step it ≡ Ok tt → input_by step ≡ input ∷ [] → inputs_by (step ∷ more) it ≡ input ∷ inputs_by more (after_call step it)
unfolding inputs_by
brings step more it input accepted brought =
    ap (λ (answer : Result (Unit {0}) CallRefusal). (if is_ok answer then input_by step else []) ++ inputs_by more (after_call step it)) accepted
    ∙ ap (λ (l : List (ℕ × ixl.Input)). l ++ inputs_by more (after_call step it)) brought

sited_kept : (inputs : List (ℕ × ixl.Input)) (state : StateView) → (state_after inputs state).sited ≡ state.sited
unfolding state_after
sited_kept [] state = refl
sited_kept (one ∷ others) state = sited_kept others (record state { ixl = (state_after (one ∷ []) state).ixl })

-- ---- the interlocking hears what it is told

some_is : (one other : ixl.Input) → Some one ≡ Some other → one ≡ other
some_is one other e = cc

heard_station : (what : Told) (input : ixl.Input) → interlocking_hears what ≡ Some input → what ≡ ToInterlocking input
heard_station (ToInterlocking one) input e = ap ToInterlocking (some_is one input e)
heard_station what input e = cc

module _ (law : LeavesFresh) (comes : IxlComesOfInputs) (site : Site) (table : Table) (outset : Outset) (events : List Event) where
  abbrev new : StateView
  new = new_state (record { site = site; table = table }) (interlocking_life site table events).begins.first (interlocking_life site table events).begins.clock

  abbrev begun : EmbeddedIxlState
  begun = started new (interlocking_life site table events).begins.clock

  -- a step of the calls, with what came before
  module _ (earlier : List Call) where
    abbrev middle : StateView
    middle = (after_calls earlier begun).interlocking.state

    table_is : middle.sited ≡ record { site = site; table = table }
    table_is = ap (λ (state : StateView). state.sited) (comes earlier begun) ∙ sited_kept (inputs_by earlier begun) new

    ixl_is : middle.ixl ≡ ixl_after site table (inputs_by earlier begun) (new_ixl site table (interlocking_life site table events).begins)
    ixl_is = ap (λ (state : StateView). state.ixl) (comes earlier begun) ∙ ixl_alike (inputs_by earlier begun) new

  abbrev HandedOut : ℕ → SitedTable → IxlState → ixl.Input → List ℕ → Type 0
  HandedOut since sited state input datagram = IsIn datagram (ixl.stepped since sited.table (key_of sited.site) input (begun_with state empty_outbox)).outbox.datagrams

  pub station_left : (is : IsOfIxlCalls site table (interlocking_life site table events).begins.first (interlocking_life site table events).begins.clock (interlocking_life site table events).came) → is.later ≡ []
      → (before behind : List Call) (now : ℕ) (datagram : List ℕ) → is.calls ≡ before ++ Takes now ∷ behind → leaves_by (Takes now) (after_calls before begun) ≡ Some datagram → HasLeft site table outset events now datagram
  station_left is none before behind now datagram are leaves =
      let left = (law new (interlocking_life site table events).begins.clock before now datagram leaves).0 in
      let more : List Call = left.later ++ Takes now ∷ behind in
      let all : is.calls ≡ left.earlier ++ left.step ∷ more =
      are ∙ ap (λ (l : List Call). l ++ Takes now ∷ behind) left.calls_are ∙ append_assoc left.earlier (left.step ∷ left.later) (Takes now ∷ behind) in
      let rest : List (ℕ × ixl.Input) = inputs_by more (after_call left.step (after_calls left.earlier begun)) in
      let came : (interlocking_life site table events).came ≡ inputs_by left.earlier begun ++ (left.since, left.input) ∷ rest =
      sym (is.calls_are ∙ ap (λ (l : List (ℕ × ixl.Input)). (interlocking_life site table events).came ++ l) none ∙ append-nil (interlocking_life site table events).came)
      ∙ ap (λ (l : List Call). inputs_by l begun) all
      ∙ inputs_then left.earlier (left.step ∷ more) begun
      ∙ ap (λ (l : List (ℕ × ixl.Input)). inputs_by left.earlier begun ++ l) (brings left.step more (after_calls left.earlier begun) (left.since, left.input) left.accepted left.brought) in
      let at = was_told site table the_interlocking refl (first_life tt) refl events (inputs_by left.earlier begun) left.since left.input rest came in
      let now_is : (middle left.earlier).ixl ≡ (interlocking_now site table (interlocking_life site table at.before)).ixl =
      ixl_is left.earlier ∙ sym (λ i. ixl_after site table (at.came_is i) (new_ixl site table (at.begins_is i))) in
      let handed : HandedOut left.since (middle left.earlier).sited (middle left.earlier).ixl left.input datagram =
      record { before = left.handed.before; after = left.handed.after; all_are = left.handed.all_are } in
      let of_table : HandedOut left.since (record { site = site; table = table }) (middle left.earlier).ixl left.input datagram =
      subst (λ (sited : SitedTable). HandedOut left.since sited (middle left.earlier).ixl left.input datagram) (table_is left.earlier) handed in
      let of_life : HandedOut left.since (record { site = site; table = table }) (interlocking_now site table (interlocking_life site table at.before)).ixl left.input datagram =
      subst (λ (state : IxlState). HandedOut left.since (record { site = site; table = table }) state left.input datagram) now_is of_table in
      let said : IsIn datagram (said_to site table outset at.before (ToInterlocking left.input)) =
      subst (λ (n : ℕ). HandedOut n (record { site = site; table = table }) (interlocking_now site table (interlocking_life site table at.before)).ixl left.input datagram) (sym at.reading_is) of_life in
      has_left site table outset events at.before at.happening at.behind (ToInterlocking left.input) now datagram at.events_are (heard_station (told site table at.happening) left.input at.heard) said
      (subst (λ (n : ℕ). now < n + 500) (sym at.reading_is) left.fresh)
