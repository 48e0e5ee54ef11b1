-- A node by the inputs that came to it.
use Rattle.std.proofs.Common.{◌≡◌, ◌∙◌, ◌&&◌, ℕ, List, [], ◌∷◌, ◌++◌, map, Bool, true, false, cond, refl, sym, ap}
use Rattle.node_drive.specs.Kinds.{Kind, Meaning, InForce, Comes, Faulty}
use Rattle.node_drive.specs.Lives.{came, inputs_of, inputs_told, state_after}
use Rattle.node_drive.specs.Rounds.{Coming, RoundBegins, Listened, Line, NoLine, LinesEnd, Datagram, NoDatagram, FailedDatagram, Tick, Ends, Standing, all_come, comes, counted, having_called, is_taken, later_kept, next_kept, not_heard, step, steps, then_released, told}
use Rattle.node_drive.specs.Calls.{Reads}
use Rattle.node_drive.specs.Seen.{is_heard}
use Rattle.node_drive.specs.declared.outside.ThrownAway.{ThrownAway}
use Rattle.node_drive.specs.declared.outside.Origin.{Origin}

module _ {State In : Type 0} (kind : Kind State In) where
  after-append : (some more : List (ℕ × In)) (state : State) → state_after kind (some ++ more) state ≡ state_after kind more (state_after kind some state)
  after-append [] more state = refl
  after-append (one ∷ some) more state = after-append some more (kind.after one.0 one.1 state)

  steps-state : (now : ℕ) (kept : List Bool) (inputs : List In) (standing : Standing State)
      → (steps kind now kept inputs standing).1.state ≡ state_after kind (map (λ (input : In). (now, input)) inputs) standing.state
  steps-state now kept [] standing = refl
  steps-state now kept (input ∷ inputs) standing = steps-state now (later_kept kept) inputs _

  told-state : (now : ℕ) (kept : List Bool) (meaning : Meaning In) (standing : Standing State)
      → (told kind now kept meaning standing).1.state ≡ state_after kind (inputs_told now meaning) standing.state
  told-state now kept (InForce number) standing = refl
  told-state now kept (Comes answer inputs) standing = steps-state now kept inputs standing
  told-state now kept (Faulty fault) standing = refl

  datagram-state : (now : ℕ) (origin : Origin) (bytes : List ℕ) (thrown : ThrownAway) (ends : Ends) (standing : Standing State)
      → (comes kind now (Datagram origin bytes thrown ends) standing).1.state ≡ state_after kind (inputs_of kind now (Datagram origin bytes thrown ends) standing) standing.state
  datagram-state now origin bytes thrown ends standing = by (is_heard now standing.course.seen) (is_taken kind origin.from)
    where
      by : (heard taken : Bool)
          → (cond heard (then_released ends.leaves (cond taken (step kind now (next_kept ends.kept) (kind.datagram bytes) (having_called (Reads now ∷ []) standing)) ([], counted (having_called (Reads now ∷ []) standing)))) (not_heard thrown (having_called (Reads now ∷ []) standing))).1.state
          ≡ state_after kind (cond (heard && taken) ((now, kind.datagram bytes) ∷ []) []) standing.state
      by true true = refl
      by true false = refl
      by false taken = refl

  pub comes-state : (now : ℕ) (coming : Coming) (standing : Standing State)
      → (comes kind now coming standing).1.state ≡ state_after kind (inputs_of kind now coming standing) standing.state
  comes-state now RoundBegins standing = refl
  comes-state now (Listened true) standing = refl
  comes-state now (Listened false) standing = refl
  comes-state now (Line text ends) standing = told-state now ends.kept (kind.meaning now text standing.state) _
  comes-state now NoLine standing = refl
  comes-state now LinesEnd standing = refl
  comes-state now (Datagram origin bytes thrown ends) standing = datagram-state now origin bytes thrown ends standing
  comes-state now NoDatagram standing = refl
  comes-state now FailedDatagram standing = refl
  comes-state now (Tick ends) standing = refl

  pub node_is_what_came : (comings : List (ℕ × Coming)) (standing : Standing State)
      → (all_come kind comings standing).1.state ≡ state_after kind (came kind comings standing) standing.state
  node_is_what_came [] standing = refl
  node_is_what_came (one ∷ others) standing =
      node_is_what_came others (comes kind one.0 one.1 standing).1
      ∙ ap (state_after kind (came kind others (comes kind one.0 one.1 standing).1)) (comes-state one.0 one.1 standing)
      ∙ sym (after-append (inputs_of kind one.0 one.1 standing) (came kind others (comes kind one.0 one.1 standing).1) standing.state)
