-- The last order that was written is what the equipment has to do.
use Rattle.std.proofs.Common.{◌≡◌, ◌∙◌, ◌&&◌, ◌==◌, ℕ, nat_le, Bool, true, false, cond, List, [], ◌∷◌, Option, Some, None, IsSome, refl, ap, arith}
use Rattle.std.proofs.lemmas.Bool.Decides.{nat_tests}
use Rattle.node_lines.specs.sci_telegram.declared.message.Side.{Side}
use Rattle.node_lines.specs.sci_telegram.declared.message.Side.TheVariants as side
use Rattle.node_lines.specs.declared.order.Order.{Order}
use Rattle.node_lines.specs.declared.order.Order.TheVariants.{ShowStop, ShowProceed, ShowSlow, DriveNone, Drive}
use Rattle.node_drive.specs.Calls.{Complains, Reads}
use Rattle.node_drive.specs.Kinds.{Kind, Meaning, InForce, Comes, Faulty}
use Rattle.node_drive.specs.Rounds.{Coming, RoundBegins, Listened, Line, NoLine, LinesEnd, Datagram, NoDatagram, FailedDatagram, Tick, CourseState, Done, Ends, Standing, all_come, comes, counted, datagram, having_called, heard_one, is_taken, last_order, later, later_kept, new_order, next_kept, not_heard, step, steps, then_released, told}
use Rattle.node_drive.specs.Seen.{is_heard}
use Rattle.node_drive.specs.declared.outside.ThrownAway.{ThrownAway}
use Rattle.node_lines.specs.ixl_spec.Table.{is_same_side}
use Rattle.node_drive.specs.Same.{is_same_order}
use Rattle.node_lines.specs.replay_words.declared.fault.Fault.TheVariants.{Number}
use Rattle.node_drive.specs.declared.outside.Origin.{Origin}

same_side : (one other : Side) → is_same_side one other ≡ true → one ≡ other
same_side side.Right side.Right e = refl
same_side side.Left side.Left e = refl
same_side side.Right side.Left e = cc
same_side side.Left side.Right e = cc

both_true : (a b : Bool) → (a && b) ≡ true → (a ≡ true) × (b ≡ true)
both_true true true e = (refl, refl)
both_true true false e = (refl, e)
both_true false b e = cc

same_order : (one other : Order) → is_same_order one other ≡ true → one ≡ other
same_order ShowStop ShowStop e = refl
same_order (ShowProceed one) (ShowProceed other) e = ap ShowProceed (grind (arith, nat_tests, e))
same_order (ShowSlow one) (ShowSlow other) e = ap ShowSlow (grind (arith, nat_tests, e))
same_order DriveNone DriveNone e = refl
same_order (Drive to one) (Drive side other) e =
    let both = both_true (is_same_side to side) (one == other) e in
    let until = both.1 in
    ap (λ (s : Side). Drive s one) (same_side to side both.0) ∙ ap (Drive side) (grind (arith, nat_tests, until))
same_order ShowStop (ShowProceed other) e = cc
same_order ShowStop (ShowSlow other) e = cc
same_order ShowStop DriveNone e = cc
same_order ShowStop (Drive side other) e = cc
same_order (ShowProceed one) ShowStop e = cc
same_order (ShowProceed one) (ShowSlow other) e = cc
same_order (ShowProceed one) DriveNone e = cc
same_order (ShowProceed one) (Drive side other) e = cc
same_order (ShowSlow one) ShowStop e = cc
same_order (ShowSlow one) (ShowProceed other) e = cc
same_order (ShowSlow one) DriveNone e = cc
same_order (ShowSlow one) (Drive side other) e = cc
same_order DriveNone ShowStop e = cc
same_order DriveNone (ShowProceed other) e = cc
same_order DriveNone (ShowSlow other) e = cc
same_order DriveNone (Drive side other) e = cc
same_order (Drive to one) ShowStop e = cc
same_order (Drive to one) (ShowProceed other) e = cc
same_order (Drive to one) (ShowSlow other) e = cc
same_order (Drive to one) DriveNone e = cc

by_same : (last order : Order) (same : Bool) → is_same_order last order ≡ same → last_order (Some last) (cond same None (Some order)) ≡ Some order
by_same last order true e = ap Some (same_order last order e)
by_same last order false e = refl

order_kept : (last now : Option Order) → IsSome now → last_order last (new_order last now) ≡ now
order_kept last None some = cc
order_kept None (Some order) some = refl
order_kept (Some last) (Some order) some = by_same last order (is_same_order last order) refl

-- what is put in force changes no order
order_forced : (number : ℕ) (course : CourseState) (known : Bool) → (cond {A = Done CourseState} known ([], record course { in_force = later course.in_force number }) (Complains course.heard Number ∷ [], course)).1.order ≡ course.order
order_forced number course true = refl
order_forced number course false = refl

module _ {State In : Type 0} (kind : Kind State In) (some : (state : State) → IsSome (kind.order state)) where
  abbrev Stands : Standing State → Type 0
  Stands standing = standing.course.order ≡ kind.order standing.state

  step-stands : (now : ℕ) (kept : Bool) (input : In) (standing : Standing State) → Stands (step kind now kept input standing).1
  step-stands now kept input standing = order_kept standing.course.order (kind.order (kind.after now input standing.state)) (some (kind.after now input standing.state))

  steps-stands : (now : ℕ) (kept : List Bool) (inputs : List In) (standing : Standing State) → Stands standing → Stands (steps kind now kept inputs standing).1
  steps-stands now kept [] standing h = h
  steps-stands now kept (input ∷ inputs) standing h = steps-stands now (later_kept kept) inputs (step kind now (next_kept kept) input standing).1 (step-stands now (next_kept kept) input standing)

  told-stands : (now : ℕ) (kept : List Bool) (meaning : Meaning In) (standing : Standing State) → Stands standing → Stands (told kind now kept meaning standing).1
  told-stands now kept (InForce number) standing h = order_forced number standing.course (nat_le number standing.course.written) ∙ h
  told-stands now kept (Comes answer inputs) standing h = steps-stands now kept inputs standing h
  told-stands now kept (Faulty fault) standing h = h

  taken-stands : (now : ℕ) (kept : Bool) (bytes : List ℕ) (standing : Standing State) (taken : Bool) → Stands standing → Stands (cond taken (step kind now kept (kind.datagram bytes) standing) ([], counted standing)).1
  taken-stands now kept bytes standing true h = step-stands now kept (kind.datagram bytes) standing
  taken-stands now kept bytes standing false h = h

  heard-stands : (now : ℕ) (origin : Origin) (bytes : List ℕ) (thrown : ThrownAway) (ends : Ends) (standing : Standing State) (heard : Bool) → Stands standing
      → Stands (cond heard (then_released ends.leaves (datagram kind now (next_kept ends.kept) origin bytes standing)) (not_heard thrown standing)).1
  heard-stands now origin bytes thrown ends standing true h = taken-stands now (next_kept ends.kept) bytes standing (is_taken kind origin.from) h
  heard-stands now origin bytes thrown ends standing false h = h

  comes-stands : (now : ℕ) (coming : Coming) (standing : Standing State) → Stands standing → Stands (comes kind now coming standing).1
  comes-stands now RoundBegins standing h = h
  comes-stands now (Listened true) standing h = h
  comes-stands now (Listened false) standing h = h
  comes-stands now (Line text ends) standing h = told-stands now ends.kept (kind.meaning now text standing.state) (heard_one (having_called (Reads now ∷ []) standing)) h
  comes-stands now NoLine standing h = h
  comes-stands now LinesEnd standing h = h
  comes-stands now (Datagram origin bytes thrown ends) standing h =
      heard-stands now origin bytes thrown ends (having_called (Reads now ∷ []) standing) (is_heard now standing.course.seen) h
  comes-stands now NoDatagram standing h = h
  comes-stands now FailedDatagram standing h = h
  comes-stands now (Tick ends) standing h = step-stands now (next_kept ends.kept) kind.tick (having_called (Reads now ∷ []) standing)

  pub last_order_stands : (comings : List (ℕ × Coming)) (standing : Standing State) → standing.course.order ≡ kind.order standing.state
      → (all_come kind comings standing).1.course.order ≡ kind.order (all_come kind comings standing).1.state
  last_order_stands [] standing h = h
  last_order_stands (one ∷ others) standing h = last_order_stands others (comes kind one.0 one.1 standing).1 (comes-stands one.0 one.1 standing h)
