-- What the equipment of a controller was told last when its node is made.
use Rattle.std.proofs.Common.{◌≡◌, ◌∙◌, ◌&&◌, ◌==◌, ◌⊎◌, inl, inr, ℕ, nat_le, Bool, true, false, cond, List, [], ◌∷◌, ◌++◌, map, Option, Some, None, refl, sym, ap, subst, length, append_assoc, append-nil, arith}
use Rattle.std.proofs.lemmas.Bool.Decides.{nat_tests}
use Rattle.node_kinds.specs.simulator_spec.layout.Entries.{Site}
use Rattle.node_kinds.specs.simulator_spec.sci_telegram.declared.message.Side.{Side}
use Rattle.node_kinds.specs.simulator_spec.sci_telegram.declared.message.Side.TheVariants as side
use Rattle.node_kinds.specs.node_drive.node_lines.declared.order.Order.{Order}
use Rattle.node_kinds.specs.node_drive.node_lines.declared.order.Order.TheVariants.{ShowStop, ShowProceed, ShowSlow, DriveNone, Drive}
use Rattle.node_kinds.specs.node_drive.replay_words.declared.fault.Fault.TheVariants.{Number}
use Rattle.node_kinds.specs.node_drive.simulator_event.layout.declared.ids.NodeId.{NodeId}
use Rattle.node_kinds.specs.node_drive.Beginning.{first_course}
use Rattle.node_kinds.specs.node_drive.Calls.{Call, Complains, Told}
use Rattle.node_kinds.specs.node_drive.Drives.{AreRounds, Ran, Round, behind_lines, datagrams_in, in_round, in_rounds, line_in, lines_end, opening}
use Rattle.node_kinds.specs.node_drive.Kinds.{Meaning, InForce, Comes, Faulty}
use Rattle.node_kinds.specs.node_drive.Rounds.{Coming, RoundBegins, Listened, Line, NoLine, LinesEnd, Datagram, NoDatagram, FailedDatagram, Tick, CourseState, Done, Ends, Standing, all_come, asked, comes, counted, datagram, having_called, heard_one, is_taken, last_order, later, later_kept, line, new_order, next_kept, not_heard, step, steps, then_released, told}
use Rattle.node_kinds.specs.node_drive.node_lines.ixl_spec.Table.{is_same_side}
use Rattle.node_kinds.specs.node_drive.Same.{is_same_order}
use Rattle.node_kinds.specs.node_drive.Seen.{is_heard}
use Rattle.node_kinds.specs.node_drive.Waiting.{waiting_on}
use Rattle.node_kinds.specs.node_drive.declared.outside.Origin.{Origin}
use Rattle.node_kinds.specs.node_drive.declared.outside.ThrownAway.{ThrownAway}
use Rattle.node_kinds.specs.Openings.{Equipment, Opening, Opens, Lies, Nothing, Stands, opened_by, opening_kind, rest_order, untold}
use Rattle.node_kinds.specs.Processes.{standing}

-- ---- an order that is written unless it is that of the last line

same_side : (one other : Side) → is_same_side one other ≡ true → one ≡ other
same_side side.Right side.Right e = refl
same_side side.Left side.Left e = refl
same_side side.Right side.Left e = cc
same_side side.Left side.Right e = cc

both_true : (a b : Bool) → (a && b) ≡ true → (a ≡ true) × (b ≡ true)
both_true true true e = (refl, refl)
both_true true false e = (refl, e)
both_true false b e = cc

same_order : (one other : Order) → is_same_order one other ≡ true → one ≡ other
same_order ShowStop ShowStop e = refl
same_order (ShowProceed one) (ShowProceed other) e = ap ShowProceed (grind (arith, nat_tests, e))
same_order (ShowSlow one) (ShowSlow other) e = ap ShowSlow (grind (arith, nat_tests, e))
same_order DriveNone DriveNone e = refl
same_order (Drive to one) (Drive side other) e =
    let both = both_true (is_same_side to side) (one == other) e in
    let until = both.1 in
    ap (λ (s : Side). Drive s one) (same_side to side both.0) ∙ ap (Drive side) (grind (arith, nat_tests, until))
same_order ShowStop (ShowProceed other) e = cc
same_order ShowStop (ShowSlow other) e = cc
same_order ShowStop DriveNone e = cc
same_order ShowStop (Drive side other) e = cc
same_order (ShowProceed one) ShowStop e = cc
same_order (ShowProceed one) (ShowSlow other) e = cc
same_order (ShowProceed one) DriveNone e = cc
same_order (ShowProceed one) (Drive side other) e = cc
same_order (ShowSlow one) ShowStop e = cc
same_order (ShowSlow one) (ShowProceed other) e = cc
same_order (ShowSlow one) DriveNone e = cc
same_order (ShowSlow one) (Drive side other) e = cc
same_order DriveNone ShowStop e = cc
same_order DriveNone (ShowProceed other) e = cc
same_order DriveNone (ShowSlow other) e = cc
same_order DriveNone (Drive side other) e = cc
same_order (Drive to one) ShowStop e = cc
same_order (Drive to one) (ShowProceed other) e = cc
same_order (Drive to one) (ShowSlow other) e = cc
same_order (Drive to one) DriveNone e = cc

by_same : (last order : Order) (same : Bool) → is_same_order last order ≡ same → last_order (Some last) (cond same None (Some order)) ≡ Some order
by_same last order true e = ap Some (same_order last order e)
by_same last order false e = refl

pub order_kept : (last : Option Order) (order : Order) → last_order last (new_order last (Some order)) ≡ Some order
order_kept None order = refl
order_kept (Some last) order = by_same last order (is_same_order last order) refl

-- ---- before the node is made

-- the last order is the one by which the equipment rests, or none was written
abbrev IsRest : Equipment → Option Order → Type 0
IsRest equipment order = (order ≡ None) ⊎ (order ≡ rest_order equipment)

written_at : (last rest : Option Order) → (last ≡ None) ⊎ (last ≡ rest) → last_order last (new_order last rest) ≡ rest
written_at last None (inl none) = none
written_at last None (inr same) = same
written_at last (Some order) either = order_kept last order

-- the equipment is the same, and was told nothing else than to rest; and no datagram waits
record Waits (equipment : Equipment) (standing : Standing Opening) : Type 0 where
  equipment_is : standing.state.equipment ≡ equipment
  order_is : IsRest equipment standing.course.order
  none_waits : standing.course.waiting ≡ []

same_equipment : (input : Opens) (opening : Opening) → (opened_by input opening).equipment ≡ opening.equipment
same_equipment Nothing opening = refl
same_equipment (Lies position) opening = refl
same_equipment (Stands place occupancy) opening = refl

module _ (equipment : Equipment) where
  -- after a step it was told to rest
  told_to_rest : (now : ℕ) (kept : Bool) (input : Opens) (at : Standing Opening) → Waits equipment at → (step opening_kind now kept input at).1.course.order ≡ rest_order equipment
  told_to_rest now kept input at waits =
      ap (λ (e : Equipment). last_order at.course.order (new_order at.course.order (rest_order e))) (same_equipment input at.state ∙ waits.equipment_is)
      ∙ written_at at.course.order (rest_order equipment) waits.order_is

  step_waits : (now : ℕ) (kept : Bool) (input : Opens) (at : Standing Opening) → Waits equipment at → Waits equipment (step opening_kind now kept input at).1
  step_waits now kept input at waits = record { equipment_is = same_equipment input at.state ∙ waits.equipment_is; order_is = inr (told_to_rest now kept input at waits); none_waits = append-nil at.course.waiting ∙ waits.none_waits }

  steps_wait : (now : ℕ) (kept : List Bool) (inputs : List Opens) (at : Standing Opening) → Waits equipment at → Waits equipment (steps opening_kind now kept inputs at).1
  steps_wait now kept [] at waits = waits
  steps_wait now kept (input ∷ inputs) at waits = steps_wait now (later_kept kept) inputs (step opening_kind now (next_kept kept) input at).1 (step_waits now (next_kept kept) input at waits)

  order_forced : (number : ℕ) (course : CourseState) (known : Bool)
      → let done : Done CourseState = cond known ([], record course { in_force = later course.in_force number }) (Complains course.heard Number ∷ [], course)
      in done.1.order ≡ course.order
  order_forced number course true = refl
  order_forced number course false = refl

  waiting_forced : (number : ℕ) (course : CourseState) (known : Bool)
      → let done : Done CourseState = cond known ([], record course { in_force = later course.in_force number }) (Complains course.heard Number ∷ [], course)
      in done.1.waiting ≡ course.waiting
  waiting_forced number course true = refl
  waiting_forced number course false = refl

  told_waits : (now : ℕ) (kept : List Bool) (meaning : Meaning Opens) (at : Standing Opening) → Waits equipment at → Waits equipment (told opening_kind now kept meaning at).1
  told_waits now kept (InForce number) at waits = record {
    equipment_is = waits.equipment_is;
    order_is = subst (IsRest equipment) (sym (order_forced number at.course (nat_le number at.course.written))) waits.order_is;
    none_waits = waiting_forced number at.course (nat_le number at.course.written) ∙ waits.none_waits;
  }
  told_waits now kept (Comes answer inputs) at waits = steps_wait now kept inputs at waits
  told_waits now kept (Faulty fault) at waits = waits

  -- what is called, what leaves, and what isn't heard changes nothing of it
  called_waits : (calls : List Call) (at : Standing Opening) → Waits equipment at → Waits equipment (having_called calls at)
  called_waits calls at waits = record { equipment_is = waits.equipment_is; order_is = waits.order_is; none_waits = waits.none_waits }

  released_waits : (leaves : ℕ) (done : Done (Standing Opening)) → Waits equipment done.1 → Waits equipment (then_released leaves done).1
  released_waits leaves done waits = record { equipment_is = waits.equipment_is; order_is = waits.order_is; none_waits = ap (waiting_on leaves done.1.course.in_force) waits.none_waits }

  -- and datagrams aren't for it
  none_taken : (from : Option NodeId) → is_taken opening_kind from ≡ false
  none_taken None = refl
  none_taken (Some from) = refl

  dropped_waits : (now : ℕ) (kept : Bool) (origin : Origin) (bytes : List ℕ) (at : Standing Opening) → Waits equipment at → Waits equipment (datagram opening_kind now kept origin bytes at).1
  dropped_waits now kept origin bytes at waits = by (is_taken opening_kind origin.from) (none_taken origin.from)
    where
      by : (taken : Bool) → taken ≡ false → Waits equipment (cond taken (step opening_kind now kept (opening_kind.datagram bytes) at) ([], counted at)).1
      by true e = absurd (cc)
      by false e = record { equipment_is = waits.equipment_is; order_is = waits.order_is; none_waits = waits.none_waits }

  datagram_waits : (now : ℕ) (ends : Ends) (origin : Origin) (bytes : List ℕ) (thrown : ThrownAway) (at : Standing Opening) (heard : Bool) → Waits equipment at
      → Waits equipment (cond heard (then_released ends.leaves (datagram opening_kind now (next_kept ends.kept) origin bytes at)) (not_heard thrown at)).1
  datagram_waits now ends origin bytes thrown at true waits = released_waits ends.leaves (datagram opening_kind now (next_kept ends.kept) origin bytes at) (dropped_waits now (next_kept ends.kept) origin bytes at waits)
  datagram_waits now ends origin bytes thrown at false waits = record { equipment_is = waits.equipment_is; order_is = waits.order_is; none_waits = waits.none_waits }

  comes_waits : (now : ℕ) (coming : Coming) (at : Standing Opening) → Waits equipment at → Waits equipment (comes opening_kind now coming at).1
  comes_waits now RoundBegins at waits = called_waits (asked now RoundBegins) at waits
  comes_waits now (Listened true) at waits = called_waits (asked now (Listened true)) at waits
  comes_waits now (Listened false) at waits = called_waits (asked now (Listened false)) at waits
  comes_waits now (Line text ends) at waits =
      let here = having_called (asked now (Line text ends)) at in
      released_waits ends.leaves (line opening_kind now ends.kept text here)
      (told_waits now ends.kept (opening_kind.meaning now text at.state) (heard_one here) (record { equipment_is = waits.equipment_is; order_is = waits.order_is; none_waits = waits.none_waits }))
  comes_waits now NoLine at waits = called_waits (asked now NoLine) at waits
  comes_waits now LinesEnd at waits = called_waits (asked now LinesEnd) at waits
  comes_waits now (Datagram origin bytes thrown ends) at waits =
      let calls = asked now (Datagram origin bytes thrown ends) in
      datagram_waits now ends origin bytes thrown (having_called calls at) (is_heard now at.course.seen) (called_waits calls at waits)
  comes_waits now NoDatagram at waits = called_waits (asked now NoDatagram) at waits
  comes_waits now FailedDatagram at waits = called_waits (asked now FailedDatagram) at waits
  comes_waits now (Tick ends) at waits =
      let here = having_called (asked now (Tick ends)) at in
      released_waits ends.leaves (step opening_kind now (next_kept ends.kept) Nothing here) (step_waits now (next_kept ends.kept) Nothing here (called_waits (asked now (Tick ends)) at waits))

  all_wait : (comings : List (ℕ × Coming)) (at : Standing Opening) → Waits equipment at → Waits equipment (all_come opening_kind comings at).1
  all_wait [] at waits = waits
  all_wait (one ∷ others) at waits = all_wait others (comes opening_kind one.0 one.1 at).1 (comes_waits one.0 one.1 at waits)

  -- where a tick comes last, it was told to rest
  ticked : (comings : List (ℕ × Coming)) (now : ℕ) (ends : Ends) (at : Standing Opening) → Waits equipment at → (all_come opening_kind (comings ++ (now, Tick ends) ∷ []) at).1.course.order ≡ rest_order equipment
  ticked [] now ends at waits = told_to_rest now (next_kept ends.kept) Nothing (having_called (asked now (Tick ends)) at) (called_waits (asked now (Tick ends)) at waits)
  ticked (one ∷ others) now ends at waits = ticked others now ends (comes opening_kind one.0 one.1 at).1 (comes_waits one.0 one.1 at waits)

-- ---- a tick comes last in a run

record EndsWithTick (comings : List (ℕ × Coming)) : Type 0 where
  front : List (ℕ × Coming)
  now : ℕ
  ends : Ends
  comings_are : comings ≡ front ++ (now, Tick ends) ∷ []

behind : (before comings : List (ℕ × Coming)) → EndsWithTick comings → EndsWithTick (before ++ comings)
behind before comings last = record {
  front = before ++ last.front;
  now = last.now;
  ends = last.ends;
  comings_are = ap (λ l. before ++ l) last.comings_are ∙ sym (append_assoc before last.front ((last.now, Tick last.ends) ∷ []));
}

round_ends : (round : Round) → round.closed ≡ false → EndsWithTick (in_round round)
round_ends round goes_on =
    let last : List (ℕ × Coming) = (round.ticks, Tick round.ends) ∷ [] in
    let tick : EndsWithTick last = record { front = []; now = round.ticks; ends = round.ends; comings_are = refl } in
    let lines = behind (lines_end (length round.lines)) (datagrams_in round ++ last) (behind (datagrams_in round) last tick) in
    behind (opening round.begins round.listened) (map line_in round.lines ++ behind_lines round round.closed)
    (behind (map line_in round.lines) (behind_lines round round.closed) (subst (λ c. EndsWithTick (behind_lines round c)) (sym goes_on) lines))

rounds_end : (earlier : List Round) (last : Round) (at : Standing Opening) → AreRounds opening_kind (earlier ++ last ∷ []) at → EndsWithTick (in_rounds (earlier ++ last ∷ []))
rounds_end [] last at are = subst EndsWithTick (sym (append-nil (in_round last))) (round_ends last are.1)
rounds_end (round ∷ rounds) last at are = behind (in_round round) (in_rounds (rounds ++ last ∷ [])) (rounds_end rounds last (all_come opening_kind (in_round round) at).1 are.2)

-- ---- so the equipment rests when the node is made

pub run_rests : {for_ms begins ticks : ℕ} {told_old told_new : Told} (site : Site) (equipment : Equipment) (opened : Opening) (after : CourseState)
    → Ran opening_kind for_ms begins ticks (standing (untold site equipment) first_course) (standing opened after) told_old told_new → after.order ≡ rest_order equipment
run_rests site equipment opened after ran =
    let first : Standing Opening = standing (untold site equipment) first_course in
    let last = rounds_end ran.earlier ran.last first ran.are in
    ap (λ (s : Standing Opening). s.course.order) ran.performs.standing_is
    ∙ ap (λ (c : List (ℕ × Coming)). (all_come opening_kind c first).1.course.order) last.comings_are
    ∙ ticked equipment last.front last.now last.ends first (record { equipment_is = refl; order_is = inl refl; none_waits = refl })

-- and no datagram waits then
pub run_hands_none : {for_ms begins ticks : ℕ} {told_old told_new : Told} (site : Site) (equipment : Equipment) (opened : Opening) (after : CourseState)
    → Ran opening_kind for_ms begins ticks (standing (untold site equipment) first_course) (standing opened after) told_old told_new → after.waiting ≡ []
run_hands_none site equipment opened after ran =
    let first : Standing Opening = standing (untold site equipment) first_course in
    ap (λ (s : Standing Opening). s.course.waiting) ran.performs.standing_is
    ∙ (all_wait equipment (in_rounds (ran.earlier ++ ran.last ∷ [])) first (record { equipment_is = refl; order_is = inl refl; none_waits = refl })).none_waits
