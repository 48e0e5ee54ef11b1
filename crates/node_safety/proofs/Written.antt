-- What a controller writes are the orders of its life.
use Rattle.std.proofs.Common.{◌≡◌, ◌∙◌, ℕ, nat_le, Bool, true, false, ◌&&◌, cond, List, [], ◌∷◌, ◌++◌, map, Option, Some, None, refl, ap, append_assoc, append-nil}
use Rattle.node_kinds.specs.simulator_spec.layout.Entries.{Site}
use Rattle.node_kinds.specs.simulator_spec.layout.declared.ids.SectionId.{SectionId}
use Rattle.node_kinds.specs.simulator_spec.object_host.Behaviour.{Behaviour}
use Rattle.node_kinds.specs.simulator_spec.object_host.declared.input.Input.{Input}
use Rattle.node_kinds.specs.simulator_spec.sci_telegram.declared.message.Occupancy.{Occupancy}
use Rattle.node_kinds.specs.simulator_spec.sci_telegram.declared.message.Position.{Position}
use Rattle.node_kinds.specs.node_drive.node_lines.declared.order.Order.{Order}
use Rattle.node_kinds.specs.node_drive.node_lines.declared.report.FieldReport.{FieldReport}
use Rattle.node_kinds.specs.node_drive.node_lines.declared.report.FieldReport.TheVariants as reports
use Rattle.node_kinds.specs.node_drive.replay_words.declared.fault.Fault.{Fault}
use Rattle.node_kinds.specs.node_drive.replay_words.declared.fault.Fault.TheVariants.{Number}
use Rattle.node_kinds.specs.node_drive.Calls.{Call, Complains, Reads, Writes}
use Rattle.node_kinds.specs.node_drive.Kinds.{Kind, Meaning, InForce, Comes, Faulty}
use Rattle.node_kinds.specs.node_drive.Lives.{came, inputs_of, inputs_told}
use Rattle.node_kinds.specs.node_drive.Rounds.{Coming, RoundBegins, Listened, Line, NoLine, LinesEnd, Datagram, NoDatagram, FailedDatagram, Tick, CourseState, Done, Ends, Standing, all_come, asked, comes, counted, having_called, heard_one, is_taken, later, later_kept, line, next_kept, not_heard, read_for, sent, step, steps, then_released, told}
use Rattle.node_kinds.specs.node_drive.Seen.{is_heard}
use Rattle.node_kinds.specs.node_drive.Waiting.{Waiting, leaving, none_waits}
use Rattle.node_kinds.specs.node_drive.declared.outside.ThrownAway.{ThrownAway}
use Rattle.node_kinds.specs.Controllers.{Controller, controller, is_same_position, own_place, stands_so, told_of_section, told_to_detector, told_to_point, told_to_signal, unless_again}
use Rattle.node_safety.specs.Records.{order_lines, texts_in}
use Rattle.std.specs.Prelude.{Result, Ok, Err, slice_get}

-- ---- texts

texts_then : (some more : List Call) → texts_in (some ++ more) ≡ texts_in some ++ texts_in more
texts_then [] more = refl
texts_then (Writes text ∷ calls) more = ap (λ l. text ∷ l) (texts_then calls more)
texts_then (call ∷ calls) more = texts_then calls more

none_of_sent : (leaving : List Waiting) → texts_in (sent leaving) ≡ []
none_of_sent [] = refl
none_of_sent (one ∷ others) = none_of_sent others

none_of_read : (now : ℕ) (none : Bool) → texts_in (cond none [] (Reads now ∷ [])) ≡ []
none_of_read now true = refl
none_of_read now false = refl

-- what leaves at the end of a coming is no line
none_released : {State : Type 0} (leaves : ℕ) (done : Done (Standing State)) → texts_in (then_released leaves done).0 ≡ texts_in done.0
none_released leaves done =
    let course = done.1.course in
    let reads = read_for leaves course.waiting in
    let gone = leaving leaves course.in_force course.waiting in
    texts_then done.0 (reads ++ sent gone)
    ∙ ap (λ l. texts_in done.0 ++ l) (texts_then reads (sent gone) ∙ ap (λ l. l ++ texts_in (sent gone)) (none_of_read leaves (none_waits course.waiting)) ∙ none_of_sent gone)
    ∙ append-nil (texts_in done.0)

none_asked : (now : ℕ) (coming : Coming) → texts_in (asked now coming) ≡ []
none_asked now RoundBegins = refl
none_asked now (Listened began) = refl
none_asked now (Line text ends) = refl
none_asked now NoLine = refl
none_asked now LinesEnd = refl
none_asked now (Datagram origin bytes thrown ends) = refl
none_asked now NoDatagram = refl
none_asked now FailedDatagram = refl
none_asked now (Tick ends) = refl

-- ---- a kind of controller, which answers no line

abbrev IsSilent : Meaning Input → Type 0
IsSilent (InForce number) = Unit {0}
IsSilent (Comes answer inputs) = answer ≡ []
IsSilent (Faulty fault) = Unit {0}

module _ {Object Contacts : Type 0} (does : Behaviour Object) (order : Object → Option Order) (meaning : Site → List ℕ → Contacts → Meaning Input) (contact : Input → Contacts → Contacts)
    (silent : (site : Site) (text : List ℕ) (contacts : Contacts) → IsSilent (meaning site text contacts)) where
  abbrev kind : Kind (Controller Object Contacts) Input
  kind = controller does order meaning contact

  abbrev At : Type 0
  At = Standing (Controller Object Contacts)

  abbrev lines : List (ℕ × Input) → At → List (List ℕ)
  lines inputs at = order_lines kind at.course.written at.course.order inputs at.state

  -- what is written as this is done, and then as others come
  abbrev Writes_ : List Call → At → List (ℕ × Input) → At → Type 0
  Writes_ calls after inputs at = (others : List (ℕ × Input)) → texts_in calls ++ lines others after ≡ lines (inputs ++ others) at

  -- a controller asks for nothing to be kept
  of_step : (now : ℕ) (kept : Bool) (input : Input) (at : At) → Writes_ (step kind now kept input at).0 (step kind now kept input at).1 ((now, input) ∷ []) at
  of_step now true input at others = refl
  of_step now false input at others = refl

  of_steps : (now : ℕ) (kept : List Bool) (inputs : List Input) (at : At) → Writes_ (steps kind now kept inputs at).0 (steps kind now kept inputs at).1 (map (λ input. (now, input)) inputs) at
  of_steps now kept [] at others = refl
  of_steps now kept (input ∷ inputs) at others =
      let first = step kind now (next_kept kept) input at in
      let more = steps kind now (later_kept kept) inputs first.1 in
      ap (λ l. l ++ lines others more.1) (texts_then first.0 more.0)
      ∙ append_assoc (texts_in first.0) (texts_in more.0) (lines others more.1)
      ∙ ap (λ l. texts_in first.0 ++ l) (of_steps now (later_kept kept) inputs first.1 others)
      ∙ of_step now (next_kept kept) input at (map (λ input. (now, input)) inputs ++ others)

  of_force : (number : ℕ) (at : At) (known : Bool) (others : List (ℕ × Input))
      → let done : Done CourseState = cond known ([], record at.course { in_force = later at.course.in_force number }) (Complains at.course.heard Number ∷ [], at.course)
      in texts_in done.0 ++ lines others (record { state = at.state; course = done.1 }) ≡ lines others at
  of_force number at true others = refl
  of_force number at false others = refl

  of_told : (now : ℕ) (kept : List Bool) (means : Meaning Input) (at : At) → IsSilent means → Writes_ (told kind now kept means at).0 (told kind now kept means at).1 (inputs_told now means) at
  of_told now kept (InForce number) at silent_ others = of_force number at (nat_le number at.course.written) others
  of_told now kept (Comes answer inputs) at none others =
      ap (λ (a : List (List ℕ)). texts_in (map Writes a ++ (steps kind now kept inputs at).0) ++ lines others (steps kind now kept inputs at).1) none ∙ of_steps now kept inputs at others
  of_told now kept (Faulty fault) at silent_ others = refl

  -- and what leaves after it
  of_released : (leaves : ℕ) (done : Done At) (inputs : List (ℕ × Input)) (at : At) → Writes_ done.0 done.1 inputs at → Writes_ (then_released leaves done).0 (then_released leaves done).1 inputs at
  of_released leaves done inputs at writes others = ap (λ l. l ++ lines others done.1) (none_released leaves done) ∙ writes others

  of_datagram : (now : ℕ) (ends : Ends) (bytes : List ℕ) (thrown : ThrownAway) (at : At) (heard taken : Bool)
      → let heard_is : Done At = cond taken (step kind now (next_kept ends.kept) (kind.datagram bytes) at) ([], counted at)
      in let done : Done At = cond heard (then_released ends.leaves heard_is) (not_heard thrown at)
      in Writes_ done.0 done.1 (cond (heard && taken) ((now, kind.datagram bytes) ∷ []) []) at
  of_datagram now ends bytes thrown at true true others = of_released ends.leaves (step kind now (next_kept ends.kept) (kind.datagram bytes) at) ((now, kind.datagram bytes) ∷ []) at (of_step now (next_kept ends.kept) (kind.datagram bytes) at) others
  of_datagram now ends bytes thrown at true false others = of_released ends.leaves ([], counted at) [] at (λ more. refl) others
  of_datagram now ends bytes thrown at false taken others = refl

  of_coming : (now : ℕ) (coming : Coming) (at : At) → Writes_ (comes kind now coming at).0 (comes kind now coming at).1 (inputs_of kind now coming at) at
  of_coming now RoundBegins at others = refl
  of_coming now (Listened true) at others = refl
  of_coming now (Listened false) at others = refl
  of_coming now (Line text ends) at others =
      let here = having_called (asked now (Line text ends)) at in
      let means = kind.meaning now text at.state in
      of_released ends.leaves (line kind now ends.kept text here) (inputs_told now means) here (of_told now ends.kept means (heard_one here) (silent at.state.site text at.state.contacts)) others
  of_coming now NoLine at others = refl
  of_coming now LinesEnd at others = refl
  of_coming now (Datagram origin bytes thrown ends) at others =
      of_datagram now ends bytes thrown (having_called (asked now (Datagram origin bytes thrown ends)) at) (is_heard now at.course.seen) (is_taken kind origin.from) others
  of_coming now NoDatagram at others = refl
  of_coming now FailedDatagram at others = refl
  of_coming now (Tick ends) at others =
      let here = having_called (asked now (Tick ends)) at in
      of_released ends.leaves (step kind now (next_kept ends.kept) kind.tick here) ((now, kind.tick) ∷ []) here (of_step now (next_kept ends.kept) kind.tick here) others

  pub writes_its_orders : (comings : List (ℕ × Coming)) (at : At) → texts_in (all_come kind comings at).0 ≡ lines (came kind comings at) at
  writes_its_orders [] at = refl
  writes_its_orders (one ∷ others) at =
      let first = comes kind one.0 one.1 at in
      let more = all_come kind others first.1 in
      texts_then (asked one.0 one.1 ++ first.0) more.0
      ∙ ap (λ l. l ++ texts_in more.0) (texts_then (asked one.0 one.1) first.0 ∙ ap (λ l. l ++ texts_in first.0) (none_asked one.0 one.1))
      ∙ ap (λ l. texts_in first.0 ++ l) (writes_its_orders others first.1)
      ∙ of_coming one.0 one.1 at (came kind others first.1)

-- ---- no controller answers

pub signal_silent : (said : Result FieldReport Fault) → IsSilent (told_to_signal said)
signal_silent (Ok (reports.Done number)) = tt
signal_silent (Ok (reports.Section section occupancy)) = tt
signal_silent (Ok (reports.Point position)) = tt
signal_silent (Err fault) = tt

again_silent : (again : Bool) (input : Input) → IsSilent (unless_again again input)
again_silent true input = refl
again_silent false input = refl

section_silent : (last : List Occupancy) (occupancy : Occupancy) (place : Option ℕ) → IsSilent (told_of_section last occupancy place)
section_silent last occupancy None = tt
section_silent last occupancy (Some place) = again_silent (stands_so occupancy (slice_get last place)) _

pub point_silent : (last : Position) (said : Result FieldReport Fault) → IsSilent (told_to_point last said)
point_silent last (Ok (reports.Done number)) = tt
point_silent last (Ok (reports.Section section occupancy)) = tt
point_silent last (Ok (reports.Point position)) = again_silent (is_same_position last position) _
point_silent last (Err fault) = tt

pub detector_silent : (own : List SectionId) (last : List Occupancy) (said : Result FieldReport Fault) → IsSilent (told_to_detector own last said)
detector_silent own last (Ok (reports.Done number)) = tt
detector_silent own last (Ok (reports.Section section occupancy)) = section_silent last occupancy (own_place own section)
detector_silent own last (Ok (reports.Point position)) = tt
detector_silent own last (Err fault) = tt
