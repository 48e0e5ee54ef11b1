-- The inputs of a line, one after another, and what is performed after each.
use Rattle.std.proofs.Common.{◌≡◌, ◌<◌, ◌≤◌, ℕ, Bool, true, List, [], ◌∷◌, ◌++◌, None, length, refl, sym, ap, subst, ◌∙◌, append_assoc, append-nil, arith}
use Rattle.std.proofs.lemmas.List.{length_push}
use Rattle.node_drive.specs.Calls.{Calls, CallsCut, Told}
use Rattle.node_drive.specs.Inside.{StepsOn, standing_of}
use Rattle.node_drive.specs.Kinds.{Kind, NodeState}
use Rattle.node_drive.specs.Rounds.{CourseState, Standing, new_order, performed, step, steps, with_datagrams, with_order}
use Rattle.node_drive.proofs.Calls.{calls_none, calls_same, calls_then, cuts_before, cuts_now, cuts_same, cuts_then}
use Rattle.node_drive.proofs.Stepped.{step_calls, step_cut, step_reached, step_standing}
use Rattle.node_drive.proofs.Steps.{calls_more, calls_split, step_more, steps-calls}

-- the inputs that came, what was answered after each, and after them what is left
pub record CameSoFar {State In : Type 0} (kind : Kind State In) (now : ℕ) (all : List In) (start : Standing State) (ta tb : Told) (node : NodeState State In) (course : CourseState) : Type 0 where
  pub done : List In
  pub all_are : done ++ node.left ≡ all
  pub kept : List Bool
  pub as_many : length kept ≡ length done
  pub standing_is : standing_of node course ≡ (steps kind now [] done start).1
  pub called : Calls ta tb (steps kind now kept done start).0
  pub reached : node.reached ≤ now

-- that one came, where it was answered so, or none
pub went_as : {State In : Type 0} (kind : Kind State In) (now : ℕ) (old new : NodeState State In) (went value : Bool) → went ≡ value → StepsOn kind now went old new → StepsOn kind now value old new
went_as kind now old new went value e h = subst (λ (v : Bool). StepsOn kind now v old new) e h

-- fewer are left then
pub fewer_left : {State In : Type 0} (kind : Kind State In) (now : ℕ) (old new last : NodeState State In) → StepsOn kind now true old new → last ≡ record new { handed = []; keeps = None; said = [] } → length last.left < length old.left
fewer_left {State} {In} kind now old new last went h =
    let left : length last.left ≡ length went.1 = ap (λ (n : NodeState State In). length n.left) h ∙ ap (λ (n : NodeState State In). length n.left) went.3 in
    let more : length old.left ≡ length (went.0 ∷ went.1) = ap length went.2 in
    omega (arith, left, more)

-- a node that is as it was has reached no later reading
pub reached_still : {State In : Type 0} (now : ℕ) (old new : NodeState State In) → new ≡ old → old.reached ≤ now → new.reached ≤ now
reached_still {State} {In} now old new same reached =
    let kept = ap (λ (n : NodeState State In). n.reached) same in
    omega (arith, kept, reached)

-- none is left: all came
all_came : {In : Type 0} {all done left : List In} → left ≡ [] → done ++ left ≡ all → done ≡ all
all_came {In} {all} {done} {left} none e = sym (append-nil done) ∙ ap (λ l. done ++ l) (sym none) ∙ e

module _ {State In : Type 0} {kind : Kind State In} (now : ℕ) where
  pub came_first : (node : NodeState State In) (course : CourseState) (t : Told) → node.reached ≤ now → CameSoFar kind now node.left (standing_of node course) t t node course
  came_first node course t reached = record { done = []; all_are = refl; kept = []; as_many = refl; standing_is = refl; called = calls_none t; reached = reached }

  -- one more
  pub came_more : {all : List In} {start : Standing State} {ta tb tc : Told} (old new last : NodeState State In) (course after : CourseState) → CameSoFar kind now all start ta tb old course
      → StepsOn kind now true old new → (k : Bool) × Calls tb tc (performed now k new.keeps new.said (kind.order new.state) new.handed course).0
      → after ≡ with_datagrams now new.handed (with_order (new_order course.order (kind.order new.state)) course)
      → last ≡ record new { handed = []; keeps = None; said = [] } → CameSoFar kind now all start ta tc last after
  came_more {all} {start} {ta} {tb} {tc} old new last course after before went calls f h =
      let input = went.0 in
      let others = went.1 in
      let left : last.left ≡ others = ap (λ (n : NodeState State In). n.left) h ∙ ap (λ (n : NodeState State In). n.left) went.3 in
      let reached : last.reached ≡ now = step_reached kind now input (record old { left = others }) new last went.3 h in
      let done = before.done in
      let here = standing_of old course in
      let k = calls.0 in
      let many = before.as_many in
      let more_done = length_push done input in
      let more_kept = length_push before.kept k in
      record {
        done = done ++ input ∷ [];
        kept = before.kept ++ k ∷ [];
        as_many = omega (arith, many, more_done, more_kept);
        all_are = ap (λ l. (done ++ input ∷ []) ++ l) left ∙ append_assoc done (input ∷ []) others ∙ ap (λ l. done ++ l) (sym went.2) ∙ before.all_are;
        standing_is = step_standing kind now k input course after (record old { left = others }) new last went.3 f h ∙ sym (step_more kind now done k input start here before.standing_is);
        called = calls_same (calls_more kind now before.kept k done input start here many before.standing_is) (calls_then before.called (step_calls kind now k input course (record old { left = others }) new went.3 calls.1));
        reached = omega (arith, reached);
      }

  -- the next was cut off
  pub came_cut : {all : List In} {start : Standing State} {ta tb tc : Told} (old new : NodeState State In) (course : CourseState) → CameSoFar kind now all start ta tb old course
      → StepsOn kind now true old new → (k : Bool) × CallsCut tb tc (performed now k new.keeps new.said (kind.order new.state) new.handed course).0 → (kept : List Bool) × CallsCut ta tc (steps kind now kept all start).0
  came_cut {all} {start} {ta} {tb} {tc} old new course before went cut =
      let input = went.0 in
      let others = went.1 in
      let here = standing_of old course in
      let k = cut.0 in
      let kept : List Bool = before.kept ++ k ∷ [] in (
        kept,
        cuts_same
            (calls_split kind now before.kept k before.done input others start here before.as_many before.standing_is ∙ ap (λ l. (steps kind now kept l start).0) (ap (λ l. before.done ++ l) (sym went.2) ∙ before.all_are))
            (cuts_then before.called (cuts_before (steps kind now [] others (step kind now k input here).1).0 (step_cut kind now k input course (record old { left = others }) new went.3 cut.1))),
      )

  -- it was given up before the next
  pub came_stopped : {all : List In} {start : Standing State} {ta tb : Told} (node : NodeState State In) (course : CourseState) → CameSoFar kind now all start ta tb node course
      → (kept : List Bool) × CallsCut ta tb (steps kind now kept all start).0
  came_stopped {all} {start} {ta} {tb} node course before = (
    before.kept ++ [],
    cuts_same
        (sym (steps-calls kind now before.kept [] before.done node.left start before.as_many) ∙ ap (λ l. (steps kind now (before.kept ++ []) l start).0) before.all_are)
        (cuts_now (steps kind now [] node.left (steps kind now [] before.done start).1).0 before.called),
  )

  pub came_calls : {all : List In} {start : Standing State} {ta tb : Told} (old : NodeState State In) (course : CourseState) → CameSoFar kind now all start ta tb old course → old.left ≡ []
      → (kept : List Bool) × Calls ta tb (steps kind now kept all start).0
  came_calls {all} {start} old course before none = (before.kept, calls_same (ap (λ l. (steps kind now before.kept l start).0) (all_came none before.all_are)) before.called)

  pub came_standing : {all : List In} {start : Standing State} {ta tb : Told} (old new : NodeState State In) (course : CourseState) → CameSoFar kind now all start ta tb old course → old.left ≡ [] → new ≡ old
      → standing_of new course ≡ (steps kind now [] all start).1
  came_standing {all} {start} old new course before none same =
      ap (λ (n : NodeState State In). standing_of n course) same ∙ before.standing_is ∙ ap (λ l. (steps kind now [] l start).1) (all_came none before.all_are)
