-- A line, by what it was found to tell.
use Rattle.std.proofs.Common.{◌≡◌, ℕ, suc, Bool, List, [], ◌∷◌, map, ap, ◌∙◌}
use Rattle.node_lines.specs.replay_words.declared.fault.Fault.{Fault}
use Rattle.node_drive.specs.Calls.{Calls, CallsCut, Complains, Told, Writes}
use Rattle.node_drive.specs.Inside.{standing_of}
use Rattle.node_drive.specs.Kinds.{Comes, Faulty, InForce, Kind, Meaning, NodeState}
use Rattle.node_drive.specs.Rounds.{CourseState, Standing, heard_one, line, put_in_force, steps, told}
use Rattle.node_drive.proofs.Calls.{calls_same, calls_then, cuts_before, cuts_same, cuts_then}

module _ {State In : Type 0} (kind : Kind State In) (now : ℕ) (kept : List Bool) (text : List ℕ) (node : NodeState State In) (course : CourseState) where
  abbrev here : Standing State
  here = standing_of node course

  line_is : (meaning : Meaning In) → meaning ≡ kind.meaning now text node.state → told kind now kept meaning (heard_one here) ≡ line kind now kept text here
  line_is meaning e = ap (λ (m : Meaning In). told kind now kept m (heard_one here)) e

  pub faulty_calls : {ta tb : Told} (fault : Fault) → Faulty fault ≡ kind.meaning now text node.state → Calls ta tb (Complains (suc course.heard) fault ∷ []) → Calls ta tb (line kind now kept text here).0
  faulty_calls fault e p = calls_same (ap (λ d. d.0) (line_is (Faulty fault) e)) p

  pub faulty_standing : (fault : Fault) (after : NodeState State In) → Faulty fault ≡ kind.meaning now text node.state → after.state ≡ node.state
      → standing_of after (record course { heard = suc course.heard }) ≡ (line kind now kept text here).1
  faulty_standing fault after e same =
      ap (λ (s : State). record { state = s; course = record course { heard = suc course.heard } }) same ∙ ap (λ d. d.1) (line_is (Faulty fault) e)

  pub force_calls : {ta tb : Told} (number : ℕ) → InForce number ≡ kind.meaning now text node.state → Calls ta tb (put_in_force number (record course { heard = suc course.heard })).0 → Calls ta tb (line kind now kept text here).0
  force_calls number e p = calls_same (ap (λ d. d.0) (line_is (InForce number) e)) p

  pub force_standing : (number : ℕ) (after : NodeState State In) (last : CourseState) → InForce number ≡ kind.meaning now text node.state → after.state ≡ node.state
      → last ≡ (put_in_force number (record course { heard = suc course.heard })).1 → standing_of after last ≡ (line kind now kept text here).1
  force_standing number after last e same f =
      ap (λ (s : State). record { state = s; course = last }) same
      ∙ (ap (λ (c : CourseState). record { state = node.state; course = c }) f ∙ ap (λ d. d.1) (line_is (InForce number) e))

  -- the answer was told, and its inputs come
  pub comes_calls : {ta tb tc : Told} (answer : List (List ℕ)) (inputs : List In) (first : Standing State) → Comes answer inputs ≡ kind.meaning now text node.state → first ≡ heard_one here
      → Calls ta tb (map Writes answer) → Calls tb tc (steps kind now kept inputs first).0 → Calls ta tc (line kind now kept text here).0
  comes_calls answer inputs first e f p q =
      calls_same (ap (λ d. d.0) (line_is (Comes answer inputs) e)) (calls_then p (calls_same (ap (λ (s : Standing State). (steps kind now kept inputs s).0) f) q))

  pub comes_cut : {ta tb tc : Told} (answer : List (List ℕ)) (inputs : List In) (first : Standing State) → Comes answer inputs ≡ kind.meaning now text node.state → first ≡ heard_one here
      → Calls ta tb (map Writes answer) → CallsCut tb tc (steps kind now kept inputs first).0 → CallsCut ta tc (line kind now kept text here).0
  comes_cut answer inputs first e f p q =
      cuts_same (ap (λ d. d.0) (line_is (Comes answer inputs) e)) (cuts_then p (cuts_same (ap (λ (s : Standing State). (steps kind now kept inputs s).0) f) q))

  pub comes_cut_in_answer : {ta tb : Told} (answer : List (List ℕ)) (inputs : List In) → Comes answer inputs ≡ kind.meaning now text node.state
      → CallsCut ta tb (map Writes answer) → CallsCut ta tb (line kind now kept text here).0
  comes_cut_in_answer answer inputs e p =
      cuts_same (ap (λ d. d.0) (line_is (Comes answer inputs) e)) (cuts_before (steps kind now kept inputs (heard_one here)).0 p)

  pub comes_standing : (answer : List (List ℕ)) (inputs : List In) (first last : Standing State) → Comes answer inputs ≡ kind.meaning now text node.state → first ≡ heard_one here
      → last ≡ (steps kind now kept inputs first).1 → last ≡ (line kind now kept text here).1
  comes_standing answer inputs first last e f h =
      h ∙ (ap (λ (s : Standing State). (steps kind now kept inputs s).1) f ∙ ap (λ d. d.1) (line_is (Comes answer inputs) e))

-- ---- what the code does with a line

-- the course and the node after the line
module _ {State In : Type 0} (kind : Kind State In) (now : ℕ) (kept : List Bool) (text : List ℕ) (course next : CourseState) (counted : next ≡ record course { heard = suc course.heard }) (old mid : NodeState State In) (rest : mid ≡ record old { said = mid.said; left = mid.left }) where
  same_state : mid.state ≡ old.state
  same_state = ap (λ (n : NodeState State In). n.state) rest

  pub same_reached : mid.reached ≡ old.reached
  same_reached = ap (λ (n : NodeState State In). n.reached) rest

  pub faulty_told : {ta tb : Told} (heard : ℕ) (fault : Fault) → heard ≡ suc course.heard → Faulty fault ≡ kind.meaning now text old.state → Calls ta tb (Complains heard fault ∷ []) → Calls ta tb (line kind now kept text (standing_of old course)).0
  faulty_told heard fault number e p = faulty_calls kind now kept text old course fault e (calls_same (ap (λ (n : ℕ). Complains n fault ∷ []) number) p)

  pub faulty_left : (fault : Fault) → Faulty fault ≡ kind.meaning now text old.state → standing_of mid next ≡ (line kind now kept text (standing_of old course)).1
  faulty_left fault e = ap (standing_of mid) counted ∙ faulty_standing kind now kept text old course fault mid e same_state

  pub forced_told : {ta tb : Told} (number : ℕ) → InForce number ≡ kind.meaning now text old.state → Calls ta tb (put_in_force number next).0 → Calls ta tb (line kind now kept text (standing_of old course)).0
  forced_told number e p = force_calls kind now kept text old course number e (calls_same (ap (λ (c : CourseState). (put_in_force number c).0) counted) p)

  pub forced_left : (number : ℕ) (last : CourseState) → InForce number ≡ kind.meaning now text old.state → last ≡ (put_in_force number next).1
      → standing_of mid last ≡ (line kind now kept text (standing_of old course)).1
  forced_left number last e f =
      force_standing kind now kept text old course number mid last e same_state (f ∙ ap (λ (c : CourseState). (put_in_force number c).1) counted)

  pub answer_cut : {ta tb : Told} → Comes mid.said mid.left ≡ kind.meaning now text old.state → CallsCut ta tb (map Writes mid.said) → CallsCut ta tb (line kind now kept text (standing_of old course)).0
  answer_cut e p = comes_cut_in_answer kind now kept text old course mid.said mid.left e p

  -- the answer was told
  module _ (last : NodeState State In) (told : last ≡ record mid { said = [] }) where
    pub told_reached : last.reached ≡ old.reached
    told_reached = ap (λ (n : NodeState State In). n.reached) told ∙ same_reached

    left_is : last.left ≡ mid.left
    left_is = ap (λ (n : NodeState State In). n.left) told

    first_is : standing_of last next ≡ heard_one (standing_of old course)
    first_is =
        ap (λ (s : State). record { state = s; course = next }) (ap (λ (n : NodeState State In). n.state) told ∙ same_state)
        ∙ ap (λ (c : CourseState). record { state = old.state; course = c }) counted

    pub inputs_told : {ta tb tc : Told} → Comes mid.said mid.left ≡ kind.meaning now text old.state → Calls ta tb (map Writes mid.said) → Calls tb tc (steps kind now kept last.left (standing_of last next)).0
        → Calls ta tc (line kind now kept text (standing_of old course)).0
    inputs_told e p q =
        comes_calls kind now kept text old course mid.said mid.left (standing_of last next) e first_is p
        (calls_same (ap (λ (l : List In). (steps kind now kept l (standing_of last next)).0) left_is) q)

    pub inputs_cut : {ta tb tc : Told} → Comes mid.said mid.left ≡ kind.meaning now text old.state → Calls ta tb (map Writes mid.said) → CallsCut tb tc (steps kind now kept last.left (standing_of last next)).0
        → CallsCut ta tc (line kind now kept text (standing_of old course)).0
    inputs_cut e p q =
        comes_cut kind now kept text old course mid.said mid.left (standing_of last next) e first_is p
        (cuts_same (ap (λ (l : List In). (steps kind now kept l (standing_of last next)).0) left_is) q)

    pub inputs_left : (after : Standing State) → Comes mid.said mid.left ≡ kind.meaning now text old.state → after ≡ (steps kind now kept last.left (standing_of last next)).1
        → after ≡ (line kind now kept text (standing_of old course)).1
    inputs_left after e f =
        comes_standing kind now kept text old course mid.said mid.left (standing_of last next) after e first_is
        (f ∙ ap (λ (l : List In). (steps kind now kept l (standing_of last next)).1) left_is)
