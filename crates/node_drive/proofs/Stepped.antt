-- A step of the node, and what is performed after it.
use Rattle.std.proofs.Common.{◌≡◌, ℕ, Bool, true, false, cond, List, [], ◌∷◌, map, None, refl, sym, ap, ◌∙◌, append-nil}
use Rattle.node_drive.specs.Calls.{AsksListener, Call, Calls, CallsCut, Reads, Rests, Told, Writes}
use Rattle.node_drive.specs.Drives.{Performs, Stops, opening}
use Rattle.node_drive.specs.Inside.{standing_of}
use Rattle.node_drive.specs.Kinds.{Kind, NodeState, node_after}
use Rattle.node_drive.specs.Rounds.{CourseState, Standing, counted, datagram, is_taken, new_order, performed, released, step, then_released, with_calls, with_datagrams, with_order}
use Rattle.node_drive.proofs.Calls.{calls_same, calls_then, cuts_before, cuts_same, cuts_then}
use Rattle.node_drive.specs.declared.outside.Origin.{Origin}

module _ {State In : Type 0} (kind : Kind State In) where
  abbrev behind : ℕ → Bool → CourseState → NodeState State In → List Call × CourseState
  behind now kept course node = performed now kept node.keeps node.said (kind.order node.state) node.handed course

  -- how far the process has come with what a step has left, whatever was answered
  abbrev course_behind : ℕ → CourseState → NodeState State In → CourseState
  course_behind now course node = with_datagrams now node.handed (with_order (new_order course.order (kind.order node.state)) course)

  pub step_calls : {ta tb : Told} (now : ℕ) (kept : Bool) (input : In) (course : CourseState) (old new : NodeState State In) → new ≡ node_after kind now input old
      → Calls ta tb (performed now kept new.keeps new.said (kind.order new.state) new.handed course).0 → Calls ta tb (step kind now kept input (standing_of old course)).0
  step_calls now kept input course old new e p = calls_same (ap (λ (n : NodeState State In). (behind now kept course n).0) e) p

  pub step_cut : {ta tb : Told} (now : ℕ) (kept : Bool) (input : In) (course : CourseState) (old new : NodeState State In) → new ≡ node_after kind now input old
      → CallsCut ta tb (performed now kept new.keeps new.said (kind.order new.state) new.handed course).0 → CallsCut ta tb (step kind now kept input (standing_of old course)).0
  step_cut now kept input course old new e p = cuts_same (ap (λ (n : NodeState State In). (behind now kept course n).0) e) p

  pub step_standing : (now : ℕ) (kept : Bool) (input : In) (course after : CourseState) (old new last : NodeState State In) → new ≡ node_after kind now input old
      → after ≡ with_datagrams now new.handed (with_order (new_order course.order (kind.order new.state)) course) → last ≡ record new { handed = []; keeps = None; said = [] }
      → standing_of last after ≡ (step kind now kept input (standing_of old course)).1
  step_standing now kept input course after old new last e f h =
      ap (λ (n : NodeState State In). standing_of n after) h
      ∙ ap (λ (n : NodeState State In). standing_of n after) e
      ∙ ap (λ (c : CourseState). standing_of (node_after kind now input old) c) (f ∙ ap (course_behind now course) e)

  pub step_reached : (now : ℕ) (input : In) (old new last : NodeState State In) → new ≡ node_after kind now input old → last ≡ record new { handed = []; keeps = None; said = [] } → last.reached ≡ now
  step_reached now input old new last e h = ap (λ (n : NodeState State In). n.reached) h ∙ ap (λ (n : NodeState State In). n.reached) e

  -- ---- a datagram

  pub taken_is : (now : ℕ) (kept : Bool) (origin : Origin) (bytes : List ℕ) (standing : Standing State) → is_taken kind origin.from ≡ true → step kind now kept (kind.datagram bytes) standing ≡ datagram kind now kept origin bytes standing
  taken_is now kept origin bytes standing e = ap (λ (v : Bool). cond v (step kind now kept (kind.datagram bytes) standing) ([], counted standing)) (sym e)

  pub dropped_is : (now : ℕ) (kept : Bool) (origin : Origin) (bytes : List ℕ) (standing : Standing State) → is_taken kind origin.from ≡ false → ([], counted standing) ≡ datagram kind now kept origin bytes standing
  dropped_is now kept origin bytes standing e = ap (λ (v : Bool). cond v (step kind now kept (kind.datagram bytes) standing) ([], counted standing)) (sym e)

  any_taken : (now : ℕ) (k j : Bool) (bytes : List ℕ) (standing : Standing State) (taken : Bool)
      → (cond taken (step kind now k (kind.datagram bytes) standing) ([], counted standing)).1 ≡ (cond taken (step kind now j (kind.datagram bytes) standing) ([], counted standing)).1
  any_taken now k j bytes standing true = refl
  any_taken now k j bytes standing false = refl

  -- how it stands after a datagram doesn't depend on what was answered
  pub datagram_any : (now : ℕ) (k j : Bool) (origin : Origin) (bytes : List ℕ) (standing : Standing State) → (datagram kind now k origin bytes standing).1 ≡ (datagram kind now j origin bytes standing).1
  datagram_any now k j origin bytes standing = any_taken now k j bytes standing (is_taken kind origin.from)

  -- ---- the end of what a coming does

  pub end_calls : {ta tb tc : Told} (leaves : ℕ) (done : List Call × Standing State) (last : NodeState State In) (course : CourseState) → standing_of last course ≡ done.1
      → Calls ta tb done.0 → Calls tb tc (released leaves course).0 → Calls ta tc (then_released leaves done).0
  end_calls leaves done last course e p q = calls_then p (calls_same (ap (λ (s : Standing State). (released leaves s.course).0) e) q)

  pub end_standing : (leaves : ℕ) (done : List Call × Standing State) (last : NodeState State In) (course after : CourseState) → standing_of last course ≡ done.1 → after ≡ (released leaves course).1
      → standing_of last after ≡ (then_released leaves done).1
  end_standing leaves done last course after e f =
      ap (λ (c : CourseState). standing_of last c) f ∙ ap (λ (s : Standing State). record s { course = (released leaves s.course).1 }) e

  pub end_cut : {ta tb : Told} (leaves : ℕ) (done : List Call × Standing State) → CallsCut ta tb done.0 → CallsCut ta tb (then_released leaves done).0
  end_cut leaves done p = cuts_before (released leaves done.1.course).0 p

  -- ---- the beginning of a round

  pub opens_quiet : {ta tb tc td : Told} (begins : ℕ) (state : State) (course after : CourseState) → after ≡ with_calls (Reads begins ∷ []) course → Calls ta tb (Rests ∷ []) → Calls tb tc (Reads begins ∷ []) → Calls tc td (AsksListener false ∷ [])
      → Performs kind (opening begins false) (record { state = state; course = course }) (record { state = state; course = after }) ta td
  opens_quiet begins state course after noted p q r = record { standing_is = ap (λ (c : CourseState). record { state = state; course = c }) noted; called = calls_then p (calls_then q r) }

  pub opens_told : {ta tb tc td te : Told} (begins : ℕ) (state last : State) (course after : CourseState) → last ≡ state → after ≡ with_calls (Reads begins ∷ []) course → Calls ta tb (Rests ∷ []) → Calls tb tc (Reads begins ∷ [])
      → Calls tc td (AsksListener true ∷ []) → Calls td te (map Writes (kind.stands begins state)) → Performs kind (opening begins true) (record { state = state; course = course }) (record { state = last; course = after }) ta te
  opens_told begins state last course after same noted p q r w = record {
    standing_is = ap (λ (s : State). record { state = s; course = after }) same ∙ ap (λ (c : CourseState). record { state = state; course = c }) noted;
    called = calls_same (ap (λ l. Rests ∷ Reads begins ∷ AsksListener true ∷ l) (sym (append-nil (map Writes (kind.stands begins state))))) (calls_then p (calls_then q (calls_then r w)));
  }

  -- all that stands was told
  pub opens_listened : {ta tb tc td te : Told} (begins : ℕ) (old new last : NodeState State In) (course after : CourseState) → new ≡ record old { said = kind.stands begins old.state } → last ≡ record new { said = [] }
      → after ≡ with_calls (Reads begins ∷ []) course → Calls ta tb (Rests ∷ []) → Calls tb tc (Reads begins ∷ []) → Calls tc td (AsksListener true ∷ []) → Calls td te (map Writes new.said)
      → Performs kind (opening begins true) (standing_of old course) (standing_of last after) ta te
  opens_listened begins old new last course after e h noted p q r w =
      opens_told begins old.state last.state course after
      (ap (λ (n : NodeState State In). n.state) h ∙ ap (λ (n : NodeState State In). n.state) e)
      noted
      p
      q
      r
      (calls_same (ap (λ (n : NodeState State In). map Writes n.said) e) w)

  pub listened_reached : (begins : ℕ) (old new last : NodeState State In) → new ≡ record old { said = kind.stands begins old.state } → last ≡ record new { said = [] } → last.reached ≡ old.reached
  listened_reached begins old new last e h = ap (λ (n : NodeState State In). n.reached) h ∙ ap (λ (n : NodeState State In). n.reached) e

  pub opens_cut : {ta tb tc td te : Told} (begins : ℕ) (state : State) (course : CourseState) → Calls ta tb (Rests ∷ []) → Calls tb tc (Reads begins ∷ []) → Calls tc td (AsksListener true ∷ [])
      → CallsCut td te (map Writes (kind.stands begins state)) → Stops kind (opening begins true) (record { state = state; course = course }) ta te
  opens_cut begins state course p q r w = record {
    cut = cuts_same (ap (λ l. Rests ∷ Reads begins ∷ AsksListener true ∷ l) (sym (append-nil (map Writes (kind.stands begins state))))) (cuts_then p (cuts_then q (cuts_then r w)));
  }

  pub opens_listened_cut : {ta tb tc td te : Told} (begins : ℕ) (old new : NodeState State In) (course : CourseState) → new ≡ record old { said = kind.stands begins old.state }
      → Calls ta tb (Rests ∷ []) → Calls tb tc (Reads begins ∷ []) → Calls tc td (AsksListener true ∷ []) → CallsCut td te (map Writes new.said) → Stops kind (opening begins true) (standing_of old course) ta te
  opens_listened_cut begins old new course e p q r w = opens_cut begins old.state course p q r (cuts_same (ap (λ (n : NodeState State In). map Writes n.said) e) w)
