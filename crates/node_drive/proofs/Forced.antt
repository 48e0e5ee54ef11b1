-- An order that is in force.
use Rattle.std.proofs.Common.{◌≡◌, ◌<◌, ◌≤◌, ℕ, nat_le, Bool, true, false, cond, List, [], ◌∷◌, ap, sym, ◌∙◌, refl, arith}
use Rattle.std.proofs.lemmas.Bool.Decides.{nat_tests}
use Rattle.node_lines.specs.replay_words.declared.fault.Fault.TheVariants.{Number}
use Rattle.node_drive.specs.Calls.{Call, Calls, Complains, Told}
use Rattle.node_drive.specs.Rounds.{CourseState, later, put_in_force}
use Rattle.node_drive.proofs.Calls.{calls_none, calls_same}

le_is : (a b : ℕ) (v : Bool) → nat_le a b ≡ v → a ≤ b → v ≡ true
le_is a b true e h = refl
le_is a b false e h = absurd (let f : ⊥ = grind (arith, nat_tests, e, h) in f)

gt_is : (a b : ℕ) (v : Bool) → nat_le a b ≡ v → b < a → v ≡ false
gt_is a b false e h = refl
gt_is a b true e h = absurd (let f : ⊥ = grind (arith, nat_tests, e, h) in f)

module _ (number : ℕ) (course : CourseState) where
  abbrev forced : Bool → List Call × CourseState
  forced known = cond known ([], record course { in_force = later course.in_force number }) (Complains course.heard Number ∷ [], course)

  known : number ≤ course.written → forced true ≡ put_in_force number course
  known h = ap forced (sym (le_is number course.written (nat_le number course.written) refl h))

  unknown : course.written < number → forced false ≡ put_in_force number course
  unknown h = ap forced (sym (gt_is number course.written (nat_le number course.written) refl h))

  pub known_calls : (t : Told) (written : ℕ) → written ≡ course.written → number ≤ written → Calls t t (put_in_force number course).0
  known_calls t written w h = calls_same (ap (λ d. d.0) (known (omega (arith, w, h)))) (calls_none t)

  pub known_course : (written : ℕ) (next : CourseState) → written ≡ course.written → number ≤ written → next ≡ record course { in_force = later course.in_force number } → next ≡ (put_in_force number course).1
  known_course written next w h e = e ∙ ap (λ d. d.1) (known (omega (arith, w, h)))

  pub unknown_calls : {ta tb : Told} (written heard : ℕ) → written ≡ course.written → written < number → heard ≡ course.heard → Calls ta tb (Complains heard Number ∷ []) → Calls ta tb (put_in_force number course).0
  unknown_calls written heard w h e p = calls_same (ap (λ (n : ℕ). Complains n Number ∷ []) e ∙ ap (λ d. d.0) (unknown (omega (arith, w, h)))) p

  pub unknown_course : (written : ℕ) → written ≡ course.written → written < number → course ≡ (put_in_force number course).1
  unknown_course written w h = ap (λ d. d.1) (unknown (omega (arith, w, h)))
