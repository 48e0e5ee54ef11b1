-- The order of a step, and the line that tells it.
use Rattle.std.proofs.Common.{◌≡◌, ℕ, suc, List, [], ◌∷◌, Option, Some, None, ap, ◌∙◌}
use Rattle.node_lines.specs.Orders.{order_text}
use Rattle.node_lines.specs.declared.order.Order.{Order}
use Rattle.node_drive.specs.Beginning.{last_line}
use Rattle.node_drive.specs.Calls.{BreaksOff, Calls, CallsCut, Reads, Told, Writes}
use Rattle.node_drive.specs.Rounds.{CourseState, count, line_of, with_order}
use Rattle.node_drive.proofs.Calls.{calls_none, calls_same, calls_then, cuts_line, cuts_same, cuts_then}

-- the line with its number, where that is known
line_is : (number written now : ℕ) (order : Order) → number ≡ suc written → (text : List ℕ) → text ≡ order_text (record { number = number; reading = now; order = order })
    → Writes text ∷ [] ≡ line_of (suc written) now (Some order)
line_is number written now order e text f =
    ap (λ (t : List ℕ). Writes t ∷ []) f ∙ ap (λ (n : ℕ). Writes (order_text (record { number = n; reading = now; order = order })) ∷ []) e

pub numbered : {ta tb : Told} (number written now : ℕ) (order : Order) → number ≡ suc written → (text : List ℕ) → text ≡ order_text (record { number = number; reading = now; order = order })
    → Calls ta tb (Writes text ∷ []) → Calls ta tb (line_of (suc written) now (Some order))
numbered number written now order e text f p = calls_same (line_is number written now order e text f) p

pub broken_off : {ta tb : Told} (number written now : ℕ) (order : Order) → number ≡ suc written → (text : List ℕ) → text ≡ order_text (record { number = number; reading = now; order = order })
    → Calls ta tb (BreaksOff text ∷ []) → CallsCut ta tb (line_of (suc written) now (Some order))
broken_off number written now order e text f p = cuts_same (line_is number written now order e text f) (cuts_line [] p)

module _ (now : ℕ) (course : CourseState) (new : Option Order) where
  -- no order
  pub none_calls : (t : Told) → None ≡ new → Calls t t (line_of (count new course.written) now new)
  none_calls t e = calls_same (ap (λ (o : Option Order). line_of (count o course.written) now o) e) (calls_none t)

  pub none_course : None ≡ new → course ≡ with_order new course
  none_course e = ap (λ (o : Option Order). with_order o course) e

  -- an order, after so many
  pub some_calls : {ta tb : Told} (order : Order) (written : ℕ) → written ≡ course.written → Some order ≡ new → Calls ta tb (line_of (suc written) now (Some order)) → Calls ta tb (line_of (count new course.written) now new)
  some_calls order written f e p =
      calls_same (ap (λ (n : ℕ). line_of (suc n) now (Some order)) f ∙ ap (λ (o : Option Order). line_of (count o course.written) now o) e) p

  pub some_cut : {ta tb : Told} (order : Order) (written : ℕ) → written ≡ course.written → Some order ≡ new → CallsCut ta tb (line_of (suc written) now (Some order)) → CallsCut ta tb (line_of (count new course.written) now new)
  some_cut order written f e p =
      cuts_same (ap (λ (n : ℕ). line_of (suc n) now (Some order)) f ∙ ap (λ (o : Option Order). line_of (count o course.written) now o) e) p

  pub some_course : (order : Order) (number written : ℕ) → written ≡ course.written → Some order ≡ new → number ≡ suc written → record course { written = number; order = Some order } ≡ with_order new course
  some_course order number written g e f =
      ap (λ (n : ℕ). record course { written = n; order = Some order }) (f ∙ ap suc g) ∙ ap (λ (o : Option Order). with_order o course) e

  -- ---- at the end

  pub last_none : {ta tb : Told} → None ≡ new → Calls ta tb (Reads now ∷ []) → Calls ta tb (Reads now ∷ last_line now new course)
  last_none e p = calls_same (ap (λ (o : Option Order). Reads now ∷ last_line now o course) e) p

  pub last_some : {ta tb tc : Told} (order : Order) (written : ℕ) → written ≡ course.written → Some order ≡ new → Calls ta tb (Reads now ∷ []) → Calls tb tc (line_of (suc written) now (Some order))
      → Calls ta tc (Reads now ∷ last_line now new course)
  last_some order written f e p q =
      calls_same (ap (λ (n : ℕ). Reads now ∷ line_of (suc n) now (Some order)) f ∙ ap (λ (o : Option Order). Reads now ∷ last_line now o course) e) (calls_then p q)

  pub last_cut : {ta tb tc : Told} (order : Order) (written : ℕ) → written ≡ course.written → Some order ≡ new → Calls ta tb (Reads now ∷ []) → CallsCut tb tc (line_of (suc written) now (Some order))
      → CallsCut ta tc (Reads now ∷ last_line now new course)
  last_cut order written f e p q =
      cuts_same (ap (λ (n : ℕ). Reads now ∷ line_of (suc n) now (Some order)) f ∙ ap (λ (o : Option Order). Reads now ∷ last_line now o course) e) (cuts_then p q)
