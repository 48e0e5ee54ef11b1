-- What a step has left, performed part by part.
use Rattle.std.proofs.Common.{◌≡◌, ℕ, Bool, List, [], Option, None, map, ap, ◌∙◌}
use Rattle.node_lines.specs.declared.order.Order.{Order}
use Rattle.node_drive.specs.Calls.{Call, Calls, CallsCut, Told, Writes}
use Rattle.node_drive.specs.Kinds.{NodeState, AskedToKeep, node_kept, said_if}
use Rattle.node_drive.specs.Rounds.{CourseState, count, kept_by, line_of, new_order, performed, with_datagrams, with_order}
use Rattle.node_drive.specs.Waiting.{Addressed}
use Rattle.node_drive.proofs.Calls.{calls_same, calls_then, cuts_before, cuts_now, cuts_same, cuts_then}

-- the line of an order after a course
abbrev pub order_line : ℕ → Option Order → CourseState → List Call
order_line now order course = line_of (count (new_order course.order order) course.written) now (new_order course.order order)

module _ (now : ℕ) (kept : Bool) (keeps : Option AskedToKeep) (said : List (List ℕ)) (handed : List Addressed) (o p : Option Order) (first : CourseState) (same : o ≡ p) where
  pub performed_course : (one two : CourseState) → one ≡ with_order (new_order first.order o) first → two ≡ with_datagrams now handed one → two ≡ (performed now kept keeps said p handed first).1
  performed_course one two e f = f ∙ ap (with_datagrams now handed) e ∙ ap (λ (q : Option Order). (performed now kept keeps said q handed first).1) same

  pub performed_calls : {ta tb tc td : Told} → Calls ta tb (kept_by kept keeps) → Calls tb tc (map Writes (said_if kept keeps said)) → Calls tc td (order_line now o first) → Calls ta td (performed now kept keeps said p handed first).0
  performed_calls k s q = calls_same (ap (λ (q : Option Order). (performed now kept keeps said q handed first).0) same) (calls_then k (calls_then s q))

  pub performed_cut_in_order : {ta tb tc td : Told} → Calls ta tb (kept_by kept keeps) → Calls tb tc (map Writes (said_if kept keeps said)) → CallsCut tc td (order_line now o first) → CallsCut ta td (performed now kept keeps said p handed first).0
  performed_cut_in_order k s q = cuts_same (ap (λ (q : Option Order). (performed now kept keeps said q handed first).0) same) (cuts_then k (cuts_then s q))

  pub performed_cut_in_lines : {ta tb tc : Told} → Calls ta tb (kept_by kept keeps) → CallsCut tb tc (map Writes (said_if kept keeps said)) → CallsCut ta tc (performed now kept keeps said p handed first).0
  performed_cut_in_lines k s = cuts_same (ap (λ (q : Option Order). (performed now kept keeps said q handed first).0) same) (cuts_then k (cuts_before (order_line now o first) s))

  -- it was kept, or not, and then it was given up
  pub performed_cut_behind : {ta tb : Told} → Calls ta tb (kept_by kept keeps) → CallsCut ta tb (performed now kept keeps said p handed first).0
  performed_cut_behind k = cuts_now _ k

-- the node, once what its step has left was kept, told and taken
pub performed_node : {State In : Type 0} (kept : Bool) (node one two last : NodeState State In) → one ≡ node_kept kept node → two ≡ record one { said = [] } → last ≡ record two { handed = [] } → last ≡ record node { handed = []; keeps = None; said = [] }
performed_node {State} {In} kept node one two last k s h =
    h ∙ ap (λ (n : NodeState State In). record n { handed = [] }) (s ∙ ap (λ (n : NodeState State In). record n { said = [] }) k)
