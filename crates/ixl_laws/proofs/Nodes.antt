-- What a step did at one controller, from one part of it to the next.
use Rattle.std.proofs.Common.{◌≡◌, Bool, true, false, if◌then◌else◌, List, [], ◌∷◌, ◌++◌, append-nil, refl, ap, sym, ◌∙◌}
use Rattle.std.specs.Prelude.{map}
use Rattle.std.proofs.lemmas.Bool.{eq-eqb, eqb-true, false≢true}
use Rattle.ixl_state.specs.ixl_spec.StepSoFar.{Detector, Node, Point, Signal}
use Rattle.ixl_laws.specs.Nodes.{is_node, of_node}

pub node_self : (node : Node) → is_node node node ≡ true
node_self (Signal place) = eq-eqb place place refl
node_self (Point place) = eq-eqb place place refl
node_self (Detector place) = eq-eqb place place refl

pub node_same : (node other : Node) → is_node node other ≡ true → node ≡ other
node_same (Signal place) (Signal other) is = ap Signal (sym (eqb-true other place is))
node_same (Signal place) (Point other) is = absurd (false≢true is)
node_same (Signal place) (Detector other) is = absurd (false≢true is)
node_same (Point place) (Signal other) is = absurd (false≢true is)
node_same (Point place) (Point other) is = ap Point (sym (eqb-true other place is))
node_same (Point place) (Detector other) is = absurd (false≢true is)
node_same (Detector place) (Signal other) is = absurd (false≢true is)
node_same (Detector place) (Point other) is = absurd (false≢true is)
node_same (Detector place) (Detector other) is = ap Detector (sym (eqb-true other place is))

of_joined : {A : Type 0} (node : Node) (some more : List (Node × A)) → of_node node (some ++ more) ≡ of_node node some ++ of_node node more
unfolding of_node
of_joined node [] more = refl
of_joined {A} node (first ∷ others) more = cases (is_node node first.0) (of_joined node others more) where
  cases : (b : Bool) → of_node node (others ++ more) ≡ of_node node others ++ of_node node more →
      (if b then first.1 ∷ of_node node (others ++ more) else of_node node (others ++ more)) ≡ (if b then first.1 ∷ of_node node others else of_node node others) ++ of_node node more
  cases true rest = ap (λ list. first.1 ∷ list) rest
  cases false rest = rest

pub of_itself : {A : Type 0} (node other : Node) (list : List A) → is_node node other ≡ true → of_node node (map (λ one. (other, one)) list) ≡ list
unfolding of_node
of_itself node other [] is = refl
of_itself node other (first ∷ others) is = rw is (ap (λ list. first ∷ list) (of_itself node other others is))

pub of_another : {A : Type 0} (node other : Node) (list : List A) → is_node node other ≡ false → of_node node (map (λ one. (other, one)) list) ≡ []
unfolding of_node
of_another node other [] is = refl
of_another node other (first ∷ others) is = rw is (of_another node other others is)

pub noted_elsewhere : {A : Type 0} (node other : Node) (before : List (Node × A)) (list : List A) → is_node node other ≡ false → of_node node (before ++ map (λ one. (other, one)) list) ≡ of_node node before
noted_elsewhere node other before list is =
    of_joined node before (map (λ one. (other, one)) list) ∙ ap (λ more. of_node node before ++ more) (of_another node other list is) ∙ append-nil (of_node node before)

pub noted_here : {A : Type 0} (node : Node) (before : List (Node × A)) (list : List A) → of_node node (before ++ map (λ one. (node, one)) list) ≡ of_node node before ++ list
noted_here node before list =
    of_joined node before (map (λ one. (node, one)) list) ∙ ap (λ more. of_node node before ++ more) (of_itself node node list (node_self node))
