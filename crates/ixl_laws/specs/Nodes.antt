-- Of what a step did, what it did at one controller.
use Rattle.std.specs.Prelude.{◌==◌, Bool, false, List, [], ◌∷◌, if◌then◌else◌}
use Rattle.ixl_state.specs.ixl_spec.StepSoFar.{Detector, Node, Point, Signal}

abbrev pub is_node : Node → Node → Bool
is_node (Signal place) (Signal other) = other == place
is_node (Point place) (Point other) = other == place
is_node (Detector place) (Detector other) = other == place
is_node _ _ = false

unfoldable pub of_node : {A : Type 0} → Node → List (Node × A) → List A
of_node node [] = []
of_node node (first ∷ others) = if is_node node first.0 then first.1 ∷ of_node node others else of_node node others
