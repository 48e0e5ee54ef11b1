-- What a line was found to tell.
use Rattle.std.proofs.Common.{◌≡◌, refl, ap, []}
use Rattle.node_drive.specs.Kinds.{Comes, NodeState, meaning_of}
use Rattle.node_drive.specs.declared.node.LineMeaning.{LineMeaning}
use Rattle.node_drive.specs.declared.node.LineMeaning.TheVariants as line_meaning
use Rattle.node_kinds.specs.inside.ControllerSteps.{unanswered}

pub unanswered_is : {State Input : Type 0} (meaning : LineMeaning) (node : NodeState State Input) → node.said ≡ [] → meaning_of meaning node ≡ unanswered meaning node.left
unanswered_is (line_meaning.InForce number) node none = refl
unanswered_is line_meaning.Comes node none = ap (λ said. Comes said node.left) none
unanswered_is (line_meaning.Faulty fault) node none = refl
