-- What a node has left of its last step, as it is taken.
use Rattle.std.proofs.Common.{◌≡◌, List, ℕ, ap, sym, ◌∙◌}
use Rattle.node_drive.specs.Kinds.{NodeState}
use Rattle.node_drive.specs.Waiting.{Addressed}

module _ {State In : Type 0} where
  pub said_on : (first old new : NodeState State In) (rest : List (List ℕ)) → new ≡ record old { said = rest } → old ≡ record first { said = old.said } → new ≡ record first { said = new.said }
  said_on first old new rest e h =
      (e ∙ ap (λ (n : NodeState State In). record n { said = rest }) h) ∙ ap (λ (s : List (List ℕ)). record first { said = s }) (sym (ap (λ (n : NodeState State In). n.said) e))

  pub handed_on : (first old new : NodeState State In) (rest : List Addressed) → new ≡ record old { handed = rest } → old ≡ record first { handed = old.handed } → new ≡ record first { handed = new.handed }
  handed_on first old new rest e h =
      (e ∙ ap (λ (n : NodeState State In). record n { handed = rest }) h) ∙ ap (λ (s : List Addressed). record first { handed = s }) (sym (ap (λ (n : NodeState State In). n.handed) e))
