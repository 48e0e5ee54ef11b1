-- Lists of moves, one after the other.
use Rattle.std.proofs.Common.{◌≡◌, List, [], ◌∷◌, ◌++◌, refl}
use Rattle.simulator_machine.specs.Chains.{MayChain, chained}

module _ {Step State : Type 0} (may : Step → State → Type 0) (after : Step → State → State) where
  pub chain_joined : (first others : List Step) (state : State) → chained after (first ++ others) state ≡ chained after others (chained after first state)
  chain_joined [] others state = refl
  chain_joined (step ∷ steps) others state = chain_joined steps others (after step state)

  pub chain_may : (first others : List Step) (state : State) → MayChain may after first state → MayChain may after others (chained after first state) →
      MayChain may after (first ++ others) state
  chain_may [] others state one more = more
  chain_may (step ∷ steps) others state one more = (one.0, chain_may steps others (after step state) one.1 more)

pub cancelled : {A : Type 0} (xs ys zs : List A) → xs ++ ys ≡ xs ++ zs → ys ≡ zs
cancelled [] ys zs same = same
cancelled (x ∷ xs) ys zs same = cancelled xs ys zs (cc (same))
