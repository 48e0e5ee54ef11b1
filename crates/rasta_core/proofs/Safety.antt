-- What the order of a connection gives.
use Rattle.std.proofs.Common.{◌≡◌, ℕ, ◌-◌, ◌≤◌, List, ◌++◌, length, take, drop, inl, inr, refl, sym, ap, arith}
use Rattle.std.proofs.lemmas.List.{take-append-drop, length-take-le}
use Rattle.rasta_core.specs.EndFlow.{EndFlow}
use Rattle.rasta_core_spec.specs.Calls.{created}
use Rattle.rasta_core_spec.specs.identity.Identity.{Identity}
use Rattle.rasta_core_spec.specs.State.{LinkState, confirmed_items}
use Rattle.rasta_core.specs.Order.{Way, InOrder}
use Rattle.rasta_core.specs.LinkAndFlow.{Keeps, Plays, joined, asking, left}
use Rattle.rasta_core.proofs.Tags.{later_most}

pub beginning : (giver taker : EndFlow) → Way giver taker → (others : List (List ℕ)) × (giver.given ≡ taker.taken ++ others)
beginning giver taker way =
    let passed = giver.passed taker.reached
    in (drop passed giver.given, rw way.taken (sym (take-append-drop passed giver.given)))

few_confirmed : (giver taker : EndFlow) → Way giver taker → length giver.given - length giver.waiting ≤ length taker.taken
few_confirmed giver taker way =
    let passed = giver.passed taker.reached
    in let few : length (take passed giver.given) ≡ passed = length-take-le passed giver.given (way.counts.passed taker.reached way.counts.most)
    in omega (arith, ap length way.taken, few, way.level, later_most taker.reached giver.waiting)

-- what a link holds to be confirmed was taken
pub confirmed : (link : LinkState) (own other : EndFlow) → InOrder own other → Plays link own other → confirmed_items link ≤ length other.taken
confirmed link own other order plays = go plays
  where
    from_keeps : Keeps link own → confirmed_items link ≤ length other.taken
    from_keeps keeps = omega (arith, few_confirmed own other order.there, keeps.given, ap length keeps.waiting)

    go : Plays link own other → confirmed_items link ≤ length other.taken
    go (joined has) = from_keeps has.inside.keeps
    go (asking still) = from_keeps still.inside.keeps
    go (left shut (inl keeps)) = from_keeps keeps
    go (left shut (inr new)) = omega (arith, new.given)

pub swapped : (own other : EndFlow) → InOrder own other → InOrder other own
swapped own other order = record { there = order.back; back = order.there }

-- an end that was made anew has nothing of the connection
pub anew : (identity : Identity) (first_sequence_number now : ℕ) (own other : EndFlow) → Plays (created identity first_sequence_number now) own other
unfolding created
anew identity first_sequence_number now own other = left refl (inr (record { given = refl; taken = refl }))
