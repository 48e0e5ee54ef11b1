-- An end gives no more items in a connection than it sends PDUs there.
use Rattle.std.proofs.Common.{◌≡◌, ℕ, ◌≤◌, ◌+◌, Bool, true, false, if◌then◌else◌, List, [], ◌∷◌, ◌++◌, length, ap, ◌∙◌, arith}
use Rattle.std.proofs.lemmas.List.{length-append}
use Rattle.rasta_core.specs.Carried.{carried}
use Rattle.rasta_core_spec.specs.pdu.Pdu.{Pdu}

pub none_few : (pdus : List Pdu) → 0 ≤ length pdus
none_few pdus = omega arith

pub empty_few : (given : List (List ℕ)) (pdus : List Pdu) → given ≡ [] → length given ≤ length pdus
empty_few given pdus none = let count : length given ≡ 0 = ap (λ (items : List (List ℕ)). length items) none in omega (arith, count)

-- an item that is accepted is carried
pub one_few : (accepts : Bool) (item : List ℕ) (pdus : List Pdu) → carried pdus ≡ (if accepts then item ∷ [] else []) → length (if accepts then item ∷ [] else []) ≤ length pdus
one_few false item pdus carries = omega arith
one_few true item [] carries = absurd (cc carries)
one_few true item (first ∷ others) carries = omega arith

-- the connection goes on
pub longer_few : (given more all : List (List ℕ)) (flow pdus whole : List Pdu) → all ≡ given ++ more → whole ≡ flow ++ pdus → length given ≤ length flow → length more ≤ length pdus
    → length all ≤ length whole
longer_few given more all flow pdus whole all_is whole_is before now =
    let items : length all ≡ length given + length more = ap (λ (items : List (List ℕ)). length items) all_is ∙ length-append given more
    in let sent : length whole ≡ length flow + length pdus = ap (λ (flow : List Pdu). length flow) whole_is ∙ length-append flow pdus
    in omega (arith, items, sent, before, now)
