-- The field of a name.
use Rattle.std.proofs.Common.{◌≡◌, ℕ, ◌-◌, List, ◌++◌, length, take, replicate, ap, ◌∙◌, append_assoc, arith}
use Rattle.std.proofs.lemmas.List.{take-replicate, length-append, length-replicate}
use Rattle.sci_telegram.specs.Names.{IsName, name_field}

pub field_has_20 : (name : List ℕ) → IsName name → length (name_field name) ≡ 20
field_has_20 name is = omega (arith, length-append name (replicate (20 - length name) 95), length-replicate {A = ℕ} (20 - length name) 95, is.most)

pub field_is : (bytes name : List ℕ) → IsName name → (bytes ++ name) ++ take (20 - length name) (replicate 20 95) ≡ bytes ++ name_field name
field_is bytes name is =
    append_assoc bytes name (take (20 - length name) (replicate 20 95))
    ∙ ap (λ (padding : List ℕ). bytes ++ (name ++ padding)) (take-replicate (20 - length name) 20 95 (omega arith))
