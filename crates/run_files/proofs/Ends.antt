-- How lists end.
use Rattle.std.proofs.Common.{◌≡◌, ◌≤◌, ◌+◌, ◌-◌, ◌∙◌, ℕ, List, ◌++◌, Option, get_or, length, slice_get, ap, arith, length-append}
use Rattle.std.proofs.lemmas.List.{get_or-append-add}
use Rattle.std.proofs.lemmas.Option.{unwrap_or-slice_get}
use Rattle.std.specs.Prelude.{◌==◌}
use Rattle.std.specs.Option.{unwrap_or}
use Rattle.run_files.specs.Parts.{ends_line}

-- some bytes end as they do behind others
pub ends-append : (xs ys : List ℕ) → 1 ≤ length ys → ends_line (xs ++ ys) ≡ ends_line ys
ends-append xs ys some =
    let longer = length-append xs ys in
    let last : length (xs ++ ys) - 1 ≡ length xs + (length ys - 1) = omega (arith, longer, some) in
    ap (λ (n : ℕ). get_or (xs ++ ys) n 0 == 10) last ∙ ap (λ (b : ℕ). b == 10) (get_or-append-add xs ys (length ys - 1) 0)

-- by the last byte, if there is one
pub last_tells : (bytes : List ℕ) (last : Option ℕ) → last ≡ slice_get bytes (length bytes - 1) → (unwrap_or last 0 == 10) ≡ ends_line bytes
last_tells bytes last is = ap (λ (b : ℕ). b == 10) (ap (λ (o : Option ℕ). unwrap_or o 0) is ∙ unwrap_or-slice_get bytes (length bytes - 1) 0)
