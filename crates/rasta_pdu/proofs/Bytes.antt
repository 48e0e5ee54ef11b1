-- Lists of bytes, and the numbers in them.
use Rattle.std.proofs.Common.{◌≡◌, ℕ, ◌+◌, ◌^◌, ◌<◌, ◌≤◌, List, ◌++◌, length, get_or, take, drop, sym, ap, ◌∙◌, arith, inl, inr}
use Rattle.std.specs.Int.{w16, w32, from_le_bytes, to_le_bytes}
use Rattle.std.proofs.lemmas.Bool.{cases_lt}
use Rattle.std.proofs.lemmas.List.{take-append-drop, length-take, get_or-drop, get_or-take, get_or_past}
use Rattle.std.proofs.lemmas.Nat.{le_bytes_2, le_bytes_4}
use Rattle.rasta_pdu.specs.Values.{IsBytes}

pub IsBytes-drop : (n : ℕ) (bytes : List ℕ) → IsBytes bytes → IsBytes (drop n bytes)
IsBytes-drop n bytes h i = rw get_or-drop (h (n + i))

pub IsBytes-take : (n : ℕ) (bytes : List ℕ) → IsBytes bytes → IsBytes (take n bytes)
IsBytes-take n bytes h i =
    elim (cases_lt i n) [
      | inl lt ↦ rw (get_or-take n bytes i 0 lt) (h i)
      | inr le ↦ rw (get_or_past (take n bytes) i 0 (omega (arith, length-take n bytes))) (omega arith)
    ]

-- the number at the front of bytes, and what follows it
pub front_16 : (bytes : List ℕ) → IsBytes bytes → 2 ≤ length bytes → bytes ≡ to_le_bytes w16 (from_le_bytes w16 bytes) ++ drop 2 bytes
front_16 bytes fits long =
    let front : List ℕ = take 2 bytes in
    let at0 : get_or (take 2 bytes) 0 0 ≡ get_or bytes 0 0 = get_or-take 2 bytes 0 0 (omega arith) in
    let at1 : get_or (take 2 bytes) 1 0 ≡ get_or bytes 1 0 = get_or-take 2 bytes 1 0 (omega arith) in
    let same : from_le_bytes w16 bytes ≡ from_le_bytes w16 (take 2 bytes) = omega arith in
    let back : to_le_bytes w16 (from_le_bytes w16 bytes) ≡ take 2 bytes = le_bytes_2 (take 2 bytes) _ (omega (arith, length-take 2 bytes)) (IsBytes-take 2 bytes fits) same in
    sym (take-append-drop 2 bytes) ∙ ap (λ (x : List ℕ). x ++ drop 2 bytes) (sym back)

pub front_32 : (bytes : List ℕ) → IsBytes bytes → 4 ≤ length bytes → bytes ≡ to_le_bytes w32 (from_le_bytes w32 bytes) ++ drop 4 bytes
front_32 bytes fits long =
    let at0 : get_or (take 4 bytes) 0 0 ≡ get_or bytes 0 0 = get_or-take 4 bytes 0 0 (omega arith) in
    let at1 : get_or (take 4 bytes) 1 0 ≡ get_or bytes 1 0 = get_or-take 4 bytes 1 0 (omega arith) in
    let at2 : get_or (take 4 bytes) 2 0 ≡ get_or bytes 2 0 = get_or-take 4 bytes 2 0 (omega arith) in
    let at3 : get_or (take 4 bytes) 3 0 ≡ get_or bytes 3 0 = get_or-take 4 bytes 3 0 (omega arith) in
    let same : from_le_bytes w32 bytes ≡ from_le_bytes w32 (take 4 bytes) = omega arith in
    let back : to_le_bytes w32 (from_le_bytes w32 bytes) ≡ take 4 bytes = le_bytes_4 (take 4 bytes) _ (omega (arith, length-take 4 bytes)) (IsBytes-take 4 bytes fits) same in
    sym (take-append-drop 4 bytes) ∙ ap (λ (x : List ℕ). x ++ drop 4 bytes) (sym back)

-- numbers in bytes fit their width
pub below_16 : (bytes : List ℕ) → IsBytes bytes → from_le_bytes w16 bytes < 2 ^ 16
below_16 bytes fits = omega (arith, fits 0, fits 1)

pub below_32 : (bytes : List ℕ) → IsBytes bytes → from_le_bytes w32 bytes < 2 ^ 32
below_32 bytes fits = omega (arith, fits 0, fits 1, fits 2, fits 3)
