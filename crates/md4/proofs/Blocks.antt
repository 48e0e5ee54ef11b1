-- The registers after the blocks of a message.
use Rattle.std.proofs.Common.{◌≡◌, ℕ, zero, suc, ◌/◌, ◌<◌, ◌≤◌, List, [], ◌++◌, length, take, drop, refl, sym, ◌∙◌, arith, length-append, length-drop}
use Rattle.std.proofs.lemmas.List.{take-append-le, drop-append-le, append-nil}
use Rattle.md4.specs.Md4.{after_block, after_blocks, after_all}

-- fewer bytes than a block leave the registers as they are
pub after_all_short : (h b : List ℕ) → length b < 64 → after_all h b ≡ h
unfolding after_blocks
after_all_short h b short =
    let none : length b / 64 ≡ zero = omega arith in
    rw none refl

-- a block at the front
after_all_front : (h b : List ℕ) → 64 ≤ length b → after_all h b ≡ after_all (after_block h (take 64 b)) (drop 64 b)
unfolding after_blocks
after_all_front h b fits =
    let count : length b / 64 ≡ suc (length (drop 64 b) / 64) = omega (arith, length-drop 64 b) in
    rw count refl

-- the same, whatever follows
pub after_all_next : (h b later : List ℕ) → 64 ≤ length b
    → after_all (after_block h (take 64 b)) (drop 64 b ++ later) ≡ after_all h (b ++ later)
after_all_next h b later fits =
    let front : take 64 (b ++ later) ≡ take 64 b = take-append-le 64 b later fits in
    let rest : drop 64 (b ++ later) ≡ drop 64 b ++ later = drop-append-le 64 b later fits in
    let whole = after_all_front h (b ++ later) (omega (arith, length-append b later)) in
    sym (whole ∙ rw (front, rest) refl)

-- where less than a block is left, nothing is left to do
pub after_all_done : (h after left p q : List ℕ) → after_all after (left ++ []) ≡ after_all h (p ++ []) → length left < 64
    → p ≡ q → after ≡ after_all h q
after_all_done h after left p q same short e =
    let done : after_all after (left ++ []) ≡ after = rw (append-nil left) (after_all_short after left short) in
    sym done ∙ same ∙ rw (append-nil p, e) refl
