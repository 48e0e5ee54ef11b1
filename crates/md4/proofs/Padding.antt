-- The padding of a message, as the code lays it out behind the bytes that are left of one.
use Rattle.std.proofs.Common.{◌≡◌, ℕ, suc, ◌+◌, ◌-◌, ◌*◌, ◌/◌, ◌%◌, ◌^◌, ◌≤◌, List, ◌∷◌, ◌++◌, length, take, drop, replicate, refl, arith, length-append}
use Rattle.std.proofs.Math.ListN.{set}
use Rattle.std.proofs.Math.Seq.{set-append_seam, take-append-add}
use Rattle.std.proofs.lemmas.List.{drop-replicate, take-replicate, length-replicate, append_assoc}
use Rattle.std.proofs.lemmas.Slice.{take-put_mid}
use Rattle.std.specs.Int.{w64, to_le_bytes}
use Rattle.md4.specs.Md4.{padding}
use borrow.Rule.Slice.PartMut.{put_mid}

-- n zero bytes
zeros : ℕ → List ℕ
zeros n = replicate n 0

-- a mark behind some bytes at the front of zeros
marked : (left : List ℕ) (mark size n : ℕ) → size ≡ length left + suc n
    → set (left ++ drop (length left) (replicate {A = ℕ} size 0)) (length left) mark ≡ left ++ mark ∷ zeros n
unfolding zeros
marked left mark size n e =
    let count : size - length left ≡ suc n = omega arith in
    let rest : drop (length left) (replicate {A = ℕ} size 0) ≡ 0 ∷ replicate n 0 = rw (drop-replicate {X = ℕ} (length left) size 0, count) refl in
    rw rest (set-append_seam left 0 (zeros n) mark)

-- the front of that
front_of : (left : List ℕ) (mark n m k : ℕ) → k ≡ length left + suc m → m ≤ n → take k (left ++ mark ∷ zeros n) ≡ left ++ mark ∷ zeros m
unfolding zeros
front_of left mark n m k e low =
    rw (e, take-append-add left (mark ∷ zeros n) (suc m), take-replicate {X = ℕ} m n 0 low) refl

-- the mark, and a length at the end of the first block that has room for both
pub padding_placed : (front left bits : List ℕ) (len end k : ℕ) → front ≡ left → length left ≡ len % 64 → end ≡ (length left + 72) / 64 * 64
    → bits ≡ to_le_bytes w64 (len * 8 % 2 ^ 64)
    → take end (put_mid (end - 8) k (set (front ++ drop (length left) (replicate {A = ℕ} 128 0)) (length left) 0x80) bits) ≡ left ++ padding len
unfolding padding zeros
padding_placed front left bits len end k same used place e =
    let n : ℕ = 127 - length left in
    let m : ℕ = end - 9 - length left in
    let whole : List ℕ = left ++ 0x80 ∷ zeros n in
    let begins = marked left 0x80 128 n (omega arith) in
    let long : length whole ≡ 128 = omega (arith, length-append left (0x80 ∷ zeros n), length-replicate {A = ℕ} n 0) in
    let eight : length bits ≡ 8 = rw e refl in
    let count : (55 + 64 - len % 64) % 64 ≡ m = omega arith in
    let kept : take (end - 8) whole ≡ left ++ 0x80 ∷ zeros m = front_of left 0x80 n m (end - 8) (omega arith) (omega arith) in
    rw (same, begins, take-put_mid (end - 8) k whole bits end (omega arith) (omega arith), kept, count, e) (append_assoc left _ _)
