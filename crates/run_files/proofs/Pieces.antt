-- What a piece of some bytes does to a part.
use Rattle.std.proofs.Common.{◌≡◌, ◌≤◌, ◌+◌, ◌-◌, ◌∙◌, ℕ, zero, suc, Bool, true, false, if◌then◌else◌, List, [], ◌∷◌, ◌++◌, length, take, nat_le, refl, sym, ap, arith, append_assoc, append-nil, length-append}
use Rattle.std.proofs.lemmas.Bool.{eqb-true, eq-eqb, leb-true, le-leb}
use Rattle.std.specs.Bool.{one_answer}
use Rattle.std.specs.Prelude.{◌==◌, ◌&&◌}
use Rattle.run_files.specs.Parts.{Parts, ends_line, is_full, next_part, with_byte, with_opened, written}
use Rattle.run_files.specs.inside.Pieces.{piece}
use Rattle.run_files.proofs.Ends.{ends-append}

-- ---- what a piece is

pub piece_full : (missing byte : ℕ) (bytes : List ℕ) → (byte == 10 && nat_le missing 1) ≡ true → piece missing (byte ∷ bytes) ≡ 1
piece_full missing byte bytes is = ap (λ (t : Bool). if t then 1 else suc (piece (missing - 1) bytes)) is

pub piece_goes_on : (missing byte : ℕ) (bytes : List ℕ) → (byte == 10 && nat_le missing 1) ≡ false → piece missing (byte ∷ bytes) ≡ suc (piece (missing - 1) bytes)
piece_goes_on missing byte bytes test = ap (λ (t : Bool). if t then 1 else suc (piece (missing - 1) bytes)) test

-- ---- how far a part is

-- so many bytes are lacking with one more
lacks_one : (size had : ℕ) → nat_le (size - had) 1 ≡ nat_le size (had + 1)
lacks_one size had =
    one_answer {P = size ≤ had + 1} (nat_le (size - had) 1) (nat_le size (had + 1)) (
      λ e.
          let few = leb-true (size - had) 1 e in
          omega (arith, few),
      λ h. le-leb (size - had) 1 (omega (arith, h)),
    )
    (λ e. leb-true size (had + 1) e, λ h. le-leb size (had + 1) h)

-- with so many bytes more none is lacking
lacks_none : (size had more : ℕ) → ((size - had - more) == 0) ≡ nat_le size (had + more)
lacks_none size had more =
    one_answer {P = size ≤ had + more} ((size - had - more) == 0) (nat_le size (had + more)) (
      λ e.
          let none = eqb-true (size - had - more) 0 e in
          omega (arith, none),
      λ h. eq-eqb (size - had - more) 0 (omega (arith, h)),
    )
    (λ e. leb-true size (had + more) e, λ h. le-leb size (had + more) h)

-- a part with one more byte
full_with_one : (size byte : ℕ) (part : List ℕ) → is_full size (part ++ byte ∷ []) ≡ (byte == 10 && nat_le (size - length part) 1)
full_with_one size byte part =
    let longer = length-append part (byte ∷ []) in
    let count : length (part ++ byte ∷ []) ≡ length part + 1 = omega (arith, longer) in
    ap (λ (t : Bool). t && nat_le size (length (part ++ byte ∷ []))) (ends-append part (byte ∷ []) (omega arith))
    ∙ ap (λ (n : ℕ). byte == 10 && nat_le size n) count
    ∙ ap (λ (t : Bool). byte == 10 && t) (sym (lacks_one size (length part)))

-- a part with some bytes more
pub full_with : (size missing : ℕ) (part bytes : List ℕ) → missing ≡ size - length part → 1 ≤ length bytes
    → (ends_line bytes && ((missing - length bytes) == 0)) ≡ is_full size (part ++ bytes)
full_with size missing part bytes is some =
    ap (λ (m : ℕ). ends_line bytes && ((m - length bytes) == 0)) is
    ∙ ap (λ (t : Bool). ends_line bytes && t) (lacks_none size (length part) (length bytes))
    ∙ ap (λ (t : Bool). t && nat_le size (length part + length bytes)) (sym (ends-append part bytes some))
    ∙ ap (λ (n : ℕ). ends_line (part ++ bytes) && nat_le size n) (sym (length-append part bytes))

-- ---- what is written

none_more : (parts : Parts) → parts ≡ with_opened [] parts
none_more parts = ap (λ (l : List ℕ). record { closed = parts.closed; opened = l }) (sym (append-nil parts.opened))

-- a byte behind a part that isn't full
byte_behind : (size byte : ℕ) (parts : Parts) → is_full size parts.opened ≡ false → with_byte size byte parts ≡ with_opened (byte ∷ []) parts
byte_behind size byte parts room = ap (λ (t : Bool). with_opened (byte ∷ []) (if t then next_part parts else parts)) room

at_once : (parts : Parts) (byte : ℕ) (bytes : List ℕ) → with_opened bytes (with_opened (byte ∷ []) parts) ≡ with_opened (byte ∷ bytes) parts
at_once parts byte bytes = ap (λ (l : List ℕ). record { closed = parts.closed; opened = l }) (append_assoc parts.opened (byte ∷ []) bytes)

-- where the bytes behind this one stand in one part with it, so do all
with_first : (size missing : ℕ) (parts : Parts) (byte : ℕ) (bytes : List ℕ) (count : ℕ) → missing ≡ size - length parts.opened → is_full size parts.opened ≡ false
    → (missing - 1 ≡ size - length (parts.opened ++ byte ∷ []) → is_full size (parts.opened ++ byte ∷ []) ≡ false → suc count ≤ piece (missing - 1) bytes
    → written size (take (suc count) bytes) (with_opened (byte ∷ []) parts) ≡ with_opened (take (suc count) bytes) (with_opened (byte ∷ []) parts))
    → (t : Bool) → (byte == 10 && nat_le missing 1) ≡ t → suc (suc count) ≤ (if t then 1 else suc (piece (missing - 1) bytes))
    → written size (take (suc count) bytes) (with_byte size byte parts) ≡ with_opened (byte ∷ take (suc count) bytes) parts
with_first size missing parts byte bytes count is room behind true test less = absurd (omega (arith, less))
with_first size missing parts byte bytes count is room behind false test less =
    let longer = length-append parts.opened (byte ∷ []) in
    let left : missing - 1 ≡ size - length (parts.opened ++ byte ∷ []) = omega (arith, is, longer) in
    let still : is_full size (parts.opened ++ byte ∷ []) ≡ false =
    full_with_one size byte parts.opened ∙ ap (λ (m : ℕ). byte == 10 && nat_le m 1) (sym is) ∙ test
    in let fewer : suc count ≤ piece (missing - 1) bytes = omega (arith, less) in
    ap (written size (take (suc count) bytes)) (byte_behind size byte parts room) ∙ behind left still fewer ∙ at_once parts byte (take (suc count) bytes)

-- A piece, or a beginning of one, stands in one part.
pub written_piece : (size missing : ℕ) (parts : Parts) (bytes : List ℕ) (count : ℕ) → missing ≡ size - length parts.opened → is_full size parts.opened ≡ false
    → count ≤ piece missing bytes → written size (take count bytes) parts ≡ with_opened (take count bytes) parts
written_piece size missing parts bytes zero is room few = none_more parts
written_piece size missing parts [] (suc count) is room few = absurd (omega (arith, few))
written_piece size missing parts (byte ∷ bytes) (suc zero) is room few = byte_behind size byte parts room
written_piece size missing parts (byte ∷ bytes) (suc (suc count)) is room few =
    with_first size missing parts byte bytes count is room
    (λ left still fewer. written_piece size (missing - 1) (with_opened (byte ∷ []) parts) bytes (suc count) left still fewer)
    (byte == 10 && nat_le missing 1) refl few
