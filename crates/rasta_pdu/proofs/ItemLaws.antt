-- An item that is read is the item that was written, and what was written is read again.
use Rattle.std.proofs.Common.{◌≡◌, ℕ, ◌-◌, ◌+◌, ◌≤◌, Bool, true, false, cond, ltb, eqb, List, ◌++◌, length, take, drop, Result, Ok, Err, refl, sym, ap, ◌∙◌, append_assoc, arith}
use Rattle.std.specs.Int.{w16, from_le_bytes, to_le_bytes}
use Rattle.std.proofs.lemmas.Bool.{ltb-false, eqb-false, le-ltb, ne_eqb}
use Rattle.std.proofs.lemmas.List.{take_at, drop_at, take-append-drop, length-take, length-drop, length-append}
use Rattle.std.proofs.lemmas.Nat.{from_le_bytes-to_le_bytes_2}
use Rattle.rasta_pdu.specs.declared.fault.PduFault.{PduFault}
use Rattle.rasta_pdu.specs.declared.fault.PduFault.TheVariants as faults
use Rattle.rasta_pdu.specs.Items.{IsItem}
use Rattle.rasta_pdu.specs.Spelling.{item_bytes}
use Rattle.rasta_pdu.specs.PduRead.{item_of}
use Rattle.rasta_pdu.proofs.Steps.{guard_ok, guard_err, ok_is, err_is}
use Rattle.rasta_pdu.specs.Values.{IsBytes}
use Rattle.rasta_pdu.proofs.Bytes.{IsBytes-drop, front_16}

-- what an item that was read says of the bytes
record Read (bytes item rest : List ℕ) : Type 0 where
  pub long : 2 ≤ length bytes
  pub some : 1 ≤ from_le_bytes w16 bytes
  pub most : from_le_bytes w16 bytes ≤ 61
  pub enough : from_le_bytes w16 bytes ≤ length bytes - 2
  pub item_is : take (from_le_bytes w16 bytes) (drop 2 bytes) ≡ item
  pub rest_is : drop (from_le_bytes w16 bytes) (drop 2 bytes) ≡ rest

read_parts : (bytes item rest : List ℕ) → item_of bytes ≡ Ok (item, rest) → Read bytes item rest
unfolding item_of
read_parts bytes item rest e =
    let n = from_le_bytes w16 bytes in
    let made : List ℕ × List ℕ = (take n (drop 2 bytes), drop n (drop 2 bytes)) in
    let last : Result (List ℕ × List ℕ) PduFault = cond (ltb (length bytes - 2) n) (Err faults.Items) (Ok made) in
    let a = guard_ok (ltb (length bytes) 2) faults.Items (cond (eqb n 0) (Err faults.Items) (cond (ltb 61 n) (Err faults.Items) last)) (item, rest) e in
    let b = guard_ok (eqb n 0) faults.Items (cond (ltb 61 n) (Err faults.Items) last) (item, rest) a.1 in
    let c = guard_ok (ltb 61 n) faults.Items last (item, rest) b.1 in
    let d = guard_ok (ltb (length bytes - 2) n) faults.Items (Ok made) (item, rest) c.1 in
    let same : made ≡ (item, rest) = ok_is made (item, rest) d.1 in
    let nonzero = eqb-false n 0 b.0 in
    record {
      long = ltb-false _ _ a.0;
      some = omega arith;
      most = ltb-false _ _ c.0;
      enough = ltb-false _ _ d.0;
      item_is = ap (λ (p : List ℕ × List ℕ). p.0) same;
      rest_is = ap (λ (p : List ℕ × List ℕ). p.1) same;
    }

read_length : (bytes item rest : List ℕ) → Read bytes item rest → length item ≡ from_le_bytes w16 bytes
read_length bytes item rest r =
    rw (← r.item_is) (omega (arith, length-take (from_le_bytes w16 bytes) (drop 2 bytes), length-drop 2 bytes, r.enough))

-- what is read is an item
pub read_item : (bytes item rest : List ℕ) → item_of bytes ≡ Ok (item, rest) → IsItem item
read_item bytes item rest e =
    let r = read_parts bytes item rest e in
    let n = read_length bytes item rest r in
    record { some = omega arith; most = omega arith }

-- and its bytes were these
pub item_found : (bytes item rest : List ℕ) → IsBytes bytes → item_of bytes ≡ Ok (item, rest) → (bytes ≡ item_bytes item ++ rest) × IsBytes rest
item_found bytes item rest fits e =
    let r = read_parts bytes item rest e in
    let n = read_length bytes item rest r in
    let parts : drop 2 bytes ≡ item ++ rest = sym (take-append-drop (from_le_bytes w16 bytes) (drop 2 bytes)) ∙ rw (r.item_is, r.rest_is) refl in
    let whole : bytes ≡ to_le_bytes w16 (length item) ++ (item ++ rest) = front_16 bytes fits r.long ∙ rw (← n, parts) refl in
    (whole ∙ sym (append_assoc (to_le_bytes w16 (length item)) item rest), rw (← r.rest_is) (IsBytes-drop _ (drop 2 bytes) (IsBytes-drop 2 bytes fits)))

-- an item is read again, whatever follows it
pub item_again : (item rest : List ℕ) → IsItem item → item_of (item_bytes item ++ rest) ≡ Ok (item, rest)
unfolding item_of
item_again item rest is =
    let n : from_le_bytes w16 (item_bytes item ++ rest) ≡ length item = from_le_bytes-to_le_bytes_2 (length item) (omega (arith, is.most)) in
    let len : length (item_bytes item ++ rest) ≡ 2 + length item + length rest = omega (arith, length-append item rest) in
    rw (n, len) (rw (le-ltb (2 + length item + length rest) 2 (omega arith), ne_eqb (length item) 0 (λ h. omega (arith, is.some)), le-ltb 61 (length item) is.most, le-ltb (2 + length item + length rest - 2) (length item) (omega arith), take_at item rest (length item) refl, drop_at item rest (length item) refl) refl)

four_faults : {A : Type 0} (a b c d : Bool) (x : A) (own fault : PduFault) → cond a (Err own) (cond b (Err own) (cond c (Err own) (cond d (Err own) (Ok x)))) ≡ Err fault → fault ≡ own
four_faults {A} true b c d x own fault e = sym (err_is {A = A} own fault e)
four_faults {A} false true c d x own fault e = sym (err_is {A = A} own fault e)
four_faults {A} false false true d x own fault e = sym (err_is {A = A} own fault e)
four_faults false false false d x own fault e = guard_err d own fault x e

-- an item has one fault
pub item_fault : (bytes : List ℕ) (fault : PduFault) → item_of bytes ≡ Err fault → fault ≡ faults.Items
unfolding item_of
item_fault bytes fault e =
    let n = from_le_bytes w16 bytes in
    four_faults (ltb (length bytes) 2) (eqb n 0) (ltb 61 n) (ltb (length bytes - 2) n) (take n (drop 2 bytes), drop n (drop 2 bytes)) faults.Items fault e
