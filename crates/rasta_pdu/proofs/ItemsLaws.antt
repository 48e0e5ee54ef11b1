-- The items of a payload: what is read is spelled so, what is spelled so is read, and the only fault.
use Rattle.std.proofs.Common.{◌≡◌, ℕ, suc, zero, ◌*◌, ◌≤◌, eqb, List, [], ◌∷◌, ◌++◌, length, All, Ok, Err, refl, sym, ap, subst, ◌∙◌, arith, inl, inr}
use Rattle.std.specs.List.{flat_map}
use Rattle.std.proofs.lemmas.Bool.{eqb-false, ne_eqb}
use Rattle.std.proofs.lemmas.List.{length-append}
use Rattle.std.proofs.lemmas.List.Concat.{flat_map-cons}
use Rattle.std.proofs.lemmas.List.Elements.{All-nil, All-cons, All-head, All-tail}
use Rattle.rasta_pdu.specs.declared.fault.PduFault.{PduFault}
use Rattle.rasta_pdu.specs.declared.fault.PduFault.TheVariants as faults
use Rattle.rasta_pdu.specs.Items.{IsItem, AreItems}
use Rattle.rasta_pdu.specs.Spelling.{item_bytes}
use Rattle.rasta_pdu.specs.PduRead.{◌>>=◌, item_of, items_to_end, items_of, some_items}
use Rattle.rasta_pdu.proofs.Steps.{bind_ok, ok_is, guard_ok, err_is, bind_err, guard_err}
use Rattle.rasta_pdu.specs.Values.{IsBytes}
use Rattle.rasta_pdu.proofs.ItemLaws.{read_item, item_found, item_again, item_fault}

-- items that were read to the end
record ReadToEnd (room : ℕ) (bytes : List ℕ) (items : List (List ℕ)) : Type 0 where
  pub count : length items ≤ room
  pub each : All IsItem items
  pub spelled : bytes ≡ flat_map item_bytes items

to_end_found : (room : ℕ) (bytes : List ℕ) (items : List (List ℕ)) → IsBytes bytes → items_to_end room bytes ≡ Ok items → ReadToEnd room bytes items
unfolding items_to_end
to_end_found room [] items fits e =
    subst (ReadToEnd room []) (ok_is [] items e) (record { count = omega arith; each = All-nil IsItem; spelled = refl })
to_end_found zero (byte ∷ bytes) items fits e = absurd cc
to_end_found (suc room) (byte ∷ bytes) items fits e =
    let a = bind_ok (item_of (byte ∷ bytes)) (λ first. items_to_end room first.1 >>= λ others. Ok (first.0 ∷ others)) items e in
    let b = bind_ok (items_to_end room a.0.1) (λ others. Ok (a.0.0 ∷ others)) items a.2 in
    let first = item_found (byte ∷ bytes) a.0.0 a.0.1 fits a.1 in
    let others = to_end_found room a.0.1 b.0 first.1 b.1 in
    let whole : byte ∷ bytes ≡ flat_map item_bytes (a.0.0 ∷ b.0) = first.0 ∙ ap (λ (x : List ℕ). item_bytes a.0.0 ++ x) others.spelled ∙ sym (flat_map-cons item_bytes a.0.0 b.0) in
    subst (ReadToEnd (suc room) (byte ∷ bytes)) (ok_is (a.0.0 ∷ b.0) items b.2) (record {
      count = omega (arith, others.count);
      each = All-cons IsItem a.0.0 b.0 (read_item (byte ∷ bytes) a.0.0 a.0.1 a.1) others.each;
      spelled = whole;
    })

to_end_step : (room : ℕ) (bytes rest item : List ℕ) (others : List (List ℕ)) → item_of bytes ≡ Ok (item, rest) → 1 ≤ length bytes → items_to_end room rest ≡ Ok others → items_to_end (suc room) bytes ≡ Ok (item ∷ others)
unfolding items_to_end
to_end_step room [] rest item others e some h = absurd (omega arith)
to_end_step room (byte ∷ bytes) rest item others e some h = rw (e, h) refl

to_end_again : (room : ℕ) (items : List (List ℕ)) → length items ≤ room → All IsItem items → items_to_end room (flat_map item_bytes items) ≡ Ok items
unfolding items_to_end
to_end_again room [] count each = refl
to_end_again zero (item ∷ items) count each = absurd (omega arith)
to_end_again (suc room) (item ∷ items) count each =
    to_end_step room (flat_map item_bytes (item ∷ items)) (flat_map item_bytes items) item items
    (ap item_of (flat_map-cons item_bytes item items) ∙ item_again item (flat_map item_bytes items) (All-head IsItem item items each))
    (omega arith)
    (to_end_again room items (omega arith) (All-tail IsItem item items each))

to_end_fault : (room : ℕ) (bytes : List ℕ) (fault : PduFault) → items_to_end room bytes ≡ Err fault → fault ≡ faults.Items
unfolding items_to_end
to_end_fault room [] fault e = absurd cc
to_end_fault zero (byte ∷ bytes) fault e = sym (err_is {A = List (List ℕ)} faults.Items fault e)
to_end_fault (suc room) (byte ∷ bytes) fault e =
    elim (bind_err (item_of (byte ∷ bytes)) (λ first. items_to_end room first.1 >>= λ others. Ok (first.0 ∷ others)) fault e) [
      | inl first ↦ item_fault (byte ∷ bytes) fault first
      | inr (first, is, others) ↦
          elim (bind_err (items_to_end room first.1) (λ others. Ok (first.0 ∷ others)) fault others) [
            | inl h ↦ to_end_fault room first.1 fault h
            | inr (more, are, h) ↦ absurd cc
          ]
    ]

-- what is read is 1 to 3 items, and spelled so
pub items_found : (payload : List ℕ) (items : List (List ℕ)) → IsBytes payload → items_of payload ≡ Ok items → AreItems items × (payload ≡ flat_map item_bytes items)
unfolding items_of
items_found payload items fits e =
    let a = bind_ok (items_to_end 3 payload) some_items items e in
    let g = guard_ok (eqb (length a.0) 0) faults.Items (Ok a.0) items a.2 in
    let same : a.0 ≡ items = ok_is a.0 items g.1 in
    let r = to_end_found 3 payload a.0 fits a.1 in
    let nonzero = eqb-false (length a.0) 0 g.0 in
    subst (λ (xs : List (List ℕ)). AreItems xs × (payload ≡ flat_map item_bytes xs)) same (record { some = omega arith; most = r.count; each = r.each }, r.spelled)

pub items_again : (items : List (List ℕ)) → AreItems items → items_of (flat_map item_bytes items) ≡ Ok items
unfolding items_of
items_again items are =
    rw (to_end_again 3 items are.most are.each, ne_eqb (length items) 0 (λ h. omega (arith, are.some))) refl

pub items_fault : (payload : List ℕ) (fault : PduFault) → items_of payload ≡ Err fault → fault ≡ faults.Items
unfolding items_of
items_fault payload fault e =
    elim (bind_err (items_to_end 3 payload) some_items fault e) [
      | inl h ↦ to_end_fault 3 payload fault h
      | inr (items, are, h) ↦ guard_err (eqb (length items) 0) faults.Items fault items h
    ]

-- how many bytes they take
length-items : (items : List (List ℕ)) → All IsItem items → length (flat_map item_bytes items) ≤ 63 * length items
length-items [] each = omega arith
length-items (item ∷ items) each =
    let first : IsItem item = All-head IsItem item items each in
    let others = length-items items (All-tail IsItem item items each) in
    omega (arith, length-append item (flat_map item_bytes items), first.most, others)

pub length-payload : (items : List (List ℕ)) → AreItems items → length (flat_map item_bytes items) ≤ 189
length-payload items are = omega (arith, length-items items are.each, are.most)
