-- Reading items one after the other, as a loop does.
use Rattle.std.proofs.Common.{◌≡◌, ℕ, suc, ◌-◌, ◌≤◌, ◌<◌, List, [], ◌∷◌, ◌++◌, length, All, Option, Some, None, Result, Ok, Err, refl, sym, ap, ◌∙◌, append_assoc, arith, inl, inr}
use Rattle.std.proofs.lemmas.List.{append-nil, length_push, nil_from_length}
use Rattle.std.proofs.lemmas.List.Elements.{All-push}
use Rattle.std.specs.Prelude.{◌↔◌, IsSome, IfSome}
use Rattle.std.specs.Option.{ok_or}
use Rattle.std.proofs.lemmas.Bool.{cases_lt, eq-eqb, ne_eqb, false≢true}
use Rattle.rasta_pdu.specs.declared.fault.PduFault.{PduFault}
use Rattle.rasta_pdu.specs.declared.fault.PduFault.TheVariants as faults
use Rattle.rasta_pdu.specs.Items.{IsItem}
use Rattle.rasta_pdu.specs.PduRead.{◌>>=◌, item_of, items_to_end, items_of, some_items}
use Rattle.rasta_pdu.proofs.ItemLaws.{read_item}

-- what was read before, and what is still read
abbrev pub with_front : List (List ℕ) → Result (List (List ℕ)) PduFault → Result (List (List ℕ)) PduFault
with_front front read = read >>= λ others. Ok (front ++ others)

-- the items so far, the bytes left, and the bytes that there were
pub record ReadsOn (held : List (List ℕ)) (rest payload : List ℕ) : Type 0 where
  pub room : length held ≤ 3
  pub items : All IsItem held
  pub goes_on : with_front held (items_to_end (3 - length held) rest) ≡ items_to_end 3 payload

abbrev step_of : ℕ → List ℕ → Result (List (List ℕ)) PduFault
step_of room rest = item_of rest >>= λ first. items_to_end room first.1 >>= λ others. Ok (first.0 ∷ others)

one_step : (room : ℕ) (rest : List ℕ) → 1 ≤ length rest → items_to_end (suc room) rest ≡ step_of room rest
unfolding items_to_end
one_step room [] h = absurd (omega arith)
one_step room (byte ∷ bytes) h = refl

no_room : (rest : List ℕ) → 1 ≤ length rest → items_to_end 0 rest ≡ Err faults.Items
unfolding items_to_end
no_room [] h = absurd (omega arith)
no_room (byte ∷ bytes) h = refl

at_end : (room : ℕ) → items_to_end room [] ≡ Ok []
unfolding items_to_end
at_end room = refl

regroup : (front : List (List ℕ)) (item : List ℕ) (read : Result (List (List ℕ)) PduFault) → with_front front (read >>= λ others. Ok (item ∷ others)) ≡ with_front (front ++ item ∷ []) read
regroup front item (Ok others) = ap (λ (items : List (List ℕ)). Ok items) (simp append_assoc)
regroup front item (Err fault) = refl

module _ (held : List (List ℕ)) (rest payload : List ℕ) (so_far : ReadsOn held rest payload) where
  -- more bytes, and no room
  pub is_full : length held ≡ 3 → 1 ≤ length rest → items_of payload ≡ Err faults.Items
  unfolding items_of
  is_full full more =
      let none : 3 - length held ≡ 0 = omega arith in
      let reads : with_front held (items_to_end (3 - length held) rest) ≡ Err faults.Items = rw (none, no_room rest more) refl in
      rw (sym so_far.goes_on ∙ reads) refl

  pub fails : (fault : PduFault) → length held < 3 → 1 ≤ length rest → item_of rest ≡ Err fault → items_of payload ≡ Err fault
  unfolding items_of
  fails fault room more e =
      let left : 3 - length held ≡ suc (2 - length held) = omega arith in
      let reads : with_front held (items_to_end (3 - length held) rest) ≡ Err fault = rw (left, one_step (2 - length held) rest more, e) refl in
      rw (sym so_far.goes_on ∙ reads) refl

  pub goes_on : (item after : List ℕ) → length held < 3 → 1 ≤ length rest → item_of rest ≡ Ok (item, after) → ReadsOn (held ++ item ∷ []) after payload
  goes_on item after room more e =
      let left : 3 - length held ≡ suc (2 - length held) = omega arith in
      let len = length_push held item in
      let next : 3 - length (held ++ item ∷ []) ≡ 2 - length held = omega (arith, len) in
      let reads : with_front held (items_to_end (3 - length held) rest) ≡ with_front (held ++ item ∷ []) (items_to_end (2 - length held) after) = rw (left, one_step (2 - length held) rest more, e) (regroup held item (items_to_end (2 - length held) after)) in
      record {
        room = omega (arith, len);
        items = All-push IsItem held item so_far.items (read_item rest item after e);
        goes_on = rw next (sym reads ∙ so_far.goes_on);
      }

  pub ends : length rest ≡ 0 → items_of payload ≡ some_items held
  unfolding items_of
  ends none =
      let reads : with_front held (items_to_end (3 - length held) rest) ≡ Ok held = rw (nil_from_length rest none, at_end (3 - length held)) (ap (λ (items : List (List ℕ)). Ok items) (append-nil held)) in
      rw (sym so_far.goes_on ∙ reads) refl

-- what is answered at the end, where a list of items is taken if it has any
pub taken : (o : Option (List (List ℕ))) (held : List (List ℕ)) → (IsSome o ↔ (1 ≤ length held)) → IfSome o (λ items. items ≡ held) → ok_or o faults.Items ≡ some_items held
taken None held fits value =
    let none : length held ≡ 0 = elim (cases_lt (length held) 1) [ inl lt ↦ omega arith | inr le ↦ absurd (false≢true (fits.1 le)) ] in
    rw (eq-eqb (length held) 0 none) refl
taken (Some items) held fits value =
    let some : 1 ≤ length held = fits.0 refl in
    rw (ne_eqb (length held) 0 (λ h. omega arith), value) refl
