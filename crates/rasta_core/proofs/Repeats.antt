-- The PDUs that repeat the items that wait.
use Rattle.std.proofs.Common.{◌≡◌, ℕ, zero, suc, ◌+◌, List, [], ◌∷◌, ◌++◌, length, take, refl, sym, ap, ◌∙◌, arith, append_assoc}
use Rattle.std.proofs.lemmas.List.{length-append, take_at}
use Rattle.rasta_core_spec.specs.PdusHandedOut.{pdu_of}
use Rattle.rasta_core_spec.specs.Receipt.{repeated}
use Rattle.rasta_core_spec.specs.pdu.Pdu.{Pdu}
use Rattle.rasta_core_spec.specs.body.Body.TheVariants.{RetransmittedData}
use Rattle.rasta_core_spec.specs.window.Unconfirmed.{Unconfirmed}
use Rattle.rasta_core_spec.specs.header.Header.{Header}
use Rattle.rasta_core.specs.EndFlow.{IsAt, items_of}

pub length-items_of : (waiting : List Unconfirmed) → length (items_of waiting) ≡ length waiting
length-items_of [] = refl
length-items_of (first ∷ others) = ap (λ (n : ℕ). suc n) (length-items_of others)

pub items_of-append : (front back : List Unconfirmed) → items_of (front ++ back) ≡ items_of front ++ items_of back
items_of-append [] back = refl
items_of-append (first ∷ others) back = ap (λ rest. first.item ∷ rest) (items_of-append others back)

pub length-repeated : (header : Header) (count : ℕ) (waiting : List Unconfirmed) → length (repeated header count waiting) ≡ length waiting
unfolding repeated
length-repeated header count [] = refl
length-repeated header count (first ∷ others) = ap (λ (n : ℕ). suc n) (length-repeated header (count + 1) others)

-- A PDU of the repetition carries the item of its place.
pub record IsRepeat (header : Header) (count : ℕ) (waiting : List Unconfirmed) (place : ℕ) (pdu : Pdu) : Type 0 where
  pub front : List Unconfirmed
  pub one : Unconfirmed
  pub back : List Unconfirmed
  pub here : front ++ one ∷ back ≡ waiting
  pub at : length front ≡ place
  pub is : pdu ≡ pdu_of header (count + place) (RetransmittedData (one.item ∷ []))

pub repeated_at : (header : Header) (count : ℕ) (waiting : List Unconfirmed) (place : ℕ) (pdu : Pdu) → IsAt place pdu (repeated header count waiting) → IsRepeat header count waiting place pdu
unfolding repeated
repeated_at header count [] place pdu there = elim there [ ]
repeated_at header count (first ∷ others) zero pdu there = record {
  front = [];
  one = first;
  back = others;
  here = refl;
  at = refl;
  is = sym there ∙ ap (λ number. pdu_of header number (RetransmittedData (first.item ∷ []))) (omega arith);
}
repeated_at header count (first ∷ others) (suc place) pdu there =
    let rest = repeated_at header (count + 1) others place pdu there
    in record {
      front = first ∷ rest.front;
      one = rest.one;
      back = rest.back;
      here = ap (λ tail. first ∷ tail) rest.here;
      at = ap (λ (n : ℕ). suc n) rest.at;
      is = rest.is ∙ ap (λ number. pdu_of header number (RetransmittedData (rest.one.item ∷ []))) (omega arith);
    }

-- the items before this one, and with it
pub take_before : (before front back given : List (List ℕ)) (one : List ℕ) → given ≡ before ++ (front ++ one ∷ back) → take (length before + length front) given ≡ before ++ front
take_before before front back given one is =
    ap (take (length before + length front)) (is ∙ sym (append_assoc before front (one ∷ back)))
    ∙ take_at (before ++ front) (one ∷ back) (length before + length front) (length-append before front)

pub take_with : (before front back given : List (List ℕ)) (one : List ℕ) → given ≡ before ++ (front ++ one ∷ back)
    → take (length before + length front + 1) given ≡ (before ++ front) ++ one ∷ []
take_with before front back given one is =
    ap (take (length before + length front + 1)) (is ∙ sym (append_assoc before front (one ∷ back)) ∙ sym (append_assoc (before ++ front) (one ∷ []) back))
    ∙ take_at ((before ++ front) ++ one ∷ []) back (length before + length front + 1) (omega (arith, length-append (before ++ front) (one ∷ []), length-append before front))
