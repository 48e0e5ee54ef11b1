-- A type number and its payload: what is read is spelled so, what is spelled so is read, and the faults.
use Rattle.std.proofs.Common.{◌≡◌, ◌≢◌, ℕ, false, not, cond, eqb, List, length, take, drop, Result, Ok, Err, refl, sym, ap, subst, ◌∙◌, inl, inr}
use Rattle.std.specs.List.{flat_map}
use Rattle.std.proofs.lemmas.Bool.{eqb-false, ne_eqb, cases_eq, false≢true}
use Rattle.rasta_pdu.specs.declared.body.Opening.{Opening}
use Rattle.rasta_pdu.specs.declared.body.Body.{Body}
use Rattle.rasta_pdu.specs.declared.body.Body.TheVariants.{ConnectionRequest, ConnectionResponse, RetransmissionRequest, RetransmissionResponse, DisconnectionRequest, Heartbeat, Data, RetransmittedData}
use Rattle.rasta_pdu.specs.declared.fault.PduFault.{PduFault}
use Rattle.rasta_pdu.specs.declared.fault.PduFault.TheVariants as faults
use Rattle.rasta_pdu.specs.Items.{AreItems}
use Rattle.rasta_pdu.specs.Values.{IsBody}
use Rattle.rasta_pdu.specs.Spelling.{item_bytes, payload, type_of}
use Rattle.rasta_pdu.specs.PduRead.{◌>>=◌, body_of, disconnection_of, items_of, nothing_of, opening_of, u16_at}
use Rattle.rasta_pdu.specs.Faults.{HasFixedPayload, HasItems}
use Rattle.rasta_pdu.specs.Faults as table
use Rattle.rasta_pdu.proofs.Steps.{bind_ok, bind_err, sized_err, ok_is, err_is}
use Rattle.rasta_pdu.specs.Values.{IsBytes}
use Rattle.rasta_pdu.proofs.ItemsLaws.{items_found, items_again, items_fault}
use Rattle.rasta_pdu.proofs.BodyLaws.{opening_found, opening_again, disconnection_found, disconnection_again, nothing_found}

-- no type has this number
record NoType (number : ℕ) : Type 0 where
  pub not_6200 : eqb number 6200 ≡ false
  pub not_6201 : eqb number 6201 ≡ false
  pub not_6212 : eqb number 6212 ≡ false
  pub not_6213 : eqb number 6213 ≡ false
  pub not_6216 : eqb number 6216 ≡ false
  pub not_6220 : eqb number 6220 ≡ false
  pub not_6240 : eqb number 6240 ≡ false
  pub not_6241 : eqb number 6241 ≡ false

-- the cases of a type number
data KindOf : ℕ → Type 0 where
  connection_request : KindOf 6200
  connection_response : KindOf 6201
  retransmission_request : KindOf 6212
  retransmission_response : KindOf 6213
  disconnection_request : KindOf 6216
  heartbeat : KindOf 6220
  items_first : KindOf 6240
  items_again_sent : KindOf 6241
  other : {number : ℕ} → NoType number → KindOf number

kind_of : (number : ℕ) → KindOf number
kind_of number =
    elim (cases_eq number 6200) [
      | inl e ↦ subst KindOf (sym e) connection_request
      | inr n0 ↦
          elim (cases_eq number 6201) [
            | inl e ↦ subst KindOf (sym e) connection_response
            | inr n1 ↦
                elim (cases_eq number 6212) [
                  | inl e ↦ subst KindOf (sym e) retransmission_request
                  | inr n2 ↦
                      elim (cases_eq number 6213) [
                        | inl e ↦ subst KindOf (sym e) retransmission_response
                        | inr n3 ↦
                            elim (cases_eq number 6216) [
                              | inl e ↦ subst KindOf (sym e) disconnection_request
                              | inr n4 ↦
                                  elim (cases_eq number 6220) [
                                    | inl e ↦ subst KindOf (sym e) heartbeat
                                    | inr n5 ↦
                                        elim (cases_eq number 6240) [
                                          | inl e ↦ subst KindOf (sym e) items_first
                                          | inr n6 ↦
                                              elim (cases_eq number 6241) [
                                                | inl e ↦ subst KindOf (sym e) items_again_sent
                                                | inr n7 ↦
                                                    other (record {
                                                      not_6200 = ne_eqb number 6200 n0;
                                                      not_6201 = ne_eqb number 6201 n1;
                                                      not_6212 = ne_eqb number 6212 n2;
                                                      not_6213 = ne_eqb number 6213 n3;
                                                      not_6216 = ne_eqb number 6216 n4;
                                                      not_6220 = ne_eqb number 6220 n5;
                                                      not_6240 = ne_eqb number 6240 n6;
                                                      not_6241 = ne_eqb number 6241 n7;
                                                    })
                                              ]
                                        ]
                                  ]
                            ]
                      ]
                ]
          ]
    ]

other_bad : (number : ℕ) (bytes : List ℕ) → NoType number → body_of number bytes ≡ Err faults.BadType
unfolding body_of
other_bad number bytes none =
    rw (none.not_6200, none.not_6201, none.not_6212, none.not_6213, none.not_6216, none.not_6220, none.not_6240, none.not_6241) refl

-- ---- what is read is spelled so

pub record SpellsBody (number : ℕ) (bytes : List ℕ) (body : Body) : Type 0 where
  pub number_is : type_of body ≡ number
  pub spelled : bytes ≡ payload body
  pub fits : IsBody body

body_found_at : (number : ℕ) (bytes : List ℕ) (body : Body) → KindOf number → IsBytes bytes → body_of number bytes ≡ Ok body → SpellsBody number bytes body
unfolding body_of payload
body_found_at number bytes body connection_request fits e =
    let a = bind_ok (opening_of bytes) (λ opening. Ok (ConnectionRequest opening)) body e in
    let f = opening_found bytes a.0 fits a.1 in
    subst (SpellsBody 6200 bytes) (ok_is (ConnectionRequest a.0) body a.2) (record { number_is = refl; spelled = f.0; fits = f.1 })
body_found_at number bytes body connection_response fits e =
    let a = bind_ok (opening_of bytes) (λ opening. Ok (ConnectionResponse opening)) body e in
    let f = opening_found bytes a.0 fits a.1 in
    subst (SpellsBody 6201 bytes) (ok_is (ConnectionResponse a.0) body a.2) (record { number_is = refl; spelled = f.0; fits = f.1 })
body_found_at number bytes body retransmission_request fits e =
    let f = nothing_found RetransmissionRequest bytes body e in
    subst (SpellsBody 6212 bytes) f.1 (record { number_is = refl; spelled = f.0; fits = tt })
body_found_at number bytes body retransmission_response fits e =
    let f = nothing_found RetransmissionResponse bytes body e in
    subst (SpellsBody 6213 bytes) f.1 (record { number_is = refl; spelled = f.0; fits = tt })
body_found_at number bytes body disconnection_request fits e =
    let f = disconnection_found bytes body fits e in
    record { number_is = f.0; spelled = f.1; fits = f.2 }
body_found_at number bytes body heartbeat fits e =
    let f = nothing_found Heartbeat bytes body e in
    subst (SpellsBody 6220 bytes) f.1 (record { number_is = refl; spelled = f.0; fits = tt })
body_found_at number bytes body items_first fits e =
    let a = bind_ok (items_of bytes) (λ items. Ok (Data items)) body e in
    let f = items_found bytes a.0 fits a.1 in
    subst (SpellsBody 6240 bytes) (ok_is (Data a.0) body a.2) (record { number_is = refl; spelled = f.1; fits = f.0 })
body_found_at number bytes body items_again_sent fits e =
    let a = bind_ok (items_of bytes) (λ items. Ok (RetransmittedData items)) body e in
    let f = items_found bytes a.0 fits a.1 in
    subst (SpellsBody 6241 bytes) (ok_is (RetransmittedData a.0) body a.2) (record { number_is = refl; spelled = f.1; fits = f.0 })
body_found_at number bytes body (other none) fits e =
    let bad = other_bad number bytes none in
    absurd cc

pub body_found : (number : ℕ) (bytes : List ℕ) (body : Body) → IsBytes bytes → body_of number bytes ≡ Ok body → SpellsBody number bytes body
body_found number bytes body fits e = body_found_at number bytes body (kind_of number) fits e

-- ---- what is spelled so is read

pub body_again : (body : Body) → IsBody body → body_of (type_of body) (payload body) ≡ Ok body
unfolding body_of payload nothing_of
body_again (ConnectionRequest opening) is = ap (λ (r : Result Opening PduFault). r >>= λ opening. Ok (ConnectionRequest opening)) (opening_again opening is)
body_again (ConnectionResponse opening) is = ap (λ (r : Result Opening PduFault). r >>= λ opening. Ok (ConnectionResponse opening)) (opening_again opening is)
body_again RetransmissionRequest is = refl
body_again RetransmissionResponse is = refl
body_again (DisconnectionRequest detail reason) is = disconnection_again detail reason is.0 is.1
body_again Heartbeat is = refl
body_again (Data items) is = ap (λ (r : Result (List (List ℕ)) PduFault). r >>= λ items. Ok (Data items)) (items_again items is)
body_again (RetransmittedData items) is = ap (λ (r : Result (List (List ℕ)) PduFault). r >>= λ items. Ok (RetransmittedData items)) (items_again items is)

-- ---- the faults

abbrev pub IsBodyFault : ℕ → List ℕ → PduFault → Type 0
IsBodyFault number bytes faults.TooShort = ⊥
IsBodyFault number bytes faults.Length = ⊥
IsBodyFault number bytes faults.Code = ⊥
IsBodyFault number bytes faults.BadType = ((size : ℕ) → HasFixedPayload number size → ⊥) × (HasItems number → ⊥)
IsBodyFault number bytes faults.Body = (size : ℕ) × HasFixedPayload number size × (length bytes ≢ size)
IsBodyFault number bytes faults.Items = HasItems number × ((items : List (List ℕ)) → AreItems items → bytes ≢ flat_map item_bytes items)

not_fixed : (number size : ℕ) → NoType number → HasFixedPayload number size → ⊥
not_fixed number size none table.connection_request = false≢true (sym none.not_6200)
not_fixed number size none table.connection_response = false≢true (sym none.not_6201)
not_fixed number size none table.retransmission_request = false≢true (sym none.not_6212)
not_fixed number size none table.retransmission_response = false≢true (sym none.not_6213)
not_fixed number size none table.disconnection_request = false≢true (sym none.not_6216)
not_fixed number size none table.heartbeat = false≢true (sym none.not_6220)

not_items : (number : ℕ) → NoType number → HasItems number → ⊥
not_items number none table.data_type = false≢true (sym none.not_6240)
not_items number none table.retransmitted_data = false≢true (sym none.not_6241)

wrong_size : {A : Type 0} (number size : ℕ) (bytes : List ℕ) (x : A) (fault : PduFault) → HasFixedPayload number size → cond (not (eqb (length bytes) size)) (Err faults.Body) (Ok x) ≡ Err fault → IsBodyFault number bytes fault
wrong_size number size bytes x fault has e =
    let s = sized_err (eqb (length bytes) size) faults.Body fault x e in
    subst (IsBodyFault number bytes) (sym s.0) (size, has, eqb-false (length bytes) size s.1)

-- what a payload of 14 bytes is read as
abbrev opening_at : List ℕ → Opening
opening_at bytes = record { version = take 4 bytes; window = u16_at 4 bytes; reserved = drop 6 bytes }

no_items : (number : ℕ) (bytes : List ℕ) (fault : PduFault) → HasItems number → items_of bytes ≡ Err fault → IsBodyFault number bytes fault
no_items number bytes fault has e =
    subst (IsBodyFault number bytes) (sym (items_fault bytes fault e)) (has, λ items are spelled. let again = ap items_of spelled ∙ items_again items are in absurd cc)

body_fault_at : (number : ℕ) (bytes : List ℕ) (fault : PduFault) → KindOf number → body_of number bytes ≡ Err fault → IsBodyFault number bytes fault
unfolding body_of opening_of disconnection_of nothing_of
body_fault_at number bytes fault connection_request e =
    elim (bind_err (opening_of bytes) (λ opening. Ok (ConnectionRequest opening)) fault e) [
      | inl h ↦ wrong_size 6200 14 bytes (opening_at bytes) fault table.connection_request h
      | inr (opening, is, h) ↦ absurd cc
    ]
body_fault_at number bytes fault connection_response e =
    elim (bind_err (opening_of bytes) (λ opening. Ok (ConnectionResponse opening)) fault e) [
      | inl h ↦ wrong_size 6201 14 bytes (opening_at bytes) fault table.connection_response h
      | inr (opening, is, h) ↦ absurd cc
    ]
body_fault_at number bytes fault retransmission_request e = wrong_size 6212 0 bytes RetransmissionRequest fault table.retransmission_request e
body_fault_at number bytes fault retransmission_response e = wrong_size 6213 0 bytes RetransmissionResponse fault table.retransmission_response e
body_fault_at number bytes fault disconnection_request e = wrong_size 6216 4 bytes (DisconnectionRequest (u16_at 0 bytes) (u16_at 2 bytes)) fault table.disconnection_request e
body_fault_at number bytes fault heartbeat e = wrong_size 6220 0 bytes Heartbeat fault table.heartbeat e
body_fault_at number bytes fault items_first e =
    elim (bind_err (items_of bytes) (λ items. Ok (Data items)) fault e) [
      | inl h ↦ no_items 6240 bytes fault table.data_type h
      | inr (items, are, h) ↦ absurd cc
    ]
body_fault_at number bytes fault items_again_sent e =
    elim (bind_err (items_of bytes) (λ items. Ok (RetransmittedData items)) fault e) [
      | inl h ↦ no_items 6241 bytes fault table.retransmitted_data h
      | inr (items, are, h) ↦ absurd cc
    ]
body_fault_at number bytes fault (other none) e =
    let same : faults.BadType ≡ fault = err_is {A = Body} faults.BadType fault (sym (other_bad number bytes none) ∙ e) in
    subst (IsBodyFault number bytes) same (λ size. not_fixed number size none, not_items number none)

pub body_fault : (number : ℕ) (bytes : List ℕ) (fault : PduFault) → body_of number bytes ≡ Err fault → IsBodyFault number bytes fault
body_fault number bytes fault e = body_fault_at number bytes fault (kind_of number) e

-- and each fault is told where its test is the first to fail
bad_type_told : (number : ℕ) (bytes : List ℕ) → KindOf number → ((size : ℕ) → HasFixedPayload number size → ⊥) → (HasItems number → ⊥) → body_of number bytes ≡ Err faults.BadType
bad_type_told number bytes connection_request fixed items = absurd (fixed 14 table.connection_request)
bad_type_told number bytes connection_response fixed items = absurd (fixed 14 table.connection_response)
bad_type_told number bytes retransmission_request fixed items = absurd (fixed 0 table.retransmission_request)
bad_type_told number bytes retransmission_response fixed items = absurd (fixed 0 table.retransmission_response)
bad_type_told number bytes disconnection_request fixed items = absurd (fixed 4 table.disconnection_request)
bad_type_told number bytes heartbeat fixed items = absurd (fixed 0 table.heartbeat)
bad_type_told number bytes items_first fixed items = absurd (items table.data_type)
bad_type_told number bytes items_again_sent fixed items = absurd (items table.retransmitted_data)
bad_type_told number bytes (other none) fixed items = other_bad number bytes none

size_told : (number size : ℕ) (bytes : List ℕ) → HasFixedPayload number size → eqb (length bytes) size ≡ false → body_of number bytes ≡ Err faults.Body
unfolding body_of opening_of disconnection_of nothing_of
size_told number size bytes table.connection_request e = rw e refl
size_told number size bytes table.connection_response e = rw e refl
size_told number size bytes table.retransmission_request e = rw e refl
size_told number size bytes table.retransmission_response e = rw e refl
size_told number size bytes table.disconnection_request e = rw e refl
size_told number size bytes table.heartbeat e = rw e refl

no_items_at : (bytes : List ℕ) (read : Result (List (List ℕ)) PduFault) → IsBytes bytes → ((items : List (List ℕ)) → AreItems items → bytes ≢ flat_map item_bytes items) → items_of bytes ≡ read → items_of bytes ≡ Err faults.Items
no_items_at bytes (Ok items) fits none e = let f = items_found bytes items fits e in absurd (none items f.0 f.1)
no_items_at bytes (Err fault) fits none e = e ∙ ap (λ (f : PduFault). Err f) (items_fault bytes fault e)

items_told : (number : ℕ) (bytes : List ℕ) → HasItems number → items_of bytes ≡ Err faults.Items → body_of number bytes ≡ Err faults.Items
unfolding body_of
items_told number bytes table.data_type e = rw e refl
items_told number bytes table.retransmitted_data e = rw e refl

pub body_fault_told : (number : ℕ) (bytes : List ℕ) (fault : PduFault) → IsBytes bytes → IsBodyFault number bytes fault → body_of number bytes ≡ Err fault
body_fault_told number bytes faults.TooShort fits is = absurd is
body_fault_told number bytes faults.Length fits is = absurd is
body_fault_told number bytes faults.Code fits is = absurd is
body_fault_told number bytes faults.BadType fits is = bad_type_told number bytes (kind_of number) is.0 is.1
body_fault_told number bytes faults.Body fits is = size_told number is.0 bytes is.1 (ne_eqb (length bytes) is.0 is.2)
body_fault_told number bytes faults.Items fits is = items_told number bytes is.0 (no_items_at bytes (items_of bytes) fits is.1 refl)
