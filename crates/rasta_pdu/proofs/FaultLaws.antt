-- The fault that reading tells is the one whose test is the first to fail, and there is one wherever a test
-- fails.
use Rattle.std.proofs.Common.{◌≡◌, ◌≢◌, ℕ, ◌-◌, ◌≤◌, ◌<◌, true, false, ltb, eqb, List, length, drop, Result, Ok, Err, refl, sym, ap, subst, ◌∙◌, inl, inr}
use Rattle.std.specs.Str.{bytes_eq}
use Rattle.std.proofs.lemmas.Bool.{cases_Bool, lt-ltb, ltb-true, ltb-false, le-ltb, eq-eqb, eqb-true, eqb-false, ne_eqb, false_from_ne_true, false≢true}
use Rattle.std.proofs.lemmas.Slice.Eq.{bytes_eq-Decides}
use Rattle.rasta_pdu.specs.declared.fault.PduFault.{PduFault}
use Rattle.rasta_pdu.specs.declared.fault.PduFault.TheVariants as faults
use Rattle.rasta_pdu.specs.declared.key.Key.{Key}
use Rattle.rasta_pdu.specs.SafetyCode.{IsIntact, code, before_code, last_8, length_field}
use Rattle.rasta_pdu.specs.PduRead.{◌>>=◌, body_of, pdu_of, reading, text_of, u16_at, u32_at}
use Rattle.rasta_pdu.specs.Faults.{IsFault, type_field, payload_field}
use Rattle.rasta_pdu.proofs.Steps.{bind_err, err_is}
use Rattle.rasta_pdu.specs.Values.{IsBytes}
use Rattle.rasta_pdu.proofs.Bytes.{IsBytes-drop, IsBytes-take}
use Rattle.rasta_pdu.proofs.TypeLaws.{IsBodyFault, body_fault, body_fault_told}
use Rattle.rasta_pdu.proofs.CodecLaws.{text_found, reading_intact}

module _ (key : Key) (bytes : List ℕ) where
  -- ---- the three tests before the text

  short_told : length bytes < 36 → text_of key bytes ≡ Err faults.TooShort
  unfolding text_of
  short_told short = rw (lt-ltb _ _ short) refl

  length_told : 36 ≤ length bytes → length_field bytes ≢ length bytes → text_of key bytes ≡ Err faults.Length
  unfolding text_of
  length_told long wrong = rw (le-ltb _ _ long, ne_eqb _ _ wrong) refl

  code_told : 36 ≤ length bytes → length_field bytes ≡ length bytes → last_8 bytes ≢ code key (before_code bytes) → text_of key bytes ≡ Err faults.Code
  unfolding text_of
  code_told long right wrong =
      let differs : bytes_eq (last_8 bytes) (code key (before_code bytes)) ≡ false = false_from_ne_true _ (λ t. wrong ((bytes_eq-Decides (last_8 bytes) (code key (before_code bytes))).0 t)) in
      rw (le-ltb _ _ long, eq-eqb _ _ right, differs) refl

  intact_told : 36 ≤ length bytes → length_field bytes ≡ length bytes → bytes_eq (last_8 bytes) (code key (before_code bytes)) ≡ true → text_of key bytes ≡ Ok (before_code bytes)
  unfolding text_of
  intact_told long right same = rw (le-ltb _ _ long, eq-eqb _ _ right, same) refl

  told : (own fault : PduFault) → text_of key bytes ≡ Err own → text_of key bytes ≡ Err fault → own ≡ fault
  told own fault a b = err_is {A = List ℕ} own fault (sym a ∙ b)

  text_fault : (fault : PduFault) → text_of key bytes ≡ Err fault → IsFault key bytes fault
  text_fault fault e =
      elim (cases_Bool (ltb (length bytes) 36)) [
        | inl short ↦ let lt : length bytes < 36 = ltb-true _ _ short in subst (IsFault key bytes) (told faults.TooShort fault (short_told lt) e) lt
        | inr long ↦ let le : 36 ≤ length bytes = ltb-false _ _ long in
            elim (cases_Bool (eqb (length_field bytes) (length bytes))) [
              | inr wrong ↦ let ne : length_field bytes ≢ length bytes = eqb-false _ _ wrong in subst (IsFault key bytes) (told faults.Length fault (length_told le ne) e) (le, ne)
              | inl right ↦ let eq : length_field bytes ≡ length bytes = eqb-true _ _ right in
                  elim (cases_Bool (bytes_eq (last_8 bytes) (code key (before_code bytes)))) [
                    | inr differs ↦
                        let ne : last_8 bytes ≢ code key (before_code bytes) = λ h. false≢true (sym differs ∙ (bytes_eq-Decides (last_8 bytes) (code key (before_code bytes))).1 h) in
                        subst (IsFault key bytes) (told faults.Code fault (code_told le eq ne) e) (le, eq, ne)
                    | inl same ↦ let good = intact_told le eq same in absurd cc
                  ]
            ]
      ]

  -- ---- the faults of the text

  from_body : IsIntact key bytes → (fault : PduFault) → IsBodyFault (type_field bytes) (payload_field bytes) fault → IsFault key bytes fault
  from_body is faults.TooShort f = absurd f
  from_body is faults.Length f = absurd f
  from_body is faults.Code f = absurd f
  from_body is faults.BadType f = (is, f.0, f.1)
  from_body is faults.Body f = (is, f)
  from_body is faults.Items f = (is, f.0, f.1)

  pdu_fault : (front : List ℕ) (fault : PduFault) → pdu_of front ≡ Err fault → IsBodyFault (u16_at 2 front) (drop 28 front) fault
  unfolding pdu_of
  pdu_fault front fault e =
      elim (bind_err (body_of (u16_at 2 front) (drop 28 front)) (λ body. Ok (record { receiver = u32_at 4 front; sender = u32_at 8 front; sequence_number = u32_at 12 front; confirmed_sequence_number = u32_at 16 front; time_stamp = u32_at 20 front; confirmed_time_stamp = u32_at 24 front; body = body })) fault e) [
        | inl h ↦ body_fault (u16_at 2 front) (drop 28 front) fault h
        | inr (body, is, h) ↦ absurd cc
      ]

  pub reading_fault : (fault : PduFault) → reading key bytes ≡ Err fault → IsFault key bytes fault
  unfolding reading
  reading_fault fault e =
      elim (bind_err (text_of key bytes) pdu_of fault e) [
        | inl h ↦ text_fault fault h
        | inr (front, is, h) ↦
            let t = text_found key bytes front is in
            from_body t.0 fault (pdu_fault (before_code bytes) fault (ap pdu_of t.1 ∙ h))
      ]

  -- ---- each fault where its test is the first to fail

  from_text : (fault : PduFault) → text_of key bytes ≡ Err fault → reading key bytes ≡ Err fault
  unfolding reading
  from_text fault e = ap (λ (r : Result (List ℕ) PduFault). r >>= pdu_of) e

  from_type : IsBytes bytes → (fault : PduFault) → IsIntact key bytes → IsBodyFault (type_field bytes) (payload_field bytes) fault → reading key bytes ≡ Err fault
  unfolding pdu_of
  from_type fits fault is f =
      let front : IsBytes (before_code bytes) = IsBytes-take (length bytes - 8) bytes fits in
      let e = body_fault_told (type_field bytes) (payload_field bytes) fault (IsBytes-drop 28 (before_code bytes) front) f in
      reading_intact key bytes is ∙ rw e refl

  pub fault_told : IsBytes bytes → (fault : PduFault) → IsFault key bytes fault → reading key bytes ≡ Err fault
  fault_told fits faults.TooShort f = from_text faults.TooShort (short_told f)
  fault_told fits faults.Length f = from_text faults.Length (length_told f.0 f.1)
  fault_told fits faults.Code f = from_text faults.Code (code_told f.0 f.1 f.2)
  fault_told fits faults.BadType f = from_type fits faults.BadType f.0 (f.1, f.2)
  fault_told fits faults.Body f = from_type fits faults.Body f.0 f.1
  fault_told fits faults.Items f = from_type fits faults.Items f.0 (f.1, f.2)
