-- Which bytes are intact, as a fact, as a test, and as the first steps of reading.
use Rattle.std.proofs.Common.{◌≡◌, ℕ, Bool, true, false, not, cond, ltb, eqb, ◌&&◌, List, length, Result, Ok, Err, refl, sym, ◌∙◌}
use Rattle.std.specs.Prelude.{is_ok, ◌↔◌, IsTrue}
use Rattle.std.specs.Str.{bytes_eq}
use Rattle.std.proofs.lemmas.Bool.{eq-eqb, eqb-true, le-ltb, ltb-false, and_parts, not-true}
use Rattle.std.proofs.lemmas.Slice.Eq.{bytes_eq-Decides}
use Rattle.rasta_pdu.specs.declared.fault.PduFault.{PduFault}
use Rattle.rasta_pdu.specs.declared.fault.PduFault.TheVariants as faults
use Rattle.rasta_pdu.specs.declared.key.Key.{Key}
use Rattle.rasta_pdu.specs.SafetyCode.{IsIntact, intact, code, before_code, last_8, length_field}
use Rattle.rasta_pdu.specs.PduRead.{Gives, text_of}

-- a function that gives what reading gives succeeds where reading does
gives_is_ok : {X Y : Type 0} (view : X → Y) (r : Result X PduFault) (read : Result Y PduFault) → Gives view r read → is_ok r ≡ is_ok read
gives_is_ok view (Ok x) read e = rw e refl
gives_is_ok view (Err fault) read e = rw e refl

three_tests : {A : Type 0} (a b c : Bool) (x y z : PduFault) (t : A) → is_ok (cond a (Err x) (cond (not b) (Err y) (cond (not c) (Err z) (Ok t)))) ≡ (not a && b && c)
three_tests true b c x y z t = refl
three_tests false true true x y z t = refl
three_tests false true false x y z t = refl
three_tests false false c x y z t = refl

pub intact_reads : (key : Key) (bytes : List ℕ) → is_ok (text_of key bytes) ≡ intact key bytes
unfolding text_of intact
intact_reads key bytes = three_tests (ltb (length bytes) 36) (eqb (length_field bytes) (length bytes)) (bytes_eq (last_8 bytes) (code key (before_code bytes))) faults.TooShort faults.Length faults.Code (before_code bytes)

pub is_intact_value : {X : Type 0} (view : X → List ℕ) (r : Result X PduFault) (key : Key) (bytes : List ℕ) → Gives view r (text_of key bytes) → is_ok r ≡ intact key bytes
is_intact_value view r key bytes e = gives_is_ok view r (text_of key bytes) e ∙ intact_reads key bytes

-- the test is true exactly of intact bytes
pub IsIntact-from_test : (key : Key) (bytes : List ℕ) → intact key bytes ≡ true → IsIntact key bytes
unfolding intact
IsIntact-from_test key bytes e =
    let a = and_parts (not (ltb (length bytes) 36) && eqb (length_field bytes) (length bytes)) (bytes_eq (last_8 bytes) (code key (before_code bytes))) e in
    let b = and_parts (not (ltb (length bytes) 36)) (eqb (length_field bytes) (length bytes)) a.0 in
    record {
      long = ltb-false _ _ (not-true _ b.0);
      length_right = eqb-true _ _ b.1;
      code_right = (bytes_eq-Decides (last_8 bytes) (code key (before_code bytes))).0 a.1;
    }

module _ (key : Key) (bytes : List ℕ) (is : IsIntact key bytes) where
  pub intact_long : ltb (length bytes) 36 ≡ false
  intact_long = le-ltb _ _ is.long

  pub intact_length : eqb (length_field bytes) (length bytes) ≡ true
  intact_length = eq-eqb _ _ is.length_right

  pub intact_code : bytes_eq (last_8 bytes) (code key (before_code bytes)) ≡ true
  intact_code = (bytes_eq-Decides (last_8 bytes) (code key (before_code bytes))).1 is.code_right

  pub intact-true : intact key bytes ≡ true
  unfolding intact
  intact-true = rw (intact_long, intact_length, intact_code) refl

  -- the text of intact bytes
  pub text_of-intact : text_of key bytes ≡ Ok (before_code bytes)
  unfolding text_of
  text_of-intact = rw (intact_long, intact_length, intact_code) refl

pub intact_meaning : (key : Key) (bytes : List ℕ) (test : Bool) → test ≡ intact key bytes → IsTrue test ↔ IsIntact key bytes
intact_meaning key bytes test e = (λ t. IsIntact-from_test key bytes (sym e ∙ t), λ is. e ∙ intact-true key bytes is)
