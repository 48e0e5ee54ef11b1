-- What an accepted call was looked at for.
use Rattle.std.proofs.Common.{◌≡◌, ℕ, ◌+◌, ◌≤◌, Bool, true, false, Result, Ok, Err, nat_lt, refl}
use Rattle.std.specs.Prelude.{is_ok, if◌then◌else◌}
use Rattle.std.proofs.lemmas.Bool.{ltb-false}
use Rattle.embedded_ixl.specs.Embedded.{EmbeddedIxlState, answer_to_bytes, answer_to_next, answer_to_reading, is_recent}
use Rattle.embedded_ixl.specs.declared.call_refusal.CallRefusal.{CallRefusal}
use Rattle.embedded_ixl.specs.declared.call_refusal.CallRefusal.TheVariants.{ClockFell, TooSoon, TooOld}

abbrev Answer : Type 0
Answer = Result (Unit {0}) CallRefusal

one_test : (fallen : Bool) → is_ok (let r : Answer = if fallen then Err ClockFell else Ok tt in r) ≡ true → fallen ≡ false
one_test true e = cc
one_test false e = refl

two_tests : (fallen quiet : Bool) → is_ok (let r : Answer = if fallen then Err ClockFell else if quiet then Err TooSoon else Ok tt in r) ≡ true → (fallen ≡ false) × (quiet ≡ false)
two_tests true quiet e = cc
two_tests false true e = cc
two_tests false false e = (refl, refl)

three_tests : (fallen quiet last : Bool) (why : CallRefusal) → is_ok (let r : Answer = if fallen then Err ClockFell else if quiet then Err TooSoon else if last then Ok tt else Err why in r) ≡ true
    → (fallen ≡ false) × (quiet ≡ false) × (last ≡ true)
three_tests true quiet last why e = cc
three_tests false true last why e = cc
three_tests false false true why e = (refl, refl, refl)
three_tests false false false why e = cc

pub is_accepted : (answer : Result (Unit {0}) CallRefusal) → is_ok answer ≡ true → answer ≡ Ok tt
is_accepted (Ok t) e = refl
is_accepted (Err why) e = cc

module _ (now : ℕ) (it : EmbeddedIxlState) where
  pub reading_accepted : is_ok (answer_to_reading now it) ≡ true → it.latest ≤ now
  reading_accepted e = ltb-false now it.latest (one_test (nat_lt now it.latest) e)

  pub bytes_accepted : is_ok (answer_to_bytes now it) ≡ true → (it.latest ≤ now) × (it.begun + 2000 ≤ now) × (is_recent now it.empty ≡ true)
  bytes_accepted e =
      let tests = three_tests (nat_lt now it.latest) (nat_lt now (it.begun + 2000)) (is_recent now it.empty) TooOld e
      in (ltb-false now it.latest tests.0, ltb-false now (it.begun + 2000) tests.1, tests.2)

  pub next_accepted : is_ok (answer_to_next now it) ≡ true → (it.latest ≤ now) × (it.begun + 2000 ≤ now)
  next_accepted e =
      let tests = two_tests (nat_lt now it.latest) (nat_lt now (it.begun + 2000)) e
      in (ltb-false now it.latest tests.0, ltb-false now (it.begun + 2000) tests.1)
