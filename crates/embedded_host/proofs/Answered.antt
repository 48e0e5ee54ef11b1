-- What an accepted call was looked at for.
use Rattle.std.proofs.Common.{◌≡◌, ℕ, ◌+◌, ◌≤◌, Bool, true, false, Result, Ok, Err, nat_lt, refl}
use Rattle.std.specs.Prelude.{is_ok, if◌then◌else◌}
use Rattle.std.proofs.lemmas.Bool.{ltb-false}
use Rattle.embedded_host.specs.Embedded.{EmbeddedState, answer_to_bytes, answer_to_next, answer_to_reading, is_recent}
use Rattle.embedded_host.specs.declared.refusal.Refusal.{Refusal}
use Rattle.embedded_host.specs.declared.refusal.Refusal.TheVariants.{ClockFell, TooSoon, TooOld, NotInForce}

abbrev Answer : Type 0
Answer = Result (Unit {0}) Refusal

one_test : (fallen : Bool) → is_ok (let r : Answer = if fallen then Err ClockFell else Ok tt in r) ≡ true → fallen ≡ false
one_test true e = cc
one_test false e = refl

three_tests : (fallen quiet last : Bool) (why : Refusal) → is_ok (let r : Answer = if fallen then Err ClockFell else if quiet then Err TooSoon else if last then Ok tt else Err why in r) ≡ true
    → (fallen ≡ false) × (quiet ≡ false) × (last ≡ true)
three_tests true quiet last why e = cc
three_tests false true last why e = cc
three_tests false false true why e = (refl, refl, refl)
three_tests false false false why e = cc

pub is_accepted : (answer : Result (Unit {0}) Refusal) → is_ok answer ≡ true → answer ≡ Ok tt
is_accepted (Ok t) e = refl
is_accepted (Err why) e = cc

module _ {Object : Type 0} (now : ℕ) (it : EmbeddedState Object) where
  pub reading_accepted : is_ok (answer_to_reading now it) ≡ true → it.latest ≤ now
  reading_accepted e = ltb-false now it.latest (one_test (nat_lt now it.latest) e)

  pub bytes_accepted : is_ok (answer_to_bytes now it) ≡ true → (it.latest ≤ now) × (it.begun + 2000 ≤ now) × (is_recent now it.empty ≡ true)
  bytes_accepted e =
      let tests = three_tests (nat_lt now it.latest) (nat_lt now (it.begun + 2000)) (is_recent now it.empty) TooOld e
      in (ltb-false now it.latest tests.0, ltb-false now (it.begun + 2000) tests.1, tests.2)

  pub next_accepted : is_ok (answer_to_next now it) ≡ true → (it.latest ≤ now) × (it.begun + 2000 ≤ now) × (it.in_force ≡ true)
  next_accepted e =
      let tests = three_tests (nat_lt now it.latest) (nat_lt now (it.begun + 2000)) it.in_force NotInForce e
      in (ltb-false now it.latest tests.0, ltb-false now (it.begun + 2000) tests.1, tests.2)
