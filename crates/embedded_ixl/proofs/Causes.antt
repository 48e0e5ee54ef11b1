-- A call is refused where its cause is there, and only there.
use Rattle.std.proofs.Common.{◌≡◌, ℕ, ◌+◌, ◌<◌, Bool, true, false, Option, Some, None, Result, Ok, Err, nat_le, nat_lt, refl, arith, subst}
use Rattle.std.specs.Prelude.{if◌then◌else◌, is_ok}
use Rattle.std.proofs.lemmas.Bool.{leb-false, ltb-true, lt-ltb}
use Rattle.embedded_ixl.specs.Calls.{Call, Hears, Ticks, Obeys, FindsEmpty, Takes, answer_to}
use Rattle.embedded_ixl.specs.Causes.{HasCause, reading_in}
use Rattle.embedded_ixl.specs.Embedded.{EmbeddedIxlState, is_recent}
use Rattle.embedded_ixl.specs.declared.call_refusal.CallRefusal.{CallRefusal}
use Rattle.embedded_ixl.specs.declared.call_refusal.CallRefusal.TheVariants.{ClockFell, TooSoon, TooOld}

abbrev Answer : Type 0
Answer = Result (Unit {0}) CallRefusal

-- the first that holds of three
data First (fallen quiet recent : Bool) : CallRefusal → Type 0 where
  first : fallen ≡ true → First fallen quiet recent ClockFell
  second : quiet ≡ true → First fallen quiet recent TooSoon
  third : recent ≡ false → First fallen quiet recent TooOld

err_is : (one other : CallRefusal) → (let r : Answer = Err one in r) ≡ Err other → one ≡ other
err_is one other e = cc

of_three : (fallen quiet recent : Bool) (why : CallRefusal) → (let r : Answer = if fallen then Err ClockFell else if quiet then Err TooSoon else if recent then Ok tt else Err TooOld in r) ≡ Err why → First fallen quiet recent why
of_three true quiet recent why e = subst (λ (r : CallRefusal). First true quiet recent r) (err_is ClockFell why e) (first refl)
of_three false true recent why e = subst (λ (r : CallRefusal). First false true recent r) (err_is TooSoon why e) (second refl)
of_three false false true why e = cc
of_three false false false why e = subst (λ (r : CallRefusal). First false false false r) (err_is TooOld why e) (third refl)

of_two : (fallen quiet : Bool) (why : CallRefusal) → (let r : Answer = if fallen then Err ClockFell else if quiet then Err TooSoon else Ok tt in r) ≡ Err why → First fallen quiet true why
of_two true quiet why e = subst (λ (r : CallRefusal). First true quiet true r) (err_is ClockFell why e) (first refl)
of_two false true why e = subst (λ (r : CallRefusal). First false true true r) (err_is TooSoon why e) (second refl)
of_two false false why e = cc

of_one : (fallen : Bool) (why : CallRefusal) → (let r : Answer = if fallen then Err ClockFell else Ok tt in r) ≡ Err why → First fallen false true why
of_one true why e = subst (λ (r : CallRefusal). First true false true r) (err_is ClockFell why e) (first refl)
of_one false why e = cc

some_is : (one other : ℕ) → Some one ≡ Some other → one ≡ other
some_is one other e = cc

not_recent : (now : ℕ) (empty : Option ℕ) → is_recent now empty ≡ false → (before : ℕ) → empty ≡ Some before → before + 400 < now
not_recent now None e before is = cc
not_recent now (Some empty) e before is = subst (λ (reading : ℕ). reading + 400 < now) (some_is empty before is) (leb-false now (empty + 400) e)

not_le : (a b : ℕ) → b < a → nat_le a b ≡ false
not_le a b e = grind arith

none_recent : (now : ℕ) (empty : Option ℕ) → ((before : ℕ) → empty ≡ Some before → before + 400 < now) → is_recent now empty ≡ false
none_recent now None all = refl
none_recent now (Some empty) all = not_le now (empty + 400) (all empty refl)

-- where one of them holds it is refused
fallen_refuses : (fallen : Bool) (then_answer : Answer) → fallen ≡ true → is_ok (let r : Answer = if fallen then Err ClockFell else then_answer in r) ≡ false
fallen_refuses true then_answer e = refl
fallen_refuses false then_answer e = cc

quiet_refuses : (fallen quiet : Bool) (then_answer : Answer) → quiet ≡ true → is_ok (let r : Answer = if fallen then Err ClockFell else if quiet then Err TooSoon else then_answer in r) ≡ false
quiet_refuses true quiet then_answer e = refl
quiet_refuses false true then_answer e = refl
quiet_refuses false false then_answer e = cc

old_refuses : (fallen quiet recent : Bool) → recent ≡ false → is_ok (let r : Answer = if fallen then Err ClockFell else if quiet then Err TooSoon else if recent then Ok tt else Err TooOld in r) ≡ false
old_refuses true quiet recent e = refl
old_refuses false true recent e = refl
old_refuses false false true e = cc
old_refuses false false false e = refl

module _ (it : EmbeddedIxlState) where
  -- a call that only brings a reading
  of_reading : (call : Call) (why : CallRefusal) → First (nat_lt (reading_in call) it.latest) false true why → HasCause why call it
  of_reading call ClockFell (first e) = ltb-true (reading_in call) it.latest e
  of_reading call TooSoon (second e) = cc
  of_reading call TooOld (third e) = cc

  of_bytes : (now : ℕ) (bytes : _) (why : CallRefusal) → First (nat_lt now it.latest) (nat_lt now (it.begun + 2000)) (is_recent now it.empty) why → HasCause why (Hears now bytes) it
  of_bytes now bytes ClockFell (first e) = ltb-true now it.latest e
  of_bytes now bytes TooSoon (second e) = (tt, ltb-true now (it.begun + 2000) e)
  of_bytes now bytes TooOld (third e) = (tt, not_recent now it.empty e)

  of_next : (now : ℕ) (why : CallRefusal) → First (nat_lt now it.latest) (nat_lt now (it.begun + 2000)) true why → HasCause why (Takes now) it
  of_next now ClockFell (first e) = ltb-true now it.latest e
  of_next now TooSoon (second e) = (tt, ltb-true now (it.begun + 2000) e)
  of_next now TooOld (third e) = cc

  pub has_cause : (call : Call) (why : CallRefusal) → answer_to call it ≡ Err why → HasCause why call it
  has_cause (Hears now bytes) why e = of_bytes now bytes why (of_three (nat_lt now it.latest) (nat_lt now (it.begun + 2000)) (is_recent now it.empty) why e)
  has_cause (Ticks now) why e = of_reading (Ticks now) why (of_one (nat_lt now it.latest) why e)
  has_cause (Obeys now command) why e = of_reading (Obeys now command) why (of_one (nat_lt now it.latest) why e)
  has_cause (FindsEmpty now) why e = of_reading (FindsEmpty now) why (of_one (nat_lt now it.latest) why e)
  has_cause (Takes now) why e = of_next now why (of_two (nat_lt now it.latest) (nat_lt now (it.begun + 2000)) why e)

  pub refuses : (call : Call) (why : CallRefusal) → HasCause why call it → is_ok (answer_to call it) ≡ false
  refuses (Hears now bytes) ClockFell cause = fallen_refuses (nat_lt now it.latest) _ (lt-ltb now it.latest cause)
  refuses (Ticks now) ClockFell cause = fallen_refuses (nat_lt now it.latest) _ (lt-ltb now it.latest cause)
  refuses (Obeys now command) ClockFell cause = fallen_refuses (nat_lt now it.latest) _ (lt-ltb now it.latest cause)
  refuses (FindsEmpty now) ClockFell cause = fallen_refuses (nat_lt now it.latest) _ (lt-ltb now it.latest cause)
  refuses (Takes now) ClockFell cause = fallen_refuses (nat_lt now it.latest) _ (lt-ltb now it.latest cause)
  refuses (Hears now bytes) TooSoon cause = quiet_refuses (nat_lt now it.latest) (nat_lt now (it.begun + 2000)) _ (lt-ltb now (it.begun + 2000) cause.1)
  refuses (Ticks now) TooSoon cause = absurd cause.0
  refuses (Obeys now command) TooSoon cause = absurd cause.0
  refuses (FindsEmpty now) TooSoon cause = absurd cause.0
  refuses (Takes now) TooSoon cause = quiet_refuses (nat_lt now it.latest) (nat_lt now (it.begun + 2000)) _ (lt-ltb now (it.begun + 2000) cause.1)
  refuses (Hears now bytes) TooOld cause = old_refuses (nat_lt now it.latest) (nat_lt now (it.begun + 2000)) (is_recent now it.empty) (none_recent now it.empty cause.1)
  refuses (Ticks now) TooOld cause = absurd cause.0
  refuses (Obeys now command) TooOld cause = absurd cause.0
  refuses (FindsEmpty now) TooOld cause = absurd cause.0
  refuses (Takes now) TooOld cause = absurd cause.0
