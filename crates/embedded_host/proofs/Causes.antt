-- A call is refused where its cause is there, and only there.
use Rattle.std.proofs.Common.{◌≡◌, ℕ, ◌+◌, ◌<◌, Bool, true, false, Option, Some, None, Result, Ok, Err, nat_le, nat_lt, refl, sym, arith, subst}
use Rattle.std.specs.Prelude.{if◌then◌else◌, is_ok}
use Rattle.std.proofs.lemmas.Bool.{leb-false, ltb-true, lt-ltb}
use Rattle.embedded_host.specs.Calls.{Call, Hears, Ticks, Senses, FindsEmpty, AsksOrder, Done, Takes, answer_to}
use Rattle.embedded_host.specs.Causes.{Brings, HasCause}
use Rattle.embedded_host.specs.Embedded.{EmbeddedState, answer_to_reading, is_recent}
use Rattle.embedded_host.specs.declared.refusal.Refusal.{Refusal}
use Rattle.embedded_host.specs.declared.refusal.Refusal.TheVariants.{ClockFell, TooSoon, TooOld, NotInForce}

abbrev Answer : Type 0
Answer = Result (Unit {0}) Refusal

-- the first that holds of three
data First (fallen quiet last : Bool) (last_why : Refusal) : Refusal → Type 0 where
  first : fallen ≡ true → First fallen quiet last last_why ClockFell
  second : quiet ≡ true → First fallen quiet last last_why TooSoon
  third : last ≡ false → First fallen quiet last last_why last_why

err_is : (one other : Refusal) → (let r : Answer = Err one in r) ≡ Err other → one ≡ other
err_is one other e = cc

of_three : (fallen quiet last : Bool) (last_why why : Refusal) → (let r : Answer = if fallen then Err ClockFell else if quiet then Err TooSoon else if last then Ok tt else Err last_why in r) ≡ Err why → First fallen quiet last last_why why
of_three true quiet last last_why why e = subst (λ (r : Refusal). First true quiet last last_why r) (err_is ClockFell why e) (first refl)
of_three false true last last_why why e = subst (λ (r : Refusal). First false true last last_why r) (err_is TooSoon why e) (second refl)
of_three false false true last_why why e = cc
of_three false false false last_why why e = subst (λ (r : Refusal). First false false false last_why r) (err_is last_why why e) (third refl)

of_one : (fallen : Bool) (why : Refusal) → (let r : Answer = if fallen then Err ClockFell else Ok tt in r) ≡ Err why → (fallen ≡ true) × (ClockFell ≡ why)
of_one true why e = (refl, err_is ClockFell why e)
of_one false why e = cc

some_is : (one other : ℕ) → Some one ≡ Some other → one ≡ other
some_is one other e = cc

not_recent : (now : ℕ) (empty : Option ℕ) → is_recent now empty ≡ false → (before : ℕ) → empty ≡ Some before → before + 400 < now
not_recent now None e before is = cc
not_recent now (Some empty) e before is = subst (λ (reading : ℕ). reading + 400 < now) (some_is empty before is) (leb-false now (empty + 400) e)

not_le : (a b : ℕ) → b < a → nat_le a b ≡ false
not_le a b e = grind arith

-- where one of them holds it is refused
fallen_refuses : (fallen : Bool) (then_answer : Answer) → fallen ≡ true → is_ok (let r : Answer = if fallen then Err ClockFell else then_answer in r) ≡ false
fallen_refuses true then_answer e = refl
fallen_refuses false then_answer e = cc

quiet_refuses : (fallen quiet : Bool) (then_answer : Answer) → quiet ≡ true → is_ok (let r : Answer = if fallen then Err ClockFell else if quiet then Err TooSoon else then_answer in r) ≡ false
quiet_refuses true quiet then_answer e = refl
quiet_refuses false true then_answer e = refl
quiet_refuses false false then_answer e = cc

last_refuses : (fallen quiet last : Bool) (why : Refusal) → last ≡ false → is_ok (let r : Answer = if fallen then Err ClockFell else if quiet then Err TooSoon else if last then Ok tt else Err why in r) ≡ false
last_refuses true quiet last why e = refl
last_refuses false true last why e = refl
last_refuses false false true why e = cc
last_refuses false false false why e = refl

none_recent : (now : ℕ) (empty : Option ℕ) → ((before : ℕ) → empty ≡ Some before → before + 400 < now) → is_recent now empty ≡ false
none_recent now None all = refl
none_recent now (Some empty) all = not_le now (empty + 400) (all empty refl)

module _ {Object : Type 0} (it : EmbeddedState Object) where
  of_reading : (call : Call) (now : ℕ) → Brings call now → (why : Refusal) → answer_to_reading now it ≡ Err why → HasCause why call it
  of_reading call now brings why e =
      let one = of_one (nat_lt now it.latest) why e
      in subst (λ (r : Refusal). HasCause r call it) one.1 (now, brings, ltb-true now it.latest one.0)

  of_bytes : (now : ℕ) (bytes : _) (why : Refusal) → First (nat_lt now it.latest) (nat_lt now (it.begun + 2000)) (is_recent now it.empty) TooOld why → HasCause why (Hears now bytes) it
  of_bytes now bytes ClockFell (first e) = (now, refl, ltb-true now it.latest e)
  of_bytes now bytes TooSoon (second e) = (now, refl, tt, ltb-true now (it.begun + 2000) e)
  of_bytes now bytes NotInForce none = elim none [ ]
  of_bytes now bytes TooOld (third e) = (now, refl, tt, not_recent now it.empty e)

  of_next : (now : ℕ) (why : Refusal) → First (nat_lt now it.latest) (nat_lt now (it.begun + 2000)) it.in_force NotInForce why → HasCause why (Takes now) it
  of_next now ClockFell (first e) = (now, refl, ltb-true now it.latest e)
  of_next now TooSoon (second e) = (now, refl, tt, ltb-true now (it.begun + 2000) e)
  of_next now TooOld none = elim none [ ]
  of_next now NotInForce (third e) = (tt, e)

  pub has_cause : (call : Call) (why : Refusal) → answer_to call it ≡ Err why → HasCause why call it
  has_cause (Hears now bytes) why e = of_bytes now bytes why (of_three (nat_lt now it.latest) (nat_lt now (it.begun + 2000)) (is_recent now it.empty) TooOld why e)
  has_cause (Ticks now) why e = of_reading (Ticks now) now refl why e
  has_cause (Senses now sense) why e = of_reading (Senses now sense) now refl why e
  has_cause (FindsEmpty now) why e = of_reading (FindsEmpty now) now refl why e
  has_cause (AsksOrder now) why e = of_reading (AsksOrder now) now refl why e
  has_cause Done why e = cc
  has_cause (Takes now) why e = of_next now why (of_three (nat_lt now it.latest) (nat_lt now (it.begun + 2000)) it.in_force NotInForce why e)

  fell : (now reading : ℕ) → now ≡ reading → reading < it.latest → nat_lt now it.latest ≡ true
  fell now reading is before = lt-ltb now it.latest (subst (λ (n : ℕ). n < it.latest) (sym is) before)

  soon : (now reading : ℕ) → now ≡ reading → reading < it.begun + 2000 → nat_lt now (it.begun + 2000) ≡ true
  soon now reading is before = lt-ltb now (it.begun + 2000) (subst (λ (n : ℕ). n < it.begun + 2000) (sym is) before)

  pub refuses : (call : Call) (why : Refusal) → HasCause why call it → is_ok (answer_to call it) ≡ false
  refuses (Hears now bytes) ClockFell cause = fallen_refuses (nat_lt now it.latest) _ (fell now cause.0 cause.1 cause.2)
  refuses (Ticks now) ClockFell cause = fallen_refuses (nat_lt now it.latest) _ (fell now cause.0 cause.1 cause.2)
  refuses (Senses now sense) ClockFell cause = fallen_refuses (nat_lt now it.latest) _ (fell now cause.0 cause.1 cause.2)
  refuses (FindsEmpty now) ClockFell cause = fallen_refuses (nat_lt now it.latest) _ (fell now cause.0 cause.1 cause.2)
  refuses (AsksOrder now) ClockFell cause = fallen_refuses (nat_lt now it.latest) _ (fell now cause.0 cause.1 cause.2)
  refuses Done ClockFell cause = absurd cause.1
  refuses (Takes now) ClockFell cause = fallen_refuses (nat_lt now it.latest) _ (fell now cause.0 cause.1 cause.2)
  refuses (Hears now bytes) TooSoon cause = quiet_refuses (nat_lt now it.latest) (nat_lt now (it.begun + 2000)) _ (soon now cause.0 cause.1 cause.3)
  refuses (Ticks now) TooSoon cause = absurd cause.2
  refuses (Senses now sense) TooSoon cause = absurd cause.2
  refuses (FindsEmpty now) TooSoon cause = absurd cause.2
  refuses (AsksOrder now) TooSoon cause = absurd cause.2
  refuses Done TooSoon cause = absurd cause.2
  refuses (Takes now) TooSoon cause = quiet_refuses (nat_lt now it.latest) (nat_lt now (it.begun + 2000)) _ (soon now cause.0 cause.1 cause.3)
  refuses (Hears now bytes) TooOld cause = last_refuses (nat_lt now it.latest) (nat_lt now (it.begun + 2000)) (is_recent now it.empty) TooOld
      (none_recent now it.empty (λ before is. subst (λ (n : ℕ). before + 400 < n) (sym cause.1) (cause.3 before is)))
  refuses (Ticks now) TooOld cause = absurd cause.2
  refuses (Senses now sense) TooOld cause = absurd cause.2
  refuses (FindsEmpty now) TooOld cause = absurd cause.2
  refuses (AsksOrder now) TooOld cause = absurd cause.2
  refuses Done TooOld cause = absurd cause.2
  refuses (Takes now) TooOld cause = absurd cause.2
  refuses (Hears now bytes) NotInForce cause = absurd cause.0
  refuses (Ticks now) NotInForce cause = absurd cause.0
  refuses (Senses now sense) NotInForce cause = absurd cause.0
  refuses (FindsEmpty now) NotInForce cause = absurd cause.0
  refuses (AsksOrder now) NotInForce cause = absurd cause.0
  refuses Done NotInForce cause = absurd cause.0
  refuses (Takes now) NotInForce cause = last_refuses (nat_lt now it.latest) (nat_lt now (it.begun + 2000)) it.in_force NotInForce cause.1
