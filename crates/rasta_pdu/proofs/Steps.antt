-- Steps of reading that gave a value, and tests that passed.
use Rattle.std.proofs.Common.{◌≡◌, ◌⊎◌, Bool, true, false, not, cond, Result, Ok, Err, refl, sym, ap, inl, inr}
use Rattle.rasta_pdu.specs.declared.fault.PduFault.{PduFault}
use Rattle.rasta_pdu.specs.PduRead.{◌>>=◌}

-- the value of a step that did not fail
pub bind_ok : {A B : Type 0} (r : Result A PduFault) (f : A → Result B PduFault) (y : B) → (r >>= f) ≡ Ok y → (x : A) × (r ≡ Ok x) × (f x ≡ Ok y)
bind_ok (Ok x) f y e = (x, refl, e)
bind_ok (Err fault) f y e = absurd cc

-- a test that did not fail
pub guard_ok : {A : Type 0} (b : Bool) (fault : PduFault) (r : Result A PduFault) (y : A) → cond b (Err fault) r ≡ Ok y → (b ≡ false) × (r ≡ Ok y)
guard_ok true fault r y e = absurd cc
guard_ok false fault r y e = (refl, e)

abbrev done : {A : Type 0} → A → Result A PduFault
done x = Ok x

pub ok_is : {A : Type 0} (x y : A) → done x ≡ done y → x ≡ y
ok_is x y e = cc

abbrev failed : {A : Type 0} → PduFault → Result A PduFault
failed fault = Err fault

pub err_is : {A : Type 0} (x y : PduFault) → failed {A = A} x ≡ failed {A = A} y → x ≡ y
err_is x y e = cc

-- where a fault came from
pub bind_err : {A B : Type 0} (r : Result A PduFault) (f : A → Result B PduFault) (fault : PduFault) → (r >>= f) ≡ Err fault → (r ≡ Err fault) ⊎ ((x : A) × (r ≡ Ok x) × (f x ≡ Err fault))
bind_err (Ok x) f fault e = inr (x, refl, e)
bind_err (Err d) f fault e = inl (ap (λ (d : PduFault). Err d) (err_is d fault e))

-- a test that failed, where nothing else does
pub guard_err : {A : Type 0} (b : Bool) (own fault : PduFault) (x : A) → cond b (Err own) (Ok x) ≡ Err fault → fault ≡ own
guard_err true own fault x e = sym (err_is own fault e)
guard_err false own fault x e = absurd cc

-- a payload that has not the length of its type
pub sized_err : {A : Type 0} (b : Bool) (own fault : PduFault) (x : A) → cond (not b) (Err own) (Ok x) ≡ Err fault → (fault ≡ own) × (b ≡ false)
sized_err {A} true own fault x e = absurd cc
sized_err {A} false own fault x e = (sym (err_is {A = A} own fault e), refl)
