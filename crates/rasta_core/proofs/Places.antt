-- Places in a flow that grows.
use Rattle.std.proofs.Common.{◌≡◌, ℕ, zero, suc, ◌+◌, ◌<◌, List, [], ◌∷◌, ◌++◌, length, ◌⊎◌, inl, inr, refl, sym, subst, ◌∙◌, arith}
use Rattle.rasta_core_spec.specs.pdu.Pdu.{Pdu}
use Rattle.rasta_core.specs.EndFlow.{IsAt}
use Rattle.rasta_core.specs.Order.{IsClosing, BeginsByResponse, OpensOn}

-- a place of what follows
abbrev pub IsAfter : ℕ → Pdu → List Pdu → List Pdu → Type 0
IsAfter place pdu flow more = (next : ℕ) × (place ≡ length flow + next) × IsAt next pdu more

next_after : (first : Pdu) (place : ℕ) (pdu : Pdu) (flow more : List Pdu) → IsAfter place pdu flow more → IsAfter (suc place) pdu (first ∷ flow) more
next_after first place pdu flow more (next, is, here) = (next, omega arith, here)

pub split : (place : ℕ) (pdu : Pdu) (flow more : List Pdu) → IsAt place pdu (flow ++ more) → IsAt place pdu flow ⊎ IsAfter place pdu flow more
split place pdu [] more at = inr (place, omega arith, at)
split zero pdu (first ∷ flow) more at = inl at
split (suc place) pdu (first ∷ flow) more at = elim (split place pdu flow more at) [ inl old ↦ inl old | inr new ↦ inr (next_after first place pdu flow more new) ]

pub within : (place : ℕ) (pdu : Pdu) (flow : List Pdu) → IsAt place pdu flow → place < length flow
within place pdu [] at = elim at [ ]
within zero pdu (first ∷ flow) at = omega arith
within (suc place) pdu (first ∷ flow) at = omega (arith, within place pdu flow at)

pub only_one : (place : ℕ) (pdu one : Pdu) → IsAt place pdu (one ∷ []) → (place ≡ 0) × (one ≡ pdu)
only_one zero pdu one at = (refl, at)
only_one (suc place) pdu one at = elim at [ ]

-- one PDU stands at a place
pub same_at : (place : ℕ) (one other : Pdu) (flow : List Pdu) → IsAt place one flow → IsAt place other flow → one ≡ other
same_at place one other [] a b = elim a [ ]
same_at zero one other (first ∷ flow) a b = sym a ∙ b
same_at (suc place) one other (first ∷ flow) a b = same_at place one other flow a b

pub first_is : (first pdu : Pdu) (flow : List Pdu) → IsAt 0 pdu (first ∷ flow) → first ≡ pdu
first_is first pdu flow at = at

-- a place stays in a flow that grows
pub stays_at : (place : ℕ) (pdu : Pdu) (flow more : List Pdu) → IsAt place pdu flow → IsAt place pdu (flow ++ more)
stays_at place pdu [] more at = elim at [ ]
stays_at zero pdu (first ∷ flow) more at = at
stays_at (suc place) pdu (first ∷ flow) more at = stays_at place pdu flow more at

-- a flow goes on
pub begins_before : (flow more : List Pdu) → 0 < length flow → BeginsByResponse (flow ++ more) → BeginsByResponse flow
begins_before flow more some (pdu, at, is) = elim (split 0 pdu flow more at) [ inl old ↦ (pdu, old, is) | inr new ↦ absurd (later new) ]
  where
    later : IsAfter 0 pdu flow more → ⊥
    later (next, here, there) = omega (arith, here, some)

pub begins_after : (flow more : List Pdu) → BeginsByResponse flow → BeginsByResponse (flow ++ more)
begins_after flow more (pdu, at, is) = (pdu, stays_at 0 pdu flow more at, is)

pub opens_before : (flow more : List Pdu) → OpensOn (flow ++ more) → OpensOn flow
opens_before flow more opens pdu at is = opens pdu (stays_at 1 pdu flow more at) is

pub opens_after : (flow more : List Pdu) → 1 < length flow → OpensOn flow → OpensOn (flow ++ more)
opens_after flow more two opens pdu at is = elim (split 1 pdu flow more at) [ inl old ↦ opens pdu old is | inr new ↦ later new ]
  where
    later : IsAfter 1 pdu flow more → ⊥
    later (next, here, there) = omega (arith, here, two)

-- none of these closes
abbrev pub CloseNothing : List Pdu → Type 0
CloseNothing more = (place : ℕ) (pdu : Pdu) → IsAt place pdu more → IsClosing pdu.body → ⊥

pub opens_more : (flow more : List Pdu) → OpensOn flow → CloseNothing more → OpensOn (flow ++ more)
opens_more flow more opens none pdu at is = elim (split 1 pdu flow more at) [ inl old ↦ opens pdu old is | inr new ↦ later new ]
  where
    later : IsAfter 1 pdu flow more → ⊥
    later (next, here, there) = none next pdu there is

pub close_one : (pdu : Pdu) → (IsClosing pdu.body → ⊥) → CloseNothing (pdu ∷ [])
close_one pdu none place that at is = none (subst (λ (p : Pdu). IsClosing p.body) (sym (only_one place that pdu at).1) is)

pub short : (flow : List Pdu) → length flow ≡ 1 → OpensOn flow
short flow one pdu at is = omega (arith, one, within 1 pdu flow at)
