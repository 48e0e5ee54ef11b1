-- Calls one after another.
use Rattle.std.proofs.Common.{◌≡◌, ◌≤◌, ℕ, List, [], ◌∷◌, ◌++◌, Option, Some, None, refl, sym, ap, ◌∙◌, subst, append_assoc, append-nil, arith}
use Rattle.node_drive.specs.Calls.{Call, Calls, Grows, Reads, Rises, Told}

grows_none : {A : Type 0} (told : Option (List A)) → Grows told told []
grows_none None = tt
grows_none (Some all) = sym (append-nil all)

grows_on : {A : Type 0} (a b c : Option (List A)) (one other : List A) → Grows a b one → Grows b c other → Grows a c (one ++ other)
grows_on a b None one other p q = tt
grows_on a None (Some z) one other p q = absurd q
grows_on None (Some y) (Some z) one other p q = absurd p
grows_on (Some x) (Some y) (Some z) one other p q = q ∙ ap (λ l. l ++ other) p ∙ append_assoc x one other

rises_on : (a b c : ℕ) (one other : List Call) → Rises a one b → Rises b other c → Rises a (one ++ other) c
rises_on a b c [] other p q = subst (λ (n : ℕ). Rises n other c) p q
rises_on a b c (Reads reading ∷ one) other p q = (p.0, rises_on reading b c one other p.1 q)
rises_on a b c (call ∷ one) other p q = rises_on a b c one other p q

pub calls_none : (a : Told) → Calls a a []
calls_none a = record { grows = grows_none a.calls; rises = refl }

pub calls_on : {a b c : Told} {one other : List Call} → Calls a b one → Calls b c other → Calls a c (one ++ other)
calls_on {a} {b} {c} {one} {other} p q = record {
  grows = grows_on a.calls b.calls c.calls one other p.grows q.grows;
  rises = rises_on a.latest b.latest c.latest one other p.rises q.rises;
}

pub calls_same : {a b : Told} {one other : List Call} → one ≡ other → Calls a b one → Calls a b other
calls_same {a} {b} is p = subst (λ (l : List Call). Calls a b l) is p

rises_le : (a b : ℕ) (all : List Call) → Rises a all b → a ≤ b
rises_le a b [] p = omega (arith, p)
rises_le a b (Reads reading ∷ all) p =
    let first = p.0 in
    let rest = rises_le reading b all p.1 in
    omega (arith, first, rest)
rises_le a b (call ∷ all) p = rises_le a b all p

-- the clock hasn't fallen
pub latest_rises : {a b : Told} {all : List Call} → Calls a b all → a.latest ≤ b.latest
latest_rises {a} {b} {all} called = rises_le a.latest b.latest all called.rises

-- a reading is the latest
pub reading_is : {a b : Told} {reading : ℕ} → Calls a b (Reads reading ∷ []) → b.latest ≡ reading
reading_is called = called.rises.1
