-- Calls one after another.
use Rattle.std.proofs.Common.{◌∙◌, ℕ, List, [], ◌∷◌, ◌++◌, Option, Some, None, ap, append_assoc, subst}
use Rattle.node_kinds.specs.node_drive.Calls.{Call, Calls, Grows, Reads, Rises, Told}

grows_then : {A : Type 0} (a b c : Option (List A)) (xs ys : List A) → Grows a b xs → Grows b c ys → Grows a c (xs ++ ys)
grows_then a b None xs ys p q = tt
grows_then a None (Some z) xs ys p q = absurd q
grows_then None (Some y) (Some z) xs ys p q = absurd p
grows_then (Some x) (Some y) (Some z) xs ys p q = q ∙ ap (λ l. l ++ ys) p ∙ append_assoc x xs ys

rises_then : (a b c : ℕ) (xs ys : List Call) → Rises a xs b → Rises b ys c → Rises a (xs ++ ys) c
rises_then a b c [] ys p q = subst (λ (n : ℕ). Rises n ys c) p q
rises_then a b c (Reads reading ∷ xs) ys p q = (p.0, rises_then reading b c xs ys p.1 q)
rises_then a b c (call ∷ xs) ys p q = rises_then a b c xs ys p q

pub calls_then : {a b c : Told} {xs ys : List Call} → Calls a b xs → Calls b c ys → Calls a c (xs ++ ys)
calls_then {a} {b} {c} {xs} {ys} p q = record {
  grows = grows_then a.calls b.calls c.calls xs ys p.grows q.grows;
  rises = rises_then a.latest b.latest c.latest xs ys p.rises q.rises;
}
