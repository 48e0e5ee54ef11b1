-- What an approach keeps of what it was told.
use Rattle.std.proofs.Common.{◌≡◌, ◌≢◌, ◌||◌, ◌⊎◌, ⊎_elim, inl, inr, ◌↔◌, ◌≤◌, ◌+◌, ℕ, Bool, true, false, not, nat_le, IsTrue, List, [], ◌∷◌, refl, sym, ap, subst, ◌∙◌, arith}
use Rattle.std.specs.Bool.{Decides}
use Rattle.std.specs.List.{Contains}
use Rattle.std.proofs.lemmas.Bool.{false≢true}
use Rattle.std.proofs.lemmas.Bool.Decides.{Decides-or, Decides-not, Decides-like}
use Rattle.release.specs.Approach.{IsDue, approach_after, approach_end, is_due}
use Rattle.release.proofs.Lists.{contains-none, contains-here, contains-there, contains-cases}

is_true : (b : Bool) → Decides b (b ≡ true)
is_true b = (λ h. h, λ h. h)

pub told : (steps : List Bool) → Decides (approach_after steps) (Contains steps true)
unfolding approach_after
told [] = (λ h. absurd (false≢true h), λ h. absurd (contains-none true h))
told (b ∷ steps) =
    Decides-like (approach_after steps || b)
    (λ h. ⊎_elim (λ more. contains-there b true steps more) (λ now. subst (λ x. Contains (x ∷ steps) true) (sym now) (contains-here true steps)) h)
    (λ h. ⊎_elim (λ now. inr now) (λ more. inl more) (contains-cases b true steps h))
    (Decides-or (approach_after steps) b (told steps) (is_true b))

over : (a b : ℕ) → Decides (nat_le a b) (a ≤ b)
over a b = (λ h. grind arith, λ h. grind arith)

pub lets_go : (steps : List Bool) (ended_at now : ℕ) (kept due : Bool) → kept ≡ approach_after steps → due ≡ is_due kept ended_at now → IsTrue due ↔ IsDue steps ended_at now
lets_go steps ended_at now kept due e is =
    subst (λ (d : Bool). Decides d (IsDue steps ended_at now)) (sym is)
    (Decides-or (not kept) (nat_le (approach_end ended_at) now) (Decides-not kept (subst (λ (k : Bool). Decides k (Contains steps true)) (sym e) (told steps))) (over (approach_end ended_at) now))
