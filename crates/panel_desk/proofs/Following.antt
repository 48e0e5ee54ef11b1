-- Boards that follow others, and what pages show of them.
use Rattle.std.proofs.Common.{◌≡◌, ◌<◌, ◌⊎◌, ℕ, zero, suc, nat_lt, Bool, true, false, if◌then◌else◌, List, [], ◌∷◌, Option, Some, None, slice_get, slice_set, refl, sym, ap, ◌∙◌, inl, inr, ⊎_elim, arith}
use Rattle.std.specs.Str.{bytes_eq}
use Rattle.panel_desk.specs.Lines.{NotedView, told_at, told_over}
use Rattle.panel_desk.specs.Pages.{Kept, patched, texts}

pub kept-same : (number : ℕ) (notes : List NotedView) → Kept number notes notes
kept-same number [] = tt
kept-same number (one ∷ more) = (inl refl, kept-same number more)

-- a line that is told over another
over : (number now : ℕ) (line before : List ℕ) (one : NotedView) → number < now → (one.text ≡ before) ⊎ (number < one.since)
    → ((told_over now line one).text ≡ before) ⊎ (number < (told_over now line one).since)
over number now line before one later kept = by_test (bytes_eq one.text line)
  where
    by_test : (same : Bool) → ((if same then one else record { text = line; since = now }).text ≡ before) ⊎ (number < (if same then one else record { text = line; since = now }).since)
    by_test true = kept
    by_test false = inr later

-- at a place further on
further : (now place : ℕ) (line : List ℕ) (found : Option NotedView) (one : NotedView) (more : List NotedView)
    → told_at now (suc place) line found (one ∷ more) ≡ one ∷ told_at now place line found more
further now place line None one more = refl
further now place line (Some before) one more = refl

pub kept-told : (number now place : ℕ) (line : List ℕ) (old new : List NotedView) → number < now → Kept number old new
    → Kept number old (told_at now place line (slice_get new place) new)
kept-told number now place line [] [] later kept = tt
kept-told number now place line [] (one ∷ more) later kept = absurd kept
kept-told number now place line (before ∷ others) [] later kept = absurd kept
kept-told number now zero line (before ∷ others) (one ∷ more) later kept = (over number now line before.text one later kept.0, kept.1)
kept-told number now (suc place) line (before ∷ others) (one ∷ more) later kept =
    rw (further now place line (slice_get more place) one more) (kept.0, kept-told number now place line others more later kept.1)

-- what was told since is put in, and else the page shows the same
picked : (newer : Bool) (now before : List ℕ) → (now ≡ before) ⊎ (newer ≡ true) → (if newer then now else before) ≡ now
picked true now before h = refl
picked false now before (inl same) = sym same
picked false now before (inr none) = cc

pub page-patched : (number : ℕ) (old new : List NotedView) → Kept number old new → patched number (texts old) new ≡ texts new
page-patched number [] [] kept = refl
page-patched number [] (one ∷ more) kept = absurd kept
page-patched number (before ∷ others) [] kept = absurd kept
page-patched number (before ∷ others) (one ∷ more) kept =
    let here : (one.text ≡ before.text) ⊎ (nat_lt number one.since ≡ true) = ⊎_elim (λ same. inl same) (λ later. inr (grind (arith, later))) kept.0 in
    rw (picked (nat_lt number one.since) one.text before.text here) (ap (λ (l : List (List ℕ)). one.text ∷ l) (page-patched number others more kept.1))
