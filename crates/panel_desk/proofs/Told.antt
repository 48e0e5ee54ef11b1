-- What is shown at a place.
use Rattle.std.proofs.Common.{◌≡◌, ◌<◌, ℕ, true, false, List, length, get_or, Some, slice_get, slice_set, refl, sym, subst}
use Rattle.std.proofs.lemmas.List.{set-get_or}
use Rattle.std.proofs.lemmas.Option.{slice_get_read}
use Rattle.std.specs.Str.{bytes_eq}
use Rattle.panel_desk.specs.Lines.{NotedView, told_at}

-- a line that stands there stays
pub told_same : (number place : ℕ) (line : List ℕ) (shown : List NotedView) (before : NotedView) → place < length shown → before ≡ get_or shown place before
    → bytes_eq before.text line ≡ true → told_at number place line (slice_get shown place) shown ≡ shown
told_same number place line shown before inside is same =
    let there : slice_get shown place ≡ Some before = slice_get_read shown (length shown) place before refl inside is in
    rw there (rw same (subst (λ (b : NotedView). slice_set shown place b ≡ shown) (sym is) (set-get_or shown place before)))

-- another takes its place
pub told_anew : (number place : ℕ) (line : List ℕ) (shown : List NotedView) (before : NotedView) → place < length shown → before ≡ get_or shown place before
    → bytes_eq before.text line ≡ false → told_at number place line (slice_get shown place) shown ≡ slice_set shown place (record { text = line; since = number })
told_anew number place line shown before inside is other =
    let there : slice_get shown place ≡ Some before = slice_get_read shown (length shown) place before refl inside is in
    rw there (rw other refl)
