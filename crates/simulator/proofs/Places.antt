-- The links of a layout.
use Rattle.std.proofs.Common.{◌≡◌, refl, ap, ◌∙◌, ℕ, List, [], ◌∷◌, ◌++◌, length, map, replicate, arith, length-append}
use Rattle.std.proofs.lemmas.List.{length-map}
use Rattle.ixl_state.specs.layout.Entries.{Site}
use Rattle.simulator_spec.specs.Nodes.{links, partners}

pub partners_count : (site : Site) → links site ≡ length (partners site)
partners_count site =
    let signals : List ℕ = map (λ s. s.id) site.signals in
    let points : List ℕ = map (λ p. p.id) site.points in
    let detectors : List ℕ = map (λ d. d.id) site.detectors in
    omega (arith, length-append signals (points ++ detectors), length-append points detectors, length-map site.signals (λ s. s.id), length-map site.points (λ p. p.id), length-map site.detectors (λ d. d.id))

as_many : {A B : Type 0} (one : B) (xs : List A) → replicate (length xs) one ≡ map (λ x. one) xs
as_many one [] = refl
as_many one (x ∷ xs) = ap (λ others. one ∷ others) (as_many one xs)

pub all_alike : {A B : Type 0} (one : B) (xs : List A) (n : ℕ) → n ≡ length xs → replicate n one ≡ map (λ x. one) xs
all_alike one xs n is_length = ap (λ m. replicate m one) is_length ∙ as_many one xs
