-- The text of a line of time, as its words joined.
use Rattle.std.proofs.Common.{◌≡◌, ℕ, zero, suc, ◌+◌, ◌==◌, ◌≤◌, Bool, true, false, if◌then◌else◌, List, [], ◌∷◌, ◌++◌, length, drop, codes, Option, Some, None, slice_get, refl, ap, sym, ◌∙◌, arith, append-nil, append_assoc}
use Rattle.std.specs.Option.{option_map}
use Rattle.std.specs.Fmt.{decimal}
use Rattle.std.specs.List.{join_with_byte}
use Rattle.std.proofs.lemmas.Bool.Decides.{nat_tests}
use Rattle.ixl_spec.specs.layout.Entries.{Site}
use Rattle.simulator_event.specs.declared.event.Event.TheVariants.{Time}
use Rattle.replay_lines.specs.Names.{node_names}
use Rattle.replay_lines.specs.Written.{clock_words, event_line}
use Rattle.replay_lines.specs.inside.Clocks.{clock_text, clock_texts}

-- each word after a space
abbrev pub spaced : List (List ℕ) → List ℕ
spaced [] = []
spaced (word ∷ words) = 32 ∷ (word ++ spaced words)

-- words joined are the first, and the others each after a space
pub join-spaced : (word : List ℕ) (words : List (List ℕ)) → join_with_byte 32 (word ∷ words) ≡ word ++ spaced words
join-spaced word [] = sym (append-nil word)
join-spaced word (next ∷ words) = ap (λ rest. word ++ 32 ∷ rest) (join-spaced next words)

-- the texts of the clocks are the words of those that go on otherwise, each after a space
clock_texts-words : (elapsed : ℕ) (all : List (List ℕ)) (place : ℕ) (names : List (List ℕ)) (steps : List ℕ)
    → ((k : ℕ) → slice_get all (place + k) ≡ slice_get names k) → length steps ≡ length names
    → clock_texts all elapsed place steps ≡ spaced (clock_words elapsed names steps)
clock_texts-words elapsed all place [] [] same counted = refl
clock_texts-words elapsed all place [] (step ∷ steps) same counted = absurd (omega (arith, counted))
clock_texts-words elapsed all place (name ∷ names) [] same counted = absurd (omega (arith, counted))
clock_texts-words elapsed all place (name ∷ names) (step ∷ steps) same counted =
    ap (λ found. clock_text found elapsed step ++ clock_texts all elapsed (suc place) steps) (ap (slice_get all) (omega arith) ∙ same 0)
    ∙ ap (λ rest. clock_text (Some name) elapsed step ++ rest)
    (clock_texts-words elapsed all (suc place) names steps (λ k. ap (slice_get all) (omega arith) ∙ same (suc k)) (omega (arith, counted)))
    ∙ one (step == elapsed) (spaced (clock_words elapsed names steps)) (clock_words elapsed names steps) refl
  where
    one : (b : Bool) (rest : List ℕ) (words : List (List ℕ)) → rest ≡ spaced words
        → (if b then [] else 32 ∷ (name ++ 61 ∷ decimal step)) ++ rest ≡ spaced (if b then words else (name ++ 61 ∷ decimal step) ∷ words)
    one true rest words e = e
    one false rest words e = ap (λ r. 32 ∷ ((name ++ 61 ∷ decimal step) ++ r)) e

-- a line of time as it was written
pub written_time : (site : Site) (elapsed : ℕ) (steps text : List ℕ) → length steps ≡ length (node_names site)
    → text ≡ (codes "time " ++ decimal elapsed) ++ clock_texts (node_names site) elapsed 0 steps
    → Some text ≡ event_line site (Time elapsed steps)
written_time site elapsed steps text counted e =
    ap Some (
    e
    ∙ ap (λ rest. (codes "time " ++ decimal elapsed) ++ rest) (clock_texts-words elapsed (node_names site) 0 (node_names site) steps (λ k. ap (slice_get (node_names site)) (omega arith)) counted)
    ∙ sym (join-spaced (codes "time") (decimal elapsed ∷ clock_words elapsed (node_names site) steps))
    )
    ∙ kept (length steps == length (node_names site)) (grind (arith, nat_tests)) (codes "time" ∷ decimal elapsed ∷ clock_words elapsed (node_names site) steps)
  where
    kept : (b : Bool) → b ≡ true → (words : List (List ℕ)) → Some (join_with_byte 32 words) ≡ option_map (join_with_byte 32) (if b then Some words else None)
    kept true h words = refl
    kept false h words = cc

drop-past : (n : ℕ) (xs : List ℕ) → length xs ≤ n → drop n xs ≡ []
drop-past zero [] h = refl
drop-past zero (x ∷ xs) h = absurd (omega arith)
drop-past (suc n) [] h = refl
drop-past (suc n) (x ∷ xs) h = drop-past n xs (omega arith)

-- after the last clock nothing is left
pub nothing_left : (names : List (List ℕ)) (elapsed place : ℕ) (steps written whole : List ℕ) → length steps ≤ place
    → written ++ clock_texts names elapsed place (drop place steps) ≡ whole → written ≡ whole
nothing_left names elapsed place steps written whole past e =
    sym (append-nil written) ∙ ap (λ rest. written ++ clock_texts names elapsed place rest) (sym (drop-past place steps past)) ∙ e
