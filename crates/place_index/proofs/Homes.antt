-- In whose ring a node is, as keys come and go.
use Rattle.std.proofs.Common.{◌≡◌, ◌≢◌, ℕ, ◌+◌, ◌-◌, ◌%◌, ◌<◌, ◌≤◌, inl, inr, List, [], ◌∷◌, ◌++◌, length, get_or, set, true, false, nat_lt, nat_eq, sym, ap, ◌∙◌, arith, refl}
use Rattle.std.proofs.lemmas.Bool.{cases_lt}
use Rattle.std.proofs.lemmas.Bool.Decides.{nat_tests}
use Rattle.std.proofs.lemmas.List.{get_or_append_left, get_or_at, get_or-set_same, get_or-set_other}
use Rattle.place_index.specs.Places.{key_at, no_key}
use Rattle.place_index.specs.inside.Rings.{bucket_of, home}

pub home-own : (m : ℕ) (keys : List ℕ) (i : ℕ) → i < m → home m keys i ≡ i
unfolding home
home-own m keys i below = grind (arith, nat_tests)

pub home-place : (m : ℕ) (keys : List ℕ) (i : ℕ) → m ≤ i → home m keys i ≡ bucket_of m (key_at keys (i - m))
unfolding home
home-place m keys i above = grind (arith, nat_tests)

pub bucket-key : (m key : ℕ) → key ≢ no_key → bucket_of m key ≡ key % m
bucket-key m key some = grind (arith, nat_tests)

pub home-append : (m : ℕ) (keys : List ℕ) (key i : ℕ) → i < m + length keys → home m (keys ++ key ∷ []) i ≡ home m keys i
home-append m keys key i within = elim (cases_lt i m) [ inl below ↦ of_bucket below | inr above ↦ of_place above ]
  where
    of_bucket : i < m → home m (keys ++ key ∷ []) i ≡ home m keys i
    of_bucket below = home-own m (keys ++ key ∷ []) i below ∙ sym (home-own m keys i below)

    of_place : m ≤ i → home m (keys ++ key ∷ []) i ≡ home m keys i
    of_place above =
        let inside : i - m < length keys = omega arith
        in home-place m (keys ++ key ∷ []) i above ∙ ap (bucket_of m) (get_or_append_left keys (key ∷ []) no_key (i - m) inside) ∙ sym (home-place m keys i above)

pub home-new : (m : ℕ) (keys : List ℕ) (key : ℕ) → home m (keys ++ key ∷ []) (m + length keys) ≡ bucket_of m key
home-new m keys key = home-place m (keys ++ key ∷ []) (m + length keys) (omega arith) ∙ ap (bucket_of m) (get_or_at keys key [] no_key (m + length keys - m) (omega arith))

pub home-set : (m : ℕ) (keys : List ℕ) (place i : ℕ) → i ≢ m + place → home m (set keys place no_key) i ≡ home m keys i
home-set m keys place i apart = elim (cases_lt i m) [ inl below ↦ of_bucket below | inr above ↦ of_place above ]
  where
    of_bucket : i < m → home m (set keys place no_key) i ≡ home m keys i
    of_bucket below = home-own m (set keys place no_key) i below ∙ sym (home-own m keys i below)

    of_place : m ≤ i → home m (set keys place no_key) i ≡ home m keys i
    of_place above =
        let other : i - m ≢ place = λ e. apart (omega arith)
        in home-place m (set keys place no_key) i above ∙ ap (bucket_of m) (get_or-set_other keys place (i - m) no_key no_key other) ∙ sym (home-place m keys i above)

pub key-place : (m : ℕ) (keys : List ℕ) (place : ℕ) → key_at keys (m + place - m) ≡ key_at keys place
key-place m keys place = let same : m + place - m ≡ place = omega arith in ap (key_at keys) same

pub home-gone : (m : ℕ) (keys : List ℕ) (place : ℕ) → place < length keys → home m (set keys place no_key) (m + place) ≡ m
home-gone m keys place within = home-place m (set keys place no_key) (m + place) (omega arith) ∙ ap (bucket_of m) (key-place m (set keys place no_key) place ∙ get_or-set_same keys place no_key no_key within)

-- a place that has a key is in the ring of the key's bucket
pub home-has : (m : ℕ) (keys : List ℕ) (place : ℕ) → key_at keys place ≢ no_key → home m keys (m + place) ≡ key_at keys place % m
home-has m keys place some = home-place m keys (m + place) (omega arith) ∙ ap (bucket_of m) (key-place m keys place) ∙ bucket-key m (key_at keys place) some
