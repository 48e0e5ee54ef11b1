-- Lists of which the first is taken, one after another.
use Rattle.std.proofs.Common.{◌≡◌, List, [], ◌∷◌, ◌++◌, map, drop, Some, None, slice_get, refl, sym, ap, ◌∙◌, append_assoc, append-nil}
use Rattle.std.specs.List.{AllByRecursion}
use Rattle.std.proofs.lemmas.List.{map-append}

same_some : {A : Type 0} {w x : A} → Some w ≡ Some x → w ≡ x
same_some e = cc

none_some : {A : Type 0} {x : A} → None ≡ Some x → ⊥
none_some e = cc

pub none_left : {A : Type 0} (xs : List A) → None ≡ slice_get xs 0 → xs ≡ []
none_left [] e = refl
none_left (x ∷ xs) e = absurd (none_some e)

-- what was taken so far, and after it what is left
pub first_taken : {A : Type 0} (done all xs : List A) (x : A) → Some x ≡ slice_get xs 0 → done ++ xs ≡ all → (done ++ x ∷ []) ++ drop 1 xs ≡ all
first_taken done all [] x e h = absurd (none_some (sym e))
first_taken done all (w ∷ xs) x e h = append_assoc done (x ∷ []) xs ∙ ap (λ o. done ++ o ∷ xs) (same_some e) ∙ h

-- nothing is left: all was taken
pub all_taken : {A : Type 0} (done all xs : List A) → None ≡ slice_get xs 0 → done ++ xs ≡ all → done ≡ all
all_taken done all xs e h = sym (append-nil done) ∙ ap (λ l. done ++ l) (sym (none_left xs e)) ∙ h

pub map_push : {A B : Type 0} (f : A → B) (xs : List A) (x : A) → map f (xs ++ x ∷ []) ≡ map f xs ++ f x ∷ []
map_push f xs x = map-append f xs (x ∷ [])

-- where the next is taken
pub map_split : {A B : Type 0} (f : A → B) (done all xs : List A) (x : A) → Some x ≡ slice_get xs 0 → done ++ xs ≡ all → map f done ++ f x ∷ map f (drop 1 xs) ≡ map f all
map_split f done all [] x e h = absurd (none_some (sym e))
map_split f done all (w ∷ xs) x e h = ap (λ o. map f done ++ f o ∷ map f xs) (same_some e) ∙ sym (map-append f done (w ∷ xs)) ∙ ap (map f) h

pub all-push : {A : Type 0} (P : A → Type 0) (xs : List A) (x : A) → AllByRecursion P xs → P x → AllByRecursion P (xs ++ x ∷ [])
all-push P [] x h p = (p, tt)
all-push P (y ∷ ys) x h p = (h.0, all-push P ys x h.1 p)
