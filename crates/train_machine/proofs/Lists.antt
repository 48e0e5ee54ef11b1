-- Lists, and families in which one is changed.
use Rattle.std.proofs.Common.{◌≡◌, ℕ, zero, suc, Bool, true, false, List, [], ◌∷◌, ◌⊎◌, inl, inr, refl, sym, ap, subst, map, ◌∙◌}
use Rattle.std.specs.Prelude.{◌≢◌, if◌then◌else◌, ◌||◌}
use Rattle.train_machine.specs.Lists.{is_same, changed_at, IsOf, IsFirst, IsNext, IsLast, IsEnd, without_last, turned_round}
use Rattle.train_machine.specs.Track.{Track}
use Rattle.train_machine.specs.Train.{is_in}

pub same_self : (n : ℕ) → is_same n n ≡ true
same_self zero = refl
same_self (suc n) = same_self n

pub same_is : (a b : ℕ) → is_same a b ≡ true → a ≡ b
same_is zero zero e = refl
same_is zero (suc b) e = absurd (cc (e))
same_is (suc a) zero e = absurd (cc (e))
same_is (suc a) (suc b) e = ap suc (same_is a b e)

pub differs : (a b : ℕ) → is_same a b ≡ false → a ≢ b
differs a b e same = absurd (cc (e, same_self a, ap (λ n. is_same a n) same))

pub different : (a b : ℕ) → a ≢ b → is_same a b ≡ false
different a b other = go (is_same a b) refl
  where
    go : (test : Bool) → is_same a b ≡ test → is_same a b ≡ false
    go true e = absurd (other (same_is a b e))
    go false e = e

-- two numbers are the same or not
pub same_or_not : (a b : ℕ) → (a ≡ b) ⊎ (a ≢ b)
same_or_not a b = go (is_same a b) refl
  where
    go : (test : Bool) → is_same a b ≡ test → (a ≡ b) ⊎ (a ≢ b)
    go true e = inl (same_is a b e)
    go false e = inr (differs a b e)

-- what holds of the new one at its place, and of each other where it was, holds throughout
pub at_each : {A : Type 0} (P : ℕ → A → Type 0) (place : ℕ) (new : A) (old : ℕ → A) → P place new → ((n : ℕ) → n ≢ place → P n (old n))
    → (n : ℕ) → P n (changed_at place new old n)
at_each P place new old here there n = go (is_same n place) refl
  where
    go : (test : Bool) → is_same n place ≡ test → P n (if test then new else old n)
    go true e = subst (λ m. P m new) (sym (same_is n place e)) here
    go false e = there n (differs n place e)

pub at_it : {A : Type 0} (place : ℕ) (new : A) (old : ℕ → A) → changed_at place new old place ≡ new
at_it place new old = rw (same_self place) refl

pub elsewhere : {A : Type 0} (place : ℕ) (new : A) (old : ℕ → A) (n : ℕ) → n ≢ place → changed_at place new old n ≡ old n
elsewhere place new old n other = rw (different n place other) refl

pub true_or_false : (test : Bool) → (test ≡ true) ⊎ (test ≡ false)
true_or_false true = inl refl
true_or_false false = inr refl

pub or_true : (a b : Bool) → (a || b) ≡ true → (a ≡ true) ⊎ (b ≡ true)
or_true true b e = inl refl
or_true false b e = inr e

pub or_left : (a b : Bool) → a ≡ true → (a || b) ≡ true
or_left a b e = rw e refl

pub or_right : (a b : Bool) → b ≡ true → (a || b) ≡ true
or_right true b e = refl
or_right false b e = e

-- a place of the list lies in the section
pub in_has : (track : Track) (section : ℕ) (places : List ℕ) → is_in track section places ≡ true
    → (place : ℕ) × IsOf place places × (track.section place ≡ section)
in_has track section [] e = absurd (cc (e))
in_has track section (first ∷ later) e = go (or_true (is_same (track.section first) section) (is_in track section later) e) (λ there. in_has track section later there)
  where
    go : (is_same (track.section first) section ≡ true) ⊎ (is_in track section later ≡ true)
        → (is_in track section later ≡ true → (place : ℕ) × IsOf place later × (track.section place ≡ section))
        → (place : ℕ) × IsOf place (first ∷ later) × (track.section place ≡ section)
    go (inl same) found = (first, inl refl, same_is (track.section first) section same)
    go (inr there) found = ((found there).0, inr (found there).1, (found there).2)

pub has_in : (track : Track) (section : ℕ) (places : List ℕ) (place : ℕ) → IsOf place places → track.section place ≡ section
    → is_in track section places ≡ true
has_in track section [] place of e = absurd of
has_in track section (first ∷ later) place (inl same) e =
    or_left (is_same (track.section first) section) (is_in track section later)
    (subst (λ (n : ℕ). is_same (track.section first) n ≡ true) (ap track.section same ∙ e) (same_self (track.section first)))
has_in track section (first ∷ later) place (inr of) e =
    or_right (is_same (track.section first) section) (is_in track section later) (has_in track section later place of e)

pub without_of : (place : ℕ) (places : List ℕ) → IsOf place (without_last places) → IsOf place places
without_of place [] of = absurd of
without_of place (first ∷ []) of = absurd of
without_of place (first ∷ second ∷ later) (inl e) = inl e
without_of place (first ∷ second ∷ later) (inr of) = inr (without_of place (second ∷ later) of)

-- the first of a list without its last
pub without_first : (places : List ℕ) (front : ℕ) (rear : List ℕ) → without_last places ≡ front ∷ rear → (rest : List ℕ) × (places ≡ front ∷ rest)
without_first [] front rear e = absurd (cc (e))
without_first (first ∷ []) front rear e = absurd (cc (e))
without_first (first ∷ second ∷ later) front rear e = (second ∷ later, cc (e))

-- one of a list turned round was one of it, or of what stands after it
pub turned_of : (place : ℕ) (places after : List ℕ) → IsOf place (turned_round places after) → IsOf place places ⊎ IsOf place after
turned_of place [] after of = inr of
turned_of place (first ∷ later) after of = go (turned_of place later (first ∷ after) of)
  where
    go : IsOf place later ⊎ ((first ≡ place) ⊎ IsOf place after) → ((first ≡ place) ⊎ IsOf place later) ⊎ IsOf place after
    go (inl there) = inl (inr there)
    go (inr (inl same)) = inl (inl same)
    go (inr (inr there)) = inr there

pub map_of : (change : ℕ → ℕ) (place : ℕ) (places : List ℕ) → IsOf place (map change places) → (old : ℕ) × IsOf old places × (change old ≡ place)
map_of change place [] of = absurd of
map_of change place (first ∷ later) (inl same) = (first, inl refl, same)
map_of change place (first ∷ later) (inr of) = let found = map_of change place later of in (found.0, inr found.1, found.2)

-- where a list ends with one and others, the next of them comes right after it, and the end goes on
pub end_next : (one next : ℕ) (after list : List ℕ) → IsEnd one (next ∷ after) list → IsNext one next list
end_next one next after [] end = absurd end
end_next one next after (first ∷ later) (inl e) = inl (e.0, subst (λ (l : List ℕ). IsFirst next l) (sym e.1) refl)
end_next one next after (first ∷ later) (inr end) = inr (end_next one next after later end)

pub end_of : (one : ℕ) (after list : List ℕ) → IsEnd one after list → IsOf one list
end_of one after [] end = absurd end
end_of one after (first ∷ later) (inl e) = inl e.0
end_of one after (first ∷ later) (inr end) = inr (end_of one after later end)

pub end_later : (one next : ℕ) (after list : List ℕ) → IsEnd one (next ∷ after) list → IsEnd next after list
end_later one next after [] end = absurd end
end_later one next after (first ∷ later) (inl e) = inr (subst (λ (l : List ℕ). IsEnd next after l) (sym e.1) (inl (refl, refl)))
end_later one next after (first ∷ later) (inr end) = inr (end_later one next after later end)

pub end_after_of : (one other : ℕ) (after list : List ℕ) → IsEnd one after list → IsOf other after → IsOf other list
end_after_of one other after [] end of = absurd end
end_after_of one other after (first ∷ later) (inl e) of = inr (subst (λ (l : List ℕ). IsOf other l) (sym e.1) of)
end_after_of one other after (first ∷ later) (inr end) of = inr (end_after_of one other after later end of)

pub end_last : (one : ℕ) (list : List ℕ) → IsEnd one [] list → IsLast one list
end_last one [] end = absurd end
end_last one (first ∷ []) (inl e) = e.0
end_last one (first ∷ []) (inr end) = absurd end
end_last one (first ∷ second ∷ later) (inl e) = absurd (cc (e.1))
end_last one (first ∷ second ∷ later) (inr end) = end_last one (second ∷ later) end

pub end_whole : (one : ℕ) (after : List ℕ) → IsEnd one after (one ∷ after)
end_whole one after = inl (refl, refl)
