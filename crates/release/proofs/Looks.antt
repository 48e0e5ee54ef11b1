-- What a passage keeps of what it was told.
use Rattle.std.proofs.Common.{◌≡◌, ◌≢◌, ◌==◌, ◌&&◌, ◌||◌, ◌⊎◌, ⊎_elim, inl, inr, ◌↔◌, ℕ, suc, Bool, true, false, not, cond, IsTrue, IsNone, IfSome, Option, Some, None, is_some, List, [], ◌∷◌, ◌++◌, refl, sym, ap, subst, ◌∙◌, arith}
use Rattle.std.specs.Bool.{Decides}
use Rattle.std.specs.List.{Contains}
use Rattle.std.specs.Ordering.{nat_cmp}
use Rattle.std.specs.Cmp.{nat_cmp_total, unsigned_tied}
use Rattle.std.specs.FinSet.{contains, empty, insert, remove, contains-empty, contains-insert, contains-remove}
use Rattle.std.proofs.lemmas.Bool.{cases_eq, false≢true, true≢false}
use Rattle.std.proofs.lemmas.Bool.Decides.{Decides-at, Decides-and, Decides-or, Decides-not, Decides-like, Decides-eqb}
use Rattle.bit_row.specs.Places.{Has, IsLeast, Places}
use Rattle.release.specs.Passage.{IsReached, Look, WasSeen, LastSeenClear, MayBeFreed, PassageState, after_look, passage_after, is_freeable}
use Rattle.release.proofs.Lists.{contains-none, contains-here, contains-there, contains-cases}

abbrev look : ℕ → Bool → Look
look k o = record { section = k; occupied = o }

put : (s : Places) (j k : ℕ) → contains (insert s j) k ≡ ((k == j) || contains s k)
put s j k = contains-insert nat_cmp_total s j k ∙ ap (λ b. b || contains s k) (unsigned_tied k j)

taken : (s : Places) (j k : ℕ) → contains (remove s j) k ≡ (not (k == j) && contains s k)
taken s j k = contains-remove nat_cmp_total s j k ∙ ap (λ b. not b && contains s k) (unsigned_tied k j)

-- ---- the sections that were seen occupied

seen_step : (p : PassageState) (s : ℕ) (o : Bool) (looks : List Look) (k : ℕ) → Decides (contains p.seen k) (WasSeen looks k true)
    → Decides (contains (after_look p s o).seen k) (WasSeen (look s o ∷ looks) k true)
seen_step p s true looks k before =
    Decides-at _ _ (put p.seen s k)
    (Decides-like ((k == s) || contains p.seen k)
    (λ h. ⊎_elim (λ e. subst (λ j. WasSeen (look s true ∷ looks) j true) (sym e) (contains-here (look s true) looks)) (λ more. contains-there (look s true) (look k true) looks more) h)
    (λ h. ⊎_elim (λ e. inl (sym (ap (λ l. l.section) e))) (λ more. inr more) (contains-cases (look s true) (look k true) looks h))
    (Decides-or (k == s) (contains p.seen k) (Decides-eqb k s) before))
seen_step p s false looks k before =
    Decides-like (contains p.seen k) (contains-there (look s false) (look k true) looks)
    (λ h. ⊎_elim (λ e. absurd (false≢true (ap (λ l. l.occupied) e))) (λ more. more) (contains-cases (look s false) (look k true) looks h))
    before

pub seen : (n : ℕ) (looks : List Look) (k : ℕ) → Decides (contains (passage_after n looks).seen k) (WasSeen looks k true)
unfolding passage_after
seen n [] k = (λ h. absurd (false≢true (sym (contains-empty nat_cmp k) ∙ h)), λ h. absurd (contains-none (look k true) h))
seen n (l ∷ looks) k = seen_step (passage_after n looks) l.section l.occupied looks k (seen n looks k)

-- ---- the sections that were occupied when last looked at

occupied_other : (p : PassageState) (s : ℕ) (o : Bool) (k : ℕ) → k ≢ s → contains (after_look p s o).occupied k ≡ contains p.occupied k
occupied_other p s true k other = put p.occupied s k ∙ grind arith
occupied_other p s false k other = taken p.occupied s k ∙ grind arith

occupied_same : (p : PassageState) (s : ℕ) (o : Bool) → contains (after_look p s o).occupied s ≡ o
occupied_same p s true = put p.occupied s s ∙ grind arith
occupied_same p s false = taken p.occupied s s ∙ grind arith

before_look : (l : Look) (looks : List Look) (k : ℕ) → k ≢ l.section → LastSeenClear looks k → LastSeenClear (l ∷ looks) k
before_look l looks k other (later, earlier, are, none) =
    (l ∷ later, earlier, ap (λ ls. l ∷ ls) are, λ o h. ⊎_elim (λ e. other (sym (ap (λ m. m.section) e))) (none o) (contains-cases l (look k o) later h))

clear_step : (n : ℕ) (l : Look) (looks : List Look) (k : ℕ) → (WasSeen looks k true → contains (passage_after n looks).occupied k ≡ false → LastSeenClear looks k)
    → WasSeen (l ∷ looks) k true → contains (after_look (passage_after n looks) l.section l.occupied).occupied k ≡ false → LastSeenClear (l ∷ looks) k
clear_step n l looks k before was gone =
    ⊎_elim
    (λ same. let o : l.occupied ≡ false = sym (occupied_same (passage_after n looks) l.section l.occupied) ∙ subst (λ j. contains (after_look (passage_after n looks) l.section l.occupied).occupied j ≡ false) same gone in
    ([], looks, (λ i. record { section = sym same i; occupied = o i } ∷ looks), λ o h. contains-none (look k o) h))
    (λ other. before_look l looks k other (before
    (⊎_elim (λ e. absurd (other (sym (ap (λ m. m.section) e)))) (λ more. more) (contains-cases l (look k true) looks was))
    (sym (occupied_other (passage_after n looks) l.section l.occupied k other) ∙ gone)))
    (cases_eq k l.section)

clear_of : (n : ℕ) (looks : List Look) (k : ℕ) → WasSeen looks k true → contains (passage_after n looks).occupied k ≡ false → LastSeenClear looks k
unfolding passage_after
clear_of n [] k was gone = absurd (contains-none (look k true) was)
clear_of n (l ∷ looks) k was gone = clear_step n l looks k (clear_of n looks k) was gone

of_later : (n k : ℕ) (later earlier : List Look) → ((o : Bool) → WasSeen later k o → ⊥) → contains (passage_after n (later ++ look k false ∷ earlier)).occupied k ≡ false
unfolding passage_after
of_later n k [] earlier none = occupied_same (passage_after n earlier) k false
of_later n k (l ∷ later) earlier none =
    occupied_other (passage_after n (later ++ look k false ∷ earlier)) l.section l.occupied k
    (λ e. none l.occupied (subst (λ j. WasSeen (l ∷ later) j l.occupied) (sym e) (contains-here l later)))
    ∙ of_later n k later earlier (λ o h. none o (contains-there l (look k o) later h))

of_clear : (n : ℕ) (looks : List Look) (k : ℕ) → LastSeenClear looks k → contains (passage_after n looks).occupied k ≡ false
of_clear n looks k (later, earlier, are, none) = subst (λ (ls : List Look). contains (passage_after n ls).occupied k ≡ false) (sym are) (of_later n k later earlier none)

-- ---- which section is let go

is_true : (b : Bool) → Decides b (b ≡ true)
is_true b = (λ h. h, λ h. h)

sections_stay : (n : ℕ) (looks : List Look) → (passage_after n looks).sections ≡ n
unfolding passage_after
sections_stay n [] = refl
sections_stay n (l ∷ looks) = stay (passage_after n looks) l.section l.occupied ∙ sections_stay n looks
  where
    stay : (p : PassageState) (s : ℕ) (o : Bool) → (after_look p s o).sections ≡ p.sections
    stay p s true = refl
    stay p s false = refl

left : (b : Bool) → b ≡ false → not b ≡ true
left b h = grind arith

taken_back : (b : Bool) → not b ≡ true → b ≡ false
taken_back b h = grind arith

next : (n : ℕ) (looks : List Look) (k : ℕ) → Decides ((suc k == (passage_after n looks).sections) || contains (passage_after n looks).seen (suc k)) ((suc k ≡ n) ⊎ WasSeen looks (suc k) true)
next n looks k =
    Decides-or (suc k == (passage_after n looks).sections) (contains (passage_after n looks).seen (suc k))
    (subst (λ m. Decides (suc k == m) (suc k ≡ n)) (sym (sections_stay n looks)) (Decides-eqb (suc k) n)) (seen n looks (suc k))

pub freed : (n : ℕ) (looks : List Look) (k : ℕ) (ended : Bool) → Decides (is_freeable (passage_after n looks) k ended) (MayBeFreed n looks k ended)
freed n looks k ended =
    let p : PassageState = passage_after n looks in
    let all = Decides-and (ended && contains p.seen k) _ (Decides-and ended (contains p.seen k) (is_true ended) (seen n looks k)) (is_true (not (contains p.occupied k))) in
    Decides-like (is_freeable p k ended)
    (λ h. record { over = h.0.0.0; reached = h.0.0.1; left = clear_of n looks k h.0.0.1 (taken_back _ h.0.1); next = h.1 })
    (λ h. (((h.over, h.reached), left _ (of_clear n looks k h.left)), h.next))
    (Decides-and (ended && contains p.seen k && not (contains p.occupied k)) _ all (next n looks k))

pub lets_go : (p : PassageState) (looks : List Look) (k : ℕ) (ended result : Bool) → p ≡ passage_after p.sections looks → result ≡ is_freeable p k ended
    → IsTrue result ↔ MayBeFreed p.sections looks k ended
lets_go p looks k ended result told is =
    Decides-at result _ (is ∙ ap (λ q. is_freeable q k ended) told) (freed p.sections looks k ended)

-- ---- whether any was seen occupied

pub reached : (p : PassageState) (looks : List Look) (result : Bool) → p ≡ passage_after p.sections looks → IsTrue result ↔ ((k : ℕ) × Has p.seen k)
    → IsTrue result ↔ IsReached looks
reached p looks result told has = (
  λ h. let (k, in_row) = has.0 h in (k, (seen p.sections looks k).0 (subst (λ (q : PassageState). contains q.seen k ≡ true) told in_row)),
  λ h. has.1 (h.0, subst (λ (q : PassageState). contains q.seen h.0 ≡ true) (sym told) ((seen p.sections looks h.0).1 h.1)),
)

pub some_reached : (s : Places) (found : Option ℕ) (result : Bool) → result ≡ is_some found → IfSome found (IsLeast s) → IsNone found ↔ (s ≡ empty)
    → IsTrue result ↔ ((k : ℕ) × Has s k)
some_reached s None result is least none =
    (λ h. absurd (false≢true (sym is ∙ h)), λ h. absurd (false≢true (sym (contains-empty nat_cmp h.0) ∙ ap (λ t. contains t h.0) (sym (none.0 refl)) ∙ h.1)))
some_reached s (Some k) result is least none = (λ h. (k, least.0), λ h. is)
