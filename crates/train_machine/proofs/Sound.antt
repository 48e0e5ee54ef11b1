-- The small stations are sound.
use Rattle.std.proofs.Common.{◌≡◌, ℕ, zero, suc, ◌⊎◌, inl, inr, Bool, true, false, List, [], ◌∷◌, Some, None, refl, sym, ap, subst, ◌∙◌}
use Rattle.std.specs.Prelude.{◌≢◌, ◌||◌}
use Rattle.train_machine.specs.Lists.{is_same, IsOf, IsNext, IsLast, IsEnd}
use Rattle.train_machine.specs.Track.{Track, IsFork, IsSound, path}
use Rattle.train_machine.specs.Stations.{is_of, line, small, joined}
use Rattle.train_machine.proofs.Lists.{same_is}

pub below : (P : ℕ → Type 0) → P 0 → P 1 → P 2 → P 3 → ((n : ℕ) → P (suc (suc (suc (suc n))))) → (n : ℕ) → P n
below P p0 p1 p2 p3 rest zero = p0
below P p0 p1 p2 p3 rest (suc zero) = p1
below P p0 p1 p2 p3 rest (suc (suc zero)) = p2
below P p0 p1 p2 p3 rest (suc (suc (suc zero))) = p3
below P p0 p1 p2 p3 rest (suc (suc (suc (suc n)))) = rest n

places : (P : ℕ → Type 0) → P 0 → P 1 → P 2 → P 3 → P 4 → P 5 → P 6 → P 7 → P 8 → P 9
    → ((n : ℕ) → P (suc (suc (suc (suc (suc (suc (suc (suc (suc (suc n))))))))))) → (n : ℕ) → P n
places P p0 p1 p2 p3 p4 p5 p6 p7 p8 p9 rest =
    below P p0 p1 p2 p3 (below (λ n. P (suc (suc (suc (suc n))))) p4 p5 p6 p7 (λ n. two n))
  where
    two : (n : ℕ) → P (suc (suc (suc (suc (suc (suc (suc (suc n))))))))
    two zero = p8
    two (suc zero) = p9
    two (suc (suc n)) = rest n

one : (x n : ℕ) → is_of (x ∷ []) n ≡ true → n ≡ x
one x n e = go (is_same x n) refl e
  where
    go : (test : Bool) → is_same x n ≡ test → (test || false) ≡ true → n ≡ x
    go true same e = sym (same_is x n same)
    go false same e = absurd (cc (e))

two : (x y n : ℕ) → is_of (x ∷ y ∷ []) n ≡ true → (n ≡ x) ⊎ (n ≡ y)
two x y n e = go (is_same x n) refl e
  where
    go : (test : Bool) → is_same x n ≡ test → (test || is_of (y ∷ []) n) ≡ true → (n ≡ x) ⊎ (n ≡ y)
    go true same e = inl (sym (same_is x n same))
    go false same e = inr (one y n e)

-- from a place that one follows
single : (track : Track) (x a b : ℕ) → is_of (x ∷ []) a ≡ true → is_of (x ∷ []) b ≡ true → (a ≡ b) ⊎ IsFork track a b
single track x a b e f = inl (one x a e ∙ sym (one x b f))

none : (track : Track) (a b : ℕ) → false ≡ true → false ≡ true → (a ≡ b) ⊎ IsFork track a b
none track a b e f = absurd (cc (e))

-- of a path of two places
by_pair : (P : ℕ → ℕ → Type 0) (x y a b : ℕ) → IsNext a b (x ∷ y ∷ []) → P x y → P a b
by_pair P x y a b (inl e) p = subst (λ (n : ℕ). P n b) e.0 (subst (λ (m : ℕ). P x m) e.1 p)
by_pair P x y a b (inr (inl e)) p = absurd e.1
by_pair P x y a b (inr (inr e)) p = absurd e

alone : (x a b : ℕ) → IsNext a b (x ∷ []) → ⊥
alone x a b (inl e) = e.1
alone x a b (inr e) = e

short : (x place next : ℕ) (after : List ℕ) → IsEnd place (next ∷ after) (x ∷ []) → ⊥
short x place next after (inl e) = cc (e.1)
short x place next after (inr e) = e

last_of_two : (x y place next again : ℕ) (after : List ℕ) → IsEnd place (next ∷ after) (x ∷ y ∷ []) → IsOf again after → ⊥
last_of_two x y place next again after (inl e) of = go after (cc (e.1)) of
  where
    go : (list : List ℕ) → [] ≡ list → IsOf again list → ⊥
    go [] same of = of
    go (first ∷ later) same of = cc (same)
last_of_two x y place next again after (inr (inl e)) of = cc (e.1)
last_of_two x y place next again after (inr (inr e)) of = e

pub line_sound : IsSound line
line_sound = record {
  one_way = places (λ place. (a b : ℕ) → line.follows place a ≡ true → line.follows place b ≡ true → (a ≡ b) ⊎ IsFork line a b)
      (single line 2) (none line) (single line 4) (single line 1) (none line) (single line 3) (none line) (none line) (none line) (none line) (λ n. none line);
  own = λ place point over. absurd (cc (over));
  turned_section = places (λ place. line.section (line.turned place) ≡ line.section place) refl refl refl refl refl refl refl refl refl refl (λ n. refl);
  turned_point = λ place. refl;
  turned_leg = λ place. refl;
  begins = λ route place. places (λ place. (route : ℕ) → line.signal place ≡ Some (line.entry route) → line.follows place (line.first route) ≡ true)
      (below (λ route. line.signal 0 ≡ Some (line.entry route) → line.follows 0 (line.first route) ≡ true) (λ e. refl) (λ e. absurd (cc (e))) (λ e. absurd (cc (e))) (λ e. absurd (cc (e))) (λ n e. absurd (cc (e))))
      (λ route e. absurd (cc (e)))
      (below (λ route. line.signal 2 ≡ Some (line.entry route) → line.follows 2 (line.first route) ≡ true) (λ e. absurd (cc (e))) (λ e. absurd (cc (e))) (λ e. refl) (λ e. absurd (cc (e))) (λ n e. absurd (cc (e))))
      (below (λ route. line.signal 3 ≡ Some (line.entry route) → line.follows 3 (line.first route) ≡ true) (λ e. absurd (cc (e))) (λ e. refl) (λ e. absurd (cc (e))) (λ e. absurd (cc (e))) (λ n e. absurd (cc (e))))
      (λ route e. absurd (cc (e)))
      (below (λ route. line.signal 5 ≡ Some (line.entry route) → line.follows 5 (line.first route) ≡ true) (λ e. absurd (cc (e))) (λ e. absurd (cc (e))) (λ e. absurd (cc (e))) (λ e. refl) (λ n e. absurd (cc (e))))
      (λ route e. absurd (cc (e))) (λ route e. absurd (cc (e))) (λ route e. absurd (cc (e))) (λ route e. absurd (cc (e))) (λ n route e. absurd (cc (e))) place route;
  leads = λ route a b next. absurd (alone (line.first route) a b next);
  between = λ route a b next. absurd (alone (line.first route) a b next);
  ends = λ route place next. below (λ route. IsLast place (path line route) → line.signal place ≡ None → line.follows place next ≡ true → ⊥)
      (λ last e. absurd (cc (e, ap line.signal last))) (λ last e f. cc (f, ap (λ p. line.follows p next) last)) (λ last e f. cc (f, ap (λ p. line.follows p next) last))
      (λ last e. absurd (cc (e, ap line.signal last))) (λ n last e f. cc (f, ap (λ p. line.follows p next) last)) route;
  once = λ route place next again after ends of. absurd (short (line.first route) place next after ends);
  one_entrance = λ route a b c d next. absurd (alone (line.first route) a b next);
  not_back = λ route a b next. absurd (alone (line.first route) a b next);
  one_begin = λ a b. below (λ a. (b : ℕ) → line.entry a ≡ line.entry b → line.section (line.first a) ≡ line.section (line.first b))
      (below (λ b. line.entry 0 ≡ line.entry b → line.section (line.first 0) ≡ line.section (line.first b)) (λ e. refl) (λ e. absurd (cc (e))) (λ e. absurd (cc (e))) (λ e. absurd (cc (e))) (λ n e. absurd (cc (e))))
      (below (λ b. line.entry 1 ≡ line.entry b → line.section (line.first 1) ≡ line.section (line.first b)) (λ e. absurd (cc (e))) (λ e. refl) (λ e. absurd (cc (e))) (λ e. absurd (cc (e))) (λ n e. absurd (cc (e))))
      (below (λ b. line.entry 2 ≡ line.entry b → line.section (line.first 2) ≡ line.section (line.first b)) (λ e. absurd (cc (e))) (λ e. absurd (cc (e))) (λ e. refl) (λ e. absurd (cc (e))) (λ n e. absurd (cc (e))))
      (below (λ b. line.entry 3 ≡ line.entry b → line.section (line.first 3) ≡ line.section (line.first b)) (λ e. absurd (cc (e))) (λ e. absurd (cc (e))) (λ e. absurd (cc (e))) (λ e. refl) (λ n e. absurd (cc (e))))
      (λ n. below (λ b. 9 ≡ line.entry b → line.section 9 ≡ line.section (line.first b)) (λ e. absurd (cc (e))) (λ e. absurd (cc (e))) (λ e. absurd (cc (e))) (λ e. absurd (cc (e))) (λ n e. refl)) a b;
  throat_leads = λ border a b. below (λ border. IsNext a b (line.throat border) → line.follows a b ≡ true) (λ next. absurd (alone 0 a b next)) (λ next. absurd (alone 5 a b next))
      (λ next. absurd next) (λ next. absurd next) (λ n next. absurd next) border;
  throat_ends = λ border place. below (λ border. IsLast place (line.throat border) → line.signal place ≢ None) (λ last e. cc (e, ap line.signal last)) (λ last e. cc (e, ap line.signal last))
      (λ last. absurd last) (λ last. absurd last) (λ n last. absurd last) border;
  throat_plain = λ border place of. refl;
}

pub small_sound : IsSound small
small_sound = record {
  one_way = places (λ place. (a b : ℕ) → small.follows place a ≡ true → small.follows place b ≡ true → (a ≡ b) ⊎ IsFork small a b)
      fork (none small) (single small 8) (single small 1) (single small 6) (single small 1) (none small) (single small 5) (none small) (single small 3) (λ n. none small);
  own = places (λ place. (point : ℕ) → small.point place ≡ Some point → small.own point ≡ small.section place)
      (λ point e. absurd (cc (e))) (λ point e. absurd (cc (e))) (λ point e. refl) (λ point e. refl) (λ point e. refl) (λ point e. refl)
      (λ point e. absurd (cc (e))) (λ point e. absurd (cc (e))) (λ point e. absurd (cc (e))) (λ point e. absurd (cc (e))) (λ n point e. absurd (cc (e)));
  turned_section = places (λ place. small.section (small.turned place) ≡ small.section place) refl refl refl refl refl refl refl refl refl refl (λ n. refl);
  turned_point = places (λ place. small.point (small.turned place) ≡ small.point place) refl refl refl refl refl refl refl refl refl refl (λ n. refl);
  turned_leg = places (λ place. small.leg (small.turned place) ≡ small.leg place) refl refl refl refl refl refl refl refl refl refl (λ n. refl);
  begins = λ route place. places (λ place. (route : ℕ) → small.signal place ≡ Some (small.entry route) → small.follows place (small.first route) ≡ true)
      (below (λ route. small.signal 0 ≡ Some (small.entry route) → small.follows 0 (small.first route) ≡ true) (λ e. refl) (λ e. refl) (λ e. absurd (cc (e))) (λ e. absurd (cc (e))) (λ n e. absurd (cc (e))))
      (λ route e. absurd (cc (e)))
      (λ route e. absurd (cc (e)))
      (λ route e. absurd (cc (e)))
      (λ route e. absurd (cc (e)))
      (λ route e. absurd (cc (e)))
      (λ route e. absurd (cc (e)))
      (below (λ route. small.signal 7 ≡ Some (small.entry route) → small.follows 7 (small.first route) ≡ true) (λ e. absurd (cc (e))) (λ e. absurd (cc (e))) (λ e. refl) (λ e. absurd (cc (e))) (λ n e. absurd (cc (e))))
      (λ route e. absurd (cc (e)))
      (below (λ route. small.signal 9 ≡ Some (small.entry route) → small.follows 9 (small.first route) ≡ true) (λ e. absurd (cc (e))) (λ e. absurd (cc (e))) (λ e. absurd (cc (e))) (λ e. refl) (λ n e. absurd (cc (e))))
      (λ n route e. absurd (cc (e))) place route;
  leads = λ route a b. below (λ route. IsNext a b (path small route) → small.follows a b ≡ true)
      (λ next. by_pair (λ a b. small.follows a b ≡ true) 2 8 a b next refl) (λ next. by_pair (λ a b. small.follows a b ≡ true) 4 6 a b next refl)
      (λ next. by_pair (λ a b. small.follows a b ≡ true) 5 1 a b next refl) (λ next. by_pair (λ a b. small.follows a b ≡ true) 3 1 a b next refl)
      (λ n next. absurd (alone 99 a b next)) route;
  between = λ route a b. below (λ route. IsNext a b (path small route) → small.signal a ≡ None)
      (λ next. by_pair (λ a b. small.signal a ≡ None) 2 8 a b next refl) (λ next. by_pair (λ a b. small.signal a ≡ None) 4 6 a b next refl)
      (λ next. by_pair (λ a b. small.signal a ≡ None) 5 1 a b next refl) (λ next. by_pair (λ a b. small.signal a ≡ None) 3 1 a b next refl)
      (λ n next. absurd (alone 99 a b next)) route;
  ends = λ route place next. below (λ route. IsLast place (path small route) → small.signal place ≡ None → small.follows place next ≡ true → ⊥)
      (λ last e f. cc (f, ap (λ p. small.follows p next) last)) (λ last e f. cc (f, ap (λ p. small.follows p next) last))
      (λ last e f. cc (f, ap (λ p. small.follows p next) last)) (λ last e f. cc (f, ap (λ p. small.follows p next) last))
      (λ n last e f. cc (f, ap (λ p. small.follows p next) last)) route;
  once = λ route place next again after. below (λ route. IsEnd place (next ∷ after) (path small route) → IsOf again after → small.section again ≡ small.section place
      → small.section next ≡ small.section place)
      (λ end of. absurd (last_of_two 2 8 place next again after end of)) (λ end of. absurd (last_of_two 4 6 place next again after end of))
      (λ end of. absurd (last_of_two 5 1 place next again after end of)) (λ end of. absurd (last_of_two 3 1 place next again after end of))
      (λ n end. absurd (short 99 place next after end)) route;
  one_entrance = λ route a b c d. below (λ route. IsNext a b (path small route) → IsNext c d (path small route) → small.section b ≡ small.section d
      → small.section a ≢ small.section b → small.section c ≢ small.section d → small.section a ≡ small.section c)
      (λ ab cd. same_entrance 2 8 a b c d ab cd) (λ ab cd. same_entrance 4 6 a b c d ab cd) (λ ab cd. same_entrance 5 1 a b c d ab cd) (λ ab cd. same_entrance 3 1 a b c d ab cd)
      (λ n ab. absurd (alone 99 a b ab)) route;
  not_back = λ route a b. below (λ route. IsNext a b (path small route) → small.section a ≢ small.section b → small.section b ≢ small.section (small.first route))
      (λ next. by_pair (λ a b. small.section a ≢ small.section b → small.section b ≢ 1) 2 8 a b next (λ differs same. cc (same)))
      (λ next. by_pair (λ a b. small.section a ≢ small.section b → small.section b ≢ 1) 4 6 a b next (λ differs same. cc (same)))
      (λ next. by_pair (λ a b. small.section a ≢ small.section b → small.section b ≢ 1) 5 1 a b next (λ differs same. cc (same)))
      (λ next. by_pair (λ a b. small.section a ≢ small.section b → small.section b ≢ 1) 3 1 a b next (λ differs same. cc (same)))
      (λ n next. absurd (alone 99 a b next)) route;
  one_begin = λ a b. below (λ a. (b : ℕ) → small.entry a ≡ small.entry b → small.section (small.first a) ≡ small.section (small.first b))
      (below (λ b. small.entry 0 ≡ small.entry b → small.section (small.first 0) ≡ small.section (small.first b)) (λ e. refl) (λ e. refl) (λ e. absurd (cc (e))) (λ e. absurd (cc (e))) (λ n e. absurd (cc (e))))
      (below (λ b. small.entry 1 ≡ small.entry b → small.section (small.first 1) ≡ small.section (small.first b)) (λ e. refl) (λ e. refl) (λ e. absurd (cc (e))) (λ e. absurd (cc (e))) (λ n e. absurd (cc (e))))
      (below (λ b. small.entry 2 ≡ small.entry b → small.section (small.first 2) ≡ small.section (small.first b)) (λ e. absurd (cc (e))) (λ e. absurd (cc (e))) (λ e. refl) (λ e. absurd (cc (e))) (λ n e. absurd (cc (e))))
      (below (λ b. small.entry 3 ≡ small.entry b → small.section (small.first 3) ≡ small.section (small.first b)) (λ e. absurd (cc (e))) (λ e. absurd (cc (e))) (λ e. absurd (cc (e))) (λ e. refl) (λ n e. absurd (cc (e))))
      (λ n. below (λ b. 9 ≡ small.entry b → small.section 99 ≡ small.section (small.first b)) (λ e. absurd (cc (e))) (λ e. absurd (cc (e))) (λ e. absurd (cc (e))) (λ e. absurd (cc (e))) (λ n e. refl)) a b;
  throat_leads = λ border a b. below (λ border. IsNext a b (small.throat border) → small.follows a b ≡ true) (λ next. absurd (alone 0 a b next)) (λ next. absurd (alone 7 a b next))
      (λ next. absurd (alone 9 a b next)) (λ next. absurd next) (λ n next. absurd next) border;
  throat_ends = λ border place. below (λ border. IsLast place (small.throat border) → small.signal place ≢ None) (λ last e. cc (e, ap small.signal last)) (λ last e. cc (e, ap small.signal last))
      (λ last e. cc (e, ap small.signal last)) (λ last. absurd last) (λ n last. absurd last) border;
  throat_plain = λ border place. below (λ border. IsOf place (small.throat border) → small.point place ≡ None) (λ of. plain 0 place refl of) (λ of. plain 7 place refl of)
      (λ of. plain 9 place refl of) (λ of. absurd of) (λ n of. absurd of) border;
}
  where
    fork : (a b : ℕ) → is_of (2 ∷ 4 ∷ []) a ≡ true → is_of (2 ∷ 4 ∷ []) b ≡ true → (a ≡ b) ⊎ IsFork small a b
    fork a b e f = go (two 2 4 a e) (two 2 4 b f)
      where
        go : (a ≡ 2) ⊎ (a ≡ 4) → (b ≡ 2) ⊎ (b ≡ 4) → (a ≡ b) ⊎ IsFork small a b
        go (inl x) (inl y) = inl (x ∙ sym y)
        go (inl x) (inr y) = inr (subst (λ (n : ℕ). IsFork small n b) (sym x) (subst (λ (m : ℕ). IsFork small 2 m) (sym y)
            record { point = 0; over_a = refl; over_b = refl; facing = refl; legs = λ l. cc (l) }))
        go (inr x) (inl y) = inr (subst (λ (n : ℕ). IsFork small n b) (sym x) (subst (λ (m : ℕ). IsFork small 4 m) (sym y)
            record { point = 0; over_a = refl; over_b = refl; facing = refl; legs = λ l. cc (l) }))
        go (inr x) (inr y) = inl (x ∙ sym y)

    same_entrance : (x y a b c d : ℕ) → IsNext a b (x ∷ y ∷ []) → IsNext c d (x ∷ y ∷ []) → small.section b ≡ small.section d
        → small.section a ≢ small.section b → small.section c ≢ small.section d → small.section a ≡ small.section c
    same_entrance x y a b c d ab cd same differs others = by_pair (λ a b. small.section a ≡ small.section c) x y a b ab (by_pair (λ c d. small.section x ≡ small.section c) x y c d cd refl)

    plain : (x place : ℕ) → small.point x ≡ None → IsOf place (x ∷ []) → small.point place ≡ None
    plain x place e (inl same) = subst (λ (n : ℕ). small.point n ≡ None) same e
    plain x place e (inr of) = absurd of

pub joined_sound : IsSound joined
joined_sound = record {
  one_way = places (λ place. (a b : ℕ) → joined.follows place a ≡ true → joined.follows place b ≡ true → (a ≡ b) ⊎ IsFork joined a b)
      (single joined 2) (none joined) (single joined 6) (single joined 1) (none joined) (none joined) (none joined) (single joined 3) (none joined) (none joined) (λ n. none joined);
  own = λ place point over. absurd (cc (over));
  turned_section = places (λ place. joined.section (joined.turned place) ≡ joined.section place) refl refl refl refl refl refl refl refl refl refl (λ n. refl);
  turned_point = λ place. refl;
  turned_leg = λ place. refl;
  begins = λ route place. places (λ place. (route : ℕ) → joined.signal place ≡ Some (joined.entry route) → joined.follows place (joined.first route) ≡ true)
      (λ route e. absurd (cc (e)))
      (λ route e. absurd (cc (e)))
      (below (λ route. joined.signal 2 ≡ Some (joined.entry route) → joined.follows 2 (joined.first route) ≡ true) (λ e. refl) (λ e. absurd (cc (e))) (λ e. absurd (cc (e))) (λ e. absurd (cc (e))) (λ n e. absurd (cc (e))))
      (below (λ route. joined.signal 3 ≡ Some (joined.entry route) → joined.follows 3 (joined.first route) ≡ true) (λ e. absurd (cc (e))) (λ e. absurd (cc (e))) (λ e. absurd (cc (e))) (λ e. absurd (cc (e))) (λ n e. absurd (cc (e))))
      (below (λ route. joined.signal 4 ≡ Some (joined.entry route) → joined.follows 4 (joined.first route) ≡ true) (λ e. absurd (cc (e))) (λ e. absurd (cc (e))) (λ e. absurd (cc (e))) (λ e. absurd (cc (e))) (λ n e. absurd (cc (e))))
      (λ route e. absurd (cc (e)))
      (λ route e. absurd (cc (e)))
      (below (λ route. joined.signal 7 ≡ Some (joined.entry route) → joined.follows 7 (joined.first route) ≡ true) (λ e. absurd (cc (e))) (λ e. refl) (λ e. absurd (cc (e))) (λ e. absurd (cc (e))) (λ n e. absurd (cc (e))))
      (λ route e. absurd (cc (e)))
      (λ route e. absurd (cc (e)))
      (λ n route e. absurd (cc (e))) place route;
  leads = λ route a b next. absurd (alone (joined.first route) a b next);
  between = λ route a b next. absurd (alone (joined.first route) a b next);
  ends = λ route place next. below (λ route. IsLast place (path joined route) → joined.signal place ≡ None → joined.follows place next ≡ true → ⊥)
      (λ last e f. cc (f, ap (λ p. joined.follows p next) last)) (λ last e. absurd (cc (e, ap joined.signal last))) (λ last e f. cc (f, ap (λ p. joined.follows p next) last))
      (λ last e f. cc (f, ap (λ p. joined.follows p next) last)) (λ n last e f. cc (f, ap (λ p. joined.follows p next) last)) route;
  once = λ route place next again after ends of. absurd (short (joined.first route) place next after ends);
  one_entrance = λ route a b c d next. absurd (alone (joined.first route) a b next);
  not_back = λ route a b next. absurd (alone (joined.first route) a b next);
  one_begin = λ a b. below (λ a. (b : ℕ) → joined.entry a ≡ joined.entry b → joined.section (joined.first a) ≡ joined.section (joined.first b))
      (below (λ b. joined.entry 0 ≡ joined.entry b → joined.section (joined.first 0) ≡ joined.section (joined.first b)) (λ e. refl) (λ e. absurd (cc (e))) (λ e. absurd (cc (e))) (λ e. absurd (cc (e))) (λ n e. absurd (cc (e))))
      (below (λ b. joined.entry 1 ≡ joined.entry b → joined.section (joined.first 1) ≡ joined.section (joined.first b)) (λ e. absurd (cc (e))) (λ e. refl) (λ e. absurd (cc (e))) (λ e. absurd (cc (e))) (λ n e. absurd (cc (e))))
      (below (λ b. joined.entry 2 ≡ joined.entry b → joined.section (joined.first 2) ≡ joined.section (joined.first b)) (λ e. absurd (cc (e))) (λ e. absurd (cc (e))) (λ e. refl) (λ e. refl) (λ n e. refl))
      (below (λ b. joined.entry 3 ≡ joined.entry b → joined.section (joined.first 3) ≡ joined.section (joined.first b)) (λ e. absurd (cc (e))) (λ e. absurd (cc (e))) (λ e. refl) (λ e. refl) (λ n e. refl))
      (λ n. below (λ b. 9 ≡ joined.entry b → joined.section 9 ≡ joined.section (joined.first b)) (λ e. absurd (cc (e))) (λ e. absurd (cc (e))) (λ e. refl) (λ e. refl) (λ n e. refl)) a b;
  throat_leads = λ border a b. below (λ border. IsNext a b (joined.throat border) → joined.follows a b ≡ true)
      (λ next. by_pair (λ a b. joined.follows a b ≡ true) 0 2 a b next refl) (λ next. absurd (alone 4 a b next))
      (λ next. absurd next) (λ next. absurd next) (λ n next. absurd next) border;
  throat_ends = λ border place. below (λ border. IsLast place (joined.throat border) → joined.signal place ≢ None) (λ last e. cc (e, ap joined.signal last)) (λ last e. cc (e, ap joined.signal last))
      (λ last. absurd last) (λ last. absurd last) (λ n last. absurd last) border;
  throat_plain = λ border place of. refl;
}
