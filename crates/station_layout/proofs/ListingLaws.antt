-- Lists grow place by place, and have the texts of what belongs to them, and no others.
use Rattle.std.proofs.Common.{◌≡◌, ◌⊎◌, ℕ, zero, suc, ◌+◌, ◌<◌, ◌≤◌, Bool, false, IsUtf8, List, [], ◌∷◌, ◌++◌, length, refl, inl, inr, sym, ap, subst, ◌∙◌, IsTrue, ◌↔◌, arith}
use Rattle.std.proofs.lemmas.Bool.{cases_lt, false≢true}
use Rattle.std.proofs.lemmas.List.{append-nil}
use Rattle.std.proofs.lemmas.List.Elements.{Contains-append_cases, Contains-append_left, Contains-append_right, Contains-push, Contains-push_cases}
use Rattle.std.specs.List.{Contains}
use Rattle.control_table.specs.layout.declared.ids.RouteId.{RouteId}
use Rattle.control_table.specs.layout.Entries.{Site}
use Rattle.control_table.specs.Table.{Conflict}
use Rattle.station_layout.specs.inside.Joined.{joined, next_before}
use Rattle.station_layout.specs.ListedPlaces.{ListsBelow, ListsOne, TellsIf}
use Rattle.station_layout.specs.Row.{IsConflictText, TellsConflicts, route_at}
use Rattle.station_layout.proofs.Joined.{between_next, one_more}

-- ---- one place

-- what was added to a list of texts
abbrev pub Adds : Type 0 → (List ℕ → Type 0) → List (List ℕ) → List (List ℕ) → Type 0
Adds Belongs IsText old new = (part : List (List ℕ)) × TellsIf Belongs IsText part × (new ≡ old ++ part)

-- ---- whether some place belongs to a list

module _ (Belongs : ℕ → Type 0) where
  -- of no place so far, and not of the next
  pub none_more : (n : ℕ) (result : Bool) → ((k : ℕ) → k < n → Belongs k → ⊥) → IsTrue result ↔ Belongs n → result ≡ false → (k : ℕ) → k < n + 1 → Belongs k → ⊥
  none_more n result none decides out k less belongs = by_order (cases_lt k n) where
    by_order : (k < n) ⊎ (n ≤ k) → ⊥
    by_order (inl before) = none k before belongs
    by_order (inr behind) =
        let same : k ≡ n = omega (arith, less, behind)
        in false≢true (sym out ∙ decides.1 (subst Belongs same belongs))

  -- of some of the first places, or of none
  pub one_or_none : (n : ℕ) → ((k : ℕ) → k < n → Belongs k ⊎ (Belongs k → ⊥)) → ListsOne Belongs n ⊎ ((k : ℕ) → k < n → Belongs k → ⊥)
  one_or_none zero decides = inr (λ k less belongs. omega (arith, less))
  one_or_none (suc n) decides = elim (one_or_none n (λ k less. decides k (omega (arith, less)))) [
    | inl one ↦ let less = one.1 in inl (one.0, omega (arith, less), one.2)
    | inr none ↦ elim (decides n (omega arith)) [
      | inl belongs ↦ inl (n, omega arith, belongs)
      | inr never ↦
          let step : n + 1 ≡ suc n = omega arith
          in inr (λ k less. none_more n false none ((λ yes. absurd (false≢true yes)), (λ belongs. absurd (never belongs))) refl k (omega (arith, less, step)))
    ]
  ]

-- ---- all places

module _ (Belongs : ℕ → Type 0) (IsText : ℕ → List ℕ → Type 0) where
  pub lists_none : ListsBelow Belongs IsText 0 []
  unfolding ListsBelow
  lists_none = refl

  pub lists_more : (k : ℕ) (front all : List (List ℕ)) → ListsBelow Belongs IsText k front → Adds (Belongs k) (IsText k) front all → ListsBelow Belongs IsText (k + 1) all
  unfolding ListsBelow
  lists_more k front all below adds =
      let n : k + 1 ≡ suc k = omega arith in
      rw n (front, adds.0, below, adds.1, adds.2)

  none_there : (text : List ℕ) → Contains [] text → ⊥
  none_there text has = let lt = has.1 in absurd (omega (arith, lt))

  only_one : (one text : List ℕ) → Contains (one ∷ []) text → one ≡ text
  only_one one text has = elim (Contains-push_cases [] one text has) [ inl empty ↦ absurd (none_there text empty) | inr same ↦ same ]

  -- what belongs to the list is told there
  pub told_at : (n k : ℕ) (texts : List (List ℕ)) → ListsBelow Belongs IsText n texts → k < n → Belongs k → (text : List ℕ) × IsText k text × Contains texts text
  unfolding ListsBelow
  told_at zero k texts below lt belongs = absurd (omega (arith, lt))
  told_at (suc n) k texts below lt belongs = elim (cases_lt k n) [
    | inl less ↦
        let told = told_at n k below.0 below.2 less belongs in
        (told.0, told.1, subst (λ xs. Contains xs told.0) (sym below.4) (Contains-append_left below.0 below.1 told.0 told.2))
    | inr le ↦
        let same : k ≡ n = omega (arith, lt, le) in
        last_told n k texts below.0 below.1 same belongs below.3 below.4
  ]
    where
      last_told : (n k : ℕ) (texts front last : List (List ℕ)) → k ≡ n → Belongs k → TellsIf (Belongs n) (IsText n) last → texts ≡ front ++ last
          → (text : List ℕ) × IsText k text × Contains texts text
      last_told n k texts front last same belongs (inl belongs_too) is =
          let here : Contains last belongs_too.1.0 = subst (λ xs. Contains xs belongs_too.1.0) (sym belongs_too.1.2) (Contains-push [] belongs_too.1.0) in
          let T : ℕ → Type 0 = λ j. IsText j belongs_too.1.0 in
          (belongs_too.1.0, subst T (sym same) belongs_too.1.1, subst (λ xs. Contains xs belongs_too.1.0) (sym is) (Contains-append_right front last belongs_too.1.0 here))
      last_told n k texts front last same belongs (inr none) is = absurd (none.0 (subst Belongs same belongs))

  -- the list tells whether a place belongs to it
  pub tells_whether : (n k : ℕ) (texts : List (List ℕ)) → ListsBelow Belongs IsText n texts → k < n → ((text : List ℕ) × IsText k text × Belongs k) ⊎ (Belongs k → ⊥)
  unfolding ListsBelow
  tells_whether zero k texts below lt = absurd (omega (arith, lt))
  tells_whether (suc n) k texts below lt = elim (cases_lt k n) [
    | inl less ↦ tells_whether n k below.0 below.2 less
    | inr le ↦
        let same : k ≡ n = omega (arith, lt, le) in
        last_tells n k below.1 same below.3
  ]
    where
      last_tells : (n k : ℕ) (last : List (List ℕ)) → k ≡ n → TellsIf (Belongs n) (IsText n) last → ((text : List ℕ) × IsText k text × Belongs k) ⊎ (Belongs k → ⊥)
      last_tells n k last same (inl belongs_too) =
          let T : ℕ → Type 0 = λ j. IsText j belongs_too.1.0 in
          inl (belongs_too.1.0, subst T (sym same) belongs_too.1.1, subst Belongs (sym same) belongs_too.0)
      last_tells n k last same (inr none) = inr (λ belongs. none.0 (subst Belongs same belongs))

  -- what is told there belongs to the list
  pub told_belongs : (n : ℕ) (texts : List (List ℕ)) → ListsBelow Belongs IsText n texts → (text : List ℕ) → Contains texts text → (k : ℕ) × (k < n) × Belongs k × IsText k text
  unfolding ListsBelow
  told_belongs zero texts below text has = absurd (none_there text (subst (λ xs. Contains xs text) below has))
  told_belongs (suc n) texts below text has = elim (Contains-append_cases below.0 below.1 text (subst (λ xs. Contains xs text) below.4 has)) [
    | inl front ↦
        let told = told_belongs n below.0 below.2 text front in
        let lt = told.1 in
        (told.0, omega (arith, lt), told.2, told.3)
    | inr last ↦ last_belongs n below.1 text last below.3
  ]
    where
      last_belongs : (n : ℕ) (last : List (List ℕ)) (text : List ℕ) → Contains last text → TellsIf (Belongs n) (IsText n) last → (k : ℕ) × (k < suc n) × Belongs k × IsText k text
      last_belongs n last text has (inl belongs_too) =
          let same : belongs_too.1.0 ≡ text = only_one belongs_too.1.0 text (subst (λ xs. Contains xs text) belongs_too.1.2 has) in
          (n, omega arith, belongs_too.0, subst (IsText n) same belongs_too.1.1)
      last_belongs n last text has (inr none) = absurd (none_there text (subst (λ xs. Contains xs text) none.1 has))

  -- a list without a text has no place that belongs to it
  pub none_told : (n : ℕ) (texts : List (List ℕ)) → ListsBelow Belongs IsText n texts → texts ≡ [] → ListsOne Belongs n → ⊥
  none_told n texts below empty one =
      let told = told_at n one.0 texts below one.1 one.2 in
      none_there told.0 (subst (λ xs. Contains xs told.0) empty told.2)

  -- any other has one
  pub one_told : (n : ℕ) (texts : List (List ℕ)) → ListsBelow Belongs IsText n texts → (texts ≡ [] → ⊥) → ListsOne Belongs n
  one_told n [] below some = absurd (some refl)
  one_told n (text ∷ more) below some =
      let told = told_belongs n (text ∷ more) below text (0, omega arith, refl) in
      (told.0, told.1, told.2)

-- ---- a text that grows

-- A text has those of the first n places that belong to a list, one after the other, and this stands before the next.
pub record IsListed (Belongs : ℕ → Type 0) (IsText : ℕ → List ℕ → Type 0) (first between : List ℕ) (n : ℕ) (text before : List ℕ) : Type 0 where
  pub texts : List (List ℕ)
  pub below : ListsBelow Belongs IsText n texts
  pub is : text ≡ joined first between texts
  pub next : before ≡ next_before first between texts
  pub valid : IsUtf8 before

module _ (Belongs : ℕ → Type 0) (IsText : ℕ → List ℕ → Type 0) (first between : List ℕ) where
  pub listed_none : (text : List ℕ) → text ≡ [] → IsUtf8 first → IsListed Belongs IsText first between 0 text first
  listed_none text none valid = record { texts = []; below = lists_none Belongs IsText; is = none; next = refl; valid = valid }

  pub listed_one : (n : ℕ) (old before text new : List ℕ) → IsListed Belongs IsText first between n old before → Belongs n → IsText n text → new ≡ old ++ (before ++ text) → IsUtf8 between
      → IsListed Belongs IsText first between (n + 1) new between
  listed_one n old before text new so_far belongs is adds valid = record {
    texts = so_far.texts ++ text ∷ [];
    below = lists_more Belongs IsText n so_far.texts (so_far.texts ++ text ∷ []) so_far.below (text ∷ [], inl (belongs, (text, is, refl)), refl);
    is =
        adds ∙ ap (λ front. front ++ (before ++ text)) so_far.is ∙ ap (λ next. joined first between so_far.texts ++ (next ++ text)) so_far.next
        ∙ sym (one_more first between so_far.texts text);
    next = between_next first between text so_far.texts;
    valid = valid;
  }

  pub listed_not : (n : ℕ) (text before : List ℕ) → IsListed Belongs IsText first between n text before → (Belongs n → ⊥) → IsListed Belongs IsText first between (n + 1) text before
  listed_not n text before so_far never = record {
    texts = so_far.texts;
    below = lists_more Belongs IsText n so_far.texts so_far.texts so_far.below ([], inr (never, refl), sym (append-nil so_far.texts));
    is = so_far.is;
    next = so_far.next;
    valid = so_far.valid;
  }

-- ---- conflicts

pub conflict_told : (l : Site) (a : RouteId) (texts : List (List ℕ)) → TellsConflicts l a texts → (b : RouteId) → b.0 < length l.routes → Conflict l a b
    → (text : List ℕ) × IsConflictText l a b text × Contains texts text
conflict_told l a texts tells b lt conflict = told_at (λ k. Conflict l a (route_at k)) (λ k. IsConflictText l a (route_at k)) (length l.routes) b.0 texts tells lt conflict

pub told_conflicts : (l : Site) (a : RouteId) (texts : List (List ℕ)) → TellsConflicts l a texts → (text : List ℕ) → Contains texts text → (b : RouteId) × Conflict l a b × IsConflictText l a b text
told_conflicts l a texts tells text has =
    let told = told_belongs (λ k. Conflict l a (route_at k)) (λ k. IsConflictText l a (route_at k)) (length l.routes) texts tells text has in
    (route_at told.0, told.2, told.3)
