-- Lists that loops build one item after the other.
use Rattle.std.proofs.Common.{◌≡◌, Bool, true, false, ℕ, suc, ◌+◌, ◌≤◌, ◌<◌, List, [], ◌∷◌, ◌++◌, length, get_or, drop, Some, None, Result, Ok, Err, refl, sym, ap, subst, ◌∙◌, append_assoc, arith}
use Rattle.std.proofs.lemmas.List.{append-nil, drop_more, drop_all}
use Rattle.layout.specs.declared.port.Port.{Port}
use Rattle.layout.specs.declared.entries.Joint.{Joint}
use Rattle.layout.specs.declared.entries.Signal.{Signal}
use Rattle.layout.specs.declared.entries.Exit.{Exit}
use Rattle.layout.specs.Entries.{RouteEntry, Site}
use Rattle.std.specs.List.{list_any}
use Rattle.control_table.specs.declared.fault.TableFault.{TableFault}
use Rattle.control_table.specs.declared.fault.TableFault.TheVariants.{PathBroken, PathRepeats, PointMissing, PointWrong, FlankMissing, FlankOpen, FlankContradicts, SignalPlace, NotSymmetric, OutOfMemory}
use Rattle.control_table.specs.declared.fault.FaultyRoute.{FaultyRoute}
use Rattle.control_table.specs.Path.{Passage}
use Rattle.control_table.specs.declared.masks.RouteMasks.{RouteMasks}
use Rattle.control_table.specs.inside.TableTests.{◌>>=◌, Fails, AreWithin, IsWithin, masks_of, all_masks, passage_behind, passages, all_different, is_other_at, no_other_at, TableRow, row_of, rows_from}

-- what was made before, and what is still made
abbrev pub with_front : {B : Type 0} → List B → Result (List B) TableFault → Result (List B) TableFault
with_front front judged = judged >>= λ xs. Ok (front ++ xs)

pub regroup : {B : Type 0} (front : List B) (y : B) (judged : Result (List B) TableFault) → with_front front (judged >>= λ ys. Ok (y ∷ ys)) ≡ with_front (front ++ y ∷ []) judged
regroup front y (Ok ys) = ap Ok (sym (append_assoc front (y ∷ []) ys))
regroup front y (Err f) = refl

module _ (place : FaultyRoute) (joints : List Joint) (front : List Passage) (path : List Port) (i : ℕ) (d : Port) (before : Port) (total : Result (List Passage) TableFault) where
  pub passages-goes_on : (g : Passage) → i < length path → passage_behind joints before (get_or path i d) ≡ Some g
      → with_front front (passages place joints before (drop i path)) ≡ total
      → with_front (front ++ g ∷ []) (passages place joints (get_or path i d) (drop (i + 1) path)) ≡ total
  unfolding passages
  passages-goes_on g lt h so_far =
      let one : with_front front (passages place joints before (drop i path)) ≡ with_front (front ++ g ∷ []) (passages place joints (get_or path i d) (drop (i + 1) path)) = rw (drop_more path i d lt, h) (regroup front g (passages place joints (get_or path i d) (drop (i + 1) path))) in
      sym one ∙ so_far

  pub passages-ends : i < length path → passage_behind joints before (get_or path i d) ≡ None
      → with_front front (passages place joints before (drop i path)) ≡ total → total ≡ Err (PathBroken place)
  unfolding passages
  passages-ends lt h so_far =
      let one : with_front front (passages place joints before (drop i path)) ≡ Err (PathBroken place) = rw (drop_more path i d lt, h) refl in
      sym so_far ∙ one

  pub passages-is_done : length path ≤ i → with_front front (passages place joints before (drop i path)) ≡ total → total ≡ Ok front
  unfolding passages
  passages-is_done le so_far =
      let one : with_front front (passages place joints before (drop i path)) ≡ Ok front = rw (drop_all i path le) (ap Ok (append-nil front)) in
      sym so_far ∙ one

-- ---- items that differ

module _ {A : Type 0} (same : A → A → Bool) where
  pub different-goes_on : (rest others : List A) (x : A) (total : Bool) → rest ≡ x ∷ others → list_any (λ y. same y x) others ≡ false → all_different same rest ≡ total → all_different same others ≡ total
  unfolding all_different
  different-goes_on rest others x total split h so_far =
      let one : all_different same rest ≡ all_different same others = rw (split, h) refl in
      sym one ∙ so_far

  pub different-ends : (rest others : List A) (x : A) (total : Bool) → rest ≡ x ∷ others → list_any (λ y. same y x) others ≡ true → all_different same rest ≡ total → false ≡ total
  unfolding all_different
  different-ends rest others x total split h so_far =
      let one : all_different same rest ≡ false = rw (split, h) refl in
      sym one ∙ so_far

  pub different-is_done : (rest : List A) (total : Bool) → length rest ≡ 0 → all_different same rest ≡ total → true ≡ total
  unfolding all_different
  different-is_done [] total empty so_far = so_far
  different-is_done (x ∷ rest) total empty so_far = absurd (omega (arith, empty))

-- ---- signals

module _ (x : Exit) (p : Port) (signals : List Signal) (i : ℕ) (total : Bool) where
  pub other-goes_on : (s : Signal) → i < length signals → s ≡ get_or signals i s → is_other_at s (record { 0 = i }) x p ≡ false → no_other_at i (drop i signals) x p ≡ total → no_other_at (i + 1) (drop (i + 1) signals) x p ≡ total
  unfolding no_other_at
  other-goes_on s lt at h so_far =
      let n : i + 1 ≡ suc i = omega arith in
      let one : no_other_at i (drop i signals) x p ≡ no_other_at (i + 1) (drop (i + 1) signals) x p = rw (drop_more signals i s lt, ← at, h, n) refl in
      sym one ∙ so_far

  pub other-ends : (s : Signal) → i < length signals → s ≡ get_or signals i s → is_other_at s (record { 0 = i }) x p ≡ true → no_other_at i (drop i signals) x p ≡ total → false ≡ total
  unfolding no_other_at
  other-ends s lt at h so_far =
      let one : no_other_at i (drop i signals) x p ≡ false = rw (drop_more signals i s lt, ← at, h) refl in
      sym one ∙ so_far

  pub other-is_done : length signals ≤ i → no_other_at i (drop i signals) x p ≡ total → true ≡ total
  unfolding no_other_at
  other-is_done le so_far =
      let one : no_other_at i (drop i signals) x p ≡ true = rw (drop_all i signals le) refl in
      sym one ∙ so_far

-- ---- rows

pub failed : {A B : Type 0} (f : TableFault) (read : Result A TableFault) (total : Result B TableFault) → Fails f read → (read ≡ Err f → total ≡ Err f) → Fails f total
failed OutOfMemory read total h then = tt
failed (PathBroken p) read total h then = then h
failed (PathRepeats p) read total h then = then h
failed (PointMissing p) read total h then = then h
failed (PointWrong p) read total h then = then h
failed (FlankMissing p) read total h then = then h
failed (FlankOpen p) read total h then = then h
failed (FlankContradicts p) read total h then = then h
failed (SignalPlace p) read total h then = then h
failed (NotSymmetric p) read total h then = then h

module _ (l : Site) (front : List TableRow) (routes : List RouteEntry) (i : ℕ) (total : Result (List TableRow) TableFault) where
  pub rows-goes_on : (r : RouteEntry) (name : List ℕ) (row : TableRow) → i < length routes → r ≡ get_or routes i r → name ≡ r.name → row_of (record { id = record { 0 = i }; name = name }) l r ≡ Ok row
      → with_front front (rows_from l i (drop i routes)) ≡ total → with_front (front ++ row ∷ []) (rows_from l (i + 1) (drop (i + 1) routes)) ≡ total
  unfolding rows_from
  rows-goes_on r name row lt at named h so_far =
      let P : List ℕ → Type 0 = λ called. row_of (record { id = record { 0 = i }; name = called }) l r ≡ Ok row in
      let made : row_of (record { id = record { 0 = i }; name = r.name }) l r ≡ Ok row = subst P named h in
      let n : i + 1 ≡ suc i = omega arith in
      let one : with_front front (rows_from l i (drop i routes)) ≡ with_front (front ++ row ∷ []) (rows_from l (i + 1) (drop (i + 1) routes)) = rw (drop_more routes i r lt, ← at, made, n) (regroup front row (rows_from l (suc i) (drop (suc i) routes))) in
      sym one ∙ so_far

  pub rows-ends : (r : RouteEntry) (name : List ℕ) (f : TableFault) → i < length routes → r ≡ get_or routes i r → name ≡ r.name → Fails f (row_of (record { id = record { 0 = i }; name = name }) l r)
      → with_front front (rows_from l i (drop i routes)) ≡ total → Fails f total
  unfolding rows_from
  rows-ends r name f lt at named h so_far =
      let P : List ℕ → Type 0 = λ called. Fails f (row_of (record { id = record { 0 = i }; name = called }) l r) in
      failed f (row_of (record { id = record { 0 = i }; name = r.name }) l r) total (subst P named h) (λ e.
      let one : with_front front (rows_from l i (drop i routes)) ≡ Err f = rw (drop_more routes i r lt, ← at, e) refl in
      sym so_far ∙ one)

  pub rows-is_done : length routes ≤ i → with_front front (rows_from l i (drop i routes)) ≡ total → total ≡ Ok front
  unfolding rows_from
  rows-is_done le so_far =
      let one : with_front front (rows_from l i (drop i routes)) ≡ Ok front = rw (drop_all i routes le) (ap Ok (append-nil front)) in
      sym so_far ∙ one

module _ (routes : List RouteEntry) (rows : List TableRow) (i : ℕ) where
  pub masks-go_on : (front items : List RouteMasks) (r : RouteEntry) (row : TableRow) (m : RouteMasks) (total : List RouteMasks) → i < length rows → length rows ≡ length routes
      → r ≡ get_or routes i r → row ≡ get_or rows i row → m ≡ masks_of r row → items ≡ front ++ m ∷ []
      → front ++ all_masks (drop i routes) (drop i rows) ≡ total
      → items ++ all_masks (drop (i + 1) routes) (drop (i + 1) rows) ≡ total
  unfolding all_masks
  masks-go_on front items r row m total lt each at here is pushed so_far =
      let below : i < length routes = omega (arith, lt, each) in
      let one : front ++ all_masks (drop i routes) (drop i rows) ≡ front ++ masks_of r row ∷ all_masks (drop (i + 1) routes) (drop (i + 1) rows) =
      rw (drop_more routes i r below, drop_more rows i row lt, sym at, sym here) refl in
      ap (λ xs. xs ++ all_masks (drop (i + 1) routes) (drop (i + 1) rows)) pushed
      ∙ ap (λ x. (front ++ x ∷ []) ++ all_masks (drop (i + 1) routes) (drop (i + 1) rows)) is
      ∙ append_assoc front (masks_of r row ∷ []) (all_masks (drop (i + 1) routes) (drop (i + 1) rows)) ∙ sym one ∙ so_far

  pub within-goes_on : (r : RouteEntry) (row : TableRow) → i < length rows → length rows ≡ length routes → AreWithin (drop i routes) (drop i rows)
      → IsWithin (get_or routes i r) (get_or rows i row) × AreWithin (drop (i + 1) routes) (drop (i + 1) rows)
  within-goes_on r row lt each held =
      let below : i < length routes = omega (arith, lt, each) in
      subst (λ (xs : List RouteEntry). AreWithin xs (get_or rows i row ∷ drop (i + 1) rows)) (drop_more routes i r below) (subst (λ (ys : List TableRow). AreWithin (drop i routes) ys) (drop_more rows i row lt) held)

  pub masks-are_done : (front total : List RouteMasks) → length rows ≤ i → front ++ all_masks (drop i routes) (drop i rows) ≡ total → front ≡ total
  unfolding all_masks
  masks-are_done front total le so_far =
      sym (append-nil front) ∙ ap (λ ms. front ++ ms) (sym (no_more (drop i routes)) ∙ ap (λ ys. all_masks (drop i routes) ys) (sym (drop_all i rows le))) ∙ so_far
    where
      no_more : (rs : List RouteEntry) → all_masks rs [] ≡ []
      no_more [] = refl
      no_more (r ∷ rs) = refl
