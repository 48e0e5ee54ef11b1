-- A fault of the limits is at the first entry too many.
use Rattle.std.proofs.Common.{◌≡◌, ℕ, suc, ◌+◌, ◌≤◌, ◌&&◌, Bool, true, false, nat_le, List, [], ◌∷◌, ◌++◌, length, Ok, Err, if◌then◌else◌, refl, sym, ap, subst, ◌∙◌, inl, inr, ⊎_elim, append_assoc, leb-true, arith, rules}
use Rattle.std.proofs.lemmas.Bool.{leb-false}
use Rattle.layout_text.specs.declared.fault.LayoutFault.{LayoutFault}
use Rattle.layout_text.specs.declared.fault.LayoutFault.TheVariants.{Limit}
use Rattle.layout_text.specs.declared.fault.Place.{Place}
use Rattle.layout_text.specs.declared.fault.TableName.{TableName}
use Rattle.layout_text.specs.declared.fault.TableName.TheVariants as named
use Rattle.layout_text.specs.FirstFault.{Read, ◌>>=◌, each_of}
use Rattle.layout_text.specs.Limits.{at_most, all_within, detector_limit, route_limit, limits_of}
use Rattle.layout_text.specs.Written.{DetectorText, RouteText, LayoutText}
use Rattle.layout.specs.TooMany.{IsTooMany, EachFits, IsFirstUnfit, DetectorFits, RouteFits, IsFirstTooMany, KeepsLimits}
use Rattle.layout.proofs.Stepwise.{same_err, never, failed_at, came_from}

-- ---- a table that may hold so many entries

module _ (limit : ℕ) (table : TableName) (entries : ℕ) where
  too-many : (f : LayoutFault) → at_most limit table entries ≡ Err f → IsTooMany limit table entries f
  too-many f h = by_test (nat_le entries limit) refl h
    where
      place : Place
      place = record { table = table; entry = limit + 1 }

      by_test : (b : Bool) → nat_le entries limit ≡ b → ◌≡◌ {A = Read (Unit {0})} (if b then Ok tt else Err (Limit place)) (Err f) → IsTooMany limit table entries f
      by_test true e k = never tt f k
      by_test false e k = (leb-false entries limit e, sym (same_err {A = Unit {0}} (Limit place) f k))

  few : at_most limit table entries ≡ Ok tt → entries ≤ limit
  few h = by_test (nat_le entries limit) refl h
    where
      by_test : (b : Bool) → nat_le entries limit ≡ b → ◌≡◌ {A = Read (Unit {0})} (if b then Ok tt else Err (Limit (record { table = table; entry = limit + 1 }))) (Ok tt) → entries ≤ limit
      by_test true e k = leb-true entries limit e
      by_test false e k = search rules

-- ---- a test of each entry

module _ {A : Type 0} (fits : ℕ → A → Type 0) (table : TableName) (test : Place → A → Read (Unit {0}))
    (passes : (n : ℕ) (x : A) → test (record { table = table; entry = n }) x ≡ Ok tt → fits n x)
    (refuses : (n : ℕ) (x : A) (f : LayoutFault) → test (record { table = table; entry = n }) x ≡ Err f → (f ≡ Limit (record { table = table; entry = n })) × (fits n x → ⊥)) where
  fits-push : (n : ℕ) (xs : List A) (x : A) → EachFits fits n xs → fits (n + length xs) x → EachFits fits n (xs ++ x ∷ [])
  fits-push n [] x each h = let e : n + 0 ≡ n = omega arith in (subst (λ m. fits m x) e h, tt)
  fits-push n (y ∷ ys) x each h = let e : n + suc (length ys) ≡ suc n + length ys = omega arith in (each.0, fits-push (suc n) ys x each.1 (subst (λ m. fits m x) e h))

  length-push : (xs : List A) (x : A) → length (xs ++ x ∷ []) ≡ suc (length xs)
  length-push [] x = refl
  length-push (y ∷ ys) x = ap suc (length-push ys x)

  first-unfit : (before xs : List A) (n : ℕ) (f : LayoutFault) → n ≡ suc (length before) → EachFits fits 1 before → each_of test table n xs ≡ Err f → IsFirstUnfit fits table (before ++ xs) f
  unfolding each_of
  first-unfit before [] n f at each h = never [] f h
  first-unfit before (x ∷ xs) n f at each h =
      let place : Place = record { table = table; entry = n } in
      let one_more : suc (length before) ≡ 1 + length before = omega arith in
      let rest : Unit {0} → Read (List (Unit {0})) = λ y. each_of test table (suc n) xs >>= λ ys. Ok (y ∷ ys) in
      ⊎_elim
      (λ e. let is = refuses n x f e in record {
        earlier = before;
        entry = x;
        later = xs;
        stands = refl;
        fault = is.0 ∙ ap (λ m. Limit (record { table = table; entry = m })) at;
        fit = each;
        unfit = λ h. is.1 (subst (λ m. fits m x) (sym at) h);
      })
      (λ y. ⊎_elim
      (λ e. subst (λ ys. IsFirstUnfit fits table ys f) (append_assoc before (x ∷ []) xs)
      (first-unfit (before ++ x ∷ []) xs (suc n) f (ap suc at ∙ ap suc (sym (length-push before x))) (fits-push 1 before x each (subst (λ m. fits m x) (at ∙ one_more) (passes n x y.1))) e))
      (λ ys. never (y.0 ∷ ys.0) f ys.2)
      (failed_at (each_of test table (suc n) xs) (λ ys. Ok (y.0 ∷ ys)) f y.2))
      (failed_at (test place x) rest f h)

  each-fits : (xs : List A) (n : ℕ) (ys : List (Unit {0})) → each_of test table n xs ≡ Ok ys → EachFits fits n xs
  unfolding each_of
  each-fits [] n ys h = tt
  each-fits (x ∷ xs) n ys h =
      let first = came_from (test (record { table = table; entry = n }) x) (λ y. each_of test table (suc n) xs >>= λ rest. Ok (y ∷ rest)) ys h in
      let rest = came_from (each_of test table (suc n) xs) (λ rest. Ok (first.0 ∷ rest)) ys first.2 in
      (passes n x first.1, each-fits xs (suc n) rest.0 rest.1)

  unfit-within : (xs : List A) (f : LayoutFault) → all_within test table xs ≡ Err f → IsFirstUnfit fits table xs f
  unfit-within xs f h = ⊎_elim (λ e. first-unfit [] xs 1 f refl tt e) (λ ys. never tt f ys.2) (failed_at (each_of test table 1 xs) (λ _. Ok tt) f h)

  fits-within : (xs : List A) → all_within test table xs ≡ Ok tt → EachFits fits 1 xs
  fits-within xs h = let ys = came_from (each_of test table 1 xs) (λ _. Ok tt) tt h in each-fits xs 1 ys.0 ys.1

-- ---- detection controllers and routes

detector-passes : (n : ℕ) (d : DetectorText) → detector_limit (record { table = named.Detector; entry = n }) d ≡ Ok tt → DetectorFits n d
detector-passes n d h = by_tests (nat_le n 16) (nat_le 1 (length d.sections)) (nat_le (length d.sections) 16) refl refl refl h
  where
    by_tests : (a b c : Bool) → nat_le n 16 ≡ a → nat_le 1 (length d.sections) ≡ b → nat_le (length d.sections) 16 ≡ c
        → ◌≡◌ {A = Read (Unit {0})} (if a && b && c then Ok tt else Err (Limit (record { table = named.Detector; entry = n }))) (Ok tt) → DetectorFits n d
    by_tests true true true ea eb ec k = (leb-true n 16 ea, leb-true 1 (length d.sections) eb, leb-true (length d.sections) 16 ec)
    by_tests true true false ea eb ec k = search rules
    by_tests true false c ea eb ec k = search rules
    by_tests false b c ea eb ec k = search rules

detector-refuses : (n : ℕ) (d : DetectorText) (f : LayoutFault) → detector_limit (record { table = named.Detector; entry = n }) d ≡ Err f → (f ≡ Limit (record { table = named.Detector; entry = n })) × (DetectorFits n d → ⊥)
detector-refuses n d f h = by_tests (nat_le n 16) (nat_le 1 (length d.sections)) (nat_le (length d.sections) 16) refl refl refl h
  where
    place : Place
    place = record { table = named.Detector; entry = n }

    by_tests : (a b c : Bool) → nat_le n 16 ≡ a → nat_le 1 (length d.sections) ≡ b → nat_le (length d.sections) 16 ≡ c
        → ◌≡◌ {A = Read (Unit {0})} (if a && b && c then Ok tt else Err (Limit place)) (Err f) → (f ≡ Limit place) × (DetectorFits n d → ⊥)
    by_tests true true true ea eb ec k = never tt f k
    by_tests true true false ea eb ec k = let over = leb-false (length d.sections) 16 ec in (sym (same_err {A = Unit {0}} (Limit place) f k), λ fits. let within = fits.2 in omega (arith, over, within))
    by_tests true false c ea eb ec k = let none = leb-false 1 (length d.sections) eb in (sym (same_err {A = Unit {0}} (Limit place) f k), λ fits. let some = fits.1 in omega (arith, none, some))
    by_tests false b c ea eb ec k = let past = leb-false n 16 ea in (sym (same_err {A = Unit {0}} (Limit place) f k), λ fits. let within = fits.0 in omega (arith, past, within))

route-passes : (n : ℕ) (r : RouteText) → route_limit (record { table = named.Route; entry = n }) r ≡ Ok tt → RouteFits n r
route-passes n r h = by_tests (nat_le n 64) (nat_le (length r.path) 64) refl refl h
  where
    by_tests : (a b : Bool) → nat_le n 64 ≡ a → nat_le (length r.path) 64 ≡ b
        → ◌≡◌ {A = Read (Unit {0})} (if a && b then Ok tt else Err (Limit (record { table = named.Route; entry = n }))) (Ok tt) → RouteFits n r
    by_tests true true ea eb k = (leb-true n 64 ea, leb-true (length r.path) 64 eb)
    by_tests true false ea eb k = search rules
    by_tests false b ea eb k = search rules

route-refuses : (n : ℕ) (r : RouteText) (f : LayoutFault) → route_limit (record { table = named.Route; entry = n }) r ≡ Err f → (f ≡ Limit (record { table = named.Route; entry = n })) × (RouteFits n r → ⊥)
route-refuses n r f h = by_tests (nat_le n 64) (nat_le (length r.path) 64) refl refl h
  where
    place : Place
    place = record { table = named.Route; entry = n }

    by_tests : (a b : Bool) → nat_le n 64 ≡ a → nat_le (length r.path) 64 ≡ b
        → ◌≡◌ {A = Read (Unit {0})} (if a && b then Ok tt else Err (Limit place)) (Err f) → (f ≡ Limit place) × (RouteFits n r → ⊥)
    by_tests true true ea eb k = never tt f k
    by_tests true false ea eb k = let over = leb-false (length r.path) 64 eb in (sym (same_err {A = Unit {0}} (Limit place) f k), λ fits. let within = fits.1 in omega (arith, over, within))
    by_tests false b ea eb k = let past = leb-false n 64 ea in (sym (same_err {A = Unit {0}} (Limit place) f k), λ fits. let within = fits.0 in omega (arith, past, within))

-- ---- table after table

pub limit_fault : (text : LayoutText) (f : LayoutFault) → limits_of text ≡ Err f → IsFirstTooMany text f
unfolding limits_of
limit_fault text f h =
    let R : Unit {0} → Read (Unit {0}) = λ _. all_within route_limit named.Route text.routes in
    let D : Unit {0} → Read (Unit {0}) = λ _. all_within detector_limit named.Detector text.detectors >>= R in
    let S : Unit {0} → Read (Unit {0}) = λ _. at_most 32 named.Signal (length text.signals) >>= D in
    let B : Unit {0} → Read (Unit {0}) = λ _. at_most 16 named.Border (length text.borders) >>= S in
    let P : Unit {0} → Read (Unit {0}) = λ _. at_most 32 named.Point (length text.points) >>= B in
    let T : Unit {0} → Read (Unit {0}) = λ _. at_most 128 named.Track (length text.tracks) >>= P in
    ⊎_elim (λ e. inl (too-many 64 named.Section (length text.sections) f e)) (λ x. inr (
      few 64 named.Section (length text.sections) x.1,
      ⊎_elim (λ e. inl (too-many 128 named.Track (length text.tracks) f e)) (λ x. inr (
        few 128 named.Track (length text.tracks) x.1,
        ⊎_elim (λ e. inl (too-many 32 named.Point (length text.points) f e)) (λ x. inr (
          few 32 named.Point (length text.points) x.1,
          ⊎_elim (λ e. inl (too-many 16 named.Border (length text.borders) f e)) (λ x. inr (
            few 16 named.Border (length text.borders) x.1,
            ⊎_elim (λ e. inl (too-many 32 named.Signal (length text.signals) f e)) (λ x. inr (
              few 32 named.Signal (length text.signals) x.1,
              ⊎_elim (λ e. inl (unfit-within DetectorFits named.Detector detector_limit detector-passes detector-refuses text.detectors f e))
                  (λ x. inr (fits-within DetectorFits named.Detector detector_limit detector-passes detector-refuses text.detectors x.1, unfit-within RouteFits named.Route route_limit route-passes route-refuses text.routes f x.2))
                  (failed_at (all_within detector_limit named.Detector text.detectors) R f x.2),
            ))
                (failed_at (at_most 32 named.Signal (length text.signals)) D f x.2),
          ))
              (failed_at (at_most 16 named.Border (length text.borders)) S f x.2),
        ))
            (failed_at (at_most 32 named.Point (length text.points)) B f x.2),
      ))
          (failed_at (at_most 128 named.Track (length text.tracks)) P f x.2),
    ))
    (failed_at (at_most 64 named.Section (length text.sections)) T f h)

pub limits_kept : (text : LayoutText) → limits_of text ≡ Ok tt → KeepsLimits text
unfolding limits_of
limits_kept text h =
    let R : Unit {0} → Read (Unit {0}) = λ _. all_within route_limit named.Route text.routes in
    let D : Unit {0} → Read (Unit {0}) = λ _. all_within detector_limit named.Detector text.detectors >>= R in
    let S : Unit {0} → Read (Unit {0}) = λ _. at_most 32 named.Signal (length text.signals) >>= D in
    let B : Unit {0} → Read (Unit {0}) = λ _. at_most 16 named.Border (length text.borders) >>= S in
    let P : Unit {0} → Read (Unit {0}) = λ _. at_most 32 named.Point (length text.points) >>= B in
    let T : Unit {0} → Read (Unit {0}) = λ _. at_most 128 named.Track (length text.tracks) >>= P in
    let sections = came_from (at_most 64 named.Section (length text.sections)) T tt h in
    let tracks = came_from (at_most 128 named.Track (length text.tracks)) P tt sections.2 in
    let points = came_from (at_most 32 named.Point (length text.points)) B tt tracks.2 in
    let borders = came_from (at_most 16 named.Border (length text.borders)) S tt points.2 in
    let signals = came_from (at_most 32 named.Signal (length text.signals)) D tt borders.2 in
    let detectors = came_from (all_within detector_limit named.Detector text.detectors) R tt signals.2 in
    record {
      sections = few 64 named.Section (length text.sections) sections.1;
      tracks = few 128 named.Track (length text.tracks) tracks.1;
      points = few 32 named.Point (length text.points) points.1;
      borders = few 16 named.Border (length text.borders) borders.1;
      signals = few 32 named.Signal (length text.signals) signals.1;
      detectors = fits-within DetectorFits named.Detector detector_limit detector-passes detector-refuses text.detectors detectors.1;
      routes = fits-within RouteFits named.Route route_limit route-passes route-refuses text.routes detectors.2;
    }
