-- What a route last saw of one of its sections, as a detector tells how its sections are.
use Rattle.simulator_recovery.proofs.Words.Basics.{◌≡◌, ◌≢◌, ℕ, zero, suc, ◌+◌, ◌<◌, ◌==◌, ◌&&◌, ◌||◌, not, Bool, true, false, if◌then◌else◌, List, [], ◌∷◌, ◌++◌, Option, Some, None, slice_get, refl, sym, ap, subst, ◌∙◌, arith, nat_cmp_total, unsigned_tied, contains, contains-insert, contains-remove, insert, remove, eq-eqb, false≢true, nat_tests, none-some, same_Some}
use Rattle.simulator_recovery.proofs.Words.Interlockings.{PassageState, after_look, Indication, count, KnownDetectorState, RouteState, is_told_occupied, looking, looking_by, occupied_heard, route_looks, told_before, told_now, StepSoFar, along, with_route, Row, Table, place_in, was_authorised}
use Rattle.simulator_recovery.proofs.Words.Stations.{Places}
use Rattle.simulator_recovery.proofs.Lemmas.Ground.ClientItem.{found_at, not_found}
use Rattle.simulator_recovery.proofs.Lemmas.Ground.DueShapes.{along_keeps, at_one, each_over, no_route, over_keeps, route_keeps, where_keeps}
use Rattle.simulator_recovery.proofs.Lemmas.Silence.Spent.{within_some}
use Rattle.simulator_recovery.proofs.Lemmas.Lamps.StopsGiven.{changed_elsewhere, changed_here, differs, is_equal}

-- ---- sets of places

inserted : (set : Places) (place : ℕ) → contains (insert set place) place ≡ true
inserted set place = contains-insert nat_cmp_total set place place ∙ ap (λ (b : Bool). b || contains set place) (unsigned_tied place place ∙ eq-eqb place place refl)

removed : (set : Places) (place : ℕ) → contains (remove set place) place ≡ false
removed set place = contains-remove nat_cmp_total set place place ∙ ap (λ (b : Bool). not b && contains set place) (unsigned_tied place place ∙ eq-eqb place place refl)

apart_test : (place other : ℕ) → place ≢ other → (place == other) ≡ false
apart_test place other apart = by_test (place == other) refl
  where
    by_test : (b : Bool) → (place == other) ≡ b → (place == other) ≡ false
    by_test true is = absurd (apart (is_equal place other is))
    by_test false is = is

inserted_elsewhere : (set : Places) (place other : ℕ) → place ≢ other → contains (insert set other) place ≡ contains set place
inserted_elsewhere set place other apart = contains-insert nat_cmp_total set other place ∙ ap (λ (b : Bool). b || contains set place) (unsigned_tied place other ∙ apart_test place other apart)

removed_elsewhere : (set : Places) (place other : ℕ) → place ≢ other → contains (remove set other) place ≡ contains set place
removed_elsewhere set place other apart = contains-remove nat_cmp_total set other place ∙ ap (λ (b : Bool). not b && contains set place) (unsigned_tied place other ∙ apart_test place other apart)

-- what is kept of a place that is told
abbrev told_at : ℕ → Bool → Places → Places
told_at place occupied set = if occupied then insert set place else remove set place

told_here : (place : ℕ) (occupied : Bool) (set : Places) → contains (told_at place occupied set) place ≡ occupied
told_here place true set = inserted set place
told_here place false set = removed set place

told_elsewhere : (place other : ℕ) (occupied : Bool) (set : Places) → place ≢ other → contains (told_at other occupied set) place ≡ contains set place
told_elsewhere place other true set apart = inserted_elsewhere set place other apart
told_elsewhere place other false set apart = removed_elsewhere set place other apart

pub along_both : {A : Type 0} (does : A → StepSoFar → StepSoFar) (one other : List A) (part : StepSoFar) → along does (one ++ other) part ≡ along does other (along does one part)
along_both does [] other part = refl
along_both does (first ∷ one) other part = along_both does one other (does first part)

-- ---- looks of one route

-- looks change no detector
looking_leaves : (table : Table) (detectors : List KnownDetectorState) (look : ℕ × Bool) (part : StepSoFar) → part.ixl.detectors ≡ detectors → (looking table look part).ixl.detectors ≡ detectors
unfolding looking_by
looking_leaves table detectors look part is = over_keeps Q (looking_by look.0 look.1 table) (λ number q same. route_keeps Q table number _ q (λ row one there here. where_keeps Q (was_authorised one.phase) q _ (λ due. same) same) same) (count table) part is
  where
    Q : StepSoFar → Type 0
    Q q = q.ixl.detectors ≡ detectors

pub looks_leave : (table : Table) (list : List (ℕ × Bool)) (part : StepSoFar) → (along (looking table) list part).ixl.detectors ≡ part.ixl.detectors
looks_leave table list part = along_keeps (λ (q : StepSoFar). q.ixl.detectors ≡ part.ixl.detectors) (looking table) (looking_leaves table part.ixl.detectors) list part refl

-- A section was seen so, by its place: it was seen occupied, or was last seen clear.
abbrev pub WasSeen : Bool → PassageState → ℕ → Type 0
WasSeen true passage place = contains passage.seen place ≡ true
WasSeen false passage place = contains passage.occupied place ≡ false

-- of a route of the table, and a section that stands at one place of its path
module _ (busy : Bool) (table : Table) (k : ℕ) (row : Row) (there : slice_get table.rows k ≡ Some row) (place section : ℕ) (stands : slice_get row.sections place ≡ Some section)
    (alone : (other : ℕ) → slice_get row.sections other ≡ Some section → other ≡ place) where
  -- The route, if it was given authority, saw the section so where this holds.
  abbrev pub SeesWhere : Type 0 → StepSoFar → Type 0
  SeesWhere holds part = (route : RouteState) → slice_get part.ixl.routes k ≡ Some route → was_authorised route.phase ≡ true → holds → WasSeen busy route.passage place

  found_there : (other at : ℕ) → place_in other row.sections ≡ Some at → slice_get row.sections at ≡ Some other
  found_there other at e =
      let found = found_at (λ (one : ℕ). one == other) row.sections at e
      in found.1 ∙ ap Some (is_equal found.0 other found.2)

  looks_here : (route : RouteState) → WasSeen busy (route_looks section busy row route).passage place
  looks_here route = by_place (place_in section row.sections) refl
    where
      nowhere : place_in section row.sections ≡ None → ⊥
      nowhere e = not_found (λ (one : ℕ). one == section) row.sections place section stands (eq-eqb section section refl) e

      told : (b : Bool) → WasSeen b (after_look route.passage place b) place
      told true = inserted route.passage.seen place
      told false = removed route.passage.occupied place

      by_place : (found : Option ℕ) → place_in section row.sections ≡ found → WasSeen busy (route_looks section busy row route).passage place
      by_place None e = absurd (nowhere e)
      by_place (Some at) e = let same : at ≡ place = alone at (found_there section at e) in rw (e ∙ ap Some same) (told busy)

  looks_elsewhere : (other : ℕ) (occupied : Bool) (route : RouteState) → other ≢ section → WasSeen busy route.passage place → WasSeen busy (route_looks other occupied row route).passage place
  looks_elsewhere other occupied route differ seen = by_place (place_in other row.sections) refl
    where
      told : (at : ℕ) (b look : Bool) → place ≢ at → WasSeen b route.passage place → WasSeen b (after_look route.passage at look) place
      told at true true apart is = inserted_elsewhere route.passage.seen place at apart ∙ is
      told at true false apart is = is
      told at false true apart is = inserted_elsewhere route.passage.occupied place at apart ∙ is
      told at false false apart is = removed_elsewhere route.passage.occupied place at apart ∙ is

      by_place : (found : Option ℕ) → place_in other row.sections ≡ found → WasSeen busy (route_looks other occupied row route).passage place
      by_place None e = rw e seen
      by_place (Some at) e = rw e (told at busy occupied (λ same. differ (same_Some other section (sym (found_there other at e) ∙ (ap (slice_get row.sections) (sym same) ∙ stands)))) seen)

  turn_is : (other : ℕ) (occupied : Bool) (part : StepSoFar) (was : RouteState) → slice_get part.ixl.routes k ≡ Some was → looking_by other occupied table k part ≡ (if was_authorised was.phase then with_route k (route_looks other occupied row) part else part)
  unfolding looking_by
  turn_is other occupied part was here = at_one table k _ part row was there here

  no_turn : (other : ℕ) (occupied : Bool) (part : StepSoFar) → slice_get part.ixl.routes k ≡ None → looking_by other occupied table k part ≡ part
  unfolding looking_by
  no_turn other occupied part none = no_route table k _ part none

  -- where one thing held the route saw the section so; after a look it did where another holds, if this look tells so, or is at another
  -- section and the one held before
  module _ (before later : Type 0) (other : ℕ) (occupied : Bool) (here : other ≡ section → later → occupied ≡ busy) (elsewhere : other ≢ section → later → before) where
    own_turn : (part : StepSoFar) → SeesWhere before part → SeesWhere later (looking_by other occupied table k part)
    own_turn part is route e authorised so = by_found (slice_get part.ixl.routes k) refl
      where
        at_k : StepSoFar → Option RouteState
        at_k q = slice_get q.ixl.routes k

        looked : (was : RouteState) → slice_get part.ixl.routes k ≡ Some was → was_authorised was.phase ≡ true → WasSeen busy (route_looks other occupied row was).passage place
        looked was f authorised_before = decide (other == section) refl
          where
            decide : (b : Bool) → (other == section) ≡ b → WasSeen busy (route_looks other occupied row was).passage place
            decide true g =
                let same : other ≡ section = is_equal other section g
                in subst (λ (s : ℕ). WasSeen busy (route_looks s occupied row was).passage place) (sym same)
                (subst (λ (o : Bool). WasSeen busy (route_looks section o row was).passage place) (sym (here same so)) (looks_here was))
            decide false g = let differ : other ≢ section = differs other section g in looks_elsewhere other occupied was differ (is was f authorised_before (elsewhere differ so))

        by_found : (found : Option RouteState) → slice_get part.ixl.routes k ≡ found → WasSeen busy route.passage place
        by_found None f = absurd (none-some route (sym (ap at_k (no_turn other occupied part f) ∙ f) ∙ e))
        by_found (Some was) f = by_test (was_authorised was.phase) refl
          where
            by_test : (b : Bool) → was_authorised was.phase ≡ b → WasSeen busy route.passage place
            by_test true g =
                let turned : looking_by other occupied table k part ≡ with_route k (route_looks other occupied row) part =
                turn_is other occupied part was f ∙ ap (λ (b : Bool). if b then with_route k (route_looks other occupied row) part else part) g
                in let now : route ≡ route_looks other occupied row was = same_Some route (route_looks other occupied row was) (sym e ∙ (ap at_k turned ∙ changed_here (route_looks other occupied row) k part.ixl.routes was f))
                in subst (λ (r : RouteState). WasSeen busy r.passage place) (sym now) (looked was f g)
            by_test false g =
                let left : looking_by other occupied table k part ≡ part = turn_is other occupied part was f ∙ ap (λ (b : Bool). if b then with_route k (route_looks other occupied row) part else part) g
                in let same : route ≡ was = same_Some route was (sym e ∙ (ap at_k left ∙ f))
                in absurd (false≢true (sym g ∙ (ap (λ (r : RouteState). was_authorised r.phase) (sym same) ∙ authorised)))

    other_turn : (C : Type 0) (number : ℕ) (part : StepSoFar) → k ≢ number → SeesWhere C part → SeesWhere C (looking_by other occupied table number part)
    unfolding looking_by
    other_turn C number part differ is = route_keeps (SeesWhere C) table number _ part (λ another one at_another now_here. where_keeps (SeesWhere C) (was_authorised one.phase) part _
        (λ due route e. is route (sym (changed_elsewhere (route_looks other occupied another) number k part.ixl.routes differ) ∙ e)) is) is

    -- after the turns of so many routes
    record Behind (n : ℕ) (part : StepSoFar) : Type 0 where
      ahead : (k < n → ⊥) → SeesWhere before part
      past : k < n → SeesWhere later part

    one_more : (n : ℕ) (part : StepSoFar) → Behind n part → Behind (suc n) (looking_by other occupied table n part)
    one_more n part is = decide (k == n) refl
      where
        not_yet : k ≡ n → k < n → ⊥
        not_yet same few = omega (arith, same, few)

        decide : (b : Bool) → (k == n) ≡ b → Behind (suc n) (looking_by other occupied table n part)
        decide true e =
            let same : k ≡ n = is_equal k n e
            in record {
              ahead = λ not. absurd (not (omega (arith, same)));
              past = λ few. subst (λ (m : ℕ). SeesWhere later (looking_by other occupied table m part)) same (own_turn part (is.ahead (not_yet same)));
            }
        decide false e =
            let differ : k ≢ n = differs k n e
            in record {
              ahead = λ not. other_turn before n part differ (is.ahead (λ few. not (omega (arith, few))));
              past = λ few. other_turn later n part differ (is.past (grind (arith, nat_tests, e, few)));
            }

    look_sees : (part : StepSoFar) → SeesWhere before part → SeesWhere later (looking table (other, occupied) part)
    look_sees part is = (each_over Behind (looking_by other occupied table) one_more (count table) part (record { ahead = λ not. is; past = λ few. absurd (omega (arith, few)) })).past (within_some table.rows k row there)

  -- ---- looks along what a detector tells

  -- of a detector that doesn't report the section
  pub far_now : (sections : List ℕ) → ((m : ℕ) → slice_get sections m ≡ Some section → ⊥) → (heard : List Indication) (C : Type 0) (part : StepSoFar) → SeesWhere C part → SeesWhere C (along (looking table) (told_now sections heard) part)
  far_now sections none [] C part is = is
  far_now sections none (first ∷ others) C part is = by_section (slice_get sections first.place) refl (far_now sections none others C)
    where
      by_section : (found : Option ℕ) → slice_get sections first.place ≡ found → ((q : StepSoFar) → SeesWhere C q → SeesWhere C (along (looking table) (told_now sections others) q)) → SeesWhere C (along (looking table) (told_now sections (first ∷ others)) part)
      by_section None e rest = rw e (rest part is)
      by_section (Some other) e rest =
          let apart : other ≢ section = λ same. none first.place (e ∙ ap Some same)
          in rw e (rest (looking table (other, is_told_occupied first.state) part) (look_sees C C other (is_told_occupied first.state) (λ same so. absurd (apart same)) (λ differ so. so) part is))

  pub far_before : (o : Places) (sections : List ℕ) (j : ℕ) → ((m : ℕ) → slice_get sections m ≡ Some section → ⊥) → (C : Type 0) (part : StepSoFar) → SeesWhere C part → SeesWhere C (along (looking table) (told_before o j sections) part)
  far_before o [] j none C part is = is
  far_before o (first ∷ others) j none C part is = far_before o others (suc j) (λ m e. none (suc m) e) C (looking table (first, contains o j) part)
      (look_sees C C first (contains o j) (λ same so. absurd (none zero (ap Some same))) (λ differ so. so) part is)

  -- of the detector that reports it, at one place of its list
  module _ (q : ℕ) where
    pub now_sees : (sections : List ℕ) → slice_get sections q ≡ Some section → ((m : ℕ) → slice_get sections m ≡ Some section → m ≡ q) → (heard : List Indication) (o : Places) (part : StepSoFar) → SeesWhere (contains o q ≡ busy) part
        → SeesWhere (contains (occupied_heard heard o) q ≡ busy) (along (looking table) (told_now sections heard) part)
    now_sees sections own once [] o part is = is
    now_sees sections own once (first ∷ others) o part is = by_section (slice_get sections first.place) refl (now_sees sections own once others next)
      where
        told : Bool
        told = is_told_occupied first.state

        next : Places
        next = if told then insert o first.place else remove o first.place

        by_section : (found : Option ℕ) → slice_get sections first.place ≡ found
            → ((p : StepSoFar) → SeesWhere (contains next q ≡ busy) p → SeesWhere (contains (occupied_heard others next) q ≡ busy) (along (looking table) (told_now sections others) p))
            → SeesWhere (contains (occupied_heard others next) q ≡ busy) (along (looking table) (told_now sections (first ∷ others)) part)
        by_section None e rest = rw e (rest part (λ route there_so authorised so. is route there_so authorised (sym (told_elsewhere q first.place told o apart) ∙ so)))
          where
            apart : q ≢ first.place
            apart same = none-some section (sym e ∙ (ap (slice_get sections) (sym same) ∙ own))
        by_section (Some other) e rest = rw e (rest (looking table (other, told) part) (look_sees (contains o q ≡ busy) (contains next q ≡ busy) other told here elsewhere part is))
          where
            here : other ≡ section → contains next q ≡ busy → told ≡ busy
            here same so =
                let at : first.place ≡ q = once first.place (e ∙ ap Some same)
                in sym (told_here q told o) ∙ (ap (λ (m : ℕ). contains (told_at m told o) q) (sym at) ∙ so)

            elsewhere : other ≢ section → contains next q ≡ busy → contains o q ≡ busy
            elsewhere differ so = sym (told_elsewhere q first.place told o (λ same. differ (same_Some other section (sym e ∙ (ap (slice_get sections) (sym same) ∙ own))))) ∙ so

    before_keeps : (o : Places) (sections : List ℕ) (j : ℕ) → ((m : ℕ) → slice_get sections m ≡ Some section → j + m ≡ q) → (part : StepSoFar) → SeesWhere (contains o q ≡ busy) part
        → SeesWhere (contains o q ≡ busy) (along (looking table) (told_before o j sections) part)
    before_keeps o [] j once part is = is
    before_keeps o (first ∷ others) j once part is = before_keeps o others (suc j) (λ m e. let at = once (suc m) e in omega (arith, at)) (looking table (first, contains o j) part)
        (look_sees (contains o q ≡ busy) (contains o q ≡ busy) first (contains o j) (λ same so. ap (contains o) (let at = once zero (ap Some same) in omega (arith, at)) ∙ so) (λ differ so. so) part is)

    pub before_sees : (o : Places) (sections : List ℕ) (j i : ℕ) → ((m : ℕ) → slice_get sections m ≡ Some section → j + m ≡ q) → slice_get sections i ≡ Some section → (part : StepSoFar)
        → SeesWhere (contains o q ≡ busy) (along (looking table) (told_before o j sections) part)
    before_sees o [] j i once own part = absurd (none-some section own)
    before_sees o (first ∷ others) j zero once own part = before_keeps o others (suc j) (λ m e. let at = once (suc m) e in omega (arith, at)) (looking table (first, contains o j) part)
        (look_sees ⊥ (contains o q ≡ busy) first (contains o j) (λ same so. ap (contains o) (let at = once zero (ap Some same) in omega (arith, at)) ∙ so) (λ differ so. absurd (differ (same_Some first section own))) part
        (λ route there_so authorised never. absurd never))
    before_sees o (first ∷ others) j (suc i) once own part = before_sees o others (suc j) i (λ m e. let at = once (suc m) e in omega (arith, at)) own (looking table (first, contains o j) part)
