-- Those that wait are tried one after another.
use Rattle.std.proofs.Common.{◌≡◌, ◌∙◌, ◌⊎◌, ◌<◌, ◌≤◌, ◌+◌, inl, inr, ℕ, zero, suc, List, [], ◌∷◌, ◌++◌, length, take, drop, append_assoc, Option, Some, slice_get, slice_set, refl, sym, ap, subst, arith}
use Rattle.std.specs.List.{Contains}
use Rattle.std.proofs.lemmas.List.{append-nil}
use Rattle.node_lines.specs.control_table.Table.{Conflict}
use Rattle.node_lines.specs.layout.Entries.{Site}
use Rattle.node_lines.specs.layout.declared.ids.RouteId.{RouteId}
use Rattle.panel_desk.specs.InTheWay.{IsHindered}
use Rattle.panel_desk.specs.Inside.{TriedOne, TriesOne}
use Rattle.panel_desk.specs.StandingOrders.{EachTried, IsTried, IsTriedOf, MayBeTried, TriedFrom, ends, passes, tries}
use Rattle.panel_desk.specs.declared.panel_line.PanelLine.{PanelLine}
use Rattle.panel_desk.specs.declared.standing_orders.Waiting.{Waiting}
use Rattle.panel_desk.proofs.Waits.{contains-cases, contains-here, contains-none, contains-there}

-- ---- lists

pub set_long : {A : Type 0} (place : ℕ) (value : A) (all : List A) → length (slice_set all place value) ≡ length all
set_long place value [] = refl
set_long zero value (first ∷ others) = refl
set_long (suc place) value (first ∷ others) = ap suc (set_long place value others)

-- one more is taken
take_here : {A : Type 0} (place : ℕ) (one : A) (all : List A) → slice_get all place ≡ Some one → take (suc place) all ≡ take place all ++ one ∷ []
take_here place one [] is = absurd (cc)
take_here zero one (first ∷ others) is =
    let same : first ≡ one = cc in
    ap (λ w. w ∷ []) same
take_here (suc place) one (first ∷ others) is = ap (λ l. first ∷ l) (take_here place one others is)

take_set : {A : Type 0} (place : ℕ) (one value : A) (all : List A) → slice_get all place ≡ Some one → take (suc place) (slice_set all place value) ≡ take place all ++ value ∷ []
take_set place one value [] is = absurd (cc)
take_set zero one value (first ∷ others) is = refl
take_set (suc place) one value (first ∷ others) is = ap (λ l. first ∷ l) (take_set place one value others is)

drop_set : {A : Type 0} (place : ℕ) (value : A) (all : List A) → drop (suc place) (slice_set all place value) ≡ drop (suc place) all
drop_set place value [] = refl
drop_set zero value (first ∷ others) = refl
drop_set (suc place) value (first ∷ others) = drop_set place value others

-- lists with the same end have the same there
drop_on : {A : Type 0} (place : ℕ) (some all : List A) → length some ≡ length all → drop place some ≡ drop place all → drop (suc place) some ≡ drop (suc place) all
drop_on place [] [] long same = refl
drop_on place [] (first ∷ others) long same = absurd (omega (arith, long))
drop_on place (first ∷ others) [] long same = absurd (omega (arith, long))
drop_on zero (first ∷ others) (one ∷ more) long same =
    let tail : others ≡ more = cc in
    tail
drop_on (suc place) (first ∷ others) (one ∷ more) long same = drop_on place others more (omega (arith, long)) same

get_on : {A : Type 0} (place : ℕ) (some all : List A) → length some ≡ length all → drop place some ≡ drop place all → slice_get some place ≡ slice_get all place
get_on place [] [] long same = refl
get_on place [] (first ∷ others) long same = absurd (omega (arith, long))
get_on place (first ∷ others) [] long same = absurd (omega (arith, long))
get_on zero (first ∷ others) (one ∷ more) long same =
    let head : first ≡ one = cc in
    ap Some head
get_on (suc place) (first ∷ others) (one ∷ more) long same = get_on place others more (omega (arith, long)) same

all_taken : {A : Type 0} (place : ℕ) (all : List A) → length all ≤ place → take place all ≡ all
all_taken zero [] above = refl
all_taken (suc place) [] above = refl
all_taken zero (first ∷ others) above = absurd (omega (arith, above))
all_taken (suc place) (first ∷ others) above = ap (λ l. first ∷ l) (all_taken place others (omega (arith, above)))

-- ---- who was tried is known by its route

-- of each route that waited one waits afterwards, and the other way round
later_has : (site : Site) (lines : List PanelLine) (now : ℕ) (earlier waiting : List Waiting) (routes : List RouteId) (later : List Waiting) (one : Waiting)
    → EachTried site lines now earlier waiting routes later → Contains waiting one → (other : Waiting) × Contains later other × (other.route ≡ one.route)
later_has site lines now _ _ _ _ one (ends) has = absurd (contains-none one has)
later_has site lines now _ _ _ _ one (tries {one = first} {earlier = earlier} {more = more} {later = later} {routes = routes} may rest) has =
    by_case (contains-cases first one more has) (λ (has : Contains more one). later_has site lines now (earlier ++ first ∷ []) more routes later one rest has)
  where
    by_case : (first ≡ one) ⊎ Contains more one → (Contains more one → (other : Waiting) × Contains later other × (other.route ≡ one.route))
        → (other : Waiting) × Contains (record first { tried = Some now } ∷ later) other × (other.route ≡ one.route)
    by_case (inl same) next = (record first { tried = Some now }, contains-here (record first { tried = Some now }) later, ap (λ (w : Waiting). w.route) same)
    by_case (inr has) next =
        let other = next has in
        (other.0, contains-there (record first { tried = Some now }) other.0 later other.1, other.2)
later_has site lines now _ _ _ _ one (passes {one = first} {earlier = earlier} {more = more} {later = later} {routes = routes} never rest) has =
    by_case (contains-cases first one more has) (λ (has : Contains more one). later_has site lines now (earlier ++ first ∷ []) more routes later one rest has)
  where
    by_case : (first ≡ one) ⊎ Contains more one → (Contains more one → (other : Waiting) × Contains later other × (other.route ≡ one.route)) → (other : Waiting) × Contains (first ∷ later) other × (other.route ≡ one.route)
    by_case (inl same) next = (first, contains-here first later, ap (λ (w : Waiting). w.route) same)
    by_case (inr has) next =
        let other = next has in
        (other.0, contains-there first other.0 later other.1, other.2)

before_has : (site : Site) (lines : List PanelLine) (now : ℕ) (earlier waiting : List Waiting) (routes : List RouteId) (later : List Waiting) (one : Waiting)
    → EachTried site lines now earlier waiting routes later → Contains later one → (other : Waiting) × Contains waiting other × (other.route ≡ one.route)
before_has site lines now _ _ _ _ one (ends) has = absurd (contains-none one has)
before_has site lines now _ _ _ _ one (tries {one = first} {earlier = earlier} {more = more} {later = later} {routes = routes} may rest) has =
    by_case (contains-cases (record first { tried = Some now }) one later has) (λ (has : Contains later one). before_has site lines now (earlier ++ first ∷ []) more routes later one rest has)
  where
    by_case : (record first { tried = Some now } ≡ one) ⊎ Contains later one → (Contains later one → (other : Waiting) × Contains more other × (other.route ≡ one.route)) → (other : Waiting) × Contains (first ∷ more) other × (other.route ≡ one.route)
    by_case (inl same) next = (first, contains-here first more, ap (λ (w : Waiting). w.route) same)
    by_case (inr has) next =
        let other = next has in
        (other.0, contains-there first other.0 more other.1, other.2)
before_has site lines now _ _ _ _ one (passes {one = first} {earlier = earlier} {more = more} {later = later} {routes = routes} never rest) has =
    by_case (contains-cases first one later has) (λ (has : Contains later one). before_has site lines now (earlier ++ first ∷ []) more routes later one rest has)
  where
    by_case : (first ≡ one) ⊎ Contains later one → (Contains later one → (other : Waiting) × Contains more other × (other.route ≡ one.route)) → (other : Waiting) × Contains (first ∷ more) other × (other.route ≡ one.route)
    by_case (inl same) next = (first, contains-here first more, ap (λ (w : Waiting). w.route) same)
    by_case (inr has) next =
        let other = next has in
        (other.0, contains-there first other.0 more other.1, other.2)

-- ---- one more

behind_same : (site : Site) (lines : List PanelLine) (now : ℕ) (waiting later : List Waiting) (routes : List RouteId) (one : Waiting)
    → EachTried site lines now [] waiting routes later → MayBeTried site lines now later one → MayBeTried site lines now waiting one
behind_same site lines now waiting later routes one each may = record {
  there = may.there;
  rested_is = may.rested_is;
  unopposed = may.unopposed;
  first = λ other has conflict.
      let same = later_has site lines now [] waiting routes later other each has in
      subst (λ (r : RouteId). IsHindered site lines r) same.2
      (may.first same.0 same.1 (subst (λ (r : RouteId). Conflict site one.route r) (sym same.2) conflict));
}

behind_was : (site : Site) (lines : List PanelLine) (now : ℕ) (waiting later : List Waiting) (routes : List RouteId) (one : Waiting)
    → EachTried site lines now [] waiting routes later → MayBeTried site lines now waiting one → MayBeTried site lines now later one
behind_was site lines now waiting later routes one each may = record {
  there = may.there;
  rested_is = may.rested_is;
  unopposed = may.unopposed;
  first = λ other has conflict.
      let same = before_has site lines now [] waiting routes later other each has in
      subst (λ (r : RouteId). IsHindered site lines r) same.2
      (may.first same.0 same.1 (subst (λ (r : RouteId). Conflict site one.route r) (sym same.2) conflict));
}

tried_more : (site : Site) (lines : List PanelLine) (now : ℕ) (earlier waiting : List Waiting) (routes : List RouteId) (later : List Waiting) (one : Waiting)
    → EachTried site lines now earlier waiting routes later → MayBeTried site lines now (earlier ++ waiting) one
    → EachTried site lines now earlier (waiting ++ one ∷ []) (routes ++ one.route ∷ []) (later ++ record one { tried = Some now } ∷ [])
tried_more site lines now _ _ _ _ one (ends {earlier = earlier}) may = tries (subst (λ (l : List Waiting). MayBeTried site lines now l one) (append-nil earlier) may) ends
tried_more site lines now _ _ _ _ one (tries {one = first} {earlier = earlier} {more = more} {later = later} {routes = routes} can rest) may =
    tries can (tried_more site lines now (earlier ++ first ∷ []) more routes later one rest (subst (λ (l : List Waiting). MayBeTried site lines now l one) (sym (append_assoc earlier (first ∷ []) more)) may))
tried_more site lines now _ _ _ _ one (passes {one = first} {earlier = earlier} {more = more} {later = later} {routes = routes} never rest) may =
    passes never (tried_more site lines now (earlier ++ first ∷ []) more routes later one rest (subst (λ (l : List Waiting). MayBeTried site lines now l one) (sym (append_assoc earlier (first ∷ []) more)) may))

passed_more : (site : Site) (lines : List PanelLine) (now : ℕ) (earlier waiting : List Waiting) (routes : List RouteId) (later : List Waiting) (one : Waiting)
    → EachTried site lines now earlier waiting routes later → (MayBeTried site lines now (earlier ++ waiting) one → ⊥)
    → EachTried site lines now earlier (waiting ++ one ∷ []) routes (later ++ one ∷ [])
passed_more site lines now _ _ _ _ one (ends {earlier = earlier}) none = passes (λ may. none (subst (λ (l : List Waiting). MayBeTried site lines now l one) (sym (append-nil earlier)) may)) ends
passed_more site lines now _ _ _ _ one (tries {one = first} {earlier = earlier} {more = more} {later = later} {routes = routes} can rest) none =
    tries can (passed_more site lines now (earlier ++ first ∷ []) more routes later one rest (λ may. none (subst (λ (l : List Waiting). MayBeTried site lines now l one) (append_assoc earlier (first ∷ []) more) may)))
passed_more site lines now _ _ _ _ one (passes {one = first} {earlier = earlier} {more = more} {later = later} {routes = routes} never rest) none =
    passes never (passed_more site lines now (earlier ++ first ∷ []) more routes later one rest (λ may. none (subst (λ (l : List Waiting). MayBeTried site lines now l one) (append_assoc earlier (first ∷ []) more) may)))

-- ---- so far

-- Those before a place were tried, each in its turn, and those behind it are as they were.
pub record TriedSoFar (site : Site) (lines : List PanelLine) (now : ℕ) (old : List Waiting) (place : ℕ) (before routes : List RouteId) (waiting : List Waiting) : Type 0 where
  pub tried : List RouteId
  pub are : routes ≡ before ++ tried
  pub front : EachTried site lines now [] (take place old) tried (take place waiting)
  pub behind : drop place waiting ≡ drop place old
  pub long : length waiting ≡ length old

pub none_yet : (site : Site) (lines : List PanelLine) (now : ℕ) (waiting : List Waiting) (routes : List RouteId) → TriedSoFar site lines now waiting 0 routes routes waiting
none_yet site lines now waiting routes = record { tried = []; are = sym (append-nil routes); front = ends; behind = refl; long = refl }

is_one : (site : Site) (lines : List PanelLine) (now : ℕ) (waiting : List Waiting) (place : ℕ) (one : Waiting) → slice_get waiting place ≡ Some one → IsTried site lines now waiting place → MayBeTried site lines now (take place waiting) one
is_one site lines now waiting place one is tried = subst (λ (w : Option Waiting). IsTriedOf site lines now waiting w place) is tried

one_is : (site : Site) (lines : List PanelLine) (now : ℕ) (waiting : List Waiting) (place : ℕ) (one : Waiting) → slice_get waiting place ≡ Some one → MayBeTried site lines now (take place waiting) one → IsTried site lines now waiting place
one_is site lines now waiting place one is may = subst (λ (w : Option Waiting). IsTriedOf site lines now waiting w place) (sym is) may

there : {A : Type 0} (place : ℕ) (all : List A) → place < length all → (one : A) × (slice_get all place ≡ Some one)
there place [] below = absurd (omega (arith, below))
there zero (first ∷ others) below = (first, refl)
there (suc place) (first ∷ others) below = there place others (omega (arith, below))

module _ (site : Site) (lines : List PanelLine) (now : ℕ) where
  was_tried : (old : List Waiting) (place : ℕ) (before routes : List RouteId) (waiting later : List Waiting) (after : List RouteId) → TriedSoFar site lines now old place before routes waiting
      → IsTried site lines now waiting place → TriesOne now place waiting routes later after → TriedSoFar site lines now old (suc place) before after later
  was_tried old place before routes waiting later after far tried did =
      let one : Waiting = did.one in
      let noted : Waiting = record one { tried = Some now } in
      let was : slice_get old place ≡ Some one = sym (get_on place waiting old far.long far.behind) ∙ did.there in
      let may : MayBeTried site lines now (take place old) one =
      behind_same site lines now (take place old) (take place waiting) far.tried one far.front (is_one site lines now waiting place one did.there tried) in
      record {
        tried = far.tried ++ one.route ∷ [];
        are = did.added ∙ ap (λ (l : List RouteId). l ++ one.route ∷ []) far.are ∙ append_assoc before far.tried (one.route ∷ []);
        front =
            subst (λ (l : List Waiting). EachTried site lines now [] (take (suc place) old) (far.tried ++ one.route ∷ []) l)
            (sym (ap (λ (l : List Waiting). take (suc place) l) did.noted ∙ take_set place one noted waiting did.there))
            (subst (λ (l : List Waiting). EachTried site lines now [] l (far.tried ++ one.route ∷ []) (take place waiting ++ noted ∷ []))
            (sym (take_here place one old was)) (tried_more site lines now [] (take place old) far.tried (take place waiting) one far.front may));
        behind = ap (λ (l : List Waiting). drop (suc place) l) did.noted ∙ drop_set place noted waiting ∙ drop_on place waiting old far.long far.behind;
        long = ap (λ (l : List Waiting). length l) did.noted ∙ set_long place noted waiting ∙ far.long;
      }

  was_passed : (old : List Waiting) (place : ℕ) (before routes : List RouteId) (waiting : List Waiting) → TriedSoFar site lines now old place before routes waiting → place < length waiting
      → (IsTried site lines now waiting place → ⊥) → TriedSoFar site lines now old (suc place) before routes waiting
  was_passed old place before routes waiting far below never =
      let found = there place waiting below in
      let one : Waiting = found.0 in
      let was : slice_get old place ≡ Some one = sym (get_on place waiting old far.long far.behind) ∙ found.1 in
      record {
        tried = far.tried;
        are = far.are;
        front =
            subst (λ (l : List Waiting). EachTried site lines now [] (take (suc place) old) far.tried l) (sym (take_here place one waiting found.1))
            (subst (λ (l : List Waiting). EachTried site lines now [] l far.tried (take place waiting ++ one ∷ [])) (sym (take_here place one old was))
            (passed_more site lines now [] (take place old) far.tried (take place waiting) one far.front
            (λ may. never (one_is site lines now waiting place one found.1 (behind_was site lines now (take place old) (take place waiting) far.tried one far.front may)))));
        behind = drop_on place waiting old far.long far.behind;
        long = far.long;
      }

  pub one_further : (old : List Waiting) (place : ℕ) (before routes : List RouteId) (waiting later : List Waiting) (after : List RouteId) → TriedSoFar site lines now old place before routes waiting → place < length waiting
      → TriedOne site lines now place waiting routes later after → TriedSoFar site lines now old (place + 1) before after later
  one_further old place before routes waiting later after far below (inl did) =
      let next : suc place ≡ place + 1 = omega arith in
      subst (λ (n : ℕ). TriedSoFar site lines now old n before after later) next (was_tried old place before routes waiting later after far did.0 did.1)
  one_further old place before routes waiting later after far below (inr did) =
      let next : suc place ≡ place + 1 = omega arith in
      subst (λ (n : ℕ). TriedSoFar site lines now old n before after later) next
      (subst (λ (w : List Waiting). TriedSoFar site lines now old (suc place) before after w) (sym did.1.same)
      (subst (λ (r : List RouteId). TriedSoFar site lines now old (suc place) before r waiting) (sym did.1.none) (was_passed old place before routes waiting far below did.0)))

  pub all_tried : (old : List Waiting) (place : ℕ) (before routes : List RouteId) (waiting : List Waiting) → TriedSoFar site lines now old place before routes waiting → length waiting ≤ place
      → TriedFrom site lines now old before routes waiting
  all_tried old place before routes waiting far above =
      let long : length waiting ≡ length old = far.long in (
        far.tried,
        far.are,
        subst (λ (l : List Waiting). EachTried site lines now [] l far.tried waiting) (all_taken place old (omega (arith, long, above)))
            (subst (λ (l : List Waiting). EachTried site lines now [] (take place old) far.tried l) (all_taken place waiting above) far.front),
      )
