-- Which routes are tried in a turn.
use Rattle.std.proofs.Common.{◌≡◌, ◌∙◌, ◌⊎◌, inl, inr, ℕ, Bool, true, false, List, [], ◌∷◌, ◌++◌, append_assoc, refl, sym, ap, subst}
use Rattle.std.specs.List.{Contains}
use Rattle.std.proofs.lemmas.Bool.{false≢true}
use Rattle.std.proofs.lemmas.List.{append-nil}
use Rattle.std.proofs.lemmas.List.Elements.{Contains-append_left, Contains-append_right, Contains-push}
use Rattle.node_lines.specs.control_table.Table.{Conflict}
use Rattle.node_lines.specs.layout.Entries.{Site}
use Rattle.node_lines.specs.layout.declared.ids.RouteId.{RouteId}
use Rattle.panel_desk.specs.InTheWay.{IsHindered, StandsAgainst}
use Rattle.panel_desk.specs.StandingLaws.{EachOnce, OnlySetRoutesAgainst, WaitsLonger}
use Rattle.panel_desk.specs.StandingOrders.{EachTried, MayBeTried, StandingView, TriedIf, ends, is_waiting, now_waiting, passes, tries}
use Rattle.panel_desk.specs.declared.panel_line.PanelLine.{PanelLine}
use Rattle.panel_desk.specs.declared.standing_orders.Waiting.{Waiting}
use Rattle.panel_desk.proofs.Waits.{contains-cases, contains-here, contains-none, contains-there, one_place, one_waits, waits_there}

-- ---- one that is tried

-- it stands at a place of those that wait, where it may be tried
pub record TriedAt (site : Site) (lines : List PanelLine) (now : ℕ) (earlier waiting : List Waiting) (route : RouteId) : Type 0 where
  pub before : List Waiting
  pub one : Waiting
  pub more : List Waiting
  pub split : waiting ≡ before ++ one ∷ more
  pub is_one : one.route ≡ route
  pub may : MayBeTried site lines now (earlier ++ before) one

-- one more stands before all
moved : (earlier before : List Waiting) (first : Waiting) → (earlier ++ first ∷ []) ++ before ≡ earlier ++ first ∷ before
moved earlier before first = append_assoc earlier (first ∷ []) before

further : (site : Site) (lines : List PanelLine) (now : ℕ) (earlier more : List Waiting) (first : Waiting) (route : RouteId)
    → TriedAt site lines now (earlier ++ first ∷ []) more route → TriedAt site lines now earlier (first ∷ more) route
further site lines now earlier more first route at = record {
  before = first ∷ at.before;
  one = at.one;
  more = at.more;
  split = ap (λ (l : List Waiting). first ∷ l) at.split;
  is_one = at.is_one;
  may = subst (λ (l : List Waiting). MayBeTried site lines now l at.one) (moved earlier at.before first) at.may;
}

pub tried_at : (site : Site) (lines : List PanelLine) (now : ℕ) (earlier waiting : List Waiting) (routes : List RouteId) (later : List Waiting) (route : RouteId)
    → EachTried site lines now earlier waiting routes later → Contains routes route → TriedAt site lines now earlier waiting route
tried_at site lines now _ _ _ _ route (ends) has = absurd (contains-none route has)
tried_at site lines now _ _ _ _ route (tries {one = one} {earlier = earlier} {more = more} {later = later} {routes = routes} may rest) has =
    at_first (contains-cases one.route route routes has) (λ (later_has : Contains routes route). tried_at site lines now (earlier ++ one ∷ []) more routes later route rest later_has)
  where
    at_first : (one.route ≡ route) ⊎ Contains routes route → (Contains routes route → TriedAt site lines now (earlier ++ one ∷ []) more route) → TriedAt site lines now earlier (one ∷ more) route
    at_first (inl is) next = record {
      before = [];
      one = one;
      more = more;
      split = refl;
      is_one = is;
      may = subst (λ (l : List Waiting). MayBeTried site lines now l one) (sym (append-nil earlier)) may;
    }
    at_first (inr later_has) next = further site lines now earlier more one route (next later_has)
tried_at site lines now _ _ _ _ route (passes {one = one} {earlier = earlier} {more = more} {later = later} {routes = routes} never rest) has =
    further site lines now earlier more one route (tried_at site lines now (earlier ++ one ∷ []) more routes later route rest has)

-- in a whole turn
pub turn_at : (site : Site) (lines : List PanelLine) (now : ℕ) (old new : StandingView) (routes : List RouteId) (route : RouteId) (shut apart : Bool)
    → TriedIf shut apart site lines now old routes new → Contains routes route → TriedAt site lines now [] (now_waiting lines old) route
turn_at site lines now old new routes route true apart turn has = absurd (contains-none route (subst (λ (l : List RouteId). Contains l route) turn.0 has))
turn_at site lines now old new routes route false true turn has = absurd (contains-none route (subst (λ (l : List RouteId). Contains l route) turn.0 has))
turn_at site lines now old new routes route false false turn has = tried_at site lines now [] (now_waiting lines old) routes turn.0 route turn.1 has

-- ---- what is tried waits, and nothing stands against it

pub waits_at : (site : Site) (lines : List PanelLine) (now : ℕ) (waiting : List Waiting) (route : RouteId) → TriedAt site lines now [] waiting route → is_waiting route waiting ≡ true
waits_at site lines now waiting route at =
    let has : Contains (at.before ++ at.one ∷ at.more) at.one = Contains-append_right at.before (at.one ∷ at.more) at.one (contains-here at.one at.more) in
    waits_there route at.one waiting (subst (λ (l : List Waiting). Contains l at.one) (sym at.split) has) at.is_one

pub unopposed_at : (site : Site) (lines : List PanelLine) (now : ℕ) (earlier waiting : List Waiting) (route : RouteId) (line : PanelLine) → TriedAt site lines now earlier waiting route
    → Contains lines line → StandsAgainst site route line → ⊥
unopposed_at site lines now earlier waiting route line at has against =
    at.may.unopposed line has (subst (λ (r : RouteId). StandsAgainst site r line) (sym at.is_one) against)

-- ---- what may be tried is tried

pub reaches : (site : Site) (lines : List PanelLine) (now : ℕ) (earlier waiting : List Waiting) (routes : List RouteId) (later before : List Waiting) (one : Waiting) (more : List Waiting)
    → EachTried site lines now earlier waiting routes later → waiting ≡ before ++ one ∷ more → MayBeTried site lines now (earlier ++ before) one → Contains routes one.route
reaches site lines now _ _ _ _ [] one more (ends) is may = absurd (cc)
reaches site lines now _ _ _ _ (before ∷ others) one more (ends) is may = absurd (cc)
reaches site lines now _ _ _ _ [] one more (tries {one = first} {earlier = earlier} {more = behind} {later = later} {routes = routes} can rest) is may =
    let same : first ≡ one = cc in
    subst (λ (w : Waiting). Contains (first.route ∷ routes) w.route) same (contains-here first.route routes)
reaches site lines now _ _ _ _ [] one more (passes {one = first} {earlier = earlier} {more = behind} {later = later} {routes = routes} never rest) is may =
    let same : one ≡ first = cc in
    absurd (never (subst (λ (w : Waiting). MayBeTried site lines now earlier w) same (subst (λ (l : List Waiting). MayBeTried site lines now l one) (append-nil earlier) may)))
reaches site lines now _ _ _ _ (before ∷ others) one more (tries {one = first} {earlier = earlier} {more = behind} {later = later} {routes = routes} can rest) is may =
    let same : before ≡ first = cc in
    let tail : behind ≡ others ++ one ∷ more = cc in
    contains-there first.route one.route routes (reaches site lines now (earlier ++ first ∷ []) behind routes later others one more rest tail
    (subst (λ (l : List Waiting). MayBeTried site lines now l one) (ap (λ (w : Waiting). earlier ++ w ∷ others) same ∙ sym (moved earlier others first)) may))
reaches site lines now _ _ _ _ (before ∷ others) one more (passes {one = first} {earlier = earlier} {more = behind} {later = later} {routes = routes} never rest) is may =
    let same : before ≡ first = cc in
    let tail : behind ≡ others ++ one ∷ more = cc in
    reaches site lines now (earlier ++ first ∷ []) behind routes later others one more rest tail
    (subst (λ (l : List Waiting). MayBeTried site lines now l one) (ap (λ (w : Waiting). earlier ++ w ∷ others) same ∙ sym (moved earlier others first)) may)

pub turn_reaches : (site : Site) (lines : List PanelLine) (now : ℕ) (old new : StandingView) (routes : List RouteId) (before more : List Waiting) (one : Waiting) (shut apart : Bool)
    → TriedIf shut apart site lines now old routes new → shut ≡ false → apart ≡ false → now_waiting lines old ≡ before ++ one ∷ more → MayBeTried site lines now before one → Contains routes one.route
turn_reaches site lines now old new routes before more one true apart turn unshut near is may = absurd (cc)
turn_reaches site lines now old new routes before more one false true turn unshut near is may = absurd (cc)
turn_reaches site lines now old new routes before more one false false turn unshut near is may =
    reaches site lines now [] (now_waiting lines old) routes turn.0 before one more turn.1 is may

-- ---- of two that conflict

behind : (site : Site) (lines : List PanelLine) (now : ℕ) (earlier waiting : List Waiting) (routes : List RouteId) (later : List Waiting) (route : RouteId) (other : Waiting)
    → EachTried site lines now earlier waiting routes later → Contains routes route → Contains earlier other → Conflict site route other.route → IsHindered site lines other.route
behind site lines now earlier waiting routes later route other each has before conflict =
    let at = tried_at site lines now earlier waiting routes later route each has in
    at.may.first other (Contains-append_left earlier at.before other before) (subst (λ (r : RouteId). Conflict site r other.route) (sym at.is_one) conflict)

pub apart_each : (site : Site) → ((a b : RouteId) → Conflict site a b → Conflict site b a) → (lines : List PanelLine) (now : ℕ) (earlier waiting : List Waiting) (routes : List RouteId) (later : List Waiting) (first second : RouteId)
    → EachTried site lines now earlier waiting routes later → Contains routes first → Contains routes second → Conflict site first second → ⊥
apart_each site turned lines now _ _ _ _ first second (ends) has other conflict = contains-none first has
apart_each site turned lines now _ _ _ _ first second (passes {one = one} {earlier = earlier} {more = more} {later = later} {routes = routes} never rest) has other conflict =
    apart_each site turned lines now (earlier ++ one ∷ []) more routes later first second rest has other conflict
apart_each site turned lines now _ _ _ _ first second (tries {one = one} {earlier = earlier} {more = more} {later = later} {routes = routes} may rest) has other conflict =
    by_cases (contains-cases one.route first routes has) (contains-cases one.route second routes other)
    (λ (one_has : Contains routes first) (other_has : Contains routes second). apart_each site turned lines now (earlier ++ one ∷ []) more routes later first second rest one_has other_has conflict)
  where
    -- the one that is tried isn't hindered
    here : (route : RouteId) → Contains routes route → Conflict site route one.route → ⊥
    here route later_has conflict =
        let hindered = behind site lines now (earlier ++ one ∷ []) more routes later route one rest later_has (Contains-push earlier one) conflict in
        may.unopposed hindered.0 hindered.1 hindered.2.1

    by_cases : (one.route ≡ first) ⊎ Contains routes first → (one.route ≡ second) ⊎ Contains routes second → (Contains routes first → Contains routes second → ⊥) → ⊥
    by_cases (inl one_is) (inl other_is) both = conflict.0 (sym one_is ∙ other_is)
    by_cases (inl one_is) (inr other_has) both = here second other_has (subst (λ (r : RouteId). Conflict site second r) (sym one_is) (turned first second conflict))
    by_cases (inr one_has) (inl other_is) both = here first one_has (subst (λ (r : RouteId). Conflict site first r) (sym other_is) conflict)
    by_cases (inr one_has) (inr other_has) both = both one_has other_has

pub turn_apart : (site : Site) → ((a b : RouteId) → Conflict site a b → Conflict site b a) → (lines : List PanelLine) (now : ℕ) (old new : StandingView) (routes : List RouteId) (first second : RouteId) (shut apart : Bool)
    → TriedIf shut apart site lines now old routes new → Contains routes first → Contains routes second → Conflict site first second → ⊥
turn_apart site turned lines now old new routes first second true apart turn has other conflict = contains-none first (subst (λ (l : List RouteId). Contains l first) turn.0 has)
turn_apart site turned lines now old new routes first second false true turn has other conflict = contains-none first (subst (λ (l : List RouteId). Contains l first) turn.0 has)
turn_apart site turned lines now old new routes first second false false turn has other conflict =
    apart_each site turned lines now [] (now_waiting lines old) routes turn.0 first second turn.1 has other conflict

pub longer_hindered : (site : Site) (lines : List PanelLine) (now : ℕ) (waiting : List Waiting) (longer route : RouteId) → EachOnce waiting → TriedAt site lines now [] waiting route
    → WaitsLonger waiting longer route → Conflict site route longer → IsHindered site lines longer
longer_hindered site lines now waiting longer route once at waits conflict =
    let same : at.before ≡ waits.before =
    one_place at.before waits.before at.one waits.one at.more waits.more (subst EachOnce at.split once) (sym at.split ∙ waits.split) (at.is_one ∙ sym waits.is_one) in
    let other = one_waits longer at.before (subst (λ (l : List Waiting). is_waiting longer l ≡ true) (sym same) waits.is_before) in
    subst (λ (r : RouteId). IsHindered site lines r) other.2
    (at.may.first other.0 other.1
    (subst (λ (r : RouteId). Conflict site r other.0.route) (sym at.is_one) (subst (λ (r : RouteId). Conflict site route r) (sym other.2) conflict)))

-- what is hindered waits for more than set routes
pub not_alone : (site : Site) (lines : List PanelLine) (route : RouteId) → IsHindered site lines route → OnlySetRoutesAgainst site lines route → ⊥
not_alone site lines route hindered only = false≢true (sym hindered.2.0 ∙ only hindered.0 hindered.1 hindered.2.1)
