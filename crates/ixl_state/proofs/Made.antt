-- Lists that are made one by one.
use Rattle.std.proofs.Common.{◌≡◌, ◌∙◌, ◌++◌, false, ℕ, ◌+◌, ◌<◌, ◌≤◌, List, [], ◌∷◌, length, map, take, get_or, refl, sym, ap, subst, arith}
use Rattle.std.specs.Prelude.{slice_get, IsTrue}
use Rattle.std.specs.FinSet.{contains-empty}
use Rattle.std.specs.List.{All}
use Rattle.std.specs.Option.{option_map}
use Rattle.std.specs.Ordering.{nat_cmp}
use Rattle.std.proofs.lemmas.Bool.{false≢true}
use Rattle.std.proofs.lemmas.List.{length-map, map_more, take_all}
use Rattle.std.proofs.lemmas.Option.{same_Some, slice_get-get_or, slice_get-map}
use Rattle.ixl_spec.specs.sci_telegram.declared.message.Protocol.{Protocol}
use Rattle.ixl_spec.specs.layout.declared.ids.RouteId.{RouteId}
use Rattle.ixl_spec.specs.layout.declared.ids.SectionId.{SectionId}
use Rattle.ixl_spec.specs.layout.Entries.{DetectorEntry, Site}
use Rattle.ixl_spec.specs.layout.Station.{IsDetectorOf, IsStation}
use Rattle.release.specs.Passage.{passage_after}
use Rattle.route_lock.specs.Locks.{IsSet, LockState}
use Rattle.ixl_spec.specs.closings.Closed.{nothing}
use Rattle.ixl_spec.specs.ixl_client.Client.{new_client}
use Rattle.ixl_spec.specs.State.{RouteState}
use Rattle.ixl_spec.specs.Table.{Row, Table}
use Rattle.ixl_spec.specs.View.{is_set}
use Rattle.ixl_table.specs.Locks.{AreLocksOf, IsKeptRoute}
use Rattle.ixl_table.specs.Table.{IsTableThere, SitedTable, as_route}
use Rattle.ixl_known.specs.Field.{FieldState, kept}
use Rattle.ixl_spec.specs.First.{Beginning, client_of, new_detector_of, new_ixl, new_known_signal_of, new_route_of, new_known_point_of}
use Rattle.ixl_state.specs.inside.Kept.{AreRoutesOf, IsPassageOf}

-- one more of a list is made
pub made-more : {A B : Type 0} (make : A → B) (xs : List A) (i : ℕ) (x : A) (y : B) (ys new : List B) → i < length xs → x ≡ get_or xs i x → y ≡ make x → new ≡ ys ++ y ∷ [] → ys ≡ map make (take i xs) → new ≡ map make (take (i + 1) xs)
made-more {A} {B} make xs i x y ys new lt at is pushed so_far =
    pushed ∙ ap (λ (zs : List B). zs ++ y ∷ []) so_far ∙ ap (λ (z : B). map make (take i xs) ++ z ∷ []) (is ∙ ap make at) ∙ sym (map_more make xs i x lt)

pub made-all : {A B : Type 0} (make : A → B) (xs : List A) (i : ℕ) (ys : List B) → length xs ≤ i → ys ≡ map make (take i xs) → ys ≡ map make xs
made-all {A} make xs i ys past so_far = so_far ∙ ap (λ (zs : List A). map make zs) (take_all i xs past)

-- ---- clients

pub objects-of : (protocol : Protocol) (site : Site) (begins : Beginning) (name : List ℕ) (id : ℕ) (objects : List (List ℕ)) → (client_of protocol site begins name id objects).peer.objects ≡ objects
unfolding new_client
objects-of protocol site begins name id objects = refl

-- a detector of a station has at most 64 objects
pub few-objects : (site : Site) (detectors : List DetectorEntry) (i : ℕ) (detector : DetectorEntry) (sections : List SectionId) (objects told : List (List ℕ)) (name : SectionId → List ℕ) → IsStation site → detectors ≡ site.detectors → i < length detectors
    → detector ≡ get_or detectors i detector → sections ≡ detector.sections → objects ≡ map name sections → told ≡ objects → length told ≤ 64
few-objects site detectors i detector sections objects told name station same lt is its named all =
    let each = subst (λ (ds : List DetectorEntry). All (IsDetectorOf site) ds) (sym same) station.detectors in
    let one : IsDetectorOf site detector = subst (IsDetectorOf site) (sym is) (each i detector lt) in
    let few = one.few in
    let long : length told ≡ length detector.sections = ap length all ∙ ap length named ∙ length-map sections name ∙ ap length its in
    omega (arith, few, long)

-- ---- the first state

pub rows-long : (site : Site) (table : Table) (rows : List Row) → IsTableThere site table → rows ≡ table.rows → All (λ (row : Row). (1 ≤ length row.sections) × (length row.sections ≤ 64)) rows
rows-long site table rows there same = subst (λ (rs : List Row). All (λ (row : Row). (1 ≤ length row.sections) × (length row.sections ≤ 64)) rs) (sym same)
    (λ k d lt. let row = there.rows k (get_or table.rows k d) (slice_get-get_or table.rows k d lt) in (row.some, row.few))

none-seen : (row : Row) → IsPassageOf row (passage_after (length row.sections) [])
unfolding passage_after
none-seen row = record { sections = refl; within = λ place h. absurd (false≢true (sym (contains-empty nat_cmp place) ∙ h)) }

module _ (sited : SitedTable) (routes : List RouteState) (new : routes ≡ map new_route_of sited.table.rows) where
  is-new : (number : ℕ) (row : Row) (route : RouteState) → IsKeptRoute sited.table routes number row route → new_route_of row ≡ route
  is-new number row route at =
      same_Some (new_route_of row) route (sym (ap (option_map new_route_of) at.0) ∙ sym (slice_get-map new_route_of sited.table.rows number) ∙ sym (ap (λ (rs : List RouteState). slice_get rs number) new) ∙ at.1)

  is-free : (number : ℕ) (row : Row) (route : RouteState) → IsKeptRoute sited.table routes number row route → IsTrue (is_set route.phase) → ⊥
  is-free number row route at set = false≢true (subst (λ (r : RouteState). IsTrue (is_set r.phase)) (sym (is-new number row route at)) set)

  pub first-routes : AreRoutesOf sited routes
  first-routes = record {
    each = ap length new ∙ length-map sited.table.rows new_route_of;
    left = λ number row route at set. absurd (is-free number row route at set);
    passages = λ number row route at. subst (λ (r : RouteState). IsPassageOf row r.passage) (is-new number row route at) (none-seen row);
  }

  pub first-locks : (locks : LockState) → locks.table ≡ sited.site → ((a : RouteId) → IsSet locks a → ⊥) → AreLocksOf sited routes locks
  first-locks locks site free = record {
    site = site;
    locked = λ number row route at section. ((λ h. absurd (free (as_route number) (section, h))), (λ h. absurd (is-free number row route at h.0)));
    no_other = λ number section past h. free (as_route number) (section, h);
  }

pub first-ixl : (site : Site) (table : Table) (begins : Beginning) (field : FieldState) (routes : List RouteState) → field.known_signals ≡ map (new_known_signal_of site begins) site.signals → field.known_points ≡ map (new_known_point_of site begins) site.points
    → field.detectors ≡ map (new_detector_of site begins) site.detectors → routes ≡ map new_route_of table.rows → kept field (record { routes = routes; created = begins.clock; resumed = false; closed = nothing }) ≡ new_ixl site table begins
unfolding new_ixl
first-ixl site table begins field routes known_signals known_points detectors new =
    λ i. record { known_signals = known_signals i; known_points = known_points i; detectors = detectors i; routes = new i; created = begins.clock; resumed = false; closed = nothing }
