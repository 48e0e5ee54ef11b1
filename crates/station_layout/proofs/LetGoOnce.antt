-- A route lets each point that it requires go at one section, where the cell tells it.
use Rattle.std.proofs.Common.{◌≡◌, ◌⊎◌, inl, inr, ℕ, zero, suc, ◌+◌, ◌<◌, List, [], ◌∷◌, drop, length, Some, slice_get, refl, sym, subst, arith}
use Rattle.std.specs.List.{Contains}
use Rattle.std.proofs.lemmas.Bool.{cases_lt}
use Rattle.std.proofs.lemmas.Option.{get_or_from_slice_get, none-some, slice_get_within}
use Rattle.control_table.specs.layout.declared.ids.PointId.{PointId}
use Rattle.control_table.specs.layout.declared.ids.RouteId.{RouteId}
use Rattle.control_table.specs.layout.declared.ids.SectionId.{SectionId}
use Rattle.control_table.specs.layout.Entries.{Site}
use Rattle.control_table.specs.AwaitedSections.{Awaits}
use Rattle.station_layout.specs.ListedPlaces.{ListsOne}
use Rattle.station_layout.specs.Names.{point_name}
use Rattle.station_layout.specs.Row.{IsLetGoAt, IsLetGoText, IsRequired, LetsOneGo, TellsLetGo, TellsPoint, point_at}
use Rattle.station_layout.proofs.ListingLaws.{one_or_none, tells_whether, told_at}

-- ---- at no two sections

behind_there : (sections : List SectionId) (j k : ℕ) (s : SectionId) → j < k → slice_get sections k ≡ Some s → Contains (drop (j + 1) sections) s
behind_there [] j k s less there = absurd (none-some s there)
behind_there (first ∷ others) j zero s less there = absurd (omega (arith, less))
behind_there (first ∷ others) zero (suc k) s less there = (k, slice_get_within others k s there, get_or_from_slice_get others k s s there)
behind_there (first ∷ others) (suc j) (suc k) s less there =
    let next : suc j + 1 ≡ suc (j + 1) = omega arith
    in subst (λ n. Contains (drop n (first ∷ others)) s) (sym next) (behind_there others j k s (omega (arith, less)) there)

module _ (l : Site) (a : RouteId) (sections : List SectionId) (p : PointId) where
  not_before : (j k : ℕ) → IsLetGoAt l a sections j p → IsLetGoAt l a sections k p → j < k → ⊥
  not_before j k one other less = one.behind other.section (behind_there sections j k other.section less other.there) other.awaits

  pub one_place : (j k : ℕ) → IsLetGoAt l a sections j p → IsLetGoAt l a sections k p → j ≡ k
  one_place j k one other = elim (cases_lt j k) [
    | inl less ↦ absurd (not_before j k one other less)
    | inr le ↦ elim (cases_lt k j) [
      | inl less ↦ absurd (not_before k j other one less)
      | inr ge ↦ omega (arith, le, ge)
    ]
  ]

-- ---- at some section: the last that is awaited

module _ (Awaited : SectionId → Type 0) where
  abbrev NoneBehind : List SectionId → ℕ → Type 0
  NoneBehind sections place = (later : SectionId) → Contains (drop (place + 1) sections) later → Awaited later → ⊥

  abbrev IsLast : List SectionId → ℕ → SectionId → Type 0
  IsLast sections place s = (place < length sections) × (slice_get sections place ≡ Some s) × Awaited s × NoneBehind sections place

  at_either : (first : SectionId) (others : List SectionId) → ((place : ℕ) (s : SectionId) → IsLast (first ∷ others) place s → ⊥) → ((later : SectionId) → Contains others later → Awaited later → ⊥)
      → (s : SectionId) → Contains (first ∷ others) s → Awaited s → ⊥
  at_either first others none behind s (zero, within, is) awaits = none 0 first (omega arith, refl, subst Awaited (sym is) awaits, behind)
  at_either first others none behind s (suc k, within, is) awaits = behind s (k, omega (arith, within), is) awaits

  behind_more : (first : SectionId) (others : List SectionId) (place : ℕ) → NoneBehind others place → NoneBehind (first ∷ others) (suc place)
  behind_more first others place none =
      let next : suc place + 1 ≡ suc (place + 1) = omega arith
      in subst (λ n. (later : SectionId) → Contains (drop n (first ∷ others)) later → Awaited later → ⊥) (sym next) none

  none_awaited : (sections : List SectionId) → ((place : ℕ) (s : SectionId) → IsLast sections place s → ⊥) → (s : SectionId) → Contains sections s → Awaited s → ⊥
  none_awaited [] none s has awaits = let within = has.1 in absurd (omega (arith, within))
  none_awaited (first ∷ others) none s has awaits =
      let behind = none_awaited others (λ place t last. let within = last.0 in none (suc place) t (omega (arith, within), last.1, last.2, behind_more first others place last.3))
      in at_either first others none behind s has awaits

-- ---- a cell tells it

module _ (l : Site) (a : RouteId) (sections : List SectionId) (texts : List (List ℕ)) (tells : TellsLetGo l a sections texts) (p : PointId) (within : p.0 < length l.points) where
  goes_or_not : (place : ℕ) → place < length sections → IsLetGoAt l a sections place p ⊎ (IsLetGoAt l a sections place p → ⊥)
  goes_or_not place less = elim (tells_whether (LetsOneGo l a sections) (IsLetGoText l a sections) (length sections) place texts tells less) [
    | inl told ↦ elim (tells_whether (λ k. IsLetGoAt l a sections place (point_at k)) (λ k text. text ≡ point_name l (point_at k)) (length l.points) p.0 told.1.0 told.1.1 within) [
      | inl goes ↦ inl goes.2
      | inr never ↦ inr never
    ]
    | inr none ↦ inr (λ goes. none (p.0, within, goes))
  ]

  goes_somewhere : IsRequired l a p → (s : SectionId) → Contains sections s → Awaits l a p s → ListsOne (λ place. IsLetGoAt l a sections place p) (length sections)
  goes_somewhere required s has awaits = elim (one_or_none (λ place. IsLetGoAt l a sections place p) (length sections) goes_or_not) [
    | inl one ↦ one
    | inr none ↦ absurd (none_awaited (Awaits l a p) sections (λ place t last. none place last.0 (record { required = required; section = t; there = last.1; awaits = last.2; behind = last.3 })) s has awaits)
  ]

  told_there : (place : ℕ) → place < length sections → IsLetGoAt l a sections place p → TellsPoint l sections place p texts
  told_there place less goes =
      let text = told_at (LetsOneGo l a sections) (IsLetGoText l a sections) (length sections) place texts tells less (p.0, within, goes)
      in let name = told_at (λ k. IsLetGoAt l a sections place (point_at k)) (λ k name. name ≡ point_name l (point_at k)) (length l.points) p.0 text.1.0 text.1.1 within goes
      in (text.0, text.1.0, text.2, subst (Contains text.1.0) name.1 name.2, text.1.2)

  pub point_told : IsRequired l a p → (s : SectionId) → Contains sections s → Awaits l a p s → (place : ℕ) × IsLetGoAt l a sections place p × TellsPoint l sections place p texts
  point_told required s has awaits =
      let one = goes_somewhere required s has awaits
      in (one.0, one.2, told_there one.0 one.1 one.2)
