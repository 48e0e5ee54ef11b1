-- The parts of the test whether a snapshot is safe, joined.
use Rattle.std.proofs.Common.{◌≡◌, ℕ, ◌+◌, ◌<◌, List, length, get_or, Option, Some, refl, sym, ap, subst, ◌∙◌, inl, inr, ◌⊎◌, arith}
use Rattle.std.specs.List.{Contains}
use Rattle.std.specs.Prelude.{slice_get}
use Rattle.std.proofs.lemmas.Option.{get_or_from_slice_get, slice_get-get_or, slice_get_within}
use Rattle.ixl_spec.specs.sci_telegram.declared.message.Aspect.{Aspect}
use Rattle.ixl_spec.specs.sci_telegram.declared.message.Aspect.TheVariants.{Stop}
use Rattle.ixl_spec.specs.sci_telegram.declared.message.Side.{Side}
use Rattle.ixl_spec.specs.layout.declared.ids.PointId.{PointId}
use Rattle.ixl_spec.specs.layout.declared.ids.RouteId.{RouteId}
use Rattle.ixl_spec.specs.layout.declared.ids.SignalId.{SignalId}
use Rattle.ixl_spec.specs.layout.Entries.{Site, RouteEntry}
use Rattle.ixl_spec.specs.control_table.Table.{AreRequired, HasAspect, RouteRequires}
use Rattle.simulator_event.specs.Safe.{IsHeldFor, IsOf, IsProtected, IsThere, Safe}
use Rattle.simulator_event.specs.inside.Tests.{AllStand, AreApart, AreShownRightly, IsOnly, IsShownRightly}
use Rattle.simulator_event.specs.declared.snapshot.Held.{Held}
use Rattle.simulator_event.specs.declared.snapshot.Shown.{Shown}
use Rattle.simulator_event.specs.declared.snapshot.Snapshot.{Snapshot}
use Rattle.simulator_event.proofs.Loops.{member}

-- ---- pairs that are there

pub there_at : (site : Site) (seen : Snapshot) (xs : List Held) (i : ℕ) (d : Held) → xs ≡ seen.held.items → IsOf site seen → i < length xs → IsThere site (get_or xs i d)
there_at site seen xs i d e of within =
    let P : List Held → Type 0 = λ ys. Contains ys (get_or xs i d) in of.there (get_or xs i d) (subst P e (member xs i d within))

pub held_there : (site : Site) (seen : Snapshot) (signal : SignalId) (route : RouteId) → IsOf site seen → IsHeldFor seen signal route → route.0 < length site.routes
held_there site seen signal route of held = (of.there (record { signal = signal; route = route }) held).route

pub not_there : (site : Site) (seen : Snapshot) (xs : List Held) (i : ℕ) (d : Held) → xs ≡ seen.held.items → i < length xs
    → ((held : Held) → Contains seen.held.items held → IsThere site held) → IsThere site (get_or xs i d)
not_there site seen xs i d e within all =
    let P : List Held → Type 0 = λ ys. Contains ys (get_or xs i d) in all (get_or xs i d) (subst P e (member xs i d within))

pub of_from : (site : Site) (seen : Snapshot) → length seen.shows.items ≡ length site.signals → length seen.position.items ≡ length site.points
    → length seen.driven.items ≡ length site.points → ((held : Held) → Contains seen.held.items held → IsThere site held) → IsOf site seen
of_from site seen signals positions drives there = record { signals = signals; positions = positions; drives = drives; there = there }

pub of_there : (site : Site) (seen : Snapshot) → IsOf site seen → (held : Held) → Contains seen.held.items held → IsThere site held
of_there site seen of = of.there

-- ---- a protected signal

pub protected_from : (site : Site) (seen : Snapshot) (signal : SignalId) (aspect : Aspect) (route : RouteId) (required : List (PointId × Side))
    → IsHeldFor seen signal route → IsOnly seen signal route → HasAspect site route aspect → AreRequired site route required → AllStand seen required
    → IsProtected site seen signal aspect
protected_from site seen signal aspect route required held only shows are all = record {
  route = route;
  held = held;
  only = λ other is_held. (only (record { signal = signal; route = other }) is_held).same refl;
  shows = shows;
  points = λ point side requires. all (point, side) ((are.points point side).1 requires);
}

pub protected_held : (site : Site) (seen : Snapshot) (signal : SignalId) (aspect : Aspect) → IsProtected site seen signal aspect → (route : RouteId) × IsHeldFor seen signal route
protected_held site seen signal aspect is = (is.route, is.held)

same_route : (site : Site) (seen : Snapshot) (signal : SignalId) (aspect : Aspect) (route : RouteId) (is : IsProtected site seen signal aspect) → IsHeldFor seen signal route → route ≡ is.route
same_route site seen signal aspect route is held = is.only route held

pub protected_only : (site : Site) (seen : Snapshot) (signal : SignalId) (aspect : Aspect) (route : RouteId) → IsProtected site seen signal aspect → IsHeldFor seen signal route → IsOnly seen signal route
protected_only site seen signal aspect route is held other contains = record {
  same = λ e.
      let P : SignalId → Type 0 = λ s. IsHeldFor seen s other.route
      in is.only other.route (subst P e contains) ∙ sym (same_route site seen signal aspect route is held);
}

one_aspect : (site : Site) (route : RouteId) (a b : Aspect) → HasAspect site route a → HasAspect site route b → a ≡ b
one_aspect site route a b (r, at, is) (q, there, also) =
    let unwrap : Option RouteEntry → Aspect = λ o. elim o [ Some entry ↦ entry.aspect | _ ↦ Stop ] in
    sym is ∙ (ap unwrap (sym at ∙ there) ∙ also)

pub protected_aspect : (site : Site) (seen : Snapshot) (signal : SignalId) (aspect : Aspect) (route : RouteId) (shown : Aspect)
    → IsProtected site seen signal aspect → IsHeldFor seen signal route → HasAspect site route shown → shown ≡ aspect
protected_aspect site seen signal aspect route shown is held has =
    let P : RouteId → Type 0 = λ r. HasAspect site r shown in
    one_aspect site is.route shown aspect (subst P (same_route site seen signal aspect route is held) has) is.shows

pub protected_points : (site : Site) (seen : Snapshot) (signal : SignalId) (aspect : Aspect) (route : RouteId) (required : List (PointId × Side))
    → IsProtected site seen signal aspect → IsHeldFor seen signal route → AreRequired site route required → AllStand seen required
protected_points site seen signal aspect route required is held are need contains =
    let P : RouteId → Type 0 = λ r. RouteRequires site r need.0 need.1 in
    is.points need.0 need.1 (subst P (same_route site seen signal aspect route is held) ((are.points need.0 need.1).0 contains))

-- ---- all signals

either : (k i : ℕ) → k < i + 1 → (k < i) ⊎ (k ≡ i)
either k i lt = grind arith

-- one more signal that is shown rightly
pub more_shown : (site : Site) (seen : Snapshot) (i : ℕ) (d : Shown) → i < length seen.shows.items
    → IsShownRightly site seen (record { 0 = i }) (get_or seen.shows.items i d).0 → AreShownRightly site seen i → AreShownRightly site seen (i + 1)
more_shown site seen i d within here so_far signal aspect lt shows =
    elim (either signal.0 i lt) [
      | inl before ↦ so_far signal aspect before shows
      | inr same ↦
          let P : SignalId → Type 0 = λ s. IsShownRightly site seen s aspect in
          let Q : Aspect → Type 0 = λ a. IsShownRightly site seen (record { 0 = i }) a in
          let R : ℕ → Type 0 = λ n. slice_get seen.shows.items n ≡ Some (record { 0 = aspect }) in
          let there : slice_get seen.shows.items i ≡ Some (record { 0 = aspect }) = subst R same shows in
          let e : get_or seen.shows.items i d ≡ record { 0 = aspect } = get_or_from_slice_get seen.shows.items i (record { 0 = aspect }) d there in
          subst P (ap (λ (n : ℕ). record { 0 = n }) (sym same)) (subst Q (ap (λ (s : Shown). s.0) e) here)
    ]

pub shown_at : (site : Site) (seen : Snapshot) (i : ℕ) (d : Shown) → i < length seen.shows.items → AreShownRightly site seen (length seen.shows.items)
    → IsShownRightly site seen (record { 0 = i }) (get_or seen.shows.items i d).0
shown_at site seen i d within all = all (record { 0 = i }) (get_or seen.shows.items i d).0 within (slice_get-get_or seen.shows.items i d within)

-- ---- the whole

pub safe_from : (site : Site) (seen : Snapshot) → IsOf site seen → AreShownRightly site seen (length seen.shows.items) → AreApart site seen → Safe site seen
safe_from site seen of shown apart = record {
  of = of;
  each = λ signal aspect shows. (shown signal aspect (slice_get_within seen.shows.items signal.0 (record { 0 = aspect }) shows) shows).protected;
  apart = λ signal other a b differ one two held also.
      ((apart (record { signal = signal; route = a }) held).from (record { signal = other; route = b }) also).apart differ one two;
}

pub safe_of : (site : Site) (seen : Snapshot) → Safe site seen → IsOf site seen
safe_of site seen safe = safe.of

pub safe_shown : (site : Site) (seen : Snapshot) → Safe site seen → AreShownRightly site seen (length seen.shows.items)
safe_shown site seen safe signal aspect within shows = record { protected = safe.each signal aspect shows }

pub safe_apart : (site : Site) (seen : Snapshot) → Safe site seen → AreApart site seen
safe_apart site seen safe held contains = record {
  from = λ other also. record { apart = λ differ one two. safe.apart held.signal other.signal held.route other.route differ one two contains also };
}
