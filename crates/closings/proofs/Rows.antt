-- What is closed behind a change of one row.
use Rattle.std.proofs.Common.{◌≡◌, ◌≢◌, ◌⊎◌, ◌∙◌, ◌↔◌, ℕ, zero, suc, ◌+◌, ◌<◌, nat_lt, add-one, ◌==◌, ◌||◌, ◌&&◌, not, Bool, true, false, IsTrue, if◌then◌else◌, length, refl, sym, ap, subst, inl, inr, ⊎_elim, arith}
use Rattle.std.specs.Ordering.{nat_cmp}
use Rattle.std.specs.Cmp.{nat_cmp_total, unsigned_tied}
use Rattle.std.specs.FinSet.{contains, empty, insert, remove, contains-empty, contains-insert, contains-remove}
use Rattle.std.proofs.lemmas.Bool.Decides.{nat_tests}
use Rattle.std.proofs.lemmas.Bool.{eqb-true, eq-eqb, false≢true}
use Rattle.control_table.specs.bit_row.Places.{Places}
use Rattle.control_table.specs.layout.Entries.{Site}
use Rattle.control_table.specs.sci_telegram.declared.message.Side.{Side}
use Rattle.control_table.specs.sci_telegram.declared.message.Side.TheVariants as side
use Rattle.closings.specs.declared.thing.Thing.{Thing}
use Rattle.closings.specs.declared.thing.Thing.TheVariants.{Section, Point, Signal, Route}
use Rattle.closings.specs.declared.thing.Kind.{Kind}
use Rattle.closings.specs.declared.thing.Kind.TheVariants as kind
use Rattle.closings.specs.declared.thing.Named.{Named}
use Rattle.closings.specs.declared.thing.Named.TheVariants.{One, BothSides}
use Rattle.closings.specs.declared.closed.Closings.{Closings}
use Rattle.closings.specs.Things.{IsTrack, Names, kind_of, place_of, thing_at}
use Rattle.closings.specs.Closed.{IsClosed, all_track, first_places, is_closed, nothing, row, with_named, with_row, with_thing, without_named, without_thing}

put : (s : Places) (j k : ℕ) → contains (insert s j) k ≡ ((k == j) || contains s k)
put s j k = contains-insert nat_cmp_total s j k ∙ ap (λ b. b || contains s k) (unsigned_tied k j)

taken : (s : Places) (j k : ℕ) → contains (remove s j) k ≡ (not (k == j) && contains s k)
taken s j k = contains-remove nat_cmp_total s j k ∙ ap (λ b. not b && contains s k) (unsigned_tied k j)

-- ---- kinds by numbers

abbrev pub code : Kind → ℕ
code kind.Section = 0
code kind.PointLeft = 1
code kind.PointRight = 2
code kind.Signal = 3
code kind.Route = 4

kind_at : ℕ → Kind
kind_at zero = kind.Section
kind_at (suc zero) = kind.PointLeft
kind_at (suc (suc zero)) = kind.PointRight
kind_at (suc (suc (suc zero))) = kind.Signal
kind_at (suc (suc (suc (suc k)))) = kind.Route

kind-code : (k : Kind) → kind_at (code k) ≡ k
unfolding kind_at
kind-code kind.Section = refl
kind-code kind.PointLeft = refl
kind-code kind.PointRight = refl
kind-code kind.Signal = refl
kind-code kind.Route = refl

same_kind : (j k : Kind) → (code j == code k) ≡ true → j ≡ k
same_kind j k e = sym (kind-code j) ∙ ap kind_at (eqb-true (code j) (code k) e) ∙ kind-code k

-- the row of one kind behind a change of another, or of the same
after_row : (c : Closings) (k j : Kind) (places : Places) → row (with_row c k places) j ≡ (if code j == code k then places else row c j)
after_row c kind.Section kind.Section places = refl
after_row c kind.Section kind.PointLeft places = refl
after_row c kind.Section kind.PointRight places = refl
after_row c kind.Section kind.Signal places = refl
after_row c kind.Section kind.Route places = refl
after_row c kind.PointLeft kind.Section places = refl
after_row c kind.PointLeft kind.PointLeft places = refl
after_row c kind.PointLeft kind.PointRight places = refl
after_row c kind.PointLeft kind.Signal places = refl
after_row c kind.PointLeft kind.Route places = refl
after_row c kind.PointRight kind.Section places = refl
after_row c kind.PointRight kind.PointLeft places = refl
after_row c kind.PointRight kind.PointRight places = refl
after_row c kind.PointRight kind.Signal places = refl
after_row c kind.PointRight kind.Route places = refl
after_row c kind.Signal kind.Section places = refl
after_row c kind.Signal kind.PointLeft places = refl
after_row c kind.Signal kind.PointRight places = refl
after_row c kind.Signal kind.Signal places = refl
after_row c kind.Signal kind.Route places = refl
after_row c kind.Route kind.Section places = refl
after_row c kind.Route kind.PointLeft places = refl
after_row c kind.Route kind.PointRight places = refl
after_row c kind.Route kind.Signal places = refl
after_row c kind.Route kind.Route places = refl

-- ---- things by kind and place

pub thing-at : (t : Thing) → thing_at (kind_of t) (place_of t) ≡ t
thing-at (Section s) = refl
thing-at (Point p side.Left) = refl
thing-at (Point p side.Right) = refl
thing-at (Signal s) = refl
thing-at (Route r) = refl

abbrev pub same : Thing → Thing → Bool
same t u = (code (kind_of t) == code (kind_of u)) && (place_of t == place_of u)

both : (a b : Bool) → (a && b) ≡ true → (a ≡ true) × (b ≡ true)
both true b e = (refl, e)
both false b e = cc

same-true : (t u : Thing) → same t u ≡ true → t ≡ u
same-true t u e =
    let parts = both (code (kind_of t) == code (kind_of u)) (place_of t == place_of u) e in
    sym (thing-at t) ∙ ap (λ k. thing_at k (place_of t)) (same_kind (kind_of t) (kind_of u) parts.0)
    ∙ ap (thing_at (kind_of u)) (eqb-true (place_of t) (place_of u) parts.1) ∙ thing-at u

true-same : (t u : Thing) → t ≡ u → same t u ≡ true
true-same t u e = subst (λ (v : Thing). same t v ≡ true) e (ap (λ b. b && (place_of t == place_of t)) (eq-eqb (code (kind_of t)) (code (kind_of t)) refl) ∙ eq-eqb (place_of t) (place_of t) refl)

-- a thing in a row behind a change
in_row : (c : Closings) (u t : Thing) (places : Places) → is_closed (with_row c (kind_of u) places) t
    ≡ (if code (kind_of t) == code (kind_of u) then contains places (place_of t) else is_closed c t)
in_row c u t places = ap (λ r. contains r (place_of t)) (after_row c (kind_of u) (kind_of t) places) ∙ by (code (kind_of t) == code (kind_of u))
  where
    by : (v : Bool) → contains (if v then places else row c (kind_of t)) (place_of t) ≡ (if v then contains places (place_of t) else is_closed c t)
    by true = refl
    by false = refl

closed_with : (c : Closings) (u t : Thing) → is_closed (with_thing c u) t ≡ (same t u || is_closed c t)
closed_with c u t = in_row c u t (insert (row c (kind_of u)) (place_of u)) ∙ by (code (kind_of t) == code (kind_of u)) refl
  where
    by : (v : Bool) → (code (kind_of t) == code (kind_of u)) ≡ v
        → (if v then contains (insert (row c (kind_of u)) (place_of u)) (place_of t) else is_closed c t) ≡ ((v && (place_of t == place_of u)) || is_closed c t)
    by true e =
        put (row c (kind_of u)) (place_of u) (place_of t)
        ∙ ap (λ k. (place_of t == place_of u) || contains (row c k) (place_of t)) (sym (same_kind (kind_of t) (kind_of u) e))
    by false e = refl

closed_without : (c : Closings) (u t : Thing) → is_closed (without_thing c u) t ≡ (not (same t u) && is_closed c t)
closed_without c u t = in_row c u t (remove (row c (kind_of u)) (place_of u)) ∙ by (code (kind_of t) == code (kind_of u)) refl
  where
    by : (v : Bool) → (code (kind_of t) == code (kind_of u)) ≡ v
        → (if v then contains (remove (row c (kind_of u)) (place_of u)) (place_of t) else is_closed c t) ≡ (not (v && (place_of t == place_of u)) && is_closed c t)
    by true e =
        taken (row c (kind_of u)) (place_of u) (place_of t)
        ∙ ap (λ k. not (place_of t == place_of u) && contains (row c k) (place_of t)) (sym (same_kind (kind_of t) (kind_of u) e))
    by false e = refl

-- ---- what is closed once a thing was closed, or opened

closed-put : (c : Closings) (u t : Thing) → IsClosed (with_thing c u) t → (t ≡ u) ⊎ IsClosed c t
closed-put c u t h = by (same t u) refl (sym (closed_with c u t) ∙ h)
  where
    by : (v : Bool) → same t u ≡ v → (v || is_closed c t) ≡ true → (t ≡ u) ⊎ IsClosed c t
    by true e h = inl (same-true t u e)
    by false e h = inr h

put-closed : (c : Closings) (u t : Thing) → (t ≡ u) ⊎ IsClosed c t → IsClosed (with_thing c u) t
put-closed c u t h = closed_with c u t ∙ ⊎_elim (λ e. ap (λ b. b || is_closed c t) (true-same t u e)) (λ old. either (same t u) (is_closed c t) old) h
  where
    either : (a b : Bool) → b ≡ true → (a || b) ≡ true
    either true b e = refl
    either false b e = e

closed-taken : (c : Closings) (u t : Thing) → IsClosed (without_thing c u) t → (t ≢ u) × IsClosed c t
closed-taken c u t h = by (same t u) refl (sym (closed_without c u t) ∙ h)
  where
    by : (v : Bool) → same t u ≡ v → (not v && is_closed c t) ≡ true → (t ≢ u) × IsClosed c t
    by true e h = absurd (false≢true h)
    by false e h = (λ is. false≢true (sym e ∙ true-same t u is), h)

taken-closed : (c : Closings) (u t : Thing) → t ≢ u → IsClosed c t → IsClosed (without_thing c u) t
taken-closed c u t other h = closed_without c u t ∙ by (same t u) refl
  where
    by : (v : Bool) → same t u ≡ v → (not v && is_closed c t) ≡ true
    by true e = absurd (other (same-true t u e))
    by false e = h

-- ---- the same of what a command names

pub closed_named : (c : Closings) (n : Named) (t : Thing) → IsClosed (with_named c n) t ↔ (Names n t ⊎ IsClosed c t)
closed_named c (One u) t = (closed-put c u t, put-closed c u t)
closed_named c (BothSides p) t =
    let left = Point p side.Left in
    let right = Point p side.Right in (
      λ h. ⊎_elim (λ e. inl (side.Right, e)) (λ old. ⊎_elim (λ e. inl (side.Left, e)) (λ old. inr old) (closed-put c left t old)) (closed-put (with_thing c left) right t h),
      λ h. put-closed (with_thing c left) right t (⊎_elim (λ at. by at.0 at.1) (λ old. inr (put-closed c left t (inr old))) h),
    )
  where
    by : (s : Side) → t ≡ Point p s → (t ≡ Point p side.Right) ⊎ IsClosed (with_thing c (Point p side.Left)) t
    by side.Right e = inl e
    by side.Left e = inr (put-closed c (Point p side.Left) t (inl e))

pub opened_named : (c : Closings) (n : Named) (t : Thing) → IsClosed (without_named c n) t ↔ ((Names n t → ⊥) × IsClosed c t)
opened_named c (One u) t = (closed-taken c u t, λ h. taken-closed c u t h.0 h.1)
opened_named c (BothSides p) t =
    let left = Point p side.Left in
    let right = Point p side.Right in (
      λ h. let later = closed-taken (without_thing c left) right t h in let first = closed-taken c left t later.1 in (λ at. by first.0 later.0 at.0 at.1, first.1),
      λ h. taken-closed (without_thing c left) right t (λ e. h.0 (side.Right, e)) (taken-closed c left t (λ e. h.0 (side.Left, e)) h.1),
    )
  where
    by : t ≢ Point p side.Left → t ≢ Point p side.Right → (s : Side) → t ≡ Point p s → ⊥
    by left right side.Left e = left e
    by left right side.Right e = right e

-- ---- nothing, and all track

no_place : (k : ℕ) → IsTrue (contains (empty {R = nat_cmp}) k) → ⊥
no_place k h = false≢true (sym (contains-empty nat_cmp k) ∙ h)

pub nothing_closed : (t : Thing) → IsClosed nothing t → ⊥
nothing_closed (Section s) h = no_place s.0 h
nothing_closed (Point p side.Left) h = no_place p.0 h
nothing_closed (Point p side.Right) h = no_place p.0 h
nothing_closed (Signal s) h = no_place s.0 h
nothing_closed (Route r) h = no_place r.0 h

pub no_places : first_places 0 ≡ empty
unfolding first_places
no_places = refl

pub more_places : (k : ℕ) → first_places (k + 1) ≡ insert (first_places k) k
unfolding first_places
more_places k = rw add-one refl

-- the first places are those below the count
below : (n k : ℕ) → contains (first_places n) k ≡ nat_lt k n
unfolding first_places
below zero k = contains-empty nat_cmp k ∙ sym (grind (arith, nat_tests))
below (suc n) k = put (first_places n) n k ∙ ap (λ b. (k == n) || b) (below n k) ∙ grind (arith, nat_tests)

track_row : (n k : ℕ) → IsTrue (contains (first_places n) k) ↔ (k < n)
track_row n k = (λ h. let b : nat_lt k n ≡ true = sym (below n k) ∙ h in grind (arith, nat_tests), λ h. below n k ∙ grind (arith, nat_tests))

pub track_closed : (l : Site) (t : Thing) → IsClosed (all_track l) t ↔ IsTrack l t
track_closed l (Section s) = track_row (length l.sections) s.0
track_closed l (Point p side.Left) = track_row (length l.points) p.0
track_closed l (Point p side.Right) = track_row (length l.points) p.0
track_closed l (Signal s) = (no_place s.0, λ h. absurd h)
track_closed l (Route r) = (no_place r.0, λ h. absurd h)
