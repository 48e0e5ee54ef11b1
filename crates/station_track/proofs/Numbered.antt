-- Each place has its number, and each number its place.
use Rattle.std.proofs.Common.{◌≡◌, ℕ, zero, suc, ◌+◌, ◌-◌, ◌*◌, ◌/◌, ◌%◌, ◌<◌, ◌≤◌, Bool, true, false, length, Option, Some, None, refl, sym, ap, subst, ◌∙◌, arith}
use Rattle.std.specs.Prelude.{nat_lt, if◌then◌else◌}
use Rattle.std.proofs.lemmas.Bool.{lt-ltb, le-ltb, ltb-true, ltb-false}
use Rattle.control_table.specs.sci_telegram.declared.message.Side.{Side}
use Rattle.control_table.specs.sci_telegram.declared.message.Side.TheVariants as side
use Rattle.control_table.specs.layout.declared.ids.PointId.{PointId}
use Rattle.control_table.specs.layout.declared.ids.TrackId.{TrackId}
use Rattle.control_table.specs.layout.Entries.{Site}
use Rattle.station_track.specs.declared.place.Toward.{Toward}
use Rattle.station_track.specs.declared.place.Toward.TheVariants as toward
use Rattle.station_track.specs.declared.place.Over.{Over}
use Rattle.station_track.specs.declared.place.Over.TheVariants as over
use Rattle.station_track.specs.declared.place.Place.{Place}
use Rattle.station_track.specs.declared.place.Place.TheVariants as place
use Rattle.station_track.specs.Places.{HasPlace, toward_number, passing_number, place_number, no_place, toward_numbered, passing_numbered, track_numbered, point_numbered, outside_numbered, later_numbered, place_at}
use Rattle.station_track.proofs.Members.{none-some, some-injective}

-- ---- a test that passes, or fails

at-true : {A : Type 0} (x y : A) (a b : ℕ) → a < b → (if nat_lt a b then x else y) ≡ x
at-true x y a b h = ap (λ t. if t then x else y) (lt-ltb a b h)

at-false : {A : Type 0} (x y : A) (a b : ℕ) → b ≤ a → (if nat_lt a b then x else y) ≡ y
at-false x y a b h = ap (λ t. if t then x else y) (le-ltb a b h)

-- ---- from a place to its number and back

track-back : (t : TrackId) (way : Toward) → track_numbered (2 * t.0 + toward_number way) ≡ place.Track t way
track-back t toward.A =
    let half : (2 * t.0 + 0) / 2 ≡ t.0 = omega arith in
    let odd : (2 * t.0 + 0) % 2 ≡ 0 = omega arith in
    λ i. place.Track (record { 0 = half i }) (toward_numbered (odd i))
track-back t toward.B =
    let half : (2 * t.0 + 1) / 2 ≡ t.0 = omega arith in
    let odd : (2 * t.0 + 1) % 2 ≡ 1 = omega arith in
    λ i. place.Track (record { 0 = half i }) (toward_numbered (odd i))

toward-small : (way : Toward) → toward_number way < 2
toward-small toward.A = omega arith
toward-small toward.B = omega arith

point-by : (p : PointId) (k : ℕ) → k < 4 → point_numbered (4 * p.0 + k) ≡ passing_numbered p k
point-by p k h =
    let quarter : (4 * p.0 + k) / 4 ≡ p.0 = omega (arith, h) in
    let rest : (4 * p.0 + k) % 4 ≡ k = omega (arith, h) in
    λ i. passing_numbered (record { 0 = quarter i }) (rest i)

passing-small : (s : Side) (way : Over) → passing_number s way < 4
passing-small side.Left over.Tip = omega arith
passing-small side.Right over.Tip = omega arith
passing-small side.Left over.Leg = omega arith
passing-small side.Right over.Leg = omega arith

passing-back : (p : PointId) (s : Side) (way : Over) → passing_numbered p (passing_number s way) ≡ place.Point p s way
passing-back p side.Left over.Tip = refl
passing-back p side.Right over.Tip = refl
passing-back p side.Left over.Leg = refl
passing-back p side.Right over.Leg = refl

pub number-at : (l : Site) (p : Place) → HasPlace l p → place_at l (place_number l p) ≡ Some p
unfolding place_at
number-at l (place.Track t way) there =
    let n : ℕ = 2 * t.0 + toward_number way in
    let small = toward-small way in
    at-true (Some (track_numbered n)) (later_numbered l (n - 2 * length l.tracks)) n (2 * length l.tracks) (omega (arith, there, small))
    ∙ ap Some (track-back t way)
number-at l (place.Point p s way) there =
    let k : ℕ = 4 * p.0 + passing_number s way in
    let n : ℕ = 2 * length l.tracks + k in
    let small = passing-small s way in
    let left : n - 2 * length l.tracks ≡ k = omega arith in
    at-false (Some (track_numbered n)) (later_numbered l (n - 2 * length l.tracks)) n (2 * length l.tracks) (omega arith)
    ∙ ap (later_numbered l) left
    ∙ at-true (Some (point_numbered k)) (outside_numbered l (k - 4 * length l.points)) k (4 * length l.points) (omega (arith, there, small))
    ∙ ap Some (point-by p (passing_number s way) small ∙ passing-back p s way)
number-at l (place.Outside b) there =
    let k : ℕ = 4 * length l.points + b.0 in
    let n : ℕ = 2 * length l.tracks + k in
    let left : n - 2 * length l.tracks ≡ k = omega arith in
    let rest : k - 4 * length l.points ≡ b.0 = omega arith in
    at-false (Some (track_numbered n)) (later_numbered l (n - 2 * length l.tracks)) n (2 * length l.tracks) (omega arith)
    ∙ ap (later_numbered l) left
    ∙ at-false (Some (point_numbered k)) (outside_numbered l (k - 4 * length l.points)) k (4 * length l.points) (omega arith)
    ∙ ap (outside_numbered l) rest
    ∙ at-true (Some (place.Outside b)) None b.0 (length l.borders) there

-- ---- from a number to its place and back

toward-back : (k : ℕ) → k < 2 → toward_number (toward_numbered k) ≡ k
toward-back zero h = refl
toward-back (suc zero) h = refl
toward-back (suc (suc k)) h = absurd (omega (arith, h))

passed-back : (l : Site) (p : PointId) (k : ℕ) → k < 4 → place_number l (passing_numbered p k) ≡ 2 * length l.tracks + (4 * p.0 + k)
passed-back l p zero h = refl
passed-back l p (suc zero) h = refl
passed-back l p (suc (suc zero)) h = refl
passed-back l p (suc (suc (suc zero))) h = refl
passed-back l p (suc (suc (suc (suc k)))) h = absurd (omega (arith, h))

passed-there : (l : Site) (p : PointId) (k : ℕ) → p.0 < length l.points → HasPlace l (passing_numbered p k)
passed-there l p zero h = h
passed-there l p (suc zero) h = h
passed-there l p (suc (suc zero)) h = h
passed-there l p (suc (suc (suc k))) h = h

-- a place is there, and has this number
abbrev IsNumbered : Site → ℕ → Place → Type 0
IsNumbered l n p = HasPlace l p × (place_number l p ≡ n)

outside-is : (l : Site) (n k : ℕ) (p : Place) (b : Bool) → b ≡ nat_lt k (length l.borders) → n ≡ 2 * length l.tracks + (4 * length l.points + k)
    → (if b then Some (place.Outside (record { 0 = k })) else None) ≡ Some p → IsNumbered l n p
outside-is l n k p true t at e =
    subst (IsNumbered l n) (some-injective (place.Outside (record { 0 = k })) p e) (ltb-true k (length l.borders) (sym t), sym at)
outside-is l n k p false t at e = absurd (none-some p e)

point-is : (l : Site) (n k : ℕ) (p : Place) (b : Bool) → b ≡ nat_lt k (4 * length l.points) → n ≡ 2 * length l.tracks + k
    → (if b then Some (point_numbered k) else outside_numbered l (k - 4 * length l.points)) ≡ Some p → IsNumbered l n p
point-is l n k p true t at e =
    let within = ltb-true k (4 * length l.points) (sym t) in
    let small : k % 4 < 4 = omega arith in
    let quarter : k / 4 < length l.points = omega (arith, within) in
    let whole : 2 * length l.tracks + (4 * (k / 4) + k % 4) ≡ n = omega (arith, at) in
    subst (IsNumbered l n) (some-injective (point_numbered k) p e)
    (passed-there l (record { 0 = k / 4 }) (k % 4) quarter, passed-back l (record { 0 = k / 4 }) (k % 4) small ∙ whole)
point-is l n k p false t at e =
    let beyond = ltb-false k (4 * length l.points) (sym t) in
    outside-is l n (k - 4 * length l.points) p (nat_lt (k - 4 * length l.points) (length l.borders)) refl (omega (arith, at, beyond)) e

track-is : (l : Site) (n : ℕ) (p : Place) (b : Bool) → b ≡ nat_lt n (2 * length l.tracks)
    → (if b then Some (track_numbered n) else later_numbered l (n - 2 * length l.tracks)) ≡ Some p → IsNumbered l n p
track-is l n p true t e =
    let within = ltb-true n (2 * length l.tracks) (sym t) in
    let small : n % 2 < 2 = omega arith in
    let half : n / 2 < length l.tracks = omega (arith, within) in
    let back = toward-back (n % 2) small in
    subst (IsNumbered l n) (some-injective (track_numbered n) p e) (half, omega (arith, back))
track-is l n p false t e =
    let beyond = ltb-false n (2 * length l.tracks) (sym t) in
    point-is l n (n - 2 * length l.tracks) p (nat_lt (n - 2 * length l.tracks) (4 * length l.points)) refl (omega (arith, beyond)) e

pub at-number : (l : Site) (n : ℕ) (p : Place) → place_at l n ≡ Some p → HasPlace l p × (place_number l p ≡ n)
unfolding place_at
at-number l n p e = track-is l n p (nat_lt n (2 * length l.tracks)) refl e

-- two places have two numbers
pub numbers-differ : (l : Site) (p q : Place) → HasPlace l p → HasPlace l q → place_number l p ≡ place_number l q → p ≡ q
numbers-differ l p q there beside same = some-injective p q (sym (number-at l p there) ∙ ap (place_at l) same ∙ number-at l q beside)

-- the number that no place has, has none
no-place-is : (l : Site) (o : Option Place) → place_at l (no_place l) ≡ o → place_at l (no_place l) ≡ None
no-place-is l None e = e
no-place-is l (Some p) e = absurd (none-at l p (at-number l (no_place l) p e))
  where
    none-at : (l : Site) (p : Place) → IsNumbered l (no_place l) p → ⊥
    none-at l (place.Track t way) h = let there = h.0 in let same = h.1 in let small = toward-small way in omega (arith, there, same, small)
    none-at l (place.Point p s way) h = let there = h.0 in let same = h.1 in let small = passing-small s way in omega (arith, there, same, small)
    none-at l (place.Outside b) h = let there = h.0 in let same = h.1 in omega (arith, there, same)

pub no-place : (l : Site) → place_at l (no_place l) ≡ None
no-place l = no-place-is l (place_at l (no_place l)) refl
