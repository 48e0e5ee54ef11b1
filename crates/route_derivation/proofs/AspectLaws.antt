-- A derived route is slow exactly where it uses a slow leg.
use Rattle.std.proofs.Common.{◌≡◌, ◌∙◌, Bool, true, false, List, get_or, Option, Some, None, refl, sym, subst}
use Rattle.std.specs.Prelude.{slice_get, if◌then◌else◌}
use Rattle.std.specs.Bool.{Decides}
use Rattle.std.specs.List.{All, Contains, list_any}
use Rattle.std.proofs.lemmas.List.{get_or_default}
use Rattle.std.proofs.lemmas.Bool.{false≢true}
use Rattle.std.proofs.lemmas.Bool.Decides.{Decides-like}
use Rattle.control_table.specs.sci_telegram.declared.message.Aspect.TheVariants.{Proceed, Slow}
use Rattle.control_table.specs.sci_telegram.declared.message.Side.{Side}
use Rattle.control_table.specs.sci_telegram.declared.message.Side.TheVariants as side
use Rattle.control_table.specs.layout.declared.ids.PointId.{PointId}
use Rattle.control_table.specs.layout.Entries.{RouteEntry, Site}
use Rattle.route_derivation.specs.declared.rule.ApproachRule.{ApproachRule}
use Rattle.route_derivation.specs.declared.slow.SlowLegs.{SlowLegs}
use Rattle.route_derivation.specs.declared.slow.SlowLegs.TheVariants as legs
use Rattle.route_derivation.specs.Ways.{Way}
use Rattle.route_derivation.specs.Derived.{Marks, IsSlowLeg, UsesSlowLeg, HasDerivedAspect}
use Rattle.route_derivation.specs.inside.RouteParts.{is_slow_leg, is_slow_at, aspect_of, AreAlong}
use Rattle.route_derivation.proofs.Members.{any-decides, none-some, some-injective}
use Rattle.route_derivation.proofs.Same.{never}
use Rattle.route_derivation.proofs.DerivedLaws.{zip-from}

marks-decide : (mark : SlowLegs) (s : Side) → Decides (is_slow_leg (Some mark) s) (Marks mark s)
marks-decide legs.Neither side.Left = never (λ h. h)
marks-decide legs.Neither side.Right = never (λ h. h)
marks-decide legs.Both side.Left = (λ h. tt, λ h. refl)
marks-decide legs.Both side.Right = (λ h. tt, λ h. refl)
marks-decide legs.Left side.Left = (λ h. tt, λ h. refl)
marks-decide legs.Left side.Right = never (λ h. h)
marks-decide legs.Right side.Left = never (λ h. h)
marks-decide legs.Right side.Right = (λ h. tt, λ h. refl)

slow-decides : (o : Option SlowLegs) (s : Side) → Decides (is_slow_leg o s) ((mark : SlowLegs) × (o ≡ Some mark) × Marks mark s)
slow-decides None s = never (λ h. none-some h.0 h.1)
slow-decides (Some mark) s =
    let M : SlowLegs → Type 0 = λ m. Marks m s in
    Decides-like (is_slow_leg (Some mark) s) (λ h. (mark, refl, h)) (λ h. subst M (sym (some-injective mark h.0 h.1)) h.2) (marks-decide mark s)

uses-decides : (marks : List SlowLegs) (r : RouteEntry) → Decides (list_any (λ n. is_slow_at marks n) r.points) (UsesSlowLeg marks r)
uses-decides marks r =
    let P : PointId × Side → Type 0 = λ n. IsSlowLeg marks n.0 n.1 in
    Decides-like (list_any (λ n. is_slow_at marks n) r.points) (λ h. (h.0.0, h.0.1, h.1, h.2)) (λ h. ((h.0, h.1), h.2, h.3))
    (any-decides (λ n. is_slow_at marks n) P (λ n. slow-decides (slice_get marks n.0.0) n.1) r.points)

derived-aspect : (marks : List SlowLegs) (r : RouteEntry) → r.aspect ≡ aspect_of marks r.points → HasDerivedAspect marks r
unfolding aspect_of
derived-aspect marks r e = at (list_any (λ n. is_slow_at marks n) r.points) (uses-decides marks r) e where
  at : (b : Bool) → Decides b (UsesSlowLeg marks r) → r.aspect ≡ (if b then Slow else Proceed) → HasDerivedAspect marks r
  at true d e = record { slow = (λ h. d.0 refl, λ h. e); proceed = λ h. absurd (h (d.0 refl)) }
  at false d e = record { slow = (λ h. (let apart : Slow ≡ Proceed = sym h ∙ e in absurd (cc)), λ h. absurd (false≢true (d.1 h))); proceed = λ h. e }

all-of : {A : Type 0} (P : A → Type 0) (xs : List A) → ((x : A) → Contains xs x → P x) → All P xs
all-of P xs h k d lt = h (get_or xs k d) (k, lt, get_or_default xs k (get_or xs k d) d lt)

pub derived-aspects : (l : Site) (marks : List SlowLegs) (rule : ApproachRule) (ws : List Way) (rs : List RouteEntry) → AreAlong l marks rule ws rs → All (HasDerivedAspect marks) rs
derived-aspects l marks rule ws rs z = all-of (HasDerivedAspect marks) rs (λ r c. let on = zip-from l marks rule ws rs z r c in derived-aspect marks r on.2.aspect)
