-- What a passage uses and what guards it, as it is computed and as it is defined.
use Rattle.std.proofs.Common.{◌≡◌, ◌⊎◌, Bool, true, false, not, ◌==◌, ℕ, zero, suc, ◌+◌, List, [], ◌∷◌, Option, Some, None, refl, sym, ap, subst, ◌∙◌, inl, inr, ⊎_elim, arith}
use Rattle.std.proofs.lemmas.Bool.{false≢true}
use Rattle.std.proofs.lemmas.Bool.Decides.{Decides-like, Decides-at}
use Rattle.std.specs.Bool.{Decides}
use Rattle.std.specs.Prelude.{slice_get, is_some, if◌then◌else◌}
use Rattle.std.specs.Option.{option_map}
use Rattle.std.specs.List.{list_any}
use Rattle.control_table.specs.sci_telegram.declared.message.Side.{Side}
use Rattle.control_table.specs.sci_telegram.declared.message.Side.TheVariants as side
use Rattle.control_table.specs.layout.declared.ids.PointId.{PointId}
use Rattle.control_table.specs.layout.declared.ids.SignalId.{SignalId}
use Rattle.control_table.specs.layout.declared.port.Port.{Port}
use Rattle.control_table.specs.layout.declared.port.Element.{Element}
use Rattle.control_table.specs.layout.declared.port.Element.TheVariants as element
use Rattle.layout_text.specs.declared.entries.End.{End}
use Rattle.layout_text.specs.declared.entries.End.TheVariants as end
use Rattle.control_table.specs.layout.declared.entries.Signal.{Signal}
use Rattle.control_table.specs.layout.Entries.{Site}
use Rattle.control_table.specs.Path.{Passage}
use Rattle.control_table.specs.Topology.{Joined, StandsAt}
use Rattle.control_table.specs.Sides.{leg_at, leg, other, Uses, OnPath, Guards, IsGuarded}
use Rattle.route_derivation.specs.inside.WaySearch.{is_port, is_end, joined_to, signal_from, some_and, side_of, leg_used, point_of, used_of, used, leg_at_port, leg_of_another, guarded_by, protection_by, protection_from, protection_behind, protection_of, flank_need, flank_at, is_open_leg, is_open_at}
use Rattle.route_derivation.specs.inside.RouteParts.{is_over, on_path}
use Rattle.route_derivation.proofs.Joints.{OneBeyond, joined-found}
use Rattle.route_derivation.proofs.Members.{none-some, false-from, any-decides, some-injective}
use Rattle.route_derivation.proofs.Same.{never, end-decides, port-decides, point-decides, other-other}

pub some_and-decides : {A : Type 0} (f : A → Bool) (P : A → Type 0) → ((x : A) → Decides (f x) (P x)) → (o : Option A) → Decides (some_and f o) ((x : A) × (o ≡ Some x) × P x)
some_and-decides f P each None = never (λ h. none-some h.0 h.1)
some_and-decides {A} f P each (Some y) =
    Decides-like (f y) (λ h. (y, refl, h)) (λ h. subst P (sym (some-injective y h.0 h.1)) h.2) (each y)

-- ---- the leg that a passage uses

point_of-some : (e : Element) (p : PointId) → point_of e ≡ Some p → e ≡ element.Point p
point_of-some (element.Point q) p h = ap element.Point (some-injective q p h)
point_of-some (element.Track t) p h = absurd (none-some p h)
point_of-some (element.Border b) p h = absurd (none-some p h)

side_of-some : (e : End) (s : Side) → side_of e ≡ Some s → e ≡ leg_at s
side_of-some end.Left s h = ap leg_at (some-injective side.Left s h)
side_of-some end.Right s h = ap leg_at (some-injective side.Right s h)
side_of-some end.A s h = absurd (none-some s h)
side_of-some end.B s h = absurd (none-some s h)
side_of-some end.Tip s h = absurd (none-some s h)
side_of-some end.End s h = absurd (none-some s h)

side_of-leg : (s : Side) → side_of (leg_at s) ≡ Some s
side_of-leg side.Left = refl
side_of-leg side.Right = refl

leg-tip : (s : Side) → leg_at s ≡ end.Tip → ⊥
leg-tip s h = none-some s (sym (ap side_of h) ∙ side_of-leg s)

pub option_map-some : {A B : Type 0} (f : A → B) (o : Option A) (y : B) → option_map f o ≡ Some y → (x : A) × (o ≡ Some x) × (f x ≡ y)
option_map-some f None y h = absurd (none-some y h)
option_map-some f (Some x) y h = (x, refl, some-injective (f x) y h)

used_of-some : (g : Passage) (o : Option PointId) (n : PointId × Side) → used_of g o ≡ Some n → (o ≡ Some n.0) × (leg_used g ≡ Some n.1)
used_of-some g None n h = absurd (none-some n h)
used_of-some g (Some p) n h =
    let a = option_map-some (λ s. (p, s)) (leg_used g) n h in
    (ap (λ (m : PointId × Side). Some m.0) a.2, a.1 ∙ ap (λ (m : PointId × Side). Some m.1) a.2)

leg-or : (b : Bool) (l e : End) (s : Side) → b ≡ is_end l end.Tip → (if b then side_of e else side_of l) ≡ Some s → (l ≡ leg_at s) ⊎ ((l ≡ end.Tip) × (e ≡ leg_at s))
leg-or true l e s h at = inr ((end-decides l end.Tip).0 (sym h), side_of-some e s at)
leg-or false l e s h at = inl (side_of-some l s at)

pub used-uses : (g : Passage) (n : PointId × Side) → used g ≡ Some n → Uses g n.0 n.1
unfolding used
used-uses g n h =
    let a = used_of-some g (point_of g.left.element) n h in
    (point_of-some g.left.element n.0 a.0, leg-or (is_end g.left.end end.Tip) g.left.end g.entered.end n.1 refl a.1)

pub uses-used : (g : Passage) (p : PointId) (s : Side) → Uses g p s → used g ≡ Some (p, s)
unfolding used
uses-used g p s h =
    let leaves : g.left.end ≡ leg_at s → leg_used g ≡ Some s = λ e.
    let no_tip : is_end g.left.end end.Tip ≡ false = false-from (is_end g.left.end end.Tip) (λ t. leg-tip s (sym e ∙ (end-decides g.left.end end.Tip).0 t)) in
    ap (λ b. if b then side_of g.entered.end else side_of g.left.end) no_tip ∙ ap side_of e ∙ side_of-leg s in
    let enters : (g.left.end ≡ end.Tip) × (g.entered.end ≡ leg_at s) → leg_used g ≡ Some s = λ e.
    ap (λ b. if b then side_of g.entered.end else side_of g.left.end) ((end-decides g.left.end end.Tip).1 e.0) ∙ ap side_of e.1 ∙ side_of-leg s in
    let leg_is : leg_used g ≡ Some s = ⊎_elim leaves enters h.1 in
    ap (λ e. used_of g (point_of e)) h.0 ∙ ap (option_map (λ s. (p, s))) leg_is

pub one-use : (g : Passage) (p q : PointId) (s t : Side) → Uses g p s → Uses g q t → ◌≡◌ {A = PointId × Side} (p, s) (q, t)
one-use g p q s t h k = some-injective (p, s) (q, t) (sym (uses-used g p s h) ∙ uses-used g q t k)

-- ---- points on the path

over-decides : (p : PointId) (g : Passage) → Decides (is_over p (used g)) ((s : Side) × Uses g p s)
over-decides p g =
    let P : PointId × Side → Type 0 = λ n. n.0 ≡ p in
    let U : PointId → Side → Type 0 = λ q s. Uses g q s in
    Decides-like (is_over p (used g)) (λ h. (h.0.1, subst (λ q. U q h.0.1) h.2 (used-uses g h.0 h.1))) (λ h. ((p, h.0), uses-used g p h.0 h.1, refl))
    (some_and-decides (λ n. n.0.0 == p.0) P (λ n. point-decides n.0 p) (used g))

pub on_path-decides : (path : List Passage) (p : PointId) → Decides (on_path path p) (OnPath path p)
unfolding on_path
on_path-decides path p =
    let P : Passage → Type 0 = λ g. (s : Side) × Uses g p s in
    Decides-like (list_any (λ g. is_over p (used g)) path) (λ h. (h.0, h.2.0, h.1, h.2.1)) (λ h. (h.0, h.2, (h.1, h.3))) (any-decides (λ g. is_over p (used g)) P (λ g. over-decides p g) path)

-- ---- what guards an unused leg

pair-option : (p : PointId) (o : Option Side) (n : PointId × Side) → option_map (λ s. (p, s)) o ≡ Some n → (p ≡ n.0) × (o ≡ Some n.1)
pair-option p o n h =
    let a = option_map-some (λ s. (p, s)) o n h in
    (ap (λ (m : PointId × Side). m.0) a.2, a.1 ∙ ap (λ (m : PointId × Side). Some m.1) a.2)

leg_if : (b : Bool) (p : PointId) (e : End) (w : PointId) (n : PointId × Side) → b ≡ (w.0 == p.0) → (if b then None else option_map (λ s. (w, s)) (side_of e)) ≡ Some n → (Some w ≡ Some n.0) × (n.0 ≡ p → ⊥) × (side_of e ≡ Some n.1)
leg_if true p e w n h at = absurd (none-some n at)
leg_if false p e w n h at =
    let a = pair-option w (side_of e) n at in
    (ap Some a.0, λ same. false≢true (h ∙ (point-decides w p).1 (a.0 ∙ same)), a.1)

leg_at_port-some : (p : PointId) (e : End) (o : Option PointId) (n : PointId × Side) → leg_at_port p e o ≡ Some n → (o ≡ Some n.0) × (n.0 ≡ p → ⊥) × (side_of e ≡ Some n.1)
leg_at_port-some p e None n h = absurd (none-some n h)
leg_at_port-some p e (Some w) n h = leg_if (w.0 == p.0) p e w n refl h

pub leg_of_another-some : (p : PointId) (from : Port) (n : PointId × Side) → leg_of_another p from ≡ Some n → (n.0 ≡ p → ⊥) × (from ≡ leg n.0 n.1)
unfolding leg_of_another
leg_of_another-some p from n h =
    let a = leg_at_port-some p from.end (point_of from.element) n h in
    let e = point_of-some from.element n.0 a.0 in
    let s = side_of-some from.end n.1 a.2 in
    (a.1, λ i. record { element = e i; end = s i })

pub leg_of_another-is : (p q : PointId) (s : Side) → (q ≡ p → ⊥) → leg_of_another p (leg q s) ≡ Some (q, s)
unfolding leg_of_another
leg_of_another-is p q s differ =
    let other_point : (q.0 == p.0) ≡ false = false-from (q.0 == p.0) (λ h. differ ((point-decides q p).0 h)) in
    ap (λ b. if b then None else option_map (λ s. (q, s)) (side_of (leg_at s))) other_point ∙ ap (option_map (λ s. (q, s))) (side_of-leg s)

-- ---- the signal at a port

-- the signal that is found stands there
abbrev FoundAt : ℕ → List Signal → Port → SignalId → Type 0
FoundAt n signals p s = (k : ℕ) × (s.0 ≡ n + k) × (option_map (λ (signal : Signal). signal.at) (slice_get signals k) ≡ Some p)

found-if : (n : ℕ) (one : Signal) (signals : List Signal) (p : Port) (s : SignalId) → (signal_from (suc n) signals p ≡ Some s → FoundAt (suc n) signals p s)
    → (b : Bool) → is_port one.at p ≡ b → (if b then Some (record { 0 = n }) else signal_from (suc n) signals p) ≡ Some s → FoundAt n (one ∷ signals) p s
found-if n one signals p s later true h e =
    let same : n ≡ s.0 = ap (λ (t : SignalId). t.0) (some-injective (record { 0 = n }) s e) in
    (0, omega (arith, same), ap Some ((port-decides one.at p).0 h))
found-if n one signals p s later false h e =
    let on = later e in
    let at = on.1 in
    (suc on.0, omega (arith, at), on.2)

signal-found : (n : ℕ) (signals : List Signal) (p : Port) (s : SignalId) → signal_from n signals p ≡ Some s → FoundAt n signals p s
signal-found n [] p s e = absurd (none-some s e)
signal-found n (one ∷ signals) p s e = found-if n one signals p s (signal-found (suc n) signals p s) (is_port one.at p) refl e

pub signal-stands : (l : Site) (p : Port) (s : SignalId) → signal_from 0 l.signals p ≡ Some s → StandsAt l s p
signal-stands l p s e =
    let on = signal-found 0 l.signals p s e in
    let at : s.0 ≡ on.0 = let h = on.1 in omega (arith, h) in
    ap (λ k. option_map (λ (signal : Signal). signal.at) (slice_get l.signals k)) at ∙ on.2

-- where none is found, none stands
absent-if : (n : ℕ) (one : Signal) (signals : List Signal) (p : Port)
    → (signal_from (suc n) signals p ≡ None → (k : ℕ) → option_map (λ (signal : Signal). signal.at) (slice_get signals k) ≡ Some p → ⊥)
    → (b : Bool) → is_port one.at p ≡ b → (if b then Some (record { 0 = n }) else signal_from (suc n) signals p) ≡ None
    → (k : ℕ) → option_map (λ (signal : Signal). signal.at) (slice_get (one ∷ signals) k) ≡ Some p → ⊥
absent-if n one signals p later true h e k at = none-some {A = SignalId} (record { 0 = n }) (sym e)
absent-if n one signals p later false h e zero at = false≢true (sym h ∙ (port-decides one.at p).1 (some-injective one.at p at))
absent-if n one signals p later false h e (suc k) at = later e k at

signal-absent : (n : ℕ) (signals : List Signal) (p : Port) → signal_from n signals p ≡ None → (k : ℕ) → option_map (λ (signal : Signal). signal.at) (slice_get signals k) ≡ Some p → ⊥
signal-absent n [] p e k at = none-some p at
signal-absent n (one ∷ signals) p e k at = absent-if n one signals p (signal-absent (suc n) signals p) (is_port one.at p) refl e k at

pub signal-missing : (l : Site) (p : Port) → signal_from 0 l.signals p ≡ None → (s : SignalId) → StandsAt l s p → ⊥
signal-missing l p e s at = signal-absent 0 l.signals p e s.0 at

pub option_cases : {A : Type 0} (o : Option A) → (o ≡ None) ⊎ ((x : A) × (o ≡ Some x))
option_cases None = inl refl
option_cases (Some x) = inr (x, refl)

-- a signal is found just where one stands
pub signal-decides_at : (l : Site) (p : Port) → Decides (is_some (signal_from 0 l.signals p)) ((s : SignalId) × StandsAt l s p)
signal-decides_at l p = at (signal_from 0 l.signals p) refl where
  at : (o : Option SignalId) → signal_from 0 l.signals p ≡ o → Decides (is_some o) ((s : SignalId) × StandsAt l s p)
  at None e = never (λ h. signal-missing l p e h.0 h.1)
  at (Some s) e = (λ h. (s, signal-stands l p s e), λ h. refl)

-- ---- the point that guards an unused leg

by-from : (b : Bool) (o : Option (PointId × Side)) (n : PointId × Side) → flank_need (protection_by b o) ≡ Some n → (m : PointId × Side) × (o ≡ Some m) × ((m.0, other m.1) ≡ n)
by-from true None n e = absurd (none-some n e)
by-from false None n e = absurd (none-some n e)
by-from b (Some m) n e = (m, refl, some-injective (m.0, other m.1) n e)

from-from : (l : Site) (p : PointId) (s : Side) (from : Port) (n : PointId × Side) → Joined l (leg p (other s)) from → flank_need (protection_from l p from) ≡ Some n → Guards l n.0 n.1 p s
unfolding protection_from
from-from l p s from n joined e =
    let a = by-from (is_some (signal_from 0 l.signals from)) (leg_of_another p from) n e in
    let m = a.0 in
    let b = leg_of_another-some p from m a.1 in
    let G : PointId × Side → Type 0 = λ n. Guards l n.0 n.1 p s in
    let J : Port → Type 0 = λ port. Joined l (leg p (other s)) port in
    let S : Side → Type 0 = λ t. Joined l (leg p (other s)) (leg m.0 t) in
    subst G a.2 (b.0, subst S (sym (other-other m.1)) (subst J b.1 joined))

behind-from : (l : Site) (p : PointId) (s : Side) (o : Option Port) (n : PointId × Side) → joined_to l.joints (leg p (other s)) ≡ o → flank_need (protection_behind l p o) ≡ Some n → Guards l n.0 n.1 p s
behind-from l p s None n joined e = absurd (none-some n e)
behind-from l p s (Some from) n joined e = from-from l p s from n (joined-found l (leg p (other s)) from joined) e

pub flank-from : (l : Site) (p : PointId) (s : Side) (n : PointId × Side) → flank_at l (Some (p, s)) ≡ Some n → Guards l n.0 n.1 p s
unfolding protection_of
flank-from l p s n e = behind-from l p s (joined_to l.joints (leg p (other s))) n refl e

pub flank-to : (l : Site) (one : OneBeyond l) (p : PointId) (s : Side) (q : PointId) (t : Side) → Guards l q t p s → flank_at l (Some (p, s)) ≡ Some (q, t)
unfolding protection_of protection_from
flank-to l one p s q t h =
    ap (λ o. flank_need (protection_behind l p o)) (one (leg p (other s)) (leg q (other t)) h.1)
    ∙ ap (λ o. flank_need (protection_by (is_some (signal_from 0 l.signals (leg q (other t)))) o)) (leg_of_another-is p q (other t) h.0)
    ∙ ap (λ side. Some (q, side)) (other-other t)

-- ---- open legs

guarded-none : (l : Site) (one : OneBeyond l) (p : PointId) (s : Side) (from : Port) → joined_to l.joints (leg p (other s)) ≡ Some from → leg_of_another p from ≡ None → Decides (is_some (signal_from 0 l.signals from)) (IsGuarded l p s)
guarded-none l one p s from joined no_leg =
    let signal : Type 0 = (i : SignalId) × StandsAt l i from in
    let up : signal → IsGuarded l p s = λ h at j.
    let same : from ≡ at = some-injective from at (sym joined ∙ one (leg p (other s)) at j) in
    let S : Port → Type 0 = λ port. (i : SignalId) × StandsAt l i port in
    inr (subst S same h) in
    let down : IsGuarded l p s → signal = λ h.
    ⊎_elim (λ another. absurd (none-some (another.0, another.1) (sym no_leg ∙ ap (leg_of_another p) another.3 ∙ leg_of_another-is p another.0 another.1 another.2))) (λ is. is) (h from (joined-found l (leg p (other s)) from joined)) in
    Decides-like (is_some (signal_from 0 l.signals from)) up down (signal-decides_at l from)

closed : (b : Bool) → not (is_open_leg (guarded_by b)) ≡ b
closed true = refl
closed false = refl

guarded-by : (l : Site) (one : OneBeyond l) (p : PointId) (s : Side) (from : Port) (o : Option (PointId × Side)) → joined_to l.joints (leg p (other s)) ≡ Some from → leg_of_another p from ≡ o → Decides (not (is_open_leg (protection_by (is_some (signal_from 0 l.signals from)) o))) (IsGuarded l p s)
guarded-by l one p s from None joined no_leg = Decides-at (not (is_open_leg (guarded_by (is_some (signal_from 0 l.signals from))))) (is_some (signal_from 0 l.signals from)) (closed (is_some (signal_from 0 l.signals from))) (guarded-none l one p s from joined no_leg)
guarded-by l one p s from (Some n) joined is_leg =
    let a = leg_of_another-some p from n is_leg in
    (λ h at j. inl (n.0, n.1, a.0, some-injective at from (sym (one (leg p (other s)) at j) ∙ joined) ∙ a.1), λ h. refl)

guarded-behind : (l : Site) (one : OneBeyond l) (p : PointId) (s : Side) (o : Option Port) → joined_to l.joints (leg p (other s)) ≡ o → Decides (not (is_open_leg (protection_behind l p o))) (IsGuarded l p s)
unfolding protection_from
guarded-behind l one p s None joined = (λ h from j. absurd (none-some from (sym joined ∙ one (leg p (other s)) from j)), λ h. refl)
guarded-behind l one p s (Some from) joined = guarded-by l one p s from (leg_of_another p from) joined refl

pub guarded-decides : (l : Site) (one : OneBeyond l) (p : PointId) (s : Side) → Decides (not (is_open_leg (protection_of l p s))) (IsGuarded l p s)
unfolding protection_of
guarded-decides l one p s = guarded-behind l one p s (joined_to l.joints (leg p (other s))) refl

open-decides : (l : Site) (one : OneBeyond l) (o : Option (PointId × Side)) → Decides (not (is_open_at l o)) ((n : PointId × Side) → o ≡ Some n → IsGuarded l n.0 n.1)
open-decides l one None = (λ h n e. absurd (none-some n e), λ h. refl)
open-decides l one (Some m) =
    let G : PointId × Side → Type 0 = λ n. IsGuarded l n.0 n.1 in
    Decides-like (not (is_open_leg (protection_of l m.0 m.1))) (λ h n e. subst G (some-injective m n e) h) (λ h. h m refl) (guarded-decides l one m.0 m.1)

-- the leg that a passage doesn't use is guarded
pub passage_guarded-decides : (l : Site) (one : OneBeyond l) (g : Passage) → Decides (not (is_open_at l (used g))) ((p : PointId) (s : Side) → Uses g p s → IsGuarded l p s)
passage_guarded-decides l one g =
    Decides-like (not (is_open_at l (used g))) (λ h p s u. h (p, s) (uses-used g p s u)) (λ h n e. h n.0 n.1 (used-uses g n e)) (open-decides l one (used g))
