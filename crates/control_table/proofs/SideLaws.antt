-- The computed requirements of a path are those of the definition, and the tests decide what they are named after.
use Rattle.std.proofs.Common.{◌≡◌, ◌⊎◌, Bool, true, false, not, ◌&&◌, ◌||◌, ◌==◌, List, [], ◌∷◌, map, Option, Some, None, refl, sym, ap, subst, ◌∙◌, inl, inr, ⊎_elim}
use Rattle.std.proofs.lemmas.Bool.{false≢true}
use Rattle.std.proofs.lemmas.Bool.Decides.{Decides-and, Decides-or, Decides-not, Decides-like, Decides-at}
use Rattle.std.specs.Bool.{Decides}
use Rattle.std.specs.Prelude.{slice_get, if◌then◌else◌}
use Rattle.std.specs.Option.{option_map}
use Rattle.std.specs.List.{Contains, list_any, list_all}
use Rattle.sci_telegram.specs.declared.message.Side.{Side}
use Rattle.sci_telegram.specs.declared.message.Side.TheVariants as side
use Rattle.layout.specs.declared.ids.PointId.{PointId}
use Rattle.layout.specs.declared.ids.SignalId.{SignalId}
use Rattle.layout.specs.declared.port.Port.{Port}
use Rattle.layout.specs.declared.port.Element.{Element}
use Rattle.layout.specs.declared.port.Element.TheVariants as element
use Rattle.layout_text.specs.declared.entries.End.{End}
use Rattle.layout_text.specs.declared.entries.End.TheVariants as end
use Rattle.layout.specs.declared.entries.Signal.{Signal}
use Rattle.layout.specs.Entries.{RouteEntry, Site}
use Rattle.control_table.specs.Path.{Passage}
use Rattle.control_table.specs.declared.sides.FlankProtection.{FlankProtection}
use Rattle.control_table.specs.declared.sides.Protection.{Protection}
use Rattle.control_table.specs.declared.sides.Protection.TheVariants as protection
use Rattle.control_table.specs.Topology.{Joined, StandsAt}
use Rattle.control_table.specs.Sides.{leg_at, leg, other, Uses, PathUses, OnPath, Guards, Requires, IsGuarded, FlanksGuarded, NoneAtBothSides, PointsNamed, WritesOnlyRequired, FlankNamed}
use Rattle.control_table.specs.inside.TableTests.{is_port, is_end, joined_to, side_of, leg_used, point_of, used_of, used, leg_at_port, leg_of_another, guarded_by, protection_by, protection_from, protection_behind, protection_of, has_signal, flank_need, needs_at, needs, protections_at, protections, is_open_leg, is_open_at, flanks_guarded, same_need, has_need, consistent, names_point, is_over, on_path, is_named, points_written, points_right, flank_right, flank_written}
use Rattle.control_table.proofs.Joints.{OneBeyond, joined-found}
use Rattle.control_table.proofs.Judged.{none-some, false-from}
use Rattle.control_table.proofs.Members.{contains-none, contains-here, contains-there, contains-cases, any-decides, all-decides, has-decides, flat_map-from, flat_map-to, get-contains, contains-get, some-injective}
use Rattle.control_table.proofs.Same.{end-decides, port-decides, point-decides, need-decides, other-other}
use Rattle.control_table.proofs.PathLaws.{some_and-decides}

-- ---- the leg that a passage uses

point_of-some : (e : Element) (p : PointId) → point_of e ≡ Some p → e ≡ element.Point p
point_of-some (element.Point q) p h = ap element.Point (some-injective q p h)
point_of-some (element.Track t) p h = absurd (none-some p h)
point_of-some (element.Border b) p h = absurd (none-some p h)

side_of-some : (e : End) (s : Side) → side_of e ≡ Some s → e ≡ leg_at s
side_of-some end.Left s h = ap leg_at (some-injective side.Left s h)
side_of-some end.Right s h = ap leg_at (some-injective side.Right s h)
side_of-some end.A s h = absurd (none-some s h)
side_of-some end.B s h = absurd (none-some s h)
side_of-some end.Tip s h = absurd (none-some s h)
side_of-some end.End s h = absurd (none-some s h)

side_of-leg : (s : Side) → side_of (leg_at s) ≡ Some s
side_of-leg side.Left = refl
side_of-leg side.Right = refl

leg-tip : (s : Side) → leg_at s ≡ end.Tip → ⊥
leg-tip s h = none-some s (sym (ap side_of h) ∙ side_of-leg s)

pub option_map-some : {A B : Type 0} (f : A → B) (o : Option A) (y : B) → option_map f o ≡ Some y → (x : A) × (o ≡ Some x) × (f x ≡ y)
option_map-some f None y h = absurd (none-some y h)
option_map-some f (Some x) y h = (x, refl, some-injective (f x) y h)

used_of-some : (g : Passage) (o : Option PointId) (n : PointId × Side) → used_of g o ≡ Some n → (o ≡ Some n.0) × (leg_used g ≡ Some n.1)
used_of-some g None n h = absurd (none-some n h)
used_of-some g (Some p) n h =
    let a = option_map-some (λ s. (p, s)) (leg_used g) n h in
    (ap (λ (m : PointId × Side). Some m.0) a.2, a.1 ∙ ap (λ (m : PointId × Side). Some m.1) a.2)

leg-or : (b : Bool) (l e : End) (s : Side) → b ≡ is_end l end.Tip → (if b then side_of e else side_of l) ≡ Some s → (l ≡ leg_at s) ⊎ ((l ≡ end.Tip) × (e ≡ leg_at s))
leg-or true l e s h at = inr ((end-decides l end.Tip).0 (sym h), side_of-some e s at)
leg-or false l e s h at = inl (side_of-some l s at)

pub used-uses : (g : Passage) (n : PointId × Side) → used g ≡ Some n → Uses g n.0 n.1
unfolding used
used-uses g n h =
    let a = used_of-some g (point_of g.left.element) n h in
    (point_of-some g.left.element n.0 a.0, leg-or (is_end g.left.end end.Tip) g.left.end g.entered.end n.1 refl a.1)

pub uses-used : (g : Passage) (p : PointId) (s : Side) → Uses g p s → used g ≡ Some (p, s)
unfolding used
uses-used g p s h =
    let leaves : g.left.end ≡ leg_at s → leg_used g ≡ Some s = λ e.
    let no_tip : is_end g.left.end end.Tip ≡ false = false-from (is_end g.left.end end.Tip) (λ t. leg-tip s (sym e ∙ (end-decides g.left.end end.Tip).0 t)) in
    ap (λ b. if b then side_of g.entered.end else side_of g.left.end) no_tip ∙ ap side_of e ∙ side_of-leg s in
    let enters : (g.left.end ≡ end.Tip) × (g.entered.end ≡ leg_at s) → leg_used g ≡ Some s = λ e.
    ap (λ b. if b then side_of g.entered.end else side_of g.left.end) ((end-decides g.left.end end.Tip).1 e.0) ∙ ap side_of e.1 ∙ side_of-leg s in
    let leg_is : leg_used g ≡ Some s = ⊎_elim leaves enters h.1 in
    ap (λ e. used_of g (point_of e)) h.0 ∙ ap (option_map (λ s. (p, s))) leg_is

pub one-use : (g : Passage) (p q : PointId) (s t : Side) → Uses g p s → Uses g q t → ◌≡◌ {A = PointId × Side} (p, s) (q, t)
one-use g p q s t h k = some-injective (p, s) (q, t) (sym (uses-used g p s h) ∙ uses-used g q t k)

-- ---- points on the path

over-decides : (p : PointId) (g : Passage) → Decides (is_over p (used g)) ((s : Side) × Uses g p s)
over-decides p g =
    let P : PointId × Side → Type 0 = λ n. n.0 ≡ p in
    let U : PointId → Side → Type 0 = λ q s. Uses g q s in
    Decides-like (is_over p (used g)) (λ h. (h.0.1, subst (λ q. U q h.0.1) h.2 (used-uses g h.0 h.1))) (λ h. ((p, h.0), uses-used g p h.0 h.1, refl))
    (some_and-decides (λ n. n.0.0 == p.0) P (λ n. point-decides n.0 p) (used g))

pub on_path-decides : (path : List Passage) (p : PointId) → Decides (on_path path p) (OnPath path p)
unfolding on_path
on_path-decides path p =
    let P : Passage → Type 0 = λ g. (s : Side) × Uses g p s in
    Decides-like (list_any (λ g. is_over p (used g)) path) (λ h. (h.0, h.2.0, h.1, h.2.1)) (λ h. (h.0, h.2, (h.1, h.3))) (any-decides (λ g. is_over p (used g)) P (λ g. over-decides p g) path)

pub names-decides : (ns : List (PointId × Side)) (p : PointId) → Decides (names_point ns p) ((s : Side) × Contains ns (p, s))
names-decides ns p =
    let P : PointId × Side → Type 0 = λ n. n.0 ≡ p in
    let C : PointId → Side → Type 0 = λ q s. Contains ns (q, s) in
    Decides-like (names_point ns p) (λ h. (h.0.1, subst (λ q. C q h.0.1) h.2 h.1)) (λ h. ((p, h.0), h.1, refl)) (any-decides (λ n. n.0.0 == p.0) P (λ n. point-decides n.0 p) ns)

named-decides : (ns : List (PointId × Side)) (o : Option (PointId × Side)) → Decides (is_named ns o) ((n : PointId × Side) → o ≡ Some n → (s : Side) × Contains ns (n.0, s))
named-decides ns None = (λ h n e. absurd (none-some n e), λ h. refl)
named-decides ns (Some m) =
    let N : PointId × Side → Type 0 = λ n. (s : Side) × Contains ns (n.0, s) in
    Decides-like (names_point ns m.0) (λ h n e. subst N (some-injective m n e) h) (λ h. h m refl) (names-decides ns m.0)

pub points_written-decides : (r : RouteEntry) (path : List Passage) → Decides (points_written r path) (PointsNamed r path)
unfolding points_written
points_written-decides r path =
    let P : Passage → Type 0 = λ g. (n : PointId × Side) → used g ≡ Some n → (s : Side) × Contains r.points (n.0, s) in
    let every : Type 0 = (g : Passage) → Contains path g → P g in
    let up : every → PointsNamed r path = λ h p on. h on.0 on.2 (p, on.1) (uses-used on.0 p on.1 on.3) in
    let down : PointsNamed r path → every = λ h g c n e. h n.0 (g, n.1, c, used-uses g n e) in
    Decides-like (list_all (λ g. is_named r.points (used g)) path) up down (all-decides (λ g. is_named r.points (used g)) P (λ g. named-decides r.points (used g)) path)

-- ---- what guards an unused leg

pair-option : (p : PointId) (o : Option Side) (n : PointId × Side) → option_map (λ s. (p, s)) o ≡ Some n → (p ≡ n.0) × (o ≡ Some n.1)
pair-option p o n h =
    let a = option_map-some (λ s. (p, s)) o n h in
    (ap (λ (m : PointId × Side). m.0) a.2, a.1 ∙ ap (λ (m : PointId × Side). Some m.1) a.2)

leg_if : (b : Bool) (p : PointId) (e : End) (w : PointId) (n : PointId × Side) → b ≡ (w.0 == p.0) → (if b then None else option_map (λ s. (w, s)) (side_of e)) ≡ Some n → (Some w ≡ Some n.0) × (n.0 ≡ p → ⊥) × (side_of e ≡ Some n.1)
leg_if true p e w n h at = absurd (none-some n at)
leg_if false p e w n h at =
    let a = pair-option w (side_of e) n at in
    (ap Some a.0, λ same. false≢true (h ∙ (point-decides w p).1 (a.0 ∙ same)), a.1)

leg_at_port-some : (p : PointId) (e : End) (o : Option PointId) (n : PointId × Side) → leg_at_port p e o ≡ Some n → (o ≡ Some n.0) × (n.0 ≡ p → ⊥) × (side_of e ≡ Some n.1)
leg_at_port-some p e None n h = absurd (none-some n h)
leg_at_port-some p e (Some w) n h = leg_if (w.0 == p.0) p e w n refl h

pub leg_of_another-some : (p : PointId) (from : Port) (n : PointId × Side) → leg_of_another p from ≡ Some n → (n.0 ≡ p → ⊥) × (from ≡ leg n.0 n.1)
unfolding leg_of_another
leg_of_another-some p from n h =
    let a = leg_at_port-some p from.end (point_of from.element) n h in
    let e = point_of-some from.element n.0 a.0 in
    let s = side_of-some from.end n.1 a.2 in
    (a.1, λ i. record { element = e i; end = s i })

pub leg_of_another-is : (p q : PointId) (s : Side) → (q ≡ p → ⊥) → leg_of_another p (leg q s) ≡ Some (q, s)
unfolding leg_of_another
leg_of_another-is p q s differ =
    let other_point : (q.0 == p.0) ≡ false = false-from (q.0 == p.0) (λ h. differ ((point-decides q p).0 h)) in
    ap (λ b. if b then None else option_map (λ s. (q, s)) (side_of (leg_at s))) other_point ∙ ap (option_map (λ s. (q, s))) (side_of-leg s)

by-from : (b : Bool) (o : Option (PointId × Side)) (n : PointId × Side) → Contains (flank_need (protection_by b o)) n → (m : PointId × Side) × (o ≡ Some m) × ((m.0, other m.1) ≡ n)
by-from true None n c = absurd (contains-none n c)
by-from false None n c = absurd (contains-none n c)
by-from b (Some m) n c = ⊎_elim (λ e. (m, refl, e)) (λ later. absurd (contains-none n later)) (contains-cases (m.0, other m.1) n [] c)

from-from : (l : Site) (p : PointId) (s : Side) (from : Port) (n : PointId × Side) → Joined l (leg p (other s)) from → Contains (flank_need (protection_from l p from)) n → Guards l n.0 n.1 p s
unfolding protection_from
from-from l p s from n joined c =
    let a = by-from (has_signal l.signals from) (leg_of_another p from) n c in
    let m = a.0 in
    let b = leg_of_another-some p from m a.1 in
    let G : PointId × Side → Type 0 = λ n. Guards l n.0 n.1 p s in
    let J : Port → Type 0 = λ port. Joined l (leg p (other s)) port in
    let S : Side → Type 0 = λ t. Joined l (leg p (other s)) (leg m.0 t) in
    subst G a.2 (b.0, subst S (sym (other-other m.1)) (subst J b.1 joined))

behind-from : (l : Site) (p : PointId) (s : Side) (o : Option Port) (n : PointId × Side) → joined_to l.joints (leg p (other s)) ≡ o → Contains (flank_need (protection_behind l p o)) n → Guards l n.0 n.1 p s
behind-from l p s None n joined c = absurd (contains-none n c)
behind-from l p s (Some from) n joined c = from-from l p s from n (joined-found l (leg p (other s)) from joined) c

pub flank-from : (l : Site) (p : PointId) (s : Side) (n : PointId × Side) → Contains (flank_need (protection_of l p s)) n → Guards l n.0 n.1 p s
unfolding protection_of
flank-from l p s n c = behind-from l p s (joined_to l.joints (leg p (other s))) n refl c

pub flank-to : (l : Site) (one : OneBeyond l) (p : PointId) (s : Side) (q : PointId) (t : Side) → Guards l q t p s → Contains (flank_need (protection_of l p s)) (q, t)
unfolding protection_of protection_from
flank-to l one p s q t h =
    let is : protection_of l p s ≡ protection.By q t =
    ap (protection_behind l p) (one (leg p (other s)) (leg q (other t)) h.1) ∙ ap (protection_by (has_signal l.signals (leg q (other t)))) (leg_of_another-is p q (other t) h.0) ∙ ap (protection.By q) (other-other t) in
    let C : Protection → Type 0 = λ x. Contains (flank_need x) (q, t) in
    subst C (sym is) (contains-here (q, t) [])

-- ---- which points guard which

abbrev guard : PointId → PointId × Side → FlankProtection
guard p m = record { flank = m.0; point = p }

guard-from : (p : PointId) (ns : List (PointId × Side)) (x : FlankProtection) → Contains (map (guard p) ns) x → (t : Side) × Contains ns (x.flank, t) × (p ≡ x.point)
guard-from p [] x c = absurd (contains-none x c)
guard-from p (m ∷ ns) x c =
    let F : PointId → Type 0 = λ q. Contains (m ∷ ns) (q, m.1) in
    ⊎_elim (λ e. (m.1, subst F (ap (λ (y : FlankProtection). y.flank) e) (contains-here m ns), ap (λ (y : FlankProtection). y.point) e)) (λ later. let on = guard-from p ns x later in (on.0, contains-there m (x.flank, on.0) ns on.1, on.2))
    (contains-cases (guard p m) x (map (guard p) ns) c)

guard-to : (p : PointId) (ns : List (PointId × Side)) (n : PointId × Side) → Contains ns n → Contains (map (guard p) ns) (guard p n)
guard-to p [] n c = absurd (contains-none n c)
guard-to p (m ∷ ns) n c =
    let H : FlankProtection → Type 0 = λ y. Contains (map (guard p) (m ∷ ns)) y in
    ⊎_elim (λ e. subst H (ap (guard p) e) (contains-here (guard p m) (map (guard p) ns))) (λ later. contains-there (guard p m) (guard p n) (map (guard p) ns) (guard-to p ns n later)) (contains-cases m n ns c)

guards-at : (l : Site) (g : Passage) (o : Option (PointId × Side)) (x : FlankProtection) → used g ≡ o → Contains (protections_at l o) x → (s : Side) × (t : Side) × Uses g x.point s × Guards l x.flank t x.point s
guards-at l g None x u c = absurd (contains-none x c)
guards-at l g (Some n) x u c =
    let on = guard-from n.0 (flank_need (protection_of l n.0 n.1)) x c in
    let G : PointId → Type 0 = λ p. Uses g p n.1 × Guards l x.flank on.0 p n.1 in
    let is = subst G on.2 (used-uses g n u, flank-from l n.0 n.1 (x.flank, on.0) on.1) in
    (n.1, on.0, is.0, is.1)

pub protections-from : (l : Site) (path : List Passage) (x : FlankProtection) → Contains (protections l path) x → (s : Side) × (t : Side) × PathUses path x.point s × Guards l x.flank t x.point s
unfolding protections
protections-from l path x c =
    let a = flat_map-from (λ g. protections_at l (used g)) path x c in
    let is = guards-at l a.0 (used a.0) x refl a.2 in
    (is.0, is.1, (a.0, a.1, is.2), is.3)

pub protections-to : (l : Site) (one : OneBeyond l) (path : List Passage) (q p : PointId) (s t : Side) → PathUses path p s → Guards l q t p s → Contains (protections l path) (record { flank = q; point = p })
unfolding protections
protections-to l one path q p s t uses guards =
    let g = uses.0 in
    let x : FlankProtection = record { flank = q; point = p } in
    let C : Option (PointId × Side) → Type 0 = λ o. Contains (protections_at l o) x in
    let here : C (Some (p, s)) = guard-to p (flank_need (protection_of l p s)) (q, t) (flank-to l one p s q t guards) in
    flat_map-to (λ g. protections_at l (used g)) path g x uses.1 (subst C (sym (uses-used g p s uses.2)) here)

-- ---- all that a path requires

at-from : (l : Site) (g : Passage) (o : Option (PointId × Side)) (n : PointId × Side) → used g ≡ o → Contains (needs_at l o) n
    → Uses g n.0 n.1 ⊎ ((p : PointId) × (s : Side) × Uses g p s × Guards l n.0 n.1 p s)
at-from l g None n u c = absurd (contains-none n c)
at-from l g (Some m) n u c =
    let U : PointId × Side → Type 0 = λ n. Uses g n.0 n.1 in
    ⊎_elim (λ e. inl (subst U e (used-uses g m u))) (λ later. inr (m.0, m.1, used-uses g m u, flank-from l m.0 m.1 n later)) (contains-cases m n (flank_need (protection_of l m.0 m.1)) c)

pub needs-from : (l : Site) (path : List Passage) (n : PointId × Side) → Contains (needs l path) n → Requires l path n.0 n.1
unfolding needs
needs-from l path n c =
    let a = flat_map-from (λ g. needs_at l (used g)) path n c in
    (a.0, a.1, at-from l a.0 (used a.0) n refl a.2)

pub needs-to : (l : Site) (one : OneBeyond l) (path : List Passage) (q : PointId) (t : Side) → Requires l path q t → Contains (needs l path) (q, t)
unfolding needs
needs-to l one path q t h =
    let g = h.0 in
    let C : Option (PointId × Side) → Type 0 = λ o. Contains (needs_at l o) (q, t) in
    let own : Uses g q t → Contains (needs_at l (used g)) (q, t) = λ u. subst C (sym (uses-used g q t u)) (contains-here (q, t) (flank_need (protection_of l q t))) in
    let flank : ((p : PointId) × (s : Side) × Uses g p s × Guards l q t p s) → Contains (needs_at l (used g)) (q, t) = λ u.
    subst C (sym (uses-used g u.0 u.1 u.2)) (contains-there (u.0, u.1) (q, t) (flank_need (protection_of l u.0 u.1)) (flank-to l one u.0 u.1 q t u.3)) in
    flat_map-to (λ g. needs_at l (used g)) path g (q, t) h.1 (⊎_elim own flank h.2)

pub has_need-decides : (ns : List (PointId × Side)) (n : PointId × Side) → Decides (has_need ns n) (Contains ns n)
has_need-decides ns n = has-decides same_need need-decides ns n

pub requires-decides : (l : Site) (one : OneBeyond l) (path : List Passage) (n : PointId × Side) → Decides (has_need (needs l path) n) (Requires l path n.0 n.1)
requires-decides l one path n = Decides-like (has_need (needs l path) n) (needs-from l path n) (needs-to l one path n.0 n.1) (has_need-decides (needs l path) n)

at_both : (l : Site) (path : List Passage) → NoneAtBothSides l path → (p : PointId) (s : Side) → Requires l path p s → Requires l path p (other s) → ⊥
at_both l path h p side.Left a b = h p a b
at_both l path h p side.Right a b = h p b a

pub consistent-decides : (l : Site) (one : OneBeyond l) (path : List Passage) → Decides (consistent (needs l path)) (NoneAtBothSides l path)
unfolding consistent
consistent-decides l one path =
    let P : PointId × Side → Type 0 = λ n. Requires l path n.0 (other n.1) → ⊥ in
    let every : Type 0 = (n : PointId × Side) → Contains (needs l path) n → P n in
    let up : every → NoneAtBothSides l path = λ h p a b. h (p, side.Left) (needs-to l one path p side.Left a) b in
    let down : NoneAtBothSides l path → every = λ h n c b. at_both l path h n.0 n.1 (needs-from l path n c) b in
    Decides-like (list_all (λ n. not (has_need (needs l path) (n.0, other n.1))) (needs l path)) up down
    (all-decides (λ n. not (has_need (needs l path) (n.0, other n.1))) P (λ n. Decides-not (has_need (needs l path) (n.0, other n.1)) (requires-decides l one path (n.0, other n.1))) (needs l path))

-- ---- flanks

pub has_signal-decides : (l : Site) (p : Port) → Decides (has_signal l.signals p) ((s : SignalId) × StandsAt l s p)
has_signal-decides l p =
    let P : Signal → Type 0 = λ s. s.at ≡ p in
    let up : ((s : Signal) × Contains l.signals s × P s) → (s : SignalId) × StandsAt l s p = λ h.
    let at = contains-get l.signals h.0 h.1 in
    let id : SignalId = record { 0 = at.0 } in
    (id, ap (option_map (λ (s : Signal). s.at)) at.1 ∙ ap Some h.2) in
    let down : ((s : SignalId) × StandsAt l s p) → (s : Signal) × Contains l.signals s × P s = λ h.
    let a = option_map-some (λ (s : Signal). s.at) (slice_get l.signals h.0.0) p h.1 in
    (a.0, get-contains l.signals h.0.0 a.0 a.1, a.2) in
    Decides-like (has_signal l.signals p) up down (any-decides (λ s. is_port s.at p) P (λ s. port-decides s.at p) l.signals)

guarded-none : (l : Site) (one : OneBeyond l) (p : PointId) (s : Side) (from : Port) → joined_to l.joints (leg p (other s)) ≡ Some from → leg_of_another p from ≡ None → Decides (has_signal l.signals from) (IsGuarded l p s)
guarded-none l one p s from joined no_leg =
    let signal : Type 0 = (i : SignalId) × StandsAt l i from in
    let up : signal → IsGuarded l p s = λ h at j.
    let same : from ≡ at = some-injective from at (sym joined ∙ one (leg p (other s)) at j) in
    let S : Port → Type 0 = λ port. (i : SignalId) × StandsAt l i port in
    inr (subst S same h) in
    let down : IsGuarded l p s → signal = λ h.
    ⊎_elim (λ another. absurd (none-some (another.0, another.1) (sym no_leg ∙ ap (leg_of_another p) another.3 ∙ leg_of_another-is p another.0 another.1 another.2))) (λ is. is) (h from (joined-found l (leg p (other s)) from joined)) in
    Decides-like (has_signal l.signals from) up down (has_signal-decides l from)

closed : (b : Bool) → not (is_open_leg (guarded_by b)) ≡ b
closed true = refl
closed false = refl

guarded-by : (l : Site) (one : OneBeyond l) (p : PointId) (s : Side) (from : Port) (o : Option (PointId × Side)) → joined_to l.joints (leg p (other s)) ≡ Some from → leg_of_another p from ≡ o → Decides (not (is_open_leg (protection_by (has_signal l.signals from) o))) (IsGuarded l p s)
guarded-by l one p s from None joined no_leg = Decides-at (not (is_open_leg (guarded_by (has_signal l.signals from)))) (has_signal l.signals from) (closed (has_signal l.signals from)) (guarded-none l one p s from joined no_leg)
guarded-by l one p s from (Some n) joined is_leg =
    let a = leg_of_another-some p from n is_leg in
    (λ h at j. inl (n.0, n.1, a.0, some-injective at from (sym (one (leg p (other s)) at j) ∙ joined) ∙ a.1), λ h. refl)

guarded-behind : (l : Site) (one : OneBeyond l) (p : PointId) (s : Side) (o : Option Port) → joined_to l.joints (leg p (other s)) ≡ o → Decides (not (is_open_leg (protection_behind l p o))) (IsGuarded l p s)
unfolding protection_from
guarded-behind l one p s None joined = (λ h from j. absurd (none-some from (sym joined ∙ one (leg p (other s)) from j)), λ h. refl)
guarded-behind l one p s (Some from) joined = guarded-by l one p s from (leg_of_another p from) joined refl

pub guarded-decides : (l : Site) (one : OneBeyond l) (p : PointId) (s : Side) → Decides (not (is_open_leg (protection_of l p s))) (IsGuarded l p s)
unfolding protection_of
guarded-decides l one p s = guarded-behind l one p s (joined_to l.joints (leg p (other s))) refl

open-decides : (l : Site) (one : OneBeyond l) (o : Option (PointId × Side)) → Decides (not (is_open_at l o)) ((n : PointId × Side) → o ≡ Some n → IsGuarded l n.0 n.1)
open-decides l one None = (λ h n e. absurd (none-some n e), λ h. refl)
open-decides l one (Some m) =
    let G : PointId × Side → Type 0 = λ n. IsGuarded l n.0 n.1 in
    Decides-like (not (is_open_leg (protection_of l m.0 m.1))) (λ h n e. subst G (some-injective m n e) h) (λ h. h m refl) (guarded-decides l one m.0 m.1)

pub flanks-decide : (l : Site) (one : OneBeyond l) (path : List Passage) → Decides (flanks_guarded l path) (FlanksGuarded l path)
unfolding flanks_guarded
flanks-decide l one path =
    let P : Passage → Type 0 = λ g. (n : PointId × Side) → used g ≡ Some n → IsGuarded l n.0 n.1 in
    let every : Type 0 = (g : Passage) → Contains path g → P g in
    let up : every → FlanksGuarded l path = λ h g p s c u. h g c (p, s) (uses-used g p s u) in
    let down : FlanksGuarded l path → every = λ h g c n e. h g n.0 n.1 c (used-uses g n e) in
    Decides-like (list_all (λ g. not (is_open_at l (used g))) path) up down (all-decides (λ g. not (is_open_at l (used g))) P (λ g. open-decides l one (used g)) path)

-- ---- what is written

pub right-decides : (l : Site) (one : OneBeyond l) (r : RouteEntry) (path : List Passage) → Decides (points_right r path (needs l path) && flank_right r path (needs l path)) (WritesOnlyRequired l r path)
unfolding points_right flank_right
right-decides l one r path =
    let ns = needs l path in
    let P : PointId × Side → Type 0 = λ n. Requires l path n.0 n.1 × OnPath path n.0 in
    let F : PointId × Side → Type 0 = λ n. Requires l path n.0 n.1 × (OnPath path n.0 → ⊥) in
    let points = all-decides (λ n. has_need ns n && on_path path n.0) P (λ n. Decides-and (has_need ns n) (on_path path n.0) (requires-decides l one path n) (on_path-decides path n.0)) r.points in
    let flank = all-decides (λ n. has_need ns n && not (on_path path n.0)) F (λ n. Decides-and (has_need ns n) (not (on_path path n.0)) (requires-decides l one path n) (Decides-not (on_path path n.0) (on_path-decides path n.0))) r.flank in
    let p_test = list_all (λ n. has_need ns n && on_path path n.0) r.points in
    let f_test = list_all (λ n. has_need ns n && not (on_path path n.0)) r.flank in
    Decides-like (p_test && f_test) (λ h. record { points = λ p s c. h.0 (p, s) c; flank = λ p s c. h.1 (p, s) c }) (λ h. (λ n c. h.points n.0 n.1 c, λ n c. h.flank n.0 n.1 c)) (Decides-and p_test f_test points flank)

-- either of two, one of which can be tested
either : {A B : Type 0} (b : Bool) → Decides b A → ((A → ⊥) → B) → A ⊎ B
either true d h = inl (d.0 refl)
either false d h = inr (h (λ a. false≢true (d.1 a)))

pub flank_written-decides : (l : Site) (one : OneBeyond l) (r : RouteEntry) (path : List Passage) → Decides (flank_written r path (needs l path)) (FlankNamed l r path)
unfolding flank_written
flank_written-decides l one r path =
    let ns = needs l path in
    let P : PointId × Side → Type 0 = λ n. OnPath path n.0 ⊎ ((t : Side) × Contains r.flank (n.0, t)) in
    let every : Type 0 = (n : PointId × Side) → Contains ns n → P n in
    let up : every → FlankNamed l r path = λ h p s needed off. ⊎_elim (λ on. absurd (off on)) (λ named. named) (h (p, s) (needs-to l one path p s needed)) in
    let down : FlankNamed l r path → every = λ h n c. either (on_path path n.0) (on_path-decides path n.0) (λ off. h n.0 n.1 (needs-from l path n c) off) in
    Decides-like (list_all (λ n. on_path path n.0 || names_point r.flank n.0) ns) up down
    (all-decides (λ n. on_path path n.0 || names_point r.flank n.0) P (λ n. Decides-or (on_path path n.0) (names_point r.flank n.0) (on_path-decides path n.0) (names-decides r.flank n.0)) ns)
