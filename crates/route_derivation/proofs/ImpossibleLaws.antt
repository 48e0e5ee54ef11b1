-- What is told of the ways that can't be routes.
use Rattle.std.proofs.Common.{◌≡◌, ◌≢◌, ◌<◌, ◌≤◌, ◌+◌, ◌∙◌, ◌⊎◌, Bool, true, false, not, ◌==◌, ℕ, List, [], ◌∷◌, ◌++◌, append-nil, length, take, get_or, Option, Some, None, Ok, Err, refl, sym, ap, subst, inl, inr, ⊎_elim, arith}
use Rattle.std.specs.Prelude.{Result, IfOk, is_some, if◌then◌else◌}
use Rattle.std.specs.Option.{option_map, option_or}
use Rattle.std.specs.List.{Contains, cons_option, filter_map}
use Rattle.std.proofs.lemmas.List.{take_all, take_more}
use Rattle.std.proofs.lemmas.List.Elements.{filter_map-append}
use Rattle.std.proofs.lemmas.Bool.{false≢true}
use Rattle.control_table.specs.sci_telegram.declared.message.Side.{Side}
use Rattle.control_table.specs.sci_telegram.declared.message.Side.TheVariants as side
use Rattle.control_table.specs.layout.declared.ids.PointId.{PointId}
use Rattle.control_table.specs.layout.declared.ids.SignalId.{SignalId}
use Rattle.control_table.specs.layout.declared.port.Port.{Port}
use Rattle.control_table.specs.layout.Entries.{Site}
use Rattle.control_table.specs.layout.Once.{Once}
use Rattle.control_table.specs.layout.Station.{IsStation}
use Rattle.control_table.specs.Path.{Passage}
use Rattle.control_table.specs.Sides.{leg, other, Uses, PathUses, Guards, Requires, IsGuarded, FlanksGuarded, NoneAtBothSides}
use Rattle.control_table.specs.Topology.{Joined}
use Rattle.route_derivation.specs.declared.fault.Underived.{Underived}
use Rattle.route_derivation.specs.declared.fault.Underived.TheVariants.{TooMany, NoName, OutOfMemory}
use Rattle.route_derivation.specs.declared.impossible.Hindrance.{Hindrance}
use Rattle.route_derivation.specs.declared.impossible.Hindrance.TheVariants as hindrance
use Rattle.route_derivation.specs.declared.impossible.ImpossibleWay.{ImpossibleWay}
use Rattle.route_derivation.specs.Ways.{Way, IsWay, IsPassable}
use Rattle.route_derivation.specs.Impossible.{LeavesOpen, AsksFor, AsksForBoth, Hinders, TellsOf, IsWayFrom, AreImpossible, ManyWaysFrom}
use Rattle.route_derivation.specs.inside.WaySearch.{joined_to, signal_from, used, leg_of_another, protection_by, protection_from, protection_behind, protection_of, flank_at, is_open_leg, ways_from, Adds, Stops, Finds}
use Rattle.route_derivation.specs.inside.RouteParts.{points_of}
use Rattle.route_derivation.specs.inside.HindranceSearch.{Need, open_leg, first_open, opposite, both_sides, first_against, first_both, hindrance_at, told, told_of, with_told, all_told}
use Rattle.route_derivation.proofs.Joints.{OneBeyond, one-beyond, joined-found}
use Rattle.route_derivation.proofs.Members.{contains-none, contains-here, contains-there, contains-cases, none-some, some-injective}
use Rattle.route_derivation.proofs.Same.{point-decides, other-other}
use Rattle.route_derivation.proofs.SideLaws.{used-uses, uses-used, flank-from, flank-to, guarded-decides, leg_of_another-is, signal-missing, option_cases, option_map-some}
use Rattle.route_derivation.proofs.Written.{given-from, given-to}
use Rattle.route_derivation.proofs.Sound.{IsWayIf, found-way}
use Rattle.route_derivation.proofs.Complete.{way-found}
use Rattle.route_derivation.proofs.Order.{from-ordered}
use Rattle.route_derivation.proofs.RouteWays.{ordered-distinct}

-- ---- the first of some options

or-some : {A : Type 0} (o p : Option A) (x : A) → option_or o p ≡ Some x → (o ≡ Some x) ⊎ ((o ≡ None) × (p ≡ Some x))
or-some None p x e = inr (refl, e)
or-some (Some y) p x e = inl e

or-none : {A : Type 0} (o p : Option A) → option_or o p ≡ None → (o ≡ None) × (p ≡ None)
or-none None p e = (refl, e)
or-none (Some y) p e = absurd (none-some y (sym e))

-- ---- the points of a way

pub points-used : (path : List Passage) (n : Need) → Contains (points_of path) n → PathUses path n.0 n.1
unfolding points_of
points-used path n c = let on = given-from (λ g. used g) path n c in (on.0, on.1, used-uses on.0 n on.2)

pub used-points : (path : List Passage) (g : Passage) (p : PointId) (s : Side) → Contains path g → Uses g p s → Contains (points_of path) (p, s)
unfolding points_of
used-points path g p s c u = given-to (λ g. used g) path g (p, s) c (uses-used g p s u)

-- ---- open legs

module _ (l : Site) (one : OneBeyond l) where
  no-leg : (p : PointId) (from : Port) → leg_of_another p from ≡ None → (q : PointId) (t : Side) → q ≢ p → from ≡ leg q t → ⊥
  no-leg p from e q t differ is = none-some (q, t) (sym e ∙ ap (leg_of_another p) is ∙ leg_of_another-is p q t differ)

  open-from : (p : PointId) (from : Port) → is_open_leg (protection_from l p from) ≡ true → (leg_of_another p from ≡ None) × (signal_from 0 l.signals from ≡ None)
  unfolding protection_from
  open-from p from e = at (leg_of_another p from) (signal_from 0 l.signals from) refl refl e where
    at : (o : Option Need) (s : Option SignalId) → leg_of_another p from ≡ o → signal_from 0 l.signals from ≡ s → is_open_leg (protection_by (is_some s) o) ≡ true → (o ≡ None) × (s ≡ None)
    at None None a b e = (refl, refl)
    at None (Some i) a b e = absurd (false≢true e)
    at (Some n) s a b e = absurd (false≢true e)

  open-behind : (n : Need) (o : Option Port) → joined_to l.joints (leg n.0 (other n.1)) ≡ o → is_open_leg (protection_behind l n.0 o) ≡ true → (from : Port) × (o ≡ Some from) × (is_open_leg (protection_from l n.0 from) ≡ true)
  open-behind n None is e = absurd (false≢true e)
  open-behind n (Some from) is e = (from, refl, e)

  open-of : (n : Need) → is_open_leg (protection_of l n.0 n.1) ≡ true → (from : Port) × (joined_to l.joints (leg n.0 (other n.1)) ≡ Some from) × (is_open_leg (protection_from l n.0 from) ≡ true)
  unfolding protection_of
  open-of n e = open-behind n (joined_to l.joints (leg n.0 (other n.1))) refl e

  leaves-open : (path : List Passage) (n : Need) (from : Port) → PathUses path n.0 n.1 → is_open_leg (protection_of l n.0 n.1) ≡ true → joined_to l.joints (leg n.0 (other n.1)) ≡ Some from
      → LeavesOpen l path n.0 (other n.1) from
  leaves-open path n from u opened joined =
      let on = open-of n opened in
      let same : on.0 ≡ from = some-injective on.0 from (sym on.1 ∙ joined) in
      let O : Port → Type 0 = λ q. is_open_leg (protection_from l n.0 q) ≡ true in
      let nothing = open-from n.0 from (subst O same on.2) in
      let U : Side → Type 0 = λ t. PathUses path n.0 t in
      record {
        used = subst U (sym (other-other n.1)) u;
        joined = joined-found l (leg n.0 (other n.1)) from joined;
        no_leg = no-leg n.0 from nothing.0;
        no_signal = signal-missing l from nothing.1;
      }

  open_leg-some : (n : Need) (h : Hindrance) → open_leg l n ≡ Some h
      → (from : Port) × (h ≡ hindrance.OpenLeg n.0 (other n.1) from) × (is_open_leg (protection_of l n.0 n.1) ≡ true) × (joined_to l.joints (leg n.0 (other n.1)) ≡ Some from)
  unfolding open_leg
  open_leg-some n h e = at (is_open_leg (protection_of l n.0 n.1)) refl e where
    at : (b : Bool) → is_open_leg (protection_of l n.0 n.1) ≡ b → (if b then option_map (λ from. hindrance.OpenLeg n.0 (other n.1) from) (joined_to l.joints (leg n.0 (other n.1))) else None) ≡ Some h
        → (from : Port) × (h ≡ hindrance.OpenLeg n.0 (other n.1) from) × (is_open_leg (protection_of l n.0 n.1) ≡ true) × (joined_to l.joints (leg n.0 (other n.1)) ≡ Some from)
    at false is e = absurd (none-some h e)
    at true is e =
        let on = option_map-some (λ from. hindrance.OpenLeg n.0 (other n.1) from) (joined_to l.joints (leg n.0 (other n.1))) h e in
        (on.0, sym on.2, is, on.1)

  open_leg-none : (n : Need) → open_leg l n ≡ None → IsGuarded l n.0 n.1
  unfolding open_leg
  open_leg-none n e = at (is_open_leg (protection_of l n.0 n.1)) refl e where
    at : (b : Bool) → is_open_leg (protection_of l n.0 n.1) ≡ b → (if b then option_map (λ from. hindrance.OpenLeg n.0 (other n.1) from) (joined_to l.joints (leg n.0 (other n.1))) else None) ≡ None → IsGuarded l n.0 n.1
    at false is e = (guarded-decides l one n.0 n.1).0 (ap not is)
    at true is e =
        let on = open-of n is in
        absurd (none-some (hindrance.OpenLeg n.0 (other n.1) on.0) (sym e ∙ ap (option_map (λ from. hindrance.OpenLeg n.0 (other n.1) from)) on.1))

  first_open-some : (ns : List Need) (h : Hindrance) → first_open l ns ≡ Some h → (n : Need) × Contains ns n × (open_leg l n ≡ Some h)
  first_open-some [] h e = absurd (none-some h e)
  first_open-some (n ∷ ns) h e =
      ⊎_elim (λ here. (n, contains-here n ns, here)) (λ later. let on = first_open-some ns h later.1 in (on.0, contains-there n on.0 ns on.1, on.2)) (or-some (open_leg l n) (first_open l ns) h e)

  first_open-none : (ns : List Need) → first_open l ns ≡ None → (n : Need) → Contains ns n → open_leg l n ≡ None
  first_open-none [] e n c = absurd (contains-none n c)
  first_open-none (m ∷ ns) e n c =
      let both = or-none (open_leg l m) (first_open l ns) e in
      let O : Need → Type 0 = λ x. open_leg l x ≡ None in
      ⊎_elim (λ same. subst O same both.0) (λ later. first_open-none ns both.1 n later) (contains-cases m n ns c)

  -- ---- points at both sides

  abbrev Asked : Option Need → Need → Type 0
  Asked o n = (q : PointId) (t : Side) → o ≡ Some (q, t) → AsksFor l n q t

  own-asked : (n : Need) → Asked (Some n) n
  own-asked n q t e = inl (some-injective n (q, t) e)

  flank-asked : (n : Need) → Asked (flank_at l (Some n)) n
  flank-asked n q t e = inr (flank-from l n.0 n.1 (q, t) e)

  -- what is found is asked for at both sides
  abbrev FoundBoth : Need → Need → Hindrance → Type 0
  FoundBoth a b h = (q : PointId) × (h ≡ hindrance.BothSides q a b) × AsksFor l a q side.Left × AsksFor l b q side.Right

  opposite-some : (o p : Option Need) (a b : Need) (h : Hindrance) → Asked o a → Asked p b → opposite o p a b ≡ Some h → FoundBoth a b h
  opposite-some None p a b h asked against e = absurd (none-some h e)
  opposite-some (Some (q, side.Right)) p a b h asked against e = absurd (none-some h e)
  opposite-some (Some (q, side.Left)) None a b h asked against e = absurd (none-some h e)
  opposite-some (Some (q, side.Left)) (Some (r, side.Left)) a b h asked against e = absurd (none-some h e)
  opposite-some (Some (q, side.Left)) (Some (r, side.Right)) a b h asked against e = at (q.0 == r.0) refl e where
    at : (same : Bool) → (q.0 == r.0) ≡ same → (if same then Some (hindrance.BothSides q a b) else None) ≡ Some h → FoundBoth a b h
    at false is e = absurd (none-some h e)
    at true is e =
        let same : q ≡ r = (point-decides q r).0 is in
        (q, sym (some-injective (hindrance.BothSides q a b) h e), asked q side.Left refl, against q side.Right (ap (λ x. Some (x, side.Right)) (sym same)))

  opposite-is : (q : PointId) (a b : Need) → opposite (Some (q, side.Left)) (Some (q, side.Right)) a b ≡ Some (hindrance.BothSides q a b)
  opposite-is q a b = ap (λ same. if same then Some (hindrance.BothSides q a b) else None) ((point-decides q q).1 refl)

  both_sides-some : (a b : Need) (h : Hindrance) → both_sides l a b ≡ Some h → FoundBoth a b h
  unfolding both_sides
  both_sides-some a b h e =
      let x = opposite (Some a) (Some b) a b in
      let y = opposite (Some a) (flank_at l (Some b)) a b in
      let z = opposite (flank_at l (Some a)) (Some b) a b in
      let w = opposite (flank_at l (Some a)) (flank_at l (Some b)) a b in
      ⊎_elim (λ first. opposite-some (Some a) (Some b) a b h (own-asked a) (own-asked b) first)
      (λ more. ⊎_elim (λ second. opposite-some (Some a) (flank_at l (Some b)) a b h (own-asked a) (flank-asked b) second)
      (λ more. ⊎_elim (λ third. opposite-some (flank_at l (Some a)) (Some b) a b h (flank-asked a) (own-asked b) third)
      (λ fourth. opposite-some (flank_at l (Some a)) (flank_at l (Some b)) a b h (flank-asked a) (flank-asked b) fourth.1)
      (or-some z w h more.1)) (or-some y (option_or z w) h more.1)) (or-some x (option_or y (option_or z w)) h e)

  -- where nothing is found, nothing is asked for at both sides
  both_sides-none : (a b : Need) (q : PointId) → both_sides l a b ≡ None → AsksFor l a q side.Left → AsksFor l b q side.Right → ⊥
  unfolding both_sides
  both_sides-none a b q e left right =
      let x = opposite (Some a) (Some b) a b in
      let y = opposite (Some a) (flank_at l (Some b)) a b in
      let z = opposite (flank_at l (Some a)) (Some b) a b in
      let w = opposite (flank_at l (Some a)) (flank_at l (Some b)) a b in
      let first = or-none x (option_or y (option_or z w)) e in
      let second = or-none y (option_or z w) first.1 in
      let third = or-none z w second.1 in
      let clash : (o p : Option Need) → opposite o p a b ≡ None → o ≡ Some (q, side.Left) → p ≡ Some (q, side.Right) → ⊥ = λ o p none is against.
      none-some (hindrance.BothSides q a b) (sym none ∙ ap (λ v. opposite v p a b) is ∙ ap (λ v. opposite (Some (q, side.Left)) v a b) against ∙ opposite-is q a b) in
      let flank : (n : Need) (t : Side) → Guards l q t n.0 n.1 → flank_at l (Some n) ≡ Some (q, t) = λ n t g. flank-to l one n.0 n.1 q t g in
      ⊎_elim
      (λ own. ⊎_elim (λ own_too. clash (Some a) (Some b) first.0 (ap Some own) (ap Some own_too)) (λ guard. clash (Some a) (flank_at l (Some b)) second.0 (ap Some own) (flank b side.Right guard)) right)
      (λ guard. ⊎_elim (λ own. clash (flank_at l (Some a)) (Some b) third.0 (flank a side.Left guard) (ap Some own)) (λ guard_too. clash (flank_at l (Some a)) (flank_at l (Some b)) third.1 (flank a side.Left guard) (flank b side.Right guard_too)) right)
      left

  first_against-some : (a : Need) (bs : List Need) (h : Hindrance) → first_against l a bs ≡ Some h → (b : Need) × Contains bs b × (both_sides l a b ≡ Some h)
  first_against-some a [] h e = absurd (none-some h e)
  first_against-some a (b ∷ bs) h e =
      ⊎_elim (λ here. (b, contains-here b bs, here)) (λ later. let on = first_against-some a bs h later.1 in (on.0, contains-there b on.0 bs on.1, on.2)) (or-some (both_sides l a b) (first_against l a bs) h e)

  first_against-none : (a : Need) (bs : List Need) → first_against l a bs ≡ None → (b : Need) → Contains bs b → both_sides l a b ≡ None
  first_against-none a [] e b c = absurd (contains-none b c)
  first_against-none a (m ∷ bs) e b c =
      let both = or-none (both_sides l a m) (first_against l a bs) e in
      let B : Need → Type 0 = λ x. both_sides l a x ≡ None in
      ⊎_elim (λ same. subst B same both.0) (λ later. first_against-none a bs both.1 b later) (contains-cases m b bs c)

  first_both-some : (all ns : List Need) (h : Hindrance) → first_both l all ns ≡ Some h → (a : Need) × Contains ns a × (first_against l a all ≡ Some h)
  first_both-some all [] h e = absurd (none-some h e)
  first_both-some all (a ∷ ns) h e =
      ⊎_elim (λ here. (a, contains-here a ns, here)) (λ later. let on = first_both-some all ns h later.1 in (on.0, contains-there a on.0 ns on.1, on.2)) (or-some (first_against l a all) (first_both l all ns) h e)

  first_both-none : (all ns : List Need) → first_both l all ns ≡ None → (a : Need) → Contains ns a → first_against l a all ≡ None
  first_both-none all [] e a c = absurd (contains-none a c)
  first_both-none all (m ∷ ns) e a c =
      let both = or-none (first_against l m all) (first_both l all ns) e in
      let F : Need → Type 0 = λ x. first_against l x all ≡ None in
      ⊎_elim (λ same. subst F same both.0) (λ later. first_both-none all ns both.1 a later) (contains-cases m a ns c)

  -- ---- a way

  module _ (path : List Passage) where
    abbrev ns : List Need
    ns = points_of path

    open-hinders : (h : Hindrance) → first_open l ns ≡ Some h → Hinders l path h
    open-hinders h e =
        let at = first_open-some ns h e in
        let on = open_leg-some at.0 h at.2 in
        let H : Hindrance → Type 0 = λ x. Hinders l path x in
        subst H (sym on.1) (leaves-open path at.0 on.0 (points-used path at.0 at.1) on.2 on.3)

    both-hinders : (h : Hindrance) → first_both l ns ns ≡ Some h → Hinders l path h
    both-hinders h e =
        let a = first_both-some ns ns h e in
        let b = first_against-some a.0 ns h a.2 in
        let on = both_sides-some a.0 b.0 h b.2 in
        let H : Hindrance → Type 0 = λ x. Hinders l path x in
        let both : AsksForBoth l path on.0 a.0 b.0 = record { first = points-used path a.0 a.1; left = on.2; second = points-used path b.0 b.1; right = on.3 } in
        subst H (sym on.1) both

    pub found-hinders : (h : Hindrance) → hindrance_at l ns ≡ Some h → Hinders l path h
    found-hinders h e = ⊎_elim (λ first. open-hinders h first) (λ both. both-hinders h both.1) (or-some (first_open l ns) (first_both l ns ns) h e)

    -- whoever is required is asked for by a point that is passed
    asking : (q : PointId) (t : Side) → Requires l path q t → (n : Need) × Contains ns n × AsksFor l n q t
    asking q t h =
        ⊎_elim (λ own. ((q, t), used-points path h.0 q t h.1 own, inl refl)) (λ guard. ((guard.0, guard.1), used-points path h.0 guard.0 guard.1 h.1 guard.2, inr guard.3)) h.2

    pub none-consistent : hindrance_at l ns ≡ None → NoneAtBothSides l path
    none-consistent e q left right =
        let both = or-none (first_open l ns) (first_both l ns ns) e in
        let a = asking q side.Left left in
        let b = asking q side.Right right in
        both_sides-none a.0 b.0 q (first_against-none a.0 ns (first_both-none ns ns both.1 a.0 a.1) b.0 b.1) a.2 b.2

    pub none-guarded : hindrance_at l ns ≡ None → FlanksGuarded l path
    none-guarded e g p s c u =
        let both = or-none (first_open l ns) (first_both l ns ns) e in
        open_leg-none (p, s) (first_open-none ns both.0 (p, s) (used-points path g p s c u))

  -- what hinders a path keeps it from being a route
  pub hindered : (path : List Passage) (h : Hindrance) → Hinders l path h → NoneAtBothSides l path → FlanksGuarded l path → ⊥
  hindered path (hindrance.OpenLeg p s from) h none guarded =
      let u = h.used in
      let J : Side → Type 0 = λ t. Joined l (leg p t) from in
      ⊎_elim (λ another. h.no_leg another.0 another.1 another.2 another.3) (λ signal. h.no_signal signal.0 signal.1)
      (guarded u.0 p (other s) u.1 u.2 from (subst J (sym (other-other s)) h.joined))
  hindered path (hindrance.BothSides q a b) h none guarded =
      let required : (n : Need) (t : Side) → PathUses path n.0 n.1 → AsksFor l n q t → Requires l path q t = λ n t u asks.
      ⊎_elim (λ own. let U : Need → Type 0 = λ m. Uses u.0 m.0 m.1 in (u.0, u.1, inl (subst U own u.2))) (λ guard. (u.0, u.1, inr (n.0, n.1, u.2, guard))) asks in
      none q (required a side.Left h.first h.left) (required b side.Right h.second h.right)

  -- ---- all ways of a signal

  told-some : (w : Way) (i : ImpossibleWay) → told_of l w ≡ Some i → TellsOf l i w
  told-some w i e =
      let on = option_map-some (told w) (hindrance_at l (points_of w.passages)) i e in
      let T : ImpossibleWay → Type 0 = λ x. TellsOf l x w in
      let of_it : TellsOf l (told w on.0) w = record { entry = refl; exit = refl; hinders = found-hinders w.passages on.0 on.1 } in
      subst T on.2 of_it

  told-passable : (w : Way) → IsWay l w → told_of l w ≡ None → IsPassable l w
  told-passable w way e = at (hindrance_at l (points_of w.passages)) refl e where
    at : (o : Option Hindrance) → hindrance_at l (points_of w.passages) ≡ o → option_map (told w) o ≡ None → IsPassable l w
    at None is e = record { way = way; consistent = none-consistent w.passages is; guarded = none-guarded w.passages is }
    at (Some h) is e = absurd (none-some (told w h) (sym e))

module _ (l : Site) (once : Once l) (s : SignalId) where
  way-from : (w : Way) → Contains (ways_from false l s) w → IsWayFrom l s w
  way-from w c = let on = found-way false l once s w c in record { way = on.1.way; short = on.2; entry = on.0 }

  from-found : IsStation l → (w : Way) → IsWayFrom l s w → Contains (ways_from false l s) w
  from-found station w h =
      let C : SignalId → Type 0 = λ t. Contains (ways_from false l t) w in
      let any : IsWayIf false l w = record { way = h.way; consistent = λ asked. absurd (false≢true asked); guarded = λ asked. absurd (false≢true asked) } in
      subst C h.entry (way-found false l once station w any h.short)

  pub told-impossible : IsStation l → AreImpossible l s (all_told l (ways_from false l s))
  unfolding all_told
  told-impossible station = record {
    each = λ i c. let on = given-from (told_of l) (ways_from false l s) i c in (on.0, way-from on.0 on.1, told-some l (one-beyond l once) on.0 i on.2);
    all = λ w h blocked.
        ⊎_elim (λ none. absurd (blocked (told-passable l (one-beyond l once) w h.way none)))
        (λ some. (some.0, given-to (told_of l) (ways_from false l s) w some.0 (from-found station w h) some.1, told-some l (one-beyond l once) w some.0 some.1))
        (option_cases (told_of l w));
  }

  many-ways : 64 < length (ways_from false l s) → ManyWaysFrom l s
  many-ways many = record { ways = ways_from false l s; many = many; differ = ordered-distinct (ways_from false l s) (from-ordered l s false); each = λ w c. way-from w c }

  pub finds-impossible : (found : List Way) (told : List ImpossibleWay) → IsStation l → found ≡ ways_from false l s → told ≡ all_told l found → AreImpossible l s told
  finds-impossible found told station same told_is =
      let A : List ImpossibleWay → Type 0 = λ xs. AreImpossible l s xs in
      subst A (sym (told_is ∙ ap (all_told l) same)) (told-impossible station)

  pub finds-many : {X : Type 0} (view : X → List Way) (r : Result X Underived) → Finds view r (ways_from false l s) → r ≡ Err TooMany → ManyWaysFrom l s
  finds-many view (Ok x) h e = absurd (cc)
  finds-many view (Err TooMany) h e = many-ways h
  finds-many view (Err NoName) h e = absurd (cc)
  finds-many view (Err OutOfMemory) h e = absurd (cc)

-- ---- what the code finds

pub finds-same : {X : Type 0} (view : X → List Way) (r : Result X Underived) (ways : List Way) → Finds view r ways → IfOk r (λ x. view x ≡ ways)
finds-same view (Ok x) ways h = h.0
finds-same view (Err e) ways h = tt

pub finds_alone : (old new ways : List Way) → old ≡ [] → Adds (Ok tt) old new ways → (new ≡ ways) × (length new ≤ 64)
finds_alone old new ways none h =
    let few = ap length none in
    (h.0 ∙ ap (λ xs. xs ++ ways) none, h.1 (omega (arith, few)))

pub stops_alone : (e : Underived) (old new ways : List Way) → old ≡ [] → Adds (Err e) old new ways → Stops e ways
stops_alone TooMany old new ways none h = let L : List Way → Type 0 = λ xs. 64 < length xs in subst L (ap (λ xs. xs ++ ways) none) h
stops_alone NoName old new ways none h = tt
stops_alone OutOfMemory old new ways none h = tt

with_told-is : (told : List ImpossibleWay) (o : Option ImpossibleWay) → with_told told o ≡ told ++ cons_option o []
with_told-is told None = sym (append-nil told)
with_told-is told (Some i) = refl

-- one way more
pub told_more : (l : Site) (ws : List Way) (i : ℕ) (old new : List ImpossibleWay) (w : Way) → i < length ws → w ≡ get_or ws i w → old ≡ all_told l (take i ws) → new ≡ with_told old (told_of l w) → new ≡ all_told l (take (i + 1) ws)
unfolding all_told
told_more l ws i old new w lt is before more =
    let f = told_of l in
    let one : new ≡ filter_map f (take i ws) ++ filter_map f (w ∷ []) = more ∙ with_told-is old (f w) ∙ ap (λ xs. xs ++ filter_map f (w ∷ [])) before in
    let all : filter_map f (take i ws ++ w ∷ []) ≡ filter_map f (take i ws) ++ filter_map f (w ∷ []) = filter_map-append f (take i ws) (w ∷ []) in
    one ∙ sym all ∙ ap (λ v. filter_map f (take i ws ++ v ∷ [])) is ∙ ap (filter_map f) (sym (take_more ws i w lt))

pub told_none : (l : Site) (ws : List Way) → [] ≡ all_told l (take 0 ws)
unfolding all_told
told_none l ws = refl

pub told_all : (l : Site) (ws : List Way) (i : ℕ) (new : List ImpossibleWay) → length ws ≤ i → new ≡ all_told l (take i ws) → new ≡ all_told l ws
told_all l ws i new few is = is ∙ ap (all_told l) (take_all i ws few)
