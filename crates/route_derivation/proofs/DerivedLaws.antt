-- The routes along all ways are those that follow from the layout.
use Rattle.std.proofs.Common.{◌≡◌, ◌≤◌, ◌<◌, ◌+◌, ◌∙◌, ℕ, suc, List, [], ◌∷◌, ◌++◌, length, map, take, get_or, refl, sym, ap, subst, inl, inr, ⊎_elim, arith}
use Rattle.std.specs.List.{All, AllPairs, Contains}
use Rattle.std.proofs.lemmas.List.{get_or_default, take_all, take_more}
use Rattle.control_table.specs.layout.declared.ids.SignalId.{SignalId}
use Rattle.control_table.specs.layout.declared.port.Port.{Port}
use Rattle.control_table.specs.layout.declared.entries.Exit.{Exit}
use Rattle.control_table.specs.layout.declared.entries.Exit.TheVariants as exit
use Rattle.control_table.specs.layout.Entries.{RouteEntry, Site}
use Rattle.control_table.specs.layout.Once.{Once}
use Rattle.control_table.specs.Topology.{StandsAt}
use Rattle.control_table.specs.Path.{Passage, Leads, EndsAt, Path}
use Rattle.route_derivation.specs.declared.rule.ApproachRule.{ApproachRule}
use Rattle.route_derivation.specs.declared.slow.SlowLegs.{SlowLegs}
use Rattle.route_derivation.specs.Approach.{IsApproach}
use Rattle.route_derivation.specs.Ways.{Way, IsPassable, IsRouteWay, PartsLeft, ports, ComesBefore, AreRouteWays}
use Rattle.route_derivation.specs.Derived.{IsGiven, IsAsked, SameRoute, IsBefore, IsDerived}
use Rattle.route_derivation.specs.inside.RouteParts.{path_of, IsAlong, AreAlong}
use Rattle.route_derivation.proofs.Joints.{OneBeyond, one-beyond}
use Rattle.route_derivation.proofs.Members.{contains-none, contains-here, contains-there, contains-cases}
use Rattle.route_derivation.proofs.Lists.{pairs-nil, pairs-first, pairs-rest, pairs-cons}
use Rattle.route_derivation.proofs.Written.{writes-required}

mapped-length : (path : List Passage) → length (map (λ (g : Passage). g.left) path) ≡ length path
mapped-length [] = refl
mapped-length (g ∷ path) = ap suc (mapped-length path)

-- ---- a way and a route that leads along it

module _ (l : Site) (slow : List SlowLegs) (rule : ApproachRule) where
  path-is : (w : Way) (r : RouteEntry) → IsAlong l slow rule w r → r.path ≡ ports w
  unfolding path_of
  path-is w r a = a.path

  way-path : (w : Way) (r : RouteEntry) → IsAlong l slow rule w r → IsPassable l w → Path l r w.passages
  way-path w r a h =
      let B : SignalId → Type 0 = λ s. (from : Port) × StandsAt l s from × Leads l from w.passages in
      let E : Exit → Type 0 = λ x. EndsAt l x w.passages in
      let S : Exit → Type 0 = λ x. (g : Passage) (s : SignalId) → Contains w.passages g → StandsAt l s g.left → x ≡ exit.Signal s in
      record {
        follows = record { ports = path-is w r a; some = h.way.some; begins = subst B (sym a.entry) h.way.begins };
        once = h.way.once;
        signals = record {
          ends = subst E (sym a.exit) h.way.ends;
          elsewhere = λ e. h.way.elsewhere (sym a.exit ∙ e ∙ ap exit.Signal a.entry);
          between = subst S (sym a.exit) h.way.between;
        };
      }

  along-given : (one : OneBeyond l) (w : Way) (r : RouteEntry) → IsAlong l slow rule w r → IsPassable l w → IsGiven l r
  along-given one w r a h = record {
    path = w.passages;
    is_path = way-path w r a h;
    writes = writes-required l one r w.passages h.consistent a.points a.flank;
    consistent = h.consistent;
    guarded = h.guarded;
    alone = a.extra;
  }

  ports-length : (w : Way) → length (ports w) ≡ length w.passages
  ports-length w = mapped-length w.passages

  along-asked : (one : OneBeyond l) (entries : List SignalId) (w : Way) (r : RouteEntry) → IsAlong l slow rule w r → IsRouteWay l entries w → IsAsked l entries r
  along-asked one entries w r a h =
      let C : SignalId → Type 0 = λ s. Contains entries s in
      let N : ℕ → Type 0 = λ n. n ≤ 64 in
      record { given = along-given one w r a h.passable; entry = subst C (sym a.entry) h.asked; short = subst N (sym (ap length (path-is w r a) ∙ ports-length w)) h.short }

  -- the way of a route that is sound by itself
  abbrev way_of : (r : RouteEntry) → IsGiven l r → Way
  way_of r h = record { entry = r.entry; exit = r.exit; passages = h.path }

  given-way : (entries : List SignalId) (r : RouteEntry) (h : IsAsked l entries r) → IsRouteWay l entries (way_of r h.given)
  given-way entries r h =
      let p = h.given.is_path in
      let N : ℕ → Type 0 = λ n. n ≤ 64 in
      record {
        asked = h.entry;
        passable = record {
          way = record { some = p.follows.some; begins = p.follows.begins; once = p.once; ends = p.signals.ends; elsewhere = p.signals.elsewhere; between = p.signals.between };
          consistent = h.given.consistent;
          guarded = h.given.guarded;
        };
        short = subst N (ap length p.follows.ports ∙ mapped-length h.given.path) h.short;
      }

  -- a route along the way of another is the same
  along-same : (one : OneBeyond l) (r q : RouteEntry) (h : IsGiven l r) → IsAlong l slow rule (way_of r h) q → SameRoute r q
  along-same one r q h a =
      let own = writes-required l one q h.path h.consistent a.points a.flank in
      record {
        entry = sym a.entry;
        exit = sym a.exit;
        path = h.is_path.follows.ports ∙ sym (path-is (way_of r h) q a);
        points = λ p s. (λ c. (own.points p s).1 ((h.writes.points p s).0 c), λ c. (h.writes.points p s).1 ((own.points p s).0 c));
        flank = λ p s. (λ c. (own.flank p s).1 ((h.writes.flank p s).0 c), λ c. (h.writes.flank p s).1 ((own.flank p s).0 c));
      }

  along-before : (w v : Way) (r q : RouteEntry) → IsAlong l slow rule w r → IsAlong l slow rule v q → ComesBefore w v → IsBefore r q
  along-before w v r q a b (inl lt) =
      let first : r.entry.0 ≡ w.entry.0 = ap (λ (s : SignalId). s.0) a.entry in
      let second : q.entry.0 ≡ v.entry.0 = ap (λ (s : SignalId). s.0) b.entry in
      inl (omega (arith, first, second, lt))
  along-before w v r q a b (inr h) =
      let P : List Port → Type 0 = λ ps. PartsLeft ps q.path in
      let Q : List Port → Type 0 = λ ps. PartsLeft (ports w) ps in
      inr (a.entry ∙ h.0 ∙ sym b.entry, subst P (sym (path-is w r a)) (subst Q (sym (path-is v q b)) h.1))

  -- ---- all of them

  pub zip-from : (ws : List Way) (rs : List RouteEntry) → AreAlong l slow rule ws rs → (r : RouteEntry) → Contains rs r → (w : Way) × Contains ws w × IsAlong l slow rule w r
  zip-from [] [] z r c = absurd (contains-none r c)
  zip-from [] (q ∷ rs) z r c = absurd z
  zip-from (w ∷ ws) [] z r c = absurd z
  zip-from (w ∷ ws) (q ∷ rs) z r c =
      let A : RouteEntry → Type 0 = λ x. IsAlong l slow rule w x in
      ⊎_elim (λ e. (w, contains-here w ws, subst A e z.0)) (λ later. let on = zip-from ws rs z.1 r later in (on.0, contains-there w on.0 ws on.1, on.2)) (contains-cases q r rs c)

  zip-to : (ws : List Way) (rs : List RouteEntry) → AreAlong l slow rule ws rs → (w : Way) → Contains ws w → (r : RouteEntry) × Contains rs r × IsAlong l slow rule w r
  zip-to [] [] z w c = absurd (contains-none w c)
  zip-to [] (q ∷ rs) z w c = absurd z
  zip-to (v ∷ ws) [] z w c = absurd z
  zip-to (v ∷ ws) (q ∷ rs) z w c =
      let A : Way → Type 0 = λ x. IsAlong l slow rule x q in
      ⊎_elim (λ e. (q, contains-here q rs, subst A e z.0)) (λ later. let on = zip-to ws rs z.1 w later in (on.0, contains-there q on.0 rs on.1, on.2)) (contains-cases v w ws c)

  zip-ordered : (ws : List Way) (rs : List RouteEntry) → AreAlong l slow rule ws rs → AllPairs ComesBefore ws → AllPairs IsBefore rs
  zip-ordered [] [] z h = pairs-nil IsBefore
  zip-ordered [] (q ∷ rs) z h = absurd z
  zip-ordered (w ∷ ws) [] z h = absurd z
  zip-ordered (w ∷ ws) (q ∷ rs) z h =
      pairs-cons IsBefore q rs
      (λ r c. let on = zip-from ws rs z.1 r c in along-before w on.0 q r z.0 on.2 (pairs-first ComesBefore w on.0 ws h on.1))
      (zip-ordered ws rs z.1 (pairs-rest ComesBefore w ws h))

  zip-length : (ws : List Way) (rs : List RouteEntry) → AreAlong l slow rule ws rs → length rs ≡ length ws
  zip-length [] [] z = refl
  zip-length [] (q ∷ rs) z = absurd z
  zip-length (w ∷ ws) [] z = absurd z
  zip-length (w ∷ ws) (q ∷ rs) z = ap suc (zip-length ws rs z.1)

  pub are-derived : Once l → (entries : List SignalId) (ws : List Way) (rs : List RouteEntry) → AreRouteWays l entries ws → AreAlong l slow rule ws rs → IsDerived l entries rs
  are-derived once entries ws rs h z =
      let one = one-beyond l once in
      let N : ℕ → Type 0 = λ n. n ≤ 64 in
      record {
        sound = λ r c. let on = zip-from ws rs z r c in along-asked one entries on.0 r on.2 (h.sound on.0 on.1);
        complete = λ r a. let on = zip-to ws rs z (way_of r a.given) (h.complete (way_of r a.given) (given-way entries r a)) in (on.0, on.1, along-same one r on.0 a.given on.2);
        ordered = zip-ordered ws rs z h.ordered;
        few = subst N (sym (zip-length ws rs z)) h.few;
      }

  -- ---- the loop

  zip-push : (ws : List Way) (rs : List RouteEntry) (w : Way) (r : RouteEntry) → AreAlong l slow rule ws rs → IsAlong l slow rule w r → AreAlong l slow rule (ws ++ w ∷ []) (rs ++ r ∷ [])
  zip-push [] [] w r z a = (a, tt)
  zip-push [] (q ∷ rs) w r z a = absurd z
  zip-push (v ∷ ws) [] w r z a = absurd z
  zip-push (v ∷ ws) (q ∷ rs) w r z a = (z.0, zip-push ws rs w r z.1 a)

  pub along-more : (ws : List Way) (i : ℕ) (rs : List RouteEntry) (w : Way) (r : RouteEntry) → i < length ws → w ≡ get_or ws i w → AreAlong l slow rule (take i ws) rs → IsAlong l slow rule w r → AreAlong l slow rule (take (i + 1) ws) (rs ++ r ∷ [])
  along-more ws i rs w r lt is before here =
      let Z : List Way → Type 0 = λ vs. AreAlong l slow rule vs (rs ++ r ∷ []) in
      let A : Way → Type 0 = λ v. IsAlong l slow rule v r in
      subst Z (sym (take_more ws i w lt)) (zip-push (take i ws) rs (get_or ws i w) r before (subst A is here))

  pub along-all : (ws : List Way) (i : ℕ) (rs : List RouteEntry) → length ws ≤ i → AreAlong l slow rule (take i ws) rs → AreAlong l slow rule ws rs
  along-all ws i rs few z = let Z : List Way → Type 0 = λ vs. AreAlong l slow rule vs rs in subst Z (take_all i ws few) z

  -- ---- approaches

  pub derived-approaches : (ws : List Way) (rs : List RouteEntry) → AreAlong l slow rule ws rs → All (λ r. IsApproach l rule r.entry r.approach) rs
  derived-approaches ws rs z =
      let P : RouteEntry → Type 0 = λ r. IsApproach l rule r.entry r.approach in
      λ k d lt. (let x = get_or rs k d in let on = zip-from ws rs z x (k, lt, get_or_default rs k x d lt) in on.2.approach)
