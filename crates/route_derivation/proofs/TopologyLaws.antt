-- What is said of a route depends on the topology alone.
use Rattle.std.proofs.Common.{◌≡◌, ◌∙◌, List, [], ◌∷◌, Option, Some, refl, sym, ap, subst, inl, inr, ⊎_elim, arith}
use Rattle.std.specs.Prelude.{slice_get}
use Rattle.std.specs.Option.{option_map}
use Rattle.std.specs.List.{Contains, cons_option, dedup, filter_map}
use Rattle.std.proofs.lemmas.List.Elements.{All-contains}
use Rattle.control_table.specs.sci_telegram.declared.message.Side.{Side}
use Rattle.control_table.specs.sci_telegram.declared.message.Side.TheVariants as side
use Rattle.control_table.specs.layout.declared.ids.PointId.{PointId}
use Rattle.control_table.specs.layout.declared.ids.RouteId.{RouteId}
use Rattle.control_table.specs.layout.declared.ids.SectionId.{SectionId}
use Rattle.control_table.specs.layout.declared.ids.SignalId.{SignalId}
use Rattle.control_table.specs.layout.declared.port.Port.{Port}
use Rattle.control_table.specs.layout.declared.port.Element.{Element}
use Rattle.control_table.specs.layout.declared.port.Element.TheVariants as of
use Rattle.control_table.specs.layout.declared.entries.Exit.{Exit}
use Rattle.control_table.specs.layout.declared.entries.Exit.TheVariants as exit
use Rattle.control_table.specs.layout.declared.entries.Joint.{Joint}
use Rattle.control_table.specs.layout.declared.entries.Point.{Point}
use Rattle.control_table.specs.layout.declared.entries.Signal.{Signal}
use Rattle.control_table.specs.layout.declared.entries.Track.{Track}
use Rattle.control_table.specs.layout.Entries.{RouteEntry, Site}
use Rattle.control_table.specs.layout.Once.{Distinct}
use Rattle.control_table.specs.layout.Station.{HasSignal, IsRouteOf, IsStation}
use Rattle.control_table.specs.Topology.{IsRoute, Joined, Joins, StandsAt, port_of, section_of}
use Rattle.control_table.specs.Path.{Passage, Leads, elements, same_section, sections, EndsAt, ExitAt, Path}
use Rattle.control_table.specs.Sides.{leg, other, Requires, IsGuarded, WritesRequired}
use Rattle.control_table.specs.Table.{Sound, SoundRoute, ExtrasListed}
use Rattle.route_derivation.specs.Derived.{IsGiven, IsAsked, IsBefore, IsDerived, SameRoute, SameTopology, SameWay}
use Rattle.route_derivation.proofs.Members.{contains-none, get-contains}
use Rattle.route_derivation.proofs.RouteWays.{parts-differ}

pub other-way : (l m : Site) → SameTopology l m → SameTopology m l
other-way l m t = record { tracks = sym t.tracks; points = sym t.points; joints = sym t.joints; signals = sym t.signals }

same-given : {A B : Type 0} (f g : A → Option B) → ((x : A) → f x ≡ g x) → (xs : List A) → filter_map f xs ≡ filter_map g xs
same-given f g each [] = refl
same-given f g each (x ∷ xs) = ap (λ o. cons_option o (filter_map f xs)) (each x) ∙ ap (cons_option (g x)) (same-given f g each xs)

module _ (l m : Site) (t : SameTopology l m) where
  joined-same : (p q : Port) → Joined l p q → Joined m p q
  joined-same p q h = let J : List Joint → Type 0 = λ js. (joint : Joint) × Contains js joint × Joins joint p q in subst J t.joints h

  joined-back : (p q : Port) → Joined m p q → Joined l p q
  joined-back p q h = let J : List Joint → Type 0 = λ js. (joint : Joint) × Contains js joint × Joins joint p q in subst J (sym t.joints) h

  stands-same : (s : SignalId) (p : Port) → StandsAt l s p → StandsAt m s p
  stands-same s p h = let S : List Signal → Type 0 = λ ss. port_of ss s ≡ Some p in subst S t.signals h

  stands-back : (s : SignalId) (p : Port) → StandsAt m s p → StandsAt l s p
  stands-back s p h = let S : List Signal → Type 0 = λ ss. port_of ss s ≡ Some p in subst S (sym t.signals) h

  section-same : (e : Element) → section_of l e ≡ section_of m e
  section-same (of.Track k) = ap (λ (ts : List Track). option_map (λ (track : Track). track.section) (slice_get ts k.0)) t.tracks
  section-same (of.Point p) = ap (λ (ps : List Point). option_map (λ (point : Point). point.section) (slice_get ps p.0)) t.points
  section-same (of.Border b) = refl

  sections-same : (path : List Passage) → sections l path ≡ sections m path
  sections-same path = ap (λ ss. dedup same_section ss) (same-given (section_of l) (section_of m) section-same (elements path))

  leads-same : (from : Port) (path : List Passage) → Leads l from path → Leads m from path
  leads-same from [] h = tt
  leads-same from (g ∷ path) h = (joined-same from g.entered h.0, h.1, leads-same g.left path h.2)

  exit-same : (x : Exit) (p : Port) → ExitAt l x p → ExitAt m x p
  exit-same (exit.Signal s) p h = stands-same s p h
  exit-same (exit.Border b) p h = (h.0, joined-same p h.0 h.1, h.2)

  ends-same : (x : Exit) (path : List Passage) → EndsAt l x path → EndsAt m x path
  ends-same x [] h = absurd h
  ends-same x (g ∷ []) h = exit-same x g.left h
  ends-same x (g ∷ k ∷ path) h = ends-same x (k ∷ path) h

  path-same : (r : RouteEntry) (path : List Passage) → Path l r path → Path m r path
  path-same r path h =
      let b = h.follows.begins in
      let D : List SectionId → Type 0 = λ ss. Distinct ss in
      record {
        follows = record { ports = h.follows.ports; some = h.follows.some; begins = (b.0, stands-same r.entry b.0 b.1, leads-same b.0 path b.2) };
        once = record { elements = h.once.elements; sections = subst D (sections-same path) h.once.sections };
        signals = record {
          ends = ends-same r.exit path h.signals.ends;
          elsewhere = h.signals.elsewhere;
          between = λ g s c at. h.signals.between g s c (stands-back s g.left at);
        };
      }

  requires-same : (path : List Passage) (q : PointId) (s : Side) → Requires l path q s → Requires m path q s
  requires-same path q s h = (h.0, h.1, ⊎_elim (λ own. inl own) (λ f. inr (f.0, f.1, f.2, (f.3.0, joined-same (leg f.0 (other f.1)) (leg q (other s)) f.3.1))) h.2)

  requires-back : (path : List Passage) (q : PointId) (s : Side) → Requires m path q s → Requires l path q s
  requires-back path q s h = (h.0, h.1, ⊎_elim (λ own. inl own) (λ f. inr (f.0, f.1, f.2, (f.3.0, joined-back (leg f.0 (other f.1)) (leg q (other s)) f.3.1))) h.2)

  guarded-same : (p : PointId) (s : Side) → IsGuarded l p s → IsGuarded m p s
  guarded-same p s h from j = ⊎_elim (λ a. inl a) (λ a. inr (a.0, stands-same a.0 from a.1)) (h from (joined-back (leg p (other s)) from j))

  writes-same : (r : RouteEntry) (path : List Passage) → WritesRequired l r path → WritesRequired m r path
  writes-same r path h = record {
    points = λ p s. (λ c. let a = (h.points p s).0 c in (requires-same path p s a.0, a.1), λ a. (h.points p s).1 (requires-back path p s a.0, a.1));
    flank = λ p s. (λ c. let a = (h.flank p s).0 c in (requires-same path p s a.0, a.1), λ a. (h.flank p s).1 (requires-back path p s a.0, a.1));
  }

  pub given-same : (r : RouteEntry) → IsGiven l r → IsGiven m r
  given-same r h = record {
    path = h.path;
    is_path = path-same r h.path h.is_path;
    writes = writes-same r h.path h.writes;
    consistent = λ p a b. h.consistent p (requires-back h.path p side.Left a) (requires-back h.path p side.Right b);
    guarded = λ g p s c u. guarded-same p s (h.guarded g p s c u);
    alone = h.alone;
  }

-- ---- the derived table is sound

no-extras : (m : Site) (a : RouteId) (r : RouteEntry) → r.extra ≡ [] → ExtrasListed m a r
no-extras m a r none b c = let C : List RouteId → Type 0 = λ bs. Contains bs b in absurd (contains-none b (subst C none c))

given-sound : (m : Site) (a : RouteId) (r : RouteEntry) → IsGiven m r → SoundRoute m a r
given-sound m a r h = record { path = h.path; is_path = h.is_path; writes = h.writes; consistent = h.consistent; guarded = h.guarded; listed = no-extras m a r h.alone }

pub derived-sound : (l m : Site) (entries : List SignalId) → SameTopology l m → IsDerived l entries m.routes → Sound m
derived-sound l m entries t d a r is = given-sound m a r (given-same l m t r (d.sound r (get-contains m.routes a.0 r is)).given)

-- ---- a sound route is derived

-- a route without its extra conflicts
abbrev bare : RouteEntry → RouteEntry
bare r = record r { extra = [] }

sound-given : (m : Site) (a : RouteId) (r : RouteEntry) → SoundRoute m a r → IsGiven m (bare r)
sound-given m a r h =
    let p = h.is_path in
    record {
      path = h.path;
      is_path = record {
        follows = record { ports = p.follows.ports; some = p.follows.some; begins = p.follows.begins };
        once = p.once;
        signals = record { ends = p.signals.ends; elsewhere = p.signals.elsewhere; between = p.signals.between };
      };
      writes = record { points = h.writes.points; flank = h.writes.flank };
      consistent = h.consistent;
      guarded = h.guarded;
      alone = refl;
    }

pub sound-derived : (l m : Site) (entries : List SignalId) (rs : List RouteEntry) → SameTopology l m → IsStation m → Sound m → ((s : SignalId) → HasSignal m s → Contains entries s) → IsDerived l entries rs
    → (a : RouteId) (r : RouteEntry) → IsRoute m a r → (q : RouteEntry) × Contains rs q × SameRoute r q
sound-derived l m entries rs t station sound all d a r is =
    let h = sound-given m a r (sound a r is) in
    let of_table = All-contains (IsRouteOf m) m.routes r station.routes (get-contains m.routes a.0 r is) in
    let asked : IsAsked l entries (bare r) = record { given = given-same m l (other-way l m t) (bare r) h; entry = all r.entry of_table.entry; short = of_table.elements } in
    let q = d.complete (bare r) asked in
    (q.0, q.1, record { entry = q.2.entry; exit = q.2.exit; path = q.2.path; points = q.2.points; flank = q.2.flank })

pub different-ways : (r q : RouteEntry) → IsBefore r q → SameWay r q → ⊥
different-ways r q (inl lt) same = let e = ap (λ (s : SignalId). s.0) same.0 in absurd (omega (arith, lt, e))
different-ways r q (inr h) same = parts-differ r.path q.path h.1 same.1
