-- A way may go on by a passage just where it then is one of which nothing comes twice, and which is passable so far.
use Rattle.std.proofs.Common.{◌≡◌, ◌∙◌, ◌⊎◌, Bool, true, false, not, ◌&&◌, ◌||◌, List, [], ◌∷◌, ◌++◌, Option, Some, None, refl, sym, ap, subst, inl, inr, ⊎_elim}
use Rattle.std.specs.Bool.{Decides}
use Rattle.std.specs.List.{Contains}
use Rattle.std.proofs.lemmas.List.Elements.{Contains-append_left}
use Rattle.std.proofs.lemmas.Bool.{false≢true}
use Rattle.std.proofs.lemmas.Bool.Decides.{Decides-and, Decides-not, Decides-like, Decides-at}
use Rattle.control_table.specs.sci_telegram.declared.message.Side.{Side}
use Rattle.control_table.specs.sci_telegram.declared.message.Side.TheVariants as side
use Rattle.control_table.specs.layout.declared.ids.PointId.{PointId}
use Rattle.control_table.specs.layout.declared.ids.SectionId.{SectionId}
use Rattle.control_table.specs.layout.declared.port.Element.{Element}
use Rattle.control_table.specs.layout.Entries.{Site}
use Rattle.control_table.specs.layout.Once.{Distinct}
use Rattle.control_table.specs.Topology.{section_of}
use Rattle.control_table.specs.Path.{Passage, elements, sections}
use Rattle.control_table.specs.Sides.{other, Uses, Guards, Requires, IsGuarded, FlanksGuarded, NoneAtBothSides}
use Rattle.route_derivation.specs.inside.WaySearch.{Partial, start, used, flank_at, is_element, is_open_at, same_need, has_need, opposed, holds_element, section_may_come, with_section, with_need, may_go, longer}
use Rattle.route_derivation.proofs.Joints.{OneBeyond}
use Rattle.route_derivation.proofs.Members.{contains-none, any-decides, has-decides, none-some, some-injective}
use Rattle.route_derivation.proofs.Same.{element-decides, need-decides, other-other, other-differs}
use Rattle.route_derivation.proofs.SideLaws.{some_and-decides, used-uses, uses-used, one-use, flank-from, flank-to, passage_guarded-decides}
use Rattle.route_derivation.proofs.Lists.{contains-last, contains-grown, contains-mapped, mapped-contains, pairs-nil, pairs-prefix, distinct-grown, distinct-behind}
use Rattle.route_derivation.proofs.Sections.{elements-grown, sections-grown, sections-prefix, may_come-decides}
use Rattle.std.proofs.lemmas.List.{map-append}

-- ---- what a way that grows requires

need : PointId → Side → PointId × Side
need q t = (q, t)

pub requires-before : (l : Site) (path rest : List Passage) (q : PointId) (t : Side) → Requires l path q t → Requires l (path ++ rest) q t
requires-before l path rest q t h = (h.0, Contains-append_left path rest h.0 h.1, h.2)

requires-own : (l : Site) (path : List Passage) (g : Passage) (n : PointId × Side) → used g ≡ Some n → Requires l (path ++ g ∷ []) n.0 n.1
requires-own l path g n e = (g, contains-last path g, inl (used-uses g n e))

pub flank-used : (l : Site) (g : Passage) (n : PointId × Side) (o : Option (PointId × Side)) → used g ≡ o → flank_at l o ≡ Some n → (p : PointId) × (s : Side) × Uses g p s × Guards l n.0 n.1 p s
flank-used l g n None u e = absurd (none-some n e)
flank-used l g n (Some m) u e = (m.0, m.1, used-uses g m u, flank-from l m.0 m.1 n e)

requires-flank : (l : Site) (path : List Passage) (g : Passage) (n : PointId × Side) → flank_at l (used g) ≡ Some n → Requires l (path ++ g ∷ []) n.0 n.1
requires-flank l path g n e = (g, contains-last path g, inr (flank-used l g n (used g) refl e))

abbrev Grown : Site → List Passage → Passage → PointId × Side → Type 0
Grown l path g n = Requires l path n.0 n.1 ⊎ ((used g ≡ Some n) ⊎ (flank_at l (used g) ≡ Some n))

requires-cases : (l : Site) (one : OneBeyond l) (path : List Passage) (g : Passage) (n : PointId × Side) → Requires l (path ++ g ∷ []) n.0 n.1 → Grown l path g n
requires-cases l one path g n h =
    let W : Passage → Type 0 = λ k. Uses k n.0 n.1 ⊎ ((p : PointId) × (s : Side) × Uses k p s × Guards l n.0 n.1 p s) in
    let own : W g → (used g ≡ Some n) ⊎ (flank_at l (used g) ≡ Some n) = λ w.
    ⊎_elim (λ u. inl (uses-used g n.0 n.1 u)) (λ f. inr (ap (flank_at l) (uses-used g f.0 f.1 f.2) ∙ flank-to l one f.0 f.1 n.0 n.1 f.3)) w in
    ⊎_elim (λ old. inl (h.0, old, h.2)) (λ same. inr (own (subst W (sym same) h.2))) (contains-grown path g h.0 h.1)

with_need-cases : (ns : List (PointId × Side)) (o : Option (PointId × Side)) (n : PointId × Side) → Contains (with_need ns o) n → Contains ns n ⊎ (o ≡ Some n)
with_need-cases ns None n c = inl c
with_need-cases ns (Some m) n c = ⊎_elim (λ old. inl old) (λ e. inr (ap Some e)) (contains-grown ns m n c)

with_need-old : (ns : List (PointId × Side)) (o : Option (PointId × Side)) (n : PointId × Side) → Contains ns n → Contains (with_need ns o) n
with_need-old ns None n c = c
with_need-old ns (Some m) n c = Contains-append_left ns (m ∷ []) n c

with_need-new : (ns : List (PointId × Side)) (o : Option (PointId × Side)) (n : PointId × Side) → o ≡ Some n → Contains (with_need ns o) n
with_need-new ns o n e =
    let C : Option (PointId × Side) → Type 0 = λ w. Contains (with_need ns w) n in
    subst C (sym e) (contains-last ns n)

-- ---- what is carried along is what the passages say

pub record Faithful (l : Site) (p : Partial) : Type 0 where
  pub sections_are : p.sections ≡ sections l p.passages
  pub needed : (n : PointId × Side) → Contains p.needs n → Requires l p.passages n.0 n.1
  pub needs : (n : PointId × Side) → Requires l p.passages n.0 n.1 → Contains p.needs n

pub longer-judged : (l : Site) (p : Partial) (g : Passage) → (longer l p g).judged ≡ p.judged
unfolding longer
longer-judged l p g = refl

pub start-judged : (judged : Bool) → (start judged).judged ≡ judged
unfolding start
start-judged judged = refl

pub longer-passages : (l : Site) (p : Partial) (g : Passage) → (longer l p g).passages ≡ p.passages ++ g ∷ []
unfolding longer
longer-passages l p g = refl

pub start-passages : (judged : Bool) → (start judged).passages ≡ []
unfolding start
start-passages judged = refl

pub faithful-start : (judged : Bool) (l : Site) → Faithful l (start judged)
unfolding start
faithful-start judged l = record {
  sections_are = refl;
  needed = λ n c. absurd (contains-none n c);
  needs = λ n h. absurd (contains-none h.0 h.1);
}

pub faithful-longer : (l : Site) (one : OneBeyond l) (p : Partial) (g : Passage) → Faithful l p → Faithful l (longer l p g)
unfolding longer
faithful-longer l one p g f = record {
  sections_are = ap (λ ss. with_section ss (section_of l g.left.element)) f.sections_are ∙ sym (sections-grown l p.passages g);
  needed = λ n c. ⊎_elim (λ more. ⊎_elim (λ old. requires-before l p.passages (g ∷ []) n.0 n.1 (f.needed n old)) (λ own. requires-own l p.passages g n own) (with_need-cases p.needs (used g) n more))
      (λ flank. requires-flank l p.passages g n flank) (with_need-cases (with_need p.needs (used g)) (flank_at l (used g)) n c);
  needs = λ n h. ⊎_elim (λ old. with_need-old (with_need p.needs (used g)) (flank_at l (used g)) n (with_need-old p.needs (used g) n (f.needs n old)))
      (λ new. ⊎_elim (λ own. with_need-old (with_need p.needs (used g)) (flank_at l (used g)) n (with_need-new p.needs (used g) n own)) (λ flank. with_need-new (with_need p.needs (used g)) (flank_at l (used g)) n flank) new)
      (requires-cases l one p.passages g n h);
}

-- ---- nothing comes twice, and what has been passed is passable, where that is asked

pub record Fits (judged : Bool) (l : Site) (path : List Passage) : Type 0 where
  pub elements : Distinct (elements path)
  pub sections : Distinct (sections l path)
  pub consistent : judged ≡ true → NoneAtBothSides l path
  pub guarded : judged ≡ true → FlanksGuarded l path

pub fits-prefix : (judged : Bool) (l : Site) (path rest : List Passage) → Fits judged l (path ++ rest) → Fits judged l path
fits-prefix judged l path rest f =
    let D : List Element → Type 0 = λ es. Distinct es in record {
      elements = pairs-prefix (λ (a : Element) (b : Element). a ≡ b → ⊥) (elements path) (elements rest) (subst D (map-append (λ (h : Passage). h.left.element) path rest) f.elements);
      sections = sections-prefix l path rest f.sections;
      consistent = λ j q a b. f.consistent j q (requires-before l path rest q side.Left a) (requires-before l path rest q side.Right b);
      guarded = λ j g p s c u. f.guarded j g p s (Contains-append_left path rest g c) u;
    }

pub fits-start : (judged : Bool) (l : Site) → Fits judged l []
fits-start judged l = record {
  elements = pairs-nil (λ (a : Element) (b : Element). a ≡ b → ⊥);
  sections = pairs-nil (λ (a : SectionId) (b : SectionId). a ≡ b → ⊥);
  consistent = λ j q a b. contains-none a.0 a.1;
  guarded = λ j g p s c u. absurd (contains-none g c);
}

-- ---- the tests

new-element-decides : (path : List Passage) (g : Passage) → Distinct (elements path) → Decides (not (holds_element path g.left.element)) (Distinct (elements (path ++ g ∷ [])))
new-element-decides path g d =
    let e = g.left.element in
    let P : Passage → Type 0 = λ h. h.left.element ≡ e in
    let D : List Element → Type 0 = λ es. Distinct es in
    let at : (h : Passage) × Contains path h × P h → Contains (elements path) e = λ h. let C : Element → Type 0 = λ x. Contains (elements path) x in subst C h.2 (mapped-contains (λ (k : Passage). k.left.element) path h.0 h.1) in
    let back : Contains (elements path) e → (h : Passage) × Contains path h × P h = λ c. contains-mapped (λ (k : Passage). k.left.element) path e c in
    let holds : Decides (holds_element path e) (Contains (elements path) e) = Decides-like (holds_element path e) at back (any-decides (λ h. is_element h.left.element e) P (λ h. element-decides h.left.element e) path) in
    Decides-like (not (holds_element path e)) (λ absent. subst D (sym (elements-grown path g)) (distinct-grown (elements path) e d absent))
    (λ more c. distinct-behind (elements path) e [] (subst D (elements-grown path g) more) c) (Decides-not (holds_element path e) holds)

new-section-decides : (l : Site) (ss : List SectionId) (path : List Passage) (g : Passage) → ss ≡ sections l path → Distinct (sections l path) → Decides (section_may_come ss (section_of l g.left.element)) (Distinct (sections l (path ++ g ∷ [])))
new-section-decides l ss path g e d =
    let o = section_of l g.left.element in
    let S : List SectionId → Type 0 = λ xs. Distinct xs in
    let test : Decides (section_may_come (sections l path) o) (Distinct (with_section (sections l path) o)) = may_come-decides (sections l path) o d in
    Decides-like (section_may_come ss o) (λ h. subst S (sym (sections-grown l path g)) h) (λ h. subst S (sections-grown l path g) h)
    (Decides-at (section_may_come ss o) (section_may_come (sections l path) o) (ap (λ xs. section_may_come xs o) e) test)

abbrev Unopposed : List (PointId × Side) → Option (PointId × Side) → Type 0
Unopposed ns o = (n : PointId × Side) → o ≡ Some n → Contains ns (need n.0 (other n.1)) → ⊥

unopposed-decides : (ns : List (PointId × Side)) (o : Option (PointId × Side)) → Decides (not (opposed ns o)) ((n : PointId × Side) → o ≡ Some n → Contains ns (n.0, other n.1) → ⊥)
unopposed-decides ns o =
    let P : PointId × Side → Type 0 = λ n. Contains ns (n.0, other n.1) in
    Decides-like (not (opposed ns o)) (λ h n e c. h (n, e, c)) (λ h x. h x.0 x.1 x.2)
    (Decides-not (opposed ns o) (some_and-decides (λ n. has_need ns (n.0, other n.1)) P (λ n. has-decides same_need need-decides ns (n.0, other n.1)) o))

pub at_both : (l : Site) (path : List Passage) → NoneAtBothSides l path → (p : PointId) (s : Side) → Requires l path p s → Requires l path p (other s) → ⊥
at_both l path h p side.Left a b = h p a b
at_both l path h p side.Right a b = h p b a

-- a test that is made only where it is asked
if-decides : {P : Type 0} (asked b : Bool) → Decides b P → Decides (not asked || b) (asked ≡ true → P)
if-decides true b d = (λ e j. d.0 e, λ h. d.1 (h refl))
if-decides false b d = (λ e j. absurd (false≢true j), λ h. refl)

module _ (l : Site) (one : OneBeyond l) (p : Partial) (g : Passage) (f : Faithful l p) (fits : Fits p.judged l p.passages) where
  abbrev Free : Option (PointId × Side) → Type 0
  Free o = (n : PointId × Side) → o ≡ Some n → Contains p.needs (n.0, other n.1) → ⊥

  -- the point that guards isn't the one that is passed
  apart : (q : PointId) (s t : Side) → used g ≡ Some (q, s) → flank_at l (used g) ≡ Some (q, t) → ⊥
  apart q s t own flank =
      let a = flank-used l g (q, t) (used g) refl flank in
      let same : ◌≡◌ {A = PointId × Side} (a.0, a.1) (q, s) = one-use g a.0 q a.1 s a.2 (used-uses g (q, s) own) in
      a.3.0 (sym (ap (λ (x : PointId × Side). x.0) same))

  old-new : (q : PointId) (s : Side) (o : Option (PointId × Side)) → Free o → Requires l p.passages q s → o ≡ Some (q, other s) → ⊥
  old-new q s o free old new =
      let C : Side → Type 0 = λ t. Contains p.needs (q, t) in
      free (q, other s) new (subst C (sym (other-other s)) (f.needs (q, s) old))

  new-old : (q : PointId) (s : Side) (o : Option (PointId × Side)) → Free o → o ≡ Some (q, s) → Requires l p.passages q (other s) → ⊥
  new-old q s o free new old = free (q, s) new (f.needs (q, other s) old)

  new-new : (q : PointId) (s : Side) (o : Option (PointId × Side)) → o ≡ Some (q, s) → o ≡ Some (q, other s) → ⊥
  new-new q s o a b = other-differs s (sym (ap (λ (x : PointId × Side). x.1) (some-injective (q, s) (q, other s) (sym a ∙ b))))

  clash : NoneAtBothSides l p.passages → Free (used g) → Free (flank_at l (used g)) → (q : PointId) (s : Side) → Grown l p.passages g (q, s) → Grown l p.passages g (q, other s) → ⊥
  clash before own flank q s (inl a) (inl b) = at_both l p.passages before q s a b
  clash before own flank q s (inl a) (inr (inl b)) = old-new q s (used g) own a b
  clash before own flank q s (inl a) (inr (inr b)) = old-new q s (flank_at l (used g)) flank a b
  clash before own flank q s (inr (inl a)) (inl b) = new-old q s (used g) own a b
  clash before own flank q s (inr (inr a)) (inl b) = new-old q s (flank_at l (used g)) flank a b
  clash before own flank q s (inr (inl a)) (inr (inl b)) = new-new q s (used g) a b
  clash before own flank q s (inr (inr a)) (inr (inr b)) = new-new q s (flank_at l (used g)) a b
  clash before own flank q s (inr (inl a)) (inr (inr b)) = apart q s (other s) a b
  clash before own flank q s (inr (inr a)) (inr (inl b)) = apart q (other s) s b a

  abbrev path : List Passage
  path = p.passages ++ g ∷ []

  abbrev Sides : Type 0
  Sides = (((q : PointId) (s : Side) → Uses g q s → IsGuarded l q s) × Free (used g)) × Free (flank_at l (used g))

  abbrev Tests : Type 0
  Tests = (Distinct (elements path) × Distinct (sections l path)) × (p.judged ≡ true → Sides)

  tests-fit : Tests → Fits p.judged l path
  tests-fit h = record {
    elements = h.0.0;
    sections = h.0.1;
    consistent = λ j q a b. clash (fits.consistent j) (h.1 j).0.1 (h.1 j).1 q side.Left (requires-cases l one p.passages g (q, side.Left) a) (requires-cases l one p.passages g (q, side.Right) b);
    guarded = λ j k q s c u. ⊎_elim (λ old. fits.guarded j k q s old u) (λ same. let U : Passage → Type 0 = λ x. Uses x q s in (h.1 j).0.0 q s (subst U (sym same) u)) (contains-grown p.passages g k c);
  }

  fits-free : NoneAtBothSides l path → (o : Option (PointId × Side)) → ((n : PointId × Side) → o ≡ Some n → Requires l path n.0 n.1) → Free o
  fits-free h o new n e c = at_both l path h n.0 n.1 (new n e) (requires-before l p.passages (g ∷ []) n.0 (other n.1) (f.needed (n.0, other n.1) c))

  fits-test : Fits p.judged l path → Tests
  fits-test h = (
    (h.elements, h.sections),
    λ j. (
      (λ q s u. h.guarded j g q s (contains-last p.passages g) u, fits-free (h.consistent j) (used g) (λ n e. requires-own l p.passages g n e)),
      fits-free (h.consistent j) (flank_at l (used g)) (λ n e. requires-flank l p.passages g n e),
    ),
  )

  pub may_go-decides : Decides (may_go l p g) (Fits p.judged l path)
  unfolding may_go
  may_go-decides =
      let a = not (holds_element p.passages g.left.element) in
      let b = section_may_come p.sections (section_of l g.left.element) in
      let c = not (is_open_at l (used g)) in
      let d = not (opposed p.needs (used g)) in
      let e = not (opposed p.needs (flank_at l (used g))) in
      let ab = Decides-and a b (new-element-decides p.passages g fits.elements) (new-section-decides l p.sections p.passages g f.sections_are fits.sections) in
      let cd = Decides-and c d (passage_guarded-decides l one g) (unopposed-decides p.needs (used g)) in
      let cde = Decides-and (c && d) e cd (unopposed-decides p.needs (flank_at l (used g))) in
      let sides = if-decides p.judged (c && d && e) cde in
      Decides-like (a && b && (not p.judged || (c && d && e))) tests-fit fits-test (Decides-and (a && b) (not p.judged || (c && d && e)) ab sides)
