-- Each way of at most 64 elements is found, if it is passable where that is asked.
use Rattle.std.proofs.Common.{◌≡◌, ◌≤◌, ◌∙◌, ◌⊎◌, Bool, true, ℕ, zero, suc, List, [], ◌∷◌, ◌++◌, length, Option, Some, refl, sym, ap, subst, ⊎_elim, arith}
use Rattle.std.specs.List.{Contains}
use Rattle.std.proofs.lemmas.List.Elements.{Contains-append_left, Contains-append_right}
use Rattle.control_table.specs.layout.declared.ids.SignalId.{SignalId}
use Rattle.control_table.specs.layout.declared.ids.BorderId.{BorderId}
use Rattle.control_table.specs.layout.declared.port.Port.{Port}
use Rattle.control_table.specs.layout.declared.port.Element.{Element}
use Rattle.control_table.specs.layout.declared.port.Element.TheVariants as of
use Rattle.control_table.specs.layout.declared.entries.Exit.{Exit}
use Rattle.control_table.specs.layout.Entries.{Site}
use Rattle.control_table.specs.layout.Once.{Once, Distinct}
use Rattle.control_table.specs.layout.Station.{HasPort, IsStation}
use Rattle.control_table.specs.Topology.{Joined, StandsAt}
use Rattle.control_table.specs.Path.{Passage, Leads, ExitAt, EndsAt, elements}
use Rattle.route_derivation.specs.declared.search.Beyond.TheVariants as comes
use Rattle.route_derivation.specs.Ways.{Way, IsPassable, IsShort}
use Rattle.route_derivation.specs.inside.WaySearch.{Partial, start, joined_to, first_out, second_out, may_go, longer, comes_to, ways_over, ways_behind, ways_at, ways_from}
use Rattle.route_derivation.proofs.Joints.{OneBeyond, one-beyond}
use Rattle.route_derivation.proofs.Members.{contains-here, contains-there, some-injective, distinct-first, distinct-rest}
use Rattle.route_derivation.proofs.Lists.{append-one, mapped-contains}
use Rattle.route_derivation.proofs.Adding.{over_on}
use Rattle.route_derivation.proofs.Sound.{IsWayIf}
use Rattle.route_derivation.proofs.Grow.{Faithful, Fits, longer-judged, start-judged, longer-passages, start-passages, faithful-start, faithful-longer, fits-prefix, may_go-decides}
use Rattle.route_derivation.proofs.Reach.{joined-ports, exit-port, passage-tried, border-not-passed, end-is, GoesOn, on-is}

-- ---- parts of a way

leads-behind : (l : Site) (from : Port) (path : List Passage) (g : Passage) (rest : List Passage) → Leads l from (path ++ g ∷ rest) → (before : Port) × Leads l before (g ∷ rest)
leads-behind l from [] g rest h = (from, h)
leads-behind l from (k ∷ path) g rest h = leads-behind l k.left path g rest h.2

ends-behind : (l : Site) (x : Exit) (path : List Passage) (g : Passage) (rest : List Passage) → EndsAt l x (path ++ g ∷ rest) → EndsAt l x (g ∷ rest)
ends-behind l x [] g rest h = h
ends-behind l x (k ∷ []) g rest h = h
ends-behind l x (k ∷ m ∷ path) g rest h = ends-behind l x (m ∷ path) g rest h

-- the last passage leaves by the exit's port
last-exit : (l : Site) (x : Exit) (g : Passage) (rest : List Passage) → EndsAt l x (g ∷ rest) → (k : Passage) × Contains (g ∷ rest) k × ExitAt l x k.left
last-exit l x g [] h = (g, contains-here g [], h)
last-exit l x g (k ∷ rest) h = let on = last-exit l x k rest h in (on.0, contains-there g on.0 (k ∷ rest) on.1, on.2)

-- two passages of a way are over two elements
two-elements : (path : List Passage) (g : Passage) (rest : List Passage) (k : Passage) → Distinct (elements (path ++ g ∷ rest)) → Contains rest k → g.left.element ≡ k.left.element → ⊥
two-elements [] g rest k d c e =
    let f = λ (h : Passage). h.left.element in
    let D : List Element → Type 0 = λ es. Distinct es in
    distinct-first g.left.element k.left.element (elements rest) d (mapped-contains f rest k c) e
two-elements (h ∷ path) g rest k d c e = two-elements path g rest k (distinct-rest h.left.element (elements (path ++ g ∷ rest)) d) c e

module _ (judged : Bool) (l : Site) (once : Once l) (station : IsStation l) (w : Way) (passable : IsWayIf judged l w) where
  abbrev one : OneBeyond l
  one = one-beyond l once

  whole : Fits judged l w.passages
  whole = record { elements = passable.way.once.elements; sections = passable.way.once.sections; consistent = passable.consistent; guarded = passable.guarded }

  module _ (path : List Passage) (g : Passage) (rest : List Passage) (is : path ++ g ∷ rest ≡ w.passages) where
    leading : (before : Port) × Leads l before (g ∷ rest)
    leading = let L : List Passage → Type 0 = λ ps. Leads l passable.way.begins.0 ps in leads-behind l passable.way.begins.0 path g rest (subst L (sym is) passable.way.begins.2)

    ending : EndsAt l w.exit (g ∷ rest)
    ending = let E : List Passage → Type 0 = λ ps. EndsAt l w.exit ps in ends-behind l w.exit path g rest (subst E (sym is) passable.way.ends)

    on-way : Contains w.passages g
    on-way = let C : List Passage → Type 0 = λ ps. Contains ps g in subst C is (Contains-append_right path (g ∷ rest) g (contains-here g rest))

    fits-so-far : Fits judged l (path ++ g ∷ [])
    fits-so-far = let F : List Passage → Type 0 = λ ps. Fits judged l ps in fits-prefix judged l (path ++ g ∷ []) rest (subst F (sym (append-one path g rest ∙ is)) whole)

    fits-before : Fits judged l path
    fits-before = fits-prefix judged l path (g ∷ []) fits-so-far

    left-there : HasPort l g.left
    left-there = at rest refl where
      at : (r : List Passage) → rest ≡ r → HasPort l g.left
      at [] e = let E : List Passage → Type 0 = λ ps. EndsAt l w.exit (g ∷ ps) in exit-port l station w.exit g.left (subst E e ending)
      at (h ∷ r) e = let L : List Passage → Type 0 = λ ps. Leads l leading.0 (g ∷ ps) in (joined-ports l station g.left h.entered (subst L e leading.1).2.0).0

    entered-there : HasPort l g.entered
    entered-there = (joined-ports l station leading.0 g.entered leading.1.0).1

    tried : (first_out g.entered ≡ Some g) ⊎ (second_out g.entered ≡ Some g)
    tried = passage-tried l g leading.1.1 entered-there left-there

    -- no signal stands where the way goes on
    clear : (h : Passage) (r : List Passage) → rest ≡ h ∷ r → (t : SignalId) → StandsAt l t g.left → ⊥
    clear h r e t at =
        let ends : EndsAt l w.exit (h ∷ r) = let E : List Passage → Type 0 = λ ps. EndsAt l w.exit (g ∷ ps) in subst E e ending in
        let last = last-exit l w.exit h r ends in
        let X : Exit → Type 0 = λ x. ExitAt l x last.0.left in
        let there : StandsAt l t last.0.left = subst X (passable.way.between g t on-way at) last.2 in
        let same : g.left ≡ last.0.left = some-injective g.left last.0.left (sym at ∙ there) in
        let C : List Passage → Type 0 = λ ps. Contains ps last.0 in
        let D : List Passage → Type 0 = λ ps. Distinct (elements ps) in
        two-elements path g rest last.0 (subst D (sym is) passable.way.once.elements) (subst C (sym e) last.1) (ap (λ (p : Port). p.element) same)

    goes-on : (h : Passage) (r : List Passage) → rest ≡ h ∷ r → GoesOn l g.left h.entered
    goes-on h r e =
        let L : List Passage → Type 0 = λ ps. Leads l leading.0 (g ∷ ps) in
        ((subst L e leading.1).2.0, clear h r e)

    comes-to-end : rest ≡ [] → comes_to l w.entry g.left ≡ comes.Exit w.exit
    comes-to-end e =
        let E : List Passage → Type 0 = λ ps. EndsAt l w.exit (g ∷ ps) in
        end-is l one w.entry g.left w.exit (subst E e ending, passable.way.elsewhere, λ t at. passable.way.between g t on-way at)

  abbrev CompleteAt : ℕ → Type 0
  CompleteAt n = (p : Partial) → p.judged ≡ judged → Faithful l p → (g : Passage) (rest : List Passage) → p.passages ++ g ∷ rest ≡ w.passages → length (g ∷ rest) ≤ n → Contains (ways_over l w.entry n p (Some g)) w

  -- a passage that is tried leads to what is found behind it
  among : (n : ℕ) (p : Partial) (h : Passage) (entered : Port) → (first_out entered ≡ Some h) ⊎ (second_out entered ≡ Some h) → Contains (ways_over l w.entry n p (Some h)) w
      → Contains (ways_over l w.entry n p (first_out entered) ++ ways_over l w.entry n p (second_out entered)) w
  among n p h entered which c =
      let O : Option Passage → Type 0 = λ o. Contains (ways_over l w.entry n p o) w in
      ⊎_elim (λ e. Contains-append_left (ways_over l w.entry n p (first_out entered)) (ways_over l w.entry n p (second_out entered)) w (subst O (sym e) c))
      (λ e. Contains-append_right (ways_over l w.entry n p (first_out entered)) (ways_over l w.entry n p (second_out entered)) w (subst O (sym e) c)) which

  module _ (n : ℕ) (before : CompleteAt n) (p : Partial) (j : p.judged ≡ judged) (f : Faithful l p) (g : Passage) (rest : List Passage) (is : p.passages ++ g ∷ rest ≡ w.passages) (few : length (g ∷ rest) ≤ suc n) where
    go : may_go l p g ≡ true
    go =
        let F : List Passage → Bool → Type 0 = λ ps b. Fits b l ps in
        (may_go-decides l one p g f (subst (F p.passages) (sym j) (fits-before p.passages g rest is))).1 (subst (F (p.passages ++ g ∷ [])) (sym j) (fits-so-far p.passages g rest is))

    at-end : rest ≡ [] → Contains (ways_over l w.entry (suc n) p (Some g)) w
    at-end e =
        let C : List Way → Type 0 = λ ws. Contains ws w in
        let all : (longer l p g).passages ≡ w.passages = longer-passages l p g ∙ ap (λ r. p.passages ++ g ∷ r) (sym e) ∙ is in
        let D : List Passage → Type 0 = λ ps. Contains (record { entry = w.entry; exit = w.exit; passages = ps } ∷ []) w in
        subst C (sym (over_on l w.entry n p g go (comes.Exit w.exit) (comes-to-end p.passages g rest is e))) (subst D (sym all) (contains-here w []))

    at-next : (h : Passage) (r : List Passage) → rest ≡ h ∷ r → Contains (ways_over l w.entry (suc n) p (Some g)) w
    at-next h r e =
        let C : List Way → Type 0 = λ ws. Contains ws w in
        let more : (p.passages ++ g ∷ []) ++ h ∷ r ≡ w.passages = append-one p.passages g (h ∷ r) ∙ ap (λ x. p.passages ++ g ∷ x) (sym e) ∙ is in
        let same : (longer l p g).passages ++ h ∷ r ≡ w.passages = ap (λ ps. ps ++ h ∷ r) (longer-passages l p g) ∙ more in
        let fewer : length (h ∷ r) ≤ n = (let m = ap length e in omega (arith, m)) in
        let there = before (longer l p g) (longer-judged l p g ∙ j) (faithful-longer l one p g f) h r same fewer in
        let no_border : (b : BorderId) → h.entered.element ≡ of.Border b → ⊥ = λ b x.
        border-not-passed l h b (leading (p.passages ++ g ∷ []) h r more).1.1 (entered-there (p.passages ++ g ∷ []) h r more) (left-there (p.passages ++ g ∷ []) h r more) x in
        subst C (sym (over_on l w.entry n p g go (comes.On h.entered) (on-is l one w.entry g.left h.entered (goes-on p.passages g rest is h r e) no_border)))
        (among n (longer l p g) h h.entered (tried (p.passages ++ g ∷ []) h r more) there)

    by-rest : (r : List Passage) → rest ≡ r → Contains (ways_over l w.entry (suc n) p (Some g)) w
    by-rest [] e = at-end e
    by-rest (h ∷ r) e = at-next h r e

  complete : (n : ℕ) → CompleteAt n
  complete zero p j f g rest is few = absurd (omega (arith, few))
  complete (suc n) p j f g rest is few = by-rest n (complete n) p j f g rest is few rest refl

  found-from : IsShort w → (ps : List Passage) → w.passages ≡ ps → Contains (ways_behind judged l w.entry (joined_to l.joints passable.way.begins.0)) w
  found-from short [] e = absurd (passable.way.some e)
  found-from short (g ∷ rest) e =
      let from = passable.way.begins.0 in
      let L : List Passage → Type 0 = λ ps. Leads l from ps in
      let joined : Joined l from g.entered = (subst L e passable.way.begins.2).0 in
      let N : List Passage → Type 0 = λ ps. length ps ≤ 64 in
      let B : Option Port → Type 0 = λ o. Contains (ways_behind judged l w.entry o) w in
      let is : (start judged).passages ++ g ∷ rest ≡ w.passages = ap (λ ps. ps ++ g ∷ rest) (start-passages judged) ∙ sym e in
      subst B (sym (one from g.entered joined)) (among 64 (start judged) g g.entered (tried (start judged).passages g rest is) (complete 64 (start judged) (start-judged judged) (faithful-start judged l) g rest is (subst N e short)))

pub way-found : (judged : Bool) (l : Site) → Once l → IsStation l → (w : Way) → IsWayIf judged l w → IsShort w → Contains (ways_from judged l w.entry) w
unfolding ways_from
way-found judged l once station w passable short =
    let A : Option Port → Type 0 = λ o. Contains (ways_at judged l w.entry o) w in
    subst A (sym passable.way.begins.1) (found-from judged l once station w passable short w.passages refl)

pub passable-found : (l : Site) → Once l → IsStation l → (w : Way) → IsPassable l w → IsShort w → Contains (ways_from true l w.entry) w
passable-found l once station w passable short =
    way-found true l once station w (record { way = passable.way; consistent = λ asked. passable.consistent; guarded = λ asked. passable.guarded }) short
