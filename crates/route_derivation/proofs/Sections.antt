-- The sections of a way that grows.
use Rattle.std.proofs.Common.{◌≡◌, ◌∙◌, Bool, true, false, not, ◌||◌, suc, ◌-◌, List, [], ◌∷◌, ◌++◌, length, Option, Some, None, cond, refl, sym, ap, subst, arith}
use Rattle.std.specs.Prelude.{slice_get, if◌then◌else◌}
use Rattle.std.specs.Bool.{Decides}
use Rattle.std.specs.List.{dedup, filter_map}
use Rattle.std.proofs.lemmas.List.{map-append}
use Rattle.std.proofs.lemmas.List.Elements.{filter_map-append}
use Rattle.std.proofs.lemmas.Bool.Decides.{Decides-not, Decides-like}
use Rattle.control_table.specs.layout.declared.ids.SectionId.{SectionId}
use Rattle.control_table.specs.layout.declared.port.Element.{Element}
use Rattle.control_table.specs.layout.Entries.{Site}
use Rattle.control_table.specs.layout.Once.{Distinct}
use Rattle.control_table.specs.Topology.{section_of}
use Rattle.control_table.specs.Path.{Passage, elements, same_section, sections}
use Rattle.route_derivation.specs.inside.WaySearch.{some_and, is_last, holds_section, section_may_come, with_section}
use Rattle.route_derivation.proofs.Members.{has-decides}
use Rattle.route_derivation.proofs.Same.{section-decides}
use Rattle.route_derivation.proofs.Lists.{append-nil, append-one, pairs-prefix, distinct-grown, distinct-behind}

-- ---- neighbours counted once, in a list that grows

dedup-some : (k : SectionId) (xs : List SectionId) → (m : SectionId) × (rest : List SectionId) × (dedup same_section (k ∷ xs) ≡ m ∷ rest)
dedup-some k [] = (k, [], refl)
dedup-some k (x ∷ xs) =
    elim (same_section x k) as (λ b. (m : SectionId) × (rest : List SectionId) × (cond b (dedup same_section (k ∷ xs)) (k ∷ dedup same_section (x ∷ xs)) ≡ m ∷ rest))
    [ true ↦ dedup-some k xs | false ↦ (k, dedup same_section (x ∷ xs), refl) ]

last-later : (k m : SectionId) (rest : List SectionId) (s : SectionId) → is_last (k ∷ m ∷ rest) s ≡ is_last (m ∷ rest) s
last-later k m rest s =
    let e : length (k ∷ m ∷ rest) - 1 ≡ suc (length (m ∷ rest) - 1) = omega arith in
    ap (λ i. some_and (λ t. same_section s t) (slice_get (k ∷ m ∷ rest) i)) e

front-if : (b : Bool) (k s : SectionId) (zs : List SectionId) → k ∷ (if b then zs else zs ++ s ∷ []) ≡ (if b then k ∷ zs else (k ∷ zs) ++ s ∷ [])
front-if true k s zs = refl
front-if false k s zs = refl

with-front : (k s m : SectionId) (rest zs : List SectionId) → zs ≡ m ∷ rest → k ∷ with_section zs (Some s) ≡ with_section (k ∷ zs) (Some s)
with-front k s m rest zs e =
    let same : is_last (k ∷ zs) s ≡ is_last zs s = ap (λ ys. is_last (k ∷ ys) s) e ∙ last-later k m rest s ∙ sym (ap (λ ys. is_last ys s) e) in
    front-if (is_last zs s) k s zs ∙ ap (λ b. if b then k ∷ zs else (k ∷ zs) ++ s ∷ []) (sym same)

dedup-grown : (k : SectionId) (xs : List SectionId) (s : SectionId) → dedup same_section (k ∷ (xs ++ s ∷ [])) ≡ with_section (dedup same_section (k ∷ xs)) (Some s)
dedup-grown k [] s = refl
dedup-grown k (x ∷ xs) s =
    let some = dedup-some x xs in
    elim (same_section x k) as
    (λ b. cond b (dedup same_section (k ∷ (xs ++ s ∷ []))) (k ∷ dedup same_section (x ∷ (xs ++ s ∷ []))) ≡ with_section (cond b (dedup same_section (k ∷ xs)) (k ∷ dedup same_section (x ∷ xs))) (Some s))
    [ true ↦ dedup-grown k xs s | false ↦ ap (λ zs. k ∷ zs) (dedup-grown x xs s) ∙ with-front k s some.0 some.1 (dedup same_section (x ∷ xs)) some.2 ]

dedup-all : (xs : List SectionId) (s : SectionId) → dedup same_section (xs ++ s ∷ []) ≡ with_section (dedup same_section xs) (Some s)
dedup-all [] s = refl
dedup-all (k ∷ xs) s = dedup-grown k xs s

one-more : (f : Element → Option SectionId) (xs : List SectionId) (e : Element) (o : Option SectionId) → f e ≡ o → dedup same_section (xs ++ filter_map f (e ∷ [])) ≡ with_section (dedup same_section xs) o
one-more f xs e None h =
    ap (λ o. dedup same_section (xs ++ filter_map (λ (d : Element). o) (e ∷ []))) h ∙ ap (λ ys. dedup same_section ys) (append-nil xs)
one-more f xs e (Some s) h =
    ap (λ o. dedup same_section (xs ++ filter_map (λ (d : Element). o) (e ∷ []))) h ∙ dedup-all xs s

pub elements-grown : (path : List Passage) (g : Passage) → elements (path ++ g ∷ []) ≡ elements path ++ g.left.element ∷ []
elements-grown path g = map-append (λ (h : Passage). h.left.element) path (g ∷ [])

pub sections-grown : (l : Site) (path : List Passage) (g : Passage) → sections l (path ++ g ∷ []) ≡ with_section (sections l path) (section_of l g.left.element)
sections-grown l path g =
    ap (λ es. dedup same_section (filter_map (section_of l) es)) (elements-grown path g)
    ∙ ap (λ ss. dedup same_section ss) (filter_map-append (section_of l) (elements path) (g.left.element ∷ []))
    ∙ one-more (section_of l) (filter_map (section_of l) (elements path)) g.left.element (section_of l g.left.element) refl

-- ---- sections that come once

pub with_section-prefix : (ss : List SectionId) (o : Option SectionId) → Distinct (with_section ss o) → Distinct ss
with_section-prefix ss None d = d
with_section-prefix ss (Some s) d = at (is_last ss s) d where
  at : (b : Bool) → Distinct (if b then ss else ss ++ s ∷ []) → Distinct ss
  at true d = d
  at false d = pairs-prefix (λ (a : SectionId) (b : SectionId). a ≡ b → ⊥) ss (s ∷ []) d

pub sections-prefix : (l : Site) (path rest : List Passage) → Distinct (sections l (path ++ rest)) → Distinct (sections l path)
sections-prefix l path [] d = let D : List Passage → Type 0 = λ p. Distinct (sections l p) in subst D (append-nil path) d
sections-prefix l path (g ∷ rest) d =
    let D : List Passage → Type 0 = λ p. Distinct (sections l p) in
    let S : List SectionId → Type 0 = λ ss. Distinct ss in
    with_section-prefix (sections l path) (section_of l g.left.element)
    (subst S (sections-grown l path g) (sections-prefix l (path ++ g ∷ []) rest (subst D (sym (append-one path g rest)) d)))

pub may_come-decides : (ss : List SectionId) (o : Option SectionId) → Distinct ss → Decides (section_may_come ss o) (Distinct (with_section ss o))
may_come-decides ss None d = (λ h. d, λ h. refl)
may_come-decides ss (Some s) d = at (is_last ss s) where
  at : (b : Bool) → Decides (b || not (holds_section ss s)) (Distinct (if b then ss else ss ++ s ∷ []))
  at true = (λ h. d, λ h. refl)
  at false =
      Decides-like (not (holds_section ss s)) (λ absent. distinct-grown ss s d absent) (λ more c. distinct-behind ss s [] more c)
      (Decides-not (holds_section ss s) (has-decides same_section section-decides ss s))
