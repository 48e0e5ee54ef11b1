-- The sections of a route are one list, in which none stands twice.
use Rattle.std.proofs.Common.{◌≡◌, ◌≢◌, ◌∙◌, List, [], ◌∷◌, map, refl, sym, ap, subst}
use Rattle.std.specs.List.{AllPairs, dedup, filter_map}
use Rattle.std.proofs.lemmas.Option.{same_Some}
use Rattle.ixl_spec.specs.layout.declared.ids.RouteId.{RouteId}
use Rattle.ixl_spec.specs.layout.declared.ids.SectionId.{SectionId}
use Rattle.ixl_spec.specs.layout.declared.port.Element.{Element}
use Rattle.ixl_spec.specs.layout.declared.port.Port.{Port}
use Rattle.ixl_spec.specs.layout.Entries.{Site, RouteEntry}
use Rattle.ixl_spec.specs.control_table.Path.{Passage, elements, same_section}
use Rattle.ixl_spec.specs.control_table.Table.{AreSections}
use Rattle.ixl_spec.specs.control_table.Topology.{section_of}

-- the ports by which the elements are left tell them
elements-by-ports : (path : List Passage) → elements path ≡ map (λ (p : Port). p.element) (map (λ (g : Passage). g.left) path)
elements-by-ports [] = refl
elements-by-ports (g ∷ path) = ap (λ (es : List Element). g.left.element ∷ es) (elements-by-ports path)

sections-by-ports : Site → List Port → List SectionId
sections-by-ports l ports = dedup same_section (filter_map (section_of l) (map (λ (p : Port). p.element) ports))

by-ports : (l : Site) (a : RouteId) (ss : List SectionId) (are : AreSections l a ss) → ss ≡ sections-by-ports l are.0.path
unfolding sections-by-ports
by-ports l a ss are = are.4 ∙ ap (λ (es : List Element). dedup same_section (filter_map (section_of l) es)) (elements-by-ports are.1 ∙ ap (map (λ (p : Port). p.element)) (sym are.3.follows.ports))

pub sections-one : (l : Site) (a : RouteId) (ss ts : List SectionId) → AreSections l a ss → AreSections l a ts → ss ≡ ts
sections-one l a ss ts are too =
    by-ports l a ss are ∙ ap (λ (r : RouteEntry). sections-by-ports l r.path) (same_Some are.0 too.0 (sym are.2 ∙ too.2)) ∙ sym (by-ports l a ts too)

pub sections-apart : (l : Site) (a : RouteId) (ss : List SectionId) → AreSections l a ss → AllPairs (λ x y. x ≢ y) ss
sections-apart l a ss are = subst (λ (xs : List SectionId). AllPairs (λ x y. x ≢ y) xs) (sym are.4) are.3.once.sections
