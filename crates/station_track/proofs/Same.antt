-- The tests of equality decide equality.
use Rattle.std.proofs.Common.{◌≡◌, false, ◌&&◌, ◌==◌, ℕ, zero, suc, refl, sym, ap, ◌∙◌, arith}
use Rattle.std.proofs.lemmas.Bool.{false≢true}
use Rattle.std.proofs.lemmas.Bool.Decides.{Decides-and, Decides-like, Decides-eqb}
use Rattle.std.specs.Bool.{Decides}
use Rattle.control_table.specs.layout.declared.ids.SectionId.{SectionId}
use Rattle.control_table.specs.layout.declared.port.Port.{Port}
use Rattle.control_table.specs.layout.declared.port.Element.{Element}
use Rattle.control_table.specs.layout.declared.port.Element.TheVariants as element
use Rattle.layout_text.specs.declared.entries.End.{End}
use Rattle.layout_text.specs.declared.entries.End.TheVariants as end
use Rattle.control_table.specs.layout.Known.{same_element, end_number}
use Rattle.control_table.specs.Path.{same_section}
use Rattle.station_track.specs.Ports.{is_port}

-- what never holds is decided by false
never : {P : Type 0} → (P → ⊥) → Decides false P
never not_so = (λ h. absurd (false≢true h), λ p. absurd (not_so p))

-- the number of an element, and the kind
abbrev element_number : Element → ℕ
element_number (element.Track t) = t.0
element_number (element.Point p) = p.0
element_number (element.Border b) = b.0

abbrev element_kind : Element → ℕ
element_kind (element.Track t) = 0
element_kind (element.Point p) = 1
element_kind (element.Border b) = 2

other_kind : (a b : Element) → (element_kind a ≡ element_kind b → ⊥) → a ≡ b → ⊥
other_kind a b differ e = differ (ap element_kind e)

element-decides : (a b : Element) → Decides (same_element a b) (a ≡ b)
element-decides (element.Track t) (element.Track u) = Decides-like (t.0 == u.0) (ap (λ n. element.Track (record { 0 = n }))) (ap element_number) (Decides-eqb t.0 u.0)
element-decides (element.Point t) (element.Point u) = Decides-like (t.0 == u.0) (ap (λ n. element.Point (record { 0 = n }))) (ap element_number) (Decides-eqb t.0 u.0)
element-decides (element.Border t) (element.Border u) = Decides-like (t.0 == u.0) (ap (λ n. element.Border (record { 0 = n }))) (ap element_number) (Decides-eqb t.0 u.0)
element-decides (element.Track t) (element.Point u) = never (other_kind (element.Track t) (element.Point u) (λ e. omega (arith, e)))
element-decides (element.Track t) (element.Border u) = never (other_kind (element.Track t) (element.Border u) (λ e. omega (arith, e)))
element-decides (element.Point t) (element.Track u) = never (other_kind (element.Point t) (element.Track u) (λ e. omega (arith, e)))
element-decides (element.Point t) (element.Border u) = never (other_kind (element.Point t) (element.Border u) (λ e. omega (arith, e)))
element-decides (element.Border t) (element.Track u) = never (other_kind (element.Border t) (element.Track u) (λ e. omega (arith, e)))
element-decides (element.Border t) (element.Point u) = never (other_kind (element.Border t) (element.Point u) (λ e. omega (arith, e)))

-- the end that has a number
abbrev end_of : ℕ → End
end_of zero = end.A
end_of (suc zero) = end.B
end_of (suc (suc zero)) = end.Tip
end_of (suc (suc (suc zero))) = end.Left
end_of (suc (suc (suc (suc zero)))) = end.Right
end_of (suc (suc (suc (suc (suc n))))) = end.End

end_of-number : (a : End) → end_of (end_number a) ≡ a
end_of-number end.A = refl
end_of-number end.B = refl
end_of-number end.Tip = refl
end_of-number end.Left = refl
end_of-number end.Right = refl
end_of-number end.End = refl

end-decides : (a b : End) → Decides (end_number a == end_number b) (a ≡ b)
end-decides a b = Decides-like (end_number a == end_number b) (λ e. sym (end_of-number a) ∙ ap end_of e ∙ end_of-number b) (ap end_number) (Decides-eqb (end_number a) (end_number b))

pub port-decides : (p q : Port) → Decides (is_port p q) (p ≡ q)
unfolding is_port
port-decides p q =
    let both : Type 0 = (p.element ≡ q.element) × (p.end ≡ q.end) in
    let up : both → p ≡ q = λ h i. record { element = h.0 i; end = h.1 i } in
    let down : p ≡ q → both = λ e. (ap (λ (x : Port). x.element) e, ap (λ (x : Port). x.end) e) in
    Decides-like (same_element p.element q.element && (end_number p.end == end_number q.end)) up down
    (Decides-and (same_element p.element q.element) (end_number p.end == end_number q.end) (element-decides p.element q.element) (end-decides p.end q.end))

pub section-decides : (s t : SectionId) → Decides (same_section s t) (s ≡ t)
section-decides s t = Decides-like (s.0 == t.0) (λ e i. record { 0 = e i }) (ap (λ (x : SectionId). x.0)) (Decides-eqb s.0 t.0)
