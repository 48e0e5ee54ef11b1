-- The tests of equality decide equality.
use Rattle.std.proofs.Common.{◌≡◌, Bool, true, false, ◌&&◌, ◌==◌, ℕ, zero, suc, refl, sym, ap, ◌∙◌, arith}
use Rattle.std.proofs.lemmas.Bool.{false≢true}
use Rattle.std.proofs.lemmas.Bool.Decides.{Decides-and, Decides-like, Decides-eqb}
use Rattle.std.specs.Bool.{Decides}
use Rattle.control_table.specs.sci_telegram.declared.message.Side.{Side}
use Rattle.control_table.specs.sci_telegram.declared.message.Side.TheVariants as side
use Rattle.control_table.specs.layout.declared.ids.SectionId.{SectionId}
use Rattle.control_table.specs.layout.declared.ids.PointId.{PointId}
use Rattle.control_table.specs.layout.declared.ids.SignalId.{SignalId}
use Rattle.control_table.specs.layout.declared.port.Port.{Port}
use Rattle.control_table.specs.layout.declared.port.Element.{Element}
use Rattle.control_table.specs.layout.declared.port.Element.TheVariants as element
use Rattle.layout_text.specs.declared.entries.End.{End}
use Rattle.layout_text.specs.declared.entries.End.TheVariants as end
use Rattle.control_table.specs.layout.Known.{end_number}
use Rattle.control_table.specs.Sides.{other}
use Rattle.control_table.specs.Path.{same_section}
use Rattle.route_derivation.specs.inside.WaySearch.{is_port, is_element, is_end, same_side, same_need}

-- what never holds is decided by false
pub never : {P : Type 0} → (P → ⊥) → Decides false P
never not_so = (λ h. absurd (false≢true h), λ p. absurd (not_so p))

-- the number of an element, and the kind
abbrev element_number : Element → ℕ
element_number (element.Track t) = t.0
element_number (element.Point p) = p.0
element_number (element.Border b) = b.0

abbrev element_kind : Element → ℕ
element_kind (element.Track t) = 0
element_kind (element.Point p) = 1
element_kind (element.Border b) = 2

other_kind : (a b : Element) → (element_kind a ≡ element_kind b → ⊥) → a ≡ b → ⊥
other_kind a b differ e = differ (ap element_kind e)

pub element-decides : (a b : Element) → Decides (is_element a b) (a ≡ b)
unfolding is_element
element-decides (element.Track t) (element.Track u) = Decides-like (t.0 == u.0) (ap (λ n. element.Track (record { 0 = n }))) (ap element_number) (Decides-eqb t.0 u.0)
element-decides (element.Point t) (element.Point u) = Decides-like (t.0 == u.0) (ap (λ n. element.Point (record { 0 = n }))) (ap element_number) (Decides-eqb t.0 u.0)
element-decides (element.Border t) (element.Border u) = Decides-like (t.0 == u.0) (ap (λ n. element.Border (record { 0 = n }))) (ap element_number) (Decides-eqb t.0 u.0)
element-decides (element.Track t) (element.Point u) = never (other_kind (element.Track t) (element.Point u) (λ e. omega (arith, e)))
element-decides (element.Track t) (element.Border u) = never (other_kind (element.Track t) (element.Border u) (λ e. omega (arith, e)))
element-decides (element.Point t) (element.Track u) = never (other_kind (element.Point t) (element.Track u) (λ e. omega (arith, e)))
element-decides (element.Point t) (element.Border u) = never (other_kind (element.Point t) (element.Border u) (λ e. omega (arith, e)))
element-decides (element.Border t) (element.Track u) = never (other_kind (element.Border t) (element.Track u) (λ e. omega (arith, e)))
element-decides (element.Border t) (element.Point u) = never (other_kind (element.Border t) (element.Point u) (λ e. omega (arith, e)))

-- the end that has a number
abbrev end_of : ℕ → End
end_of zero = end.A
end_of (suc zero) = end.B
end_of (suc (suc zero)) = end.Tip
end_of (suc (suc (suc zero))) = end.Left
end_of (suc (suc (suc (suc zero)))) = end.Right
end_of (suc (suc (suc (suc (suc n))))) = end.End

end_of-number : (a : End) → end_of (end_number a) ≡ a
end_of-number end.A = refl
end_of-number end.B = refl
end_of-number end.Tip = refl
end_of-number end.Left = refl
end_of-number end.Right = refl
end_of-number end.End = refl

pub end-decides : (a b : End) → Decides (is_end a b) (a ≡ b)
unfolding is_end
end-decides a b = Decides-like (end_number a == end_number b) (λ e. sym (end_of-number a) ∙ ap end_of e ∙ end_of-number b) (ap end_number) (Decides-eqb (end_number a) (end_number b))

pub port-decides : (p q : Port) → Decides (is_port p q) (p ≡ q)
unfolding is_port is_element is_end
port-decides p q =
    let both : Type 0 = (p.element ≡ q.element) × (p.end ≡ q.end) in
    let up : both → p ≡ q = λ h i. record { element = h.0 i; end = h.1 i } in
    let down : p ≡ q → both = λ e. (ap (λ (x : Port). x.element) e, ap (λ (x : Port). x.end) e) in
    Decides-like (is_element p.element q.element && is_end p.end q.end) up down (Decides-and (is_element p.element q.element) (is_end p.end q.end) (element-decides p.element q.element) (end-decides p.end q.end))

pub section-decides : (s t : SectionId) → Decides (same_section s t) (s ≡ t)
section-decides s t = Decides-like (s.0 == t.0) (λ e i. record { 0 = e i }) (ap (λ (x : SectionId). x.0)) (Decides-eqb s.0 t.0)

pub point-decides : (p q : PointId) → Decides (p.0 == q.0) (p ≡ q)
point-decides p q = Decides-like (p.0 == q.0) (λ e i. record { 0 = e i }) (ap (λ (x : PointId). x.0)) (Decides-eqb p.0 q.0)

pub signal-decides : (a b : SignalId) → Decides (a.0 == b.0) (a ≡ b)
signal-decides a b = Decides-like (a.0 == b.0) (λ e i. record { 0 = e i }) (ap (λ (x : SignalId). x.0)) (Decides-eqb a.0 b.0)

abbrev pub is_left : Side → Bool
is_left side.Left = true
is_left side.Right = false

pub side-decides : (s t : Side) → Decides (same_side s t) (s ≡ t)
side-decides side.Left side.Left = (λ h. refl, λ e. refl)
side-decides side.Right side.Right = (λ h. refl, λ e. refl)
side-decides side.Left side.Right = never (λ e. false≢true (sym (ap is_left e)))
side-decides side.Right side.Left = never (λ e. false≢true (ap is_left e))

pub need-decides : (m n : PointId × Side) → Decides (same_need m n) (m ≡ n)
need-decides m n =
    let both : Type 0 = (m.0 ≡ n.0) × (m.1 ≡ n.1) in
    let up : both → m ≡ n = λ h i. (h.0 i, h.1 i) in
    let down : m ≡ n → both = λ e. (ap (λ (x : PointId × Side). x.0) e, ap (λ (x : PointId × Side). x.1) e) in
    Decides-like (m.0.0 == n.0.0 && same_side m.1 n.1) up down (Decides-and (m.0.0 == n.0.0) (same_side m.1 n.1) (point-decides m.0 n.0) (side-decides m.1 n.1))

-- ---- sides

pub other-other : (s : Side) → other (other s) ≡ s
other-other side.Left = refl
other-other side.Right = refl

pub other-differs : (s : Side) → other s ≡ s → ⊥
other-differs side.Left e = false≢true (ap is_left e)
other-differs side.Right e = false≢true (sym (ap is_left e))

-- sides that differ are each other's other
pub differ-other : (s t : Side) → (s ≡ t → ⊥) → t ≡ other s
differ-other side.Left side.Left h = absurd (h refl)
differ-other side.Left side.Right h = refl
differ-other side.Right side.Left h = refl
differ-other side.Right side.Right h = absurd (h refl)
