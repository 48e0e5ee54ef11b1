-- What a way comes to after an element, as it is computed and as it is defined.
use Rattle.std.proofs.Common.{◌≡◌, ◌≢◌, ◌∙◌, ◌⊎◌, Bool, true, false, ◌==◌, ℕ, zero, suc, List, [], ◌∷◌, map, Option, Some, None, refl, sym, ap, subst, inl, inr, ⊎_elim}
use Rattle.std.specs.Prelude.{IsTrue, slice_get, if◌then◌else◌}
use Rattle.std.specs.Option.{option_map}
use Rattle.std.specs.List.{Contains}
use Rattle.std.proofs.lemmas.Bool.{false≢true}
use Rattle.std.proofs.lemmas.List.Elements.{All-contains}
use Rattle.control_table.specs.layout.declared.ids.PointId.{PointId}
use Rattle.control_table.specs.layout.declared.ids.SignalId.{SignalId}
use Rattle.control_table.specs.layout.declared.ids.TrackId.{TrackId}
use Rattle.control_table.specs.layout.declared.ids.BorderId.{BorderId}
use Rattle.control_table.specs.layout.declared.port.Port.{Port}
use Rattle.control_table.specs.layout.declared.port.Element.{Element}
use Rattle.control_table.specs.layout.declared.port.Element.TheVariants as of
use Rattle.layout_text.specs.declared.entries.End.{End}
use Rattle.layout_text.specs.declared.entries.End.TheVariants as end
use Rattle.control_table.specs.layout.declared.entries.Exit.{Exit}
use Rattle.control_table.specs.layout.declared.entries.Exit.TheVariants as exit
use Rattle.control_table.specs.layout.declared.entries.Joint.{Joint}
use Rattle.control_table.specs.layout.declared.entries.Signal.{Signal}
use Rattle.control_table.specs.layout.Entries.{Site}
use Rattle.control_table.specs.layout.NamesResolved.{has_port}
use Rattle.control_table.specs.layout.Once.{Once, Distinct}
use Rattle.control_table.specs.layout.Station.{HasPort, IsStation}
use Rattle.control_table.specs.Topology.{Joined, StandsAt}
use Rattle.control_table.specs.Path.{Passage, Passes, ExitAt}
use Rattle.route_derivation.specs.declared.search.Beyond.TheVariants as comes
use Rattle.route_derivation.specs.inside.WaySearch.{joined_to, signal_from, first_end, second_end, out, first_out, second_out, beyond_element, beyond_joint, beyond_signal, comes_to}
use Rattle.route_derivation.proofs.Joints.{OneBeyond, joined-found}
use Rattle.route_derivation.proofs.Members.{contains-here, contains-there, none-some, false-from, some-injective, get-contains, distinct-first, distinct-rest}
use Rattle.route_derivation.proofs.Same.{signal-decides}
use Rattle.route_derivation.proofs.SideLaws.{option_map-some, signal-stands, signal-missing}

-- ---- one signal at a port

at-contained : (signals : List Signal) (k : ℕ) (p : Port) → option_map (λ (s : Signal). s.at) (slice_get signals k) ≡ Some p → Contains (map (λ (s : Signal). s.at) signals) p
at-contained [] k p e = absurd (none-some p e)
at-contained (s ∷ signals) zero p e =
    let C : Port → Type 0 = λ q. Contains (map (λ (s : Signal). s.at) (s ∷ signals)) q in
    subst C (some-injective s.at p e) (contains-here s.at (map (λ (s : Signal). s.at) signals))
at-contained (s ∷ signals) (suc k) p e = contains-there s.at p (map (λ (s : Signal). s.at) signals) (at-contained signals k p e)

one-place : (signals : List Signal) → Distinct (map (λ (s : Signal). s.at) signals) → (i j : ℕ) (p : Port)
    → option_map (λ (s : Signal). s.at) (slice_get signals i) ≡ Some p → option_map (λ (s : Signal). s.at) (slice_get signals j) ≡ Some p → i ≡ j
one-place [] d i j p a b = absurd (none-some p a)
one-place (s ∷ signals) d zero zero p a b = refl
one-place (s ∷ signals) d zero (suc j) p a b = absurd (distinct-first s.at p (map (λ (s : Signal). s.at) signals) d (at-contained signals j p b) (some-injective s.at p a))
one-place (s ∷ signals) d (suc i) zero p a b = absurd (distinct-first s.at p (map (λ (s : Signal). s.at) signals) d (at-contained signals i p a) (some-injective s.at p b))
one-place (s ∷ signals) d (suc i) (suc j) p a b = ap suc (one-place signals (distinct-rest s.at (map (λ (s : Signal). s.at) signals) d) i j p a b)

pub one-signal : (l : Site) → Once l → (s t : SignalId) (p : Port) → StandsAt l s p → StandsAt l t p → s ≡ t
one-signal l once s t p a b =
    let e : s.0 ≡ t.0 = one-place l.signals once.signalled s.0 t.0 p a b in
    λ i. record { 0 = e i }

-- ---- ports that are there

pub joined-ports : (l : Site) → IsStation l → (p q : Port) → Joined l p q → HasPort l p × HasPort l q
joined-ports l station p q h =
    let P : Joint → Type 0 = λ j. HasPort l j.first × HasPort l j.second in
    let at = All-contains P l.joints h.0 station.joints h.1 in
    let H : Port → Type 0 = λ r. HasPort l r in
    ⊎_elim (λ e. (subst H e.0 at.0, subst H e.1 at.1)) (λ e. (subst H e.1 at.1, subst H e.0 at.0)) h.2

pub stands-port : (l : Site) → IsStation l → (s : SignalId) (p : Port) → StandsAt l s p → HasPort l p
stands-port l station s p h =
    let a = option_map-some (λ (t : Signal). t.at) (slice_get l.signals s.0) p h in
    let P : Signal → Type 0 = λ t. HasPort l t.at in
    let H : Port → Type 0 = λ r. HasPort l r in
    subst H a.2 (All-contains P l.signals a.0 station.signals (get-contains l.signals s.0 a.0 a.1))

pub exit-port : (l : Site) → IsStation l → (x : Exit) (p : Port) → ExitAt l x p → HasPort l p
exit-port l station (exit.Signal s) p h = stands-port l station s p h
exit-port l station (exit.Border b) p h = (joined-ports l station p h.0 h.1).0

-- ---- the ways over an element

track-ends : (t : TrackId) (a : End) → IsTrue (has_port (of.Track t) a) → (a ≡ end.A) ⊎ (a ≡ end.B)
track-ends t end.A h = inl refl
track-ends t end.B h = inr refl
track-ends t end.Tip h = absurd (false≢true h)
track-ends t end.Left h = absurd (false≢true h)
track-ends t end.Right h = absurd (false≢true h)
track-ends t end.End h = absurd (false≢true h)

point-ends : (p : PointId) (a : End) → IsTrue (has_port (of.Point p) a) → (a ≡ end.Tip) ⊎ ((a ≡ end.Left) ⊎ (a ≡ end.Right))
point-ends t end.Tip h = inl refl
point-ends t end.Left h = inr (inl refl)
point-ends t end.Right h = inr (inr refl)
point-ends t end.A h = absurd (false≢true h)
point-ends t end.B h = absurd (false≢true h)
point-ends t end.End h = absurd (false≢true h)

border-end : (b : BorderId) (a : End) → IsTrue (has_port (of.Border b) a) → a ≡ end.End
border-end t end.End h = refl
border-end t end.A h = absurd (false≢true h)
border-end t end.B h = absurd (false≢true h)
border-end t end.Tip h = absurd (false≢true h)
border-end t end.Left h = absurd (false≢true h)
border-end t end.Right h = absurd (false≢true h)

abbrev Leaves : Element → End → End → Type 0
Leaves e a b = (first_end e a ≡ Some b) ⊎ (second_end e a ≡ Some b)

track-leaves : (t : TrackId) (a b : End) → (a ≡ end.A) ⊎ (a ≡ end.B) → (b ≡ end.A) ⊎ (b ≡ end.B) → a ≢ b → Leaves (of.Track t) a b
track-leaves t a b (inl x) (inl y) differ = absurd (differ (x ∙ sym y))
track-leaves t a b (inl x) (inr y) differ = inl (ap (first_end (of.Track t)) x ∙ ap Some (sym y))
track-leaves t a b (inr x) (inl y) differ = inl (ap (first_end (of.Track t)) x ∙ ap Some (sym y))
track-leaves t a b (inr x) (inr y) differ = absurd (differ (x ∙ sym y))

from-tip : (p : PointId) (a b : End) → a ≡ end.Tip → (b ≡ end.Tip) ⊎ ((b ≡ end.Left) ⊎ (b ≡ end.Right)) → a ≢ b → Leaves (of.Point p) a b
from-tip p a b x (inl y) differ = absurd (differ (x ∙ sym y))
from-tip p a b x (inr (inl y)) differ = inl (ap (first_end (of.Point p)) x ∙ ap Some (sym y))
from-tip p a b x (inr (inr y)) differ = inr (ap (second_end (of.Point p)) x ∙ ap Some (sym y))

to-tip : (p : PointId) (a b : End) → b ≡ end.Tip → (a ≡ end.Tip) ⊎ ((a ≡ end.Left) ⊎ (a ≡ end.Right)) → a ≢ b → Leaves (of.Point p) a b
to-tip p a b y (inl x) differ = absurd (differ (x ∙ sym y))
to-tip p a b y (inr (inl x)) differ = inl (ap (first_end (of.Point p)) x ∙ ap Some (sym y))
to-tip p a b y (inr (inr x)) differ = inl (ap (first_end (of.Point p)) x ∙ ap Some (sym y))

leaves : (e : Element) (a b : End) → IsTrue (has_port e a) → IsTrue (has_port e b) → a ≢ b → ((p : PointId) → e ≡ of.Point p → (a ≡ end.Tip) ⊎ (b ≡ end.Tip)) → Leaves e a b
leaves (of.Track t) a b here there differ tip = track-leaves t a b (track-ends t a here) (track-ends t b there) differ
leaves (of.Border t) a b here there differ tip = absurd (differ (border-end t a here ∙ sym (border-end t b there)))
leaves (of.Point p) a b here there differ tip = ⊎_elim (λ x. from-tip p a b x (point-ends p b there) differ) (λ y. to-tip p a b y (point-ends p a here) differ) (tip p refl)

-- a passage over an element that is there is one of the two that are tried
pub passage-tried : (l : Site) (g : Passage) → Passes g → HasPort l g.entered → HasPort l g.left → (first_out g.entered ≡ Some g) ⊎ (second_out g.entered ≡ Some g)
passage-tried l g passes here there =
    let E : Element → Type 0 = λ e. IsTrue (has_port e g.left.end) in
    let same : out g.entered g.left.end ≡ g = λ i. record { entered = g.entered; left = record { element = passes.element i; end = g.left.end } } in
    ⊎_elim (λ e. inl (ap (option_map (out g.entered)) e ∙ ap Some same)) (λ e. inr (ap (option_map (out g.entered)) e ∙ ap Some same))
    (leaves g.entered.element g.entered.end g.left.end here.end (subst E (sym passes.element) there.end) passes.ports passes.by_tip)

-- a border isn't passed
pub border-not-passed : (l : Site) (g : Passage) (b : BorderId) → Passes g → HasPort l g.entered → HasPort l g.left → g.entered.element ≡ of.Border b → ⊥
border-not-passed l g b passes here there e =
    let E : Element → Type 0 = λ x. IsTrue (has_port x g.entered.end) in
    let F : Element → Type 0 = λ x. IsTrue (has_port x g.left.end) in
    passes.ports (border-end b g.entered.end (subst E e here.end) ∙ sym (border-end b g.left.end (subst F (sym passes.element ∙ e) there.end)))

-- what is tried can be passed
abbrev MayLeave : Element → End → End → Type 0
MayLeave e a b = (a ≢ b) × ((p : PointId) → e ≡ of.Point p → (a ≡ end.Tip) ⊎ (b ≡ end.Tip))

track-a : (t : TrackId) (b : End) → end.B ≡ b → MayLeave (of.Track t) end.A b
track-a t b e = (λ h. absurd (cc), λ p h. absurd (cc))

track-b : (t : TrackId) (b : End) → end.A ≡ b → MayLeave (of.Track t) end.B b
track-b t b e = (λ h. absurd (cc), λ p h. absurd (cc))

point-tip : (q : PointId) (b : End) → (end.Tip ≡ b → ⊥) → MayLeave (of.Point q) end.Tip b
point-tip q b e = (e, λ p h. inl refl)

point-leg : (q : PointId) (a b : End) → (a ≡ b → ⊥) → end.Tip ≡ b → MayLeave (of.Point q) a b
point-leg q a b differ e = (differ, λ p h. inr (sym e))

first-leaves : (e : Element) (a b : End) → first_end e a ≡ Some b → MayLeave e a b
first-leaves (of.Track t) end.A b h = track-a t b (some-injective end.B b h)
first-leaves (of.Track t) end.B b h = track-b t b (some-injective end.A b h)
first-leaves (of.Track t) end.Tip b h = absurd (none-some b h)
first-leaves (of.Track t) end.Left b h = absurd (none-some b h)
first-leaves (of.Track t) end.Right b h = absurd (none-some b h)
first-leaves (of.Track t) end.End b h = absurd (none-some b h)
first-leaves (of.Point p) end.Tip b h = let e : end.Left ≡ b = some-injective end.Left b h in point-tip p b (λ same. absurd (cc))
first-leaves (of.Point p) end.Left b h = let e : end.Tip ≡ b = some-injective end.Tip b h in point-leg p end.Left b (λ same. absurd (cc)) e
first-leaves (of.Point p) end.Right b h = let e : end.Tip ≡ b = some-injective end.Tip b h in point-leg p end.Right b (λ same. absurd (cc)) e
first-leaves (of.Point p) end.A b h = absurd (none-some b h)
first-leaves (of.Point p) end.B b h = absurd (none-some b h)
first-leaves (of.Point p) end.End b h = absurd (none-some b h)
first-leaves (of.Border c) end.A b h = absurd (none-some b h)
first-leaves (of.Border c) end.B b h = absurd (none-some b h)
first-leaves (of.Border c) end.Tip b h = absurd (none-some b h)
first-leaves (of.Border c) end.Left b h = absurd (none-some b h)
first-leaves (of.Border c) end.Right b h = absurd (none-some b h)
first-leaves (of.Border c) end.End b h = absurd (none-some b h)

-- the second passage leads from a tip to the right
pub second-leaves : (e : Element) (a b : End) → second_end e a ≡ Some b → (p : PointId) × (e ≡ of.Point p) × (a ≡ end.Tip) × (b ≡ end.Right)
second-leaves (of.Point p) end.Tip b h = (p, refl, refl, sym (some-injective end.Right b h))
second-leaves (of.Point p) end.A b h = absurd (none-some b h)
second-leaves (of.Point p) end.B b h = absurd (none-some b h)
second-leaves (of.Point p) end.Left b h = absurd (none-some b h)
second-leaves (of.Point p) end.Right b h = absurd (none-some b h)
second-leaves (of.Point p) end.End b h = absurd (none-some b h)
second-leaves (of.Track t) a b h = absurd (none-some b h)
second-leaves (of.Border t) a b h = absurd (none-some b h)

out-passes : (q : Port) (b : End) → MayLeave q.element q.end b → Passes (out q b)
out-passes q b h = record { element = refl; ports = h.0; by_tip = h.1 }

pub first-passes : (q : Port) (g : Passage) → first_out q ≡ Some g → (q ≡ g.entered) × Passes g
first-passes q g h =
    let a = option_map-some (out q) (first_end q.element q.end) g h in
    (ap (λ (x : Passage). x.entered) a.2, subst Passes a.2 (out-passes q a.0 (first-leaves q.element q.end a.0 a.1)))

pub second-passes : (q : Port) (g : Passage) → second_out q ≡ Some g → (q ≡ g.entered) × Passes g
second-passes q g h =
    let a = option_map-some (out q) (second_end q.element q.end) g h in
    let s = second-leaves q.element q.end a.0 a.1 in
    let differ : q.end ≢ a.0 = λ e. (let tip : q.end ≡ end.Tip = s.2 in let right : a.0 ≡ end.Right = s.3 in absurd (cc)) in
    (ap (λ (x : Passage). x.entered) a.2, subst Passes a.2 (out-passes q a.0 (differ, λ p e. inl s.2)))

-- ---- what comes after an element

-- an exit of a way from a signal at a port
abbrev pub IsEnd : Site → SignalId → Port → Exit → Type 0
IsEnd l s p x = ExitAt l x p × (x ≢ exit.Signal s) × ((t : SignalId) → StandsAt l t p → x ≡ exit.Signal t)

end-at-joint : (l : Site) (s : SignalId) (p : Port) (x : Exit) → ((t : SignalId) → StandsAt l t p → ⊥) → (q : Port) (e : Element) → Joined l p q → q.element ≡ e → beyond_element q e ≡ comes.Exit x → IsEnd l s p x
end-at-joint l s p x none q (of.Border b) joined at h =
    let same : exit.Border b ≡ x = cc in
    let I : Exit → Type 0 = λ y. IsEnd l s p y in
    let differ : exit.Border b ≢ exit.Signal s = λ e. absurd (cc) in
    subst I same ((q, joined, at), differ, λ t stands. absurd (none t stands))
end-at-joint l s p x none q (of.Track t) joined at h = absurd (cc)
end-at-joint l s p x none q (of.Point t) joined at h = absurd (cc)

end-by-joint : (l : Site) (s : SignalId) (p : Port) (x : Exit) → ((t : SignalId) → StandsAt l t p → ⊥) → (o : Option Port) → joined_to l.joints p ≡ o → beyond_joint o ≡ comes.Exit x → IsEnd l s p x
end-by-joint l s p x none None joined h = absurd (cc)
end-by-joint l s p x none (Some q) joined h = end-at-joint l s p x none q q.element (joined-found l p q joined) refl h

end-at-signal : (l : Site) → Once l → (s : SignalId) (p : Port) (x : Exit) (t : SignalId) → StandsAt l t p → (b : Bool) → (t.0 == s.0) ≡ b → (if b then comes.Nowhere else comes.Exit (exit.Signal t)) ≡ comes.Exit x → IsEnd l s p x
end-at-signal l once s p x t stands true test h = absurd (cc)
end-at-signal l once s p x t stands false test h =
    let same : exit.Signal t ≡ x = cc in
    let I : Exit → Type 0 = λ y. IsEnd l s p y in
    let differ : exit.Signal t ≢ exit.Signal s = λ e. (let is : t ≡ s = cc in false≢true (sym test ∙ (signal-decides t s).1 is)) in
    subst I same (stands, differ, λ u at. ap exit.Signal (one-signal l once t u p stands at))

pub end-found : (l : Site) → Once l → (s : SignalId) (p : Port) (x : Exit) → comes_to l s p ≡ comes.Exit x → IsEnd l s p x
unfolding comes_to
end-found l once s p x h = at (signal_from 0 l.signals p) refl h where
  at : (o : Option SignalId) → signal_from 0 l.signals p ≡ o → beyond_signal s o (beyond_joint (joined_to l.joints p)) ≡ comes.Exit x → IsEnd l s p x
  at None e h = end-by-joint l s p x (signal-missing l p e) (joined_to l.joints p) refl h
  at (Some t) e h = end-at-signal l once s p x t (signal-stands l p t e) (t.0 == s.0) refl h

-- a way goes on by a joint, where no signal stands
abbrev pub GoesOn : Site → Port → Port → Type 0
GoesOn l p q = Joined l p q × ((t : SignalId) → StandsAt l t p → ⊥)

on-element : (q r : Port) (e : Element) → beyond_element q e ≡ comes.On r → q ≡ r
on-element q r (of.Border b) h = absurd (cc)
on-element q r (of.Track t) h = cc
on-element q r (of.Point t) h = cc

on-by-joint : (l : Site) (p r : Port) → ((t : SignalId) → StandsAt l t p → ⊥) → (o : Option Port) → joined_to l.joints p ≡ o → beyond_joint o ≡ comes.On r → GoesOn l p r
on-by-joint l p r none None joined h = absurd (cc)
on-by-joint l p r none (Some q) joined h =
    let G : Port → Type 0 = λ x. GoesOn l p x in
    subst G (on-element q r q.element h) (joined-found l p q joined, none)

on-at-signal : (b : Bool) (t : SignalId) (r : Port) → (if b then comes.Nowhere else comes.Exit (exit.Signal t)) ≡ comes.On r → ⊥
on-at-signal true t r h = absurd (cc)
on-at-signal false t r h = absurd (cc)

pub on-found : (l : Site) (s : SignalId) (p r : Port) → comes_to l s p ≡ comes.On r → GoesOn l p r
unfolding comes_to
on-found l s p r h = at (signal_from 0 l.signals p) refl h where
  at : (o : Option SignalId) → signal_from 0 l.signals p ≡ o → beyond_signal s o (beyond_joint (joined_to l.joints p)) ≡ comes.On r → GoesOn l p r
  at None e h = on-by-joint l p r (signal-missing l p e) (joined_to l.joints p) refl h
  at (Some t) e h = absurd (on-at-signal (t.0 == s.0) t r h)

-- ---- and the other way round

pub end-is : (l : Site) (one : OneBeyond l) (s : SignalId) (p : Port) (x : Exit) → IsEnd l s p x → comes_to l s p ≡ comes.Exit x
unfolding comes_to
end-is l one s p (exit.Signal t) h = at (signal_from 0 l.signals p) refl where
  at : (o : Option SignalId) → signal_from 0 l.signals p ≡ o → beyond_signal s o (beyond_joint (joined_to l.joints p)) ≡ comes.Exit (exit.Signal t)
  at None e = absurd (signal-missing l p e t h.0)
  at (Some u) e =
      let same : exit.Signal t ≡ exit.Signal u = h.2 u (signal-stands l p u e) in
      let other : (u.0 == s.0) ≡ false = false-from (u.0 == s.0) (λ own. h.1 (same ∙ ap exit.Signal ((signal-decides u s).0 own))) in
      ap (λ b. if b then comes.Nowhere else comes.Exit (exit.Signal u)) other ∙ ap comes.Exit (sym same)
end-is l one s p (exit.Border b) h = at (signal_from 0 l.signals p) refl where
  at : (o : Option SignalId) → signal_from 0 l.signals p ≡ o → beyond_signal s o (beyond_joint (joined_to l.joints p)) ≡ comes.Exit (exit.Border b)
  at None e = ap beyond_joint (one p h.0.0 h.0.1) ∙ ap (beyond_element h.0.0) h.0.2
  at (Some u) e = let same : exit.Border b ≡ exit.Signal u = h.2 u (signal-stands l p u e) in absurd (cc)

element-on : (q : Port) (e : Element) → ((b : BorderId) → e ≡ of.Border b → ⊥) → beyond_element q e ≡ comes.On q
element-on q (of.Border b) not_border = absurd (not_border b refl)
element-on q (of.Track t) not_border = refl
element-on q (of.Point t) not_border = refl

pub on-is : (l : Site) (one : OneBeyond l) (s : SignalId) (p q : Port) → GoesOn l p q → ((b : BorderId) → q.element ≡ of.Border b → ⊥) → comes_to l s p ≡ comes.On q
unfolding comes_to
on-is l one s p q h not_border = at (signal_from 0 l.signals p) refl where
  at : (o : Option SignalId) → signal_from 0 l.signals p ≡ o → beyond_signal s o (beyond_joint (joined_to l.joints p)) ≡ comes.On q
  at None e = ap beyond_joint (one p q h.0) ∙ element-on q q.element not_border
  at (Some u) e = absurd (h.1 u (signal-stands l p u e))
