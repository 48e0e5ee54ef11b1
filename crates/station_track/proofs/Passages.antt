-- The place of each passage, and where its ports are.
use Rattle.std.proofs.Common.{◌≡◌, ◌≢◌, ◌⊎◌, Option, Some, None, IsTrue, refl, sym, ap, subst, ◌∙◌, inl, inr}
use Rattle.control_table.specs.sci_telegram.declared.message.Side.{Side}
use Rattle.control_table.specs.sci_telegram.declared.message.Side.TheVariants as side
use Rattle.control_table.specs.layout.declared.ids.PointId.{PointId}
use Rattle.control_table.specs.layout.declared.ids.BorderId.{BorderId}
use Rattle.control_table.specs.layout.declared.port.Port.{Port}
use Rattle.control_table.specs.layout.declared.port.Element.{Element}
use Rattle.control_table.specs.layout.declared.port.Element.TheVariants as element
use Rattle.control_table.specs.layout.Entries.{Site}
use Rattle.control_table.specs.layout.NamesResolved.{has_port}
use Rattle.control_table.specs.layout.Station.{HasElement, HasPort}
use Rattle.layout_text.specs.declared.entries.End.{End}
use Rattle.layout_text.specs.declared.entries.End.TheVariants as end
use Rattle.control_table.specs.Path.{Passage, Passes}
use Rattle.station_track.specs.declared.place.Toward.{Toward}
use Rattle.station_track.specs.declared.place.Toward.TheVariants as toward
use Rattle.station_track.specs.declared.place.Over.TheVariants as over
use Rattle.station_track.specs.declared.place.Place.{Place}
use Rattle.station_track.specs.declared.place.Place.TheVariants as place
use Rattle.station_track.specs.Places.{HasPlace, element_of}
use Rattle.station_track.specs.Ports.{front, rear, place_left, place_between, track_behind, track_entered}
use Rattle.station_track.specs.Tracks.{place_point}
use Rattle.station_track.proofs.Members.{none-some, some-injective}

abbrev pub port : Element → End → Port
port e x = record { element = e; end = x }

-- a train that enters an element by one end and leaves it by another stands on a place
pub record IsOver (e : Element) (entered left : End) : Type 0 where
  pub place : Place
  pub found : place_left e entered left ≡ Some place
  pub on : element_of place ≡ e
  pub behind : rear place ≡ Some (port e entered)
  pub before : front place ≡ port e left

-- one of the ends is the tip, where it is a point
abbrev ByTip : Element → End → End → Type 0
ByTip e a b = (p : PointId) → e ≡ element.Point p → (a ≡ end.Tip) ⊎ (b ≡ end.Tip)

not-tip : (e : End) → (e ≡ end.Left) ⊎ (e ≡ end.Right) → e ≡ end.Tip → ⊥
not-tip e (inl h) k = absurd (cc (sym h ∙ k))
not-tip e (inr h) k = absurd (cc (sym h ∙ k))

neither : (a b : End) → (a ≡ end.Left) ⊎ (a ≡ end.Right) → (b ≡ end.Left) ⊎ (b ≡ end.Right) → (a ≡ end.Tip) ⊎ (b ≡ end.Tip) → ⊥
neither a b h k (inl e) = not-tip a h e
neither a b h k (inr e) = not-tip b k e

pub over-element : (e : Element) (a b : End) → IsTrue (has_port e a) → IsTrue (has_port e b) → a ≢ b → ByTip e a b → IsOver e a b
over-element (element.Track t) end.A end.B ha hb ne tip = record { place = place.Track t toward.B; found = refl; on = refl; behind = refl; before = refl }
over-element (element.Track t) end.B end.A ha hb ne tip = record { place = place.Track t toward.A; found = refl; on = refl; behind = refl; before = refl }
over-element (element.Track t) end.A end.A ha hb ne tip = absurd (ne refl)
over-element (element.Track t) end.B end.B ha hb ne tip = absurd (ne refl)
over-element (element.Point p) end.Tip end.Left ha hb ne tip = record { place = place.Point p side.Left over.Tip; found = refl; on = refl; behind = refl; before = refl }
over-element (element.Point p) end.Tip end.Right ha hb ne tip = record { place = place.Point p side.Right over.Tip; found = refl; on = refl; behind = refl; before = refl }
over-element (element.Point p) end.Left end.Tip ha hb ne tip = record { place = place.Point p side.Left over.Leg; found = refl; on = refl; behind = refl; before = refl }
over-element (element.Point p) end.Right end.Tip ha hb ne tip = record { place = place.Point p side.Right over.Leg; found = refl; on = refl; behind = refl; before = refl }
over-element (element.Point p) end.Tip end.Tip ha hb ne tip = absurd (ne refl)
over-element (element.Point p) end.Left end.Left ha hb ne tip = absurd (ne refl)
over-element (element.Point p) end.Right end.Right ha hb ne tip = absurd (ne refl)
over-element (element.Point p) end.Left end.Right ha hb ne tip = absurd (neither end.Left end.Right (inl refl) (inr refl) (tip p refl))
over-element (element.Point p) end.Right end.Left ha hb ne tip = absurd (neither end.Right end.Left (inr refl) (inl refl) (tip p refl))
over-element (element.Border b) end.End end.End ha hb ne tip = absurd (ne refl)
over-element e a b ha hb ne tip = absurd (cc (ha, hb))

-- A passage of a layout has a place.
pub record HasPassage (l : Site) (g : Passage) : Type 0 where
  pub place : Place
  pub found : place_between (Some g.entered) g.left ≡ Some place
  pub there : HasPlace l place
  pub on : element_of place ≡ g.left.element
  pub behind : rear place ≡ Some g.entered
  pub before : front place ≡ g.left

pub passage-place : (l : Site) (g : Passage) → HasPort l g.entered → HasPort l g.left → Passes g → HasPassage l g
passage-place l g entered left passes =
    let enters : IsTrue (has_port g.left.element g.entered.end) = subst (λ (e : Element). IsTrue (has_port e g.entered.end)) passes.element entered.end in
    let tip : ByTip g.left.element g.entered.end g.left.end = λ p is. passes.by_tip p (passes.element ∙ is) in
    let h = over-element g.left.element g.entered.end g.left.end enters left.end passes.ports tip in
    record {
      place = h.place;
      found = h.found;
      there = subst (HasElement l) (sym h.on) left.element;
      on = h.on;
      behind = h.behind ∙ ap (λ e. Some (port e g.entered.end)) (sym passes.element);
      before = h.before;
    }

-- ---- a place by its rear

-- Two places have the same rear: they are the same, or a point is entered by its tip.
pub data SameRear (p q : Place) : Type 0 where
  Same : p ≡ q → SameRear p q
  Fork : (point : PointId) (s t : Side) → p ≡ place.Point point s over.Tip → q ≡ place.Point point t over.Tip → SameRear p q

-- the place that has a rear port; of a point entered by the tip, that to the left
abbrev by_rear : Element → End → Option Place
by_rear (element.Track t) end.A = Some (place.Track t toward.B)
by_rear (element.Track t) end.B = Some (place.Track t toward.A)
by_rear (element.Point p) end.Tip = Some (place.Point p side.Left over.Tip)
by_rear (element.Point p) end.Left = Some (place.Point p side.Left over.Leg)
by_rear (element.Point p) end.Right = Some (place.Point p side.Right over.Leg)
by_rear _ _ = None

abbrev by_port : Option Port → Option Place
by_port None = None
by_port (Some r) = by_rear r.element r.end

-- the place to the left, of a point entered by the tip
abbrev leftmost : Place → Place
leftmost (place.Track t way) = place.Track t way
leftmost (place.Point p s over.Tip) = place.Point p side.Left over.Tip
leftmost (place.Point p s over.Leg) = place.Point p s over.Leg
leftmost (place.Outside b) = place.Outside b

rear-place : (p : Place) (r : Port) → rear p ≡ Some r → by_port (rear p) ≡ Some (leftmost p)
rear-place (place.Track t toward.A) r e = refl
rear-place (place.Track t toward.B) r e = refl
rear-place (place.Point p s over.Tip) r e = refl
rear-place (place.Point p side.Left over.Leg) r e = refl
rear-place (place.Point p side.Right over.Leg) r e = refl
rear-place (place.Outside b) r e = absurd (none-some r e)

pub same-rear : (p q : Place) (r : Port) → rear p ≡ Some r → rear q ≡ Some r → SameRear p q
same-rear p q r h k = by p q (some-injective (leftmost p) (leftmost q) (sym (rear-place p r h) ∙ ap by_port (h ∙ sym k) ∙ rear-place q r k)) where
  by : (p q : Place) → leftmost p ≡ leftmost q → SameRear p q
  by (place.Track t way) (place.Track u to) e = Same e
  by (place.Point p s over.Leg) (place.Point q t over.Leg) e = Same e
  by (place.Outside b) (place.Outside c) e = Same e
  by (place.Point p s over.Tip) (place.Point q t over.Tip) e =
      let point : Place → PointId = λ x. elim x [ place.Track u to ↦ p | place.Point v w to ↦ v | place.Outside b ↦ p ] in
      let same : q ≡ p = sym (ap point e) in
      Fork p s t refl (λ i. place.Point (same i) t over.Tip)
  by (place.Track t way) (place.Point q s over.Tip) e = absurd (cc (e))
  by (place.Track t way) (place.Point q s over.Leg) e = absurd (cc (e))
  by (place.Track t way) (place.Outside b) e = absurd (cc (e))
  by (place.Point p s over.Tip) (place.Track t way) e = absurd (cc (e))
  by (place.Point p s over.Leg) (place.Track t way) e = absurd (cc (e))
  by (place.Point p s over.Tip) (place.Point q t over.Leg) e = absurd (cc (e))
  by (place.Point p s over.Leg) (place.Point q t over.Tip) e = absurd (cc (e))
  by (place.Point p s over.Tip) (place.Outside b) e = absurd (cc (e))
  by (place.Point p s over.Leg) (place.Outside b) e = absurd (cc (e))
  by (place.Outside b) (place.Track t way) e = absurd (cc (e))
  by (place.Outside b) (place.Point q t over.Tip) e = absurd (cc (e))
  by (place.Outside b) (place.Point q t over.Leg) e = absurd (cc (e))

-- no place has a border's port at its rear
pub no-border-behind : (p : Place) (r : Port) (b : BorderId) → rear p ≡ Some r → r.element ≡ element.Border b → ⊥
no-border-behind p r b h k = by p (some-element p h) where
  behind : Option Port → Element
  behind None = element.Border b
  behind (Some q) = q.element

  some-element : (p : Place) → rear p ≡ Some r → (rear p ≡ Some r) × (element.Border b ≡ behind (rear p))
  some-element p e = (e, sym (ap behind e ∙ k))

  by : (p : Place) → (rear p ≡ Some r) × (element.Border b ≡ behind (rear p)) → ⊥
  by (place.Track t way) e = absurd (cc (e.1))
  by (place.Point p s over.Tip) e = absurd (cc (e.1))
  by (place.Point p s over.Leg) e = absurd (cc (e.1))
  by (place.Outside c) e = absurd (none-some r e.0)

-- the element of a place is that of its rear
pub rear-element : (p : Place) (r : Port) → rear p ≡ Some r → r.element ≡ element_of p
rear-element (place.Track t way) r h = ap (λ (q : Port). q.element) (sym (some-injective (port (element.Track t) (away way)) r h)) where
  away : Toward → End
  away toward.A = end.B
  away toward.B = end.A
rear-element (place.Point p s over.Tip) r h = ap (λ (q : Port). q.element) (sym (some-injective (port (element.Point p) end.Tip) r h))
rear-element (place.Point p side.Left over.Leg) r h = ap (λ (q : Port). q.element) (sym (some-injective (port (element.Point p) end.Left) r h))
rear-element (place.Point p side.Right over.Leg) r h = ap (λ (q : Port). q.element) (sym (some-injective (port (element.Point p) end.Right) r h))
rear-element (place.Outside b) r h = absurd (none-some r h)

-- ---- the track behind a port

pub record IsTrackBehind (entered : Port) (p : Place) : Type 0 where
  pub on : element_of p ≡ entered.element
  pub behind : rear p ≡ Some entered
  pub plain : place_point (Some p) ≡ None

pub track-behind : (entered : Port) (p : Place) → track_behind (Some entered) ≡ Some p → IsTrackBehind entered p
track-behind entered p e = by entered.element entered.end p e where
  by : (x : Element) (z : End) (p : Place) → track_entered x z ≡ Some p → IsTrackBehind (port x z) p
  by (element.Track t) end.A p e = subst (IsTrackBehind (port (element.Track t) end.A)) (some-injective (place.Track t toward.B) p e) (record { on = refl; behind = refl; plain = refl })
  by (element.Track t) end.B p e = subst (IsTrackBehind (port (element.Track t) end.B)) (some-injective (place.Track t toward.A) p e) (record { on = refl; behind = refl; plain = refl })
  by x z p e = absurd (none-some p e)
