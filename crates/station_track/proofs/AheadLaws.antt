-- What is ahead of a place, and where throats begin.
use Rattle.std.proofs.Common.{◌≡◌, ◌<◌, ◌≤◌, ℕ, zero, suc, Bool, true, false, length, is_some, List, [], ◌∷◌, Option, Some, None, refl, sym, ap, subst, ◌∙◌, inl, inr, arith}
use Rattle.std.specs.Prelude.{if◌then◌else◌}
use Rattle.std.specs.FinSet.{contains}
use Rattle.std.specs.Option.{option_map}
use Rattle.std.proofs.lemmas.Bool.{false≢true}
use Rattle.std.proofs.lemmas.List.Elements.{All-contains}
use Rattle.train_machine.specs.Lists.{IsOf, IsFirst}
use Rattle.train_machine.specs.Track.{Left, Right}
use Rattle.control_table.specs.bit_row.Places.{Places}
use Rattle.control_table.specs.sci_telegram.declared.message.Side.TheVariants as side
use Rattle.control_table.specs.layout.declared.ids.BorderId.{BorderId}
use Rattle.control_table.specs.layout.declared.port.Port.{Port}
use Rattle.control_table.specs.layout.declared.port.Element.{Element}
use Rattle.control_table.specs.layout.declared.port.Element.TheVariants as element
use Rattle.control_table.specs.layout.Entries.{Site}
use Rattle.control_table.specs.layout.Once.{Once}
use Rattle.control_table.specs.layout.Station.{HasElement, HasPort, HasSection, IsStation}
use Rattle.control_table.specs.Topology.{Joined}
use Rattle.layout_text.specs.declared.entries.End.{End}
use Rattle.layout_text.specs.declared.entries.End.TheVariants as end
use Rattle.station_track.specs.declared.place.Toward.TheVariants as toward
use Rattle.station_track.specs.declared.place.Over.TheVariants as over
use Rattle.station_track.specs.declared.place.Place.{Place}
use Rattle.station_track.specs.declared.place.Place.TheVariants as place
use Rattle.station_track.specs.declared.ahead.Ahead.{Ahead}
use Rattle.station_track.specs.declared.ahead.Ahead.TheVariants.{Nothing, Out, Onto}
use Rattle.station_track.specs.Places.{HasPlace, element_of, place_number, place_at}
use Rattle.station_track.specs.Ports.{front, rear, beyond, signal_from, track_behind, track_entered}
use Rattle.station_track.specs.Throats.{has_signal, throat_over, throat_from, none_at_all}
use Rattle.station_track.specs.Tracks.{track_of, front_of, signal_before, place_point, place_leg, is_place_facing, place_section, machine_side}
use Rattle.station_track.specs.Meaning.{IsOutside}
use Rattle.station_track.specs.Ahead.{leg_taken, entered_place, behind_port, ahead, ComesOnto, IfOnto}
use Rattle.station_track.proofs.Members.{none-some, some-injective, get-below, get-contains}
use Rattle.station_track.proofs.Joints.{beyond-joined, joined-beyond, joined-there, signal-stands, signal-there}
use Rattle.station_track.proofs.Numbered.{number-at}
use Rattle.station_track.proofs.Passages.{port, no-border-behind, track-behind}
use Rattle.station_track.proofs.Neighbours.{leads-follows, follows-leads}
use Rattle.station_track.proofs.Grouping.{section-is}
use Rattle.station_track.proofs.SaneThroats.{nothing}

-- ---- the sections of the station

-- what isn't outside lies in a section of the station
pub section-inside : (l : Site) → IsStation l → (p : Place) (r : Port) → HasPlace l p → rear p ≡ Some r → place_section l (Some p) < length l.sections
section-inside l station (place.Track t way) r there h =
    let x = get-below l.tracks t.0 there in
    let within = All-contains (λ t. HasSection l t.section) l.tracks x.0 station.tracks (get-contains l.tracks t.0 x.0 x.1) in
    let is = section-is l (place.Track t way) x.0.section (ap (λ o. elim o [ None ↦ None | Some track ↦ Some track.section ]) x.1) in
    subst (λ n. n < length l.sections) (sym is) within
section-inside l station (place.Point p s way) r there h =
    let x = get-below l.points p.0 there in
    let within = All-contains (λ p. HasSection l p.section) l.points x.0 station.points (get-contains l.points p.0 x.0 x.1) in
    let is = section-is l (place.Point p s way) x.0.section (ap (λ o. elim o [ None ↦ None | Some point ↦ Some point.section ]) x.1) in
    subst (λ n. n < length l.sections) (sym is) within
section-inside l station (place.Outside b) r there h = absurd (none-some r h)

-- ---- what is ahead

abbrev place_of : Place → Ahead → Place
place_of other Nothing = other
place_of other Out = other
place_of other (Onto p) = p

onto-injective : (p q : Place) → Onto p ≡ Onto q → p ≡ q
onto-injective p q e = ap (place_of p) e

sided : (b : Bool) → machine_side (if b then side.Right else side.Left) ≡ (if b then Right else Left)
sided true = refl
sided false = refl

-- A place that is entered by an end of an element.
record IsEntered (right : Places) (e : Element) (z : End) (q : Place) : Type 0 where
  pub on : element_of q ≡ e
  pub behind : rear q ≡ Some (port e z)
  pub by_leg : (point : ℕ) → place_point (Some q) ≡ Some point → is_place_facing (Some q) ≡ true → place_leg (Some q) ≡ (if contains right point then Right else Left)

entered-is : (right : Places) (e : Element) (z : End) (q : Place) → entered_place right e z ≡ Onto q → IsEntered right e z q
entered-is right (element.Track t) end.A q h = subst (IsEntered right (element.Track t) end.A) (onto-injective (place.Track t toward.B) q h) (record { on = refl; behind = refl; by_leg = λ point e f. absurd (none-some point e) })
entered-is right (element.Track t) end.B q h = subst (IsEntered right (element.Track t) end.B) (onto-injective (place.Track t toward.A) q h) (record { on = refl; behind = refl; by_leg = λ point e f. absurd (none-some point e) })
entered-is right (element.Point p) end.Tip q h =
    subst (IsEntered right (element.Point p) end.Tip) (onto-injective (place.Point p (leg_taken right p) over.Tip) q h)
    (record { on = refl; behind = refl; by_leg = λ point e f. sided (contains right p.0) ∙ ap (λ n. if contains right n then Right else Left) (some-injective p.0 point e) })
entered-is right (element.Point p) end.Left q h = subst (IsEntered right (element.Point p) end.Left) (onto-injective (place.Point p side.Left over.Leg) q h) (record { on = refl; behind = refl; by_leg = λ point e f. absurd (false≢true f) })
entered-is right (element.Point p) end.Right q h = subst (IsEntered right (element.Point p) end.Right) (onto-injective (place.Point p side.Right over.Leg) q h) (record { on = refl; behind = refl; by_leg = λ point e f. absurd (false≢true f) })
entered-is right (element.Track t) end.Tip q h = absurd (cc (h))
entered-is right (element.Track t) end.Left q h = absurd (cc (h))
entered-is right (element.Track t) end.Right q h = absurd (cc (h))
entered-is right (element.Track t) end.End q h = absurd (cc (h))
entered-is right (element.Point p) end.A q h = absurd (cc (h))
entered-is right (element.Point p) end.B q h = absurd (cc (h))
entered-is right (element.Point p) end.End q h = absurd (cc (h))
entered-is right (element.Border b) end.A q h = absurd (cc (h))
entered-is right (element.Border b) end.B q h = absurd (cc (h))
entered-is right (element.Border b) end.Tip q h = absurd (cc (h))
entered-is right (element.Border b) end.Left q h = absurd (cc (h))
entered-is right (element.Border b) end.Right q h = absurd (cc (h))
entered-is right (element.Border b) end.End q h = absurd (cc (h))

-- what is ahead is there
pub ahead-there : (l : Site) (right : Places) (p : Place) → IsStation l → IfOnto l (ahead l right p)
ahead-there l right p station = by (beyond l.joints (front p)) refl where
  onto : (e : Port) (a : Ahead) → Joined l (front p) e → entered_place right e.element e.end ≡ a → IfOnto l a
  onto e Nothing j h = tt
  onto e Out j h = tt
  onto e (Onto q) j h = subst (HasElement l) (sym (entered-is right e.element e.end q h).on) (joined-there l station (front p) e j).1.element

  by : (o : Option Port) → beyond l.joints (front p) ≡ o → IfOnto l (behind_port right o)
  by None j = tt
  by (Some e) j = onto e (entered_place right e.element e.end) (beyond-joined l (front p) e j) refl

pub comes-onto : (l : Site) (right : Places) (p q : Place) → Once l → IsStation l → HasPlace l p → ahead l right p ≡ Onto q → HasPlace l q × ComesOnto l right (place_number l p) (place_number l q)
comes-onto l right p q once station there h = by (beyond l.joints (front p)) refl h
  where
    by : (o : Option Port) → beyond l.joints (front p) ≡ o → behind_port right o ≡ Onto q → HasPlace l q × ComesOnto l right (place_number l p) (place_number l q)
    by None j h = absurd (cc (h))
    by (Some e) j h =
        let joined = beyond-joined l (front p) e j in
        let is = entered-is right e.element e.end q h in
        let beside : HasPlace l q = subst (HasElement l) (sym is.on) (joined-there l station (front p) e joined).1.element in
        let at : place_at l (place_number l q) ≡ Some q = number-at l q beside in (
          beside,
          record {
            joined = leads-follows l once (place_number l p) (place_number l q) (record { place = p; next = q; between = e; at = number-at l p there; behind = at; joined = joined; entered = is.behind });
            by_leg = λ point on facing. ap place_leg at ∙ is.by_leg point (sym (ap place_point at) ∙ on) (sym (ap is_place_facing at) ∙ facing);
            inside = subst (λ n. n < length l.sections) (sym (ap (place_section l) at)) (section-inside l station q e beside is.behind);
          },
        )

border-entered : (right : Places) (e : Element) (z : End) → entered_place right e z ≡ Out → (b : BorderId) × (e ≡ element.Border b)
border-entered right (element.Border b) z h = (b, refl)
border-entered right (element.Track t) end.A h = absurd (cc (h))
border-entered right (element.Track t) end.B h = absurd (cc (h))
border-entered right (element.Track t) end.Tip h = absurd (cc (h))
border-entered right (element.Track t) end.Left h = absurd (cc (h))
border-entered right (element.Track t) end.Right h = absurd (cc (h))
border-entered right (element.Track t) end.End h = absurd (cc (h))
border-entered right (element.Point p) end.A h = absurd (cc (h))
border-entered right (element.Point p) end.B h = absurd (cc (h))
border-entered right (element.Point p) end.Tip h = absurd (cc (h))
border-entered right (element.Point p) end.Left h = absurd (cc (h))
border-entered right (element.Point p) end.Right h = absurd (cc (h))
border-entered right (element.Point p) end.End h = absurd (cc (h))

pub out-ends : (l : Site) (right : Places) (p : Place) → Once l → HasPlace l p → ahead l right p ≡ Out → (m : ℕ) → (track_of l).follows (place_number l p) m ≡ true → ⊥
out-ends l right p once there h m follows =
    let t = follows-leads l (place_number l p) m follows in
    let same : t.place ≡ p = some-injective t.place p (sym t.at ∙ number-at l p there) in
    let joined : Joined l (front p) t.between = subst (λ x. Joined l (front x) t.between) same t.joined in
    let b = border-entered right t.between.element t.between.end (sym (ap (behind_port right) (joined-beyond l once (front p) t.between joined)) ∙ h) in
    no-border-behind t.next t.between b.0 t.entered b.1

-- ---- where a throat begins

-- a track that is entered is ahead, however the points lie
track-ahead : (right : Places) (e : Element) (z : End) (p : Place) → track_entered e z ≡ Some p → entered_place right e z ≡ Onto p
track-ahead right (element.Track t) end.A p h = ap Onto (some-injective (place.Track t toward.B) p h)
track-ahead right (element.Track t) end.B p h = ap Onto (some-injective (place.Track t toward.A) p h)
track-ahead right e z p h = absurd (none-some p h)

behind-ahead : (right : Places) (o : Option Port) (p : Place) → track_behind o ≡ Some p → behind_port right o ≡ Onto p
behind-ahead right None p h = absurd (none-some p h)
behind-ahead right (Some e) p h = track-ahead right e.element e.end p h

-- the first place of a throat is ahead of its border
first-ahead : (l : Site) (right : Places) (k : ℕ) (entered : Option Port) (n : ℕ) → IsFirst n (none_at_all (throat_from l k entered)) → (p : Place) × (behind_port right entered ≡ Onto p) × (place_number l p ≡ n)
first-ahead l right zero entered n h = absurd h
first-ahead l right (suc k) entered n h = over (track_behind entered) refl h
  where
    First : Place → Type 0
    First p = (q : Place) × (behind_port right entered ≡ Onto q) × (place_number l q ≡ n)

    rest : (p : Place) (o : Option (List ℕ)) → track_behind entered ≡ Some p → IsFirst n (none_at_all (option_map (λ ns. place_number l p ∷ ns) o)) → First p
    rest p None at h = absurd h
    rest p (Some ns) at h = (p, behind-ahead right entered p at, h)

    one : (p : Place) (b : Bool) → track_behind entered ≡ Some p → IsFirst n (none_at_all (if b then Some (place_number l p ∷ []) else option_map (λ ns. place_number l p ∷ ns) (throat_from l k (beyond l.joints (front p))))) → First p
    one p true at h = (p, behind-ahead right entered p at, h)
    one p false at h = rest p (throat_from l k (beyond l.joints (front p))) at h

    over : (o : Option Place) → track_behind entered ≡ o → IsFirst n (none_at_all (throat_over l (throat_from l k) o)) → (p : Place) × (behind_port right entered ≡ Onto p) × (place_number l p ≡ n)
    over None at h = absurd h
    over (Some p) at h = one p (has_signal l (front p)) at h

pub throat-first : (l : Site) (right : Places) (b : BorderId) → has_signal l (front (place.Outside b)) ≡ false → (n : ℕ) → IsFirst n ((track_of l).throat b.0)
    → (p : Place) × (ahead l right (place.Outside b) ≡ Onto p) × (place_number l p ≡ n)
throat-first l right b dark n h =
    let places : Bool → List ℕ = λ has. if has then place_number l (place.Outside b) ∷ [] else none_at_all (throat_from l (length l.tracks) (beyond l.joints (front (place.Outside b)))) in
    first-ahead l right (length l.tracks) (beyond l.joints (front (place.Outside b))) n (subst (λ has. IsFirst n (places has)) dark h)

-- each place of a throat lies in a section of the station
inside-from : (l : Site) → IsStation l → (k : ℕ) (entered : Port) → HasPort l entered → (m : ℕ) → IsOf m (none_at_all (throat_from l k (Some entered))) → (track_of l).section m < length l.sections
inside-from l station zero entered there m h = absurd h
inside-from l station (suc k) entered there m h =
    over (track_behind (Some entered)) refl h (λ q beyond h. inside-from l station k q beyond m h)
  where
    Deeper : Type 0
    Deeper = (q : Port) → HasPort l q → IsOf m (none_at_all (throat_from l k (Some q))) → (track_of l).section m < length l.sections

    In : ℕ → Type 0
    In n = (track_of l).section n < length l.sections

    here : (p : Place) → track_behind (Some entered) ≡ Some p → In (place_number l p)
    here p at =
        let b = track-behind entered p at in
        let has : HasPlace l p = subst (HasElement l) (sym b.on) there.element in
        subst (λ n. n < length l.sections) (sym (ap (place_section l) (number-at l p has))) (section-inside l station p entered has b.behind)

    rest : (p : Place) (next : Option Port) (o : Option (List ℕ)) → track_behind (Some entered) ≡ Some p → beyond l.joints (front p) ≡ next → throat_from l k next ≡ o
        → IsOf m (none_at_all (option_map (λ ns. place_number l p ∷ ns) o)) → Deeper → In m
    rest p next None at j f h deeper = absurd h
    rest p next (Some ns) at j f (inl e) deeper = subst In e (here p at)
    rest p None (Some ns) at j f (inr h) deeper = absurd (nothing l k ns f)
    rest p (Some q) (Some ns) at j f (inr h) deeper =
        deeper q (joined-there l station (front p) q (beyond-joined l (front p) q j)).1 (subst (λ o. IsOf m (none_at_all o)) (sym f) h)

    one : (p : Place) (b : Bool) → track_behind (Some entered) ≡ Some p
        → IsOf m (none_at_all (if b then Some (place_number l p ∷ []) else option_map (λ ns. place_number l p ∷ ns) (throat_from l k (beyond l.joints (front p))))) → Deeper → In m
    one p true at (inl e) deeper = subst In e (here p at)
    one p true at (inr h) deeper = absurd h
    one p false at h deeper = rest p (beyond l.joints (front p)) (throat_from l k (beyond l.joints (front p))) at refl refl h deeper

    over : (o : Option Place) → track_behind (Some entered) ≡ o → IsOf m (none_at_all (throat_over l (throat_from l k) o)) → Deeper → In m
    over None at h deeper = absurd h
    over (Some p) at h deeper = one p (has_signal l (front p)) at h deeper

pub throat-inside : (l : Site) → IsStation l → (b : BorderId) (n : ℕ) → has_signal l (front (place.Outside b)) ≡ false → IsOf n ((track_of l).throat b.0) → (track_of l).section n < length l.sections
throat-inside l station b n dark h = from (beyond l.joints port) refl (subst (λ has. IsOf n (places has)) dark h)
  where
    port : Port
    port = front (place.Outside b)

    places : Bool → List ℕ
    places has = if has then place_number l (place.Outside b) ∷ [] else none_at_all (throat_from l (length l.tracks) (beyond l.joints port))

    some : (next : Option Port) → beyond l.joints port ≡ next → IsOf n (none_at_all (throat_from l (length l.tracks) next)) → (track_of l).section n < length l.sections
    some None j h = none (throat_from l (length l.tracks) None) refl h where
      none : (o : Option (List ℕ)) → throat_from l (length l.tracks) None ≡ o → IsOf n (none_at_all o) → (track_of l).section n < length l.sections
      none None e h = absurd h
      none (Some ns) e h = absurd (nothing l (length l.tracks) ns e)
    some (Some q) j h = inside-from l station (length l.tracks) q (joined-there l station port q (beyond-joined l port q j)).1 n h

    from : (next : Option Port) → beyond l.joints port ≡ next → IsOf n (none_at_all (throat_from l (length l.tracks) (beyond l.joints port))) → (track_of l).section n < length l.sections
    from next j h = some next j (subst (λ o. IsOf n (none_at_all (throat_from l (length l.tracks) o))) j h)

pub outside-there : (l : Site) (b : BorderId) → IsStation l → has_signal l (front (place.Outside b)) ≡ true → HasPlace l (place.Outside b)
outside-there l b station lit = by (signal_from 0 l.signals (front (place.Outside b))) refl lit where
  by : (o : Option ℕ) → signal_from 0 l.signals (front (place.Outside b)) ≡ o → is_some o ≡ true → HasPlace l (place.Outside b)
  by None e t = absurd (false≢true t)
  by (Some s) e t = (signal-there l station (record { 0 = s }) (front (place.Outside b)) (signal-stands l (front (place.Outside b)) s e)).element

pub outside-is : (l : Site) (b : BorderId) → Once l → IsStation l → has_signal l (front (place.Outside b)) ≡ true → IsOutside l b
outside-is l b once station lit = record {
  there = there;
  throat = ap (λ has. if has then place_number l (place.Outside b) ∷ [] else none_at_all (throat_from l (length l.tracks) (beyond l.joints (front (place.Outside b))))) lit;
  section = subst (λ n. length l.sections ≤ n) (sym (ap (place_section l) at)) (omega arith);
  signal = ap (λ o. signal_before l (front_of o)) at;
}
  where
    there : HasPlace l (place.Outside b)
    there = outside-there l b station lit

    at : place_at l (place_number l (place.Outside b)) ≡ Some (place.Outside b)
    at = number-at l (place.Outside b) there
