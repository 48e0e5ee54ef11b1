-- The places of a path lie in its sections, and none comes again after it was left.
use Rattle.std.proofs.Common.{◌≡◌, ℕ, Bool, true, false, cond, map, List, [], ◌∷◌, Some, None, All, filter_map, refl, sym, ap, subst, ◌∙◌, inl, inr}
use Rattle.std.specs.List.{Contains, dedup, dedup_from, cons_option}
use Rattle.std.specs.Cmp.{IsEquivalence}
use Rattle.std.proofs.lemmas.Cmp.{nat_eq_equiv}
use Rattle.std.proofs.lemmas.List.Kept.{Contains-dedup}
use Rattle.std.proofs.lemmas.List.Elements.{All-head, All-tail}
use Rattle.train_machine.specs.Lists.{IsOf}
use Rattle.control_table.specs.layout.declared.ids.SectionId.{SectionId}
use Rattle.control_table.specs.layout.declared.ids.BorderId.{BorderId}
use Rattle.control_table.specs.layout.declared.port.Port.{Port}
use Rattle.control_table.specs.layout.declared.port.Element.{Element}
use Rattle.control_table.specs.layout.declared.port.Element.TheVariants as element
use Rattle.control_table.specs.layout.Entries.{Site}
use Rattle.control_table.specs.layout.Once.{Distinct}
use Rattle.control_table.specs.layout.Station.{HasElement, HasPort, IsStation}
use Rattle.control_table.specs.Topology.{section_of}
use Rattle.control_table.specs.Path.{Passage, Leads, elements, same_section, sections}
use Rattle.station_track.specs.declared.place.Place.{Place}
use Rattle.station_track.specs.declared.place.Place.TheVariants as place
use Rattle.station_track.specs.Places.{HasPlace, element_of, place_at}
use Rattle.station_track.specs.Ports.{rear, place_between}
use Rattle.station_track.specs.Paths.{number_of}
use Rattle.station_track.specs.Tracks.{section_number, place_section, track_of}
use Rattle.station_track.proofs.Members.{none-some, contains-here, contains-there, distinct-first, distinct-rest, get-below}
use Rattle.station_track.proofs.Same.{section-decides}
use Rattle.station_track.proofs.Joints.{joined-there}
use Rattle.station_track.proofs.Numbered.{number-at}
use Rattle.station_track.proofs.Passages.{HasPassage, passage-place}
use Rattle.station_track.proofs.Grouped.{IsGrouped}

-- the number of a passage
abbrev pub passage_number : Site → Passage → ℕ
passage_number l g = number_of l (place_between (Some g.entered) g.left)

pub passage-at : (l : Site) (g : Passage) (h : HasPassage l g) → place_at l (passage_number l g) ≡ Some h.place
passage-at l g h = ap (λ o. place_at l (number_of l o)) h.found ∙ number-at l h.place h.there

-- each passage of a path has a place
abbrev pub Placed : Site → List Passage → Type 0
Placed l [] = Unit {0}
Placed l (g ∷ path) = HasPassage l g × Placed l path

pub leading-placed : (l : Site) → IsStation l → (from : Port) (path : List Passage) → Leads l from path → All (HasPort l) (map (λ g. g.left) path) → Placed l path
leading-placed l station from [] leads ports = tt
leading-placed l station from (g ∷ path) leads ports =
    let left = All-head (HasPort l) g.left (map (λ g. g.left) path) ports in
    let entered = (joined-there l station from g.entered leads.0).1 in
    (passage-place l g entered left leads.1, leading-placed l station g.left path leads.2 (All-tail (HasPort l) g.left (map (λ g. g.left) path) ports))

-- ---- the section of a place

-- an element that isn't a border lies in a section
pub in_section : (l : Site) → IsStation l → (e : Element) → HasElement l e → ((b : BorderId) → e ≡ element.Border b → ⊥) → (s : SectionId) × (section_of l e ≡ Some s)
in_section l station (element.Track t) there none =
    let x = get-below l.tracks t.0 there in
    (x.0.section, ap (λ o. elim o [ None ↦ None | Some track ↦ Some track.section ]) x.1)
in_section l station (element.Point p) there none =
    let x = get-below l.points p.0 there in
    (x.0.section, ap (λ o. elim o [ None ↦ None | Some point ↦ Some point.section ]) x.1)
in_section l station (element.Border b) there none = absurd (none b refl)

pub section-is : (l : Site) (p : Place) (s : SectionId) → section_of l (element_of p) ≡ Some s → place_section l (Some p) ≡ s.0
section-is l (place.Track t way) s e = ap (section_number l) e
section-is l (place.Point p side way) s e = ap (section_number l) e
section-is l (place.Outside b) s e = absurd (none-some s e)

-- a place that has a rear isn't outside
rear-inside : (p : Place) (r : Port) (b : BorderId) → rear p ≡ Some r → element_of p ≡ element.Border b → ⊥
rear-inside (place.Track t way) r b h e = absurd (cc (e))
rear-inside (place.Point p side way) r b h e = absurd (cc (e))
rear-inside (place.Outside c) r b h e = absurd (none-some r h)

pub place-in : (l : Site) → IsStation l → (p : Place) (r : Port) → HasPlace l p → rear p ≡ Some r → (s : SectionId) × (section_of l (element_of p) ≡ Some s)
place-in l station p r there h = in_section l station (element_of p) there (λ b e. rear-inside p r b h e)

-- ---- each place and its section, one after the other

abbrev AreIn : (ℕ → ℕ) → List ℕ → List SectionId → Type 0
AreIn section [] [] = Unit {0}
AreIn section (n ∷ ns) (s ∷ ss) = (section n ≡ s.0) × AreIn section ns ss
AreIn section _ _ = ⊥

path-in : (l : Site) → IsStation l → (path : List Passage) → Placed l path → AreIn (track_of l).section (map (passage_number l) path) (filter_map (section_of l) (elements path))
path-in l station [] placed = tt
path-in l station (g ∷ path) placed =
    let h = placed.0 in
    let at = place-in l station h.place g.entered h.there h.behind in
    let e : section_of l g.left.element ≡ Some at.0 = ap (section_of l) (sym h.on) ∙ at.1 in
    let rest = filter_map (section_of l) (elements path) in
    let here : (track_of l).section (passage_number l g) ≡ at.0.0 = ap (place_section l) (passage-at l g h) ∙ section-is l h.place at.0 at.1 in
    let In : List SectionId → Type 0 = λ ss. AreIn (track_of l).section (passage_number l g ∷ map (passage_number l) path) ss in
    subst In (sym (ap (λ o. cons_option o rest) e)) (here, path-in l station path placed.1)

sections_equiv : IsEquivalence same_section
sections_equiv = record { refl = λ s. nat_eq_equiv.refl s.0; symm = λ s t. nat_eq_equiv.symm s.0 t.0; congr = λ s t u. nat_eq_equiv.congr s.0 t.0 u.0 }

module _ (section : ℕ → ℕ) where
  -- the section of one of the places is one of the sections
  of-section : (ns : List ℕ) (ss : List SectionId) → AreIn section ns ss → (n : ℕ) → IsOf n ns → (s : SectionId) × Contains ss s × (section n ≡ s.0)
  of-section [] [] h n of = absurd of
  of-section [] (s ∷ ss) h n of = absurd h
  of-section (m ∷ ns) [] h n of = absurd h
  of-section (m ∷ ns) (s ∷ ss) h n (inl e) = (s, contains-here s ss, ap section (sym e) ∙ h.0)
  of-section (m ∷ ns) (s ∷ ss) h n (inr of) = let on = of-section ns ss h.1 n of in (on.0, contains-there s on.0 ss on.1, on.2)

  grouped-from : (n : ℕ) (ns : List ℕ) (k : SectionId) (ss : List SectionId) → section n ≡ k.0 → AreIn section ns ss → Distinct (dedup_from same_section k ss) → IsGrouped section (n ∷ ns)
  grouped-from n [] k ss at h d = (record { stays = λ again next of. absurd of }, tt)
  grouped-from n (m ∷ ns) k [] at h d = absurd h
  grouped-from n (m ∷ ns) k (s ∷ ss) at h d = by (same_section s k) refl d (λ d. grouped-from m ns s ss h.0 h.1 d)
    where
      by : (b : Bool) → same_section s k ≡ b → Distinct (cond b (dedup_from same_section k ss) (k ∷ dedup_from same_section s ss))
          → (Distinct (dedup_from same_section s ss) → IsGrouped section (m ∷ ns)) → IsGrouped section (n ∷ m ∷ ns)
      by true e d later =
          let same : s ≡ k = (section-decides s k).0 e in
          let D : SectionId → Type 0 = λ x. Distinct (dedup_from same_section x ss) in (
            record { stays = λ again next of back first. ap section (sym first) ∙ h.0 ∙ ap (λ (x : SectionId). x.0) same ∙ sym at },
            later (subst D (sym same) d),
          )
      by false e d later = (
        record { stays = λ again next of back first. absurd (again-absent again of back) },
        later (distinct-rest k (dedup_from same_section s ss) d),
      )
        where
          again-absent : (again : ℕ) → IsOf again (m ∷ ns) → section again ≡ section n → ⊥
          again-absent again of back =
              let on = of-section (m ∷ ns) (s ∷ ss) h again of in
              let kept : Contains (dedup same_section (s ∷ ss)) on.0 = Contains-dedup sections_equiv (λ s t e. (section-decides s t).0 e) (s ∷ ss) on.0 on.1 in
              let number : on.0.0 ≡ k.0 = sym on.2 ∙ back ∙ at in
              let same : k ≡ on.0 = λ i. record { 0 = sym number i } in
              distinct-first k on.0 (dedup_from same_section s ss) d kept same

  grouped-all : (ns : List ℕ) (ss : List SectionId) → AreIn section ns ss → Distinct (dedup same_section ss) → IsGrouped section ns
  grouped-all [] ss h d = tt
  grouped-all (n ∷ ns) [] h d = absurd h
  grouped-all (n ∷ ns) (k ∷ ss) h d = grouped-from n ns k ss h.0 h.1 d

pub path-grouped : (l : Site) → IsStation l → (path : List Passage) → Placed l path → Distinct (sections l path) → IsGrouped (track_of l).section (map (passage_number l) path)
path-grouped l station path placed d =
    grouped-all (track_of l).section (map (passage_number l) path) (filter_map (section_of l) (elements path)) (path-in l station path placed) d
