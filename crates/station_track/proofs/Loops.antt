-- Lists that loops build one place after the other.
use Rattle.std.proofs.Common.{◌≡◌, ◌∙◌, ℕ, zero, suc, Bool, true, false, List, [], ◌∷◌, ◌++◌, Option, Some, None, refl, sym, ap, append_assoc}
use Rattle.std.specs.Prelude.{if◌then◌else◌}
use Rattle.std.specs.Option.{option_map}
use Rattle.control_table.specs.layout.declared.port.Port.{Port}
use Rattle.control_table.specs.layout.declared.port.Element.{Element}
use Rattle.control_table.specs.layout.declared.port.Element.TheVariants as element
use Rattle.control_table.specs.layout.Entries.{Site}
use Rattle.control_table.specs.layout.Station.{HasElement, IsStation}
use Rattle.layout_text.specs.declared.entries.End.{End}
use Rattle.layout_text.specs.declared.entries.End.TheVariants as end
use Rattle.station_track.specs.declared.place.Place.{Place}
use Rattle.station_track.specs.Places.{place_number}
use Rattle.station_track.specs.Ports.{front, place_left, place_between, track_behind, beyond}
use Rattle.station_track.specs.Throats.{has_signal, throat_over, throat_from, none_at_all}
use Rattle.station_track.specs.Meaning.{IfThere, IfPort}
use Rattle.station_track.proofs.Joints.{beyond-joined, joined-there}

-- ---- the places of a route

left-there : (l : Site) (e : Element) (entered left : End) → HasElement l e → IfThere l (place_left e entered left)
left-there l (element.Track t) entered end.A h = h
left-there l (element.Track t) entered end.B h = h
left-there l (element.Point p) entered end.Left h = h
left-there l (element.Point p) entered end.Right h = h
left-there l (element.Point p) end.Left end.Tip h = h
left-there l (element.Point p) end.Right end.Tip h = h
left-there l (element.Border b) entered end.A h = tt
left-there l (element.Border b) entered end.B h = tt
left-there l (element.Border b) entered end.Left h = tt
left-there l (element.Border b) entered end.Right h = tt
left-there l (element.Border b) entered end.Tip h = tt
left-there l (element.Border b) entered end.End h = tt
left-there l e entered way h = tt

pub between-there : (l : Site) (entered : Option Port) (left : Port) → HasElement l left.element → IfThere l (place_between entered left)
between-there l None left h = tt
between-there l (Some entered) left h = left-there l left.element entered.end left.end h

-- ---- a throat

abbrev pub with_front : List ℕ → Option (List ℕ) → Option (List ℕ)
with_front made later = option_map (λ ns. made ++ ns) later

regroup : (made : List ℕ) (n : ℕ) (later : Option (List ℕ)) → with_front made (option_map (λ ns. n ∷ ns) later) ≡ with_front (made ++ n ∷ []) later
regroup made n None = refl
regroup made n (Some ns) = ap Some (sym (append_assoc made (n ∷ []) ns))

module _ (l : Site) (made : List ℕ) (n : ℕ) (entered : Option Port) (total : Option (List ℕ)) where
  abbrev Over : Bool → Place → Option (List ℕ)
  Over has p = if has then Some (place_number l p ∷ []) else option_map (λ ns. place_number l p ∷ ns) (throat_from l n (beyond l.joints (front p)))

  pub throat-goes_on : (p : Place) → track_behind entered ≡ Some p → has_signal l (front p) ≡ false → with_front made (throat_from l (suc n) entered) ≡ total
      → with_front (made ++ place_number l p ∷ []) (throat_from l n (beyond l.joints (front p))) ≡ total
  throat-goes_on p at dark so_far =
      let one : with_front made (throat_from l (suc n) entered) ≡ with_front made (Over false p) =
      ap (λ o. with_front made (throat_over l (throat_from l n) o)) at ∙ ap (λ b. with_front made (Over b p)) dark in
      sym (regroup made (place_number l p) (throat_from l n (beyond l.joints (front p)))) ∙ sym one ∙ so_far

  pub throat-ends : (p : Place) → track_behind entered ≡ Some p → has_signal l (front p) ≡ true → with_front made (throat_from l (suc n) entered) ≡ total
      → made ++ place_number l p ∷ [] ≡ none_at_all total
  throat-ends p at lit so_far =
      let one : with_front made (throat_from l (suc n) entered) ≡ with_front made (Over true p) =
      ap (λ o. with_front made (throat_over l (throat_from l n) o)) at ∙ ap (λ b. with_front made (Over b p)) lit in
      ap none_at_all (sym one ∙ so_far)

  pub throat-stops : track_behind entered ≡ None → with_front made (throat_from l (suc n) entered) ≡ total → [] ≡ none_at_all total
  throat-stops at so_far =
      let one : with_front made (throat_from l (suc n) entered) ≡ None = ap (λ o. with_front made (throat_over l (throat_from l n) o)) at in
      ap none_at_all (sym one ∙ so_far)

pub throat-is_done : (l : Site) (made : List ℕ) (entered : Option Port) (total : Option (List ℕ)) → with_front made (throat_from l zero entered) ≡ total → [] ≡ none_at_all total
throat-is_done l made entered total so_far = ap none_at_all so_far

-- what is joined to a port of a station is there
pub beyond-there : (l : Site) → IsStation l → (p : Port) → IfPort l (beyond l.joints p)
beyond-there l station p = by (beyond l.joints p) refl where
  by : (o : Option Port) → beyond l.joints p ≡ o → IfPort l o
  by None e = tt
  by (Some q) e = (joined-there l station p q (beyond-joined l p q e)).1
