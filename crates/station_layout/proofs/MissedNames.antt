-- The first name that isn't there, looked for one item after the other.
use Rattle.std.proofs.Common.{◌≡◌, ◌∙◌, ℕ, ◌+◌, ◌<◌, List, length, drop, get_or, Option, Some, None, ap, sym}
use Rattle.std.proofs.lemmas.List.{at_drop_more}
use Rattle.std.specs.Option.{option_or}
use Rattle.layout_text.specs.Written.{LayoutText}
use Rattle.layout_text.specs.declared.fault.Place.{Place}
use Rattle.station_layout.specs.Places.{counted}
use Rattle.station_layout.specs.UnknownAdvice.{first_missed, missed, spot_of}
use Rattle.station_layout.specs.declared.advice.EntryAdvice.{EntryAdvice}
use Rattle.station_layout.specs.declared.advice.Missed.{Missed}
use Rattle.station_layout.specs.declared.field_key.FieldKey.{FieldKey}

-- of these items so many were looked at, and so many counted
module _ {A : Type 0} (w : LayoutText) (place : Place) (key : FieldKey) (name_of : A → Missed) (items : List A) (seen at : ℕ) (d : A) (whole : Option EntryAdvice) where
  next : seen < length items
      → first_missed w place key name_of at (drop seen items)
      ≡ option_or (missed w (spot_of place key (counted at)) (name_of (get_or items seen d))) (first_missed w place key name_of (counted at) (drop (seen + 1) items))
  next within = at_drop_more (first_missed w place key name_of at) items seen d within

  pub missed_here : (what : EntryAdvice) → seen < length items → missed w (spot_of place key (counted at)) (name_of (get_or items seen d)) ≡ Some what
      → first_missed w place key name_of at (drop seen items) ≡ whole → Some what ≡ whole
  missed_here what within here so =
      sym (next within ∙ ap (λ o. option_or o (first_missed w place key name_of (counted at) (drop (seen + 1) items))) here) ∙ so

  pub none_missed : seen < length items → missed w (spot_of place key (counted at)) (name_of (get_or items seen d)) ≡ None
      → first_missed w place key name_of at (drop seen items) ≡ whole → first_missed w place key name_of (counted at) (drop (seen + 1) items) ≡ whole
  none_missed within nothing so =
      sym (next within ∙ ap (λ o. option_or o (first_missed w place key name_of (counted at) (drop (seen + 1) items))) nothing) ∙ so
