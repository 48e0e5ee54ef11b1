-- The points on a path that are written at a side, port by port, and the words of rows that hold.
use Rattle.std.proofs.Common.{◌≡◌, ◌∙◌, ℕ, ◌+◌, ◌<◌, ◌++◌, Bool, true, false, get_or, List, ◌∷◌, filter, length, drop, Option, Some, None, ap, refl}
use Rattle.std.proofs.lemmas.List.{drop_more}
use Rattle.std.specs.Borrow.{Bor}
use Rattle.std.specs.List.{cons_option, filter_map}
use Rattle.control_table.specs.sci_telegram.declared.message.Side.{Side}
use Rattle.control_table.specs.layout.declared.ids.PointId.{PointId}
use Rattle.control_table.specs.layout.declared.port.Element.{Element}
use Rattle.control_table.specs.layout.declared.port.Element.TheVariants as element
use Rattle.control_table.specs.layout.declared.port.Port.{Port}
use Rattle.station_layout.specs.Reasons.{word_if}
use Rattle.station_layout.specs.Row.{is_written, point_of, points_on}
use Rattle.station_layout.specs.inside.Joined.{words_held}

module _ (points : List (PointId × Side)) (side : Side) (path : List Port) (place : ℕ) (d : Port) where
  -- what is left begins with this port
  next : (o : Option PointId) → place < length path → point_of (get_or path place d).element ≡ o
      → points_on (drop place path) points side ≡ filter (is_written points side) (cons_option o (filter_map (λ port. point_of port.element) (drop (place + 1) path)))
  next o within is =
      ap (λ left. points_on left points side) (drop_more path place d within)
      ∙ ap (λ o. filter (is_written points side) (cons_option o (filter_map (λ port. point_of port.element) (drop (place + 1) path)))) is

  -- a point that is written at the side is found, another isn't, nor is what is no point
  pub found : place < length path → (p : PointId) → point_of (get_or path place d).element ≡ Some p → is_written points side p ≡ true
      → points_on (drop place path) points side ≡ p ∷ points_on (drop (place + 1) path) points side
  found within p is written = next (Some p) within is ∙ rw written refl

  pub not_found : place < length path → (p : PointId) → point_of (get_or path place d).element ≡ Some p → is_written points side p ≡ false
      → points_on (drop place path) points side ≡ points_on (drop (place + 1) path) points side
  not_found within p is written = next (Some p) within is ∙ rw written refl

  pub no_point : place < length path → point_of (get_or path place d).element ≡ None → points_on (drop place path) points side ≡ points_on (drop (place + 1) path) points side
  no_point within is = next None within is

pub other_element : (e : Element) → ((p : PointId) → e ≡ element.Point p → ⊥) → point_of e ≡ None
other_element (element.Track t) other = refl
other_element (element.Point p) other = absurd (other p refl)
other_element (element.Border b) other = refl

-- a word is told where its row holds
module _ (rows : List (Bool × Bor (List ℕ))) (place : ℕ) (d : Bool × Bor (List ℕ)) where
  pub held : place < length rows → (get_or rows place d).0 ≡ true → words_held (drop place rows) ≡ (get_or rows place d).1.now ∷ words_held (drop (place + 1) rows)
  held within holds = ap words_held (drop_more rows place d within) ∙ ap (λ b. word_if b (get_or rows place d).1.now ++ words_held (drop (place + 1) rows)) holds

  pub not_held : place < length rows → (get_or rows place d).0 ≡ false → words_held (drop place rows) ≡ words_held (drop (place + 1) rows)
  not_held within holds = ap words_held (drop_more rows place d within) ∙ ap (λ b. word_if b (get_or rows place d).1.now ++ words_held (drop (place + 1) rows)) holds
