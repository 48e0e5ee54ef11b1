-- The tracks between a lock and a border, one after the other, as a loop finds them.
use Rattle.std.proofs.Common.{◌≡◌, ◌<◌, ◌≤◌, ◌-◌, ◌+◌, ◌++◌, ◌∙◌, ℕ, suc, false, true, List, [], ◌∷◌, Option, Some, None, arith, refl, sym}
use Rattle.control_table.specs.layout.declared.entries.Joint.{Joint}
use Rattle.control_table.specs.layout.declared.ids.BorderId.{BorderId}
use Rattle.control_table.specs.layout.declared.ids.TrackId.{TrackId}
use Rattle.control_table.specs.layout.declared.port.Port.{Port}
use Rattle.railway_layout.specs.Way.{is_border, joined_to, track_behind, way_on}

module _ (joints : List Joint) (b : BorderId) (most i : ℕ) (p : Port) (before : List TrackId) (total : Option (List TrackId)) where
  pub way_found : i < most → is_border b (joined_to joints p) ≡ true → way_on joints b (most - i) p before ≡ total → total ≡ Some before
  unfolding way_on
  way_found lt there so_far =
      let n : most - i ≡ suc (most - (i + 1)) = omega arith in
      let one : way_on joints b (most - i) p before ≡ Some before = rw (n, there) refl in
      sym so_far ∙ one

  pub way_lost : i < most → is_border b (joined_to joints p) ≡ false → track_behind joints p ≡ None → way_on joints b (most - i) p before ≡ total → total ≡ None
  unfolding way_on
  way_lost lt elsewhere behind so_far =
      let n : most - i ≡ suc (most - (i + 1)) = omega arith in
      let one : way_on joints b (most - i) p before ≡ None = rw (n, elsewhere, behind) refl in
      sym so_far ∙ one

  pub way_is_done : most ≤ i → way_on joints b (most - i) p before ≡ total → total ≡ None
  unfolding way_on
  way_is_done le so_far =
      let n : most - i ≡ 0 = omega arith in
      let one : way_on joints b (most - i) p before ≡ None = rw n refl in
      sym so_far ∙ one

pub way_goes_on : (joints : List Joint) (b : BorderId) (most i : ℕ) (p : Port) (before : List TrackId) (total : Option (List TrackId)) (track : TrackId) (left : Port)
    → i < most → is_border b (joined_to joints p) ≡ false → track_behind joints p ≡ Some (track, left)
    → way_on joints b (most - i) p before ≡ total → way_on joints b (most - (i + 1)) left (before ++ track ∷ []) ≡ total
unfolding way_on
way_goes_on joints b most i p before total track left lt elsewhere behind so_far =
    let n : most - i ≡ suc (most - (i + 1)) = omega arith in
    let one : way_on joints b (most - i) p before ≡ way_on joints b (most - (i + 1)) left (before ++ track ∷ []) = rw (n, elsewhere, behind) refl in
    sym one ∙ so_far
