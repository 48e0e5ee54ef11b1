-- The tracks of a section, one after the other.
use Rattle.std.proofs.Common.{◌≡◌, ◌<◌, ◌≤◌, ◌+◌, ◌∙◌, ℕ, suc, Bool, false, true, List, arith, drop, get_or, length, refl, sym}
use Rattle.std.proofs.lemmas.List.{drop_all, drop_more}
use Rattle.control_table.specs.layout.declared.entries.Track.{Track}
use Rattle.control_table.specs.layout.declared.ids.SectionId.{SectionId}
use Rattle.control_table.specs.layout.declared.ids.TrackId.{TrackId}
use Rattle.railway_layout.specs.Rules.{is_astray, tracks_among}

module _ (way : List TrackId) (s : SectionId) (tracks : List Track) (i : ℕ) (total : Bool) where
  pub among_goes_on : (track : Track) → i < length tracks → track ≡ get_or tracks i track → is_astray way s i track ≡ false → tracks_among way s i (drop i tracks) ≡ total → tracks_among way s (i + 1) (drop (i + 1) tracks) ≡ total
  unfolding tracks_among
  among_goes_on track lt at h so_far =
      let n : i + 1 ≡ suc i = omega arith in
      let one : tracks_among way s i (drop i tracks) ≡ tracks_among way s (i + 1) (drop (i + 1) tracks) = rw (drop_more tracks i track lt, ← at, h, n) refl in
      sym one ∙ so_far

  pub among_ends : (track : Track) → i < length tracks → track ≡ get_or tracks i track → is_astray way s i track ≡ true → tracks_among way s i (drop i tracks) ≡ total → false ≡ total
  unfolding tracks_among
  among_ends track lt at h so_far =
      let one : tracks_among way s i (drop i tracks) ≡ false = rw (drop_more tracks i track lt, ← at, h) refl in
      sym one ∙ so_far

  pub among_is_done : length tracks ≤ i → tracks_among way s i (drop i tracks) ≡ total → true ≡ total
  unfolding tracks_among
  among_is_done le so_far =
      let one : tracks_among way s i (drop i tracks) ≡ true = rw (drop_all i tracks le) refl in
      sym one ∙ so_far
