-- Set routes of which nothing is freed.
use Rattle.std.proofs.Common.{◌≡◌, ℕ, ◌<◌, drop, refl, sym, subst}
use Rattle.std.specs.List.{Contains}
use Rattle.ixl_state.specs.ixl_spec.Due.{HoldsPoint, HoldsSection}
use Rattle.ixl_state.specs.ixl_spec.Table.{Need, Row}
use Rattle.ixl_state.specs.ixl_spec.declared.phase.Phase.{Phase}
use Rattle.ixl_laws.specs.Apart.{DoNotConflict, IsWhole, StandApart}

holds_its_sections : (row : Row) (phase : Phase) (section : ℕ) → IsWhole row phase → Contains row.sections section → HoldsSection row phase section
holds_its_sections row phase section whole within = (whole.set, subst (λ n. Contains (drop n row.sections) section) (sym whole.freed) within)

holds_its_points : (row : Row) (phase : Phase) (need : Need) (point : ℕ) → IsWhole row phase → Contains row.needs need → need.point ≡ point → HoldsPoint row phase point need.side
holds_its_points row phase need point whole within same =
    (whole.set, (need, within, same, refl, subst (λ n. n < need.until) (sym whole.freed) (whole.held need within)))

pub whole_routes_apart : (number other : ℕ) (row other_row : Row) (phase other_phase : Phase) → StandApart number other row other_row phase other_phase →
    IsWhole row phase → IsWhole other_row other_phase → DoNotConflict number other row other_row
whole_routes_apart number other row other_row phase other_phase apart whole another_whole = record {
  entry = apart.entry;
  extra = apart.extra;
  listed = apart.listed;
  sections = λ section within also. apart.sections section (holds_its_sections row phase section whole within) (holds_its_sections other_row other_phase section another_whole also);
  points = λ need another within also same. apart.points need.point need.side another.side
      (holds_its_points row phase need need.point whole within refl) (holds_its_points other_row other_phase another need.point another_whole also (sym same));
}
