-- What is known of sections and points, as rows of bits.
use Rattle.std.specs.Prelude.{◌≡◌, ℕ, ◌<◌, ◌≤◌, ◌⊎◌, ◌&&◌, not, Bool, List, length, Option, Some, None, slice_get, if◌then◌else◌}
use Rattle.std.specs.FinSet.{contains}
use Rattle.ixl_spec.specs.bit_row.Places.{Places}
use Rattle.ixl_spec.specs.sci_telegram.declared.message.Side.{Side}
use Rattle.ixl_spec.specs.sci_telegram.declared.message.Side.TheVariants as sides
use Rattle.ixl_spec.specs.ixl_client.Client.{is_available, is_ready}
use Rattle.ixl_spec.specs.State.{KnownDetectorState, KnownPointState}
use Rattle.ixl_spec.specs.Table.{at}
use Rattle.ixl_spec.specs.View.{is_side}
use Rattle.ixl_known.specs.declared.rows.PointRows.{PointRows}
use Rattle.ixl_known.specs.declared.rows.SectionRows.{SectionRows}
use Rattle.ixl_known.specs.Field.{FieldState}

-- the detectors tell a section as clear, or as occupied
abbrev pub is_told_clear : List (ℕ × ℕ) → List KnownDetectorState → ℕ → Bool
is_told_clear reporters detectors section =
    at reporters section (λ reporter. at detectors reporter.0 (λ detector. is_ready detector.client.stage && not (contains detector.occupied reporter.1)))

abbrev pub is_told_occupied : List (ℕ × ℕ) → List KnownDetectorState → ℕ → Bool
is_told_occupied reporters detectors section =
    at reporters section (λ reporter. at detectors reporter.0 (λ detector. is_ready detector.client.stage && contains detector.occupied reporter.1))

-- whether the section at a place of a detector was last told as occupied; nothing where it isn't ready
abbrev pub told_by : ℕ → Option KnownDetectorState → Option Bool
told_by place None = None
told_by place (Some detector) = if is_ready detector.client.stage then Some (contains detector.occupied place) else None

abbrev pub told_as : List KnownDetectorState → ℕ × ℕ → Option Bool
told_as detectors reporter = told_by reporter.1 (slice_get detectors reporter.0)

pub record AreSectionRows (reporters : List (ℕ × ℕ)) (detectors : List KnownDetectorState) (rows : SectionRows) : Type 0 where
  pub clear : (section : ℕ) → contains rows.clear section ≡ is_told_clear reporters detectors section
  pub occupied : (section : ℕ) → contains rows.occupied section ≡ is_told_occupied reporters detectors section

-- a section isn't reported by this detector
abbrev pub IsReportedElsewhere : ℕ → List (ℕ × ℕ) → ℕ → Type 0
IsReportedElsewhere place reporters section = (reporter : ℕ × ℕ) → slice_get reporters section ≡ Some reporter → reporter.0 ≡ place → ⊥

-- a row is right at the first so many sections, and at those that this detector doesn't report
abbrev pub IsRightSoFar : ℕ → ℕ → List (ℕ × ℕ) → (ℕ → Bool) → Places → Type 0
IsRightSoFar place done reporters test row = (section : ℕ) → IsReportedElsewhere place reporters section ⊎ section < done → contains row section ≡ test section

pub record AreRowsSoFar (place done : ℕ) (reporters : List (ℕ × ℕ)) (detectors : List KnownDetectorState) (rows : SectionRows) : Type 0 where
  pub clear : IsRightSoFar place done reporters (is_told_clear reporters detectors) rows.clear
  pub occupied : IsRightSoFar place done reporters (is_told_occupied reporters detectors) rows.occupied

-- a point is available, or known at a side
abbrev pub is_free : List KnownPointState → ℕ → Bool
is_free known_points point = at known_points point (λ known_point. is_available known_point.client.stage)

abbrev pub is_at : Side → List KnownPointState → ℕ → Bool
is_at side known_points point = at known_points point (λ known_point. is_available known_point.client.stage && is_side side known_point.side)

pub record ArePointRows (known_points : List KnownPointState) (rows : PointRows) : Type 0 where
  pub available : (point : ℕ) → contains rows.available point ≡ is_free known_points point
  pub right : (point : ℕ) → contains rows.right point ≡ is_at sides.Right known_points point
  pub left : (point : ℕ) → contains rows.left point ≡ is_at sides.Left known_points point

-- what holds of every field
pub record IsField (field : FieldState) (sections : SectionRows) (points : PointRows) : Type 0 where
  pub few_sections : length field.reporters ≤ 64
  pub few_points : length field.known_points ≤ 64
  pub sections_are : AreSectionRows field.reporters field.detectors sections
  pub points_are : ArePointRows field.known_points points
