-- The control table, as the rules read it. Signals, points, detectors, sections and routes are numbers: their places in
-- the layout.
use Rattle.std.specs.Prelude.{ℕ, Bool, true, false, List, Option, Some, None, slice_get}
use Rattle.closings.specs.layout.Entries.{Site}
use Rattle.closings.specs.sci_telegram.declared.message.Aspect.{Aspect}
use Rattle.closings.specs.sci_telegram.declared.message.Side.{Side}
use Rattle.closings.specs.sci_telegram.declared.message.Side.TheVariants as sides

-- A point that a route requires. The route holds it until this many of its sections are freed: a point on the path until
-- its own section is, and a flank point until the sections of all points that it protects are.
pub record Need : Type 0 where
  pub point : ℕ
  pub side : Side
  pub until : ℕ

pub record Row : Type 0 where
  -- the signal at which the route begins, and the aspect that it shows for the route
  pub entry : ℕ
  pub aspect : Aspect
  -- the sections of its path, in order
  pub sections : List ℕ
  -- the points that it requires, in layout order
  pub needs : List Need
  -- the sections of the approach to its signal
  pub approach : List ℕ
  -- the routes that it lists as extra conflicts
  pub extra : List ℕ

pub record Table : Type 0 where
  pub rows : List Row
  -- the section in which each point lies
  pub point_sections : List ℕ
  -- the detector that reports each section, and the section's place in the detector's own order
  pub reporters : List (ℕ × ℕ)
  -- the sections of each detector, in its own order
  pub detectors : List (List ℕ)

-- the control table of a site
pub record SitedTable : Type 0 where
  pub site : Site
  pub table : Table

abbrev pub is_same_side : Side → Side → Bool
is_same_side sides.Right sides.Right = true
is_same_side sides.Left sides.Left = true
is_same_side _ _ = false

-- a test of what a list has at a place; where it has nothing there the test fails
abbrev pub passes : {A : Type 0} → (A → Bool) → Option A → Bool
passes test None = false
passes test (Some one) = test one

unfoldable pub at : {A : Type 0} → List A → ℕ → (A → Bool) → Bool
at list place test = passes test (slice_get list place)
