-- What the tests of closed things decide.
use Rattle.std.proofs.Common.{ℕ}
use Rattle.closings.specs.declared.thing.Thing.{Thing}
use Rattle.closings.specs.declared.thing.Thing.TheVariants.{Section, Point, Signal, Route}
use Rattle.closings.specs.Closed.{IsClosed, is_closed}
use Rattle.ixl_spec.specs.Table.{Table}
use Rattle.ixl_spec.specs.State.{IxlState}
use Rattle.ixl_spec.specs.Operations.{counts_as_closed, lies_in_closed, section_thing}
use Rattle.ixl_spec.specs.Due.{CountsAsClosed, LiesInClosed}
use Rattle.ixl_spec.proofs.Decide.{Decides, at_decides, both_decide, itself_decides, negation_decides, or_decide}
use Rattle.ixl_spec.proofs.Knows.{known_decides}

pub lies_in_closed_decides : (table : Table) (ixl : IxlState) (point : ℕ) → Decides (lies_in_closed table ixl point) (LiesInClosed table ixl point)
unfolding lies_in_closed
lies_in_closed_decides table ixl point =
    at_decides table.point_sections point _ (λ section. IsClosed ixl.closed (section_thing section)) (λ section. itself_decides (is_closed ixl.closed (section_thing section)))

pub counts_decides : (table : Table) (ixl : IxlState) (thing : Thing) → Decides (counts_as_closed table ixl thing) (CountsAsClosed table ixl thing)
counts_decides table ixl (Section s) = itself_decides (is_closed ixl.closed (Section s))
counts_decides table ixl (Point p side) = or_decide _ _ _ _ (itself_decides (is_closed ixl.closed (Point p side)))
    (both_decide _ _ _ _ (lies_in_closed_decides table ixl p.0) (negation_decides _ _ (known_decides ixl p.0 side)))
counts_decides table ixl (Signal s) = itself_decides (is_closed ixl.closed (Signal s))
counts_decides table ixl (Route r) = itself_decides (is_closed ixl.closed (Route r))
