-- What a station has is what its layout has, and fits rows of bits.
use Rattle.std.proofs.Common.{◌≡◌, ◌↔◌, ℕ, nat_lt, ◌<◌, ◌≤◌, true, length, arith}
use Rattle.std.specs.Prelude.{IsTrue}
use Rattle.std.proofs.lemmas.Bool.{lt-ltb, ltb-true}
use Rattle.ixl_spec.specs.layout.Entries.{Site}
use Rattle.ixl_spec.specs.closings.Things.{HasNamed, HasThing, IsPlaced}
use Rattle.ixl_spec.specs.closings.declared.thing.Thing.{Thing}
use Rattle.ixl_spec.specs.closings.declared.thing.Named.{Named}
use Rattle.ixl_spec.specs.closings.declared.thing.Named.TheVariants.{One, BothSides}
use Rattle.ixl_spec.specs.closings.declared.thing.Thing.TheVariants.{Section, Point, Signal, Route}
use Rattle.ixl_spec.specs.Operations.{has_named, has_thing}
use Rattle.ixl_spec.specs.State.{IxlState}
use Rattle.ixl_spec.specs.Table.{Table}

pub is_placed : (table : Table) (ixl : IxlState) (named : Named) → length table.reporters ≤ 64 → length table.point_sections ≤ 64 → length ixl.known_signals ≤ 64 → length table.rows ≤ 64 →
    has_named table ixl named ≡ true → IsPlaced named
is_placed table ixl (One (Section s)) sections points signals routes is = let within = ltb-true s.0 (length table.reporters) is in omega (arith, sections, within)
is_placed table ixl (One (Point p side)) sections points signals routes is = let within = ltb-true p.0 (length table.point_sections) is in omega (arith, points, within)
is_placed table ixl (One (Signal s)) sections points signals routes is = let within = ltb-true s.0 (length ixl.known_signals) is in omega (arith, signals, within)
is_placed table ixl (One (Route r)) sections points signals routes is = let within = ltb-true r.0 (length table.rows) is in omega (arith, routes, within)
is_placed table ixl (BothSides p) sections points signals routes is = let within = ltb-true p.0 (length table.point_sections) is in omega (arith, points, within)

-- a place in a list is one in another that is as long
in_both : (place count all : ℕ) → count ≡ all → IsTrue (nat_lt place count) ↔ (place < all)
in_both place count all same = (λ is. let within = ltb-true place count is in omega (arith, same, within), λ within. lt-ltb place count (omega (arith, same, within)))

module _ (site : Site) (table : Table) (ixl : IxlState) (sections : length table.reporters ≡ length site.sections) (points : length table.point_sections ≡ length site.points)
    (signals : length ixl.known_signals ≡ length site.signals) (routes : length table.rows ≡ length site.routes) where
  pub thing_there : (thing : Thing) → IsTrue (has_thing table ixl thing) ↔ HasThing site thing
  thing_there (Section s) = in_both s.0 (length table.reporters) (length site.sections) sections
  thing_there (Point p side) = in_both p.0 (length table.point_sections) (length site.points) points
  thing_there (Signal s) = in_both s.0 (length ixl.known_signals) (length site.signals) signals
  thing_there (Route r) = in_both r.0 (length table.rows) (length site.routes) routes

  pub named_there : (named : Named) → IsTrue (has_named table ixl named) ↔ HasNamed site named
  named_there (One thing) = thing_there thing
  named_there (BothSides p) = in_both p.0 (length table.point_sections) (length site.points) points
