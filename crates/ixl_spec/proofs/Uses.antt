-- What the tests of what a route uses decide.
use Rattle.std.proofs.Common.{◌≡◌, ℕ, ◌<◌, Bool, true, false, refl, ap, sym, subst}
use Rattle.std.specs.Prelude.{IsTrue}
use Rattle.std.specs.List.{Contains}
use Rattle.std.proofs.lemmas.Bool.{true≢false, false≢true}
use Rattle.closings.specs.declared.thing.Thing.{Thing}
use Rattle.closings.specs.declared.thing.Thing.TheVariants.{Section, Point, Signal, Route}
use Rattle.closings.specs.declared.thing.Named.{Named}
use Rattle.closings.specs.declared.thing.Named.TheVariants.{One, BothSides}
use Rattle.closings.specs.Things.{Names, place_of}
use Rattle.ixl_spec.specs.Table.{Need, Row, Table}
use Rattle.ixl_spec.specs.State.{IxlState, RouteState}
use Rattle.ixl_spec.specs.View.{freed_sections, is_set}
use Rattle.ixl_spec.specs.Operations.{awaits_in_named, awaits_point_in, has_named, has_thing, keeps_open, section_thing, uses, uses_named}
use Rattle.ixl_spec.specs.Due.{At, Known, Uses}
use Rattle.ixl_spec.specs.OperationCauses.{AwaitsPointIn, IsNamed, IsThing, KeepsOpen}
use Rattle.ixl_spec.proofs.Decide.{Decides, any_decides, at_decides, both_decide, equal_decides, equally, itself_decides, less_decides, negation_decides, not_decides, or_decide}
use Rattle.ixl_spec.proofs.Knows.{known_decides}
use Rattle.ixl_spec.proofs.HoldTests.{need_decides, point_at_decides, point_decides, section_decides}

-- ---- things

pub thing_decides : (table : Table) (ixl : IxlState) (thing : Thing) → Decides (has_thing table ixl thing) (IsThing table ixl thing)
thing_decides table ixl (Section s) = less_decides _ _
thing_decides table ixl (Point p side) = less_decides _ _
thing_decides table ixl (Signal s) = less_decides _ _
thing_decides table ixl (Route r) = less_decides _ _

pub named_decides : (table : Table) (ixl : IxlState) (named : Named) → Decides (has_named table ixl named) (IsNamed table ixl named)
named_decides table ixl (One thing) = thing_decides table ixl thing
named_decides table ixl (BothSides p) = less_decides _ _

-- ---- what a route uses

pub uses_decides : (number : ℕ) (row : Row) (route : RouteState) (thing : Thing) → Decides (uses number row route thing) (Uses number row route thing)
uses_decides number row route (Section s) = section_decides row route.phase s.0
uses_decides number row route (Point p side) = point_at_decides row route.phase p.0 side
uses_decides number row route (Signal s) = both_decide _ _ _ _ (itself_decides (is_set route.phase)) (equal_decides row.entry s.0)
uses_decides number row route (Route r) = both_decide _ _ _ _ (itself_decides (is_set route.phase)) (equal_decides number r.0)

pub uses_named_decides : (number : ℕ) (row : Row) (route : RouteState) (named : Named) →
    Decides (uses_named number row route named) ((thing : Thing) × Names named thing × Uses number row route thing)
uses_named_decides number row route (One thing) = equally _ _ _ (uses_decides number row route thing)
    (λ h. (thing, refl, h)) (λ h. subst (Uses number row route) h.1 h.2)
uses_named_decides number row route (BothSides p) = equally _ _ _ (point_decides row route.phase p.0)
    (λ h. (Point p h.0, (h.0, refl), h.1)) (λ h. (h.1.0, subst (Uses number row route) h.1.1 h.2))

-- ---- points that a route awaits in a section

pub awaits_decides : (table : Table) (ixl : IxlState) (row : Row) (route : RouteState) (section : ℕ) →
    Decides (awaits_point_in table ixl row route section) (AwaitsPointIn table ixl section row route)
awaits_decides table ixl row route section = equally _ _ _
    (any_decides _ (λ need. (At table.point_sections need.point (λ own. own ≡ section) × (IsTrue (is_set route.phase) × (freed_sections route.phase < need.until))) × (Known ixl need.point need.side → ⊥)) row.needs
    (λ need. both_decide _ _ _ _ (both_decide _ _ _ _ (at_decides table.point_sections need.point _ (λ own. own ≡ section) (λ own. equal_decides own section)) (need_decides route.phase need))
    (negation_decides _ _ (known_decides ixl need.point need.side))))
    there back
  where
    Waits : Type 0
    Waits = (need : Need) × Contains row.needs need × ((At table.point_sections need.point (λ own. own ≡ section) × (IsTrue (is_set route.phase) × (freed_sections route.phase < need.until))) × (Known ixl need.point need.side → ⊥))

    there : Waits → AwaitsPointIn table ixl section row route
    there h = (h.0.point, h.0.side, (h.2.0.1.0, (h.0, h.1, refl, refl, h.2.0.1.1)), h.2.0.0, h.2.1)

    back : AwaitsPointIn table ixl section row route → Waits
    back (point, side, (set, (need, within, is_point, is_side, less)), lies, unknown) = (
      need,
      within,
      (
        (subst (λ p. At table.point_sections p (λ own. own ≡ section)) (sym is_point) lies, (set, less)),
        λ known. unknown (subst (λ p. Known ixl p side) is_point (subst (Known ixl need.point) is_side known)),
      ),
    )

is_section : Thing → Bool
is_section (Section s) = true
is_section (Point p side) = false
is_section (Signal s) = false
is_section (Route r) = false

-- what is no section names none
abbrev AwaitsIn : Table → IxlState → Row → RouteState → Named → Type 0
AwaitsIn table ixl row route named = (section : ℕ) × Names named (section_thing section) × AwaitsPointIn table ixl section row route

pub awaits_named_decides : (table : Table) (ixl : IxlState) (row : Row) (route : RouteState) (named : Named) →
    Decides (awaits_in_named table ixl row route named) (AwaitsIn table ixl row route named)
unfolding is_section
awaits_named_decides table ixl row route (One (Section s)) = equally _ _ _ (awaits_decides table ixl row route s.0)
    (λ h. (s.0, refl, h)) (λ h. subst (λ n. AwaitsPointIn table ixl n row route) (ap place_of h.1) h.2)
awaits_named_decides table ixl row route (One (Point p side)) = record { yes = λ b. absurd (false≢true b); shown = λ h. absurd (true≢false (ap is_section h.1)) }
awaits_named_decides table ixl row route (One (Signal s)) = record { yes = λ b. absurd (false≢true b); shown = λ h. absurd (true≢false (ap is_section h.1)) }
awaits_named_decides table ixl row route (One (Route r)) = record { yes = λ b. absurd (false≢true b); shown = λ h. absurd (true≢false (ap is_section h.1)) }
awaits_named_decides table ixl row route (BothSides p) = record { yes = λ b. absurd (false≢true b); shown = λ h. absurd (true≢false (ap is_section h.1.1)) }

pub keeps_open_decides : (table : Table) (ixl : IxlState) (named : Named) (number : ℕ) (row : Row) (route : RouteState) →
    Decides (keeps_open table ixl named number row route) (KeepsOpen table ixl named number row route)
keeps_open_decides table ixl named number row route = both_decide _ _ _ _ (not_decides route.cancelled)
    (or_decide _ _ _ _ (uses_named_decides number row route named) (awaits_named_decides table ixl row route named))
