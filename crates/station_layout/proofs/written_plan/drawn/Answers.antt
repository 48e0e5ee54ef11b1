use Rattle.std.proofs.Common.{ℕ, List, Option, Result, Ok, Err, IfErr, IfOk, option_copied}
use Rattle.control_table.specs.layout.Entries.{Site}
use Rattle.station_check.specs.Report.{IsSound}
use Rattle.station_check.specs.declared.failure.Failure.{Failure}
use Rattle.station_check.specs.declared.failure.Failure.TheVariants.{Picture, Route, OutOfMemory}
use Rattle.station_layout.specs.PlanText.{CanPlan, ExplainsDrawn, IsDrawn}
use Rattle.station_layout.specs.inside.Drawn.{ExplainsDrawnOf, IsAnswered, IsDrawnOf}
use Rattle.station_layout.proofs.written_plan.drawn.Goals as goal

module _ (layout : List ℕ) (name picture : Option (List ℕ)) (site : Site) (sound : IsSound layout site) where
  can : IsAnswered site name picture → CanPlan layout name picture
  can answered = record { site = site; sound = sound; route = answered.route; asked = answered.asked; readable = answered.readable }

  is_drawn : {X : Type 0} (view : X → List ℕ) (result : Result X Failure) → IfOk result (λ text. IsDrawnOf site name picture (view text)) → IfOk result (λ text. IsDrawn layout name picture (view text))
  unfolding can
  is_drawn view (Ok text) drawn = record { can = can drawn.answered; seen = drawn.seen; seen_in = drawn.seen_in; drawn = drawn.drawn }
  is_drawn view (Err why) drawn = drawn

  why_none : (why : Failure) → ExplainsDrawnOf site name picture why → ExplainsDrawn layout name picture why
  why_none Route unknown = (site, sound, unknown)
  why_none (Picture fault) faulty = (site, sound, faulty.0, faulty.1, faulty.2)
  why_none OutOfMemory answered = can answered
  why_none other never = absurd never

  explained : {X : Type 0} (result : Result X Failure) → IfErr result (ExplainsDrawnOf site name picture) → IfErr result (ExplainsDrawn layout name picture)
  explained (Ok text) why = why
  explained (Err failure) why = why_none failure why

pub returns-clause-drawn : goal.returns-clause-drawn
returns-clause-drawn c =
    is_drawn c.args.layout.now (option_copied c.args.route) (option_copied c.args.picture) c.in_ok-table.table c.in_ok-table.ensures.sound (λ text. text.items) c.drawn_of-drawn.result c.drawn_of-drawn.ensures.drawn

pub returns-clause-explains : goal.returns-clause-explains
returns-clause-explains c =
    explained c.args.layout.now (option_copied c.args.route) (option_copied c.args.picture) c.in_ok-table.table c.in_ok-table.ensures.sound c.drawn_of-drawn.result c.drawn_of-drawn.ensures.explains
