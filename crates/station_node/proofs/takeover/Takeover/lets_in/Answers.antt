use Rattle.std.proofs.Common.{◌∙◌, ap, arith, drop}
use Rattle.station_node.specs.Takeover.{listener_asked}
use Rattle.station_node.specs.declared.takeover.Takeover.TheInside.{Inside}
use Rattle.station_node.proofs.Taken.{asked_before, asked_then, takes}
use Rattle.station_node.proofs.takeover.Takeover.lets_in.Goals.{then-self-len, else-self-len}
use Rattle.station_node.proofs.takeover.Takeover.lets_in.Goals as goal

pub returns-clause-after : goal.returns-clause-after
returns-clause-after c =
    let inside = c.self.inside in
    let view = λ (i : Inside). takes i.found (drop i.told i.things.items) i.giving in
    elim c.if-self-len.branch [
      | then-self-len w ↦ ap view w.self-inside-is ∙ asked_then inside.found inside.things.items inside.told inside.giving (omega (arith, w.if-self-len.true, c.len.ensures)) ∙ ap listener_asked c.self.view_is
      | else-self-len w ↦ ap view w.self-inside-is ∙ asked_before inside.found inside.things.items inside.told inside.giving (omega (arith, w.if-self-len.false, c.len.ensures)) ∙ ap listener_asked c.self.view_is
    ]
