use Rattle.std.proofs.Common.{◌∙◌, sym}
use Rattle.station_panel.proofs.DisturbedCalls.{lost_by_a_cut, lost_in_its_turn, not_lost}
use Rattle.station_panel.proofs.disturbed.Disturbed.loses.Goals as goal

pub returns-then-is_cut_off-clause-lost : goal.returns-then-is_cut_off-clause-lost
returns-then-is_cut_off-clause-lost g c = lost_by_a_cut _ _ _ (sym c.is_cut_off.ensures ∙ c.if-is_cut_off.true)

pub returns-then-is_turn-clause-lost : goal.returns-then-is_turn-clause-lost
returns-then-is_turn-clause-lost g c = lost_in_its_turn _ _ _ (sym c.is_cut_off.ensures ∙ c.if-is_cut_off.false) (sym c.is_turn.ensures ∙ c.if-is_turn.true)

pub returns-clause-lost : goal.returns-clause-lost
returns-clause-lost g c = not_lost _ _ _ c.saturating_add-self.result c.saturating_add-self.ensures (sym c.is_cut_off.ensures ∙ c.if-is_cut_off.false) (sym c.is_turn.ensures ∙ c.if-is_turn.false)
