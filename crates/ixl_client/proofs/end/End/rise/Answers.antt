use Rattle.std.proofs.Common.{sym, ◌∙◌}
use Rattle.ixl_client.proofs.PartsFollow.{comes_up, stays_down}
use Rattle.ixl_client.proofs.end.End.rise.Goals as goal

pub returns-then-has_come_up : goal.returns-then-has_come_up
returns-then-has_come_up c heard = comes_up _ _ _ _ _ _ heard (sym c.has_come_up.ensures ∙ c.if-has_come_up.true) c.version-version.ensures (c.say.ensures heard) c.come_to.ensures

pub returns-else-has_come_up : goal.returns-else-has_come_up
returns-else-has_come_up c heard = stays_down _ _ c.requires.clock (sym c.has_come_up.ensures ∙ c.if-has_come_up.false)
