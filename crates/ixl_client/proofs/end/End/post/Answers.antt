-- the telegram is sent, and the link closes where the window refuses it
use Rattle.std.proofs.Common.{ap, sym, ◌∙◌, [], arith}
use Rattle.ixl_client.specs.Step.{is_refused_by_window}
use Rattle.ixl_client.proofs.PartsFollow.{posts, closes_for_window}
use Rattle.ixl_client.proofs.end.End.post.Goals as goal

pub close-requires-clause-clock : goal.close-requires-clause-clock
close-requires-clause-clock c = omega (arith, (c.send.ensures.goes []).clock)

pub close-requires-clause-room : goal.close-requires-clause-room
close-requires-clause-room c = omega (arith, (c.send.ensures.goes []).few, (c.send.ensures.goes []).capacity, c.requires.room)

pub returns-then-is_refused_by_window : goal.returns-then-is_refused_by_window
returns-then-is_refused_by_window c heard = closes_for_window _ _ _ _ _ (c.send.ensures.goes heard) (c.close.ensures heard)
    (ap is_refused_by_window (sym c.send.ensures.answer) ∙ sym c.is_refused_by_window.ensures ∙ c.if-is_refused_by_window.true)

pub returns-else-is_refused_by_window : goal.returns-else-is_refused_by_window
returns-else-is_refused_by_window c heard = posts _ _ _ _ (c.send.ensures.goes heard) (ap is_refused_by_window (sym c.send.ensures.answer) ∙ sym c.is_refused_by_window.ensures ∙ c.if-is_refused_by_window.false)
