use Rattle.std.proofs.Common.{[]}
use Rattle.ixl_client.proofs.ItemActions.{commands, from_same}
use Rattle.ixl_client.proofs.Steady.{commanding_rests, keeps}
use Rattle.ixl_client.proofs.client.Client.command.Goals as goal

pub invariant_of-self : goal.invariant_of-self
invariant_of-self c = keeps _ _ _ _ _ (commands _ c.args.command _ _ _ _ _ _ _ [] c.stage_after_command-next.ensures c.message.ensures (c.post.ensures []) c.come_to.ensures c.fall.ensures) c.self.invariant
    (λ part is. commanding_rests _ _ part is)

pub returns : goal.returns
returns c heard = from_same _ _ _ _ _ _ _ _ c.self.view_is (commands _ c.args.command _ _ _ _ _ _ _ heard c.stage_after_command-next.ensures c.message.ensures (c.post.ensures heard) c.come_to.ensures c.fall.ensures)
