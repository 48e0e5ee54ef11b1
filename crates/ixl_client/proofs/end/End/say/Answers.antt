-- it is posted
use Rattle.std.proofs.Common.{ap, ◌∙◌}
use Rattle.sci_telegram.specs.declared.message.Message.TheVariants as message
use Rattle.ixl_client.specs.Client.{ClientState}
use Rattle.ixl_client.proofs.PartsFollow.{posts_same, says}
use Rattle.ixl_client.proofs.end.End.say.Goals as goal

pub returns : goal.returns
returns c heard = says _ _ _ _ (posts_same _ _ c.message-message.result _ _ _
    (c.message-message.ensures ∙ ap (λ (o : ClientState). message.Initialisation o.peer.protocol c.args.initialisation) c.self.view_is) (c.post.ensures heard))
