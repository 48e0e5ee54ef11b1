-- a call of the link with the telegram as an item
use Rattle.std.proofs.Common.{ap, ◌∙◌}
use Rattle.sci_telegram.specs.Telegrams.{writing}
use Rattle.ixl_client.specs.Client.{ClientState}
use Rattle.ixl_client.specs.ClientSoFar.{Sends}
use Rattle.ixl_client.specs.Step.{telegram_to}
use Rattle.ixl_client.proofs.PartsFollow.{called_in, sends_same}
use Rattle.ixl_client.proofs.end.End.send.Goals as goal

pub returns-clause-goes : goal.returns-clause-goes
returns-clause-goes c heard = sends_same _ _ c.write-item.result _ _ _
    (c.write-item.ensures.value ∙ ap writing c.telegram.ensures ∙ ap (λ (o : ClientState). writing (telegram_to o.peer c.args.message)) c.self.view_is)
    (called_in _ _ (Sends c.write-item.result) _ _ _ _ _ _ _ heard c.self.view_is c.send.ensures.link c.send.ensures.kept c.send.ensures.posted c.send.ensures.few)
