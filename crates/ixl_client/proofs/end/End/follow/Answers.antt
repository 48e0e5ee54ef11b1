-- each course as its definition says
use Rattle.std.proofs.Common.{ap, sym, ◌∙◌, List, ℕ}
use Rattle.ixl_client.specs.Client.{ClientState}
use Rattle.ixl_client.specs.declared.stage.Stage.{Stage}
use Rattle.ixl_client.specs.declared.stage.Stage.TheVariants as stage
use Rattle.ixl_client.proofs.PartsFollow.{agrees, completes, differs, follows, indicates, starts, violates}
use Rattle.ixl_client.proofs.end.End.follow.Goals as goal

pub returns-in-Agrees-clause-goes : goal.returns-in-Agrees-clause-goes
returns-in-Agrees-clause-goes c item = follows _ item _ _ _ _ c.in-Agrees.is (agrees _ item _ _ _ _ _ (c.say.ensures _) c.come_to.ensures)

pub returns-in-Starts-clause-goes : goal.returns-in-Starts-clause-goes
returns-in-Starts-clause-goes c item = follows _ item _ _ _ _ c.in-Starts.is (starts _ item _ _ c.requires.clock (c.come_to-in-Starts.ensures ∙ ap (λ left. record c.args.self.now { stage = stage.AwaitsStatus left }) c.objects-left.ensures))

pub returns-in-Indicates-clause-goes : goal.returns-in-Indicates-clause-goes
returns-in-Indicates-clause-goes c item = follows _ item _ _ _ _ c.in-Indicates.is (indicates _ item _ _ _ _ c.requires.clock (c.come_to-in-Indicates.ensures ∙ ap (λ (to : Stage). record c.args.self.now { stage = to }) c.stage_after_report-next.ensures) c.push.ensures.items)

pub returns-in-Completes-clause-goes : goal.returns-in-Completes-clause-goes
returns-in-Completes-clause-goes c item = follows _ item _ _ _ _ c.in-Completes.is (completes _ item _ _ c.requires.clock c.come_to-in-Completes.ensures)

pub returns-in-Differs-clause-goes : goal.returns-in-Differs-clause-goes
returns-in-Differs-clause-goes c item = follows _ item _ _ _ _ c.in-Differs.is (differs _ item _ _ (c.close.ensures _))

pub returns-in-Violates-clause-goes : goal.returns-in-Violates-clause-goes
returns-in-Violates-clause-goes c item = follows _ item _ _ _ _ c.in-Violates.is (violates _ item _ _ (c.close-in-Violates.ensures _))
