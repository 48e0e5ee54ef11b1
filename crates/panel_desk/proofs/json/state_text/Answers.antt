use Rattle.panel_desk.proofs.Shallow.{read_shallow, state-shallow}
use Rattle.panel_desk.proofs.json.state_text.Goals as goal

pub returns : goal.returns
returns c = read_shallow _ _ _ c.in_ok-text.ensures.reads_back c.in_ok-value.ensures (state-shallow c.args.after c.args.number c.args.shown.now c.args.log.now)
