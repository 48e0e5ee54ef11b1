use Rattle.line_host.proofs.Loops.{IsGiving}
use Rattle.line_host.proofs.talk.Talk.give_all.Given as goal

abbrev pub invariant-loop-item : goal.invariant-loop-item
invariant-loop-item l = IsGiving l.now l.items l.initial.self l.item-index l.self
