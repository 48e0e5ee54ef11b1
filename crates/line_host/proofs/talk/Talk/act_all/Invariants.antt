use Rattle.line_host.proofs.Loops.{IsActing}
use Rattle.line_host.proofs.talk.Talk.act_all.Given as goal

abbrev pub invariant-loop-item : goal.invariant-loop-item
invariant-loop-item l = IsActing l.now l.items l.initial.self l.item-index l.self l.taken.items
