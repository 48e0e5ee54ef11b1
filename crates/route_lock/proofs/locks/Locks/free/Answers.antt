use Rattle.std.proofs.Common.{subst, arith}
use Rattle.control_table.specs.bit_row.Places.{Has, Places}
use Rattle.route_lock.proofs.RowLaws.{has-none}
use Rattle.route_lock.proofs.ApartLaws.{freed-apart}
use Rattle.route_lock.proofs.locks.Locks.free.Goals as goal

pub put-requires-clause-its : goal.put-requires-clause-its
put-requires-clause-its c = λ s h. absurd (has-none s (subst (λ (x : Places). Has x s) c.empty.ensures h))

pub put-requires-clause-apart : goal.put-requires-clause-apart
put-requires-clause-apart c =
    let each = c.facts.ensures.each in
    let lt = c.requires in
    freed-apart c.args.self.now c.args.route c.empty.result (omega (arith, each, lt)) (λ j h. absurd (has-none j (subst (λ (x : Places). Has x j) c.empty.ensures h))) c.facts.ensures.apart
