use Rattle.std.proofs.Common.{◌∷◌, [], ◌++◌, ◌∙◌, List, ℕ, sym, ap, string_bytes}
use Rattle.node_drive.specs.Calls.{Writes}
use Rattle.node_drive.proofs.Calls.{breaks_same, calls_same, calls_then, cuts_line, cuts_same, cuts_then, stopped, writes_same}
use Rattle.node_drive.proofs.Lists.{first_taken, map_push, map_split}
use Rattle.node_drive.proofs.Nodes.{said_on}
use Rattle.node_drive.proofs.orders_written.say_all.Goals as goal

pub loop-line-preserved : goal.loop-line-preserved
loop-line-preserved g c =
    let n = g.N.NodeMachine.node in
    let before = c.loop-line.invariant in
    let one : List ℕ = string_bytes c.in-Some.line in
    let rest = c.in-Some.ensures.rest in (
      before.0 ++ one ∷ [],
      ap (λ n. (before.0 ++ one ∷ []) ++ n.said) rest ∙ first_taken before.0 (n c.args.node.now).said (n c.loop-line.node).said one c.in-Some.ensures.value before.1,
      calls_same (sym (map_push Writes before.0 one)) (calls_then before.2 (writes_same c.as_str.ensures.value c.in_ok-write_line.ensures.done)),
      said_on (n c.args.node.now) (n c.loop-line.node) (n c.take_saying.new.self) _ rest before.3,
    )

pub returns-in_err-write_line-clause-stopped : goal.returns-in_err-write_line-clause-stopped
returns-in_err-write_line-clause-stopped g c =
    let n = g.N.NodeMachine.node in
    let before = c.loop-line.invariant in
    let one : List ℕ = string_bytes c.in-Some.line in
    stopped c.from_residual.result
    (cuts_same (map_split Writes before.0 (n c.args.node.now).said (n c.loop-line.node).said one c.in-Some.ensures.value before.1)
    (cuts_then before.2 (cuts_line _ (breaks_same c.as_str.ensures.value c.in_err-write_line.ensures.failed))))
