use Rattle.std.proofs.Common.{◌≡◌, length, string_bytes, arith}
use Rattle.replay_lines.specs.Names.{node_names}
use Rattle.replay_lines.proofs.Clocks.{nothing_left, written_time}
use Rattle.replay_lines.proofs.lines_written.time_line.Goals as goal

pub returns : goal.returns
returns c =
    let counted : length c.args.steps.now ≡ length (node_names c.args.layout.now) = omega (arith, c.nodes.ensures.names) in
    written_time c.args.layout.now c.args.elapsed c.args.steps.now (string_bytes c.loop-place.line) counted
    (nothing_left (node_names c.args.layout.now) c.args.elapsed c.loop-place.place c.args.steps.now _ _ c.loop-place-test.false c.loop-place.invariant)
