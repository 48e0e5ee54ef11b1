use Rattle.clap.specs.Words.{new_app}
use Rattle.station_command.proofs.Lines.{all_taken, taken}
use Rattle.station_command.proofs.line.command.Goals as goal

pub loop-argument-preserved : goal.loop-argument-preserved
loop-argument-preserved c =
    taken (new_app c.args.entry.now.word.now) c.args.entry.now.arguments.now c.loop-argument.argument-index _ c.loop-argument.line c.in_ok-line.line c.made.result
    c.loop-argument-test.true c.loop-argument.invariant.0 c.loop-argument.invariant.1 c.made.ensures.rule c.made.ensures.local c.in_ok-line.ensures

pub returns : goal.returns
returns c = (
  all_taken (new_app c.args.entry.now.word.now) c.args.entry.now.arguments.now c.loop-argument.argument-index c.loop-argument.line c.loop-argument-test.false c.loop-argument.invariant.0,
  c.loop-argument.invariant.1,
)
