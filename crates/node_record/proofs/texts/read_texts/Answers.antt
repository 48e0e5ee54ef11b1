use Rattle.std.proofs.Common.{subst}
use Rattle.control_table.specs.layout.Entries.{Site}
use Rattle.replay_lines.specs.Text.{FailsAt}
use Rattle.node_record.proofs.Explained.{are_texts, can_read}
use Rattle.node_record.specs.Records.{record_said}
use Rattle.node_record.proofs.texts.read_texts.Goals as goal

pub returns-in-Err-clause-explains : goal.returns-in-Err-clause-explains
returns-in-Err-clause-explains c =
    let fault = c.in-Err.fault in (
      c.in_ok-table.table,
      c.in_ok-table.ensures.sound,
      subst (λ (s : Site). FailsAt fault.line fault.number (record_said s c.args.name.now c.args.recording.now)) c.layout.ensures.entries c.in-Err.ensures,
    )

pub returns-in-Ok-clause-read : goal.returns-in-Ok-clause-read
returns-in-Ok-clause-read c =
    are_texts c.args.layout.now c.args.name.now c.args.recording.now c.in_ok-table.table c.layout.result.now c.in-Ok.read
    c.in_ok-table.ensures.sound c.layout.ensures.entries c.in-Ok.ensures

pub returns-in-Ok-clause-reads : goal.returns-in-Ok-clause-reads
returns-in-Ok-clause-reads c =
    can_read c.args.layout.now c.args.name.now c.args.recording.now c.in_ok-table.table c.in-Ok.read
    (are_texts c.args.layout.now c.args.name.now c.args.recording.now c.in_ok-table.table c.layout.result.now c.in-Ok.read
    c.in_ok-table.ensures.sound c.layout.ensures.entries c.in-Ok.ensures)
