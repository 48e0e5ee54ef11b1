use Rattle.std.proofs.Common.{◌∙◌, refl}
use Rattle.replay.specs.World.{played}
use Rattle.station_record.proofs.Lines.{goes_on_begins, goes_on_ends, goes_on_next}
use Rattle.station_record.proofs.decode.write_events.Goals as goal

pub loop-entry-init : goal.loop-entry-init
loop-entry-init g c = goes_on_begins (played c.args.world.now).sited.site (played c.args.world.now) refl c.args.entries.now (g.W.Write.contents c.args.out.now)

pub loop-entry-preserved : goal.loop-entry-preserved
loop-entry-preserved g c =
    let said = c.as_bytes.ensures.value ∙ (c.as_str.ensures.value ∙ c.in_ok-text.ensures.lines)
    in goes_on_next (played c.args.world.now).sited.site (played c.args.world.now) c.args.entries.now c.loop-entry.entry-index c.entry-item.result (played c.loop-entry.world) (played c.event_lines.new.world)
    (g.W.Write.contents c.args.out.now) (g.W.Write.contents c.loop-entry.out) (g.W.Write.contents c.write_all.new.self) c.as_bytes.result.now
    c.loop-entry-test.true c.entry-item.is said c.in_ok-text.ensures.world c.in_ok-write_all.ensures.bytes c.loop-entry.invariant

pub returns-clause-done : goal.returns-clause-done
returns-clause-done g c =
    goes_on_ends (played c.args.world.now).sited.site (played c.args.world.now) c.args.entries.now c.loop-entry.entry-index (played c.loop-entry.world)
    (g.W.Write.contents c.args.out.now) (g.W.Write.contents c.loop-entry.out) (g.W.Write.contents c.flush.new.self) c.loop-entry-test.false c.loop-entry.invariant c.in_ok-flush.ensures.bytes
