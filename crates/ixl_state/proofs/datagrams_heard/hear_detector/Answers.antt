use Rattle.std.proofs.Common.{◌≡◌, ◌<◌, List, length, sym, subst, arith}
use Rattle.std.specs.Prelude.{IfSome, slice_get}
use Rattle.ixl_spec.specs.ixl_client.Client.{is_ready}
use Rattle.ixl_spec.specs.ixl_client.declared.indication.Indication.{Indication}
use Rattle.ixl_spec.specs.StepSoFar.{along}
use Rattle.ixl_spec.specs.State.{KnownDetectorState}
use Rattle.ixl_spec.specs.Step.{looking}
use Rattle.ixl_state.specs.inside.DetectorHeard.{Passes, told_since}
use Rattle.ixl_table.specs.Table.{SitedTable}
use Rattle.ixl_known.specs.Field.{FieldState}
use Rattle.ixl_state.proofs.Heard.{ready_heard, still_there, unready_heard}
use Rattle.ixl_state.proofs.datagrams_heard.hear_detector.Goals as goal

pub is_detector_ready-requires : goal.is_detector_ready-requires
is_detector_ready-requires c = subst (λ (f : FieldState). c.args.place < length f.detectors) (sym c.field-3.ensures)
    (still_there c.args.now c.args.datagram.now c.args.place c.args.state.now c.args.outbox.now c.hear_detector_alone-verdict.new.self c.hear_detector_alone-verdict.new.outbox c.requires.there c.hear_detector_alone-verdict.ensures.goes)

pub look_told-requires-clause-there : goal.look_told-requires-clause-there
look_told-requires-clause-there c = subst (λ (p : SitedTable). c.args.place < length p.table.detectors) (sym c.hear_detector_alone-verdict.ensures.goes.sited)
    (omega (arith, c.requires.there, c.keeps_each_detector.ensures))

pub look_told-requires-clause-clock : goal.look_told-requires-clause-clock
look_told-requires-clause-clock c = c.hear_detector_alone-verdict.ensures.goes.clock

pub returns-then-is_detector_ready-clause-goes : goal.returns-then-is_detector_ready-clause-goes
returns-then-is_detector_ready-clause-goes c = ready_heard c.args.now c.args.datagram.now c.args.place c.args.state.now c.args.outbox.now c.hear_detector_alone-verdict.new.self c.hear_detector_alone-verdict.new.outbox c.look_told.new.state
    c.is_detector_ready-was_ready.result c.is_detector_ready.result c.occupied_at-occupied.result c.hear_detector_alone-verdict.new.heard.items
    (record {
      there = c.requires.there;
      each = c.keeps_each_detector.ensures;
      was_ready = subst (λ (f : FieldState). IfSome (slice_get f.detectors c.args.place) (λ (d : KnownDetectorState). c.is_detector_ready-was_ready.result ≡ is_ready d.client.stage)) c.field.ensures c.is_detector_ready-was_ready.ensures;
      occupied = subst (λ (f : FieldState). IfSome (slice_get f.detectors c.args.place) (λ (d : KnownDetectorState). c.occupied_at-occupied.result ≡ d.occupied)) c.field-2.ensures c.occupied_at-occupied.ensures;
      heard = c.hear_detector_alone-verdict.ensures.heard;
      goes = c.hear_detector_alone-verdict.ensures.goes;
      ready = subst (λ (f : FieldState). IfSome (slice_get f.detectors c.args.place) (λ (d : KnownDetectorState). c.is_detector_ready.result ≡ is_ready d.client.stage)) c.field-3.ensures c.is_detector_ready.ensures;
    })
    c.if-is_detector_ready.true
    (subst (λ (list : List Indication). IfSome (slice_get c.hear_detector_alone-verdict.new.self.sited.table.detectors c.args.place)
    (λ sections. Passes c.args.now (along (looking c.hear_detector_alone-verdict.new.self.sited.table) (told_since c.is_detector_ready-was_ready.result c.occupied_at-occupied.result sections list)) c.hear_detector_alone-verdict.new.self c.look_told.new.state))
    c.as_slice.ensures.value c.look_told.ensures)

pub returns-else-is_detector_ready-clause-goes : goal.returns-else-is_detector_ready-clause-goes
returns-else-is_detector_ready-clause-goes c = unready_heard c.args.now c.args.datagram.now c.args.place c.args.state.now c.args.outbox.now c.hear_detector_alone-verdict.new.self c.hear_detector_alone-verdict.new.outbox
    c.is_detector_ready-was_ready.result c.is_detector_ready.result c.occupied_at-occupied.result c.hear_detector_alone-verdict.new.heard.items
    (record {
      there = c.requires.there;
      each = c.keeps_each_detector.ensures;
      was_ready = subst (λ (f : FieldState). IfSome (slice_get f.detectors c.args.place) (λ (d : KnownDetectorState). c.is_detector_ready-was_ready.result ≡ is_ready d.client.stage)) c.field.ensures c.is_detector_ready-was_ready.ensures;
      occupied = subst (λ (f : FieldState). IfSome (slice_get f.detectors c.args.place) (λ (d : KnownDetectorState). c.occupied_at-occupied.result ≡ d.occupied)) c.field-2.ensures c.occupied_at-occupied.ensures;
      heard = c.hear_detector_alone-verdict.ensures.heard;
      goes = c.hear_detector_alone-verdict.ensures.goes;
      ready = subst (λ (f : FieldState). IfSome (slice_get f.detectors c.args.place) (λ (d : KnownDetectorState). c.is_detector_ready.result ≡ is_ready d.client.stage)) c.field-3.ensures c.is_detector_ready.ensures;
    })
    c.if-is_detector_ready.false
