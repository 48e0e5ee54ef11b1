use Rattle.std.proofs.Common.{◌≡◌, ◌∙◌, [], ap, map}
use Rattle.std.specs.Prelude.{slice_index_or}
use Rattle.std.specs.FinSet.{empty}
use Rattle.ixl_spec.specs.sci_telegram.declared.message.Protocol.TheVariants as protocols
use Rattle.ixl_spec.specs.layout.Entries.{Site}
use Rattle.ixl_spec.specs.layout.declared.ids.SectionId.{SectionId}
use Rattle.ixl_spec.specs.ixl_client.Client.{ClientState}
use Rattle.ixl_spec.specs.First.{Beginning, client_of, new_detector_of}
use Rattle.ixl_state.proofs.Made.{few-objects, made-more, objects-of}
use Rattle.ixl_state.proofs.first_state.detectors_of.Goals as goal

pub new-requires : goal.new-requires
new-requires c =
    let site = c.args.table.now in
    let begins : Beginning = record { clock = c.args.start.now; first = c.args.start.first_sequence_number } in
    let item = c.detector-item.result in
    few-objects site c.detectors-detector-items.result.now c.loop-detector.detector-index item c.sections.result.now c.in_ok-objects.objects.items c.in_ok-client.client.peer.objects
    (λ (section : SectionId). slice_index_or c.layout-layout.result.now.sections section.0 []) c.layout-layout.ensures.station
    (c.detectors-detector-items.ensures ∙ ap (λ (p : Site). p.detectors) c.layout-layout.ensures.entries) c.loop-detector-test.true c.detector-item.is c.sections.ensures c.in_ok-objects.ensures
    (ap (λ (client : ClientState). client.peer.objects) c.in_ok-client.ensures ∙ objects-of protocols.TrainDetection site begins c.name.result.now c.id.result c.in_ok-objects.objects.items)

pub loop-detector-preserved : goal.loop-detector-preserved
loop-detector-preserved c =
    let site = c.args.table.now in
    let begins : Beginning = record { clock = c.args.start.now; first = c.args.start.first_sequence_number } in
    let item = c.detector-item.result in
    let objects = c.in_ok-objects.ensures ∙ (λ i. map (λ (section : SectionId). slice_index_or (c.layout-layout.ensures.entries i).sections section.0 []) (c.sections.ensures i)) in
    let client = c.in_ok-client.ensures ∙ (λ i. client_of protocols.TrainDetection site begins (c.name.ensures i) (c.id.ensures i) (objects i)) in
    let made : c.new.result ≡ new_detector_of site begins item = c.new.ensures ∙ ap (λ (one : ClientState). record { client = one; occupied = empty }) client in
    made-more (new_detector_of site begins) c.detectors-detector-items.result.now c.loop-detector.detector-index item c.new.result c.loop-detector.detectors.items c.push.new.self.items c.loop-detector-test.true c.detector-item.is made
    c.in_ok-push.ensures.items c.loop-detector.invariant
