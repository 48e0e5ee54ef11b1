use Rattle.std.proofs.Common.{◌≡◌, ◌+◌, List, [], ◌∷◌, ◌++◌, drop, length, slice_get, Some, refl, sym, ap, ◌∙◌, arith}
use Rattle.std.proofs.lemmas.Grind.{common_steps}
use Rattle.std.proofs.lemmas.List.{length-drop}
use Rattle.rasta_core_link.specs.declared.window.Unconfirmed.{Unconfirmed}
use Rattle.circular_buffer.specs.Buffer.{buffer}
use Rattle.rasta_core_link.specs.Outbox.{posted}
use Rattle.rasta_core_link.proofs.UnconfirmedItems.{repeated_none, repeated_more, length-left, nothing_there, under, again}
use Rattle.rasta_core_link.proofs.window.repeat.Goals as goal
use Rattle.rasta_core_link.proofs.window.repeat.Goals.{in-Some, in_default}

pub loop-index-init : goal.loop-index-init
loop-index-init c = record {
  so_far = repeated_none c.args.header c.args.key.now c.args.count c.args.waiting.now.items c.args.outbox.now;
  capacity = refl;
}

pub post-requires : goal.post-requires
post-requires c =
    let left = length-left c.args.header c.args.key.now c.args.count c.loop-index.index c.args.waiting.now.items c.loop-index.waiting.items c.args.outbox.now c.loop-index.outbox (omega arith) c.loop-index.invariant.so_far in
    omega arith

pub loop-index-preserved : goal.loop-index-preserved
loop-index-preserved c =
    let left = length-left c.args.header c.args.key.now c.args.count c.loop-index.index c.args.waiting.now.items c.loop-index.waiting.items c.args.outbox.now c.loop-index.outbox (omega arith) c.loop-index.invariant.so_far in
    elim c.match-pop_front.branch [
      | in-Some w ↦
          let first : slice_get c.loop-index.waiting.items 0 ≡ Some w.in-Some.first = cc in
          let rest = length-drop 1 c.loop-index.waiting.items in
          let back : w.try_push_back.new.self ≡ buffer (drop 1 c.loop-index.waiting.items ++ under (c.args.count + c.loop-index.index) w.in-Some.first ∷ []) c.loop-index.waiting.capacity = grind (arith, common_steps) in
          let kept = w.waiting-is ∙ back in
          let pdu : w.pdu.result ≡ again c.args.header (c.args.count + c.loop-index.index) w.in-Some.first = cc in
          let sent : c.match-pop_front.outbox ≡ posted c.args.key.now (again c.args.header (c.args.count + c.loop-index.index) w.in-Some.first ∷ []) c.loop-index.outbox = cc in
          let more = repeated_more c.args.header c.args.key.now c.args.count c.loop-index.index c.args.waiting.now.items c.loop-index.waiting.items c.args.outbox.now c.loop-index.outbox w.in-Some.first (omega arith) c.loop-index.invariant.so_far first in
          record {
            so_far = rw (kept, sent) more;
            capacity = rw kept c.loop-index.invariant.capacity;
          }
      | in_default w ↦
          let none : length c.loop-index.waiting.items ≡ 0 = ap (λ (us : List Unconfirmed). length us) (nothing_there c.loop-index.waiting.items (sym c.pop_front.ensures.value ∙ w.in_default.is)) in
          absurd (omega arith)
    ]
