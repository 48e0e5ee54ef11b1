use Rattle.std.proofs.Common.{refl, sym}
use Rattle.std.proofs.lemmas.Option.{get_or_from_slice_get, slice_get-get_or}
use Rattle.node_record.proofs.EndsFound.{ends, fails, grows}
use Rattle.node_record.proofs.ends.ends_at.Goals as goal

pub loop-place-preserved : goal.loop-place-preserved
loop-place-preserved c =
    let all = c.args.addresses.now
    in let there = slice_get-get_or all c.loop-place.place _ c.loop-place-test.true
    in grows all c.loop-place.place _ c.loop-place.ends.items c.push_end.new.ends.items
    c.loop-place-test.true (sym (get_or_from_slice_get all c.loop-place.place _ _ there)) c.in_ok-push_end.ensures.added c.loop-place.invariant

pub returns-in_err-push_end-clause-explains : goal.returns-in_err-push_end-clause-explains
returns-in_err-push_end-clause-explains c =
    let all = c.args.addresses.now
    in let answer = c.from_residual.result
    in fails c.args.layout.now all c.loop-place.place _ c.in_err-push_end.field-0.0 answer
    (slice_get-get_or all c.loop-place.place _ c.loop-place-test.true) c.in_err-push_end.ensures.failed c.from_residual.ensures.1

pub returns-clause-found : goal.returns-clause-found
returns-clause-found c = ends c.args.addresses.now _ c.loop-place.place c.loop-place.ends.items refl c.loop-place-test.false c.loop-place.invariant
