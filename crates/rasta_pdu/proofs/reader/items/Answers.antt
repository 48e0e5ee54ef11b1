use Rattle.std.proofs.Common.{◌≡◌, eqb, false, ◌≤◌, ◌<◌, length, List, ℕ, sym, ◌∙◌, arith}
use Rattle.std.proofs.lemmas.Bool.{eqb-true, eqb-false}
use Rattle.std.proofs.lemmas.Result.{err_from_is_err_and}
use Rattle.rasta_pdu.proofs.ItemLoop.{is_full, fails, goes_on, ends, taken}
use Rattle.rasta_pdu.proofs.reader.items.Goals as goal

more : (rest : List ℕ) → eqb (length rest) 0 ≡ false → 1 ≤ length rest
more rest e = let ne = eqb-false (length rest) 0 e in omega arith

room : (held : List (List ℕ)) → length held ≤ 3 → eqb (length held) 3 ≡ false → length held < 3
room held most e = let ne = eqb-false (length held) 3 e in omega arith

pub returns-then-is_full : goal.returns-then-is_full
returns-then-is_full c =
    sym (is_full c.loop-rest.held.items c.loop-rest.rest.now c.args.payload.now c.loop-rest.invariant
    (eqb-true _ _ (sym c.is_full.ensures.value ∙ c.if-is_full.true))
    (more c.loop-rest.rest.now (sym c.is_empty.ensures ∙ c.loop-rest-test.true)))

pub returns-in_err-item : goal.returns-in_err-item
returns-in_err-item c =
    let p = err_from_is_err_and c.from_residual.result c.from_residual.ensures.1 in
    rw (p.1, p.2) (sym (fails c.loop-rest.held.items c.loop-rest.rest.now c.args.payload.now c.loop-rest.invariant c.in_err-item.field-0.0
    (room c.loop-rest.held.items c.loop-rest.invariant.room (sym c.is_full.ensures.value ∙ c.if-is_full.false))
    (more c.loop-rest.rest.now (sym c.is_empty.ensures ∙ c.loop-rest-test.true))
    c.in_err-item.ensures))

pub loop-rest-preserved : goal.loop-rest-preserved
loop-rest-preserved c =
    rw c.push.ensures.items (goes_on c.loop-rest.held.items c.loop-rest.rest.now c.args.payload.now c.loop-rest.invariant c.in_ok-item.item c.in_ok-item.after.now
    (room c.loop-rest.held.items c.loop-rest.invariant.room (sym c.is_full.ensures.value ∙ c.if-is_full.false))
    (more c.loop-rest.rest.now (sym c.is_empty.ensures ∙ c.loop-rest-test.true))
    c.in_ok-item.ensures)

pub returns : goal.returns
returns c =
    c.ok_or.ensures.value
    ∙ taken c.held.result c.loop-rest.held.items c.held.ensures.fits c.held.ensures.value
    ∙ sym (ends c.loop-rest.held.items c.loop-rest.rest.now c.args.payload.now c.loop-rest.invariant (eqb-true _ _ (sym c.is_empty.ensures ∙ c.loop-rest-test.false)))
