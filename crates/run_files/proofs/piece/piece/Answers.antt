use Rattle.std.proofs.Common.{◌≡◌, ◌≤◌, ◌+◌, ◌-◌, ◌∙◌, ◌∷◌, ℕ, suc, drop, get_or, length, List, sym, ap, arith}
use Rattle.std.proofs.Math.ListN.{drop_of_length-le}
use Rattle.std.proofs.lemmas.List.{drop_more}
use Rattle.run_files.specs.inside.Pieces.{piece}
use Rattle.run_files.proofs.Pieces.{piece_goes_on, piece_full}
use Rattle.run_files.proofs.piece.piece.Goals as goal

pub loop-place-init : goal.loop-place-init
loop-place-init c = omega arith

pub returns-then-is_last-clause-piece : goal.returns-then-is_last-clause-piece
returns-then-is_last-clause-piece c =
    let bytes = c.args.bytes.now in
    let place = c.loop-place.place in
    let byte = get_or bytes place 0 in
    let rest = drop (place + 1) bytes in
    let behind : drop place bytes ≡ byte ∷ rest = drop_more bytes place 0 c.loop-place-test.true in
    sym (c.loop-place.invariant ∙ ap (λ (l : List ℕ). place + piece c.loop-place.left l) behind
    ∙ ap (λ (n : ℕ). place + n) (piece_full c.loop-place.left byte rest (sym c.is_last.ensures ∙ c.if-is_last.true)))

pub loop-place-preserved : goal.loop-place-preserved
loop-place-preserved c =
    let bytes = c.args.bytes.now in
    let place = c.loop-place.place in
    let byte = get_or bytes place 0 in
    let rest = drop (place + 1) bytes in
    let left = c.loop-place.left in
    let behind : drop place bytes ≡ byte ∷ rest = drop_more bytes place 0 c.loop-place-test.true in
    let one_on : place + suc (piece (left - 1) rest) ≡ place + 1 + piece (left - 1) rest = omega arith in
    c.loop-place.invariant ∙ ap (λ (l : List ℕ). place + piece left l) behind
    ∙ ap (λ (n : ℕ). place + n) (piece_goes_on left byte rest (sym c.is_last.ensures ∙ c.if-is_last.false)) ∙ one_on
    ∙ ap (λ (n : ℕ). place + 1 + piece n rest) (sym c.saturating_sub-left.ensures)

pub returns-clause-piece : goal.returns-clause-piece
returns-clause-piece c =
    let bytes = c.args.bytes.now in
    let place = c.loop-place.place in
    let past : length bytes ≤ place = omega arith in
    let whole : length bytes ≡ place + 0 = omega arith in
    sym (c.loop-place.invariant ∙ ap (λ (l : List ℕ). place + piece c.loop-place.left l) (drop_of_length-le bytes past) ∙ sym whole)
