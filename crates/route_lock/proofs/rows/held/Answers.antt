use Rattle.std.proofs.Common.{◌≡◌, ◌<◌, ◌+◌, ◌++◌, ◌∷◌, [], List, ℕ, get_or, take, subst, sym, ◌∙◌, arith, length}
use Rattle.std.proofs.lemmas.Bool.{false≢true}
use Rattle.std.proofs.lemmas.List.{take_more, take_all}
use Rattle.std.proofs.lemmas.List.Elements.{Contains-get_or}
use Rattle.std.specs.FinSet.{insert}
use Rattle.control_table.specs.sci_telegram.declared.message.Side.{Side}
use Rattle.control_table.specs.sci_telegram.declared.message.Side.TheVariants as side
use Rattle.control_table.specs.layout.declared.ids.PointId.{PointId}
use Rattle.control_table.specs.bit_row.Places.{Places}
use Rattle.route_lock.proofs.RowLaws.{HeldOf, held-none, held-one, held-not, held-all}
use Rattle.route_lock.proofs.rows.held.Goals as goal
use Rattle.route_lock.proofs.rows.held.Goals.{then-is_held, else-is_held}

abbrev anything : PointId × Side
anything = (record { 0 = 0 }, side.Right)

pub loop-need-init : goal.loop-need-init
loop-need-init c = subst (λ (x : Places). HeldOf c.args.table.now c.args.route c.args.sections c.args.side [] x) (sym c.empty-row.ensures) (held-none c.args.table.now c.args.route c.args.sections c.args.side)

pub with-row-requires : goal.with-row-requires
with-row-requires c =
    let l = c.args.table.now in
    let items = c.required-need-items.result.now in
    let n = get_or items c.loop-need.need-index anything in
    let need = (c.required-need-items.ensures.points n.0 n.1).0 (Contains-get_or items c.loop-need.need-index anything c.loop-need-test.true) in
    let there = c.required_points_are_there.ensures l c.facts_of.ensures.station c.args.route n.0 n.1 need in
    let few = c.facts_of.ensures.station.limits.points in
    omega (arith, there, few)

pub loop-need-preserved : goal.loop-need-preserved
loop-need-preserved c =
    let l = c.args.table.now in
    let a = c.args.route in
    let sections = c.args.sections in
    let at = c.args.side in
    let items = c.required-need-items.result.now in
    let i = c.loop-need.need-index in
    let n = get_or items i anything in
    let more = sym (take_more items i anything c.loop-need-test.true) in
    let held : Places → Type 0 = λ row. HeldOf l a sections at (take (i + 1) items) row in
    elim c.if-is_held.branch [
      | then-is_held w ↦
          let h = c.is_held.ensures.0 w.if-is_held.true in
          subst held (sym w.row-is) (subst held (sym w.with-row.ensures) (subst (λ (ns : List (PointId × Side)). HeldOf l a sections at ns (insert c.loop-need.row n.0.0)) more (held-one l a sections at (take i items) c.loop-need.row n h.0 h.1 c.loop-need.invariant)))
      | else-is_held w ↦
          subst held (sym w.row-is) (subst (λ (ns : List (PointId × Side)). HeldOf l a sections at ns c.loop-need.row) more (held-not l a sections at (take i items) c.loop-need.row n (λ h. false≢true (sym w.if-is_held.false ∙ c.is_held.ensures.1 h)) c.loop-need.invariant))
    ]

pub returns : goal.returns
returns c =
    let items = c.required-need-items.result.now in
    held-all c.args.table.now c.args.route c.args.sections c.args.side items c.loop-need.row c.required-need-items.ensures (subst (λ (ns : List (PointId × Side)). HeldOf c.args.table.now c.args.route c.args.sections c.args.side ns c.loop-need.row) (take_all c.loop-need.need-index items c.loop-need-test.false) c.loop-need.invariant)
