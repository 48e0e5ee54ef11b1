use Rattle.std.proofs.Common.{◌≡◌, ◌∙◌, List, [], ap, arith, length, string_bytes, subst}
use Rattle.std.proofs.lemmas.Bool.{false≢true}
use Rattle.std.proofs.Math.Path.{sym}
use Rattle.std.specs.Prelude.{codes}
use Rattle.control_table.specs.Table.{Conflict}
use Rattle.control_table.specs.layout.Entries.{RouteEntry, Site}
use Rattle.station_layout.specs.ListedPlaces.{ListsBelow}
use Rattle.station_layout.specs.Row.{IsConflictText, route_at}
use Rattle.station_layout.proofs.Joined.{all_joined, nothing_valid, semicolon_valid}
use Rattle.station_layout.proofs.ListingLaws.{listed_none, listed_not, listed_one}
use Rattle.station_layout.proofs.conflicts.conflicts_cell.Goals as goal
use Rattle.station_layout.proofs.conflicts.conflicts_cell.Goals.{then-conflict+in_ok-add_conflict, else-conflict}

pub loop-place-init : goal.loop-place-init
loop-place-init c =
    listed_none (λ k. Conflict c.args.table.now c.args.route (route_at k)) (λ k. IsConflictText c.args.table.now c.args.route (route_at k)) [] (codes "; ") _ c.new-cell.ensures.bytes nothing_valid

pub add_conflict-requires-text-before : goal.add_conflict-requires-text-before
add_conflict-requires-text-before c lifetimes = c.loop-place.invariant.valid

pub loop-place-preserved : goal.loop-place-preserved
loop-place-preserved c = elim c.if-conflict.branch [
  | then-conflict+in_ok-add_conflict w ↦
      let told = w.in_ok-add_conflict.ensures in
      rw w.before-is (rw w.cell-is
      (listed_one (λ k. Conflict c.args.table.now c.args.route (route_at k)) (λ k. IsConflictText c.args.table.now c.args.route (route_at k)) [] (codes "; ") c.loop-place.place
      (string_bytes c.loop-place.cell) c.loop-place.before.now told.0 _ c.loop-place.invariant (c.conflict.ensures.0 w.if-conflict.true) told.1 told.2 semicolon_valid))
  | else-conflict w ↦
      rw w.before-is (rw w.cell-is
      (listed_not (λ k. Conflict c.args.table.now c.args.route (route_at k)) (λ k. IsConflictText c.args.table.now c.args.route (route_at k)) [] (codes "; ") c.loop-place.place
      (string_bytes c.loop-place.cell) c.loop-place.before.now c.loop-place.invariant (λ conflict. false≢true (sym w.if-conflict.false ∙ c.conflict.ensures.1 conflict))))
]

pub returns : goal.returns
returns c =
    let listed = c.loop-place.invariant in
    let routes = c.routes-place-end.ensures ∙ ap (λ (l : Site). l.routes) c.layout.ensures.entries in
    let all : c.loop-place.place ≡ length c.routes-place-end.result.now = omega (arith, c.loop-place-test.false, c.loop-place.auto.place-end) in
    let below = subst (λ n. ListsBelow (λ k. Conflict c.args.table.now c.args.route (route_at k)) (λ k. IsConflictText c.args.table.now c.args.route (route_at k)) n listed.texts)
    (all ∙ ap (λ (rs : List RouteEntry). length rs) routes) listed.below in
    (listed.texts, below, listed.is ∙ all_joined (codes "; ") listed.texts)
