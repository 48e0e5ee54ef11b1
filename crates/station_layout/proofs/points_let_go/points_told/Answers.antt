use Rattle.std.proofs.Common.{◌≡◌, ◌∙◌, ℕ, List, ap, string_bytes}
use Rattle.std.proofs.lemmas.Bool.{false≢true}
use Rattle.std.proofs.Math.Path.{sym}
use Rattle.std.specs.Prelude.{codes}
use Rattle.control_table.specs.layout.Entries.{Site}
use Rattle.station_layout.specs.Names.{point_name}
use Rattle.station_layout.specs.Row.{IsLetGoAt, point_at}
use Rattle.station_layout.proofs.Joined.{colon_valid, space_valid}
use Rattle.station_layout.proofs.ListingLaws.{listed_none, listed_not, listed_one}
use Rattle.station_layout.proofs.points_let_go.points_told.Goals as goal
use Rattle.station_layout.proofs.points_let_go.points_told.Goals.{then-is_let_go+in_ok-add, else-is_let_go}

pub loop-point-init : goal.loop-point-init
loop-point-init c =
    listed_none (λ k. IsLetGoAt c.args.table.now c.args.path.route c.args.path.sections.now c.args.place (point_at k)) (λ k text. text ≡ point_name c.args.table.now (point_at k))
    (codes ": ") (codes " ") _ c.new-text.ensures.bytes colon_valid

pub add-requires-text-before : goal.add-requires-text-before
add-requires-text-before c lifetimes = c.loop-point.invariant.valid

pub loop-point-preserved : goal.loop-point-preserved
loop-point-preserved c =
    let Belongs : ℕ → Type 0 = λ k. IsLetGoAt c.args.table.now c.args.path.route c.args.path.sections.now c.args.place (point_at k) in
    let IsText : ℕ → List ℕ → Type 0 = λ k text. text ≡ point_name c.args.table.now (point_at k) in
    elim c.if-is_let_go.branch [
      | then-is_let_go+in_ok-add w ↦
          let name = w.written.ensures ∙ w.point_name-name.ensures.text ∙ ap (λ (l : Site). point_name l (point_at c.loop-point.point)) w.layout-then-is_let_go.ensures.entries in
          rw w.before-is (rw w.text-is
          (listed_one Belongs IsText (codes ": ") (codes " ") c.loop-point.point (string_bytes c.loop-point.text) c.loop-point.before.now _ _ c.loop-point.invariant
          (c.is_let_go.ensures.0 w.if-is_let_go.true) name w.in_ok-add.ensures space_valid))
      | else-is_let_go w ↦
          rw w.before-is (rw w.text-is
          (listed_not Belongs IsText (codes ": ") (codes " ") c.loop-point.point (string_bytes c.loop-point.text) c.loop-point.before.now c.loop-point.invariant
          (λ belongs. false≢true (sym w.if-is_let_go.false ∙ c.is_let_go.ensures.1 belongs))))
    ]
