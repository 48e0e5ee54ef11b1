use Rattle.std.proofs.Common.{◌≡◌, ◌∙◌, ℕ, Bool, [], arith, length, string_bytes, subst}
use Rattle.std.specs.Prelude.{codes}
use Rattle.station_layout.specs.ListedPlaces.{ListsBelow}
use Rattle.station_layout.specs.Row.{IsLetGoText, LetsOneGo}
use Rattle.station_layout.specs.inside.LetGoTexts.{AddsLetGo}
use Rattle.station_layout.proofs.Joined.{all_joined, nothing_valid, semicolon_valid}
use Rattle.station_layout.proofs.ListingLaws.{listed_none, listed_not, listed_one}
use Rattle.station_layout.proofs.points_let_go.let_go_cell.Goals as goal
use Rattle.station_layout.proofs.points_let_go.let_go_cell.Goals.{then-branch, else-branch}

pub loop-place-init : goal.loop-place-init
loop-place-init c =
    let sections = c.sections-sections.result.now in
    listed_none (LetsOneGo c.args.table.now c.args.route sections) (IsLetGoText c.args.table.now c.args.route sections) [] (codes "; ") _ c.new-cell.ensures.bytes nothing_valid

pub add_let_go-requires-text-before : goal.add_let_go-requires-text-before
add_let_go-requires-text-before c lifetimes = c.loop-place.invariant.valid

pub loop-place-preserved : goal.loop-place-preserved
loop-place-preserved c =
    let l = c.args.table.now in
    let a = c.args.route in
    let sections = c.sections-sections.result.now in
    let place = c.loop-place.place in
    let old = string_bytes c.loop-place.cell in
    let before = c.loop-place.before.now in
    let new = string_bytes c.add_let_go.new.cell in
    elim c.if-branch.branch [
      | then-branch w ↦
          let told = subst (λ (b : Bool). AddsLetGo l a sections place before b old new) w.if-branch.true c.in_ok-add_let_go.ensures in
          rw w.before-is (listed_one (LetsOneGo l a sections) (IsLetGoText l a sections) [] (codes "; ") place old before told.1.0 new c.loop-place.invariant told.0 told.1.1 told.1.2 semicolon_valid)
      | else-branch w ↦
          let told = subst (λ (b : Bool). AddsLetGo l a sections place before b old new) w.if-branch.false c.in_ok-add_let_go.ensures in
          rw w.before-is (rw told.1 (listed_not (LetsOneGo l a sections) (IsLetGoText l a sections) [] (codes "; ") place old before c.loop-place.invariant told.0))
    ]

pub returns : goal.returns
returns c =
    let sections = c.sections-sections.result.now in
    let listed = c.loop-place.invariant in
    let all : c.loop-place.place ≡ length sections = omega (arith, c.loop-place-test.false, c.loop-place.auto.place-end) in (
      sections,
      c.sections-sections.ensures,
      (
        listed.texts,
        subst (λ (n : ℕ). ListsBelow (LetsOneGo c.args.table.now c.args.route sections) (IsLetGoText c.args.table.now c.args.route sections) n listed.texts) all listed.below,
        listed.is ∙ all_joined (codes "; ") listed.texts,
      ),
    )
