use Rattle.std.proofs.Common.{◌≡◌, ◌∙◌, ◌++◌, ◌<◌, length, get_or, refl, ap, Option, None, arith}
use Rattle.std.specs.Prelude.{slice_get}
use Rattle.std.proofs.lemmas.List.{get_or_default}
use Rattle.node_drive.specs.node_lines.declared.operator_line.Known.{Known}
use Rattle.node_kinds.specs.Interlockings.{changes, last_told, news}
use Rattle.node_kinds.specs.inside.InterlockingSteps.{texts}
use Rattle.node_kinds.proofs.Lists.{all_over, one_over}
use Rattle.node_kinds.proofs.changes.say_changes.Goals as goal

pub loop-place-preserved : goal.loop-place-preserved
loop-place-preserved c =
    let layout = c.args.layout.now in
    let told = c.args.told.now in
    let all = c.args.all.now in
    let place = c.loop-place.place in
    let one : Option Known = get_or all place None in
    let below : place < length all = omega (arith, c.loop-place-test.true) in
    let said : texts c.say_news.new.said ≡ texts c.loop-place.said ++ news layout (last_told (slice_get told place)) one =
    c.in_ok-say_news.ensures ∙ ap (λ last. texts c.loop-place.said ++ news layout last one) c.last_told.ensures in
    one_over (λ place one. news layout (last_told (slice_get told place)) one) place all one (texts c.loop-place.said) (texts c.say_news.new.said) (texts c.args.said.now ++ changes layout told all)
    (news layout (last_told (slice_get told place)) one) below (get_or_default all place None one below) refl said c.loop-place.invariant

pub returns : goal.returns
returns c =
    let layout = c.args.layout.now in
    let told = c.args.told.now in
    let all = c.args.all.now in
    all_over (λ place one. news layout (last_told (slice_get told place)) one) c.loop-place.place all (texts c.loop-place.said) (texts c.args.said.now ++ changes layout told all) (omega (arith, c.loop-place-test.false)) c.loop-place.invariant
