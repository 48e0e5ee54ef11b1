use Rattle.std.proofs.Common.{◌≡◌, ◌∙◌, List, [], ◌∷◌, ◌++◌, ap, subst, sym}
use Rattle.std.proofs.lemmas.List.{map-append}
use Rattle.station_plan.specs.Faces.{AreDrawn, strokes_for, words_for}
use Rattle.station_plan.specs.Strokes.{strokes, written}
use Rattle.station_plan.specs.Subjects.{subjects_of}
use Rattle.station_plan.specs.declared.thing.Thing.{Thing}
use Rattle.station_plan.proofs.ThingsDrawn.{one_more}
use Rattle.station_plan.proofs.thing_list.add.Goals as goal

listed_with : (before after : List Thing) (thing : Thing) → after ≡ before ++ thing ∷ [] → subjects_of after ≡ subjects_of before ++ thing.subject ∷ []
listed_with before after thing more = ap subjects_of more ∙ map-append (λ t. t.subject) before (thing ∷ [])

pub returns : goal.returns
returns c =
    let l = c.args.scene.layout.now in
    let seen = c.args.scene.shown.now.seen in
    let before = c.args.things.now.items in
    let s = c.args.placed.now.subject in
    record {
      listed = listed_with before _ _ c.in_ok-push.ensures.items;
      drawn = subst (AreDrawn l seen) (sym c.in_ok-push.ensures.items) (one_more l seen before _ c.requires (record {
        symbol = c.in_ok-draw.ensures.drawn ∙ ap (λ m. strokes m ++ strokes_for l s) c.new-marks.ensures;
        name = c.in_ok-draw.ensures.named ∙ ap (λ m. written m ++ words_for s) c.new-marks.ensures;
        state = c.in_ok-state.ensures.ok ∙ c.state_word-state.ensures;
      }));
    }
