use Rattle.std.proofs.Common.{◌≡◌, ◌∙◌, ℕ, List, [], ◌∷◌, ◌++◌, ap, sym, string_bytes}
use Rattle.std.proofs.lemmas.List.{flat_map_more}
use Rattle.std.specs.List.{flat_map}
use Rattle.drawing.specs.declared.shape.Mark.{Mark}
use Rattle.drawing.specs.declared.shape.Shape.{Shape}
use Rattle.station_plan.specs.Strokes.{stroke_of, text_of}
use Rattle.station_plan.proofs.marks.Marks.add.Goals as goal

abbrev each : {B : Type 0} → (List ℕ → Shape → List B) → Mark → List B
each of mark = of (string_bytes mark.class) mark.shape

-- what one mark more gives
one_more : {B : Type 0} (of : List ℕ → Shape → List B) (marks all : List Mark) (mark : Mark) (class : List ℕ) → string_bytes mark.class ≡ class → all ≡ marks ++ mark ∷ []
    → flat_map (each of) all ≡ flat_map (each of) marks ++ of class mark.shape
one_more of marks all mark class is push =
    ap (λ ms. flat_map (each of) ms) push ∙ sym (flat_map_more (each of) [] marks mark) ∙ ap (λ c. flat_map (each of) marks ++ of c mark.shape) is

pub returns : goal.returns
returns c = record {
  drawn = one_more stroke_of c.args.self.now.marks.items c.push.new.self.items _ c.args.class.now c.in_ok-class.ensures.ok c.in_ok-push.ensures.items;
  named = one_more (λ class shape. text_of shape) c.args.self.now.marks.items c.push.new.self.items _ c.args.class.now c.in_ok-class.ensures.ok c.in_ok-push.ensures.items;
}
