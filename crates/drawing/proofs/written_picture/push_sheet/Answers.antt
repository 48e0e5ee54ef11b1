use Rattle.std.proofs.Common.{◌∙◌, ◌++◌, append_assoc}
use Rattle.std.proofs.lemmas.Result.{IfOk-weaker}
use Rattle.drawing.specs.Svg.{beginning_text, ground_text, place_text, sheet_text, size_text, view_text, viewed_text}
use Rattle.drawing.proofs.written_picture.push_sheet.Goals as goal

pub returns : goal.returns
unfolding beginning_text ground_text place_text sheet_text size_text view_text viewed_text
returns c = c.push_text.ensures (sheet_text c.args.paper ++ ground_text c.args.paper) (IfOk-weaker c.format-text.result _ _ (λ text told. told ∙ simp append_assoc) c.format-text.ensures.ok)
