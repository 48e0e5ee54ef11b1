use Rattle.std.proofs.Common.{◌∙◌, append_assoc}
use Rattle.std.proofs.lemmas.Result.{IfOk-weaker}
use Rattle.drawing.specs.Svg.{place_text, size_text, strip_text, use_text, view_text, window_text}
use Rattle.drawing.proofs.written_picture.push_strip.Goals as goal

pub returns : goal.returns
unfolding strip_text window_text place_text size_text view_text use_text
returns c = c.push_text.ensures (strip_text c.args.strip) (IfOk-weaker c.format-text.result _ _ (λ text told. told ∙ simp append_assoc) c.format-text.ensures.ok)
