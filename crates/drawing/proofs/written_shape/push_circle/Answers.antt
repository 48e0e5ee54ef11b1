use Rattle.drawing.proofs.written_shape.push_circle.Goals as goal

pub returns : goal.returns
returns c = c.push_text.ensures _ c.format-text.ensures.ok
