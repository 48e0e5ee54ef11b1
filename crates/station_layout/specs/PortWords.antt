-- Ports as they are written.
use Rattle.std.specs.Prelude.{ℕ, List, ◌++◌, codes}
use Rattle.layout_text.specs.declared.entries.End.{End}
use Rattle.layout_text.specs.declared.entries.End.TheVariants as end
use Rattle.layout_text.specs.declared.entries.PortName.{PortName}

-- the word of a port
unfoldable pub end_word : End → List ℕ
end_word end.A = codes "a"
end_word end.B = codes "b"
end_word end.Tip = codes "tip"
end_word end.Left = codes "left"
end_word end.Right = codes "right"
end_word end.End = codes "end"

-- the name of its element, a dot and its word
unfoldable pub port_words : PortName → List ℕ
port_words port = port.element ++ (codes "." ++ end_word port.end)
