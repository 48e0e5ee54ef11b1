-- How a text stands in SVG: what XML takes for markup is written by its name.
use Rattle.std.specs.Prelude.{◌==◌, ℕ, List, [], ◌∷◌, codes, nat_lt, if◌then◌else◌}
use Rattle.std.specs.List.{flat_map}

-- The bytes of a byte: `&`, `<`, `>` and `"` go by their names. A control character, which XML doesn't allow, becomes a
-- space.
abbrev pub escaped_byte : ℕ → List ℕ
escaped_byte b =
    if b == 38 then codes "&amp;"
    else (if b == 60 then codes "&lt;"
    else (if b == 62 then codes "&gt;"
    else (if b == 34 then codes "&quot;"
    else (if nat_lt b 32 then codes " "
    else b ∷ []))))

abbrev pub escaped : List ℕ → List ℕ
escaped text = flat_map escaped_byte text
