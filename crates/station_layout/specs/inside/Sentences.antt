-- What is written of a sentence.
use Rattle.std.specs.Borrow.{Bor}
use Rattle.std.specs.Prelude.{List, ℕ, [], ◌++◌, slice_index_or}
use Rattle.std.specs.Fmt.{decimal, signed_decimal}
use Rattle.control_table.specs.Messages.{route_text}
use Rattle.layout_text.specs.Messages.{table_text}
use Rattle.station_layout.specs.EntryWords.{place_words, spot_words}
use Rattle.station_layout.specs.FieldKeys.{key_text}
use Rattle.control_table.specs.sci_telegram.Words.{side_word}
use Rattle.station_layout.specs.PortWords.{port_words}
use Rattle.station_layout.specs.declared.sentence.Part.{Part}
use Rattle.station_layout.specs.declared.sentence.Part.TheVariants.{Nothing, Words, Key, Name, Port, Side, Id, Number, Integer, Table, Place, Spot, Route}
use Rattle.station_layout.specs.declared.sentence.Sentence.{Sentence}

unfoldable pub part_words : Part → List ℕ
part_words Nothing = []
part_words (Words words) = words.now
part_words (Key key) = key_text key
part_words (Name name) = name
part_words (Port port) = port_words port
part_words (Side side) = side_word side
part_words (Id id) = decimal id
part_words (Number number) = decimal number
part_words (Integer value) = signed_decimal value
part_words (Table table) = table_text table
part_words (Place place) = place_words place
part_words (Spot spot) = spot_words spot
part_words (Route route) = route_text route

-- those of the words of a sentence that stand at a place
abbrev pub words_at : List (Bor (List ℕ)) → ℕ → List ℕ
words_at words place = (slice_index_or words place (record { ref_ptr = (0, 0); now = [] })).now

-- the words with the parts between them, in order
abbrev pub sentence_words : Sentence → List ℕ
sentence_words s =
    words_at s.0.now 0 ++ (part_words s.1 ++ (words_at s.0.now 1 ++ (part_words s.2 ++ (words_at s.0.now 2 ++ (part_words s.3
    ++ (words_at s.0.now 3 ++ (part_words s.4 ++ (words_at s.0.now 4 ++ (part_words s.5 ++ words_at s.0.now 5)))))))))
