-- What a page lacks that knows all that was told up to a number, as JSON:
--
--     {"changed": [[PLACE, "LINE"], ..], "log": ["LINE", ..], "number": NUMBER}
--
-- `changed` has the lines that were told after that number, each with its place, in their order; `log` those that were noted after
-- it; `number` is what the page asks after next.
use Rattle.std.specs.Prelude.{ℕ, suc, nat_lt, if◌then◌else◌, List, [], ◌∷◌, codes}
use Rattle.serde_json.specs.Data.{Data, number, unsigned, string, array, object, item, no_items, member, no_members}
use Rattle.serde_json.specs.View.{items_of}
use Rattle.panel_desk.specs.Lines.{BoardView, NotedView}

-- a line with its place
abbrev pub pair_of : ℕ → List ℕ → Data
pair_of place text = array (item (number (unsigned place)) (item (string text) no_items))

-- the lines from a place on that were told after a number
abbrev pub newer : ℕ → ℕ → List NotedView → List Data
newer after place [] = []
newer after place (one ∷ more) =
    if nat_lt after one.since then pair_of place one.text ∷ newer after (suc place) more else newer after (suc place) more

-- the lines of a log that were noted after a number
abbrev pub newer_lines : ℕ → List NotedView → List Data
newer_lines after [] = []
newer_lines after (one ∷ more) =
    if nat_lt after one.since then string one.text ∷ newer_lines after more else newer_lines after more

abbrev pub state_of : ℕ → ℕ → List NotedView → List NotedView → Data
state_of after count shown log =
    object (member (codes "changed") (array (items_of (newer after 0 shown)))
    (member (codes "log") (array (items_of (newer_lines after log)))
    (member (codes "number") (number (unsigned count)) no_members)))

abbrev pub state : ℕ → BoardView → Data
state after board = state_of after board.number board.shown board.log

-- What a page is told once, as JSON: what doesn't change while the panel runs.
abbrev pub about : List ℕ → List ℕ → List ℕ → List ℕ → List ℕ → List ℕ → List ℕ → Data
about kind layout name record_path svg token version =
    object (member (codes "kind") (string kind)
    (member (codes "layout") (string layout)
    (member (codes "name") (string name)
    (member (codes "record") (string record_path)
    (member (codes "svg") (string svg)
    (member (codes "token") (string token)
    (member (codes "version") (string version) no_members)))))))
