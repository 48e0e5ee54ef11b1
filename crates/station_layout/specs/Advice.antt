-- The second line that is told of a fault.
use Rattle.std.specs.Prelude.{ℕ, List, [], ◌++◌, codes}
use Rattle.std.specs.Fmt.{decimal}
use Rattle.layout_text.specs.Messages.{table_text}
use Rattle.control_table.specs.Messages.{route_text}
use Rattle.control_table.specs.declared.fault.FaultyRoute.{FaultyRoute}
use Rattle.station_layout.specs.DetailWords.{path_words, point_words}
use Rattle.station_layout.specs.EntryWords.{common_words, missed_words, place_words, spot_form, spot_words}
use Rattle.station_layout.specs.FaultWords.{layout_words, table_words}
use Rattle.station_layout.specs.FieldKeys.{key_text, kind_words}
use Rattle.station_layout.specs.declared.advice.Advice.{Advice}
use Rattle.station_layout.specs.declared.advice.Advice.TheVariants.{Broken, Entry, Layout, Route, Table, Nothing}
use Rattle.station_layout.specs.declared.advice.EntryAdvice.{EntryAdvice}
use Rattle.station_layout.specs.declared.advice.EntryAdvice.TheVariants.{Absent, Missing, Wrong, Shared, Unknown}
use Rattle.station_layout.specs.declared.advice.Spot.TheVariants as spot
use Rattle.station_layout.specs.declared.detail.RouteAdvice.{RouteAdvice}
use Rattle.station_layout.specs.declared.detail.RouteDetail.{RouteDetail}
use Rattle.station_layout.specs.declared.detail.RouteDetail.TheVariants.{Path, Points, Unwritten, WithItself, Unanswered}

-- what is told of an entry, or of the key of its entries
unfoldable pub entry_advice_words : EntryAdvice → List ℕ
entry_advice_words (Absent table) = codes "the key `" ++ (table_text table ++ codes "` is missing")
entry_advice_words (Missing place key) = place_words place ++ (codes " has no `" ++ (key_text key ++ (codes "`: it has to be " ++ spot_form (spot.Entry place))))
entry_advice_words (Wrong at kind) = spot_words at ++ (codes " is " ++ (kind_words kind ++ (codes ", and has to be " ++ spot_form at)))
entry_advice_words (Shared place common first) = place_words place ++ (codes " " ++ (common_words common ++ (codes " " ++ place_words first)))
entry_advice_words (Unknown at missed) = spot_words at ++ (codes " " ++ missed_words missed)

-- what is told of a route
abbrev pub words_of_route : FaultyRoute → RouteDetail → List ℕ
words_of_route route (Path detail) = codes "the path of " ++ (route_text route ++ (codes " " ++ path_words detail))
words_of_route route (Points detail) = route_text route ++ (codes " " ++ point_words detail)
words_of_route route (Unwritten point) = codes "point " ++ (point ++ (codes " lies on the path of " ++ (route_text route ++ codes " and isn't written under its `points`")))
words_of_route route WithItself = codes "under `extra` " ++ (route_text route ++ codes " lists itself")
words_of_route route (Unanswered other) = codes "under `extra` " ++ (route_text route ++ (codes " lists route " ++ (other ++ codes ", which doesn't list it")))

unfoldable pub route_advice_words : RouteAdvice → List ℕ
route_advice_words advice = words_of_route advice.route advice.detail

-- the second line; nothing is told where there is no fault
unfoldable pub advice_line : Advice → List ℕ
advice_line (Broken at) = codes "the text is no TOML from line " ++ (decimal at.line ++ (codes ", column " ++ (decimal at.column ++ codes " on\n")))
advice_line (Entry advice) = entry_advice_words advice ++ codes "\n"
advice_line (Layout fault) = layout_words fault ++ codes "\n"
advice_line (Route advice) = route_advice_words advice ++ codes "\n"
advice_line (Table fault) = table_words fault ++ codes "\n"
advice_line Nothing = []
