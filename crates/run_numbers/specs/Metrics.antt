-- Numbers as far as they were told, and the text in which Prometheus reads them: for each name a line that says what it is and one
-- that says whether it counts, and a line for each number that was told.
--
--     # HELP zendurai_links_up Links that are ready.
--     # TYPE zendurai_links_up gauge
--     zendurai_links_up 10
--     # HELP zendurai_closings_sent_total Disconnection requests that were sent, by reason.
--     # TYPE zendurai_closings_sent_total counter
--     zendurai_closings_sent_total{reason="user"} 0
use Rattle.std.specs.Prelude.{ℕ, Bool, true, false, List, [], ◌∷◌, ◌++◌, codes, get_or, replicate, Option, Some, None}
use Rattle.std.specs.Fmt.{decimal}
use Rattle.std.specs.List.{flat_map}
use Rattle.run_numbers.specs.Numbers.{put_at}
use Rattle.run_numbers.specs.Rows.{begins, help_of, key_of, kind_of, label_of, name_of, place_of, row_count, rows}
use Rattle.run_numbers.specs.declared.row.Row.{Row}

-- ---- what was told

abbrev pub nothing_told : List (Option ℕ)
nothing_told = replicate row_count None

abbrev pub told : Row → ℕ → List (Option ℕ) → List (Option ℕ)
told row value all = put_at (place_of row) (Some value) all

abbrev pub told_of : Row → List (Option ℕ) → Option ℕ
told_of row all = get_or all (place_of row) None

-- ---- the text

abbrev pub metric_name : Row → List ℕ
metric_name row = codes "zendurai_" ++ name_of row

abbrev pub help_text : Row → List ℕ
help_text row = codes "# HELP " ++ (metric_name row ++ (32 ∷ (help_of row ++ (10 ∷ []))))

abbrev pub type_text : Row → List ℕ
type_text row = codes "# TYPE " ++ (metric_name row ++ (32 ∷ (kind_of row ++ (10 ∷ []))))

abbrev pub head_if : Bool → Row → List ℕ
head_if true row = help_text row ++ type_text row
head_if false row = []

-- what tells it apart, if anything has to
abbrev pub labels_text : List ℕ → Row → List ℕ
labels_text [] row = []
labels_text (first ∷ more) row = codes "{" ++ ((first ∷ more) ++ (codes "=\"" ++ (label_of row ++ codes "\"}")))

abbrev pub sample_text : Row → ℕ → List ℕ
sample_text row value = metric_name row ++ (labels_text (key_of row) row ++ (32 ∷ (decimal value ++ (10 ∷ []))))

-- a number that wasn't told has no line
abbrev pub row_text : Row → Option ℕ → List ℕ
row_text row None = []
row_text row (Some value) = head_if (begins row) row ++ sample_text row value

-- of a row, as far as it was told
abbrev pub text_of : List (Option ℕ) → Row → List ℕ
text_of all row = row_text row (told_of row all)

abbrev pub metrics_text : List (Option ℕ) → List ℕ
metrics_text all = flat_map (text_of all) rows
