-- The lines of a round, one after another.
use Rattle.std.proofs.Common.{◌≡◌, ◌<◌, ◌≤◌, ℕ, Bool, List, [], ◌∷◌, ◌++◌, length, map, true, false, refl, sym, ap, subst, ◌∙◌, append-nil, append_assoc}
use Rattle.std.proofs.lemmas.List.{map-append}
use Rattle.node_drive.specs.Calls.{AsksLine, Calls, CallsCut, Closed, LineHeard, Nothing, Reads, Text, Told}
use Rattle.node_drive.specs.Drives.{Performs, Stops, Timed, line_in, lines_end}
use Rattle.node_drive.specs.Inside.{OneLine, closed_end}
use Rattle.node_drive.specs.Kinds.{Kind}
use Rattle.node_drive.specs.Rounds.{Line, LinesEnd, NoLine, Standing, having_called, line, then_released}
use Rattle.node_drive.proofs.Calls.{calls_same, calls_then, cuts_all, cuts_same, cuts_then}
use Rattle.node_drive.proofs.Comings.{performs_one, performs_same, performs_then, stops_one, stops_same, stops_then}
use Rattle.node_drive.proofs.Ends.{ends_few, ends_full}
use Rattle.node_drive.proofs.Lists.{map_push}
use Rattle.node_drive.proofs.Stepped.{end_cut}

-- what was heard, said otherwise
pub asked_as : {ta tb : Told} {some one : LineHeard} → some ≡ one → Calls ta tb (AsksLine some ∷ []) → Calls ta tb (AsksLine one ∷ [])
asked_as e p = calls_same (ap (λ (heard : LineHeard). AsksLine heard ∷ []) e) p

module _ {State In : Type 0} {kind : Kind State In} where
  -- one more
  pub more_lines : {a b c : Standing State} {ta tb tc : Told} (lines : List (Timed (List ℕ))) (one : Timed (List ℕ)) → Performs kind (map line_in lines) a b ta tb → Performs kind (line_in one ∷ []) b c tb tc
      → Performs kind (map line_in (lines ++ one ∷ [])) a c ta tc
  more_lines lines one p q = performs_same (sym (map_push line_in lines one)) (performs_then p q)

  -- and none after them
  pub none_more : {a b c : Standing State} {ta tb tc : Told} (lines : List (Timed (List ℕ))) → Performs kind (map line_in lines) a b ta tb → Performs kind ((0, NoLine) ∷ []) b c tb tc → length lines < 64
      → Performs kind (map line_in lines ++ lines_end (length lines)) a c ta tc
  none_more lines p q few = performs_same (ap (λ l. map line_in lines ++ l) (sym (ends_few (length lines) few))) (performs_then p q)

  pub full_lines : {a b : Standing State} {ta tb : Told} (lines : List (Timed (List ℕ))) → Performs kind (map line_in lines) a b ta tb → 64 ≤ length lines
      → Performs kind (map line_in lines ++ lines_end (length lines)) a b ta tb
  full_lines lines p many = performs_same (sym (append-nil (map line_in lines)) ∙ ap (λ l. map line_in lines ++ l) (sym (ends_full (length lines) many))) p

  pub cut_more : {a b : Standing State} {ta tb tc : Told} (lines more : List (Timed (List ℕ))) (closed : Bool) → Performs kind (map line_in lines) a b ta tb
      → Stops kind (map line_in more ++ closed_end closed) b tb tc → Stops kind (map line_in (lines ++ more) ++ closed_end closed) a ta tc
  cut_more lines more closed p s =
      stops_same (sym (append_assoc (map line_in lines) (map line_in more) (closed_end closed)) ∙ ap (λ l. l ++ closed_end closed) (sym (map-append line_in lines more))) (stops_then p s)

  -- that one came, where it was answered so
  pub came_one : {a b : Standing State} {ta tb : Told} (came : Bool) → came ≡ true → OneLine kind came a b ta tb → (one : Timed (List ℕ)) × Performs kind (line_in one ∷ []) a b ta tb
  came_one {a} {b} {ta} {tb} came e h = subst (λ (v : Bool). OneLine kind v a b ta tb) e h

  -- or none
  pub came_none : {a b : Standing State} {ta tb : Told} (came : Bool) → came ≡ false → OneLine kind came a b ta tb → Performs kind ((0, NoLine) ∷ []) a b ta tb
  came_none {a} {b} {ta} {tb} came e h = subst (λ (v : Bool). OneLine kind v a b ta tb) e h

  -- ---- one line

  pub one_line : {a b z : Standing State} {ta tb tc td : Told} (one : Timed (List ℕ)) → b ≡ having_called (Reads one.now ∷ []) a → Calls ta tb (AsksLine (Text one.input) ∷ []) → Calls tb tc (Reads one.now ∷ [])
      → z ≡ (then_released one.ends.leaves (line kind one.now one.ends.kept one.input b)).1 → Calls tc td (then_released one.ends.leaves (line kind one.now one.ends.kept one.input b)).0 → Performs kind (line_in one ∷ []) a z ta td
  one_line one noted asks reads e calls =
      performs_one one.now (Line one.input one.ends)
      (e ∙ ap (λ (s : Standing State). (then_released one.ends.leaves (line kind one.now one.ends.kept one.input s)).1) noted)
      (calls_then asks (calls_then reads (calls_same (ap (λ (s : Standing State). (then_released one.ends.leaves (line kind one.now one.ends.kept one.input s)).0) noted) calls)))

  pub one_cut : {a b : Standing State} {ta tb tc td : Told} (one : Timed (List ℕ)) → b ≡ having_called (Reads one.now ∷ []) a → Calls ta tb (AsksLine (Text one.input) ∷ []) → Calls tb tc (Reads one.now ∷ [])
      → CallsCut tc td (line kind one.now one.ends.kept one.input b).0 → Stops kind (line_in one ∷ []) a ta td
  one_cut {a} {b} one noted asks reads cut =
      stops_one one.now (Line one.input one.ends)
      (cuts_then asks (cuts_then reads (cuts_same (ap (λ (s : Standing State). (then_released one.ends.leaves (line kind one.now one.ends.kept one.input s)).0) noted) (end_cut kind one.ends.leaves (line kind one.now one.ends.kept one.input b) cut))))

  pub none_came : {a : Standing State} {ta tb : Told} → Calls ta tb (AsksLine Nothing ∷ []) → Performs kind ((0, NoLine) ∷ []) a a ta tb
  none_came asks = performs_one 0 NoLine refl asks

  pub none_comes : {a : Standing State} {ta tb : Told} → Calls ta tb (AsksLine Closed ∷ []) → Stops kind ((0, LinesEnd) ∷ []) a ta tb
  none_comes asks = stops_one 0 LinesEnd (cuts_all asks)

  -- nothing was called
  pub nothing_called : {a : Standing State} {ta tb : Told} → Calls ta tb [] → Stops kind [] a ta tb
  nothing_called none = record { cut = cuts_all none }
