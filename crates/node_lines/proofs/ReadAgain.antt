-- The words of a line say it again.
use Rattle.std.proofs.Common.{◌≡◌, ◌<◌, ◌^◌, ◌∙◌, ℕ, zero, suc, ◌&&◌, nat_lt, Bool, true, false, List, [], ◌∷◌, codes, length, Option, Some, None, slice_get, Result, Ok, Err, refl, sym, ap, arith, if◌then◌else◌}
use Rattle.std.specs.Fmt.{decimal as written}
use Rattle.std.specs.List.{join_with_byte}
use Rattle.std.specs.Option.{option_map_or}
use Rattle.std.specs.Str.{bytes_eq}
use Rattle.std.proofs.lemmas.Bool.{true≢false}
use Rattle.std.proofs.lemmas.Bool.Decides.{nat_tests}
use Rattle.std.proofs.lemmas.Option.{slice_get_within}
use Rattle.replay_words.specs.declared.fault.Fault.{Fault}
use Rattle.replay_words.specs.Cut.{words}
use Rattle.replay_words.specs.Fault.{both, ◌>>=◌}
use Rattle.replay_words.specs.Read.{decimal}
use Rattle.replay_words.specs.Words.{are_words, is_without}
use Rattle.replay_lines.specs.ixl_spec.layout.Entries.{RouteEntry, Site}
use Rattle.replay_lines.specs.ixl_spec.layout.declared.ids.RouteId.{RouteId}
use Rattle.replay_lines.specs.ixl_spec.layout.declared.ids.SectionId.{SectionId}
use Rattle.replay_lines.specs.ixl_spec.layout.declared.entries.Point.{Point as LayoutPoint}
use Rattle.replay_lines.specs.ixl_spec.layout.declared.ids.PointId.{PointId}
use Rattle.replay_lines.specs.ixl_spec.closings.declared.thing.Named.{Named}
use Rattle.replay_lines.specs.ixl_spec.closings.Words.{name_of, name_word, side_of, side_word}
use Rattle.replay_lines.specs.ixl_spec.declared.command.Command.{Command}
use Rattle.replay_lines.specs.ixl_spec.declared.command.Command.TheVariants as command
use Rattle.replay_lines.specs.ixl_spec.sci_telegram.declared.message.Side.{Side}
use Rattle.simulator_event.specs.declared.event.Event.{Event}
use Rattle.simulator_event.specs.declared.event.Event.TheVariants.{Request}
use Rattle.replay_lines.specs.ixl_spec.sci_telegram.declared.message.Occupancy.{Occupancy}
use Rattle.replay_lines.specs.ixl_spec.sci_telegram.declared.message.Occupancy.TheVariants as occupancy
use Rattle.replay_lines.specs.ixl_spec.sci_telegram.declared.message.Position.TheVariants as position
use Rattle.replay_lines.specs.ixl_spec.sci_telegram.declared.message.Side.TheVariants as side
use Rattle.replay_lines.specs.Events.{close_named, event as event_said, move_point, open_named, release, requested}
use Rattle.replay_lines.specs.Names.{point_word, route_named, route_word, section_named, section_word}
use Rattle.replay_lines.specs.ReadAgain.{command_read, route_read}
use Rattle.replay_lines.specs.Written.{command_words, side_words}
use Rattle.node_lines.specs.Commands.{command_said, command_text, one, operator_read}
use Rattle.node_lines.specs.Orders.{line_of, order_line_said, order_line_words, order_said, order_text, order_words}
use Rattle.node_lines.specs.ReadAgain.{IsOrder, IsOrderLine, IsReport}
use Rattle.node_lines.specs.Reports.{report_said, report_text}
use Rattle.node_lines.specs.declared.operator_command.OperatorCommand.{OperatorCommand}
use Rattle.node_lines.specs.declared.operator_command.OperatorCommand.TheVariants.{One, CancelAll}
use Rattle.node_lines.specs.declared.order.Order.{Order}
use Rattle.node_lines.specs.declared.order.Order.TheVariants.{ShowStop, ShowProceed, ShowSlow, DriveNone, Drive}
use Rattle.node_lines.specs.declared.order.OrderLine.{OrderLine}
use Rattle.node_lines.specs.declared.report.FieldReport.{FieldReport}
use Rattle.node_lines.specs.declared.report.FieldReport.TheVariants.{Done, Section, Point}

-- what the crates below say of words and numbers
pub record Reads : Type 0 where
  pub joined : (ws : List (List ℕ)) → 0 < length ws → are_words ws ≡ true → words (join_with_byte 32 ws) ≡ ws
  pub number : (n : ℕ) → n < 2 ^ 64 → decimal (written n) ≡ Ok n
  pub number_word : (n : ℕ) → n < 2 ^ 64 → is_without 32 (written n) ≡ true

-- and of the names of a layout
pub record Names (site : Site) : Type 0 where
  pub joined : (ws : List (List ℕ)) → 0 < length ws → are_words ws ≡ true → words (join_with_byte 32 ws) ≡ ws
  pub sections : (k : ℕ) (name : List ℕ) → slice_get site.sections k ≡ Some name → section_named site name ≡ Ok (record { 0 = k })
  pub routes : (k : ℕ) (route : RouteEntry) → slice_get site.routes k ≡ Some route → route_named site route.name ≡ record { 0 = k }
  pub section_words : (k : ℕ) (name : List ℕ) → slice_get site.sections k ≡ Some name → is_without 32 name ≡ true
  pub route_words : (k : ℕ) (route : RouteEntry) → slice_get site.routes k ≡ Some route → is_without 32 route.name ≡ true
  pub unknown : route_named site (codes "_") ≡ record { 0 = length site.routes }

-- what they say of the commands that operate a station through failures
pub record Operations (site : Site) : Type 0 where
  pub read : (asked : Command) → event_said site (words (join_with_byte 32 (command_words site asked))) ≡ Ok (Request (command_read site asked))
  pub things : (n : Named) (name : List ℕ) → name_of site n ≡ Some name → is_without 32 name ≡ true
  pub points : (k : ℕ) (point : LayoutPoint) → slice_get site.points k ≡ Some point → is_without 32 point.name ≡ true

one_more : (w : List ℕ) (ws : List (List ℕ)) → is_without 32 w ≡ true → are_words ws ≡ true → are_words (w ∷ ws) ≡ true
one_more w ws e f = ap (λ v. v && are_words ws) e ∙ f

not_past : {A : Type 0} (xs : List A) (k : ℕ) → k < length xs → slice_get xs k ≡ None → ⊥
not_past [] k h e = omega arith
not_past (x ∷ xs) zero h e = cc
not_past (x ∷ xs) (suc k) h e = not_past xs k (omega arith) e

-- ---- orders

module _ (reads : Reads) where
  order-said : (order : Order) → IsOrder order → order_said (order_words order) ≡ Ok order
  order-said ShowStop is = refl
  order-said (ShowProceed until) is = ap (λ (r : Result ℕ Fault). r >>= (λ (n : ℕ). Ok (ShowProceed n))) (reads.number until is)
  order-said (ShowSlow until) is = ap (λ (r : Result ℕ Fault). r >>= (λ (n : ℕ). Ok (ShowSlow n))) (reads.number until is)
  order-said DriveNone is = refl
  order-said (Drive side.Left until) is = ap (λ (r : Result ℕ Fault). r >>= (λ (n : ℕ). Ok (Drive side.Left n))) (reads.number until is)
  order-said (Drive side.Right until) is = ap (λ (r : Result ℕ Fault). r >>= (λ (n : ℕ). Ok (Drive side.Right n))) (reads.number until is)

  until-is : (until : ℕ) → until < 2 ^ 64 → are_words (codes "until" ∷ written until ∷ []) ≡ true
  until-is until is = one_more (codes "until") (written until ∷ []) refl (one_more (written until) [] (reads.number_word until is) refl)

  order-words : (order : Order) → IsOrder order → are_words (order_words order) ≡ true
  order-words ShowStop is = refl
  order-words (ShowProceed until) is = until-is until is
  order-words (ShowSlow until) is = until-is until is
  order-words DriveNone is = refl
  order-words (Drive side.Left until) is = until-is until is
  order-words (Drive side.Right until) is = until-is until is

  pub order-read : (line : OrderLine) → IsOrderLine line → order_line_said (words (order_text line)) ≡ Ok line
  order-read line is =
      ap order_line_said (reads.joined (order_line_words line) (omega arith) are)
      ∙ ap (λ (r : Result ℕ Fault). line_of (both (both r (decimal (written line.reading))) (order_said (order_words line.order)))) (reads.number line.number is.number)
      ∙ ap (λ (r : Result ℕ Fault). line_of (both (both (Ok line.number) r) (order_said (order_words line.order)))) (reads.number line.reading is.reading)
      ∙ ap (λ (r : Result Order Fault). line_of (both (both (Ok line.number) (Ok line.reading)) r)) (order-said line.order is.order)
    where
      are : are_words (order_line_words line) ≡ true
      are =
          one_more (written line.number) (codes "at" ∷ written line.reading ∷ order_words line.order) (reads.number_word line.number is.number)
          (one_more (codes "at") (written line.reading ∷ order_words line.order) refl
          (one_more (written line.reading) (order_words line.order) (reads.number_word line.reading is.reading) (order-words line.order is.order)))

  -- ---- reports

  pub report-read : (site : Site) → Names site → (report : FieldReport) → IsReport site report → report_said site (words (report_text site report)) ≡ Ok report
  report-read site names (Done number) is =
      ap (report_said site) (reads.joined (codes "done" ∷ written number ∷ []) (omega arith) (one_more (codes "done") (written number ∷ []) refl (one_more (written number) [] (reads.number_word number is) refl)))
      ∙ ap (λ (r : Result ℕ Fault). r >>= (λ (n : ℕ). Ok (Done n))) (reads.number number is)
  report-read site names (Section section told) is = by (slice_get site.sections section.0) refl told
    where
      by : (found : Option (List ℕ)) → slice_get site.sections section.0 ≡ found → (told : Occupancy) → report_said site (words (report_text site (Section section told))) ≡ Ok (Section section told)
      by (Some name) e occupancy.Occupied =
          let word : section_word site section ≡ name = ap (λ f. option_map_or (λ n. n) f (codes "_")) e in
          ap (report_said site) (reads.joined (codes "occupy" ∷ section_word site section ∷ []) (omega arith) (one_more (codes "occupy") (section_word site section ∷ []) refl (one_more (section_word site section) [] (ap (is_without 32) word ∙ names.section_words section.0 name e) refl)))
          ∙ ap (λ (r : Result SectionId Fault). r >>= (λ (of : SectionId). Ok (Section of occupancy.Occupied))) (ap (section_named site) word ∙ names.sections section.0 name e)
      by (Some name) e occupancy.Clear =
          let word : section_word site section ≡ name = ap (λ f. option_map_or (λ n. n) f (codes "_")) e in
          ap (report_said site) (reads.joined (codes "clear" ∷ section_word site section ∷ []) (omega arith) (one_more (codes "clear") (section_word site section ∷ []) refl (one_more (section_word site section) [] (ap (is_without 32) word ∙ names.section_words section.0 name e) refl)))
          ∙ ap (λ (r : Result SectionId Fault). r >>= (λ (of : SectionId). Ok (Section of occupancy.Clear))) (ap (section_named site) word ∙ names.sections section.0 name e)
      by None e told = absurd (not_past site.sections section.0 is e)
  report-read site names (Point position.Left) is = ap (report_said site) (reads.joined (codes "reach" ∷ codes "left" ∷ []) (omega arith) refl)
  report-read site names (Point position.Right) is = ap (report_said site) (reads.joined (codes "reach" ∷ codes "right" ∷ []) (omega arith) refl)
  report-read site names (Point position.NoEndPosition) is = ap (report_said site) (reads.joined (codes "reach" ∷ codes "none" ∷ []) (omega arith) refl)

-- ---- commands

abbrev cancelled : Bool → RouteId → Result OperatorCommand Fault
cancelled v route = if v then Ok CancelAll else Ok (One (command.Cancel route))

abbrev chosen : Bool → RouteId → OperatorCommand
chosen v route = if v then CancelAll else One (command.Cancel route)

-- a command that the line of an event says is what is asked for
asked-is : (said : Result Command Fault) (asked : Command) → requested said ≡ Ok (Request asked) → one said ≡ Ok (One asked)
asked-is (Ok of) asked is = ap (λ (found : Result Event Fault). one (Ok (command_in found))) is
  where
    command_in : Result Event Fault → Command
    command_in (Ok (Request found)) = found
    command_in _ = of
asked-is (Err fault) asked is = absurd (cc)

module _ (site : Site) (names : Names site) (operations : Operations site) where
  route-says : (route : RouteId) → (route_named site (route_word site route) ≡ route_read site route) × (is_without 32 (route_word site route) ≡ true)
  route-says route = by (slice_get site.routes route.0) refl (nat_lt route.0 (length site.routes)) refl
    where
      by : (found : Option RouteEntry) → slice_get site.routes route.0 ≡ found → (v : Bool) → nat_lt route.0 (length site.routes) ≡ v
          → (route_named site (route_word site route) ≡ (if v then route else record { 0 = length site.routes })) × (is_without 32 (route_word site route) ≡ true)
      by (Some entry) e true h =
          let word : route_word site route ≡ entry.name = ap (λ f. option_map_or (λ r. r.name) f (codes "_")) e in
          (ap (route_named site) word ∙ names.routes route.0 entry e, ap (is_without 32) word ∙ names.route_words route.0 entry e)
      by (Some entry) e false h =
          let there = slice_get_within site.routes route.0 entry e in
          absurd (true≢false (sym (grind (arith, nat_tests, there)) ∙ h))
      by None e false h =
          let word : route_word site route ≡ codes "_" = ap (λ f. option_map_or (λ r. r.name) f (codes "_")) e in
          (ap (route_named site) word ∙ names.unknown, ap (is_without 32) word)
      by None e true h = absurd (not_past site.routes route.0 (grind (arith, nat_tests, h)) e)

  name-is-word : (n : Named) → is_without 32 (name_word site n) ≡ true
  name-is-word n = by (name_of site n) refl
    where
      by : (found : Option (List ℕ)) → name_of site n ≡ found → is_without 32 (option_map_or (λ name. name) found (codes "_")) ≡ true
      by (Some name) e = operations.things n name e
      by None e = refl

  point-is-word : (point : PointId) → is_without 32 (point_word site point) ≡ true
  point-is-word point = by (slice_get site.points point.0) refl
    where
      by : (found : Option LayoutPoint) → slice_get site.points point.0 ≡ found → is_without 32 (option_map_or (λ (p : LayoutPoint). p.name) found (codes "_")) ≡ true
      by (Some entry) e = operations.points point.0 entry e
      by None e = refl

  side-is-word : (at : Side) → is_without 32 (side_word at) ≡ true
  side-is-word side.Left = refl
  side-is-word side.Right = refl

  -- a verb and what is named are words
  named-words : (verb : List ℕ) (n : Named) → is_without 32 verb ≡ true → (at : Option Side) → are_words (verb ∷ name_word site n ∷ side_words at) ≡ true
  named-words verb n is None = one_more verb (name_word site n ∷ []) is (one_more (name_word site n) [] (name-is-word n) refl)
  named-words verb n is (Some at) = one_more verb (name_word site n ∷ side_word at ∷ []) is (one_more (name_word site n) (side_word at ∷ []) (name-is-word n) (one_more (side_word at) [] (side-is-word at) refl))

  -- the words of a line, where they say a command
  operation-read : (asked : Command) (said : Result Command Fault) → 0 < length (command_words site asked) → are_words (command_words site asked) ≡ true →
      event_said site (command_words site asked) ≡ requested said → command_said site (command_words site asked) ≡ one said → command_said site (words (command_text site (One asked))) ≡ Ok (One (command_read site asked))
  operation-read asked said some are event_is command_is =
      let joined = names.joined (command_words site asked) some are in
      ap (command_said site) joined ∙ command_is
      ∙ asked-is said (command_read site asked) (sym event_is ∙ ap (event_said site) (sym joined) ∙ operations.read asked)

  pub command-read : (asked : OperatorCommand) → command_said site (words (command_text site asked)) ≡ Ok (operator_read site asked)
  command-read (One command.Resume) = ap (command_said site) (names.joined (codes "resume" ∷ []) (omega arith) refl)
  command-read (One (command.Request route)) =
      let says = route-says route in
      ap (command_said site) (names.joined (codes "set" ∷ route_word site route ∷ []) (omega arith) (one_more (codes "set") (route_word site route ∷ []) refl (one_more (route_word site route) [] says.1 refl)))
      ∙ ap (λ (r : RouteId). Ok (One (command.Request r))) says.0
  command-read (One (command.Cancel route)) =
      ap (command_said site) (names.joined (codes "cancel" ∷ route_word site route ∷ []) (omega arith) (one_more (codes "cancel") (route_word site route ∷ []) refl (one_more (route_word site route) [] (route-says route).1 refl)))
      ∙ by (bytes_eq (route_word site route) (codes "all"))
    where
      by : (v : Bool) → cancelled v (route_named site (route_word site route)) ≡ Ok (chosen v (route_read site route))
      by true = refl
      by false = ap (λ (r : RouteId). Ok (One (command.Cancel r))) (route-says route).0
  command-read CancelAll = ap (command_said site) (names.joined (codes "cancel" ∷ codes "all" ∷ []) (omega arith) refl)
  command-read (One (command.Release route)) =
      operation-read (command.Release route) (release site (route_word site route ∷ [])) (omega arith)
      (one_more (codes "release") (route_word site route ∷ []) refl (one_more (route_word site route) [] (route-says route).1 refl)) refl refl
  command-read (One (command.Move point at)) =
      operation-read (command.Move point at) (move_point site (point_word site point ∷ side_word at ∷ [])) (omega arith)
      (one_more (codes "move") (point_word site point ∷ side_word at ∷ []) refl (one_more (point_word site point) (side_word at ∷ []) (point-is-word point) (one_more (side_word at) [] (side-is-word at) refl))) refl refl
  command-read (One (command.Close n)) =
      operation-read (command.Close n) (close_named site (name_word site n ∷ side_words (side_of n))) (omega arith) (named-words (codes "close") n refl (side_of n)) refl refl
  command-read (One (command.Open n)) =
      operation-read (command.Open n) (open_named site (name_word site n ∷ side_words (side_of n))) (omega arith) (named-words (codes "open") n refl (side_of n)) refl refl
