-- A step of a point's host in a connection is a list of moves of the machine's point.
use Rattle.std.proofs.Common.{◌≡◌, ◌≤◌, ◌⊎◌, ◌+◌, ◌-◌, ◌&&◌, ℕ, inl, inr, Bool, true, false, List, [], ◌∷◌, ◌++◌, length, map, arith, refl, ap, sym, ◌∙◌, subst}
use Rattle.std.specs.List.{All}
use Rattle.std.specs.Prelude.{◌<◌, Option, Some, None, is_some}
use Rattle.std.proofs.lemmas.Bool.{true≢false, false≢true}
use Rattle.std.proofs.lemmas.List.{length-append}
use Rattle.std.proofs.lemmas.List.Elements.{All-nil}
use Rattle.sci_telegram.specs.Names.{IsName}
use Rattle.sci_telegram.specs.Telegrams.{IsTelegram, writing}
use Rattle.sci_telegram.specs.declared.message.Side as told
use Rattle.sci_telegram.specs.declared.telegram.Telegram.{Telegram}
use Rattle.rasta_core.specs.State.{LinkState, is_open}
use Rattle.rasta_core.specs.Ends.{EndState, kept, newer, reading_of}
use Rattle.rasta_core.specs.Run.{Ends}
use Rattle.object_host.specs.Host.{HostState, HostSoFar, is_completed}
use Rattle.object_host.specs.Hosted.{IsNamedAs}
use Rattle.object_host.specs.Made.{ActsOn, commands_of, items_taken}
use Rattle.object_host.specs.Step.{beginning}
use Rattle.object_host.specs.Told.{IsVersionAnswer, item_of}
use Rattle.object_host.specs.declared.input.Input.{Input}
use Rattle.object_host.specs.declared.report.Report.{Report}
use Rattle.object_host_laws.specs.World.{called_all, entering, host_of}
use Rattle.point_ctl.specs.declared.progress.Progress.{Progress}
use Rattle.point_ctl.specs.Controlled.{point_behaviour}
use Rattle.point_ctl.specs.Drive.{PointState, drives, move_in}
use Rattle.point_ctl.specs.History.{unanswered}
use Rattle.object_host_laws.specs.Point as theorem
use Rattle.object_host_laws.specs.Point.{IsPointStep, IsReported, found_by, found_host, is_moving, moved_by}
use Rattle.simulator_machine.specs.Link.{Server, In, Gone, Link, Leaves, link_after}
use Rattle.simulator_machine.specs.Point.{Point, PointLink, Position, moves_given, reports_made}
use Rattle.simulator_move_laws.specs.Items.{all_said, moves_in, position_seen, reports_in, reports_of}
use Rattle.simulator_move_laws.specs.Flows.{of_server, reports_given}
use Rattle.simulator_move_laws.specs.EndsSeen.{client_of, represented, server_of}
use Rattle.simulator_move_laws.specs.Ends.{IsAtEnd, Steps, hosted_on}
use Rattle.simulator_move_laws.specs.Point.{AreSaid, IsMovedDriven, IsNamed, IsPointSeen, PointGoes}
use Rattle.simulator_move_laws.proofs.Controllers.Moves.{IsTrueAt, Leads, Work, joined, made_more, one, work_leads, worked}
use Rattle.simulator_move_laws.proofs.Controllers.Places.{gone_where_closed, in_where_open}
use Rattle.simulator_move_laws.proofs.Controllers.ItemsTold.{answers_tell_none, finals_tell_each, finals_true, initial_tells_one, initial_true, items_said, moves_same, nothing_said, positions_in, positions_join, said_by_same, said_items_tell, said_then, some_finals}
use Rattle.simulator_move_laws.proofs.Controllers.Starts.{Starts}

-- a list of moves that leads to what is seen
goes_to : {Sees : Point → Type 0} (old new : Point) → Leads old new → Sees new → new.heard ≡ old.heard → PointGoes old Sees
goes_to {Sees} old new leads sees heard = record {
  moves = leads.moves;
  may = leads.may;
  sees = subst Sees (sym leads.leads) sees;
  heard = ap (λ (p : Point). p.heard) leads.leads ∙ heard;
}

-- ---- sums

same_total : (taken flight count : ℕ) → count ≤ flight → (taken + count) + (flight - count) ≡ taken + flight
same_total taken flight count few = omega (arith, few)

all_taken : (before acted dropped all : ℕ) → all ≡ before + (acted + dropped) → dropped ≡ 0 → before + acted ≡ all
all_taken before acted dropped all is none = omega (arith, is, none)

no_moves : length (moves_in []) ≡ 0
unfolding all_said
no_moves = refl

few_of : (taken flight all old items acted dropped rest : ℕ) → taken + flight ≡ all → all ≡ (old + items) + rest → taken ≡ old → items ≡ acted + dropped → acted ≤ flight
few_of taken flight all old items acted dropped rest total all_is same items_is = omega (arith, total, all_is, same, items_is)

nil_of : {A : Type 0} (xs : List A) → length xs ≡ 0 → xs ≡ []
nil_of [] none = refl
nil_of (x ∷ xs) none = absurd (cc (none))

status_fits : (made begins finals status taken waits : ℕ) → made ≡ begins + finals → begins ≤ 1 → status ≡ 0 → taken ≡ finals + waits → made + status ≤ finals + 1
status_fits made begins finals status taken waits made_is one none taken_is = omega (arith, made_is, one, none, taken_is)

status_first : (made begins finals status : ℕ) → made ≡ begins + finals → begins ≡ 0 → finals ≡ 0 → status ≤ 1 → made + status ≤ finals + 1
status_first made begins finals status made_is no_begins no_finals one = omega (arith, made_is, no_begins, no_finals, one)

owed_of : (made status finals taken waits : ℕ) → made + status ≤ finals + 1 → taken ≡ finals + waits → made + status ≤ taken + 1
owed_of made status finals taken waits few taken_is = omega (arith, few, taken_is)

owed_by : (made status finals taken waits more reports left told count : ℕ) → made + status ≤ finals + 1 → taken ≡ finals + waits → more ≡ reports → reports ≤ left → left ≤ waits + told → told ≡ count
    → (made + status) + more ≤ (taken + count) + 1
owed_by made status finals taken waits more reports left told count few taken_is more_is owed waits_is told_is = omega (arith, few, taken_is, more_is, owed, waits_is, told_is)

-- What the laws below tell of a step, at these ends.
pub record IsStep (input : Input) (connection : ℕ) (ends : Ends) (host : HostState PointState) (part : HostSoFar PointState) : Type 0 where
  pub step : IsPointStep (reading_of ends.server.clock) input (host_of (hosted_on ends host)) part
  pub acts : ActsOn (items_taken (reading_of ends.server.clock) part.calls ends.server.link) part
  pub names : IsNamedAs (host_of (hosted_on ends host)) part.host
  pub taken_is : (called_all connection part.calls ends).server.taken
      ≡ kept (entering input connection ends) ends.server.taken ++ items_taken (reading_of ends.server.clock) part.calls ends.server.link
  pub given_is : (called_all connection part.calls ends).server.given
      ≡ kept (entering input connection ends) ends.server.given ++ map (item_of part.host) (step.tells.own ++ step.tells.reports)
  pub link_is : (called_all connection part.calls ends).server.link ≡ part.host.link
  pub client_is : (called_all connection part.calls ends).client ≡ ends.client
  pub connection_is : (called_all connection part.calls ends).server.connection ≡ newer (entering input connection ends) ends.server.connection
  pub at_end : IsAtEnd (called_all connection part.calls ends) part.host
  pub reported : IsReported (hosted_on (called_all connection part.calls ends) part.host)

module _
    (moves_join : (first others : List (List ℕ)) → moves_in (first ++ others) ≡ moves_in first ++ moves_in others)
    (reports_join : (first others : List (List ℕ)) → reports_in (first ++ others) ≡ reports_in first ++ reports_in others)
    (reports_written : (telegram : Telegram) → IsTelegram telegram → reports_in (writing telegram ∷ []) ≡ reports_of telegram.message)
  where
    module _ (input : Input) (connection : ℕ) (ends : Ends) (host : HostState PointState) (point : Point) (part : HostSoFar PointState) (enters : Option ℕ) (at : Point)
        (seen : IsPointSeen ends host point) (steps : Steps input connection ends (called_all connection part.calls ends))
        (driven_law : (side : told.Side) → drives (reading_of ends.server.clock) host.object ≡ Some side → (is_open ends.server.link.phase ≡ true) × (is_moving host.object ≡ true))
        (moves : IsMovedDriven ends input host) (made : IsStep input connection ends host part)
        (enters_is : entering input connection ends ≡ enters) (starts : Starts input connection ends host point part enters at)
      where
        abbrev new : Ends
        new = called_all connection part.calls ends

        abbrev found : PointState
        found = found_by (reading_of ends.server.clock) (host_of (hosted_on ends host))

        abbrev moved : PointState
        moved = moved_by made.step.tells

        -- what was reported in the connection before
        abbrev old : theorem.IsReporting (kept enters ends.server.given) (commands_of (kept enters ends.server.taken)) (found_host (reading_of ends.server.clock) (host_of (hosted_on ends host)))
        old = starts.found_so.reporting

        abbrev own : List Report
        own = made.step.tells.own

        abbrev reports : List Report
        reports = made.step.tells.reports

        abbrev status : List Position
        status = positions_in own

        abbrev count : ℕ
        count = length (moves_in part.acted)

        status_is : status ≡ positions_in made.step.tells.says.begins
        status_is = ap positions_in made.step.tells.says.own_is ∙ positions_join made.step.tells.says.answers made.step.tells.says.begins
            ∙ ap (λ xs. xs ++ positions_in made.step.tells.says.begins) (answers_tell_none host.version made.step.tells.says.answers made.step.versions)

        one_status : length status ≤ 1
        one_status = subst (λ xs. length xs ≤ 1) (sym status_is) (initial_tells_one host.object.sensed made.step.tells.says.begins made.step.initial)

        reports_before : reports_made at ≡ positions_in old.begins ++ positions_in old.finals
        reports_before = starts.made ∙ ap reports_in old.given
            ∙ said_items_tell reports_join reports_written (found_host (reading_of ends.server.clock) (host_of (hosted_on ends host)))
            (record { own = seen.named.own; peer = seen.named.peer; version = seen.named.version })
            old.answers old.begins old.finals old.stood old.are_answers old.are_some old.are_final

        made_before : length (reports_made at) ≡ length (positions_in old.begins) + length old.finals
        made_before = ap length reports_before ∙ length-append (positions_in old.begins) (positions_in old.finals)
            ∙ ap (λ n. length (positions_in old.begins) + n) (finals_tell_each old.finals old.are_final)

        taken_before : at.taken ≡ length old.finals + unanswered found.progress
        taken_before = starts.taken_is ∙ sym (moves_same (kept enters ends.server.taken)) ∙ old.moves ∙ sym old.each

        -- the initialisation was completed before the step, and then it tells nothing more of it; or nothing was reported yet
        record Early : Type 0 where
          few : length (reports_made at) + length status ≤ length old.finals + 1
          still : (status ≡ []) ⊎ (is_moving found ≡ false)

        early : Early
        early = by (is_completed (beginning point_behaviour (reading_of ends.server.clock) (host_of (hosted_on ends host))).stage) refl where
          by : (b : Bool) → is_completed (beginning point_behaviour (reading_of ends.server.clock) (host_of (hosted_on ends host))).stage ≡ b → Early
          by true completed =
              let none : status ≡ [] = ap positions_in (made.step.tells.says.late completed)
              in record {
                few = status_fits (length (reports_made at)) (length (positions_in old.begins)) (length old.finals) (length status) at.taken (unanswered found.progress)
                    made_before (initial_tells_one old.stood old.begins old.are_some) (ap length none) taken_before;
                still = inl none;
              }
          by false not_yet = record {
            few = status_first (length (reports_made at)) (length (positions_in old.begins)) (length old.finals) (length status)
                made_before (ap (λ rs. length (positions_in rs)) (old.early not_yet).0) (ap length (old.early not_yet).1) one_status;
            still = inr (ap (λ (p : Progress). is_some (move_in p)) (starts.found_so.answered not_yet));
          }

        told_count : length (theorem.moves_in part.told) ≡ count
        told_count = ap (λ ts. length (theorem.moves_in ts)) made.acts.told ∙ moves_same part.acted

        taken_now : new.server.taken ≡ kept enters ends.server.taken ++ (part.acted ++ made.acts.dropped)
        taken_now = made.taken_is ∙ ap (λ (e : Option ℕ). kept e ends.server.taken ++ items_taken (reading_of ends.server.clock) part.calls ends.server.link) enters_is
            ∙ ap (λ xs. kept enters ends.server.taken ++ xs) made.acts.beginning

        moves_now : length (moves_in new.server.taken) ≡ length (moves_in (kept enters ends.server.taken)) + (count + length (moves_in made.acts.dropped))
        moves_now = ap (λ xs. length (moves_in xs)) taken_now
            ∙ ap length (moves_join (kept enters ends.server.taken) (part.acted ++ made.acts.dropped)) ∙ length-append (moves_in (kept enters ends.server.taken)) (moves_in (part.acted ++ made.acts.dropped))
            ∙ ap (λ n. length (moves_in (kept enters ends.server.taken)) + n) (ap length (moves_join part.acted made.acts.dropped) ∙ length-append (moves_in part.acted) (moves_in made.acts.dropped))

        total_is : moves_given at ≡ length (moves_in new.client.given)
        total_is = starts.total ∙ seen.given ∙ ap (λ (e : EndState). length (moves_in e.given)) (sym made.client_is)

        few : count ≤ at.flight
        few =
            let safe = (steps.fit_after.safe starts.in_one.0 starts.in_one.1 starts.in_one.2).0
            in few_of at.taken at.flight (length (moves_in new.client.given)) (length (moves_in (kept enters ends.server.taken)))
            (count + length (moves_in made.acts.dropped)) count (length (moves_in made.acts.dropped)) (length (moves_in safe.rest)) total_is
            (ap (λ xs. length (moves_in xs)) safe.beginning ∙ ap length (moves_join new.server.taken safe.rest) ∙ length-append (moves_in new.server.taken) (moves_in safe.rest)
            ∙ ap (λ n. n + length (moves_in safe.rest)) moves_now)
            starts.taken_is refl

        reaches : (position_seen moved.sensed ≡ at.position) ⊎ (at.driven ≡ true)
        reaches = elim moves [
          | inl same ↦ inl (ap position_seen (made.step.stands ∙ same) ∙ sym (starts.position ∙ seen.position))
          | inr driving ↦ inr (starts.driven ∙ by (drives (reading_of ends.server.clock) host.object) refl driving)
        ] where
          by : (side : Option told.Side) → drives (reading_of ends.server.clock) host.object ≡ side → is_some (drives (reading_of ends.server.clock) host.object) ≡ true → point.driven ≡ true
          by None is driving = absurd (false≢true (sym (ap is_some is) ∙ driving))
          by (Some side) is driving =
              let driven = driven_law side is
              in seen.driven ∙ ap (λ b. b && is_moving host.object) driven.0 ∙ driven.1

        status_true : All (IsTrueAt (position_seen moved.sensed)) status
        status_true = elim made.step.contacts [
          | inl same ↦ subst (λ p. All (IsTrueAt (position_seen p)) status) (sym (made.step.stands ∙ same))
              (subst (All (IsTrueAt (position_seen host.object.sensed))) (sym status_is) (initial_true host.object.sensed made.step.tells.says.begins made.step.initial))
          | inr none ↦ subst (All (IsTrueAt (position_seen moved.sensed))) (sym (status_is ∙ ap positions_in none)) (All-nil (IsTrueAt (position_seen moved.sensed)))
        ]

        finals_still : (positions_in reports ≡ []) ⊎ (is_moving moved ≡ false)
        finals_still = by (is_moving moved) refl where
          by : (b : Bool) → is_moving moved ≡ b → (positions_in reports ≡ []) ⊎ (b ≡ false)
          by true is = inl (ap positions_in (made.step.still is))
          by false is = inr refl

        work : Work at
        work = record {
          position = position_seen moved.sensed;
          status = status;
          count = count;
          finals = positions_in reports;
          found = is_moving found;
          moving = is_moving moved;
          inside = ap (λ (l : Link). l.server) starts.link;
          reaches = reaches;
          was = starts.was;
          status_still = early.still;
          status_owed = owed_of (length (reports_made at)) (length status) (length old.finals) at.taken (unanswered found.progress) early.few taken_before;
          status_true = status_true;
          few = few;
          begins = λ none. made.step.drives (nil_of (theorem.moves_in part.told) (told_count ∙ none));
          finals_still = finals_still;
          finals_owed = owed_by (length (reports_made at)) (length status) (length old.finals) at.taken (unanswered found.progress) (length (positions_in reports)) (length reports)
              (unanswered moved.progress) (length (theorem.moves_in part.told)) count early.few taken_before (finals_tell_each reports (some_finals moved.sensed reports made.step.finals))
              made.step.few made.step.waits told_count;
          finals_true = finals_true moved.sensed reports made.step.finals;
        }

        after : Point
        after = worked at work

        leads : Leads point after
        unfolding after
        leads = joined point at after starts.leads (work_leads at work)

        named : IsNamed part.host
        named = record {
          own = subst IsName (sym made.names.own_name) seen.named.own;
          peer = subst IsName (sym made.names.peer_name) seen.named.peer;
          version = subst (λ v. v < 256) (sym made.names.version) seen.named.version;
        }

        versions_now : All (IsVersionAnswer point_behaviour part.host.version) made.step.tells.says.answers
        versions_now = subst (λ v. All (IsVersionAnswer point_behaviour v) made.step.tells.says.answers) (sym made.names.version) made.step.versions

        said : AreSaid part.host.own_name part.host.peer_name new.server.given
        said =
            subst (AreSaid part.host.own_name part.host.peer_name)
            (sym (made.given_is ∙ ap (λ (e : Option ℕ). kept e ends.server.given ++ map (item_of part.host) (own ++ reports)) enters_is))
            (said_then part.host.own_name part.host.peer_name (kept enters ends.server.given) (map (item_of part.host) (own ++ reports))
            (said_by_same host part.host (kept enters ends.server.given) made.names.own_name made.names.peer_name (was_said enters))
            (subst (λ rs. AreSaid part.host.own_name part.host.peer_name (map (item_of part.host) (rs ++ reports))) (sym made.step.tells.says.own_is)
            (items_said part.host made.step.tells.says.answers made.step.tells.says.begins reports host.object.sensed named.version versions_now made.step.initial
            (some_finals moved.sensed reports made.step.finals))))
          where
            was_said : (e : Option ℕ) → AreSaid host.own_name host.peer_name (kept e ends.server.given)
            was_said None = seen.said
            was_said (Some one) = nothing_said host.own_name host.peer_name

        given_after : moves_given after ≡ length (moves_in new.client.given)
        unfolding after work
        given_after = same_total at.taken at.flight count few ∙ total_is

        made_after : reports_made after ≡ reports_in new.server.given
        unfolding after work
        made_after =
            made_more at (status ++ positions_in reports)
            ∙ ap (λ xs. xs ++ (status ++ positions_in reports)) starts.made
            ∙ ap (λ xs. reports_in (kept enters ends.server.given) ++ xs) (sym items_now)
            ∙ sym (reports_join (kept enters ends.server.given) (map (item_of part.host) (own ++ reports)))
            ∙ ap (λ (e : Option ℕ). reports_in (kept e ends.server.given ++ map (item_of part.host) (own ++ reports))) (sym enters_is)
            ∙ ap reports_in (sym made.given_is)
          where
            items_now : reports_in (map (item_of part.host) (own ++ reports)) ≡ status ++ positions_in reports
            items_now =
                ap (λ rs. reports_in (map (item_of part.host) (rs ++ reports))) made.step.tells.says.own_is
                ∙ said_items_tell reports_join reports_written part.host named made.step.tells.says.answers made.step.tells.says.begins reports host.object.sensed
                versions_now
                made.step.initial (some_finals moved.sensed reports made.step.finals)
                ∙ ap (λ xs. xs ++ positions_in reports) (sym status_is)

        position_after : position_seen moved.sensed ≡ position_seen part.host.object.sensed
        position_after = ap position_seen (sym made.step.stands_after)

        reports_at : (server : Server) → server_of new ≡ server → of_server server new.server.given ≡ new.server.given → reports_made after ≡ reports_in (reports_given new)
        reports_at server is all = made_after ∙ ap reports_in (sym (ap (λ s. of_server s new.server.given) is ∙ all))

        -- the link is open still
        opened : is_open new.server.link.phase ≡ true → PointGoes point (IsPointSeen new part.host)
        unfolding represented after work
        opened is =
            let inside = in_where_open new steps.fit_after is
            in let part_open : is_open part.host.link.phase ≡ true = ap (λ (l : LinkState). is_open l.phase) (sym made.link_is) ∙ is
            in goes_to point after leads (record {
              at_end = made.at_end;
              named = named;
              said = said;
              reported = made.reported;
              link = starts.link ∙ ap (λ (e : EndState). record { client = client_of e; server = In }) (sym made.client_is)
                  ∙ ap (λ (s : Server). record { client = client_of new.client; server = s }) (sym inside);
              given = given_after;
              taken = λ _. ap (λ n. n + count) starts.taken_is
                  ∙ all_taken (length (moves_in (kept enters ends.server.taken))) count (length (moves_in made.acts.dropped)) (length (moves_in new.server.taken)) moves_now
                  (ap (λ xs. length (moves_in xs)) (made.acts.whole part_open) ∙ no_moves);
              made = reports_at In inside refl;
              position = position_after;
              driven = sym (ap (λ b. b && is_moving part.host.object) is ∙ made.step.inside part_open);
            }) starts.heard

        -- it has closed: the controller leaves
        left : is_open new.server.link.phase ≡ false → PointGoes point (IsPointSeen new part.host)
        unfolding represented after work
        left is =
            let gone : server_of new ≡ Gone = gone_where_closed new steps.fit_after is starts.in_one
            in let last : Point = record after { link = link_after Leaves after.link; driven = false }
            in goes_to point last (joined point after last leads (one (PointLink Leaves) after tt)) (record {
              at_end = made.at_end;
              named = named;
              said = said;
              reported = made.reported;
              link = ap (λ (l : Link). record l { server = Gone }) starts.link
                  ∙ ap (λ (e : EndState). record { client = client_of e; server = Gone }) (sym made.client_is)
                  ∙ ap (λ (s : Server). record { client = client_of new.client; server = s }) (sym gone);
              given = given_after;
              taken = λ opened. absurd (true≢false (sym opened ∙ is));
              made = reports_at Gone gone refl;
              position = position_after;
              driven = sym (ap (λ b. b && is_moving part.host.object) is);
            }) starts.heard

        pub inside_goes : PointGoes point (IsPointSeen new part.host)
        inside_goes = by (is_open new.server.link.phase) refl where
          by : (b : Bool) → is_open new.server.link.phase ≡ b → PointGoes point (IsPointSeen new part.host)
          by true is = opened is
          by false is = left is
