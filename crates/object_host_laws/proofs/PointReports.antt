-- What a point in its host has reported, event by event.
use Rattle.std.proofs.Common.{◌≡◌, ◌+◌, ℕ, Bool, true, false, not, List, [], ◌∷◌, ◌++◌, map, length, append_assoc, arith, refl, ap, sym, ◌∙◌, subst}
use Rattle.std.specs.List.{All}
use Rattle.std.specs.Prelude.{Option, Some, None}
use Rattle.std.proofs.lemmas.Bool.{true≢false}
use Rattle.std.proofs.lemmas.List.{append-nil, length-append}
use Rattle.std.proofs.lemmas.List.Elements.{All-append, All-weaker}
use Rattle.sci_telegram.specs.declared.message.Position.{Position}
use Rattle.sci_telegram.specs.declared.telegram.Telegram.{Telegram}
use Rattle.rasta_core.specs.State.{LinkState, is_open}
use Rattle.rasta_core.specs.Clock.{alive_until, settled}
use Rattle.rasta_core.specs.Ends.{kept, reading_of}
use Rattle.object_host.specs.Host.{HostState, HostSoFar, is_completed}
use Rattle.object_host.specs.Hosted.{IsHosted, IsNamedAs, IsSteady}
use Rattle.object_host.specs.Made.{items_given}
use Rattle.object_host.specs.Step.{beginning, host_step}
use Rattle.object_host.specs.Told.{IsVersionAnswer, item_of}
use Rattle.object_host.specs.declared.input.Input.{Input}
use Rattle.object_host.specs.declared.report.Report.{Report}
use Rattle.object_host.specs.declared.stage.Stage.{Stage}
use Rattle.object_host_laws.specs.World.{World, entering, host_of, step_of, stepped, told_since}
use Rattle.point_ctl.specs.Controlled.{point_behaviour}
use Rattle.point_ctl.specs.Drive.{PointState}
use Rattle.point_ctl.specs.History.{one_more, unanswered}
use Rattle.object_host_laws.specs.Point.{IsFinal, IsFound, IsPointStep, IsReported, IsReporting, found_by, found_host, moved_by, moves_in, stage_by}
use Rattle.object_host_laws.proofs.Found.{found_inside, found_outside, items_same}
use Rattle.object_host_laws.proofs.Moves.{one_longer}
use Rattle.object_host_laws.proofs.Signals.{stays_in}

pub moves_joined : (first others : List Telegram) → length (moves_in (first ++ others)) ≡ length (moves_in first) + length (moves_in others)
unfolding moves_in
moves_joined [] others = none (length (moves_in others)) where
  none : (n : ℕ) → n ≡ 0 + n
  none n = omega arith
moves_joined (telegram ∷ more) others =
    longer _ (length (one_more _ [])) (length (moves_in more)) (length (moves_in others)) _ _
    (one_longer _ (moves_in (more ++ others))) (one_longer _ (moves_in more)) (moves_joined more others)
  where
    longer : (both one first others all some : ℕ) → both ≡ one + all → some ≡ one + first → all ≡ first + others → both ≡ some + others
    longer both one first others all some is first_is all_is = omega (arith, is, first_is, all_is)

map_joined : {A B : Type 0} (f : A → B) (first others : List A) → map f (first ++ others) ≡ map f first ++ map f others
map_joined f [] others = refl
map_joined f (one ∷ more) others = ap (λ rest. f one ∷ rest) (map_joined f more others)

-- the lists of a connection, where the initialisation hadn't begun
in_order : {A : Type 0} (a b f s g r : List A) → b ≡ [] → f ≡ [] → ((a ++ b) ++ f) ++ ((s ++ g) ++ r) ≡ ((a ++ s) ++ g) ++ (f ++ r)
in_order a b f s g r none_b none_f =
    ap (λ bs. ((a ++ bs) ++ f) ++ ((s ++ g) ++ r)) none_b
    ∙ ap (λ fs. ((a ++ []) ++ fs) ++ ((s ++ g) ++ r)) none_f
    ∙ ap (λ xs. xs ++ ((s ++ g) ++ r)) (append-nil (a ++ []) ∙ append-nil a)
    ∙ sym (append_assoc a (s ++ g) r)
    ∙ ap (λ xs. xs ++ r) (sym (append_assoc a s g))
    ∙ ap (λ fs. ((a ++ s) ++ g) ++ (fs ++ r)) (sym none_f)

final_joined : (finals reports : List Report) (stood : Position) → All (λ report. (stands : Position) × IsFinal stands report) finals → All (IsFinal stood) reports →
    All (λ report. (stands : Position) × IsFinal stands report) (finals ++ reports)
final_joined finals reports stood are more =
    let P : Report → Type 0 = λ report. (stands : Position) × IsFinal stands report
    in All-append P finals reports are (All-weaker (IsFinal stood) P (λ report is. (stood, is)) reports more)

module _
    (steps : (now : ℕ) (input : Input) (host : HostState PointState) → IsPointStep now input host (host_step point_behaviour now input host))
    (names : (now : ℕ) (input : Input) (host : HostState PointState) → IsNamedAs host (host_step point_behaviour now input host).host)
    (hosted : (now : ℕ) (input : Input) (host : HostState PointState) → IsSteady point_behaviour host → IsHosted point_behaviour (host_step point_behaviour now input host).host)
    (steady_of : (host : HostState PointState) → IsHosted point_behaviour host → IsSteady point_behaviour host)
    (link_law : (input : Input) (connection : ℕ) (world : World PointState) → settled (reading_of world.ends.server.clock) world.ends.server.link ≡ world.ends.server.link
    → (stepped point_behaviour input connection world).ends.server.link ≡ (step_of point_behaviour input world).host.link)
    (given_law : (input : Input) (connection : ℕ) (world : World PointState) → (stepped point_behaviour input connection world).ends.server.given
    ≡ kept (entering input connection world.ends) world.ends.server.given ++ items_given (reading_of world.ends.server.clock) (step_of point_behaviour input world).calls world.ends.server.link)
    (outside_law : (input : Input) (connection : ℕ) (world : World PointState) → entering input connection world.ends ≡ None → is_open world.ends.server.link.phase ≡ false
    → is_open (stepped point_behaviour input connection world).ends.server.link.phase ≡ false)
  where
    module _ (input : Input) (connection : ℕ) (world : World PointState)
        (is_settled : settled (reading_of world.ends.server.clock) world.ends.server.link ≡ world.ends.server.link) (reported : IsReported world)
      where
        abbrev now : ℕ
        now = reading_of world.ends.server.clock

        abbrev part : HostSoFar PointState
        part = step_of point_behaviour input world

        abbrev new : World PointState
        new = stepped point_behaviour input connection world

        abbrev host : HostState PointState
        host = host_of world

        abbrev found : PointState
        found = found_by now host

        abbrev begun : Stage
        begun = (beginning point_behaviour now host).stage

        step : IsPointStep now input host part
        step = steps now input host

        abbrev own : List Report
        own = step.tells.own

        abbrev reports : List Report
        reports = step.tells.reports

        abbrev completed : Bool
        completed = is_completed (stage_by now input host)

        link_is : new.ends.server.link ≡ part.host.link
        link_is = link_law input connection world is_settled

        -- what the connection has had before the step's own items
        before : is_open new.ends.server.link.phase ≡ true →
            IsFound now (kept (entering input connection world.ends) world.ends.server.given) (told_since (entering input connection world.ends) world.told) host
        before opened_after = by_link (is_open world.ends.server.link.phase) refl where
          enters : (e : Option ℕ) → entering input connection world.ends ≡ e → is_open world.ends.server.link.phase ≡ false →
              IsFound now (kept e world.ends.server.given) (told_since e world.told) host
          enters None none closed = absurd (true≢false (sym opened_after ∙ outside_law input connection world none closed))
          enters (Some entered) some closed = found_outside input part world step is_settled reported closed

          by_link : (o : Bool) → is_open world.ends.server.link.phase ≡ o →
              IsFound now (kept (entering input connection world.ends) world.ends.server.given) (told_since (entering input connection world.ends) world.told) host
          by_link true opened =
              subst (λ (e : Option ℕ). IsFound now (kept e world.ends.server.given) (told_since e world.told) host)
              (sym (stays_in input connection world.ends opened)) (found_inside input part world step is_settled reported opened)
          by_link false closed = enters (entering input connection world.ends) refl closed

        -- the items of the step
        gives : new.ends.server.given ≡ kept (entering input connection world.ends) world.ends.server.given ++ map (item_of part.host) (step.tells.own ++ step.tells.reports)
        gives =
            given_law input connection world
            ∙ ap (λ items. kept (entering input connection world.ends) world.ends.server.given ++ items)
            (ap (items_given now part.calls) (sym is_settled) ∙ step.tells.gives)

        pub reporting : is_open new.ends.server.link.phase ≡ true → IsReporting new.ends.server.given new.told (host_of new)
        unfolding stepped
        reporting opened = by (is_completed begun) refl where
          was : IsFound now (kept (entering input connection world.ends) world.ends.server.given) (told_since (entering input connection world.ends) world.told) host
          was = before opened

          old : IsReporting (kept (entering input connection world.ends) world.ends.server.given) (told_since (entering input connection world.ends) world.told) (found_host now host)
          old = was.reporting

          stays_open : is_open part.host.link.phase ≡ true
          stays_open = ap (λ (l : LinkState). is_open l.phase) (sym link_is) ∙ opened

          same : IsNamedAs host part.host
          same = names now input host

          all_given : new.ends.server.given ≡ map (item_of (host_of new)) (((old.answers ++ old.begins) ++ old.finals) ++ (own ++ reports))
          all_given =
              gives
              ∙ ap (λ items. items ++ map (item_of part.host) (own ++ reports)) (old.given ∙ items_same ((old.answers ++ old.begins) ++ old.finals) part.host (found_host now host) (sym same.own_name) (sym same.peer_name))
              ∙ sym (map_joined (item_of part.host) ((old.answers ++ old.begins) ++ old.finals) (own ++ reports))
              ∙ items_same (((old.answers ++ old.begins) ++ old.finals) ++ (own ++ reports)) (host_of new) part.host same.own_name same.peer_name

          moves : length (moves_in new.told) ≡ length new.told
          moves =
              moves_joined (told_since (entering input connection world.ends) world.told) part.told
              ∙ ap (λ n. n + length (moves_in part.told)) old.moves
              ∙ ap (λ n. length (told_since (entering input connection world.ends) world.told) + n) (step.commanded stays_open).1
              ∙ sym (length-append (told_since (entering input connection world.ends) world.told) part.told)

          -- what waits, where the initialisation was completed and where it wasn't
          each : (b : Bool) → completed ≡ b → length (old.finals ++ reports) + unanswered new.object.progress ≡ length new.told
          each true is = sums (length (old.finals ++ reports)) (length old.finals) (length reports) (unanswered new.object.progress) (unanswered (moved_by step.tells).progress)
              (unanswered found.progress) (length (told_since (entering input connection world.ends) world.told)) (length part.told) (length new.told)
              (length-append old.finals reports) (step.answers stays_open is) (step.commanded stays_open).0 old.each
              (length-append (told_since (entering input connection world.ends) world.told) part.told)
            where
              sums : (a f r l m o b t n : ℕ) → a ≡ f + r → r + l ≡ m → m ≡ o + t → f + o ≡ b → n ≡ b + t → a + l ≡ n
              sums a f r l m o b t n all_is left_is moved_is before_is now_is = omega (arith, all_is, left_is, moved_is, before_is, now_is)
          each false is = sums (length (old.finals ++ reports)) (unanswered new.object.progress) (unanswered found.progress)
              (length (told_since (entering input connection world.ends) world.told)) (length part.told) (length new.told)
              (ap (λ fs. length (fs ++ reports)) (old.early (not_begun (is_completed begun) refl)).1 ∙ ap length (step.tells.dropped is))
              (ap unanswered (step.answered reported.answered (ap is_completed (step.tells.stage_is stays_open) ∙ is)))
              (ap unanswered (was.answered (not_begun (is_completed begun) refl)))
              (ap (λ fs. length fs + unanswered found.progress) (sym (old.early (not_begun (is_completed begun) refl)).1) ∙ old.each)
              (ap length (step.tells.untold is))
              (length-append (told_since (entering input connection world.ends) world.told) part.told)
            where
              not_begun : (b : Bool) → is_completed begun ≡ b → b ≡ false
              not_begun true completed = absurd (true≢false (sym (step.tells.completed completed) ∙ is))
              not_begun false early = refl

              sums : (a l o b t n : ℕ) → a ≡ 0 → l ≡ 0 → o ≡ 0 → 0 + o ≡ b → t ≡ 0 → n ≡ b + t → a + l ≡ n
              sums a l o b t n all_is left_is found_is before_is told_is now_is = omega (arith, all_is, left_is, found_is, before_is, told_is, now_is)

          answers_are : All (IsVersionAnswer point_behaviour new.version) old.answers
          answers_are = old.are_answers

          finals_are : All (λ report. (stands : Position) × IsFinal stands report) (old.finals ++ reports)
          finals_are = final_joined old.finals reports (moved_by step.tells).sensed old.are_final step.finals

          by : (b : Bool) → is_completed begun ≡ b → IsReporting new.ends.server.given new.told (host_of new)
          by true is = record {
            stood = old.stood;
            answers = old.answers;
            begins = old.begins;
            finals = old.finals ++ reports;
            given = all_given ∙ ap (map (item_of (host_of new)))
                (ap (λ rs. ((old.answers ++ old.begins) ++ old.finals) ++ (rs ++ reports)) (step.tells.says.late is)
                ∙ append_assoc (old.answers ++ old.begins) old.finals reports);
            are_answers = answers_are;
            are_some = old.are_some;
            are_final = finals_are;
            early = λ not_yet. absurd (true≢false (sym (step.tells.completed is) ∙ ap is_completed (sym (step.tells.stage_is stays_open)) ∙ not_yet));
            moves = moves;
            each = each completed refl;
          }
          by false is = record {
            stood = world.object.sensed;
            answers = old.answers ++ step.tells.says.answers;
            begins = step.tells.says.begins;
            finals = old.finals ++ reports;
            given = all_given ∙ ap (map (item_of (host_of new)))
                (ap (λ rs. ((old.answers ++ old.begins) ++ old.finals) ++ (rs ++ reports)) step.tells.says.own_is
                ∙ in_order old.answers old.begins old.finals step.tells.says.answers step.tells.says.begins reports (old.early is).0 (old.early is).1);
            are_answers = All-append (IsVersionAnswer point_behaviour world.version) old.answers step.tells.says.answers old.are_answers step.versions;
            are_some = step.initial;
            are_final = finals_are;
            early = λ not_yet.
                let is_early = ap is_completed (sym (step.tells.stage_is stays_open)) ∙ not_yet
                in (step.tells.says.completes is_early, ap (λ fs. fs ++ reports) (old.early is).1 ∙ step.tells.dropped is_early);
            moves = moves;
            each = each completed refl;
          }

        pub step_reported : IsReported new
        unfolding stepped
        step_reported =
            let after = hosted now input host reported.steady
            in let open_is : is_open new.ends.server.link.phase ≡ is_open part.host.link.phase = ap (λ (l : LinkState). is_open l.phase) link_is
            in record {
              steady = record { outside = λ out. open_is ∙ (steady_of part.host after).outside out; idle = (steady_of part.host after).idle };
              until = step.until ∙ ap alive_until (sym link_is);
              answered = step.answered reported.answered;
              inside = reporting;
              late = λ closed in_it. absurd (true≢false (sym (after.outside ∙ ap not (sym open_is ∙ closed)) ∙ in_it));
            }
