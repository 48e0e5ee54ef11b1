-- A point in its host over everything that can happen, and what its reports tell.
use Rattle.std.proofs.Common.{◌≡◌, ◌≤◌, ◌+◌, ℕ, inl, inr, Bool, true, false, nat_lt, ◌&&◌, if◌then◌else◌, List, [], ◌∷◌, ◌++◌, length, arith, refl, ap, sym, ◌∙◌, subst}
use Rattle.std.specs.List.{All}
use Rattle.std.specs.Prelude.{Some, None, is_some}
use Rattle.std.proofs.lemmas.Bool.{true≢false, false≢true}
use Rattle.std.proofs.lemmas.Bool.Decides.{nat_tests}
use Rattle.std.proofs.lemmas.Option.{none-some}
use Rattle.std.proofs.lemmas.List.Elements.{All-append, All-cons, All-head, All-nil, All-tail, All-weaker}
use Rattle.sci_telegram.specs.declared.message.Initialisation.{Initialisation}
use Rattle.sci_telegram.specs.declared.message.Initialisation.TheVariants.{InitialisationCompleted, StartInitialisation, VersionAnswer}
use Rattle.sci_telegram.specs.declared.message.Message.TheVariants.{Point}
use Rattle.sci_telegram.specs.declared.message.PointMessage.TheVariants.{PointPosition}
use Rattle.sci_telegram.specs.declared.message.Position.{Position}
use Rattle.sci_telegram.specs.declared.message.Side.{Side}
use Rattle.sci_telegram.specs.declared.telegram.Telegram.{Telegram}
use Rattle.rasta_core.specs.State.{LinkState, is_open}
use Rattle.rasta_core.specs.Clock.{deadline, alive_until, settled}
use Rattle.rasta_core.specs.Calls.{created}
use Rattle.rasta_core.specs.Ends.{EndState, end_later, end_restarted, reading_of}
use Rattle.rasta_core.specs.Run.{called, later, lost, restarted}
use Rattle.rasta_core.specs.Events.{Start}
use Rattle.rasta_core.specs.Names.{Names, identity_of}
use Rattle.rasta_core.specs.identity.Identity.{Identity}
use Rattle.rasta_core.specs.identity.Role.TheVariants as role
use Rattle.object_host.specs.Host.{HostState, HostSoFar, is_completed, is_outside, keeping, said}
use Rattle.object_host.specs.Hosted.{IsHosted, IsSteady, new_host}
use Rattle.object_host.specs.Made.{items_given}
use Rattle.object_host.specs.Told.{AreSomeOf, IsVersionAnswer}
use Rattle.object_host.specs.declared.input.Input.{Input}
use Rattle.object_host.specs.declared.report.Report.{Report}
use Rattle.object_host_laws.specs.World.{Commands, ClientRestarts, Elsewhere, Event, HostRestarts, Loses, Passes, Steps, World, begun, happened, host_of, host_restarted, stepped}
use Rattle.point_ctl.specs.declared.progress.Progress.{Progress}
use Rattle.point_ctl.specs.declared.progress.Progress.TheVariants.{Answered, Driving, Arrived, TimedOut}
use Rattle.point_ctl.specs.Controlled.{point_behaviour}
use Rattle.point_ctl.specs.Drive.{PointState, drive_end, driven, drives, move_in, own_report}
use Rattle.point_ctl.specs.History.{unanswered}
use Rattle.object_host_laws.specs.Point.{GivesStanding, IsFinal, IsPointStep, IsReported, IsReporting, TellsOnly, initial_reports, is_moving, moved_by}
use Rattle.object_host_laws.proofs.Points.{early_outside}
use Rattle.object_host_laws.proofs.Found.{items_same}
use Rattle.object_host_laws.proofs.Signals.{alive_settled, closed_late, open_before, reached, reads_later, told_past}

-- the same reports of the same point, whatever its link
same_reporting : (items : List (List ℕ)) (told : List Telegram) (host new : HostState PointState) → new.own_name ≡ host.own_name → new.peer_name ≡ host.peer_name →
    new.version ≡ host.version → new.stage ≡ host.stage → new.object ≡ host.object → IsReporting items told host → IsReporting items told new
same_reporting items told host new own peer version stage object reporting = record {
  stood = reporting.stood;
  answers = reporting.answers;
  begins = reporting.begins;
  finals = reporting.finals;
  given = reporting.given ∙ sym (items_same ((reporting.answers ++ reporting.begins) ++ reporting.finals) host new own peer);
  are_answers = subst (λ v. All (IsVersionAnswer point_behaviour v) reporting.answers) (sym version) reporting.are_answers;
  are_some = reporting.are_some;
  are_final = reporting.are_final;
  early = λ not_yet. reporting.early (ap is_completed (sym stage) ∙ not_yet);
  moves = reporting.moves;
  each = ap (λ (p : PointState). length reporting.finals + unanswered p.progress) object ∙ reporting.each;
}

-- time goes on
passes : ((now : ℕ) (host : HostState PointState) → IsSteady point_behaviour host → IsSteady point_behaviour (record host { link = settled now host.link })) →
    (elapsed of_client of_server : ℕ) (world : World PointState) → IsReported world → IsReported (record world { ends = later elapsed of_client of_server world.ends })
unfolding later end_later
passes clocked elapsed of_client of_server world reported = record {
  steady = clocked now (host_of world) reported.steady;
  until = reported.until ∙ sym (alive_settled now link);
  answered = reported.answered;
  inside = λ opened. same_reporting world.ends.server.given world.told (host_of world) _ refl refl refl refl refl (reported.inside (open_before now link opened));
  late = λ closed inside. subst (λ until. until ≤ now) (sym (alive_settled now link)) (cases (is_open link.phase) refl closed inside);
} where
  link : LinkState
  link = world.ends.server.link

  now : ℕ
  now = reading_of (world.ends.server.clock + of_server)

  cases : (o : Bool) → is_open link.phase ≡ o → is_open (settled now link).phase ≡ false → is_outside world.stage ≡ false → alive_until link ≤ now
  cases true opened closed inside = told_past now link (reached (deadline link) now (closed_late now link opened closed))
  cases false was closed inside =
      let before : alive_until link ≤ reading_of world.ends.server.clock = reported.late was inside
      in let goes : reading_of world.ends.server.clock ≤ now = reads_later world.ends.server.clock (world.ends.server.clock + of_server) (omega arith)
      in omega (arith, before, goes)

-- only the client, or the network
elsewhere : (world new : World PointState) → new.ends.server ≡ world.ends.server → host_of new ≡ host_of world → new.told ≡ world.told → IsReported world → IsReported new
elsewhere world new server-same host-same told-same reported =
    let link-same : new.ends.server.link ≡ world.ends.server.link = ap (λ (e : EndState). e.link) server-same
    in let open-same : is_open new.ends.server.link.phase ≡ is_open world.ends.server.link.phase = ap (λ (l : LinkState). is_open l.phase) link-same
    in record {
      steady = subst (IsSteady point_behaviour) (sym host-same) reported.steady;
      until = ap (λ (h : HostState PointState). h.object.until) host-same ∙ reported.until ∙ ap alive_until (sym link-same);
      answered = λ early. ap (λ (h : HostState PointState). h.object.progress) host-same
          ∙ reported.answered (ap (λ (h : HostState PointState). is_completed h.stage) (sym host-same) ∙ early);
      inside = λ opened.
          subst (λ (e : EndState). IsReporting e.given new.told (host_of new)) (sym server-same)
          (subst (λ ts. IsReporting world.ends.server.given ts (host_of new)) (sym told-same)
          (subst (IsReporting world.ends.server.given world.told) (sym host-same) (reported.inside (sym open-same ∙ opened))));
      late = λ closed inside. subst (λ (e : EndState). alive_until e.link ≤ reading_of e.clock) (sym server-same)
          (reported.late (sym open-same ∙ closed) (sym (ap (λ (h : HostState PointState). is_outside h.stage) host-same) ∙ inside));
    }

module _
    (clocked : (now : ℕ) (host : HostState PointState) → IsSteady point_behaviour host → IsSteady point_behaviour (record host { link = settled now host.link }))
    (steady_of : (host : HostState PointState) → IsHosted point_behaviour host → IsSteady point_behaviour host)
    (new_law : (identity : Identity) (own_name peer_name : List ℕ) (number moment : ℕ) (point : PointState) (version : ℕ)
    → IsHosted point_behaviour (new_host point_behaviour identity own_name peer_name number moment point version))
  where
    pub event_reported : (event : Event PointState) (world : World PointState) → ((input : Input) (connection : ℕ) → IsReported (stepped point_behaviour input connection world)) →
        IsReported world → IsReported (happened point_behaviour event world)
    unfolding happened called lost restarted end_restarted host_restarted new_host keeping created alive_until deadline
    event_reported (Commands call) world steps reported = elsewhere world _ refl refl refl reported
    event_reported (Steps input connection) world steps reported = steps input connection
    event_reported (Passes elapsed of_client of_server) world steps reported = passes clocked elapsed of_client of_server world reported
    event_reported (Loses bytes) world steps reported = elsewhere world _ refl refl refl reported
    event_reported (ClientRestarts clock number) world steps reported = elsewhere world _ refl refl refl reported
    event_reported (HostRestarts clock number point) world steps reported = record {
      steady = steady_of _ (new_law world.ends.server.link.identity world.own_name world.peer_name number clock point world.version);
      until = refl;
      answered = λ _. refl;
      inside = λ opened. absurd (false≢true opened);
      late = λ closed inside. absurd (true≢false inside);
    }
    event_reported (Elsewhere count) world steps reported = elsewhere world _ refl refl refl reported

    pub begun_reported : (names : Names) (start : Start) (own_name peer_name : List ℕ) (point : PointState) (version : ℕ) →
        IsReported (begun point_behaviour names start own_name peer_name point version)
    unfolding new_host keeping created alive_until deadline
    begun_reported names start own_name peer_name point version = record {
      steady = steady_of _ (new_law (identity_of role.Server names) own_name peer_name start.server_first start.server_clock point version);
      until = refl;
      answered = λ _. refl;
      inside = λ opened. absurd (false≢true opened);
      late = λ closed inside. absurd (true≢false inside);
    }

-- ---- what a report tells

final_tells : (stands : Position) (report : Report) → IsFinal stands report → TellsOnly stands report
final_tells stands report (inl here) position is = told_same position stands (sym is ∙ here) where
  told_same : (one other : Position) → own_report (Point (PointPosition one)) ≡ own_report (Point (PointPosition other)) → one ≡ other
  told_same one other same = cc (ap (λ (r : Report). r.message) same)
final_tells stands report (inr late) position is = absurd (cc (ap (λ (r : Report). r.message) (sym is ∙ late)))

said_tells : (what : Initialisation) (stands : Position) → TellsOnly stands (said point_behaviour what)
said_tells what stands position is = absurd (cc (ap (λ (r : Report). r.message) is))

status_tells : (stands : Position) → TellsOnly stands (own_report (Point (PointPosition stands)))
status_tells stands position is = final_tells stands (own_report (Point (PointPosition stands))) (inl refl) position is

some_of : {A : Type 0} (P : A → Type 0) (some all : List A) → AreSomeOf some all → All P all → All P some
some_of P [] all are each = All-nil P
some_of P (one ∷ more) [] are each = absurd are
some_of P (one ∷ more) (first ∷ others) (inl here) each =
    All-cons P one more (subst P (sym here.0) (All-head P first others each)) (some_of P more others here.1 (All-tail P first others each))
some_of P (one ∷ more) (first ∷ others) (inr later) each = some_of P (one ∷ more) others later (All-tail P first others each)

initial_tells : (stands : Position) → All (TellsOnly stands) (initial_reports stands)
initial_tells stands =
    let start = said point_behaviour StartInitialisation
    in let status = own_report (Point (PointPosition stands))
    in let completed = said point_behaviour InitialisationCompleted
    in let all : (report : Report) (others : List Report) → TellsOnly stands report → All (TellsOnly stands) others → All (TellsOnly stands) (report ∷ others) = All-cons (TellsOnly stands)
    in all start (status ∷ completed ∷ []) (said_tells StartInitialisation stands) (all status (completed ∷ []) (status_tells stands)
    (all completed [] (said_tells InitialisationCompleted stands) (All-nil (TellsOnly stands))))

pub gives_standing : (now : ℕ) (input : Input) (host : HostState PointState) (part : HostSoFar PointState) → IsPointStep now input host part →
    GivesStanding part (items_given now part.calls (settled now host.link))
gives_standing now input host part step = record {
  reports = step.tells.own ++ step.tells.reports;
  gives = step.tells.gives;
  stands = subst (λ p. All (TellsOnly p) (step.tells.own ++ step.tells.reports)) (sym step.stands_after)
      (All-append (TellsOnly here) step.tells.own step.tells.reports own_tells (All-weaker (IsFinal here) (TellsOnly here) (final_tells here) step.tells.reports step.finals));
} where
  here : Position
  here = (moved_by step.tells).sensed

  answers_tell : (reports : List Report) (version : ℕ) → All (IsVersionAnswer point_behaviour version) reports → All (TellsOnly here) reports
  answers_tell reports version are =
      All-weaker (IsVersionAnswer point_behaviour version) (TellsOnly here) (λ report is. subst (TellsOnly here) (sym is.1) (said_tells (VersionAnswer is.0 version) here)) reports are

  begins_tell : All (TellsOnly here) step.tells.says.begins
  begins_tell = elim step.contacts [
    | inl same ↦ subst (λ p. All (TellsOnly p) step.tells.says.begins) (sym (step.stands ∙ same))
        (some_of (TellsOnly host.object.sensed) step.tells.says.begins (initial_reports host.object.sensed) step.initial (initial_tells host.object.sensed))
    | inr none ↦ subst (All (TellsOnly here)) (sym none) (All-nil (TellsOnly here))
  ]

  own_tells : All (TellsOnly here) step.tells.own
  own_tells = subst (All (TellsOnly here)) (sym step.tells.says.own_is)
      (All-append (TellsOnly here) step.tells.says.answers step.tells.says.begins (answers_tell step.tells.says.answers _ step.tells.says.are_answers) begins_tell)

-- ---- the drive

past : (now until : ℕ) → until ≤ now → nat_lt now until ≡ false
past now until come = grind (arith, nat_tests)

driven_moves : (progress : Progress) (now until : ℕ) (side : Side) → driven now until progress ≡ Some side → is_some (move_in progress) ≡ true
driven_moves Answered now until side is = absurd (none-some side is)
driven_moves (Driving other since) now until side is = refl
driven_moves Arrived now until side is = absurd (none-some side is)
driven_moves TimedOut now until side is = absurd (none-some side is)

not_driven : (progress : Progress) (now until : ℕ) → until ≤ now → driven now until progress ≡ None
not_driven Answered now until come = refl
not_driven (Driving side since) now until come = rw (past now until come) (cases (nat_lt now (drive_end since))) where
  cases : (b : Bool) → (if b && false then Some side else None) ≡ None
  cases true = refl
  cases false = refl
not_driven Arrived now until come = refl
not_driven TimedOut now until come = refl

pub driven_inside : (world : World PointState) → IsReported world → (side : Side) → drives (reading_of world.ends.server.clock) world.object ≡ Some side →
    (is_open world.ends.server.link.phase ≡ true) × (is_moving world.object ≡ true)
driven_inside world reported side is =
    (cases (is_open world.ends.server.link.phase) (is_outside world.stage) refl refl, driven_moves world.object.progress now world.object.until side is)
  where
    now : ℕ
    now = reading_of world.ends.server.clock

    cases : (o out : Bool) → is_open world.ends.server.link.phase ≡ o → is_outside world.stage ≡ out → o ≡ true
    cases true out opened is_out = refl
    cases false true closed is_out =
        absurd (none-some side (sym (ap (driven now world.object.until) (reported.answered (early_outside world.stage is_out))) ∙ is))
    cases false false closed inside =
        absurd (none-some side (sym (not_driven world.object.progress now world.object.until (subst (λ until. until ≤ now) (sym reported.until) (reported.late closed inside))) ∙ is))
