-- A step of a host, as a step of its point.
use Rattle.std.proofs.Common.{◌≡◌, ◌≤◌, ◌⊎◌, ℕ, ◌+◌, inl, inr, Bool, true, false, if◌then◌else◌, List, [], ◌∷◌, ◌++◌, length, arith, refl, ap, sym, ◌∙◌, subst}
use Rattle.std.specs.List.{All}
use Rattle.std.proofs.lemmas.Bool.{true≢false, false≢true}
use Rattle.std.proofs.lemmas.List.Elements.{All-nil}
use Rattle.sci_telegram.specs.declared.message.Position.{Position}
use Rattle.rasta_core.specs.State.{is_open}
use Rattle.rasta_core.specs.Clock.{alive_until, settled}
use Rattle.object_host.specs.Host.{HostState, HostSoFar, is_completed, is_outside}
use Rattle.object_host.specs.Object.{ObjectCall, Keeps, Ticks, object_after_all, reports_paid, telegrams_in}
use Rattle.object_host.specs.Step.{beginning, given, initial_status}
use Rattle.object_host.specs.Host.{fallen}
use Rattle.object_host.specs.Told.{AreSomeOf, IsToldIn, IsVersionAnswer, has_lost, initialisation, loss_where}
use Rattle.object_host.specs.declared.input.Input.{Input}
use Rattle.object_host.specs.declared.input.Input.TheVariants as inputs
use Rattle.object_host.specs.declared.sense.Sense.TheVariants as sense
use Rattle.object_host.specs.declared.stage.Stage.{Stage}
use Rattle.object_host.specs.declared.stage.Stage.TheVariants as stage
use Rattle.point_ctl.specs.declared.progress.Progress.TheVariants.{Answered}
use Rattle.point_ctl.specs.Controlled.{point_behaviour}
use Rattle.point_ctl.specs.Drive.{PointState, limited, losing, ticking}
use Rattle.point_ctl.specs.History.{unanswered}
use Rattle.object_host_laws.specs.Point.{IsFinal, IsPointStep, found_by, initial_reports, is_moving, moved_by, moves_in, position_told, stage_by}
use Rattle.object_host_laws.proofs.Moves.{ArePaid, are_paid, begins_kept, begins_lost, comes_to_stand, coming_drives, coming_fits, coming_untold, coming_waits, ends_kept, ends_lost, joined}

pub early_outside : (s : Stage) → is_outside s ≡ true → is_completed s ≡ false
early_outside stage.Outside out = refl
early_outside stage.AwaitsCheck out = refl
early_outside stage.AwaitsRequest out = refl
early_outside stage.Completed out = absurd (false≢true out)
early_outside stage.Refused out = refl

initialisation_is : (point : PointState) → initialisation point_behaviour point ≡ initial_reports point.sensed
unfolding initial_status
initialisation_is point = refl

sensed_stage : (now : ℕ) (position : Position) (host : HostState PointState) → (given point_behaviour now (inputs.Sense (sense.Position position)) host).host.stage ≡ host.stage
unfolding given
sensed_stage now position host = refl

-- where the clock rules bring no loss the stage is as it was
pub begun_stage : (now : ℕ) (host : HostState PointState) → has_lost (record host { link = settled now host.link }) ≡ false → (beginning point_behaviour now host).stage ≡ host.stage
unfolding beginning fallen
begun_stage now host none = rw none refl

begun_version : (now : ℕ) (host : HostState PointState) → (beginning point_behaviour now host).version ≡ host.version
unfolding beginning fallen
begun_version now host = cases (has_lost (record host { link = settled now host.link })) where
  clocked : HostState PointState
  clocked = record host { link = settled now host.link }

  after : Bool → HostState PointState
  after b = if b then record clocked { stage = stage.Outside; object = losing clocked.object } else clocked

  cases : (b : Bool) → (after b).version ≡ host.version
  cases true = refl
  cases false = refl

none_sent : {X : Type 0} (sent : List X) (n : ℕ) → sent ≡ [] → length sent ≤ n
none_sent sent n none = omega (arith, ap length none)

all_sent : (sent all rest before : ℕ) → sent ≡ all → all + rest ≡ before → sent ≤ before
all_sent sent all rest before same count = omega (arith, same, count)

none_before : {X : Type 0} (first others : List X) → first ++ others ≡ [] → others ≡ []
none_before [] others none = none
none_before (x ∷ first) others none = absurd (cc (none))

module _ (now : ℕ) (input : Input) (host : HostState PointState) (part : HostSoFar PointState) (tells : IsToldIn point_behaviour now input host part) where
  abbrev lost_first : Bool
  lost_first = has_lost (record host { link = settled now host.link })

  abbrev found : PointState
  found = found_by now host

  abbrev moved : PointState
  moved = moved_by tells

  abbrev paid : PointState
  paid = object_after_all point_behaviour tells.pays moved

  payment : ArePaid tells.pays moved
  payment = are_paid tells.pays moved tells.are_payments

  begins : (b : Bool) → lost_first ≡ b → found ≡ object_after_all point_behaviour (loss_where b ++ Ticks now ∷ []) host.object
  begins b is = tells.begun_is ∙ ap (λ (l : Bool). object_after_all point_behaviour (loss_where l ++ Ticks now ∷ []) host.object) is

  kept : lost_first ≡ false → found ≡ ticking now host.object
  kept is = begins false is ∙ begins_kept now host.object

  forgot : lost_first ≡ true → found ≡ ticking now (losing host.object)
  forgot is = begins true is ∙ begins_lost now host.object

  found_stands : found.sensed ≡ host.object.sensed
  found_stands = by lost_first refl where
    by : (b : Bool) → lost_first ≡ b → found.sensed ≡ host.object.sensed
    by true is = ap (λ (p : PointState). p.sensed) (forgot is)
    by false is = ap (λ (p : PointState). p.sensed) (kept is)

  ends : (b : Bool) → tells.is_lost ≡ b → part.host.object ≡ object_after_all point_behaviour (loss_where b ++ Keeps (alive_until part.host.link) ∷ []) paid
  ends b is =
      let first = loss_where lost_first ++ Ticks now ∷ []
      in let last : Bool → List ObjectCall = λ l. loss_where l ++ Keeps (alive_until part.host.link) ∷ []
      in tells.object_is
      ∙ ap (λ l. object_after_all point_behaviour (first ++ ((tells.comes ++ tells.pays) ++ last l)) host.object) is
      ∙ joined first ((tells.comes ++ tells.pays) ++ last b) host.object
      ∙ ap (object_after_all point_behaviour ((tells.comes ++ tells.pays) ++ last b)) (sym tells.begun_is)
      ∙ joined (tells.comes ++ tells.pays) (last b) found
      ∙ ap (object_after_all point_behaviour (last b)) (joined tells.comes tells.pays found)

  ended_kept : tells.is_lost ≡ false → part.host.object ≡ point_behaviour.after_keep (alive_until part.host.link) paid
  ended_kept is = ends false is ∙ ends_kept (alive_until part.host.link) paid

  ended_lost : tells.is_lost ≡ true → part.host.object ≡ point_behaviour.after_keep (alive_until part.host.link) (losing paid)
  ended_lost is = ends true is ∙ ends_lost (alive_until part.host.link) paid

  moved_stands : moved.sensed ≡ position_told input host.object.sensed
  moved_stands = comes_to_stand now input tells.comes found tells.are_coming tells.senses ∙ ap (position_told input) found_stands

  told_moves : moves_in (telegrams_in tells.comes) ≡ moves_in part.told
  told_moves = ap moves_in tells.takes

  -- what is sent of what is owed
  reported : (b : Bool) → is_completed (stage_by now input host) ≡ b → (tells.reports ≡ []) ⊎ (tells.reports ≡ reports_paid point_behaviour tells.pays moved)
  reported true is = inr (tells.paid is)
  reported false is = inl (tells.dropped is)

  reports_are : (tells.reports ≡ []) ⊎ (tells.reports ≡ reports_paid point_behaviour tells.pays moved)
  reports_are = reported (is_completed (stage_by now input host)) refl

  finals_are : All (IsFinal moved.sensed) tells.reports
  finals_are = elim reports_are [
    | inl none ↦ subst (All (IsFinal moved.sensed)) (sym none) (All-nil (IsFinal moved.sensed))
    | inr all ↦ subst (All (IsFinal moved.sensed)) (sym all) payment.finals
  ]

  few : length tells.reports ≤ unanswered moved.progress
  few = elim reports_are [
    | inl none ↦ none_sent tells.reports (unanswered moved.progress) none
    | inr all ↦ all_sent (length tells.reports) _ (unanswered paid.progress) (unanswered moved.progress) (ap length all) payment.count
  ]

  still : is_moving moved ≡ true → tells.reports ≡ []
  still is = elim reports_are [
    | inl none ↦ none
    | inr all ↦ all ∙ payment.still is
  ]

  contacts : (i : Input) → i ≡ input → (position_told i host.object.sensed ≡ host.object.sensed) ⊎ (tells.says.begins ≡ [])
  contacts inputs.Tick is = inl refl
  contacts (inputs.Datagram bytes) is = inl refl
  contacts (inputs.Sense (sense.Section place occupancy)) is = inl refl
  contacts (inputs.Sense (sense.Position position)) is = inr (by (is_completed (beginning point_behaviour now host).stage) refl) where
    same : stage_by now input host ≡ (beginning point_behaviour now host).stage
    same = ap (λ i. stage_by now i host) (sym is) ∙ sensed_stage now position (beginning point_behaviour now host)

    by : (b : Bool) → is_completed (beginning point_behaviour now host).stage ≡ b → tells.says.begins ≡ []
    by true completed = none_before tells.says.answers tells.says.begins (sym tells.says.own_is ∙ tells.says.late completed)
    by false early = tells.says.completes (ap is_completed same ∙ early)

  early : is_completed (stage_by now input host) ≡ false → found.progress ≡ Answered → moved.progress ≡ Answered
  early is = coming_untold now tells.comes found tells.are_coming (tells.takes ∙ tells.untold is)

  -- before the initialisation was completed the step finds every move answered
  found_answered : ((is_completed host.stage ≡ false) → host.object.progress ≡ Answered) → is_completed (stage_by now input host) ≡ false → found.progress ≡ Answered
  found_answered before is = by lost_first refl where
    not_yet : (b : Bool) → is_completed (beginning point_behaviour now host).stage ≡ b → b ≡ false
    not_yet true completed = absurd (true≢false (sym (tells.completed completed) ∙ is))
    not_yet false completed = refl

    by : (b : Bool) → lost_first ≡ b → found.progress ≡ Answered
    by true lost = ap (λ (p : PointState). p.progress) (forgot lost)
    by false none =
        ap (λ (p : PointState). p.progress) (kept none)
        ∙ ap (limited now) (before (ap is_completed (sym (begun_stage now host none)) ∙ not_yet (is_completed (beginning point_behaviour now host).stage) refl))

  answered : ((is_completed host.stage ≡ false) → host.object.progress ≡ Answered) → is_completed part.host.stage ≡ false → part.host.object.progress ≡ Answered
  answered before is = by tells.is_lost (is_open part.host.link.phase) refl refl where
    unmoved : is_completed (stage_by now input host) ≡ false → tells.is_lost ≡ false → part.host.object.progress ≡ Answered
    unmoved not_yet none = ap (λ (p : PointState). p.progress) (ended_kept none) ∙ payment.answered (early not_yet (found_answered before not_yet))

    outside : (b : Bool) → is_outside (stage_by now input host) ≡ b → tells.is_lost ≡ false → is_open part.host.link.phase ≡ false → b ≡ true
    outside true is_out none closed = refl
    outside false is_out none closed = absurd (true≢false (sym (tells.falls is_out closed) ∙ none))

    by : (lost opened : Bool) → tells.is_lost ≡ lost → is_open part.host.link.phase ≡ opened → part.host.object.progress ≡ Answered
    by true opened lost is_opened = ap (λ (p : PointState). p.progress) (ended_lost lost)
    by false true none opened = unmoved (ap is_completed (sym (tells.stage_is opened)) ∙ is) none
    by false false none closed = unmoved (early_outside (stage_by now input host) (outside (is_outside (stage_by now input host)) refl none closed)) none

  pub point_step : IsPointStep now input host part
  point_step = record {
    tells = tells;
    stays = kept;
    lost = forgot;
    stands = moved_stands;
    waits = subst (λ moves. unanswered moved.progress ≤ unanswered found.progress + length moves) told_moves (coming_waits now tells.comes found tells.are_coming);
    commanded = λ opened.
        let fits = coming_fits now tells.comes found tells.are_coming (tells.fit opened)
        in (fits.0 ∙ ap (λ ts. unanswered found.progress + length ts) tells.takes, ap length (sym told_moves) ∙ fits.1 ∙ ap length tells.takes);
    drives = λ none. coming_drives now tells.comes found tells.are_coming (told_moves ∙ none);
    early = early;
    finals = finals_are;
    still = still;
    few = few;
    versions = subst (λ v. All (IsVersionAnswer point_behaviour v) tells.says.answers) (begun_version now host) tells.says.are_answers;
    initial = subst (AreSomeOf tells.says.begins) (initialisation_is found ∙ ap initial_reports found_stands) tells.says.are_some;
    contacts = contacts input refl;
    stands_after = by_loss tells.is_lost refl;
    until = until_is tells.is_lost refl;
    inside = λ opened. ap is_moving (ended_kept (tells.stays opened)) ∙ payment.moves;
    answers = λ opened completed.
        ap (λ n. length tells.reports + n) (ap (λ (p : PointState). unanswered p.progress) (ended_kept (tells.stays opened)))
        ∙ ap (λ rs. length rs + unanswered paid.progress) (tells.paid completed) ∙ payment.count;
    answered = answered;
  } where
    by_loss : (b : Bool) → tells.is_lost ≡ b → part.host.object.sensed ≡ moved.sensed
    by_loss true is = ap (λ (p : PointState). p.sensed) (ended_lost is) ∙ payment.stands
    by_loss false is = ap (λ (p : PointState). p.sensed) (ended_kept is) ∙ payment.stands

    until_is : (b : Bool) → tells.is_lost ≡ b → part.host.object.until ≡ alive_until part.host.link
    until_is true is = ap (λ (p : PointState). p.until) (ended_lost is)
    until_is false is = ap (λ (p : PointState). p.until) (ended_kept is)
