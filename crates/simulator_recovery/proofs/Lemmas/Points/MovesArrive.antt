-- What a step does to a point that is driven: it drives on, or its contact tells that it lies at its side, and it reports so.
use Rattle.simulator_recovery.proofs.Words.Basics.{◌≡◌, ◌⊎◌, inl, inr, ℕ, ◌∙◌, not, nat_le, Bool, true, false, if◌then◌else◌, List, [], ◌∷◌, ◌++◌, map, None, is_some, refl, ap, subst, false≢true, and_right}
use Rattle.simulator_recovery.proofs.Words.Links.{settled, is_open}
use Rattle.simulator_recovery.proofs.Words.Controllers.{IsPointStep, found_by, moved_by, stage_by, Message, PointPosition, Position, Side, Telegram, HostSoFar, HostState, is_completed, is_outside, items_given, Keeps, Loses, ObjectCall, Pays, Senses, Takes, Ticks, contacts_in, object_after_all, one_of, reports_paid, beginning, host_step, AllFit, AreComing, ArePayments, contacts_of, item_of, Input, Report, Sense, point_behaviour, PointState, commanded_by, drive_end, final_report, is_answered, is_at, limited, move_in, move_taken, own_report, position_report, reached, sensing, ticking, Progress}
use Rattle.simulator_recovery.proofs.Words.Recovery.{MakesStep}
use Rattle.simulator_spec.specs.point_ctl.Drive as drive
use Rattle.simulator_spec.specs.point_ctl.Drive.{paying}
use Rattle.simulator_recovery.proofs.Lemmas.Points.MovesOwed.{object_behind}
use Rattle.simulator_recovery.proofs.Lemmas.Talk.PointCounts.{begins_so}

-- ---- what comes where a move waits

no_move : (telegram : Telegram) (point : PointState) → is_answered point.progress ≡ false → is_some (move_taken telegram point) ≡ true → ⊥
no_move telegram point waits fits = false≢true (subst (λ (b : Bool). is_some (if b then commanded_by telegram.message else None) ≡ true) waits fits)

pub none_comes : (now : ℕ) (comes : List ObjectCall) (point : PointState) → AreComing now comes → AllFit point_behaviour comes point → is_answered point.progress ≡ false → contacts_in comes ≡ [] → comes ≡ []
unfolding AllFit contacts_in
none_comes now [] point coming fits waits none = refl
none_comes now (Takes at telegram ∷ others) point coming fits waits none = absurd (no_move telegram point waits fits.0)
none_comes now (Senses at contact ∷ others) point coming fits waits none = absurd (cc none)
none_comes now (Ticks at ∷ others) point coming fits waits none = absurd coming
none_comes now (Keeps moment ∷ others) point coming fits waits none = absurd coming
none_comes now (Pays ∷ others) point coming fits waits none = absurd coming
none_comes now (Loses ∷ others) point coming fits waits none = absurd coming

still_waits : (now : ℕ) (contact : Sense) (point : PointState) → is_answered point.progress ≡ false → is_answered (sensing now contact point).progress ≡ false
still_waits now (Sense.Section place occupancy) point waits = waits
still_waits now (Sense.Position position) point waits = later (limited now point.progress) (before point.progress waits)
  where
    before : (how : Progress) → is_answered how ≡ false → is_answered (limited now how) ≡ false
    before Progress.Answered e = e
    before (Progress.Driving side since) e = choose (nat_le (drive_end since) now)
      where
        choose : (b : Bool) → is_answered (if b then Progress.TimedOut else Progress.Driving side since) ≡ false
        choose true = refl
        choose false = refl
    before Progress.Arrived e = e
    before Progress.TimedOut e = e

    later : (how : Progress) → is_answered how ≡ false → is_answered (reached position how) ≡ false
    later Progress.Answered e = e
    later (Progress.Driving side since) e = choose (is_at side position)
      where
        choose : (b : Bool) → is_answered (if b then Progress.Arrived else Progress.Driving side since) ≡ false
        choose true = refl
        choose false = refl
    later Progress.Arrived e = e
    later Progress.TimedOut e = e

one_comes : (now : ℕ) (contact : Sense) (comes : List ObjectCall) (point : PointState) → AreComing now comes → AllFit point_behaviour comes point → is_answered point.progress ≡ false → contacts_in comes ≡ contact ∷ [] → comes ≡ Senses now contact ∷ []
unfolding AllFit contacts_in
one_comes now contact [] point coming fits waits one = absurd (cc one)
one_comes now contact (Takes at telegram ∷ others) point coming fits waits one = absurd (no_move telegram point waits fits.0)
one_comes now contact (Senses at first ∷ others) point coming fits waits one =
    let rest = none_comes now others (sensing at first point) coming.1 fits (still_waits at first point waits) (cc one)
    in let same : first ≡ contact = cc one
    in let reading_is = coming.0
    in cc (rest, same, reading_is)
one_comes now contact (Ticks at ∷ others) point coming fits waits one = absurd coming
one_comes now contact (Keeps moment ∷ others) point coming fits waits one = absurd coming
one_comes now contact (Pays ∷ others) point coming fits waits one = absurd coming
one_comes now contact (Loses ∷ others) point coming fits waits one = absurd coming

-- ---- what is paid

pub pays_driving : (pays : List ObjectCall) (point : PointState) (side : Side) (since : ℕ) → ArePayments pays → point.progress ≡ Progress.Driving side since → (object_after_all point_behaviour pays point).progress ≡ Progress.Driving side since
unfolding object_after_all
pays_driving [] point side since are e = e
pays_driving (Pays ∷ others) point side since are e = pays_driving others (paying point) side since are (drives_on point.progress e)
  where
    drives_on : (how : Progress) → how ≡ Progress.Driving side since → drive.answered how ≡ Progress.Driving side since
    drives_on how f = ap drive.answered f
pays_driving (Takes at telegram ∷ others) point side since are e = absurd are
pays_driving (Ticks at ∷ others) point side since are e = absurd are
pays_driving (Senses at contact ∷ others) point side since are e = absurd are
pays_driving (Keeps moment ∷ others) point side since are e = absurd are
pays_driving (Loses ∷ others) point side since are e = absurd are

-- where nothing is owed nothing is paid
pub pays_nothing : (pays : List ObjectCall) (point : PointState) → ArePayments pays → point.progress ≡ Progress.Answered → (reports_paid point_behaviour pays point ≡ []) × ((object_after_all point_behaviour pays point).progress ≡ Progress.Answered)
unfolding object_after_all reports_paid
pays_nothing [] point are e = (refl, e)
pays_nothing (Pays ∷ others) point are e =
    let more = pays_nothing others (paying point) are (ap drive.answered e)
    in (ap (λ (how : Progress). one_of (final_report how point) ++ reports_paid point_behaviour others (paying point)) e ∙ more.0, more.1)
pays_nothing (Takes at telegram ∷ others) point are e = absurd are
pays_nothing (Ticks at ∷ others) point are e = absurd are
pays_nothing (Senses at contact ∷ others) point are e = absurd are
pays_nothing (Keeps moment ∷ others) point are e = absurd are
pays_nothing (Loses ∷ others) point are e = absurd are

-- A point that has arrived reports where it lies, or waits.
pub pays_arrived : (pays : List ObjectCall) (point : PointState) → ArePayments pays → point.progress ≡ Progress.Arrived
    → ((reports_paid point_behaviour pays point ≡ position_report point ∷ []) × ((object_after_all point_behaviour pays point).progress ≡ Progress.Answered))
    ⊎ ((reports_paid point_behaviour pays point ≡ []) × ((object_after_all point_behaviour pays point).progress ≡ Progress.Arrived))
unfolding object_after_all reports_paid
pays_arrived [] point are e = inr (refl, e)
pays_arrived (Pays ∷ others) point are e =
    let more = pays_nothing others (paying point) are (ap drive.answered e)
    in inl (ap (λ (how : Progress). one_of (final_report how point) ++ reports_paid point_behaviour others (paying point)) e ∙ ap (λ (rest : List Report). position_report point ∷ rest) more.0, more.1)
pays_arrived (Takes at telegram ∷ others) point are e = absurd are
pays_arrived (Ticks at ∷ others) point are e = absurd are
pays_arrived (Senses at contact ∷ others) point are e = absurd are
pays_arrived (Keeps moment ∷ others) point are e = absurd are
pays_arrived (Loses ∷ others) point are e = absurd are

-- ---- a step of a point that is driven

-- It drives on, and gives nothing.
pub record DrivesOn (side : Side) (since : ℕ) (part : HostSoFar PointState) (items : List (List ℕ)) : Type 0 where
  pub drives : part.host.object.progress ≡ Progress.Driving side since
  pub gives : items ≡ []

-- Its contact tells this position, at its side, and it reports that.
pub record Reports (position : Position) (part : HostSoFar PointState) (items : List (List ℕ)) : Type 0 where
  pub answered : part.host.object.progress ≡ Progress.Answered
  pub gives : items ≡ item_of part.host (own_report (Message.Point (PointPosition position))) ∷ []

-- It owes that.
pub record Waits (part : HostSoFar PointState) : Type 0 where
  pub arrived : part.host.object.progress ≡ Progress.Arrived

module _ (makes : MakesStep) (now : ℕ) (input : Input) (host : HostState PointState) (side : Side) (since : ℕ) (was_open : is_open (settled now host.link).phase ≡ true) (completed : is_completed host.stage ≡ true)
    (drives : host.object.progress ≡ Progress.Driving side since) (early : nat_le (drive_end since) now ≡ false) (opened : is_open (host_step point_behaviour now input host).host.link.phase ≡ true) where
  abbrev part : HostSoFar PointState
  part = host_step point_behaviour now input host

  abbrev items : List (List ℕ)
  items = items_given now part.calls (settled now host.link)

  step : IsPointStep now input host part
  step = makes now input host

  abbrev found : PointState
  found = found_by now host

  found_is : found ≡ ticking now host.object
  found_is = step.stays (and_right (not (is_outside host.stage)) (not (is_open (settled now host.link).phase)) (ap not was_open))

  on_time : (how : Progress) → how ≡ Progress.Driving side since → limited now how ≡ Progress.Driving side since
  on_time how e = ap (limited now) e ∙ ap (λ (b : Bool). if b then Progress.TimedOut else Progress.Driving side since) early

  found_drives : found.progress ≡ Progress.Driving side since
  found_drives = ap (λ (p : PointState). p.progress) found_is ∙ on_time host.object.progress drives

  found_waits : is_answered found.progress ≡ false
  found_waits = ap is_answered found_drives

  stage_is : is_completed (beginning point_behaviour now host).stage ≡ true
  stage_is = ap is_completed ((begins_so now host).inside was_open).0 ∙ completed

  stage_then : is_completed (stage_by now input host) ≡ true
  stage_then = step.tells.completed stage_is

  pub stage_after : is_completed part.host.stage ≡ true
  stage_after = ap is_completed (step.tells.stage_is opened) ∙ stage_then

  -- it says nothing but reports
  only_reports : items ≡ map (item_of part.host) step.tells.reports
  only_reports = step.tells.gives ∙ ap (λ (own : List Report). map (item_of part.host) (own ++ step.tells.reports)) (step.tells.says.late stage_is)

  moved_is : (comes : List ObjectCall) → step.tells.comes ≡ comes → moved_by step.tells ≡ object_after_all point_behaviour comes found
  moved_is comes e = ap (λ (list : List ObjectCall). object_after_all point_behaviour list found) e

  moves_still : (moved_by step.tells).progress ≡ Progress.Driving side since → DrivesOn side since part items
  moves_still e = record {
    drives = object_behind now input host step opened ∙ pays_driving step.tells.pays (moved_by step.tells) side since step.tells.are_payments e;
    gives = only_reports ∙ ap (map (item_of part.host)) (step.still (ap (λ (how : Progress). is_some (move_in how)) e));
  }

  -- nothing but a contact changes it
  pub drives_on : contacts_of input ≡ [] → DrivesOn side since part items
  unfolding object_after_all
  drives_on none = moves_still (ap (λ (p : PointState). p.progress) (moved_is [] (none_comes now step.tells.comes found step.tells.are_coming (step.tells.fit opened) found_waits (step.tells.senses ∙ none))) ∙ found_drives)

  -- its contact
  pub senses_on : (position : Position) → contacts_of input ≡ Sense.Position position ∷ [] → DrivesOn side since part items ⊎ ((is_at side position ≡ true) × (Reports position part items ⊎ Waits part))
  unfolding object_after_all
  senses_on position one = choose (is_at side position) refl
    where
      moved : moved_by step.tells ≡ sensing now (Sense.Position position) found
      moved = moved_is (Senses now (Sense.Position position) ∷ []) (one_comes now (Sense.Position position) step.tells.comes found step.tells.are_coming (step.tells.fit opened) found_waits (step.tells.senses ∙ one))

      reached_is : (moved_by step.tells).progress ≡ (if is_at side position then Progress.Arrived else Progress.Driving side since)
      reached_is = ap (λ (p : PointState). p.progress) moved ∙ ap (reached position) (on_time found.progress found_drives)

      choose : (b : Bool) → is_at side position ≡ b → DrivesOn side since part items ⊎ ((is_at side position ≡ true) × (Reports position part items ⊎ Waits part))
      choose false e = inl (moves_still (reached_is ∙ ap (λ (b : Bool). if b then Progress.Arrived else Progress.Driving side since) e))
      choose true e = inr (e, by_pays (pays_arrived step.tells.pays (moved_by step.tells) step.tells.are_payments (reached_is ∙ ap (λ (b : Bool). if b then Progress.Arrived else Progress.Driving side since) e)))
        where
          by_pays : ((reports_paid point_behaviour step.tells.pays (moved_by step.tells) ≡ position_report (moved_by step.tells) ∷ []) × ((object_after_all point_behaviour step.tells.pays (moved_by step.tells)).progress ≡ Progress.Answered))
              ⊎ ((reports_paid point_behaviour step.tells.pays (moved_by step.tells) ≡ []) × ((object_after_all point_behaviour step.tells.pays (moved_by step.tells)).progress ≡ Progress.Arrived)) → Reports position part items ⊎ Waits part
          by_pays (inl (paid, done)) = inl (record {
            answered = object_behind now input host step opened ∙ done;
            gives = only_reports ∙ ap (map (item_of part.host)) (step.tells.paid stage_then ∙ paid) ∙ ap (λ (p : PointState). item_of part.host (position_report p) ∷ []) moved;
          })
          by_pays (inr (paid, waits)) = inr (record { arrived = object_behind now input host step opened ∙ waits })
