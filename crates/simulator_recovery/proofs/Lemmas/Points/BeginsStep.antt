-- What a step does to a point whose contact doesn't tell: each report that it gives tells the side of its move.
use Rattle.simulator_recovery.proofs.Words.Basics.{◌≡◌, ◌⊎◌, inl, inr, ℕ, ◌∙◌, not, nat_le, Bool, true, false, if◌then◌else◌, List, [], ◌∷◌, ◌++◌, map, Option, Some, None, is_some, refl, sym, ap, subst, false≢true, and_right}
use Rattle.simulator_recovery.proofs.Words.Links.{settled, is_open}
use Rattle.simulator_recovery.proofs.Words.Controllers.{IsPointStep, found_by, moved_by, moves_in, stage_by, Message, PointPosition, Position, Side, Telegram, HostSoFar, HostState, is_completed, is_outside, items_given, Keeps, Loses, ObjectCall, Pays, Senses, Takes, Ticks, contacts_in, object_after_all, reports_paid, telegrams_in, beginning, host_step, AllFit, AreComing, contacts_of, item_of, Input, Report, point_behaviour, PointState, begun, commanded_by, drive_end, is_answered, is_at, limited, move_in, move_taken, own_report, position_report, taking, ticking, one_more, Progress}
use Rattle.simulator_recovery.proofs.Words.Stations.{position_of}
use Rattle.simulator_recovery.proofs.Words.Recovery.{MakesStep}
use Rattle.simulator_recovery.proofs.Lemmas.Points.MovesArrive.{none_comes, pays_arrived, pays_driving, pays_nothing}
use Rattle.simulator_recovery.proofs.Lemmas.Points.MovesOwed.{object_behind}
use Rattle.simulator_recovery.proofs.Lemmas.Points.MovesReported.{at_its_side}
use Rattle.simulator_recovery.proofs.Lemmas.Talk.PointCounts.{begins_so}

-- the report of a controller that its point lies at a side
abbrev pub report_of : HostState PointState → Side → List ℕ
report_of host side = item_of host (own_report (Message.Point (PointPosition (position_of side))))

-- These moves of a point wait for their reports at this reading of its controller's clock: none; one for which it is driven since that
-- reading; or one at whose side it lies.
pub data Stands (now : ℕ) (left : List Side) (host : HostState PointState) : Type 0 where
  has_none : host.object.progress ≡ Progress.Answered → left ≡ [] → Stands now left host
  drives_to : (side : Side) → host.object.progress ≡ Progress.Driving side now → left ≡ side ∷ [] → Stands now left host
  owes_that : (side : Side) → host.object.progress ≡ Progress.Arrived → is_at side host.object.sensed ≡ true → left ≡ side ∷ [] → Stands now left host

-- ---- what comes where no contact tells

-- a move that fits is one, and then it isn't answered
move_fits : (now : ℕ) (telegram : Telegram) (point : PointState) → is_some (move_taken telegram point) ≡ true
    → ((side : Side) × (commanded_by telegram.message ≡ Some side)) × (is_answered (taking now telegram point).progress ≡ false)
move_fits now telegram point fits = choose (is_answered point.progress) (commanded_by telegram.message) refl fits
  where
    waits : (s : Side) (b : Bool) → is_answered (if b then Progress.Arrived else Progress.Driving s now) ≡ false
    waits s true = refl
    waits s false = refl

    choose : (b : Bool) (c : Option Side) → commanded_by telegram.message ≡ c → is_some (if b then c else None) ≡ true
        → ((side : Side) × (commanded_by telegram.message ≡ Some side)) × (is_answered (begun now point (if b then c else None)) ≡ false)
    choose false c e f = absurd (false≢true f)
    choose true None e f = absurd (false≢true f)
    choose true (Some s) e f = ((s, e), waits s (is_at s point.sensed))

-- so one move comes at most
one_or_none : (now : ℕ) (comes : List ObjectCall) (point : PointState) → AreComing now comes → AllFit point_behaviour comes point → contacts_in comes ≡ []
    → (comes ≡ []) ⊎ ((telegram : Telegram) × (side : Side) × (comes ≡ Takes now telegram ∷ []) × (commanded_by telegram.message ≡ Some side))
unfolding AllFit contacts_in
one_or_none now [] point coming fits none = inl refl
one_or_none now (Takes at telegram ∷ others) point coming fits none =
    let fit = move_fits at telegram point fits.0
    in let rest = none_comes now others (taking at telegram point) coming.1 fits.1 fit.1 none
    in let reading_is = coming.0
    in inr (telegram, fit.0.0, cc (rest, reading_is), fit.0.1)
one_or_none now (Senses at contact ∷ others) point coming fits none = absurd (cc none)
one_or_none now (Ticks at ∷ others) point coming fits none = absurd coming
one_or_none now (Keeps moment ∷ others) point coming fits none = absurd coming
one_or_none now (Pays ∷ others) point coming fits none = absurd coming
one_or_none now (Loses ∷ others) point coming fits none = absurd coming

-- ---- a step

module _ (makes : MakesStep) (now : ℕ) (input : Input) (host : HostState PointState) (was_open : is_open (settled now host.link).phase ≡ true) (completed : is_completed host.stage ≡ true)
    (none : contacts_of input ≡ [])
    (fresh : nat_le (drive_end now) now ≡ false) (opened : is_open (host_step point_behaviour now input host).host.link.phase ≡ true) where
  abbrev part : HostSoFar PointState
  part = host_step point_behaviour now input host

  abbrev items : List (List ℕ)
  items = items_given now part.calls (settled now host.link)

  step : IsPointStep now input host part
  step = makes now input host

  abbrev found : PointState
  found = found_by now host

  found_is : found ≡ ticking now host.object
  found_is = step.stays (and_right (not (is_outside host.stage)) (not (is_open (settled now host.link).phase)) (ap not was_open))

  stage_is : is_completed (beginning point_behaviour now host).stage ≡ true
  stage_is = ap is_completed ((begins_so now host).inside was_open).0 ∙ completed

  stage_then : is_completed (stage_by now input host) ≡ true
  stage_then = step.tells.completed stage_is

  pub stage_behind : is_completed part.host.stage ≡ true
  stage_behind = ap is_completed (step.tells.stage_is opened) ∙ stage_then

  -- it says nothing but reports
  only_reports : items ≡ map (item_of part.host) step.tells.reports
  only_reports = step.tells.gives ∙ ap (λ (own : List Report). map (item_of part.host) (own ++ step.tells.reports)) (step.tells.says.late stage_is)

  abbrev moved : PointState
  moved = moved_by step.tells

  moved_is : (comes : List ObjectCall) → step.tells.comes ≡ comes → moved ≡ object_after_all point_behaviour comes found
  moved_is comes e = ap (λ (list : List ObjectCall). object_after_all point_behaviour list found) e

  found_so : (how : Progress) → host.object.progress ≡ how → found.progress ≡ limited now how
  found_so how e = ap (λ (p : PointState). p.progress) found_is ∙ ap (limited now) e

  -- Where these moves waited, the step takes some, and reports some: each report tells the side of its move.
  pub record Answers (left : List Side) : Type 0 where
    pub took : List Side
    pub paid : List Side
    pub rest : List Side
    pub told : moves_in part.told ≡ took
    pub gives : items ≡ map (report_of part.host) paid
    pub sum : left ++ took ≡ paid ++ rest
    pub stands : Stands now rest part.host

  nothing_told : step.tells.comes ≡ [] → moves_in part.told ≡ []
  unfolding moves_in telegrams_in
  nothing_told e = ap moves_in (sym step.tells.takes ∙ ap telegrams_in e)

  stays_idle : step.tells.comes ≡ [] → found.progress ≡ Progress.Answered → Answers []
  unfolding object_after_all
  stays_idle e f = record {
    took = [];
    paid = [];
    rest = [];
    told = nothing_told e;
    gives = only_reports ∙ ap (map (item_of part.host)) (step.tells.paid stage_then ∙ idle.0);
    sum = refl;
    stands = has_none (object_behind now input host step opened ∙ idle.1) refl;
  }
    where
      idle : (reports_paid point_behaviour step.tells.pays moved ≡ []) × ((object_after_all point_behaviour step.tells.pays moved).progress ≡ Progress.Answered)
      idle = pays_nothing step.tells.pays moved step.tells.are_payments (ap (λ (p : PointState). p.progress) (moved_is [] e) ∙ f)

  drives_on : (left took : List Side) (side : Side) → moves_in part.told ≡ took → left ++ took ≡ side ∷ [] → moved.progress ≡ Progress.Driving side now → Answers left
  drives_on left took side told_is sum_is e = record {
    took = took;
    paid = [];
    rest = side ∷ [];
    told = told_is;
    gives = only_reports ∙ ap (map (item_of part.host)) (step.still (ap (λ (how : Progress). is_some (move_in how)) e));
    sum = sum_is;
    stands = drives_to side (object_behind now input host step opened ∙ pays_driving step.tells.pays moved side now step.tells.are_payments e) refl;
  }

  -- it lies there, and reports that or owes it
  arrives : (left took : List Side) (side : Side) → moves_in part.told ≡ took → left ++ took ≡ side ∷ [] → moved.progress ≡ Progress.Arrived → is_at side moved.sensed ≡ true → Answers left
  arrives left took side told_is sum_is e there = choose (pays_arrived step.tells.pays moved step.tells.are_payments e)
    where
      choose : ((reports_paid point_behaviour step.tells.pays moved ≡ position_report moved ∷ []) × ((object_after_all point_behaviour step.tells.pays moved).progress ≡ Progress.Answered))
          ⊎ ((reports_paid point_behaviour step.tells.pays moved ≡ []) × ((object_after_all point_behaviour step.tells.pays moved).progress ≡ Progress.Arrived)) → Answers left
      choose (inl (paid_so, done)) = record {
        took = took;
        paid = side ∷ [];
        rest = [];
        told = told_is;
        gives = only_reports ∙ ap (map (item_of part.host)) (step.tells.paid stage_then ∙ paid_so)
            ∙ ap (λ (p : Position). item_of part.host (own_report (Message.Point (PointPosition p))) ∷ []) (at_its_side side moved.sensed there);
        sum = sum_is;
        stands = has_none (object_behind now input host step opened ∙ done) refl;
      }
      choose (inr (paid_so, waits)) = record {
        took = took;
        paid = [];
        rest = side ∷ [];
        told = told_is;
        gives = only_reports ∙ ap (map (item_of part.host)) (step.tells.paid stage_then ∙ paid_so);
        sum = sum_is;
        stands = owes_that side (object_behind now input host step opened ∙ waits) (ap (is_at side) step.stands_after ∙ there) refl;
      }

  takes_one : (telegram : Telegram) (side : Side) → step.tells.comes ≡ Takes now telegram ∷ [] → commanded_by telegram.message ≡ Some side → found.progress ≡ Progress.Answered → Answers []
  unfolding object_after_all moves_in telegrams_in
  takes_one telegram side e commands f = choose (is_at side found.sensed) refl
    where
      moved_so : moved ≡ taking now telegram found
      moved_so = moved_is (Takes now telegram ∷ []) e

      taken_is : move_taken telegram found ≡ Some side
      taken_is = ap (λ (how : Progress). if is_answered how then commanded_by telegram.message else None) f ∙ commands

      how_moved : moved.progress ≡ (if is_at side found.sensed then Progress.Arrived else Progress.Driving side now)
      how_moved = ap (λ (p : PointState). p.progress) moved_so ∙ ap (begun now found) taken_is

      told_is : moves_in part.told ≡ side ∷ []
      told_is = ap moves_in (sym step.tells.takes ∙ ap telegrams_in e) ∙ ap (λ (o : Option Side). one_more o []) commands

      choose : (b : Bool) → is_at side found.sensed ≡ b → Answers []
      choose false g = drives_on [] (side ∷ []) side told_is refl (how_moved ∙ ap (λ (b : Bool). if b then Progress.Arrived else Progress.Driving side now) g)
      choose true g = arrives [] (side ∷ []) side told_is refl (how_moved ∙ ap (λ (b : Bool). if b then Progress.Arrived else Progress.Driving side now) g)
          (ap (λ (p : PointState). is_at side p.sensed) moved_so ∙ g)

  -- where a move waits nothing comes
  nothing_comes : is_answered found.progress ≡ false → step.tells.comes ≡ []
  nothing_comes waits = none_comes now step.tells.comes found step.tells.are_coming (step.tells.fit opened) waits (step.tells.senses ∙ none)

  moved_still : is_answered found.progress ≡ false → moved ≡ found
  unfolding object_after_all
  moved_still waits = moved_is [] (nothing_comes waits)

  pub answers : (left : List Side) → Stands now left host → Answers left
  answers left (has_none e is) = subst Answers (sym is) (choose (one_or_none now step.tells.comes found step.tells.are_coming (step.tells.fit opened) (step.tells.senses ∙ none)))
    where
      idle : found.progress ≡ Progress.Answered
      idle = found_so Progress.Answered e

      choose : (step.tells.comes ≡ []) ⊎ ((telegram : Telegram) × (side : Side) × (step.tells.comes ≡ Takes now telegram ∷ []) × (commanded_by telegram.message ≡ Some side)) → Answers []
      choose (inl f) = stays_idle f idle
      choose (inr (telegram, side, f, commands)) = takes_one telegram side f commands idle
  answers left (drives_to side e is) = subst Answers (sym is)
      (drives_on (side ∷ []) [] side (nothing_told (nothing_comes (ap is_answered drives))) refl (ap (λ (p : PointState). p.progress) (moved_still (ap is_answered drives)) ∙ drives))
    where
      drives : found.progress ≡ Progress.Driving side now
      drives = found_so (Progress.Driving side now) e ∙ ap (λ (b : Bool). if b then Progress.TimedOut else Progress.Driving side now) fresh
  answers left (owes_that side e there is) = subst Answers (sym is)
      (arrives (side ∷ []) [] side (nothing_told (nothing_comes (ap is_answered owes))) refl (ap (λ (p : PointState). p.progress) (moved_still (ap is_answered owes)) ∙ owes)
      (ap (λ (p : PointState). is_at side p.sensed) (moved_still (ap is_answered owes)) ∙ ap (λ (p : PointState). is_at side p.sensed) found_is ∙ there))
    where
      owes : found.progress ≡ Progress.Arrived
      owes = found_so Progress.Arrived e
