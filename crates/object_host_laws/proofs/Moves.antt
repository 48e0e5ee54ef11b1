-- What calls do to a point: what comes in a step, and what is paid in it.
use Rattle.std.proofs.Common.{◌≡◌, ◌≤◌, ℕ, suc, ◌+◌, nat_le, inl, inr, Bool, true, false, if◌then◌else◌, List, [], ◌∷◌, ◌++◌, length, Option, Some, None, is_some, arith, refl, ap, sym, ◌∙◌}
use Rattle.std.specs.List.{All}
use Rattle.std.proofs.lemmas.Bool.{false≢true}
use Rattle.std.proofs.lemmas.List.Elements.{All-cons, All-nil}
use Rattle.sci_telegram.specs.declared.message.Position.{Position}
use Rattle.sci_telegram.specs.declared.message.Side.{Side}
use Rattle.sci_telegram.specs.declared.telegram.Telegram.{Telegram}
use Rattle.object_host.specs.Object.{ObjectCall, Takes, Ticks, Senses, Keeps, Pays, Loses, contacts_in, object_after_all, one_of, reports_paid, telegrams_in}
use Rattle.object_host.specs.Told.{AllFit, AreComing, ArePayments, contacts_of, loss_where}
use Rattle.object_host.specs.declared.input.Input.{Input}
use Rattle.object_host.specs.declared.input.Input.TheVariants as inputs
use Rattle.object_host.specs.declared.report.Report.{Report}
use Rattle.object_host.specs.declared.sense.Sense.{Sense}
use Rattle.object_host.specs.declared.sense.Sense.TheVariants as sense
use Rattle.point_ctl.specs.declared.progress.Progress.{Progress}
use Rattle.point_ctl.specs.declared.progress.Progress.TheVariants.{Answered, Driving, Arrived, TimedOut}
use Rattle.point_ctl.specs.Controlled.{point_behaviour}
use Rattle.point_ctl.specs.Drive.{PointState, commanded_by, drive_end, is_at, limited, move_in, move_taken, paying, reached, sensing, taking}
use Rattle.point_ctl.specs.History.{one_more, unanswered}
use Rattle.object_host_laws.specs.Point.{IsFinal, is_moving, moves_in, position_told}

-- a point of these parts
abbrev of : Progress → Position → ℕ → PointState
of progress sensed until = record { sensed = sensed; progress = progress; until = until }

-- the position last told by contacts
abbrev last_told : List Sense → Position → Position
last_told [] stood = stood
last_told (sense.Position position ∷ others) stood = last_told others position
last_told (sense.Section place occupancy ∷ others) stood = last_told others stood

told_by : (input : Input) (stood : Position) → last_told (contacts_of input) stood ≡ position_told input stood
told_by inputs.Tick stood = refl
told_by (inputs.Datagram bytes) stood = refl
told_by (inputs.Sense (sense.Position position)) stood = refl
told_by (inputs.Sense (sense.Section place occupancy)) stood = refl

-- ---- what comes

coming_stands : (now : ℕ) (calls : List ObjectCall) (point : PointState) → AreComing now calls → (object_after_all point_behaviour calls point).sensed ≡ last_told (contacts_in calls) point.sensed
unfolding object_after_all contacts_in
coming_stands now [] point are = refl
coming_stands now (Takes at telegram ∷ calls) point are = coming_stands now calls (taking at telegram point) are.1
coming_stands now (Senses at (sense.Position position) ∷ calls) point are = coming_stands now calls (sensing at (sense.Position position) point) are.1
coming_stands now (Senses at (sense.Section place occupancy) ∷ calls) point are = coming_stands now calls point are.1
coming_stands now (Ticks at ∷ calls) point are = absurd are
coming_stands now (Keeps moment ∷ calls) point are = absurd are
coming_stands now (Pays ∷ calls) point are = absurd are
coming_stands now (Loses ∷ calls) point are = absurd are

pub comes_to_stand : (now : ℕ) (input : Input) (calls : List ObjectCall) (point : PointState) → AreComing now calls → contacts_in calls ≡ contacts_of input →
    (object_after_all point_behaviour calls point).sensed ≡ position_told input point.sensed
comes_to_stand now input calls point are senses =
    coming_stands now calls point are ∙ ap (λ ss. last_told ss point.sensed) senses ∙ told_by input point.sensed

-- a contact leaves a move waiting, and begins no drive
pub limit_waits : (now : ℕ) (progress : Progress) → unanswered (limited now progress) ≡ unanswered progress
limit_waits now Answered = refl
limit_waits now (Driving side since) = elim (nat_le (drive_end since) now) as (λ (b : Bool). unanswered (if b then TimedOut else Driving side since) ≡ 1) [ true ↦ refl | false ↦ refl ]
limit_waits now Arrived = refl
limit_waits now TimedOut = refl

reach_waits : (position : Position) (progress : Progress) → unanswered (reached position progress) ≡ unanswered progress
reach_waits position Answered = refl
reach_waits position (Driving side since) = elim (is_at side position) as (λ (b : Bool). unanswered (if b then Arrived else Driving side since) ≡ 1) [ true ↦ refl | false ↦ refl ]
reach_waits position Arrived = refl
reach_waits position TimedOut = refl

sense_waits : (now : ℕ) (sense : Sense) (point : PointState) → unanswered (sensing now sense point).progress ≡ unanswered point.progress
sense_waits now (sense.Position position) point = reach_waits position (limited now point.progress) ∙ limit_waits now point.progress
sense_waits now (sense.Section place occupancy) point = refl

moving : Progress → Bool
moving progress = is_some (move_in progress)

pub limit_moves : (now : ℕ) (progress : Progress) → is_some (move_in (limited now progress)) ≡ true → is_some (move_in progress) ≡ true
limit_moves now Answered is = is
limit_moves now (Driving side since) is = refl
limit_moves now Arrived is = is
limit_moves now TimedOut is = is

reach_moves : (position : Position) (progress : Progress) → is_some (move_in (reached position progress)) ≡ true → is_some (move_in progress) ≡ true
reach_moves position Answered is = is
reach_moves position (Driving side since) is = refl
reach_moves position Arrived is = is
reach_moves position TimedOut is = is

sense_moves : (now : ℕ) (sense : Sense) (point : PointState) → is_moving (sensing now sense point) ≡ true → is_moving point ≡ true
sense_moves now (sense.Position position) point is = limit_moves now point.progress (reach_moves position (limited now point.progress) is)
sense_moves now (sense.Section place occupancy) point is = is

sense_answered : (now : ℕ) (sense : Sense) (point : PointState) → point.progress ≡ Answered → (sensing now sense point).progress ≡ Answered
sense_answered now (sense.Position position) point is = ap (λ p. reached position (limited now p)) is
sense_answered now (sense.Section place occupancy) point is = is

-- a telegram
begun_waits : (b : Bool) (side : Side) (now : ℕ) → unanswered (if b then Arrived else Driving side now) ≡ 1
begun_waits true side now = refl
begun_waits false side now = refl

order_waits : (order : Option Side) (now : ℕ) (telegram : Telegram) (sensed : Position) (until : ℕ) → commanded_by telegram.message ≡ order →
    unanswered (taking now telegram (of Answered sensed until)).progress ≡ length (one_more order [])
order_waits None now telegram sensed until is = rw is refl
order_waits (Some side) now telegram sensed until is = rw is (begun_waits (is_at side sensed) side now)

-- sums, over numbers alone
no_more : (n m : ℕ) → n ≤ n + m
no_more n m = omega arith

at_most : (n m : ℕ) → n ≡ m → n ≤ 0 + m
at_most n m same = omega (arith, same)

waits_then : (old mid new one others both : ℕ) → mid ≤ old + one → new ≤ mid + others → both ≡ one + others → new ≤ old + both
waits_then old mid new one others both first more is = omega (arith, first, more, is)

waits_same : (old mid new others : ℕ) → mid ≡ old → new ≤ mid + others → new ≤ old + others
waits_same old mid new others same more = omega (arith, same, more)

fits_then : (old mid new others : ℕ) → mid ≡ old + 1 → new ≡ mid + others → new ≡ old + suc others
fits_then old mid new others first more = omega (arith, first, more)

fits_same : (old mid new others : ℕ) → mid ≡ old → new ≡ mid + others → new ≡ old + others
fits_same old mid new others same more = omega (arith, same, more)

one_then : (both one moves others : ℕ) → both ≡ one + moves → one ≡ 1 → moves ≡ others → both ≡ suc others
one_then both one moves others is first same = omega (arith, is, first, same)

take_waits : (progress : Progress) (now : ℕ) (telegram : Telegram) (sensed : Position) (until : ℕ) →
    unanswered (taking now telegram (of progress sensed until)).progress ≤ unanswered progress + length (one_more (commanded_by telegram.message) [])
take_waits Answered now telegram sensed until = at_most _ _ (order_waits (commanded_by telegram.message) now telegram sensed until refl)
take_waits (Driving side since) now telegram sensed until = no_more 1 (length (one_more (commanded_by telegram.message) []))
take_waits Arrived now telegram sensed until = no_more 1 (length (one_more (commanded_by telegram.message) []))
take_waits TimedOut now telegram sensed until = no_more 1 (length (one_more (commanded_by telegram.message) []))

none_longer : (n : ℕ) → n ≡ 0 + n
none_longer n = omega arith

some_longer : (n : ℕ) → suc n ≡ 1 + n
some_longer n = omega arith

pub one_longer : (order : Option Side) (others : List Side) → length (one_more order others) ≡ length (one_more order []) + length others
one_longer None others = none_longer (length others)
one_longer (Some side) others = some_longer (length others)

pub coming_waits : (now : ℕ) (calls : List ObjectCall) (point : PointState) → AreComing now calls →
    unanswered (object_after_all point_behaviour calls point).progress ≤ unanswered point.progress + length (moves_in (telegrams_in calls))
unfolding object_after_all telegrams_in moves_in
coming_waits now [] point are = no_more (unanswered point.progress) 0
coming_waits now (Takes at telegram ∷ calls) point are =
    waits_then (unanswered point.progress) (unanswered (taking at telegram point).progress) _ (length (one_more (commanded_by telegram.message) []))
    (length (moves_in (telegrams_in calls))) _ (take_waits point.progress at telegram point.sensed point.until)
    (coming_waits now calls (taking at telegram point) are.1) (one_longer (commanded_by telegram.message) (moves_in (telegrams_in calls)))
coming_waits now (Senses at sense ∷ calls) point are =
    waits_same (unanswered point.progress) (unanswered (sensing at sense point).progress) _ (length (moves_in (telegrams_in calls))) (sense_waits at sense point)
    (coming_waits now calls (sensing at sense point) are.1)
coming_waits now (Ticks at ∷ calls) point are = absurd are
coming_waits now (Keeps moment ∷ calls) point are = absurd are
coming_waits now (Pays ∷ calls) point are = absurd are
coming_waits now (Loses ∷ calls) point are = absurd are

-- a telegram that fits is a move, and none was waiting
record Fits (now : ℕ) (telegram : Telegram) (point : PointState) : Type 0 where
  waits : unanswered (taking now telegram point).progress ≡ unanswered point.progress + 1
  is_move : length (one_more (commanded_by telegram.message) []) ≡ 1

order_fits : (order : Option Side) (now : ℕ) (telegram : Telegram) (sensed : Position) (until : ℕ) → commanded_by telegram.message ≡ order →
    is_some order ≡ true → Fits now telegram (of Answered sensed until)
order_fits None now telegram sensed until is some = absurd (false≢true some)
order_fits (Some side) now telegram sensed until is some = record {
  waits = order_waits (Some side) now telegram sensed until is;
  is_move = ap (λ order. length (one_more order [])) is;
}

take_fits : (progress : Progress) (now : ℕ) (telegram : Telegram) (sensed : Position) (until : ℕ) →
    is_some (move_taken telegram (of progress sensed until)) ≡ true → Fits now telegram (of progress sensed until)
take_fits Answered now telegram sensed until some = order_fits (commanded_by telegram.message) now telegram sensed until refl some
take_fits (Driving side since) now telegram sensed until some = absurd (false≢true some)
take_fits Arrived now telegram sensed until some = absurd (false≢true some)
take_fits TimedOut now telegram sensed until some = absurd (false≢true some)

none_added : (n : ℕ) → n ≡ n + 0
none_added n = omega arith

pub coming_fits : (now : ℕ) (calls : List ObjectCall) (point : PointState) → AreComing now calls → AllFit point_behaviour calls point →
    (unanswered (object_after_all point_behaviour calls point).progress ≡ unanswered point.progress + length (telegrams_in calls))
    × (length (moves_in (telegrams_in calls)) ≡ length (telegrams_in calls))
unfolding object_after_all telegrams_in moves_in AllFit
coming_fits now [] point are fit = (none_added (unanswered point.progress), refl)
coming_fits now (Takes at telegram ∷ calls) point are fit =
    let first = take_fits point.progress at telegram point.sensed point.until fit.0
    in let rest = coming_fits now calls (taking at telegram point) are.1 fit.1
    in (
      fits_then (unanswered point.progress) (unanswered (taking at telegram point).progress) _ (length (telegrams_in calls)) first.waits rest.0,
      one_then _ (length (one_more (commanded_by telegram.message) [])) (length (moves_in (telegrams_in calls))) (length (telegrams_in calls))
          (one_longer (commanded_by telegram.message) (moves_in (telegrams_in calls))) first.is_move rest.1,
    )
coming_fits now (Senses at sense ∷ calls) point are fit =
    let same = sense_waits at sense point
    in let rest = coming_fits now calls (sensing at sense point) are.1 fit
    in (fits_same (unanswered point.progress) (unanswered (sensing at sense point).progress) _ (length (telegrams_in calls)) same rest.0, rest.1)
coming_fits now (Ticks at ∷ calls) point are fit = absurd are
coming_fits now (Keeps moment ∷ calls) point are fit = absurd are
coming_fits now (Pays ∷ calls) point are fit = absurd are
coming_fits now (Loses ∷ calls) point are fit = absurd are

-- what is no move changes nothing
no_order : (progress : Progress) (now : ℕ) (telegram : Telegram) (sensed : Position) (until : ℕ) → commanded_by telegram.message ≡ None →
    taking now telegram (of progress sensed until) ≡ of progress sensed until
no_order Answered now telegram sensed until is = rw is refl
no_order (Driving side since) now telegram sensed until is = refl
no_order Arrived now telegram sensed until is = refl
no_order TimedOut now telegram sensed until is = refl

none_more : (order : Option Side) (others : List Side) → one_more order others ≡ [] → (order ≡ None) × (others ≡ [])
none_more None others none = (refl, none)
none_more (Some side) others none = absurd (cc (none))

pub coming_drives : (now : ℕ) (calls : List ObjectCall) (point : PointState) → AreComing now calls → moves_in (telegrams_in calls) ≡ [] →
    is_moving (object_after_all point_behaviour calls point) ≡ true → is_moving point ≡ true
unfolding object_after_all telegrams_in moves_in
coming_drives now [] point are none is = is
coming_drives now (Takes at telegram ∷ calls) point are none is =
    let ends = none_more (commanded_by telegram.message) (moves_in (telegrams_in calls)) none
    in let same = no_order point.progress at telegram point.sensed point.until ends.0
    in ap is_moving (sym same) ∙ coming_drives now calls (taking at telegram point) are.1 ends.1 is
coming_drives now (Senses at sense ∷ calls) point are none is = sense_moves at sense point (coming_drives now calls (sensing at sense point) are.1 none is)
coming_drives now (Ticks at ∷ calls) point are none is = absurd are
coming_drives now (Keeps moment ∷ calls) point are none is = absurd are
coming_drives now (Pays ∷ calls) point are none is = absurd are
coming_drives now (Loses ∷ calls) point are none is = absurd are

pub coming_untold : (now : ℕ) (calls : List ObjectCall) (point : PointState) → AreComing now calls → telegrams_in calls ≡ [] → point.progress ≡ Answered →
    (object_after_all point_behaviour calls point).progress ≡ Answered
unfolding object_after_all telegrams_in
coming_untold now [] point are none is = is
coming_untold now (Takes at telegram ∷ calls) point are none is = absurd (cc (none))
coming_untold now (Senses at sense ∷ calls) point are none is = coming_untold now calls (sensing at sense point) are.1 none (sense_answered at sense point is)
coming_untold now (Ticks at ∷ calls) point are none is = absurd are
coming_untold now (Keeps moment ∷ calls) point are none is = absurd are
coming_untold now (Pays ∷ calls) point are none is = absurd are
coming_untold now (Loses ∷ calls) point are none is = absurd are

-- ---- what is paid

-- a payment
record IsPayment (point : PointState) (rest : List Report) (after : Progress) : Type 0 where
  finals : All (IsFinal point.sensed) rest → All (IsFinal point.sensed) (one_of (point_behaviour.owed point) ++ rest)
  still : is_moving point ≡ true → one_of (point_behaviour.owed point) ≡ []
  count : length rest + unanswered after ≡ unanswered (paying point).progress → length (one_of (point_behaviour.owed point) ++ rest) + unanswered after ≡ unanswered point.progress
  moves : is_moving (paying point) ≡ is_moving point

one_answered : (n u : ℕ) → n + u ≡ 0 → suc n + u ≡ 1
one_answered n u is = omega (arith, is)

-- nothing is paid
zero_paid : (u : ℕ) → 0 + u ≡ u
zero_paid u = omega arith

pays : (progress : Progress) (sensed : Position) (until : ℕ) (rest : List Report) (after : Progress) → IsPayment (of progress sensed until) rest after
pays Answered sensed until rest after = record { finals = λ all. all; still = λ _. refl; count = λ is. is; moves = refl }
pays (Driving side since) sensed until rest after = record { finals = λ all. all; still = λ _. refl; count = λ is. is; moves = refl }
pays Arrived sensed until rest after = record {
  finals = λ all. All-cons (IsFinal sensed) _ rest (inl refl) all;
  still = λ is. absurd (false≢true is);
  count = λ is. one_answered (length rest) (unanswered after) is;
  moves = refl;
}
pays TimedOut sensed until rest after = record {
  finals = λ all. All-cons (IsFinal sensed) _ rest (inr refl) all;
  still = λ is. absurd (false≢true is);
  count = λ is. one_answered (length rest) (unanswered after) is;
  moves = refl;
}

paying_answered : (point : PointState) → point.progress ≡ Answered → (paying point).progress ≡ Answered
paying_answered point is = rw is refl

-- all that is paid
pub record ArePaid (calls : List ObjectCall) (point : PointState) : Type 0 where
  pub stands : (object_after_all point_behaviour calls point).sensed ≡ point.sensed
  pub finals : All (IsFinal point.sensed) (reports_paid point_behaviour calls point)
  pub still : is_moving point ≡ true → reports_paid point_behaviour calls point ≡ []
  pub count : length (reports_paid point_behaviour calls point) + unanswered (object_after_all point_behaviour calls point).progress ≡ unanswered point.progress
  pub moves : is_moving (object_after_all point_behaviour calls point) ≡ is_moving point
  pub answered : point.progress ≡ Answered → (object_after_all point_behaviour calls point).progress ≡ Answered

pub are_paid : (calls : List ObjectCall) (point : PointState) → ArePayments calls → ArePaid calls point
unfolding object_after_all reports_paid
are_paid [] point are = record { stands = refl; finals = All-nil (IsFinal point.sensed); still = λ _. refl; count = zero_paid (unanswered point.progress); moves = refl; answered = λ is. is }
are_paid (Pays ∷ calls) point are =
    let more = are_paid calls (paying point) are
    in let one = pays point.progress point.sensed point.until (reports_paid point_behaviour calls (paying point)) (object_after_all point_behaviour calls (paying point)).progress
    in record {
      stands = more.stands;
      finals = one.finals more.finals;
      still = λ is. ap (λ rs. rs ++ reports_paid point_behaviour calls (paying point)) (one.still is) ∙ more.still (one.moves ∙ is);
      count = one.count more.count;
      moves = more.moves ∙ one.moves;
      answered = λ is. more.answered (paying_answered point is);
    }
are_paid (Takes at telegram ∷ calls) point are = absurd are
are_paid (Senses at sense ∷ calls) point are = absurd are
are_paid (Ticks at ∷ calls) point are = absurd are
are_paid (Keeps moment ∷ calls) point are = absurd are
are_paid (Loses ∷ calls) point are = absurd are

-- ---- how a step begins and ends

pub joined : (first others : List ObjectCall) (point : PointState) →
    object_after_all point_behaviour (first ++ others) point ≡ object_after_all point_behaviour others (object_after_all point_behaviour first point)
unfolding object_after_all
joined [] others point = refl
joined (Takes at telegram ∷ calls) others point = joined calls others (taking at telegram point)
joined (Ticks at ∷ calls) others point = joined calls others (point_behaviour.after_tick at point)
joined (Senses at sense ∷ calls) others point = joined calls others (sensing at sense point)
joined (Keeps moment ∷ calls) others point = joined calls others (point_behaviour.after_keep moment point)
joined (Pays ∷ calls) others point = joined calls others (paying point)
joined (Loses ∷ calls) others point = joined calls others (point_behaviour.after_loss point)

pub begins_kept : (now : ℕ) (point : PointState) → object_after_all point_behaviour (loss_where false ++ Ticks now ∷ []) point ≡ point_behaviour.after_tick now point
unfolding object_after_all
begins_kept now point = refl

pub begins_lost : (now : ℕ) (point : PointState) → object_after_all point_behaviour (loss_where true ++ Ticks now ∷ []) point ≡ point_behaviour.after_tick now (point_behaviour.after_loss point)
unfolding object_after_all
begins_lost now point = refl

pub ends_kept : (moment : ℕ) (point : PointState) → object_after_all point_behaviour (loss_where false ++ Keeps moment ∷ []) point ≡ point_behaviour.after_keep moment point
unfolding object_after_all
ends_kept moment point = refl

pub ends_lost : (moment : ℕ) (point : PointState) → object_after_all point_behaviour (loss_where true ++ Keeps moment ∷ []) point ≡ point_behaviour.after_keep moment (point_behaviour.after_loss point)
unfolding object_after_all
ends_lost moment point = refl
