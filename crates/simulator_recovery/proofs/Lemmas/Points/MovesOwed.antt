-- A point's controller has given a report for each move that it has taken, but for one that waits, and its drive is that of the last move:
-- after each of its steps.
use Rattle.simulator_recovery.proofs.Words.Basics.{◌≡◌, inl, inr, ℕ, zero, suc, ◌∙◌, ◌+◌, ◌≤◌, not, nat_le, nat_lt, Bool, true, false, if◌then◌else◌, List, [], ◌∷◌, ◌++◌, append-nil, append_assoc, length, map, Option, Some, None, is_some, slice_get, refl, sym, ap, subst, arith, ltb-true, ltb-false, w16, to_le_bytes, All, false≢true, and_right, length-append, same_Some, slice_get_within}
use Rattle.simulator_recovery.proofs.Words.Links.{alive_until, settled, kept, reading_of, Ends, LinkState, is_open}
use Rattle.simulator_recovery.proofs.Words.Controllers.{IsFinal, IsPointStep, found_by, moved_by, stage_by, called_all, entering, reading, writing, InitialisationCompleted, Message, type_number, Protocol, PointPosition, Timeout, Position, Side, Telegram, HostSoFar, HostState, is_completed, is_outside, said, sender_of, telegram_of, ActsOn, command_of, commands_of, items_given, items_taken, Keeps, Loses, ObjectCall, Pays, Senses, Takes, Ticks, object_after_all, telegrams_in, beginning, host_step, initial_status, AllFit, AreComing, ArePayments, calls_begun, item_of, loss_where, Input, Report, Sense, Stage, point_behaviour, PointState, begun, commanded_by, drive_end, is_answered, is_at, limited, move_taken, reached, sensing, taking, ticking, unanswered, Progress}
use Rattle.simulator_recovery.proofs.Words.Stations.{step_of, ClockedControllerState}
use Rattle.simulator_recovery.proofs.Words.Recovery.{last_side, or_before, Any, SaidAll, SaidBy, SomeAsks, item_for, LawsBelow, LawsOfHost}
use Rattle.simulator_spec.specs.point_ctl.Drive as drive
use Rattle.simulator_spec.specs.point_ctl.Drive.{paying}
use Rattle.simulator_recovery.proofs.Lemmas.Talk.ControllerTells.{Tells}
use Rattle.simulator_recovery.proofs.Lemmas.Ground.ControllersOnLinks.{Lists, lists_of}
use Rattle.simulator_recovery.proofs.Lemmas.Points.DrivenPoints.{answered_drive}
use Rattle.simulator_recovery.proofs.Lemmas.Ground.HostKeeps.{ObjectKeeps}
use Rattle.simulator_recovery.proofs.Lemmas.Ground.LinkCounts.{settled_open}
use Rattle.simulator_recovery.proofs.Lemmas.Talk.PointAnswers.{Counted, enters_none, given_is, stays_outside, taken_is}
use Rattle.simulator_recovery.proofs.Lemmas.Talk.PointCounts.{begins_so, one_at_most}

-- ---- what telegrams command

pub commands_both : (one other : List (List ℕ)) → commands_of (one ++ other) ≡ commands_of one ++ commands_of other
unfolding commands_of
commands_both [] other = refl
commands_both (first ∷ one) other = ap (λ (rest : List Telegram). command_of (reading first) ++ rest) (commands_both one other) ∙ sym (append_assoc (command_of (reading first)) (commands_of one) (commands_of other))

pub last_both : (before : Option Side) (one other : List Telegram) → last_side before (one ++ other) ≡ last_side (last_side before one) other
last_both before [] other = refl
last_both before (first ∷ one) other = last_both (or_before (commanded_by first.message) before) one other

-- ---- the side of a drive

-- a drive is that to this side
abbrev pub Aims : Option Side → Progress → Type 0
Aims last how = (side : Side) (since : ℕ) → how ≡ Progress.Driving side since → last ≡ Some side

pub limited_drive : (now : ℕ) (how : Progress) (side : Side) (since : ℕ) → limited now how ≡ Progress.Driving side since → how ≡ Progress.Driving side since
limited_drive now Progress.Answered side since e = e
limited_drive now (Progress.Driving to from) side since e = choose (nat_le (drive_end from) now) e
  where
    choose : (b : Bool) → (if b then Progress.TimedOut else Progress.Driving to from) ≡ Progress.Driving side since → Progress.Driving to from ≡ Progress.Driving side since
    choose true f = absurd (cc f)
    choose false f = f
limited_drive now Progress.Arrived side since e = e
limited_drive now Progress.TimedOut side since e = e

pub reached_drive : (position : Position) (how : Progress) (side : Side) (since : ℕ) → reached position how ≡ Progress.Driving side since → how ≡ Progress.Driving side since
reached_drive position Progress.Answered side since e = e
reached_drive position (Progress.Driving to from) side since e = choose (is_at to position) e
  where
    choose : (b : Bool) → (if b then Progress.Arrived else Progress.Driving to from) ≡ Progress.Driving side since → Progress.Driving to from ≡ Progress.Driving side since
    choose true f = absurd (cc f)
    choose false f = f
reached_drive position Progress.Arrived side since e = e
reached_drive position Progress.TimedOut side since e = e

-- a move that fits
take_aims : (now : ℕ) (telegram : Telegram) (point : PointState) (last : Option Side) → is_some (move_taken telegram point) ≡ true → Aims (or_before (commanded_by telegram.message) last) (taking now telegram point).progress
take_aims now telegram point last fits side since e = choose (is_answered point.progress) (commanded_by telegram.message) fits e
  where
    to : (s : Side) (b : Bool) → (if b then Progress.Arrived else Progress.Driving s now) ≡ Progress.Driving side since → Some s ≡ Some side
    to s true f = absurd (cc f)
    to s false f = ap drive.move_in f

    choose : (b : Bool) (c : Option Side) → is_some (if b then c else None) ≡ true → begun now point (if b then c else None) ≡ Progress.Driving side since → or_before c last ≡ Some side
    choose false c f g = absurd (false≢true f)
    choose true None f g = absurd (false≢true f)
    choose true (Some s) f g = to s (is_at s point.sensed) g

sense_aims : (now : ℕ) (contact : Sense) (point : PointState) (last : Option Side) → Aims last point.progress → Aims last (sensing now contact point).progress
sense_aims now (Sense.Position position) point last aims side since e = aims side since (limited_drive now point.progress side since (reached_drive position (limited now point.progress) side since e))
sense_aims now (Sense.Section place occupancy) point last aims side since e = aims side since e

-- what comes in a step
comes_aim : (now : ℕ) (comes : List ObjectCall) (point : PointState) (last : Option Side) → AreComing now comes → AllFit point_behaviour comes point → Aims last point.progress
    → Aims (last_side last (telegrams_in comes)) (object_after_all point_behaviour comes point).progress
unfolding AllFit telegrams_in object_after_all
comes_aim now [] point last coming fits aims = aims
comes_aim now (Takes at telegram ∷ others) point last coming fits aims = comes_aim now others (taking at telegram point) (or_before (commanded_by telegram.message) last) coming.1 fits.1 (take_aims at telegram point last fits.0)
comes_aim now (Senses at contact ∷ others) point last coming fits aims = comes_aim now others (sensing at contact point) last coming.1 fits (sense_aims at contact point last aims)
comes_aim now (Ticks at ∷ others) point last coming fits aims = absurd coming
comes_aim now (Keeps moment ∷ others) point last coming fits aims = absurd coming
comes_aim now (Pays ∷ others) point last coming fits aims = absurd coming
comes_aim now (Loses ∷ others) point last coming fits aims = absurd coming

-- and what is paid
pays_aim : (pays : List ObjectCall) (point : PointState) (last : Option Side) → ArePayments pays → Aims last point.progress → Aims last (object_after_all point_behaviour pays point).progress
unfolding object_after_all
pays_aim [] point last are aims = aims
pays_aim (Pays ∷ others) point last are aims = pays_aim others (paying point) last are (λ side since e. aims side since (answered_drive point.progress side since e))
pays_aim (Takes at telegram ∷ others) point last are aims = absurd are
pays_aim (Ticks at ∷ others) point last are aims = absurd are
pays_aim (Senses at contact ∷ others) point last are aims = absurd are
pays_aim (Keeps moment ∷ others) point last are aims = absurd are
pays_aim (Loses ∷ others) point last are aims = absurd are

pub after_both : (one other : List ObjectCall) (point : PointState) → object_after_all point_behaviour (one ++ other) point ≡ object_after_all point_behaviour other (object_after_all point_behaviour one point)
unfolding object_after_all
after_both [] other point = refl
after_both (first ∷ one) other point = after_both one other _

-- the object after a step: after what came and what was paid, and after a loss
pub object_after : (now : ℕ) (input : Input) (host : HostState PointState) (step : IsPointStep now input host (host_step point_behaviour now input host))
    → (host_step point_behaviour now input host).host.object.progress
    ≡ (object_after_all point_behaviour (loss_where step.tells.is_lost) (object_after_all point_behaviour step.tells.pays (object_after_all point_behaviour step.tells.comes (found_by now host)))).progress
unfolding object_after_all
object_after now input host step =
    ap (λ (p : PointState). p.progress) (step.tells.object_is
    ∙ after_both (calls_begun now host) ((step.tells.comes ++ step.tells.pays) ++ (loss_where step.tells.is_lost ++ Keeps kept_until ∷ [])) host.object
    ∙ ap (object_after_all point_behaviour ((step.tells.comes ++ step.tells.pays) ++ (loss_where step.tells.is_lost ++ Keeps kept_until ∷ []))) (sym step.tells.begun_is)
    ∙ after_both (step.tells.comes ++ step.tells.pays) (loss_where step.tells.is_lost ++ Keeps kept_until ∷ []) (found_by now host)
    ∙ ap (object_after_all point_behaviour (loss_where step.tells.is_lost ++ Keeps kept_until ∷ [])) (after_both step.tells.comes step.tells.pays (found_by now host))
    ∙ after_both (loss_where step.tells.is_lost) (Keeps kept_until ∷ []) (object_after_all point_behaviour step.tells.pays (object_after_all point_behaviour step.tells.comes (found_by now host))))
  where
    kept_until : ℕ
    kept_until = alive_until (host_step point_behaviour now input host).host.link

-- where the link stays open nothing is lost
pub object_behind : (now : ℕ) (input : Input) (host : HostState PointState) (step : IsPointStep now input host (host_step point_behaviour now input host)) → is_open (host_step point_behaviour now input host).host.link.phase ≡ true
    → (host_step point_behaviour now input host).host.object.progress ≡ (object_after_all point_behaviour step.tells.pays (object_after_all point_behaviour step.tells.comes (found_by now host))).progress
unfolding object_after_all
object_behind now input host step opened = object_after now input host step
    ∙ ap (λ (b : Bool). (object_after_all point_behaviour (loss_where b) (object_after_all point_behaviour step.tells.pays (object_after_all point_behaviour step.tells.comes (found_by now host)))).progress) (step.tells.stays opened)

none_waits : (how : Progress) → unanswered how ≡ 0 → (last : Option Side) → Aims last how
none_waits Progress.Answered e last side since f = absurd (cc f)
none_waits (Progress.Driving to from) e last side since f = absurd (omega (arith, e))
none_waits Progress.Arrived e last side since f = absurd (cc f)
none_waits Progress.TimedOut e last side since f = absurd (cc f)

-- ---- a final report is no end of the initialisation

second : List ℕ → Option ℕ
second bytes = slice_get bytes 1

-- the second byte of a telegram is the low one of its type number
low_byte : (telegram : Telegram) → second (writing telegram) ≡ slice_get (to_le_bytes w16 (type_number telegram.message)) 0
unfolding writing second
low_byte telegram = refl

of_completed : (protocol : Protocol) → slice_get (to_le_bytes w16 (type_number (Message.Initialisation protocol InitialisationCompleted))) 0 ≡ Some 35
of_completed protocol = refl

of_position : (stands : Position) → slice_get (to_le_bytes w16 (type_number (Message.Point (PointPosition stands)))) 0 ≡ Some 11
of_position stands = refl

of_timeout : slice_get (to_le_bytes w16 (type_number (Message.Point Timeout))) 0 ≡ Some 12
of_timeout = refl

final_apart : (stands : Position) (report : Report) (host : HostState PointState) (own_name peer_name : List ℕ) → IsFinal stands report → item_of host report ≡ item_for own_name peer_name (said point_behaviour InitialisationCompleted) → ⊥
final_apart stands report host own_name peer_name final same = by_final final
  where
    number : (n : ℕ) → slice_get (to_le_bytes w16 (type_number report.message)) 0 ≡ Some n → n ≡ 35
    number n e = same_Some n 35 (sym e ∙ sym (low_byte (telegram_of report host)) ∙ ap second same ∙ low_byte (record { sender = sender_of None own_name; receiver = peer_name; message = Message.Initialisation point_behaviour.protocol InitialisationCompleted })
        ∙ of_completed point_behaviour.protocol)

    by_final : IsFinal stands report → ⊥
    by_final (inl e) = let n = number 11 (ap (λ (r : Report). slice_get (to_le_bytes w16 (type_number r.message)) 0) e ∙ of_position stands) in omega (arith, n)
    by_final (inr e) = let n = number 12 (ap (λ (r : Report). slice_get (to_le_bytes w16 (type_number r.message)) 0) e ∙ of_timeout) in omega (arith, n)

-- the fourth item of a conversation is the end of the initialisation
fourth : (own_name peer_name : List ℕ) (version : ℕ) (items : List (List ℕ)) → SaidAll point_behaviour Any (item_for own_name peer_name) version items → slice_get items 3 ≡ Some (item_for own_name peer_name (said point_behaviour InitialisationCompleted))
unfolding initial_status
fourth own_name peer_name version items all = ap (λ (list : List (List ℕ)). slice_get list 3) all.are

last_of : {X : Type 0} (front : List X) (x : X) (n : ℕ) → n ≡ length front → slice_get (front ++ x ∷ []) n ≡ Some x
last_of [] x n e = subst (λ (k : ℕ). slice_get (x ∷ []) k ≡ Some x) (sym e) refl
last_of (first ∷ front) x zero e = absurd (omega (arith, e))
last_of (first ∷ front) x (suc n) e = last_of front x n (omega (arith, e))

map_append : (f : Report → List ℕ) (one other : List Report) → map f (one ++ other) ≡ map f one ++ map f other
map_append f [] other = refl
map_append f (first ∷ one) other = ap (λ (rest : List (List ℕ)). f first ∷ rest) (map_append f one other)

map_count : (f : Report → List ℕ) (list : List Report) → length (map f list) ≡ length list
map_count f [] = refl
map_count f (first ∷ list) = ap suc (map_count f list)

-- Where the fourth item is that end, at least four stand in front of the final reports, of which there is one at most.
begun_whole : (front : List (List ℕ)) (stands : Position) (reports : List Report) (host : HostState PointState) (own_name peer_name : List ℕ) → All (IsFinal stands) reports → length reports ≤ 1
    → slice_get (front ++ map (item_of host) reports) 3 ≡ Some (item_for own_name peer_name (said point_behaviour InitialisationCompleted)) → 4 ≤ length front
begun_whole front stands [] host own_name peer_name finals few at =
    let within = slice_get_within (front ++ []) 3 _ at in let same = ap length (append-nil front) in omega (arith, within, same)
begun_whole front stands (one ∷ []) host own_name peer_name finals few at = choose (nat_lt (length front) 4) refl
  where
    choose : (b : Bool) → nat_lt (length front) 4 ≡ b → 4 ≤ length front
    choose false e = ltb-false _ _ e
    choose true e =
        let short = ltb-true _ _ e
        in let within = slice_get_within (front ++ item_of host one ∷ []) 3 _ at
        in let all = length-append front (item_of host one ∷ [])
        in absurd (final_apart stands one host own_name peer_name (finals 0 one (omega arith)) (same_Some _ _ (sym (last_of front (item_of host one) 3 (omega (arith, short, within, all))) ∙ at)))
begun_whole front stands (one ∷ (other ∷ reports)) host own_name peer_name finals few at = absurd (omega (arith, few))

-- ---- a point's host, and what its end has given and taken

pub record Owed (host : HostState PointState) (lists : Lists) : Type 0 where
  pub idle : is_completed host.stage ≡ false → host.object.progress ≡ Progress.Answered
  pub early : is_open host.link.phase ≡ true → is_completed host.stage ≡ false → commands_of lists.taken ≡ []
  pub owes : is_open host.link.phase ≡ true → is_completed host.stage ≡ true → 4 + length (commands_of lists.taken) ≤ length lists.given + unanswered host.object.progress
  pub aims : is_open host.link.phase ≡ true → Aims (last_side None (commands_of lists.taken)) host.object.progress

module _ (laws : LawsBelow) (tell : LawsOfHost point_behaviour) (version : ℕ) (own_name peer_name : List ℕ) (keep : ObjectKeeps point_behaviour Any version) (input : Input) (connection : ℕ) (c : ClockedControllerState PointState) (ends : Ends)
    (link_is : ends.server.link ≡ settled (reading_of c.clock) c.host.link) (clock_is : ends.server.clock ≡ c.clock) (counted : Counted c.host (lists_of ends.server)) (owed : Owed c.host (lists_of ends.server)) where
  abbrev now : ℕ
  now = reading_of c.clock

  abbrev link : LinkState
  link = settled now c.host.link

  abbrev done : HostSoFar PointState
  done = step_of point_behaviour input c

  abbrev given_now : List (List ℕ)
  given_now = items_given now done.calls link

  abbrev taken_now : List (List ℕ)
  taken_now = items_taken now done.calls link

  abbrev after : Lists
  after = lists_of (called_all connection done.calls ends).server

  abbrev pub step : IsPointStep now input c.host done
  step = laws.point_makes_a_step now input c.host

  acted_on : ActsOn taken_now done
  acted_on = laws.point_step_tells_what_was_taken now input c.host

  -- what is taken is told, where the link stays open
  told_is : is_open done.host.link.phase ≡ true → commands_of taken_now ≡ done.told
  told_is opened = ap commands_of (acted_on.beginning ∙ ap (λ (dropped : List (List ℕ)). done.acted ++ dropped) (acted_on.whole opened) ∙ append-nil done.acted) ∙ sym acted_on.told

  -- the object after what was paid
  object_is : is_open done.host.link.phase ≡ true → done.host.object.progress ≡ (object_after_all point_behaviour step.tells.pays (object_after_all point_behaviour step.tells.comes (found_by now c.host))).progress
  object_is opened = object_behind now input c.host step opened

  abbrev found : PointState
  found = found_by now c.host

  -- How the step finds the point, with what was given and taken before in the connection that it is in then.
  pub record Finds (given taken : List (List ℕ)) : Type 0 where
    pub given_so : after.given ≡ given ++ given_now
    pub taken_so : after.taken ≡ taken ++ taken_now
    aims : Aims (last_side None (commands_of taken)) found.progress
    owes : is_completed (beginning point_behaviour now c.host).stage ≡ true → 4 + length (commands_of taken) ≤ length given + unanswered found.progress
    early : is_completed (beginning point_behaviour now c.host).stage ≡ false → (commands_of taken ≡ []) × (unanswered found.progress ≡ 0)

  taken_commands : (given taken : List (List ℕ)) → Finds given taken → is_open done.host.link.phase ≡ true → commands_of after.taken ≡ commands_of taken ++ done.told
  taken_commands given taken f opened = ap commands_of f.taken_so ∙ commands_both taken taken_now ∙ ap (λ (rest : List Telegram). commands_of taken ++ rest) (told_is opened)

  -- how many items were given in front of the final reports
  pub given_count : (given taken : List (List ℕ)) → Finds given taken → length after.given ≡ (length given + length step.tells.own) + length step.tells.reports
  given_count given taken f =
      let all = ap length (f.given_so ∙ ap (λ (list : List (List ℕ)). given ++ list) step.tells.gives)
      in let parts = length-append given (map (item_of done.host) (step.tells.own ++ step.tells.reports))
      in let mapped = map_count (item_of done.host) (step.tells.own ++ step.tells.reports)
      in let both = length-append step.tells.own step.tells.reports
      in omega (arith, all, parts, mapped, both)

  module _ (tells : Tells point_behaviour Any version own_name peer_name keep done.host after) (given taken : List (List ℕ)) (f : Finds given taken) (opened : is_open done.host.link.phase ≡ true) (completed : is_completed done.host.stage ≡ true) where
    stage_so : is_completed (stage_by now input c.host) ≡ true
    stage_so = ap is_completed (sym (step.tells.stage_is opened)) ∙ completed

    said_all : SaidAll point_behaviour Any (item_for own_name peer_name) version after.given
    said_all = by_stage done.host.stage completed (tells.said opened)
      where
        by_stage : (s : Stage) → is_completed s ≡ true → SaidBy point_behaviour Any (SomeAsks version after.taken) (item_for own_name peer_name) version s after.given → SaidAll point_behaviour Any (item_for own_name peer_name) version after.given
        by_stage Stage.Completed e said_so = said_so
        by_stage Stage.Outside e said_so = absurd (false≢true e)
        by_stage Stage.AwaitsCheck e said_so = absurd (false≢true e)
        by_stage Stage.AwaitsRequest e said_so = absurd (false≢true e)
        by_stage Stage.Refused e said_so = absurd (false≢true e)

    abbrev front : List (List ℕ)
    front = given ++ map (item_of done.host) step.tells.own

    split : after.given ≡ front ++ map (item_of done.host) step.tells.reports
    split = f.given_so ∙ ap (λ (list : List (List ℕ)). given ++ list) (step.tells.gives ∙ map_append (item_of done.host) step.tells.own step.tells.reports)
        ∙ sym (append_assoc given (map (item_of done.host) step.tells.own) (map (item_of done.host) step.tells.reports))

    few_reports : length step.tells.reports ≤ 1
    few_reports = let few = step.few in let one = one_at_most (moved_by step.tells).progress in omega (arith, few, one)

    pub whole : 4 ≤ length given + length step.tells.own
    whole =
        let all = begun_whole front (moved_by step.tells).sensed step.tells.reports done.host own_name peer_name step.finals few_reports (ap (λ (list : List (List ℕ)). slice_get list 3) (sym split) ∙ fourth own_name peer_name version after.given said_all)
        in let parts = length-append given (map (item_of done.host) step.tells.own)
        in let mapped = map_count (item_of done.host) step.tells.own
        in omega (arith, all, parts, mapped)

    owes_then : 4 + length (commands_of after.taken) ≤ length after.given + unanswered done.host.object.progress
    owes_then = choose (is_completed (beginning point_behaviour now c.host).stage) refl
      where
        told_count : length (commands_of after.taken) ≡ length (commands_of taken) + length done.told
        told_count = ap length (taken_commands given taken f opened) ∙ length-append (commands_of taken) done.told

        choose : (b : Bool) → is_completed (beginning point_behaviour now c.host).stage ≡ b → 4 + length (commands_of after.taken) ≤ length after.given + unanswered done.host.object.progress
        choose true e =
            let before = f.owes e in let t = told_count in let g = given_count given taken f in let a = step.answers opened stage_so in let m = (step.commanded opened).0 in omega (arith, before, t, g, a, m)
        choose false e =
            let none = ap length (f.early e).0 in let idle = (f.early e).1 in let w = whole in let t = told_count in let g = given_count given taken f in let a = step.answers opened stage_so in let m = (step.commanded opened).0 in omega (arith, none, idle, w, t, g, a, m)

  -- what the step leaves
  leaves : Tells point_behaviour Any version own_name peer_name keep done.host after → (given taken : List (List ℕ)) → Finds given taken → Owed done.host after
  leaves tells given taken f = record {
    idle = step.answered owed.idle;
    early = λ opened early. ap commands_of f.taken_so ∙ commands_both taken taken_now ∙ none_told opened early;
    owes = λ opened completed. owes_then tells given taken f opened completed;
    aims = λ opened side since e. ap (last_side None) (taken_commands given taken f opened) ∙ last_both None (commands_of taken) done.told ∙ aims_then opened side since e;
  }
    where
      none_told : is_open done.host.link.phase ≡ true → is_completed done.host.stage ≡ false → commands_of taken ++ commands_of taken_now ≡ []
      none_told opened early = both (before (is_completed (beginning point_behaviour now c.host).stage) refl) (told_is opened ∙ step.tells.untold stage_so)
        where
          stage_so : is_completed (stage_by now input c.host) ≡ false
          stage_so = ap is_completed (sym (step.tells.stage_is opened)) ∙ early

          before : (b : Bool) → is_completed (beginning point_behaviour now c.host).stage ≡ b → commands_of taken ≡ []
          before true g = absurd (false≢true (sym stage_so ∙ step.tells.completed g))
          before false g = (f.early g).0

          both : {one other : List Telegram} → one ≡ [] → other ≡ [] → one ++ other ≡ []
          both g h = cc (g, h)

      aims_then : is_open done.host.link.phase ≡ true → Aims (last_side (last_side None (commands_of taken)) done.told) done.host.object.progress
      aims_then opened side since e =
          ap (last_side (last_side None (commands_of taken))) (sym step.tells.takes)
          ∙ pays_aim step.tells.pays (object_after_all point_behaviour step.tells.comes found) (last_side (last_side None (commands_of taken)) (telegrams_in step.tells.comes)) step.tells.are_payments
          (comes_aim now step.tells.comes found (last_side None (commands_of taken)) step.tells.are_coming (step.tells.fit opened) f.aims)
          side since (sym (object_is opened) ∙ e)

  -- in the connection that it was in
  pub finds_inside : is_open ends.server.link.phase ≡ true → Finds ends.server.given ends.server.taken
  finds_inside g = record {
    given_so = given_is tell input connection c ends link_is clock_is counted ∙ ap (λ (o : Option ℕ). kept o ends.server.given ++ given_now) (enters_none tell input connection c ends link_is clock_is counted g);
    taken_so = taken_is tell input connection c ends link_is clock_is counted ∙ ap (λ (o : Option ℕ). kept o ends.server.taken ++ taken_now) (enters_none tell input connection c ends link_is clock_is counted g);
    aims = λ side since e. owed.aims was_open side since (limited_drive now c.host.object.progress side since (sym (ap (λ (p : PointState). p.progress) found_is) ∙ e));
    owes = λ completed. let waits = same_waits now c.host.object.progress in let same = ap (λ (p : PointState). unanswered p.progress) found_is in let before = owed.owes was_open (ap is_completed (sym stage_is) ∙ completed) in omega (arith, waits, same, before);
    early = λ early.
        let was = ap is_completed (sym stage_is) ∙ early
        in (owed.early was_open was, let waits = same_waits now c.host.object.progress in let same = ap (λ (p : PointState). unanswered p.progress) found_is in let none = ap unanswered (owed.idle was) in omega (arith, waits, same, none));
  }
    where
      opened : is_open link.phase ≡ true
      opened = ap (λ (l : LinkState). is_open l.phase) (sym link_is) ∙ g

      was_open : is_open c.host.link.phase ≡ true
      was_open = (settled_open now c.host.link opened).1

      stage_is : (beginning point_behaviour now c.host).stage ≡ c.host.stage
      stage_is = ((begins_so now c.host).inside opened).0

      found_is : found ≡ ticking now c.host.object
      found_is = step.stays (and_right (not (is_outside c.host.stage)) (not (is_open link.phase)) (ap not opened))

      same_waits : (at : ℕ) (how : Progress) → unanswered (limited at how) ≡ unanswered how
      same_waits at Progress.Answered = refl
      same_waits at (Progress.Driving side since) = choose (nat_le (drive_end since) at)
        where
          choose : (b : Bool) → unanswered (if b then Progress.TimedOut else Progress.Driving side since) ≡ 1
          choose true = refl
          choose false = refl
      same_waits at Progress.Arrived = refl
      same_waits at Progress.TimedOut = refl

  -- in one that it enters
  pub finds_new : is_open ends.server.link.phase ≡ false → (entered : ℕ) → entering input connection ends ≡ Some entered → Finds [] []
  unfolding commands_of
  finds_new g entered h = record {
    given_so = given_is tell input connection c ends link_is clock_is counted ∙ ap (λ (o : Option ℕ). kept o ends.server.given ++ given_now) h;
    taken_so = taken_is tell input connection c ends link_is clock_is counted ∙ ap (λ (o : Option ℕ). kept o ends.server.taken ++ taken_now) h;
    aims = none_waits found.progress outside.1 None;
    owes = λ completed. absurd (false≢true (sym (ap is_completed outside.0) ∙ completed));
    early = λ early. (refl, outside.1);
  }
    where
      outside : ((beginning point_behaviour now c.host).stage ≡ Stage.Outside) × (unanswered found.progress ≡ 0)
      outside = (begins_so now c.host).outside (ap (λ (l : LinkState). is_open l.phase) (sym link_is) ∙ g) (λ early. ap unanswered (owed.idle early))

  -- outside, and in none after the step
  stays_out : is_open ends.server.link.phase ≡ false → entering input connection ends ≡ None → Owed done.host after
  stays_out g h = record {
    idle = step.answered owed.idle;
    early = λ opened. absurd (false≢true (sym shut ∙ opened));
    owes = λ opened. absurd (false≢true (sym shut ∙ opened));
    aims = λ opened. absurd (false≢true (sym shut ∙ opened));
  }
    where
      shut : is_open done.host.link.phase ≡ false
      shut = stays_outside tell input connection c ends link_is clock_is counted g h

  pub controller_owes : Tells point_behaviour Any version own_name peer_name keep (step_of point_behaviour input c).host (lists_of (called_all connection (step_of point_behaviour input c).calls ends).server)
      → Owed (step_of point_behaviour input c).host (lists_of (called_all connection (step_of point_behaviour input c).calls ends).server)
  controller_owes tells = by_cases (is_open ends.server.link.phase) refl (entering input connection ends) refl
    where
      by_cases : (b : Bool) → is_open ends.server.link.phase ≡ b → (entered : Option ℕ) → entering input connection ends ≡ entered → Owed done.host after
      by_cases true g entered h = leaves tells ends.server.given ends.server.taken (finds_inside g)
      by_cases false g (Some other) h = leaves tells [] [] (finds_new g other h)
      by_cases false g None h = stays_out g h
