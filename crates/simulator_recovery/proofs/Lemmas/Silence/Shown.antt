-- A lamp is at stop and a point undriven in a connection in which no item was taken, and in none.
use Rattle.simulator_recovery.proofs.Words.Basics.{◌≡◌, ℕ, Bool, true, false, List, [], length, Option, Some, None, refl, sym, ap, ◌∙◌, arith, if◌then◌else◌, is_some}
use Rattle.simulator_recovery.proofs.Words.Links.{alive_until, EndState, reading_of, Timely, Names, Ordered, Ends, IsCounted, counts, made_anew, LinkState, is_open, Role}
use Rattle.simulator_recovery.proofs.Words.Controllers.{Aspect, Stop, Side, Telegram, commands_of, aspect_shown, standing, SignalState, PointState, drives, move_in, unanswered, Progress, Answered, Driving, Arrived, TimedOut, IsReported, is_moving, IsTold, aspect_due, aspect_taken, last_indicated, World}
use Rattle.simulator_recovery.proofs.Words.Stations.{ClockedControllerState, IsEndOfServer}
use Rattle.simulator_recovery.proofs.Words.Recovery.{IsSpent, LawsBelow}
use Rattle.simulator_recovery.proofs.Lemmas.Ground.EndCalls.{none_long}
use Rattle.simulator_recovery.proofs.Lemmas.Silence.Spent.{settled_taken}

-- the laws of a link that this stands on
taken_by_count : (end : EndState) → IsCounted end → is_open end.link.phase ≡ true → end.link.taken ≡ 0 → end.taken ≡ []
taken_by_count end (counts given taken) opened none = none_long end.taken (sym taken ∙ none)
taken_by_count end (made_anew shut given taken) opened none = absurd (cc (shut, opened))

-- a controller whose connection is over, or that took no item in it, has taken none in a connection that it is in
pub none_taken : LawsBelow → {Object : Type 0} (names : Names) (ends : Ends) (controller : ClockedControllerState Object) → Timely names ends → Ordered names ends → IsEndOfServer controller ends.server → IsSpent controller
    → is_open ends.server.link.phase ≡ true → ends.server.taken ≡ []
none_taken laws names ends controller timely ordered end spent opened =
    let connection = laws.one_connection_some names ends Role.Server timely opened
    in let counted = laws.items_are_counted names ends ordered connection.0 (sym (laws.one_connection_server names ends timely opened) ∙ connection.1) connection.1
    in taken_by_count ends.server counted.1 opened
    (ap (λ (l : LinkState). l.taken) end.link_is ∙ (settled_taken (reading_of controller.clock) controller.host.link ∙ spent (ap (λ (l : LinkState). is_open l.phase) (sym end.link_is) ∙ opened)))

-- ---- a signal

pub shows_stop : ((world : World SignalState) → IsTold world → aspect_shown world.object.lamp (reading_of world.ends.server.clock) ≡ aspect_due world)
    → (world : World SignalState) → IsTold world → world.told ≡ commands_of world.ends.server.taken → (is_open world.ends.server.link.phase ≡ true → world.ends.server.taken ≡ [])
    → aspect_shown world.object.lamp (reading_of world.ends.server.clock) ≡ Stop
unfolding last_indicated commands_of
shows_stop shown world told told_is none =
    shown world told ∙ ap (λ (a : Aspect). standing a (alive_until world.ends.server.link) (reading_of world.ends.server.clock)) (taken_is (is_open world.ends.server.link.phase) refl)
  where
    taken_is : (o : Bool) → is_open world.ends.server.link.phase ≡ o → aspect_taken world ≡ Stop
    taken_is false e = ap (λ (b : Bool). if b then last_indicated world.told Stop else Stop) e
    taken_is true e =
        ap (λ (b : Bool). if b then last_indicated world.told Stop else Stop) e
        ∙ (ap (λ (t : List Telegram). last_indicated t Stop) told_is ∙ ap (λ (t : List (List ℕ)). last_indicated (commands_of t) Stop) (none e))

-- ---- a point

moves_once : (progress : Progress) → is_some (move_in progress) ≡ true → unanswered progress ≡ 1
moves_once Answered moving = absurd (cc moving)
moves_once (Driving side since) moving = refl
moves_once Arrived moving = absurd (cc moving)
moves_once TimedOut moving = absurd (cc moving)

pub is_undriven : ((world : World PointState) → IsReported world → (side : Side) → drives (reading_of world.ends.server.clock) world.object ≡ Some side → (is_open world.ends.server.link.phase ≡ true) × (is_moving world.object ≡ true))
    → (world : World PointState) → IsReported world → world.told ≡ commands_of world.ends.server.taken → (is_open world.ends.server.link.phase ≡ true → world.ends.server.taken ≡ [])
    → drives (reading_of world.ends.server.clock) world.object ≡ None
unfolding commands_of
is_undriven driven world reported told_is none = cases (drives (reading_of world.ends.server.clock) world.object) refl
  where
    cases : (found : Option Side) → drives (reading_of world.ends.server.clock) world.object ≡ found → drives (reading_of world.ends.server.clock) world.object ≡ None
    cases None e = e
    cases (Some side) e =
        let moving = driven world reported side e
        in let each = (reported.inside moving.0).each
        in let once = moves_once world.object.progress moving.1
        in let untold : length world.told ≡ 0 = ap length (told_is ∙ ap commands_of (none moving.0))
        in absurd (omega (arith, each, once, untold))

pub counted_given : (end : EndState) → IsCounted end → is_open end.link.phase ≡ true → end.link.given ≡ length end.given
counted_given end (counts given taken) opened = given
counted_given end (made_anew shut given taken) opened = absurd (cc (shut, opened))

pub counted_taken : (end : EndState) → IsCounted end → is_open end.link.phase ≡ true → end.link.taken ≡ length end.taken
counted_taken end (counts given taken) opened = taken
counted_taken end (made_anew shut given taken) opened = absurd (cc (shut, opened))
