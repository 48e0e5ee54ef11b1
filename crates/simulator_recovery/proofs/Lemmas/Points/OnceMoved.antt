-- In good rounds between which no request comes a point is given one move at most.
use Rattle.simulator_recovery.proofs.Words.Basics.{◌≡◌, ◌⊎◌, inl, inr, ℕ, zero, suc, ◌∙◌, ◌+◌, ◌<◌, ◌≤◌, ◌&&◌, ◌||◌, ◌==◌, Bool, true, false, List, length, Option, Some, None, slice_get, if◌then◌else◌, refl, sym, ap, arith, not, nat_cmp_total, unsigned_tied, contains, empty, contains-insert, false≢true, nat_tests, subst, same_Some}
use Rattle.simulator_recovery.proofs.Words.Links.{reading_of, OutboxState, stops_at_greatest, LinkState, is_open, is_up, Reason, answer_to_send, Key, Each}
use Rattle.simulator_recovery.proofs.Words.Controllers.{writing, Side}
use Rattle.simulator_recovery.proofs.Words.Interlockings.{lies_in_closed, ClientState, is_available, is_outside, is_ready, ClientSoFar, Closes, Sends, begun, calling, at_stage, clocked, commanding, fallen, hearing, is_refused_by_window, message_of, posting, stage_after_command, telegram_to, ticking, Move, Stage, come_to, count, is_move_due, is_over_clear, is_unmoved, is_waiting, IxlState, KnownPointState, RouteState, Commands, Input, stepped, StepSoFar, all_below, begun_with, empty_outbox, giving_move, known_point_after, Need, Row, Table, is_held_with_authority, is_known, is_point_available, Command, Phase, IsTableOf, PeerState, Node, Point, SitedTable}
use Rattle.simulator_recovery.proofs.Words.Stations.{Places, Site, interlocking_stepped, key_of, WorldState, Once, IsStation, Event, Flowing, point_link, IsReached}
use Rattle.simulator_recovery.proofs.Words.Recovery.{HasCounted, IsOccupancy, ClientHasSaid, IsReadyOn, good_rounds, LawsBelow}
use Rattle.simulator_recovery.proofs.Lemmas.Ground.AspectCalls.{hears, ticks}
use Rattle.simulator_recovery.proofs.Lemmas.RoutesGoing.AuthorityCancels.{command_counts}
use Rattle.simulator_recovery.proofs.Lemmas.Ground.DueShapes.{one_keeps}
use Rattle.simulator_recovery.proofs.Lemmas.Windows.FewItems.{GivenBy, GivesFew, Within}
use Rattle.simulator_recovery.proofs.Lemmas.Lamps.GivenNoMore.{NoCommand}
use Rattle.simulator_recovery.proofs.Lemmas.Ground.IxlSoFar.{test_of}
use Rattle.simulator_recovery.proofs.Lemmas.Ground.LinkCounts.{close_closes, send_phase, settled_open}
use Rattle.simulator_recovery.proofs.Lemmas.Points.OnceParts.{ClientsKeep, IsGivenMove, On, here, step_on, there_too}
use Rattle.simulator_recovery.proofs.Lemmas.Ground.SignalParts.{PartsKeep, step_held}
use Rattle.simulator_recovery.proofs.Lemmas.Silence.Spent.{within_some}
use Rattle.simulator_recovery.proofs.Lemmas.Talk.StationTalk.{fallen_link}
use Rattle.simulator_recovery.proofs.Lemmas.Ground.Steps.{changed_length}
use Rattle.simulator_recovery.proofs.Lemmas.Windows.WaitingItems.{Went, clock_went, done_went, fallen_up, ready_inside}
use Rattle.simulator_recovery.proofs.Lemmas.Points.AnsweredRounds.{rounds_rest}
use Rattle.simulator_recovery.proofs.Lemmas.Talk.ClientLinks.{up_open}
use Rattle.simulator_recovery.proofs.Lemmas.Points.MovesMoment.{PointAt, point_at}
use Rattle.simulator_recovery.proofs.Lemmas.Talk.Standing.{stand_by_counts}

-- ---- a point is given one move at most by steps in which no request comes: with the move it is marked as moved for all routes

-- ---- sets of numbers, and routes

below_is_in : (n k : ℕ) → k < n → contains (all_below n) k ≡ true
below_is_in zero k few = absurd (omega (arith, few))
below_is_in (suc n) k few = contains-insert nat_cmp_total (all_below n) n k ∙ ap (λ (b : Bool). b || contains (all_below n) k) (unsigned_tied k n) ∙ by_last (k == n) refl (below_is_in n k)
  where
    by_last : (b : Bool) → (k == n) ≡ b → (k < n → contains (all_below n) k ≡ true) → (b || contains (all_below n) k) ≡ true
    by_last true same fewer = refl
    by_last false differ fewer = fewer (grind (arith, nat_tests, few, differ))

-- there are as many routes after each part of a step
many_keep : (now : ℕ) (table : Table) (many : ℕ) → PartsKeep now table NoCommand (λ routes signals. length routes ≡ many)
many_keep now table many = record {
  rules = record {
    quiet = λ place change routes signals quiet so. changed_length change place routes ∙ so;
    proceeds = λ place row route known items client change routes signals at waits goes_on proceeds there given so. changed_length change place routes ∙ so;
    ticks = λ place known outbox routes signals there so. so;
  };
  clock = λ routes signals so. so;
  client = λ place known client indicated routes signals there goes so. so;
  withdraws = λ place row route known items client routes signals at proceeds there given so. changed_length (come_to Phase.Withdrawn) place routes ∙ so;
  falls = λ place row route routes signals at proceeds not_ready so. changed_length (come_to Phase.Withdrawn) place routes ∙ so;
  sets = λ route ixl never refused so. absurd never;
}

-- ---- what a client has given before it is ready

few_by_stage : (s : Stage) (n : ℕ) → is_ready s ≡ false → GivenBy true s n → GivenBy false s n
few_by_stage Stage.Outside n not few = few
few_by_stage Stage.AwaitsAnswer n not few = few
few_by_stage Stage.AwaitsStart n not few = few
few_by_stage (Stage.AwaitsStatus left) n not few = few
few_by_stage Stage.Completed n not few = absurd (false≢true (sym not))
few_by_stage Stage.AwaitsReport n not few = absurd (false≢true (sym not))

two_at_most : (s : Stage) (n : ℕ) → is_ready s ≡ true → GivenBy false s n → n ≤ 2
two_at_most Stage.Outside n ready few = absurd (false≢true ready)
two_at_most Stage.AwaitsAnswer n ready few = absurd (false≢true ready)
two_at_most Stage.AwaitsStart n ready few = absurd (false≢true ready)
two_at_most (Stage.AwaitsStatus left) n ready few = absurd (false≢true ready)
two_at_most Stage.Completed n ready few = few
two_at_most Stage.AwaitsReport n ready few = few

pub any_given : (s : Stage) (n : ℕ) → is_ready s ≡ true → GivenBy true s n
any_given Stage.Outside n ready = absurd (false≢true ready)
any_given Stage.AwaitsAnswer n ready = absurd (false≢true ready)
any_given Stage.AwaitsStart n ready = absurd (false≢true ready)
any_given (Stage.AwaitsStatus left) n ready = absurd (false≢true ready)
any_given Stage.Completed n ready = tt
any_given Stage.AwaitsReport n ready = tt

few_before : (client : ClientState) → is_ready client.stage ≡ false → GivesFew true client → GivesFew false client
few_before client not few = record {
  inside = λ up. let w = few.inside up in record { taken = w.taken; given = w.given; counts = w.counts; few = few_by_stage client.stage w.given not w.few };
  starting = few.starting;
}

available_ready : (s : Stage) → is_available s ≡ true → is_ready s ≡ true
available_ready Stage.Outside e = absurd (false≢true e)
available_ready Stage.AwaitsAnswer e = absurd (false≢true e)
available_ready Stage.AwaitsStart e = absurd (false≢true e)
available_ready (Stage.AwaitsStatus left) e = absurd (false≢true e)
available_ready Stage.Completed e = refl
available_ready Stage.AwaitsReport e = refl

-- ---- the client of the point

-- no route is left for which the point may get a move in this connection
abbrev pub IsMovedForAll : Table → Places → Type 0
IsMovedForAll table moved = (number : ℕ) (row : Row) → slice_get table.rows number ≡ Some row → contains moved number ≡ true

-- A client that is ready has given so many items at most, or one more: then no route is left.
pub record GivesOnce (table : Table) (items : ℕ) (known : KnownPointState) : Type 0 where
  pub few : GivesFew true known.client
  pub up : is_outside known.client.stage ≡ false → is_up known.client.link.phase ≡ true
  pub once : is_ready known.client.stage ≡ true → (known.client.link.given ≤ items) ⊎ ((known.client.link.given ≤ suc items) × IsMovedForAll table known.moved)

-- where it is inside it keeps what is noted of it
after_once : (table : Table) (items : ℕ) (side : Option Side) (moved : Places) (client : ClientState) → GivesFew true client → (is_outside client.stage ≡ false → is_up client.link.phase ≡ true)
    → (is_ready client.stage ≡ true → (client.link.given ≤ items) ⊎ ((client.link.given ≤ suc items) × IsMovedForAll table moved)) → GivesOnce table items (known_point_after side moved client)
unfolding known_point_after
after_once table items side moved client few up once = choose (is_outside client.stage) refl
  where
    none : KnownPointState
    none = record { client = client; side = None; moved = empty }

    some : KnownPointState
    some = record { client = client; side = side; moved = moved }

    choose : (b : Bool) → is_outside client.stage ≡ b → GivesOnce table items (if b then none else some)
    choose true e = record { few = few; up = up; once = λ ready. absurd (false≢true (sym (ready_inside client.stage ready) ∙ e)) }
    choose false e = record { few = few; up = up; once = once }

module _ (table : Table) (items : ℕ) (two : 2 ≤ items) where
  went_once : (old : KnownPointState) (side : Option Side) (client : ClientState) → Went old.client client → GivesOnce table items old → GivesOnce table items (known_point_after side old.moved client)
  went_once old side client went is = after_once table items side old.moved client few went.up (λ ready. by_old (is_ready old.client.stage) refl ready (went.up (ready_inside client.stage ready)))
    where
      few : GivesFew true client
      few = went.few true is.few

      by_old : (b : Bool) → is_ready old.client.stage ≡ b → is_ready client.stage ≡ true → is_up client.link.phase ≡ true
          → (client.link.given ≤ items) ⊎ ((client.link.given ≤ suc items) × IsMovedForAll table old.moved)
      by_old true was ready up = choose (is.once was) (went.none is.few was up).given
        where
          choose : (old.client.link.given ≤ items) ⊎ ((old.client.link.given ≤ suc items) × IsMovedForAll table old.moved) → client.link.given ≡ old.client.link.given
              → (client.link.given ≤ items) ⊎ ((client.link.given ≤ suc items) × IsMovedForAll table old.moved)
          choose (inl most) same = inl (omega (arith, most, same))
          choose (inr (most, all)) same = inr (omega (arith, most, same), all)
      by_old false was ready up =
          let w = (went.few false (few_before old.client was is.few)).inside up
          in let n = w.counts.given_is
          in let most = two_at_most client.stage w.given ready w.few
          in inl (at_most client.link.given w.given n most)
        where
          at_most : (link given : ℕ) → link ≡ stops_at_greatest given → given ≤ 2 → link ≤ items
          at_most link given is few = grind (arith, is, few, two)

  once_keeps : (now : ℕ) → ClientsKeep now (GivesOnce table items)
  once_keeps now = record {
    clock = λ known is. went_once known known.side (clocked now known.client) (clock_went now known.client) is;
    hears = λ known side bytes outbox is. went_once known side (hearing now bytes (begun known.client outbox)).client
        (done_went now known.client (hearing now bytes (begun known.client outbox)) (hears bytes outbox refl)) is;
    ticks = λ known outbox is. went_once known known.side (ticking now (begun known.client outbox)).client
        (done_went now known.client (ticking now (begun known.client outbox)) (ticks outbox refl)) is;
  }

  -- ---- a move

  module _ (now : ℕ) (side : Side) (old : ClientState) (outbox : OutboxState) (ready : is_ready old.stage ≡ true) (was_up : is_up old.link.phase ≡ true) (few : GivesFew true old) where
    abbrev done : ClientState
    done = (commanding now (Move side) (begun old outbox)).client

    still_ready : (s : Stage) → is_ready s ≡ true → is_ready (stage_after_command (Move side) s) ≡ true
    still_ready Stage.Outside e = absurd (false≢true e)
    still_ready Stage.AwaitsAnswer e = absurd (false≢true e)
    still_ready Stage.AwaitsStart e = absurd (false≢true e)
    still_ready (Stage.AwaitsStatus left) e = absurd (false≢true e)
    still_ready Stage.Completed e = refl
    still_ready Stage.AwaitsReport e = refl

    abbrev sent : ClientState
    sent = (posting now (message_of (Move side)) (begun old outbox)).client

    moved_up : is_outside done.stage ≡ false → is_up done.link.phase ≡ true
    unfolding commanding
    moved_up = fallen_up (at_stage (stage_after_command (Move side) old.stage) (posting now (message_of (Move side)) (begun old outbox))).client

    -- where its link is up it is ready
    moved_ready : is_up done.link.phase ≡ true → is_ready done.stage ≡ true
    unfolding commanding fallen
    moved_ready = choose (is_up sent.link.phase) refl
      where
        late : ClientState
        late = record sent { stage = stage_after_command (Move side) old.stage }

        choose : (b : Bool) → is_up sent.link.phase ≡ b → is_up (if b then late else record late { stage = Stage.Outside }).link.phase ≡ true
            → is_ready (if b then late else record late { stage = Stage.Outside }).stage ≡ true
        choose true up is = still_ready old.stage ready
        choose false down is = absurd (false≢true (sym down ∙ is))

    -- where it isn't up it is closed
    sent_shut : is_open sent.link.phase ≡ true → is_up sent.link.phase ≡ true
    unfolding posting calling
    sent_shut = choose (is_refused_by_window (answer_to_send now old.link))
      where
        item : List ℕ
        item = writing (telegram_to old.peer (message_of (Move side)))

        first : ClientSoFar
        first = calling now (Sends item) (begun old outbox)

        choose : (b : Bool) → is_open (if b then calling now (Closes Reason.Window) first else first).client.link.phase ≡ true
            → is_up (if b then calling now (Closes Reason.Window) first else first).client.link.phase ≡ true
        choose true opened = absurd (false≢true (sym (close_closes now Reason.Window first.client.link) ∙ opened))
        choose false opened = ap is_up (send_phase now item old.link opened) ∙ was_up

    moved_shut : is_open done.link.phase ≡ true → is_up done.link.phase ≡ true
    unfolding commanding
    moved_shut opened =
        let same : done.link ≡ sent.link = fallen_link (at_stage (stage_after_command (Move side) old.stage) (posting now (message_of (Move side)) (begun old outbox))).client
        in ap (λ (l : LinkState). is_up l.phase) same ∙ sent_shut (ap (λ (l : LinkState). is_open l.phase) (sym same) ∙ opened)

    abbrev was : Within (GivenBy true old.stage) old.link
    was = few.inside was_up

    counted : is_outside done.stage ≡ false → HasCounted was.taken (was.given + 1) done.link
    counted inside = command_counts now (Move side) (begun old outbox) was.taken was.given inside was.counts

    moved_few : GivesFew true done
    moved_few = record {
      inside = λ up. record { taken = was.taken; given = was.given + 1; counts = counted (ready_inside done.stage (moved_ready up)); few = any_given done.stage (was.given + 1) (moved_ready up) };
      starting = λ opened down. absurd (false≢true (sym down ∙ moved_shut opened));
    }

    moved_once : old.link.given ≤ items → is_ready done.stage ≡ true → done.link.given ≤ suc items
    moved_once most now_ready = let c = (counted (ready_inside done.stage now_ready)).given_is in let n = was.counts.given_is in one_more old.link.given was.given done.link.given n c most
      where
        one_more : (a n b : ℕ) → a ≡ stops_at_greatest n → b ≡ stops_at_greatest (n + 1) → a ≤ items → b ≤ suc items
        one_more a n b was is few = grind (arith, was, is, few)

  -- ---- the fifth rule

  module _ (now point : ℕ) where
    -- it was due, so the point was available, and not yet marked as moved for this route
    pub record WasDue (number : ℕ) (known : KnownPointState) : Type 0 where
      pub available : is_available known.client.stage ≡ true
      pub unmoved : contains known.moved number ≡ false

    was_due : (ixl : IxlState) (number : ℕ) (route : RouteState) (need : Need) (known : KnownPointState) → is_move_due table ixl number route need ≡ true
        → slice_get ixl.known_points need.point ≡ Some known → WasDue number known
    was_due ixl number route need known due there =
        let parts = both (is_waiting route.phase) (not route.cancelled) (is_point_available ixl need.point) (not (is_known ixl need.point need.side)) (is_over_clear table ixl need.point)
        (not (is_held_with_authority table ixl need.point)) (is_unmoved ixl need.point number) (not (lies_in_closed table ixl need.point)) due
        in record {
          available = test_of ixl.known_points need.point (λ (k : KnownPointState). is_available k.client.stage) known there parts.0;
          unmoved = not_true (contains known.moved number) (test_of ixl.known_points need.point (λ (k : KnownPointState). not (contains k.moved number)) known there parts.1);
        }
      where
        both : (a b c d e f g h : Bool) → (a && b && c && d && e && f && g && h) ≡ true → (c ≡ true) × (g ≡ true)
        both true true true true true true true h is = (refl, refl)
        both true true true true true true false h is = absurd (false≢true is)
        both true true true true true false g h is = absurd (false≢true is)
        both true true true true false f g h is = absurd (false≢true is)
        both true true true false e f g h is = absurd (false≢true is)
        both true true false d e f g h is = absurd (false≢true is)
        both true false c d e f g h is = absurd (false≢true is)
        both false b c d e f g h is = absurd (false≢true is)

        not_true : (b : Bool) → not b ≡ true → b ≡ false
        not_true true h = absurd (false≢true h)
        not_true false h = refl

    moves_once : (number : ℕ) (row : Row) (route : RouteState) (need : Need) (part : StepSoFar) → IsGivenMove table number row route need part.ixl → length part.ixl.routes ≡ count table
        → On point (GivesOnce table items) part → On point (GivesOnce table items) (giving_move now need.point need.side part)
    unfolding giving_move
    moves_once number row route need part given many is = one_keeps (On point (GivesOnce table items)) (slice_get part.ixl.known_points need.point) _ part (λ known there.
        here point (GivesOnce table items) need.point _ part.ixl.known_points (λ same.
        with_move known (there_too point (GivesOnce table items) need.point part.ixl.known_points known there is same) (was_due part.ixl number route need known given.due there)) is) is
      where
        all : IsMovedForAll table (all_below (length part.ixl.routes))
        all k other there = let n = within_some table.rows k other there in below_is_in (length part.ixl.routes) k (omega (arith, n, many))

        with_move : (known : KnownPointState) → GivesOnce table items known → WasDue number known
            → GivesOnce table items (known_point_after known.side (all_below (length part.ixl.routes)) (commanding now (Move need.side) (begun known.client part.outbox)).client)
        with_move known once due =
            let ready = available_ready known.client.stage due.available
            in let up = once.up (ready_inside known.client.stage ready)
            in after_once table items known.side (all_below (length part.ixl.routes)) (commanding now (Move need.side) (begun known.client part.outbox)).client
            (moved_few now need.side known.client part.outbox ready up once.few) (moved_up now need.side known.client part.outbox ready up once.few)
            (λ now_ready. inr (moved_once now need.side known.client part.outbox ready up once.few (least known due (once.once ready)) now_ready, all))
          where
            least : (known : KnownPointState) → WasDue number known → (known.client.link.given ≤ items) ⊎ ((known.client.link.given ≤ suc items) × IsMovedForAll table known.moved)
                → known.client.link.given ≤ items
            least known due (inl few) = few
            least known due (inr (more, all)) = absurd (false≢true (sym due.unmoved ∙ all number row given.row_there))

  -- ---- a step

  pub once_on : (now point : ℕ) (key : Key) (input : Input) (part : StepSoFar) → ((command : Command) → input ≡ Commands command → ⊥) → length part.ixl.routes ≡ count table
      → On point (GivesOnce table items) part
      → On point (GivesOnce table items) (stepped now table key input part)
  once_on now point key input part = step_on now point (GivesOnce table items) (once_keeps now) table (λ routes. length routes ≡ count table) (moves_once now point) (many_keep now table
      (count table)) key input part

-- An interlocking that has as many routes as its table, and a point whose client has given so many items at most, or one more.
pub record IsMovedOnce (table : Table) (point items : ℕ) (ixl : IxlState) : Type 0 where
  pub many : length ixl.routes ≡ count table
  pub once : (known : KnownPointState) → slice_get ixl.known_points point ≡ Some known → GivesOnce table items known

pub stepped_once : (site : Site) (table : Table) (point items : ℕ) → 2 ≤ items → (input : Input) (world : WorldState) → ((command : Command) → input ≡ Commands command → ⊥)
    → IsMovedOnce table point items world.interlocking.ixl
    → IsMovedOnce table point items (interlocking_stepped site table input world).interlocking.ixl
unfolding interlocking_stepped
stepped_once site table point items two input world no_command is =
    let now = reading_of world.interlocking.clock
    in record {
      many = step_held now table NoCommand (λ routes signals. length routes ≡ count table) (many_keep now table (count table)) (key_of site) input
          (begun_with world.interlocking.ixl empty_outbox) no_command is.many;
      once = once_on table items two now point (key_of site) input (begun_with world.interlocking.ixl empty_outbox) no_command is.many is.once;
    }

-- ---- in good rounds between which no request comes a point is given one move at most

-- a client that is ready has given the check of its version, and the request for the initialisation
said_two : (site : Site) (node : Node) (peer : PeerState) (s : Stage) (taken : ℕ) (items : List (List ℕ)) → is_ready s ≡ true → ClientHasSaid site node peer s taken items → 2 ≤ length items
said_two site node peer Stage.Outside taken items ready said = absurd (false≢true ready)
said_two site node peer Stage.AwaitsAnswer taken items ready said = absurd (false≢true ready)
said_two site node peer Stage.AwaitsStart taken items ready said = absurd (false≢true ready)
said_two site node peer (Stage.AwaitsStatus left) taken items ready said = absurd (false≢true ready)
said_two site node peer Stage.Completed taken items ready (c, all) = let n = ap length c.are in omega (arith, n)
said_two site node peer Stage.AwaitsReport taken items ready (c, one) = let n = ap length c.are in omega (arith, n)

-- so it stays in good rounds between which no request comes
pub stays_once : (sited : SitedTable) (point items : ℕ) → 2 ≤ items → (rounds : List (List Event)) (flowing : Flowing) → Each (Each IsOccupancy) rounds → flowing.state.sited ≡ sited
    → IsMovedOnce sited.table point items flowing.state.run.interlocking.ixl
    → IsMovedOnce sited.table point items (good_rounds rounds flowing).state.run.interlocking.ixl
stays_once sited point items two rounds flowing of same is = (rounds_rest sited (IsMovedOnce sited.table point items)
    (stepped_once sited.site sited.table point items two) rounds flowing of (record { same = same; rests = is })).rests

module _ (laws : LawsBelow) (site : Site) (table : Table) (once : Once site) (station : IsStation site) (is_table : IsTableOf site table) (place : ℕ) (few : place < length site.points)
    (world : WorldState) (reached : IsReached site table world) (ready : IsReadyOn site (point_link site place) world) where
  p : PointAt site world place ready.up
  p = point_at laws site table station once is_table world reached place few ready

  known_ready : is_ready p.known.client.stage ≡ true
  known_ready = ap (λ (c : ClientState). is_ready c.stage) (same_Some p.known.client ready.client (sym p.client_there ∙ ready.there)) ∙ ready.client_ready

  known_up : is_up p.known.client.link.phase ≡ true
  known_up = ap (λ (l : LinkState). is_up l.phase) (sym p.client_same) ∙ (ap (λ (l : LinkState). is_up l.phase)
      (sym (settled_open (reading_of world.interlocking.clock) ready.up.client (up_open _ ready.up.client_up)).0) ∙ ready.up.client_up)

  pub gave_two : 2 ≤ ready.up.client.given
  gave_two =
      let said = said_two site (Point place) p.known.client.peer p.known.client.stage _ _ known_ready (p.talks.said (up_open p.known.client.link.phase known_up))
      in let count = p.client_given
      in omega (arith, said, count)

  known_few : GivesFew true p.known.client
  known_few = record {
    inside = λ is. let c = ((stand_by_counts site table world station reached).clients.points place p.known p.known_there).stands.stands (up_open p.known.client.link.phase is)
        in record { taken = c.taken; given = c.given; counts = c.counts; few = any_given p.known.client.stage c.given known_ready };
    starting = λ opened down. absurd (false≢true (sym down ∙ known_up));
  }

  first_known : GivesOnce table ready.up.client.given p.known
  first_known = record { few = known_few; up = λ inside. known_up; once = λ is. inl (let same = ap (λ (l : LinkState). l.given) p.client_same in omega (arith, same)) }

  -- after the first round none is given
  pub once_first : length world.interlocking.ixl.routes ≡ count table → IsMovedOnce table place ready.up.client.given world.interlocking.ixl
  once_first many = record { many = many; once = λ known there. subst (GivesOnce table ready.up.client.given) (same_Some p.known known (sym p.known_there ∙ there)) first_known }

  -- and after a later one it is one at most
  pub once_later : (items : ℕ) → IsMovedOnce table place items world.interlocking.ixl → ready.up.client.given ≤ suc items
  once_later items is = choose ((is.once p.known p.known_there).once known_ready)
    where
      choose : (p.known.client.link.given ≤ items) ⊎ ((p.known.client.link.given ≤ suc items) × IsMovedForAll table p.known.moved) → ready.up.client.given ≤ suc items
      choose (inl most) = let same = ap (λ (l : LinkState). l.given) p.client_same in omega (arith, same, most)
      choose (inr (most, all)) = let same = ap (λ (l : LinkState). l.given) p.client_same in omega (arith, same, most)
