-- A move that is out is answered where set routes want it: the interlocking's end takes the report of that side as its next item.
use Rattle.simulator_recovery.proofs.Words.Basics.{◌≡◌, ◌⊎◌, inl, inr, ℕ, suc, ◌∙◌, ◌+◌, ◌*◌, ◌-◌, ◌≤◌, ◌<◌, nat_le, Bool, true, false, List, [], ◌∷◌, ◌++◌, append-nil, append_assoc, length, map, Some, None, slice_get, refl, sym, ap, subst, arith, leb-true, leb-false, length-append, none-some, same_Some}
use Rattle.simulator_recovery.proofs.Words.Links.{Each, reading_of}
use Rattle.simulator_recovery.proofs.Words.Controllers.{moves_in, Side, commands_of, PointState, driven, unanswered, Progress}
use Rattle.simulator_recovery.proofs.Words.Interlockings.{IsTableOf, Move, IsHeldAt, SitedTable}
use Rattle.simulator_recovery.proofs.Words.Stations.{Site, Once, IsStation, Event, Flowing, round, point_link, ClockedControllerState, WorldState, links_in, IsReached, IsTakenOf}
use Rattle.simulator_recovery.proofs.Words.Recovery.{TakesReport, TakesReportBehind, commanded, IsUpOn, StaysBelowLimit, DrivesSince, IsDriven, IsDrivenBehind, ReportComesBehind, ReportsCome, last_side, move_rounds, reports_in, ready_rounds, HasTime, IsWork, all_tried, good_rounds, AwaitsMove, IsLast, LawsBelow, MoveLaw, RequestLaw}
use Rattle.simulator_recovery.proofs.Lemmas.Points.BeginsStep.{Stands, drives_to, has_none, owes_that, report_of}
use Rattle.simulator_recovery.proofs.Lemmas.Points.BeginsMoment.{came_back, came_over, first_same, gave_on, heard_is, last_given, last_same, none_left, one_left, one_more, one_moves, one_side, same_behind, same_connection, sent_is, spelled, spells}
use Rattle.simulator_recovery.proofs.Lemmas.Points.BeginsReports.{comes_back, far_at}
use Rattle.simulator_recovery.proofs.Lemmas.Points.BeginsRound.{ReportsEach, reports_each}
use Rattle.simulator_recovery.proofs.Lemmas.Points.BeginsWalk.{moves_both}
use Rattle.simulator_recovery.proofs.Lemmas.Ground.EndCalls.{map_both}
use Rattle.simulator_recovery.proofs.Lemmas.Points.MovesAnswered.{room_front, rounds_both}
use Rattle.simulator_recovery.proofs.Lemmas.Points.MovesBehind.{Are, DrivesAt, ReportedAt, ReportedBy, drive_goes_on, front_are, paid_here, point, reached_at, ready_at, reports_come, up_at}
use Rattle.simulator_recovery.proofs.Lemmas.Points.MovesMoment.{PointAt}
use Rattle.simulator_recovery.proofs.Lemmas.Points.MovesOwed.{commands_both}
use Rattle.simulator_recovery.proofs.Lemmas.Points.MovesPaid.{IsPaid}
use Rattle.simulator_recovery.proofs.Lemmas.Points.MovesRound.{found_there}
use Rattle.simulator_recovery.proofs.Lemmas.Links.Ready.{Last, count_front, last_of}
use Rattle.simulator_recovery.proofs.Lemmas.Points.RoomBehind.{FewWaitLaw, HasRoomAt, HasRoomBehind, has_room, room_behind}
use Rattle.simulator_recovery.proofs.Lemmas.Rounds.Rounds.{rounds_reached}
use Rattle.simulator_recovery.proofs.Lemmas.Points.SidesDrives.{same_side}
use Rattle.simulator_recovery.proofs.Lemmas.Lamps.StopComes.{last_round}
use Rattle.simulator_recovery.proofs.Lemmas.Links.UnderHosts.{host_rounds}

decide : (n m : ℕ) → (n ≤ m) ⊎ (m < n)
decide n m = choose (nat_le n m) refl
  where
    choose : (b : Bool) → nat_le n m ≡ b → (n ≤ m) ⊎ (m < n)
    choose true e = inl (leb-true n m e)
    choose false e = inr (leb-false n m e)

moves_all : (one other : List (List ℕ)) → moves_in (commands_of (one ++ other)) ≡ moves_in (commands_of one) ++ moves_in (commands_of other)
moves_all one other = ap moves_in (commands_both one other) ∙ moves_both (commands_of one) (commands_of other)

module _ (laws : LawsBelow) (stay : LawsBelow) (move : MoveLaw) (request : RequestLaw) (between : List Event) (flowing : Flowing) (place : ℕ) (side : Side)
    (once : Once flowing.state.sited.site) (station : IsStation flowing.state.sited.site)
    (is_table : IsTableOf flowing.state.sited.site flowing.state.sited.table) (reached : IsReached flowing.state.sited.site flowing.state.sited.table flowing.state.run)
    (work : Each IsWork between) (few : place < length flowing.state.sited.site.points)
    (notes : length flowing.state.sited.site.points ≤ length flowing.drives) where
  abbrev site : Site
  site = flowing.state.sited.site

  abbrev link : ℕ
  link = point_link site place

  abbrev next : Flowing
  next = all_tried between (round flowing)

  abbrev then_at : List (List Event) → Flowing
  then_at rounds = good_rounds rounds next

  abbrev world_at : List (List Event) → WorldState
  world_at rounds = (then_at rounds).state.run

  abbrev OfRounds : List (List Event) → Type 0
  OfRounds rounds = Are laws between flowing place once station is_table reached work few rounds

  abbrev up_of : (rounds : List (List Event)) → OfRounds rounds → IsUpOn link (world_at rounds)
  up_of rounds a = up_at laws between flowing place once station is_table reached work few rounds a

  abbrev point_of : (rounds : List (List Event)) (a : OfRounds rounds) → PointAt site (world_at rounds) place (up_of rounds a)
  point_of rounds a = point laws between flowing place once station is_table reached work few rounds a

  abbrev gave : (rounds : List (List Event)) → OfRounds rounds → List (List ℕ)
  gave rounds a = ((links_in (point_of rounds a).has).ends link).client.given

  abbrev heard : (rounds : List (List Event)) → OfRounds rounds → List (List ℕ)
  heard rounds a = ((links_in (point_of rounds a).has).ends link).client.taken

  abbrev took : (rounds : List (List Event)) → OfRounds rounds → List (List ℕ)
  took rounds a = ((links_in (point_of rounds a).has).ends link).server.taken

  abbrev connection_of : (rounds : List (List Event)) → OfRounds rounds → ℕ
  connection_of rounds a = (point_of rounds a).one.connection

  abbrev item : Side → List ℕ
  item one = spelled laws between flowing place once station is_table reached work few one

  abbrev told_in : ℕ → List (List Event) → List (List ℕ)
  told_in connection rounds = reports_in site place connection (world_at rounds)

  -- its controller spells the report so at each moment
  spells_so : (rounds : List (List Event)) (c : ClockedControllerState PointState) → slice_get (world_at rounds).points place ≡ Some c → (one : Side) → report_of c.host one ≡ item one
  spells_so = spells laws between flowing place once station is_table reached work few

  -- ---- what the laws of later rounds come to

  module _ (rounds : List (List Event)) (a : OfRounds rounds) (long : host_rounds ≤ suc (length rounds)) where
    abbrev from : Flowing
    from = then_at rounds

    long_on : (list : List (List Event)) → host_rounds ≤ suc (length (rounds ++ list))
    long_on list = let n = length-append rounds list in omega (arith, long, n)

    -- A report that stands after all that the interlocking had taken comes in the next round.
    comes_next : (done : List (List Event)) (last : List Event) (rest : List (List Event)) → OfRounds (rounds ++ ((done ++ last ∷ []) ++ rest)) → (connection : ℕ)
        → slice_get (world_at rounds).interlocking.connections link ≡ Some (Some connection)
        → slice_get (world_at (rounds ++ done)).interlocking.connections link ≡ Some (Some connection) → (more : List (List ℕ))
        → told_in connection (rounds ++ done) ≡ heard rounds a ++ item side ∷ more → TakesReportBehind site place side ((done ++ last ∷ []) ++ rest) from
    comes_next done last rest all connection was_in is_in more told = record {
      front = done ++ last ∷ [];
      rest = rest;
      parts = refl;
      takes = subst (λ (f : Flowing). TakesReport site place side from.state.run f.state.run) then_is (record {
        connection = comes.connection;
        was_in = was_in ∙ ap (λ (n : ℕ). Some (Some n)) (sym same);
        is_in = comes.is_in;
        was = (point_of rounds a).has;
        has = comes.has;
        controller = new.controller;
        there = new.there;
        more = more ++ comes.more;
        taken = comes.taken ∙ ap (λ (n : ℕ). told_in n (rounds ++ done) ++ comes.more) same ∙ ap (λ (list : List (List ℕ)). list ++ comes.more) told
            ∙ append_assoc (heard rounds a) (item side ∷ more) comes.more
            ∙ ap (λ (one : List ℕ). heard rounds a ++ one ∷ (more ++ comes.more)) (sym (spells_so ((rounds ++ done) ++ last ∷ []) new.controller new.there side));
      });
    }
      where
        whole : OfRounds (((rounds ++ done) ++ last ∷ []) ++ rest)
        whole = subst OfRounds (sym (append_assoc rounds (done ++ last ∷ []) rest) ∙ ap (λ (list : List (List Event)). list ++ rest) (sym (append_assoc rounds done (last ∷ [])))) all

        then_are : OfRounds ((rounds ++ done) ++ last ∷ [])
        then_are = front_are laws between flowing place once station is_table reached work few ((rounds ++ done) ++ last ∷ []) rest
            (let m = length-append (rounds ++ done) (last ∷ []) in let n = long_on done in omega (arith, m, n)) whole

        done_are : OfRounds (rounds ++ done)
        done_are = front_are laws between flowing place once station is_table reached work few (rounds ++ done) (last ∷ []) (long_on done) then_are

        new : PointAt site (world_at ((rounds ++ done) ++ last ∷ [])) place (up_of ((rounds ++ done) ++ last ∷ []) then_are)
        new = point_of ((rounds ++ done) ++ last ∷ []) then_are

        comes : ReportsCome site place (world_at (rounds ++ done)) (world_at ((rounds ++ done) ++ last ∷ []))
        comes = reports_come laws between flowing place once station is_table reached work few (rounds ++ done) last (long_on done) done_are then_are

        same : comes.connection ≡ connection
        same = same_Some comes.connection connection (same_Some (Some comes.connection) (Some connection) (sym comes.was_in ∙ is_in))

        then_is : then_at ((rounds ++ done) ++ last ∷ []) ≡ good_rounds (done ++ last ∷ []) from
        then_is = ap then_at (append_assoc rounds done (last ∷ [])) ∙ rounds_both rounds (done ++ last ∷ []) next

    -- Where it is driven there some rounds later, and had sent nothing more until then, its report comes within 51 rounds.
    drive_comes : (list more : List (List Event)) → OfRounds ((rounds ++ list) ++ more) → length more ≡ 51 → HasRoomBehind place more (then_at (rounds ++ list)) → (since : ℕ)
        → DrivesSince place side since (world_at (rounds ++ list))
        → (connection : ℕ) → slice_get (world_at rounds).interlocking.connections link ≡ Some (Some connection) → slice_get (world_at (rounds ++ list)).interlocking.connections link ≡ Some (Some connection)
        → told_in connection (rounds ++ list) ≡ heard rounds a
        → TakesReportBehind site place side (list ++ more) from
    drive_comes list more all many room since driving connection was_in is_in told =
        subst (λ (r : List (List Event)). TakesReportBehind site place side r from) (sym parts)
        (comes_next (list ++ r.front) r.last r.rest (subst OfRounds (append_assoc rounds list more ∙ ap (λ (l : List (List Event)). rounds ++ l) parts) all) connection was_in
        (subst (λ (f : Flowing). slice_get f.state.run.interlocking.connections link ≡ Some (Some connection)) (sym then_is) (r.reports.is_in ∙ ap (λ (n : ℕ). Some (Some n)) same)) [] told_then)
      where
        r : ReportComesBehind site place side more (then_at (rounds ++ list))
        r = comes_back laws between flowing place side since once station is_table reached work few notes stay (rounds ++ list) more (long_on list) all many room driving

        parts : list ++ more ≡ ((list ++ r.front) ++ r.last ∷ []) ++ r.rest
        parts = ap (λ (l : List (List Event)). list ++ l) (r.parts ∙ sym (append_assoc r.front (r.last ∷ []) r.rest)) ∙ sym (append_assoc list (r.front ++ r.last ∷ []) r.rest)
            ∙ ap (λ (l : List (List Event)). l ++ r.rest) (sym (append_assoc list r.front (r.last ∷ [])))

        same : r.reports.connection ≡ connection
        same = same_Some r.reports.connection connection (same_Some (Some r.reports.connection) (Some connection) (sym r.reports.was_in ∙ is_in))

        then_is : then_at (rounds ++ (list ++ r.front)) ≡ good_rounds r.front (then_at (rounds ++ list))
        then_is = ap then_at (sym (append_assoc rounds list r.front)) ∙ rounds_both (rounds ++ list) r.front next

        told_then : told_in connection (rounds ++ (list ++ r.front)) ≡ heard rounds a ++ item side ∷ []
        told_then = ap (λ (f : Flowing). reports_in site place connection f.state.run) then_is
            ∙ ap (λ (n : ℕ). reports_in site place n (good_rounds r.front (then_at (rounds ++ list))).state.run) (sym same) ∙ r.reports.reported
            ∙ ap (λ (n : ℕ). told_in n (rounds ++ list) ++ report_of r.reports.controller.host side ∷ []) same
            ∙ ap (λ (l : List (List ℕ)). l ++ report_of r.reports.controller.host side ∷ []) told
            ∙ ap (λ (one : List ℕ). heard rounds a ++ one ∷ []) (spells_so (rounds ++ (list ++ r.front)) r.reports.controller
            (subst (λ (f : Flowing). slice_get f.state.run.points place ≡ Some r.reports.controller) (sym then_is) r.reports.there) side)

  -- ---- a move that is out

  module _ (front : List (List Event)) (last : List Event) (more : List (List Event)) (long : host_rounds ≤ suc (length front)) (all : OfRounds ((front ++ last ∷ []) ++ more))
      (many : length more ≡ move_rounds)
      (room_before : HasRoomAt place (then_at front).state) (room : HasRoomBehind place (last ∷ more) (then_at front)) (awaits : AwaitsMove place (world_at (front ++ last ∷ [])))
      (held : IsHeldAt flowing.state.sited.table (world_at (front ++ last ∷ [])).interlocking.ixl place side) where
    abbrev rounds : List (List Event)
    rounds = front ++ last ∷ []

    long_rounds : host_rounds ≤ suc (length rounds)
    long_rounds = let n = length-append front (last ∷ []) in omega (arith, long, n)

    ready_now : ready_rounds ≤ suc (length rounds)
    ready_now = let n = length-append front (last ∷ []) in omega (arith, long, n)

    a : OfRounds rounds
    a = front_are laws between flowing place once station is_table reached work few rounds more long_rounds all

    f : OfRounds front
    f = front_are laws between flowing place once station is_table reached work few front (last ∷ []) long a

    abbrev p : PointAt site (world_at rounds) place (up_of rounds a)
    p = point_of rounds a

    abbrev before : PointAt site (world_at front) place (up_of front f)
    before = point_of front f

    abbrev connection : ℕ
    connection = p.one.connection

    last_is : then_at rounds ≡ all_tried last (round (then_at front))
    last_is = last_round front last next

    room_now : HasRoomAt place (then_at rounds).state
    room_now = subst (λ (g : Flowing). HasRoomAt place g.state) (sym last_is) room.0

    room_then : HasRoomBehind place more (then_at rounds)
    room_then = subst (HasRoomBehind place more) (sym last_is) room.1

    -- counts
    one_more_heard : length (heard rounds a) ≡ 1 + length (gave rounds a)
    one_more_heard = one_more laws between flowing place once station is_table reached work few rounds a awaits

    told_count : length (told_in connection rounds) ≡ (up_of rounds a).server.link.given
    told_count = ap length (sym (sent_is laws between flowing place once station is_table reached work few rounds a)) ∙ sym p.server_given

    heard_parts : IsTakenOf (told_in connection rounds) ((links_in p.has).ends link).client
    heard_parts = heard_is laws between flowing place once station is_table reached work few rounds a

    took_few : length (took rounds a) ≤ length (gave rounds a)
    took_few = let parts = ap length p.begins in let both = length-append (took rounds a) p.rest in omega (arith, parts, both)

    -- where it has told no more than the interlocking has taken
    all_heard : length (told_in connection rounds) ≤ length (heard rounds a) → told_in connection rounds ≡ heard rounds a
    all_heard no_more =
        let parts = ap length heard_parts.beginning
        in let both = length-append (heard rounds a) heard_parts.rest
        in heard_parts.beginning ∙ ap (λ (list : List (List ℕ)). heard rounds a ++ list) (none_left heard_parts.rest (omega (arith, parts, both, no_more))) ∙ append-nil (heard rounds a)

    -- ---- it drives for the move

    in_drive : (to : Side) (since : ℕ) → p.controller.host.object.progress ≡ Progress.Driving to since → TakesReportBehind site place side more (then_at rounds)
    in_drive to since e = by_last (last_of 51 more (omega (arith, many)))
      where
        to_side : to ≡ side
        to_side = same_side (laws) site flowing.state.sited.table
            (world_at rounds) place station once is_table
            (reached_at laws between flowing place once station is_table reached work few rounds a) few
            (ready_at laws between flowing place once station is_table reached work few rounds a ready_now) to since (p.controller, p.there, e) side held

        driving : DrivesSince place side since (world_at rounds)
        driving = (p.controller, p.there, e ∙ ap (λ (s : Side). Progress.Driving s since) to_side)

        no_more : length (told_in connection rounds) ≤ length (heard rounds a)
        no_more =
            let waits = ap unanswered e
            in let balance = p.balance
            in let taken = p.server_taken
            in let told = told_count
            in let few_taken = took_few
            in let heard_more = one_more_heard
            in omega (arith, waits, balance, taken, told, few_taken, heard_more)

        by_last : Last 51 more → TakesReportBehind site place side more (then_at rounds)
        by_last l = subst (λ (r : List (List Event)). TakesReportBehind site place side r (then_at rounds)) (sym l.are) (record {
          front = takes.front;
          rest = takes.rest ++ l.last ∷ [];
          parts = ap (λ (r : List (List Event)). r ++ l.last ∷ []) takes.parts ∙ append_assoc takes.front takes.rest (l.last ∷ []);
          takes = takes.takes;
        })
          where
            whole : OfRounds ((rounds ++ l.front) ++ l.last ∷ [])
            whole = subst OfRounds (ap (λ (r : List (List Event)). rounds ++ r) l.are ∙ sym (append_assoc rounds l.front (l.last ∷ []))) all

            front_all : OfRounds (rounds ++ l.front)
            front_all = front_are laws between flowing place once station is_table reached work few (rounds ++ l.front) (l.last ∷ [])
                (let n = length-append rounds l.front in omega (arith, long_rounds, n)) whole

            room_front_now : HasRoomBehind place l.front (then_at rounds)
            room_front_now = room_front place l.front (l.last ∷ []) (then_at rounds) (subst (λ (r : List (List Event)). HasRoomBehind place r (then_at rounds)) l.are room_then)

            here : rounds ++ [] ≡ rounds
            here = append-nil rounds

            takes : TakesReportBehind site place side l.front (then_at rounds)
            takes = drive_comes rounds a long_rounds [] l.front (subst (λ (r : List (List Event)). OfRounds (r ++ l.front)) (sym here) front_all) l.long
                (subst (λ (r : List (List Event)). HasRoomBehind place l.front (then_at r)) (sym here) room_front_now) since
                (subst (λ (r : List (List Event)). DrivesSince place side since (world_at r)) (sym here) driving) connection p.connections
                (subst (λ (r : List (List Event)). slice_get (world_at r).interlocking.connections link ≡ Some (Some connection)) (sym here) p.connections)
                (subst (λ (r : List (List Event)). told_in connection r ≡ heard rounds a) (sym here) (all_heard no_more))

    abbrev move_item : List ℕ
    move_item = commanded p.known.client.peer (Move side)

    last_move : IsLast move_item (gave rounds a)
    last_move = last_given laws between flowing place once station is_table reached work few rounds a awaits move request side held

    moves_side : moves_in (commands_of (move_item ∷ [])) ≡ side ∷ []
    moves_side = one_moves laws between flowing place once station is_table reached work few rounds a awaits move request side held

    -- ---- the move is on its way to the controller

    module _ (idle : p.controller.host.object.progress ≡ Progress.Answered) (short : length (took rounds a) < length (gave rounds a)) (first : List Event) (others : List (List Event))
        (more_is : more ≡ first ∷ others) where
      abbrev new_rounds : List (List Event)
      new_rounds = rounds ++ first ∷ []

      whole : OfRounds (new_rounds ++ others)
      whole = subst OfRounds (ap (λ (r : List (List Event)). rounds ++ r) more_is ∙ sym (append_assoc rounds (first ∷ []) others)) all

      long_new : host_rounds ≤ suc (length new_rounds)
      long_new = let n = length-append rounds (first ∷ []) in omega (arith, long_rounds, n)

      b : OfRounds new_rounds
      b = front_are laws between flowing place once station is_table reached work few new_rounds others long_new whole

      abbrev q : PointAt site (world_at new_rounds) place (up_of new_rounds b)
      q = point_of new_rounds b

      each : ReportsEach laws stay between flowing place once station is_table reached work few notes rounds first long_rounds a b idle
      each = reports_each laws stay between flowing place once station is_table reached work few notes rounds first long_rounds a b idle

      -- it has told all that the interlocking has taken, and one move is on its way
      counts : (length (told_in connection rounds) ≤ length (heard rounds a)) × (length (gave rounds a) ≡ 1 + length (took rounds a))
      counts =
          let none = ap unanswered idle
          in let balance = p.balance
          in let taken = p.server_taken
          in let told = told_count
          in let heard_more = one_more_heard
          in let fewer = p.fewer
          in let known = p.client_taken
          in (omega (arith, none, balance, taken, told, heard_more, short, fewer, known), omega (arith, none, balance, taken, told, heard_more, short, fewer, known))

      on_way : p.rest ≡ move_item ∷ []
      on_way = same_behind (took rounds a) last_move.front p.rest (move_item ∷ []) (sym p.begins ∙ last_move.are)
          (let parts = ap length last_move.are in let both = length-append last_move.front (move_item ∷ []) in let n = counts.1 in omega (arith, parts, both, n))

      gives_on : (m : List (List ℕ)) × (gave new_rounds b ≡ gave rounds a ++ m)
      gives_on = gave_on laws between flowing place once station is_table reached work few rounds first long_rounds a b

      -- the moves that it takes and laws in the round begin with that one
      begins_so : (each.paid ++ each.rest) ++ moves_in (commands_of q.rest) ≡ side ∷ moves_in (commands_of gives_on.0)
      begins_so = same_behind had had _ _ both refl
        where
          had : List Side
          had = moves_in (commands_of (took rounds a))

          items : took new_rounds b ++ q.rest ≡ (took rounds a ++ move_item ∷ []) ++ gives_on.0
          items = sym q.begins ∙ gives_on.1 ∙ ap (λ (l : List (List ℕ)). l ++ gives_on.0) (p.begins ∙ ap (λ (l : List (List ℕ)). took rounds a ++ l) on_way)

          both : had ++ ((each.paid ++ each.rest) ++ moves_in (commands_of q.rest)) ≡ had ++ (side ∷ moves_in (commands_of gives_on.0))
          both = sym (append_assoc had (each.paid ++ each.rest) (moves_in (commands_of q.rest))) ∙ ap (λ (l : List Side). l ++ moves_in (commands_of q.rest)) (sym each.taken)
              ∙ sym (moves_all (took new_rounds b) q.rest)
              ∙ ap (λ (l : List (List ℕ)). moves_in (commands_of l)) items ∙ moves_all (took rounds a ++ move_item ∷ []) gives_on.0
              ∙ ap (λ (l : List Side). l ++ moves_in (commands_of gives_on.0)) (moves_all (took rounds a) (move_item ∷ []) ∙ ap (λ (l : List Side). had ++ l) moves_side)
              ∙ append_assoc had (side ∷ []) (moves_in (commands_of gives_on.0))

      told_before : told_in connection rounds ≡ heard rounds a
      told_before = all_heard counts.0

      in_new : slice_get (world_at new_rounds).interlocking.connections link ≡ Some (Some connection)
      in_new = q.connections ∙ ap (λ (n : ℕ). Some (Some n)) each.one

      room_new : HasRoomAt place (then_at new_rounds).state × HasRoomBehind place others (then_at new_rounds)
      room_new =
          let r = subst (λ (l : List (List Event)). HasRoomBehind place l (then_at rounds)) more_is room_then
          in subst (λ (g : Flowing). HasRoomAt place g.state × HasRoomBehind place others g) (sym (last_round rounds first next)) (r.0, r.1)

      -- it isn't answered, nor waits, without having been taken
      taken_then : each.paid ≡ [] → unanswered q.controller.host.object.progress ≡ 0 → ⊥
      taken_then none idle_then =
          let over = came_over laws between flowing place once station is_table reached work few rounds first long_rounds a b
          in let told = ap length each.given
          in let both = length-append (told_in connection rounds) (map (report_of q.controller.host) each.paid)
          in let no_more = ap (λ (l : List Side). length (map (report_of q.controller.host) l)) none
          in let sent = ap length (sent_is laws between flowing place once station is_table reached work few new_rounds b)
          ∙ ap (λ (n : ℕ). length (told_in n new_rounds)) each.one
          in let given = q.server_given
          in let balance = q.balance
          in let taken = q.server_taken
          in let count = told_count
          in let heard_more = one_more_heard
          in let few_told = counts.0
          in omega (arith, over, told, both, no_more, sent, given, balance, taken, count, heard_more, few_told, idle_then)

      by_sides : (paid rest : List Side) → each.paid ≡ paid → each.rest ≡ rest → TakesReportBehind site place side more (then_at rounds)
      by_sides [] [] paid_is rest_is = absurd (by_stands _ each.stands)
        where
          by_stands : (n : ℕ) → Stands n each.rest q.controller.host → ⊥
          by_stands n (has_none e is) = taken_then paid_is (ap unanswered e)
          by_stands n (drives_to s e is) = absurd (cc (sym rest_is ∙ is))
          by_stands n (owes_that s e there is) = absurd (cc (sym rest_is ∙ is))
      by_sides [] (s ∷ rest) paid_is rest_is = by_stands _ each.stands
        where
          s_is : s ≡ side
          s_is = first_same s side _ _ (sym (ap (λ (l : List Side). l ++ moves_in (commands_of q.rest)) (ap (λ (l : List Side). l ++ each.rest) paid_is ∙ rest_is)) ∙ begins_so)

          told_new : told_in connection new_rounds ≡ heard rounds a
          told_new = each.given ∙ ap (λ (l : List Side). told_in connection rounds ++ map (report_of q.controller.host) l) paid_is ∙ append-nil (told_in connection rounds) ∙ told_before

          by_stands : (n : ℕ) → Stands n each.rest q.controller.host → TakesReportBehind site place side more (then_at rounds)
          by_stands n (has_none e is) = absurd (cc (sym rest_is ∙ is))
          by_stands n (owes_that to e there is) = absurd (subst IsPaid e (paid_here laws between flowing place once station is_table reached work few new_rounds b room_new.0))
          by_stands n (drives_to to e is) =
              let to_is : to ≡ side = sym (first_same s to rest [] (sym rest_is ∙ is)) ∙ s_is
              in subst (λ (l : List (List Event)). TakesReportBehind site place side l (then_at rounds)) (sym more_is)
              (drive_comes rounds a long_rounds (first ∷ []) others whole (let m = ap length more_is in omega (arith, m, many)) room_new.1 n
              (q.controller, q.there, e ∙ ap (λ (x : Side). Progress.Driving x n) to_is) connection p.connections in_new told_new)
      by_sides (s ∷ paid) rest paid_is rest_is = by_others others refl
        where
          s_is : s ≡ side
          s_is = first_same s side _ _ (sym (ap (λ (l : List Side). l ++ moves_in (commands_of q.rest)) (ap (λ (l : List Side). l ++ each.rest) paid_is)) ∙ begins_so)

          told_new : told_in connection new_rounds ≡ heard rounds a ++ item side ∷ map (report_of q.controller.host) paid
          told_new = each.given ∙ ap (λ (l : List Side). told_in connection rounds ++ map (report_of q.controller.host) l) paid_is
              ∙ ap (λ (l : List (List ℕ)). l ++ report_of q.controller.host s ∷ map (report_of q.controller.host) paid) told_before
              ∙ ap (λ (one : List ℕ). heard rounds a ++ one ∷ map (report_of q.controller.host) paid) (spells_so new_rounds q.controller q.there s ∙ ap item s_is)

          by_others : (list : List (List Event)) → others ≡ list → TakesReportBehind site place side more (then_at rounds)
          by_others [] e = let n = ap length more_is in let m = ap length e in absurd (omega (arith, n, m, many))
          by_others (second ∷ list) e =
              let is : more ≡ ((first ∷ []) ++ second ∷ []) ++ list = more_is ∙ ap (λ (l : List (List Event)). first ∷ l) e
              in subst (λ (l : List (List Event)). TakesReportBehind site place side l (then_at rounds)) (sym is)
              (comes_next rounds a long_rounds (first ∷ []) second list (subst (λ (l : List (List Event)). OfRounds (rounds ++ l)) is all) connection p.connections in_new
              (map (report_of q.controller.host) paid) told_new)

      on_its_way : TakesReportBehind site place side more (then_at rounds)
      on_its_way = by_sides each.paid each.rest refl refl

    -- ---- its report is on its way to the interlocking

    module _ (idle : p.controller.host.object.progress ≡ Progress.Answered) (all_taken : length (gave rounds a) ≤ length (took rounds a)) where
      same_link : connection_of rounds a ≡ connection_of front f
      same_link = same_connection laws between flowing place once station is_table reached work few front last long f a

      -- the interlocking has taken all but one
      but_one : length heard_parts.rest ≡ 1
      but_one =
          let parts = ap length heard_parts.beginning
          in let both = length-append (heard rounds a) heard_parts.rest
          in let none = ap unanswered idle
          in let balance = p.balance
          in let taken = p.server_taken
          in let told = told_count
          in let heard_more = one_more_heard
          in let few_taken = took_few
          in omega (arith, parts, both, none, balance, taken, told, heard_more, few_taken, all_taken)

      flies : (x : List ℕ) × (heard_parts.rest ≡ x ∷ [])
      flies = one_left heard_parts.rest but_one

      told_all : told_in connection rounds ≡ heard rounds a ++ flies.0 ∷ []
      told_all = heard_parts.beginning ∙ ap (λ (l : List (List ℕ)). heard rounds a ++ l) flies.1

      -- it had told fewer a round before
      fewer_before : length (told_in (connection_of front f) front) < length (told_in connection rounds)
      fewer_before =
          let back = came_back laws between flowing place once station is_table reached work few front last long f a
          in let now = ap length told_all
          in let both = length-append (heard rounds a) (flies.0 ∷ [])
          in omega (arith, back, now, both)

      took_all : took rounds a ≡ gave rounds a
      took_all =
          let parts = ap length p.begins
          in let both = length-append (took rounds a) p.rest
          in sym (append-nil (took rounds a)) ∙ ap (λ (l : List (List ℕ)). took rounds a ++ l) (sym (none_left p.rest (omega (arith, parts, both, all_taken)))) ∙ sym p.begins

      -- where it had answered all, its last report is that of the last move
      flies_idle : before.controller.host.object.progress ≡ Progress.Answered → flies.0 ≡ item side
      flies_idle was = by_paid (decide 1 (length each.paid))
        where
          each : ReportsEach laws stay between flowing place once station is_table reached work few notes front last long f a was
          each = reports_each laws stay between flowing place once station is_table reached work few notes front last long f a was

          had : List Side
          had = moves_in (commands_of (took front f))

          told_is : told_in connection rounds ≡ told_in (connection_of front f) front ++ map (report_of p.controller.host) each.paid
          told_is = ap (λ (n : ℕ). told_in n rounds) same_link ∙ each.given

          none_waits : (n : ℕ) → Stands n each.rest p.controller.host → each.rest ≡ []
          none_waits n (has_none e is) = is
          none_waits n (drives_to s e is) = absurd (cc (sym idle ∙ e))
          none_waits n (owes_that s e there is) = absurd (cc (sym idle ∙ e))

          moves_are : had ++ each.paid ≡ moves_in (commands_of last_move.front) ++ side ∷ []
          moves_are = ap (λ (l : List Side). had ++ l) (sym (append-nil each.paid) ∙ ap (λ (l : List Side). each.paid ++ l) (sym (none_waits _ each.stands))) ∙ sym each.taken
              ∙ ap (λ (l : List (List ℕ)). moves_in (commands_of l)) (took_all ∙ last_move.are)
              ∙ moves_all last_move.front (move_item ∷ []) ∙ ap (λ (l : List Side). moves_in (commands_of last_move.front) ++ l) moves_side

          by_last : Last (length each.paid - 1) each.paid → flies.0 ≡ item side
          by_last l = last_same (heard rounds a) (told_in (connection_of front f) front ++ map (report_of p.controller.host) l.front) flies.0 (report_of p.controller.host l.last) (sym told_all
              ∙ told_is
              ∙ ap (λ (m : List (List ℕ)). told_in (connection_of front f) front ++ m) (ap (map (report_of p.controller.host)) l.are ∙ map_both (report_of p.controller.host) l.front (l.last ∷ []))
              ∙ sym (append_assoc (told_in (connection_of front f) front) (map (report_of p.controller.host) l.front) (report_of p.controller.host l.last ∷ [])))
              ∙ spells_so rounds p.controller p.there l.last
              ∙ ap item (last_same (had ++ l.front) (moves_in (commands_of last_move.front)) l.last side (append_assoc had l.front (l.last ∷ []) ∙ ap (λ (m : List Side). had ++ m) (sym l.are)
              ∙ moves_are))

          by_paid : (1 ≤ length each.paid) ⊎ (length each.paid < 1) → flies.0 ≡ item side
          by_paid (inl some) = by_last (last_of (length each.paid - 1) each.paid (omega (arith, some)))
          by_paid (inr none) =
              let all_told = ap length told_is
              in let both = length-append (told_in (connection_of front f) front) (map (report_of p.controller.host) each.paid)
              in let no_more = ap (λ (l : List Side). length (map (report_of p.controller.host) l)) (none_left each.paid (omega (arith, none)))
              in let less = fewer_before
              in absurd (omega (arith, all_told, both, no_more, less))

      -- where it drove, its report is that of this drive
      flies_driven : (to : Side) (since : ℕ) → before.controller.host.object.progress ≡ Progress.Driving to since → flies.0 ≡ item side
      flies_driven to since was = choose (drive_goes_on laws between flowing place once station is_table reached work few laws to since (connection_of front f) (last ∷ []) front long f a
          (told_in (connection_of front f) front) starts (room.0, tt))
        where
          starts : DrivesAt laws between flowing place once station is_table reached work few laws to since (connection_of front f) front f (10 * length (last ∷ []))
              (told_in (connection_of front f) front)
          starts = record {
            inside = before.connections;
            is_driving = was;
            early = let least = far_at laws between flowing place to since once station is_table reached work few notes front f (before.controller, before.there, was) in omega (arith, least);
            given = refl;
          }

          undriven : IsDriven place to (then_at rounds).state → ⊥
          undriven is = none-some to (sym (ap (driven (reading_of p.controller.clock) p.controller.host.object.until) idle) ∙ sym (found_there place (then_at rounds).state p.controller
              (subst (λ (s : SitedTable). place < length s.site.points)
              (sym (rounds_reached laws flowing.state.sited (between ∷ rounds) flowing (record { same = refl; reached = reached })).same) few) p.there) ∙ is)

          by_done : (done others : List (List Event)) → last ∷ [] ≡ done ++ others
              → ReportedAt laws between flowing place once station is_table reached work few laws to since (connection_of front f) (front ++ done) (told_in (connection_of front f) front)
              → flies.0 ≡ item side
          by_done [] others parts reported =
              let same = ap length reported.given
              in let both = length-append (told_in (connection_of front f) front) (report_of reported.c.host to ∷ [])
              in let here = ap (λ (r : List (List Event)). length (told_in (connection_of front f) r)) (append-nil front)
              in absurd (omega (arith, same, both, here))
          by_done (one ∷ done) others parts reported = last_same (heard rounds a) (told_in (connection_of front f) front) flies.0 (report_of reported.c.host to) (sym told_all ∙ told_is)
              ∙ spells_so (front ++ one ∷ done) reported.c reported.there to ∙ ap item to_side
            where
              done_is : front ++ one ∷ done ≡ rounds
              done_is = ap (λ (l : List (List Event)). front ++ l) (only one done others parts)
                where
                  only : (x : List Event) (xs ys : List (List Event)) → last ∷ [] ≡ (x ∷ xs) ++ ys → x ∷ xs ≡ last ∷ []
                  only x [] ys e = let same : last ≡ x = cc e in ap (λ (y : List Event). y ∷ []) (sym same)
                  only x (y ∷ xs) ys e = let n = ap length e in let m = length-append (x ∷ (y ∷ xs)) ys in absurd (omega (arith, n, m))

              told_is : told_in connection rounds ≡ told_in (connection_of front f) front ++ report_of reported.c.host to ∷ []
              told_is = ap (λ (n : ℕ). told_in n rounds) same_link ∙ ap (told_in (connection_of front f)) (sym done_is) ∙ reported.given

              -- it drove for the last move that the interlocking has given
              took_before : gave rounds a ≡ took front f
              took_before =
                  let on = gave_on laws between flowing place once station is_table reached work few front last long f a
                  in let all_of = on.1 ∙ ap (λ (l : List (List ℕ)). l ++ on.0) before.begins ∙ append_assoc (took front f) before.rest on.0
                  in let whole = ap length all_of
                  in let both = length-append (took front f) (before.rest ++ on.0)
                  in let told = ap length told_is
                  in let parts = length-append (told_in (connection_of front f) front) (report_of reported.c.host to ∷ [])
                  in let sent = ap length (sent_is laws between flowing place once station is_table reached work few front f)
                  in let given = before.server_given
                  in let balance = before.balance
                  in let waits = ap unanswered was
                  in let taken = before.server_taken
                  in let now_told = ap length told_all
                  in let now_both = length-append (heard rounds a) (flies.0 ∷ [])
                  in let heard_more = one_more_heard
                  in all_of ∙ ap (λ (l : List (List ℕ)). took front f ++ l)
                  (none_left (before.rest ++ on.0) (omega (arith, whole, both, told, parts, sent, given, balance, waits, taken, now_told, now_both, heard_more))) ∙ append-nil (took front f)

              to_side : to ≡ side
              to_side = same_Some to side (sym (before.owes.last to since was) ∙ ap (λ (l : List (List ℕ)). last_side None (commands_of l)) (sym took_before)
                  ∙ one_side laws between flowing place once station is_table reached work few rounds a awaits move request side held)

          choose : ReportedBy laws between flowing place once station is_table reached work few laws to since (connection_of front f) front (last ∷ []) (told_in (connection_of front f) front)
              ⊎ IsDrivenBehind place to (last ∷ []) (then_at front) → flies.0 ≡ item side
          choose (inl by) = by_done by.done by.others by.parts by.reported
          choose (inr driven_on) = absurd (undriven (subst (λ (g : Flowing). IsDriven place to g.state) (sym last_is) driven_on.0))

      flies_side : flies.0 ≡ item side
      flies_side = by_progress before.controller.host.object.progress refl (paid_here laws between flowing place once station is_table reached work few front f room_before)
        where
          by_progress : (how : Progress) → before.controller.host.object.progress ≡ how → IsPaid before.controller.host.object.progress → flies.0 ≡ item side
          by_progress Progress.Answered e paid = flies_idle e
          by_progress (Progress.Driving to since) e paid = flies_driven to since e
          by_progress Progress.Arrived e paid = absurd (subst IsPaid e paid)
          by_progress Progress.TimedOut e paid = absurd (subst IsPaid e paid)

      in_flight : TakesReportBehind site place side more (then_at rounds)
      in_flight = by_more more refl
        where
          here : rounds ++ [] ≡ rounds
          here = append-nil rounds

          by_more : (list : List (List Event)) → more ≡ list → TakesReportBehind site place side more (then_at rounds)
          by_more [] e = let n = ap length e in absurd (omega (arith, n, many))
          by_more (first ∷ others) e = subst (λ (l : List (List Event)). TakesReportBehind site place side l (then_at rounds)) (sym e)
              (comes_next rounds a long_rounds [] first others (subst (λ (l : List (List Event)). OfRounds (rounds ++ l)) e all) connection p.connections
              (subst (λ (r : List (List Event)). slice_get (world_at r).interlocking.connections link ≡ Some (Some connection)) (sym here) p.connections) []
              (ap (told_in connection) here ∙ told_all ∙ ap (λ (x : List ℕ). heard rounds a ++ x ∷ []) flies_side))

    pub report_taken : TakesReportBehind site place side more (then_at rounds)
    report_taken = by_progress p.controller.host.object.progress refl (paid_here laws between flowing place once station is_table reached work few rounds a room_now)
      where
        by_more : (list : List (List Event)) → more ≡ list → p.controller.host.object.progress ≡ Progress.Answered → length (took rounds a) < length (gave rounds a)
            → TakesReportBehind site place side more (then_at rounds)
        by_more [] e idle short = let n = ap length e in absurd (omega (arith, n, many))
        by_more (first ∷ others) e idle short = on_its_way idle short first others e

        by_taken : p.controller.host.object.progress ≡ Progress.Answered → (length (gave rounds a) ≤ length (took rounds a)) ⊎ (length (took rounds a) < length (gave rounds a))
            → TakesReportBehind site place side more (then_at rounds)
        by_taken idle (inl taken) = in_flight idle taken
        by_taken idle (inr short) = by_more more refl idle short

        by_progress : (how : Progress) → p.controller.host.object.progress ≡ how → IsPaid p.controller.host.object.progress → TakesReportBehind site place side more (then_at rounds)
        by_progress Progress.Answered e paid = by_taken e (decide (length (gave rounds a)) (length (took rounds a)))
        by_progress (Progress.Driving to since) e paid = in_drive to since e
        by_progress Progress.Arrived e paid = absurd (subst IsPaid e paid)
        by_progress Progress.TimedOut e paid = absurd (subst IsPaid e paid)

-- ---- after each round from the one on from which links are ready

module _ (laws : LawsBelow) (stay : LawsBelow) (move : MoveLaw) (request : RequestLaw) (wait : FewWaitLaw) (between : List Event) (more : List (List Event))
    (flowing : Flowing) (place : ℕ) (side : Side) (once : Once flowing.state.sited.site) (station : IsStation flowing.state.sited.site)
    (is_table : IsTableOf flowing.state.sited.site flowing.state.sited.table) (reached : IsReached flowing.state.sited.site flowing.state.sited.table flowing.state.run)
    (work : Each IsWork between) (few : place < length flowing.state.sited.site.points)
    (notes : length flowing.state.sited.site.points ≤ length flowing.drives) (many : length more ≡ move_rounds) where
  abbrev Reports : List (List Event) → Type 0
  Reports later = Each (Each IsWork) (later ++ more) → HasTime (suc (length (later ++ more))) flowing.state.run → ready_rounds ≤ suc (length later)
      → StaysBelowLimit flowing.state.sited.site (point_link flowing.state.sited.site place) (later ++ more) (all_tried between (round flowing))
      → AwaitsMove place (good_rounds (between ∷ later) flowing).state.run
      → IsHeldAt flowing.state.sited.table (good_rounds (between ∷ later) flowing).state.run.interlocking.ixl place side
      → TakesReportBehind flowing.state.sited.site place side more (good_rounds (between ∷ later) flowing)

  of_last : (front : List (List Event)) (last : List Event) → Reports (front ++ last ∷ [])
  of_last front last works can long below awaits held =
      let count = count_front front last
      in let all = length-append (front ++ last ∷ []) more
      in report_taken laws stay move request between flowing place side once station is_table reached work few notes front last more (omega (arith, long, count))
      (record { works = works; can = can; room = below; long = omega (arith, long, all) }) many
      (has_room laws wait flowing once station is_table reached place (between ∷ front))
      (room_behind laws wait flowing once station is_table reached place (between ∷ front) (last ∷ more)) awaits held

  pub moves_reported : (later : List (List Event)) → Reports later
  moves_reported later works can long = by_last (last_of (length later - 1) later (omega (arith, long))) works can long
    where
      by_last : Last (length later - 1) later → Reports later
      by_last l = subst Reports (sym l.are) (of_last l.front l.last)
