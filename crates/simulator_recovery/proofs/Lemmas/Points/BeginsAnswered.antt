-- The moves that a point was given after a good round are answered so many rounds later.
use Rattle.simulator_recovery.proofs.Words.Basics.{◌≡◌, ℕ, suc, ◌∙◌, ◌+◌, ◌≤◌, ◌<◌, List, [], ◌∷◌, ◌++◌, append-nil, append_assoc, length, Some, slice_get, refl, sym, ap, subst, arith, length-append, same_Some}
use Rattle.simulator_recovery.proofs.Words.Links.{Each, LinkState}
use Rattle.simulator_recovery.proofs.Words.Controllers.{Side, unanswered, Progress}
use Rattle.simulator_recovery.proofs.Words.Interlockings.{IsTableOf}
use Rattle.simulator_recovery.proofs.Words.Stations.{Site, Once, IsStation, Event, Flowing, round, ServerEnd, client_links, server_ends, point_link, WorldState, IsReached}
use Rattle.simulator_recovery.proofs.Words.Recovery.{IsUpOn, StaysBelowLimit, AreAnswered, ReportComesBehind, drive_rounds, move_rounds, reports_in, ready_rounds, HasTime, IsWork, all_tried, good_rounds, LawsBelow}
use Rattle.simulator_recovery.proofs.Lemmas.Points.BeginsStep.{report_of}
use Rattle.simulator_recovery.proofs.Lemmas.Points.BeginsMoment.{sent_is}
use Rattle.simulator_recovery.proofs.Lemmas.Points.BeginsReports.{comes_back}
use Rattle.simulator_recovery.proofs.Lemmas.Points.MovesAnswered.{rounds_both}
use Rattle.simulator_recovery.proofs.Lemmas.Points.MovesBehind.{Are, Passing, front_are, paid_here, passes, point, same_client, same_server, up_at}
use Rattle.simulator_recovery.proofs.Lemmas.Points.MovesMoment.{PointAt}
use Rattle.simulator_recovery.proofs.Lemmas.Points.MovesPaid.{IsPaid}
use Rattle.simulator_recovery.proofs.Lemmas.Points.RoomBehind.{HasRoomAt, HasRoomBehind}
use Rattle.simulator_recovery.proofs.Lemmas.Lamps.StopComes.{last_round}
use Rattle.simulator_recovery.proofs.Lemmas.Links.UnderHosts.{host_rounds}

module _ (laws : LawsBelow) (stay : LawsBelow) (between : List Event) (flowing : Flowing) (place : ℕ) (once : Once flowing.state.sited.site) (station : IsStation flowing.state.sited.site)
    (is_table : IsTableOf flowing.state.sited.site flowing.state.sited.table) (reached : IsReached flowing.state.sited.site flowing.state.sited.table flowing.state.run)
    (work : Each IsWork between)
    (few : place < length flowing.state.sited.site.points) (notes : length flowing.state.sited.site.points ≤ length flowing.drives) where
  abbrev site : Site
  site = flowing.state.sited.site

  abbrev link : ℕ
  link = point_link site place

  abbrev next : Flowing
  next = all_tried between (round flowing)

  abbrev then_at : List (List Event) → Flowing
  then_at rounds = good_rounds rounds next

  abbrev world_at : List (List Event) → WorldState
  world_at rounds = (then_at rounds).state.run

  abbrev OfRounds : List (List Event) → Type 0
  OfRounds rounds = Are laws between flowing place once station is_table reached work few rounds

  abbrev up_of : (rounds : List (List Event)) → OfRounds rounds → IsUpOn link (world_at rounds)
  up_of rounds a = up_at laws between flowing place once station is_table reached work few rounds a

  abbrev point_of : (rounds : List (List Event)) (a : OfRounds rounds) → PointAt site (world_at rounds) place (up_of rounds a)
  point_of rounds a = point laws between flowing place once station is_table reached work few rounds a

  abbrev front_of : (front rest : List (List Event)) → host_rounds ≤ suc (length front) → OfRounds (front ++ rest) → OfRounds front
  front_of front rest long a = front_are laws between flowing place once station is_table reached work few front rest long a

  -- so many items were taken of a controller
  abbrev Heard : ℕ → (rounds : List (List Event)) → OfRounds rounds → Type 0
  Heard count rounds a = count ≤ (up_of rounds a).client.taken

  longer : (front : List (List Event)) (last : List Event) → host_rounds ≤ suc (length front) → host_rounds ≤ suc (length (front ++ last ∷ []))
  longer front last long = let n = length-append front (last ∷ []) in omega (arith, long, n)

  heard_same : (count : ℕ) (one other : List (List Event)) → one ≡ other → (a : OfRounds one) (b : OfRounds other) → Heard count one a → Heard count other b
  heard_same count one other same a b heard =
      let taken = ap (λ (l : LinkState). l.taken) (same_Some (up_of one a).client (up_of other b).client
      (sym (up_of one a).client_there ∙ ap (λ (r : List (List Event)). slice_get (client_links (world_at r).interlocking.ixl) link) same ∙ (up_of other b).client_there))
      in omega (arith, heard, taken)

  -- ---- from one round to the next

  module _ (front : List (List Event)) (last : List Event) (long : host_rounds ≤ suc (length front)) (f : OfRounds front) (a : OfRounds (front ++ last ∷ [])) where
    pass : Passing link (world_at front) (world_at (front ++ last ∷ []))
    pass = passes laws between flowing place once station is_table reached work few front last long a

    -- what was sent by the first is taken by the second
    comes_over : (up_of front f).server.link.given ≤ (up_of (front ++ last ∷ []) a).client.taken
    comes_over =
        let over = pass.over.to_interlocking
        in let was = ap (λ (s : ServerEnd). s.link.given) (same_server pass.over.before (up_of front f))
        in let is = ap (λ (l : LinkState). l.taken) (same_client pass.over.behind (up_of (front ++ last ∷ []) a))
        in omega (arith, over, was, is)

    goes_over : (up_of front f).client.given ≤ (up_of (front ++ last ∷ []) a).server.link.taken
    goes_over =
        let over = pass.over.to_controller
        in let was = ap (λ (l : LinkState). l.given) (same_client pass.over.before (up_of front f))
        in let is = ap (λ (s : ServerEnd). s.link.taken) (same_server pass.over.behind (up_of (front ++ last ∷ []) a))
        in omega (arith, over, was, is)

  -- what was taken stays so
  heard_on : (count : ℕ) (rest front : List (List Event)) → host_rounds ≤ suc (length front) → (f : OfRounds front) (a : OfRounds (front ++ rest)) → Heard count front f
      → Heard count (front ++ rest) a
  heard_on count [] front long f a heard = heard_same count front (front ++ []) (sym (append-nil front)) f a heard
  heard_on count (one ∷ rest) front long f a heard =
      let whole = subst OfRounds (sym (append_assoc front (one ∷ []) rest)) a
      in let on = front_of (front ++ one ∷ []) rest (longer front one long) whole
      in let over = comes_over front one long f on
      in let fewer = (point_of front f).fewer
      in heard_same count ((front ++ one ∷ []) ++ rest) (front ++ one ∷ rest) (append_assoc front (one ∷ []) rest) whole a
      (heard_on count rest (front ++ one ∷ []) (longer front one long) on whole (omega (arith, heard, over, fewer)))

  -- ---- a round in which what was given comes over, and those after it

  module _ (rounds : List (List Event)) (first : List Event) (rest : List (List Event)) (long : host_rounds ≤ suc (length rounds)) (f : OfRounds rounds)
      (all : OfRounds ((rounds ++ first ∷ []) ++ rest)) (many : length rest ≡ suc drive_rounds)
      (room : HasRoomBehind place (first ∷ rest) (then_at rounds)) where
    abbrev on : List (List Event)
    on = rounds ++ first ∷ []

    long_on : host_rounds ≤ suc (length on)
    long_on = longer rounds first long

    a : OfRounds on
    a = front_of on rest long_on all

    abbrev q : PointAt site (world_at on) place (up_of on a)
    q = point_of on a

    abbrev given : ℕ
    given = (up_of rounds f).client.given

    took : given ≤ (up_of on a).server.link.taken
    took = goes_over rounds first long f a

    on_is : then_at on ≡ all_tried first (round (then_at rounds))
    on_is = last_round rounds first next

    -- so many items come in a round, and stay so
    heard_behind : (front : List (List Event)) (last : List Event) (others : List (List Event)) → rest ≡ front ++ last ∷ others → (b : OfRounds (on ++ front))
        → 2 + given ≤ (up_of (on ++ front) b).server.link.given → Heard (2 + given) (on ++ rest) all
    heard_behind front last others parts b sent =
        let joined = ap (λ (list : List (List Event)). on ++ list) parts ∙ sym (append_assoc on front (last ∷ others)) ∙ sym (append_assoc (on ++ front) (last ∷ []) others)
        in let long_then : host_rounds ≤ suc (length (on ++ front)) = (let n = length-append on front in let l = long_on in omega (arith, l, n))
        in let whole = subst OfRounds joined all
        in let c = front_of ((on ++ front) ++ last ∷ []) others (longer (on ++ front) last long_then) whole
        in let over = comes_over (on ++ front) last long_then b c
        in heard_same (2 + given) (((on ++ front) ++ last ∷ []) ++ others) (on ++ rest) (sym joined) whole all
        (heard_on (2 + given) others ((on ++ front) ++ last ∷ []) (longer (on ++ front) last long_then) c whole (omega (arith, over, sent)))

    -- it has answered them already
    heard_idle : q.controller.host.object.progress ≡ Progress.Answered → Heard (2 + given) (on ++ rest) all
    heard_idle idle = by_rest rest refl
      where
        by_rest : (list : List (List Event)) → rest ≡ list → Heard (2 + given) (on ++ rest) all
        by_rest [] e = let n = ap length e in absurd (omega (arith, n, many))
        by_rest (last ∷ others) e =
            let here = append-nil on
            in let b = subst OfRounds (sym here) a
            in heard_behind [] last others e b (sent_then (on ++ []) here b)
          where
            sent_then : (list : List (List Event)) → list ≡ on → (b : OfRounds list) → 2 + given ≤ (up_of list b).server.link.given
            sent_then list same b =
                let none = ap unanswered idle
                in let balance = q.balance
                in let t = took
                in let counts = ap (λ (s : ServerEnd). s.link.given) (same_Some (up_of list b).server (up_of on a).server
                (sym (up_of list b).server_there ∙ ap (λ (r : List (List Event)). slice_get (server_ends (world_at r)) link) same ∙ (up_of on a).server_there))
                in omega (arith, none, balance, t, counts)

    -- or drives for the last of them
    heard_driven : (side : Side) (since : ℕ) → q.controller.host.object.progress ≡ Progress.Driving side since → Heard (2 + given) (on ++ rest) all
    heard_driven side since e = heard_behind r.front r.last r.rest r.parts b sent
      where
        r : ReportComesBehind site place side rest (then_at on)
        r = comes_back laws between flowing place side since once station is_table reached work few notes stay on rest long_on all many (subst (HasRoomBehind place rest) (sym on_is) room.1)
            (q.controller, q.there, e)

        then_is : then_at (on ++ r.front) ≡ good_rounds r.front (then_at on)
        then_is = rounds_both on r.front next

        b : OfRounds (on ++ r.front)
        b = front_of (on ++ r.front) (r.last ∷ r.rest) (let n = length-append on r.front in let l = long_on in omega (arith, l, n))
            (subst OfRounds (ap (λ (list : List (List Event)). on ++ list) r.parts ∙ sym (append_assoc on r.front (r.last ∷ r.rest))) all)

        connection : ℕ
        connection = r.reports.connection

        first_is : q.one.connection ≡ connection
        first_is = same_Some q.one.connection connection (same_Some (Some q.one.connection) (Some connection) (sym q.connections ∙ r.reports.was_in))

        then_in : (point_of (on ++ r.front) b).one.connection ≡ connection
        then_in = same_Some (point_of (on ++ r.front) b).one.connection connection (same_Some (Some (point_of (on ++ r.front) b).one.connection) (Some connection)
            (sym (point_of (on ++ r.front) b).connections ∙ subst (λ (g : Flowing). slice_get g.state.run.interlocking.connections link ≡ Some (Some connection)) (sym then_is) r.reports.is_in))

        sent : 2 + given ≤ (up_of (on ++ r.front) b).server.link.given
        sent =
            let was = q.server_given ∙ ap length (sent_is laws between flowing place once station is_table reached work few on a)
            ∙ ap (λ (n : ℕ). length (reports_in site place n (world_at on))) first_is
            in let is = (point_of (on ++ r.front) b).server_given ∙ ap length (sent_is laws between flowing place once station is_table reached work few (on ++ r.front) b)
            ∙ ap (λ (n : ℕ). length (reports_in site place n (world_at (on ++ r.front)))) then_in ∙ ap (λ (g : Flowing). length (reports_in site place connection g.state.run)) then_is
            ∙ ap length r.reports.reported
            in let more = length-append (reports_in site place connection (world_at on)) (report_of r.reports.controller.host side ∷ [])
            in let waits = ap unanswered e
            in let balance = q.balance
            in let t = took
            in omega (arith, was, is, more, waits, balance, t)

    answered_then : Heard (2 + given) (on ++ rest) all
    answered_then = by_progress q.controller.host.object.progress refl (paid_here laws between flowing place once station is_table reached work few on a
        (subst (λ (g : Flowing). HasRoomAt place g.state) (sym on_is) room.0))
      where
        by_progress : (how : Progress) → q.controller.host.object.progress ≡ how → IsPaid q.controller.host.object.progress → Heard (2 + given) (on ++ rest) all
        by_progress Progress.Answered e paid = heard_idle e
        by_progress (Progress.Driving side since) e paid = heard_driven side since e
        by_progress Progress.Arrived e paid = absurd (subst IsPaid e paid)
        by_progress Progress.TimedOut e paid = absurd (subst IsPaid e paid)

pub answered : (laws : LawsBelow) → LawsBelow → (between : List Event) (later_rounds more : List (List Event)) (flowing : Flowing) (place : ℕ) → Once flowing.state.sited.site
    → IsStation flowing.state.sited.site
    → IsTableOf flowing.state.sited.site flowing.state.sited.table → IsReached flowing.state.sited.site flowing.state.sited.table flowing.state.run → Each IsWork between
    → Each (Each IsWork) (later_rounds ++ more)
    → HasTime (suc (length (later_rounds ++ more))) flowing.state.run → place < length flowing.state.sited.site.points → length flowing.state.sited.site.points ≤ length flowing.drives
    → ready_rounds ≤ suc (length later_rounds)
    → length more ≡ move_rounds → StaysBelowLimit flowing.state.sited.site (point_link flowing.state.sited.site place) (later_rounds ++ more) (all_tried between (round flowing))
    → HasRoomBehind place more (good_rounds (between ∷ later_rounds) flowing)
    → AreAnswered (point_link flowing.state.sited.site place) (good_rounds (between ∷ later_rounds) flowing).state.run (good_rounds (between ∷ (later_rounds ++ more)) flowing).state.run
answered laws stay between later_rounds [] flowing place once station is_table reached work works can few notes long many below room = absurd (omega (arith, many))
answered laws stay between later_rounds (first ∷ rest) flowing place once station is_table reached work works can few notes long many below room = record {
  before = up_at laws between flowing place once station is_table reached work few later_rounds f;
  behind = up_at laws between flowing place once station is_table reached work few (later_rounds ++ first ∷ rest) all;
  answered = heard_same laws stay between flowing place once station is_table reached work few notes _ ((later_rounds ++ first ∷ []) ++ rest) (later_rounds ++ first ∷ rest)
      (append_assoc later_rounds (first ∷ []) rest) joined all
      (answered_then laws stay between flowing place once station is_table reached work few notes later_rounds first rest (omega (arith, long)) f joined (omega (arith, many)) room);
}
  where
    all : Are laws between flowing place once station is_table reached work few (later_rounds ++ first ∷ rest)
    all = record { works = works; can = can; room = below; long = let n = length-append later_rounds (first ∷ rest) in omega (arith, long, n) }

    f : Are laws between flowing place once station is_table reached work few later_rounds
    f = front_are laws between flowing place once station is_table reached work few later_rounds (first ∷ rest) (omega (arith, long)) all

    joined : Are laws between flowing place once station is_table reached work few ((later_rounds ++ first ∷ []) ++ rest)
    joined = subst (Are laws between flowing place once station is_table reached work few) (sym (append_assoc later_rounds (first ∷ []) rest)) all
