-- Every drive that is found in good rounds ends with its report, and the report comes back.
use Rattle.simulator_recovery.proofs.Words.Basics.{◌≡◌, ◌⊎◌, inl, inr, ℕ, suc, ◌∙◌, ◌+◌, ◌*◌, ◌-◌, ◌≤◌, ◌<◌, List, [], ◌∷◌, ◌++◌, append_assoc, length, Some, slice_get, refl, sym, ap, subst, arith, ltb-true, nat_tests, length-append, same_Some}
use Rattle.simulator_recovery.proofs.Words.Links.{Each, reading_of}
use Rattle.simulator_recovery.proofs.Words.Controllers.{Side, PointState, drive_end, Progress}
use Rattle.simulator_recovery.proofs.Words.Interlockings.{IsTableOf, SitedTable}
use Rattle.simulator_recovery.proofs.Words.Stations.{Once, IsStation, Event, Flowing, round, point_link, ClockedControllerState, IsReached}
use Rattle.simulator_recovery.proofs.Words.Recovery.{StaysBelowLimit, DrivesSince, HasReported, IsDriven, IsDrivenBehind, IsDriving, ReportComesBehind, ReportsBehind, ReportsCome, drive_rounds, drive_time, reports_in, ready_rounds, HasTime, IsWork, all_tried, good_rounds, LawsBelow}
use Rattle.simulator_recovery.proofs.Lemmas.Points.BeginsYoung.{LastOf, WasDriving, back, last_so_many}
use Rattle.simulator_recovery.proofs.Lemmas.Points.DrivenPoints.{drives_end}
use Rattle.simulator_recovery.proofs.Lemmas.Points.MovesAnswered.{first_of_more, room_front, rounds_both}
use Rattle.simulator_recovery.proofs.Lemmas.Points.MovesBehind.{Are, DrivesAt, ReportedBy, clock_at, drive_goes_on, driven_here, front_are, inside_here, point, reports_come, up_at}
use Rattle.simulator_recovery.proofs.Lemmas.Rounds.FlowsStay.{drives_kept, each_split, kept_on}
use Rattle.simulator_recovery.proofs.Lemmas.Points.MovesMoment.{PointAt}
use Rattle.simulator_recovery.proofs.Lemmas.Links.Ready.{Last, last_of}
use Rattle.simulator_recovery.proofs.Lemmas.Points.RoomBehind.{HasRoomBehind}
use Rattle.simulator_recovery.proofs.Lemmas.Rounds.Rounds.{IsAt, rounds_reached}
use Rattle.simulator_recovery.proofs.Lemmas.Lamps.StopComes.{last_round}
use Rattle.simulator_recovery.proofs.Lemmas.Links.UnderHosts.{host_rounds}

-- a drive that began at most 510 ms ago isn't at its limit 510 ms later
far : (n since : ℕ) → n ≤ 9000000000000000 → n ≤ since + 510 → n + 510 < drive_end since
far n since small near = ltb-true (n + 510) (drive_end since) (grind (arith, nat_tests, small, near))

module _ (laws : LawsBelow) (between : List Event) (flowing : Flowing) (place : ℕ) (side : Side) (since : ℕ) (once : Once flowing.state.sited.site)
    (station : IsStation flowing.state.sited.site)
    (is_table : IsTableOf flowing.state.sited.site flowing.state.sited.table) (reached : IsReached flowing.state.sited.site flowing.state.sited.table flowing.state.run)
    (work : Each IsWork between) (few : place < length flowing.state.sited.site.points)
    (notes : length flowing.state.sited.site.points ≤ length flowing.drives) where
  abbrev next : Flowing
  next = all_tried between (round flowing)

  abbrev then_at : List (List Event) → Flowing
  then_at rounds = good_rounds rounds next

  abbrev OfRounds : List (List Event) → Type 0
  OfRounds rounds = Are laws between flowing place once station is_table reached work few rounds

  -- a station after good rounds
  at_rounds : (rounds : List (List Event)) → IsAt flowing.state.sited (then_at rounds).state
  at_rounds rounds = rounds_reached laws flowing.state.sited (between ∷ rounds) flowing (record { same = refl; reached = reached })

  noted_at : (rounds : List (List Event)) → length (then_at rounds).state.sited.site.points ≤ length (then_at rounds).drives
  noted_at rounds =
      let kept = drives_kept rounds next ∙ kept_on between flowing
      in subst (λ (s : SitedTable). length s.site.points ≤ length (then_at rounds).drives) (sym (at_rounds rounds).same) (omega (arith, notes, kept))

  module _ (rounds : List (List Event)) (a : OfRounds rounds) (driving : DrivesSince place side since (then_at rounds).state.run) where
    abbrev p : PointAt flowing.state.sited.site (then_at rounds).state.run place (up_at laws between flowing place once station is_table reached work few rounds a)
    p = point laws between flowing place once station is_table reached work few rounds a

    same : p.controller ≡ driving.0
    same = same_Some p.controller driving.0 (sym p.there ∙ driving.1)

    pub drives : p.controller.host.object.progress ≡ Progress.Driving side since
    drives = ap (λ (x : ClockedControllerState PointState). x.host.object.progress) same ∙ driving.2

    small : p.controller.clock ≤ 9000000000000000
    small = clock_at laws between flowing place once station is_table reached work few rounds a p.controller p.there

    -- it began at most 510 ms ago
    near : reading_of p.controller.clock ≤ since + 510
    near = by_last (last_so_many 51 rounds (let l = a.long in omega (arith, l)))
      where
        by_last : LastOf 51 rounds → reading_of p.controller.clock ≤ since + 510
        by_last l = choose (back laws flowing.state.sited station once is_table place few side since l.rest (then_at l.front) works (at_rounds l.front) p.controller there
            (inside_here laws between flowing place once station is_table reached work few rounds a) small drives)
          where
            works : Each (Each IsWork) l.rest
            works = (each_split (Each IsWork) l.front l.rest (subst (Each (Each IsWork)) l.are a.works)).1

            there : slice_get (good_rounds l.rest (then_at l.front)).state.run.points place ≡ Some p.controller
            there = subst (λ (f : Flowing). slice_get f.state.run.points place ≡ Some p.controller) (ap then_at l.are ∙ rounds_both l.front l.rest next) p.there

            choose : (reading_of p.controller.clock ≤ since + 10 * length l.rest)
                ⊎ (WasDriving laws flowing.state.sited station once is_table place few side since (length l.rest) p.controller.clock (then_at l.front).state
                × IsDrivenBehind place side l.rest (then_at l.front))
                → reading_of p.controller.clock ≤ since + 510
            choose (inl young) = let many = l.long in omega (arith, young, many)
            choose (inr (was, driven)) =
                let most = drives_end l.rest (then_at l.front) place side works (noted_at l.front) driven
                in let many = l.long
                in absurd (omega (arith, most, many))

    pub far_at : reading_of p.controller.clock + 510 < drive_end since
    far_at = far (reading_of p.controller.clock) since (less p.controller.clock small) near
      where
        less : (n : ℕ) → n ≤ 9000000000000000 → reading_of n ≤ 9000000000000000
        less n most = omega (arith, most)

    pub far_driving : IsDriving place side since drive_time (then_at rounds).state.run
    far_driving = (p.controller, p.there, (drives, far_at))

  -- ---- its report

  module _ (stay : LawsBelow) (rounds more : List (List Event)) (long : host_rounds ≤ suc (length rounds)) (all : OfRounds (rounds ++ more)) (many : length more ≡ suc drive_rounds)
      (room : HasRoomBehind place more (then_at rounds))
      (driving : DrivesSince place side since (then_at rounds).state.run) where
    abbrev from : Flowing
    from = then_at rounds

    f : OfRounds rounds
    f = front_are laws between flowing place once station is_table reached work few rounds more long all

    abbrev start : PointAt flowing.state.sited.site from.state.run place (up_at laws between flowing place once station is_table reached work few rounds f)
    start = point laws between flowing place once station is_table reached work few rounds f

    abbrev before : List (List ℕ)
    before = reports_in flowing.state.sited.site place start.one.connection from.state.run

    long_on : (list : List (List Event)) → host_rounds ≤ suc (length (rounds ++ list))
    long_on list = let n = length-append rounds list in omega (arith, long, n)

    module _ (l : Last 50 more) where
      front_a : OfRounds (rounds ++ l.front)
      front_a = front_are laws between flowing place once station is_table reached work few (rounds ++ l.front) (l.last ∷ []) (long_on l.front)
          (subst OfRounds (ap (λ (list : List (List Event)). rounds ++ list) l.are ∙ sym (append_assoc rounds l.front (l.last ∷ []))) all)

      starts : DrivesAt laws between flowing place once station is_table reached work few laws side since start.one.connection rounds f (10 * length l.front) before
      starts = record {
        inside = start.connections;
        is_driving = drives rounds f driving;
        early = let least = far_at rounds f driving in let n = l.long in omega (arith, least, n);
        given = refl;
      }

      reported : ReportsBehind flowing.state.sited.site place side l.front from
      reported = choose (drive_goes_on laws between flowing place once station is_table reached work few laws side since start.one.connection l.front rounds long f front_a before starts
          (room_front place l.front (l.last ∷ []) from (subst (λ (list : List (List Event)). HasRoomBehind place list from) l.are room)))
        where
          choose : ReportedBy laws between flowing place once station is_table reached work few laws side since start.one.connection rounds l.front before ⊎ IsDrivenBehind place side l.front from
              → ReportsBehind flowing.state.sited.site place side l.front from
          choose (inl by) = record {
            front = by.done;
            rest = by.others;
            parts = by.parts;
            reports = subst (λ (g : Flowing). HasReported flowing.state.sited.site place side from.state.run g.state.run) (rounds_both rounds by.done next)
                (record {
                  connection = start.one.connection;
                  was_in = start.connections;
                  is_in = by.reported.inside;
                  controller = by.reported.c;
                  there = by.reported.there;
                  answered = by.reported.answered;
                  reported = by.reported.given;
                });
          }
          choose (inr driven) = absurd (by_first (last_of (length rounds - 1) rounds (omega (arith, long))))
            where
              by_first : Last (length rounds - 1) rounds → ⊥
              by_first k =
                  let last_is : from ≡ all_tried k.last (round (then_at k.front)) = ap then_at k.are ∙ last_round k.front k.last next
                  in let works = (each_split (Each IsWork) k.front (k.last ∷ []) (subst (Each (Each IsWork)) k.are f.works)).1.0
                  in let works_then = (each_split (Each IsWork) rounds l.front front_a.works).1
                  in let most = drives_end (k.last ∷ l.front) (then_at k.front) place side (works, works_then) (noted_at k.front) (
                    subst (λ (g : Flowing). IsDriven place side g.state) last_is
                        (driven_here laws between flowing place once station is_table reached work few rounds f side since (drives rounds f driving)),
                    subst (IsDrivenBehind place side l.front) last_is driven,
                  )
                  in let n = l.long
                  in omega (arith, most, n)

      by_next : (r : ReportsBehind flowing.state.sited.site place side l.front from) → ((first : List Event) × (others : List (List Event)) × (r.rest ++ l.last ∷ [] ≡ first ∷ others))
          → ReportComesBehind flowing.state.sited.site place side more from
      by_next r (first, others, e) = record {
        front = r.front;
        last = first;
        rest = others;
        parts = parts;
        reports = r.reports;
        comes = subst (λ (g : Flowing). ReportsCome flowing.state.sited.site place g.state.run (good_rounds (r.front ++ first ∷ []) from).state.run) (rounds_both rounds r.front next)
            (subst (λ (g : Flowing). ReportsCome flowing.state.sited.site place (good_rounds (rounds ++ r.front) next).state.run g.state.run)
            (ap (λ (list : List (List Event)). good_rounds list next) (append_assoc rounds r.front (first ∷ [])) ∙ rounds_both rounds (r.front ++ first ∷ []) next)
            (reports_come laws between flowing place once station is_table reached work few (rounds ++ r.front) first (long_on r.front)
            (front_are laws between flowing place once station is_table reached work few (rounds ++ r.front) (first ∷ []) (long_on r.front) then_a) then_a));
      }
        where
          parts : more ≡ r.front ++ first ∷ others
          parts = l.are ∙ ap (λ (list : List (List Event)). list ++ l.last ∷ []) r.parts ∙ append_assoc r.front r.rest (l.last ∷ []) ∙ ap (λ (list : List (List Event)). r.front ++ list) e

          then_a : OfRounds ((rounds ++ r.front) ++ first ∷ [])
          then_a = front_are laws between flowing place once station is_table reached work few ((rounds ++ r.front) ++ first ∷ []) others
              (let n = length-append (rounds ++ r.front) (first ∷ []) in let m = long_on r.front in omega (arith, n, m))
              (subst OfRounds (ap (λ (list : List (List Event)). rounds ++ list) parts ∙ sym (append_assoc rounds r.front (first ∷ others))
              ∙ sym (append_assoc (rounds ++ r.front) (first ∷ []) others)) all)

    pub comes_back : ReportComesBehind flowing.state.sited.site place side more from
    comes_back = by_last (last_of 50 more (omega (arith, many)))
      where
        by_last : Last 50 more → ReportComesBehind flowing.state.sited.site place side more from
        by_last l = by_next l (reported l) (first_of_more (reported l).rest l.last)

pub stays_far : (laws : LawsBelow) → (between : List Event) (later_rounds : List (List Event)) (flowing : Flowing) (place : ℕ) (side : Side) (since : ℕ) → Once flowing.state.sited.site
    → IsStation flowing.state.sited.site
    → IsTableOf flowing.state.sited.site flowing.state.sited.table → IsReached flowing.state.sited.site flowing.state.sited.table flowing.state.run → Each IsWork between
    → Each (Each IsWork) later_rounds
    → HasTime (suc (length later_rounds)) flowing.state.run → place < length flowing.state.sited.site.points → length flowing.state.sited.site.points ≤ length flowing.drives
    → ready_rounds ≤ suc (length later_rounds)
    → StaysBelowLimit flowing.state.sited.site (point_link flowing.state.sited.site place) later_rounds (all_tried between (round flowing))
    → DrivesSince place side since (good_rounds (between ∷ later_rounds) flowing).state.run
    → IsDriving place side since drive_time (good_rounds (between ∷ later_rounds) flowing).state.run
stays_far laws between later_rounds flowing place side since once station is_table reached work works can few notes long below driving =
    far_driving laws between flowing place side since once station is_table reached work few notes later_rounds (record { works = works; can = can; room = below; long = omega (arith, long) }) driving

pub come_back : (laws : LawsBelow) → LawsBelow → (between : List Event) (later_rounds more : List (List Event)) (flowing : Flowing) (place : ℕ) (side : Side) (since : ℕ)
    → Once flowing.state.sited.site → IsStation flowing.state.sited.site
    → IsTableOf flowing.state.sited.site flowing.state.sited.table → IsReached flowing.state.sited.site flowing.state.sited.table flowing.state.run → Each IsWork between
    → Each (Each IsWork) (later_rounds ++ more)
    → HasTime (suc (length (later_rounds ++ more))) flowing.state.run → place < length flowing.state.sited.site.points → length flowing.state.sited.site.points ≤ length flowing.drives
    → ready_rounds ≤ suc (length later_rounds)
    → length more ≡ suc drive_rounds → StaysBelowLimit flowing.state.sited.site (point_link flowing.state.sited.site place) (later_rounds ++ more) (all_tried between (round flowing))
    → HasRoomBehind place more (good_rounds (between ∷ later_rounds) flowing)
    → DrivesSince place side since (good_rounds (between ∷ later_rounds) flowing).state.run
    → ReportComesBehind flowing.state.sited.site place side more (good_rounds (between ∷ later_rounds) flowing)
come_back laws stay between later_rounds more flowing place side since once station is_table reached work works can few notes long many below room driving =
    comes_back laws between flowing place side since once station is_table reached work few notes stay later_rounds more (omega (arith, long))
    (record { works = works; can = can; room = below; long = let n = length-append later_rounds more in omega (arith, long, n) }) many room driving
