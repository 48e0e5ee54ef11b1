-- A point that took no move in its connection has reported where it stands: after each step of its controller.
use Rattle.simulator_recovery.proofs.Words.Basics.{◌≡◌, ℕ, ◌∙◌, List, true, false, Some, slice_get, refl, sym, subst, zip, false≢true, ◌⊎◌, inl, inr, ◌+◌, ◌≤◌, ◌<◌, Bool, [], ◌∷◌, ◌++◌, append-nil, append_assoc, length, map, Option, None, ap, arith, All, length-append, All-head, All-tail}
use Rattle.simulator_recovery.proofs.Words.Links.{Links, begun, run_links, seen, is_open, settled, Each, reading_of, Ends, LinkState}
use Rattle.simulator_recovery.proofs.Words.Controllers.{Position, HostState, is_completed, keeping, new_host, SignalState, point_behaviour, PointState, Progress, Section, IsPointStep, initial_reports, position_told, called_all, entering, reading, IsMessage, Initialisation, InitialisationCompleted, StartInitialisation, VersionAnswer, Message, PointPosition, HostSoFar, said, telegram_of, items_given, items_taken, AreSomeOf, IsVersionAnswer, item_of, Input, Report, own_report}
use Rattle.simulator_recovery.proofs.Words.Interlockings.{IsTableOf, Table}
use Rattle.simulator_recovery.proofs.Words.Stations.{Site, Point as PointEntry, Once, IsStation, Event, Beginning, IsOutsetOf, Outset, at_zero, new_point, point_standing, world_at, happens, AreLinksOf, names_at, starts_at_zero, point_link, ClockedControllerState, WorldState, events_of, links_in, IsWhole, IsReached, step_of, IsNamed}
use Rattle.simulator_recovery.proofs.Words.Recovery.{HaveOwed, OwesEach, LawsBelow, LawsOfHost, WrittenIsRead}
use Rattle.simulator_recovery.proofs.Words.Machine.{Position as MachinePosition, all_said, position_seen, reports_in, reports_of, said_by}
use Rattle.simulator_recovery.proofs.Lemmas.Talk.AlwaysExpected.{Stands, same_length, stands_first, stands_on}
use Rattle.simulator_recovery.proofs.Lemmas.Ground.SectionsEvents.{CanBe, HasHeld, always_held}
use Rattle.simulator_recovery.proofs.Lemmas.Ground.ControllersOnLinks.{ControllersKeep, Lists, On, held_after, lists_of}
use Rattle.simulator_recovery.proofs.Lemmas.Ground.IxlClients.{mapped_at}
use Rattle.simulator_recovery.proofs.Lemmas.Ground.MatchedEnds.{points_keep, spoken}
use Rattle.simulator_recovery.proofs.Lemmas.Points.MovesOwed.{Owed, controller_owes, Finds, finds_inside, finds_new, given_count, whole}
use Rattle.simulator_recovery.proofs.Lemmas.Talk.PointAnswers.{Counted, Nothing, answering_first, controller_counts, made_counts, stays_outside}
use Rattle.simulator_recovery.proofs.Lemmas.Talk.AlwaysSaid.{new_closed}
use Rattle.simulator_recovery.proofs.Lemmas.Talk.AlwaysTold.{TellsPoint, no_lists, telling_first}
use Rattle.simulator_recovery.proofs.Lemmas.Talk.AlwaysTold as tells
use Rattle.simulator_recovery.proofs.Lemmas.Ground.LinkCounts.{settled_open}
use Rattle.simulator_recovery.proofs.Lemmas.Ground.EndCalls.{each_both}
use Rattle.simulator_recovery.proofs.Lemmas.Talk.PointCounts.{waits, within_ever}

-- ---- what a point's controller owes, after every list of events of a station

-- one that was just made
made_answered : (site : Site) (begins : Beginning) (position : Position) (entry : PointEntry) → (new_point site begins position entry).object.progress ≡ Progress.Answered
unfolding new_host keeping
made_answered site begins position entry = refl

made_owes : (site : Site) (begins : Beginning) (position : Position) (entry : PointEntry) (lists : Lists) → Owed (new_point site begins position entry) lists
made_owes site begins position entry lists = record {
  idle = λ e. made_answered site begins position entry;
  early = λ e. absurd (false≢true (sym closed ∙ e));
  owes = λ e. absurd (false≢true (sym closed ∙ e));
  aims = λ e. absurd (false≢true (sym closed ∙ e));
}
  where
    closed : is_open (new_point site begins position entry).link.phase ≡ false
    closed = new_closed point_behaviour _ _ _ _ _ _ _

-- what it has said, how much that is, and what it owes
pub record Stays (site : Site) (entry : PointEntry) (host : HostState PointState) (lists : Lists) : Type 0 where
  pub tells : TellsPoint site entry host lists
  pub counted : Counted host lists
  pub owed : Owed host lists

module _ (expected : LawsBelow) (owed : LawsBelow) (site : Site) where
  abbrev pub OwesPoint : ℕ → HostState PointState → Lists → Type 0
  OwesPoint place host lists = (entry : PointEntry) → slice_get site.points place ≡ Some entry → Stays site entry host lists

  pub keeps : ControllersKeep site (Nothing {Object = SignalState}) OwesPoint (Nothing {Object = List Section})
  keeps = record {
    signals = λ input connection place c two link_is clock_is none. tt;
    points = λ input connection place c two link_is clock_is holds entry e.
        let before = holds entry e
        in let tells_then = (tells.keeps site expected).points input connection place c two link_is clock_is (λ other f. (holds other f).tells) entry e
        in record {
          tells = tells_then;
          counted = controller_counts expected.points input connection c two link_is clock_is before.counted;
          owed = controller_owes owed expected.points (spoken site) entry.name site.station.name (points_keep site) input connection c two link_is clock_is before.counted before.owed tells_then;
        };
    detectors = λ input connection place c two link_is clock_is none. tt;
    new_signals = λ begins place entry old items e none. tt;
    new_points = λ begins position place entry old items e holds other f. record {
      tells = (tells.keeps site expected).new_points begins position place entry old items e (λ one g. (holds one g).tells) other f;
      counted = made_counts site begins position entry items (holds other f).counted.ever;
      owed = made_owes site begins position entry items;
    };
    new_detectors = λ begins occupied place entry old items e none. tt;
  }

  module _ (table : Table) where
    -- all points of a station
    abbrev pub Owing : WorldState → Links → Type 0
    Owing = On expected site table (Nothing {Object = SignalState}) OwesPoint (Nothing {Object = List Section}) keeps

    owing_on : (happening : Event) (world : WorldState) (network : Links) → IsWhole site world → AreLinksOf site world network → Owing world network → Owing (happens site table happening world) (run_links (events_of site table happening world) network)
    owing_on = held_after expected site table (Nothing {Object = SignalState}) OwesPoint (Nothing {Object = List Section}) keeps

    owing_first : (outset : Outset) → Owing (world_at site table outset) (begun (names_at site) starts_at_zero)
    unfolding world_at
    owing_first outset = record {
      of_signals = λ place c e. tt;
      of_points = λ place c e entry f. record {
        tells = (telling_first site expected table outset).of_points place c e entry f;
        counted = (answering_first expected.points expected site table outset).of_points place c e;
        owed = let made = mapped_at (point_standing site) (zip site.points outset.positions) place c e in subst (λ (x : ClockedControllerState PointState). Owed x.host no_lists) (sym made.2) (made_owes site at_zero made.0.1 made.0.0 no_lists);
      };
      of_detectors = λ place c e. tt;
    }

    module _ (station : IsStation site) (once : Once site) (is_table : IsTableOf site table) where
      -- what is so of a station, and what its points owe
      pub record Owes (world : WorldState) (network : Links) : Type 0 where
        pub stands : Stands expected site table station once is_table world network
        pub owing : Owing world network

      pub owes_first : (outset : Outset) → IsOutsetOf site outset → Owes (world_at site table outset) (begun (names_at site) starts_at_zero)
      owes_first outset lies = record { stands = stands_first expected site table station once is_table outset lies; owing = owing_first outset }

      pub owes_on : (happening : Event) (world : WorldState) (network : Links) → CanBe site table happening world network → Owes world network → Owes (happens site table happening world) (run_links (events_of site table happening world) network)
      owes_on happening world network can before = record { stands = stands_on expected site table station once is_table happening world network can before.stands; owing = owing_on happening world network can.whole can.are before.owing }

      abbrev pub Held : WorldState → Type 0
      Held = HasHeld expected site table station once Owes owes_first owes_on

      pub always_owes : (world : WorldState) → IsReached site table world → Held world
      always_owes = always_held expected site table station once Owes owes_first owes_on

      pub owes_each : (world : WorldState) (held : Held world) (place : ℕ) (c : ClockedControllerState PointState) → slice_get world.points place ≡ Some c → is_open c.host.link.phase ≡ true → is_completed c.host.stage ≡ true
          → OwesEach c.host (seen (point_link site place) (links_in held.has))
      owes_each world held place c g opened completed =
          let entry = same_length expected site table station once is_table world.points site.points held.holds.stands.whole.points place c g
          in let one = (held.holds.owing.of_points place c g entry.0 entry.1).owed
          in record { each = one.owes opened completed; last = one.aims opened }

      pub have_owed : (world : WorldState) → IsReached site table world → HaveOwed site world
      have_owed world reached = let held = always_owes world reached in record { has = held.has; points = owes_each world held }

-- ---- a point that took no move in its connection has reported where it stands: after each step of its controller

-- each position that these items report is this one
abbrev pub AllTell : Position → List (List ℕ) → Type 0
AllTell stands items = Each (λ (told : MachinePosition). told ≡ position_seen stands) (reports_in items)

-- ---- what items report

pub reports_both : (one other : List (List ℕ)) → reports_in (one ++ other) ≡ reports_in one ++ reports_in other
unfolding all_said
reports_both [] other = refl
reports_both (item ∷ one) other = ap (λ (rest : List MachinePosition). said_by reports_of (reading item) ++ rest) (reports_both one other)
    ∙ sym (append_assoc (said_by reports_of (reading item)) (reports_in one) (reports_in other))

tell_both : (stands : Position) (one other : List (List ℕ)) → AllTell stands one → AllTell stands other → AllTell stands (one ++ other)
tell_both stands one other first rest = subst (Each (λ (told : MachinePosition). told ≡ position_seen stands)) (sym (reports_both one other))
    (each_both (λ (told : MachinePosition). told ≡ position_seen stands) (reports_in one) (reports_in other) first rest)

module _ (written : WrittenIsRead) (host : HostState PointState) (named : IsNamed host) (stands : Position) where
  abbrev Tells : Report → Type 0
  Tells report = AllTell stands (item_of host report ∷ [])

  all_tell : (reports : List Report) → Each Tells reports → AllTell stands (map (item_of host) reports)
  unfolding all_said
  all_tell [] each = tt
  all_tell (report ∷ others) each = tell_both stands (item_of host report ∷ []) (map (item_of host) others) each.0 (all_tell others each.1)

  said_tells : (what : Initialisation) → IsMessage (Message.Initialisation point_behaviour.protocol what) → Tells (said point_behaviour what)
  unfolding all_said
  said_tells what is = subst (λ r. Each (λ (told : MachinePosition). told ≡ position_seen stands) (said_by reports_of r ++ []))
      (sym (written (telegram_of (said point_behaviour what) host) (record { sender = named.own_name; receiver = named.peer_name; message = is }))) tt

  status_tells : Tells (own_report (Message.Point (PointPosition stands)))
  unfolding all_said
  status_tells = subst (λ r. Each (λ (told : MachinePosition). told ≡ position_seen stands) (said_by reports_of r ++ []))
      (sym (written (telegram_of (own_report (Message.Point (PointPosition stands))) host) (record { sender = named.own_name; receiver = named.peer_name; message = tt }))) (refl, tt)

  some_of : (some all : List Report) → AreSomeOf some all → Each Tells all → Each Tells some
  some_of [] all are each = tt
  some_of (one ∷ more) [] are each = absurd are
  some_of (one ∷ more) (first ∷ others) (inl (same, are)) each = (subst Tells (sym same) each.0, some_of more others are each.1)
  some_of (one ∷ more) (first ∷ others) (inr are) each = some_of (one ∷ more) others are each.1

  begins_tell : (begins : List Report) → AreSomeOf begins (initial_reports stands) → Each Tells begins
  begins_tell begins are = some_of begins (initial_reports stands) are (said_tells StartInitialisation tt, (status_tells, (said_tells InitialisationCompleted tt, tt)))

  answers_tell : (version : ℕ) → version < 256 → (answers : List Report) → All (IsVersionAnswer point_behaviour version) answers → Each Tells answers
  answers_tell version small [] are = tt
  answers_tell version small (answer ∷ others) are =
      let first = All-head (IsVersionAnswer point_behaviour version) answer others are
      in (subst Tells (sym first.1) (said_tells (VersionAnswer first.0 version) small), answers_tell version small others (All-tail (IsVersionAnswer point_behaviour version) answer others are))

-- ---- a step

none_left : {A : Type 0} (list : List A) → length list ≤ 0 → list ≡ []
none_left [] few = refl
none_left (one ∷ later) few = absurd (omega (arith, few))

-- While its link is open, and its end has taken no more than the check of the version and the request for the initialisation, a point's
-- controller has reported where the point stands alone.
abbrev pub Stand : HostState PointState → Lists → Type 0
Stand host lists = is_open host.link.phase ≡ true → length lists.taken ≤ 2 → AllTell host.object.sensed lists.given

module _ (written : WrittenIsRead) (owed : LawsBelow) (tell : LawsOfHost point_behaviour) (site : Site) (entry : PointEntry) (input : Input) (connection : ℕ) (c : ClockedControllerState PointState)
    (ends : Ends)
    (link_is : ends.server.link ≡ settled (reading_of c.clock) c.host.link) (clock_is : ends.server.clock ≡ c.clock) (named : IsNamed c.host) (small : c.host.version < 256)
    (was : Stays site entry c.host (lists_of ends.server))
    (will : Stays site entry (step_of point_behaviour input c).host (lists_of (called_all connection (step_of point_behaviour input c).calls ends).server)) where
  abbrev now : ℕ
  now = reading_of c.clock

  abbrev link : LinkState
  link = settled now c.host.link

  abbrev done : HostSoFar PointState
  done = step_of point_behaviour input c

  abbrev given_now : List (List ℕ)
  given_now = items_given now done.calls link

  abbrev after : Lists
  after = lists_of (called_all connection done.calls ends).server

  abbrev step : IsPointStep now input c.host done
  step = owed.point_makes_a_step now input c.host

  abbrev Found : List (List ℕ) → List (List ℕ) → Type 0
  Found given taken = Finds owed tell (spoken site) entry.name site.station.name (points_keep site) input connection c ends link_is clock_is was.counted was.owed given taken

  -- where it has taken so few it makes no report of a move
  none_reported : (given taken : List (List ℕ)) → Found given taken → is_open done.host.link.phase ≡ true → length after.taken ≤ 2 → step.tells.reports ≡ []
  none_reported given taken f opened few = by_stage (is_completed done.host.stage) refl
    where
      by_stage : (b : Bool) → is_completed done.host.stage ≡ b → step.tells.reports ≡ []
      by_stage false e = step.tells.dropped (ap is_completed (sym (step.tells.stage_is opened)) ∙ e)
      by_stage true e =
          let all : 4 ≤ length given + length step.tells.own = whole owed tell (spoken site) entry.name site.station.name
          (points_keep site) input connection c ends link_is clock_is was.counted was.owed will.tells given taken f opened e
          in let count : length after.given ≡ (length given + length step.tells.own) + length step.tells.reports = given_count owed tell (spoken site) entry.name site.station.name
          (points_keep site) input connection c ends link_is clock_is was.counted was.owed given taken f
          in let most : length after.given + waits done.host.object ≤ 2 + length after.taken = within_ever done.host.stage (length after.given) (length after.taken) (waits done.host.object)
          (will.counted.inside opened)
          in none_left step.tells.reports (omega (arith, all, count, most, few))

  same_names : item_of done.host ≡ item_of c.host
  same_names = ap (λ (n : List ℕ). λ (report : Report). item_of (record done.host { own_name = n }) report) (will.tells.kept_so.own_is ∙ sym was.tells.kept_so.own_is)
      ∙ ap (λ (n : List ℕ). λ (report : Report). item_of (record c.host { peer_name = n }) report) (will.tells.kept_so.peer_is ∙ sym was.tells.kept_so.peer_is)

  stands_so : done.host.object.sensed ≡ position_told input c.host.object.sensed
  stands_so = step.stands_after ∙ step.stands

  -- what it gives in the step tells where it stands
  now_tell : step.tells.reports ≡ [] → AllTell done.host.object.sensed given_now
  now_tell none = by_contacts step.contacts
    where
      given_so : given_now ≡ map (item_of c.host) (step.tells.says.answers ++ step.tells.says.begins)
      given_so = step.tells.gives ∙ (ap (λ (item : Report → List ℕ). map item (step.tells.own ++ step.tells.reports)) same_names
          ∙ (ap (λ (reports : List Report). map (item_of c.host) (step.tells.own ++ reports)) none
          ∙ (ap (map (item_of c.host)) (append-nil step.tells.own) ∙ ap (map (item_of c.host)) step.tells.says.own_is)))

      by_contacts : (position_told input c.host.object.sensed ≡ c.host.object.sensed) ⊎ (step.tells.says.begins ≡ []) → AllTell done.host.object.sensed given_now
      by_contacts (inl same) = subst (λ (stands : Position). AllTell stands given_now) (sym (stands_so ∙ same))
          (subst (AllTell c.host.object.sensed) (sym given_so)
          (all_tell written c.host named c.host.object.sensed (step.tells.says.answers ++ step.tells.says.begins)
          (each_both (Tells written c.host named c.host.object.sensed) step.tells.says.answers step.tells.says.begins
          (answers_tell written c.host named c.host.object.sensed c.host.version small step.tells.says.answers step.versions)
          (begins_tell written c.host named c.host.object.sensed step.tells.says.begins step.initial))))
      by_contacts (inr no_status) = subst (AllTell done.host.object.sensed) (sym (given_so ∙ ap (λ (reports : List Report). map (item_of c.host) (step.tells.says.answers ++ reports)) no_status
          ∙ ap (map (item_of c.host)) (append-nil step.tells.says.answers)))
          (all_tell written c.host named done.host.object.sensed step.tells.says.answers (answers_tell written c.host named done.host.object.sensed c.host.version small step.tells.says.answers
          step.versions))

  pub stand_on : (is_open ends.server.link.phase ≡ true → length ends.server.taken ≤ 2 → position_told input c.host.object.sensed ≡ c.host.object.sensed) → Stand c.host (lists_of ends.server)
      → Stand done.host after
  stand_on calm before opened few = by_cases (is_open ends.server.link.phase) refl (entering input connection ends) refl
    where
      by_cases : (b : Bool) → is_open ends.server.link.phase ≡ b → (entered : Option ℕ) → entering input connection ends ≡ entered → AllTell done.host.object.sensed after.given
      by_cases true g entered h =
          let f = finds_inside owed tell (spoken site) entry.name site.station.name (points_keep site) input connection c ends link_is clock_is was.counted was.owed g
          in let longer = ap length f.taken_so
          in let fewer : length ends.server.taken ≤ 2 = let both = length-append ends.server.taken (items_taken now done.calls link) in omega (arith, few, longer, both)
          in let was_open = (settled_open now c.host.link (ap (λ (l : LinkState). is_open l.phase) (sym link_is) ∙ g)).1
          in subst (AllTell done.host.object.sensed) (sym f.given_so) (tell_both done.host.object.sensed ends.server.given given_now
          (subst (λ (stands : Position). AllTell stands ends.server.given) (sym (stands_so ∙ calm g fewer)) (before was_open fewer))
          (now_tell (none_reported ends.server.given ends.server.taken f opened few)))
      by_cases false g (Some other) h =
          let f = finds_new owed tell (spoken site) entry.name site.station.name (points_keep site) input connection c ends link_is clock_is was.counted was.owed g other h
          in subst (AllTell done.host.object.sensed) (sym f.given_so) (now_tell (none_reported [] [] f opened few))
      by_cases false g None h = absurd (false≢true (sym (stays_outside tell input connection c ends link_is clock_is was.counted g h) ∙ opened))
