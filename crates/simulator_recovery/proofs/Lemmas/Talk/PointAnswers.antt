-- A point's controller has given in its last connection at most two items more than it has taken there, event by event.
use Rattle.simulator_recovery.proofs.Words.Basics.{◌≡◌, ℕ, ◌∙◌, ◌+◌, ◌≤◌, Bool, true, false, List, [], ◌++◌, length, Option, Some, None, refl, sym, ap, subst, arith, zip, false≢true, length-append}
use Rattle.simulator_recovery.proofs.Words.Links.{receiving, settled, kept, outcome, reading_of, Links, begun, run_links, Ends, LinkState, is_open}
use Rattle.simulator_recovery.proofs.Words.Controllers.{World, called_all, entering, stepped, step_of as world_step, Position, HostSoFar, HostState, LinkCall, Receives, is_completed, keeping, new_host, AreCallsFor, call_made, items_given, items_taken, beginning, Input, Stage, SignalState, point_behaviour, PointState, Section}
use Rattle.simulator_recovery.proofs.Words.Interlockings.{Table}
use Rattle.simulator_recovery.proofs.Words.Stations.{Site, Point as PointEntry, Event, step_of, Beginning, Outset, at_zero, new_point, point_standing, world_at, happens, AreLinksOf, names_at, starts_at_zero, ClockedControllerState, WorldState, events_of, IsWhole}
use Rattle.simulator_recovery.proofs.Words.Recovery.{LawsBelow, LawsOfHost}
use Rattle.simulator_recovery.proofs.Lemmas.Talk.ControllerSaid.{same_step, settled_so, world}
use Rattle.simulator_recovery.proofs.Lemmas.Ground.ControllersOnLinks.{ControllersKeep, Lists, On, held_after, lists_of}
use Rattle.simulator_recovery.proofs.Lemmas.Ground.IxlClients.{mapped_at}
use Rattle.simulator_recovery.proofs.Lemmas.Ground.LinkCounts.{settled_open}
use Rattle.simulator_recovery.proofs.Lemmas.Talk.PointCounts.{Steps, Within, begins_so, coming, steps, waits, within_more}
use Rattle.simulator_recovery.proofs.Lemmas.Talk.AlwaysSaid.{new_closed}
use Rattle.simulator_recovery.proofs.Lemmas.Talk.AlwaysTold.{no_lists}
use Rattle.simulator_recovery.proofs.Lemmas.Talk.Standing.{points_tell}

-- a point's host, and what its end has given and taken in its last connection
pub record Counted (host : HostState PointState) (lists : Lists) : Type 0 where
  pub idle : is_completed host.stage ≡ false → waits host.object ≡ 0
  pub inside : is_open host.link.phase ≡ true → Within host.stage (length lists.given) (length lists.taken) (waits host.object)
  pub ever : length lists.given ≤ 2 + length lists.taken

abbrev both_lists : List (List ℕ) → List (List ℕ) → Lists
both_lists given taken = record { given = given; taken = taken }

both : {a b c d : List (List ℕ)} → a ≡ b → c ≡ d → both_lists a c ≡ both_lists b d
both e f = cc (e, f)

-- ---- a step

module _ (laws : LawsOfHost point_behaviour) (input : Input) (connection : ℕ) (c : ClockedControllerState PointState) (ends : Ends)
    (link_is : ends.server.link ≡ settled (reading_of c.clock) c.host.link) (clock_is : ends.server.clock ≡ c.clock) (counted : Counted c.host (lists_of ends.server)) where
  abbrev now : ℕ
  now = reading_of c.clock

  abbrev link : LinkState
  link = settled now c.host.link

  abbrev at : World PointState
  at = world point_behaviour points_tell 1 laws input connection 0 c ends link_is clock_is

  abbrev done : HostSoFar PointState
  done = step_of point_behaviour input c

  done_is : world_step point_behaviour input at ≡ done
  done_is = same_step point_behaviour points_tell 1 laws input connection 0 c ends link_is clock_is

  abbrev given_now : List (List ℕ)
  given_now = items_given now done.calls link

  abbrev taken_now : List (List ℕ)
  taken_now = items_taken now done.calls link

  abbrev after : Lists
  after = lists_of (called_all connection done.calls ends).server

  pub given_is : after.given ≡ kept (entering input connection ends) ends.server.given ++ given_now
  unfolding stepped
  given_is = ap (λ (s : HostSoFar PointState). (called_all connection s.calls ends).server.given) (sym done_is) ∙ laws.given input connection at
      ∙ ap (λ (n : ℕ). kept (entering input connection ends) ends.server.given ++ items_given n (world_step point_behaviour input at).calls ends.server.link) (ap reading_of clock_is)
      ∙ ap (λ (l : LinkState). kept (entering input connection ends) ends.server.given ++ items_given now (world_step point_behaviour input at).calls l) link_is
      ∙ ap (λ (s : HostSoFar PointState). kept (entering input connection ends) ends.server.given ++ items_given now s.calls link) done_is

  pub taken_is : after.taken ≡ kept (entering input connection ends) ends.server.taken ++ taken_now
  unfolding stepped
  taken_is = ap (λ (s : HostSoFar PointState). (called_all connection s.calls ends).server.taken) (sym done_is) ∙ laws.taken input connection at
      ∙ ap (λ (n : ℕ). kept (entering input connection ends) ends.server.taken ++ items_taken n (world_step point_behaviour input at).calls ends.server.link) (ap reading_of clock_is)
      ∙ ap (λ (l : LinkState). kept (entering input connection ends) ends.server.taken ++ items_taken now (world_step point_behaviour input at).calls l) link_is
      ∙ ap (λ (s : HostSoFar PointState). kept (entering input connection ends) ends.server.taken ++ items_taken now s.calls link) done_is

  -- what comes is taken
  comes_in : coming now input link ≤ length taken_now
  unfolding items_taken
  comes_in = by_input input refl (laws.first now input c.host)
    where
      by_input : (i : Input) → input ≡ i → AreCallsFor i done.calls → coming now i link ≤ length taken_now
      by_input Input.Tick e calls = omega arith
      by_input (Input.Sense sense) e calls = omega arith
      by_input (Input.Datagram bytes) e (others, is, own) =
          let more = length-append (receiving now bytes.now link).items (items_taken now others (call_made now (Receives bytes.now) link).link)
          in let all = ap (λ (cs : List LinkCall). length (items_taken now cs link)) is in omega (arith, more, all)

  -- what is counted on from what was counted before
  counts_by : (given taken : List (List ℕ)) → Within (beginning point_behaviour now c.host).stage (length given) (length taken) (waits (beginning point_behaviour now c.host).object) → given ++ given_now ≡ after.given → taken ++ taken_now ≡ after.taken → Counted done.host after
  counts_by given taken has given_so taken_so = record {
    idle = s.idle;
    inside = λ e. subst (λ (n : ℕ). Within done.host.stage n (length after.taken) (waits done.host.object)) given_long
        (within_more done.host.stage (length given + length given_now) (length taken + length done.acted) (waits done.host.object) (length after.taken) no_fewer (s.inside e));
    ever = let all = s.ever in let g = given_long in let t = no_fewer in omega (arith, all, g, t);
  }
    where
      s : Steps now (length given) (length taken) input c.host
      s = steps now (length given) (length taken) input c.host has

      given_long : length given + length given_now ≡ length after.given
      given_long = sym (length-append given given_now) ∙ ap length given_so

      no_fewer : length taken + length done.acted ≤ length after.taken
      no_fewer = let few = s.few in let comes = comes_in in let both = length-append taken taken_now in let all = ap length taken_so in omega (arith, few, comes, both, all)

  pub enters_none : is_open ends.server.link.phase ≡ true → entering input connection ends ≡ None
  unfolding outcome
  enters_none = by_input input
    where
      by_input : (i : Input) → is_open ends.server.link.phase ≡ true → entering i connection ends ≡ None
      by_input Input.Tick opened = refl
      by_input (Input.Sense sense) opened = refl
      by_input (Input.Datagram bytes) opened = rw opened refl

  -- in the connection that it was in
  inside_counts : is_open ends.server.link.phase ≡ true → Counted done.host after
  inside_counts f = counts_by ends.server.given ends.server.taken
      (let b = (begins_so now c.host).inside opened in subst (λ (s : Stage). Within s (length ends.server.given) (length ends.server.taken) (waits (beginning point_behaviour now c.host).object)) (sym b.0)
      (subst (λ (n : ℕ). Within c.host.stage (length ends.server.given) (length ends.server.taken) n) (sym b.1) (counted.inside (settled_open now c.host.link opened).1)))
      (sym (given_is ∙ ap (λ (o : Option ℕ). kept o ends.server.given ++ given_now) (enters_none f))) (sym (taken_is ∙ ap (λ (o : Option ℕ). kept o ends.server.taken ++ taken_now) (enters_none f)))
    where
      opened : is_open link.phase ≡ true
      opened = ap (λ (l : LinkState). is_open l.phase) (sym link_is) ∙ f

  -- a host that was outside begins with nothing
  anew : is_open ends.server.link.phase ≡ false → Within (beginning point_behaviour now c.host).stage 0 0 (waits (beginning point_behaviour now c.host).object)
  anew f = let b = (begins_so now c.host).outside (ap (λ (l : LinkState). is_open l.phase) (sym link_is) ∙ f) counted.idle in subst (λ (s : Stage). Within s 0 0 (waits (beginning point_behaviour now c.host).object)) (sym b.0) (refl, b.1)

  entering_counts : is_open ends.server.link.phase ≡ false → (entered : ℕ) → entering input connection ends ≡ Some entered → Counted done.host after
  entering_counts f entered g = counts_by [] [] (anew f) (sym (given_is ∙ ap (λ (o : Option ℕ). kept o ends.server.given ++ given_now) g)) (sym (taken_is ∙ ap (λ (o : Option ℕ). kept o ends.server.taken ++ taken_now) g))

  -- outside, and in none after the step
  pub stays_outside : is_open ends.server.link.phase ≡ false → entering input connection ends ≡ None → is_open done.host.link.phase ≡ false
  unfolding stepped
  stays_outside f g = ap (λ (s : HostSoFar PointState). is_open s.host.link.phase) (sym done_is)
      ∙ ap (λ (l : LinkState). is_open l.phase) (sym (laws.link input connection at (settled_so point_behaviour points_tell 1 laws input connection 0 c ends link_is clock_is)))
      ∙ laws.outside input connection at g f

  outside_counts : is_open ends.server.link.phase ≡ false → entering input connection ends ≡ None → Counted done.host after
  unfolding stepped
  outside_counts f g = record {
    idle = (steps now 0 0 input c.host (anew f)).idle;
    inside = λ e. absurd (false≢true (sym (stays_outside f g) ∙ e));
    ever = subst (λ (lists : Lists). length lists.given ≤ 2 + length lists.taken) (sym same) counted.ever;
  }
    where
      same : after ≡ lists_of ends.server
      same = ap (λ (s : HostSoFar PointState). lists_of (called_all connection s.calls ends).server) (sym done_is)
          ∙ both (laws.gives_none input connection at g f) (laws.takes_none input connection at g f)

  pub controller_counts : Counted (step_of point_behaviour input c).host (lists_of (called_all connection (step_of point_behaviour input c).calls ends).server)
  controller_counts = by_cases (is_open ends.server.link.phase) refl (entering input connection ends) refl
    where
      by_cases : (b : Bool) → is_open ends.server.link.phase ≡ b → (entered : Option ℕ) → entering input connection ends ≡ entered → Counted done.host after
      by_cases true f entered g = inside_counts f
      by_cases false f (Some other) g = entering_counts f other g
      by_cases false f None g = outside_counts f g

-- ---- a station

-- one that was just made
made_waits : (site : Site) (begins : Beginning) (position : Position) (entry : PointEntry) → waits (new_point site begins position entry).object ≡ 0
unfolding new_host keeping
made_waits site begins position entry = refl

pub made_counts : (site : Site) (begins : Beginning) (position : Position) (entry : PointEntry) (items : Lists) → length items.given ≤ 2 + length items.taken → Counted (new_point site begins position entry) items
made_counts site begins position entry items few = record { idle = λ e. made_waits site begins position entry; inside = λ e. absurd (false≢true (sym (new_closed point_behaviour _ _ _ _ _ _ _) ∙ e)); ever = few }

-- of a signal and a detector nothing is said here
abbrev pub Nothing : {Object : Type 0} → ℕ → HostState Object → Lists → Type 0
Nothing place host lists = Unit {0}

abbrev pub CountsPoint : ℕ → HostState PointState → Lists → Type 0
CountsPoint place host lists = Counted host lists

module _ (laws : LawsOfHost point_behaviour) (calls : LawsBelow) (site : Site) where
  pub keeps : ControllersKeep site (Nothing {Object = SignalState}) CountsPoint (Nothing {Object = List Section})
  keeps = record {
    signals = λ input connection place c two link_is clock_is none. tt;
    points = λ input connection place c two link_is clock_is counted. controller_counts laws input connection c two link_is clock_is counted;
    detectors = λ input connection place c two link_is clock_is none. tt;
    new_signals = λ begins place entry old items e none. tt;
    new_points = λ begins position place entry old items e counted. made_counts site begins position entry items counted.ever;
    new_detectors = λ begins occupied place entry old items e none. tt;
  }

  module _ (table : Table) where
    -- all points of a station
    abbrev pub Answering : WorldState → Links → Type 0
    Answering = On calls site table (Nothing {Object = SignalState}) CountsPoint (Nothing {Object = List Section}) keeps

    pub answering_on : (happening : Event) (world : WorldState) (network : Links) → IsWhole site world → AreLinksOf site world network → Answering world network → Answering (happens site table happening world) (run_links (events_of site table happening world) network)
    answering_on = held_after calls site table (Nothing {Object = SignalState}) CountsPoint (Nothing {Object = List Section}) keeps

    pub answering_first : (outset : Outset) → Answering (world_at site table outset) (begun (names_at site) starts_at_zero)
    unfolding world_at
    answering_first outset = record {
      of_signals = λ place c e. tt;
      of_points = λ place c e. let made = mapped_at (point_standing site) (zip site.points outset.positions) place c e in subst (λ (x : ClockedControllerState PointState). Counted x.host no_lists) (sym made.2)
          (made_counts site at_zero made.0.1 made.0.0 no_lists (omega arith));
      of_detectors = λ place c e. tt;
    }
