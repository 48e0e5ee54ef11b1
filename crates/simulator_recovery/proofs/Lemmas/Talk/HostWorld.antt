-- In a world of a commanding client and a host, what the host has given is what its stage tells.
use Rattle.simulator_recovery.proofs.Words.Basics.{◌≡◌, ℕ, List, [], ◌∷◌, map, refl, sym, subst, ◌+◌, ◌++◌, ◌∙◌, Bool, true, false, Option, Some, None, ap, false≢true}
use Rattle.simulator_recovery.proofs.Words.Links.{settled, Each, Call, reading_of, Calls, MayCall, Restarts, Start, started, Timely, AreNames, Names, Ends, called, end_of, calls_at, Role, created, end_later, end_restarted, kept, later, lost, restarted, LinkState, is_open}
use Rattle.simulator_recovery.proofs.Words.Controllers.{ClientRestarts, Commands, Elsewhere, Event, HostRestarts, May, MayHear, MayRun, Passes, Steps, World, as_call, called_all, happened, host_restarted, run, step_of, stepped, Behaviour, HostState, LinkCall, AreCallsFor, AreItems, AreOwn, host_step, Input, entering, host_of, new_host, items_given, item_of, Report, Stage}
use Rattle.simulator_recovery.proofs.Words.Recovery.{StandsAtItsStage, LawsOfHost, HostHasActedOn, IsSettled, HasCounted, HostHasGiven, HostHasSaid, HostStandsByCounts, MakesAsMany, StandsByWhatItSaid, TellsAsMany, given_before, objects_told}
use Rattle.object_host_laws.specs.World.{Loses, begun}
use Rattle.simulator_spec.specs.rasta_core.Events as links
use Rattle.simulator_spec.specs.object_host.Host as hosts
use Rattle.simulator_recovery.proofs.Lemmas.Talk.HostStands.{stands_first, stands_on, enters_none}
use Rattle.simulator_recovery.proofs.Lemmas.Talk.HostLinks.{new_stands, step_stands}
use Rattle.simulator_recovery.proofs.Lemmas.Talk.HostSaid.{step_says}
use Rattle.simulator_recovery.proofs.Lemmas.Ground.LinkCounts.{settled_open}

-- ---- after every list of events of a commanding client and a host, the host stands at its stage

pub record RunLaws {Object : Type 0} (does : Behaviour Object) : Type 0 where
  pub world : LawsOfHost does
  pub first : (now : ℕ) (input : Input) (host : HostState Object) → AreCallsFor input (host_step does now input host).calls
  pub starts : (names : Names) (start : Start) → AreNames names → Timely names (started names start)
  pub time : (names : Names) (events : List links.Event) (ends : Ends) → AreNames names → Timely names ends → links.MayRun names events ends → Timely names (links.run events ends)
  pub settled_so : (names : Names) (ends : Ends) (who : Role) → Timely names ends → settled (reading_of (end_of who ends).clock) (end_of who ends).link ≡ (end_of who ends).link
  pub follow : (names : Names) (who : Role) (calls : List Call) (ends : Ends) → Each (λ call. MayCall names who call ends) calls → links.MayRun names (calls_at who calls) ends

module _ {Object : Type 0} (does : Behaviour Object) (laws : RunLaws does) (names : Names) (are : AreNames names) where
  -- an event, as events of the two ends
  pub link_events : Event Object → World Object → List links.Event
  link_events (Commands call) world = Calls Role.Client call ∷ []
  link_events (Steps input connection) world = calls_at Role.Server (map (as_call connection) (step_of does input world).calls)
  link_events (Passes elapsed of_client of_server) world = links.Passes elapsed of_client of_server ∷ []
  link_events (Loses bytes) world = links.Loses bytes ∷ []
  link_events (ClientRestarts clock first) world = Restarts Role.Client clock first ∷ []
  link_events (HostRestarts clock first object) world = Restarts Role.Server clock first ∷ []
  link_events (Elsewhere count) world = links.Elsewhere count ∷ []

  own_may : (connection : ℕ) (ends : Ends) (calls : List LinkCall) → AreOwn calls → AreItems calls → Each (λ call. MayCall names Role.Server call ends) (map (as_call connection) calls)
  own_may connection ends [] own items = tt
  own_may connection ends (hosts.Ticks ∷ others) own items = (tt, own_may connection ends others own.1 items)
  own_may connection ends (hosts.Closes why ∷ others) own items = (tt, own_may connection ends others own.1 items)
  own_may connection ends (hosts.Sends item ∷ others) own items = (items.0, own_may connection ends others own.1 items.1)
  own_may connection ends (hosts.Receives bytes ∷ others) own items = absurd own.0

  calls_may : (input : Input) (connection : ℕ) (ends : Ends) (calls : List LinkCall) → AreCallsFor input calls → AreItems calls → MayHear names input connection ends → Each (λ call. MayCall names Role.Server call ends) (map (as_call connection) calls)
  calls_may Input.Tick connection ends calls own items hears = own_may connection ends calls own items
  calls_may (Input.Sense sense) connection ends calls own items hears = own_may connection ends calls own items
  calls_may (Input.Datagram bytes) connection ends calls (others, is, own) items hears = subst (λ (l : List LinkCall). Each (λ call. MayCall names Role.Server call ends) (map (as_call connection) l)) (sym is)
      (hears, own_may connection ends others own (subst AreItems is items))

  pub event_may : (event : Event Object) (world : World Object) → May does names event world → links.MayRun names (link_events event world) world.ends
  unfolding link_events
  event_may (Commands call) world may = (may, tt)
  event_may (Steps input connection) world (hears, items) = laws.follow names Role.Server (map (as_call connection) (step_of does input world).calls) world.ends
      (calls_may input connection world.ends (step_of does input world).calls (laws.first _ input _) items hears)
  event_may (Passes elapsed of_client of_server) world may = (may, tt)
  event_may (Loses bytes) world may = (tt, tt)
  event_may (ClientRestarts clock first) world may = (tt, tt)
  event_may (HostRestarts clock first object) world may = (tt, tt)
  event_may (Elsewhere count) world may = (tt, tt)

  all_called : (connection : ℕ) (calls : List LinkCall) (ends : Ends) → called_all connection calls ends ≡ links.run (calls_at Role.Server (map (as_call connection) calls)) ends
  unfolding called_all
  all_called connection [] ends = refl
  all_called connection (first ∷ others) ends = all_called connection others (called Role.Server (as_call connection first) ends)

  pub event_is : (event : Event Object) (world : World Object) → (happened does event world).ends ≡ links.run (link_events event world) world.ends
  unfolding happened stepped host_restarted link_events
  event_is (Commands call) world = refl
  event_is (Steps input connection) world = all_called connection (step_of does input world).calls world.ends
  event_is (Passes elapsed of_client of_server) world = refl
  event_is (Loses bytes) world = refl
  event_is (ClientRestarts clock first) world = refl
  event_is (HostRestarts clock first object) world = refl
  event_is (Elsewhere count) world = refl

  run_stands : (events : List (Event Object)) (world : World Object) → Timely names world.ends → StandsAtItsStage world → MayRun does names events world → StandsAtItsStage (run does events world)
  unfolding run MayRun
  run_stands [] world timely stands may = stands
  run_stands (first ∷ others) world timely stands may = run_stands others (happened does first world)
      (subst (Timely names) (sym (event_is first world)) (laws.time names (link_events first world) world.ends are timely (event_may first world may.0)))
      (stands_on does laws.world first world (laws.settled_so names world.ends Role.Server timely) stands) may.1

  pub stands_always : (start : Start) (own_name peer_name : List ℕ) (object : Object) (version : ℕ) (events : List (Event Object)) → MayRun does names events (begun does names start own_name peer_name object version)
      → StandsAtItsStage (run does events (begun does names start own_name peer_name object version))
  stands_always start own_name peer_name object version events may = run_stands events (begun does names start own_name peer_name object version) (laws.starts names start are)
      (stands_first does laws.world names start own_name peer_name object version) may

-- ---- in a world of a commanding client and a host, what the host has given is what its stage tells

-- the same stage and object, with a link that is as open and counts the same
pub with_link : {Object : Type 0} (does : Behaviour Object) (objects : ℕ) (host other : HostState Object) → other.object ≡ host.object → other.stage ≡ host.stage
    → (is_open other.link.phase ≡ true → (is_open host.link.phase ≡ true) × ((taken given : ℕ) → HasCounted taken given host.link → HasCounted taken given other.link))
    → HostStandsByCounts does objects host → HostStandsByCounts does objects other
with_link does objects host other object_is stage_is links stands = record {
  tells = ap (objects_told does) object_is ∙ stands.tells;
  stands = λ e. let l = links e in let m = stands.stands l.0 in record {
    taken = m.taken;
    given = m.given;
    counts = l.1 m.taken m.given m.counts;
    acted = subst (λ (s : Stage). HostHasActedOn s m.taken) (sym stage_is) m.acted;
    gave = subst (λ (s : Stage). HostHasGiven objects s m.given) (sym stage_is) m.gave;
  };
}

module _ {Object : Type 0} (does : Behaviour Object) (many : TellsAsMany does) (objects : ℕ) (laws : LawsOfHost does)
    (given_is : (input : Input) (connection : ℕ) (world : World Object) → (stepped does input connection world).ends.server.given
    ≡ kept (entering input connection world.ends) world.ends.server.given ++ items_given (reading_of world.ends.server.clock) (step_of does input world).calls world.ends.server.link) where
  abbrev Stands : World Object → Type 0
  Stands world = StandsByWhatItSaid does objects world

  pub step_said : (input : Input) (connection : ℕ) (world : World Object) → IsSettled world → Stands world → Stands (stepped does input connection world)
  unfolding stepped
  step_said input connection world is stands = record {
    counts = with_link does objects (step_of does input world).host (host_of (stepped does input connection world)) refl refl
        (λ e. (ap (λ (l : LinkState). is_open l.phase) (sym link_is) ∙ e, λ taken given. subst (HasCounted taken given) (sym link_is)))
        (step_stands does many objects now input (host_of world) stands.counts);
    said = λ e. subst (HostHasSaid does item world.version (step_of does input world).host.stage) (sym (given_is input connection world))
        (subst (λ (old : List (List ℕ)). HostHasSaid does item world.version (step_of does input world).host.stage (old ++ items_given now (step_of does input world).calls world.ends.server.link)) (sym (before e (is_open world.ends.server.link.phase) refl (entering input connection world.ends) refl))
        (subst (λ (l : LinkState). HostHasSaid does item world.version (step_of does input world).host.stage (given_before (is_open l.phase) world.ends.server.given ++ items_given now (step_of does input world).calls l)) is
        (step_says does item world.version many objects now world.ends.server.given input (host_of world) stands.counts refl refl
        (λ f. stands.said (ap (λ (l : LinkState). is_open l.phase) (sym is) ∙ f)) (ap (λ (l : LinkState). is_open l.phase) (sym link_is) ∙ e))));
  }
    where
      now : ℕ
      now = reading_of world.ends.server.clock

      item : Report → List ℕ
      item = item_of (host_of world)

      link_is : (stepped does input connection world).ends.server.link ≡ (step_of does input world).host.link
      link_is = laws.link input connection world is

      before : is_open (stepped does input connection world).ends.server.link.phase ≡ true → (b : Bool) → is_open world.ends.server.link.phase ≡ b → (entered : Option ℕ) → entering input connection world.ends ≡ entered
          → kept (entering input connection world.ends) world.ends.server.given ≡ given_before (is_open world.ends.server.link.phase) world.ends.server.given
      before e true f entered g = ap (λ (o : Option ℕ). kept o world.ends.server.given) (enters_none input connection world f) ∙ ap (λ (b : Bool). given_before b world.ends.server.given) (sym f)
      before e false f None g = absurd (false≢true (sym (laws.outside input connection world g f) ∙ e))
      before e false f (Some other) g = ap (λ (o : Option ℕ). kept o world.ends.server.given) g ∙ ap (λ (b : Bool). given_before b world.ends.server.given) (sym f)

  pub said_on : (event : Event Object) (world : World Object) → IsSettled world → MakesAsMany does objects event → Stands world → Stands (happened does event world)
  unfolding happened called later end_later lost restarted end_restarted host_restarted new_host created
  said_on (Commands call) world is makes stands = record { counts = stands.counts; said = stands.said }
  said_on (Steps input connection) world is makes stands = step_said input connection world is stands
  said_on (Passes elapsed of_client of_server) world is makes stands = record {
    counts = with_link does objects (host_of world) (host_of (happened does (Passes elapsed of_client of_server) world)) refl refl
        (λ e. let so = settled_open (reading_of (world.ends.server.clock + of_server)) world.ends.server.link e in
        (so.1, λ taken given has. subst (HasCounted taken given) (sym so.0) (record { taken_is = has.taken_is; given_is = has.given_is; waiting = has.waiting })))
        stands.counts;
    said = λ e. stands.said (settled_open (reading_of (world.ends.server.clock + of_server)) world.ends.server.link e).1;
  }
  said_on (Loses bytes) world is makes stands = record { counts = stands.counts; said = stands.said }
  said_on (ClientRestarts clock first) world is makes stands = record { counts = stands.counts; said = stands.said }
  said_on (HostRestarts clock first object) world is makes stands = record {
    counts = record {
      tells = (new_stands does many objects world.ends.server.link.identity world.own_name world.peer_name first clock object world.version makes).tells;
      stands = λ e. absurd (false≢true e);
    };
    said = λ e. absurd (false≢true e);
  }
  said_on (Elsewhere count) world is makes stands = record { counts = stands.counts; said = stands.said }

  pub said_first : (names : Names) (start : Start) (own_name peer_name : List ℕ) (object : Object) (version : ℕ) → objects_told does object ≡ objects → Stands (begun does names start own_name peer_name object version)
  unfolding new_host created
  said_first names start own_name peer_name object version tells = record {
    counts = record {
      tells = (new_stands does many objects _ own_name peer_name start.server_first start.server_clock object version tells).tells;
      stands = λ e. absurd (false≢true e);
    };
    said = λ e. absurd (false≢true e);
  }

  module _ (runs : RunLaws does) (names : Names) (are : AreNames names) where
    run_said : (events : List (Event Object)) (world : World Object) → Timely names world.ends → Each (MakesAsMany does objects) events → Stands world → MayRun does names events world → Stands (run does events world)
    unfolding run MayRun
    run_said [] world timely make stands may = stands
    run_said (first ∷ others) world timely make stands may = run_said others (happened does first world)
        (subst (Timely names) (sym (event_is does runs names are first world)) (runs.time names (link_events does runs names are first world) world.ends are timely (event_may does runs names are first world may.0)))
        make.1 (said_on first world (runs.settled_so names world.ends Role.Server timely) make.0 stands) may.1

    pub said_always : (start : Start) (own_name peer_name : List ℕ) (object : Object) (version : ℕ) (events : List (Event Object)) → objects_told does object ≡ objects → Each (MakesAsMany does objects) events
        → MayRun does names events (begun does names start own_name peer_name object version) → Stands (run does events (begun does names start own_name peer_name object version))
    said_always start own_name peer_name object version events tells make may = run_said events (begun does names start own_name peer_name object version) (runs.starts names start are) make
        (said_first names start own_name peer_name object version tells) may
