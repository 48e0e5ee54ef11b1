-- A route that waits finds its signal at known stop, where its link is ready.
use Rattle.simulator_recovery.proofs.Words.Basics.{◌≡◌, ◌≢◌, ◌⊎◌, inl, inr, ℕ, ◌≤◌, true, false, List, [], Option, Some, None, slice_get, refl, sym, ap, subst, ◌∙◌, arith, false≢true, le-leb, nat_tests, same_Some}
use Rattle.simulator_recovery.proofs.Words.Links.{reading_of, confirmed_items, is_up}
use Rattle.simulator_recovery.proofs.Words.Controllers.{Aspect}
use Rattle.simulator_recovery.proofs.Words.Interlockings.{ClientState, is_outside, is_ready, ClientSoFar, LinkCall, refusal, set_anew, Admissible, AllClear, AllKnown, IsKnownSignalAtStop, IsRouteOf, IsSignalReady, KnownStop, come_to, is_waiting, IxlState, KnownSignalState, RouteState, changed, Input, clocked_known_signal, Node, begun_with, empty_outbox, known_signal_after, Row, Table, has_taken_stop, is_set, Command, Phase}
use Rattle.simulator_recovery.proofs.Words.Stations.{Site, RouteId, Beginning, new_ixl, new_route_of, interlocking_stepped, key_of, WorldState, IsReached}
use Rattle.simulator_recovery.proofs.Words.Recovery.{Waits, RequestLaw, ProceedLaw}
use Rattle.std.proofs.lemmas.Bool.{leb-true}
use Rattle.simulator_recovery.proofs.Lemmas.Windows.SignalWindows.{new_rests, FewWait, GivenWhenReady, WindowsStand, given_ready, windows_keep}
use Rattle.simulator_recovery.proofs.Lemmas.Ground.AspectCalls.{CallsKeep, DoneBy, step_held}
use Rattle.simulator_recovery.proofs.Lemmas.Lamps.GivenNoMore.{over_rests}
use Rattle.simulator_recovery.proofs.Lemmas.Ground.IxlAlways.{always}
use Rattle.simulator_recovery.proofs.Lemmas.Ground.IxlClients.{changed_at, mapped_at, signal_is}
use Rattle.simulator_recovery.proofs.Lemmas.Ground.IxlSoFar.{at_node, set_at}
use Rattle.simulator_recovery.proofs.Lemmas.RoutesComing.NothingDueProceeds.{nothing_proceeds}
use Rattle.simulator_recovery.proofs.Lemmas.Ground.SignalParts.{AtRoute, IsQuiet, new_signal}
use Rattle.simulator_recovery.proofs.Lemmas.Lamps.StopsGiven.{changed_here, proceeding_set, waiting_set}
use Rattle.simulator_recovery.proofs.Lemmas.Windows.WaitingItems.{Went, clock_went, done_went, ready_inside}

-- ---- stop that is taken stays taken

-- where the signal is ready, its controller has taken stop as the last aspect given, or none was given
abbrev Taken : KnownSignalState → Type 0
Taken known = is_ready known.client.stage ≡ true → has_taken_stop known.aspect known.number (confirmed_items known.client.link) ≡ true

more_confirmed : (aspect : Aspect) (number before after : ℕ) → before ≤ after → has_taken_stop (Some aspect) number before ≡ true → has_taken_stop (Some aspect) number after ≡ true
more_confirmed Aspect.Stop number before after more taken = grind (arith, nat_tests, more, taken)
more_confirmed Aspect.Proceed number before after more taken = taken
more_confirmed Aspect.Slow number before after more taken = taken

went_taken : (known : KnownSignalState) (client : ClientState) (indicated : Option Aspect) → Went known.client client → GivenWhenReady known → FewWait known → Taken known → Taken (known_signal_after known.aspect known.number indicated client)
went_taken known client indicated went ready few taken = signal_is Taken known.aspect known.number indicated client
    (λ e now_ready. refl)
    (λ e now_ready. by_aspect e known.aspect refl)
  where
    by_aspect : is_outside client.stage ≡ false → (a : Option Aspect) → known.aspect ≡ a → has_taken_stop known.aspect known.number (confirmed_items client.link) ≡ true
    by_aspect inside None e = ap (λ (o : Option Aspect). has_taken_stop o known.number (confirmed_items client.link)) e
    by_aspect inside (Some aspect) e =
        let was_ready = given_ready known aspect ready e
        in let no_more = went.none few.gives was_ready (went.up inside)
        in let given = no_more.given
        in let waiting = no_more.waiting
        in let before = sym (ap (λ (o : Option Aspect). has_taken_stop o known.number (confirmed_items known.client.link)) e) ∙ taken was_ready
        in ap (λ (o : Option Aspect). has_taken_stop o known.number (confirmed_items client.link)) e
        ∙ more_confirmed aspect known.number (confirmed_items known.client.link) (confirmed_items client.link) (omega (arith, given, waiting)) before

-- ---- what is kept

record WaitsStand (table : Table) (routes : List RouteState) (signals : List KnownSignalState) (calls : List (Node × LinkCall)) : Type 0 where
  windows : WindowsStand table routes signals calls
  waits : (k : ℕ) (row : Row) (route : RouteState) (known : KnownSignalState) → AtRoute table k row route routes → is_waiting route.phase ≡ true → slice_get signals row.entry ≡ Some known → Taken known

module _ (law : RequestLaw) (now : ℕ) (table : Table) where
  abbrev Stand : List RouteState → List KnownSignalState → List (Node × LinkCall) → Type 0
  Stand = WaitsStand table

  -- a route that waits after a change to another phase is another
  elsewhere : (number : ℕ) (change : RouteState → RouteState) (row : Row) (route : RouteState) (routes : List RouteState) (signals : List KnownSignalState) (calls : List (Node × LinkCall)) → Stand routes signals calls → AtRoute table number row route routes
      → ((one : RouteState) → is_waiting (change one).phase ≡ false) → (k : ℕ) (other : Row) (later : RouteState) → AtRoute table k other later (changed change number routes) → is_waiting later.phase ≡ true
      → (slice_get routes k ≡ Some later → k ≡ number → ⊥) × (slice_get routes k ≡ Some later)
  elsewhere number change row route routes signals calls stand at never k other later later_at waits = (not_here, choose (changed_at change number routes k later later_at.there))
    where
      not_here : slice_get routes k ≡ Some later → k ≡ number → ⊥
      not_here e same =
          let is_it : later ≡ change route = same_Some later (change route) (sym later_at.there ∙ (ap (slice_get (changed change number routes)) same ∙ changed_here change number routes route at.there))
          in false≢true (sym (never route) ∙ (ap (λ (r : RouteState). is_waiting r.phase) (sym is_it) ∙ waits))

      choose : ((k ≡ number) × (was : RouteState) × (slice_get routes number ≡ Some was) × (later ≡ change was)) ⊎ (slice_get routes k ≡ Some later) → slice_get routes k ≡ Some later
      choose (inl (same, was, e, so)) = absurd (false≢true (sym (never was) ∙ (ap (λ (r : RouteState). is_waiting r.phase) (sym so) ∙ waits)))
      choose (inr e) = e

  -- the signal of a set route is given an aspect, and the route comes to another phase
  given_waits : (number : ℕ) (change : RouteState → RouteState) (row : Row) (route : RouteState) (new : KnownSignalState) (routes : List RouteState) (signals : List KnownSignalState) (calls : List (Node × LinkCall)) → Stand routes signals calls → AtRoute table number row route routes
      → is_set route.phase ≡ true → ((one : RouteState) → is_waiting (change one).phase ≡ false) → (k : ℕ) (other : Row) (later : RouteState) (known : KnownSignalState) → AtRoute table k other later (changed change number routes) → is_waiting later.phase ≡ true
      → slice_get (changed (λ old. new) row.entry signals) other.entry ≡ Some known → Taken known
  given_waits number change row route new routes signals calls stand at set never k other later known later_at waits e =
      let so = elsewhere number change row route routes signals calls stand at never k other later later_at waits
      in choose so.0 so.1 (set_at row.entry new signals other.entry known e)
    where
      choose : (slice_get routes k ≡ Some later → k ≡ number → ⊥) → slice_get routes k ≡ Some later → ((other.entry ≡ row.entry) × (known ≡ new)) ⊎ ((other.entry ≢ row.entry) × (slice_get signals other.entry ≡ Some known)) → Taken known
      choose not_here f (inl (same, is)) = absurd (not_here f (stand.windows.stops.apart k number other row later route (record { row_there = later_at.row_there; there = f }) at same (waiting_set later.phase waits) set))
      choose not_here f (inr (differ, g)) = stand.waits k other later known (record { row_there = later_at.row_there; there = f }) waits g

  -- a request that isn't refused finds it so
  asked_taken : (route : RouteId) (ixl : IxlState) (row : Row) (known : KnownSignalState) → refusal now table (Command.Request route) ixl ≡ None → slice_get table.rows route.0 ≡ Some row → slice_get ixl.known_signals row.entry ≡ Some known → FewWait known → Taken known
  asked_taken route ixl row known none row_there there few ready = by_stop (subst (λ (k : KnownSignalState). IsKnownSignalAtStop now k) same at_stop.2)
    where
      admissible : Admissible now table ixl route.0
      admissible = (law now table ixl route).0 none

      at_stop : KnownStop now ixl row.entry
      at_stop = subst (λ (r : Row). KnownStop now ixl r.entry) (same_Some admissible.row row (sym admissible.known.0 ∙ row_there)) admissible.at_stop

      same : at_stop.0 ≡ known
      same = same_Some at_stop.0 known (sym at_stop.1 ∙ there)

      up : is_up known.client.link.phase ≡ true
      up = few.up (ready_inside known.client.stage ready)

      by_stop : IsKnownSignalAtStop now known → has_taken_stop known.aspect known.number (confirmed_items known.client.link) ≡ true
      by_stop (inl (upper, inl none_given)) = ap (λ (o : Option Aspect). has_taken_stop o known.number (confirmed_items known.client.link)) none_given
      by_stop (inl (upper, inr (given, confirmed))) = ap (λ (o : Option Aspect). has_taken_stop o known.number (confirmed_items known.client.link)) given ∙ le-leb known.number (confirmed_items known.client.link) confirmed
      by_stop (inr (down, quiet)) = absurd (false≢true (sym down ∙ up))

  waits_keep : CallsKeep now table Stand
  waits_keep = record {
    clock = λ routes signals calls stand. record {
      windows = (windows_keep now table).clock routes signals calls stand.windows;
      waits = λ k row route known at waits e. let was = mapped_at (clocked_known_signal now) signals row.entry known e
          in subst Taken (sym was.2) (went_taken was.0 _ was.0.indicated (clock_went now was.0.client) (stand.windows.stops.ready row.entry was.0 was.1) (stand.windows.few row.entry was.0 was.1) (stand.waits k row route was.0 at waits was.1));
    };
    client = λ place known done indicated routes signals calls there by stand. record {
      windows = (windows_keep now table).client place known done indicated routes signals calls there by stand.windows;
      waits = λ k row route later at waits e. client_taken place known done indicated routes signals calls there by stand k row route later at waits (set_at place (known_signal_after known.aspect known.number indicated done.client) signals row.entry later e);
    };
    point = λ place more routes signals calls stand. record { windows = (windows_keep now table).point place more routes signals calls stand.windows; waits = stand.waits };
    detector = λ place more routes signals calls stand. record { windows = (windows_keep now table).detector place more routes signals calls stand.windows; waits = stand.waits };
    quiet = λ number change routes signals calls quiet stand. record {
      windows = (windows_keep now table).quiet number change routes signals calls quiet stand.windows;
      waits = λ k row route known at waits e. quiet_taken number change routes signals calls quiet stand k row route known at waits e (changed_at change number routes k route at.there);
    };
    withdraws = λ number row route known done routes signals calls at goes there so stand. record {
      windows = (windows_keep now table).withdraws number row route known done routes signals calls at goes there so stand.windows;
      waits = given_waits number (come_to Phase.Withdrawn) row route (new_signal Aspect.Stop done.client.link.given done.client known) routes signals calls stand at (proceeding_set route.phase goes) (λ one. refl);
    };
    falls = λ number row route routes signals calls at goes unready stand. record {
      windows = (windows_keep now table).falls number row route routes signals calls at goes unready stand.windows;
      waits = λ k other later known later_at waits e.
          let so = elsewhere number (come_to Phase.Withdrawn) row route routes signals calls stand at (λ one. refl) k other later later_at waits
          in stand.waits k other later known (record { row_there = later_at.row_there; there = so.1 }) waits e;
    };
    proceeds = λ number row route known done change routes signals calls at waits goes_on proceeds there stopped so stand. record {
      windows = (windows_keep now table).proceeds number row route known done change routes signals calls at waits goes_on proceeds there stopped so stand.windows;
      waits = given_waits number change row route (new_signal row.aspect done.client.link.given done.client known) routes signals calls stand at (waiting_set route.phase waits) (λ one. ap is_waiting (proceeds one));
    };
    sets = λ route ixl calls none stand. record {
      windows = (windows_keep now table).sets route ixl calls none stand.windows;
      waits = λ k row one known at waits e. set_taken route ixl calls none stand k row one known at waits e (changed_at set_anew route.0 ixl.routes k one at.there);
    };
  }
    where
      client_taken : (place : ℕ) (known : KnownSignalState) (done : ClientSoFar) (indicated : Option Aspect) (routes : List RouteState) (signals : List KnownSignalState) (calls : List (Node × LinkCall)) → slice_get signals place ≡ Some known → DoneBy now known.client done → Stand routes signals calls
          → (k : ℕ) (row : Row) (route : RouteState) (later : KnownSignalState) → AtRoute table k row route routes → is_waiting route.phase ≡ true
          → ((row.entry ≡ place) × (later ≡ known_signal_after known.aspect known.number indicated done.client)) ⊎ ((row.entry ≢ place) × (slice_get signals row.entry ≡ Some later)) → Taken later
      client_taken place known done indicated routes signals calls there by stand k row route later at waits (inl (same, is)) =
          subst Taken (sym is) (went_taken known done.client indicated (done_went now known.client done by) (stand.windows.stops.ready place known there) (stand.windows.few place known there) (stand.waits k row route known at waits (ap (slice_get signals) same ∙ there)))
      client_taken place known done indicated routes signals calls there by stand k row route later at waits (inr (differ, e)) = stand.waits k row route later at waits e

      quiet_taken : (number : ℕ) (change : RouteState → RouteState) (routes : List RouteState) (signals : List KnownSignalState) (calls : List (Node × LinkCall)) → ((route : RouteState) → slice_get routes number ≡ Some route → IsQuiet route (change route)) → Stand routes signals calls
          → (k : ℕ) (row : Row) (route : RouteState) (known : KnownSignalState) → AtRoute table k row route (changed change number routes) → is_waiting route.phase ≡ true → slice_get signals row.entry ≡ Some known
          → ((k ≡ number) × (was : RouteState) × (slice_get routes number ≡ Some was) × (route ≡ change was)) ⊎ (slice_get routes k ≡ Some route) → Taken known
      quiet_taken number change routes signals calls quiet stand k row route known at waits e (inr f) = stand.waits k row route known (record { row_there = at.row_there; there = f }) waits e
      quiet_taken number change routes signals calls quiet stand k row route known at waits e (inl (same, was, f, so)) = by_quiet (quiet was f)
        where
          waits_so : is_waiting (change was).phase ≡ true
          waits_so = ap (λ (r : RouteState). is_waiting r.phase) (sym so) ∙ waits

          by_quiet : IsQuiet was (change was) → Taken known
          by_quiet (inl (kept, cancelled)) = stand.waits k row was known (record { row_there = at.row_there; there = ap (slice_get routes) same ∙ f }) (ap is_waiting (sym kept) ∙ waits_so) e
          by_quiet (inr (over, undone, set, still)) = absurd (false≢true (sym (over_rests (change was).phase over).0 ∙ waits_so))

      set_taken : (route : RouteId) (ixl : IxlState) (calls : List (Node × LinkCall)) → refusal now table (Command.Request route) ixl ≡ None → Stand ixl.routes ixl.known_signals calls
          → (k : ℕ) (row : Row) (one : RouteState) (known : KnownSignalState) → AtRoute table k row one (changed set_anew route.0 ixl.routes) → is_waiting one.phase ≡ true → slice_get ixl.known_signals row.entry ≡ Some known
          → ((k ≡ route.0) × (was : RouteState) × (slice_get ixl.routes route.0 ≡ Some was) × (one ≡ set_anew was)) ⊎ (slice_get ixl.routes k ≡ Some one) → Taken known
      set_taken route ixl calls none stand k row one known at waits e (inr f) = stand.waits k row one known (record { row_there = at.row_there; there = f }) waits e
      set_taken route ixl calls none stand k row one known at waits e (inl (same, was, f, so)) = asked_taken route ixl row known none (ap (slice_get table.rows) (sym same) ∙ at.row_there) e (stand.windows.few row.entry known e)

-- ---- each step, and every list of events

module _ (law : RequestLaw) (site : Site) (table : Table) where
  abbrev Between : List RouteState → List KnownSignalState → Type 0
  Between routes signals = WaitsStand table routes signals []

  new_waits : (begins : Beginning) → Between (new_ixl site table begins).routes (new_ixl site table begins).known_signals
  unfolding new_ixl
  new_waits begins = record {
    windows = new_rests site table begins;
    waits = λ k row route known at waits e. let found = mapped_at new_route_of table.rows k route at.there in absurd (false≢true (ap (λ (r : RouteState). is_waiting r.phase) (sym found.2) ∙ waits));
  }

  step_waits : (input : Input) (world : WorldState) → Between world.interlocking.ixl.routes world.interlocking.ixl.known_signals
      → Between (interlocking_stepped site table input world).interlocking.ixl.routes (interlocking_stepped site table input world).interlocking.ixl.known_signals
  unfolding at_node interlocking_stepped
  step_waits input world is =
      let stand = step_held (reading_of world.interlocking.clock) table (WaitsStand table) (waits_keep law (reading_of world.interlocking.clock) table) (key_of site) input (begun_with world.interlocking.ixl empty_outbox) is
      in record { windows = record { stops = stand.windows.stops; few = stand.windows.few; three = stand.windows.three; leaves = λ place. tt }; waits = stand.waits }

  always_waits : (world : WorldState) → IsReached site table world → Between world.interlocking.ixl.routes world.interlocking.ixl.known_signals
  always_waits = always site table Between new_waits step_waits

taken_shown : (aspect : Option Aspect) (number confirmed : ℕ) → has_taken_stop aspect number confirmed ≡ true → (aspect ≡ None) ⊎ ((aspect ≡ Some Aspect.Stop) × (number ≤ confirmed))
taken_shown None number confirmed e = inl refl
taken_shown (Some Aspect.Stop) number confirmed e = inr (refl, leb-true number confirmed e)
taken_shown (Some Aspect.Proceed) number confirmed e = absurd (false≢true e)
taken_shown (Some Aspect.Slow) number confirmed e = absurd (false≢true e)

pub waits_at_stop : RequestLaw → (site : Site) (table : Table) (world : WorldState) (reading number : ℕ) (row : Row) (route : RouteState) → IsReached site table world → IsRouteOf table world.interlocking.ixl number row route → route.phase ≡ Phase.Waiting
    → IsSignalReady world.interlocking.ixl row.entry → KnownStop reading world.interlocking.ixl row.entry
waits_at_stop law site table world reading number row route reached is waits ready =
    let stand = always_waits law site table world reached
    in let taken = stand.waits number row route ready.0 (record { row_there = is.0; there = is.1 }) (ap is_waiting waits) ready.1 ready.2
    in (ready.0, ready.1, inl ((stand.windows.few row.entry ready.0 ready.1).up (ready_inside ready.0.client.stage ready.2), taken_shown ready.0.aspect ready.0.number (confirmed_items ready.0.client.link) taken))

pub known_proceeds : ProceedLaw → RequestLaw → (site : Site) (table : Table) (world : WorldState) (number : ℕ) (row : Row) (route : RouteState) → IsReached site table world → IsRouteOf table world.interlocking.ixl number row route → Waits route
    → AllKnown world.interlocking.ixl row.needs → AllClear table world.interlocking.ixl row.sections → IsSignalReady world.interlocking.ixl row.entry → ⊥
known_proceeds proceed request site table world number row route reached is waits known clear ready = nothing_proceeds proceed site table world 0 number row route reached is (record {
  waits = waits.0;
  goes_on = waits.1;
  points = known;
  clear = clear;
  ready = ready;
  at_stop = waits_at_stop request site table world 0 number row route reached is waits.0 ready;
})
