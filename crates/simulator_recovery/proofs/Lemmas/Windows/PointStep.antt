-- A step of an interlocking at the clients of points: none of them closes its link for a full window.
use Rattle.simulator_recovery.proofs.Words.Basics.{◌≡◌, ℕ, ◌∙◌, ◌<◌, true, List, [], ◌∷◌, ◌++◌, length, map, refl, sym, ap, subst, arith, false≢true}
use Rattle.simulator_recovery.proofs.Words.Links.{receiving, settled, Each, Call, Links, OutboxState, window_size, LinkState, is_client, is_up, all_made, made_by}
use Rattle.simulator_recovery.proofs.Words.Controllers.{Aspect, Side}
use Rattle.simulator_recovery.proofs.Words.Interlockings.{ClientState, PeerState, is_available, LinkCall, Receives, as_call, begun, clocked, commanding, hearing, ticking, Stage, Detector, Node, Point, Signal}
use Rattle.simulator_recovery.proofs.Words.Stations.{Site, point_link}
use Rattle.simulator_recovery.proofs.Words.Machine.{given_after, taken_after}
use Rattle.simulator_recovery.proofs.Words.Recovery.{ClientHasSaid, ClientTalks, commanded, ClientStandsByCounts}
use Rattle.simulator_spec.specs.ixl_client.declared.command.Command.{Command}
use Rattle.simulator_spec.specs.ixl_spec.Step as ixl
use Rattle.simulator_recovery.proofs.Lemmas.Ground.ClientBehind.{all_gave_behind, all_took_behind, available_ready, begins_here, move_leads, so_far_behind}
use Rattle.simulator_recovery.proofs.Lemmas.Ground.ClientCalls.{IsSaid, commanding_calls, hearing_calls, ticking_calls}
use Rattle.simulator_recovery.proofs.Lemmas.Talk.ClientLinks.{ClockedStands, clocked_peer, clocked_stands, up_open}
use Rattle.simulator_recovery.proofs.Lemmas.Talk.ClientTalk.{OfNode, SoFar, commanding_so_far, hearing_so_far, ticking_so_far}
use Rattle.simulator_recovery.proofs.Lemmas.Windows.FewItems.{FewSoFar, GivesFew, clocked_few, commanding_few, hearing_few, ticking_few}
use Rattle.simulator_recovery.proofs.Lemmas.Ground.IxlSoFar.{SoFarKeeps}
use Rattle.simulator_recovery.proofs.Lemmas.Ground.EndCalls.{map_both, map_length}
use Rattle.simulator_recovery.proofs.Lemmas.Windows.PointTally.{IsOwn, Tally, own_tally, said_own}
use Rattle.simulator_recovery.proofs.Lemmas.Talk.StationTalk.{client_comes, clocked_link, clocked_talks, gave, took}

module _ (site : Site) (now connection spare : ℕ) (network : Links) (input : ixl.Input) (few_spare : spare < window_size)
    (tallies : (place : ℕ) → place < length site.points → Tally spare (network.ends (point_link site place)).client.link (gave network (point_link site place)) (took network (point_link site place)))
    (received : (place : ℕ) → place < length site.points → (bytes : List ℕ) → input ≡ ixl.Datagram bytes
    → Tally spare (receiving now bytes (network.ends (point_link site place)).client.link).link (gave network (point_link site place)) (took network (point_link site place) ++ (receiving now bytes (network.ends (point_link site place)).client.link).items)) where
  abbrev link_of : ℕ → LinkState
  link_of place = (network.ends (point_link site place)).client.link

  abbrev gave_then : ℕ → List LinkCall → List (List ℕ)
  gave_then place calls = given_after now (map (as_call connection) calls) (network.ends (point_link site place)).client.link (gave network (point_link site place))

  abbrev took_then : ℕ → List LinkCall → List (List ℕ)
  took_then place calls = taken_after now (map (as_call connection) calls) (network.ends (point_link site place)).client.link (took network (point_link site place))

  pub record PointBefore (place : ℕ) (client : ClientState) : Type 0 where
    pub there : place < length site.points
    pub counts : ClientStandsByCounts client
    pub of : OfNode (Point place) client.peer
    pub link_is : settled now client.link ≡ (network.ends (point_link site place)).client.link
    pub asks : is_client (network.ends (point_link site place)).client.link.identity.role ≡ true
    pub talks : ClientTalks site (Point place) client (gave network (point_link site place)) (took network (point_link site place))
    pub few : GivesFew true client

  pub record PointHolds (place : ℕ) (client : ClientState) (calls : List LinkCall) : Type 0 where
    pub there : place < length site.points
    pub peer : PeerState
    pub of : OfNode (Point place) peer
    pub so : SoFar site (Point place) peer of now connection (network.ends (point_link site place)).client.link (gave network (point_link site place)) (took network (point_link site place)) client calls
    pub few : FewSoFar true client calls
    pub tally : Tally spare client.link (gave_then place calls) (took_then place calls)

  pub record PointSettled (place : ℕ) (client : ClientState) (calls : List LinkCall) : Type 0 where
    pub none : calls ≡ []
    pub counts : ClockedStands now client
    pub asks : is_client client.link.identity.role ≡ true
    pub link_is : client.link ≡ (network.ends (point_link site place)).client.link
    pub holds : PointHolds place client calls

  settles : (place : ℕ) (client : ClientState) → PointBefore place client → PointSettled place (clocked now client) []
  unfolding given_after taken_after
  settles place client b = record {
    none = refl;
    counts = clocked_stands now client b.counts;
    asks = ap (λ (l : LinkState). is_client l.identity.role) link_same ∙ b.asks;
    link_is = link_same;
    holds = record {
      there = b.there;
      peer = client.peer;
      of = b.of;
      so = begins_here now connection site (Point place) client.peer b.of (network.ends (point_link site place)).client.link (gave network (point_link site place)) (took network (point_link site place)) (clocked now client) (clocked_peer now client) link_same
          (clocked_talks site (Point place) now client (gave network (point_link site place)) (took network (point_link site place)) b.talks);
      few = record { few = clocked_few true now client b.few; leaves = tt };
      tally = subst (λ (l : LinkState). Tally spare l (gave network (point_link site place)) (took network (point_link site place))) (sym link_same) (tallies place b.there);
    };
  }
    where
      link_same : (clocked now client).link ≡ (network.ends (point_link site place)).client.link
      link_same = clocked_link now client ∙ b.link_is

  -- a part that goes on from what holds
  module _ (place : ℕ) (client after : ClientState) (calls more : List LinkCall) (h : PointHolds place client calls) where
    then_so : (SoFar site (Point place) h.peer h.of now connection client.link (gave_then place calls) (took_then place calls) client []
        → SoFar site (Point place) h.peer h.of now connection client.link (gave_then place calls) (took_then place calls) after more)
        → SoFar site (Point place) h.peer h.of now connection (network.ends (point_link site place)).client.link (gave network (point_link site place)) (took network (point_link site place)) after (calls ++ more)
    then_so part = so_far_behind now connection site (Point place) h.peer h.of (network.ends (point_link site place)).client.link (gave network (point_link site place)) (took network (point_link site place)) calls more client after h.so
        (part (begins_here now connection site (Point place) h.peer h.of client.link _ _ client h.so.peer_is refl h.so.talks))

    both : map (as_call connection) (calls ++ more) ≡ map (as_call connection) calls ++ map (as_call connection) more
    both = map_both (as_call connection) calls more

    gave_both : gave_then place (calls ++ more) ≡ given_after now (map (as_call connection) more) client.link (gave_then place calls)
    gave_both = ap (λ (cs : List Call). given_after now cs (network.ends (point_link site place)).client.link (gave network (point_link site place))) both
        ∙ all_gave_behind now connection (map (as_call connection) calls) (map (as_call connection) more) (network.ends (point_link site place)).client.link (gave network (point_link site place))
        ∙ ap (λ (l : LinkState). given_after now (map (as_call connection) more) l (gave_then place calls)) (sym h.so.link_is)

    took_both : took_then place (calls ++ more) ≡ taken_after now (map (as_call connection) more) client.link (took_then place calls)
    took_both = ap (λ (cs : List Call). taken_after now cs (network.ends (point_link site place)).client.link (took network (point_link site place))) both
        ∙ all_took_behind now connection (map (as_call connection) calls) (map (as_call connection) more) (network.ends (point_link site place)).client.link (took network (point_link site place))
        ∙ ap (λ (l : LinkState). taken_after now (map (as_call connection) more) l (took_then place calls)) (sym h.so.link_is)

    -- what holds of the calls from here on holds of all
    then_tally : SoFar site (Point place) h.peer h.of now connection client.link (gave_then place calls) (took_then place calls) after more
        → Tally spare (all_made now (map (as_call connection) more) client.link).link (given_after now (map (as_call connection) more) client.link (gave_then place calls)) (taken_after now (map (as_call connection) more) client.link (took_then place calls))
        → Tally spare after.link (gave_then place (calls ++ more)) (took_then place (calls ++ more))
    then_tally so tally = subst (λ (l : LinkState). Tally spare l (gave_then place (calls ++ more)) (took_then place (calls ++ more))) (sym so.link_is)
        (subst (λ (g : List (List ℕ)). Tally spare (all_made now (map (as_call connection) more) client.link).link g (took_then place (calls ++ more))) (sym gave_both)
        (subst (Tally spare (all_made now (map (as_call connection) more) client.link).link (given_after now (map (as_call connection) more) client.link (gave_then place calls))) (sym took_both) tally))

    here : SoFar site (Point place) h.peer h.of now connection client.link (gave_then place calls) (took_then place calls) client []
    here = begins_here now connection site (Point place) h.peer h.of client.link _ _ client h.so.peer_is refl h.so.talks

    goes_on : SoFar site (Point place) h.peer h.of now connection client.link (gave_then place calls) (took_then place calls) after more → FewSoFar true after (calls ++ more)
        → Tally spare (all_made now (map (as_call connection) more) client.link).link (given_after now (map (as_call connection) more) client.link (gave_then place calls)) (taken_after now (map (as_call connection) more) client.link (took_then place calls))
        → PointHolds place after (calls ++ more)
    goes_on so few tally = record { there = h.there; peer = h.peer; of = h.of; so = then_so (λ first. so); few = few; tally = then_tally so tally }

  -- ---- the parts of a step

  -- what comes
  hears_point : (place : ℕ) (bytes : List ℕ) (client : ClientState) (outbox : OutboxState) (calls : List LinkCall) → input ≡ ixl.Datagram bytes → PointSettled place client calls
      → PointHolds place (hearing now bytes (begun client outbox)).client (calls ++ (hearing now bytes (begun client outbox)).calls)
  unfolding all_made given_after taken_after made_by
  hears_point place bytes client outbox calls comes s = goes_on place client (hearing now bytes (begun client outbox)).client calls (hearing now bytes (begun client outbox)).calls s.holds
      (hearing_so_far site (Point place) s.holds.peer s.holds.of now connection client.link _ _ bytes (begun client outbox) (client_comes now bytes client s.counts s.asks) (here place client client calls [] s.holds))
      (hearing_few true now bytes client outbox calls s.holds.few)
      (subst (λ (cs : List LinkCall). Tally spare (all_made now (map (as_call connection) cs) client.link).link (given_after now (map (as_call connection) cs) client.link (gave_then place calls)) (taken_after now (map (as_call connection) cs) client.link (took_then place calls)))
      (sym says.1.1) (own_tally now connection spare says.0 (said_own says.0 says.1.0) (receiving now bytes client.link).link (gave_then place calls) (took_then place calls ++ (receiving now bytes client.link).items) first))
    where
      says : (others : List LinkCall) × (Each IsSaid others × ((hearing now bytes (begun client outbox)).calls ≡ Receives bytes ∷ others))
      says = hearing_calls now bytes client outbox

      first : Tally spare (receiving now bytes client.link).link (gave_then place calls) (took_then place calls ++ (receiving now bytes client.link).items)
      first = subst (λ (cs : List LinkCall). Tally spare (receiving now bytes client.link).link (gave_then place cs) (took_then place cs ++ (receiving now bytes client.link).items)) (sym s.none)
          (subst (λ (l : LinkState). Tally spare (receiving now bytes l).link (gave network (point_link site place)) (took network (point_link site place) ++ (receiving now bytes l).items)) (sym s.link_is) (received place s.holds.there bytes comes))

  -- a client that has answered all has room
  room_at : (place : ℕ) (client : ClientState) (calls : List LinkCall) → PointHolds place client calls → is_available client.stage ≡ true → is_up client.link.phase ≡ true → length client.link.waiting < window_size
  room_at place client calls h available up = by_stage client.stage available (h.so.talks.said (up_open client.link.phase up))
    where
      by_stage : (s : Stage) → is_available s ≡ true → ClientHasSaid site (Point place) client.peer s (length (took_then place calls)) (gave_then place calls) → length client.link.waiting < window_size
      by_stage Stage.Outside e said = absurd (false≢true e)
      by_stage Stage.AwaitsAnswer e said = absurd (false≢true e)
      by_stage Stage.AwaitsStart e said = absurd (false≢true e)
      by_stage (Stage.AwaitsStatus left) e said = absurd (false≢true e)
      by_stage Stage.AwaitsReport e said = absurd (false≢true e)
      by_stage Stage.Completed e (c, all) =
          let t = h.tally up
          in let g = ap length c.are
          in let m = map_length (commanded client.peer) c.commands
          in omega (arith, t, g, m, all, few_spare)

  moves_point : (place : ℕ) (side : Side) (client : ClientState) (outbox : OutboxState) (calls : List LinkCall) → is_available client.stage ≡ true → PointHolds place client calls
      → PointHolds place (commanding now (Command.Move side) (begun client outbox)).client (calls ++ (commanding now (Command.Move side) (begun client outbox)).calls)
  moves_point place side client outbox calls available h = goes_on place client (commanding now (Command.Move side) (begun client outbox)).client calls (commanding now (Command.Move side) (begun client outbox)).calls h
      (commanding_so_far site (Point place) h.peer h.of now connection client.link _ _ (Command.Move side) (begun client outbox) (available_ready client.stage available) (move_leads site place h.peer side client.stage available) (here place client client calls [] h))
      (commanding_few now (Command.Move side) client outbox calls (available_ready client.stage available) (room_at place client calls h available) h.few)
      (own_tally now connection spare (commanding now (Command.Move side) (begun client outbox)).calls (said_own _ (commanding_calls now (Command.Move side) client outbox)) client.link (gave_then place calls) (took_then place calls) h.tally)

  ticks_point : (place : ℕ) (client : ClientState) (outbox : OutboxState) (calls : List LinkCall) → PointHolds place client calls → PointHolds place (ticking now (begun client outbox)).client (calls ++ (ticking now (begun client outbox)).calls)
  ticks_point place client outbox calls h = goes_on place client (ticking now (begun client outbox)).client calls (ticking now (begun client outbox)).calls h
      (ticking_so_far site (Point place) h.peer h.of now connection client.link _ _ (begun client outbox) (here place client client calls [] h))
      (ticking_few true now client outbox calls h.few)
      (own_tally now connection spare (ticking now (begun client outbox)).calls (subst (Each IsOwn) (sym (ticking_calls now client outbox)) (tt, (tt, tt))) client.link (gave_then place calls) (took_then place calls) h.tally)

  -- ---- all clients

  abbrev pub BeforeAt : Node → ClientState → Type 0
  BeforeAt (Point place) client = PointBefore place client
  BeforeAt _ client = Unit {0}

  abbrev pub SettledAt : Node → ClientState → List LinkCall → Type 0
  SettledAt (Point place) client calls = PointSettled place client calls
  SettledAt _ client calls = Unit {0}

  abbrev pub HoldsAt : Node → ClientState → List LinkCall → Type 0
  HoldsAt (Point place) client calls = PointHolds place client calls
  HoldsAt _ client calls = Unit {0}

  abbrev pub AnyAspect : ℕ → Aspect → Type 0
  AnyAspect place aspect = Unit {0}

  abbrev pub Comes : List ℕ → Type 0
  Comes bytes = input ≡ ixl.Datagram bytes

  clock_at : (node : Node) (client : ClientState) → BeforeAt node client → SettledAt node (clocked now client) []
  clock_at (Point place) client b = settles place client b
  clock_at (Signal place) client b = tt
  clock_at (Detector place) client b = tt

  weaker_at : (node : Node) (client : ClientState) (calls : List LinkCall) → SettledAt node client calls → HoldsAt node client calls
  weaker_at (Point place) client calls s = s.holds
  weaker_at (Signal place) client calls s = tt
  weaker_at (Detector place) client calls s = tt

  hears_at : (node : Node) (bytes : List ℕ) (client : ClientState) (outbox : OutboxState) (calls : List LinkCall) → Comes bytes → SettledAt node client calls → HoldsAt node (hearing now bytes (begun client outbox)).client (calls ++ (hearing now bytes (begun client outbox)).calls)
  hears_at (Point place) bytes client outbox calls comes s = hears_point place bytes client outbox calls comes s
  hears_at (Signal place) bytes client outbox calls comes s = tt
  hears_at (Detector place) bytes client outbox calls comes s = tt

  ticks_at : (node : Node) (client : ClientState) (outbox : OutboxState) (calls : List LinkCall) → HoldsAt node client calls → HoldsAt node (ticking now (begun client outbox)).client (calls ++ (ticking now (begun client outbox)).calls)
  ticks_at (Point place) client outbox calls h = ticks_point place client outbox calls h
  ticks_at (Signal place) client outbox calls h = tt
  ticks_at (Detector place) client outbox calls h = tt

  pub points_keep : SoFarKeeps now AnyAspect Comes BeforeAt SettledAt HoldsAt
  points_keep = record {
    clock = clock_at;
    weaker = weaker_at;
    hears = hears_at;
    aspects = λ place aspect client outbox calls gives ready h. tt;
    moves = moves_point;
    ticks = ticks_at;
  }
