-- A station whose clocks keep time has links that keep time.
use Rattle.std.proofs.Common.{◌≡◌, ◌⊎◌, inl, inr, ℕ, zero, suc, ◌+◌, ◌<◌, Bool, true, false, List, [], ◌∷◌, drop, Option, Some, None, slice_get, refl, sym, ap, subst, ◌∙◌, arith}
use Rattle.std.specs.Prelude.{◌==◌, slice_index_or}
use Rattle.std.proofs.lemmas.Bool.Decides.{nat_tests}
use native.Mathlib.Decide.{dec_lt}
use Rattle.simulator_spec.specs.layout.Entries.{Site}
use Rattle.simulator_spec.specs.layout.Once.{Once}
use Rattle.simulator_spec.specs.layout.Station.{IsStation}
use Rattle.simulator_spec.specs.rasta_core.EachLink.{AreTimely, AreTimelyBy}
use Rattle.simulator_spec.specs.rasta_core.Ends.{end_later}
use Rattle.simulator_spec.specs.rasta_core.Links.{AreAtOnce, AreLinks, Links, LinksEvent, MayRunLinks, PassesFor, all_offsets_on, begun, happened_to, run_links, seen}
use Rattle.simulator_spec.specs.rasta_core.Names.{Names}
use Rattle.simulator_spec.specs.rasta_core.TrueClocks.{GoesOff, GoesOffSince, IsOffSince, IsSteady, Moment, Offset, moment_of as moment_of_end, moment_on, set, unless}
use Rattle.simulator_spec.specs.rasta_core.identity.Role.{Role}
use Rattle.simulator_spec.specs.rasta_core.identity.Role.TheVariants as role
use Rattle.simulator_spec.specs.ixl_spec.Table.{Table}
use Rattle.simulator_spec.specs.simulator_event.declared.event.Event.{Event}
use Rattle.simulator_spec.specs.simulator_event.declared.event.Event.TheVariants as event
use Rattle.simulator_spec.specs.simulator_event.layout.declared.ids.NodeId.{NodeId}
use Rattle.simulator_spec.specs.Happens.{happens}
use Rattle.simulator_spec.specs.Links.{AreLinksOf, names_at, server_ends, starts_at_zero}
use Rattle.simulator_spec.specs.Nodes.{links, node_at, nodes}
use Rattle.simulator_spec.specs.Refusals.{refusal}
use Rattle.simulator_spec.specs.Run.{after_all}
use Rattle.simulator_spec.specs.State.{WorldState}
use Rattle.simulator_spec.specs.TrueClocks.{KeepTime, MayAllCome, MayCome, StaysSteady, clock_in, moment_of, sets}
use Rattle.simulator_link_laws.proofs.AtOnce.{IsAtOnceAt, RestartsSet, events_at_once, restart_sets}
use Rattle.simulator_link_laws.proofs.KeptWhole.{time_keeps}
use Rattle.simulator_link_laws.proofs.Later.{steps_count, time_links}
use Rattle.simulator_link_laws.proofs.Partners.{partner_at, partners_count}
use Rattle.simulator_link_laws.specs.Events.{FollowsBy, events_of, restart_events, time_events}
use Rattle.simulator_link_laws.specs.TrueLinks.{AreTrueLinks, IsOffOn, KeepLinks, links_after, node_on}
use Rattle.simulator_link_laws.specs.Whole.{IsWhole}

-- ---- clocks of nodes and of ends

abbrev moment : ℕ → ℕ → Moment
moment at clock = record { at = at; clock = clock }

two_same : (a b c d : ℕ) → a ≡ b → c ≡ d → moment a c ≡ moment b d
two_same a b c d e f = cc

same_moment : (site : Site) (world : WorldState) (network : Links) (link : ℕ) (who : Role) → AreLinksOf site world network → link < links site
    → moment_of (node_on link who) world ≡ moment_of_end who (seen link network)
same_moment site world network link role.Client are below =
    let partner = partner_at site link below in
    two_same _ _ _ _ (sym are.time_is) (sym (are.clients link partner.0 partner.1).clock_is)
same_moment site world network link role.Server are below =
    let partner = partner_at site link below in
    let at = are.servers link partner.0 partner.1 in
    two_same _ _ _ _ (sym are.time_is) (ap clock_in at.there ∙ sym at.clock_is)

node_below : (site : Site) (link : ℕ) (who : Role) → link < links site → node_on link who < nodes site
node_below site link role.Client below = omega arith
node_below site link role.Server below = omega (arith, below)

module _ (site : Site) (table : Table) where
  steady_now : (node : ℕ) (from : Moment) (todo : List Event) (world : WorldState) → StaysSteady site table node from todo world → IsSteady from (moment_of node world)
  steady_now node from [] world is = is
  steady_now node from (first ∷ others) world is = is.0

  itself : (now : Moment) → IsSteady now now
  itself now = record { least = omega arith; most = omega arith }

  fresh : (node : ℕ) → node < nodes site → (todo : List Event) (world : WorldState) → KeepTime site table todo world → StaysSteady site table node (moment_of node world) todo world
  fresh node below [] world time = itself (moment_of node world)
  fresh node below (first ∷ others) world time = time.0 node below

  just_set : (now : Moment) → IsOffSince now now now set
  just_set now = record { behind = omega arith; ahead = omega arith }

  -- a clock that was just set, or may as well have been
  off_anew : (todo : List Event) (world : WorldState) (network : Links) (link : ℕ) (who : Role) → AreLinksOf site world network → link < links site → KeepTime site table todo world
      → IsOffOn site table todo world network link who set
  off_anew todo world network link who are below time =
      let now = moment_of_end who (seen link network) in
      let stays : StaysSteady site table (node_on link who) now todo world =
      subst (λ (m : Moment). StaysSteady site table (node_on link who) m todo world) (same_moment site world network link who are below)
      (fresh (node_on link who) (node_below site link who below) todo world time) in
      record { slow = now; fast = now; since = just_set now; slow_steady = stays; fast_steady = stays }

  -- ---- time

  -- how far the clock of an end goes on
  abbrev step_of : List ℕ → ℕ → Role → ℕ
  step_of steps link role.Client = slice_index_or steps 0 0
  step_of steps link role.Server = slice_index_or (drop 1 steps) link 0

  later_moment : (elapsed : ℕ) (steps : List ℕ) (network : Links) (link : ℕ) (who : Role)
      → moment_of_end who (seen link (run_links (time_events elapsed steps) network)) ≡ moment_on elapsed (step_of steps link who) (moment_of_end who (seen link network))
  unfolding end_later
  later_moment elapsed steps network link role.Client = refl
  later_moment elapsed steps network link role.Server = refl

  record Passed (elapsed step : ℕ) (old : Offset) (todo : List Event) (world : WorldState) (network : Links) (link : ℕ) (who : Role) : Type 0 where
    offset : Offset
    goes : GoesOff elapsed step old offset
    off : IsOffOn site table todo world network link who offset

  -- the laws that this stands on
  pub record TrueLaws : Type 0 where
    pub steady : (slow fast now : Moment) (old : Offset) (elapsed own : ℕ) → IsOffSince slow fast now old → IsSteady slow (moment_on elapsed own now)
        → IsSteady fast (moment_on elapsed own now) → GoesOffSince slow fast now old elapsed own
    pub starts : AreTimelyBy (links site) (names_at site) (λ link who. set) (begun (names_at site) starts_at_zero)
    pub passes : (old new : ℕ → Role → Offset) (elapsed : ℕ) (of_clients of_servers : ℕ → ℕ) (network : Links) → AreTimelyBy (links site) (names_at site) old network
        → ((link : ℕ) → link < links site → GoesOff elapsed (of_clients link) (old link role.Client) (new link role.Client) × GoesOff elapsed (of_servers link) (old link role.Server) (new link role.Server))
        → AreTimelyBy (links site) (names_at site) new (happened_to (PassesFor elapsed of_clients of_servers) network)
    pub at_once : (offsets : ℕ → Role → Offset) (events : List LinksEvent) (network : Links) → AreTimelyBy (links site) (names_at site) offsets network → AreAtOnce events
        → MayRunLinks (links site) (names_at site) events network → AreTimelyBy (links site) (names_at site) (all_offsets_on events offsets) (run_links events network)
    pub timely : (offsets : ℕ → Role → Offset) (network : Links) → AreTimelyBy (links site) (names_at site) offsets network → AreTimely (links site) (names_at site) network
    pub stays : (offsets : ℕ → Role → Offset) (events : List LinksEvent) (network : Links) (link : ℕ) (who : Role) → AreAtOnce events
        → (all_offsets_on events offsets link who ≡ set)
        ⊎ ((all_offsets_on events offsets link who ≡ offsets link who) × (moment_of_end who (seen link (run_links events network)) ≡ moment_of_end who (seen link network)))
    pub restarts : RestartsSet
    pub exactly : (happening : Event) (world : WorldState) (network : Links) → IsWhole site world → AreTimely (links site) (names_at site) network → AreLinksOf site world network
        → refusal site happening world ≡ None → FollowsBy site (events_of site table happening world) (happens site table happening world) network
    pub whole : (happening : Event) (world : WorldState) (network : Links) → IsWhole site world → AreTimely (links site) (names_at site) network → AreLinksOf site world network
        → refusal site happening world ≡ None → IsWhole site (happens site table happening world)

  module _ (laws : TrueLaws) where
    module _ (elapsed : ℕ) (steps : List ℕ) (others : List Event) (world : WorldState) (network : Links) (is : KeepLinks site table (event.Time elapsed steps ∷ others) world network)
        (next_are : AreLinksOf site (happens site table (event.Time elapsed steps) world) (run_links (time_events elapsed steps) network)) where
      abbrev next_world : WorldState
      next_world = happens site table (event.Time elapsed steps) world

      abbrev next_network : Links
      next_network = run_links (time_events elapsed steps) network

      one_passed : (link : ℕ) → link < links site → (who : Role) → Passed elapsed (step_of steps link who) (is.offsets link who) others next_world next_network link who
      one_passed link below who = record {
        offset = next.offset;
        goes = next.goes;
        off = record {
          slow = next.slow_then;
          fast = next.fast_then;
          since = subst (λ (m : Moment). IsOffSince next.slow_then next.fast_then m next.offset) (sym later_is) next.since;
          slow_steady = stays next.slow_then off.slow next.slow_is off.slow_steady.1;
          fast_steady = stays next.fast_then off.fast next.fast_is off.fast_steady.1;
        };
      }
        where
          off : IsOffOn site table (event.Time elapsed steps ∷ others) world network link who (is.offsets link who)
          off = is.off link below who

          now : Moment
          now = moment_of_end who (seen link network)

          then_now : Moment
          then_now = moment_on elapsed (step_of steps link who) now

          later_is : moment_of_end who (seen link next_network) ≡ then_now
          later_is = later_moment elapsed steps network link who

          node_is : moment_of (node_on link who) next_world ≡ then_now
          node_is = same_moment site next_world next_network link who next_are below ∙ later_is

          next : GoesOffSince off.slow off.fast now (is.offsets link who) elapsed (step_of steps link who)
          next = laws.steady off.slow off.fast now (is.offsets link who) elapsed (step_of steps link who) off.since
              (subst (λ (m : Moment). IsSteady off.slow m) node_is (steady_now (node_on link who) off.slow others next_world off.slow_steady.1))
              (subst (λ (m : Moment). IsSteady off.fast m) node_is (steady_now (node_on link who) off.fast others next_world off.fast_steady.1))

          stays : (m before : Moment) → (m ≡ before) ⊎ (m ≡ then_now) → StaysSteady site table (node_on link who) before others next_world → StaysSteady site table (node_on link who) m others next_world
          stays m before (inl e) steady = subst (λ (n : Moment). StaysSteady site table (node_on link who) n others next_world) (sym e) steady
          stays m before (inr e) steady = subst (λ (n : Moment). StaysSteady site table (node_on link who) n others next_world) (node_is ∙ sym e)
              (fresh (node_on link who) (node_below site link who below) others next_world is.time.1)

      -- of links that aren't there nothing is said
      record PassedThere (link : ℕ) (who : Role) : Type 0 where
        offset : Offset
        goes : link < links site → GoesOff elapsed (step_of steps link who) (is.offsets link who) offset
        off : link < links site → IsOffOn site table others next_world next_network link who offset

      passed_there : (link : ℕ) (who : Role) → PassedThere link who
      passed_there link who = elim (dec_lt link (links site)) [
        | yes below ↦ record {
          offset = (one_passed link below who).offset;
          goes = λ there. (one_passed link below who).goes;
          off = λ there. (one_passed link below who).off;
        }
        | no away ↦ record { offset = set; goes = λ there. absurd (away there); off = λ there. absurd (away there) }
      ]

      time_kept : IsWhole site next_world → KeepLinks site table others next_world next_network
      time_kept whole = record {
        offsets = λ link who. (passed_there link who).offset;
        timely = laws.passes is.offsets (λ link who. (passed_there link who).offset) elapsed (λ link. slice_index_or steps 0 0) (λ link. slice_index_or (drop 1 steps) link 0) network is.timely
            (λ link below. ((passed_there link role.Client).goes below, (passed_there link role.Server).goes below));
        are = next_are;
        whole = whole;
        off = λ link below who. (passed_there link who).off below;
        time = is.time.1;
      }

    -- ---- every other event

    module _ (happening : Event) (others : List Event) (world : WorldState) (network : Links) (is : KeepLinks site table (happening ∷ others) world network)
        (once : AreAtOnce (events_of site table happening world)) (none : refusal site happening world ≡ None)
        (sets_it : (link : ℕ) → link < links site → (who : Role) → sets (node_on link who) happening ≡ true → all_offsets_on (events_of site table happening world) is.offsets link who ≡ set) where
      abbrev then_world : WorldState
      then_world = happens site table happening world

      abbrev then_network : Links
      then_network = run_links (events_of site table happening world) network

      before_timely : AreTimely (links site) (names_at site) network
      before_timely = laws.timely is.offsets network is.timely

      follows : FollowsBy site (events_of site table happening world) then_world network
      follows = laws.exactly happening world network is.whole before_timely is.are none

      when_set : (link : ℕ) → link < links site → (who : Role) → all_offsets_on (events_of site table happening world) is.offsets link who ≡ set
          → IsOffOn site table others then_world then_network link who (all_offsets_on (events_of site table happening world) is.offsets link who)
      when_set link below who e = subst (λ (o : Offset). IsOffOn site table others then_world then_network link who o) (sym e)
          (off_anew others then_world then_network link who follows.are below is.time.1)

      when_same : (link : ℕ) → link < links site → (who : Role) → all_offsets_on (events_of site table happening world) is.offsets link who ≡ is.offsets link who
          → moment_of_end who (seen link then_network) ≡ moment_of_end who (seen link network) → sets (node_on link who) happening ≡ false
          → IsOffOn site table others then_world then_network link who (all_offsets_on (events_of site table happening world) is.offsets link who)
      when_same link below who e still unset =
          let off = is.off link below who in
          subst (λ (o : Offset). IsOffOn site table others then_world then_network link who o) (sym e) (record {
            slow = off.slow;
            fast = off.fast;
            since = subst (λ (m : Moment). IsOffSince off.slow off.fast m (is.offsets link who)) (sym still) off.since;
            slow_steady = subst (λ (b : Bool). unless b (StaysSteady site table (node_on link who) off.slow others then_world)) unset off.slow_steady.1;
            fast_steady = subst (λ (b : Bool). unless b (StaysSteady site table (node_on link who) off.fast others then_world)) unset off.fast_steady.1;
          })

      off_then : (link : ℕ) → link < links site → (who : Role)
          → IsOffOn site table others then_world then_network link who (all_offsets_on (events_of site table happening world) is.offsets link who)
      off_then link below who = choose (sets (node_on link who) happening) refl (laws.stays is.offsets (events_of site table happening world) network link who once)
        where
          choose : (b : Bool) → sets (node_on link who) happening ≡ b
              → (all_offsets_on (events_of site table happening world) is.offsets link who ≡ set)
              ⊎ ((all_offsets_on (events_of site table happening world) is.offsets link who ≡ is.offsets link who) × (moment_of_end who (seen link then_network) ≡ moment_of_end who (seen link network)))
              → IsOffOn site table others then_world then_network link who (all_offsets_on (events_of site table happening world) is.offsets link who)
          choose b e (inl is_set) = when_set link below who is_set
          choose true e (inr same) = when_set link below who (sets_it link below who e)
          choose false e (inr same) = when_same link below who same.0 same.1 e

      kept_at_once : KeepLinks site table others then_world then_network
      kept_at_once = record {
        offsets = all_offsets_on (events_of site table happening world) is.offsets;
        timely = laws.at_once is.offsets (events_of site table happening world) network is.timely once follows.may;
        are = follows.are;
        whole = laws.whole happening world network is.whole before_timely is.are none;
        off = off_then;
        time = is.time.1;
      }

    never : {A : Type 0} → false ≡ true → A
    never e = cc (e)

    same_number : (a b : ℕ) → (a == b) ≡ true → a ≡ b
    same_number a b e = grind (arith, nat_tests)

    pub one_kept : (happening : Event) (others : List Event) (world : WorldState) (network : Links) → KeepLinks site table (happening ∷ others) world network → MayCome site happening world
        → KeepLinks site table others (happens site table happening world) (run_links (events_of site table happening world) network)
    unfolding events_of happens
    one_kept (event.Time elapsed steps) others world network is may =
        time_kept elapsed steps others world network is (time_links site elapsed steps world network (steps_count site elapsed steps world may) is.are (partners_count site))
        (time_keeps site elapsed steps world is.whole)
    one_kept (event.Request command) others world network is may =
        kept_at_once (event.Request command) others world network is (events_at_once site table world (event.Request command) tt) may (λ link below who e. never e)
    one_kept (event.Occupy section occupancy) others world network is may =
        kept_at_once (event.Occupy section occupancy) others world network is (events_at_once site table world (event.Occupy section occupancy) tt) may (λ link below who e. never e)
    one_kept (event.Tick node) others world network is may =
        kept_at_once (event.Tick node) others world network is (events_at_once site table world (event.Tick node) tt) may (λ link below who e. never e)
    one_kept (event.Deliver node bytes) others world network is may =
        kept_at_once (event.Deliver node bytes) others world network is (events_at_once site table world (event.Deliver node bytes) tt) may (λ link below who e. never e)
    one_kept (event.Lose bytes) others world network is may =
        kept_at_once (event.Lose bytes) others world network is (events_at_once site table world (event.Lose bytes) tt) may (λ link below who e. never e)
    one_kept (event.Reach point position) others world network is may =
        kept_at_once (event.Reach point position) others world network is (events_at_once site table world (event.Reach point position) tt) may (λ link below who e. never e)
    one_kept (event.Restart node clock first) others world network is may =
        kept_at_once (event.Restart node clock first) others world network is (events_at_once site table world (event.Restart node clock first) tt) may
        (λ link below who e. restart_sets laws.restarts site clock first is.offsets link below node.0 who (same_number node.0 (node_on link who) e))

    pub first_kept : (events : List Event) (world : WorldState) → AreLinksOf site world (begun (names_at site) starts_at_zero) → IsWhole site world → KeepTime site table events world
        → KeepLinks site table events world (begun (names_at site) starts_at_zero)
    first_kept events world are whole time = record {
      offsets = λ link who. set;
      timely = laws.starts;
      are = are;
      whole = whole;
      off = λ link below who. off_anew events world (begun (names_at site) starts_at_zero) link who are below time;
      time = time;
    }

    pub all_kept : (events : List Event) (world : WorldState) (network : Links) → KeepLinks site table events world network → MayAllCome site table events world
        → AreTrueLinks site (after_all site table events world) (links_after site table events world network)
    all_kept [] world network is may = record { are = is.are; timely = laws.timely is.offsets network is.timely; whole = is.whole }
    all_kept (first ∷ others) world network is may =
        all_kept others (happens site table first world) (run_links (events_of site table first world) network) (one_kept first others world network is may.0) may.1
