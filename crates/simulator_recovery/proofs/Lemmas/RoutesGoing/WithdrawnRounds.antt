-- Where a route is withdrawn within a good round its authority has ended two rounds later.
use Rattle.simulator_recovery.proofs.Words.Basics.{◌≡◌, ℕ, suc, ◌+◌, ◌^◌, ◌<◌, ◌≤◌, true, false, not, min, List, [], ◌∷◌, ◌++◌, append_assoc, append-nil, length, map, Some, slice_get, refl, sym, ap, subst, ◌∙◌, arith, same_Some}
use Rattle.simulator_recovery.proofs.Words.Links.{settled, Each, reading_of, is_up}
use Rattle.simulator_recovery.proofs.Words.Interlockings.{IsTableOf, ClientState, is_outside, is_ready, is_withdrawn, IxlState, KnownSignalState, RouteState, Input, Row, SitedTable, Phase}
use Rattle.simulator_recovery.proofs.Words.Stations.{Once, IsStation, Event, NodeId, Flowing, round, happens, interlocking_stepped, links, WorldState, Played, after, IsReached}
use Rattle.simulator_recovery.proofs.Words.Recovery.{HasGivenMore, ClientStandsByCounts, IsWithdrawnFrom, NoneProceeds, StayBelowOn, StaysBelowLimit, behind_time, event_of, ready_rounds, HasTime, IsWork, all_tried, clocks_of, good_rounds, EachBehind, IsClientUp, events_of_round, IsNotSetAnew, LawsBelow}
use Rattle.simulator_recovery.proofs.Lemmas.Ground.ClientItem.{at_front}
use Rattle.simulator_recovery.proofs.Lemmas.Lamps.ConfirmedStops.{none_proceeds, still_up}
use Rattle.simulator_recovery.proofs.Lemmas.Ground.AtLink.{mapped}
use Rattle.simulator_recovery.proofs.Lemmas.RoutesGoing.AuthorityOver.{authority_ends_within, few_given}
use Rattle.simulator_recovery.proofs.Lemmas.RoutesGoing.BetweenSignals.{withdrawn_is}
use Rattle.simulator_recovery.proofs.Lemmas.RoutesGoing.BetweenStops.{IsPastIn, stepped_past}
use Rattle.simulator_recovery.proofs.Lemmas.Links.ComeUp.{come_up}
use Rattle.simulator_recovery.proofs.Lemmas.Lamps.GivenNoMore.{IsOfRound, due_of}
use Rattle.simulator_recovery.proofs.Lemmas.Rounds.LinkRounds.{after_each, round_tried}
use Rattle.simulator_recovery.proofs.Lemmas.Ground.EndCalls.{each_both}
use Rattle.simulator_recovery.proofs.Lemmas.Lamps.ProceedsRounds.{IxlGoes, anew, event_goes, stays, steps}
use Rattle.simulator_recovery.proofs.Lemmas.Links.Ready.{count_front, each_front, fewer_time, links_ready}
use Rattle.simulator_recovery.proofs.Lemmas.Rounds.Rounds.{events_are, IsAt, rounds_reached, tried_keeps, tried_reached}
use Rattle.simulator_recovery.proofs.Lemmas.RoutesComing.RoutesGround.{KeepsReady, step_ready}
use Rattle.simulator_recovery.proofs.Lemmas.Links.RoutesRounds.{up_throughout}
use Rattle.simulator_recovery.proofs.Lemmas.Lamps.SeenSignals.{known_there, seen_then}
use Rattle.simulator_recovery.proofs.Lemmas.Lamps.StopComes.{last_round}
use Rattle.simulator_recovery.proofs.Lemmas.Windows.WindowsAlone.{below_two}
use Rattle.simulator_recovery.proofs.Lemmas.RoutesGoing.WithdrawnSteps.{step_grows}
use Rattle.simulator_recovery.proofs.Lemmas.RoutesGoing.WithdrawnWaiting.{known_up}
use Rattle.simulator_recovery.proofs.Lemmas.Talk.Standing.{stand_by_counts}

-- ---- the events of a round, and those after it

-- the interlocking isn't made anew
abbrev GoesOn : Event → Type 0
GoesOn one = (node : NodeId) (clock first : ℕ) → one ≡ Event.Restart node clock first → ⊥

works_go_on : (events : List Event) → Each IsWork events → Each GoesOn events
works_go_on [] work = tt
works_go_on (one ∷ others) work = (λ node clock first e. subst IsWork e work.0, works_go_on others work.1)

rounds_go_on : (events : List Event) → Each IsOfRound events → Each GoesOn events
rounds_go_on [] of = tt
rounds_go_on (one ∷ others) of = (λ node clock first e. subst IsOfRound e of.0, rounds_go_on others of.1)

all_go_on : (between : List Event) (flowing : Flowing) → Each IsWork between → Each GoesOn (events_of_round between flowing)
all_go_on between flowing work = (
  λ node clock first e. subst IsOfRound e tt,
  each_both GoesOn (map event_of (behind_time flowing)) between
      (rounds_go_on (map event_of (behind_time flowing)) (events_are IsOfRound (behind_time flowing) (due_of flowing).1)) (works_go_on between work),
)

-- ---- a signal whose link is up

module _ (laws : LawsBelow) (sited : SitedTable) (station : IsStation sited.site) (once : Once sited.site) (is_table : IsTableOf sited.site sited.table) (signal : ℕ) (few : signal < length sited.site.signals) where
  -- it is up by the clock
  abbrev UpAt : WorldState → Type 0
  UpAt world = (known : KnownSignalState) → slice_get world.interlocking.ixl.known_signals signal ≡ Some known → is_up (settled (reading_of world.interlocking.clock) known.client.link).phase ≡ true

  client_up : (world : WorldState) → IsClientUp signal world → UpAt world
  client_up world up known there =
      let same = same_Some up.client known.client (sym up.there ∙ at_front _ _ signal known.client (mapped (λ (k : KnownSignalState). k.client) world.interlocking.ixl.known_signals signal known there))
      in ap (λ (c : ClientState). is_up (settled (reading_of world.interlocking.clock) c.link).phase) (sym same) ∙ up.up

  -- It is ready, unless its link has fallen; and it was given so many at least.
  abbrev Keeps : ℕ → IxlState → Type 0
  Keeps items ixl = (known : KnownSignalState) → slice_get ixl.known_signals signal ≡ Some known → KeepsReady known × (is_ready known.client.stage ≡ true → items ≤ known.client.link.given)

  module _ (world : WorldState) (reached : IsReached sited.site sited.table world) where
    found : (known : KnownSignalState) × (slice_get world.interlocking.ixl.known_signals signal ≡ Some known)
    found = let seen = seen_then laws sited.site sited.table once station is_table world reached in known_there sited.site sited.table world seen.0 seen.1 signal few

    module _ (known : KnownSignalState) (there : slice_get world.interlocking.ixl.known_signals signal ≡ Some known) (up : UpAt world) where
      by_counts : ClientStandsByCounts known.client
      by_counts = ((stand_by_counts sited.site sited.table world station reached).clients.signals signal known there).stands

      inside : is_outside known.client.stage ≡ false
      inside = by_counts.outside ∙ ap not (still_up (reading_of world.interlocking.clock) known.client.link (up known there))

    -- a step
    keeps_stepped : (items : ℕ) (input : Input) → UpAt world → Keeps items world.interlocking.ixl → Keeps items (interlocking_stepped sited.site sited.table input world).interlocking.ixl
    keeps_stepped items input up keeps = by (keeps found.0 found.1)
      where
        by : KeepsReady found.0 × (is_ready found.0.client.stage ≡ true → items ≤ found.0.client.link.given) → Keeps items (interlocking_stepped sited.site sited.table input world).interlocking.ixl
        by kept later e =
            let ready : is_ready found.0.client.stage ≡ true = kept.0 (inside found.0 found.1 up)
            in (
              step_ready sited.site sited.table input world signal (found.0, found.1, ready) (found.0, found.1, up found.0 found.1) later e,
              λ is. let least = kept.1 ready in let more = step_grows sited.site sited.table signal input world found.0 reached found.1 ready (up found.0 found.1) (by_counts found.0 found.1 up) later e is in omega (arith, least, more),
            )

  -- ---- a route that is withdrawn where its signal was given so many items

  module _ (number : ℕ) (row : Row) (row_there : slice_get sited.table.rows number ≡ Some row) (entry : row.entry ≡ signal) (items more : ℕ) (small : more ≤ 2 ^ 31) (little : more ≤ suc items) where
    abbrev Falls : IxlState → Type 0
    Falls ixl = Keeps items ixl × IsPastIn number signal more ixl

    falls_stepped : (world : WorldState) (input : Input) → IsReached sited.site sited.table world → UpAt world → Falls world.interlocking.ixl → Falls (interlocking_stepped sited.site sited.table input world).interlocking.ixl
    falls_stepped world input reached up falls = (keeps_stepped world reached items input up falls.0, by (found world reached))
      where
        by : (known : KnownSignalState) × (slice_get world.interlocking.ixl.known_signals signal ≡ Some known) → IsPastIn number signal more (interlocking_stepped sited.site sited.table input world).interlocking.ixl
        by (known, there) =
            let kept = falls.0 known there
            in let ready : is_ready known.client.stage ≡ true = kept.0 (inside world reached known there up)
            in let least = kept.1 ready
            in subst (λ (place : ℕ). IsPastIn number place more (interlocking_stepped sited.site sited.table input world).interlocking.ixl) entry
            (stepped_past sited.site sited.table number row row_there input world known reached (ap (slice_get world.interlocking.ixl.known_signals) entry ∙ there) ready (up known there) (by_counts world reached known there up)
            more small (omega (arith, little, least)) (subst (λ (place : ℕ). IsPastIn number place more world.interlocking.ixl) (sym entry) falls.1))

    falls_happened : (one : Event) (world : WorldState) → IsReached sited.site sited.table world → UpAt world → GoesOn one → Falls world.interlocking.ixl → Falls (happens sited.site sited.table one world).interlocking.ixl
    falls_happened one world reached up on falls = by (event_goes sited.site sited.table one world)
      where
        by : IxlGoes sited.site sited.table one world (happens sited.site sited.table one world) → Falls (happens sited.site sited.table one world).interlocking.ixl
        by (stays same) = subst Falls (sym same) falls
        by (steps input asks same) = subst Falls (sym same) (falls_stepped world input reached up falls)
        by (anew node clock begins restart same) = absurd (on node clock begins restart)

    falls_tried : (one : Event) (world : Played) → IsAt sited world → UpAt world.run → GoesOn one → Falls world.run.interlocking.ixl → Falls (after world one).run.interlocking.ixl
    falls_tried one world at up on falls = tried_keeps (λ (w : Played). Falls w.run.interlocking.ixl) world one falls
        (λ none. subst (λ (s : SitedTable). Falls (happens s.site s.table one world.run).interlocking.ixl) (sym at.same) (falls_happened one world.run at.reached up on falls))

    -- and after all of them
    falls_behind : (events : List Event) (world : Played) → Each GoesOn events → IsAt sited world → UpAt world.run → EachBehind (λ w. IsClientUp signal w.run) events world → Falls world.run.interlocking.ixl → Falls (after_each events world).run.interlocking.ixl
    falls_behind [] world on at up behind falls = falls
    falls_behind (one ∷ others) world on at up behind falls = falls_behind others (after world one) on.1 (tried_reached laws sited world one at)
        (client_up (after world one).run behind.0) behind.1 (falls_tried one world at up on.0 falls)

-- ---- two rounds later

module _ (laws : LawsBelow) (between : List Event) (later_rounds : List (List Event)) (last one two : List Event) (flowing : Flowing) (signal : ℕ) (once : Once flowing.state.sited.site) (station : IsStation flowing.state.sited.site)
    (is_table : IsTableOf flowing.state.sited.site flowing.state.sited.table) (reached : IsReached flowing.state.sited.site flowing.state.sited.table flowing.state.run) (work : Each IsWork between) (all_work : Each (Each IsWork) (later_rounds ++ last ∷ []))
    (work_one : Each IsWork one) (work_two : Each IsWork two) (can : HasTime (suc (2 + suc (length later_rounds))) flowing.state.run) (few : signal < length flowing.state.sited.site.signals) (long : ready_rounds ≤ suc (length later_rounds))
    (below : StaysBelowLimit flowing.state.sited.site signal (later_rounds ++ last ∷ one ∷ two ∷ []) (all_tried between (round flowing)))
    (withdrawn : IsWithdrawnFrom flowing.state.sited.table (good_rounds (between ∷ (later_rounds ++ last ∷ [])) flowing).state.run.interlocking.ixl signal)
    (not_yet : (route : RouteState) → slice_get (good_rounds (between ∷ later_rounds) flowing).state.run.interlocking.ixl.routes withdrawn.number ≡ Some route → route.phase ≡ Phase.Withdrawn → ⊥) where
  abbrev sited : SitedTable
  sited = flowing.state.sited

  abbrev next : Flowing
  next = all_tried between (round flowing)

  abbrev here : Flowing
  here = good_rounds (between ∷ later_rounds) flowing

  abbrev end : Flowing
  end = good_rounds (between ∷ (later_rounds ++ last ∷ [])) flowing

  at : (rounds : List (List Event)) → IsAt sited (good_rounds (between ∷ rounds) flowing).state
  at rounds = rounds_reached laws sited (between ∷ rounds) flowing (record { same = refl; reached = reached })

  works : Each (Each IsWork) later_rounds × Each IsWork last
  works = each_front (Each IsWork) later_rounds last all_work

  none : NoneProceeds sited.table end.state.run.interlocking.ixl signal
  none = none_proceeds sited.site sited.table end.state.run signal (at (later_rounds ++ last ∷ [])).reached withdrawn

  can_so : (n : ℕ) → n ≤ suc (2 + suc (length later_rounds)) → HasTime n flowing.state.run
  can_so n less = fewer_time n (suc (2 + suc (length later_rounds))) (clocks_of flowing.state.run) less can

  below_one : StaysBelowLimit sited.site signal (later_rounds ++ last ∷ []) next
  below_one before are = below_two signal (later_rounds ++ last ∷ []) (one ∷ two ∷ []) next before
      (subst (λ (l : List (List Event)). StayBelowOn signal l next before) (sym (append_assoc later_rounds (last ∷ []) (one ∷ two ∷ []))) (below before are))

  below_none : StaysBelowLimit sited.site signal later_rounds next
  below_none before are = below_two signal later_rounds (last ∷ []) next before (below_one before are)

  link_there : signal < links sited.site
  link_there = omega (arith, few)

  can_here : HasTime (suc (length later_rounds)) flowing.state.run
  can_here = can_so (suc (length later_rounds)) (omega arith)

  can_one : HasTime (suc (length (later_rounds ++ last ∷ []))) flowing.state.run
  can_one = can_so (suc (length (later_rounds ++ last ∷ []))) (let many = count_front later_rounds last in omega (arith, many))

  abbrev UpSo : WorldState → Type 0
  UpSo = UpAt laws sited station once is_table signal few

  -- ---- where the round begins

  up_here : UpSo here.state.run
  up_here = known_up signal here.state.run (come_up laws between later_rounds flowing signal once station is_table reached work works.0 can_here link_there (omega (arith, long)) below_none)

  abbrev first : (known : KnownSignalState) × (slice_get here.state.run.interlocking.ixl.known_signals signal ≡ Some known)
  first = found laws sited station once is_table signal few here.state.run (at later_rounds).reached

  ready_here : is_ready first.0.client.stage ≡ true
  ready_here =
      let ready = links_ready laws between later_rounds flowing signal once station is_table reached work works.0 can_here link_there long below_none
      in ap (λ (c : ClientState). is_ready c.stage) (same_Some first.0.client ready.client (sym (at_front _ _ signal first.0.client (mapped (λ (k : KnownSignalState). k.client) here.state.run.interlocking.ixl.known_signals signal first.0 first.1)) ∙ ready.there)) ∙ ready.client_ready

  abbrev items : ℕ
  items = first.0.client.link.given

  -- an item more
  abbrev more : ℕ
  more = min (suc items) (2 ^ 31)

  small : more ≤ 2 ^ 31
  small = omega arith

  little : more ≤ suc items
  little = omega arith

  abbrev FallsAt : IxlState → Type 0
  FallsAt = Falls laws sited station once is_table signal few withdrawn.number withdrawn.row withdrawn.is_route.0 withdrawn.entry items more small little

  falls_here : FallsAt here.state.run.interlocking.ixl
  falls_here = (
    λ known there. subst (λ (k : KnownSignalState). KeepsReady k × (is_ready k.client.stage ≡ true → items ≤ k.client.link.given)) (same_Some first.0 known (sym first.1 ∙ there)) (λ inside. ready_here, λ ready. omega arith),
    λ route e so. absurd (not_yet route e (withdrawn_is route.phase so)),
  )

  -- ---- and where it ends

  each_up : EachBehind (λ w. IsClientUp signal w.run) (events_of_round last here) here.state
  each_up = (up_throughout laws between flowing signal once station is_table reached work link_there later_rounds (last ∷ []) works.0 (works.1, tt) can_one long below_one).0

  end_is : end.state ≡ after_each (events_of_round last here) here.state
  end_is = ap (λ (f : Flowing). f.state) (last_round (between ∷ later_rounds) last flowing) ∙ round_tried last here

  falls_end : FallsAt end.state.run.interlocking.ixl
  falls_end = subst (λ (w : Played). FallsAt w.run.interlocking.ixl) (sym end_is)
      (falls_behind laws sited station once is_table signal few withdrawn.number withdrawn.row withdrawn.is_route.0 withdrawn.entry items more small little (events_of_round last here) here.state
      (all_go_on last here works.1) (at later_rounds) up_here each_up falls_here)

  reached_end : IsReached sited.site sited.table end.state.run
  reached_end = (at (later_rounds ++ last ∷ [])).reached

  up_end : UpSo end.state.run
  up_end = known_up signal end.state.run (come_up laws between (later_rounds ++ last ∷ []) flowing signal once station is_table reached work all_work can_one link_there
      (let many = count_front later_rounds last in omega (arith, long, many)) below_one)

  gives_more : HasGivenMore signal here.state.run.interlocking.ixl end.state.run.interlocking.ixl
  gives_more old new old_there new_there =
      let ready = (falls_end.0 new new_there).0 (inside laws sited station once is_table signal few end.state.run reached_end new new_there up_end)
      in let past = falls_end.1 withdrawn.route withdrawn.is_route.1 (ap is_withdrawn withdrawn.withdrawn) new new_there ready
      in let less = few_given laws between later_rounds last one two flowing signal once station is_table reached work all_work work_one work_two can few (omega (arith, long)) below none last [] (sym (append-nil last)) new
      (ap (λ (f : Flowing). slice_get f.state.run.interlocking.ixl.known_signals signal) (sym (last_round (between ∷ later_rounds) last flowing)) ∙ new_there)
      in let was = ap (λ (s : KnownSignalState). s.client.link.given) (same_Some first.0 old (sym first.1 ∙ old_there))
      in omega (arith, past, less, was)

  pub ends_behind_withdrawal : (still : IsWithdrawnFrom flowing.state.sited.table (good_rounds (between ∷ (later_rounds ++ last ∷ one ∷ two ∷ [])) flowing).state.run.interlocking.ixl signal) → IsNotSetAnew still.number (one ∷ two ∷ []) (good_rounds (between ∷ (later_rounds ++ last ∷ [])) flowing) → ⊥
  ends_behind_withdrawal still apart = authority_ends_within laws between later_rounds last one two flowing signal once station is_table reached work all_work work_one work_two can few (omega (arith, long)) below none laws.what_servers_take_at_work_confirms long gives_more still apart
