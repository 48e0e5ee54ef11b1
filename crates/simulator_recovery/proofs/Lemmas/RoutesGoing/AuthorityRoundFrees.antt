-- After a good round no cancelled route waits that lets itself be freed, or whose release is over.
use Rattle.simulator_recovery.proofs.Words.Basics.{◌≡◌, ◌⊎◌, ℕ, suc, ◌-◌, nat_le, true, false, List, [], ◌∷◌, ◌++◌, length, map, None, refl, sym, ap, subst, ◌∙◌, arith, nat_tests}
use Rattle.simulator_recovery.proofs.Words.Links.{Each, reading_of}
use Rattle.simulator_recovery.proofs.Words.Interlockings.{IsReleaseOver, IsRouteOf, LetsGo, IxlState, RouteState, Input, Tick, Row, SitedTable, Table, Phase}
use Rattle.simulator_recovery.proofs.Words.Stations.{Site, Event, RoundEvent, Flowing, deliveries, reaches, round, round_of_time, ticks, happens, interlocking_stepped, links, refusal, WorldState, Played, after, arrival_in, IsReached}
use Rattle.simulator_recovery.proofs.Words.Recovery.{behind_time, event_of, IsWork, all_tried, LawsBelow, FreeLaw}
use Rattle.simulator_recovery.proofs.Lemmas.Rounds.Clocks.{IsCalm, calm_still}
use Rattle.simulator_recovery.proofs.Lemmas.Ground.IxlAlways.{MakesAnew, event_then}
use Rattle.simulator_recovery.proofs.Lemmas.Rounds.LinkRounds.{after_each, round_tried, work_events}
use Rattle.simulator_recovery.proofs.Lemmas.RoutesComing.NothingDueFrees.{nothing_ended_waits}
use Rattle.simulator_recovery.proofs.Lemmas.Rounds.Rounds.{AreCalm, IsAt, behind_calm, tried_happens, tried_keeps, tried_reached}

-- A route whose authority has ended lets itself be freed at this reading of the clock, or its release is over.
abbrev pub MayGo : ℕ → Table → IxlState → Row → RouteState → ℕ → Type 0
MayGo now table ixl row route clock = LetsGo now table ixl row route clock ⊎ IsReleaseOver now route

-- No cancelled route waits of which this is so.
abbrev AreFreed : ℕ → Table → IxlState → Type 0
AreFreed now table ixl = (number : ℕ) (row : Row) (route : RouteState) (clock done : ℕ) → IsRouteOf table ixl number row route → route.cancelled ≡ true → route.phase ≡ Phase.Ended clock done → MayGo now table ixl row route clock → ⊥

-- ---- the events after the time of a round

not_anew : (site : Site) (one : Event) → IsCalm one → MakesAnew site one → ⊥
not_anew site (Event.Time elapsed clocks) calm anew = anew
not_anew site (Event.Deliver node bytes) calm anew = anew
not_anew site (Event.Tick node) calm anew = anew
not_anew site (Event.Reach point position) calm anew = anew
not_anew site (Event.Request command) calm anew = anew
not_anew site (Event.Occupy section occupancy) calm anew = anew
not_anew site (Event.Lose bytes) calm anew = anew
not_anew site (Event.Restart node clock first) calm anew = calm

module _ (law : FreeLaw) (site : Site) (table : Table) (now : ℕ) where
  steps : (input : Input) (world : WorldState) → IsReached site table world → reading_of world.interlocking.clock ≡ now → AreFreed now table (interlocking_stepped site table input world).interlocking.ixl
  steps input world reached is = subst (λ (n : ℕ). AreFreed n table (interlocking_stepped site table input world).interlocking.ixl) is
      (λ number row route clock done. nothing_ended_waits law site table input world number row route clock done reached)

  event_frees : (one : Event) (world : WorldState) → IsCalm one → IsReached site table world → reading_of world.interlocking.clock ≡ now → AreFreed now table world.interlocking.ixl → AreFreed now table (happens site table one world).interlocking.ixl
  event_frees one world calm reached is freed = event_then site table (AreFreed now table) world freed one (λ input e. steps input world reached is) (λ begins anew. absurd (not_anew site one calm anew))

-- the tick of the interlocking
abbrev first_tick : Event
first_tick = Event.Tick (record { 0 = 0 })

tick_happens : (site : Site) (table : Table) (world : WorldState) → happens site table first_tick world ≡ interlocking_stepped site table Tick world
unfolding happens
tick_happens site table world = refl

more_than_none : (n : ℕ) → nat_le (suc n) 0 ≡ false
more_than_none n = grind (arith, nat_tests)

tick_goes : (site : Site) (world : WorldState) → refusal site first_tick world ≡ None
unfolding refusal
tick_goes site world = rw (more_than_none (links site)) refl

-- A station of this data that was reached, whose interlocking reads this clock.
record Reads (sited : SitedTable) (now : ℕ) (world : Played) : Type 0 where
  at : IsAt sited world
  clock : reading_of world.run.interlocking.clock ≡ now

-- and no cancelled route waits there
record Frees (sited : SitedTable) (now : ℕ) (world : Played) : Type 0 where
  reads : Reads sited now world
  freed : AreFreed now sited.table world.run.interlocking.ixl

module _ (law : FreeLaw) (reach : LawsBelow) (sited : SitedTable) (now : ℕ) where
  -- what happens is of the data of the station
  of_data : (world : Played) (one : Event) → world.sited ≡ sited → AreFreed now sited.table (happens sited.site sited.table one world.run).interlocking.ixl → AreFreed now sited.table (happens world.sited.site world.sited.table one world.run).interlocking.ixl
  of_data world one same = subst (λ (s : SitedTable). AreFreed now sited.table (happens s.site s.table one world.run).interlocking.ixl) (sym same)

  tried_reads : (world : Played) (one : Event) → IsCalm one → Reads sited now world → Reads sited now (after world one)
  tried_reads world one calm is = record {
    at = tried_reached reach sited world one is.at;
    clock = tried_keeps (λ (w : Played). reading_of w.run.interlocking.clock ≡ now) world one is.clock (λ none. ap reading_of (calm_still world.sited.site world.sited.table one world.run calm).clock ∙ is.clock);
  }

  tried_frees : (world : Played) (one : Event) → IsCalm one → Frees sited now world → Frees sited now (after world one)
  tried_frees world one calm is = record {
    reads = tried_reads world one calm is.reads;
    freed = tried_keeps (λ (w : Played). AreFreed now sited.table w.run.interlocking.ixl) world one is.freed
        (λ none. of_data world one is.reads.at.same (event_frees law sited.site sited.table now one world.run calm is.reads.at.reached is.reads.clock is.freed));
  }

  each_frees : (list : List Event) (world : Played) → Each IsCalm list → Frees sited now world → Frees sited now (after_each list world)
  each_frees [] world calm is = is
  each_frees (first ∷ others) world calm is = each_frees others (after world first) calm.1 (tried_frees world first calm.0 is)

  tick_frees : (world : Played) → Reads sited now world → Frees sited now (after world first_tick)
  tick_frees world is = record {
    reads = tried_reads world first_tick tt is;
    freed = subst (λ (w : Played). AreFreed now sited.table w.run.interlocking.ixl) (sym (tried_happens world first_tick (tick_goes world.sited.site world.run))) (of_data world first_tick is.at.same
        (subst (λ (w : WorldState). AreFreed now sited.table w.interlocking.ixl) (sym (tick_happens sited.site sited.table world.run)) (steps law sited.site sited.table now Tick world.run is.at.reached is.clock)));
  }

  behind_calm_events : (list : List RoundEvent) (between : List Event) → AreCalm list → Each IsCalm between → Each IsCalm (map event_of list ++ between)
  behind_calm_events [] between calm others = others
  behind_calm_events (first ∷ list) between calm others = (calm.0, behind_calm_events list between calm.1 others)

  -- a tick of the interlocking is among these events
  list_frees : (front : List RoundEvent) (count : ℕ) (rest : List RoundEvent) (between : List Event) (world : Played) → AreCalm (front ++ record { event = first_tick; passed = count } ∷ rest) → Each IsCalm between → Reads sited now world
      → Frees sited now (after_each (map event_of (front ++ record { event = first_tick; passed = count } ∷ rest) ++ between) world)
  list_frees [] count rest between world calm work is = each_frees (map event_of rest ++ between) (after world first_tick) (behind_calm_events rest between calm.1 work) (tick_frees world is)
  list_frees (first ∷ front) count rest between world calm work is = list_frees front count rest between (after world first.event) calm.1 work (tried_reads world first.event calm.0 is)

-- ---- a round

ticks_first : (count more : ℕ) → ticks count 0 (suc more) ≡ record { event = first_tick; passed = count } ∷ ticks count 1 more
unfolding ticks
ticks_first count more = refl

pub round_frees : FreeLaw → LawsBelow → (between : List Event) (flowing : Flowing) (number : ℕ) (row : Row) (route : RouteState) (clock done : ℕ) → IsReached flowing.state.sited.site flowing.state.sited.table flowing.state.run → Each IsWork between
    → IsRouteOf flowing.state.sited.table (all_tried between (round flowing)).state.run.interlocking.ixl number row route → route.cancelled ≡ true → route.phase ≡ Phase.Ended clock done
    → MayGo (reading_of (all_tried between (round flowing)).state.run.interlocking.clock) flowing.state.sited.table (all_tried between (round flowing)).state.run.interlocking.ixl row route clock → ⊥
round_frees law reach between flowing number row route clock done reached work of cancelled ended goes =
    frees.freed number row route clock done of cancelled ended (subst (λ (n : ℕ). MayGo n sited.table behind.run.interlocking.ixl row route clock) frees.reads.clock goes)
  where
    sited : SitedTable
    sited = flowing.state.sited

    behind : Played
    behind = (all_tried between (round flowing)).state

    timed : Played
    timed = after flowing.state (round_of_time sited.site)

    now : ℕ
    now = reading_of timed.run.interlocking.clock

    front : List RoundEvent
    front = deliveries (arrival_in flowing.state) flowing.passed (length flowing.state.run.sent - flowing.passed)

    reads : Reads sited now timed
    reads = record { at = tried_reached reach sited flowing.state (round_of_time sited.site) (record { same = refl; reached = reached }); clock = refl }

    rest : List RoundEvent
    rest = ticks (length flowing.state.run.sent) 1 (links sited.site) ++ reaches (length flowing.state.run.sent) 0 flowing.drives

    list_is : behind_time flowing ≡ front ++ record { event = first_tick; passed = length flowing.state.run.sent } ∷ rest
    list_is = ap (λ (l : List RoundEvent). front ++ (l ++ reaches (length flowing.state.run.sent) 0 flowing.drives)) (ticks_first (length flowing.state.run.sent) (links sited.site))

    frees : Frees sited now behind
    frees = subst (Frees sited now) (sym (round_tried between flowing)) (subst (λ (l : List RoundEvent). Frees sited now (after_each (map event_of l ++ between) timed)) (sym list_is)
        (list_frees law reach sited now front (length flowing.state.run.sent) rest between timed (subst AreCalm list_is (behind_calm flowing)) (work_events between work) reads))
