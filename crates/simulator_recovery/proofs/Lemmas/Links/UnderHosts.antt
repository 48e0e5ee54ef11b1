-- One round before a link is ready at both ends, its controller has completed the initialisation.
use Rattle.simulator_recovery.proofs.Words.Basics.{◌≡◌, ℕ, suc, ◌-◌, ◌<◌, ◌≤◌, List, ◌∷◌, length, refl, sym, subst, arith}
use Rattle.simulator_recovery.proofs.Words.Links.{AreUp, Each, seen, stops_at_greatest}
use Rattle.simulator_recovery.proofs.Words.Controllers.{Stage}
use Rattle.simulator_recovery.proofs.Words.Interlockings.{IsTableOf, SitedTable}
use Rattle.simulator_recovery.proofs.Words.Stations.{Site, Once, IsStation, Event, Flowing, round, controller_at, links, WorldState, IsStanding, IsWhole, IsReached}
use Rattle.simulator_recovery.proofs.Words.Recovery.{AllStandByCounts, IsUpOn, StaysBelowLimit, HostIsAt, ready_rounds, HasTime, IsWork, all_tried, good_rounds, LawsBelow}
use Rattle.simulator_recovery.proofs.Lemmas.Ground.AtLink.{AtLink, at_link}
use Rattle.simulator_recovery.proofs.Lemmas.Links.ComeUp.{BehindRounds, Begun, begun_so, behind_rounds, rounds_open, up_on, rounds_stay}
use Rattle.simulator_recovery.proofs.Lemmas.Links.Moments.{two_acted}
use Rattle.simulator_recovery.proofs.Lemmas.Links.Ready.{IsUpBehind, two_taken_behind, ups}
use Rattle.simulator_recovery.proofs.Lemmas.Rounds.Rounds.{reached_on}
use Rattle.simulator_recovery.proofs.Lemmas.Talk.Standing.{stand_by_counts}

-- from this good round on each controller has completed the initialisation: the one before links are ready
abbrev pub host_rounds : ℕ
host_rounds = ready_rounds - 1

-- A link that is up at both ends, where the initialisation of their connection is completed at the controller's host.
pub record HasCompleted (site : Site) (link : ℕ) (world : WorldState) : Type 0 where
  pub up : IsUpOn link world
  pub host_ready : HostIsAt (controller_at site link) world Stage.Completed

-- a count that stops at its greatest value is no more than what it counts
no_more : (n k : ℕ) → k ≤ stops_at_greatest n → k ≤ n
no_more n k most = grind (arith, most)

module _ (laws : LawsBelow) (between : List Event) (later_rounds : List (List Event)) (flowing : Flowing) (link : ℕ)
    (once : Once flowing.state.sited.site) (station : IsStation flowing.state.sited.site) (is_table : IsTableOf flowing.state.sited.site flowing.state.sited.table)
    (reached : IsReached flowing.state.sited.site flowing.state.sited.table flowing.state.run) (work : Each IsWork between) (works : Each (Each IsWork) later_rounds)
    (can : HasTime (suc (length later_rounds)) flowing.state.run) (there : link < links flowing.state.sited.site) (long : host_rounds ≤ suc (length later_rounds))
    (below : StaysBelowLimit flowing.state.sited.site link later_rounds (all_tried between (round flowing))) where
  abbrev sited : SitedTable
  sited = flowing.state.sited

  abbrev next : Flowing
  next = all_tried between (round flowing)

  abbrev world : WorldState
  world = (good_rounds later_rounds next).state.run

  start : Begun laws sited station once is_table link there between flowing
  start = begun_so laws sited station once is_table link there between flowing refl reached work

  later_can : HasTime (length later_rounds) next.state.run
  later_can = start.later_can (length later_rounds) can

  b : BehindRounds laws sited station once is_table link there between flowing work start later_rounds
  b = behind_rounds laws sited station once is_table link there between flowing work start later_rounds works later_can

  t : IsUpBehind laws sited station once is_table link there between flowing work start later_rounds
  t = record {
    behind = b;
    opens = rounds_open link later_rounds next start.before works (rounds_stay laws sited station once is_table link there later_rounds next start.is);
    below = b.below below;
    long = omega (arith, long);
  }

  both_up : AreUp (seen link t.behind.after)
  both_up = ups laws sited station once is_table link there between flowing work start later_rounds t

  then_reached : IsReached sited.site sited.table world
  then_reached = reached_on laws (between ∷ later_rounds) flowing reached

  whole : IsWhole sited.site world
  whole = (subst (IsStanding sited.site) (sym then_reached.after)
      (laws.stations_have_links_run sited.site sited.table then_reached.outset then_reached.events station once then_reached.lies then_reached.can)).whole

  by_counts : AllStandByCounts sited.site world
  by_counts = stand_by_counts sited.site sited.table world station then_reached

  at : AtLink sited.site station world whole by_counts link (t.behind.after.ends link).client.link (t.behind.after.ends link).server.link
  at = at_link sited.site station world whole by_counts link t.behind.after there t.behind.are both_up

  two : 2 ≤ (t.behind.after.ends link).server.link.taken
  two = two_taken_behind laws sited station once is_table link there between flowing work start later_rounds works later_can (omega (arith, long)) t

  acted : at.moment.host_at ≡ Stage.Completed
  acted = two_acted at.moment.host_at at.moment.host_taken at.moment.host_acted (no_more at.moment.host_taken 2 (subst (λ (n : ℕ). 2 ≤ n) at.moment.host_takes two))

  pub hosts_completed : HasCompleted sited.site link world
  hosts_completed = record {
    up = up_on laws sited station once is_table link there world t.behind.after t.behind.are both_up;
    host_ready = subst (HostIsAt (controller_at sited.site link) world) acted at.host_at;
  }
