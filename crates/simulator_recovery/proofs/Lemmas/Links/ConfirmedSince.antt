-- What the controller of a link had given after the first good round is confirmed after later ones, where its end stays in its connection.
use Rattle.simulator_recovery.proofs.Words.Basics.{◌≡◌, ℕ, ◌<◌, ◌≤◌, false, List, length, sym, subst, arith}
use Rattle.simulator_recovery.proofs.Words.Links.{AreStillIn, WaitsAsGivenSince, lasting_rounds, AreUp, work_rounds, Each, Event as LinkEvent, run, started, seen, start_of, Ends, Role}
use Rattle.simulator_recovery.proofs.Words.Interlockings.{IsTableOf, SitedTable}
use Rattle.simulator_recovery.proofs.Words.Stations.{Once, IsStation, Event, Flowing, round, names_at, starts_at_zero, links}
use Rattle.simulator_recovery.proofs.Words.Recovery.{IsWork, all_tried, LawsBelow}
use Rattle.simulator_recovery.proofs.Lemmas.Talk.ClientLinks.{up_open}
use Rattle.simulator_recovery.proofs.Lemmas.Links.ComeUp.{Begun, begins_so, begun_at, flow_then, lists_length, lists_on, passed_at}
use Rattle.simulator_recovery.proofs.Lemmas.Rounds.LinkRounds.{are_links}
use Rattle.simulator_recovery.proofs.Lemmas.Links.Ready.{IsUpBehind, ups}

module _ (laws : LawsBelow) (sited : SitedTable) (station : IsStation sited.site) (once : Once sited.site) (is_table : IsTableOf sited.site sited.table) (link : ℕ) (there : link < links sited.site)
    (first : List Event) (flowing : Flowing) (work_first : Each IsWork first) (start : Begun laws sited station once is_table link there first flowing)
    (rounds : List (List Event)) (t : IsUpBehind laws sited station once is_table link there first flowing work_first start rounds) (long : lasting_rounds ≤ length rounds) where
  abbrev next : Flowing
  next = all_tried first (round flowing)

  abbrev lists : List (List LinkEvent)
  lists = lists_on link rounds next start.before

  abbrev ends_then : Ends
  ends_then = (work_rounds lists (flow_then laws sited station once is_table link there first flowing work_first start)).ends

  -- the controller waits for no more confirmations than it was given items since, where its end is in the connection that was its last then
  pub since_then : (t.behind.after.ends link).server.connection ≡ (start.before.ends link).server.connection → WaitsAsGivenSince (start.before.ends link).server (t.behind.after.ends link).server
  since_then same = subst (λ (e : Ends). WaitsAsGivenSince e.server (t.behind.after.ends link).server) start.is_run.same
      (subst (λ (e : Ends). WaitsAsGivenSince (run start.is_run.events (started (names_at sited.site link) (start_of link starts_at_zero))).server e.server) (sym t.behind.ends)
      (laws.what_was_given_before_is_confirmed (names_at sited.site link) (start_of link starts_at_zero) start.is_run.events
      (passed_at laws sited station once is_table link there flowing next (begun_at laws sited station once is_table link there first flowing work_first start))
      lists Role.Server ((are_links laws sited station once).each link there) start.is_run.may
      (begins_so false (names_at sited.site link) lists (flow_then laws sited station once is_table link there first flowing work_first start) t.behind.work)
      t.opens t.below (let many = lists_length link rounds next start.before in omega (arith, long, many)) still))
    where
      up : AreUp (seen link t.behind.after)
      up = ups laws sited station once is_table link there first flowing work_first start rounds t

      still : AreStillIn (run start.is_run.events (started (names_at sited.site link) (start_of link starts_at_zero))) ends_then
      still = subst (λ (e : Ends). AreStillIn e ends_then) (sym start.is_run.same) (subst (AreStillIn (seen link start.before)) t.behind.ends (record {
        are = record { client = up_open _ up.0; server = up_open _ up.1 };
        same = same;
      }))
