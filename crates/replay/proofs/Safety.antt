-- Every world that comes from one that begins is reached by events that could happen.
use Rattle.std.proofs.Common.{◌≡◌, refl, sym, subst, Option, Some, None}
use Rattle.simulator.specs.layout.Entries.{Site}
use Rattle.simulator.specs.ixl_spec.Table.{Table}
use Rattle.simulator.specs.ixl_table.Table.{IsTableOf, SitedTable}
use Rattle.simulator.specs.layout.Once.{Once}
use Rattle.simulator.specs.layout.Station.{IsStation}
use Rattle.simulator.specs.simulator_event.declared.event.Event.{Event}
use Rattle.simulator.specs.simulator_safety.Reached.{IsReached}
use Rattle.simulator.specs.simulator_spec.First.{IsOutsetOf, Outset, first_world, world_at}
use Rattle.simulator.specs.simulator_spec.Happens.{happens}
use Rattle.simulator.specs.simulator_spec.Refusals.{refusal}
use Rattle.simulator.specs.simulator_spec.Seen.{IsSnapshotOf}
use Rattle.simulator.specs.simulator_spec.State.{WorldState}
use Rattle.simulator.specs.simulator_event.Safe.{Safe}
use Rattle.simulator.specs.simulator_event.declared.snapshot.Snapshot.{Snapshot}
use Rattle.replay.specs.World.{begins, ComesFrom, goes_on, IsAt, IsFirst, IsSafe, Played, refusal_of, world_where}

-- a world has the data of the first one, and events have led to it
pub record IsOf (first now : Played) : Type 0 where
  pub sited : now.sited ≡ first.sited
  pub reached : IsReached first.sited.site first.sited.table now.run

-- a world of a checked table that is reached
pub record Starts (first : Played) : Type 0 where
  pub once : Once first.sited.site
  pub station : IsStation first.sited.site
  pub table : IsTableOf first.sited.site first.sited.table
  pub reached : IsReached first.sited.site first.sited.table first.run

-- the first world of a layout
pub starts_first : ((site : Site) (table : Table) → IsReached site table (first_world site table)) → (site : Site) (first : Played) → IsFirst site first → Starts first
starts_first reached site first is =
    let Reached : WorldState → Type 0 = IsReached first.sited.site first.sited.table
    in record {
      once = subst Once (sym is.site_is) is.once;
      station = subst IsStation (sym is.site_is) is.station;
      table = is.table;
      reached = subst Reached (sym is.run_is) (reached first.sited.site first.sited.table);
    }

-- one that lies otherwise when it is started
pub starts_at : ((site : Site) (table : Table) (outset : Outset) → IsOutsetOf site outset → IsReached site table (world_at site table outset))
    → (site : Site) (outset : Outset) (first : Played) → IsAt site outset first → Starts first
starts_at reached site outset first is =
    let Reached : WorldState → Type 0 = IsReached first.sited.site first.sited.table
    in let Fits : Site → Type 0 = λ s. IsOutsetOf s outset
    in record {
      once = subst Once (sym is.site_is) is.once;
      station = subst IsStation (sym is.site_is) is.station;
      table = is.table;
      reached = subst Reached (sym is.run_is) (reached first.sited.site first.sited.table outset (subst Fits (sym is.site_is) is.fits));
    }

module _ (leads : (site : Site) (table : Table) (event : Event) (world : WorldState) → IsReached site table world → refusal site event world ≡ None → IsReached site table (happens site table event world)) where
  after_of : (first now : Played) (event : Event) (why : Option _) → refusal_of event now ≡ why → IsOf first now
      → IsOf first (world_where why now (record now { run = happens now.sited.site now.sited.table event now.run }))
  after_of first now event (Some why) e before = before
  after_of first now event None e before =
      let Leads : SitedTable → Type 0 = λ p. IsReached p.site p.table now.run → refusal p.site event now.run ≡ None → IsReached p.site p.table (happens p.site p.table event now.run)
      in let own : SitedTable → Type 0 = λ p. IsReached p.site p.table now.run
      in let next : IsReached now.sited.site now.sited.table (happens now.sited.site now.sited.table event now.run) =
      leads now.sited.site now.sited.table event now.run (subst own (sym before.sited) before.reached) e
      in let Next : SitedTable → Type 0 = λ p. IsReached p.site p.table (happens now.sited.site now.sited.table event now.run)
      in record { sited = before.sited; reached = subst Next before.sited next }

  pub comes : (first now : Played) → Starts first → ComesFrom first now → IsOf first now
  comes first _ starts begins = record { sited = refl; reached = starts.reached }
  comes first _ starts (goes_on {now = now} before event) = after_of first now event (refusal_of event now) refl (comes first now starts before)

  module _ (safe : (site : Site) (table : Table) (world : WorldState) (seen : Snapshot) → Once site → IsStation site → IsTableOf site table → IsReached site table world
      → IsSnapshotOf table world seen → Safe site seen) where
    pub all_safe : (first now : Played) → Starts first → ComesFrom first now → IsSafe now
    all_safe first now starts from seen of =
        let own = comes first now starts from
        in let back : first.sited ≡ now.sited = sym own.sited
        in let HasTable : SitedTable → Type 0 = λ p. IsTableOf p.site p.table
        in let OfReached : SitedTable → Type 0 = λ p. IsReached p.site p.table now.run
        in let OfOnce : SitedTable → Type 0 = λ p. Once p.site
        in let OfStation : SitedTable → Type 0 = λ p. IsStation p.site
        in safe now.sited.site now.sited.table now.run seen (subst OfOnce back starts.once) (subst OfStation back starts.station) (subst HasTable back starts.table)
        (subst OfReached back own.reached) of
