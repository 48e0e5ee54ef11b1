-- A world as its contracts see it.
use Rattle.std.specs.Prelude.{◌≡◌, ℕ, List, true}
use Rattle.ixl_state.specs.ixl_table.Table.{SitedTable}
use Rattle.simulator_spec.specs.Picture.{picture_text}
use Rattle.simulator_spec.specs.Seen.{IsSnapshotOf}
use Rattle.simulator_spec.specs.State.{WorldState, WorldView}
use Rattle.simulator_spec.specs.Tried.{Played}
use Rattle.simulator_spec.specs.simulator_event.Safe.{Safe}
use Rattle.simulator_spec.specs.simulator_event.declared.snapshot.Snapshot.{Snapshot}

-- its table, its state, and how many steps have their memory already
abbrev pub View : Type 0
View = WorldView SitedTable

-- a world as events are tried on it: how much room it has doesn't matter
abbrev pub played : View → Played
played world = record { sited = world.sited; run = world.run }

-- Whatever is seen of a world is safe: each signal that shows an aspect other than stop is protected by exactly one held route.
abbrev pub IsSafeWorld : View → Type 0
IsSafeWorld world = (shot : Snapshot) → IsSnapshotOf world.sited.table world.run shot → Safe world.sited.site shot

-- A text is the picture of a world, whose last word is `safe`, and what is seen is safe.
pub record IsPicture (sited : SitedTable) (run : WorldState) (text : List ℕ) : Type 0 where
  pub text_is : text ≡ picture_text sited.site sited.table true run
  pub seen : Snapshot
  pub seen_is : IsSnapshotOf sited.table run seen
  pub safe : Safe sited.site seen
