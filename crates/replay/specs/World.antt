-- A world to which events are tried one after another, and which lines play: how it begins, and what is seen of it.
use Rattle.std.specs.Prelude.{◌≡◌, ◌+◌, ℕ, List}
use Rattle.simulator.specs.layout.Entries.{Site}
use Rattle.simulator.specs.layout.Once.{Once}
use Rattle.simulator.specs.layout.Station.{IsStation}
use Rattle.simulator.specs.ixl_table.Table.{IsTableOf}
use Rattle.simulator.specs.simulator_event.declared.event.Event.{Event}
pub use Rattle.simulator.specs.World.{played}
use Rattle.simulator.specs.simulator_spec.First.{IsOutsetOf, Outset, first_world, world_at}
use Rattle.simulator.specs.simulator_spec.Seen.{IsSnapshotOf}
pub use Rattle.simulator.specs.simulator_spec.Tried.{Played, after, answer, answer_where, arrival_in, driven, receiver, refusal_of, world_where, worlds}
use Rattle.simulator.specs.simulator_event.Safe.{Safe}
use Rattle.simulator.specs.simulator_event.declared.snapshot.Snapshot.{Snapshot}
use Rattle.replay_lines.specs.Replay.{AllAgree, DiffersBehind}
use Rattle.replay_lines.specs.declared.session.Entry.{Entry}

-- ---- how it begins

-- The first world of a layout, which is a station in which no name stands twice, and of the layout's own table.
pub record IsFirst (site : Site) (first : Played) : Type 0 where
  pub site_is : first.sited.site ≡ site
  pub once : Once site
  pub station : IsStation site
  pub table : IsTableOf first.sited.site first.sited.table
  pub run_is : first.run ≡ first_world first.sited.site first.sited.table

-- A world of a layout that lies so when it is started. The layout is a station in which no name stands twice, and the table
-- is its own. The first world (`IsFirst`) is the one in which every point stands left and every section is clear.
pub record IsAt (site : Site) (outset : Outset) (first : Played) : Type 0 where
  pub site_is : first.sited.site ≡ site
  pub once : Once site
  pub station : IsStation site
  pub table : IsTableOf first.sited.site first.sited.table
  pub fits : IsOutsetOf site outset
  pub run_is : first.run ≡ world_at first.sited.site first.sited.table outset

-- ---- what is seen

-- Whatever is seen of a world is safe: each signal that shows an aspect other than stop is protected by exactly one held route.
abbrev pub IsSafe : Played → Type 0
IsSafe world = (seen : Snapshot) → IsSnapshotOf world.sited.table world.run seen → Safe world.sited.site seen

-- ---- events one after another

-- Events that were tried one after another lead from a first world to this one: those that can't happen leave the world as it is.
pub data ComesFrom (first : Played) : Played → Type 0 where
  begins : ComesFrom first first
  goes_on : {now : Played} → ComesFrom first now → (event : Event) → ComesFrom first (after now event)

-- Whatever is seen of any world to which events lead from this one is safe.
abbrev pub AllSafe : Played → Type 0
AllSafe first = (now : Played) → ComesFrom first now → IsSafe now

-- ---- sessions

-- each event of a session answers as it was recorded
abbrev pub AnswersSame : Played → List Entry → Type 0
AnswersSame first entries = AllAgree worlds first entries

-- the event of this line, counted from 1, is the first that answers otherwise than it was recorded
abbrev pub AnswersOtherwiseAt : ℕ → Played → List Entry → Type 0
AnswersOtherwiseAt line first entries = (n : ℕ) × (line ≡ n + 1) × DiffersBehind worlds n first entries
