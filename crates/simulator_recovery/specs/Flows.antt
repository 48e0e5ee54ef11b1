-- What a flow of a station is.
use Rattle.std.specs.Prelude.{◌≡◌, length}
use Rattle.ixl_table.specs.Table.{IsTableOf}
use Rattle.simulator_spec.specs.layout.Once.{Once}
use Rattle.simulator_spec.specs.layout.Station.{IsStation}
use Rattle.simulator_spec.specs.Flow.{Flowing}
use Rattle.simulator_safety.specs.Reached.{IsReached}

-- A flow of a station. The layout is a station in which no name stands twice, and the table is its own. Some list of events that can
-- happen led to the world. And of each point it is noted whether, and for how many rounds, it was found driven.
pub record IsFlow (flowing : Flowing) : Type 0 where
  pub once : Once flowing.state.sited.site
  pub station : IsStation flowing.state.sited.site
  pub table : IsTableOf flowing.state.sited.site flowing.state.sited.table
  pub reached : IsReached flowing.state.sited.site flowing.state.sited.table flowing.state.run
  pub drives : length flowing.drives ≡ length flowing.state.sited.site.points
