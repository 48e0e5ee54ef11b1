use Rattle.toml.specs.View.{table_view}
use Rattle.layout.proofs.OnceSite.{once_of}
use Rattle.layout.proofs.StationSite.{station_of}
use Rattle.layout.proofs.site.layout_of.Goals as goal

pub returns-clause-station : goal.returns-clause-station
returns-clause-station c = station_of (table_view c.args.document.now) c.in_ok-written.written c.in_ok-draft.draft c.in_ok-written.ensures c.in_ok-draft.ensures

pub invariant_of-result : goal.invariant_of-result
invariant_of-result c = (
  once_of c.in_ok-written.written c.in_ok-draft.draft c.in_ok-draft.ensures c.in_ok-ports_once.ensures,
  station_of (table_view c.args.document.now) c.in_ok-written.written c.in_ok-draft.draft c.in_ok-written.ensures c.in_ok-draft.ensures,
)
