use Rattle.station_layout.proofs.OneTable.{one_table}
use Rattle.station_layout.proofs.laws.a_layout_has_one_table.Goals as goal

pub returns : goal.returns
returns c = one_table
