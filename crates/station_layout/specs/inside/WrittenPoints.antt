-- What is wrong with a point, by where it is written.
use Rattle.std.specs.Prelude.{List, Option}
use Rattle.control_table.specs.sci_telegram.declared.message.Side.{Side}
use Rattle.control_table.specs.layout.declared.ids.PointId.{PointId}
use Rattle.control_table.specs.layout.declared.port.Port.{Port}
use Rattle.control_table.specs.layout.Entries.{Site}
use Rattle.station_layout.specs.SideDetails.{wrong_flank, wrong_point}
use Rattle.station_layout.specs.declared.detail.PointDetail.{PointDetail}
use Rattle.station_layout.specs.declared.side_detail.Under.{Under}
use Rattle.station_layout.specs.declared.side_detail.Under.TheVariants.{Points, Flank}

abbrev pub wrong_at : Site → Port → List Port → Under → PointId × Side → Option PointDetail
wrong_at l start path Points written = wrong_point l start path written
wrong_at l start path Flank written = wrong_flank l start path written
