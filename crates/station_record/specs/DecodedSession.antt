-- What is told of the traffic of a recorded session.
use Rattle.std.specs.Prelude.{◌≡◌, ℕ, List, Option, Ok}
use Rattle.std.specs.Io.KnownBytes.{Appends}
use Rattle.replay.specs.World.{IsFirst, Played}
use Rattle.replay.specs.layout.Entries.{Site}
use Rattle.replay.specs.replay_lines.Session.{session}
use Rattle.replay.specs.replay_lines.declared.session.Entry.{Entry}
use Rattle.replay.specs.station_check.Report.{IsSound}
use Rattle.station_record.specs.Lines.{lines_text}
use Rattle.station_record.specs.Traffic.{traffic}

-- The traffic of a session that is applied to a first world of a site was told.
pub record IsTold (site : Site) (entries : List Entry) (before now : Option (List ℕ)) : Type 0 where
  pub first : Played
  pub begins : IsFirst site first
  pub appended : Appends before now (lines_text site (traffic first entries))

-- The layout is sound, no line of the record is faulty, and the traffic of the session was told.
pub record IsDecoded (layout text : List ℕ) (before now : Option (List ℕ)) : Type 0 where
  pub site : Site
  pub sound : IsSound layout site
  pub entries : List Entry
  pub says : session site text ≡ Ok entries
  pub told : IsTold site entries before now
