-- Texts without a fault.
use Rattle.std.specs.Prelude.{◌≡◌, ℕ, List, Ok}
use Rattle.replay.specs.layout.Entries.{Site}
use Rattle.replay.specs.replay_lines.Session.{session}
use Rattle.replay.specs.replay_lines.declared.session.Entry.{Entry}
use Rattle.replay.specs.station_check.Report.{IsSound}

-- texts tell of a station and of a session on it
pub record AreTexts (layout text : List ℕ) (site : Site) (entries : List Entry) : Type 0 where
  pub sound : IsSound layout site
  pub says : session site text ≡ Ok entries
