-- A panel that is attended beside something else.
use Rattle.std.proofs.Common.{◌≡◌, ℕ, List, Option, Result, Ok, Err}
use Rattle.std.specs.Result.{OnOk}
use Rattle.station_panel.specs.Opened.{PageView}
use Rattle.station_panel.specs.declared.ending.Limits.{Limits}
use Rattle.station_panel.specs.station_drive.Engines.{EngineView}
use Rattle.station_panel.specs.station_drive.declared.sockets.Sockets.{Sockets}
use Rattle.station_record.specs.replay.simulator.World.{View}
use Rattle.station_run.specs.Panels.{IsAttended, IsAttendedSomehow, silent_sockets}

-- a panel that was attended over sockets was so whatever the clock and the record tell
pub somehow : {T E : Type 0} (page : PageView) (limits : Limits) (first : EngineView View Sockets) (readings_old readings_new text_new : Option (List ℕ)) (told : Result T E)
    → OnOk told (IsAttended silent_sockets page limits first readings_old readings_new text_new) → OnOk told (IsAttendedSomehow page limits first.station)
somehow page limits first readings_old readings_new text_new (Err failure) is = tt
somehow page limits first readings_old readings_new text_new (Ok done) is = record {
  net = first.net;
  text_old = first.text;
  text_new = text_new;
  readings_old = readings_old;
  readings_new = readings_new;
  is = is;
}

-- what holds where a panel ended well, holds of what it was made of
pub onto : {T E A B : Type 0} (told : Result T E) → (A → B) → OnOk told A → OnOk told B
onto (Err failure) to is = tt
onto (Ok done) to is = to is
