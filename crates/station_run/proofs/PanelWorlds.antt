-- The worlds of a panel.
use Rattle.std.proofs.Common.{◌≡◌, ℕ, List, [], ◌∷◌, Option, Result, Ok, Err, refl, sym, subst}
use Rattle.std.proofs.lemmas.Bool.{false≢true}
use Rattle.std.specs.Result.{IfOk, IsOk, OnOk}
use Rattle.station_panel.specs.Opened.{PageView}
use Rattle.station_panel.specs.Served.{IsServed}
use Rattle.station_panel.specs.declared.ending.Ending.{Ending}
use Rattle.station_panel.specs.declared.ending.Limits.{Limits}
use Rattle.station_panel.specs.Turns.{Moment, Turns, Wants, begins as no_turn, goes_on as one_more}
use Rattle.station_panel.specs.station_drive.Doings.{Applying, Asking, Doing, EngineState, Performs, state_after}
use Rattle.station_panel.specs.station_drive.Engines.{EngineView}
use Rattle.station_panel.specs.station_drive.Told.{Call}
use Rattle.station_panel.specs.station_drive.declared.datagrams.Datagrams as networks
use Rattle.station_record.specs.replay.simulator.World.{View}
use Rattle.station_record.specs.replay.simulator_event.declared.event.Event.{Event}
use Rattle.station_record.specs.replay.World.{ComesFrom, Played, after, begins, goes_on, worlds}
use Rattle.station_run.specs.Panels.{IsAttended, shown_pictures, shown_worlds, with_pictures, world_of}
use Rattle.station_run.specs.declared.pictured_world.PicturedWorld.{PicturedWorld}

-- events of rounds are events
comes_behind : {first : Played} (doings : List Doing) (world : Played) → ComesFrom first world → ComesFrom first (state_after worlds world doings)
comes_behind [] world comes = comes
comes_behind (Asking node heard ∷ more) world comes = comes_behind more world comes
comes_behind (Applying event ∷ more) world comes = comes_behind more (after world event) (goes_on comes event)

performs_come : {Net : Type 0} {carries : Net → Call → Net → Type 0} {doings : List Doing} {first : Played} {old new : EngineState Played Net} → Performs worlds carries doings old new → ComesFrom first old.state → ComesFrom first new.state
performs_come {Net} {carries} {doings} {first} {old} done comes = subst (ComesFrom first) (sym done.state_is) (comes_behind doings old.state comes)

-- what is wanted leaves the station as it is
wanted_comes : {Network : Type 0} {reading : ℕ} {events : List Event} {first : Played} (old mid : Moment PicturedWorld Network)
    → Wants shown_worlds shown_pictures reading old events mid → ComesFrom first (world_of old.station) → ComesFrom first (world_of mid.station)
wanted_comes {Network} {reading} {events} {first} old mid wants comes = subst (λ (moment : Moment PicturedWorld Network). ComesFrom first (world_of moment.station)) (sym wants.new_is) comes

pub turns_come : {Network : Type 0} {n : networks.Ghosts Network} {limit : ℕ} {first last : Moment PicturedWorld Network} {readings : List ℕ}
    → Turns shown_worlds n shown_pictures limit first readings last → ComesFrom (world_of first.station) (world_of last.station)
turns_come no_turn = begins
turns_come (one_more before reading turn) = performs_come turn.lived.round.round.performs (wanted_comes _ turn.lived.mid turn.lived.wants (turns_come before))

-- a panel that was served was attended
pub attended : {Network T F E : Type 0} (n : networks.Ghosts Network) (page : PageView) (limits : Limits) (first : EngineView View Network) (readings_old readings_new text_new : Option (List ℕ))
    (told : Result T E) (ended : Result Ending F) → (IsOk told → IsOk ended)
    → IfOk ended (IsServed shown_worlds n shown_pictures page limits (with_pictures first) readings_old readings_new text_new)
    → OnOk told (IsAttended n page limits first readings_old readings_new text_new)
attended n page limits first readings_old readings_new text_new (Err failure) ended well served = tt
attended n page limits first readings_old readings_new text_new (Ok done) (Err fault) well served = absurd (false≢true (well refl))
attended n page limits first readings_old readings_new text_new (Ok done) (Ok ending) well served = record { ending = ending; served = served; comes = turns_come served.attended.attended.turns }

-- what holds where a result is good holds of a good one
pub holds_of_good : {T E A : Type 0} (result : Result T E) (value : T) → result ≡ Ok value → OnOk result A → A
holds_of_good {A = A} result value is holds = subst (λ r. OnOk r A) is holds
