use Rattle.std.proofs.Common.{[], ◌∷◌, ◌++◌, sym}
use Rattle.station_drive.specs.Doings.{Asking}
use Rattle.station_drive.specs.Told.{Nothing}
use Rattle.station_drive.proofs.Composed.{performs_then, stopped, stops_before, stops_now, stops_same, stops_then}
use Rattle.station_drive.proofs.Rows.{comings-push}
use Rattle.station_drive.proofs.engine.Engine.hear.Goals as goal

-- what it hears after the cut is nothing
pub returns-in_err-deliver-clause-stopped : goal.returns-in_err-deliver-clause-stopped
returns-in_err-deliver-clause-stopped g c =
    let before = c.loop.invariant in
    let bytes = c.in-Some.bytes.items in
    stopped c.from_residual.result (
      record { datagrams = before.0 ++ bytes ∷ []; last = Nothing; silent = tt },
      stops_before (Asking c.args.node Nothing ∷ [])
          (stops_same (sym (comings-push c.args.node before.0 bytes)) (stops_then before.1 (stops_then c.in-Some.ensures.heard c.in_err-deliver.ensures.stopped))),
    )

pub returns-in_default-clause-done : goal.returns-in_default-clause-done
returns-in_default-clause-done g c =
    let before = c.loop.invariant in
    let silence = c.in_default.ensures.silence in
    (record { datagrams = before.0; last = silence.0; silent = silence.1 }, performs_then before.1 silence.2)

pub loop-preserved : goal.loop-preserved
loop-preserved g c =
    let before = c.loop.invariant in
    let bytes = c.in-Some.bytes.items in
    (before.0 ++ bytes ∷ [], rw (comings-push c.args.node before.0 bytes) (performs_then before.1 (performs_then c.in-Some.ensures.heard c.in_ok-deliver.ensures.done)))

pub returns-clause-stopped : goal.returns-clause-stopped
returns-clause-stopped g c =
    let before = c.loop.invariant in
    (record { datagrams = before.0; last = Nothing; silent = tt }, stops_now (Asking c.args.node Nothing ∷ []) before.1)
