use Rattle.std.proofs.Common.{◌≡◌, Option}
use Rattle.std.proofs.lemmas.Result.{IfOk-weaker}
use Rattle.std.specs.Prelude.{IfOk}
use Rattle.replay.specs.World.{after, played, refusal_of}
use Rattle.replay.specs.simulator_event.refused.Refused.{Refused}
use Rattle.station_record.proofs.Applied.{Tried, happened, refused_told}
use Rattle.station_record.proofs.replayed.try_event.Goals as goal

pub returns-in-Ok : goal.returns-in-Ok
returns-in-Ok c =
    let so = happened c.args.event.now (played c.args.world.now) (played c.apply.new.self) c.in-Ok.field-0 c.in-Ok.ensures.applies
    in record { refused = so.refused; world = so.behind; sited = so.sited }

pub returns-in-Err : goal.returns-in-Err
returns-in-Err c =
    let old = played c.args.world.now
    in let new = played c.apply.new.self
    in let tried = λ (t : Option Refused). Tried c.args.event.now old new t
    in let so : IfOk c.known.result tried = refused_told c.args.event.now old new c.in-Err.why c.known.result c.known.ensures c.in-Err.ensures.applies
    in record {
      refused = IfOk-weaker c.known.result tried (λ t. t ≡ refusal_of c.args.event.now old) (λ t is. is.refused) so;
      world = IfOk-weaker c.known.result tried (λ t. new ≡ after old c.args.event.now) (λ t is. is.behind) so;
      sited = IfOk-weaker c.known.result tried (λ t. new.sited ≡ old.sited) (λ t is. is.sited) so;
    }
