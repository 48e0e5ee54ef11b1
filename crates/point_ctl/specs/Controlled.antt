-- A point as the object of a host.
use Rattle.std.specs.Prelude.{is_some, is_none}
use Rattle.sci_telegram.specs.declared.message.Protocol.TheVariants as protocols
use Rattle.object_host.specs.Behaviour.{Behaviour}
use Rattle.point_ctl.specs.Drive.{PointState, move_taken, taking, ticking, sensing, keeping, owing, paying, losing, status_at, move_in, drives}

-- its output is the drive
abbrev pub point_behaviour : Behaviour PointState
point_behaviour = record {
  protocol = protocols.Point;
  accepts = λ now telegram point. is_some (move_taken telegram point);
  after_take = taking;
  after_tick = ticking;
  after_sense = sensing;
  after_keep = keeping;
  until = λ point. point.until;
  owed = owing;
  after_paid = paying;
  status = status_at;
  after_loss = losing;
  is_restrictive = λ now point. is_none (drives now point);
  is_idle = λ point. is_none (move_in point.progress);
}
