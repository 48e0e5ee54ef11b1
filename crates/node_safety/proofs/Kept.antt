-- What orders tell.
use Rattle.std.proofs.Common.{◌≡◌, ℕ, Option, Some, None, refl}
use Rattle.node_kinds.specs.node_drive.node_lines.Orders.{aspect_ordered, side_ordered}
use Rattle.node_kinds.specs.Controllers.{drive_order, lamp_order}
use Rattle.node_kinds.specs.simulator_spec.sci_telegram.declared.message.Aspect.{Aspect}
use Rattle.node_kinds.specs.simulator_spec.sci_telegram.declared.message.Aspect.TheVariants as aspects
use Rattle.node_kinds.specs.simulator_spec.point_ctl.Drive.{driven_by}
use Rattle.node_kinds.specs.simulator_spec.point_ctl.declared.drive.Drive.{Drive}
use Rattle.node_kinds.specs.simulator_spec.signal_ctl.Lamp.{Lamp, aspect_shown}

by_aspect : (aspect : Aspect) (until now : ℕ) → aspect_ordered (lamp_order (record { indicated = aspect; until = until })) now ≡ aspect_shown (record { indicated = aspect; until = until }) now
by_aspect aspects.Stop until now = refl
by_aspect aspects.Proceed until now = refl
by_aspect aspects.Slow until now = refl

pub lamp_kept : (lamp : Lamp) (now : ℕ) → aspect_ordered (lamp_order lamp) now ≡ aspect_shown lamp now
lamp_kept lamp now = by_aspect lamp.indicated lamp.until now

pub drive_kept : (drive : Option Drive) (now : ℕ) → side_ordered (drive_order drive) now ≡ driven_by drive now
drive_kept None now = refl
drive_kept (Some drive) now = refl
