use Rattle.std.proofs.Common.{true}
use Rattle.panel_desk.proofs.LeftAlone.{once_led}
use Rattle.panel_desk.proofs.standing_laws.each_route_waits_once.Goals as goal

pub returns : goal.returns
returns c site places orders led = once_led site (λ command. true) places orders led
