use Rattle.std.proofs.Common.{◌∙◌}
use Rattle.simulator_safety.proofs.Quiet.{client_is}
use Rattle.simulator_safety.proofs.far_ends.clients_are_alone_after_quiet.Goals as goal

pub returns : goal.returns
returns c now names link ends lawful clock link_is down =
    c.representations_tell_the_connection.ensures.alone names ends lawful.timely (client_is now link ends.client clock link_is ∙ down)
