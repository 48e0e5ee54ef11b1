use Rattle.rasta_core_spec.specs.Events.{started}
use Rattle.caught_up_laws.proofs.ExactEvents.{run_sound, sound_starts}
use Rattle.caught_up_laws.proofs.exact_order.order_is_exact.Goals as goal

pub returns : goal.returns
returns c = λ names start events are may. (run_sound c.laws_below.ensures names events (started names start) are may (sound_starts c.laws_below.ensures names start are)).exact
