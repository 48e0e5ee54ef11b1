-- A pair: two ends of a link, the network between them, and the lamp that the server keeps.
use Rattle.std.specs.Prelude.{ℕ, List, [], ◌∷◌, if◌then◌else◌}
use Rattle.std.specs.Str.{bytes_eq}
use Rattle.rasta_core.specs.State.{LinkState, is_open}
use Rattle.rasta_core.specs.Clock.{alive_until}
use Rattle.rasta_core.specs.identity.Role.{Role}
use Rattle.rasta_core.specs.identity.Role.TheVariants as role
use Rattle.rasta_core.specs.Ends.{Call, outcome, reading_of}
use Rattle.rasta_core.specs.Run.{Ends, end_of, called}
use Rattle.signal_ctl.specs.Lamp.{Lamp, aspect_shown}
use Rattle.sci_telegram.specs.declared.message.Aspect.{Aspect}
use Rattle.sci_telegram.specs.declared.message.Aspect.TheVariants.{Stop, Proceed}

pub record PairState : Type 0 where
  pub ends : Ends
  pub lamp : Lamp

-- the items that indicate an aspect
abbrev pub proceed_item : List ℕ
proceed_item = 4 ∷ []

abbrev pub stop_item : List ℕ
stop_item = 1 ∷ []

-- the aspect indicated after an item; other items leave it as it is
abbrev pub indicated_by : List ℕ → Aspect → Aspect
indicated_by item last =
    if bytes_eq item proceed_item then Proceed else
    if bytes_eq item stop_item then Stop else
    last

unfoldable pub indicated_after : List (List ℕ) → Aspect → Aspect
indicated_after [] last = last
indicated_after (item ∷ later) last = indicated_after later (indicated_by item last)

-- what was indicated before, unless the link is closed
abbrev pub unless_closed : LinkState → Aspect → Aspect
unless_closed link last = if is_open link.phase then last else Stop

-- the lamp after a step of the server: it is told of a loss before anything else, then the items taken, then of
-- a loss in the step itself; and it is kept until the link's time ends
unfoldable pub lamp_after : LinkState → List (List ℕ) → LinkState → Lamp → Lamp
lamp_after old items new lamp = record {
  indicated = unless_closed new (indicated_after items (unless_closed old lamp.indicated));
  until = alive_until new;
}

abbrev pub lamp_of : Role → LinkState → List (List ℕ) → LinkState → Lamp → Lamp
lamp_of role.Client old items new lamp = lamp
lamp_of role.Server old items new lamp = lamp_after old items new lamp

-- a call at one end
unfoldable pub stepped : Role → Call → PairState → PairState
stepped who call pair =
    let old = end_of who pair.ends
    in let made = outcome call pair.ends.moment old
    in record { ends = called who call pair.ends; lamp = lamp_of who old.link made.taken made.link pair.lamp }

-- what the lamp shows at the server's clock
abbrev pub shown : PairState → Aspect
shown pair = aspect_shown pair.lamp (reading_of pair.ends.server.clock)

-- a lamp as it is made: at stop, and kept until the time of its link ends
abbrev pub new_lamp : LinkState → Lamp
new_lamp link = record { indicated = Stop; until = alive_until link }

-- a pair as its contracts see it: its state, and how many events have their memory already
pub record PairView : Type 0 where
  pub run : PairState
  pub room : ℕ
