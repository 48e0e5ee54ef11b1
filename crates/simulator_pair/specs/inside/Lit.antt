-- What is always true of the lamp of a pair.
use Rattle.std.specs.Prelude.{◌≡◌, ◌≤◌, true, false, ◌⊎◌}
use Rattle.rasta_core.specs.State.{is_open}
use Rattle.rasta_core.specs.Clock.{alive_until}
use Rattle.rasta_core.specs.Ends.{reading_of}
use Rattle.sci_telegram.specs.declared.message.Aspect.TheVariants.{Stop}
use Rattle.simulator_pair.specs.Pair.{PairState}
use Rattle.simulator_pair.specs.Lamp.{last_aspect}

-- What the lamp was told. A step of the server tells it of a loss, and the clock doesn't; but then its moment has come.
pub record IsLit (pair : PairState) : Type 0 where
  pub until : pair.lamp.until ≡ alive_until pair.ends.server.link
  pub inside : is_open pair.ends.server.link.phase ≡ true → pair.lamp.indicated ≡ last_aspect pair.ends.server.taken
  pub outside : is_open pair.ends.server.link.phase ≡ false
      → (pair.lamp.indicated ≡ Stop) ⊎ (pair.lamp.until ≤ reading_of pair.ends.server.clock)
