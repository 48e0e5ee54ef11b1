use Rattle.std.proofs.Common.{refl}
use Rattle.simulator_move_laws.proofs.Interlocking.Made.{made_sees}
use Rattle.simulator_move_laws.proofs.seen.made_interlockings_are_seen.Goals as goal

pub returns-clause-seen : goal.returns-clause-seen
returns-clause-seen c now ixl given machine holds made quiet = made_sees now ixl holds given machine made quiet

pub returns-clause-first : goal.returns-clause-first
returns-clause-first c ixl positions = record { signals = λ place. refl; points = λ place. refl; routes = λ number. refl; holding = refl; unknown = λ place is. refl }

pub returns-clause-anew : goal.returns-clause-anew
returns-clause-anew c ixl machine gone = record { signals = λ place. refl; points = λ place. refl; routes = λ number. refl; holding = refl; unknown = gone }
