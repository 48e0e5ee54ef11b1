use Rattle.station_track.proofs.AheadLaws.{comes-onto, out-ends}
use Rattle.station_track.proofs.laws.heads_come_onto_what_is_ahead.Goals as goal

pub returns-clause-onto : goal.returns-clause-onto
returns-clause-onto c = comes-onto

pub returns-clause-out : goal.returns-clause-out
returns-clause-out c = λ l right p next once there h follows. out-ends l right p once there h next follows
