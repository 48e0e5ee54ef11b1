use Rattle.station_track.proofs.Numbered.{number-at, numbers-differ}
use Rattle.station_track.proofs.Meanings.{number-is}
use Rattle.station_track.proofs.laws.places_have_numbers_of_their_own.Goals as goal

pub returns-clause-at : goal.returns-clause-at
returns-clause-at c = number-at

pub returns-clause-back : goal.returns-clause-back
returns-clause-back c = number-is

pub returns-clause-differ : goal.returns-clause-differ
returns-clause-differ c = λ l p q there beside other same. other (numbers-differ l p q there beside same)
