use Rattle.station_track.proofs.AheadLaws.{outside-is, throat-first, throat-inside}
use Rattle.station_track.proofs.laws.throats_lead_from_borders.Goals as goal

pub returns-clause-outside : goal.returns-clause-outside
returns-clause-outside c = outside-is

pub returns-clause-first : goal.returns-clause-first
returns-clause-first c = λ l right b n dark h. throat-first l right b dark n h

pub returns-clause-inside : goal.returns-clause-inside
returns-clause-inside c = λ l b n station dark on. throat-inside l station b n dark on
