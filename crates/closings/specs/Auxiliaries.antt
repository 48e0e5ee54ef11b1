-- Auxiliary commands: those by which a person vouches for what the interlocking doesn't know. `release` frees a route that no train was
-- seen to pass, `open` takes away what kept trains or moves off a thing. Each one that is accepted is counted, also one that changes
-- nothing, so that nobody gives them unseen.
use Rattle.std.specs.Prelude.{ℕ, ◌+◌, ◌-◌, ◌^◌, ◌<◌, ◌≤◌, min}
use Rattle.closings.specs.declared.auxiliary.Auxiliary.{Auxiliary}
use Rattle.closings.specs.declared.auxiliary.Auxiliary.TheVariants.{Release, Open}
use Rattle.closings.specs.declared.auxiliary.AuxiliaryCounts.{AuxiliaryCounts}

abbrev pub none_counted : AuxiliaryCounts
none_counted = record { releases = 0; opens = 0 }

abbrev pub count_of : Auxiliary → AuxiliaryCounts → ℕ
count_of Release counts = counts.releases
count_of Open counts = counts.opens

-- one more, of 64 bits
abbrev pub one_more : ℕ → ℕ
one_more count = min (count + 1) (2 ^ 64 - 1)

abbrev pub counted_by : Auxiliary → AuxiliaryCounts → AuxiliaryCounts
counted_by Release counts = record counts { releases = one_more counts.releases }
counted_by Open counts = record counts { opens = one_more counts.opens }

-- numbers of 64 bits
pub record AreNumbers (counts : AuxiliaryCounts) : Type 0 where
  pub releases : counts.releases < 2 ^ 64
  pub opens : counts.opens < 2 ^ 64

-- of each kind as many were counted, or more
pub record AreCounted (fewer counts : AuxiliaryCounts) : Type 0 where
  pub releases : fewer.releases ≤ counts.releases
  pub opens : fewer.opens ≤ counts.opens
