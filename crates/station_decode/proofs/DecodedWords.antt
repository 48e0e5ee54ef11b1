-- What is decoded is written, or nothing is.
use Rattle.std.proofs.Common.{ℕ, List, Option}
use Rattle.station_decode.specs.DecodedLine.{CanDecode}
use Rattle.station_decode.specs.inside.Decoded.{AreWords}

-- what has words can be decoded
pub can_decode : (layout : Option (List ℕ)) (word text : List ℕ) → AreWords layout word text → CanDecode layout word
can_decode layout word text are = record { site = are.site; is = are.is; bytes = are.bytes; spelled = are.spelled }
