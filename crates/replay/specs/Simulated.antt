-- What is told of lines that are applied to a world.
use Rattle.std.specs.Prelude.{List, ℕ, Option}
use Rattle.replay.specs.Outset.{LiesAs, outset_of}
use Rattle.replay.specs.Transcript.{IsPlayed}
use Rattle.replay.specs.World.{AllSafe}

-- The layout is sound, no line is faulty, what the lines write was told, as they were carried out one after the other on a
-- world of the layout that lies as they say when it is started, and whatever is seen of any world that comes from it is safe.
pub record IsSimulated (layout events : List ℕ) (before now : Option (List ℕ)) : Type 0 where
  pub played : IsPlayed layout events before now
  pub lies : LiesAs played.site played.lines (outset_of played.site played.lines)
  pub safe : AllSafe played.told.first.state
