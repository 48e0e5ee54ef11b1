-- A line as it runs: its two ends, which are processes with a clock and a file each, and the datagrams between them.
use Rattle.std.specs.Prelude.{ℕ, List, Option}
use Rattle.line_host.specs.Host.{HostState}
use Rattle.line_laws.specs.End.{File}
use Rattle.line_laws.specs.declared.words.Side.{Side}
use Rattle.line_laws.specs.declared.words.Side.TheVariants.{First, Second}
use Rattle.line_world.specs.declared.names.LineNames.{LineNames}

pub record EndRun : Type 0 where
  -- its process, none where that has ended
  pub process : Option HostState
  -- what its file has on disk
  pub file : File
  -- its exact clock, in microseconds
  pub clock : ℕ

-- A datagram that the network may still deliver, and how long ago it was sent, in microseconds of true time.
pub record Flying : Type 0 where
  pub bytes : List ℕ
  pub age : ℕ

pub record LineRun : Type 0 where
  pub first : EndRun
  pub second : EndRun
  -- oldest first
  pub flying : List Flying

-- a line as its contracts see it: who its ends are, how it runs, and how many datagrams have their memory already
pub record LineView : Type 0 where
  pub names : LineNames
  pub run : LineRun
  pub room : ℕ

abbrev pub end_at : Side → LineRun → EndRun
end_at First run = run.first
end_at Second run = run.second

abbrev pub with_end : Side → EndRun → LineRun → LineRun
with_end First end run = record run { first = end }
with_end Second end run = record run { second = end }
