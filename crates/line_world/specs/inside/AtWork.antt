-- A process of an end, and what it has handed out.
use Rattle.std.specs.Prelude.{◌≡◌, ◌≤◌, ℕ, false, List, [], map, Option, Some, None}
use Rattle.std.specs.Option.{option_map}
use Rattle.line_host.specs.Host.{HostState, emptied}
use Rattle.line_laws.specs.End.{File, file_of}
use Rattle.line_world.specs.Happens.{just_sent}
use Rattle.line_world.specs.State.{EndRun, Flying}
use Rattle.rasta_core.specs.Ends.{reading_of}

-- A process that goes on may make a step at the clock of its end, and the file has its token and its lock.
pub record IsAtWork (now : ℕ) (file : File) (process : HostState) : Type 0 where
  pub clock : process.talk.link.clock ≤ reading_of now
  pub going : process.over ≡ false
  pub kept : file ≡ file_of process.end.end

-- what it handed out in its last step, when it is sent
abbrev pub handed_out : Option HostState → List Flying
handed_out None = []
handed_out (Some process) = map just_sent process.talk.outbox.datagrams

abbrev pub all_sent : EndRun → EndRun
all_sent end = record end { process = option_map emptied end.process }
