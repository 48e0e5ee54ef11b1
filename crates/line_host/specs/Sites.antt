-- A host with its file, list after list of its steps; and how a step is a move of the line.
use Rattle.std.specs.Prelude.{◌≡◌, ℕ, Bool, true, false, if◌then◌else◌, List, [], ◌∷◌, Option, Some, None}
use Rattle.whole_file.specs.declared.call.Call.{Call}
use Rattle.line_laws.specs.End.{File, Seen, file_of}
use Rattle.line_laws.specs.Link.{is_up, coming_taken}
use Rattle.line_laws.specs.Line.{Node}
use Rattle.line_host.specs.Talk.{is_joined}
use Rattle.line_host.specs.Host.{HostState, HostHeard, emptied, writes, host_step}
use Rattle.line_host.specs.declared.input.Input.{Input}

-- ---- with its file

pub record Site : Type 0 where
  pub host : HostState
  -- what its file has on disk
  pub file : File

-- a step, and the call that fails where its file is to be kept
pub record StepMade : Type 0 where
  pub now : ℕ
  pub input : Input
  pub seen : Seen
  pub failing : Option Call

-- what the file has when this was kept, if it was to be
abbrev pub kept_file : Option File → File → File
kept_file None file = file
kept_file (Some new) file = new

-- nothing was to be kept, or it was
abbrev pub is_kept : Option File → Option Call → Bool
is_kept None failing = true
is_kept (Some file) None = true
is_kept (Some file) (Some call) = false

-- the step of a host that isn't over
abbrev pub gone_on : StepMade → Site → Site
gone_on made site =
    let host = emptied site.host
    in let written = writes made.now made.input made.seen host
    in if is_kept written made.failing
    then record { host = host_step made.now made.input made.seen host; file = kept_file written site.file }
    else record site { host = record host { over = true } }

-- one that is over makes none
abbrev pub site_after : StepMade → Site → Site
site_after made site = if site.host.over then site else gone_on made site

abbrev pub all_after : List StepMade → Site → Site
all_after [] site = site
all_after (made ∷ others) site = all_after others (site_after made site)

-- Whatever leaves a host leaves one that isn't over: its file has the token and the lock of its end.
abbrev pub IsFileKept : Site → Type 0
IsFileKept site = site.host.over ≡ false → site.file ≡ file_of site.host.end.end

-- ---- as a move of the line

-- The near end of a line is that of a host which has heard its partner: it is up where the host is joined, and the next
-- items that come to it are those that the host was told.
pub record IsNear (heard : HostHeard) (count : ℕ) (near : Node) : Type 0 where
  pub end : near.end ≡ heard.host.end.end
  pub up : is_up near.place ≡ is_joined heard.host.talk
  pub items : coming_taken near.place count near.coming ≡ heard.items
