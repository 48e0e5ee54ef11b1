-- The host of an end of a line, and its step.
use Rattle.std.specs.Prelude.{◌≡◌, ℕ, Bool, true, false, not, ◌&&◌, if◌then◌else◌, List, [], ◌∷◌, Option, Some, None}
use Rattle.rasta_core.specs.Clock.{settled}
use Rattle.rasta_core.specs.Calls.{created}
use Rattle.rasta_core.specs.identity.Identity.{Identity}
use Rattle.rasta_core.specs.identity.Role.{Role}
use Rattle.rasta_core.specs.identity.Role.TheVariants as role
use Rattle.rasta_core.specs.Outbox.{OutboxState}
use Rattle.whole_file.specs.declared.call.Call.{Call}
use Rattle.whole_file.specs.Calls.{Made, keep_calls}
use Rattle.line_laws.specs.declared.words.Side.{Side}
use Rattle.line_laws.specs.declared.words.Side.TheVariants.{First, Second}
use Rattle.line_laws.specs.declared.words.Item.{Item}
use Rattle.line_laws.specs.End.{File, Seen, made_anew, unlinked}
use Rattle.line_end.specs.State.{EndState, StepOutput, output, stepped}
use Rattle.line_telegram.specs.Greetings.{new_greeting}
use Rattle.line_file.specs.EndFiles.{writing}
use Rattle.line_host.specs.Talk.{TalkState, is_joined, giving_all, meeting, hearing_datagram, beating, opened}
use Rattle.line_host.specs.declared.parties.Parties.{Parties}
use Rattle.line_host.specs.declared.report.Report.{Report}
use Rattle.line_host.specs.declared.input.Input.{Input}
use Rattle.line_host.specs.declared.input.Input.TheVariants as inputs

pub record HostState : Type 0 where
  pub talk : TalkState
  pub end : EndState
  -- the name of the line, which its file has
  pub line : List ℕ
  -- a contact was occupied when the end looked last
  pub busy : Bool
  -- its file couldn't be kept
  pub over : Bool

-- ---- the parts of a step, in their order

-- an end whose link isn't joined is out of any connection
abbrev pub left : HostState → HostState
left host = if is_joined host.talk then host else record host { end = record host.end { end = unlinked host.end.end } }

-- the clock rules of the link, and a loss that they bring
unfoldable pub begun : ℕ → HostState → HostState
begun now host = left (record host { talk = meeting now (record host.talk { link = settled now host.talk.link }) })

pub record HostHeard : Type 0 where
  pub host : HostState
  -- what was told to the end of the line
  pub items : List Item

-- what the step is made for
unfoldable pub given : ℕ → Input → HostState → HostHeard
given now inputs.Tick host = record { host = host; items = [] }
given now (inputs.Datagram bytes) host =
    let so_far = hearing_datagram now bytes.now host.talk in record { host = record host { talk = so_far.talk }; items = so_far.taken }
given now inputs.Look host = record { host = host; items = [] }

-- the end makes its step
abbrev pub looked : Seen → HostHeard → HostState
looked seen heard = record heard.host { end = stepped (is_joined heard.host.talk) seen heard.items heard.host.end; busy = seen.busy }

-- and this is to be written and given to the link then
abbrev pub to_do : Seen → HostHeard → StepOutput
to_do seen heard = output (is_joined heard.host.talk) seen heard.items heard.host.end

unfoldable pub ticked : ℕ → Input → TalkState → TalkState
ticked now inputs.Tick talk = opened now (beating now talk)
ticked now (inputs.Datagram bytes) talk = talk
ticked now inputs.Look talk = talk

-- ---- the step

-- what was heard when the end looks
abbrev pub heard_by : ℕ → Input → HostState → HostHeard
heard_by now input host = given now input (begun now host)

-- what its file is to have, where that has changed
abbrev pub writes : ℕ → Input → Seen → HostState → Option File
writes now input seen host = (to_do seen (heard_by now input host)).written

-- the calls by which the file is kept, if it is to be
abbrev pub file_calls : (line : List ℕ) → Side → Option File → Option Call → List Made
file_calls line side None failing = []
file_calls line side (Some file) failing = keep_calls (writing line side file) failing

-- what is given to the link then
abbrev pub told : ℕ → Input → List Item → HostState → HostState
told now input items host = left (record host { talk = ticked now input (giving_all now items host.talk) })

-- a step of which the file was kept, or needn't be
unfoldable pub host_step : ℕ → Input → Seen → HostState → HostState
host_step now input seen host =
    let heard = heard_by now input host in told now input (to_do seen heard).items (looked seen heard)

-- no datagram is there
abbrev pub emptied : HostState → HostState
emptied host = record host { talk = record host.talk { outbox = record host.talk.outbox { datagrams = [] } } }

-- ---- a new host

-- the first end is the client of the line's link
abbrev pub role_of : Side → Role
role_of First = role.Client
role_of Second = role.Server

abbrev pub identity_of : Parties → Identity
identity_of parties = record { role = role_of parties.side; own = parties.own; partner = parties.partner; key = parties.key }

-- made anew from its file; its link isn't in a connection
abbrev pub new_host : Parties → (first_sequence_number now version : ℕ) → File → HostState
new_host parties first_sequence_number now version file = record {
  talk = record {
    link = created (identity_of parties) first_sequence_number now;
    greeting = new_greeting parties.side version;
    own_name = parties.own_name;
    peer_name = parties.peer_name;
    outbox = record { datagrams = []; capacity = 128 };
  };
  end = record { side = parties.side; end = made_anew file };
  line = parties.line;
  busy = true;
  over = false;
}

-- ---- what is told to the station and the operator

abbrev pub report_of : HostState → Report
report_of host = record {
  lock = host.end.end.lock;
  clear = host.end.end.empty && not host.busy;
  token = host.end.end.token;
  asked = host.end.end.asked;
  joined = is_joined host.talk;
}

-- an end that is over tells nothing
abbrev pub reported : HostState → Option Report
reported host = if host.over then None else Some (report_of host)
