-- What a request asks of a panel, or why it is refused.
--
--     GET /                  the page
--     GET /station           what doesn't change while the panel runs
--     GET /metrics           the numbers, as Prometheus reads them
--     GET /state?after=N     what was told after a number
--     POST /command          a command: a line, from the panel's own page, with its token
--
-- The first of these reasons refuses it:
--
--     ForeignHost      403   it was sent to another host
--     NoSuchTarget     404   nothing is there
--     WrongMethod      405   the target is asked with another method
--     NoNumber         400   what stands after `after` is no number below 2^64
--     ForeignOrigin    403   a command, from another page
--     NoToken          403   a command, without the token that the page was given
--     TooLong          413   a command of more than 512 bytes
--     NoText           400   a command that isn't UTF-8
--     Line             400   a command whose words say none
use Rattle.std.specs.Prelude.{◌≡◌, ◌≤◌, ℕ, nat_le, Bool, true, false, not, if◌then◌else◌, List, length, codes, Option, Some, None, Result, Ok, Err}
use Rattle.std.specs.Str.{bytes_eq, is_utf8}
use Rattle.node_lines.specs.replay_words.Cut.{name_and_number, words}
use Rattle.node_lines.specs.replay_words.Read.{decimal}
use Rattle.node_lines.specs.replay_words.declared.fault.Fault.{Fault}
use Rattle.node_lines.specs.layout.Entries.{Site}
use Rattle.panel_desk.specs.CommandLines.{panel_said}
use Rattle.panel_desk.specs.Seen.{AccessView, SentView}
use Rattle.panel_desk.specs.declared.panel_command.PanelCommand.{PanelCommand}
use Rattle.panel_desk.specs.declared.refusal.Refusal.{Refusal}
use Rattle.panel_desk.specs.declared.refusal.Refusal.TheVariants.{ForeignHost, NoSuchTarget, WrongMethod, NoNumber, ForeignOrigin, NoToken, TooLong, NoText, Line}
use Rattle.panel_desk.specs.declared.request.Request.{Request}
use Rattle.panel_desk.specs.declared.request.Request.TheVariants.{Page, Station, Metrics, State, Command}

-- ---- fields and methods

-- a field was sent, and says what is wanted
abbrev pub is_given : List ℕ → Option (List ℕ) → Bool
is_given wanted (Some field) = bytes_eq field wanted
is_given wanted None = false

-- what is shown to whoever asks for it
abbrev pub shown : List ℕ → Request → Result Request Refusal
shown method request = if not (bytes_eq method (codes "GET")) then Err WrongMethod else Ok request

-- ---- the state

abbrev pub state_after : Result ℕ Fault → Result Request Refusal
state_after (Ok number) = Ok (State number)
state_after (Err fault) = Err NoNumber

-- by the sides of the target's first equals sign
abbrev pub state_of : List ℕ → Result (List ℕ × List ℕ) Fault → Result Request Refusal
state_of method (Ok sides) =
    if not (bytes_eq sides.0 (codes "/state?after")) then Err NoSuchTarget
    else if not (bytes_eq method (codes "GET")) then Err WrongMethod
    else state_after (decimal sides.1)
state_of method (Err fault) = Err NoSuchTarget

abbrev pub state_asked : List ℕ → List ℕ → Result Request Refusal
state_asked method target = state_of method (name_and_number target)

-- ---- commands

abbrev pub line_read : Result PanelCommand Fault → Result Request Refusal
line_read (Ok command) = Ok (Command command)
line_read (Err fault) = Err (Line fault)

abbrev pub line_asked : Site → List ℕ → Result Request Refusal
line_asked site body = if is_utf8 body then line_read (panel_said site (words body)) else Err NoText

abbrev pub command_asked : Site → AccessView → SentView → Result Request Refusal
command_asked site access sent =
    if not (bytes_eq sent.method (codes "POST")) then Err WrongMethod
    else if not (is_given access.origin sent.origin) then Err ForeignOrigin
    else if not (is_given access.token sent.token) then Err NoToken
    else if not (nat_le (length sent.body) 512) then Err TooLong
    else line_asked site sent.body

-- ---- requests

abbrev pub target_asked : Site → AccessView → SentView → List ℕ → Result Request Refusal
target_asked site access sent target =
    if bytes_eq target (codes "/") then shown sent.method Page
    else if bytes_eq target (codes "/station") then shown sent.method Station
    else if bytes_eq target (codes "/metrics") then shown sent.method Metrics
    else if bytes_eq target (codes "/command") then command_asked site access sent
    else state_asked sent.method target

abbrev pub asked : Site → AccessView → SentView → Result Request Refusal
asked site access sent =
    if not (is_given access.host sent.host) then Err ForeignHost
    else target_asked site access sent sent.target

-- ---- refusals

-- the status with which a refusal is told
abbrev pub status : Refusal → ℕ
status ForeignHost = 403
status NoSuchTarget = 404
status WrongMethod = 405
status NoNumber = 400
status ForeignOrigin = 403
status NoToken = 403
status TooLong = 413
status NoText = 400
status (Line fault) = 400

-- what is told of it
abbrev pub refusal_text : Refusal → List ℕ
refusal_text ForeignHost = codes "this panel isn't at that address"
refusal_text NoSuchTarget = codes "nothing is there"
refusal_text WrongMethod = codes "not with this method"
refusal_text NoNumber = codes "the state after which number?"
refusal_text ForeignOrigin = codes "commands come from the panel's own page alone"
refusal_text NoToken = codes "the panel was started anew: load the page again"
refusal_text TooLong = codes "a command has at most 512 bytes"
refusal_text NoText = codes "a command is text"
refusal_text (Line fault) = codes "there is no such command"

-- ---- what this comes to

-- A field was sent, and says this.
abbrev pub Says : Option (List ℕ) → List ℕ → Type 0
Says (Some field) wanted = field ≡ wanted
Says None wanted = ⊥

-- A request was sent to the panel's own address.
abbrev pub IsForPanel : AccessView → SentView → Type 0
IsForPanel access sent = Says sent.host access.host

-- A command was posted from the panel's own page, with the token that this was given, in at most 512 bytes that say it.
pub record ComesFromThePage (site : Site) (access : AccessView) (sent : SentView) (command : PanelCommand) : Type 0 where
  pub host : IsForPanel access sent
  pub target : sent.target ≡ codes "/command"
  pub method : sent.method ≡ codes "POST"
  pub origin : Says sent.origin access.origin
  pub token : Says sent.token access.token
  pub length : length sent.body ≤ 512
  pub said : panel_said site (words sent.body) ≡ Ok command
