-- What a panel answers to requests.
use Rattle.std.specs.Prelude.{◌≡◌, ◌<◌, ℕ, nat_lt, Bool, true, false, if◌then◌else◌, is_some, List, [], ◌∷◌, ◌++◌, length, codes, Option, Some, None, Result, Ok, Err}
use Rattle.std.specs.Fmt.{decimal}
use Rattle.std.specs.Option.{option_map_or}
use Rattle.node_lines.specs.layout.Entries.{Site}
use Rattle.http1.specs.Fields.{Header}
use Rattle.http.specs.Request.{body_of, head_of}
use Rattle.http.specs.declared.request.Request.{Request as Incoming}
use Rattle.http_header.specs.FieldValue.{FieldValue}
use Rattle.http_header.specs.HeaderMap.{get_all}
use Rattle.http_uri.specs.Grammar.{or_slash}
use Rattle.http_uri.specs.Uri.{uri_authority, uri_path_and_query}
use Rattle.http_uri.specs.declared.uri.Uri.{Uri}
use Rattle.http_server.specs.Response.{IsResponse}
use Rattle.http_server.specs.declared.response.Response.{Response}
use Rattle.serde_json.specs.Read.{read}
use Rattle.run_numbers.specs.Metrics.{metrics_text}
use Rattle.panel_desk.specs.Lines.{BoardView}
use Rattle.panel_desk.specs.State.{state}
use Rattle.panel_desk.specs.declared.answer.Kind.{Kind}
use Rattle.panel_desk.specs.declared.answer.Kind.TheVariants.{Html, Json, Metrics as MetricsText, Plain}
use Rattle.panel_desk.specs.Asked.{asked, refusal_text, status}
use Rattle.panel_desk.specs.Seen.{AccessView, SentView}
use Rattle.panel_desk.specs.declared.panel_command.PanelCommand.{PanelCommand}
use Rattle.panel_desk.specs.declared.refusal.Refusal.{Refusal}
use Rattle.panel_desk.specs.declared.request.Request.{Request}
use Rattle.panel_desk.specs.declared.request.Request.TheVariants.{Page, Station, Metrics, State, Command}

-- ---- what of a request is looked at

-- a field that was sent once
abbrev pub only : List FieldValue → Option (List ℕ)
only [] = None
only (value ∷ []) = Some value.bytes
only (value ∷ other ∷ more) = None

-- the path with its query; a target that names a host of its own has none here
abbrev pub target_of : Uri → List ℕ
target_of uri = if is_some (uri_authority uri) then [] else option_map_or or_slash (uri_path_and_query uri) []

abbrev pub sent_of : Incoming (List ℕ) → SentView
sent_of request = record {
  method = (head_of request).method;
  target = target_of (head_of request).uri;
  host = only (get_all (head_of request).headers (codes "host"));
  origin = only (get_all (head_of request).headers (codes "origin"));
  token = only (get_all (head_of request).headers (codes "x-token"));
  body = body_of request;
}

-- ---- who may command

-- by what a browser knows a panel at a port of the loopback interface, and what its page commands with
abbrev pub access_at : ℕ → List ℕ → AccessView
access_at port token = record {
  host = codes "127.0.0.1:" ++ decimal port;
  origin = codes "http://127.0.0.1:" ++ decimal port;
  token = token;
}

-- ---- answers

abbrev pub kind_text : Kind → List ℕ
kind_text Html = codes "text/html; charset=utf-8"
kind_text Json = codes "application/json"
kind_text MetricsText = codes "text/plain; version=0.0.4"
kind_text Plain = codes "text/plain; charset=utf-8"

-- the fields of an answer of a kind: no other page shows it in a frame, and nothing keeps it
abbrev pub fields_with : Kind → List Header
fields_with kind =
    (codes "content-type", kind_text kind) ∷ (codes "cache-control", codes "no-store") ∷ (codes "x-frame-options", codes "DENY")
    ∷ (codes "x-content-type-options", codes "nosniff") ∷ []

-- a desk: whose panel it is, what doesn't change, the board that it shows, the numbers that were told, and the commands that wait for
-- the next round
pub record DeskView : Type 0 where
  pub site : Site
  pub access : AccessView
  pub page : List ℕ
  pub station : List ℕ
  pub board : BoardView
  pub numbers : List (Option ℕ)
  pub waiting : List PanelCommand

-- the body of an answer reads as the state after a number
abbrev pub ShowsState : ℕ → BoardView → Response → Type 0
ShowsState after board response = (body : List ℕ) × IsResponse 200 (fields_with Json) body response × (read body ≡ Some (state after board))

-- a command waits for the next round where there is a place
abbrev pub TakenIf : Bool → PanelCommand → DeskView → Response → DeskView → Type 0
TakenIf true command old response new = IsResponse 202 (fields_with Plain) [] response × (new ≡ record old { waiting = old.waiting ++ command ∷ [] })
TakenIf false command old response new = IsResponse 503 (fields_with Plain) (codes "too many commands wait") response × (new ≡ old)

-- at most 64 commands wait
abbrev pub Taken : PanelCommand → DeskView → Response → DeskView → Type 0
Taken command old response new = TakenIf (nat_lt (length old.waiting) 64) command old response new

-- what is answered to what a request asks, or to why it is refused
abbrev pub AnsweredTo : Result Request Refusal → DeskView → Response → DeskView → Type 0
AnsweredTo (Ok Page) old response new = IsResponse 200 (fields_with Html) old.page response × (new ≡ old)
AnsweredTo (Ok Station) old response new = IsResponse 200 (fields_with Json) old.station response × (new ≡ old)
AnsweredTo (Ok Metrics) old response new = IsResponse 200 (fields_with MetricsText) (metrics_text old.numbers) response × (new ≡ old)
AnsweredTo (Ok (State after)) old response new = ShowsState after old.board response × (new ≡ old)
AnsweredTo (Ok (Command command)) old response new = Taken command old response new
AnsweredTo (Err refusal) old response new = IsResponse (status refusal) (fields_with Plain) (refusal_text refusal) response × (new ≡ old)

abbrev pub Answered : DeskView → Incoming (List ℕ) → Response → DeskView → Type 0
Answered old request response new = AnsweredTo (asked old.site old.access (sent_of request)) old response new
