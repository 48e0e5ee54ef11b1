-- Requests worked by hand.
use Rattle.std.specs.Prelude.{◌≡◌, ◌∷◌, ℕ, List, [], false, replicate, codes, Option, Some, None, Ok, Err}
use Rattle.node_lines.specs.replay_words.declared.fault.Fault.TheVariants.{Words}
use Rattle.node_lines.specs.layout.Entries.{Site}
use Rattle.node_lines.specs.ixl_spec.declared.command.Command.TheVariants.{Resume}
use Rattle.node_lines.specs.simulator_event.declared.event.Event.TheVariants as event
use Rattle.panel_desk.specs.Asked.{asked, line_asked}
use Rattle.panel_desk.specs.CommandLines.{panel_said}
use Rattle.node_lines.specs.replay_words.Cut.{words}
use Rattle.std.specs.Str.{is_utf8}
use Rattle.panel_desk.specs.Seen.{AccessView, SentView}
use Rattle.panel_desk.specs.declared.panel_command.Disturbance.TheVariants.{Drop}
use Rattle.panel_desk.specs.declared.panel_command.PanelCommand.TheVariants.{Event, CancelAll, Disturb}
use Rattle.panel_desk.specs.declared.refusal.Refusal.TheVariants.{ForeignHost, NoSuchTarget, WrongMethod, NoNumber, ForeignOrigin, NoToken, TooLong, NoText}
use Rattle.panel_desk.specs.declared.request.Request.TheVariants.{Metrics, Page, Station, State}

-- a panel at port 8080, with a token
abbrev pub access : AccessView
access = record { host = codes "127.0.0.1:8080"; origin = codes "http://127.0.0.1:8080"; token = codes "k3y" }

-- what a browser asks for
abbrev pub got : List ℕ → SentView
got target = record { method = codes "GET"; target = target; host = Some (codes "127.0.0.1:8080"); origin = None; token = None; body = [] }

-- what the panel's own page commands
abbrev pub posted : List ℕ → SentView
posted body = record {
  method = codes "POST";
  target = codes "/command";
  host = Some (codes "127.0.0.1:8080");
  origin = Some (codes "http://127.0.0.1:8080");
  token = Some (codes "k3y");
  body = body;
}

pub record Worked (site : Site) : Type 0 where
  pub page : asked site access (got (codes "/")) ≡ Ok Page
  pub station : asked site access (got (codes "/station")) ≡ Ok Station
  -- the numbers are read without the token
  pub metrics : asked site access (got (codes "/metrics")) ≡ Ok Metrics
  pub state : asked site access (got (codes "/state?after=17")) ≡ Ok (State 17)
  pub resume : panel_said site (words (codes "resume")) ≡ Ok (Event (event.Request Resume))
  pub cancel_all : panel_said site (words (codes "cancel all")) ≡ Ok CancelAll
  pub drop : panel_said site (words (codes "drop 10")) ≡ Ok (Disturb (Drop 10))
  -- what is posted with all that is wanted is judged by its words
  pub posted_line : asked site access (posted (codes "resume")) ≡ line_asked site (codes "resume")
  -- each refusal, by its first reason
  pub other_host : asked site access (record (got (codes "/")) { host = Some (codes "evil.example") }) ≡ Err ForeignHost
  pub no_host : asked site access (record (got (codes "/")) { host = None }) ≡ Err ForeignHost
  pub other_port : asked site access (record (posted (codes "resume")) { host = Some (codes "127.0.0.1:8081") }) ≡ Err ForeignHost
  pub nothing : asked site access (got (codes "/favicon.ico")) ≡ Err NoSuchTarget
  pub other_name : asked site access (got (codes "/state?before=17")) ≡ Err NoSuchTarget
  pub command_got : asked site access (got (codes "/command")) ≡ Err WrongMethod
  pub metrics_posted : asked site access (record (posted (codes "resume")) { target = codes "/metrics" }) ≡ Err WrongMethod
  pub metrics_elsewhere : asked site access (record (got (codes "/metrics")) { host = Some (codes "evil.example") }) ≡ Err ForeignHost
  pub page_posted : asked site access (record (posted (codes "resume")) { target = codes "/" }) ≡ Err WrongMethod
  pub no_number : asked site access (got (codes "/state?after=x")) ≡ Err NoNumber
  pub other_origin : asked site access (record (posted (codes "resume")) { origin = Some (codes "http://evil.example") }) ≡ Err ForeignOrigin
  pub no_origin : asked site access (record (posted (codes "resume")) { origin = None }) ≡ Err ForeignOrigin
  pub other_token : asked site access (record (posted (codes "resume")) { token = Some (codes "guess") }) ≡ Err NoToken
  pub no_token : asked site access (record (posted (codes "resume")) { token = None }) ≡ Err NoToken
  pub too_long : asked site access (posted (replicate 513 97)) ≡ Err TooLong
  pub no_text : (body : List ℕ) → is_utf8 body ≡ false → line_asked site body ≡ Err NoText
  pub no_command : panel_said site (words (codes "let all trains go")) ≡ Err Words
  pub spaced : panel_said site (words (codes "resume ")) ≡ Err Words
