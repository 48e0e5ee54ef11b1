-- Requests worked by hand.
use Rattle.std.specs.Prelude.{◌≡◌, ℕ, List, [], codes, true, false, Some, None, Ok, Err}
use Rattle.draw_desk.specs.Asked.{asked}
use Rattle.draw_desk.specs.Saving.{claim_of, known_after, may_write}
use Rattle.draw_desk.specs.Seen.{AccessView, SentView}
use Rattle.draw_desk.specs.declared.claim.Claim.TheVariants.{Anything, Current, Stale}
use Rattle.draw_desk.specs.declared.known.Known.{Known}
use Rattle.draw_desk.specs.declared.refusal.Refusal.TheVariants.{ForeignHost, NoSuchTarget, WrongMethod, ForeignOrigin, NoToken, NoSuchWord}
use Rattle.draw_desk.specs.declared.request.Request.TheVariants.{Page, Layout, Check, Save, Start, Stop}

-- a desk at port 8080, with a token
abbrev pub access : AccessView
access = record { host = codes "127.0.0.1:8080"; origin = codes "http://127.0.0.1:8080"; token = codes "k3y" }

-- what a browser asks for
abbrev pub got : List ℕ → SentView
got target = record { method = codes "GET"; target = target; host = Some (codes "127.0.0.1:8080"); origin = None; token = None; known = None; body = [] }

-- what the desk's own page asks to be done
abbrev pub sent : (target body : List ℕ) → SentView
sent target body = record {
  method = codes "POST";
  target = target;
  host = Some (codes "127.0.0.1:8080");
  origin = Some (codes "http://127.0.0.1:8080");
  token = Some (codes "k3y");
  known = Some (codes "1");
  body = body;
}

-- the second text that was known, and no file
abbrev pub second : Known
second = record { number = 2; text = Some (codes "[station]") }

pub record Worked : Type 0 where
  pub page : asked access (got (codes "/")) ≡ Ok Page
  pub layout : asked access (got (codes "/layout")) ≡ Ok Layout
  pub check : asked access (sent (codes "/check") (codes "[station]")) ≡ Ok Check
  pub save : asked access (sent (codes "/save") (codes "[station]")) ≡ Ok Save
  pub start : asked access (sent (codes "/run") (codes "start")) ≡ Ok Start
  pub stop : asked access (sent (codes "/run") (codes "stop")) ≡ Ok Stop
  -- each refusal, by its first reason
  pub other_host : asked access (record (got (codes "/")) { host = Some (codes "evil.example") }) ≡ Err ForeignHost
  pub no_host : asked access (record (got (codes "/layout")) { host = None }) ≡ Err ForeignHost
  pub other_port : asked access (record (sent (codes "/save") []) { host = Some (codes "127.0.0.1:8081") }) ≡ Err ForeignHost
  pub nothing : asked access (got (codes "/favicon.ico")) ≡ Err NoSuchTarget
  pub save_got : asked access (got (codes "/save")) ≡ Err WrongMethod
  pub page_posted : asked access (sent (codes "/") []) ≡ Err WrongMethod
  pub other_origin : asked access (record (sent (codes "/save") []) { origin = Some (codes "http://evil.example") }) ≡ Err ForeignOrigin
  pub no_origin : asked access (record (sent (codes "/check") []) { origin = None }) ≡ Err ForeignOrigin
  pub other_token : asked access (record (sent (codes "/save") []) { token = Some (codes "guess") }) ≡ Err NoToken
  pub no_token : asked access (record (sent (codes "/run") (codes "start")) { token = None }) ≡ Err NoToken
  pub no_word : asked access (sent (codes "/run") (codes "go")) ≡ Err NoSuchWord
  -- what a page says that it knows
  pub anything : claim_of 2 (Some (codes "anything")) ≡ Anything
  pub no_claim : claim_of 2 None ≡ Stale
  -- a file that is as it is known is written over, and one that changed or went isn't
  pub as_known : may_write Current (Some (codes "[station]")) (Some (codes "[station]")) ≡ true
  pub changed : may_write Current (Some (codes "[station]")) (Some (codes "[point]")) ≡ false
  pub gone : may_write Current (Some (codes "[station]")) None ≡ false
  pub new : may_write Current None None ≡ true
  pub came : may_write Current None (Some (codes "[station]")) ≡ false
  pub over : may_write Anything None (Some (codes "[station]")) ≡ true
  -- a text that is read again keeps its number
  pub read_again : known_after (Some (codes "[station]")) second ≡ second
  pub read_anew : known_after None second ≡ record { number = 3; text = None }
