-- What the desk of a drawing answers to requests, and what comes of it.
use Rattle.std.specs.Prelude.{◌≡◌, ◌⊎◌, ◌==◌, ℕ, Bool, true, false, if◌then◌else◌, is_some, unwrap_or, List, [], ◌∷◌, ◌++◌, codes, Option, Some, None, Result, Ok, Err}
use Rattle.std.specs.Fmt.{decimal}
use Rattle.std.specs.Option.{option_map_or}
use Rattle.std.specs.Str.{is_utf8}
use Rattle.http1.specs.Fields.{Header}
use Rattle.http.specs.Request.{body_of, head_of}
use Rattle.http.specs.declared.request.Request.{Request as Incoming}
use Rattle.http_header.specs.FieldValue.{FieldValue}
use Rattle.http_header.specs.HeaderMap.{get_all}
use Rattle.http_uri.specs.Grammar.{or_slash}
use Rattle.http_uri.specs.Uri.{uri_authority, uri_path_and_query}
use Rattle.http_uri.specs.declared.uri.Uri.{Uri}
use Rattle.http_server.specs.Response.{IsResponse}
use Rattle.http_server.specs.declared.response.Response.{Response}
use Rattle.serde_json.specs.Data.{Data, boolean, number, unsigned, string, object, member, no_members}
use Rattle.serde_json.specs.Read.{read}
use Rattle.draw_desk.specs.Asked.{asked, refusal_text, status}
use Rattle.draw_desk.specs.Calls.{Call, Reads, Writes, recorded}
use Rattle.draw_desk.specs.Saving.{claim_of, known_after, known_next, may_write, next_number}
use Rattle.draw_desk.specs.Seen.{AccessView, SentView}
use Rattle.draw_desk.specs.declared.answer.Kind.{Kind}
use Rattle.draw_desk.specs.declared.answer.Kind.TheVariants.{Html, Json, Plain}
use Rattle.draw_desk.specs.declared.claim.Claim.{Claim}
use Rattle.draw_desk.specs.declared.known.Checked.{Checked}
use Rattle.draw_desk.specs.declared.known.Known.{Known}
use Rattle.draw_desk.specs.declared.outside.Verdict.{Verdict}
use Rattle.draw_desk.specs.declared.panel_asked.PanelStage.{PanelStage}
use Rattle.draw_desk.specs.declared.panel_asked.PanelStage.TheVariants.{Idle, Asked, Running, Stopping}
use Rattle.draw_desk.specs.declared.refusal.Refusal.{Refusal}
use Rattle.draw_desk.specs.declared.refusal.Refusal.TheVariants.{NoText}
use Rattle.draw_desk.specs.declared.request.Request.{Request}
use Rattle.draw_desk.specs.declared.request.Request.TheVariants.{Page, Layout, Check, Save, Start, Stop}
use Rattle.draw_desk.specs.declared.saving.Outcome.{Outcome}
use Rattle.draw_desk.specs.declared.saving.Outcome.TheVariants.{NotRead, Changed, NotWritten, Saved}

-- ---- what of a request is looked at

-- a field that was sent once
abbrev pub only : List FieldValue → Option (List ℕ)
only [] = None
only (value ∷ []) = Some value.bytes
only (value ∷ other ∷ more) = None

-- the path with its query; a target that names a host of its own has none here
abbrev pub target_of : Uri → List ℕ
target_of uri = if is_some (uri_authority uri) then [] else option_map_or or_slash (uri_path_and_query uri) []

abbrev pub sent_of : Incoming (List ℕ) → SentView
sent_of request = record {
  method = (head_of request).method;
  target = target_of (head_of request).uri;
  host = only (get_all (head_of request).headers (codes "host"));
  origin = only (get_all (head_of request).headers (codes "origin"));
  token = only (get_all (head_of request).headers (codes "x-token"));
  known = only (get_all (head_of request).headers (codes "x-known"));
  body = body_of request;
}

-- ---- answers

abbrev pub kind_text : Kind → List ℕ
kind_text Html = codes "text/html; charset=utf-8"
kind_text Json = codes "application/json"
kind_text Plain = codes "text/plain; charset=utf-8"

-- the fields of an answer of a kind: no other page shows it in a frame, and nothing keeps it
abbrev pub fields_with : Kind → List Header
fields_with kind =
    (codes "content-type", kind_text kind) ∷ (codes "cache-control", codes "no-store") ∷ (codes "x-frame-options", codes "DENY")
    ∷ (codes "x-content-type-options", codes "nosniff") ∷ []

-- an answer in words
abbrev pub Tells : ℕ → List ℕ → Response → Type 0
Tells code words response = IsResponse code (fields_with Plain) words response

-- an answer whose body reads as this
abbrev pub TellsData : Data → Response → Type 0
TellsData said response = (body : List ℕ) × IsResponse 200 (fields_with Json) body response × (read body ≡ Some said)

-- ---- a desk

-- who may ask, the page, the path of the file, the version of the program, the text of the file as it was known last, what was checked
-- last, the panel that is asked for, and the calls of the file
pub record DeskView : Type 0 where
  pub access : AccessView
  pub page : List ℕ
  pub file : List ℕ
  pub version : List ℕ
  pub known : Known
  pub checked : Option Checked
  pub stage : PanelStage
  pub calls : Option (List Call)

-- one more call of the file was made
abbrev pub called : Call → DeskView → DeskView
called call desk = record desk { calls = recorded call desk.calls }

-- a panel runs, or is asked for
abbrev pub is_running : PanelStage → Bool
is_running Idle = false
is_running other = true

-- ---- the file, as a page is shown it

abbrev pub layout_told : (file : List ℕ) → (known : ℕ) → (running : Bool) → (text token version : List ℕ) → Data
layout_told file known running text token version =
    object (member (codes "file") (string file)
    (member (codes "known") (string (decimal known))
    (member (codes "running") (boolean running)
    (member (codes "text") (string text)
    (member (codes "token") (string token)
    (member (codes "version") (string version) no_members))))))

-- what a desk tells of what was found
abbrev pub told_of : Option (List ℕ) → DeskView → Data
told_of found desk =
    layout_told desk.file (known_after found desk.known).number (is_running desk.stage) (unwrap_or found []) desk.access.token desk.version

-- A page is shown what was found, which is known from now on; or memory ran out, and that is told.
abbrev pub ShowsFound : Option (List ℕ) → DeskView → Response → DeskView → Type 0
ShowsFound found old response new =
    (TellsData (told_of found old) response × (new ≡ record old { known = known_after found old.known }))
    ⊎ (Tells 500 (codes "out of memory") response × (new ≡ old))

-- by what a read answered
abbrev pub Shows : Option (Option (List ℕ)) → DeskView → Response → DeskView → Type 0
Shows None old response new = Tells 500 (codes "the file can't be read") response × (new ≡ old)
Shows (Some found) old response new = ShowsFound found old response new

-- ---- what is checked

abbrev pub verdict_told : Verdict → (running : Bool) → Data
verdict_told verdict running =
    object (member (codes "err") (string verdict.err)
    (member (codes "out") (string verdict.out)
    (member (codes "running") (boolean running)
    (member (codes "status") (number (unsigned verdict.status)) no_members))))

-- ---- what is saved

-- What came of a save: the file was read, and then written where what was found there may be written over, and nowhere else.
abbrev pub Stored : Claim → List ℕ → DeskView → Outcome → DeskView → Type 0
Stored claim text old NotRead new = new ≡ called (Reads None) old
Stored claim text old Changed new = (found : Option (List ℕ)) × (may_write claim old.known.text found ≡ false) × (new ≡ called (Reads (Some found)) old)
Stored claim text old NotWritten new =
    (found : Option (List ℕ)) × (may_write claim old.known.text found ≡ true) × (new ≡ called (Writes text false) (called (Reads (Some found)) old))
Stored claim text old Saved new =
    (found : Option (List ℕ)) × (may_write claim old.known.text found ≡ true)
    × (new ≡ record (called (Writes text true) (called (Reads (Some found)) old)) { known = known_next (Some text) old.known })

-- with what status it is told, and in which words: a page that saved is told the number of what is known now
abbrev pub outcome_status : Outcome → ℕ
outcome_status NotRead = 500
outcome_status Changed = 409
outcome_status NotWritten = 500
outcome_status Saved = 200

abbrev pub outcome_text : ℕ → Outcome → List ℕ
outcome_text known NotRead = codes "the file can't be read"
outcome_text known Changed = codes "the file changed meanwhile"
outcome_text known NotWritten = codes "the file can't be written"
outcome_text known Saved = decimal (next_number known)

-- ---- a panel

-- what is answered where a port was opened, or none
abbrev pub BeginsAt : Option ℕ → List ℕ → DeskView → Response → DeskView → Type 0
BeginsAt None text old response new = Tells 500 (codes "no port can be opened") response × (new ≡ old)
BeginsAt (Some port) text old response new =
    Tells 200 (codes "http://127.0.0.1:" ++ decimal port ++ codes "/\n") response × (new ≡ record old { stage = Asked (record { text = text; port = port }) })

-- a panel begins of a text whose check ended with this status, if it is sound
abbrev pub BeginsIf : Bool → Checked → DeskView → Response → DeskView → Type 0
BeginsIf true checked old response new = (port : Option ℕ) × BeginsAt port checked.text old response new
BeginsIf false checked old response new = Tells 409 checked.verdict.err response × (new ≡ old)

abbrev pub BeginsOf : Option Checked → DeskView → Response → DeskView → Type 0
BeginsOf None old response new = Tells 409 (codes "nothing was checked yet") response × (new ≡ old)
BeginsOf (Some checked) old response new = BeginsIf (checked.verdict.status == 0) checked old response new

-- one panel runs at a time
abbrev pub StartedIf : Bool → DeskView → Response → DeskView → Type 0
StartedIf true old response new = Tells 409 (codes "a panel runs already") response × (new ≡ old)
StartedIf false old response new = BeginsOf old.checked old response new

-- a panel that runs is to end, and one that didn't begin yet doesn't
abbrev pub stopped : PanelStage → PanelStage
stopped Running = Stopping
stopped Stopping = Stopping
stopped other = Idle

-- ---- requests

abbrev pub Refused : Refusal → DeskView → Response → DeskView → Type 0
Refused refusal old response new = Tells (status refusal) (refusal_text refusal) response × (new ≡ old)

-- where this says of a verdict whether it is one of a text
module _ (judges : List ℕ → Verdict → Type 0) where
  -- A text is judged, and is the one that was checked last. One that isn't UTF-8 is refused.
  abbrev pub ChecksIf : Bool → List ℕ → DeskView → Response → DeskView → Type 0
  ChecksIf true text old response new =
      (verdict : Verdict) × judges text verdict × TellsData (verdict_told verdict (is_running old.stage)) response
      × (new ≡ record old { checked = Some (record { text = text; verdict = verdict }) })
  ChecksIf false text old response new = Refused NoText old response new

  abbrev pub SavesIf : Bool → SentView → DeskView → Response → DeskView → Type 0
  SavesIf true sent old response new =
      (outcome : Outcome) × Stored (claim_of old.known.number sent.known) sent.body old outcome new
      × Tells (outcome_status outcome) (outcome_text old.known.number outcome) response
  SavesIf false sent old response new = Refused NoText old response new

  -- what is answered to what a request asks, or to why it is refused
  abbrev pub AnsweredTo : Result Request Refusal → SentView → DeskView → Response → DeskView → Type 0
  AnsweredTo (Ok Page) sent old response new = IsResponse 200 (fields_with Html) old.page response × (new ≡ old)
  AnsweredTo (Ok Layout) sent old response new = (found : Option (Option (List ℕ))) × Shows found (called (Reads found) old) response new
  AnsweredTo (Ok Check) sent old response new = ChecksIf (is_utf8 sent.body) sent.body old response new
  AnsweredTo (Ok Save) sent old response new = SavesIf (is_utf8 sent.body) sent old response new
  AnsweredTo (Ok Start) sent old response new = StartedIf (is_running old.stage) old response new
  AnsweredTo (Ok Stop) sent old response new = Tells 200 [] response × (new ≡ record old { stage = stopped old.stage })
  AnsweredTo (Err refusal) sent old response new = Refused refusal old response new

  abbrev pub Answered : DeskView → Incoming (List ℕ) → Response → DeskView → Type 0
  Answered old request response new = AnsweredTo (asked old.access (sent_of request)) (sent_of request) old response new
