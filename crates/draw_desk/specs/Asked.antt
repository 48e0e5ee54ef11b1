-- What a request asks of the desk of a drawing, or why it is refused.
--
--     GET /                  the page
--     GET /layout            the text of the file, and what else the page is told
--     POST /check            what the check says of a text
--     POST /save             a text for the file
--     POST /run              `start` or `stop`: a panel of the text that was checked last
--
-- What is posted comes from the desk's own page, with its token. The first of these reasons refuses a request:
--
--     ForeignHost      403   it was sent to another host
--     NoSuchTarget     404   nothing is there
--     WrongMethod      405   the target is asked with another method
--     ForeignOrigin    403   something is posted, from another page
--     NoToken          403   something is posted, without the token that the page was given
--     TooLong          413   a text of more than 1 MiB
--     NoSuchWord       400   a panel is neither to start nor to stop
--     NoText           400   a text that isn't UTF-8
use Rattle.std.specs.Prelude.{◌≡◌, ◌≤◌, ℕ, nat_le, Bool, true, false, not, if◌then◌else◌, List, length, codes, Option, Some, None, Result, Ok, Err}
use Rattle.std.specs.Str.{bytes_eq}
use Rattle.draw_desk.specs.Seen.{AccessView, SentView}
use Rattle.draw_desk.specs.declared.refusal.Refusal.{Refusal}
use Rattle.draw_desk.specs.declared.refusal.Refusal.TheVariants.{ForeignHost, NoSuchTarget, WrongMethod, ForeignOrigin, NoToken, TooLong, NoSuchWord, NoText}
use Rattle.draw_desk.specs.declared.request.Request.{Request}
use Rattle.draw_desk.specs.declared.request.Request.TheVariants.{Page, Layout, Check, Save, Start, Stop}

-- ---- fields, methods and words

-- a field was sent, and says what is wanted
abbrev pub is_given : List ℕ → Option (List ℕ) → Bool
is_given wanted (Some field) = bytes_eq field wanted
is_given wanted None = false

-- what is shown to whoever asks for it
abbrev pub shown : List ℕ → Request → Result Request Refusal
shown method request = if not (bytes_eq method (codes "GET")) then Err WrongMethod else Ok request

-- what is done for the page alone
abbrev pub posted : AccessView → SentView → Result Request Refusal → Result Request Refusal
posted access sent request =
    if not (bytes_eq sent.method (codes "POST")) then Err WrongMethod
    else if not (is_given access.origin sent.origin) then Err ForeignOrigin
    else if not (is_given access.token sent.token) then Err NoToken
    else if not (nat_le (length sent.body) 1048576) then Err TooLong
    else request

-- what a word asks of a panel
abbrev pub word_of : List ℕ → Result Request Refusal
word_of word =
    if bytes_eq word (codes "start") then Ok Start
    else if bytes_eq word (codes "stop") then Ok Stop
    else Err NoSuchWord

-- ---- requests

abbrev pub target_asked : AccessView → SentView → List ℕ → Result Request Refusal
target_asked access sent target =
    if bytes_eq target (codes "/") then shown sent.method Page
    else if bytes_eq target (codes "/layout") then shown sent.method Layout
    else if bytes_eq target (codes "/check") then posted access sent (Ok Check)
    else if bytes_eq target (codes "/save") then posted access sent (Ok Save)
    else if bytes_eq target (codes "/run") then posted access sent (word_of sent.body)
    else Err NoSuchTarget

abbrev pub asked : AccessView → SentView → Result Request Refusal
asked access sent =
    if not (is_given access.host sent.host) then Err ForeignHost
    else target_asked access sent sent.target

-- ---- refusals

-- the status with which a refusal is told
abbrev pub status : Refusal → ℕ
status ForeignHost = 403
status NoSuchTarget = 404
status WrongMethod = 405
status ForeignOrigin = 403
status NoToken = 403
status TooLong = 413
status NoSuchWord = 400
status NoText = 400

-- what is told of it
abbrev pub refusal_text : Refusal → List ℕ
refusal_text ForeignHost = codes "this page isn't at that address"
refusal_text NoSuchTarget = codes "nothing is there"
refusal_text WrongMethod = codes "not with this method"
refusal_text ForeignOrigin = codes "a station is drawn from its own page alone"
refusal_text NoToken = codes "station draw was started anew: load the page again"
refusal_text TooLong = codes "a layout has at most 1 MiB"
refusal_text NoSuchWord = codes "a panel is started or stopped"
refusal_text NoText = codes "a layout is text"

-- ---- what this comes to

-- A field was sent, and says this.
abbrev pub Says : Option (List ℕ) → List ℕ → Type 0
Says (Some field) wanted = field ≡ wanted
Says None wanted = ⊥

-- A request was sent to the desk's own address.
abbrev pub IsForDesk : AccessView → SentView → Type 0
IsForDesk access sent = Says sent.host access.host

-- whether a request is for something that is done, and not shown
abbrev pub does : Request → Bool
does Page = false
does Layout = false
does other = true

-- It was posted from the desk's own page, with the token that this was given, in at most 1 MiB.
pub record ComesFromThePage (access : AccessView) (sent : SentView) : Type 0 where
  pub host : IsForDesk access sent
  pub method : sent.method ≡ codes "POST"
  pub origin : Says sent.origin access.origin
  pub token : Says sent.token access.token
  pub length : length sent.body ≤ 1048576
