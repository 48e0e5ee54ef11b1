-- What is done outside, as the desk sees it.
use Rattle.std.proofs.Common.{◌≡◌, ◌∙◌, ◌++◌, ℕ, Bool, List, [], codes, Option, Some, None, ap, subst, unwrap_or}
use Rattle.std.specs.Fmt.{decimal}
use Rattle.http_server.specs.Response.{IsResponse}
use Rattle.serde_json.specs.Read.{read}
use Rattle.http_server.specs.declared.response.Response.{Response}
use Rattle.draw_desk.specs.Answers.{BeginsAt, DeskView, Shows, ShowsFound, Tells, TellsData, called, fields_with, is_running, layout_told, told_of}
use Rattle.draw_desk.specs.Saving.{known_after}
use Rattle.draw_desk.specs.declared.answer.Kind.TheVariants.{Json}
use Rattle.draw_desk.specs.Calls.{Call, Reads, recorded}
use Rattle.draw_desk.specs.declared.panel_asked.PanelStage.TheVariants.{Asked}

-- what was found was shown, where the desk was seen so before it was read
pub found_shown : (found : Option (List ℕ)) (seen now : DeskView) (calls : Option (List Call)) (response : Response) (new : DeskView) → seen ≡ now
    → calls ≡ recorded (Reads (Some found)) seen.calls → ShowsFound found (record seen { calls = calls }) response new
    → (answer : Option (Option (List ℕ))) × Shows answer (called (Reads answer) now) response new
found_shown found seen now calls response new is made shows =
    let same : record seen { calls = calls } ≡ called (Reads (Some found)) now = (λ i. record seen { calls = made i }) ∙ ap (called (Reads (Some found))) is in
    (Some found, subst (λ (d : DeskView). ShowsFound found d response new) same shows)

-- a panel is asked for at a port that was opened
pub begun_at : (port : ℕ) (text : List ℕ) (seen now : DeskView) (calls : Option (List Call)) (response : Response) → seen ≡ now → calls ≡ seen.calls
    → Tells 200 (codes "http://127.0.0.1:" ++ decimal port ++ codes "/\n") response
    → (opened : Option ℕ) × BeginsAt opened text now response (record seen { stage = Asked (record { text = text; port = port }); calls = calls })
begun_at port text seen now calls response is made tells =
    let same : calls ≡ now.calls = made ∙ ap (λ (d : DeskView). d.calls) is in
    (Some port, (tells, λ i. record (is i) { stage = Asked (record { text = text; port = port }); calls = same i }))

-- that the file can't be read was shown
pub none_shown : (seen now : DeskView) (calls : Option (List Call)) (response : Response) → seen ≡ now → calls ≡ recorded (Reads None) seen.calls
    → Tells 500 (codes "the file can't be read") response → (answer : Option (Option (List ℕ))) × Shows answer (called (Reads answer) now) response (record seen { calls = calls })
none_shown seen now calls response is made tells =
    (None, (tells, (λ i. record seen { calls = made i }) ∙ ap (called (Reads None)) is))

-- what is told of what was found, where each of its parts is that of the desk
pub told_is : (found : Option (List ℕ)) (desk : DeskView) (file : List ℕ) (known : ℕ) (running : Bool) (text token version bytes : List ℕ) (response : Response)
    → file ≡ desk.file → known ≡ (known_after found desk.known).number → running ≡ is_running desk.stage → text ≡ unwrap_or found []
    → token ≡ desk.access.token → version ≡ desk.version → read bytes ≡ Some (layout_told file known running text token version)
    → IsResponse 200 (fields_with Json) bytes response → TellsData (told_of found desk) response
told_is found desk file known running text token version bytes response file_is known_is running_is text_is token_is version_is reads is =
    (bytes, is, reads ∙ (λ i. Some (layout_told (file_is i) (known_is i) (running_is i) (text_is i) (token_is i) (version_is i))))
