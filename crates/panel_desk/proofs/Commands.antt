-- What is taken for a command.
use Rattle.std.proofs.Common.{◌≡◌, ◌≤◌, ℕ, nat_le, Bool, true, false, not, if◌then◌else◌, List, length, codes, Option, Some, None, Result, Ok, Err, refl, sym, ap, ◌∙◌, bytes_eq, arith}
use Rattle.std.proofs.lemmas.Slice.Eq.{bytes_eq-Decides}
use Rattle.std.specs.Str.{is_utf8}
use Rattle.node_lines.specs.replay_words.Cut.{name_and_number, words}
use Rattle.node_lines.specs.replay_words.Read.{decimal}
use Rattle.node_lines.specs.replay_words.declared.fault.Fault.{Fault}
use Rattle.node_lines.specs.layout.Entries.{Site}
use Rattle.panel_desk.specs.Asked.{ComesFromThePage, IsForPanel, Says, asked, command_asked, is_given, line_asked, line_read, shown, state_after, state_asked, state_of, target_asked}
use Rattle.panel_desk.specs.CommandLines.{panel_said}
use Rattle.panel_desk.specs.Seen.{AccessView, SentView}
use Rattle.panel_desk.specs.declared.panel_command.PanelCommand.{PanelCommand}
use Rattle.panel_desk.specs.declared.refusal.Refusal.{Refusal}
use Rattle.panel_desk.specs.declared.refusal.Refusal.TheVariants.{NoText}
use Rattle.panel_desk.specs.declared.request.Request.{Request}
use Rattle.panel_desk.specs.declared.request.Request.TheVariants.{Page, Station, Metrics, State, Command}

-- a test that would refuse didn't
passed : {A : Type 0} (refuses : Bool) (why : Refusal) (next : Result A Refusal) (answer : A) → (if refuses then Err why else next) ≡ Ok answer → (refuses ≡ false) × (next ≡ Ok answer)
passed true why next answer h = absurd (cc)
passed false why next answer h = (refl, h)

-- what was tested by its opposite
met : (b : Bool) → not b ≡ false → b ≡ true
met true h = refl
met false h = absurd (cc)

same_bytes : (xs ys : List ℕ) → bytes_eq xs ys ≡ true → xs ≡ ys
same_bytes xs ys h = (bytes_eq-Decides xs ys).0 h

given_says : (wanted : List ℕ) (field : Option (List ℕ)) → is_given wanted field ≡ true → Says field wanted
given_says wanted None h = absurd (cc)
given_says wanted (Some field) h = same_bytes field wanted h

-- what is shown is no command
shown_none : (method : List ℕ) (request : Request) (command : PanelCommand) → (request ≡ Command command → ⊥) → shown method request ≡ Ok (Command command) → ⊥
shown_none method request command other h =
    let next = (passed (not (bytes_eq method (codes "GET"))) _ (Ok request) (Command command) h).1 in
    other (cc)

state_none : (after : Result ℕ Fault) (command : PanelCommand) → state_after after ≡ Ok (Command command) → ⊥
state_none (Ok number) command h = cc
state_none (Err fault) command h = cc

state_of_none : (method : List ℕ) (sides : Result (List ℕ × List ℕ) Fault) (command : PanelCommand) → state_of method sides ≡ Ok (Command command) → ⊥
state_of_none method (Err fault) command h = cc
state_of_none method (Ok sides) command h =
    let one = passed (not (bytes_eq sides.0 (codes "/state?after"))) _ _ (Command command) h in
    let two = passed (not (bytes_eq method (codes "GET"))) _ _ (Command command) one.1 in
    state_none (decimal sides.1) command two.1

-- a line that was taken says the command
line_says : (said : Result PanelCommand Fault) (command : PanelCommand) → line_read said ≡ Ok (Command command) → said ≡ Ok command
line_says (Ok other) command h = cc
line_says (Err fault) command h = absurd (cc)

line_comes : (site : Site) (body : List ℕ) (command : PanelCommand) (is_text : Bool) → (if is_text then line_read (panel_said site (words body)) else Err NoText) ≡ Ok (Command command)
    → panel_said site (words body) ≡ Ok command
line_comes site body command true h = line_says _ command h
line_comes site body command false h = absurd (cc)

within : (bytes most : ℕ) → nat_le bytes most ≡ true → bytes ≤ most
within bytes most h = grind (arith, h)

command_comes : (site : Site) (access : AccessView) (sent : SentView) (command : PanelCommand) → IsForPanel access sent → sent.target ≡ codes "/command"
    → command_asked site access sent ≡ Ok (Command command) → ComesFromThePage site access sent command
command_comes site access sent command host target h =
    let method = passed (not (bytes_eq sent.method (codes "POST"))) _ _ (Command command) h in
    let origin = passed (not (is_given access.origin sent.origin)) _ _ (Command command) method.1 in
    let token = passed (not (is_given access.token sent.token)) _ _ (Command command) origin.1 in
    let few = passed (not (nat_le (length sent.body) 512)) _ _ (Command command) token.1 in
    record {
      host = host;
      target = target;
      method = same_bytes sent.method (codes "POST") (met _ method.0);
      origin = given_says access.origin sent.origin (met _ origin.0);
      token = given_says access.token sent.token (met _ token.0);
      length = within (length sent.body) 512 (met _ few.0);
      said = line_comes site sent.body command (is_utf8 sent.body) few.1;
    }

target_comes : (site : Site) (access : AccessView) (sent : SentView) (command : PanelCommand) (page station metrics commands : Bool) → commands ≡ bytes_eq sent.target (codes "/command")
    → IsForPanel access sent
    → (if page then shown sent.method Page else if station then shown sent.method Station else if metrics then shown sent.method Metrics else if commands then command_asked site access sent else state_asked sent.method sent.target) ≡ Ok (Command command)
    → ComesFromThePage site access sent command
target_comes site access sent command true station metrics commands is host h = absurd (shown_none sent.method Page command (λ e. cc) h)
target_comes site access sent command false true metrics commands is host h = absurd (shown_none sent.method Station command (λ e. cc) h)
target_comes site access sent command false false true commands is host h = absurd (shown_none sent.method Metrics command (λ e. cc) h)
target_comes site access sent command false false false true is host h = command_comes site access sent command host (same_bytes sent.target (codes "/command") (sym is)) h
target_comes site access sent command false false false false is host h = absurd (state_of_none sent.method (name_and_number sent.target) command h)

pub host_is : (site : Site) (access : AccessView) (sent : SentView) (wanted : Request) → asked site access sent ≡ Ok wanted → IsForPanel access sent
host_is site access sent wanted h = given_says access.host sent.host (met _ (passed (not (is_given access.host sent.host)) _ _ wanted h).0)

pub comes : (site : Site) (access : AccessView) (sent : SentView) (command : PanelCommand) → asked site access sent ≡ Ok (Command command) → ComesFromThePage site access sent command
comes site access sent command h =
    target_comes site access sent command (bytes_eq sent.target (codes "/")) (bytes_eq sent.target (codes "/station")) (bytes_eq sent.target (codes "/metrics")) (bytes_eq sent.target (codes "/command")) refl
    (host_is site access sent (Command command) h) (passed (not (is_given access.host sent.host)) _ _ (Command command) h).1
