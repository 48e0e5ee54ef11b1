-- An end outside a connection stays outside, but where it enters one.
use Rattle.std.proofs.Common.{◌≡◌, ℕ, Bool, true, false, ◌&&◌, not, nat_le, ◌-◌, List, Some, None, Result, Ok, Err, refl, sym, subst, ap, ◌∙◌}
use Rattle.std.specs.Prelude.{if◌then◌else◌, is_ok}
use Rattle.rasta_core_spec.specs.Parameters.{connection_limit, heartbeat_interval}
use Rattle.rasta_core_spec.specs.Clock.{deadline, settled, state_at}
use Rattle.rasta_core_spec.specs.State.{LinkState, is_client, is_open, is_up}
use Rattle.rasta_core_spec.specs.Establishment.{is_down, may_open, requesting}
use Rattle.rasta_core_spec.specs.PdusHandedOut.{Step, silent, then_do, entered, limited, sending, telling, beating, giving, closing}
use Rattle.rasta_core_spec.specs.Receipt.{Receipt, hearing}
use Rattle.rasta_core_spec.specs.Calls.{opens, opening, ticking, closing_by, acceptance, sending_item, hearing_bytes, receiving}
use Rattle.rasta_core_spec.specs.identity.Identity.{Identity}
use Rattle.rasta_core_spec.specs.identity.Role.{Role}
use Rattle.rasta_core_spec.specs.identity.Role.TheVariants as role
use Rattle.rasta_core_spec.specs.reason.Reason.{Reason}
use Rattle.rasta_core_spec.specs.reason.Reason.TheVariants as reason
use Rattle.rasta_core_spec.specs.verdict.Verdict.{Verdict}
use Rattle.rasta_core_spec.specs.Ends.{EndState, Call, Ticks, Opens, Closes, Sends, Receives, outcome, entered_by, is_taken, reading_of}
use Rattle.rasta_core.specs.FirstPdus.{HearsOutside, refuses, grants}
use Rattle.rasta_core.proofs.Tests.{by_test}
use Rattle.rasta_core_spec.specs.body.Body.TheVariants.{Heartbeat}
use Rattle.rasta_core_spec.specs.pdu_fault.PduFault.{PduFault}
use Rattle.rasta_core_spec.specs.pdu.Pdu.{Pdu}
use Rattle.rasta_core_spec.specs.PduRead.{reading}

abbrev pub IsShut : LinkState → Type 0
IsShut link = is_open link.phase ≡ false

-- the laws of how a connection begins
pub record EnteringLaws : Type 0 where
  pub entering : (now : ℕ) (link : LinkState) → IsShut link → entered now link ≡ silent (record link { clock = now })
  pub hearing : (pdu : Pdu) (link : LinkState) → IsShut link → HearsOutside pdu link (hearing pdu link)

-- what a call does after the clock rules
after_clock : EnteringLaws → (now : ℕ) (link : LinkState) (call : LinkState → Step) → IsShut link → IsShut (call (record link { clock = now })).link
    → IsShut (then_do (entered now link) call).link
after_clock laws now link call shut stays = subst (λ (step : Step). IsShut (then_do step call).link) (sym (laws.entering now link shut)) stays

beating_stays : (link : LinkState) → IsShut link → IsShut (beating link).link
unfolding beating sending
beating_stays link shut = by_test (λ (step : Step). IsShut step.link) (is_up link.phase && nat_le heartbeat_interval (link.clock - link.sent_at)) (sending Heartbeat link) (silent link) (λ e. shut) (λ e. shut)

giving_stays : (item : List ℕ) (link : LinkState) → IsShut link → IsShut (if is_ok (acceptance link) then giving item link else silent link).link
unfolding giving sending
giving_stays item link shut = by_test (λ (step : Step). IsShut step.link) (is_ok (acceptance link)) (giving item link) (silent link) (λ e. shut) (λ e. shut)

closing_stays : (why : Reason) (link : LinkState) → IsShut link → IsShut (if is_open link.phase then closing why link else silent link).link
closing_stays why link shut = by_test (λ (step : Step). IsShut step.link) (is_open link.phase) (closing why link) (silent link) (λ e. cc) (λ e. shut)

opening_stays : (link : LinkState) → IsShut link → may_open link ≡ false → IsShut (if may_open link then requesting link else silent link).link
opening_stays link shut may = by_test (λ (step : Step). IsShut step.link) (may_open link) (requesting link) (silent link) (λ e. cc) (λ e. shut)

-- it opens only where it enters
pub no_opening : (moment : ℕ) (test : Bool) → (if test then Some moment else None) ≡ None → test ≡ false
no_opening moment true enters = cc
no_opening moment false enters = refl

pub no_taking : (connection : ℕ) (link : LinkState) (what : Verdict) → IsShut link → entered_by link what connection ≡ None → is_taken what ≡ false
no_taking connection link what shut enters = by_taking (is_taken what) refl where
  entry : (inside taken : Bool) → inside ≡ false → taken ≡ true → (if not inside && taken then Some connection else None) ≡ Some connection
  entry true taken o t = cc
  entry false true o t = refl
  entry false false o t = cc

  by_taking : (taken : Bool) → is_taken what ≡ taken → taken ≡ false
  by_taking false e = refl
  by_taking true e = let opened = entry (is_open link.phase) (is_taken what) shut e in cc

-- what it hears leaves it where it is, unless it takes it
hearing_stays : EnteringLaws → (link : LinkState) (found : Result Pdu PduFault) → IsShut link → is_taken (hearing_bytes found link).verdict ≡ false → IsShut (hearing_bytes found link).link
unfolding hearing_bytes
hearing_stays laws link (Err fault) shut what = shut
hearing_stays laws link (Ok pdu) shut what = choose (laws.hearing pdu link shut) where
  choose : HearsOutside pdu link (hearing pdu link) → IsShut (hearing pdu link).link
  choose (refuses why not_taken same) = ap (λ (r : Receipt). is_open r.link.phase) same ∙ shut
  choose (grants opening server is_request is_down some same) =
      let taken : is_taken (hearing pdu link).verdict ≡ true = ap (λ (r : Receipt). is_taken r.verdict) same
      in cc

pub stays_outside : EnteringLaws → (call : Call) (moment : ℕ) (end : EndState) → IsShut end.link → (outcome call moment end).enters ≡ None → IsShut (outcome call moment end).link
unfolding outcome ticking opening opens closing_by sending_item receiving
stays_outside laws Ticks moment end shut enters =
    after_clock laws (reading_of end.clock) end.link beating shut (beating_stays (record end.link { clock = reading_of end.clock }) shut)
stays_outside laws Opens moment end shut enters =
    after_clock laws (reading_of end.clock) end.link (λ l. if may_open l then requesting l else silent l) shut
    (opening_stays (record end.link { clock = reading_of end.clock }) shut
    (subst (λ (step : Step). may_open step.link ≡ false) (laws.entering (reading_of end.clock) end.link shut) (no_opening moment (may_open (entered (reading_of end.clock) end.link).link) enters)))
stays_outside laws (Closes why) moment end shut enters =
    after_clock laws (reading_of end.clock) end.link (λ l. if is_open l.phase then closing why l else silent l) shut
    (closing_stays why (record end.link { clock = reading_of end.clock }) shut)
stays_outside laws (Sends item) moment end shut enters =
    after_clock laws (reading_of end.clock) end.link (λ l. if is_ok (acceptance l) then giving item l else silent l) shut
    (giving_stays item (record end.link { clock = reading_of end.clock }) shut)
stays_outside laws (Receives bytes connection) moment end shut enters =
    hearing_stays laws (entered (reading_of end.clock) end.link).link (reading end.link.identity.key bytes)
    (ap (λ (step : Step). is_open step.link.phase) (laws.entering (reading_of end.clock) end.link shut) ∙ shut)
    (no_taking connection end.link _ shut enters)

-- ---- a server enters only from outside

-- the clock rules and the limit leave an end its identity
settled_identity : (now : ℕ) (link : LinkState) → (settled now link).identity ≡ link.identity
unfolding settled
settled_identity now link = by_test (λ (l : LinkState). l.identity ≡ link.identity) (is_open link.phase && nat_le (deadline link) now) _ (record link { clock = now }) (λ e. refl) (λ e. refl)

limited_identity : (link : LinkState) → (limited link).link.identity ≡ link.identity
unfolding limited telling sending
limited_identity link = by_test (λ (step : Step). step.link.identity ≡ link.identity) (is_open link.phase && nat_le connection_limit link.sent) (telling reason.Sequence link) (silent link) (λ e. refl) (λ e. refl)

pub entered_identity : (now : ℕ) (link : LinkState) → (entered now link).link.identity ≡ link.identity
unfolding entered
entered_identity now link = limited_identity (settled now link) ∙ settled_identity now link

-- a server opens no connection
server_opens : (now : ℕ) (link : LinkState) → link.identity.role ≡ role.Server → opens now link ≡ false
unfolding opens
server_opens now link server =
    let is_server : (entered now link).link.identity.role ≡ role.Server = ap (λ (i : Identity). i.role) (entered_identity now link) ∙ server
    in ap (λ (r : Role). is_client r && is_down (state_at (entered now link).link.clock (entered now link).link)) is_server

none_or_some : (connection : ℕ) → None ≡ Some connection → ⊥
none_or_some connection same = cc

opened : (moment connection : ℕ) (test : Bool) → test ≡ false → (if test then Some moment else None) ≡ Some connection → ⊥
opened moment connection true shut enters = cc
opened moment connection false shut enters = cc

entered_outside : (number connection : ℕ) (inside taken : Bool) → (if not inside && taken then Some number else None) ≡ Some connection → inside ≡ false
entered_outside number connection true taken enters = cc
entered_outside number connection false taken enters = refl

pub enters_from_outside : (call : Call) (moment connection : ℕ) (end : EndState) → end.link.identity.role ≡ role.Server → (outcome call moment end).enters ≡ Some connection → IsShut end.link
unfolding outcome
enters_from_outside Ticks moment connection end server enters = absurd (none_or_some connection enters)
enters_from_outside Opens moment connection end server enters =
    absurd (opened moment connection (opens (reading_of end.clock) end.link) (server_opens (reading_of end.clock) end.link server) enters)
enters_from_outside (Closes why) moment connection end server enters = absurd (none_or_some connection enters)
enters_from_outside (Sends item) moment connection end server enters = absurd (none_or_some connection enters)
enters_from_outside (Receives bytes number) moment connection end server enters =
    entered_outside number connection (is_open end.link.phase) _ enters
