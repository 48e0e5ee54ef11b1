-- What an end outside does in a call: nothing, but where it enters a connection, and then it sends something.
use Rattle.std.proofs.Common.{◌≡◌, ℕ, Bool, true, false, ◌&&◌, not, nat_le, ◌-◌, List, [], ◌∷◌, ◌++◌, Some, None, Result, Ok, Err, refl, sym, subst, ap, ◌∙◌}
use Rattle.std.specs.Prelude.{if◌then◌else◌, is_ok, nat_eq, ◌==◌}
use Rattle.std.specs.Cmp.Lexicographic.{pointwise}
use Rattle.rasta_core_spec.specs.Parameters.{heartbeat_interval, own_version, window_size}
use Rattle.rasta_core_spec.specs.State.{LinkState, is_open, is_up}
use Rattle.rasta_core_spec.specs.Establishment.{granting, judging, may_open, requesting}
use Rattle.rasta_core_spec.specs.PdusHandedOut.{Step, silent, then_do, entered, sending, telling, beating, giving, closing}
use Rattle.rasta_core_spec.specs.Receipt.{Receipt, hearing}
use Rattle.rasta_core_spec.specs.Calls.{opens, opening, ticking, closing_by, acceptance, answer_to_send, sending_item, hearing_bytes, receiving}
use Rattle.rasta_core_spec.specs.phase.Phase.{Phase}
use Rattle.rasta_core_spec.specs.phase.Phase.TheVariants as phase
use Rattle.rasta_core_spec.specs.reason.Reason.{Reason}
use Rattle.rasta_core_spec.specs.Ends.{EndState, Call, Ticks, Opens, Closes, Sends, Receives, outcome, is_taken, reading_of}
use Rattle.rasta_core_spec.specs.Safe.{DoesNothing}
use Rattle.rasta_core.specs.FirstPdus.{HearsOutside, refuses, grants}
use Rattle.rasta_core.proofs.Outside.{EnteringLaws, IsShut, no_opening, no_taking}
use Rattle.rasta_core.proofs.Receptions.{both_true, taken_is}
use Rattle.rasta_core.proofs.Tests.{by_test}
use Rattle.rasta_core_spec.specs.body.Body.TheVariants.{Heartbeat}
use Rattle.rasta_core_spec.specs.body.Opening.{Opening}
use Rattle.rasta_core_spec.specs.pdu_fault.PduFault.{PduFault}
use Rattle.rasta_core_spec.specs.pdu.Pdu.{Pdu}
use Rattle.rasta_core_spec.specs.PduRead.{reading}

-- ---- nothing

abbrev IsSilent : Step → Type 0
IsSilent step = step.pdus ≡ []

not_up : (at : Phase) → is_open at ≡ false → is_up at ≡ false
not_up phase.Closed e = refl
not_up phase.Start e = absurd (cc e)
not_up phase.Up e = absurd (cc e)
not_up phase.RetransmissionRequested e = absurd (cc e)
not_up phase.RetransmissionRunning e = absurd (cc e)

-- a call after the clock rules
after_clock : EnteringLaws → (now : ℕ) (link : LinkState) (call : LinkState → Step) → IsShut link → IsSilent (call (record link { clock = now }))
    → IsSilent (then_do (entered now link) call)
after_clock laws now link call shut silent_then = subst (λ (step : Step). IsSilent (then_do step call)) (sym (laws.entering now link shut)) silent_then

beats_nothing : (link : LinkState) → IsShut link → IsSilent (beating link)
unfolding beating
beats_nothing link shut = by_test IsSilent (is_up link.phase && nat_le heartbeat_interval (link.clock - link.sent_at)) (sending Heartbeat link) (silent link)
    (λ e. absurd (cc ((both_true (is_up link.phase) (nat_le heartbeat_interval (link.clock - link.sent_at)) e).0, not_up link.phase shut))) (λ e. refl)

accepts_none : (link : LinkState) → IsShut link → is_ok (acceptance link) ≡ false
unfolding acceptance
accepts_none link shut = rw (not_up link.phase shut) refl

gives_nothing : (item : List ℕ) (link : LinkState) → IsShut link → IsSilent (if is_ok (acceptance link) then giving item link else silent link)
gives_nothing item link shut = by_test IsSilent (is_ok (acceptance link)) (giving item link) (silent link) (λ e. absurd (cc (e, accepts_none link shut))) (λ e. refl)

closes_nothing : (why : Reason) (link : LinkState) → IsShut link → IsSilent (if is_open link.phase then closing why link else silent link)
closes_nothing why link shut = by_test IsSilent (is_open link.phase) (closing why link) (silent link) (λ e. absurd (cc (e, shut))) (λ e. refl)

opens_nothing : (link : LinkState) → may_open link ≡ false → IsSilent (if may_open link then requesting link else silent link)
opens_nothing link may = by_test IsSilent (may_open link) (requesting link) (silent link) (λ e. absurd (cc (e, may))) (λ e. refl)

none_accepted : EnteringLaws → (now : ℕ) (item : List ℕ) (link : LinkState) → IsShut link → (if is_ok (answer_to_send now link) then item ∷ [] else []) ≡ []
unfolding answer_to_send
none_accepted laws now item link shut = subst (λ (step : Step). (if is_ok (acceptance step.link) then item ∷ [] else []) ≡ []) (sym (laws.entering now link shut))
    (ap (λ (b : Bool). if b then item ∷ [] else []) (accepts_none (record link { clock = now }) shut))

-- what is refused brings nothing and is answered by nothing
record IsRefused (receipt : Receipt) : Type 0 where
  pub pdus : receipt.pdus ≡ []
  pub items : receipt.items ≡ []

hears_nothing : EnteringLaws → (link : LinkState) (found : Result Pdu PduFault) → IsShut link → is_taken (hearing_bytes found link).verdict ≡ false → IsRefused (hearing_bytes found link)
unfolding hearing_bytes
hears_nothing laws link (Err fault) shut what = record { pdus = refl; items = refl }
hears_nothing laws link (Ok pdu) shut what = choose (laws.hearing pdu link shut) where
  choose : HearsOutside pdu link (hearing pdu link) → IsRefused (hearing pdu link)
  choose (refuses why not_taken same) = subst IsRefused (sym same) (record { pdus = refl; items = refl })
  choose (grants opening server is_request is_down some same) =
      let taken : is_taken (hearing pdu link).verdict ≡ true = ap (λ (r : Receipt). is_taken r.verdict) same
      in cc

pub does_nothing : EnteringLaws → (call : Call) (moment : ℕ) (end : EndState) → IsShut end.link → (outcome call moment end).enters ≡ None → DoesNothing (outcome call moment end)
unfolding outcome ticking opening opens closing_by sending_item receiving
does_nothing laws Ticks moment end shut enters = record {
  pdus = after_clock laws (reading_of end.clock) end.link beating shut (beats_nothing (record end.link { clock = reading_of end.clock }) shut);
  given = refl;
  taken = refl;
}
does_nothing laws Opens moment end shut enters = record {
  pdus = after_clock laws (reading_of end.clock) end.link (λ l. if may_open l then requesting l else silent l) shut
      (opens_nothing (record end.link { clock = reading_of end.clock })
      (subst (λ (step : Step). may_open step.link ≡ false) (laws.entering (reading_of end.clock) end.link shut) (no_opening moment (may_open (entered (reading_of end.clock) end.link).link) enters)));
  given = refl;
  taken = refl;
}
does_nothing laws (Closes why) moment end shut enters = record {
  pdus = after_clock laws (reading_of end.clock) end.link (λ l. if is_open l.phase then closing why l else silent l) shut
      (closes_nothing why (record end.link { clock = reading_of end.clock }) shut);
  given = refl;
  taken = refl;
}
does_nothing laws (Sends item) moment end shut enters = record {
  pdus = after_clock laws (reading_of end.clock) end.link (λ l. if is_ok (acceptance l) then giving item l else silent l) shut
      (gives_nothing item (record end.link { clock = reading_of end.clock }) shut);
  given = none_accepted laws (reading_of end.clock) item end.link shut;
  taken = refl;
}
does_nothing laws (Receives bytes connection) moment end shut enters =
    let refused = hears_nothing laws (entered (reading_of end.clock) end.link).link (reading end.link.identity.key bytes)
    (ap (λ (step : Step). is_open step.link.phase) (laws.entering (reading_of end.clock) end.link shut) ∙ shut) (no_taking connection end.link _ shut enters)
    in record {
      pdus = ap (λ (step : Step). step.pdus ++ (hearing_bytes (reading end.link.identity.key bytes) (entered (reading_of end.clock) end.link).link).pdus) (laws.entering (reading_of end.clock) end.link shut) ∙ refused.pdus;
      given = refl;
      taken = refused.items;
    }

-- ---- something

abbrev pub IsSome : {A : Type 0} → List A → Type 0
IsSome [] = ⊥
IsSome (first ∷ others) = Unit {0}

abbrev Speaks : Step → Type 0
Speaks step = IsSome step.pdus

some_behind : (one other : List Pdu) → IsSome other → IsSome (one ++ other)
some_behind [] other some = some
some_behind (first ∷ others) other some = tt

-- a server that takes a request answers it, or says why it leaves
granting_speaks : (pdu : Pdu) (opening : Opening) (link : LinkState) → Speaks (granting pdu opening link)
unfolding granting judging telling sending
granting_speaks pdu opening link =
    by_test Speaks (pointwise nat_eq opening.version own_version) _ _
    (λ e. by_test Speaks (opening.window == window_size) _ _ (λ f. tt) (λ f. tt))
    (λ e. tt)

requesting_speaks : (link : LinkState) → Speaks (requesting link)
unfolding requesting sending
requesting_speaks link = tt

opening_speaks : (moment number : ℕ) (link : LinkState) → (if may_open link then Some moment else None) ≡ Some number → Speaks (if may_open link then requesting link else silent link)
opening_speaks moment number link enters = by_opening (may_open link) enters where
  by_opening : (may : Bool) → (if may then Some moment else None) ≡ Some number → Speaks (if may then requesting link else silent link)
  by_opening true e = requesting_speaks link
  by_opening false e = absurd (cc e)

entered_at : (inside taken : Bool) (connection number : ℕ) → (if not inside && taken then Some connection else None) ≡ Some number → (inside ≡ false) × (taken ≡ true)
entered_at false true connection number e = (refl, refl)
entered_at false false connection number e = absurd (cc e)
entered_at true taken connection number e = absurd (cc e)

hearing_speaks : EnteringLaws → (link : LinkState) (found : Result Pdu PduFault) → IsShut link → is_taken (hearing_bytes found link).verdict ≡ true → IsSome (hearing_bytes found link).pdus
unfolding hearing_bytes
hearing_speaks laws link (Err fault) shut what = absurd (cc what)
hearing_speaks laws link (Ok pdu) shut what = choose (laws.hearing pdu link shut) where
  choose : HearsOutside pdu link (hearing pdu link) → IsSome (hearing pdu link).pdus
  choose (refuses why not_taken same) = absurd (not_taken (taken_is why (sym (ap (λ (r : Receipt). is_taken r.verdict) same) ∙ what)))
  choose (grants opening server is_request is_down some same) = subst (λ (r : Receipt). IsSome r.pdus) (sym same) (granting_speaks pdu opening link)

pub entering_speaks : EnteringLaws → (call : Call) (moment connection : ℕ) (end : EndState) → (outcome call moment end).enters ≡ Some connection → IsSome (outcome call moment end).pdus
unfolding outcome opening opens receiving
entering_speaks laws Ticks moment connection end enters = absurd (cc enters)
entering_speaks laws Opens moment connection end enters =
    some_behind (entered (reading_of end.clock) end.link).pdus _ (opening_speaks moment connection (entered (reading_of end.clock) end.link).link enters)
entering_speaks laws (Closes why) moment connection end enters = absurd (cc enters)
entering_speaks laws (Sends item) moment connection end enters = absurd (cc enters)
entering_speaks laws (Receives bytes number) moment connection end enters =
    let how = entered_at (is_open end.link.phase) (is_taken (hearing_bytes (reading end.link.identity.key bytes) (entered (reading_of end.clock) end.link).link).verdict) number connection enters
    in some_behind (entered (reading_of end.clock) end.link).pdus _
    (hearing_speaks laws (entered (reading_of end.clock) end.link).link (reading end.link.identity.key bytes)
    (ap (λ (step : Step). is_open step.link.phase) (laws.entering (reading_of end.clock) end.link how.0) ∙ how.0) how.1)
