-- A step of a node: calls at the end of one of its links, or at the ends of several, one after another and at one clock.
use Rattle.std.specs.Prelude.{◌≡◌, ℕ, ◌&&◌, not, Bool, false, List, [], ◌∷◌, ◌++◌, map, is_ok, if◌then◌else◌}
use Rattle.rasta_core_link.specs.State.{LinkState, is_open}
use Rattle.rasta_core_link.specs.Calls.{opens, opening, ticking, closing_by, answer_to_send, sending_item, receiving}
use Rattle.rasta_core_link.specs.declared.identity.Role.{Role}
use Rattle.rasta_pdu.specs.declared.pdu.Pdu.{Pdu}
use Rattle.rasta_core_spec.specs.Ends.{EndState, Call, Ticks, Opens, Closes, Sends, Receives, is_taken, reading_of}
use Rattle.rasta_core_spec.specs.Events.{Event, Calls}

-- what calls do to a link at a clock reading, whatever else was sent: the link after them, the PDUs handed out, and the
-- items accepted and handed out
pub record Made : Type 0 where
  pub link : LinkState
  pub pdus : List Pdu
  pub given : List (List ℕ)
  pub taken : List (List ℕ)

unfoldable pub made_by : ℕ → Call → LinkState → Made
made_by now Ticks link = record { link = (ticking now link).link; pdus = (ticking now link).pdus; given = []; taken = [] }
made_by now Opens link = record { link = (opening now link).link; pdus = (opening now link).pdus; given = []; taken = [] }
made_by now (Closes why) link = record { link = (closing_by now why link).link; pdus = (closing_by now why link).pdus; given = []; taken = [] }
made_by now (Sends item) link = record {
  link = (sending_item now item link).link;
  pdus = (sending_item now item link).pdus;
  given = if is_ok (answer_to_send now link) then item ∷ [] else [];
  taken = [];
}
made_by now (Receives bytes connection) link = record {
  link = (receiving now bytes link).link;
  pdus = (receiving now bytes link).pdus;
  given = [];
  taken = (receiving now bytes link).items;
}

-- one call after another
unfoldable pub all_made : ℕ → List Call → LinkState → Made
all_made now [] link = record { link = link; pdus = []; given = []; taken = [] }
all_made now (first ∷ others) link =
    let one = made_by now first link
    in let rest = all_made now others one.link
    in record { link = rest.link; pdus = one.pdus ++ rest.pdus; given = one.given ++ rest.given; taken = one.taken ++ rest.taken }

-- whether the end enters a connection in a call
unfoldable pub enters_by : ℕ → Call → LinkState → Bool
enters_by now Opens link = opens now link
enters_by now (Receives bytes connection) link = not (is_open link.phase) && is_taken (receiving now bytes link).verdict
enters_by now _ link = false

-- none of these calls enters one
unfoldable pub EnterNone : ℕ → List Call → LinkState → Type 0
EnterNone now [] link = Unit {0}
EnterNone now (first ∷ others) link = (enters_by now first link ≡ false) × EnterNone now others (made_by now first link).link

-- calls at one end as events of two ends
abbrev pub calls_at : Role → List Call → List Event
calls_at who calls = map (λ call. Calls who call) calls

-- An end after calls at its clock: its link is what they make of it, and its clock is as it was.
pub record IsAfter (calls : List Call) (old new : EndState) : Type 0 where
  pub link : new.link ≡ (all_made (reading_of old.clock) calls old.link).link
  pub clock : new.clock ≡ old.clock

-- Where none of them enters a connection the end stays in its last one, and has given and taken there what they give and
-- take.
pub record StaysIn (calls : List Call) (old new : EndState) : Type 0 where
  pub connection : new.connection ≡ old.connection
  pub given : new.given ≡ old.given ++ (all_made (reading_of old.clock) calls old.link).given
  pub taken : new.taken ≡ old.taken ++ (all_made (reading_of old.clock) calls old.link).taken
