-- What a step has done so far at one client. Each part of a step leads from one to the next.
use Rattle.std.specs.Prelude.{◌≡◌, ℕ, List, [], ◌∷◌, ◌++◌}
use Rattle.rasta_core.specs.Calls.{opening, ticking, closing_by, sending_item, receiving}
use Rattle.rasta_core.specs.Ends as ends
use Rattle.rasta_core.specs.Ends.{Call}
use Rattle.rasta_core.specs.Outbox.{OutboxState, posted}
use Rattle.rasta_core.specs.PdusHandedOut.{Step}
use Rattle.rasta_core.specs.State.{LinkState}
use Rattle.rasta_core.specs.reason.Reason.{Reason}
use Rattle.ixl_client.specs.Client.{ClientState}
use Rattle.ixl_client.specs.declared.indication.Indication.{Indication}

-- a call that a client makes of its link
pub data LinkCall : Type 0 where
  Opens : LinkCall
  Ticks : LinkCall
  Closes : Reason → LinkCall
  Sends : List ℕ → LinkCall
  Receives : List ℕ → LinkCall

-- as a call of an end; what is received was sent in this connection
abbrev pub as_call : ℕ → LinkCall → Call
as_call connection Opens = ends.Opens
as_call connection Ticks = ends.Ticks
as_call connection (Closes why) = ends.Closes why
as_call connection (Sends item) = ends.Sends item
as_call connection (Receives bytes) = ends.Receives bytes connection

-- what a call does at a clock reading
abbrev pub call_made : ℕ → LinkCall → LinkState → Step
call_made now Opens link = opening now link
call_made now Ticks link = ticking now link
call_made now (Closes why) link = closing_by now why link
call_made now (Sends item) link = sending_item now item link
call_made now (Receives bytes) link = record { link = (receiving now bytes link).link; pdus = (receiving now bytes link).pdus }

pub record ClientSoFar : Type 0 where
  pub client : ClientState
  -- the datagrams handed out
  pub outbox : OutboxState
  -- what the controller was heard to tell of its objects, oldest first
  pub heard : List Indication
  -- the calls made of the link, and the items taken that were acted on
  pub calls : List LinkCall
  pub acted : List (List ℕ)

-- a step that has done nothing yet
abbrev pub begun : ClientState → OutboxState → ClientSoFar
begun client outbox = record { client = client; outbox = outbox; heard = []; calls = []; acted = [] }

-- a call of the link
unfoldable pub calling : ℕ → LinkCall → ClientSoFar → ClientSoFar
calling now call part =
    let made = call_made now call part.client.link
    in record part {
      client = record part.client { link = made.link };
      outbox = posted part.client.link.identity.key made.pdus part.outbox;
      calls = part.calls ++ call ∷ [];
    }

-- what is seen of it from outside
pub record Seen : Type 0 where
  pub client : ClientState
  pub outbox : OutboxState
  pub heard : List Indication

abbrev pub seen : ClientSoFar → Seen
seen part = record { client = part.client; outbox = part.outbox; heard = part.heard }

-- A part of a step leads from what is seen before it to what is seen after it, whatever was called and acted on before.
abbrev pub Leads : (ClientSoFar → ClientSoFar) → Seen → Seen → Type 0
Leads does before after = (part : ClientSoFar) → seen part ≡ before → seen (does part) ≡ after
