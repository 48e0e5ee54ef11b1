-- Calls as the code has them, and what one does.
use Rattle.std.specs.Prelude.{◌≡◌, ℕ, ◌<◌, ◌≤◌, ◌^◌, List, [], length, Result, Ok}
use Rattle.arrayvec.specs.ArrayVec.{array_vec_len}
use Rattle.rasta_core.specs.Ends as spec
use Rattle.rasta_core.specs.Ends.{EndState, Outcome, end_after, outcome, reading_of}
use Rattle.rasta_core.specs.Calls.{IsAt, answer_to_send}
use Rattle.rasta_core.specs.Outbox.{HasRoomFor, OutboxState, posted}
use Rattle.rasta_core.specs.State.{LinkState}
use Rattle.rasta_core.specs.fault.SendFault.{SendFault}
use Rattle.rasta_pdu.specs.declared.pdu.Pdu.{Pdu}
use Rattle.simulator_pair.specs.inside.Seen.{HasLists, IsAtClock, KeepsLists, seen_end}
use Rattle.simulator_pair.specs.declared.node.Call.{Call}
use Rattle.simulator_pair.specs.declared.node.Call.TheVariants as calls
use Rattle.simulator_pair.specs.declared.node.Made.{Made}
use Rattle.simulator_pair.specs.declared.node.Node.{Node}

-- a call as the definitions have it
abbrev pub meant : Call → spec.Call
meant calls.Ticks = spec.Ticks
meant calls.Opens = spec.Opens
meant (calls.Closes why) = spec.Closes why
meant (calls.Sends item) = spec.Sends item.now
meant (calls.Receives bytes connection) = spec.Receives bytes.now.items connection

-- the answer of a call: that of `send`, and otherwise none
abbrev pub answer_of : spec.Call → EndState → Result Unit SendFault
answer_of (spec.Sends item) end = answer_to_send (reading_of end.clock) end.link
answer_of _ end = Ok tt

-- A link has made a step at a reading of its clock: it is this one now, and these PDUs were handed out.
pub record HasStepped (now : ℕ) (next : LinkState) (pdus : List Pdu) (old new : LinkState) (old_box new_box : OutboxState) : Type 0 where
  pub link : new ≡ next
  pub posted : new_box ≡ posted old.identity.key pdus old_box
  pub few : length pdus ≤ 24
  pub kept : IsAt now old new

-- An end can be called: its link is at its clock, nothing waits to be sent or noted, and there is room for what comes.
pub record IsReady (moment : ℕ) (node : Node) (outbox : OutboxState) (inbox : List (List ℕ)) : Type 0 where
  pub clock : IsAtClock node
  pub nothing_out : outbox.datagrams ≡ []
  pub room : HasRoomFor 24 outbox
  pub nothing_in : inbox ≡ []
  pub fits : moment < 2 ^ 63
  pub lists : HasLists 3 node

-- What an outcome hands out is in the boxes: PDUs to be sent, and items that were taken.
pub record IsHandedOut (made : Outcome) (end : EndState) (old_box new_box : OutboxState) (inbox : List (List ℕ)) : Type 0 where
  pub posted : new_box ≡ posted end.link.identity.key made.pdus old_box
  pub taken : inbox ≡ made.taken
  pub few : length made.pdus ≤ 24

-- what the link's part of a call made beside: the connection entered, the item accepted, and the answer
pub record IsMade (call : spec.Call) (made : Outcome) (end : EndState) (result : Made) : Type 0 where
  pub enters : result.enters ≡ made.enters
  pub given : result.given.items ≡ made.given
  pub one : array_vec_len result.given ≤ 1
  pub answer : result.answer ≡ answer_of call end

-- A call was performed at an end: the end is as after its outcome, which is handed out, and it was answered.
pub record Performs (call : spec.Call) (moment : ℕ) (old new : Node) (old_box new_box : OutboxState) (inbox : List (List ℕ)) (reply : Result Unit SendFault) : Type 0 where
  pub end : seen_end new ≡ end_after (outcome call moment (seen_end old)) moment (seen_end old)
  pub handed : IsHandedOut (outcome call moment (seen_end old)) (seen_end old) old_box new_box inbox
  pub answer : reply ≡ answer_of call (seen_end old)
  pub clock : IsAtClock new
  pub same_clock : new.clock ≡ old.clock
  pub lists : KeepsLists 3 old new
