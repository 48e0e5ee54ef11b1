-- What the calls that a host makes of its link do, one after another, and what the items taken in them say.
use Rattle.std.specs.Prelude.{◌≡◌, ℕ, Bool, true, false, List, [], ◌∷◌, ◌++◌, Result, Ok, Err, is_ok, if◌then◌else◌}
use Rattle.rasta_pdu.specs.Items.{IsItem}
use Rattle.sci_telegram.specs.TelegramRead.{reading}
use Rattle.sci_telegram.specs.declared.fault.SciFault.{SciFault}
use Rattle.sci_telegram.specs.declared.message.Message.{Message}
use Rattle.sci_telegram.specs.declared.message.Message.TheVariants.{Initialisation, Point, Signal, Detection}
use Rattle.sci_telegram.specs.declared.telegram.Telegram.{Telegram}
use Rattle.rasta_core.specs.State.{LinkState, is_open}
use Rattle.rasta_core.specs.PdusHandedOut.{Step, silent, then_do}
use Rattle.rasta_core.specs.Calls.{ticking, closing_by, answer_to_send, sending_item, receiving}
use Rattle.object_host.specs.declared.input.Input.{Input}
use Rattle.object_host.specs.declared.input.Input.TheVariants as inputs
use Rattle.object_host.specs.Host.{LinkCall, Ticks, Closes, Sends, Receives, HostSoFar}

-- what a call does at a clock reading
abbrev pub call_made : ℕ → LinkCall → LinkState → Step
call_made now Ticks link = ticking now link
call_made now (Closes why) link = closing_by now why link
call_made now (Sends item) link = sending_item now item link
call_made now (Receives bytes) link = record { link = (receiving now bytes link).link; pdus = (receiving now bytes link).pdus }

-- a list of calls, one after another
unfoldable pub calls_made : ℕ → List LinkCall → LinkState → Step
calls_made now [] link = silent link
calls_made now (first ∷ others) link = then_do (call_made now first link) (calls_made now others)

-- a call that takes nothing from the partner
abbrev pub IsOwn : LinkCall → Type 0
IsOwn (Receives bytes) = ⊥
IsOwn Ticks = Unit {0}
IsOwn (Closes why) = Unit {0}
IsOwn (Sends item) = Unit {0}

abbrev pub AreOwn : List LinkCall → Type 0
AreOwn [] = Unit {0}
AreOwn (first ∷ others) = IsOwn first × AreOwn others

-- a datagram is received first, and all other calls are own ones
abbrev pub AreCallsFor : Input → List LinkCall → Type 0
AreCallsFor inputs.Tick calls = AreOwn calls
AreCallsFor (inputs.Datagram bytes) calls = (others : List LinkCall) × (calls ≡ Receives bytes.now ∷ others) × AreOwn others
AreCallsFor (inputs.Sense sense) calls = AreOwn calls

-- what is sent are items, which a link can carry
abbrev pub AreItems : List LinkCall → Type 0
AreItems [] = Unit {0}
AreItems (Ticks ∷ others) = AreItems others
AreItems (Closes why ∷ others) = AreItems others
AreItems (Sends item ∷ others) = IsItem item × AreItems others
AreItems (Receives bytes ∷ others) = AreItems others

-- the items that calls take
abbrev pub items_taken_by : ℕ → LinkCall → LinkState → List (List ℕ)
items_taken_by now (Receives bytes) link = (receiving now bytes link).items
items_taken_by now _ link = []

unfoldable pub items_taken : ℕ → List LinkCall → LinkState → List (List ℕ)
items_taken now [] link = []
items_taken now (first ∷ others) link = items_taken_by now first link ++ items_taken now others (call_made now first link).link

-- the items that a call gives: one that is sent, where the link accepts it
abbrev pub items_given_by : ℕ → LinkCall → LinkState → List (List ℕ)
items_given_by now (Sends item) link = if is_ok (answer_to_send now link) then item ∷ [] else []
items_given_by now _ link = []

unfoldable pub items_given : ℕ → List LinkCall → LinkState → List (List ℕ)
items_given now [] link = []
items_given now (first ∷ others) link = items_given_by now first link ++ items_given now others (call_made now first link).link

-- a telegram for an object: all but those of the initialisation
abbrev pub is_command : Message → Bool
is_command (Initialisation protocol message) = false
is_command (Point message) = true
is_command (Signal message) = true
is_command (Detection message) = true

-- what an item commands
abbrev pub command_of : Result Telegram SciFault → List Telegram
command_of (Err fault) = []
command_of (Ok telegram) = if is_command telegram.message then telegram ∷ [] else []

-- what items command, in order
unfoldable pub commands_of : List (List ℕ) → List Telegram
commands_of [] = []
commands_of (first ∷ others) = command_of (reading first) ++ commands_of others

-- A step is the calls that it lists, one after another: what they leave of the link, and what they hand out.
pub record IsMadeOf {Object : Type 0} (now : ℕ) (link : LinkState) (part : HostSoFar Object) : Type 0 where
  pub link_is : part.host.link ≡ (calls_made now part.calls link).link
  pub pdus_are : part.pdus ≡ (calls_made now part.calls link).pdus

-- The items that a step acted on are a beginning of those that it took, and all of them where the link stays open;
-- and the object was told what they command, each once and in order.
pub record ActsOn {Object : Type 0} (taken : List (List ℕ)) (part : HostSoFar Object) : Type 0 where
  pub dropped : List (List ℕ)
  pub beginning : taken ≡ part.acted ++ dropped
  pub whole : is_open part.host.link.phase ≡ true → dropped ≡ []
  pub told : part.told ≡ commands_of part.acted
