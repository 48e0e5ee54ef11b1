-- An end and its partner talk: the link, the greeting, and what is told by telegrams.
use Rattle.std.specs.Prelude.{◌≡◌, ℕ, ◌+◌, ◌≤◌, Bool, true, false, ◌&&◌, if◌then◌else◌, List, [], ◌∷◌, ◌++◌, length, Option, Some, None, is_ok}
use Rattle.rasta_core.specs.State.{LinkState, is_open, is_up}
use Rattle.rasta_core.specs.Calls.{opening, ticking, closing_by, answer_to_send, sending_item, receiving}
use Rattle.rasta_core.specs.Outbox.{OutboxState, posted}
use Rattle.rasta_core.specs.PdusHandedOut.{Step}
use Rattle.rasta_core.specs.reason.Reason.{Reason}
use Rattle.rasta_core.specs.reason.Reason.TheVariants as reason
use Rattle.line_laws.specs.declared.words.Item.{Item}
use Rattle.line_telegram.specs.LineMessages.{reading, writing}
use Rattle.line_telegram.specs.Greetings.{GreetingState, greeted, hearing}
use Rattle.line_telegram.specs.declared.message.LineMessage.{LineMessage}
use Rattle.line_telegram.specs.declared.message.LineMessage.TheVariants.{Line}
use Rattle.line_telegram.specs.declared.greeting.Stage.{Stage}
use Rattle.line_telegram.specs.declared.greeting.Stage.TheVariants as stage
use Rattle.line_telegram.specs.declared.greeting.Heard.{Heard}
use Rattle.line_telegram.specs.declared.greeting.Heard.TheVariants as outcome

pub record TalkState : Type 0 where
  pub link : LinkState
  pub greeting : GreetingState
  -- the names of the two ends in their telegrams
  pub own_name : List ℕ
  pub peer_name : List ℕ
  -- the datagrams of the step
  pub outbox : OutboxState

abbrev pub is_agreed : Stage → Bool
is_agreed stage.Outside = false
is_agreed stage.AwaitsCheck = false
is_agreed stage.AwaitsAnswer = false
is_agreed stage.Agreed = true
is_agreed stage.Differs = false

-- the link is up, and both ends have one version: what is told is for the end of the line
abbrev pub is_joined : TalkState → Bool
is_joined talk = is_up talk.link.phase && is_agreed talk.greeting.stage

-- ---- what is told

-- a call of the link
abbrev pub called : Step → TalkState → TalkState
called made talk = record talk { link = made.link; outbox = posted talk.link.identity.key made.pdus talk.outbox }

unfoldable pub closing : ℕ → Reason → TalkState → TalkState
closing now why talk = called (closing_by now why talk.link) talk

unfoldable pub sending : ℕ → LineMessage → TalkState → TalkState
sending now message talk = called (sending_item now (writing talk.own_name talk.peer_name message) talk.link) talk

-- where the link refuses it, the link closes
unfoldable pub saying : ℕ → LineMessage → TalkState → TalkState
saying now message talk =
    if is_ok (answer_to_send now talk.link) then sending now message talk else closing now reason.Window (sending now message talk)

abbrev pub said : ℕ → Option LineMessage → TalkState → TalkState
said now None talk = talk
said now (Some message) talk = saying now message talk

-- the items of the end, up to one that the link refuses
unfoldable pub giving_all : ℕ → List Item → TalkState → TalkState
giving_all now [] talk = talk
giving_all now (item ∷ others) talk = if is_up talk.link.phase then giving_all now others (saying now (Line item) talk) else talk

-- the link is up or isn't: where it came up, the first end tells its version
unfoldable pub meeting : ℕ → TalkState → TalkState
meeting now talk =
    let greeting = greeted (is_up talk.link.phase) talk.greeting in said now greeting.says (record talk { greeting = greeting.state })

-- ---- what is heard

-- and what it tells the end of the line
pub record TalkHeard : Type 0 where
  pub talk : TalkState
  pub item : Option Item

abbrev pub unheard : TalkState → TalkHeard
unheard talk = record { talk = talk; item = None }

unfoldable pub following : ℕ → Heard → TalkState → TalkHeard
following now (outcome.Taken item) talk = record { talk = talk; item = Some item }
following now (outcome.Answered message) talk = unheard (saying now message talk)
following now outcome.Matched talk = unheard talk
following now outcome.Differed talk = unheard (closing now reason.Version talk)
following now outcome.Violated talk = unheard (closing now reason.State talk)

-- what is no telegram of the partner closes the link
unfoldable pub understood : ℕ → Option LineMessage → TalkState → TalkHeard
understood now None talk = unheard (closing now reason.State talk)
understood now (Some message) talk =
    let heard = hearing message talk.greeting in following now heard.heard (record talk { greeting = heard.state })

unfoldable pub acting : ℕ → List ℕ → TalkState → TalkHeard
acting now item talk = understood now (reading talk.peer_name talk.own_name item) talk

pub record TalkSoFar : Type 0 where
  pub talk : TalkState
  -- what was told to the end of the line, oldest first
  pub taken : List Item

abbrev pub with_item : Option Item → List Item → List Item
with_item None taken = taken
with_item (Some item) taken = taken ++ item ∷ []

-- the items of a datagram, one after another; those after one that closed the link are dropped
unfoldable pub acting_all : ℕ → List (List ℕ) → TalkSoFar → TalkSoFar
acting_all now [] so_far = so_far
acting_all now (item ∷ others) so_far =
    if is_open so_far.talk.link.phase
    then (let heard = acting now item so_far.talk in acting_all now others (record { talk = heard.talk; taken = with_item heard.item so_far.taken }))
    else so_far

-- a datagram has come
unfoldable pub receives : ℕ → List ℕ → TalkState → TalkState
receives now bytes talk =
    let receipt = receiving now bytes talk.link
    in record talk { link = receipt.link; outbox = posted talk.link.identity.key receipt.pdus talk.outbox }

unfoldable pub hearing_datagram : ℕ → List ℕ → TalkState → TalkSoFar
hearing_datagram now bytes talk =
    acting_all now (receiving now bytes talk.link).items (record { talk = meeting now (receives now bytes talk); taken = [] })

-- a tick: the heartbeat that is due, and the first end opens a link that is down
unfoldable pub beating : ℕ → TalkState → TalkState
beating now talk = called (ticking now talk.link) talk

unfoldable pub opened : ℕ → TalkState → TalkState
opened now talk = called (opening now talk.link) talk

-- ---- what stays

-- the clock is this, and at most so many datagrams were handed out
pub record Stays (now most : ℕ) (old new : TalkState) : Type 0 where
  pub clock : new.link.clock ≡ now
  pub capacity : new.outbox.capacity ≡ old.outbox.capacity
  pub few : length new.outbox.datagrams ≤ length old.outbox.datagrams + most
