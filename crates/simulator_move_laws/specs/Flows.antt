-- What was given and taken in the client's last connection.
use Rattle.rasta_pdu.specs.declared.pdu.Pdu.{Pdu}
use Rattle.rasta_core.specs.Sentences.{IsRequest}
use Rattle.rasta_core.specs.Each.{Each}
use Rattle.rasta_core.specs.Outbox.{spellings}
use Rattle.std.specs.Prelude.{◌≡◌, ◌≢◌, ◌⊎◌, ◌≤◌, ℕ, nat_lt, ◌||◌, Bool, true, false, List, [], ◌∷◌, ◌++◌, length, Some, is_ok, if◌then◌else◌, ◌+◌, ◌&&◌, not, is_some, Option}
use Rattle.rasta_core.specs.Calls.{answer_to_send, opens, receiving}
use Rattle.rasta_core.specs.Clock.{deadline, state_at}
use Rattle.rasta_core.specs.Ends.{Call, EndState, Opens, Receives, Sends, reading_of, handed_out, kept, newer}
use Rattle.rasta_core.specs.Events.{Calls, Event}
use Rattle.rasta_core.specs.Run.{Ends}
use Rattle.rasta_core.specs.State.{LinkState, confirmed_items, is_open, is_up}
use Rattle.rasta_core.specs.Steps.{made_by, all_made}
use Rattle.rasta_core.specs.identity.Role.{Role}
use Rattle.rasta_core.specs.identity.Role.TheVariants as role
use Rattle.rasta_core.specs.phase.State.TheVariants as state
use Rattle.simulator_machine.specs.Link.{Down, Server, Before, In, Gone}
use Rattle.simulator_move_laws.specs.EndsSeen.{client_of, server_of}

-- a server that hasn't entered it has given and taken nothing there
abbrev pub of_server : Server → List (List ℕ) → List (List ℕ)
of_server Before items = []
of_server In items = items
of_server Gone items = items

-- what the client's `send` accepted, and what the server handed out of it
abbrev pub commands_given : Ends → List (List ℕ)
commands_given ends = ends.client.given

abbrev pub commands_taken : Ends → List (List ℕ)
commands_taken ends = of_server (server_of ends) ends.server.taken

-- what the server's `send` accepted, and what the client handed out of it
abbrev pub reports_given : Ends → List (List ℕ)
reports_given ends = of_server (server_of ends) ends.server.given

abbrev pub reports_taken : Ends → List (List ℕ)
reports_taken ends = ends.client.taken

-- one list is a beginning of another
pub record IsBeginning (taken given : List (List ℕ)) : Type 0 where
  pub rest : List (List ℕ)
  pub same : given ≡ taken ++ rest

-- In both directions what was taken is a beginning of what was given, and a client inside holds no more for confirmed than
-- its server took.
pub record FlowsInOrder (ends : Ends) : Type 0 where
  pub commands : IsBeginning (commands_taken ends) (commands_given ends)
  pub reports : IsBeginning (reports_taken ends) (reports_given ends)
  pub confirmed : is_open ends.client.link.phase ≡ true → confirmed_items ends.client.link ≤ length (commands_taken ends)

-- the link of an end inside counts what it gave and took
pub record Counts (end : EndState) : Type 0 where
  pub given : is_open end.link.phase ≡ true → end.link.given ≡ length end.given
  pub taken : is_open end.link.phase ≡ true → end.link.taken ≡ length end.taken

-- both ends are in the same connection
pub record AreInOne (ends : Ends) : Type 0 where
  pub connection : ℕ
  pub client : ends.client.connection ≡ Some connection
  pub server : ends.server.connection ≡ Some connection

-- whether a call begins a connection, and whether one of a list does
abbrev pub begins : ℕ → Call → LinkState → Bool
begins now Opens link = opens now link
begins now _ link = false

unfoldable pub has_begun : ℕ → List Call → LinkState → Bool
has_begun now [] link = false
has_begun now (first ∷ others) link = begins now first link || has_begun now others (made_by now first link).link

-- what a client gave in its last connection after a call, and what it took there; a new connection has none yet
abbrev pub given_by : ℕ → Call → LinkState → List (List ℕ) → List (List ℕ)
given_by now Opens link given = if opens now link then [] else given
given_by now (Sends item) link given = if is_ok (answer_to_send now link) then given ++ item ∷ [] else given
given_by now _ link given = given

abbrev pub taken_by : ℕ → Call → LinkState → List (List ℕ) → List (List ℕ)
taken_by now Opens link taken = if opens now link then [] else taken
taken_by now (Receives bytes connection) link taken = taken ++ (receiving now bytes link).items
taken_by now _ link taken = taken

-- after a list of calls, one after another
unfoldable pub given_after : ℕ → List Call → LinkState → List (List ℕ) → List (List ℕ)
given_after now [] link given = given
given_after now (first ∷ others) link given = given_after now others (made_by now first link).link (given_by now first link given)

unfoldable pub taken_after : ℕ → List Call → LinkState → List (List ℕ) → List (List ℕ)
taken_after now [] link taken = taken
taken_after now (first ∷ others) link taken = taken_after now others (made_by now first link).link (taken_by now first link taken)

-- A client after calls at its clock: what it gave and took; its server, which is before the connection where they began
-- one, and as it was otherwise; and it is inside only where it was, or where they began one.
pub record ClientIsAfter (calls : List Call) (old new : Ends) : Type 0 where
  pub given : new.client.given ≡ given_after (reading_of old.client.clock) calls old.client.link old.client.given
  pub taken : new.client.taken ≡ taken_after (reading_of old.client.clock) calls old.client.link old.client.taken
  pub server : server_of new ≡ (if has_begun (reading_of old.client.clock) calls old.client.link then Before else server_of old)
  pub inside : is_open new.client.link.phase ≡ true → (is_open old.client.link.phase ≡ true) ⊎ (has_begun (reading_of old.client.clock) calls old.client.link ≡ true)

-- What a client knows in a step, at its link after some calls and with what it gave and took by then; the server is as it
-- was before them.
pub record ClientKnows (ends : Ends) (link : LinkState) (given taken : List (List ℕ)) : Type 0 where
  -- a client that is up was answered: its server has entered the connection
  pub up : is_up link.phase ≡ true → server_of ends ≢ Before
  -- when its quiet time is over no server is in the connection
  pub quiet : state_at (reading_of ends.client.clock) link ≡ state.Down → server_of ends ≢ In
  -- inside, it was inside before them
  pub inside : is_open link.phase ≡ true → is_open ends.client.link.phase ≡ true
  -- inside it is before its deadline
  pub alive : is_open link.phase ≡ true → nat_lt (reading_of ends.client.clock) (deadline link) ≡ true
  -- its link counts what it gave
  pub counted : is_open link.phase ≡ true → link.given ≡ length given
  -- the server took what the link holds for confirmed
  pub confirmed : is_open link.phase ≡ true → confirmed_items link ≤ length (commands_taken ends)
  -- what it took is a beginning of what the server gave
  pub reports : IsBeginning taken (reports_given ends)

-- A server that enters this connection: it is the client's last one, which the server hadn't entered, and the client isn't
-- down.
pub record EntersRightly (entered : ℕ) (ends : Ends) : Type 0 where
  pub before : server_of ends ≡ Before
  pub connection : ends.client.connection ≡ Some entered
  pub begun : client_of ends.client ≢ Down

-- an end keeps its last connection, and what it gave and took there
pub record KeepsLists (old new : EndState) : Type 0 where
  pub connection : new.connection ≡ old.connection
  pub given : new.given ≡ old.given
  pub taken : new.taken ≡ old.taken

-- an event that isn't a call of this end
abbrev pub LeavesUncalled : Role → Event → Type 0
LeavesUncalled role.Client (Calls role.Client call) = ⊥
LeavesUncalled role.Server (Calls role.Server call) = ⊥
LeavesUncalled _ _ = Unit {0}

-- A server after calls at its clock, of which the first at most enters a connection, and what was sent on the link: what
-- the calls hand out, in the connection that the server is in then. It has left its connection where it was in one, or
-- entered one, and is in none then: nothing is sent after that.
pub record ServerIsAfter (calls : List Call) (entered : Option ℕ) (old new : Ends) : Type 0 where
  pub connection : new.server.connection ≡ newer entered old.server.connection
  pub given : new.server.given ≡ kept entered old.server.given ++ (all_made (reading_of old.server.clock) calls old.server.link).given
  pub taken : new.server.taken ≡ kept entered old.server.taken ++ (all_made (reading_of old.server.clock) calls old.server.link).taken
  pub left : new.server.left ≡ (if (is_open old.server.link.phase || is_some entered) && not (is_open new.server.link.phase)
      then old.moment + length (all_made (reading_of old.server.clock) calls old.server.link).pdus else old.server.left)
  pub sent : new.sent ≡ old.sent ++ handed_out old.time role.Server new.server.connection
      (spellings old.server.link.identity.key (all_made (reading_of old.server.clock) calls old.server.link).pdus)
  pub moment : new.moment ≡ old.moment + length (all_made (reading_of old.server.clock) calls old.server.link).pdus

-- none of these PDUs is a connection request
abbrev pub AsksNone : List Pdu → Type 0
AsksNone pdus = Each (λ pdu. IsRequest pdu.body → ⊥) pdus

-- one PDU, which is
pub record AsksOnce (pdus : List Pdu) : Type 0 where
  pub pdu : Pdu
  pub alone : pdus ≡ pdu ∷ []
  pub request : IsRequest pdu.body
