-- What a client knows of its server.
use Rattle.std.proofs.Common.{◌≡◌, ◌≢◌, ℕ, ◌≤◌, nat_lt, true, List, length, sym, ap, subst, ◌∙◌}
use Rattle.rasta_core.specs.Clock.{deadline, state_at}
use Rattle.rasta_core.specs.Ends.{EndState, reading_of}
use Rattle.rasta_core.specs.Run.{Ends}
use Rattle.rasta_core.specs.State.{LinkState, confirmed_items, is_open, is_up}
use Rattle.simulator_machine.specs.Link.{Before, Down, In, Server, Up}
use Rattle.simulator_move_laws.specs.Flows.{ClientKnows, Counts, FlowsInOrder, IsBeginning, commands_taken, of_server, reports_given}
use Rattle.simulator_move_laws.specs.EndsSeen.{client_in, client_of, server_of}

-- what the laws say of two ends after calls of the client
pub record Known (ends : Ends) : Type 0 where
  pub up : is_up ends.client.link.phase ≡ true → client_of ends.client ≡ Up
  pub entered : client_of ends.client ≡ Up → server_of ends ≢ Before
  pub alone : client_of ends.client ≡ Down → server_of ends ≢ In
  pub alive : is_open ends.client.link.phase ≡ true → nat_lt (reading_of ends.client.clock) (deadline ends.client.link) ≡ true
  pub counts : Counts ends.client
  pub flows : FlowsInOrder ends

-- and what is the same as before them
pub record IsSameServer (old new : Ends) : Type 0 where
  pub server : server_of new ≡ server_of old
  pub end : new.server ≡ old.server
  pub clock : new.client.clock ≡ old.client.clock
  pub inside : is_open new.client.link.phase ≡ true → is_open old.client.link.phase ≡ true

pub knows : (old new : Ends) (link : LinkState) (given taken : List (List ℕ)) → Known new → IsSameServer old new → new.client.link ≡ link → new.client.given ≡ given → new.client.taken ≡ taken → ClientKnows old link given taken
knows old new link given taken known same linked gave took = record {
  up = λ up is. known.entered (known.up (ap (λ (l : LinkState). is_up l.phase) linked ∙ up)) (same.server ∙ is);
  quiet = λ down is. known.alone (ap client_in (ap (λ (n : ℕ). state_at (reading_of n) new.client.link) same.clock ∙ ap (state_at (reading_of old.client.clock)) linked ∙ down)) (same.server ∙ is);
  inside = λ inside. same.inside (opened inside);
  alive = λ inside. sym (ap (λ (n : ℕ). nat_lt (reading_of n) (deadline new.client.link)) same.clock ∙ ap (λ (l : LinkState). nat_lt (reading_of old.client.clock) (deadline l)) linked)
      ∙ known.alive (opened inside);
  counted = λ inside. sym (ap (λ (l : LinkState). l.given) linked) ∙ known.counts.given (opened inside) ∙ ap length gave;
  confirmed = λ inside. subst (λ (items : List (List ℕ)). confirmed_items link ≤ length items) commands
      (subst (λ (l : LinkState). confirmed_items l ≤ length (commands_taken new)) linked (known.flows.confirmed (opened inside)));
  reports = subst (λ (items : List (List ℕ)). IsBeginning taken items) reported (subst (λ (items : List (List ℕ)). IsBeginning items (reports_given new)) took known.flows.reports);
}
  where
    opened : is_open link.phase ≡ true → is_open new.client.link.phase ≡ true
    opened inside = ap (λ (l : LinkState). is_open l.phase) linked ∙ inside

    commands : commands_taken new ≡ commands_taken old
    commands = ap (λ (s : Server). of_server s new.server.taken) same.server ∙ ap (λ (e : EndState). of_server (server_of old) e.taken) same.end

    reported : reports_given new ≡ reports_given old
    reported = ap (λ (s : Server). of_server s new.server.given) same.server ∙ ap (λ (e : EndState). of_server (server_of old) e.given) same.end
