-- Every event keeps the exact order of two ends, and so does every run.
use Rattle.std.proofs.Common.{ℕ, ◌+◌, inr, List, [], ◌∷◌, refl, ◌∙◌}
use Rattle.rasta_core_spec.specs.Calls.{created}
use Rattle.rasta_core_spec.specs.identity.Identity.{Identity}
use Rattle.rasta_core_spec.specs.identity.Role.{Role}
use Rattle.rasta_core_spec.specs.identity.Role.TheVariants as role
use Rattle.rasta_core_spec.specs.Ends.{Call, Ticks, Opens, Closes, Sends, Receives, reading_of, end_later, end_restarted}
use Rattle.rasta_core_spec.specs.Run.{Ends, called, later, lost, restarted}
use Rattle.rasta_core.specs.EndFlow.{EndFlow}
use Rattle.rasta_core.specs.FirstPdus.{PlaysEarly, gone}
use Rattle.rasta_core_spec.specs.Names.{Names, AreNames}
use Rattle.rasta_core.specs.Invariant.{Timely}
use Rattle.rasta_core.specs.Ordered.{Ordered}
use Rattle.rasta_core_spec.specs.Events.{Event, Calls, Passes, Loses, Restarts, Elsewhere, May, MayCall, MayRun, Start, happened, run, started}
use Rattle.caught_up_laws.specs.Exact.{Exact, unbegun, alone, together}
use Rattle.caught_up_laws.specs.inside.Laws.{Laws}
use Rattle.caught_up_laws.proofs.Lists.{flow_without}
use Rattle.caught_up_laws.proofs.Calls.{ticks_client, closes_client, sends_client, opens_client, ticks_server, closes_server, sends_server, opens_server}
use Rattle.caught_up_laws.proofs.Receptions.{receives_client, receives_server}

passed : Laws → (names : Names) (elapsed of_client of_server : ℕ) (ends : Ends) → Exact names ends → Exact names (later elapsed of_client of_server ends)
unfolding later end_later
passed law names elapsed of_client of_server ends (unbegun is) = unbegun is
passed law names elapsed of_client of_server ends (alone is) = alone (record {
  connection = is.connection;
  client = is.client;
  of_client = is.of_client;
  not_of_server = is.not_of_server;
  early = is.early;
  plays = law.early_settled (reading_of (ends.client.clock + of_client)) ends.client.link is.client is.early is.plays;
  flow = is.flow;
})
passed law names elapsed of_client of_server ends (together is) = together (record {
  connection = is.connection;
  client = is.client;
  server = is.server;
  of_client = is.of_client;
  of_server = is.of_server;
  order = is.order;
  client_plays = law.settled_plays (reading_of (ends.client.clock + of_client)) ends.client.link is.client is.server is.order is.client_plays;
  server_plays = law.settled_plays (reading_of (ends.server.clock + of_server)) ends.server.link is.server is.client (law.swapped is.client is.server is.order) is.server_plays;
  client_given = is.client_given;
  client_taken = is.client_taken;
  server_given = is.server_given;
  server_taken = is.server_taken;
  client_flow = is.client_flow;
  server_flow = is.server_flow;
})

lost_kept : (names : Names) (bytes : List ℕ) (ends : Ends) → Exact names ends → Exact names (lost bytes ends)
unfolding lost
lost_kept names bytes ends (unbegun is) = unbegun is
lost_kept names bytes ends (alone is) = alone (record {
  connection = is.connection;
  client = is.client;
  of_client = is.of_client;
  not_of_server = is.not_of_server;
  early = is.early;
  plays = is.plays;
  flow = flow_without names role.Client is.connection bytes ends.sent ∙ is.flow;
})
lost_kept names bytes ends (together is) = together (record {
  connection = is.connection;
  client = is.client;
  server = is.server;
  of_client = is.of_client;
  of_server = is.of_server;
  order = is.order;
  client_plays = is.client_plays;
  server_plays = is.server_plays;
  client_given = is.client_given;
  client_taken = is.client_taken;
  server_given = is.server_given;
  server_taken = is.server_taken;
  client_flow = flow_without names role.Client is.connection bytes ends.sent ∙ is.client_flow;
  server_flow = flow_without names role.Server is.connection bytes ends.sent ∙ is.server_flow;
})

-- ---- an end is made anew

early_anew : (identity : Identity) (first now : ℕ) (client : EndFlow) → PlaysEarly (created identity first now) client
unfolding created
early_anew identity first now client = gone refl (inr (record { given = refl; taken = refl }))

restarted_kept : Laws → (names : Names) (who : Role) (clock first : ℕ) (ends : Ends) → Exact names ends → Exact names (restarted who clock first ends)
unfolding restarted end_restarted
restarted_kept law names role.Client clock first ends (unbegun is) = unbegun is
restarted_kept law names role.Server clock first ends (unbegun is) = unbegun is
restarted_kept law names role.Client clock first ends (alone is) = alone (record {
  connection = is.connection;
  client = is.client;
  of_client = is.of_client;
  not_of_server = is.not_of_server;
  early = is.early;
  plays = early_anew ends.client.link.identity first clock is.client;
  flow = is.flow;
})
restarted_kept law names role.Server clock first ends (alone is) = alone (record {
  connection = is.connection;
  client = is.client;
  of_client = is.of_client;
  not_of_server = is.not_of_server;
  early = is.early;
  plays = is.plays;
  flow = is.flow;
})
restarted_kept law names role.Client clock first ends (together is) = together (record {
  connection = is.connection;
  client = is.client;
  server = is.server;
  of_client = is.of_client;
  of_server = is.of_server;
  order = is.order;
  client_plays = law.anew ends.client.link.identity first clock is.client is.server;
  server_plays = is.server_plays;
  client_given = is.client_given;
  client_taken = is.client_taken;
  server_given = is.server_given;
  server_taken = is.server_taken;
  client_flow = is.client_flow;
  server_flow = is.server_flow;
})
restarted_kept law names role.Server clock first ends (together is) = together (record {
  connection = is.connection;
  client = is.client;
  server = is.server;
  of_client = is.of_client;
  of_server = is.of_server;
  order = is.order;
  client_plays = is.client_plays;
  server_plays = law.anew ends.server.link.identity first clock is.server is.client;
  client_given = is.client_given;
  client_taken = is.client_taken;
  server_given = is.server_given;
  server_taken = is.server_taken;
  client_flow = is.client_flow;
  server_flow = is.server_flow;
})

elsewhere_kept : (names : Names) (count : ℕ) (ends : Ends) → Exact names ends → Exact names (record ends { moment = ends.moment + count })
elsewhere_kept names count ends (unbegun is) = unbegun is
elsewhere_kept names count ends (alone is) = alone (record {
  connection = is.connection;
  client = is.client;
  of_client = is.of_client;
  not_of_server = is.not_of_server;
  early = is.early;
  plays = is.plays;
  flow = is.flow;
})
elsewhere_kept names count ends (together is) = together (record {
  connection = is.connection;
  client = is.client;
  server = is.server;
  of_client = is.of_client;
  of_server = is.of_server;
  order = is.order;
  client_plays = is.client_plays;
  server_plays = is.server_plays;
  client_given = is.client_given;
  client_taken = is.client_taken;
  server_given = is.server_given;
  server_taken = is.server_taken;
  client_flow = is.client_flow;
  server_flow = is.server_flow;
})

-- ---- every event

called_kept : Laws → (names : Names) → AreNames names → (who : Role) (call : Call) (ends : Ends) → Timely names ends → Ordered names ends → MayCall names who call ends → Exact names ends
    → Exact names (called who call ends)
called_kept law names are role.Client Ticks ends timely ordered may exact = ticks_client law names ends timely exact
called_kept law names are role.Client Opens ends timely ordered may exact = opens_client law names ends timely exact
called_kept law names are role.Client (Closes why) ends timely ordered may exact = closes_client law names ends timely why exact
called_kept law names are role.Client (Sends item) ends timely ordered may exact = sends_client law names ends timely item may exact
called_kept law names are role.Client (Receives bytes connection) ends timely ordered may exact = receives_client law names are ends timely bytes connection may exact
called_kept law names are role.Server Ticks ends timely ordered may exact = ticks_server law names ends timely exact
called_kept law names are role.Server Opens ends timely ordered may exact = opens_server law names ends timely exact
called_kept law names are role.Server (Closes why) ends timely ordered may exact = closes_server law names ends timely why exact
called_kept law names are role.Server (Sends item) ends timely ordered may exact = sends_server law names ends timely item may exact
called_kept law names are role.Server (Receives bytes connection) ends timely ordered may exact = receives_server law names are ends timely bytes connection may ordered exact

pub exact_kept : Laws → (names : Names) (event : Event) (ends : Ends) → AreNames names → Timely names ends → Ordered names ends → May names event ends → Exact names ends → Exact names (happened event ends)
exact_kept law names (Calls who call) ends are timely ordered may exact = called_kept law names are who call ends timely ordered may exact
exact_kept law names (Passes elapsed of_client of_server) ends are timely ordered may exact = passed law names elapsed of_client of_server ends exact
exact_kept law names (Loses bytes) ends are timely ordered may exact = lost_kept names bytes ends exact
exact_kept law names (Restarts who clock first) ends are timely ordered may exact = restarted_kept law names who clock first ends exact
exact_kept law names (Elsewhere count) ends are timely ordered may exact = elsewhere_kept names count ends exact

-- what is kept of two ends
pub record IsSound (names : Names) (ends : Ends) : Type 0 where
  pub timely : Timely names ends
  pub ordered : Ordered names ends
  pub exact : Exact names ends

pub sound_starts : Laws → (names : Names) (start : Start) → AreNames names → IsSound names (started names start)
sound_starts law names start are = record { timely = law.starts_timely names start are; ordered = law.starts_ordered names start; exact = unbegun refl }

pub sound_kept : Laws → (names : Names) (event : Event) (ends : Ends) → AreNames names → May names event ends → IsSound names ends → IsSound names (happened event ends)
sound_kept law names event ends are may is = record {
  timely = law.event_timely names event ends are is.timely may;
  ordered = law.event_ordered names event ends are is.timely is.ordered may;
  exact = exact_kept law names event ends are is.timely is.ordered may is.exact;
}

pub run_sound : Laws → (names : Names) (events : List Event) (ends : Ends) → AreNames names → MayRun names events ends → IsSound names ends → IsSound names (run events ends)
run_sound law names [] ends are may is = is
run_sound law names (first ∷ others) ends are may is = run_sound law names others (happened first ends) are may.1 (sound_kept law names first ends are may.0 is)
