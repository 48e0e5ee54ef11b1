-- Rounds of a client that goes wrong: it opens only where that is so of the number of PDUs that it sent in its last connection.
-- Such a client is safe, and useless.
use Rattle.std.specs.Prelude.{◌≡◌, ℕ, zero, suc, ◌+◌, ◌==◌, nat_lt, Bool, true, false, List, [], ◌∷◌, ◌++◌, length, drop}
use Rattle.rasta_core_spec.specs.Parameters.{connection_limit}
use Rattle.rasta_core_spec.specs.State.{is_open}
use Rattle.rasta_core_spec.specs.identity.Role.TheVariants as role
use Rattle.rasta_core_spec.specs.Ends.{Ticks, Opens}
use Rattle.rasta_core_spec.specs.Events.{Event, Calls, Passes, MayRun, Start, run, started}
use Rattle.rasta_core_spec.specs.Names.{Names}
use Rattle.rasta_core_recovery.specs.Rounds.{AreUp, Flow, comings, flow_after, own_work}

-- it asks once, and never again
abbrev pub asks_once : ℕ → Bool
asks_once sent = sent == 0

-- it never opens again after it closed at the limit of PDUs in a connection
abbrev pub ends_at_limit : ℕ → Bool
ends_at_limit sent = nat_lt sent connection_limit

abbrev pub work_where : Bool → List Event
work_where true = own_work
work_where false = Calls role.Client Ticks ∷ Calls role.Server Ticks ∷ []

unfoldable pub round_where : (ℕ → Bool) → Flow → Flow
round_where opens f = record {
  ends = run (Passes 10000 10000 10000 ∷ (comings (f.ends.time + 10000) (drop f.passed f.ends.sent) ++ work_where (opens f.ends.client.link.sent))) f.ends;
  passed = length f.ends.sent;
}

abbrev pub rounds_where : (ℕ → Bool) → ℕ → Flow → Flow
rounds_where opens zero f = f
rounds_where opens (suc n) f = round_where opens (rounds_where opens n f)

-- both ends are outside, nothing is under way, and this client doesn't open
pub record RestsFor (opens : ℕ → Bool) (f : Flow) : Type 0 where
  pub client : is_open f.ends.client.link.phase ≡ false
  pub server : is_open f.ends.server.link.phase ≡ false
  pub none : drop f.passed f.ends.sent ≡ []
  pub shut : opens f.ends.client.link.sent ≡ false

-- two ends that were made at clock 0: the client asked after 6000 ms, its request was lost, and it waited for 1800 ms
abbrev pub at_zero : Start
at_zero = record { time = 0; moment = 0; client_clock = 0; client_first = 0; server_clock = 0; server_first = 0 }

abbrev pub asks_in_vain : List Event
asks_in_vain = Passes 6000000 6000000 6000000 ∷ Calls role.Client Opens ∷ Passes 1800000 1800000 1800000 ∷ []

-- whatever rounds follow: these two never are up
pub record NeverUp (names : Names) (opens : ℕ → Bool) (events : List Event) : Type 0 where
  pub may : MayRun names events (started names at_zero)
  pub never : (n : ℕ) → AreUp (rounds_where opens n (flow_after names at_zero events 1)).ends → ⊥
