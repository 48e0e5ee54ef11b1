-- A first round, in which anything may come that was sent by then, before it or in it: in any order, again and again, or never.
use Rattle.std.specs.Prelude.{◌≡◌, ℕ, ◌⊎◌, true, ◌+◌, List, [], ◌∷◌, ◌++◌, length}
use Rattle.rasta_core_spec.specs.identity.Role.{Role}
use Rattle.rasta_core_spec.specs.identity.Role.TheVariants as role
use Rattle.rasta_core_spec.specs.Each.{Each}
use Rattle.rasta_core_spec.specs.Ends.{Sent}
use Rattle.rasta_core_spec.specs.Events.{Event, IsAmong, MayRun, Passes, run}
use Rattle.rasta_core_spec.specs.Names.{Names}
use Rattle.rasta_core_spec.specs.Run.{Ends}
use Rattle.rasta_core_spec.specs.State.{is_open}
use Rattle.rasta_core_recovery.specs.Rounds.{Flow, IsBelowLimit, StayBelowLimit, comings, own_work}
use Rattle.rasta_core_recovery.specs.Work.{AreAtWork, IsCall, IsWorkAt, calls_in, due_to, work_round}

-- each of these is one of those that were sent
abbrev pub WereSent : List Sent → List Sent → Type 0
WereSent sent due = Each (λ (d : Sent). IsAmong d sent) due

-- a round as a good one, but that of these datagrams each comes that still can, in this order
abbrev pub round_of : List Sent → Flow → Flow
round_of due f = record { ends = run (Passes 10000 10000 10000 ∷ (comings (f.ends.time + 10000) due ++ own_work)) f.ends; passed = length f.ends.sent }

-- the ends as all of these have come, before one of them ticks
abbrev pub behind_comings : List Sent → Flow → Ends
behind_comings due f = run (Passes 10000 10000 10000 ∷ comings (f.ends.time + 10000) due) f.ends

-- These come in it: each was sent by then, before it or in it.
pub record ComeFirst (names : Names) (due : List Sent) (f : Flow) : Type 0 where
  pub may : MayRun names (Passes 10000 10000 10000 ∷ (comings (f.ends.time + 10000) due ++ own_work)) f.ends
  pub were_sent : WereSent (behind_comings due f).sent due

-- none of these was said in it by this end
abbrev pub WereSaidBefore : Role → List Sent → List Sent → Type 0
WereSaidBefore who sent due = Each (λ (d : Sent). d.sender ≡ who → IsAmong d sent) due

-- both ends are below the limit of PDUs before such a round, after it, and after each of these good rounds after it
abbrev pub StayBelowLimitFrom : List Sent → ℕ → Flow → Type 0
StayBelowLimitFrom due n f = IsBelowLimit f.ends.client × IsBelowLimit f.ends.server × StayBelowLimit n (round_of due f)

-- Each of these was sent by the end of such a round, but none was said in it by the server; and the client is in a connection before it.
pub record AlsoOfClient (calls : List Event) (f : Flow) (due : List Sent) : Type 0 where
  pub client_in : is_open f.ends.client.link.phase ≡ true
  pub were_sent : WereSent (work_round calls f).ends.sent due
  pub of_server : WereSaidBefore role.Server f.ends.sent due

-- A round as one at work, but that some datagrams come in some order: of those that were sent before it, or also of those that the client
-- says in it.
pub record IsFirstAtWork (names : Names) (f : Flow) (calls : List Event) : Type 0 where
  pub due : List Sent
  pub comes : WereSent f.ends.sent due ⊎ AlsoOfClient calls f due
  pub may : MayRun names (Passes 10000 10000 10000 ∷ calls) f.ends
  pub only : Each IsCall calls
  pub client : IsWorkAt role.Client (due_to role.Client (f.ends.time + 10000) due) (calls_in role.Client calls)
  pub server : IsWorkAt role.Server (due_to role.Server (f.ends.time + 10000) due) (calls_in role.Server calls)

-- such a round, and then rounds at work
abbrev pub BeginAtWork : Names → List (List Event) → Flow → Type 0
BeginAtWork names [] f = Unit {0}
BeginAtWork names (calls ∷ others) f = IsFirstAtWork names f calls × AreAtWork names others (work_round calls f)
