-- The laws of links that this stands on.
use Rattle.std.specs.Prelude.{◌≡◌, ◌≢◌, ◌⊎◌, ℕ, ◌<◌, true, false, List, ◌∷◌, map, None}
use Rattle.simulator_spec.specs.rasta_core.Clock.{settled}
use Rattle.simulator_spec.specs.rasta_core.Each.{Each}
use Rattle.simulator_spec.specs.rasta_core.EachLink.{AreTimely}
use Rattle.simulator_spec.specs.rasta_core.Ends.{Call, EndState, Sent, outcome, reading_of, is_taken}
use Rattle.simulator_spec.specs.rasta_core.Events.{AreForeign, IsDelivered, MayCall, MayRun, run}
use Rattle.simulator_spec.specs.rasta_core.Invariant.{Timely}
use Rattle.simulator_spec.specs.rasta_core.Links.{AreLinks, Links, LinksEvent, CallsOn, MayHappenTo, MayRunLinks, events_on, happened_to, run_links, seen}
use Rattle.simulator_spec.specs.rasta_core.Names.{AreNames, Names}
use Rattle.simulator_spec.specs.rasta_core.Run.{Ends, called, end_of}
use Rattle.simulator_spec.specs.rasta_core.Safe.{DoesNothing, IsIdle}
use Rattle.simulator_spec.specs.rasta_core.Sentences.{IsOpening, IsOut, receipt_at}
use Rattle.simulator_spec.specs.rasta_core.State.{LinkState, is_open}
use Rattle.simulator_spec.specs.rasta_core.Steps.{EnterNone, IsAfter, calls_at, made_by}
use Rattle.simulator_spec.specs.rasta_core.identity.Role.{Role}
use Rattle.simulator_spec.specs.rasta_core.identity.Role.TheVariants as role
use Rattle.simulator_spec.specs.rasta_pdu.SafetyCode.{IsIntact}
use Rattle.simulator_move_laws.specs.Flows.{AsksNone, AsksOnce, ServerIsAfter, begins}

pub record LinkLaws : Type 0 where
  pub settles : (names : Names) (ends : Ends) (who : Role) → Timely names ends → settled (reading_of (end_of who ends).clock) (end_of who ends).link ≡ (end_of who ends).link
  pub sees : (link : ℕ) (event : LinksEvent) (links : Links) → seen link (happened_to event links) ≡ run (events_on link event links) (seen link links)
  pub may : (count : ℕ) (names : ℕ → Names) (event : LinksEvent) (links : Links) → AreLinks count names → AreTimely count names links
      → MayHappenTo count names event links → (link : ℕ) → link < count → MayRun (names link) (events_on link event links) (seen link links)
  pub time : (count : ℕ) (names : ℕ → Names) (event : LinksEvent) (links : Links) → AreLinks count names → AreTimely count names links
      → MayHappenTo count names event links → AreTimely count names (happened_to event links)
  pub run_time : (count : ℕ) (names : ℕ → Names) (events : List LinksEvent) (links : Links) → AreLinks count names → AreTimely count names links
      → MayRunLinks count names events links → AreTimely count names (run_links events links)

-- those of calls at one end
pub record CallLaws : Type 0 where
  pub after : (who : Role) (calls : List Call) (ends : Ends) → IsAfter calls (end_of who ends) (end_of who (run (calls_at who calls) ends))
  pub all : (names : Names) (who : Role) (calls : List Call) (ends : Ends) → Each (λ call. MayCall names who call ends) calls
      → MayRun names (calls_at who calls) ends
  pub stays : (call : Call) (moment : ℕ) (end : EndState) → is_open end.link.phase ≡ false → (outcome call moment end).enters ≡ None
      → is_open (outcome call moment end).link.phase ≡ false
  pub nothing : (call : Call) (moment : ℕ) (end : EndState) → is_open end.link.phase ≡ false → (outcome call moment end).enters ≡ None
      → DoesNothing (outcome call moment end)
  pub partner : (calls : List Call) (ends : Ends) → (run (calls_at role.Server calls) ends).client ≡ ends.client
  pub own : (who : Role) (link : ℕ) (calls : List Call) (links : Links)
      → seen link (run_links (map (λ call. CallsOn link who call) calls) links) ≡ run (calls_at who calls) (seen link links)
  pub others : (who : Role) (link other : ℕ) (calls : List Call) (links : Links) → other ≢ link
      → (whose : Role) → end_of whose (seen other (run_links (map (λ call. CallsOn link who call) calls) links)) ≡ end_of whose (seen other links)

-- those of a server's calls
pub record ServerLaws : Type 0 where
  pub none : (names : Names) (calls : List Call) (ends : Ends) → AreNames names → Timely names ends → MayRun names (calls_at role.Server calls) ends
      → EnterNone (reading_of ends.server.clock) calls ends.server.link → ServerIsAfter calls None ends (run (calls_at role.Server calls) ends)
  pub first : (names : Names) (call : Call) (calls : List Call) (ends : Ends) → AreNames names → Timely names ends
      → MayRun names (calls_at role.Server (call ∷ calls)) ends → EnterNone (reading_of ends.server.clock) calls (called role.Server call ends).server.link
      → ServerIsAfter (call ∷ calls) (outcome call ends.moment ends.server).enters ends (run (calls_at role.Server (call ∷ calls)) ends)

-- those of a client's calls
pub record ClientLaws : Type 0 where
  pub once : (names : Names) (call : Call) (ends : Ends) → Timely names ends → begins (reading_of ends.client.clock) call ends.client.link ≡ true
      → AsksOnce (made_by (reading_of ends.client.clock) call ends.client.link).pdus
  pub none : (now : ℕ) (call : Call) (link : LinkState) → begins now call link ≡ false → AsksNone (made_by now call link).pdus
  pub opening : (names : Names) (ends : Ends) (who : Role) (bytes : List ℕ) (connection : ℕ) (datagram : Sent) → AreNames names → Timely names ends
      → IsDelivered ends bytes connection datagram → IsOut who ends → is_taken (receipt_at who bytes ends).verdict ≡ true → IsOpening names who ends datagram
  pub nothing : (names : Names) (ends : Ends) (who : Role) (bytes : List ℕ) → Timely names ends → (IsIntact names.key bytes → ⊥) ⊎ AreForeign names who bytes → IsIdle (receipt_at who bytes ends)
