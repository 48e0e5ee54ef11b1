-- The ends of the links of a world when one controller makes a step, or is made anew.
use Rattle.std.proofs.Common.{◌≡◌, ◌≢◌, ◌⊎◌, ◌∙◌, ℕ, Bool, true, false, List, [], ◌∷◌, map, refl, sym, ap, subst, inl, inr, if◌then◌else◌}
use Rattle.std.specs.Prelude.{◌<◌}
use Rattle.simulator_link_laws.specs.layout.Entries.{Site}
use Rattle.simulator_link_laws.specs.layout.Once.{Once}
use Rattle.simulator_link_laws.specs.layout.Station.{IsStation}
use Rattle.simulator_link_laws.specs.rasta_core.Ends.{Call}
use Rattle.simulator_link_laws.specs.rasta_core.Events.{Restarts, happened, run}
use Rattle.simulator_link_laws.specs.rasta_core.Invariant.{Timely}
use Rattle.simulator_link_laws.specs.rasta_core.Links.{AreLinks, CallsOn, Links, RestartsOn, run_links, seen}
use Rattle.simulator_link_laws.specs.rasta_core.Names.{AreNames, Names}
use Rattle.simulator_link_laws.specs.rasta_core.Nodes.{is_among, restarts_of}
use Rattle.simulator_link_laws.specs.rasta_core.Run.{Ends, called, end_of, restarted}
use Rattle.simulator_link_laws.specs.rasta_core.State.{is_open}
use Rattle.simulator_link_laws.specs.rasta_core.Steps.{calls_at}
use Rattle.simulator_link_laws.specs.rasta_core.identity.Role.{Role}
use Rattle.simulator_link_laws.specs.rasta_core.identity.Role.TheVariants as role
use Rattle.simulator_link_laws.specs.object_host.Host.{HostState, LinkCall, HostSoFar}
use Rattle.simulator_link_laws.specs.object_host.Made.{AreCallsFor, AreItems}
use Rattle.simulator_link_laws.specs.object_host.declared.input.Input.{Input}
use Rattle.simulator_link_laws.specs.object_host_laws.World.{MayHear, as_call, called_all}
use Rattle.simulator_link_laws.specs.simulator_move_laws.Lawful.{AreLawful, IsLawful}
use Rattle.simulator_link_laws.specs.simulator_move_laws.LinkMoves.{LinkGoes, moves_by}
use Rattle.simulator_link_laws.specs.simulator_move_laws.EndsSeen.{represented}
use Rattle.simulator_link_laws.specs.simulator_move_laws.Ends.{AreFit, Steps}
use Rattle.simulator_link_laws.specs.simulator_spec.Links.{names_at}
use Rattle.simulator_link_laws.specs.simulator_spec.Nodes.{links}
use Rattle.simulator_link_laws.specs.simulator_spec.Controllers.{controller_after, controller_anew}
use Rattle.simulator_link_laws.specs.simulator_spec.State.{ClockedControllerState}
use Rattle.simulator_safety.proofs.ControllerLists.{itself, same_or_other, unequal}

-- what calls at one end leave of every end
pub record CallLaws : Type 0 where
  pub own : (who : Role) (link : ℕ) (calls : List Call) (links : Links)
      → seen link (run_links (map (λ call. CallsOn link who call) calls) links) ≡ run (calls_at who calls) (seen link links)
  pub others : (who : Role) (link other : ℕ) (calls : List Call) (links : Links) → other ≢ link
      → (whose : Role) → end_of whose (seen other (run_links (map (λ call. CallsOn link who call) calls) links)) ≡ end_of whose (seen other links)

-- what a node that is made anew leaves of them
abbrev pub SeesAnew : Type 0
SeesAnew = (who : Role) (clock : ℕ) (firsts : ℕ → ℕ) (numbers : List ℕ) (links : Links) (link : ℕ)
    → seen link (run_links (restarts_of who clock firsts numbers) links) ≡ (if is_among link numbers then restarted who clock (firsts link) (seen link links) else seen link links)

-- the laws of a link whose server makes a step, or is made anew
pub record LinkLaws : Type 0 where
  pub calling : CallLaws
  pub anew : SeesAnew
  pub are_links : (site : Site) → IsStation site → Once site → AreLinks (links site) (names_at site)
  pub each : (count : ℕ) (names : ℕ → Names) (network : Links) → AreLawful count names network → (link : ℕ) → link < count → IsLawful (names link) (seen link network)
  pub fit : (names : Names) (ends : Ends) → IsLawful names ends → AreFit ends
  pub steps : (names : Names) (input : Input) (connection : ℕ) (calls : List LinkCall) (ends : Ends) → AreNames names → IsLawful names ends
      → MayHear names input connection ends → AreCallsFor input calls → AreItems calls → Steps input connection ends (called_all connection calls ends)
  pub restarts : (names : Names) (clock first : ℕ) (ends : Ends) → AreNames names → Timely names ends
      → LinkGoes (moves_by false (is_open ends.server.link.phase) false) (represented ends) (represented (happened (Restarts role.Server clock first) ends))

-- ---- calls of a server

module _ (connection : ℕ) where
  all_called : (calls : List LinkCall) (ends : Ends) → called_all connection calls ends ≡ run (calls_at role.Server (map (as_call connection) calls)) ends
  unfolding called_all
  all_called [] ends = refl
  all_called (first ∷ others) ends = all_called others (called role.Server (as_call connection first) ends)

  client_called : (call : Call) (ends : Ends) → (called role.Server call ends).client ≡ ends.client
  unfolding called
  client_called call ends = refl

  client_stays : (calls : List LinkCall) (ends : Ends) → (called_all connection calls ends).client ≡ ends.client
  unfolding called_all
  client_stays [] ends = refl
  client_stays (first ∷ others) ends = client_stays others (called role.Server (as_call connection first) ends) ∙ client_called (as_call connection first) ends

module _ (laws : CallLaws) (link connection : ℕ) (calls : List LinkCall) (before : Links) where
  abbrev stepped : Links
  stepped = run_links (map (λ call. CallsOn link role.Server call) (map (as_call connection) calls)) before

  pub own_stepped : seen link stepped ≡ called_all connection calls (seen link before)
  own_stepped = laws.own role.Server link (map (as_call connection) calls) before ∙ sym (all_called connection calls (seen link before))

  pub servers_stepped : (other : ℕ) → other ≢ link → (stepped.ends other).server ≡ (before.ends other).server
  servers_stepped other differ = laws.others role.Server link other (map (as_call connection) calls) before differ role.Server

  pub clients_stepped : (other : ℕ) → (stepped.ends other).client ≡ (before.ends other).client
  clients_stepped other = cases (same_or_other other link) where
    cases : (other ≡ link) ⊎ (other ≢ link) → (stepped.ends other).client ≡ (before.ends other).client
    cases (inl same) = subst (λ n. (stepped.ends n).client ≡ (before.ends n).client) (sym same) (ap (λ (e : Ends). e.client) own_stepped ∙ client_stays connection calls (seen link before))
    cases (inr differ) = laws.others role.Server link other (map (as_call connection) calls) before differ role.Client

-- ---- a server made anew

client_there : (clock first : ℕ) (ends : Ends) → (restarted role.Server clock first ends).client ≡ ends.client
unfolding restarted
client_there clock first ends = refl

module _ (law : SeesAnew) (link clock first : ℕ) (before : Links) where
  abbrev anew : Links
  anew = run_links (RestartsOn link role.Server clock first ∷ []) before

  seen_by : (other : ℕ) → seen other anew ≡ (if is_among other (link ∷ []) then restarted role.Server clock first (seen other before) else seen other before)
  seen_by other = law role.Server clock (λ n. first) (link ∷ []) before other

  pub own_anew : seen link anew ≡ restarted role.Server clock first (seen link before)
  own_anew = seen_by link ∙ ap (λ (b : Bool). if (if b then true else false) then restarted role.Server clock first (seen link before) else seen link before) (itself link)

  other_anew : (other : ℕ) → other ≢ link → seen other anew ≡ seen other before
  other_anew other differ = seen_by other ∙ ap (λ (b : Bool). if (if b then true else false) then restarted role.Server clock first (seen other before) else seen other before) (unequal other link differ)

  pub servers_anew : (other : ℕ) → other ≢ link → (anew.ends other).server ≡ (before.ends other).server
  servers_anew other differ = ap (λ (e : Ends). e.server) (other_anew other differ)

  pub clients_anew : (other : ℕ) → (anew.ends other).client ≡ (before.ends other).client
  clients_anew other = cases (same_or_other other link) where
    cases : (other ≡ link) ⊎ (other ≢ link) → (anew.ends other).client ≡ (before.ends other).client
    cases (inl same) = subst (λ n. (anew.ends n).client ≡ (before.ends n).client) (sym same) (ap (λ (e : Ends). e.client) own_anew ∙ client_there clock first (seen link before))
    cases (inr differ) = ap (λ (e : Ends). e.client) (other_anew other differ)

-- ---- the host of a server

module _ {Object : Type 0} where
  pub host_after : (done : HostSoFar Object) (connection moment : ℕ) (server : ClockedControllerState Object) → (controller_after done connection moment server).host ≡ done.host
  unfolding controller_after
  host_after done connection moment server = refl

  pub host_anew : (host : HostState Object) (clock moment : ℕ) (server : ClockedControllerState Object) → (controller_anew host clock moment server).host ≡ host
  unfolding controller_anew
  host_anew host clock moment server = refl
