-- A signal and a point at the end of whose link the interlocking makes a step.
use Rattle.std.proofs.Common.{◌≡◌, ◌∙◌, ℕ, Bool, true, false, List, [], length, refl, sym, ap, subst}
use Rattle.std.specs.Prelude.{if◌then◌else◌}
use Rattle.simulator_link_laws.specs.rasta_core.Clock.{settled}
use Rattle.simulator_link_laws.specs.rasta_core.Ends.{EndState, reading_of}
use Rattle.simulator_link_laws.specs.rasta_core.Invariant.{Timely}
use Rattle.simulator_link_laws.specs.rasta_core.Names.{Names}
use Rattle.simulator_link_laws.specs.rasta_core.Run.{Ends}
use Rattle.simulator_link_laws.specs.rasta_core.State.{LinkState, is_open}
use Rattle.simulator_link_laws.specs.object_host.Host.{HostState}
use Rattle.simulator_link_laws.specs.point_ctl.Drive.{PointState}
use Rattle.simulator_link_laws.specs.signal_ctl.Signal.{SignalState}
use Rattle.simulator_link_laws.specs.ixl_client.ClientSoFar.{LinkCall}
use Rattle.simulator_link_laws.specs.ixl_spec.State.{IxlState, KnownSignalState, KnownPointState}
use Rattle.simulator_link_laws.specs.ixl_spec.Step.{Input}
use Rattle.simulator_machine.specs.Link.{Client, Server, Before, In, Link}
use Rattle.simulator_machine.specs.Machine.{Machine}
use Rattle.simulator_machine.specs.Point.{Point as MachinePoint, moves_given, reports_made}
use Rattle.simulator_machine.specs.Signal.{Signal as MachineSignal, aspects_given}
use Rattle.simulator_machine.specs.Table.{Table as MachineTable}
use Rattle.simulator_link_laws.specs.simulator_move_laws.Items.{all_said, aspects_in, moves_in, reports_in}
use Rattle.simulator_link_laws.specs.simulator_move_laws.Flows.{ClientIsAfter, given_after, has_begun, of_server, reports_given, taken_after}
use Rattle.simulator_link_laws.specs.simulator_move_laws.EndsSeen.{client_of, represented, server_of}
use Rattle.simulator_link_laws.specs.simulator_move_laws.Point.{IsPointSeen}
use Rattle.simulator_link_laws.specs.simulator_move_laws.Signal.{IsSignalSeen}
use Rattle.simulator_safety.specs.Calls.{as_calls}
use Rattle.simulator_link_laws.specs.simulator_move_laws.Behind.{KnownSignalBehind, KnownPointBehind}
use Rattle.simulator_link_laws.specs.simulator_move_laws.Calls as rules
use Rattle.simulator_link_laws.specs.simulator_move_laws.Calls.{Items, items_after}
use Rattle.simulator_link_laws.specs.simulator_move_laws.Link.{client_at}
use Rattle.simulator_link_laws.specs.simulator_move_laws.Sees.{Given}
use Rattle.simulator_link_laws.specs.simulator_move_laws.Totals.{IsReadable}
use Rattle.simulator_safety.specs.Represents.{items_of}

-- the laws of the two ends of a link
pub record EndLaws : Type 0 where
  pub at_end : (now : ℕ) (link : LinkState) (end : EndState) → reading_of end.clock ≡ now → end.link ≡ settled now link → client_of end ≡ client_at now link
  pub given : (now connection : ℕ) (calls : List LinkCall) (link : LinkState) (items : Items) → given_after now (as_calls connection calls) link items.given ≡ (items_after now calls link items).given
  pub taken : (now connection : ℕ) (calls : List LinkCall) (link : LinkState) (items : Items) → taken_after now (as_calls connection calls) link items.taken ≡ (items_after now calls link items).taken
  pub begun : (now connection : ℕ) (calls : List LinkCall) (link : LinkState) → has_begun now (as_calls connection calls) link ≡ rules.has_begun now calls link
  pub inside : (names : Names) (ends : Ends) → Timely names ends → is_open ends.server.link.phase ≡ true → server_of ends ≡ In
  pub signal_stays : (ends new : Ends) (host : HostState SignalState) (signal other : MachineSignal) → new.server ≡ ends.server → IsSignalSeen ends host signal → other.link ≡ represented new
      → aspects_given other ≡ aspects_in new.client.given → (is_open new.server.link.phase ≡ true → other.done ≡ signal.done) → IsSignalSeen new host other
  pub point_stays : (ends new : Ends) (host : HostState PointState) (point other : MachinePoint) → new.server ≡ ends.server → IsPointSeen ends host point → other.link ≡ represented new
      → moves_given other ≡ length (moves_in new.client.given) → (is_open new.server.link.phase ≡ true → other.taken ≡ point.taken) → reports_made other ≡ reports_in (reports_given new)
      → other.position ≡ point.position → other.driven ≡ point.driven → IsPointSeen new host other

none_read : reports_in [] ≡ []
unfolding all_said
none_read = refl

-- ---- how links are seen

pub server_represented : (ends : Ends) → (represented ends).server ≡ server_of ends
unfolding represented
server_represented ends = refl

pub client_represented : (ends : Ends) → (represented ends).client ≡ client_of ends.client
unfolding represented
client_represented ends = refl

pub link_represented : (link : Link) (ends : Ends) → link.client ≡ client_of ends.client → link.server ≡ server_of ends → link ≡ represented ends
unfolding represented
link_represented link ends client server =
    ap (λ (c : Client). record { client = c; server = link.server }) client ∙ ap (λ (s : Server). record { client = client_of ends.client; server = s }) server

not_before_in : Before ≡ In → ⊥
not_before_in e = cc (e)

-- ---- the ends of one link

module _ (laws : EndLaws) (now connection : ℕ) (names : Names) (calls : List LinkCall) (link later : LinkState) (ends new : Ends)
    (clock : reading_of ends.client.clock ≡ now) (link_is : ends.client.link ≡ settled now link) (clock_after : reading_of new.client.clock ≡ now) (link_after : new.client.link ≡ settled now later)
    (timely : Timely names new) (after : ClientIsAfter (as_calls connection calls) ends new) (server_same : new.server ≡ ends.server) where
  abbrev begun : Bool
  begun = rules.has_begun now calls (settled now link)

  abbrev items : Items
  items = items_after now calls (settled now link) (items_of ends.client)

  begun_is : has_begun (reading_of ends.client.clock) (as_calls connection calls) ends.client.link ≡ begun
  begun_is = ap (λ n. has_begun n (as_calls connection calls) ends.client.link) clock ∙ ap (has_begun now (as_calls connection calls)) link_is ∙ laws.begun now connection calls (settled now link)

  server_is : server_of new ≡ (if begun then Before else server_of ends)
  server_is = after.server ∙ ap (λ b. if b then Before else server_of ends) begun_is

  pub given_is : new.client.given ≡ items.given
  given_is = after.given ∙ ap (λ n. given_after n (as_calls connection calls) ends.client.link ends.client.given) clock
      ∙ ap (λ l. given_after now (as_calls connection calls) l ends.client.given) link_is ∙ laws.given now connection calls (settled now link) (items_of ends.client)

  taken_is : new.client.taken ≡ items.taken
  taken_is = after.taken ∙ ap (λ n. taken_after n (as_calls connection calls) ends.client.link ends.client.taken) clock
      ∙ ap (λ l. taken_after now (as_calls connection calls) l ends.client.taken) link_is ∙ laws.taken now connection calls (settled now link) (items_of ends.client)

  pub items_are : items ≡ items_of new.client
  items_are = ap (λ (g : List (List ℕ)). record { given = g; taken = items.taken }) (sym given_is) ∙ ap (λ (t : List (List ℕ)). record { given = new.client.given; taken = t }) (sym taken_is)

  -- a server inside is in the connection that was begun before
  not_begun : is_open new.server.link.phase ≡ true → begun ≡ false
  not_begun opened = cases begun server_is where
    cases : (b : Bool) → server_of new ≡ (if b then Before else server_of ends) → b ≡ false
    cases false is = refl
    cases true is = absurd (not_before_in (sym is ∙ laws.inside names new timely opened))

  kept_where_open : {A : Type 0} (fresh old result : A) → result ≡ (if begun then fresh else old) → is_open new.server.link.phase ≡ true → result ≡ old
  kept_where_open fresh old result is opened = is ∙ ap (λ b. if b then fresh else old) (not_begun opened)

  link_seen : (old other : Link) → old ≡ represented ends → other.client ≡ client_at now later → other.server ≡ (if begun then Before else old.server) → other ≡ represented new
  link_seen old other seen client server = link_represented other new
      (client ∙ sym (laws.at_end now later new.client clock_after link_after))
      (server ∙ ap (λ s. if begun then Before else s) (ap (λ (l : Link). l.server) seen ∙ server_represented ends) ∙ sym server_is)

  reports_are : reports_given new ≡ (if begun then [] else reports_given ends)
  reports_are = ap (λ s. of_server s new.server.given) server_is ∙ ap (λ (e : EndState). of_server (if begun then Before else server_of ends) e.given) server_same ∙ cases begun where
    cases : (b : Bool) → of_server (if b then Before else server_of ends) ends.server.given ≡ (if b then [] else of_server (server_of ends) ends.server.given)
    cases true = refl
    cases false = refl

  reports_read : reports_in (if begun then [] else reports_given ends) ≡ (if begun then [] else reports_in (reports_given ends))
  reports_read = cases begun where
    cases : (b : Bool) → reports_in (if b then [] else reports_given ends) ≡ (if b then [] else reports_in (reports_given ends))
    cases true = none_read
    cases false = refl

  module _ (input : Input) (table : MachineTable) (ixl : IxlState) (given : Given) (machine : Machine) where
    pub signal_stepped : (first known_signal : KnownSignalState) (host : HostState SignalState) (old other : MachineSignal) → first.client.link ≡ link → known_signal.client.link ≡ later → IsReadable first.client.peer → IsSignalSeen ends host old
        → KnownSignalBehind now input table ixl given machine first (items_of ends.client) calls known_signal old other → IsSignalSeen new host other
    signal_stepped first known_signal host old other first_is known_signal_is readable seen behind = laws.signal_stays ends new host old other server_same seen
        (link_seen old.link other.link seen.link (behind.fits.place ∙ ap (client_at now) known_signal_is)
        (subst (λ (l : LinkState). other.link.server ≡ (if rules.has_begun now calls (settled now l) then Before else old.link.server)) first_is behind.left.server))
        (behind.totals readable seen.given ∙ ap (λ (l : LinkState). aspects_in (items_after now calls (settled now l) (items_of ends.client)).given) first_is ∙ ap aspects_in (sym given_is))
        (λ opened. kept_where_open [] old.done other.done
        (subst (λ (l : LinkState). other.done ≡ (if rules.has_begun now calls (settled now l) then [] else old.done)) first_is behind.left.done) opened)

    pub point_stepped : (first known_point : KnownPointState) (host : HostState PointState) (old other : MachinePoint) → first.client.link ≡ link → known_point.client.link ≡ later → IsReadable first.client.peer → IsPointSeen ends host old
        → KnownPointBehind now input table ixl given machine first (items_of ends.client) calls known_point old other → IsPointSeen new host other
    point_stepped first known_point host old other first_is known_point_is readable seen behind = laws.point_stays ends new host old other server_same seen
        (link_seen old.link other.link seen.link (behind.fits.place ∙ ap (client_at now) known_point_is)
        (subst (λ (l : LinkState). other.link.server ≡ (if rules.has_begun now calls (settled now l) then Before else old.link.server)) first_is behind.left.server))
        (behind.totals readable seen.given ∙ ap (λ (l : LinkState). length (moves_in (items_after now calls (settled now l) (items_of ends.client)).given)) first_is ∙ ap (λ g. length (moves_in g)) (sym given_is))
        (λ opened. kept_where_open 0 old.taken other.taken
        (subst (λ (l : LinkState). other.taken ≡ (if rules.has_begun now calls (settled now l) then 0 else old.taken)) first_is behind.left.taken) opened)
        (subst (λ (l : LinkState). reports_made other ≡ (if rules.has_begun now calls (settled now l) then [] else reports_made old)) first_is behind.left.reports
        ∙ ap (λ r. if begun then [] else r) seen.made ∙ sym reports_read ∙ ap reports_in (sym reports_are))
        behind.left.position behind.left.driven
