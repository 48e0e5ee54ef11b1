-- What the server of one link hears in the events of a world's links.
use Rattle.simulator_recovery.proofs.Words.Basics.{◌≡◌, ℕ, ◌+◌, ◌*◌, ◌≤◌, true, false, List, [], ◌∷◌, ◌++◌, ap, arith, Bool, length, map, refl, sym, subst, if◌then◌else◌, ◌==◌, eqb-true}
use Rattle.simulator_recovery.proofs.Words.Links.{closing_by, created, receiving, sending_item, ticking, Call, Closes, Opens, Receives, Sends, Sent, Ticks, end_after, end_later, end_restarted, is_taken, outcome, reading_of, Calls, Elsewhere, Event, IsDelivered, Loses, May, MayRun, Passes, Restarts, happened, run, Timely, AreNames, Names, Ends, called, later, lost, restarted, receipt_at, LinkState, is_client, is_open, Identity, Role, CallsOn, Links, LinksEvent, LosesAny, PassesFor, RestartsOn, events_on, happened_to, is_oldest_on, run_on, seen, sent_by, NodeCall, calls_of, restarts_of}
use Rattle.simulator_recovery.proofs.Words.Controllers.{LinkCall, AreCallsFor, AreOwn, Input, as_call}
use Rattle.simulator_spec.specs.object_host.Host as host
use Rattle.simulator_recovery.proofs.Lemmas.Silence.Fresh.{OwnConnection, taken_stamp}
use Rattle.simulator_recovery.proofs.Lemmas.Silence.Stamps.{Leaves, Received, began, closing_by_leaves, left, received, sending_item_leaves, settled_leaves, ticking_leaves, took}

-- ---- what is kept of a server's own stamp, over everything that happens to two ends

-- The own stamp of a link that is in a connection, and has taken an item there, was read at this true time or before.
abbrev pub IsOfThen : (made time clock : ℕ) → LinkState → Type 0
IsOfThen made time clock link = is_open link.phase ≡ true → 1 ≤ link.taken → 999 * time + 1000000 * link.own_stamp ≤ 1000 * clock + 999 * made + 10000

abbrev pub ServerIsOfThen : ℕ → Ends → Type 0
ServerIsOfThen made ends = IsOfThen made ends.time ends.server.clock ends.server.link

-- what the server takes in an event was made at this time or before; and a server opens nothing
abbrev pub HearsBy : ℕ → Event → Ends → Type 0
HearsBy made (Calls Role.Server (Receives bytes connection)) ends =
    is_taken (receipt_at Role.Server bytes ends).verdict ≡ true → (datagram : Sent) × IsDelivered ends bytes connection datagram × (datagram.at ≤ made)
HearsBy made (Calls Role.Server Opens) ends = ⊥
HearsBy made _ ends = Unit {0}

abbrev pub HearsAllBy : ℕ → List Event → Ends → Type 0
HearsAllBy made [] ends = Unit {0}
HearsAllBy made (first ∷ others) ends = HearsBy made first ends × HearsAllBy made others (happened first ends)

pub hears_joined : (made : ℕ) (one other : List Event) (ends : Ends) → HearsAllBy made one ends → HearsAllBy made other (run one ends) → HearsAllBy made (one ++ other) ends
hears_joined made [] other ends first second = second
hears_joined made (event ∷ one) other ends first second = (first.0, hears_joined made one other (happened event ends) first.1 second)

left_as : (made time clock : ℕ) (l k : LinkState) → Leaves l k → IsOfThen made time clock l → IsOfThen made time clock k
left_as made time clock l k leaves is opened some =
    let same = leaves opened
    in let stamp = same.1
    in let count = same.2
    in let then_is = is same.0 (omega (arith, some, count))
    in omega (arith, then_is, stamp)

module _ (own : OwnConnection) (made : ℕ) (names : Names) (are : AreNames names) where
  module _ (ends : Ends) (timely : Timely names ends) (is : ServerIsOfThen made ends) where
    abbrev now : ℕ
    now = reading_of ends.server.clock

    abbrev l : LinkState
    l = ends.server.link

    after_bytes : (bytes : List ℕ) (connection : ℕ) → HearsBy made (Calls Role.Server (Receives bytes connection)) ends
        → Received now bytes l (receiving now bytes l).link (is_taken (receiving now bytes l).verdict) → IsOfThen made ends.time ends.server.clock (receiving now bytes l).link
    after_bytes bytes connection hears (left stays) = left_as made ends.time ends.server.clock l (receiving now bytes l).link stays is
    after_bytes bytes connection hears (began none) = λ opened some. absurd (omega (arith, some, none))
    after_bytes bytes connection hears (took taken) = λ opened some.
        let by = hears taken.is
        in let stamped = taken_stamp own names ends are timely bytes connection by.0 by.1 taken.pdu taken.read taken.mine taken.inside taken.answers
        in let before = by.2
        in let stamp_is = taken.stamp_is
        in omega (arith, stamped, before, stamp_is)

    is_server : is_client l.identity.role ≡ false
    is_server = ap (λ (i : Identity). is_client i.role) timely.server.identity

    at_server : (call : Call) → HearsBy made (Calls Role.Server call) ends → ServerIsOfThen made (called Role.Server call ends)
    unfolding called outcome end_after
    at_server Ticks hears = left_as made ends.time ends.server.clock l (ticking now l).link (ticking_leaves now l) is
    at_server Opens hears = absurd hears
    at_server (Closes why) hears = left_as made ends.time ends.server.clock l (closing_by now why l).link (closing_by_leaves now why l) is
    at_server (Sends item) hears = left_as made ends.time ends.server.clock l (sending_item now item l).link (sending_item_leaves now item l) is
    at_server (Receives bytes connection) hears = after_bytes bytes connection hears (received now bytes l is_server)

    at_client : (call : Call) → ServerIsOfThen made (called Role.Client call ends)
    unfolding called
    at_client call = is

    in_time : (elapsed of_client of_server : ℕ) → 999 * elapsed ≤ 1000 * of_server → ServerIsOfThen made (later elapsed of_client of_server ends)
    unfolding later end_later
    in_time elapsed of_client of_server least = λ opened some.
        let same = settled_leaves (reading_of (ends.server.clock + of_server)) l opened
        in let stamp = same.1
        in let count = same.2
        in let then_is = is same.0 (omega (arith, some, count))
        in omega (arith, then_is, stamp, least)

    in_loss : (bytes : List ℕ) → ServerIsOfThen made (lost bytes ends)
    unfolding lost
    in_loss bytes = is

    at_client_anew : (clock first : ℕ) → ServerIsOfThen made (restarted Role.Client clock first ends)
    unfolding restarted
    at_client_anew clock first = is

    at_server_anew : (clock first : ℕ) → ServerIsOfThen made (restarted Role.Server clock first ends)
    unfolding restarted end_restarted created
    at_server_anew clock first = λ opened some. absurd (cc opened)

    kept : (event : Event) → May names event ends → HearsBy made event ends → ServerIsOfThen made (happened event ends)
    kept (Calls Role.Client call) may hears = at_client call
    kept (Calls Role.Server call) may hears = at_server call hears
    kept (Passes elapsed of_client of_server) may hears = in_time elapsed of_client of_server may.1.least
    kept (Loses bytes) may hears = in_loss bytes
    kept (Restarts Role.Client clock first) may hears = at_client_anew clock first
    kept (Restarts Role.Server clock first) may hears = at_server_anew clock first
    kept (Elsewhere count) may hears = is

  pub all_kept : ((event : Event) (ends : Ends) → Timely names ends → May names event ends → Timely names (happened event ends))
      → (events : List Event) (ends : Ends) → Timely names ends → ServerIsOfThen made ends → MayRun names events ends → HearsAllBy made events ends → ServerIsOfThen made (run events ends)
  all_kept keeps [] ends timely is may hears = is
  all_kept keeps (first ∷ others) ends timely is may hears =
      all_kept keeps others (happened first ends) (keeps first ends timely may.0) (kept ends timely is first may.0 hears.0) may.1 hears.1

-- ---- what the server of one link hears in the events of a world's links

-- each link sees what happens to it
abbrev pub SeesEvents : Type 0
SeesEvents = (link : ℕ) (event : LinksEvent) (links : Links) → seen link (happened_to event links) ≡ run (events_on link event links) (seen link links)

-- an event in which no server is given anything to hear
abbrev pub IsSilent : LinksEvent → Type 0
IsSilent (CallsOn link Role.Server (Receives bytes connection)) = ⊥
IsSilent (CallsOn link Role.Server Opens) = ⊥
IsSilent _ = Unit {0}

abbrev pub AreSilent : List LinksEvent → Type 0
AreSilent [] = Unit {0}
AreSilent (first ∷ others) = IsSilent first × AreSilent others

-- the calls of a host as events of its link
abbrev pub as_events : (connection at : ℕ) → List LinkCall → List LinksEvent
as_events connection at calls = map (λ call. CallsOn at Role.Server call) (map (as_call connection) calls)

one_of : (made : ℕ) (b : Bool) (one other : List Event) (ends : Ends) → HearsAllBy made one ends → HearsAllBy made other ends → HearsAllBy made (if b then one else other) ends
one_of made true one other ends first second = first
one_of made false one other ends first second = second

module _ (sees : SeesEvents) (made link : ℕ) where
  -- what the link's server takes in these events was made at this time or before
  abbrev pub LinkHearsBy : List LinksEvent → Links → Type 0
  LinkHearsBy events links = HearsAllBy made (run_on link events links) (seen link links)

  pub hears_then : (first : LinksEvent) (others : List LinksEvent) (links : Links) → HearsAllBy made (events_on link first links) (seen link links)
      → LinkHearsBy others (happened_to first links) → LinkHearsBy (first ∷ others) links
  hears_then first others links one rest = hears_joined made (events_on link first links) (run_on link others (happened_to first links)) (seen link links) one
      (subst (HearsAllBy made (run_on link others (happened_to first links))) (sees link first links) rest)

  silent_hears : (event : LinksEvent) (links : Links) → IsSilent event → HearsAllBy made (events_on link event links) (seen link links)
  silent_hears (CallsOn at Role.Client call) links silent = one_of made (link == at) (Calls Role.Client call ∷ []) (Elsewhere (length (sent_by Role.Client call (seen at links))) ∷ []) (seen link links) (tt, tt) (tt, tt)
  silent_hears (CallsOn at Role.Server Ticks) links silent = one_of made (link == at) (Calls Role.Server Ticks ∷ []) (Elsewhere (length (sent_by Role.Server Ticks (seen at links))) ∷ []) (seen link links) (tt, tt) (tt, tt)
  silent_hears (CallsOn at Role.Server Opens) links silent = absurd silent
  silent_hears (CallsOn at Role.Server (Closes why)) links silent = one_of made (link == at) (Calls Role.Server (Closes why) ∷ []) (Elsewhere (length (sent_by Role.Server (Closes why) (seen at links))) ∷ []) (seen link links) (tt, tt) (tt, tt)
  silent_hears (CallsOn at Role.Server (Sends item)) links silent = one_of made (link == at) (Calls Role.Server (Sends item) ∷ []) (Elsewhere (length (sent_by Role.Server (Sends item) (seen at links))) ∷ []) (seen link links) (tt, tt) (tt, tt)
  silent_hears (CallsOn at Role.Server (Receives bytes connection)) links silent = absurd silent
  silent_hears (PassesFor elapsed of_clients of_servers) links silent = (tt, tt)
  silent_hears (LosesAny bytes) links silent = one_of made (is_oldest_on link bytes links.sent) (Loses bytes ∷ []) [] (seen link links) (tt, tt) tt
  silent_hears (RestartsOn at who clock first) links silent = one_of made (link == at) (Restarts who clock first ∷ []) [] (seen link links) (tt, tt) tt

  pub all_silent : (events : List LinksEvent) (links : Links) → AreSilent events → LinkHearsBy events links
  all_silent [] links silent = tt
  all_silent (first ∷ others) links silent = hears_then first others links (silent_hears first links silent.0) (all_silent others (happened_to first links) silent.1)

  -- ---- what comes at a server

  receives : (at : ℕ) (bytes : List ℕ) (connection : ℕ) (links : Links) → (at ≡ link → HearsBy made (Calls Role.Server (Receives bytes connection)) (seen link links))
      → HearsAllBy made (events_on link (CallsOn at Role.Server (Receives bytes connection)) links) (seen link links)
  receives at bytes connection links here = choose (link == at) refl
    where
      choose : (b : Bool) → (link == at) ≡ b
          → HearsAllBy made (if b then Calls Role.Server (Receives bytes connection) ∷ [] else Elsewhere (length (sent_by Role.Server (Receives bytes connection) (seen at links))) ∷ []) (seen link links)
      choose true e = (here (sym (eqb-true link at e)), tt)
      choose false e = (tt, tt)

  -- ---- the calls of a host

  own_silent : (connection at : ℕ) (calls : List LinkCall) → AreOwn calls → AreSilent (as_events connection at calls)
  own_silent connection at [] own = tt
  own_silent connection at (host.Ticks ∷ others) own = (tt, own_silent connection at others own.1)
  own_silent connection at (host.Closes why ∷ others) own = (tt, own_silent connection at others own.1)
  own_silent connection at (host.Sends item ∷ others) own = (tt, own_silent connection at others own.1)
  own_silent connection at (host.Receives bytes ∷ others) own = absurd own.0

  -- what it hears is the datagram that comes
  abbrev pub ComesBy : Input → (connection at : ℕ) → Links → Type 0
  ComesBy (Input.Datagram bytes) connection at links = at ≡ link → HearsBy made (Calls Role.Server (Receives bytes.now connection)) (seen link links)
  ComesBy _ connection at links = Unit {0}

  pub host_hears : (input : Input) (connection at : ℕ) (calls : List LinkCall) (links : Links) → AreCallsFor input calls → ComesBy input connection at links
      → LinkHearsBy (as_events connection at calls) links
  host_hears Input.Tick connection at calls links fits comes = all_silent (as_events connection at calls) links (own_silent connection at calls fits)
  host_hears (Input.Sense sense) connection at calls links fits comes = all_silent (as_events connection at calls) links (own_silent connection at calls fits)
  host_hears (Input.Datagram bytes) connection at calls links fits comes =
      subst (λ (made_of : List LinkCall). LinkHearsBy (as_events connection at made_of) links) (sym fits.1)
      (hears_then (CallsOn at Role.Server (Receives bytes.now connection)) (as_events connection at fits.0) links (receives at bytes.now connection links comes)
      (all_silent (as_events connection at fits.0) _ (own_silent connection at fits.0 fits.2)))

-- ---- the calls of the interlocking, and restarts

pub clients_silent : (calls : List NodeCall) → AreSilent (calls_of Role.Client calls)
clients_silent [] = tt
clients_silent (first ∷ others) = (tt, clients_silent others)

pub restarts_silent : (clock : ℕ) (firsts : ℕ → ℕ) (numbers : List ℕ) → AreSilent (restarts_of Role.Client clock firsts numbers)
restarts_silent clock firsts [] = tt
restarts_silent clock firsts (first ∷ others) = (tt, restarts_silent clock firsts others)
