-- Each link of a world has a run of its own.
use Rattle.std.proofs.Common.{◌≡◌, ◌≢◌, refl, sym, subst, ap, ◌∙◌, inl, inr, ℕ, ◌<◌, Bool, true, false, List, [], ◌∷◌, ◌++◌, length, Ok}
use Rattle.std.specs.Prelude.{◌⊎◌, ◌==◌, if◌then◌else◌}
use Rattle.rasta_core_spec.specs.identity.Role.{Role}
use Rattle.rasta_core_spec.specs.identity.Role.TheVariants.{Client, Server}
use Rattle.rasta_core_spec.specs.Bag.{is_copy}
use Rattle.rasta_core_spec.specs.Ends.{Sent, Call, Ticks, Opens, Closes, Sends, Receives}
use Rattle.rasta_core_spec.specs.Run.{Ends}
use Rattle.rasta_core_spec.specs.Each.{Each}
use Rattle.rasta_core.specs.TimedEnds.{Times, times_of}
use Rattle.rasta_core_spec.specs.Names.{partner_of, AreNames, Names, name_of}
use Rattle.rasta_core.specs.Invariant.{InFlight, Timely}
use Rattle.rasta_core_spec.specs.Events.{AreForeign, Calls, Elsewhere, Event, IsAmong, IsDelivered, Loses, MayCall, MayRun, Restarts, Start, run, started}
use Rattle.rasta_core_spec.specs.PduRead.{reading}
use Rattle.rasta_core_spec.specs.SafetyCode.{IsIntact}
use Rattle.rasta_core.specs.EachLink.{AreTimely}
use Rattle.rasta_core.specs.Links.{AreLinks, CallsOn, IsAmongAll, Links, LinksEvent, LinksStart, LosesAny, MayCallOn, MayHappenTo, MayRunLinks, OnLink, PassesFor, RestartsOn, WasSent, begun, events_on, happened_to, is_oldest_on, run_links, run_on, seen, sent_by, sent_on, start_of, without_oldest_of_all}
use Rattle.rasta_core.proofs.LinkRuns.{may_then, run_then}
use Rattle.rasta_core.proofs.Views.{all_later, among_link, itself, loses_other, loses_own, other_call, other_lost, other_number, other_restart, own_call, own_lost, own_restart, same_number}

-- every list of events of two ends keeps time
abbrev pub KeepsTime : Type 0
KeepsTime = (names : Names) (events : List Event) (ends : Ends) → AreNames names → Timely names ends → MayRun names events ends → Timely names (run events ends)

-- ---- one datagram

among_numbered : (count : ℕ) (one : OnLink) (sent : List OnLink) → IsAmongAll one sent → Each (λ o. o.link < count) sent → one.link < count
among_numbered count one [] among numbered = absurd among
among_numbered count one (first ∷ others) (inl same) numbered = subst (λ (o : OnLink). o.link < count) same numbered.0
among_numbered count one (first ∷ others) (inr later) numbered = among_numbered count one others later numbered.1

among_each : (P : Sent → Type 0) (datagram : Sent) (sent : List Sent) → IsAmong datagram sent → Each P sent → P datagram
among_each P datagram [] among each = absurd among
among_each P datagram (first ∷ others) (inl same) each = subst P same each.0
among_each P datagram (first ∷ others) (inr later) each = among_each P datagram others later each.1

-- a PDU between the ends of one link isn't for an end of another
not_for : (mine theirs : Names) → mine.server ≢ theirs.server → mine.server ≢ theirs.client → (who sender : Role) (receiver_name sender_name : ℕ)
    → receiver_name ≡ name_of (partner_of sender) theirs → sender_name ≡ name_of sender theirs
    → receiver_name ≡ name_of who mine → sender_name ≡ name_of (partner_of who) mine → ⊥
not_for mine theirs servers client Client Client receiver_name sender_name r s mr ms = client (sym ms ∙ s)
not_for mine theirs servers client Client Server receiver_name sender_name r s mr ms = servers (sym ms ∙ s)
not_for mine theirs servers client Server Client receiver_name sender_name r s mr ms = servers (sym mr ∙ r)
not_for mine theirs servers client Server Server receiver_name sender_name r s mr ms = client (sym mr ∙ r)

foreign : (mine theirs : Names) (who : Role) (ends : Ends) (bytes : List ℕ) (datagram : Sent) → mine.key ≡ theirs.key → mine.server ≢ theirs.server → mine.server ≢ theirs.client
    → Timely theirs ends → IsAmong datagram ends.sent → datagram.bytes ≡ bytes → AreForeign mine who bytes
foreign mine theirs who ends bytes datagram key servers client timely among same =
    (flies.pdu, flies.is_pdu, read, λ meant. not_for mine theirs servers client who datagram.sender flies.pdu.receiver flies.pdu.sender flies.receiver flies.sender meant.receiver meant.sender)
  where
    times : Times
    times = times_of ends timely.of_client timely.of_server timely.newest

    flies : InFlight theirs times datagram
    flies = among_each (InFlight theirs times) datagram ends.sent among timely.datagrams

    read : reading mine.key bytes ≡ Ok flies.pdu
    read = ap (λ k. reading k bytes) key ∙ ap (reading theirs.key) (sym same) ∙ flies.read

-- what was sent on a link is delivered there
pub own_delivery : (links : Links) (bytes : List ℕ) (connection : ℕ) (one : OnLink) → WasSent links bytes connection one → IsDelivered (seen one.link links) bytes connection one.datagram
own_delivery links bytes connection one sent = record {
  was_sent = among_link one.link one links.sent (itself one.link) sent.among;
  bytes_same = sent.bytes_same;
  connection_same = sent.connection_same;
  in_time = sent.in_time;
}

-- and is of another link everywhere else
pub other_delivery : (count : ℕ) (names : ℕ → Names) (links : Links) → AreLinks count names → AreTimely count names links → (link : ℕ) → link < count
    → (who : Role) (bytes : List ℕ) (connection : ℕ) (one : OnLink) → WasSent links bytes connection one → link ≢ one.link → AreForeign (names link) who bytes
other_delivery count names links are is link below who bytes connection one sent differ =
    let theirs = among_numbered count one links.sent sent.among is.numbered
    in let apart = are.apart link one.link below theirs differ
    in foreign (names link) (names one.link) who (seen one.link links) bytes one.datagram (are.one_key link one.link below theirs) apart.0 apart.1 (is.each one.link theirs)
    (among_link one.link one links.sent (itself one.link) sent.among) sent.bytes_same

-- what comes to an end of a link was sent on it, or isn't intact, or is of another link
receives : (count : ℕ) (names : ℕ → Names) (links : Links) → AreLinks count names → AreTimely count names links → (link : ℕ) → link < count
    → (who : Role) (bytes : List ℕ) (connection : ℕ) → ((one : OnLink) × WasSent links bytes connection one) ⊎ (IsIntact (names link).key bytes → ⊥)
    → MayCall (names link) who (Receives bytes connection) (seen link links)
receives count names links are is link below who bytes connection (inr damaged) = inr (inl damaged)
receives count names links are is link below who bytes connection (inl (one, sent)) = by_place (one.link == link) refl where
  by_place : (mine : Bool) → (one.link == link) ≡ mine → MayCall (names link) who (Receives bytes connection) (seen link links)
  by_place true e = inl (
    one.datagram,
    subst (λ (l : ℕ). IsDelivered (seen l links) bytes connection one.datagram) (same_number one.link link e) (own_delivery links bytes connection one sent),
  )
  by_place false e = inr (inr (other_delivery count names links are is link below who bytes connection one sent (λ same. other_number one.link link e (sym same))))

may_call : (count : ℕ) (names : ℕ → Names) (links : Links) → AreLinks count names → AreTimely count names links → (link : ℕ) → link < count
    → (who : Role) (call : Call) → MayCallOn (names link) call links → MayCall (names link) who call (seen link links)
may_call count names links are is link below who Ticks may = tt
may_call count names links are is link below who Opens may = tt
may_call count names links are is link below who (Closes why) may = tt
may_call count names links are is link below who (Sends item) may = may
may_call count names links are is link below who (Receives bytes connection) may = receives count names links are is link below who bytes connection may

-- ---- each event

-- by whether an event is at this link
pub by_link : (P : List Event → Type 0) (mine : Bool) (own others : List Event) → (mine ≡ true → P own) → (mine ≡ false → P others) → P (if mine then own else others)
by_link P true own others if_own if_others = if_own refl
by_link P false own others if_own if_others = if_others refl

-- what a link sees after an event is what the events that it is to the link make of what it saw before
pub sees : (link : ℕ) (event : LinksEvent) (links : Links) → seen link (happened_to event links) ≡ run (events_on link event links) (seen link links)
sees link (CallsOn at who call) links =
    by_link (λ events. seen link (happened_to (CallsOn at who call) links) ≡ run events (seen link links)) (link == at) (Calls who call ∷ []) (Elsewhere (length (sent_by who call (seen at links))) ∷ [])
    (λ e. ap (λ (l : ℕ). seen link (happened_to (CallsOn l who call) links)) (sym (same_number link at e)) ∙ own_call link who call links)
    (λ e. other_call at link who call links e)
sees link (PassesFor elapsed of_clients of_servers) links = all_later link elapsed of_clients of_servers links
sees link (LosesAny bytes) links =
    by_link (λ events. seen link (happened_to (LosesAny bytes) links) ≡ run events (seen link links)) (is_oldest_on link bytes links.sent) (Loses bytes ∷ []) []
    (λ e. own_lost link bytes links (loses_own link bytes links.sent e))
    (λ e. other_lost link bytes links (loses_other link bytes links.sent e))
sees link (RestartsOn at who clock first) links =
    by_link (λ events. seen link (happened_to (RestartsOn at who clock first) links) ≡ run events (seen link links)) (link == at) (Restarts who clock first ∷ []) []
    (λ e. ap (λ (l : ℕ). seen link (happened_to (RestartsOn l who clock first) links)) (sym (same_number link at e)) ∙ own_restart link who clock first links)
    (λ e. other_restart at link who clock first links e)

pub may_happen : (count : ℕ) (names : ℕ → Names) (event : LinksEvent) (links : Links) → AreLinks count names → AreTimely count names links
    → MayHappenTo count names event links → (link : ℕ) → link < count → MayRun (names link) (events_on link event links) (seen link links)
may_happen count names (CallsOn at who call) links are is may link below =
    by_link (λ events. MayRun (names link) events (seen link links)) (link == at) (Calls who call ∷ []) (Elsewhere (length (sent_by who call (seen at links))) ∷ [])
    (λ e. (may_call count names links are is link below who call (subst (λ (l : ℕ). MayCallOn (names l) call links) (sym (same_number link at e)) may.1), tt))
    (λ e. (tt, tt))
may_happen count names (PassesFor elapsed of_clients of_servers) links are is may link below = (may link below, tt)
may_happen count names (LosesAny bytes) links are is may link below =
    by_link (λ events. MayRun (names link) events (seen link links)) (is_oldest_on link bytes links.sent) (Loses bytes ∷ []) [] (λ e. (tt, tt)) (λ e. tt)
may_happen count names (RestartsOn at who clock first) links are is may link below =
    by_link (λ events. MayRun (names link) events (seen link links)) (link == at) (Restarts who clock first ∷ []) [] (λ e. (tt, tt)) (λ e. tt)

-- ---- the numbers of links

numbered_append : (count : ℕ) (earlier later : List OnLink) → Each (λ o. o.link < count) earlier → Each (λ o. o.link < count) later → Each (λ o. o.link < count) (earlier ++ later)
numbered_append count [] later first second = second
numbered_append count (one ∷ others) later first second = (first.0, numbered_append count others later first.1 second)

numbered_sent : (count link : ℕ) (sent : List Sent) → link < count → Each (λ o. o.link < count) (sent_on link sent)
numbered_sent count link [] below = tt
numbered_sent count link (one ∷ others) below = (below, numbered_sent count link others below)

numbered_lost : (count : ℕ) (bytes : List ℕ) (sent : List OnLink) → Each (λ o. o.link < count) sent → Each (λ o. o.link < count) (without_oldest_of_all bytes sent)
numbered_lost count bytes [] numbered = tt
numbered_lost count bytes (first ∷ others) numbered = by_copy (is_copy bytes first.datagram) refl (numbered_lost count bytes others numbered.1) where
  by_copy : (copy : Bool) → is_copy bytes first.datagram ≡ copy → Each (λ o. o.link < count) (without_oldest_of_all bytes others) → Each (λ o. o.link < count) (without_oldest_of_all bytes (first ∷ others))
  by_copy true e inner = rw e (numbered.0, numbered.1)
  by_copy false e inner = rw e (numbered.0, inner)

pub numbered_after : (count : ℕ) (names : ℕ → Names) (event : LinksEvent) (links : Links) → MayHappenTo count names event links → Each (λ o. o.link < count) links.sent
    → Each (λ o. o.link < count) (happened_to event links).sent
numbered_after count names (CallsOn at who call) links may numbered =
    numbered_append count links.sent _ numbered (numbered_sent count at (sent_by who call (seen at links)) may.0)
numbered_after count names (PassesFor elapsed of_clients of_servers) links may numbered = numbered
numbered_after count names (LosesAny bytes) links may numbered = numbered_lost count bytes links.sent numbered
numbered_after count names (RestartsOn at who clock first) links may numbered = numbered

-- ---- every event keeps time at each link

pub begins : ((names : Names) (start : Start) → AreNames names → Timely names (started names start)) → (count : ℕ) (names : ℕ → Names) (start : LinksStart) → AreLinks count names
    → AreTimely count names (begun names start)
begins starts count names start are = record { each = λ link below. starts (names link) (start_of link start) (are.each link below); numbered = tt }

pub time_kept : KeepsTime → (count : ℕ) (names : ℕ → Names) (event : LinksEvent) (links : Links) → AreLinks count names → AreTimely count names links
    → MayHappenTo count names event links → AreTimely count names (happened_to event links)
time_kept keeps count names event links are is may = record {
  each = λ link below. subst (λ (ends : Ends). Timely (names link) ends) (sym (sees link event links))
      (keeps (names link) (events_on link event links) (seen link links) (are.each link below) (is.each link below) (may_happen count names event links are is may link below));
  numbered = numbered_after count names event links may is.numbered;
}

pub run_keeps_time : KeepsTime → (count : ℕ) (names : ℕ → Names) (events : List LinksEvent) (links : Links) → AreLinks count names → AreTimely count names links
    → MayRunLinks count names events links → AreTimely count names (run_links events links)
run_keeps_time keeps count names [] links are is may = is
run_keeps_time keeps count names (first ∷ others) links are is may =
    run_keeps_time keeps count names others (happened_to first links) are (time_kept keeps count names first links are is may.0) may.1

-- ---- every list of events

pub run_seen : (link : ℕ) (events : List LinksEvent) (links : Links) → seen link (run_links events links) ≡ run (run_on link events links) (seen link links)
run_seen link [] links = refl
run_seen link (first ∷ others) links =
    run_seen link others (happened_to first links)
    ∙ ap (λ (ends : Ends). run (run_on link others (happened_to first links)) ends) (sees link first links)
    ∙ sym (run_then (events_on link first links) (run_on link others (happened_to first links)) (seen link links))

pub may_run : KeepsTime → (count : ℕ) (names : ℕ → Names) (events : List LinksEvent) (links : Links) → AreLinks count names → AreTimely count names links
    → MayRunLinks count names events links → (link : ℕ) → link < count → MayRun (names link) (run_on link events links) (seen link links)
may_run keeps count names [] links are is may link below = tt
may_run keeps count names (first ∷ others) links are is may link below =
    may_then (names link) (events_on link first links) (run_on link others (happened_to first links)) (seen link links)
    (may_happen count names first links are is may.0 link below)
    (subst (λ (ends : Ends). MayRun (names link) (run_on link others (happened_to first links)) ends) (sees link first links)
    (may_run keeps count names others (happened_to first links) are (time_kept keeps count names first links are is may.0) may.1 link below))
