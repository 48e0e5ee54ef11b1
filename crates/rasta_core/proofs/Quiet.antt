-- How long the client of a link has been outside, event by event of a world.
use Rattle.std.proofs.Common.{◌≡◌, ℕ, ◌<◌, sym, subst, Bool, true, false, List, [], ◌∷◌}
use Rattle.std.specs.Prelude.{◌==◌, if◌then◌else◌}
use Rattle.rasta_core_spec.specs.State.{is_open}
use Rattle.rasta_core_spec.specs.identity.Role.TheVariants as role
use Rattle.rasta_core_spec.specs.identity.Role.TheVariants.{Client, Server}
use Rattle.rasta_core_spec.specs.Events.{Calls, Elsewhere, Event, Loses, May, MayRun, Restarts, happened, run}
use Rattle.rasta_core_spec.specs.Names.{AreNames, Names}
use Rattle.rasta_core_spec.specs.Run.{Ends}
use Rattle.rasta_core_spec.specs.Sentences.{IsIn, IsOut, LeavesClient}
use Rattle.rasta_core.specs.Invariant.{HasBeenOut, Timely}
use Rattle.rasta_core.specs.EachLink.{AreTimely}
use Rattle.rasta_core.specs.Links.{AreLinks, CallsOn, LeavesClientOf, Links, LinksEvent, LosesAny, MayHappenTo, PassesFor, RestartsOn, events_on, happened_to, is_oldest_on, seen}
use Rattle.rasta_core.proofs.Projection.{by_link, may_happen, sees}
use Rattle.rasta_core.proofs.Views.{itself, same_number}

-- one event of two ends at most, which doesn't make the client anew
abbrev IsOne : List Event → Type 0
IsOne [] = Unit {0}
IsOne (first ∷ []) = LeavesClient first
IsOne (first ∷ second ∷ others) = ⊥

one_event : (link : ℕ) (event : LinksEvent) (links : Links) → LeavesClientOf link event → IsOne (events_on link event links)
one_event link (CallsOn at who call) links leaves = by_link IsOne (link == at) (Calls who call ∷ []) (Elsewhere _ ∷ []) (λ e. tt) (λ e. tt)
one_event link (PassesFor elapsed of_clients of_servers) links leaves = tt
one_event link (LosesAny bytes) links leaves = by_link IsOne (is_oldest_on link bytes links.sent) (Loses bytes ∷ []) [] (λ e. tt) (λ e. tt)
one_event link (RestartsOn at Client clock first) links leaves =
    by_link IsOne (link == at) (Restarts Client clock first ∷ []) [] (λ e. absurd (leaves (same_number link at e))) (λ e. tt)
one_event link (RestartsOn at Server clock first) links leaves =
    by_link IsOne (link == at) (Restarts Server clock first ∷ []) [] (λ e. tt) (λ e. tt)

-- the laws of two ends
abbrev pub Leaves : Type 0
Leaves = (names : Names) (event : Event) (ends : Ends) → AreNames names → Timely names ends → May names event ends → LeavesClient event → IsIn role.Client ends → IsOut role.Client (happened event ends)
    → HasBeenOut names (happened event ends).client.link.closed_at (happened event ends)

abbrev pub StaysOut : Type 0
StaysOut = (names : Names) (since : ℕ) (event : Event) (ends : Ends) → AreNames names → HasBeenOut names since ends → May names event ends → LeavesClient event → IsOut role.Client (happened event ends)
    → HasBeenOut names since (happened event ends)

not_both : {A : Type 0} (b : Bool) → b ≡ true → b ≡ false → A
not_both true is not = absurd (cc not)
not_both false is not = absurd (cc is)

one_left : Leaves → (names : Names) (events : List Event) (ends : Ends) → AreNames names → Timely names ends → MayRun names events ends → IsOne events → IsIn role.Client ends → IsOut role.Client (run events ends)
    → HasBeenOut names (run events ends).client.link.closed_at (run events ends)
one_left law names [] ends are timely may one inside outside = not_both (is_open ends.client.link.phase) inside outside
one_left law names (first ∷ []) ends are timely may one inside outside = law names first ends are timely may.0 one inside outside
one_left law names (first ∷ second ∷ others) ends are timely may one inside outside = absurd one

one_stays : StaysOut → (names : Names) (since : ℕ) (events : List Event) (ends : Ends) → AreNames names → HasBeenOut names since ends → MayRun names events ends → IsOne events → IsOut role.Client (run events ends)
    → HasBeenOut names since (run events ends)
one_stays law names since [] ends are before may one outside = before
one_stays law names since (first ∷ []) ends are before may one outside = law names since first ends are before may.0 one outside
one_stays law names since (first ∷ second ∷ others) ends are before may one outside = absurd one

pub link_left : Leaves → (count : ℕ) (names : ℕ → Names) (event : LinksEvent) (links : Links) → AreLinks count names → AreTimely count names links → MayHappenTo count names event links
    → (link : ℕ) → link < count → LeavesClientOf link event → IsIn role.Client (seen link links) → IsOut role.Client (seen link (happened_to event links))
    → HasBeenOut (names link) (seen link (happened_to event links)).client.link.closed_at (seen link (happened_to event links))
link_left law count names event links are is may link below leaves inside outside =
    subst (λ (ends : Ends). HasBeenOut (names link) ends.client.link.closed_at ends) (sym (sees link event links))
    (one_left law (names link) (events_on link event links) (seen link links) (are.each link below) (is.each link below) (may_happen count names event links are is may link below)
    (one_event link event links leaves) inside (subst (λ (ends : Ends). IsOut role.Client ends) (sees link event links) outside))

pub link_stays : StaysOut → (count : ℕ) (names : ℕ → Names) (since : ℕ) (event : LinksEvent) (links : Links) → AreLinks count names → AreTimely count names links → MayHappenTo count names event links
    → (link : ℕ) → link < count → LeavesClientOf link event → HasBeenOut (names link) since (seen link links) → IsOut role.Client (seen link (happened_to event links))
    → HasBeenOut (names link) since (seen link (happened_to event links))
link_stays law count names since event links are is may link below leaves before outside =
    subst (λ (ends : Ends). HasBeenOut (names link) since ends) (sym (sees link event links))
    (one_stays law (names link) since (events_on link event links) (seen link links) (are.each link below) before (may_happen count names event links are is may link below)
    (one_event link event links leaves) (subst (λ (ends : Ends). IsOut role.Client ends) (sees link event links) outside))

-- the client of a link is made anew
pub link_anew : ((names : Names) (clock first : ℕ) (ends : Ends) → Timely names ends → HasBeenOut names clock (happened (Restarts role.Client clock first) ends))
    → (count : ℕ) (names : ℕ → Names) (link clock first : ℕ) (links : Links) → AreTimely count names links → link < count
    → HasBeenOut (names link) clock (seen link (happened_to (RestartsOn link role.Client clock first) links))
link_anew law count names link clock first links is below =
    subst (λ (ends : Ends). HasBeenOut (names link) clock ends) (sym (sees link (RestartsOn link role.Client clock first) links))
    (by_own (λ events. HasBeenOut (names link) clock (run events (seen link links))) (link == link) (itself link) (Restarts role.Client clock first ∷ []) [] (law (names link) clock first (seen link links) (is.each link below)))
  where
    by_own : (P : List Event → Type 0) (mine : Bool) → mine ≡ true → (own others : List Event) → P own → P (if mine then own else others)
    by_own P true e own others holds = holds
    by_own P false e own others holds = absurd (cc e)
