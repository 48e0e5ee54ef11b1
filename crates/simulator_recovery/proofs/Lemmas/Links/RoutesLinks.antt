-- The interlocking's link to a controller that is up at the ends of two good rounds, one after the other, is up after each event between them.
use Rattle.simulator_recovery.proofs.Words.Basics.{◌≡◌, ℕ, ◌<◌, ◌≤◌, Bool, true, false, not, List, ◌++◌, Some, slice_get, refl, sym, ap, subst, ◌∙◌, arith, false≢true, same_Some}
use Rattle.simulator_recovery.proofs.Words.Links.{deadline, settled, reading_of, Event as LinkEvent, MayRun, run, Links, LinksEvent, run_links, run_on, seen, AreNames, Names, Ordered, Ends, stops_at_greatest, LinkState, is_open, is_up}
use Rattle.simulator_recovery.proofs.Words.Interlockings.{ClientState, is_outside, is_ready, Stage, SitedTable}
use Rattle.simulator_recovery.proofs.Words.Stations.{Site, Once, IsStation, Event, AreLinksOf, names_at, links, partners, WorldState, Played, IsWhole, client_states, IsReached}
use Rattle.simulator_recovery.proofs.Words.Recovery.{ClientHasActedOn, AllStandByCounts, ClientStandsByCounts, all_events_tried, IsClientUp, LawsBelow}
use Rattle.simulator_recovery.proofs.Lemmas.Ground.ClientItem.{partners_length}
use Rattle.simulator_recovery.proofs.Lemmas.Ground.AtLink.{Found, found}
use Rattle.simulator_recovery.proofs.Lemmas.Ground.LinkCounts.{settled_open}
use Rattle.simulator_recovery.proofs.Lemmas.Rounds.LinkRounds.{Followed, HasThese, after_each, all_followed, are_links, events_both, links_both}
use Rattle.simulator_recovery.proofs.Lemmas.Ground.EndCalls.{at_place}
use Rattle.simulator_recovery.proofs.Lemmas.Links.RoutesConnection.{AreHeld, are_held}
use Rattle.simulator_recovery.proofs.Lemmas.Silence.Spent.{settled_taken}

-- ---- the client of a link

-- one that is open, and has taken something in its connection, is up
inside_up : (client : ClientState) → ClientStandsByCounts client → is_open client.link.phase ≡ true → 1 ≤ client.link.taken → is_up client.link.phase ≡ true
inside_up client stands opened some = choose (is_up client.link.phase) refl
  where
    none_taken : (s : Stage) → is_outside s ≡ true → (n : ℕ) → ClientHasActedOn client.peer s n → n ≡ 0
    none_taken Stage.Outside e n none = none
    none_taken Stage.AwaitsAnswer e n none = absurd (false≢true e)
    none_taken Stage.AwaitsStart e n none = absurd (false≢true e)
    none_taken (Stage.AwaitsStatus left) e n none = absurd (false≢true e)
    none_taken Stage.Completed e n none = absurd (false≢true e)
    none_taken Stage.AwaitsReport e n none = absurd (false≢true e)

    none_counted : (n : ℕ) → n ≡ 0 → client.link.taken ≡ stops_at_greatest n → client.link.taken ≡ 0
    none_counted n none is = is ∙ ap stops_at_greatest none

    choose : (b : Bool) → is_up client.link.phase ≡ b → is_up client.link.phase ≡ true
    choose true e = e
    choose false e =
        let c = stands.stands opened
        in let none = none_counted c.taken (none_taken client.stage (stands.outside ∙ ap not e) c.taken c.acted) c.counts.taken_is
        in absurd (omega (arith, some, none))

-- one that is ready has taken something
ready_taken : (client : ClientState) → ClientStandsByCounts client → is_open client.link.phase ≡ true → is_ready client.stage ≡ true → 1 ≤ client.link.taken
ready_taken client stands opened ready = let c = stands.stands opened in some_counted c.taken (some_taken client.stage ready c.taken c.acted) c.counts.taken_is
  where
    some_taken : (s : Stage) → is_ready s ≡ true → (n : ℕ) → ClientHasActedOn client.peer s n → 1 ≤ n
    some_taken Stage.Outside e n some = absurd (false≢true e)
    some_taken Stage.AwaitsAnswer e n some = absurd (false≢true e)
    some_taken Stage.AwaitsStart e n some = absurd (false≢true e)
    some_taken (Stage.AwaitsStatus left) e n some = absurd (false≢true e)
    some_taken Stage.Completed e n some = omega (arith, some)
    some_taken Stage.AwaitsReport e n some = omega (arith, some)

    some_counted : (n : ℕ) → 1 ≤ n → client.link.taken ≡ stops_at_greatest n → 1 ≤ client.link.taken
    some_counted n some is = subst (λ (m : ℕ). 1 ≤ m) (sym is) (omega (arith, some))

module _ (site : Site) (station : IsStation site) (world : WorldState) (whole : IsWhole site world) (all : AllStandByCounts site world) (link : ℕ) (below : link < links site) (these : Links) (are : AreLinksOf site world these) where
  it : Found site world link
  it = found site station world whole all link below

  link_is : (these.ends link).client.link ≡ settled (reading_of world.interlocking.clock) it.client.link
  link_is =
      let id = at_place (partners site) link (subst (λ (n : ℕ). link < n) (sym (partners_length site)) below)
      in let c = are.clients link id.0 id.1
      in c.link_is ∙ ap (settled (reading_of world.interlocking.clock)) (same_Some c.kept it.client.link (sym c.there ∙ it.client_link))

  open_up : is_open (these.ends link).client.link.phase ≡ true → 1 ≤ (these.ends link).client.link.taken → IsClientUp link world
  open_up opened some = record { client = it.client; there = it.client_there; up = ap (λ (l : LinkState). is_up l.phase) still.0 ∙ up }
    where
      still : (settled (reading_of world.interlocking.clock) it.client.link ≡ record it.client.link { clock = reading_of world.interlocking.clock }) × (is_open it.client.link.phase ≡ true) × (reading_of world.interlocking.clock < deadline it.client.link)
      still = settled_open (reading_of world.interlocking.clock) it.client.link (ap (λ (l : LinkState). is_open l.phase) (sym link_is) ∙ opened)

      up : is_up it.client.link.phase ≡ true
      up = inside_up it.client it.stands still.1 (subst (λ (n : ℕ). 1 ≤ n) (ap (λ (l : LinkState). l.taken) link_is ∙ settled_taken (reading_of world.interlocking.clock) it.client.link) some)

  pub ready_some : is_open (these.ends link).client.link.phase ≡ true → (client : ClientState) → slice_get (client_states world.interlocking.ixl) link ≡ Some client → is_ready client.stage ≡ true → 1 ≤ (these.ends link).client.link.taken
  ready_some opened client there ready = subst (λ (n : ℕ). 1 ≤ n) (sym (ap (λ (l : LinkState). l.taken) link_is ∙ settled_taken (reading_of world.interlocking.clock) it.client.link))
      (ready_taken it.client it.stands (settled_open (reading_of world.interlocking.clock) it.client.link (ap (λ (l : LinkState). is_open l.phase) (sym link_is) ∙ opened)).1
      (ap (λ (c : ClientState). is_ready c.stage) (same_Some it.client client (sym it.client_there ∙ there)) ∙ ready))

-- ---- what is tried

-- two lists of events, one after the other, of which the links at the beginning and at the end are in one connection
module _ (laws : LawsBelow) (held : LawsBelow) (sited : SitedTable) (station : IsStation sited.site) (once : Once sited.site) (stand : (world : WorldState) → IsReached sited.site sited.table world → AllStandByCounts sited.site world)
    (link : ℕ) (below : link < links sited.site) where
  abbrev names : Names
  names = names_at sited.site link

  named : AreNames names
  named = (are_links laws sited station once).each link below

  -- the two ends at the beginning, as they are at the end
  pub record InOneAt (connection : ℕ) (old new : Ends) : Type 0 where
    pub client : old.client.connection ≡ Some connection
    pub server : old.server.connection ≡ Some connection
    pub new_client : new.client.connection ≡ Some connection
    pub new_server : new.server.connection ≡ Some connection
    pub opened : is_open old.client.link.phase ≡ true
    pub new_opened : is_open new.client.link.phase ≡ true
    pub some : 1 ≤ old.client.link.taken

  pub up_between : (one other : List Event) (world : Played) (before : Links) (connection : ℕ) → HasThese sited world before → Ordered names (seen link before) → IsReached sited.site sited.table (after_each one world).run
      → InOneAt connection (seen link before) (seen link (run_links (all_events_tried (one ++ other) world) before)) → IsClientUp link (after_each one world).run
  up_between one other world before connection has ordered reached is = open_up sited.site station (after_each one world).run first.has.whole (stand (after_each one world).run reached) link below (run_links (all_events_tried one world) before) first.has.are
      (subst (λ (ends : Ends). is_open ends.client.link.phase ≡ true) (sym mid_is) they.within)
      (subst (λ (ends : Ends). 1 ≤ ends.client.link.taken) (sym mid_is) (let a = they.taken in let b = is.some in omega (arith, a, b)))
    where
      first : Followed sited (all_events_tried one world) before (after_each one world)
      first = all_followed laws sited station once one world before has

      mid : Links
      mid = run_links (all_events_tried one world) before

      second : Followed sited (all_events_tried other (after_each one world)) mid (after_each other (after_each one world))
      second = all_followed laws sited station once other (after_each one world) mid first.has

      front : List LinkEvent
      front = run_on link (all_events_tried one world) before

      back : List LinkEvent
      back = run_on link (all_events_tried other (after_each one world)) mid

      mid_is : seen link mid ≡ run front (seen link before)
      mid_is = laws.each_link_sees_its_events_run link (all_events_tried one world) before

      end_is : seen link (run_links (all_events_tried (one ++ other) world) before) ≡ run back (run front (seen link before))
      end_is = ap (λ (events : List LinksEvent). seen link (run_links events before)) (events_both one other world)
          ∙ (ap (seen link) (links_both (all_events_tried one world) (all_events_tried other (after_each one world)) before)
          ∙ (laws.each_link_sees_its_events_run link (all_events_tried other (after_each one world)) mid ∙ ap (run back) mid_is))

      front_may : MayRun names front (seen link before)
      front_may = laws.each_link_sees_its_events_may_run (links sited.site) (names_at sited.site) (all_events_tried one world) before (are_links laws sited station once) has.timely first.may link below

      back_may : MayRun names back (run front (seen link before))
      back_may = subst (MayRun names back) mid_is (laws.each_link_sees_its_events_may_run (links sited.site) (names_at sited.site) (all_events_tried other (after_each one world)) mid (are_links laws sited station once) first.has.timely second.may link below)

      they : AreHeld (seen link before) (run front (seen link before))
      they = are_held held names named front back (seen link before) connection (has.timely.each link below) ordered front_may back_may is.client is.server
          (subst (λ (ends : Ends). ends.client.connection ≡ Some connection) end_is is.new_client) (subst (λ (ends : Ends). ends.server.connection ≡ Some connection) end_is is.new_server) is.opened
          (subst (λ (ends : Ends). is_open ends.client.link.phase ≡ true) end_is is.new_opened)
