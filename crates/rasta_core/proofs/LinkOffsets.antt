-- Each link of a world keeps time by how far its clocks are off.
use Rattle.std.proofs.Common.{◌≡◌, ◌⊎◌, inl, inr, arith, ℕ, ◌<◌, ◌==◌, ◌&&◌, Bool, true, false, if◌then◌else◌, List, [], ◌∷◌, length, refl, sym, ◌∙◌, ap, subst}
use Rattle.rasta_core_spec.specs.Ends.{end_later}
use Rattle.rasta_core_spec.specs.Events.{Calls, Elsewhere, Event, Loses, May, MayRun, Restarts, Start, happened, run, started}
use Rattle.rasta_core_spec.specs.Given.{IsGiven}
use Rattle.rasta_core_spec.specs.Names.{AreNames, Names}
use Rattle.rasta_core_spec.specs.Newest.{IsNewest, IsUnused}
use Rattle.std.proofs.lemmas.Bool.Decides.{nat_tests}
use Rattle.rasta_core_spec.specs.Run.{Ends, later, restarted}
use Rattle.rasta_core_spec.specs.TrueClocks.{GoesOff, IsAtOnce, Offset, is_same, moment_of, offsets_after, set}
use Rattle.rasta_core_spec.specs.identity.Role.{Role}
use Rattle.rasta_core_spec.specs.identity.Role.TheVariants as role
use Rattle.rasta_core.specs.EachLink.{AreTimely, AreTimelyBy}
use Rattle.rasta_core.specs.Invariant.{TimelyBy}
use Rattle.rasta_core.specs.Links.{AreAtOnce, AreLinks, CallsOn, IsAtOnceFor, Links, LinksEvent, LinksStart, LosesAny, MayHappenTo, MayRunLinks, PassesFor, RestartsOn, all_offsets_on, begun, events_on, happened_to, is_oldest_on, offsets_on, run_links, seen, sent_by, sets_on, start_of}
use Rattle.rasta_core.specs.Nodes.{is_among, restarts_of}
use Rattle.rasta_core.proofs.TrueClocks.{called_moment, elsewhere_moment, lost_moment}
use Rattle.rasta_core.proofs.Projection.{may_happen, numbered_after, sees}
use Rattle.rasta_core.proofs.Views.{all_later}

-- ---- time

pub later_newest : (elapsed of_client of_server : ℕ) (ends : Ends) (who : Role) → IsNewest who ends → IsNewest who (later elapsed of_client of_server ends)
unfolding later end_later
later_newest elapsed of_client of_server ends role.Client was = was
later_newest elapsed of_client of_server ends role.Server was = was

pub later_unused : (elapsed of_client of_server : ℕ) (ends : Ends) (who : Role) → IsUnused who ends → IsUnused who (later elapsed of_client of_server ends)
unfolding later end_later
later_unused elapsed of_client of_server ends role.Client was none = was none
later_unused elapsed of_client of_server ends role.Server was none = was none

pub later_given : (names : Names) (elapsed of_client of_server : ℕ) (ends : Ends) (who : Role) → IsGiven names who ends → IsGiven names who (later elapsed of_client of_server ends)
unfolding later end_later
later_given names elapsed of_client of_server ends role.Client given = given
later_given names elapsed of_client of_server ends role.Server given = given

-- ---- offsets

-- the same offsets, told otherwise
other_way : (names : Names) (one other : Role → Offset) (ends : Ends) → TimelyBy names one ends → one role.Client ≡ other role.Client → one role.Server ≡ other role.Server → TimelyBy names other ends
other_way names one other ends is client server = record { timely = is.timely; client = is.client ∙ client; server = is.server ∙ server }

pub timely_by : (count : ℕ) (names : ℕ → Names) (offsets : ℕ → Role → Offset) (links : Links) → AreTimelyBy count names offsets links → AreTimely count names links
timely_by count names offsets links is = record { each = λ link below. (is.each link below).timely; numbered = is.numbered }

-- the laws that this stands on
pub record OffsetLaws : Type 0 where
  pub starts : (names : Names) (start : Start) → AreNames names → TimelyBy names (λ who. set) (started names start)
  pub passes : (names : Names) (old new : Role → Offset) (elapsed of_client of_server : ℕ) (ends : Ends) → TimelyBy names old ends
      → GoesOff elapsed of_client (old role.Client) (new role.Client) → GoesOff elapsed of_server (old role.Server) (new role.Server)
      → TimelyBy names new (later elapsed of_client of_server ends)
  pub at_once : (names : Names) (offsets : Role → Offset) (event : Event) (ends : Ends) → AreNames names → TimelyBy names offsets ends → IsAtOnce event
      → May names event ends → TimelyBy names (offsets_after event offsets) (happened event ends)

module _ (laws : OffsetLaws) (count : ℕ) (names : ℕ → Names) where
  pub begins_by : (start : LinksStart) → AreLinks count names → AreTimelyBy count names (λ link who. set) (begun names start)
  begins_by start are = record { each = λ link below. laws.starts (names link) (start_of link start) (are.each link below); numbered = tt }

  pub passes_for : (old new : ℕ → Role → Offset) (elapsed : ℕ) (of_clients of_servers : ℕ → ℕ) (links : Links) → AreTimelyBy count names old links
      → ((link : ℕ) → link < count → GoesOff elapsed (of_clients link) (old link role.Client) (new link role.Client) × GoesOff elapsed (of_servers link) (old link role.Server) (new link role.Server))
      → AreTimelyBy count names new (happened_to (PassesFor elapsed of_clients of_servers) links)
  passes_for old new elapsed of_clients of_servers links is goes = record {
    each = λ link below. subst (λ (ends : Ends). TimelyBy (names link) (new link) ends) (sym (all_later link elapsed of_clients of_servers links))
        (laws.passes (names link) (old link) (new link) elapsed (of_clients link) (of_servers link) (seen link links) (is.each link below) (goes link below).0 (goes link below).1);
    numbered = is.numbered;
  }

  module _ (are : AreLinks count names) (offsets : ℕ → Role → Offset) (links : Links) (is : AreTimelyBy count names offsets links) where
    on_link : (event : LinksEvent) (link : ℕ) → link < count → MayRun (names link) (events_on link event links) (seen link links)
        → TimelyBy (names link) (offsets_on event offsets link) (run (events_on link event links) (seen link links)) → TimelyBy (names link) (offsets_on event offsets link) (seen link (happened_to event links))
    on_link event link below may so = subst (λ (ends : Ends). TimelyBy (names link) (offsets_on event offsets link) ends) (sym (sees link event links)) so

    one : (event : Event) (link : ℕ) → link < count → IsAtOnce event → May (names link) event (seen link links) → TimelyBy (names link) (offsets_after event (offsets link)) (happened event (seen link links))
    one event link below once may = laws.at_once (names link) (offsets link) event (seen link links) (are.each link below) (is.each link below) once may

    at_link : (event : LinksEvent) → IsAtOnceFor event → (link : ℕ) → link < count → MayRun (names link) (events_on link event links) (seen link links)
        → TimelyBy (names link) (offsets_on event offsets link) (run (events_on link event links) (seen link links))
    at_link (CallsOn at who call) once link below = choose (link == at)
      where
        choose : (mine : Bool) → MayRun (names link) (if mine then Calls who call ∷ [] else Elsewhere (length (sent_by who call (seen at links))) ∷ []) (seen link links)
            → TimelyBy (names link) (offsets link) (run (if mine then Calls who call ∷ [] else Elsewhere (length (sent_by who call (seen at links))) ∷ []) (seen link links))
        choose true may = one (Calls who call) link below tt may.0
        choose false may = one (Elsewhere (length (sent_by who call (seen at links)))) link below tt tt
    at_link (PassesFor elapsed of_clients of_servers) once link below = absurd once
    at_link (LosesAny bytes) once link below = choose (is_oldest_on link bytes links.sent)
      where
        choose : (mine : Bool) → MayRun (names link) (if mine then Loses bytes ∷ [] else []) (seen link links) → TimelyBy (names link) (offsets link) (run (if mine then Loses bytes ∷ [] else []) (seen link links))
        choose true may = one (Loses bytes) link below tt tt
        choose false may = is.each link below
    at_link (RestartsOn at who clock first) once link below = choose (link == at)
      where
        choose : (mine : Bool) → MayRun (names link) (if mine then Restarts who clock first ∷ [] else []) (seen link links)
            → TimelyBy (names link) (λ other. if mine && is_same other who then set else offsets link other) (run (if mine then Restarts who clock first ∷ [] else []) (seen link links))
        choose true may = other_way (names link) (offsets_after (Restarts who clock first) (offsets link)) _ _ (one (Restarts who clock first) link below tt tt) refl refl
        choose false may = other_way (names link) (offsets link) _ _ (is.each link below) refl refl

    one_at_once : (event : LinksEvent) → IsAtOnceFor event → MayHappenTo count names event links → AreTimelyBy count names (offsets_on event offsets) (happened_to event links)
    one_at_once event once may = record {
      each = λ link below.
          let may_so = may_happen count names event links are (timely_by count names offsets links is) may link below
          in on_link event link below may_so (at_link event once link below may_so);
      numbered = numbered_after count names event links may is.numbered;
    }

  pub all_at_once : (offsets : ℕ → Role → Offset) (events : List LinksEvent) (links : Links) → AreLinks count names → AreTimelyBy count names offsets links → AreAtOnce events
      → MayRunLinks count names events links → AreTimelyBy count names (all_offsets_on events offsets) (run_links events links)
  all_at_once offsets [] links are is once may = is
  all_at_once offsets (first ∷ others) links are is once may =
      all_at_once (offsets_on first offsets) others (happened_to first links) are (one_at_once are offsets links is first once.0 may.0) once.1 may.1

-- ---- what restarts set

-- once set, an offset stays so
stays_set : (offsets : ℕ → Role → Offset) (events : List LinksEvent) (link : ℕ) (who : Role) → offsets link who ≡ set → all_offsets_on events offsets link who ≡ set
stays_set offsets [] link who is = is
stays_set offsets (first ∷ others) link who is = stays_set (offsets_on first offsets) others link who (choose (sets_on link who first)) where
  choose : (sets : Bool) → (if sets then set else offsets link who) ≡ set
  choose true = refl
  choose false = is

one_set : (offsets : ℕ → Role → Offset) (first : LinksEvent) (link : ℕ) (who : Role) → sets_on link who first ≡ true → offsets_on first offsets link who ≡ set
one_set offsets first link who sets = ap (λ (b : Bool). if b then set else offsets link who) sets

one_same : (offsets : ℕ → Role → Offset) (first : LinksEvent) (link : ℕ) (who : Role) → sets_on link who first ≡ false → offsets_on first offsets link who ≡ offsets link who
one_same offsets first link who sets = ap (λ (b : Bool). if b then set else offsets link who) sets

same_role : (who : Role) → is_same who who ≡ true
same_role role.Client = refl
same_role role.Server = refl

equal_itself : (n : ℕ) → (n == n) ≡ true
equal_itself n = grind (arith, nat_tests)

pub restarts_set : (who : Role) (clock : ℕ) (firsts : ℕ → ℕ) (numbers : List ℕ) (offsets : ℕ → Role → Offset) (link : ℕ) → is_among link numbers ≡ true
    → all_offsets_on (restarts_of who clock firsts numbers) offsets link who ≡ set
restarts_set who clock firsts [] offsets link among = absurd (cc (among))
restarts_set who clock firsts (number ∷ others) offsets link among =
    choose (link == number) refl among (λ rest. restarts_set who clock firsts others (offsets_on (RestartsOn number who clock (firsts number)) offsets) link rest) where
      choose : (here : Bool) → (link == number) ≡ here → (if here then true else is_among link others) ≡ true
          → (is_among link others ≡ true → all_offsets_on (restarts_of who clock firsts others) (offsets_on (RestartsOn number who clock (firsts number)) offsets) link who ≡ set)
          → all_offsets_on (restarts_of who clock firsts others) (offsets_on (RestartsOn number who clock (firsts number)) offsets) link who ≡ set
      choose true e rest more = stays_set (offsets_on (RestartsOn number who clock (firsts number)) offsets) (restarts_of who clock firsts others) link who
          (one_set offsets (RestartsOn number who clock (firsts number)) link who (ap (λ (b : Bool). b && is_same who who) e ∙ same_role who))
      choose false e rest more = more rest

-- an end that isn't made anew has its clock as before
end_restart : (who other : Role) (clock first : ℕ) (ends : Ends) → is_same who other ≡ false → moment_of who (restarted other clock first ends) ≡ moment_of who ends
unfolding restarted
end_restart role.Client role.Server clock first ends differ = refl
end_restart role.Server role.Client clock first ends differ = refl
end_restart role.Client role.Client clock first ends differ = absurd (cc (differ))
end_restart role.Server role.Server clock first ends differ = absurd (cc (differ))

same_moment : (first : LinksEvent) (links : Links) (link : ℕ) (who : Role) → IsAtOnceFor first → sets_on link who first ≡ false
    → moment_of who (run (events_on link first links) (seen link links)) ≡ moment_of who (seen link links)
same_moment (CallsOn at caller call) links link who once unset = choose (link == at) where
  choose : (mine : Bool) → moment_of who (run (if mine then Calls caller call ∷ [] else Elsewhere (length (sent_by caller call (seen at links))) ∷ []) (seen link links)) ≡ moment_of who (seen link links)
  choose true = called_moment who caller call (seen link links)
  choose false = elsewhere_moment who (length (sent_by caller call (seen at links))) (seen link links)
same_moment (PassesFor elapsed of_clients of_servers) links link who once unset = absurd once
same_moment (LosesAny bytes) links link who once unset = choose (is_oldest_on link bytes links.sent) where
  choose : (mine : Bool) → moment_of who (run (if mine then Loses bytes ∷ [] else []) (seen link links)) ≡ moment_of who (seen link links)
  choose true = lost_moment who bytes (seen link links)
  choose false = refl
same_moment (RestartsOn at other clock first) links link who once unset = choose (link == at) unset where
  choose : (mine : Bool) → (mine && is_same who other) ≡ false → moment_of who (run (if mine then Restarts other clock first ∷ [] else []) (seen link links)) ≡ moment_of who (seen link links)
  choose true differ = end_restart who other clock first (seen link links) differ
  choose false differ = refl

pub stays_or_is_set : (offsets : ℕ → Role → Offset) (events : List LinksEvent) (links : Links) (link : ℕ) (who : Role) → AreAtOnce events
    → (all_offsets_on events offsets link who ≡ set)
    ⊎ ((all_offsets_on events offsets link who ≡ offsets link who) × (moment_of who (seen link (run_links events links)) ≡ moment_of who (seen link links)))
stays_or_is_set offsets [] links link who once = inr (refl, refl)
stays_or_is_set offsets (first ∷ others) links link who once = choose (sets_on link who first) refl (stays_or_is_set (offsets_on first offsets) others (happened_to first links) link who once.1) where
  choose : (sets : Bool) → sets_on link who first ≡ sets → (all_offsets_on others (offsets_on first offsets) link who ≡ set)
      ⊎ ((all_offsets_on others (offsets_on first offsets) link who ≡ offsets_on first offsets link who)
      × (moment_of who (seen link (run_links others (happened_to first links))) ≡ moment_of who (seen link (happened_to first links))))
      → (all_offsets_on others (offsets_on first offsets) link who ≡ set)
      ⊎ ((all_offsets_on others (offsets_on first offsets) link who ≡ offsets link who)
      × (moment_of who (seen link (run_links others (happened_to first links))) ≡ moment_of who (seen link links)))
  choose sets e (inl is) = inl is
  choose true e (inr (same, still)) = inl (same ∙ one_set offsets first link who e)
  choose false e (inr (same, still)) = inr (
    same ∙ one_same offsets first link who e,
    still ∙ ap (moment_of who) (sees link first links) ∙ same_moment first links link who once.0 e,
  )
