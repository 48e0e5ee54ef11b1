-- A node is made anew.
use Rattle.std.proofs.Common.{◌≡◌, ◌≢◌, ℕ, zero, suc, ◌*◌, ◌<◌, Bool, true, false, List, [], ◌∷◌, ◌++◌, length, map, Some, option_map, slice_get, slice_set, refl, sym, ap, subst, ◌∙◌, arith, if◌then◌else◌}
use Rattle.std.specs.Prelude.{◌==◌}
use Rattle.simulator_spec.specs.layout.Entries.{DetectorEntry, Site}
use Rattle.simulator_spec.specs.layout.declared.entries.Point.{Point}
use Rattle.simulator_spec.specs.layout.declared.entries.Signal.{Signal}
use Rattle.simulator_spec.specs.rasta_core.Calls.{created}
use Rattle.simulator_spec.specs.rasta_core.Clock.{settled}
use Rattle.simulator_spec.specs.rasta_core.EachLink.{AreTimely}
use Rattle.simulator_spec.specs.rasta_core.Ends.{EndState, end_restarted, reading_of}
use Rattle.simulator_spec.specs.rasta_core.Events.{Restarts, run}
use Rattle.simulator_spec.specs.rasta_core.Links.{Links, MayRunLinks, RestartsOn, happened_to, run_links, seen}
use Rattle.simulator_spec.specs.rasta_core.Nodes.{is_among, restarts_of}
use Rattle.simulator_spec.specs.rasta_core.Names.{Names, identity_of}
use Rattle.simulator_spec.specs.rasta_core.Run.{Ends, end_of, restarted}
use Rattle.simulator_spec.specs.rasta_core.State.{LinkState}
use Rattle.simulator_spec.specs.rasta_core.identity.Identity.{Identity}
use Rattle.simulator_spec.specs.rasta_core.identity.Role.{Role}
use Rattle.simulator_spec.specs.rasta_core.identity.Role.TheVariants as role
use Rattle.simulator_spec.specs.ixl_client.Client.{new_client}
use Rattle.simulator_spec.specs.ixl_spec.State.{KnownDetectorState, KnownSignalState, KnownPointState}
use Rattle.simulator_spec.specs.ixl_spec.Table.{Table}
use Rattle.simulator_spec.specs.First.{Beginning, new_ixl}
use Rattle.simulator_spec.specs.Links.{AreLinksOf, IsClientAt, IsServerAt, ServerEnd, client_links, names_at, server_ends}
use Rattle.simulator_spec.specs.Interlocking.{frozen_by_restart, interlocking_anew}
use Rattle.std.proofs.lemmas.List.{map-append}
use Rattle.simulator_spec.specs.Nodes.{links, names_of, partners}
use Rattle.simulator_spec.specs.State.{WorldState}
use Rattle.simulator_link_laws.proofs.Laws.{LinkLaws}
use Rattle.simulator_link_laws.proofs.Lists.{get_map, itself, other_number, unequal, within_some}
use Rattle.simulator_link_laws.proofs.Partners.{below_links, named_at}
use Rattle.simulator_link_laws.proofs.Places.{IsKept, kept_at, one_server, server_same}
use Rattle.simulator_link_laws.proofs.Settled.{settled_new}
use Rattle.simulator_link_laws.specs.Events.{FollowsBy, numbers_below}

pub reads_anew : (clock : ℕ) → reading_of (clock * 1000) ≡ clock
reads_anew clock = omega arith

-- a server that was just made, in the state of a world
pub record IsMadeAnew (identity : Identity) (clock first moment : ℕ) (old end : ServerEnd) : Type 0 where
  pub link_is : end.link ≡ created identity first clock
  pub clock_is : end.clock ≡ clock * 1000
  pub connection_is : end.connection ≡ old.connection
  pub left_is : end.left ≡ moment

pub kept_anew : (identity : Identity) (clock first moment : ℕ) (old new : ServerEnd) (end : EndState) → end.link.identity ≡ identity → IsKept old end → IsMadeAnew identity clock first moment old new
    → IsKept new (end_restarted clock first moment end)
unfolding end_restarted
kept_anew identity clock first moment old new end same is made = record {
  link_is = ap (λ i. created i first clock) same
      ∙ sym (settled_new identity first clock)
      ∙ ap (λ n. settled n (created identity first clock)) (sym (ap reading_of made.clock_is ∙ reads_anew clock))
      ∙ ap (settled (reading_of new.clock)) (sym made.link_is);
  clock_is = sym made.clock_is;
  connection_is = is.connection_is ∙ sym made.connection_is;
  left_is = sym made.left_is;
}

-- ---- one end of the links

module _ (laws : LinkLaws) where
  own_anew : (link : ℕ) (who : Role) (clock first : ℕ) (before : Links) → seen link (happened_to (RestartsOn link who clock first) before) ≡ restarted who clock first (seen link before)
  own_anew link who clock first before = laws.sees link (RestartsOn link who clock first) before
      ∙ ap (λ (mine : Bool). run (if mine then Restarts who clock first ∷ [] else []) (seen link before)) (itself link)

  other_anew : (link other : ℕ) (who : Role) (clock first : ℕ) (before : Links) → other ≢ link → seen other (happened_to (RestartsOn link who clock first) before) ≡ seen other before
  other_anew link other who clock first before differ = laws.sees other (RestartsOn link who clock first) before
      ∙ ap (λ (mine : Bool). run (if mine then Restarts who clock first ∷ [] else []) (seen other before)) (unequal other link differ)

  client_there : (clock first : ℕ) (ends : Ends) → (restarted role.Server clock first ends).client ≡ ends.client
  unfolding restarted
  client_there clock first ends = refl

  server_anew_is : (clock first : ℕ) (ends : Ends) → (restarted role.Server clock first ends).server ≡ end_restarted clock first ends.moment ends.server
  unfolding restarted
  server_anew_is clock first ends = refl

  server_restarted : (link clock first : ℕ) (before : Links) → (end_of role.Server (seen link (happened_to (RestartsOn link role.Server clock first) before))) ≡ end_restarted clock first (length before.sent) (before.ends link).server
  server_restarted link clock first before = ap (λ (e : Ends). e.server) (own_anew link role.Server clock first before) ∙ server_anew_is clock first (seen link before)

  -- a controller is made anew
  pub restart_follows : (site : Site) (world new : WorldState) (before : Links) (link id clock first : ℕ) (old end : ServerEnd)
      → AreTimely (links site) (names_at site) before → AreLinksOf site world before → slice_get (partners site) link ≡ Some id → slice_get (server_ends world) link ≡ Some old
      → IsMadeAnew (identity_of role.Server (names_of site id)) clock first (length world.sent) old end
      → new.time ≡ world.time → new.sent ≡ world.sent → new.interlocking ≡ world.interlocking → server_ends new ≡ slice_set (server_ends world) link end
      → FollowsBy site (RestartsOn link role.Server clock first ∷ []) new before
  restart_follows site world new before link id clock first old end timely are at there made time sent station ends = record {
    may = (tt, tt);
    are = one_server site world new before (happened_to (RestartsOn link role.Server clock first) before) link end are (record {
      time_is = are.time_is ∙ sym time;
      sent_is = are.sent_is ∙ sym sent;
      station_is = station;
      ends_are = ends;
      within = within_some (server_ends world) link old there;
      others = λ other differ whose. ap (end_of whose) (other_anew link other role.Server clock first before differ);
      client = ap (λ (e : Ends). e.client) (own_anew link role.Server clock first before) ∙ client_there clock first (seen link before);
      kept = subst (IsKept end) (sym (server_restarted link clock first before)) kept;
    });
  }
    where
      identity : (before.ends link).server.link.identity ≡ identity_of role.Server (names_of site id)
      identity = (timely.each link (below_links site link id at)).server.identity ∙ ap (identity_of role.Server) (named_at site link id at)

      kept : IsKept end (end_restarted clock first (length before.sent) (before.ends link).server)
      kept = subst (λ n. IsKept end (end_restarted clock first n (before.ends link).server)) (sym (ap length are.sent_is))
          (kept_anew (identity_of role.Server (names_of site id)) clock first (length world.sent) old end (before.ends link).server identity
          (kept_at world link (before.ends link).server old (are.servers link id at) there) made)

-- ---- the interlocking is made anew

are_among : (count link : ℕ) → link < count → is_among link (numbers_below count) ≡ true
are_among zero link below = absurd (omega arith)
are_among (suc n) link below = cases (link == n) refl (are_among n link) where
  cases : (b : Bool) → (link == n) ≡ b → (link < n → is_among link (numbers_below n) ≡ true) → (if b then true else is_among link (numbers_below n)) ≡ true
  cases true e inner = refl
  cases false e inner = let differ : link ≢ n = other_number link n e in inner (omega arith)

anew_stays : (clock first : ℕ) (numbers : List ℕ) (before : Links) → ((run_links (restarts_of role.Client clock (λ link. first) numbers) before).time ≡ before.time)
    × ((run_links (restarts_of role.Client clock (λ link. first) numbers) before).sent ≡ before.sent)
anew_stays clock first [] before = (refl, refl)
anew_stays clock first (number ∷ numbers) before = anew_stays clock first numbers (happened_to (RestartsOn number role.Client clock first) before)

anew_may : (count : ℕ) (names : ℕ → Names) (clock first : ℕ) (numbers : List ℕ) (before : Links) → MayRunLinks count names (restarts_of role.Client clock (λ link. first) numbers) before
anew_may count names clock first [] before = tt
anew_may count names clock first (number ∷ numbers) before = (tt, anew_may count names clock first numbers (happened_to (RestartsOn number role.Client clock first) before))

-- a client that was just made
abbrev fresh_client : Site → Beginning → ℕ → LinkState
fresh_client site begins id = created (identity_of role.Client (names_of site id)) begins.first begins.clock

-- a list made in two ways
map_same : {A B D : Type 0} (k : A → B) (f : B → D) (F : ℕ → D) (a : A → ℕ) → ((x : A) → f (k x) ≡ F (a x)) → (xs : List A) → map f (map k xs) ≡ map F (map a xs)
map_same k f F a e [] = refl
map_same k f F a e (x ∷ xs) = ap (λ y. y ∷ map f (map k xs)) (e x) ∙ ap (λ ys. F (a x) ∷ ys) (map_same k f F a e xs)

three_same : {D : Type 0} (F : ℕ → D) (one two three : List D) (a b c : List ℕ) → one ≡ map F a → two ≡ map F b → three ≡ map F c
    → one ++ (two ++ three) ≡ map F (a ++ (b ++ c))
three_same F one two three a b c p q r =
    ap (λ l. l ++ (two ++ three)) p
    ∙ (ap (λ l. map F a ++ (l ++ three)) q
    ∙ (ap (λ l. map F a ++ (map F b ++ l)) r
    ∙ (ap (λ l. map F a ++ l) (sym (map-append F b c)) ∙ sym (map-append F a (b ++ c)))))

clients_anew : (site : Site) (table : Table) (begins : Beginning) → client_links (new_ixl site table begins) ≡ map (fresh_client site begins) (partners site)
unfolding new_ixl new_client
clients_anew site table begins =
    three_same (fresh_client site begins) _ _ _ (map (λ (s : Signal). s.id) site.signals) (map (λ (p : Point). p.id) site.points) (map (λ (d : DetectorEntry). d.id) site.detectors)
    (map_same _ (λ (known_signal : KnownSignalState). known_signal.client.link) (fresh_client site begins) (λ (s : Signal). s.id) (λ s. refl) site.signals)
    (map_same _ (λ (known_point : KnownPointState). known_point.client.link) (fresh_client site begins) (λ (p : Point). p.id) (λ p. refl) site.points)
    (map_same _ (λ (detector : KnownDetectorState). detector.client.link) (fresh_client site begins) (λ (d : DetectorEntry). d.id) (λ d. refl) site.detectors)

client_anew_is : (clock first : ℕ) (ends : Ends) → (restarted role.Client clock first ends).client ≡ end_restarted clock first ends.moment ends.client
unfolding restarted
client_anew_is clock first ends = refl

server_there : (clock first : ℕ) (ends : Ends) → (restarted role.Client clock first ends).server ≡ ends.server
unfolding restarted
server_there clock first ends = refl

client_made : (world new : WorldState) (link : ℕ) (identity : Identity) (clock first moment : ℕ) (end : EndState) → IsClientAt world link end → end.link.identity ≡ identity
    → slice_get (client_links new.interlocking.ixl) link ≡ Some (created identity first clock) → new.interlocking.clock ≡ clock * 1000 → new.interlocking.connections ≡ world.interlocking.connections
    → IsClientAt new link (end_restarted clock first moment end)
unfolding end_restarted
client_made world new link identity clock first moment end is same there clock_is connections = record {
  kept = created identity first clock;
  there = there;
  link_is = ap (λ i. created i first clock) same ∙ sym (settled_new identity first clock)
      ∙ ap (λ n. settled n (created identity first clock)) (sym (ap reading_of clock_is ∙ reads_anew clock));
  clock_is = sym clock_is;
  connection_is = ap (λ l. slice_get l link) connections ∙ is.connection_is;
}

abbrev pub NodeRestarts : Type 0
NodeRestarts = (who : Role) (clock : ℕ) (firsts : ℕ → ℕ) (numbers : List ℕ) (links : Links) (link : ℕ)
    → seen link (run_links (restarts_of who clock firsts numbers) links) ≡ (if is_among link numbers then restarted who clock (firsts link) (seen link links) else seen link links)

module _ (node : NodeRestarts) (site : Site) (table : Table) (begins : Beginning) (world : WorldState) (before : Links)
    (timely : AreTimely (links site) (names_at site) before) (are : AreLinksOf site world before) where
  abbrev anew : WorldState
  anew = record world {
    interlocking = interlocking_anew (new_ixl site table begins) begins.clock world.interlocking;
    frozen = frozen_by_restart table world.interlocking world.frozen;
  }

  abbrev after : Links
  after = run_links (restarts_of role.Client begins.clock (λ link. begins.first) (numbers_below (links site))) before

  seen_anew : (link : ℕ) → link < links site → seen link after ≡ restarted role.Client begins.clock begins.first (seen link before)
  seen_anew link below = node role.Client begins.clock (λ link. begins.first) (numbers_below (links site)) before link
      ∙ ap (λ (b : Bool). if b then restarted role.Client begins.clock begins.first (seen link before) else seen link before) (are_among (links site) link below)

  client_is_anew : (link id : ℕ) → slice_get (partners site) link ≡ Some id → IsClientAt anew link (after.ends link).client
  client_is_anew link id at =
      let below = below_links site link id at
      in subst (IsClientAt anew link) (sym (ap (λ (e : Ends). e.client) (seen_anew link below) ∙ client_anew_is begins.clock begins.first (seen link before)))
      (client_made world anew link (identity_of role.Client (names_of site id)) begins.clock begins.first (length before.sent) (before.ends link).client (are.clients link id at)
      ((timely.each link below).client.identity ∙ ap (identity_of role.Client) (named_at site link id at))
      (ap (λ l. slice_get l link) (clients_anew site table begins) ∙ get_map (fresh_client site begins) (partners site) link ∙ ap (option_map (fresh_client site begins)) at)
      refl refl)

  server_is_there : (link id : ℕ) → slice_get (partners site) link ≡ Some id → IsServerAt anew link (after.ends link).server
  server_is_there link id at =
      server_same world anew link (before.ends link).server (after.ends link).server refl
      (ap (λ (e : Ends). e.server) (seen_anew link (below_links site link id at)) ∙ server_there begins.clock begins.first (seen link before))
      (are.servers link id at)

  pub station_follows_anew : FollowsBy site (restarts_of role.Client begins.clock (λ link. begins.first) (numbers_below (links site))) anew before
  station_follows_anew =
      let stays = anew_stays begins.clock begins.first (numbers_below (links site)) before
      in record {
        may = anew_may (links site) (names_at site) begins.clock begins.first (numbers_below (links site)) before;
        are = record {
          time_is = stays.0 ∙ are.time_is;
          sent_is = stays.1 ∙ are.sent_is;
          clients = client_is_anew;
          servers = server_is_there;
        };
      }
