-- A station has the links of its layout at their beginning, however it lies.
use Rattle.std.proofs.Common.{◌≡◌, ℕ, List, [], ◌∷◌, ◌++◌, length, map, Some, None, option_map, refl, sym, ap, ◌∙◌, arith}
use Rattle.std.proofs.lemmas.List.{length-map, map-append}
use Rattle.std.proofs.lemmas.Option.{get_or_from_slice_get, slice_get-map}
use Rattle.std.specs.List.{zip}
use Rattle.std.specs.Prelude.{slice_get, slice_index_or}
use Rattle.ixl_spec.specs.rasta_core.Calls.{created}
use Rattle.ixl_spec.specs.rasta_core.Clock.{settled}
use Rattle.ixl_spec.specs.rasta_core.Links.{begun}
use Rattle.ixl_spec.specs.rasta_core.Names.{identity_of}
use Rattle.ixl_spec.specs.rasta_core.State.{LinkState}
use Rattle.ixl_spec.specs.rasta_core.identity.Role.TheVariants as role
use Rattle.ixl_spec.specs.layout.Entries.{DetectorEntry, Site}
use Rattle.ixl_spec.specs.layout.declared.entries.Point.{Point}
use Rattle.ixl_spec.specs.layout.declared.entries.Signal.{Signal}
use Rattle.object_host.specs.Host.{keeping}
use Rattle.object_host.specs.Hosted.{new_host}
use Rattle.ixl_spec.specs.ixl_client.Client.{new_client}
use Rattle.ixl_spec.specs.State.{KnownDetectorState, KnownSignalState, KnownPointState}
use Rattle.ixl_spec.specs.Table.{Table}
use Rattle.simulator_spec.specs.First.{IsOutsetOf, Outset, at_rest, at_zero, new_ixl, no_connection, world_at}
use Rattle.simulator_spec.specs.Links.{AreLinksOf, IsClientAt, IsServerAt, ServerEnd, client_links, end_of_server, names_at, server_ends, starts_at_zero}
use Rattle.simulator_spec.specs.Nodes.{names_of, partners}

-- a list made in two ways
map_same : {A B D : Type 0} (k : A → B) (f : B → D) (F : ℕ → D) (a : A → ℕ) → ((x : A) → f (k x) ≡ F (a x)) → (xs : List A) → map f (map k xs) ≡ map F (map a xs)
map_same k f F a e [] = refl
map_same k f F a e (x ∷ xs) = ap (λ y. y ∷ map f (map k xs)) (e x) ∙ ap (λ ys. F (a x) ∷ ys) (map_same k f F a e xs)

-- and one made of pairs
pairs_same : {A B C D : Type 0} (k : A × C → B) (f : B → D) (F : ℕ → D) (a : A → ℕ) → ((x : A) (y : C) → f (k (x, y)) ≡ F (a x)) → (xs : List A) (ys : List C) → length ys ≡ length xs
    → map f (map k (zip xs ys)) ≡ map F (map a xs)
pairs_same k f F a e [] [] same = refl
pairs_same k f F a e [] (y ∷ ys) same = absurd (cc (same))
pairs_same k f F a e (x ∷ xs) [] same = absurd (cc (same))
pairs_same k f F a e (x ∷ xs) (y ∷ ys) same =
    ap (λ d. d ∷ map f (map k (zip xs ys))) (e x y) ∙ ap (λ ds. F (a x) ∷ ds) (pairs_same k f F a e xs ys (omega (arith, same)))

three_same : {D : Type 0} (F : ℕ → D) (one two three : List D) (a b c : List ℕ) → one ≡ map F a → two ≡ map F b → three ≡ map F c
    → one ++ (two ++ three) ≡ map F (a ++ (b ++ c))
three_same F one two three a b c p q r =
    ap (λ l. l ++ (two ++ three)) p
    ∙ (ap (λ l. map F a ++ (l ++ three)) q
    ∙ (ap (λ l. map F a ++ (map F b ++ l)) r
    ∙ (ap (λ l. map F a ++ l) (sym (map-append F b c)) ∙ sym (map-append F a (b ++ c)))))

fresh_client : Site → ℕ → LinkState
fresh_client site id = created (identity_of role.Client (names_of site id)) 0 0

fresh_server : Site → ℕ → ServerEnd
fresh_server site id = record { link = created (identity_of role.Server (names_of site id)) 0 0; clock = 0; connection = None; left = 0 }

clients_first : (site : Site) (table : Table) → client_links (new_ixl site table at_zero) ≡ map (fresh_client site) (partners site)
unfolding new_ixl new_client fresh_client
clients_first site table =
    three_same (fresh_client site) _ _ _ (map (λ (s : Signal). s.id) site.signals) (map (λ (p : Point). p.id) site.points) (map (λ (d : DetectorEntry). d.id) site.detectors)
    (map_same _ (λ (lamp : KnownSignalState). lamp.client.link) (fresh_client site) (λ (s : Signal). s.id) (λ s. refl) site.signals)
    (map_same _ (λ (known_point : KnownPointState). known_point.client.link) (fresh_client site) (λ (p : Point). p.id) (λ p. refl) site.points)
    (map_same _ (λ (detector : KnownDetectorState). detector.client.link) (fresh_client site) (λ (d : DetectorEntry). d.id) (λ d. refl) site.detectors)

servers_first : (site : Site) (table : Table) (outset : Outset) → IsOutsetOf site outset → server_ends (world_at site table outset) ≡ map (fresh_server site) (partners site)
unfolding world_at new_host keeping fresh_server
servers_first site table outset is =
    three_same (fresh_server site) _ _ _ (map (λ (s : Signal). s.id) site.signals) (map (λ (p : Point). p.id) site.points) (map (λ (d : DetectorEntry). d.id) site.detectors)
    (map_same _ end_of_server (fresh_server site) (λ (s : Signal). s.id) (λ s. refl) site.signals)
    (pairs_same _ end_of_server (fresh_server site) (λ (p : Point). p.id) (λ p position. refl) site.points outset.positions is.positions)
    (map_same _ end_of_server (fresh_server site) (λ (d : DetectorEntry). d.id) (λ d. refl) site.detectors)

-- what stands at a place of such a list
at_place : {D : Type 0} (F : ℕ → D) (ids : List ℕ) (all : List D) (place id : ℕ) → all ≡ map F ids → slice_get ids place ≡ Some id → slice_get all place ≡ Some (F id)
at_place F ids all place id e at = ap (λ l. slice_get l place) e ∙ (slice_get-map F ids place ∙ ap (option_map F) at)

named : (site : Site) (link id : ℕ) → slice_get (partners site) link ≡ Some id → slice_index_or (partners site) link 0 ≡ id
named site link id at = get_or_from_slice_get (partners site) link id 0 at

stays_client : (site : Site) (id : ℕ) → fresh_client site id ≡ settled 0 (fresh_client site id)
unfolding fresh_client created settled
stays_client site id = refl

stays_server : (site : Site) (id : ℕ) → (fresh_server site id).link ≡ settled 0 (fresh_server site id).link
unfolding fresh_server created settled
stays_server site id = refl

client_first : (site : Site) (table : Table) (outset : Outset) (link id : ℕ) → slice_get (partners site) link ≡ Some id
    → IsClientAt (world_at site table outset) link ((begun (names_at site) starts_at_zero).ends link).client
unfolding world_at fresh_client
client_first site table outset link id at = record {
  kept = fresh_client site id;
  there = at_place (fresh_client site) (partners site) (client_links (new_ixl site table at_zero)) link id (clients_first site table) at;
  link_is = ap (fresh_client site) (named site link id at) ∙ stays_client site id;
  clock_is = refl;
  connection_is = at_place no_connection (partners site) (map no_connection (partners site)) link id refl at;
}

server_first : (site : Site) (table : Table) (outset : Outset) → IsOutsetOf site outset → (link id : ℕ) → slice_get (partners site) link ≡ Some id
    → IsServerAt (world_at site table outset) link ((begun (names_at site) starts_at_zero).ends link).server
unfolding fresh_server
server_first site table outset is link id at = record {
  kept = fresh_server site id;
  there = at_place (fresh_server site) (partners site) (server_ends (world_at site table outset)) link id (servers_first site table outset is) at;
  link_is = ap (λ n. (fresh_server site n).link) (named site link id at) ∙ stays_server site id;
  clock_is = refl;
  connection_is = refl;
  left_is = refl;
}

pub first_is_links : (site : Site) (table : Table) (outset : Outset) → IsOutsetOf site outset → AreLinksOf site (world_at site table outset) (begun (names_at site) starts_at_zero)
unfolding world_at
first_is_links site table outset is = record {
  time_is = refl;
  sent_is = refl;
  clients = client_first site table outset;
  servers = server_first site table outset is;
}

pub rest_is_outset : (site : Site) → IsOutsetOf site (at_rest site)
rest_is_outset site = record { positions = length-map site.points _; occupancies = length-map site.sections _ }
