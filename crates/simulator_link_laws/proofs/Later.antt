-- Time passes.
use Rattle.std.proofs.Common.{◌≡◌, ℕ, zero, suc, ◌+◌, ◌*◌, ◌<◌, ◌≤◌, Bool, true, false, not, nat_le, List, [], ◌∷◌, ◌++◌, length, map, drop, Option, Some, None, option_map, slice_get, refl, sym, ap, subst, ◌∙◌, arith, if◌then◌else◌}
use Rattle.std.specs.Prelude.{◌==◌, ◌&&◌, ◌||◌, slice_index_or}
use Rattle.std.specs.List.{list_all}
use Rattle.std.proofs.lemmas.Bool.{true≢false}
use Rattle.std.proofs.lemmas.Bool.Decides.{nat_tests}
use Rattle.simulator_spec.specs.layout.Entries.{Site}
use Rattle.simulator_spec.specs.rasta_core.Clock.{settled}
use Rattle.simulator_spec.specs.rasta_core.Ends.{EndState, end_later, leaves, reading_of}
use Rattle.simulator_spec.specs.rasta_core.Events.{IsWithinDrift}
use Rattle.simulator_spec.specs.rasta_core.Links.{Links, PassesFor, happened_to, run_links}
use Rattle.simulator_spec.specs.rasta_core.State.{is_open}
use Rattle.simulator_spec.specs.simulator_event.refused.Refused.{Refused}
use Rattle.simulator_spec.specs.simulator_event.refused.Refused.TheVariants as refused
use Rattle.simulator_spec.specs.Happens.{all_later, passed}
use Rattle.simulator_spec.specs.Links.{AreLinksOf, IsClientAt, IsServerAt, ServerEnd, end_of_server, server_ends}
use Rattle.simulator_spec.specs.Nodes.{links, nodes, partners}
use Rattle.simulator_spec.specs.Refusals.{keeps_time, refusal_of_time, refused_where}
use Rattle.simulator_spec.specs.TrueClocks.{refusal_but_drift}
use Rattle.simulator_spec.specs.Controllers.{controller_later, is_inside_at}
use Rattle.simulator_spec.specs.State.{ClockedControllerState, WorldState}
use Rattle.simulator_link_laws.proofs.Lists.{both_true, length_map, within_some}
use Rattle.simulator_link_laws.proofs.Places.{IsKept, at_kept, kept_at}
use Rattle.simulator_link_laws.proofs.Settled.{settled_twice}
use Rattle.simulator_link_laws.specs.Events.{FollowsBy, time_events}

-- ---- steps that keep time

pub not_refused : (fails : Bool) (why : Refused) (otherwise : Option Refused) → refused_where fails why otherwise ≡ None → (fails ≡ false) × (otherwise ≡ None)
not_refused true why otherwise e = absurd (cc (e))
not_refused false why otherwise e = (refl, e)

not_false : (b : Bool) → not b ≡ false → b ≡ true
not_false true e = refl
not_false false e = absurd (true≢false e)

-- the tests of a time that isn't refused
pub record KeepsTime (site : Site) (elapsed : ℕ) (steps : List ℕ) : Type 0 where
  pub all : length steps ≡ nodes site
  pub each : list_all (keeps_time elapsed) steps ≡ true

pub time_kept : (site : Site) (elapsed : ℕ) (steps : List ℕ) (world : WorldState) → refusal_of_time site elapsed steps world ≡ None → KeepsTime site elapsed steps
unfolding refusal_of_time
time_kept site elapsed steps world none =
    let first = not_refused (not (length steps == nodes site)) refused.NoSuchNode _ none
    in let second = not_refused (not (list_all (keeps_time elapsed) steps)) refused.Drift _ first.1
    in record {
      all = same (length steps) (nodes site) (not_false (length steps == nodes site) first.0);
      each = not_false (list_all (keeps_time elapsed) steps) second.0;
    }
  where
    same : (a b : ℕ) → (a == b) ≡ true → a ≡ b
    same a b e = grind (arith, nat_tests)

-- the count of steps of a time that nothing refuses but drift
pub steps_count : (site : Site) (elapsed : ℕ) (steps : List ℕ) (world : WorldState) → refusal_but_drift site elapsed steps world ≡ None → length steps ≡ nodes site
unfolding refusal_but_drift
steps_count site elapsed steps world none =
    same (length steps) (nodes site) (not_false (length steps == nodes site) (not_refused (not (length steps == nodes site)) refused.NoSuchNode _ none).0)
  where
    same : (a b : ℕ) → (a == b) ≡ true → a ≡ b
    same a b e = grind (arith, nat_tests)

all_at : (test : ℕ → Bool) (steps : List ℕ) (place : ℕ) → list_all test steps ≡ true → place < length steps → test (slice_index_or steps place 0) ≡ true
all_at test [] place all within = absurd (omega arith)
all_at test (first ∷ others) zero all within = (both_true (test first) (list_all test others) all).0
all_at test (first ∷ others) (suc place) all within = all_at test others place (both_true (test first) (list_all test others) all).1 (omega arith)

drift_kept : (elapsed own : ℕ) → keeps_time elapsed own ≡ true → IsWithinDrift elapsed own
drift_kept elapsed own kept =
    let both = both_true (nat_le (999 * elapsed) (1000 * own)) (nat_le (1000 * own) (1001 * elapsed)) kept
    in record { least = within (999 * elapsed) (1000 * own) both.0; most = within (1000 * own) (1001 * elapsed) both.1 }
  where
    within : (a b : ℕ) → nat_le a b ≡ true → a ≤ b
    within a b e = grind (arith, nat_tests)

-- ---- the servers

-- a server as its clock goes on
abbrev end_passed : ℕ → ℕ → ServerEnd → ServerEnd
end_passed moment elapsed end = record end {
  clock = end.clock + elapsed;
  left = if is_inside_at end.clock end.link && not (is_inside_at (end.clock + elapsed) end.link) then moment else end.left;
}

abbrev ends_passed : ℕ → List ℕ → List ServerEnd → List ServerEnd
ends_passed moment steps [] = []
ends_passed moment [] (end ∷ ends) = end ∷ ends
ends_passed moment (step ∷ steps) (end ∷ ends) = end_passed moment step end ∷ ends_passed moment steps ends

passed_ends : {Object : Type 0} (moment : ℕ) (steps : List ℕ) (servers : List (ClockedControllerState Object)) → map end_of_server (all_later moment steps servers) ≡ ends_passed moment steps (map end_of_server servers)
unfolding controller_later
passed_ends moment steps [] = refl
passed_ends moment [] (server ∷ servers) = refl
passed_ends moment (step ∷ steps) (server ∷ servers) = ap (λ l. end_passed moment step (end_of_server server) ∷ l) (passed_ends moment steps servers)

none_passed : (moment : ℕ) (ends : List ServerEnd) → ends_passed moment [] ends ≡ ends
none_passed moment [] = refl
none_passed moment (end ∷ ends) = refl

passed_joined : (moment : ℕ) (steps : List ℕ) (first rest : List ServerEnd) → ends_passed moment steps first ++ ends_passed moment (drop (length first) steps) rest ≡ ends_passed moment steps (first ++ rest)
passed_joined moment steps [] rest = refl
passed_joined moment [] (end ∷ others) rest = ap (λ l. end ∷ (others ++ l)) (none_passed moment rest)
passed_joined moment (step ∷ steps) (end ∷ others) rest = ap (λ l. end_passed moment step end ∷ l) (passed_joined moment steps others rest)

passed_at : (moment : ℕ) (steps : List ℕ) (ends : List ServerEnd) (place : ℕ) (end : ServerEnd) → place < length steps → slice_get ends place ≡ Some end
    → slice_get (ends_passed moment steps ends) place ≡ Some (end_passed moment (slice_index_or steps place 0) end)
passed_at moment steps [] place end within at = absurd (none_is at) where
  none_is : None ≡ Some end → ⊥
  none_is e = cc (e)
passed_at moment [] (first ∷ ends) place end within at = absurd (omega arith)
passed_at moment (step ∷ steps) (first ∷ ends) zero end within at = ap (option_map (end_passed moment step)) at
passed_at moment (step ∷ steps) (first ∷ ends) (suc place) end within at = passed_at moment steps ends place end (omega arith) at

all_passed : (elapsed : ℕ) (steps : List ℕ) (world : WorldState) → server_ends (passed elapsed steps world) ≡ ends_passed (length world.sent) (drop 1 steps) (server_ends world)
unfolding passed
all_passed elapsed steps world =
    ap (λ l. l ++ (map end_of_server (all_later moment of_points world.points) ++ map end_of_server (all_later moment (drop (length world.points) of_points) world.detectors))) (passed_ends moment of_controllers world.signals)
    ∙ ap (λ l. ends_passed moment of_controllers signals ++ l) (
    ap (λ l. l ++ map end_of_server (all_later moment (drop (length world.points) of_points) world.detectors)) (passed_ends moment of_points world.points)
    ∙ ap (λ l. ends_passed moment of_points points ++ l) (passed_ends moment (drop (length world.points) of_points) world.detectors
    ∙ ap (λ n. ends_passed moment (drop n of_points) detectors) (sym (length_map end_of_server world.points)))
    ∙ passed_joined moment of_points points detectors
    ∙ ap (λ n. ends_passed moment (drop n of_controllers) (points ++ detectors)) (sym (length_map end_of_server world.signals)))
    ∙ passed_joined moment of_controllers signals (points ++ detectors)
  where
    moment : ℕ
    moment = length world.sent

    of_controllers : List ℕ
    of_controllers = drop 1 steps

    of_points : List ℕ
    of_points = drop (length world.signals) of_controllers

    signals : List ServerEnd
    signals = map end_of_server world.signals

    points : List ServerEnd
    points = map end_of_server world.points

    detectors : List ServerEnd
    detectors = map end_of_server world.detectors

-- ---- an end

reads_later : (clock elapsed : ℕ) → reading_of clock ≤ reading_of (clock + elapsed)
reads_later clock elapsed = omega arith

kept_later : (moment elapsed : ℕ) (kept : ServerEnd) (end : EndState) → IsKept kept end → IsKept (end_passed moment elapsed kept) (end_later elapsed moment end)
unfolding end_later
kept_later moment elapsed kept end is = record {
  link_is = link_later;
  clock_is = ap (λ c. c + elapsed) is.clock_is;
  connection_is = is.connection_is;
  left_is = left_later;
}
  where
    link_later : settled (reading_of (end.clock + elapsed)) end.link ≡ settled (reading_of (kept.clock + elapsed)) kept.link
    link_later = ap (λ c. settled (reading_of (c + elapsed)) end.link) is.clock_is ∙ ap (settled (reading_of (kept.clock + elapsed))) is.link_is
        ∙ settled_twice (reading_of kept.clock) (reading_of (kept.clock + elapsed)) kept.link (reads_later kept.clock elapsed)

    inside : Bool
    inside = is_inside_at kept.clock kept.link

    now_inside : Bool
    now_inside = is_inside_at (kept.clock + elapsed) kept.link

    left_later : (if leaves end.link None (settled (reading_of (end.clock + elapsed)) end.link) then moment else end.left)
        ≡ (if inside && not now_inside then moment else kept.left)
    left_later = ap (λ l. if (is_open l.phase || false) && not (is_open (settled (reading_of (end.clock + elapsed)) end.link).phase) then moment else end.left) is.link_is
        ∙ ap (λ l. if (inside || false) && not (is_open l.phase) then moment else end.left) link_later
        ∙ ap (λ n. if (inside || false) && not now_inside then moment else n) is.left_is
        ∙ choice inside
      where
        choice : (b : Bool) → (if (b || false) && not now_inside then moment else kept.left) ≡ (if b && not now_inside then moment else kept.left)
        choice true = refl
        choice false = refl

-- ---- the event

module _ (site : Site) (elapsed : ℕ) (steps : List ℕ) (world : WorldState) (before : Links) (all : length steps ≡ nodes site) (are : AreLinksOf site world before) where
  abbrev of_clients : ℕ → ℕ
  of_clients link = slice_index_or steps 0 0

  abbrev of_servers : ℕ → ℕ
  of_servers link = slice_index_or (drop 1 steps) link 0

  there : (link : ℕ) → link < links site → link < length (drop 1 steps)
  there link below = cases steps all where
    cases : (list : List ℕ) → length list ≡ nodes site → link < length (drop 1 list)
    cases [] e = absurd (omega arith)
    cases (first ∷ others) e = omega arith

  abbrev new : WorldState
  new = passed elapsed steps world

  abbrev after : Links
  after = happened_to (PassesFor elapsed of_clients of_servers) before

  client_later : (link : ℕ) → IsClientAt world link (before.ends link).client → IsClientAt new link (after.ends link).client
  unfolding passed end_later
  client_later link is = record {
    kept = is.kept;
    there = is.there;
    link_is = ap (λ c. settled (reading_of (c + slice_index_or steps 0 0)) (before.ends link).client.link) is.clock_is
        ∙ ap (settled (reading_of (world.interlocking.clock + slice_index_or steps 0 0))) is.link_is
        ∙ settled_twice (reading_of world.interlocking.clock) (reading_of (world.interlocking.clock + slice_index_or steps 0 0)) is.kept (reads_later world.interlocking.clock (slice_index_or steps 0 0));
    clock_is = ap (λ c. c + slice_index_or steps 0 0) is.clock_is;
    connection_is = is.connection_is;
  }

  server_passes : (link : ℕ) → link < links site → IsServerAt world link (before.ends link).server → IsServerAt new link (after.ends link).server
  server_passes link below is =
      at_kept (passed elapsed steps world) link (end_later (slice_index_or (drop 1 steps) link 0) (length before.sent) (before.ends link).server)
      (end_passed (length world.sent) (slice_index_or (drop 1 steps) link 0) is.kept)
      (ap (λ l. slice_get l link) (all_passed elapsed steps world) ∙ passed_at (length world.sent) (drop 1 steps) (server_ends world) link is.kept (there link below) is.there)
      (subst (λ n. IsKept (end_passed (length world.sent) (slice_index_or (drop 1 steps) link 0) is.kept) (end_later (slice_index_or (drop 1 steps) link 0) n (before.ends link).server)) (sym (ap length are.sent_is))
      (kept_later (length world.sent) (slice_index_or (drop 1 steps) link 0) is.kept (before.ends link).server (kept_at world link (before.ends link).server is.kept is is.there)))

  pub time_links : length (partners site) ≡ links site → AreLinksOf site (passed elapsed steps world) (run_links (time_events elapsed steps) before)
  unfolding passed
  time_links partners_count = record {
    time_is = ap (λ t. t + elapsed) are.time_is;
    sent_is = are.sent_is;
    clients = λ link id at. client_later link (are.clients link id at);
    servers = λ link id at. server_passes link (subst (λ n. link < n) partners_count (within_some (partners site) link id at)) (are.servers link id at);
  }

  may_pass : (kept : KeepsTime site elapsed steps) (link : ℕ) → link < links site → IsWithinDrift elapsed (of_clients link) × IsWithinDrift elapsed (of_servers link)
  may_pass kept link below = (drift_kept elapsed _ (all_at (keeps_time elapsed) steps 0 kept.each (omega (arith, kept.all))), drift_kept elapsed _ (server steps kept.each kept.all)) where
    server : (list : List ℕ) → list_all (keeps_time elapsed) list ≡ true → length list ≡ nodes site → keeps_time elapsed (slice_index_or (drop 1 list) link 0) ≡ true
    server [] all e = absurd (omega arith)
    server (first ∷ others) all e = all_at (keeps_time elapsed) others link (both_true (keeps_time elapsed first) (list_all (keeps_time elapsed) others) all).1 (omega arith)

pub time_follows : (site : Site) (elapsed : ℕ) (steps : List ℕ) (world : WorldState) (before : Links) (kept : KeepsTime site elapsed steps) (are : AreLinksOf site world before)
    (partners_count : length (partners site) ≡ links site) → FollowsBy site (time_events elapsed steps) (passed elapsed steps world) before
time_follows site elapsed steps world before kept are partners_count = record {
  may = (may_pass site elapsed steps world before kept.all are kept, tt);
  are = time_links site elapsed steps world before kept.all are partners_count;
}
