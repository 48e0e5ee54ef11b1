-- Clocks that go on, one after another.
use Rattle.std.proofs.Common.{◌≡◌, refl, sym, ap, ◌∙◌, ℕ, zero, suc, ◌+◌, ◌≤◌, ◌<◌, ◌&&◌, true, false, Bool, List, [], ◌∷◌, ◌++◌, length, take, drop, get_or, add-one, arith}
use Rattle.std.specs.Prelude.{nat_le, slice_index_or}
use Rattle.std.proofs.Math.ListN.{set}
use Rattle.std.proofs.lemmas.Bool.{and_parts}
use Rattle.std.proofs.lemmas.Bool.Decides.{nat_tests}
use Rattle.std.proofs.lemmas.List.{append_assoc, drop_more, get_or_at, get_or_default, length-take-le, set_at}
use Rattle.simulator_spec.specs.rasta_core.Links.{OnLink}
use Rattle.simulator_spec.specs.signal_ctl.Signal.{SignalState}
use Rattle.simulator_spec.specs.point_ctl.Drive.{PointState}
use Rattle.simulator_spec.specs.tds_ctl.declared.section.Section.{Section}
use Rattle.simulator_spec.specs.Happens.{all_later, passed}
use Rattle.simulator_spec.specs.Refusals.{are_within, clock_limit}
use Rattle.simulator_spec.specs.Controllers.{controller_later}
use Rattle.simulator_spec.specs.State.{ClockedControllerState, ClockedInterlockingState, WorldState}

le_told : (a b : ℕ) → nat_le a b ≡ true → a ≤ b
le_told a b told = grind (arith, nat_tests)

module _ {Object : Type 0} where
  length_later : (moment : ℕ) (steps : List ℕ) (servers : List (ClockedControllerState Object)) → length (all_later moment steps servers) ≡ length servers
  length_later moment steps [] = refl
  length_later moment [] (server ∷ servers) = refl
  length_later moment (step ∷ steps) (server ∷ servers) = ap suc (length_later moment steps servers)

  later_more : (moment : ℕ) (steps : List ℕ) (servers : List (ClockedControllerState Object)) (place : ℕ) (none : ClockedControllerState Object) → place < length servers → place < length steps
      → all_later moment steps (take (suc place) servers) ≡ all_later moment steps (take place servers) ++ controller_later (get_or steps place 0) moment (get_or servers place none) ∷ []
  later_more moment steps [] place none below enough = absurd (omega arith)
  later_more moment [] (server ∷ servers) place none below enough = absurd (omega arith)
  later_more moment (step ∷ steps) (server ∷ servers) zero none below enough = refl
  later_more moment (step ∷ steps) (server ∷ servers) (suc place) none below enough = ap (λ others. controller_later step moment server ∷ others) (later_more moment steps servers place none (omega arith) (omega arith))

  -- so far the clocks below this place have gone on
  abbrev pub so_far : ℕ → List ℕ → ℕ → List (ClockedControllerState Object) → List (ClockedControllerState Object)
  so_far moment steps place servers = all_later moment steps (take place servers) ++ drop place servers

  its_place : (moment : ℕ) (steps : List ℕ) (place : ℕ) (servers : List (ClockedControllerState Object)) → place < length servers → length (all_later moment steps (take place servers)) ≡ place
  its_place moment steps place servers below = length_later moment steps (take place servers) ∙ length-take-le place servers (omega arith)

  -- what stands at this place, so far
  pub stands_still : (moment : ℕ) (steps : List ℕ) (place : ℕ) (servers now : List (ClockedControllerState Object)) (one : ClockedControllerState Object) → place < length servers → now ≡ so_far moment steps place servers → one ≡ get_or now place one
      → one ≡ get_or servers place one
  stands_still moment steps place servers now one below now_is is_one =
      is_one ∙ ap (λ all. get_or all place one) (now_is ∙ ap (λ rest. all_later moment steps (take place servers) ++ rest) (drop_more servers place one below))
      ∙ get_or_at (all_later moment steps (take place servers)) (get_or servers place one) (drop (place + 1) servers) one place (its_place moment steps place servers below)

  pub one_later : (moment : ℕ) (steps : List ℕ) (place : ℕ) (servers now : List (ClockedControllerState Object)) (one new : ClockedControllerState Object) → place < length servers → place < length steps
      → now ≡ so_far moment steps place servers → one ≡ get_or now place one → new ≡ controller_later (get_or steps place 0) moment one
      → set now place new ≡ so_far moment steps (place + 1) servers
  one_later moment steps place servers now one new below enough now_is is_one new_is =
      let before = all_later moment steps (take place servers)
      in let rest = drop (place + 1) servers
      in let still = stands_still moment steps place servers now one below now_is is_one
      in let more : all_later moment steps (take (place + 1) servers) ≡ before ++ controller_later (get_or steps place 0) moment (get_or servers place one) ∷ [] = rw add-one (later_more moment steps servers place one below enough)
      in ap (λ all. set all place new) (now_is ∙ ap (λ others. before ++ others) (drop_more servers place one below))
      ∙ set_at before (get_or servers place one) rest new place (its_place moment steps place servers below)
      ∙ ap (λ last. before ++ last ∷ rest) (new_is ∙ ap (controller_later (get_or steps place 0) moment) still)
      ∙ sym (append_assoc before (controller_later (get_or steps place 0) moment (get_or servers place one) ∷ []) rest)
      ∙ ap (λ all. all ++ rest) (sym more)

  within_at : (servers : List (ClockedControllerState Object)) (steps : List ℕ) (place : ℕ) (none : ClockedControllerState Object) → place < length servers → place < length steps → are_within servers steps (λ rest. true) ≡ true
      → (get_or servers place none).clock + get_or steps place 0 ≤ clock_limit
  within_at [] steps place none below enough within = absurd (omega arith)
  within_at (server ∷ servers) [] place none below enough within = absurd (omega arith)
  within_at (server ∷ servers) (step ∷ steps) zero none below enough within =
      le_told (server.clock + step) clock_limit (and_parts (nat_le (server.clock + step) clock_limit) (are_within servers steps (λ rest. true)) within).0
  within_at (server ∷ servers) (step ∷ steps) (suc place) none below enough within =
      within_at servers steps place none (omega arith) (omega arith) (and_parts (nat_le (server.clock + step) clock_limit) (are_within servers steps (λ rest. true)) within).1

  pub may_go_on : (moment : ℕ) (steps : List ℕ) (place : ℕ) (servers now : List (ClockedControllerState Object)) (one : ClockedControllerState Object) → place < length servers → place < length steps → are_within servers steps (λ rest. true) ≡ true
      → now ≡ so_far moment steps place servers → one ≡ get_or now place one → one.clock + get_or steps place 0 ≤ clock_limit
  may_go_on moment steps place servers now one below enough within now_is is_one =
      let at_place = within_at servers steps place one below enough within
      in let same = ap (λ (s : ClockedControllerState Object). s.clock) (stands_still moment steps place servers now one below now_is is_one)
      in omega (arith, at_place, same)

-- ---- the whole world

pub passed_world : (elapsed moment time : ℕ) (all steps of_points of_detectors : List ℕ) (world : WorldState) (signals : List (ClockedControllerState SignalState)) (points : List (ClockedControllerState PointState))
    (detectors : List (ClockedControllerState (List Section))) (sent : List OnLink)
    → signals ≡ all_later moment steps world.signals → points ≡ all_later moment of_points world.points → detectors ≡ all_later moment of_detectors world.detectors
    → time ≡ world.time + elapsed → sent ≡ world.sent → drop 1 all ≡ steps → moment ≡ length world.sent
    → of_points ≡ drop (length world.signals) steps → of_detectors ≡ drop (length world.points) of_points
    → (record {
      time = time;
      interlocking = record world.interlocking { clock = world.interlocking.clock + slice_index_or all 0 0 };
      signals = signals;
      points = points;
      detectors = detectors;
      positions = world.positions;
      occupancies = world.occupancies;
      sent = sent;
      frozen = world.frozen;
    }) ≡ passed elapsed all world
unfolding passed
passed_world elapsed moment time all steps of_points of_detectors world signals points detectors sent signals_are points_are detectors_are time_is sent_is steps_are moment_is points_steps detectors_steps =
    let made : ℕ → List OnLink → List (ClockedControllerState SignalState) → List (ClockedControllerState PointState) → List (ClockedControllerState (List Section)) → WorldState = λ t n s p d. record {
      time = t;
      interlocking = record world.interlocking { clock = world.interlocking.clock + slice_index_or all 0 0 };
      signals = s;
      points = p;
      detectors = d;
      positions = world.positions;
      occupancies = world.occupancies;
      sent = n;
      frozen = world.frozen;
    }
    in let gone : ℕ → List ℕ → List ℕ → List ℕ → WorldState = λ m a b c. made (world.time + elapsed) world.sent (all_later m a world.signals) (all_later m b world.points) (all_later m c world.detectors)
    in ap (λ t. made t sent signals points detectors) time_is
    ∙ ap (λ n. made (world.time + elapsed) n signals points detectors) sent_is
    ∙ ap (λ s. made (world.time + elapsed) world.sent s points detectors) signals_are
    ∙ ap (λ p. made (world.time + elapsed) world.sent (all_later moment steps world.signals) p detectors) points_are
    ∙ ap (λ d. made (world.time + elapsed) world.sent (all_later moment steps world.signals) (all_later moment of_points world.points) d) detectors_are
    ∙ ap (λ m. gone m steps of_points of_detectors) moment_is
    ∙ ap (λ c. gone (length world.sent) steps of_points c) detectors_steps
    ∙ ap (λ b. gone (length world.sent) steps b (drop (length world.points) b)) points_steps
    ∙ ap (λ a. gone (length world.sent) a (drop (length world.signals) a) (drop (length world.points) (drop (length world.signals) a))) (sym steps_are)
