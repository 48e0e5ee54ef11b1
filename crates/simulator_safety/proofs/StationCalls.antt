-- The calls of a step at one link are those at the client of its controller.
use Rattle.std.proofs.Common.{◌≡◌, ◌∙◌, ◌+◌, ◌<◌, ℕ, zero, suc, Bool, true, false, List, [], ◌∷◌, length, map, refl, ap, arith, if◌then◌else◌}
use Rattle.std.specs.Prelude.{◌==◌}
use Rattle.std.proofs.lemmas.Bool.Decides.{nat_tests}
use Rattle.simulator_link_laws.specs.layout.Entries.{Site}
use Rattle.simulator_link_laws.specs.rasta_core.Ends.{Call}
use Rattle.simulator_link_laws.specs.rasta_core.Nodes.{at_link}
use Rattle.simulator_link_laws.specs.ixl_client.ClientSoFar.{LinkCall, as_call}
use Rattle.simulator_link_laws.specs.ixl_spec.StepSoFar.{Node, Signal, Point, Detector}
use Rattle.simulator_machine.specs.Lists.{is_same}
use Rattle.simulator_safety.specs.Calls.{as_calls}
use Rattle.simulator_link_laws.specs.simulator_move_laws.Calls.{calls_at, is_node}
use Rattle.simulator_link_laws.specs.Calls.{AreOfNodes, IsNodeOf, link_at, node_call}
use Rattle.simulator_link_laws.specs.simulator_spec.Nodes.{point_link}

-- ---- nodes by their links

zero_suc : (n : ℕ) → (0 == suc n) ≡ false
zero_suc n = grind (arith, nat_tests)

suc_zero : (n : ℕ) → (suc n == 0) ≡ false
suc_zero n = grind (arith, nat_tests)

same_test : (one other : ℕ) → (one == other) ≡ is_same one other
same_test zero zero = refl
same_test zero (suc other) = zero_suc other
same_test (suc one) zero = suc_zero one
same_test (suc one) (suc other) = next one other ∙ same_test one other where
  next : (a b : ℕ) → (suc a == suc b) ≡ (a == b)
  next a b = grind (arith, nat_tests)

apart : (one other : ℕ) → one < other → (one == other) ≡ false
apart one other less = grind (arith, nat_tests)

beyond : (one other : ℕ) → other < one → (one == other) ≡ false
beyond one other more = grind (arith, nat_tests)

signal_test : (site : Site) (place : ℕ) → place < length site.signals → (node : Node) → IsNodeOf site node → (place == link_at site node) ≡ is_node (Signal place) node
signal_test site place within (Signal other) is = same_test place other
signal_test site place within (Point other) is = apart place (length site.signals + other) (omega arith)
signal_test site place within (Detector other) is = apart place (length site.signals + length site.points + other) (omega arith)

shifted : (count one other : ℕ) → (count + one == count + other) ≡ (one == other)
shifted count one other = grind (arith, nat_tests)

point_test : (site : Site) (place : ℕ) → place < length site.points → (node : Node) → IsNodeOf site node → (point_link site place == link_at site node) ≡ is_node (Point place) node
point_test site place within (Signal other) is = beyond (length site.signals + place) other (omega arith)
point_test site place within (Point other) is = shifted (length site.signals) place other ∙ same_test place other
point_test site place within (Detector other) is = apart (length site.signals + place) (length site.signals + length site.points + other) (omega arith)

-- ---- the calls at one of them

module _ (site : Site) (connection link : ℕ) (at : Node) (test : (node : Node) → IsNodeOf site node → (link == link_at site node) ≡ is_node at node) where
  pub calls_here : (calls : List (Node × LinkCall)) → AreOfNodes site calls → at_link link (map (node_call site connection) calls) ≡ as_calls connection (calls_at at calls)
  unfolding calls_at
  calls_here [] are = refl
  calls_here (first ∷ others) are =
      ap (λ b. if b then as_call connection first.1 ∷ at_link link (map (node_call site connection) others) else at_link link (map (node_call site connection) others)) (test first.0 are.0)
      ∙ cases (is_node at first.0) (calls_here others are.1)
    where
      cases : (b : Bool) → at_link link (map (node_call site connection) others) ≡ as_calls connection (calls_at at others)
          → (if b then as_call connection first.1 ∷ at_link link (map (node_call site connection) others) else at_link link (map (node_call site connection) others))
          ≡ as_calls connection (if b then first.1 ∷ calls_at at others else calls_at at others)
      cases true same = ap (λ (l : List Call). as_call connection first.1 ∷ l) same
      cases false same = same

pub signal_calls : (site : Site) (connection place : ℕ) → place < length site.signals → (calls : List (Node × LinkCall)) → AreOfNodes site calls
    → at_link place (map (node_call site connection) calls) ≡ as_calls connection (calls_at (Signal place) calls)
signal_calls site connection place within = calls_here site connection place (Signal place) (signal_test site place within)

pub point_calls : (site : Site) (connection place : ℕ) → place < length site.points → (calls : List (Node × LinkCall)) → AreOfNodes site calls
    → at_link (point_link site place) (map (node_call site connection) calls) ≡ as_calls connection (calls_at (Point place) calls)
point_calls site connection place within = calls_here site connection (point_link site place) (Point place) (point_test site place within)
