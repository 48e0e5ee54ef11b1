-- How far two ends have come at one moment by their counts, and what follows where they hand over what was given.
use Rattle.simulator_recovery.proofs.Words.Basics.{◌≡◌, ℕ, ◌+◌, ◌^◌, ◌≤◌, ◌<◌, true, false, length, refl, sym, subst, arith, false≢true}
use Rattle.simulator_recovery.proofs.Words.Links.{stops_at_greatest, LinkState}
use Rattle.simulator_recovery.proofs.Words.Controllers.{Stage as HostStage}
use Rattle.simulator_recovery.proofs.Words.Interlockings.{PeerState, is_outside, is_ready, Stage}
use Rattle.simulator_recovery.proofs.Words.Recovery.{ClientHasActedOn, HostHasActedOn, ClientHasGiven, HostHasGiven}

least : (n k : ℕ) → k ≤ n → k < 2 ^ 31 → k ≤ stops_at_greatest n
least n k few small = grind (arith, few, small)

pub exact : (n : ℕ) → stops_at_greatest n < 2 ^ 31 → stops_at_greatest n ≡ n
exact n small = grind (arith, small)

-- a number that is reached by a count that stops
reached : (n k count : ℕ) → count ≡ stops_at_greatest n → k ≤ count → count < 2 ^ 31 → k ≤ n
reached n k count is most small = let e = exact n (subst (λ (c : ℕ). c < 2 ^ 31) is small) in omega (arith, is, e, most)

-- What both ends count at one moment, by their stages, where the client is in a connection that came up.
pub record Moment (objects : ℕ) (client server : LinkState) : Type 0 where
  pub peer : PeerState
  pub awaits : length peer.objects ≡ objects
  pub how_far : Stage
  pub inside : is_outside how_far ≡ false
  pub client_taken : ℕ
  pub client_given : ℕ
  pub client_takes : client.taken ≡ stops_at_greatest client_taken
  pub client_gives : client.given ≡ stops_at_greatest client_given
  pub client_acted : ClientHasActedOn peer how_far client_taken
  pub client_gave : ClientHasGiven how_far client_given
  pub host_at : HostStage
  pub host_taken : ℕ
  pub host_given : ℕ
  pub host_takes : server.taken ≡ stops_at_greatest host_taken
  pub host_gives : server.given ≡ stops_at_greatest host_given
  pub host_acted : HostHasActedOn host_at host_taken
  pub host_gave : HostHasGiven objects host_at host_given

-- what was given at one moment is taken at the next
pub record Passes (client server then_client then_server : LinkState) : Type 0 where
  pub to_server : client.given ≤ then_server.taken
  pub server_few : then_server.taken < 2 ^ 31
  pub to_client : server.given ≤ then_client.taken
  pub client_few : then_client.taken < 2 ^ 31

-- a client inside has said the check of the version
pub said_one : (client : LinkState) (how_far : Stage) (given : ℕ) → client.given ≡ stops_at_greatest given → is_outside how_far ≡ false → ClientHasGiven how_far given → 1 ≤ client.given
said_one client how_far given gives inside gave = let some = by_stage how_far inside gave in subst (λ (n : ℕ). 1 ≤ n) (sym gives) (least given 1 some (omega arith))
  where
    by_stage : (s : Stage) → is_outside s ≡ false → ClientHasGiven s given → 1 ≤ given
    by_stage Stage.Outside inside gave = absurd (false≢true (sym inside))
    by_stage Stage.AwaitsAnswer inside gave = gave
    by_stage Stage.AwaitsStart inside gave = omega (arith, gave)
    by_stage (Stage.AwaitsStatus left) inside gave = omega (arith, gave)
    by_stage Stage.Completed inside gave = omega (arith, gave)
    by_stage Stage.AwaitsReport inside gave = omega (arith, gave)

-- a host that has acted on two items has completed the initialisation
pub two_acted : (s : HostStage) (taken : ℕ) → HostHasActedOn s taken → 2 ≤ taken → s ≡ HostStage.Completed
two_acted HostStage.Outside taken acted two = absurd (omega (arith, acted, two))
two_acted HostStage.AwaitsCheck taken acted two = absurd (omega (arith, acted, two))
two_acted HostStage.AwaitsRequest taken acted two = absurd (omega (arith, acted, two))
two_acted HostStage.Completed taken acted two = refl
two_acted HostStage.Refused taken acted two = absurd (omega (arith, acted, two))

module _ (objects : ℕ) (few : objects ≤ 16) where
  -- a client inside has said the check of the version
  one_said : (client server : LinkState) → Moment objects client server → 1 ≤ client.given
  one_said client server m = said_one client m.how_far m.client_given m.client_gives m.inside m.client_gave

  -- a host that has acted on an item has answered
  one_answered : (client server : LinkState) → Moment objects client server → 1 ≤ server.taken → server.taken < 2 ^ 31 → 1 ≤ server.given
  one_answered client server m some small = let taken = reached m.host_taken 1 server.taken m.host_takes some small in
      subst (λ (n : ℕ). 1 ≤ n) (sym m.host_gives) (least m.host_given 1 (by_stage m.host_at m.host_acted m.host_gave taken) (omega arith))
    where
      by_stage : (s : HostStage) → HostHasActedOn s m.host_taken → HostHasGiven objects s m.host_given → 1 ≤ m.host_taken → 1 ≤ m.host_given
      by_stage HostStage.Outside acted gave taken = absurd (omega (arith, acted, taken))
      by_stage HostStage.AwaitsCheck acted gave taken = absurd (omega (arith, acted, taken))
      by_stage HostStage.AwaitsRequest acted gave taken = omega (arith, gave)
      by_stage HostStage.Completed acted gave taken = omega (arith, gave)
      by_stage HostStage.Refused acted gave taken = omega (arith, gave)

  -- a client that has acted on the answer has asked for the initialisation
  two_said : (client server : LinkState) → Moment objects client server → 1 ≤ client.taken → client.taken < 2 ^ 31 → 2 ≤ client.given
  two_said client server m some small = let taken = reached m.client_taken 1 client.taken m.client_takes some small in
      subst (λ (n : ℕ). 2 ≤ n) (sym m.client_gives) (least m.client_given 2 (by_stage m.how_far m.client_acted m.client_gave taken) (omega arith))
    where
      by_stage : (s : Stage) → ClientHasActedOn m.peer s m.client_taken → ClientHasGiven s m.client_given → 1 ≤ m.client_taken → 2 ≤ m.client_given
      by_stage Stage.Outside acted gave taken = absurd (omega (arith, acted, taken))
      by_stage Stage.AwaitsAnswer acted gave taken = absurd (omega (arith, acted, taken))
      by_stage Stage.AwaitsStart acted gave taken = gave
      by_stage (Stage.AwaitsStatus left) acted gave taken = gave
      by_stage Stage.Completed acted gave taken = gave
      by_stage Stage.AwaitsReport acted gave taken = gave

  completed : (client server : LinkState) → (m : Moment objects client server) → 2 ≤ server.taken → server.taken < 2 ^ 31 → m.host_at ≡ HostStage.Completed
  completed client server m some small = two_acted m.host_at m.host_taken m.host_acted (reached m.host_taken 2 server.taken m.host_takes some small)

  -- and has said all of it
  all_said : (client server : LinkState) → (m : Moment objects client server) → m.host_at ≡ HostStage.Completed → 3 + objects ≤ server.given
  all_said client server m at = subst (λ (n : ℕ). 3 + objects ≤ n) (sym m.host_gives) (least m.host_given (3 + objects) (subst (λ (s : HostStage). HostHasGiven objects s m.host_given) at m.host_gave) (omega (arith, few)))

  -- a client that has acted on all of it is ready
  ready : (client server : LinkState) → (m : Moment objects client server) → 3 + objects ≤ client.taken → client.taken < 2 ^ 31 → is_ready m.how_far ≡ true
  ready client server m some small = by_stage m.how_far m.client_acted (reached m.client_taken (3 + objects) client.taken m.client_takes some small)
    where
      known : length m.peer.objects ≡ objects
      known = m.awaits

      by_stage : (s : Stage) → ClientHasActedOn m.peer s m.client_taken → 3 + objects ≤ m.client_taken → is_ready s ≡ true
      by_stage Stage.Outside acted taken = absurd (omega (arith, acted, taken))
      by_stage Stage.AwaitsAnswer acted taken = absurd (omega (arith, acted, taken))
      by_stage Stage.AwaitsStart acted taken = absurd (omega (arith, acted, taken))
      by_stage (Stage.AwaitsStatus left) acted taken = absurd (omega (arith, acted, taken, known))
      by_stage Stage.Completed acted taken = refl
      by_stage Stage.AwaitsReport acted taken = refl

  -- three times what was given is handed over: the check, the answer, the request
  pub two_taken : (c0 s0 c1 s1 c2 s2 c3 s3 : LinkState) → 1 ≤ c0.given → Moment objects c1 s1 → Moment objects c2 s2 → Passes c0 s0 c1 s1 → Passes c1 s1 c2 s2 → Passes c2 s2 c3 s3 → 2 ≤ s3.taken
  two_taken c0 s0 c1 s1 c2 s2 c3 s3 said m1 m2 p1 p2 p3 =
      let answered = one_answered c1 s1 m1 (omega (arith, said, p1.to_server)) p1.server_few
      in let asked = two_said c2 s2 m2 (omega (arith, answered, p2.to_client)) p2.client_few
      in omega (arith, asked, p3.to_server)

  -- four times what was given is handed over: the check, the answer, the request, the initialisation
  module _ (c0 s0 c1 s1 c2 s2 c3 s3 c4 s4 : LinkState) (said0 : 1 ≤ c0.given) (m1 : Moment objects c1 s1) (m2 : Moment objects c2 s2) (m3 : Moment objects c3 s3) (m4 : Moment objects c4 s4)
      (p1 : Passes c0 s0 c1 s1) (p2 : Passes c1 s1 c2 s2) (p3 : Passes c2 s2 c3 s3) (p4 : Passes c3 s3 c4 s4) where
    answered1 : 1 ≤ s1.given
    answered1 = one_answered c1 s1 m1 (omega (arith, said0, p1.to_server)) p1.server_few

    asked2 : 2 ≤ c2.given
    asked2 = let answered = answered1 in two_said c2 s2 m2 (omega (arith, answered, p2.to_client)) p2.client_few

    answered2 : 1 ≤ s2.given
    answered2 = let said = one_said c1 s1 m1 in one_answered c2 s2 m2 (omega (arith, said, p2.to_server)) p2.server_few

    asked3 : 2 ≤ c3.given
    asked3 = let answered = answered2 in two_said c3 s3 m3 (omega (arith, answered, p3.to_client)) p3.client_few

    completed3 : m3.host_at ≡ HostStage.Completed
    completed3 = let asked = asked2 in completed c3 s3 m3 (omega (arith, asked, p3.to_server)) p3.server_few

    pub host_is_ready : m4.host_at ≡ HostStage.Completed
    host_is_ready = let asked = asked3 in completed c4 s4 m4 (omega (arith, asked, p4.to_server)) p4.server_few

    pub client_is_ready : is_ready m4.how_far ≡ true
    client_is_ready = let said = all_said c3 s3 m3 completed3 in ready c4 s4 m4 (omega (arith, said, p4.to_client)) p4.client_few
