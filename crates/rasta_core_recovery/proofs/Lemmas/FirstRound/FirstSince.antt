-- What an end said since some time, in the connection that both ends are in.
use Rattle.rasta_core_recovery.proofs.Words.Basics.{◌≡◌, ℕ, ◌∙◌, ◌+◌, ◌≤◌, Bool, true, false, not, ◌&&◌, nat_le, List, ◌++◌, Some, Ok, sym, ap, arith}
use Rattle.rasta_core_recovery.proofs.Words.Links.{lifetime, Each, Sent, IsAmong, Names, reading, is_open, Role, Pdu, Ordered}
use Rattle.rasta_core_recovery.proofs.Words.Recovery.{of_client, of_server, Flow, can_come}
use Rattle.rasta_core_recovery.proofs.Lemmas.Rounds.Bridge.{IsNow, LeavesIt}
use Rattle.rasta_core_recovery.proofs.Lemmas.Rounds.Facts.{each_both, in_newest, is_newest}
use Rattle.rasta_core_recovery.proofs.Lemmas.FirstRound.FirstDue.{each_of, of_each}
use Rattle.rasta_core_recovery.proofs.Lemmas.FirstRound.FirstTurns.{Source, each_source, each_turned}
use Rattle.rasta_core_recovery.proofs.Lemmas.Rounds.Happen.{among_front}
use Rattle.rasta_core_recovery.proofs.Lemmas.Rounds.Links.{Pair, pair_round}
use Rattle.rasta_core_recovery.proofs.Lemmas.Rounds.Mirror.{Mirrors}
use Rattle.rasta_core_recovery.proofs.Lemmas.Asking.AsksSaid.{among_back}

-- it was sent at this time or later by this end, and isn't lost
pub record IsSince (names : Names) (time : ℕ) (who : Role) (sent : List Sent) (p : Pdu) : Type 0 where
  pub datagram : Sent
  pub among : IsAmong datagram sent
  pub sender : datagram.sender ≡ who
  pub since : time ≤ datagram.at
  pub arrives : datagram.is_lost ≡ false
  pub read : reading names.key datagram.bytes ≡ Ok p

-- so it is later
pub since_later : (names : Names) (time : ℕ) (who : Role) (sent more : List Sent) (ps : List Pdu) → Each (IsSince names time who sent) ps → Each (IsSince names time who (sent ++ more)) ps
since_later names time who sent more ps each = each_turned (IsSince names time who sent) (IsSince names time who (sent ++ more)) ps (λ p s. record {
  datagram = s.datagram;
  among = among_front s.datagram sent more s.among;
  sender = s.sender;
  since = s.since;
  arrives = s.arrives;
  read = s.read;
}) each

-- what both say in a round
module _ (names : Names) (f : Flow) (due : List Sent) (p : Pair) (left : LeavesIt names f due p) where
  new_now : Each (λ (d : Sent). IsAmong d left.new × IsNow (f.ends.time + 10000) d) left.new
  new_now = each_both (λ (d : Sent). IsAmong d left.new) (IsNow (f.ends.time + 10000)) left.new (each_of (λ (d : Sent). IsAmong d left.new) left.new (λ d is. is)) left.now

  since_by : (who : Role) (ps : List Pdu) → Each (λ (q : Pdu). (d : Sent) × (IsAmong d left.new × IsNow (f.ends.time + 10000) d) × (d.sender ≡ who) × (reading names.key d.bytes ≡ Ok q)) ps
      → (time : ℕ) → time ≤ f.ends.time + 10000 → Each (IsSince names time who (f.ends.sent ++ left.new)) ps
  since_by who ps each time early = each_turned _ (IsSince names time who (f.ends.sent ++ left.new)) ps (λ q s. record {
    datagram = s.0;
    among = among_back s.0 f.ends.sent left.new s.1.0;
    sender = s.2;
    since = (let a = s.1.1.0 in omega (arith, a, early));
    arrives = s.1.1.1;
    read = s.3;
  }) each

  pub server_since : (time : ℕ) → time ≤ f.ends.time + 10000 → Each (IsSince names time Role.Server (f.ends.sent ++ left.new)) (pair_round p).to_client
  server_since time early = since_by Role.Server (pair_round p).to_client (each_source names.key _ Role.Server left.new (pair_round p).to_client new_now left.to_client) time early

  pub client_since : (time : ℕ) → time ≤ f.ends.time + 10000 → Each (IsSince names time Role.Client (f.ends.sent ++ left.new)) (pair_round p).to_server
  client_since time early = since_by Role.Client (pair_round p).to_server (each_source names.key _ Role.Client left.new (pair_round p).to_server new_now left.to_server) time early

-- so it was said in the connection that both are in
module _ (names : Names) (f : Flow) (p : Pair) (m : Mirrors names f p) (ordered : Ordered names f.ends) (server_in : is_open f.ends.server.link.phase ≡ true) (time : ℕ)
    (late : f.ends.time + 10000 ≤ time + lifetime) where
  in_time : (d : Sent) → IsAmong d f.ends.sent → time ≤ d.at → d.is_lost ≡ false → d.connection ≡ m.timely.newest
  in_time d is since arrives = (in_newest names f p m ordered d (of_each _ f.ends.sent d m.timely.datagrams is) can).0
    where
      nat_le_so : nat_le (f.ends.time + 10000) (d.at + lifetime) ≡ true
      nat_le_so = grind (arith, late, since)

      can : can_come (f.ends.time + 10000) d ≡ true
      can = ap (λ (b : Bool). not b && nat_le (f.ends.time + 10000) (d.at + lifetime)) arrives ∙ nat_le_so

  pub server_source : (ps : List Pdu) → Each (IsSince names time Role.Server f.ends.sent) ps → Each (Source names (of_server f.ends)) ps
  server_source ps each = each_turned (IsSince names time Role.Server f.ends.sent) (Source names (of_server f.ends)) ps
      (λ q s. (s.datagram, s.among, s.sender, (is_newest names f.ends m.timely server_in).0 ∙ ap Some (sym (in_time s.datagram s.among s.since s.arrives)), s.read)) each

  pub client_source : (ps : List Pdu) → Each (IsSince names time Role.Client f.ends.sent) ps → Each (Source names (of_client f.ends)) ps
  client_source ps each = each_turned (IsSince names time Role.Client f.ends.sent) (Source names (of_client f.ends)) ps
      (λ q s. (s.datagram, s.among, s.sender, (is_newest names f.ends m.timely server_in).1 ∙ ap Some (sym (in_time s.datagram s.among s.since s.arrives)), s.read)) each
