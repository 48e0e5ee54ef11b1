-- What may come with an input: with a datagram what may come of it at each link, and nothing with another.
use Rattle.simulator_recovery.proofs.Words.Basics.{◌≡◌, ℕ, List, [], ap, subst}
use Rattle.simulator_recovery.proofs.Words.Links.{Receives, Links, MayCallOn}
use Rattle.simulator_recovery.proofs.Words.Interlockings.{Commands, Datagram, Input, Tick}
use Rattle.simulator_recovery.proofs.Words.Stations.{Site, names_at, MayComeWith}

datagram_of : Input → List ℕ
datagram_of (Datagram bytes) = bytes
datagram_of Tick = []
datagram_of (Commands command) = []

same_bytes : (one other : List ℕ) → Datagram one ≡ Datagram other → one ≡ other
unfolding datagram_of
same_bytes one other e = ap datagram_of e

module _ (site : Site) (network : Links) where
  pub none_comes : (input : Input) → ((bytes : List ℕ) → input ≡ Datagram bytes → ⊥) → MayComeWith site input 0 network
  none_comes input none bytes e = absurd (none bytes e)

  pub one_comes : (bytes : List ℕ) (connection : ℕ) → ((link : ℕ) → MayCallOn (names_at site link) (Receives bytes connection) network) → MayComeWith site (Datagram bytes) connection network
  one_comes bytes connection may other e link below = subst (λ (b : List ℕ). MayCallOn (names_at site link) (Receives b connection) network) (same_bytes bytes other e) (may link)
