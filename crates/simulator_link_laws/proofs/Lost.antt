-- The network loses a datagram.
use Rattle.std.proofs.Common.{ℕ, List, [], ◌∷◌, refl, ap}
use Rattle.simulator_spec.specs.layout.Entries.{Site}
use Rattle.simulator_spec.specs.rasta_core.Links.{Links, LosesAny, without_oldest_of_all}
use Rattle.simulator_spec.specs.Links.{AreLinksOf}
use Rattle.simulator_spec.specs.State.{WorldState}
use Rattle.simulator_link_laws.proofs.Places.{client_same, server_same}
use Rattle.simulator_link_laws.specs.Events.{FollowsBy}

pub lost_follows : (site : Site) (world : WorldState) (before : Links) (bytes : List ℕ) → AreLinksOf site world before → FollowsBy site (LosesAny bytes ∷ []) (record world { sent = without_oldest_of_all bytes world.sent }) before
lost_follows site world before bytes are = record {
  may = (tt, tt);
  are = record {
    time_is = are.time_is;
    sent_is = ap (without_oldest_of_all bytes) are.sent_is;
    clients = λ link id at. client_same world new link (before.ends link).client (before.ends link).client refl refl (are.clients link id at);
    servers = λ link id at. server_same world new link (before.ends link).server (before.ends link).server refl refl (are.servers link id at);
  };
}
  where
    new : WorldState
    new = record world { sent = without_oldest_of_all bytes world.sent }
