-- What C sets a controller up with, and the controller that it starts.
use Rattle.std.specs.Prelude.{ℕ, List, [], ◌∷◌}
use Rattle.rasta_core.specs.identity.Role.TheVariants.{Server}
use Rattle.rasta_pdu.specs.declared.key.Key.{Key}
use Rattle.object_host.specs.Behaviour.{Behaviour}
use Rattle.object_host.specs.Hosted.{new_host}
use Rattle.object_host.specs.declared.parties.Parties.{Parties}
use Rattle.embedded_host.specs.Embedded.{EmbeddedState, started}
use Rattle.controllers_c.specs.declared.setup.Setup.{Setup}

-- the key of the network
abbrev pub key_of : Setup → Key
key_of setup = record { 0 = setup.key_a ∷ setup.key_b ∷ setup.key_c ∷ setup.key_d ∷ [] }

abbrev pub parties_of : Setup → List ℕ → List ℕ → Parties
parties_of setup own_name peer_name = record { own = setup.own; partner = setup.partner; own_name = own_name; peer_name = peer_name; key = key_of setup }

-- a controller of this object that starts at this reading
abbrev pub set_up : {Object : Type 0} → Behaviour Object → Setup → List ℕ → List ℕ → ℕ → Object → EmbeddedState Object
set_up does setup own_name peer_name now object =
    started (new_host does (record { role = Server; own = setup.own; partner = setup.partner; key = key_of setup }) own_name peer_name setup.first_sequence_number now object setup.version) now
