-- Who the two ends of a link are.
use Rattle.std.specs.Prelude.{◌≢◌, ℕ, ◌^◌, ◌<◌}
use Rattle.rasta_core_link.specs.declared.identity.Identity.{Identity}
use Rattle.rasta_core_link.specs.declared.identity.Role.{Role}
use Rattle.rasta_core_link.specs.declared.identity.Role.TheVariants as role
use Rattle.rasta_pdu.specs.declared.key.Key.{Key}

-- the key of the network, and the identities of the two ends
pub record Names : Type 0 where
  pub key : Key
  pub client : ℕ
  pub server : ℕ

abbrev pub name_of : Role → Names → ℕ
name_of role.Client names = names.client
name_of role.Server names = names.server

abbrev pub partner_of : Role → Role
partner_of role.Client = role.Server
partner_of role.Server = role.Client

-- two identities, which differ
pub record AreNames (names : Names) : Type 0 where
  pub differ : names.client ≢ names.server
  pub client : names.client < 2 ^ 32
  pub server : names.server < 2 ^ 32

abbrev pub identity_of : Role → Names → Identity
identity_of who names = record { role = who; own = name_of who names; partner = name_of (partner_of who) names; key = names.key }
