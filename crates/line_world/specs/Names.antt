-- Who the two ends of a line are.
use Rattle.line_host.specs.declared.parties.Parties.{Parties}
use Rattle.line_laws.specs.declared.words.Side.{Side}
use Rattle.line_laws.specs.declared.words.Side.TheVariants.{First, Second}
use Rattle.rasta_core.specs.Names.{AreNames, Names}
use Rattle.sci_telegram.specs.Names.{IsName}
use Rattle.line_world.specs.declared.names.EndName.{EndName}
use Rattle.line_world.specs.declared.names.LineNames.{LineNames}

abbrev pub other : Side → Side
other First = Second
other Second = First

-- the end at a side
abbrev pub named : Side → LineNames → EndName
named First names = names.first
named Second names = names.second

-- the end at a side, and with whom it talks
abbrev pub parties : Side → LineNames → Parties
parties side names = record {
  line = names.line;
  side = side;
  own = (named side names).id;
  partner = (named (other side) names).id;
  own_name = (named side names).name;
  peer_name = (named (other side) names).name;
  key = names.key;
}

-- the two ends of the line's link: the first is its client
abbrev pub link_names : LineNames → Names
link_names names = record { key = names.key; client = names.first.id; server = names.second.id }

-- the two ends have names, and two identities which differ
pub record AreLineNames (names : LineNames) : Type 0 where
  pub link : AreNames (link_names names)
  pub first : IsName names.first.name
  pub second : IsName names.second.name
