use Rattle.toml.proofs.Views.{table_get}
use Rattle.node_addresses.proofs.address_read.value_under.Goals as goal

pub returns : goal.returns
returns c = rw (← c.as_str.ensures) (table_get c.get.result c.as_str.result.now c.args.document.now.entries c.get.ensures.value)
