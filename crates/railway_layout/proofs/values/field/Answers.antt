use Rattle.toml.proofs.Views.{table_get}
use Rattle.toml.specs.Data.{get_member}
use Rattle.toml.specs.View.{table_view}
use Rattle.railway_layout.proofs.ValueLemmas.{found_field, no_field}
use Rattle.railway_layout.proofs.values.field.Goals as goal

pub returns-in-Some : goal.returns-in-Some
returns-in-Some c = found_field c.get.result c.in-Some.value (get_member c.args.key.now (table_view c.args.table.now)) c.args.place c.in-Some.is (table_get c.get.result c.args.key.now c.args.table.now.entries c.get.ensures.value)

pub returns-in-None : goal.returns-in-None
returns-in-None c = no_field c.get.result (get_member c.args.key.now (table_view c.args.table.now)) c.args.place c.in-None.is (table_get c.get.result c.args.key.now c.args.table.now.entries c.get.ensures.value)
