use Rattle.std.proofs.Common.{◌∙◌}
use Rattle.toml.proofs.Views.{table_get}
use Rattle.toml.specs.Data.{get_member}
use Rattle.toml.specs.View.{table_view}
use Rattle.railway_layout.proofs.ValueLemmas.{same_there}
use Rattle.railway_layout.proofs.values.has_key.Goals as goal

pub returns : goal.returns
returns c =
    c.is_some.ensures
    ∙ same_there c.get.result (get_member c.args.key.now (table_view c.args.table.now)) (table_get c.get.result c.args.key.now c.args.table.now.entries c.get.ensures.value)
