use Rattle.toml.specs.Data.{as_array}
use Rattle.toml.specs.View.{view}
use Rattle.railway_layout.proofs.ValueLemmas.{found_items}
use Rattle.railway_layout.proofs.values.array.Goals as goal

pub returns-in-Some : goal.returns-in-Some
returns-in-Some c = found_items c.as_array.result c.in-Some.items c.as_slice.result.now (as_array (view c.args.value.now)) c.args.place c.in-Some.is c.as_slice.ensures.value c.as_array.ensures
