use Rattle.std.proofs.Common.{◌≡◌, drop}
use Rattle.toml.specs.View.{table_view}
use Rattle.station_layout.specs.EntryAdvice.{first_wrong}
use Rattle.station_layout.proofs.entry_advice.first_wrong.Given as goal

abbrev pub invariant-loop-key : goal.invariant-loop-key
invariant-loop-key l = first_wrong l.place (table_view l.fields) (drop l.key-index l.keys) ≡ first_wrong l.place (table_view l.fields) l.keys
