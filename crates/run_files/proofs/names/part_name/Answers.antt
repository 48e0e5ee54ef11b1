use Rattle.std.proofs.lemmas.Bool.{ne_eqb}
use Rattle.std.specs.Prelude.{string_bytes}
use Rattle.run_files.proofs.Named.{further_named}
use Rattle.run_files.proofs.names.part_name.Goals as goal

pub returns-else-number-eq1 : goal.returns-else-number-eq1
returns-else-number-eq1 c = further_named (λ name. string_bytes name) c.further_name.result c.args.path.now c.args.number (ne_eqb c.args.number 1 c.if-number-eq1.false) c.further_name.ensures
