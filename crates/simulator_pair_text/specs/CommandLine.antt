-- The command line of `pair`, as it is read.
use Rattle.std.specs.Prelude.{true, codes, List, ℕ, Option, Some, None}
use Rattle.clap.specs.Words.{App, new_app, new_rule, with_rule}
use Rattle.simulator_pair_text.specs.declared.command.Asked.{Asked}
use Rattle.simulator_pair_text.specs.declared.command.Asked.TheVariants.{Input, File}

-- `pair [FILE]`, which has a version
abbrev pub pair_line : App
pair_line =
    let plain = new_app (codes "pair") in
    with_rule (record plain { top = record plain.top { has_version = true } }) (new_rule (codes "FILE"))

-- the file that is asked for, if any
abbrev pub file_of : Asked → Option (List ℕ)
file_of Input = None
file_of (File file) = Some file.now
