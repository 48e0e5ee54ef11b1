use Rattle.std.proofs.Common.{ℕ}
use Rattle.std.specs.Prelude.{codes, string_bytes}
use Rattle.closings_file.specs.Texts.{number_line}
use Rattle.closings_file.proofs.Added.{behind_both}
use Rattle.closings_file.proofs.writer.add_counts.Goals as goal

pub returns : goal.returns
returns c =
    behind_both c.add_number-2.result (string_bytes c.args.text.now) (number_line (codes "counted release ") c.args.counts.releases) (number_line (codes "counted open ") c.args.counts.opens)
    (string_bytes c.add_number.new.text) (string_bytes c.add_number-2.new.text) c.in_ok-add_number.ensures c.add_number-2.ensures
