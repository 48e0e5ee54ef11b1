use Rattle.std.proofs.Common.{◌≡◌, drop}
use Rattle.node_record.specs.inside.WordTables.{told_by}
use Rattle.node_record.proofs.word_table.told_by.Given as goal

-- no row so far is that of the word
abbrev pub invariant-loop-row : goal.invariant-loop-row
invariant-loop-row g l = told_by l.word (drop l.row-index l.table) ≡ told_by l.word l.table
