use Rattle.std.proofs.Common.{sym, ◌∙◌}
use Rattle.std.proofs.lemmas.Bool.{false≢true}
use Rattle.ixl_state.proofs.SectionLook.{place-absent}
use Rattle.ixl_state.proofs.progress.place_on.Goals as goal

pub returns-else-contains : goal.returns-else-contains
returns-else-contains c = sym (place-absent c.args.section c.args.row.now.sections (λ has. false≢true (sym c.if-contains.false ∙ c.contains.ensures ∙ (c.section_row.ensures c.args.section).1 has)))
