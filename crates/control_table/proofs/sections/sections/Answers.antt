use Rattle.std.proofs.Common.{ap, ◌∙◌}
use Rattle.std.proofs.lemmas.List.Filters.{dedup_is}
use Rattle.std.specs.List.{dedup}
use Rattle.control_table.specs.Path.{same_section}
use Rattle.control_table.proofs.sections.sections.Goals as goal

pub returns : goal.returns
returns c =
    dedup_is same_section c.in_ok-sections.sections.items c.dedup.new.self.items c.dedup.ensures.filtered ∙ ap (dedup same_section) c.in_ok-sections.ensures
