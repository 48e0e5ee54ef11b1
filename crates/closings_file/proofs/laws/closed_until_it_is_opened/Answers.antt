use Rattle.std.proofs.Common.{ℕ, List}
use Rattle.closings.specs.layout.Entries.{Site}
use Rattle.closings.specs.layout.Once.{Once}
use Rattle.closings.specs.layout.Station.{IsStation}
use Rattle.closings_file.proofs.Courses.{Laws, shut_until}
use Rattle.closings_file.proofs.laws.closed_until_it_is_opened.Goals as goal

laws : (c : goal.After-a_command_changes_what_it_names_alone) (l : Site) (head : List ℕ) → Once l → IsStation l → Laws l head
laws c l head once station = record {
  read = λ counts d t are there closed. (c.written_is_read.ensures.things l head counts d t once station are).1 (there, closed);
  counted = λ counts d are. c.written_is_read.ensures.counts l head counts d once station are;
  found = c.what_is_found_was_kept.ensures;
  either = c.what_either_closes_is_closed.ensures.either;
}

pub returns : goal.returns
returns c l head fresh bytes moves later t once station there =
    shut_until l head (laws c l head once station) c.a_command_changes_what_it_names_alone.ensures.closed c.a_command_changes_what_it_names_alone.ensures.opened fresh bytes moves later t there
