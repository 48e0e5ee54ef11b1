use Rattle.std.proofs.Common.{ℕ, List}
use Rattle.closings.specs.layout.Entries.{Site}
use Rattle.closings.specs.layout.Once.{Once}
use Rattle.closings.specs.layout.Station.{IsStation}
use Rattle.closings_file.proofs.Courses.{Laws, counted_after_cut, counted_found, counted_less}
use Rattle.closings_file.proofs.laws.what_is_counted_is_found.Goals as goal

laws : (c : goal.After-what_either_closes_is_closed) (l : Site) (head : List ℕ) → Once l → IsStation l → Laws l head
laws c l head once station = record {
  read = λ counts d t are there closed. (c.written_is_read.ensures.things l head counts d t once station are).1 (there, closed);
  counted = λ counts d are. c.written_is_read.ensures.counts l head counts d once station are;
  found = c.what_is_found_was_kept.ensures;
  either = c.what_either_closes_is_closed.ensures.either;
}

pub returns-clause-now : goal.returns-clause-now
returns-clause-now c l head fresh bytes moves once station = counted_found l head (laws c l head once station) fresh bytes moves

pub returns-clause-after_cut : goal.returns-clause-after_cut
returns-clause-after_cut c l head fresh bytes moves left any once station = counted_after_cut l head (laws c l head once station) fresh bytes moves left any

pub returns-clause-counts : goal.returns-clause-counts
returns-clause-counts c l head fresh bytes moves once station = counted_less l head (laws c l head once station) fresh bytes moves
