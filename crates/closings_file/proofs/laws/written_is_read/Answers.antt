use Rattle.std.proofs.Common.{ap}
use Rattle.closings.specs.layout.Entries.{Site}
use Rattle.closings.specs.layout.Once.{Once}
use Rattle.closings.specs.layout.Station.{IsStation}
use Rattle.closings_file.proofs.Written.{Knows, found_again, found_things}
use Rattle.closings_file.proofs.laws.written_is_read.Goals as goal

knows : (c : goal.After-all_track_is_closed) (l : Site) → Once l → IsStation l → Knows l
knows c l once station = record {
  numbers = c.a_number_is_read_again.ensures.read;
  words = record {
    read = λ n there. c.words_are_read_again.ensures.read l n once station there;
    plain = λ n there. c.words_are_read_again.ensures.plain l n station there;
  };
  listed = c.what_is_listed_is_there_and_closed.ensures l;
  closed = c.a_command_changes_what_it_names_alone.ensures.closed;
  none = c.all_track_is_closed.ensures.none;
}

pub returns-clause-fault : goal.returns-clause-fault
returns-clause-fault c l head counts closings once station are = ap (λ found. found.fault) (found_again l (knows c l once station) head counts closings are)

pub returns-clause-counts : goal.returns-clause-counts
returns-clause-counts c l head counts closings once station are = ap (λ found. found.counts) (found_again l (knows c l once station) head counts closings are)

pub returns-clause-things : goal.returns-clause-things
returns-clause-things c l head counts closings t once station are = found_things l (knows c l once station) head counts closings t are
