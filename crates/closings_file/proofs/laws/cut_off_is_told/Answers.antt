use Rattle.closings.specs.layout.Entries.{Site}
use Rattle.closings.specs.layout.Once.{Once}
use Rattle.closings.specs.layout.Station.{IsStation}
use Rattle.closings_file.proofs.Written.{Knows, read_cut}
use Rattle.closings_file.proofs.laws.cut_off_is_told.Goals as goal

knows : (c : goal.After-all_track_is_closed) (l : Site) → Once l → IsStation l → Knows l
knows c l once station = record {
  numbers = c.a_number_is_read_again.ensures.read;
  words = record {
    read = λ n there. c.words_are_read_again.ensures.read l n once station there;
    plain = λ n there. c.words_are_read_again.ensures.plain l n station there;
  };
  listed = c.what_is_listed_is_there_and_closed.ensures l;
  closed = c.a_command_changes_what_it_names_alone.ensures.closed;
  none = c.all_track_is_closed.ensures.none;
}

pub returns : goal.returns
returns c l head counts closings count once station are less = read_cut l (knows c l once station) head counts closings count are less
