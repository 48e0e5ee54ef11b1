use Rattle.std.specs.Prelude.{None}
use Rattle.replay_lines.proofs.ReadAgain.{line-says}
use Rattle.replay_lines.proofs.round_trip.written_events_are_read_again.Goals as goal

pub returns : goal.returns
returns c site once station event values line e =
    line-says site (record {
      joined = c.joined_words_are_read_again.ensures;
      parted = c.a_name_and_its_number_are_parted_again.ensures;
      number = c.a_number_is_read_again.ensures.read;
      number_word = c.a_number_is_read_again.ensures.word;
      bytes = c.bytes_are_read_again.ensures.any;
      some_bytes = c.bytes_are_read_again.ensures.some;
      bytes_word = c.bytes_are_read_again.ensures.word;
      nodes = c.names_are_read_again.ensures.nodes site once;
      sections = c.names_are_read_again.ensures.sections site once;
      points = c.names_are_read_again.ensures.points site once;
      routes = c.names_are_read_again.ensures.routes site once;
      node_words = c.names_are_words.ensures.nodes site station;
      node_equals = c.names_are_words.ensures.equals site station;
      section_words = c.names_are_words.ensures.sections site station;
      point_words = c.names_are_words.ensures.points site station;
      route_words = c.names_are_words.ensures.routes site station;
      unknown = c.names_are_words.ensures.unknown site station;
      no_point = c.names_are_words.ensures.no_point site station;
      wholes = λ n name is none. (c.a_name_names_what_has_it.ensures site n name None once).1 (record { name = is; at = none });
      whole_words = c.names_are_words.ensures.things site station;
      nothing = c.names_are_words.ensures.nothing site station;
    }) event values line e
