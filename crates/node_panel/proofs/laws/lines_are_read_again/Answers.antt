use Rattle.node_panel.proofs.ReadAgain.{told-read}
use Rattle.node_panel.proofs.laws.lines_are_read_again.Goals as goal

pub returns : goal.returns
returns c site once station known is =
    told-read site (record {
      joined = c.joined_words_are_read_again.ensures;
      nodes = c.names_are_read_again.ensures.nodes site once;
      sections = c.names_are_read_again.ensures.sections site once;
      points = c.names_are_read_again.ensures.points site once;
      routes = c.names_are_read_again.ensures.routes site once;
      node_words = c.names_are_words.ensures.nodes site station;
      section_words = c.names_are_words.ensures.sections site station;
      point_words = c.names_are_words.ensures.points site station;
      route_words = c.names_are_words.ensures.routes site station;
      things = λ n word side says. (c.a_name_names_what_has_it.ensures site n word side once).1 says;
      thing_words = c.names_are_words.ensures.things site station;
      numbers = c.a_number_is_read_again.ensures.read;
      number_words = c.a_number_is_read_again.ensures.word;
    }) known is
