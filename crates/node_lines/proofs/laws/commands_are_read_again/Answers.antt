use Rattle.std.proofs.Common.{refl}
use Rattle.std.specs.List.{join_with_byte}
use Rattle.simulator_event.specs.declared.event.Event.TheVariants.{Request}
use Rattle.replay_lines.specs.Written.{command_words}
use Rattle.node_lines.proofs.ReadAgain.{command-read}
use Rattle.node_lines.proofs.laws.commands_are_read_again.Goals as goal

pub returns : goal.returns
returns c site once station asked =
    command-read site (record {
      joined = c.joined_words_are_read_again.ensures;
      sections = c.names_are_read_again.ensures.sections site once;
      routes = c.names_are_read_again.ensures.routes site once;
      section_words = c.names_are_words.ensures.sections site station;
      route_words = c.names_are_words.ensures.routes site station;
      unknown = c.names_are_words.ensures.unknown site station;
    }) (record {
      read = λ of. c.written_events_are_read_again.ensures site once station (Request of) tt (join_with_byte 32 (command_words site of)) refl;
      things = c.names_are_words.ensures.things site station;
      points = c.names_are_words.ensures.points site station;
    }) asked
