-- What is told of the answer to an event.
--
--     ok                    the event happened, and is no command
--     accepted              the interlocking took the command
--     refused N             it refused the command, by number; 5 and 14 with the route, 6 with the section, 7 with the point,
--                           13 with what is closed: its name, and the side of a point
--     no N                  the event couldn't happen, by number
use Rattle.std.specs.Prelude.{ℕ, List, ◌∷◌, ◌++◌, codes, Option, Some, None, Result, Ok, Err}
use Rattle.std.specs.Fmt.{decimal}
use Rattle.ixl_spec.specs.layout.Entries.{Site}
use Rattle.ixl_spec.specs.closings.declared.thing.Named.TheVariants.{One}
use Rattle.ixl_spec.specs.closings.Words.{name_word, side_word, thing_side}
use Rattle.ixl_spec.specs.sci_telegram.declared.message.Side.{Side}
use Rattle.ixl_spec.specs.Commands.{refusal_number}
use Rattle.ixl_spec.specs.declared.command.Refusal.{Refusal}
use Rattle.ixl_spec.specs.declared.command.Refusal.TheVariants.{Closed, Conflict, Held, NotClear, PointUnavailable}
use Rattle.simulator_event.specs.Refused.{number_of}
use Rattle.simulator_event.specs.refused.Refused.{Refused as Why}
use Rattle.simulator_event.specs.declared.reply.Answer.{Answer}
use Rattle.simulator_event.specs.declared.reply.Answer.TheVariants.{Done, Accepted, Refused}
pub use Rattle.simulator_event.specs.Station.{recorded}
use Rattle.replay_lines.specs.Names.{point_word, route_word, section_word}

-- the name of what a command was refused for, if it is told
abbrev pub refusal_name : Site → Refusal → Option (List ℕ)
refusal_name site (Conflict route) = Some (route_word site route)
refusal_name site (NotClear section) = Some (section_word site section)
refusal_name site (PointUnavailable point) = Some (point_word site point)
refusal_name site (Closed thing) = Some (name_word site (One thing))
refusal_name site (Held route) = Some (route_word site route)
refusal_name site _ = None

-- the side that is told behind the name, of a closed point
abbrev pub refusal_side : Refusal → Option Side
refusal_side (Closed thing) = thing_side thing
refusal_side _ = None

-- the number of a refusal, the name after it, and the side after that
abbrev pub numbered : ℕ → Option (List ℕ) → Option Side → List ℕ
numbered number (Some name) (Some side) = codes "refused " ++ (decimal number ++ 32 ∷ name ++ 32 ∷ side_word side)
numbered number (Some name) None = codes "refused " ++ (decimal number ++ 32 ∷ name)
numbered number None side = codes "refused " ++ decimal number

abbrev pub refusal_text : Site → Refusal → List ℕ
refusal_text site refusal = numbered (refusal_number refusal) (refusal_name site refusal) (refusal_side refusal)

abbrev pub answer_text : Site → Result Answer Why → List ℕ
answer_text site (Ok Done) = codes "ok"
answer_text site (Ok Accepted) = codes "accepted"
answer_text site (Ok (Refused refusal)) = refusal_text site refusal
answer_text site (Err why) = codes "no " ++ decimal (number_of why)
