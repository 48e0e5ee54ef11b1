-- The texts of answers and of the picture, each without the line feed at its end.
use Rattle.std.specs.Prelude.{ℕ, ◌/◌, length, if◌then◌else◌, List, ◌++◌, codes, Result, Ok, Err}
use Rattle.std.specs.Fmt.{decimal}
use Rattle.sci_telegram.specs.Words.{aspect_word}
use Rattle.rasta_core.specs.State.{is_up}
use Rattle.rasta_core.specs.Ends.{EndState}
use Rattle.simulator_pair.specs.Pair.{PairState, shown}
use Rattle.rasta_core.specs.fault.SendFault.TheVariants.{NotUp, WindowFull}
use Rattle.simulator_pair.specs.declared.event.PairReply.{PairReply}
use Rattle.simulator_pair.specs.declared.event.PairAnswer.{PairAnswer}
use Rattle.simulator_pair.specs.declared.event.PairAnswer.TheVariants.{Given, Done as Applied}
use Rattle.simulator_pair.specs.refused.Refused.{Refused as Why}
use Rattle.simulator_pair.specs.Refused.{number_of}
use Rattle.simulator_pair_text.specs.declared.answer.Answer.{Answer}
use Rattle.simulator_pair_text.specs.declared.answer.Answer.TheVariants.{Done, Accepted, Refused, No}
use Rattle.simulator_pair_text.specs.declared.picture.EndSeen.{EndSeen}
use Rattle.simulator_pair_text.specs.declared.picture.Picture.{Picture}

-- the answer to an event that happened
abbrev pub told : PairAnswer → Answer
told Applied = Done
told (Given (Ok taken)) = Accepted
told (Given (Err NotUp)) = Refused 1
told (Given (Err WindowFull)) = Refused 2

-- the answer to an event, by what the pair says to it
abbrev pub answer_to : Result PairReply Why → Answer
answer_to (Ok reply) = told reply.answer
answer_to (Err why) = No (number_of why)

-- the text of an answer
abbrev pub answer_text : Answer → List ℕ
answer_text Done = codes "ok"
answer_text Accepted = codes "accepted"
answer_text (Refused n) = codes "refused " ++ decimal n
answer_text (No n) = codes "no " ++ decimal n

-- what can be seen of an end
abbrev pub seen_of_end : EndState → EndSeen
seen_of_end end = record { is_up = is_up end.link.phase; given = length end.given; taken = length end.taken }

-- what can be seen of a pair
abbrev pub seen_of : PairState → Picture
seen_of pair = record {
  time = pair.ends.time / 1000;
  lamp = shown pair;
  client = seen_of_end pair.ends.client;
  server = seen_of_end pair.ends.server;
}

-- an end: whether its link is up, and how many items were given and taken in its last connection
abbrev pub end_text : EndSeen → List ℕ
end_text end =
    (if end.is_up then codes "up" else codes "closed")
    ++ (codes " given " ++ (decimal end.given ++ (codes " taken " ++ decimal end.taken)))

-- the picture: whole milliseconds of true time, the lamp, the client and the server
abbrev pub picture_text : Picture → List ℕ
picture_text seen =
    codes "time " ++ (decimal seen.time
    ++ (codes "\nlamp " ++ (aspect_word seen.lamp
    ++ (codes "\nC " ++ (end_text seen.client
    ++ (codes "\nS " ++ end_text seen.server))))))
