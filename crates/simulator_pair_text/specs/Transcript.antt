-- What the lines of a text do to a pair, and what is written as they are carried out.
use Rattle.std.specs.Prelude.{◌≡◌, ℕ, ◌/◌, codes, List, [], ◌∷◌, ◌++◌, Option, Some, None, Ok, Err}
use Rattle.std.specs.Io.KnownBytes.{Appends}
use Rattle.simulator_pair.specs.Theorem.{names}
use Rattle.simulator_pair.specs.Events.{refusal, happens, reply_to, new_pair}
use Rattle.simulator_pair.specs.declared.event.PairEvent.{PairEvent}
use Rattle.simulator_pair.specs.refused.Refused.{Refused as Why}
use Rattle.simulator_pair.specs.refused.Refused.TheVariants.{OutOfMemory}
use Rattle.simulator_pair_text.specs.declared.answer.Answer.{Answer}
use Rattle.simulator_pair_text.specs.declared.line.PairLine.{PairLine}
use Rattle.simulator_pair_text.specs.declared.line.PairLine.TheVariants.{Event, Flow, Picture}
use Rattle.simulator_pair_text.specs.Answers.{answer_to, answer_text, seen_of, picture_text}
use Rattle.simulator_pair_text.specs.Flow.{Flowing, Flows}
use Rattle.simulator_pair_text.specs.Text.{run_of}

-- a text, and a line feed
abbrev pub feed : List ℕ → List ℕ
feed text = text ++ codes "\n"

-- What an event answers and changes: it can't happen, it happens, or memory is lacking for it.
pub data Answers (event : PairEvent) (old : Flowing) : Answer → Flowing → Type 0 where
  refuses : {why : Why} → refusal event old.pair.ends ≡ Some why → Answers event old (answer_to (Err why)) old
  happens_so : refusal event old.pair.ends ≡ None → Answers event old (answer_to (Ok (reply_to event old.pair))) (record old { pair = happens event old.pair })
  lacks_memory : refusal event old.pair.ends ≡ None → Answers event old (answer_to (Err OutOfMemory)) old

-- what a line writes and changes
pub data Writes (old : Flowing) : PairLine → List ℕ → Flowing → Type 0 where
  event : {event : PairEvent} {answer : Answer} {new : Flowing} → Answers event old answer new → Writes old (Event event) (feed (answer_text answer)) new
  flow : {length : ℕ} {answer : Answer} {new : Flowing} → Flows (length / 10) old answer new → Writes old (Flow length) (feed (answer_text answer)) new
  picture : Writes old Picture (feed (picture_text (seen_of old.pair))) old

-- what lines write, one after the other
pub data Transcript : Flowing → List PairLine → List ℕ → Type 0 where
  nothing : {old : Flowing} → Transcript old [] []
  line : {old new : Flowing} {line : PairLine} {later : List PairLine} {text rest : List ℕ} → Writes old line text new → Transcript new later rest → Transcript old (line ∷ later) (text ++ rest)

-- a new pair, of which nothing has flowed
abbrev pub beginning : Flowing
beginning = record { pair = new_pair names.key; passed = 0 }

-- A text has no faulty line, and where what was written before is known, what its lines write with a new pair stands
-- after it.
pub record IsWritten (text : List ℕ) (before after : Option (List ℕ)) : Type 0 where
  pub lines : List PairLine
  pub says : run_of text ≡ Ok lines
  pub written : List ℕ
  pub transcript : Transcript beginning lines written
  pub appended : Appends before after written
