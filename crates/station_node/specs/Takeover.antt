-- How a new process of the interlocking takes over what its file has closed: it tells its node to close each thing, by lines as those of
-- an operator, before the node hears anything else.
use Rattle.std.specs.Prelude.{◌≡◌, ℕ, ◌&&◌, not, if◌then◌else◌, Bool, true, false, IsTrue, List, [], ◌∷◌, drop, filter, map, Option, None, Err}
use Rattle.node_kinds.specs.simulator_spec.layout.Entries.{Site}
use Rattle.node_kinds.specs.simulator_spec.ixl_spec.closings.declared.thing.Thing.{Thing}
use Rattle.node_kinds.specs.simulator_spec.ixl_spec.closings.declared.thing.Named.TheVariants.{One as OneThing}
use Rattle.node_kinds.specs.simulator_spec.ixl_spec.closings.Closed.{closed_things, either}
use Rattle.node_kinds.specs.simulator_spec.ixl_spec.declared.command.Command.TheVariants.{Close}
use Rattle.node_kinds.specs.Kept.{is_none}
use Rattle.node_kinds.specs.node_drive.Calls.{AsksDatagram, AsksLine, AsksListener, Call, Calls, Came, Failed, LineHeard, Nothing, Text, Told}
use Rattle.node_kinds.specs.node_drive.declared.outside.ToKeep.{ToKeep}
use Rattle.node_kinds.specs.node_drive.node_lines.Commands.{command_text}
use Rattle.node_kinds.specs.node_drive.node_lines.declared.operator_command.OperatorCommand.TheVariants.{One}
use Rattle.closings_file.specs.declared.fault.FileFault.TheVariants.{Unreadable}
use Rattle.closings_file.specs.declared.found.Found.{Found}
use Rattle.closings_file.specs.Files.{found_in, found_of}

-- the line by which a node is told to close a thing
abbrev pub close_text : Site → Thing → List ℕ
close_text site thing = command_text site (One (Close (OneThing thing)))

-- ---- what is taken over

-- What is found as a process begins, where its file has these bytes, none where no file is there; or where it can't be read.
abbrev pub found_where : Site → (head : List ℕ) → (readable : Bool) → Option (List ℕ) → Found
found_where l head readable bytes = if readable then found_in l head bytes else found_of l (Err Unreadable)

pub record TakenOver : Type 0 where
  -- what was found
  pub found : Found
  -- the things that the node isn't told to close yet
  pub left : List Thing
  -- whether the node hears nothing else yet
  pub giving : Bool

-- by a process that begins and finds this
abbrev pub taken_over : Site → Found → TakenOver
taken_over l found = record { found = found; left = closed_things l found.closings; giving = true }

-- by one that finds what some file says, or that can't read it
abbrev pub Finds : Site → (head : List ℕ) → TakenOver → Type 0
Finds l head taken = (readable : Bool) × (bytes : Option (List ℕ)) × (taken ≡ taken_over l (found_where l head readable bytes))

-- ---- call by call

-- What the node hears as long as it hears nothing else: the next thing is to be closed.
abbrev pub next_told : Site → List Thing → LineHeard
next_told l [] = Nothing
next_told l (thing ∷ others) = Text (close_text l thing)

-- each line tells one thing
abbrev pub line_asked : TakenOver → TakenOver
line_asked taken = if taken.giving then record taken { left = drop 1 taken.left } else taken

-- the node hears all once it was told all, and somebody may be let in
abbrev pub listener_asked : TakenOver → TakenOver
listener_asked taken = record taken { giving = taken.giving && not (is_none taken.left) }

-- what is taken over behind a call
abbrev pub taken_after : Call → TakenOver → TakenOver
taken_after (AsksLine heard) taken = line_asked taken
taken_after (AsksListener began) taken = listener_asked taken
taken_after call taken = taken

-- Until then it hears these lines alone: no datagram comes, and nobody is let in.
abbrev pub IsHeardSo : Site → Call → TakenOver → Type 0
IsHeardSo l (AsksLine heard) taken = IsTrue taken.giving → heard ≡ next_told l taken.left
IsHeardSo l (AsksDatagram heard) taken = IsTrue taken.giving → heard ≡ Failed
IsHeardSo l (AsksListener began) taken = IsTrue (listener_asked taken).giving → began ≡ false
IsHeardSo l call taken = Unit {0}

-- a call of such a process, and what it has taken over then
pub record TakesOver (l : Site) (call : Call) (before after : TakenOver) : Type 0 where
  pub heard : IsHeardSo l call before
  pub taken : after ≡ taken_after call before

-- the same of all its calls
abbrev pub AreHeardSo : Site → List Call → TakenOver → Type 0
AreHeardSo l [] taken = Unit {0}
AreHeardSo l (call ∷ calls) taken = IsHeardSo l call taken × AreHeardSo l calls (taken_after call taken)

-- such a process tells no calls, but what its clock read last
abbrev pub untold : Told → Told
untold told = record { calls = None; latest = told.latest }

abbrev pub CallsUntold : Told → Told → List Call → Type 0
CallsUntold old new calls = Calls (untold old) (untold new) calls

-- something comes to a node: a line, a datagram, or an operator who begins to listen
abbrev pub brings : Call → Bool
brings (AsksLine (Text text)) = true
brings (AsksDatagram (Came arrival)) = true
brings (AsksListener began) = began
brings call = false

-- what came to a node by these calls, in its order
abbrev pub brought_by : List Call → List Call
brought_by calls = filter brings calls

-- the calls by which it is told to close these things
abbrev pub told_to_close : Site → List Thing → List Call
told_to_close l things = map (λ t. AsksLine (Text (close_text l t))) things

-- ---- what the file is to have

-- As long as the node wasn't told all that was found, the file is to have that, too.
abbrev pub all_to_keep : TakenOver → ToKeep → ToKeep
all_to_keep taken all = record all { closings = if taken.giving then either all.closings taken.found.closings else all.closings }
