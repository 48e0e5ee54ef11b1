-- What an operator asks of an interlocking, a line each:
--
--     resume
--     set ROUTE         any word that names no route stands for one that the table lacks
--     cancel ROUTE
--     cancel all        each route of the table, whatever a route is called
--     release ROUTE, move POINT left|right, close .., open ..     as the lines of events say them
use Rattle.std.specs.Prelude.{ℕ, if◌then◌else◌, List, [], ◌∷◌, codes, Result, Ok, Err}
use Rattle.std.specs.List.{join_with_byte}
use Rattle.std.specs.Str.{bytes_eq}
use Rattle.replay_words.specs.declared.fault.Fault.{Fault}
use Rattle.replay_words.specs.declared.fault.Fault.TheVariants.{Words}
use Rattle.replay_words.specs.Fault.{◌>>=◌}
use Rattle.replay_lines.specs.ixl_spec.layout.Entries.{Site}
use Rattle.replay_lines.specs.ixl_spec.declared.command.Command.{Command}
use Rattle.replay_lines.specs.ixl_spec.declared.command.Command.TheVariants as command
use Rattle.replay_lines.specs.Events.{close_named, move_point, open_named, release}
use Rattle.replay_lines.specs.Names.{route_named, route_word}
use Rattle.replay_lines.specs.ReadAgain.{command_read}
use Rattle.replay_lines.specs.Written.{command_words}
use Rattle.node_lines.specs.declared.operator_command.OperatorCommand.{OperatorCommand}
use Rattle.node_lines.specs.declared.operator_command.OperatorCommand.TheVariants.{One, CancelAll}

-- ---- written

abbrev pub operator_words : Site → OperatorCommand → List (List ℕ)
operator_words site (One of) = command_words site of
operator_words site CancelAll = codes "cancel" ∷ codes "all" ∷ []

abbrev pub command_text : Site → OperatorCommand → List ℕ
command_text site asked = join_with_byte 32 (operator_words site asked)

-- ---- read

abbrev pub resume : List (List ℕ) → Result OperatorCommand Fault
resume [] = Ok (One command.Resume)
resume other = Err Words

abbrev pub set : Site → List (List ℕ) → Result OperatorCommand Fault
set site (route ∷ []) = Ok (One (command.Request (route_named site route)))
set site other = Err Words

abbrev pub cancel : Site → List (List ℕ) → Result OperatorCommand Fault
cancel site (route ∷ []) =
    if bytes_eq route (codes "all") then Ok CancelAll else Ok (One (command.Cancel (route_named site route)))
cancel site other = Err Words

-- one command to the interlocking
abbrev pub one : Result Command Fault → Result OperatorCommand Fault
one asked = do
  of ← asked
  Ok (One of)

-- what words ask for, or their lowest fault
abbrev pub command_said : Site → List (List ℕ) → Result OperatorCommand Fault
command_said site (first ∷ rest) =
    if bytes_eq first (codes "resume") then resume rest
    else if bytes_eq first (codes "set") then set site rest
    else if bytes_eq first (codes "cancel") then cancel site rest
    else if bytes_eq first (codes "release") then one (release site rest)
    else if bytes_eq first (codes "move") then one (move_point site rest)
    else if bytes_eq first (codes "close") then one (close_named site rest)
    else if bytes_eq first (codes "open") then one (open_named site rest)
    else Err Words
command_said site [] = Err Words

-- as what the line of a command is read: a route that the table lacks as the one after the last, and a cancel of a route
-- that is called `all` as one of each route
abbrev pub operator_read : Site → OperatorCommand → OperatorCommand
operator_read site (One (command.Cancel route)) =
    if bytes_eq (route_word site route) (codes "all") then CancelAll else One (command_read site (command.Cancel route))
operator_read site (One of) = One (command_read site of)
operator_read site CancelAll = CancelAll
