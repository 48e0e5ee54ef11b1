-- What the words of a command line ask for.
use Rattle.std.specs.Prelude.{◌≡◌, ◌==◌, ◌&&◌, ◌^◌, not, false, true, is_some, Bool, ℕ, List, [], ◌∷◌, ◌++◌, Option, Some, None, if◌then◌else◌, codes, find, length, map, nat_lt, option_and_then}
use Rattle.std.specs.List.{list_any}
use Rattle.std.specs.Option.{option_map}
use Rattle.std.specs.Str.{bytes_eq, chars}
use Rattle.std.specs.Str.Parse.{digits_value, without_leading_plus}
use Rattle.clap.specs.Faults.{fault_of}
use Rattle.clap.specs.Kinds.{Kinds, or_else}
use Rattle.clap.specs.Lexer.{long_of}
use Rattle.clap.specs.ValueTests.{is_numeral, is_unsigned_in}
use Rattle.clap.specs.declared.error.kind.ErrorKind.TheVariants as kind
use Rattle.station_command.specs.Commands.{Argument, Command, Counted, File, Kind, Number, Said, Switch, Switched, Value, Worded, commands}
use Rattle.station_command.specs.Line.{station_line}
use Rattle.station_command.specs.Requests.{says}
use Rattle.station_command.specs.declared.request.Request.{Request}

-- ---- the words after a command

-- A flag: a hyphen with a character after it.
abbrev pub is_flag : List ℕ → Bool
is_flag [] = false
is_flag (byte ∷ rest) = byte == 45 && not (length (chars rest) == 0)

-- the word after which no word is a flag
abbrev pub ends_flags : List ℕ → Bool
ends_flags word = bytes_eq word (codes "--")

-- A file, an option or a switch, by its name, with its value.
abbrev pub Given : Type 0
Given = List ℕ × List ℕ

-- the value that a name was given
abbrev pub value_of : List ℕ → List Given → Option (List ℕ)
value_of name [] = None
value_of name (one ∷ given) = if bytes_eq one.0 name then Some one.1 else value_of name given

-- A number is one from the lowest to the highest, in decimal digits, with or without a plus before them. All else takes any word.
abbrev pub fits : Kind → List ℕ → Bool
fits (Number low high) value = is_unsigned_in low high value
fits _ value = true

abbrev pub takes : List Argument → List ℕ → List ℕ → Bool
takes [] name value = true
takes (argument ∷ arguments) name value = if bytes_eq argument.name name then fits argument.kind value else takes arguments name value

-- one more value, where the name has none yet and takes it
abbrev pub with_value : List Argument → List Given → List ℕ → List ℕ → Option (List Given)
with_value arguments given name value =
    if not (is_some (value_of name given)) && takes arguments name value then Some (given ++ (name, value) ∷ []) else None

-- How far the words after a command are read, with the files that are still to come: between two words, before the value of
-- an option, or after `--`.
pub data Place : Type 0 where
  Between : List Given → List (List ℕ) → Place
  Before : List Given → List (List ℕ) → List ℕ → Place
  Behind : List Given → List (List ℕ) → Place

-- one more file, where one is still to come
abbrev pub file_read : List Argument → List Given → List (List ℕ) → List ℕ → Option (List Given × List (List ℕ))
file_read arguments given [] word = None
file_read arguments given (file ∷ files) word = option_map (λ more. (more, files)) (with_value arguments given file word)

abbrev pub is_file : Kind → Bool
is_file File = true
is_file _ = false

abbrev pub is_switch : Kind → Bool
is_switch Switch = true
is_switch _ = false

-- the files of a command, in their order
abbrev pub files_of : List Argument → List (List ℕ)
files_of [] = []
files_of (argument ∷ arguments) = if is_file argument.kind then argument.name ∷ files_of arguments else files_of arguments

-- whether the flag of this name is a switch, if there is one
abbrev pub flag_of : List Argument → List ℕ → Option Bool
flag_of [] name = None
flag_of (argument ∷ arguments) name =
    if not (is_file argument.kind) && bytes_eq argument.name name then Some (is_switch argument.kind) else flag_of arguments name

-- A long flag, `--NAME` or `--NAME=VALUE`: a switch stands alone, and the value of an option may be the next word.
abbrev pub flag_read : List Argument → List Given → List (List ℕ) → List ℕ → Option (List ℕ) → Option Bool → Option Place
flag_read arguments given files name None (Some true) = option_map (λ more. Between more files) (with_value arguments given name (codes "true"))
flag_read arguments given files name None (Some false) = Some (Before given files name)
flag_read arguments given files name (Some value) (Some false) = option_map (λ more. Between more files) (with_value arguments given name value)
flag_read arguments given files name _ _ = None

-- One more word. Where no value is due, a word that is no flag is the next file. After `--` no word is a flag.
abbrev pub word_read : List Argument → Place → List ℕ → Option Place
word_read arguments (Between given files) word =
    if ends_flags word then Some (Behind given files)
    else (if is_flag word then option_and_then (λ flag. flag_read arguments given files flag.0 flag.1 (flag_of arguments flag.0)) (long_of word)
    else option_map (λ more. Between more.0 more.1) (file_read arguments given files word))
word_read arguments (Before given files name) word = if is_flag word then None else option_map (λ more. Between more files) (with_value arguments given name word)
word_read arguments (Behind given files) word = option_map (λ more. Behind more.0 more.1) (file_read arguments given files word)

abbrev pub words_read : List Argument → Place → List (List ℕ) → Option Place
words_read arguments place [] = Some place
words_read arguments place (word ∷ words) = option_and_then (λ next. words_read arguments next words) (word_read arguments place word)

-- all that was given, where no value is due
abbrev pub given_at : Place → Option (List Given)
given_at (Between given files) = Some given
given_at (Before given files name) = None
given_at (Behind given files) = Some given

-- What is given by the words after a command: the files in their order, and each option with its value and each switch once
-- at most, anywhere.
abbrev pub given_in : List Argument → List (List ℕ) → Option (List Given)
given_in arguments words = option_and_then given_at (words_read arguments (Between [] (files_of arguments)) words)

-- ---- what is asked for

-- the number that a text writes, where it is one below 2^64
abbrev pub number_of : List ℕ → Option ℕ
number_of text =
    let digits = without_leading_plus text in
    if is_numeral digits && nat_lt (digits_value 10 digits) (2 ^ 64) then Some (digits_value 10 digits) else None

-- a switch is on
abbrev pub is_on : Option (List ℕ) → Bool
is_on None = false
is_on (Some value) = bytes_eq value (codes "true")

-- what is said of an argument that has this value, if any
abbrev pub said_of : Kind → Option (List ℕ) → Value
said_of (Number low high) value = Counted (option_and_then number_of value)
said_of Switch value = Switched (is_on value)
said_of _ value = Worded value

-- there is a word, or a number, or it is a switch
abbrev pub is_told : Value → Bool
is_told (Worded word) = is_some word
is_told (Counted number) = is_some number
is_told (Switched on) = true

-- the command of this word
abbrev pub command_of : List ℕ → Option Command
command_of word = find (λ command. bytes_eq word command.word) commands

module _ (value : List ℕ → Option (List ℕ)) where
  -- what is said of each argument, where each name has its value
  abbrev pub all_said : List Argument → List Value
  all_said = map (λ argument. said_of argument.kind (value argument.name))

  -- something that is needed isn't said
  abbrev pub lacks : List Argument → Bool
  lacks = list_any (λ argument. argument.is_needed && not (is_told (said_of argument.kind (value argument.name))))

  -- what a command asks for
  abbrev pub asked_of : Command → Option Said
  asked_of command =
      if not (lacks command.arguments) && command.asks (all_said command.arguments) then Some (command.word, all_said command.arguments) else None

  -- what the command of this word asks for
  abbrev pub asked_by : List ℕ → Option Said
  asked_by word = option_and_then asked_of (command_of word)

-- What a command line asks for, the first word of which is the program's name.
abbrev pub asked_in : List (List ℕ) → Option Said
asked_in (program ∷ word ∷ words) =
    option_and_then (λ command. option_and_then (λ given. asked_of (λ name. value_of name given) command) (given_in command.arguments words)) (command_of word)
asked_in _ = None

-- What is asked is what the words say.
abbrev pub Asks : List (List ℕ) → Request → Type 0
Asks words request = asked_in words ≡ Some (says request)

-- The kinds of error that a command line may have: those of clap's reading, and otherwise that something is missing, where its
-- words are read and ask for nothing.
abbrev pub faults_in : List (List ℕ) → Kinds
faults_in words = or_else (fault_of station_line words) (if is_some (asked_in words) then [] else kind.MissingRequiredArgument ∷ [])
