-- What is answered to what is asked for.
use Rattle.std.specs.Prelude.{◌≡◌, ◌⊎◌, IfErr, IfOk, List, MatchResult, None, Option, Result, Some}
use Rattle.clap.specs.Words.{FailsBy, Text, kind_of}
use Rattle.clap.specs.declared.error.Error.{Error}
use Rattle.clap.specs.declared.error.kind.ErrorKind.TheVariants as kind
use Rattle.station_command.specs.CommandWords.{Asks, asked_in, faults_in}
use Rattle.station_command.specs.Commands.{Said}
use Rattle.station_command.specs.Requests.{says}
use Rattle.station_command.specs.declared.request.Request.{Request}

-- what is asked for, or that something is missing, where nothing is; memory may run out as that is told
abbrev pub Answers : Option Said → Result Request Error → Type 0
Answers asked answer =
    MatchResult answer (λ request. asked ≡ Some (says request))
    (λ error. (kind_of error ≡ kind.OutOfMemory) ⊎ ((kind_of error ≡ kind.MissingRequiredArgument) × (asked ≡ None)))

-- what is answered to words: what they ask for, or an error of a kind that they may have
abbrev pub AnswersWords : List Text → Result Request Error → Type 0
AnswersWords words answer =
    (IfOk answer (Asks words)) × (IfErr answer (λ error. (kind_of error ≡ kind.OutOfMemory) ⊎ (asked_in words ≡ None))) × FailsBy (faults_in words) answer
