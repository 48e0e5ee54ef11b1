-- What a command asks for by the words after it, and by the rows that clap makes of them.
use Rattle.std.proofs.Common.{◌≡◌, ◌&&◌, ◌||◌, ℕ, Bool, true, false, not, List, [], ◌∷◌, Option, Some, None, is_some, if◌then◌else◌, refl, inl, inr, ◌⊎◌, sym, ap, subst, ◌∙◌}
use Rattle.std.specs.Prelude.{option_and_then}
use Rattle.std.proofs.lemmas.Bool.{true≢false}
use Rattle.std.specs.List.{list_any}
use Rattle.clap.specs.Kinds.{check_kinds}
use Rattle.clap.specs.Walk.{Row, Text, first_of, rows_after}
use Rattle.station_command.proofs.Defaults.{is_missing}
use Rattle.station_command.proofs.Given.{or_none, or_value}
use Rattle.station_command.proofs.LineRead.{AreFound, LineReads, line_fault, line_reads, missing_kinds}
use Rattle.station_command.proofs.Numbers.{number_in}
use Rattle.station_command.proofs.Usages.{Each, HasDefault, TakesFit, default_of, each_by, have_defaults, id_is, is_line, is_sound, next_place, rules_from, rules_of, takes_fit, usage_distinct, usage_plain}
use Rattle.station_command.proofs.WordsRead.{Fails}
use Rattle.station_command.specs.Commands.{Argument, Command, Counted, File, Kind, Number, Said, Switch, Value, Word, Worded}
use Rattle.station_command.specs.CommandWords.{Given, all_said, asked_of, fits, given_in, is_switch, is_told, lacks, number_of, said_of, value_of}

-- ---- the values of arguments

-- a default says nothing
said_is : (kind : Kind) (value : Option Text) → said_of kind (or_value value (default_of kind)) ≡ said_of kind value
said_is File value = ap Worded (or_none value)
said_is Word value = ap Worded (or_none value)
said_is (Number low high) value = ap (λ (o : Option Text). Counted (option_and_then number_of o)) (or_none value)
said_is Switch (Some text) = refl
said_is Switch None = refl

-- what is needed is given where it is told
told_is : (kind : Kind) (needed : Bool) (value : Option Text) → (needed && is_switch kind) ≡ false → ((text : Text) → value ≡ Some text → fits kind text ≡ true)
    → (needed && not (is_some value)) ≡ (needed && not (is_told (said_of kind value)))
told_is File needed value plain fit = refl
told_is Word needed value plain fit = refl
told_is (Number low high) needed None plain fit = refl
told_is (Number low high) needed (Some text) plain fit = ap (λ (o : Option ℕ). needed && not (is_some o)) (sym (number_in low high text (fit text refl)))
told_is Switch true value plain fit = absurd (true≢false plain)
told_is Switch false value plain fit = refl

module _ (given : List Given) (found : List Row) where
  abbrev from_given : Text → Option Text
  from_given name = value_of name given

  abbrev from_found : Text → Option Text
  from_found name = first_of name found

  -- what was found is what was given, or the default
  abbrev IsFound : Argument → Type 0
  IsFound a = from_found a.name ≡ or_value (from_given a.name) (default_of a.kind)

  one_said : (a : Argument) → IsFound a → said_of a.kind (from_found a.name) ≡ said_of a.kind (from_given a.name)
  one_said a is = ap (said_of a.kind) is ∙ said_is a.kind (from_given a.name)

  all_said_is : (usage : List Argument) → Each IsFound usage → all_said from_found usage ≡ all_said from_given usage
  all_said_is [] is = refl
  all_said_is (a ∷ usage) is = λ i. one_said a is.0 i ∷ all_said_is usage is.1 i

  lacks_is : (usage : List Argument) → Each IsFound usage → lacks from_found usage ≡ lacks from_given usage
  lacks_is [] is = refl
  lacks_is (a ∷ usage) is = λ i. (a.is_needed && not (is_told (one_said a is.0 i))) || lacks_is usage is.1 i

  abbrev asked_by_parts : Command → Bool → List Value → Option Said
  asked_by_parts command lacking values = if not lacking && command.asks values then Some (command.word, values) else None

  asked_is : (command : Command) → Each IsFound command.arguments → asked_of from_found command ≡ asked_of from_given command
  asked_is command is = λ i. asked_by_parts command (lacks_is command.arguments is i) (all_said_is command.arguments is i)

  -- ---- what is missing

  -- an argument that isn't needed as a switch, and whose value fits
  abbrev IsFit : Argument → Type 0
  IsFit a = ((a.is_needed && is_switch a.kind) ≡ false) × ((text : Text) → from_given a.name ≡ Some text → fits a.kind text ≡ true)

  abbrev missing_by : Argument → Text → Bool
  missing_by a id = a.is_needed && not (is_some (from_given id))

  missing_lacks : (place : ℕ) (usage : List Argument) → Each IsFit usage → is_missing (rules_from place usage) given ≡ lacks from_given usage
  missing_lacks place [] fit = refl
  missing_lacks place (a ∷ usage) fit =
      (λ i. missing_by a (id_is place a.kind a.name a.is_needed i) || missing_lacks (next_place place a) usage fit.1 i)
      ∙ ap (λ b. b || lacks from_given usage) (told_is a.kind a.is_needed (from_given a.name) fit.0.0 fit.0.1)

-- no argument is needed as a switch
plain_each : (usage : List Argument) → list_any (λ argument. argument.is_needed && is_switch argument.kind) usage ≡ false → Each (λ a. (a.is_needed && is_switch a.kind) ≡ false) usage
plain_each [] e = tt
plain_each (a ∷ usage) e = go (a.is_needed && is_switch a.kind) refl e (λ more. plain_each usage more)
  where
    go : (b : Bool) → (a.is_needed && is_switch a.kind) ≡ b → (b || list_any (λ argument. argument.is_needed && is_switch argument.kind) usage) ≡ false
        → (list_any (λ argument. argument.is_needed && is_switch argument.kind) usage ≡ false → Each (λ a. (a.is_needed && is_switch a.kind) ≡ false) usage)
        → Each (λ a. (a.is_needed && is_switch a.kind) ≡ false) (a ∷ usage)
    go true is more rest = absurd (true≢false more)
    go false is more rest = (is, rest more)

-- ---- a command

abbrev pub by_words : Command → List Text → Option Said
by_words command words = option_and_then (λ given. asked_of (λ name. value_of name given) command) (given_in command.arguments words)

abbrev pub by_rows : Command → List Row → Option Said
by_rows command found = asked_of (λ name. first_of name found) command

-- there is no fault, and the rows ask for what the words do, or there is one, and they ask for nothing
abbrev pub CommandReads : Command → List Text → Type 0
CommandReads command words =
    ((line_fault command.word (rules_of command.arguments) words ≡ []) × (by_rows command (rows_after (rules_of command.arguments) [] words) ≡ by_words command words))
    ⊎ ((by_words command words ≡ None) × Fails (line_fault command.word (rules_of command.arguments) words))

module _ (command : Command) (sound : is_sound command.arguments ≡ true) (words : List Text) where
  abbrev usage : List Argument
  usage = command.arguments

  abbrev end_rows : List Row
  end_rows = rows_after (rules_of usage) [] words

  module _ (given : List Given) (read : given_in usage words ≡ Some given) (fault : line_fault command.word (rules_of usage) words ≡ missing_kinds (rules_of usage) given)
      (are : AreFound usage (rules_of usage) given end_rows) where
    found_each : Each (IsFound given end_rows) usage
    found_each = each_by (HasDefault (rules_of usage)) (HasDefault (rules_of usage)) (IsFound given end_rows)
        (λ a has again. are.values a.name ∙ ap (or_value (value_of a.name given)) has)
        usage (have_defaults 1 usage (usage_distinct usage sound)) (have_defaults 1 usage (usage_distinct usage sound))

    fit_each : Each (IsFit given end_rows) usage
    fit_each = each_by (λ a. (a.is_needed && is_switch a.kind) ≡ false) (TakesFit usage) (IsFit given end_rows)
        (λ a plain fit. (plain, λ text is. sym (fit text) ∙ are.taken a.name text is))
        usage (plain_each usage (usage_plain usage sound)) (takes_fit usage (usage_distinct usage sound))

    fault_is : line_fault command.word (rules_of usage) words ≡ check_kinds false false (lacks (from_given given end_rows) usage)
    fault_is = fault ∙ ap (check_kinds false false) (missing_lacks given end_rows 1 usage fit_each)

    words_ask : by_words command words ≡ asked_of (from_given given end_rows) command
    words_ask = ap (option_and_then (λ (given : List Given). asked_of (λ name. value_of name given) command)) read

    by_lack : (lacking : Bool) → lacks (from_given given end_rows) usage ≡ lacking → CommandReads command words
    by_lack true is = inr (
      words_ask ∙ ap (λ b. asked_by_parts given end_rows command b (all_said (from_given given end_rows) usage)) is,
      subst Fails (sym (fault_is ∙ ap (check_kinds false false) is)) tt,
    )
    by_lack false is = inl (fault_is ∙ ap (check_kinds false false) is, asked_is given end_rows command found_each ∙ sym words_ask)

  pub command_reads : CommandReads command words
  command_reads = go (line_reads command.word usage (rules_of usage) (is_line usage sound) words)
    where
      go : LineReads command.word usage (rules_of usage) words → CommandReads command words
      go (inl r) = by_lack r.0 r.1.0 r.1.1.0 r.1.1.1 (lacks (from_given r.0 end_rows) usage) refl
      go (inr r) = inr (ap (option_and_then (λ (given : List Given). asked_of (λ name. value_of name given) command)) r.0, r.1)
