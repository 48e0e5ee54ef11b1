-- How a command line of `station` is read: which words are taken, and as what.
use Rattle.std.proofs.Common.{◌≡◌, ◌||◌, ◌&&◌, ℕ, Bool, true, false, not, List, [], ◌∷◌, ◌++◌, Option, Some, None, Result, Ok, Err, is_some, refl, inl, inr, ◌⊎◌, sym, ap, subst, ◌∙◌, codes, cond, find, map, nat_eq, fold, if◌then◌else◌}
use Rattle.std.proofs.lemmas.Bool.{true≢false}
use Rattle.std.proofs.lemmas.Slice.Eq.{bytes_eq-Decides}
use Rattle.std.specs.List.{list_all}
use Rattle.std.specs.Option.{option_map, option_map_or, unwrap_or}
use Rattle.std.specs.Prelude.{option_and_then}
use Rattle.std.specs.Str.{bytes_eq}
use Rattle.clap.specs.Words.{FailsBy, HasMatchesOf, is_simple, is_simple_and_free, kind_of, subcommand_rows_of}
use Rattle.clap.specs.declared.parser.matches.ArgMatches.{ArgMatches}
use Rattle.clap.specs.declared.error.Error.{Error}
use Rattle.clap.specs.declared.error.kind.ErrorKind.{ErrorKind}
use Rattle.clap.specs.declared.error.kind.ErrorKind.TheVariants as kind
use Rattle.clap.proofs.WalkLemmas.{walk_stopped}
use Rattle.clap.proofs.OnLiterals.{clap_on_literals}
use Rattle.clap.specs.Kinds.{HasKind, IsAmong, Kinds, or_else}
use Rattle.clap.specs.Faults.{check_fault, defaults_fault, entered_fault, fault_of, flag_word_fault, level_fault, long_fault, other_fault, settle_fault, short_fault, step_fault, walk_fault}
use Rattle.clap.specs.Lexer.{long_of}
use Rattle.clap.specs.Simple.{App, Shape, built, built_leaf, entered, help_shape, label_of, names_of, rows_at, subcommand_of}
use Rattle.clap.specs.Walk.{Held, Names, Row, Step, Text, Walk, after_step, answers_to, arg_by_long, arg_by_short, finished, first_of, idle, nothing_held, rows_after, settled, subcommand_met, subcommand_or_other, walked}
use Rattle.station_command.proofs.CommandReads.{CommandReads, by_rows, by_words, command_reads}
use Rattle.station_command.proofs.LineRead.{line_fault}
use Rattle.station_command.proofs.Rules.{leaf}
use Rattle.station_command.proofs.Usages.{is_sound, not_true, rules_of, same_test}
use Rattle.station_command.proofs.WordsRead.{Fails, at, both, fails_within, is_ends, top, word_fails, word_passes}
use Rattle.station_command.specs.Commands.{Command, Said, commands}
use Rattle.station_command.specs.CommandWords.{asked_in, asked_of, command_of, ends_flags, faults_in, is_flag}
use Rattle.station_command.specs.Line.{station_line}
use Rattle.station_command.specs.Requests.{says}
use Rattle.station_command.specs.declared.request.Request.{Request}
use Rattle.station_command.specs.inside.Answers.{Answers, AnswersWords}
use Rattle.station_command.specs.inside.Matches.{asked_of_rows}

-- ---- the flags of the program are those of its help and of its version

long_fails_top : (is_help is_version : Bool) (name : Text) (v : Option Text) → bytes_eq (codes "help") name ≡ is_help → bytes_eq (codes "version") name ≡ is_version
    → Fails (long_fault top.rules false (arg_by_long top.rules name) v nothing_held)
long_fails_top true is_version name None e f = rw e tt
long_fails_top true is_version name (Some v) e f = rw e tt
long_fails_top false true name None e f = rw (e, f) tt
long_fails_top false true name (Some v) e f = rw (e, f) tt
long_fails_top false false name v e f = rw (e, f) tt

short_fails_top : (is_help is_version : Bool) (x : ℕ) (rest : Text) (next : Held → Kinds) → nat_eq 104 x ≡ is_help → nat_eq 86 x ≡ is_version
    → Fails (short_fault top.rules false (arg_by_short top.rules x) rest nothing_held next)
short_fails_top true is_version x rest next e f = rw e tt
short_fails_top false true x rest next e f = rw (e, f) tt
short_fails_top false false x rest next e f = rw (e, f) tt

-- ---- the commands of the line

-- a command, as it is built
abbrev leaf_of : Command → Shape
leaf_of command = leaf command.word (rules_of command.arguments)

-- the commands are built one by one, and that of the help after them
subs_are : (built station_line).subs ≡ map leaf_of commands ++ built_leaf help_shape ∷ []
subs_are = refl

-- a command is no `help`, and its arguments are sound
abbrev is_sound_command : Command → Bool
is_sound_command command = not (bytes_eq command.word (codes "help")) && is_sound command.arguments

all_sound : list_all is_sound_command commands ≡ true
all_sound = refl

-- what is found among commands
module _ (word : Text) where
  abbrev named : Command → Bool
  named command = bytes_eq word command.word

  abbrev first_or : {X : Type 0} → (Command → X) → Option Command → Option X → Option X
  first_or f None other = other
  first_or f (Some command) other = Some (f command)

  by_first : {X : Type 0} (f : Command → X) (command : Command) (a b : Bool) → a ≡ b → (rest : Option Command) (other last : Option X) → other ≡ first_or f rest last
      → cond (a || false) (Some (f command)) other ≡ first_or f (cond b (Some command) rest) last
  by_first f command true true same rest other last is = refl
  by_first f command false false same rest other last is = is
  by_first f command true false same rest other last is = absurd (true≢false same)
  by_first f command false true same rest other last is = absurd (true≢false (sym same))

  sub_found : (list : List Command) (more : List Shape)
      → find (λ s. answers_to word (label_of s)) (map leaf_of list ++ more) ≡ first_or leaf_of (find named list) (find (λ s. answers_to word (label_of s)) more)
  sub_found [] more = refl
  sub_found (command ∷ list) more =
      by_first leaf_of command (bytes_eq command.word word) (named command) (same_test command.word word) (find named list) (find (λ s. answers_to word (label_of s)) (map leaf_of list ++ more))
      (find (λ s. answers_to word (label_of s)) more) (sub_found list more)

  name_found : (list : List Command) (more : List Shape)
      → find (answers_to word) (map label_of (map leaf_of list ++ more)) ≡ first_or (λ command. label_of (leaf_of command)) (find named list) (find (answers_to word) (map label_of more))
  name_found [] more = refl
  name_found (command ∷ list) more =
      by_first (λ command. label_of (leaf_of command)) command (bytes_eq command.word word) (named command) (same_test command.word word) (find named list) (find (answers_to word) (map label_of (map leaf_of list ++ more)))
      (find (answers_to word) (map label_of more)) (name_found list more)

  -- what is found has the word, and is sound
  found_sound : (list : List Command) (command : Command) → list_all is_sound_command list ≡ true → find named list ≡ Some command
      → (command.word ≡ word) × (is_sound_command command ≡ true)
  found_sound [] command all is = absurd (true≢false (sym (ap (λ (o : Option Command). is_some o) is)))
  found_sound (first ∷ list) command all is =
      go (named first) refl is (λ e. found_sound list command (both (is_sound_command first) (list_all is_sound_command list) all).1 e)
    where
      go : (b : Bool) → named first ≡ b → cond b (Some first) (find named list) ≡ Some command
          → (find named list ≡ Some command → (command.word ≡ word) × (is_sound_command command ≡ true)) → (command.word ≡ word) × (is_sound_command command ≡ true)
      go true e is rest =
          let same : first ≡ command = ap (λ (o : Option Command). unwrap_or o first) is in
          let parts = both (is_sound_command first) (list_all is_sound_command list) all in
          (ap (λ (c : Command). c.word) (sym same) ∙ sym ((bytes_eq-Decides word first.word).0 e), ap is_sound_command (sym same) ∙ parts.0)
      go false e is rest = rest is

-- ---- the first word after the program's name

-- what a command line is read as: there is no fault, and what is found asks for what the words do, or there is one, and they ask for nothing
abbrev pub Reads : List Text → Type 0
Reads words =
    ((fault_of station_line words ≡ []) × (asked_of_rows (subcommand_of station_line words) ≡ asked_in words))
    ⊎ ((asked_in words ≡ None) × Fails (fault_of station_line words))

no_name : Reads []
unfolding clap_on_literals
no_name = inr (refl, tt)

name_alone : (name : Text) → Reads (name ∷ [])
unfolding clap_on_literals
name_alone name = inr (refl, tt)

-- what stands after a subcommand is left to it
left_to_sub : (w : Walk) (p : Text × List Text) (words : List Text) → walk_fault top (names_of (built station_line)) (record w { stopped = Some p }) words ≡ []
unfolding walk_fault walked
left_to_sub w p [] = refl
left_to_sub w p (x ∷ xs) = left_to_sub w (p.0, p.1 ++ x ∷ []) xs

or_else-nil : (k : Kinds) → or_else k [] ≡ k
or_else-nil [] = refl
or_else-nil (k ∷ ks) = refl

-- where the walk stands when it has met a subcommand and seen some words after it
abbrev met : Text → List Text → Walk
met command seen = record (at [] None 1) { stopped = Some (command, seen) }

-- what fails at the top, and what is found there, from where the walk stopped
abbrev top_fault : Kinds → Walk → Kinds
top_fault k w = or_else k (or_else (entered_fault (built station_line) w.stopped) (or_else (settle_fault top.rules false w.held)
    (or_else (defaults_fault (settled top.rules w.held).rows top.rules) (check_fault top (finished top.rules w.held) (is_some (entered (built station_line) w.stopped))))))

-- the names of the commands and of the help
abbrev line_names : Names
line_names = names_of (built station_line)

-- what becomes of the first word, by the command that it names, if any
module _ (word : Text) (words : List Text) where
  abbrev first_met : Option Text → Held × Step
  first_met name = subcommand_or_other top.rules name idle 1 word nothing_held

  abbrev first_walk : Option Text → Walk
  first_walk name = after_step top.rules word (at [] None 1) (first_met name).0 (first_met name).1

  abbrev first_fault : Option Text → Kinds
  first_fault name =
      top_fault (or_else (or_else (other_fault top name word nothing_held) (step_fault top 1 (first_met name).0 (first_met name).1)) (walk_fault top line_names (first_walk name) words))
      (fold (walked top.rules line_names) (first_walk name) words)

  abbrev first_rows : Option Text → Option (Text × List Row)
  first_rows name = entered (built station_line) (fold (walked top.rules line_names) (first_walk name) words).stopped

  line_fault_is : (program : Text) → fault_of station_line (program ∷ word ∷ words) ≡ first_fault (subcommand_met line_names idle word)
  unfolding walk_fault walked
  line_fault_is program = refl

  line_rows_are : (program : Text) → subcommand_of station_line (program ∷ word ∷ words) ≡ first_rows (subcommand_met line_names idle word)
  unfolding walked
  line_rows_are program = refl

-- ---- a command

module _ (words : List Text) (command : Command) (found : command_of command.word ≡ Some command) (sound : is_sound_command command ≡ true) where
  abbrev id : Text
  id = command.word

  abbrev walk_on : Walk
  walk_on = fold (walked top.rules line_names) (met id []) words

  all_left : met id words ≡ walk_on
  all_left = walk_stopped top.rules line_names (at [] None 1) id [] words

  no_help : bytes_eq id (codes "help") ≡ false
  no_help = not_true (bytes_eq id (codes "help")) (both (not (bytes_eq id (codes "help"))) (is_sound command.arguments) sound).0

  -- what is found and what fails at the command of the line, if there is one
  abbrev sub_fault : Option Shape → Kinds
  sub_fault sub = or_else (option_map_or (λ (s : Shape). level_fault s [] nothing_held words false []) sub []) (or_else (settle_fault top.rules false nothing_held)
      (or_else (defaults_fault (settled top.rules nothing_held).rows top.rules)
      (check_fault top (finished top.rules nothing_held) (is_some (option_map (λ (s : Shape). rows_at s words) sub)))))

  sub_is : find (λ s. answers_to id (label_of s)) (built station_line).subs ≡ Some (leaf_of command)
  sub_is = sub_found id commands (built_leaf help_shape ∷ []) ∙ ap (λ o. first_or id leaf_of o (find (λ s. answers_to id (label_of s)) (built_leaf help_shape ∷ []))) found

  name_is : subcommand_met line_names idle id ≡ Some id
  name_is = ap (option_map (λ (s : Text × List Text). s.0)) (name_found id commands (built_leaf help_shape ∷ [])
      ∙ ap (λ o. first_or id (λ command. label_of (leaf_of command)) o (find (answers_to id) (map label_of (built_leaf help_shape ∷ [])))) found)

  named_fault : first_fault id words (Some id) ≡ line_fault id (rules_of command.arguments) words
  unfolding defaults_fault
  named_fault = ap (λ b. top_fault (or_else (or_else (cond (b && true) (kind.DisplayHelp ∷ kind.InvalidSubcommand ∷ []) []) []) (walk_fault top line_names (met id []) words)) walk_on) no_help
      ∙ ap (λ k. top_fault k walk_on) (left_to_sub (at [] None 1) (id, []) words) ∙ ap (top_fault []) (sym all_left) ∙ ap sub_fault sub_is
      ∙ or_else-nil (line_fault id (rules_of command.arguments) words)

  named_rows : first_rows id words (Some id) ≡ Some (id, rows_after (rules_of command.arguments) [] words)
  named_rows = ap (λ w. entered (built station_line) w.stopped) (sym all_left) ∙ ap (option_map (λ (s : Shape). rows_at s words)) sub_is

  module _ (program : Text) where
    fault_is : fault_of station_line (program ∷ id ∷ words) ≡ line_fault id (rules_of command.arguments) words
    fault_is = line_fault_is id words program ∙ ap (first_fault id words) name_is ∙ named_fault

    rows_are : asked_of_rows (subcommand_of station_line (program ∷ id ∷ words)) ≡ by_rows command (rows_after (rules_of command.arguments) [] words)
    rows_are = ap asked_of_rows (line_rows_are id words program ∙ ap (first_rows id words) name_is ∙ named_rows)
        ∙ ap (option_and_then (asked_of (λ name. first_of name (rows_after (rules_of command.arguments) [] words)))) found

    words_are : asked_in (program ∷ id ∷ words) ≡ by_words command words
    words_are = ap (option_and_then (λ (command : Command). by_words command words)) found

    command_whole : Reads (program ∷ id ∷ words)
    command_whole = go (command_reads command (both (not (bytes_eq id (codes "help"))) (is_sound command.arguments) sound).1 words)
      where
        go : CommandReads command words → Reads (program ∷ id ∷ words)
        go (inl r) = inl (fault_is ∙ r.0, rows_are ∙ r.1 ∙ sym words_are)
        go (inr r) = inr (words_are ∙ r.0, subst Fails (sym fault_is) r.1)

-- ---- a word that names no command

top_flag : (word : Text) (more : List Text) → ends_flags word ≡ false → is_flag word ≡ true → Fails (first_fault word more None)
top_flag word more e h =
    rw e (fails_within (flag_word_fault top.rules false (long_of word) word nothing_held) _ _ _
    (word_fails [] None top.rules (λ x rest next. short_fails_top (nat_eq 104 x) (nat_eq 86 x) x rest next refl refl)
    (λ name v. long_fails_top (bytes_eq (codes "help") name) (bytes_eq (codes "version") name) name v refl refl) word e h))

top_value : (word : Text) (more : List Text) → ends_flags word ≡ false → is_flag word ≡ false → Fails (first_fault word more None)
top_value word more e h =
    let value_is = word_passes [] None top.rules idle word h in
    rw e (rw value_is.0 (rw value_is.1 tt))

top_help : (name : Text) (more : List Text) → Fails (fault_of station_line (name ∷ codes "help" ∷ more))
unfolding clap_on_literals
top_help name more = tt

top_ends : (name : Text) (more : List Text) → Fails (fault_of station_line (name ∷ codes "--" ∷ more))
unfolding clap_on_literals
top_ends name [] = tt
top_ends name (word ∷ more) = tt

-- what names no command: the help, or nothing at all
by_other : (program word : Text) (more : List Text) → command_of word ≡ None → Fails (fault_of station_line (program ∷ word ∷ more))
by_other program word more none = go (bytes_eq (codes "help") word) (ends_flags word) (is_flag word) refl refl refl
  where
    help_first : find (answers_to word) line_names ≡ find (answers_to word) (map label_of (built_leaf help_shape ∷ []))
    help_first = name_found word commands (built_leaf help_shape ∷ [])
        ∙ ap (λ o. first_or word (λ command. label_of (leaf_of command)) o (find (answers_to word) (map label_of (built_leaf help_shape ∷ [])))) none

    no_name_is : bytes_eq (codes "help") word ≡ false → subcommand_met line_names idle word ≡ None
    no_name_is m = ap (option_map (λ (s : Text × List Text). s.0)) (help_first ∙ ap (λ b. cond (b || false) (Some (codes "help", [])) None) m)

    no_fault_is : bytes_eq (codes "help") word ≡ false → fault_of station_line (program ∷ word ∷ more) ≡ first_fault word more None
    no_fault_is m = line_fault_is word more program ∙ ap (first_fault word more) (no_name_is m)

    go : (is_help ends flag : Bool) → bytes_eq (codes "help") word ≡ is_help → ends_flags word ≡ ends → is_flag word ≡ flag → Fails (fault_of station_line (program ∷ word ∷ more))
    go true ends flag m e h = subst (λ w. Fails (fault_of station_line (program ∷ w ∷ more))) ((bytes_eq-Decides (codes "help") word).0 m) (top_help program more)
    go false true flag m e h = subst (λ w. Fails (fault_of station_line (program ∷ w ∷ more))) (sym (is_ends word e)) (top_ends program more)
    go false false true m e h = subst Fails (sym (no_fault_is m)) (top_flag word more e h)
    go false false false m e h = subst Fails (sym (no_fault_is m)) (top_value word more e h)

pub reads : (words : List Text) → Reads words
reads [] = no_name
reads (program ∷ []) = name_alone program
reads (program ∷ word ∷ more) = go (command_of word) refl
  where
    go : (o : Option Command) → command_of word ≡ o → Reads (program ∷ word ∷ more)
    go None is = inr (ap (option_and_then (λ (command : Command). by_words command more)) is, by_other program word more is)
    go (Some command) is =
        let has = found_sound word commands command all_sound is in
        subst (λ w. Reads (program ∷ w ∷ more)) has.0 (command_whole more command (subst (λ w. command_of w ≡ Some command) (sym has.0) is) has.1 program)

-- ---- what a parse answers

-- a parse that had no fault found what was asked for, or that nothing was
pub was_asked : (words : List Text) → fault_of station_line words ≡ [] → asked_of_rows (subcommand_of station_line words) ≡ asked_in words
was_asked words none = go (reads words)
  where
    go : Reads words → asked_of_rows (subcommand_of station_line words) ≡ asked_in words
    go (inl r) = r.1
    go (inr r) = absurd (subst Fails none r.1)

-- an error of the parse is for want of memory, or of a line that asks for nothing
pub refuses : (words : List Text) (e : Error) → HasKind (fault_of station_line words) e → (kind_of e ≡ kind.OutOfMemory) ⊎ (asked_in words ≡ None)
refuses words e has = go (reads words)
  where
    none : fault_of station_line words ≡ [] → (kind_of e ≡ kind.OutOfMemory) ⊎ (asked_in words ≡ None)
    none is = elim (subst (λ ks. HasKind ks e) is has) [
      | inl memory ↦ inl memory
      | inr among ↦ absurd among
    ]

    go : Reads words → (kind_of e ≡ kind.OutOfMemory) ⊎ (asked_in words ≡ None)
    go (inl r) = none r.0
    go (inr r) = inr r.0

-- ---- which errors may come

among_first : (k : ErrorKind) (ks others : Kinds) → IsAmong k ks → IsAmong k (or_else ks others)
among_first k [] others among = absurd among
among_first k (x ∷ xs) others among = among

pub faults_of_parse : (words : List Text) (e : Error) → HasKind (fault_of station_line words) e → HasKind (faults_in words) e
faults_of_parse words e (inl memory) = inl memory
faults_of_parse words e (inr among) = inr (among_first (kind_of e) (fault_of station_line words) _ among)

-- where something is asked for there is none
pub no_faults : (words : List Text) (said : Said) → fault_of station_line words ≡ [] → asked_in words ≡ Some said → faults_in words ≡ []
no_faults words said none asked = λ i. or_else (none i) (if is_some (asked i) then [] else kind.MissingRequiredArgument ∷ [])

-- where nothing is asked for something is missing
pub missing_fault : (words : List Text) (e : Error) → fault_of station_line words ≡ [] → asked_in words ≡ None → kind_of e ≡ kind.MissingRequiredArgument → HasKind (faults_in words) e
missing_fault words e none asked is = subst (λ ks. HasKind ks e) (λ i. or_else (sym none i) (if is_some (sym asked i) then [] else kind.MissingRequiredArgument ∷ [])) (inr (inl is))

-- what the parse of a command that is read as this line answers
module _ (a : App) (words : List Text) (is : a ≡ station_line) where
  pub parse_fails : {T : Type 0} → (r : Result T Error) → (is_simple_and_free a ≡ true → FailsBy (fault_of a words) r) → FailsBy (fault_of station_line words) r
  parse_fails r kinds = subst (λ b. FailsBy (fault_of b words) r) is (kinds (ap is_simple_and_free is))

  pub parse_rows : (m : ArgMatches) → HasMatchesOf a words m → subcommand_rows_of m ≡ subcommand_of station_line words
  parse_rows m has = (has (ap is_simple is)).1 ∙ ap (λ b. subcommand_of b words) is

  -- where there was no fault, the parse found what was asked for, or that nothing was
  pub meets : (m : ArgMatches) → fault_of station_line words ≡ [] → HasMatchesOf a words m → asked_of_rows (subcommand_rows_of m) ≡ asked_in words
  meets m none has = ap asked_of_rows (parse_rows m has) ∙ was_asked words none

-- what is answered, where the parse had no fault and found this
answered : (words : List Text) (found : Option Said) (r : Result Request Error) → fault_of station_line words ≡ [] → found ≡ asked_in words → Answers found r → AnswersWords words r
answered words found (Ok request) none same answers = (sym same ∙ answers, tt, no_faults words (says request) none (sym same ∙ answers))
answered words found (Err e) none same (inl memory) = (tt, inl memory, inl memory)
answered words found (Err e) none same (inr nothing) = (tt, inr (sym same ∙ nothing.1), missing_fault words e none (sym same ∙ nothing.1) nothing.0)

-- what is answered where the parse found these matches, and where it had an error
module _ (a : App) (words : List Text) (parsed : Result ArgMatches Error) (kinds : is_simple_and_free a ≡ true → FailsBy (fault_of a words) parsed) where
  pub answered_found : (m : ArgMatches) (r : Result Request Error) → parsed ≡ Ok m → HasMatchesOf a words m → Answers (asked_of_rows (subcommand_rows_of m)) r → a ≡ station_line → AnswersWords words r
  answered_found m r was has answers is =
      let none = subst (FailsBy (fault_of station_line words)) was (parse_fails a words is parsed kinds) in
      answered words (asked_of_rows (subcommand_rows_of m)) r none (meets a words is m none has) answers

  pub answered_error : (e : Error) (r : Result Request Error) → parsed ≡ Err e → r ≡ Err e → a ≡ station_line → AnswersWords words r
  answered_error e r was gives is =
      let has = subst (FailsBy (fault_of station_line words)) was (parse_fails a words is parsed kinds) in
      subst (AnswersWords words) (sym gives) (tt, refuses words e has, faults_of_parse words e has)
