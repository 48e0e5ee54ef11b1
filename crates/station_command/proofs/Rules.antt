-- What has to be known of the arguments of a command, so that its words are read as its usage says. Of each command it is
-- found by computing.
use Rattle.std.proofs.Common.{◌≡◌, ◌+◌, ℕ, suc, drop, true, false, List, [], ◌∷◌, Option, Some, None, ◌⊎◌, sym, subst, codes, if◌then◌else◌, is_some}
use Rattle.std.specs.Str.{bytes_eq}
use Rattle.clap.specs.declared.builder.value_parser.Reading.TheVariants as reading
use Rattle.clap.specs.declared.error.kind.ErrorKind.TheVariants as kind
use Rattle.clap.specs.declared.parser.matches.ValueSource.TheVariants.{CommandLine}
use Rattle.clap.specs.Kinds.{Kinds, or_else}
use Rattle.clap.specs.Faults.{long_fault, option_fault, react_fault, settle_fault, short_fault, use_fault}
use Rattle.clap.specs.Simple.{Shape}
use Rattle.clap.specs.Walk.{Held, Row, Rule, Text, arg_by_id, arg_by_index, arg_by_long, arg_by_short, attached_value, has_row, is_multiple, most_values, next_position, reacted, takes_several, takes_values, used, with_values, without}
use Rattle.station_command.proofs.Defaults.{DefaultsPass}
use Rattle.station_command.proofs.Given.{kinds_of}
use Rattle.station_command.proofs.WordsRead.{Fails, first_fails, next_fails}
use Rattle.station_command.specs.CommandWords.{files_of, flag_of, takes}
use Rattle.station_command.specs.Commands.{Argument}

-- a command without commands of its own, when it is built
abbrev pub leaf : Text → List Rule → Shape
leaf name rules = record {
  name = name;
  aliases = [];
  rules = rules;
  is_plain = true;
  is_leaf = true;
  no_binary_name = false;
  disable_help_flag = false;
  disable_help_subcommand = true;
  disable_version_flag = false;
  propagate_version = false;
  has_version = false;
  has_long_version = false;
  args_override_self = false;
  arg_required_else_help = false;
  subcommand_required = false;
  subcommand_negates_reqs = false;
  is_built = true;
}

-- an argument that takes one value, once
pub record TakesOne (usage : List Argument) (rules : List Rule) (a : Rule) : Type 0 where
  pub found : arg_by_id rules a.id ≡ Some a
  pub same : bytes_eq a.id a.id ≡ true
  pub fault : (text : Text) (rs : List Row) → use_fault false a (text ∷ []) rs ≡ kinds_of (has_row a.id rs) (takes usage a.id text)
  pub empty : (rs : List Row) → Fails (use_fault false a [] rs)
  pub leaves : (text : Text) (rs : List Row) → used a (text ∷ []) rs ≡ with_values a.id reading.AsWritten CommandLine (text ∷ []) (without a.id rs)
  pub most : most_values a ≡ 1
  pub alone : takes_several a ≡ false
  pub once : is_multiple a ≡ false
  pub further : a.trailing_var_arg ≡ false

pub record IsOption (usage : List Argument) (rules : List Rule) (a : Rule) : Type 0 where
  pub one : TakesOne usage rules a
  pub long : arg_by_long rules a.id ≡ Some a

pub record IsSwitch (usage : List Argument) (rules : List Rule) (a : Rule) : Type 0 where
  pub long : arg_by_long rules a.id ≡ Some a
  pub valueless : takes_values a ≡ false
  pub fault : (rs : List Row) → use_fault false a [] rs ≡ kinds_of (has_row a.id rs) (takes usage a.id (codes "true"))
  pub leaves : (rs : List Row) → used a [] rs ≡ with_values a.id reading.AsWritten CommandLine (codes "true" ∷ []) (without a.id rs)

-- ---- the files

-- the place at which a file is looked for, when so many stood before it
abbrev pub position_of : ℕ → ℕ
position_of n = n + 1

-- the files that are still to come
abbrev pub left_of : List Argument → ℕ → List Text
left_of usage n = drop n (files_of usage)

-- the argument of the file that comes next
pub record FileAt (usage : List Argument) (rules : List Rule) (n : ℕ) (a : Rule) : Type 0 where
  pub one : TakesOne usage rules a
  pub found : arg_by_index rules (position_of n) ≡ Some a
  pub left : left_of usage n ≡ a.id ∷ left_of usage (suc n)
  pub steps : next_position a (position_of n) ≡ position_of (suc n)

abbrev pub NoFileAt : List Argument → List Rule → ℕ → Type 0
NoFileAt usage rules n = (arg_by_index rules (position_of n) ≡ None) × (left_of usage n ≡ [])

abbrev pub IsFile : List Argument → List Rule → ℕ → Type 0
IsFile usage rules n = ((a : Rule) × FileAt usage rules n a) ⊎ NoFileAt usage rules n

-- ---- the flags

abbrev pub NamesOption : List Argument → List Rule → Text → Type 0
NamesOption usage rules name = (a : Rule) × IsOption usage rules a × (a.id ≡ name) × (flag_of usage a.id ≡ Some false)

abbrev pub NamesSwitch : List Argument → List Rule → Text → Type 0
NamesSwitch usage rules name = (a : Rule) × IsSwitch usage rules a × (a.id ≡ name) × (flag_of usage a.id ≡ Some true)

abbrev pub NamesNeither : List Argument → List Rule → Text → Type 0
NamesNeither usage rules name = (flag_of usage name ≡ None) × ((text : Option Text) (h : Held) → Fails (long_fault rules false (arg_by_long rules name) text h))

-- which flag a name is
abbrev pub IsNamed : List Argument → List Rule → Text → Type 0
IsNamed usage rules name = NamesOption usage rules name ⊎ (NamesSwitch usage rules name ⊎ NamesNeither usage rules name)

-- ---- a command

pub record IsLine (usage : List Argument) (rules : List Rule) : Type 0 where
  pub file : (n : ℕ) → IsFile usage rules n
  pub named : (name : Text) → IsNamed usage rules name
  -- there is no short flag but that of the help
  pub short : (x : ℕ) (rest : Text) (h : Held) (after : Held → Kinds) → Fails (short_fault rules false (arg_by_short rules x) rest h after)
  pub defaults : DefaultsPass rules

-- ---- flags that fail

-- the help
pub record IsHelp (a : Rule) : Type 0 where
  pub valueless : takes_values a ≡ false
  pub fails : (rs : List Row) → Fails (use_fault false a [] rs)

module _ (rules : List Rule) where
  help_long : (a : Rule) → IsHelp a → (text : Option Text) (h : Held) → Fails (long_fault rules false (Some a) text h)
  help_long a help text h = subst (λ b. Fails (if b then option_fault rules false a text h else (if is_some text then kind.TooManyValues ∷ [] else react_fault rules false a [] h)))
      (sym help.valueless) (go text)
    where
      go : (text : Option Text) → Fails (if is_some text then kind.TooManyValues ∷ [] else react_fault rules false a [] h)
      go None = next_fails (settle_fault rules false h) _ (help.fails _)
      go (Some value) = tt

  pub names_help : (name : Text) (a : Rule) → arg_by_long rules name ≡ Some a → IsHelp a → (text : Option Text) (h : Held) → Fails (long_fault rules false (arg_by_long rules name) text h)
  names_help name a is help text h = subst (λ o. Fails (long_fault rules false o text h)) (sym is) (help_long a help text h)

  pub names_nothing : (name : Text) → arg_by_long rules name ≡ None → (text : Option Text) (h : Held) → Fails (long_fault rules false (arg_by_long rules name) text h)
  names_nothing name is text h = subst (λ o. Fails (long_fault rules false o text h)) (sym is) tt

  pub short_help : (x : ℕ) (a : Rule) → arg_by_short rules x ≡ Some a → IsHelp a → (rest : Text) (h : Held) (after : Held → Kinds)
      → Fails (short_fault rules false (arg_by_short rules x) rest h after)
  short_help x a is help rest h after =
      let react : Fails (react_fault rules false a [] h) = next_fails (settle_fault rules false h) _ (help.fails _) in
      subst (λ o. Fails (short_fault rules false o rest h after)) (sym is)
      (subst (λ b. Fails (if b then option_fault rules false a (attached_value rest) h else or_else (react_fault rules false a [] h) (after (reacted rules a [] h))))
      (sym help.valueless) (first_fails (react_fault rules false a [] h) _ react))

  pub short_nothing : (x : ℕ) → arg_by_short rules x ≡ None → (rest : Text) (h : Held) (after : Held → Kinds) → Fails (short_fault rules false (arg_by_short rules x) rest h after)
  short_nothing x is rest h after = subst (λ o. Fails (short_fault rules false o rest h after)) (sym is) tt
