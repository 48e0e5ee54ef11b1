-- What was found on a command line, by the rows that clap keeps.
use Rattle.std.proofs.Common.{◌≡◌, ℕ, false, List, Option, Some, None, is_some, ap, ◌∙◌, codes}
use Rattle.std.specs.Prelude.{option_and_then}
use Rattle.std.proofs.lemmas.Bool.{true≢false}
use Rattle.std.specs.Option.{option_map, unwrap_or}
use Rattle.std.specs.Str.{bytes_eq}
use Rattle.clap.specs.Words.{Row, Text, first_of, first_value, found_of, subcommand_name_of, subcommand_rows_of}
use Rattle.clap.specs.declared.parser.matches.ArgMatches.{ArgMatches}
use Rattle.clap.proofs.WalkLemmas.{first_value-rows}
use Rattle.station_command.specs.Commands.{Said}
use Rattle.station_command.specs.CommandWords.{asked_by, is_on, number_of}
use Rattle.station_command.specs.inside.Matches.{asked_of_rows, value_in}

-- a subcommand by its two parts
abbrev both_parts : {A : Type 0} → (A → Text) → (A → List Row) → A → Text × List Row
both_parts f g a = (f a, g a)

abbrev found_as : Text → List Row → Option (Text × List Row)
found_as name rows = Some (name, rows)

parts_are : {A : Type 0} (f : A → Text) (g : A → List Row) (o : Option A) (name : Text) (rows : List Row) → Some name ≡ option_map f o
    → Some rows ≡ option_map (λ (p : Text × List Row). p.1) (option_map (both_parts f g) o) → found_as name rows ≡ option_map (both_parts f g) o
parts_are f g None name rows e h = absurd (true≢false (ap (λ (o : Option Text). is_some o) e))
parts_are f g (Some a) name rows e h = λ i. found_as (ap (λ (o : Option Text). unwrap_or o name) e i) (ap (λ (o : Option (List Row)). unwrap_or o rows) h i)

module _ (m : ArgMatches) where
  pub value_found : (id : Text) (text : Option Text) → text ≡ first_value (found_of m) id → text ≡ value_in m id
  value_found id text e = e ∙ first_value-rows (found_of m) id

  -- ---- a switch

  pub on_found : (id text : Text) → Some text ≡ value_in m id → bytes_eq text (codes "true") ≡ is_on (value_in m id)
  on_found id text e = ap is_on e

  pub off_found : (id : Text) → None ≡ value_in m id → false ≡ is_on (value_in m id)
  off_found id e = ap is_on e

  -- ---- a number

  pub number_found : (id text : Text) (n : Option ℕ) → n ≡ number_of text → Some text ≡ value_in m id → n ≡ option_and_then number_of (value_in m id)
  number_found id text n is e = is ∙ ap (option_and_then number_of) e

  pub number_missing : (id : Text) → None ≡ value_in m id → None ≡ option_and_then number_of (value_in m id)
  number_missing id e = ap (option_and_then number_of) e

  -- ---- a subcommand

  pub request_found : (name : Text) (found : List Row) (asked : Option Said) → asked ≡ asked_by (λ id. first_of id found) name → Some name ≡ subcommand_name_of m
      → Some found ≡ option_map (λ (p : Text × List Row). p.1) (subcommand_rows_of m) → asked ≡ asked_of_rows (subcommand_rows_of m)
  request_found name found asked is e f = is ∙ ap asked_of_rows (parts_are _ _ _ name found e f)
