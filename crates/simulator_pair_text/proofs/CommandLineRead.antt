-- A command line of `pair` is read as clap reads such a line.
use Rattle.std.proofs.Common.{◌≡◌, true, List, Result, ap, subst, ◌∙◌, codes}
use Rattle.clap.specs.Words.{App, FailsBy, HasMatchesOf, Text, fault_of, first_of, first_value, found_of, is_simple, is_simple_and_free, matches_of}
use Rattle.clap.specs.declared.parser.matches.ArgMatches.{ArgMatches}
use Rattle.clap.specs.declared.error.Error.{Error}
use Rattle.clap.proofs.WalkLemmas.{first_value-rows}
use Rattle.simulator_pair_text.specs.CommandLine.{pair_line}

-- what the parse of a command that is read as this line answers
module _ (a : App) (words : List Text) (is : a ≡ pair_line) where
  pub parse_fails : {T : Type 0} → (r : Result T Error) → (is_simple_and_free a ≡ true → FailsBy (fault_of a words) r) → FailsBy (fault_of pair_line words) r
  parse_fails r kinds = subst (λ b. FailsBy (fault_of b words) r) is (kinds (ap is_simple_and_free is))

  pub file_given : (m : ArgMatches) → HasMatchesOf a words m → first_value (found_of m) (codes "FILE") ≡ first_of (codes "FILE") (matches_of pair_line words)
  file_given m has =
      first_value-rows (found_of m) (codes "FILE")
      ∙ (ap (first_of (codes "FILE")) (has (ap is_simple is)).0 ∙ ap (λ b. first_of (codes "FILE") (matches_of b words)) is)
