-- In which connection a controller was last, after a step.
use Rattle.std.specs.Prelude.{ℕ, ◌+◌, ◌==◌, ◌&&◌, ◌||◌, not, Bool, Some, if◌then◌else◌}
use Rattle.simulator_field.specs.declared.stay.Stay.{Stay}

-- it was outside, and so many datagrams are its answer to a request
abbrev pub has_entered : Bool → ℕ → Bool
has_entered was_inside sends = not was_inside && not (sends == 0)

abbrev pub noted : Bool → ℕ → Bool → ℕ → ℕ → Stay → Stay
noted was_inside sends is_open connection moment stay = record {
  connection = if has_entered was_inside sends then Some connection else stay.connection;
  left = if (was_inside || has_entered was_inside sends) && not is_open then moment + sends else stay.left;
}
