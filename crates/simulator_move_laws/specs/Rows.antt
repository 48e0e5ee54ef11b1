-- The control table of the machine, by the rows that the rules read.
use Rattle.std.specs.Prelude.{◌≡◌, nat_lt, ◌==◌, ◌&&◌, ◌||◌, not, ℕ, Bool, true, false, List, [], Option, Some, None, slice_get}
use Rattle.std.specs.List.{list_all, list_any}
use Rattle.ixl_spec.specs.sci_telegram.declared.message.Aspect.TheVariants as aspects
use Rattle.ixl_spec.specs.Table.{Need, Row, Table, is_same_side}
use Rattle.simulator_machine.specs.Lists.{is_same}
use Rattle.simulator_machine.specs.Point.{Side, Left, Right}
use Rattle.simulator_machine.specs.Table.{Table as MachineTable}
use Rattle.simulator_move_laws.specs.Telegrams.{aspect_seen, side_seen}

-- a route that the table doesn't have needs nothing; it is never set
abbrev pub no_row : Row
no_row = record { entry = 0; aspect = aspects.Stop; sections = []; needs = []; approach = []; extra = [] }

abbrev pub row_or_none : Option Row → Row
row_or_none None = no_row
row_or_none (Some row) = row

abbrev pub row_at : Table → ℕ → Row
row_at table number = row_or_none (slice_get table.rows number)

abbrev pub is_side_seen : Side → Side → Bool
is_side_seen Left Left = true
is_side_seen Right Right = true
is_side_seen _ _ = false

-- some of one list and some of another stand so to each other
abbrev pub some_pair : {A B : Type 0} → (A → B → Bool) → List A → List B → Bool
some_pair test ones others = list_any (λ one. list_any (test one) others) ones

-- one point at different sides
abbrev pub is_elsewhere : Need → Need → Bool
is_elsewhere one other = one.point == other.point && not (is_same_side one.side other.side)

-- two routes conflict: they have the same entry, share a section, require a point at different sides, or one of them
-- lists the other as an extra conflict
abbrev pub rows_conflict : ℕ → Row → ℕ → Row → Bool
rows_conflict number row other_number other =
    row.entry == other.entry || some_pair (λ one another. one == another) row.sections other.sections || some_pair is_elsewhere row.needs other.needs
    || list_any (λ listed. listed == other_number) row.extra || list_any (λ listed. listed == number) other.extra

unfoldable pub machine_table : Table → MachineTable
machine_table table = record {
  entry = λ number. (row_at table number).entry;
  aspect = λ number. aspect_seen (row_at table number).aspect;
  requires = λ number point side. list_any (λ need. need.point == point && is_side_seen (side_seen need.side) side) (row_at table number).needs;
  conflict = λ number other. not (is_same number other) && rows_conflict number (row_at table number) other (row_at table other);
}

-- each point that a route requires is held until a section of it is freed
abbrev pub AreHeldAtFirst : Table → Type 0
AreHeldAtFirst table = (number : ℕ) (row : Row) → slice_get table.rows number ≡ Some row → list_all (λ need. nat_lt 0 need.until) row.needs ≡ true
