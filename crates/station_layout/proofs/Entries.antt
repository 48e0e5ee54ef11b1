-- The first entry of a table that has something, from one entry to the next.
use Rattle.std.proofs.Common.{◌≡◌, ◌∙◌, ◌<◌, ◌≤◌, ◌+◌, ◌-◌, ℕ, true, false, suc, Some, None, ap, arith}
use Rattle.std.specs.Prelude.{if◌then◌else◌}
use Rattle.layout_text.specs.Written.{LayoutText}
use Rattle.layout_text.specs.declared.fault.TableName.{TableName}
use Rattle.station_layout.specs.SharedAdvice.{entry_in, first_behind, has}
use Rattle.station_layout.specs.declared.advice.Common.{Common}

module _ (w : LayoutText) (what : Common) (table : TableName) where
  -- it is looked at as long as entries are left
  next : (n count : ℕ) → n < count
      → first_behind w what table n (count - n) ≡ (if has w table n what then Some (entry_in w table n) else first_behind w what table (n + 1) (count - (n + 1)))
  next n count inside =
      let left : count - n ≡ suc (count - (n + 1)) = omega (arith, inside) in
      ap (first_behind w what table n) left

  pub has_it : (n count : ℕ) → n < count → has w table n what ≡ true → first_behind w what table n (count - n) ≡ Some (entry_in w table n)
  has_it n count inside is_so =
      next n count inside ∙ ap (λ b. if b then Some (entry_in w table n) else first_behind w what table (n + 1) (count - (n + 1))) is_so

  pub goes_on : (n count : ℕ) → n < count → has w table n what ≡ false
      → first_behind w what table n (count - n) ≡ first_behind w what table (n + 1) (count - (n + 1))
  goes_on n count inside is_not =
      next n count inside ∙ ap (λ b. if b then Some (entry_in w table n) else first_behind w what table (n + 1) (count - (n + 1))) is_not

  pub has_none : (n count : ℕ) → count ≤ n → first_behind w what table n (count - n) ≡ None
  has_none n count ended =
      let left : count - n ≡ 0 = omega (arith, ended) in
      ap (first_behind w what table n) left
