-- The first of several where something is found, looked for one after the other.
use Rattle.std.proofs.Common.{◌≡◌, ◌∙◌, ℕ, ◌+◌, ◌<◌, ◌≤◌, List, length, drop, get_or, Option, Some, None, ap, sym}
use Rattle.std.proofs.lemmas.List.{at_drop_all, at_drop_more}
use Rattle.std.specs.Option.{option_or}
use Rattle.control_table.specs.layout.declared.port.Port.{Port}
use Rattle.station_layout.specs.Search.{first_of, first_step}

-- among these items, of which so many were looked at
module _ {A R : Type 0} (found : A → Option R) (items : List A) (seen : ℕ) (d : A) (whole : Option R) where
  next : seen < length items → first_of found (drop seen items) ≡ option_or (found (get_or items seen d)) (first_of found (drop (seen + 1) items))
  next within = at_drop_more (first_of found) items seen d within

  pub found_here : (what : R) → seen < length items → found (get_or items seen d) ≡ Some what → first_of found (drop seen items) ≡ whole → Some what ≡ whole
  found_here what within here so = sym (next within ∙ ap (λ o. option_or o (first_of found (drop (seen + 1) items))) here) ∙ so

  pub goes_on : seen < length items → found (get_or items seen d) ≡ None → first_of found (drop seen items) ≡ whole → first_of found (drop (seen + 1) items) ≡ whole
  goes_on within nothing so = sym (next within ∙ ap (λ o. option_or o (first_of found (drop (seen + 1) items))) nothing) ∙ so

pub nowhere : {A R : Type 0} (found : A → Option R) (items : List A) (seen : ℕ) (whole : Option R) → length items ≤ seen → first_of found (drop seen items) ≡ whole → None ≡ whole
nowhere found items seen whole past so = sym (at_drop_all (first_of found) items seen past) ∙ so

-- among the steps of a path, of which so many were looked at
module _ {R : Type 0} (found : Port → Port → Option R) (before : Port) (path : List Port) (seen : ℕ) (d : Port) (whole : Option R) where
  next_step : seen < length path
      → first_step found before (drop seen path) ≡ option_or (found before (get_or path seen d)) (first_step found (get_or path seen d) (drop (seen + 1) path))
  next_step within = at_drop_more (first_step found before) path seen d within

  pub found_at_step : (what : R) → seen < length path → found before (get_or path seen d) ≡ Some what → first_step found before (drop seen path) ≡ whole → Some what ≡ whole
  found_at_step what within here so = sym (next_step within ∙ ap (λ o. option_or o (first_step found (get_or path seen d) (drop (seen + 1) path))) here) ∙ so

  pub steps_on : seen < length path → found before (get_or path seen d) ≡ None → first_step found before (drop seen path) ≡ whole
      → first_step found (get_or path seen d) (drop (seen + 1) path) ≡ whole
  steps_on within nothing so = sym (next_step within ∙ ap (λ o. option_or o (first_step found (get_or path seen d) (drop (seen + 1) path))) nothing) ∙ so

pub nowhere_on : {R : Type 0} (found : Port → Port → Option R) (before : Port) (path : List Port) (seen : ℕ) (whole : Option R) → length path ≤ seen
    → first_step found before (drop seen path) ≡ whole → None ≡ whole
nowhere_on found before path seen whole past so = sym (at_drop_all (first_step found before) path seen past) ∙ so
