-- What is found at the end of the words, where an argument that wasn't given has its default value.
use Rattle.std.proofs.Common.{◌≡◌, ◌&&◌, ◌||◌, Bool, true, false, not, List, [], ◌∷◌, ◌++◌, Option, Some, None, is_some, if◌then◌else◌, refl, sym, ap, subst, ◌∙◌, cond, find, fold, slice_get}
use Rattle.std.specs.Prelude.{option_and_then}
use Rattle.std.proofs.lemmas.Bool.{false≢true}
use Rattle.std.proofs.lemmas.Slice.Eq.{bytes_eq-Decides}
use Rattle.std.specs.List.{list_any}
use Rattle.std.specs.Option.{option_map_or}
use Rattle.std.specs.Str.{bytes_eq}
use Rattle.clap.specs.declared.parser.matches.ValueSource.TheVariants.{DefaultValue}
use Rattle.clap.specs.Kinds.{or_else}
use Rattle.clap.specs.Faults.{defaults_fault, given_default_fault}
use Rattle.clap.specs.Facts.{explicit_source}
use Rattle.clap.specs.Takes.{is_given}
use Rattle.clap.specs.Walk.{Row, Rule, Text, default_rows, first_of, has_row, is_empty, more_values, reading_by, with_default}
use Rattle.station_command.specs.CommandWords.{Given, value_of}
use Rattle.station_command.proofs.Given.{or_none, or_or, or_value, row_added, rows}

-- each row has a value
abbrev pub HaveValues : List Row → Type 0
HaveValues [] = Unit {0}
HaveValues (r ∷ rs) = (is_some (slice_get r.values 0) ≡ true) × HaveValues rs

pub rows_have_values : (given : List Given) → HaveValues (rows given)
rows_have_values [] = tt
rows_have_values (one ∷ given) = (refl, rows_have_values given)

kept : (o other : Option Text) → is_some o ≡ true → o ≡ or_value o other
kept (Some text) other some = refl
kept None other some = absurd (false≢true some)

-- ---- a row after others

abbrev value_if : Bool → Row → Option Text
value_if b d = if b then slice_get d.values 0 else None

first_of-behind : (id : Text) (rs : List Row) (d : Row) → HaveValues rs → first_of id (rs ++ d ∷ []) ≡ or_value (first_of id rs) (value_if (bytes_eq d.id id) d)
first_of-behind id [] d have = go (bytes_eq d.id id)
  where
    go : (b : Bool) → option_and_then (λ (r : Row). slice_get r.values 0) (cond b (Some d) None) ≡ value_if b d
    go true = refl
    go false = refl
first_of-behind id (r ∷ rs) d have = go (bytes_eq r.id id) (first_of-behind id rs d have.1)
  where
    go : (b : Bool) → first_of id (rs ++ d ∷ []) ≡ or_value (first_of id rs) (value_if (bytes_eq d.id id) d)
        → option_and_then (λ (r : Row). slice_get r.values 0) (cond b (Some r) (find (λ (r : Row). bytes_eq r.id id) (rs ++ d ∷ [])))
        ≡ or_value (option_and_then (λ (r : Row). slice_get r.values 0) (cond b (Some r) (find (λ (r : Row). bytes_eq r.id id) rs))) (value_if (bytes_eq d.id id) d)
    go true e = kept (slice_get r.values 0) (value_if (bytes_eq d.id id) d) have.0
    go false e = e

is_given-behind : (id : Text) (rs : List Row) (d : Row) → explicit_source d.source ≡ false → is_given id (rs ++ d ∷ []) ≡ is_given id rs
is_given-behind id [] d implicit = go (bytes_eq d.id id)
  where
    go : (b : Bool) → option_map_or (λ (r : Row). explicit_source r.source) (cond b (Some d) None) false ≡ false
    go true = implicit
    go false = refl
is_given-behind id (r ∷ rs) d implicit = go (bytes_eq r.id id) (is_given-behind id rs d implicit)
  where
    go : (b : Bool) → is_given id (rs ++ d ∷ []) ≡ is_given id rs
        → option_map_or (λ (r : Row). explicit_source r.source) (cond b (Some r) (find (λ (r : Row). bytes_eq r.id id) (rs ++ d ∷ []))) false
        ≡ option_map_or (λ (r : Row). explicit_source r.source) (cond b (Some r) (find (λ (r : Row). bytes_eq r.id id) rs)) false
    go true e = refl
    go false e = e

have_values-behind : (rs : List Row) (d : Row) → HaveValues rs → is_some (slice_get d.values 0) ≡ true → HaveValues (rs ++ d ∷ [])
have_values-behind [] d have some = (some, tt)
have_values-behind (r ∷ rs) d have some = (have.0, have_values-behind rs d have.1 some)

-- a row has a first value
first_there : (id : Text) (rs : List Row) → HaveValues rs → has_row id rs ≡ true → is_some (first_of id rs) ≡ true
first_there id [] have has = absurd (false≢true has)
first_there id (r ∷ rs) have has = go (bytes_eq r.id id) has (first_there id rs have.1)
  where
    go : (b : Bool) → (b || has_row id rs) ≡ true → (has_row id rs ≡ true → is_some (first_of id rs) ≡ true)
        → is_some (option_and_then (λ (r : Row). slice_get r.values 0) (cond b (Some r) (find (λ (r : Row). bytes_eq r.id id) rs))) ≡ true
    go true e more = have.0
    go false e more = more e

-- ---- the default value of an argument

abbrev pub default_for : Rule → Text → Option Text
default_for a id = if bytes_eq a.id id then slice_get a.defaults 0 else None

-- the rows with the default, where there is one
pub record IsDefaulted (rs : List Row) (a : Rule) (after : List Row) : Type 0 where
  pub values : HaveValues after
  pub valued : (id : Text) → first_of id after ≡ or_value (first_of id rs) (default_for a id)
  pub given : (id : Text) → is_given id after ≡ is_given id rs

abbrev none_if : Bool → Option Text
none_if b = if b then None else None

none_either : (b : Bool) → none_if b ≡ None
none_either true = refl
none_either false = refl

module _ (rs : List Row) (have : HaveValues rs) (a : Rule) where
  -- a row that is there stays
  there : has_row a.id rs ≡ true → IsDefaulted rs a rs
  there has = record { values = have; valued = λ id. first id (bytes_eq a.id id) refl; given = λ id. refl }
    where
      first : (id : Text) (b : Bool) → bytes_eq a.id id ≡ b → first_of id rs ≡ or_value (first_of id rs) (default_for a id)
      first id true e = kept (first_of id rs) (default_for a id) (subst (λ n. is_some (first_of n rs) ≡ true) ((bytes_eq-Decides a.id id).0 e) (first_there a.id rs have has))
      first id false e = sym (or_none (first_of id rs)) ∙ sym (ap (λ b. or_value (first_of id rs) (if b then slice_get a.defaults 0 else None)) e)

  -- there is no default
  nothing : a.defaults ≡ [] → IsDefaulted rs a rs
  nothing none = record {
    values = have;
    valued = λ id. sym (or_none (first_of id rs))
        ∙ sym (ap (or_value (first_of id rs)) (ap (λ (ds : List Text). if bytes_eq a.id id then slice_get ds 0 else None) none ∙ none_either (bytes_eq a.id id)));
    given = λ id. refl;
  }

  -- the default is put after
  put : (v : Text) (vs : List Text) → has_row a.id rs ≡ false → a.defaults ≡ v ∷ vs → IsDefaulted rs a (default_rows a.id (reading_by a) (v ∷ vs) rs)
  put v vs none is = subst (IsDefaulted rs a) (sym (row_added a.id (more_values DefaultValue (v ∷ vs)) (d ∷ []) rs none)) (record {
    values = have_values-behind rs d have refl;
    valued = λ id. first_of-behind id rs d have ∙ sym (ap (λ (ds : List Text). or_value (first_of id rs) (if bytes_eq a.id id then slice_get ds 0 else None)) is);
    given = λ id. is_given-behind id rs d refl;
  })
    where
      d : Row
      d = record { id = a.id; values = v ∷ vs; count = None; source = Some DefaultValue; reading = reading_by a }

  by_default : (has : Bool) (ds : List Text) → has_row a.id rs ≡ has → a.defaults ≡ ds → IsDefaulted rs a (cond has rs (default_rows a.id (reading_by a) ds rs))
  by_default true ds has is = there has
  by_default false [] none is = nothing is
  by_default false (v ∷ vs) none is = put v vs none is

  defaulted : IsDefaulted rs a (with_default rs a)
  defaulted = by_default (has_row a.id rs) a.defaults refl refl

-- ---- those of all arguments

abbrev pub default_in : Text → List Rule → Option Text
default_in id [] = None
default_in id (a ∷ rules) = or_value (default_for a id) (default_in id rules)

pub record AreDefaulted (rs : List Row) (rules : List Rule) (after : List Row) : Type 0 where
  pub valued : (id : Text) → first_of id after ≡ or_value (first_of id rs) (default_in id rules)
  pub given : (id : Text) → is_given id after ≡ is_given id rs

pub all_defaulted : (rules : List Rule) (rs : List Row) → HaveValues rs → AreDefaulted rs rules (fold with_default rs rules)
all_defaulted [] rs have = record { valued = λ id. sym (or_none (first_of id rs)); given = λ id. refl }
all_defaulted (a ∷ rules) rs have =
    let one = defaulted rs have a in
    let rest = all_defaulted rules (with_default rs a) one.values in
    record {
      valued = λ id. rest.valued id ∙ (ap (λ o. or_value o (default_in id rules)) (one.valued id) ∙ or_or (first_of id rs) (default_for a id) (default_in id rules));
      given = λ id. rest.given id ∙ one.given id;
    }

-- each default passes
abbrev pub DefaultsPass : List Rule → Type 0
DefaultsPass [] = Unit {0}
DefaultsPass (a ∷ rules) = (cond (is_empty a.defaults) [] (given_default_fault a a.defaults) ≡ []) × DefaultsPass rules

pub no_default_fault : (rules : List Rule) (rs : List Row) → DefaultsPass rules → defaults_fault rs rules ≡ []
unfolding defaults_fault
no_default_fault [] rs pass = refl
no_default_fault (a ∷ rules) rs pass =
    ap (λ k. or_else k (defaults_fault (with_default rs a) rules)) (passes (has_row a.id rs)) ∙ no_default_fault rules (with_default rs a) pass.1
  where
    passes : (b : Bool) → cond (b || is_empty a.defaults) [] (given_default_fault a a.defaults) ≡ []
    passes true = refl
    passes false = pass.0

-- what is required and wasn't given
abbrev pub is_missing : List Rule → List Given → Bool
is_missing rules given = list_any (λ a. a.required && not (is_some (value_of a.id given))) rules

pub missing_is : (rules : List Rule) (rs : List Row) (given : List Given) → ((id : Text) → is_given id rs ≡ is_some (value_of id given))
    → list_any (λ a. a.required && not (is_given a.id rs)) rules ≡ is_missing rules given
missing_is [] rs given same = refl
missing_is (a ∷ rules) rs given same = λ i. (a.required && not (same a.id i)) || missing_is rules rs given same i
