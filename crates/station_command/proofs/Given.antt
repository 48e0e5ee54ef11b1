-- What was given after a command, as the rows that clap keeps.
use Rattle.std.proofs.Common.{◌≡◌, ◌&&◌, ◌||◌, Bool, true, false, not, List, [], ◌∷◌, ◌++◌, Option, Some, None, is_some, if◌then◌else◌, refl, sym, ap, ◌∙◌, map, cond, find, slice_get}
use Rattle.std.specs.Prelude.{option_and_then}
use Rattle.std.proofs.lemmas.Bool.{true≢false}
use Rattle.std.proofs.lemmas.List.{append-nil, map-append}
use Rattle.std.specs.Option.{option_map_or}
use Rattle.std.specs.Str.{bytes_eq}
use Rattle.clap.specs.declared.builder.value_parser.Reading.TheVariants as reading
use Rattle.clap.specs.declared.error.kind.ErrorKind.TheVariants as kind
use Rattle.clap.specs.declared.parser.matches.ValueSource.TheVariants.{CommandLine}
use Rattle.clap.specs.Kinds.{Kinds, or_else}
use Rattle.clap.specs.Facts.{explicit_source}
use Rattle.clap.specs.Takes.{is_given}
use Rattle.clap.specs.Walk.{Row, Text, at_row, first_of, has_row, more_values, with_values, without}
use Rattle.station_command.proofs.WordsRead.{Fails}
use Rattle.station_command.specs.CommandWords.{Given, value_of, takes}
use Rattle.station_command.specs.Commands.{Argument}

-- ---- what was given, as rows

abbrev row : Given → Row
row one = record { id = one.0; values = one.1 ∷ []; count = None; source = Some CommandLine; reading = reading.AsWritten }

abbrev pub rows : List Given → List Row
rows given = map row given

pub has_row-rows : (id : Text) (given : List Given) → has_row id (rows given) ≡ is_some (value_of id given)
has_row-rows id [] = refl
has_row-rows id (one ∷ given) = go (bytes_eq one.0 id) (has_row-rows id given)
  where
    go : (b : Bool) → has_row id (rows given) ≡ is_some (value_of id given) → (b || has_row id (rows given)) ≡ is_some (if b then Some one.1 else value_of id given)
    go true e = refl
    go false e = e

pub is_given-rows : (id : Text) (given : List Given) → is_given id (rows given) ≡ is_some (value_of id given)
is_given-rows id [] = refl
is_given-rows id (one ∷ given) = go (bytes_eq one.0 id) (is_given-rows id given)
  where
    go : (b : Bool) → is_given id (rows given) ≡ is_some (value_of id given)
        → option_map_or (λ (r : Row). explicit_source r.source) (cond b (Some (row one)) (find (λ (r : Row). bytes_eq r.id id) (rows given))) false ≡ is_some (cond b (Some one.1) (value_of id given))
    go true e = refl
    go false e = e

pub first_of-rows : (id : Text) (given : List Given) → first_of id (rows given) ≡ value_of id given
first_of-rows id [] = refl
first_of-rows id (one ∷ given) = go (bytes_eq one.0 id) (first_of-rows id given)
  where
    go : (b : Bool) → first_of id (rows given) ≡ value_of id given
        → option_and_then (λ (r : Row). slice_get r.values 0) (cond b (Some (row one)) (find (λ (r : Row). bytes_eq r.id id) (rows given))) ≡ cond b (Some one.1) (value_of id given)
    go true e = refl
    go false e = e

-- a row is added where the name has none
pub row_added : (id : Text) (change : Row → List Row) (missing rs : List Row) → has_row id rs ≡ false → at_row id change missing rs ≡ rs ++ missing
row_added id change missing [] none = refl
row_added id change missing (r ∷ rs) none = go (bytes_eq r.id id) none (row_added id change missing rs)
  where
    go : (b : Bool) → (b || has_row id rs) ≡ false → (has_row id rs ≡ false → at_row id change missing rs ≡ rs ++ missing)
        → cond b (change r ++ rs) (r ∷ at_row id change missing rs) ≡ r ∷ (rs ++ missing)
    go true e more = absurd (true≢false e)
    go false e more = ap (λ rs. r ∷ rs) (more e)

pub added : (id : Text) (given : List Given) (text : Text) → is_some (value_of id given) ≡ false
    → with_values id reading.AsWritten CommandLine (text ∷ []) (without id (rows given)) ≡ rows (given ++ (id, text) ∷ [])
added id given text none =
    let no_row : has_row id (rows given) ≡ false = has_row-rows id given ∙ none in
    let kept : without id (rows given) ≡ rows given = row_added id (λ _. []) [] (rows given) no_row ∙ append-nil (rows given) in
    ap (with_values id reading.AsWritten CommandLine (text ∷ [])) kept ∙ row_added id (more_values CommandLine (text ∷ [])) (row (id, text) ∷ []) (rows given) no_row
    ∙ sym (map-append row given ((id, text) ∷ []))

-- ---- one more value

abbrev pub or_value : Option Text → Option Text → Option Text
or_value (Some text) other = Some text
or_value None other = other

pub value_of-more : (id : Text) (given : List Given) (one : Given) → value_of id (given ++ one ∷ []) ≡ or_value (value_of id given) (if bytes_eq one.0 id then Some one.1 else None)
value_of-more id [] one = refl
value_of-more id (first ∷ given) one = go (bytes_eq first.0 id) (value_of-more id given one)
  where
    go : (b : Bool) → value_of id (given ++ one ∷ []) ≡ or_value (value_of id given) (if bytes_eq one.0 id then Some one.1 else None)
        → cond b (Some first.1) (value_of id (given ++ one ∷ [])) ≡ or_value (cond b (Some first.1) (value_of id given)) (if bytes_eq one.0 id then Some one.1 else None)
    go true e = refl
    go false e = e

pub or_none : (o : Option Text) → or_value o None ≡ o
or_none (Some text) = refl
or_none None = refl

pub or_or : (a b c : Option Text) → or_value (or_value a b) c ≡ or_value a (or_value b c)
or_or (Some text) b c = refl
or_or None b c = refl

-- the name may have one more value
abbrev pub may_have : List Argument → List Given → Text → Text → Bool
may_have usage given id text = not (is_some (value_of id given)) && takes usage id text

pub not_some : (b : Bool) → not b ≡ true → b ≡ false
not_some true e = absurd (true≢false (sym e))
not_some false e = refl

-- what one use fails by, where the argument has a value or not, and takes this one or not
abbrev pub kinds_of : Bool → Bool → Kinds
kinds_of has fits = or_else (if has && not false then kind.ArgumentConflict ∷ [] else []) (or_else (if fits then [] else kind.ValueValidation ∷ []) [])

pub kinds_pass : (has fits : Bool) → (not has && fits) ≡ true → kinds_of has fits ≡ []
kinds_pass true fits e = absurd (true≢false (sym e))
kinds_pass false true e = refl
kinds_pass false false e = absurd (true≢false (sym e))

pub kinds_fail : (has fits : Bool) → (not has && fits) ≡ false → Fails (kinds_of has fits)
kinds_fail true fits e = tt
kinds_fail false true e = absurd (true≢false e)
kinds_fail false false e = tt
