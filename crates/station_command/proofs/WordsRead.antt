-- How words are parted into flags and values.
use Rattle.std.proofs.Common.{◌≡◌, ℕ, zero, suc, ◌&&◌, ◌==◌, Bool, true, false, not, List, [], ◌∷◌, length, Option, Some, None, refl, inl, inr, ◌⊎◌, sym, ap, subst, codes, slice_get, nat_eq, drop, rules}
use Rattle.std.proofs.lemmas.Bool.{eqb-true, false≢true, true≢false}
use Rattle.std.proofs.lemmas.Slice.Eq.{bytes_eq-Decides}
use Rattle.std.specs.Str.{bytes_eq, chars}
use Rattle.std.specs.Char.{encode_utf8}
use Rattle.clap.specs.Kinds.{Kinds, or_else}
use Rattle.clap.specs.Faults.{bundle_step_fault, flag_word_fault, flags_fault, long_fault, short_fault}
use Rattle.clap.specs.Lexer.{long_of, name_and_value}
use Rattle.clap.specs.Simple.{Shape, built}
use Rattle.clap.specs.Walk.{bundle_met, Held, Rule, Row, Text, Walk, Waiting, plain_word, arg_by_long, arg_by_short, idle, long_or_other}
use Rattle.station_command.specs.CommandWords.{is_flag, ends_flags}
use Rattle.station_command.specs.Line.{station_line}

-- there is a fault
abbrev pub Fails : Kinds → Type 0
Fails [] = ⊥
Fails (k ∷ ks) = Unit {0}

pub first_fails : (a b : Kinds) → Fails a → Fails (or_else a b)
first_fails [] b h = absurd h
first_fails (k ∷ ks) b h = h

pub next_fails : (a b : Kinds) → Fails b → Fails (or_else a b)
next_fails [] b h = h
next_fails (k ∷ ks) b h = tt

pub both : (a b : Bool) → (a && b) ≡ true → (a ≡ true) × (b ≡ true)
both true b e = (refl, e)
both false b e = absurd (true≢false (sym e))

abbrev pub top : Shape
top = (built station_line).top

-- a subcommand by its place
abbrev pub nth_or : Shape → ℕ → List Shape → Shape
nth_or s n [] = s
nth_or s zero (x ∷ xs) = x
nth_or s (suc n) (x ∷ xs) = nth_or s n xs

-- what is held at a level: the rows so far, and the argument whose values are read
abbrev pub Pending : Type 0
Pending = Option (Text × List Text)

abbrev pub held : List Row → Pending → Held
held rows pending = record { rows = rows; pending = pending; skip = 0 }

-- where a level stands between two words
abbrev pub at : List Row → Pending → ℕ → Walk
at rows pending place = record { held = held rows pending; waiting = idle; position = place; is_trailing = false; stopped = None }

no_character : (cs : Text) → not (length cs == 0) ≡ false → cs ≡ []
no_character [] e = refl
no_character (c ∷ cs) e = search rules

abbrev has_some : Text → Bool
has_some [] = false
has_some (c ∷ cs) = true

-- a hyphen is a character
no_hyphen : (ys : Text) → chars (45 ∷ ys) ≡ [] → ⊥
unfolding chars
no_hyphen [] e = false≢true (sym (ap has_some e))
no_hyphen (y ∷ ys) e = false≢true (sym (ap has_some e))

module _ (rows : List Row) (pending : Pending) (rules : List Rule) where
  -- a word that is no flag passes, and is left for a value
  abbrev pub IsValue : Waiting → Text → Type 0
  IsValue waiting word = (flag_word_fault rules false (long_of word) word (held rows pending) ≡ [])
      × (long_or_other rules waiting word (long_of word) (held rows pending) ≡ plain_word rules waiting word (held rows pending))

  -- A flag is a long one, or it fails.
  abbrev pub IsLongOrFails : Text → Type 0
  IsLongOrFails word = ((flag : Text × Option Text) × (long_of word ≡ Some flag)) ⊎ Fails (flag_word_fault rules false (long_of word) word (held rows pending))

  -- this is so where each short one fails
  module _ (short_fails : (x : ℕ) (rest : Text) (next : Held → Kinds) → Fails (short_fault rules false (arg_by_short rules x) rest (held rows pending) next)) where
    bundle_fails : (flags cs : Text) → not (length cs == 0) ≡ true → (next : Text → ℕ → Held → Kinds) → Fails (bundle_step_fault rules false (slice_get cs 0) flags 0 (held rows pending) next)
    bundle_fails flags [] some next = absurd (false≢true some)
    bundle_fails flags (x ∷ cs) some next = short_fails x (drop (length (encode_utf8 x)) flags) (next (drop (length (encode_utf8 x)) flags) 0)

    hyphen_fails : (y : ℕ) (ys : Text) (is_hyphen : Bool) → nat_eq y 45 ≡ is_hyphen → bytes_eq (45 ∷ y ∷ ys) (codes "--") ≡ false → not (length (chars (y ∷ ys)) == 0) ≡ true
        → IsLongOrFails (45 ∷ y ∷ ys)
    unfolding flags_fault
    hyphen_fails y [] true e ends some = absurd (true≢false (rw e at ends))
    hyphen_fails y (z ∷ zs) true e ends some = inl (name_and_value (z ∷ zs), rw e refl)
    hyphen_fails y ys false e ends some = inr (rw e (rw e (bundle_fails (y ∷ ys) (chars (y ∷ ys)) some (flags_fault rules false (length ys)))))

    flag_fails : (xs : Text) → ends_flags (45 ∷ xs) ≡ false → not (length (chars xs) == 0) ≡ true → IsLongOrFails (45 ∷ xs)
    unfolding chars
    flag_fails [] ends some = absurd (false≢true some)
    flag_fails (y ∷ ys) ends some = hyphen_fails y ys (nat_eq y 45) refl ends some

    pub is_long_or_fails : (word : Text) → ends_flags word ≡ false → is_flag word ≡ true → IsLongOrFails word
    is_long_or_fails [] ends flag = absurd (false≢true flag)
    is_long_or_fails (x ∷ xs) ends flag =
        let parts = both (x == 45) (not (length (chars xs) == 0)) flag in
        subst (λ b. ends_flags (b ∷ xs) ≡ false → IsLongOrFails (b ∷ xs)) (sym (eqb-true x 45 parts.0)) (λ e. flag_fails xs e parts.1) ends

    -- a flag fails where each long one fails too
    pub word_fails : ((name : Text) (v : Option Text) → Fails (long_fault rules false (arg_by_long rules name) v (held rows pending)))
        → (word : Text) → ends_flags word ≡ false → is_flag word ≡ true → Fails (flag_word_fault rules false (long_of word) word (held rows pending))
    word_fails long_fails word ends flag = elim (is_long_or_fails word ends flag) [
      | inl long ↦ subst (λ o. Fails (flag_word_fault rules false o word (held rows pending))) (sym long.1) (long_fails long.0.0 long.0.1)
      | inr fails ↦ fails
    ]

  module _ (waiting : Waiting) where
    hyphen_passes : (y : ℕ) (ys : Text) (is_hyphen : Bool) → nat_eq y 45 ≡ is_hyphen → chars (y ∷ ys) ≡ [] → IsValue waiting (45 ∷ y ∷ ys)
    unfolding flags_fault bundle_met
    hyphen_passes y ys true e none = absurd (no_hyphen ys (subst (λ b. chars (b ∷ ys) ≡ []) (eqb-true y 45 e) none))
    hyphen_passes y ys false e none = (rw e (rw e (rw none refl)), rw e (rw e (rw none refl)))

    other_passes : (x : ℕ) (xs : Text) → nat_eq x 45 ≡ false → IsValue waiting (x ∷ xs)
    other_passes x xs e = (rw e (rw e refl), rw e (rw e refl))

    pub word_passes : (word : Text) → is_flag word ≡ false → IsValue waiting word
    word_passes [] flag = (refl, refl)
    word_passes (x ∷ xs) flag = by_first x xs (nat_eq x 45) refl flag
      where
        by_first : (x : ℕ) (xs : Text) (is_hyphen : Bool) → nat_eq x 45 ≡ is_hyphen → is_flag (x ∷ xs) ≡ false → IsValue waiting (x ∷ xs)
        by_first x xs false e flag = other_passes x xs e
        by_first x [] true e flag = subst (λ b. IsValue waiting (b ∷ [])) (sym (eqb-true x 45 e)) (refl, refl)
        by_first x (y ∷ ys) true e flag = subst (λ b. IsValue waiting (b ∷ y ∷ ys)) (sym (eqb-true x 45 e))
            (hyphen_passes y ys (nat_eq y 45) refl (no_character (chars (y ∷ ys)) (rw e at flag)))

pub is_ends : (word : Text) → ends_flags word ≡ true → word ≡ codes "--"
is_ends word ends = (bytes_eq-Decides word (codes "--")).0 ends

pub fails_within : (k x y z : Kinds) → Fails k → Fails (or_else (or_else (or_else k x) y) z)
fails_within [] x y z h = absurd h
fails_within (k ∷ ks) x y z h = tt

-- `--` is a flag by its letters
pub ends_is_flag : (a : Text) → ends_flags a ≡ true → is_flag a ≡ true
unfolding chars
ends_is_flag a e = subst (λ w. is_flag w ≡ true) (sym (is_ends a e)) refl
