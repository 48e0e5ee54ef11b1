-- How the words after a command are read: as its usage says.
use Rattle.std.proofs.Common.{◌≡◌, ◌&&◌, ◌||◌, ℕ, suc, Bool, true, false, not, List, [], ◌∷◌, ◌++◌, Option, Some, None, is_some, if◌then◌else◌, refl, inl, inr, ◌⊎◌, sym, ap, subst, ◌∙◌, codes, fold, nat_lt, nat_eq}
use Rattle.std.specs.Prelude.{option_and_then}
use Rattle.std.proofs.lemmas.Bool.{true≢false}
use Rattle.std.proofs.lemmas.Slice.Eq.{bytes_eq-Decides}
use Rattle.std.specs.Option.{option_map, option_map_or, unwrap_or}
use Rattle.std.specs.Str.{bytes_eq}
use Rattle.clap.specs.declared.error.kind.ErrorKind.TheVariants as kind
use Rattle.clap.specs.Kinds.{Kinds, check_kinds, or_else}
use Rattle.clap.specs.Faults.{check_fault, defaults_fault, flag_word_fault, level_fault, long_fault, option_fault, positional_fault, react_fault, settle_fault, step_fault, stray_fault, turn_fault, use_fault, walk_fault}
use Rattle.clap.specs.Lexer.{long_of}
use Rattle.clap.specs.Simple.{Shape}
use Rattle.clap.specs.Takes.{is_given}
use Rattle.clap.specs.Walk.{Held, Outcome, Row, Rule, Step, Text, Waiting, Walk, after_flag, after_step, arg_by_id, arg_by_index, arg_by_long, finished, first_of, flag_met, idle, is_pending, long_met, long_or_other, long_word, next, nothing_held, option, option_met, option_word, plain_word, positional, positional_held, pushed, rows_after, settled, settled_rows, takes_values, to_positional, trailing, used, used_by_id, value, walked, with_default}
use Rattle.station_command.proofs.Defaults.{all_defaulted, default_in, is_missing, missing_is, no_default_fault, rows_have_values}
use Rattle.station_command.proofs.Given.{added, first_of-rows, has_row-rows, is_given-rows, kinds_fail, kinds_of, kinds_pass, may_have, not_some, or_value, rows, value_of-more}
use Rattle.station_command.proofs.Rules.{FileAt, IsLine, IsNamed, IsOption, IsSwitch, NamesNeither, NoFileAt, TakesOne, leaf, left_of, position_of}
use Rattle.station_command.proofs.WordsRead.{Fails, Pending, both, ends_is_flag, first_fails, held, is_ends, is_long_or_fails, word_fails, word_passes}
use Rattle.station_command.specs.Commands.{Argument}
use Rattle.station_command.specs.CommandWords.{Before, Behind, Between, Given, Place, ends_flags, file_read, flag_of, flag_read, given_at, given_in, is_flag, takes, value_of, with_value, word_read, words_read}

-- ---- what is held between two words

abbrev pub Part : Type 0
Part = Option (Rule × Text)

abbrev pend : Part → Pending
pend None = None
pend (Some p) = Some (p.0.id, p.1 ∷ [])

-- all that was given, with what isn't used yet
abbrev all : List Given → Part → List Given
all given None = given
all given (Some p) = given ++ (p.0.id, p.1) ∷ []

abbrev hold : List Given → Part → Held
hold given p = held (rows given) (pend p)

abbrev walk_with : Held → Waiting → ℕ → Bool → Walk
walk_with h waiting position last = record { held = h; waiting = waiting; position = position; is_trailing = last; stopped = None }

abbrev walk_at : Held → Waiting → ℕ → Bool → Walk
walk_at h waiting n last = walk_with h waiting (position_of n) last

-- where both stand: between two words, before the value of an option, or after `--`
data Stand : Type 0 where
  between : List Given → ℕ → Part → Stand
  before : List Given → ℕ → Rule → Stand
  behind : List Given → ℕ → Part → Stand

abbrev walk_of : Stand → Walk
walk_of (between given n p) = walk_at (hold given p) idle n false
walk_of (before given n a) = walk_at (held (rows given) (Some (a.id, []))) (option a.id) n false
walk_of (behind given n p) = walk_at (hold given p) idle n true

-- each value that was given is one that its name takes
abbrev pub Taken : List Argument → List Given → Type 0
Taken usage given = (id text : Text) → value_of id given ≡ Some text → takes usage id text ≡ true

some≢none : (text : Text) → Some text ≡ None → ⊥
some≢none text e = true≢false (ap (λ (o : Option Text). is_some o) e)

some_injective : (a b : Text) → Some a ≡ Some b → a ≡ b
some_injective a b e = ap (λ (o : Option Text). unwrap_or o a) e

taken_more : (usage : List Argument) (id : Text) (given : List Given) (text : Text) → Taken usage given → takes usage id text ≡ true → Taken usage (given ++ (id, text) ∷ [])
taken_more usage id given text taken takes_it n t is = go (value_of n given) refl (bytes_eq id n) refl (sym (value_of-more n given (id, text)) ∙ is)
  where
    go : (o : Option Text) → value_of n given ≡ o → (b : Bool) → bytes_eq id n ≡ b → or_value o (if b then Some text else None) ≡ Some t → takes usage n t ≡ true
    go (Some old) had b e is = taken n t (had ∙ is)
    go None had true e is = subst (λ m. takes usage m t ≡ true) ((bytes_eq-Decides id n).0 e) (subst (λ v. takes usage id v ≡ true) (some_injective text t is) takes_it)
    go None had false e is = absurd (some≢none t (sym is))

-- what was read, with the files that are still to come
abbrev with_left : List Text → Option (List Given) → Option (List Given × List Text)
with_left files o = option_map (λ more. (more, files)) o

abbrev waiting_by : Held → Text → ℕ → ℕ → Held × Waiting
waiting_by h id count most = (h, if nat_lt count most then option id else idle)

-- what is missing at the end
abbrev pub missing_kinds : List Rule → List Given → Kinds
missing_kinds rules given = check_kinds false false (is_missing rules given)

-- What is found by words that are read: the values that were given, and otherwise the defaults.
pub record AreFound (usage : List Argument) (rules : List Rule) (given : List Given) (found : List Row) : Type 0 where
  pub taken : Taken usage given
  pub values : (id : Text) → first_of id found ≡ or_value (value_of id given) (default_in id rules)

-- what a command fails by
abbrev pub line_fault : Text → List Rule → List Text → Kinds
line_fault name rules words = level_fault (leaf name rules) [] nothing_held words false []

-- what its words are read as
abbrev pub LineReads : Text → List Argument → List Rule → List Text → Type 0
LineReads name usage rules words = ((given : List Given) × ((given_in usage words ≡ Some given) × ((line_fault name rules words ≡ missing_kinds rules given) × AreFound usage rules given (rows_after rules [] words))))
    ⊎ ((given_in usage words ≡ None) × Fails (line_fault name rules words))

module _ (name : Text) (usage : List Argument) (rules : List Rule) (line : IsLine usage rules) where
  abbrev s : Shape
  s = leaf name rules

  abbrev left : ℕ → List Text
  left n = left_of usage n

  abbrev read_at : Stand → Place
  read_at (between given n p) = Between (all given p) (left n)
  read_at (before given n a) = Before given (left n) a.id
  read_at (behind given n p) = Behind (all given p) (left n)

  abbrev Allowed : List Given → Part → Type 0
  Allowed given None = Unit {0}
  Allowed given (Some p) = TakesOne usage rules p.0 × (may_have usage given p.0.id p.1 ≡ true)

  abbrev Stands : Stand → Type 0
  Stands (between given n p) = Taken usage given × Allowed given p
  Stands (before given n a) = Taken usage given × IsOption usage rules a
  Stands (behind given n p) = Taken usage given × Allowed given p

  abbrev end_fault : Held → Kinds
  end_fault h = or_else (settle_fault rules false h) (or_else (defaults_fault (settled rules h).rows rules) (check_fault s (finished rules h) false))

  abbrev fault_from : Walk → List Text → Kinds
  fault_from w words = or_else (walk_fault s [] w words) (end_fault (fold (walked rules []) w words).held)

  abbrev rows_from : Walk → List Text → List Row
  rows_from w words = finished rules (fold (walked rules []) w words).held

  -- a word leads both on, or fails for both
  abbrev LeadsTo : Stand → Text → Stand → Type 0
  LeadsTo stand word onward = Stands onward × ((word_read usage (read_at stand) word ≡ Some (read_at onward))
      × ((turn_fault s [] (walk_of stand) word ≡ []) × (walked rules [] (walk_of stand) word ≡ walk_of onward)))

  abbrev LeadsNowhere : Stand → Text → Type 0
  LeadsNowhere stand word = (word_read usage (read_at stand) word ≡ None) × ((more : List Text) → Fails (fault_from (walk_of stand) (word ∷ more)))

  abbrev Leads : Stand → Text → Type 0
  Leads stand word = ((onward : Stand) × LeadsTo stand word onward) ⊎ LeadsNowhere stand word

  -- ---- steps of the walk

  module _ (w onward : Walk) (word : Text) (passes : turn_fault s [] w word ≡ []) (steps : walked rules [] w word ≡ onward) (more : List Text) where
    fault_leads : fault_from w (word ∷ more) ≡ fault_from onward more
    unfolding walk_fault
    fault_leads =
        let stepped = walked rules [] w word in
        ap (λ k. or_else (or_else k (walk_fault s [] stepped more)) (end_fault (fold (walked rules []) stepped more).held)) passes
        ∙ ap (λ v. fault_from v more) steps

    rows_lead : rows_from w (word ∷ more) ≡ rows_from onward more
    rows_lead = ap (λ v. rows_from v more) steps

  -- a word fails
  turn_fails : (w : Walk) (word : Text) (more : List Text) → Fails (turn_fault s [] w word) → Fails (fault_from w (word ∷ more))
  unfolding walk_fault
  turn_fails w word more fails =
      first_fails (or_else (turn_fault s [] w word) (walk_fault s [] (walked rules [] w word) more)) _ (first_fails (turn_fault s [] w word) _ fails)

  -- the end comes
  end_is : (w : Walk) → fault_from w [] ≡ end_fault w.held
  unfolding walk_fault
  end_is w = refl

  -- ---- an argument that takes one value

  module _ (a : Rule) (one : TakesOne usage rules a) where
    settle_is : (texts : List Text) (rs : List Row) → settle_fault rules false (held rs (Some (a.id, texts))) ≡ use_fault false a texts rs
    settle_is texts rs = ap (λ o. option_map_or (λ (b : Rule). use_fault false b texts rs) o []) one.found

    settled_is : (texts : List Text) (rs : List Row) → settled_rows rules (Some (a.id, texts)) rs ≡ used a texts rs
    settled_is texts rs = ap (λ o. used_by_id o texts rs) one.found

    use_is : (given : List Given) (text : Text) → use_fault false a (text ∷ []) (rows given) ≡ kinds_of (is_some (value_of a.id given)) (takes usage a.id text)
    use_is given text = one.fault text (rows given) ∙ ap (λ has. kinds_of has (takes usage a.id text)) (has_row-rows a.id given)

    use_passes : (given : List Given) (text : Text) → may_have usage given a.id text ≡ true → use_fault false a (text ∷ []) (rows given) ≡ []
    use_passes given text may = use_is given text ∙ kinds_pass (is_some (value_of a.id given)) (takes usage a.id text) may

    use_fails : (given : List Given) (text : Text) → may_have usage given a.id text ≡ false → Fails (use_fault false a (text ∷ []) (rows given))
    use_fails given text may = subst Fails (sym (use_is given text)) (kinds_fail (is_some (value_of a.id given)) (takes usage a.id text) may)

    used_is : (given : List Given) (text : Text) → may_have usage given a.id text ≡ true → used a (text ∷ []) (rows given) ≡ rows (given ++ (a.id, text) ∷ [])
    used_is given text may = one.leaves text (rows given) ∙ added a.id given text (not_some _ (both _ (takes usage a.id text) may).0)

    takes_value : takes_values a ≡ true
    takes_value = ap (λ n. not (nat_eq n 0)) one.most

    positional_fault_is : (h : Held) → positional_fault rules false a h ≡ settle_fault rules false h
    positional_fault_is h = ap (λ b. if is_pending a h.pending && b then [] else settle_fault rules false h) one.alone ∙ go (is_pending a h.pending)
      where
        go : (b : Bool) → (if b && false then [] else settle_fault rules false h) ≡ settle_fault rules false h
        go true = refl
        go false = refl

    positional_held_is : (word : Text) (h : Held) → positional_held rules a word h ≡ pushed a.id word (settled rules h)
    positional_held_is word h = ap (λ b. pushed a.id word (if is_pending a h.pending && b then h else settled rules h)) one.alone ∙ go (is_pending a h.pending)
      where
        go : (b : Bool) → pushed a.id word (if b && false then h else settled rules h) ≡ pushed a.id word (settled rules h)
        go true = refl
        go false = refl

  -- what isn't used yet can be used
  settle_passes : (given : List Given) (p : Part) → Allowed given p → settle_fault rules false (hold given p) ≡ []
  settle_passes given None allowed = refl
  settle_passes given (Some p) allowed = settle_is p.0 allowed.0 (p.1 ∷ []) (rows given) ∙ use_passes p.0 allowed.0 given p.1 allowed.1

  settle_rows : (given : List Given) (p : Part) → Allowed given p → settled_rows rules (pend p) (rows given) ≡ rows (all given p)
  settle_rows given None allowed = refl
  settle_rows given (Some p) allowed = settled_is p.0 allowed.0 (p.1 ∷ []) (rows given) ∙ used_is p.0 allowed.0 given p.1 allowed.1

  taken_all : (given : List Given) (p : Part) → Taken usage given → Allowed given p → Taken usage (all given p)
  taken_all given None taken allowed = taken
  taken_all given (Some p) taken allowed = taken_more usage p.0.id given p.1 taken (both _ (takes usage p.0.id p.1) allowed.1).1

  -- ---- where a value that is held can't be used

  long_bad : (a : Option Rule) (text : Option Text) (h : Held) → Fails (settle_fault rules false h) → Fails (long_fault rules false a text h)
  long_bad None text h bad = tt
  long_bad (Some a) text h bad = go (takes_values a) text
    where
      go : (b : Bool) (text : Option Text) → Fails (if b then option_fault rules false a text h else (if is_some text then kind.TooManyValues ∷ [] else react_fault rules false a [] h))
      go true None = bad
      go true (Some text) = first_fails (settle_fault rules false h) _ bad
      go false None = first_fails (settle_fault rules false h) _ bad
      go false (Some text) = tt

  -- the place of a file
  place_is : (n : ℕ) (a : Rule) → FileAt usage rules n a → (h : Held) → step_fault s (position_of n) h value ≡ settle_fault rules false h
  place_is n a file h = ap (λ o. option_map_or (λ (b : Rule). positional_fault rules false b h) o (stray_fault s)) file.found ∙ positional_fault_is a file.one h

  no_place_fails : (n : ℕ) → NoFileAt usage rules n → (h : Held) → Fails (step_fault s (position_of n) h value)
  no_place_fails n none h = subst (λ o. Fails (option_map_or (λ (b : Rule). positional_fault rules false b h) o (stray_fault s))) (sym none.0) tt

  module _ (rs : List Row) (pending : Pending) (bad : Fails (settle_fault rules false (held rs pending))) where
    abbrev stuck : Held
    stuck = held rs pending

    value_bad : (n : ℕ) → Fails (step_fault s (position_of n) stuck value)
    value_bad n = elim (line.file n) [
      | inl file ↦ subst Fails (sym (place_is n file.0 file.1 stuck)) bad
      | inr none ↦ no_place_fails n none stuck
    ]

    last_bad : (waiting : Waiting) (n : ℕ) (more : List Text) → Fails (fault_from (walk_at stuck waiting n true) more)
    last_bad waiting n [] = subst Fails (sym (end_is (walk_at stuck waiting n true))) (first_fails (settle_fault rules false stuck) _ bad)
    last_bad waiting n (word ∷ more) = turn_fails (walk_at stuck waiting n true) word more (value_bad n)

    flag_bad : (word : Text) → ends_flags word ≡ false → is_flag word ≡ true → Fails (flag_word_fault rules false (long_of word) word stuck)
    flag_bad = word_fails rs pending rules (λ x rest onward. line.short x rest stuck onward) (λ name text. long_bad (arg_by_long rules name) text stuck bad)

    -- where nothing waits for a value
    idle_bad : (n : ℕ) (words : List Text) → Fails (fault_from (walk_at stuck idle n false) words)
    unfolding walked
    idle_bad n [] = subst Fails (sym (end_is (walk_at stuck idle n false))) (first_fails (settle_fault rules false stuck) _ bad)
    idle_bad n (word ∷ more) = go (ends_flags word) (is_flag word) refl refl
      where
        ends_bad : Fails (fault_from (walk_at stuck idle n false) (codes "--" ∷ more))
        ends_bad = subst Fails (sym (fault_leads (walk_at stuck idle n false) (walk_at stuck idle n true) (codes "--") refl refl more)) (last_bad idle n more)

        go : (ends flag : Bool) → ends_flags word ≡ ends → is_flag word ≡ flag → Fails (fault_from (walk_at stuck idle n false) (word ∷ more))
        go true flag e h = subst (λ w. Fails (fault_from (walk_at stuck idle n false) (w ∷ more))) (sym (is_ends word e)) ends_bad
        go false true e h = turn_fails (walk_at stuck idle n false) word more (rw e (first_fails (flag_word_fault rules false (long_of word) word stuck) _ (flag_bad word e h)))
        go false false e h =
            let value_is = word_passes rs pending rules idle word h in
            turn_fails (walk_at stuck idle n false) word more (rw e (rw value_is.0 (rw value_is.1 (value_bad n))))

    stuck_bad : (n : ℕ) (last : Bool) (words : List Text) → Fails (fault_from (walk_at stuck idle n last) words)
    stuck_bad n true words = last_bad idle n words
    stuck_bad n false words = idle_bad n words

    -- where an option waits for its value, and gets none
    waiting_ends_bad : (id : Text) (n : ℕ) (more : List Text) → Fails (fault_from (walk_at stuck (option id) n false) (codes "--" ∷ more))
    unfolding walked
    waiting_ends_bad id n more =
        subst Fails (sym (fault_leads (walk_at stuck (option id) n false) (walk_at stuck (option id) n true) (codes "--") refl refl more)) (last_bad (option id) n more)

    waiting_flag_bad : (id : Text) (n : ℕ) (word : Text) (more : List Text) (ends : Bool) → ends_flags word ≡ ends → is_flag word ≡ true
        → Fails (fault_from (walk_at stuck (option id) n false) (word ∷ more))
    waiting_flag_bad id n word more true e h = subst (λ w. Fails (fault_from (walk_at stuck (option id) n false) (w ∷ more))) (sym (is_ends word e)) (waiting_ends_bad id n more)
    waiting_flag_bad id n word more false e h =
        turn_fails (walk_at stuck (option id) n false) word more (rw e (first_fails (flag_word_fault rules false (long_of word) word stuck) _ (flag_bad word e h)))

    waiting_end_bad : (id : Text) (n : ℕ) → Fails (fault_from (walk_at stuck (option id) n false) [])
    waiting_end_bad id n = subst Fails (sym (end_is (walk_at stuck (option id) n false))) (first_fails (settle_fault rules false stuck) _ bad)

  -- an option without a value can't be used
  no_value : (a : Rule) → TakesOne usage rules a → (given : List Given) → Fails (settle_fault rules false (held (rows given) (Some (a.id, []))))
  no_value a one given = subst Fails (sym (settle_is a one [] (rows given))) (one.empty (rows given))

  -- ---- a word that is a file

  module _ (given : List Given) (n : ℕ) (p : Part) (taken : Taken usage given) (allowed : Allowed given p) (word : Text) where
    -- the walk when a word was put at the place of a file
    abbrev placed : Bool → Walk
    placed last = to_positional rules (arg_by_index rules (position_of n)) word (walk_at (hold given p) idle n last) (hold given p)

    abbrev filed : Rule → Held
    filed a = held (rows (all given p)) (Some (a.id, word ∷ []))

    module _ (a : Rule) (file : FileAt usage rules n a) where
      held_is : positional_held rules a word (hold given p) ≡ filed a
      held_is = positional_held_is a file.one word (hold given p) ∙ ap (λ rs. held rs (Some (a.id, word ∷ []))) (settle_rows given p allowed)

      file_passes : step_fault s (position_of n) (hold given p) value ≡ []
      file_passes = place_is n a file (hold given p) ∙ settle_passes given p allowed

      still : (last : Bool) → (last || a.trailing_var_arg) ≡ last
      still true = refl
      still false = file.one.further

      placed_is : (last : Bool) → placed last ≡ walk_at (filed a) idle (suc n) last
      placed_is last = ap (λ o. to_positional rules o word (walk_at (hold given p) idle n last) (hold given p)) file.found
          ∙ (λ i. walk_with (held_is i) (if file.one.once i then positional else idle) (file.steps i) (still last i))

      file_read_is : file_read usage (all given p) (left n) word ≡ with_left (left (suc n)) (with_value usage (all given p) a.id word)
      file_read_is = ap (λ files. file_read usage (all given p) files word) file.left

      may_read : (may : Bool) → may_have usage (all given p) a.id word ≡ may
          → file_read usage (all given p) (left n) word ≡ with_left (left (suc n)) (if may then Some (all given p ++ (a.id, word) ∷ []) else None)
      may_read may e = file_read_is ∙ ap (λ b. with_left (left (suc n)) (if b then Some (all given p ++ (a.id, word) ∷ []) else None)) e

    -- what becomes of the word
    abbrev IsFiled : Type 0
    IsFiled = (a : Rule) × (FileAt usage rules n a × (may_have usage (all given p) a.id word ≡ true))

    abbrev IsNotFiled : Type 0
    IsNotFiled = (file_read usage (all given p) (left n) word ≡ None)
        × ((w : Walk) (last : Bool) (more : List Text) → turn_fault s [] w word ≡ step_fault s (position_of n) (hold given p) value → walked rules [] w word ≡ placed last → Fails (fault_from w (word ∷ more)))

    no_file : NoFileAt usage rules n → IsNotFiled
    no_file none = (
      ap (λ files. file_read usage (all given p) files word) none.1,
      λ w last more turn walk. turn_fails w word more (subst Fails (sym turn) (no_place_fails n none (hold given p))),
    )

    file_refused : (a : Rule) → FileAt usage rules n a → may_have usage (all given p) a.id word ≡ false → IsNotFiled
    file_refused a file may = (
      may_read a file false may,
      λ w last more turn walk. subst Fails (sym (fault_leads w (walk_at (filed a) idle (suc n) last) word (turn ∙ file_passes a file) (walk ∙ placed_is a file last) more))
          (stuck_bad (rows (all given p)) (Some (a.id, word ∷ [])) (subst Fails (sym (settle_is a file.one (word ∷ []) (rows (all given p)))) (use_fails a file.one (all given p) word may)) (suc n) last more),
    )

    filing : IsFiled ⊎ IsNotFiled
    filing = elim (line.file n) [
      | inl file ↦ by_may file.0 file.1 (may_have usage (all given p) file.0.id word) refl
      | inr none ↦ inr (no_file none)
    ]
      where
        by_may : (a : Rule) → FileAt usage rules n a → (may : Bool) → may_have usage (all given p) a.id word ≡ may → IsFiled ⊎ IsNotFiled
        by_may a file true may = inl (a, (file, may))
        by_may a file false may = inr (file_refused a file may)

    filed_stands : (a : Rule) → FileAt usage rules n a → may_have usage (all given p) a.id word ≡ true → Taken usage (all given p) × Allowed (all given p) (Some (a, word))
    filed_stands a file may = (taken_all given p taken allowed, (file.one, may))

    -- where no flag comes any more
    behind_leads : Leads (behind given n p) word
    unfolding walked
    behind_leads = elim filing [
      | inl f ↦ inl (
        behind (all given p) (suc n) (Some (f.0, word)),
        (
          filed_stands f.0 f.1.0 f.1.1,
          (
            ap (option_map (λ (more : List Given × List Text). Behind more.0 more.1)) (may_read f.0 f.1.0 true f.1.1),
            (file_passes f.0 f.1.0, placed_is f.0 f.1.0 true),
          ),
        ),
      )
      | inr f ↦ inr (ap (option_map (λ (more : List Given × List Text). Behind more.0 more.1)) f.0, λ more. f.1 (walk_of (behind given n p)) true more refl refl)
    ]

    -- between two words, a word that is no flag
    abbrev here : Walk
    here = walk_of (between given n p)

    abbrev met_by : Bool → Held × Step → Held × Step
    met_by ends met = if ends then (hold given p, trailing (position_of n)) else met

    abbrev read_by : Bool → Bool → Option (Text × Option Text) → Option Place
    read_by ends flag long = if ends then Some (Behind (all given p) (left n))
        else (if flag then option_and_then (λ (f : Text × Option Text). flag_read usage (all given p) (left n) f.0 f.1 (flag_of usage f.0)) long
        else option_map (λ (more : List Given × List Text). Between more.0 more.1) (file_read usage (all given p) (left n) word))

    value_leads : ends_flags word ≡ false → is_flag word ≡ false → Leads (between given n p) word
    unfolding walked
    value_leads ends flag = elim filing [
      | inl f ↦ inl (
        between (all given p) (suc n) (Some (f.0, word)),
        (
          filed_stands f.0 f.1.0 f.1.1,
          (
            read ∙ ap (option_map (λ (more : List Given × List Text). Between more.0 more.1)) (may_read f.0 f.1.0 true f.1.1),
            (turn ∙ file_passes f.0 f.1.0, walk ∙ placed_is f.0 f.1.0 false),
          ),
        ),
      )
      | inr f ↦ inr (read ∙ ap (option_map (λ (more : List Given × List Text). Between more.0 more.1)) f.0, λ more. f.1 here false more turn walk)
    ]
      where
        passed : (flag_word_fault rules false (long_of word) word (hold given p) ≡ []) × (long_or_other rules idle word (long_of word) (hold given p) ≡ (hold given p, value))
        passed = word_passes (rows given) (pend p) rules idle word flag

        turn : turn_fault s [] here word ≡ step_fault s (position_of n) (hold given p) value
        turn = λ i. or_else (if ends i then [] else passed.0 i) (step_fault s (position_of n) (met_by (ends i) (passed.1 i)).0 (met_by (ends i) (passed.1 i)).1)

        walk : walked rules [] here word ≡ placed false
        walk = λ i. after_step rules word here (met_by (ends i) (passed.1 i)).0 (met_by (ends i) (passed.1 i)).1

        read : word_read usage (read_at (between given n p)) word ≡ option_map (λ (more : List Given × List Text). Between more.0 more.1) (file_read usage (all given p) (left n) word)
        read = λ i. read_by (ends i) (flag i) (long_of word)

    -- `--`
    ends_leads : ends_flags word ≡ true → Leads (between given n p) word
    unfolding walked
    ends_leads ends = inl (
      behind given n p,
      (
        (taken, allowed),
        (
          ap (λ b. read_by b (is_flag word) (long_of word)) ends,
          (
            ap (λ b. or_else (if b then [] else flag_word_fault rules false (long_of word) word (hold given p))
                (step_fault s (position_of n) (met_by b (long_or_other rules idle word (long_of word) (hold given p))).0 (met_by b (long_or_other rules idle word (long_of word) (hold given p))).1)) ends,
            ap (λ b. after_step rules word here (met_by b (long_or_other rules idle word (long_of word) (hold given p))).0 (met_by b (long_or_other rules idle word (long_of word) (hold given p))).1) ends,
          ),
        ),
      ),
    )

    -- ---- a long flag

    abbrev flag_met_as : Text → Option Text → Held × Step
    flag_met_as flag text = long_word rules idle word flag text (hold given p)

    abbrev FlagLeadsTo : Text → Option Text → Stand → Type 0
    FlagLeadsTo flag text onward = Stands onward × ((flag_read usage (all given p) (left n) flag text (flag_of usage flag) ≡ Some (read_at onward))
        × ((long_fault rules false (arg_by_long rules flag) text (hold given p) ≡ [])
        × ((step_fault s (position_of n) (flag_met_as flag text).0 (flag_met_as flag text).1 ≡ []) × (after_step rules word here (flag_met_as flag text).0 (flag_met_as flag text).1 ≡ walk_of onward))))

    abbrev FlagLeads : Text → Option Text → Type 0
    FlagLeads flag text = ((onward : Stand) × FlagLeadsTo flag text onward)
        ⊎ ((flag_read usage (all given p) (left n) flag text (flag_of usage flag) ≡ None) × Fails (long_fault rules false (arg_by_long rules flag) text (hold given p)))

    module _ (a : Rule) (opt : IsOption usage rules a) (is : flag_of usage a.id ≡ Some false) where
      option_fault_is : (text : Option Text) → long_fault rules false (arg_by_long rules a.id) text (hold given p) ≡ option_fault rules false a text (hold given p)
      option_fault_is text = ap (λ o. long_fault rules false o text (hold given p)) opt.long
          ∙ ap (λ b. if b then option_fault rules false a text (hold given p) else (if is_some text then kind.TooManyValues ∷ [] else react_fault rules false a [] (hold given p))) (takes_value a opt.one)

      option_met_is : (text : Option Text) → long_met rules (arg_by_long rules a.id) text (hold given p) ≡ option_met rules a text (hold given p)
      option_met_is text = ap (λ o. long_met rules o text (hold given p)) opt.long
          ∙ ap (λ b. if b then option_met rules a text (hold given p) else flag_met rules a text (hold given p)) (takes_value a opt.one)

      flag_is : (text : Option Text) → flag_met_as a.id text ≡ after_flag rules idle word (option_met rules a text (hold given p)).0 (option_met rules a text (hold given p)).1
      flag_is text = ap (λ (m : Held × Outcome). after_flag rules idle word m.0 m.1) (option_met_is text)

      -- the value comes with the next word
      without_leads : FlagLeads a.id None
      without_leads = inl (
        before (all given p) n a,
        (
          (taken_all given p taken allowed, opt),
          (
            ap (flag_read usage (all given p) (left n) a.id None) is,
            (
              option_fault_is None ∙ settle_passes given p allowed,
              (
                ap (λ (m : Held × Step). step_fault s (position_of n) m.0 m.1) (flag_is None),
                ap (λ (m : Held × Step). after_step rules word here m.0 m.1) (flag_is None)
                    ∙ ap (λ rs. walk_at (held rs (Some (a.id, []))) (option a.id) n false) (settle_rows given p allowed),
              ),
            ),
          ),
        ),
      )

      with_fault : (text : Text) → long_fault rules false (arg_by_long rules a.id) (Some text) (hold given p) ≡ use_fault false a (text ∷ []) (rows (all given p))
      with_fault text = option_fault_is (Some text)
          ∙ (λ i. or_else (settle_passes given p allowed i) (use_fault false a (text ∷ []) (settle_rows given p allowed i)))

      with_read : (text : Text) (may : Bool) → may_have usage (all given p) a.id text ≡ may
          → flag_read usage (all given p) (left n) a.id (Some text) (flag_of usage a.id) ≡ option_map (λ (more : List Given). Between more (left n)) (if may then Some (all given p ++ (a.id, text) ∷ []) else None)
      with_read text may e = ap (flag_read usage (all given p) (left n) a.id (Some text)) is
          ∙ ap (λ b. option_map (λ (more : List Given). Between more (left n)) (if b then Some (all given p ++ (a.id, text) ∷ []) else None)) e

      -- the value stands in the word
      with_leads : (text : Text) (may : Bool) → may_have usage (all given p) a.id text ≡ may → FlagLeads a.id (Some text)
      with_leads text true may = inl (
        between (all given p ++ (a.id, text) ∷ []) n None,
        (
          (taken_more usage a.id (all given p) text (taken_all given p taken allowed) (both _ (takes usage a.id text) may).1, tt),
          (
            with_read text true may,
            (
              with_fault text ∙ use_passes a opt.one (all given p) text may,
              (
                ap (λ (m : Held × Step). step_fault s (position_of n) m.0 m.1) (flag_is (Some text)),
                ap (λ (m : Held × Step). after_step rules word here m.0 m.1) (flag_is (Some text))
                    ∙ ap (λ rs. walk_at (held (used a (text ∷ []) rs) None) idle n false) (settle_rows given p allowed)
                    ∙ ap (λ rs. walk_at (held rs None) idle n false) (used_is a opt.one (all given p) text may),
              ),
            ),
          ),
        ),
      )
      with_leads text false may = inr (with_read text false may, subst Fails (sym (with_fault text)) (use_fails a opt.one (all given p) text may))

      option_leads : (text : Option Text) → FlagLeads a.id text
      option_leads None = without_leads
      option_leads (Some text) = with_leads text (may_have usage (all given p) a.id text) refl

    module _ (a : Rule) (switch : IsSwitch usage rules a) (is : flag_of usage a.id ≡ Some true) where
      switch_fault_is : (text : Option Text) → long_fault rules false (arg_by_long rules a.id) text (hold given p)
          ≡ (if is_some text then kind.TooManyValues ∷ [] else react_fault rules false a [] (hold given p))
      switch_fault_is text = ap (λ o. long_fault rules false o text (hold given p)) switch.long
          ∙ ap (λ b. if b then option_fault rules false a text (hold given p) else (if is_some text then kind.TooManyValues ∷ [] else react_fault rules false a [] (hold given p))) switch.valueless

      switch_met_is : long_met rules (arg_by_long rules a.id) None (hold given p) ≡ flag_met rules a None (hold given p)
      switch_met_is = ap (λ o. long_met rules o None (hold given p)) switch.long
          ∙ ap (λ b. if b then option_met rules a None (hold given p) else flag_met rules a None (hold given p)) switch.valueless

      switch_is : flag_met_as a.id None ≡ (held (used a [] (settled_rows rules (pend p) (rows given))) None, next idle)
      switch_is = ap (λ (m : Held × Outcome). after_flag rules idle word m.0 m.1) switch_met_is

      switch_use_is : use_fault false a [] (rows (all given p)) ≡ kinds_of (is_some (value_of a.id (all given p))) (takes usage a.id (codes "true"))
      switch_use_is = switch.fault (rows (all given p)) ∙ ap (λ has. kinds_of has (takes usage a.id (codes "true"))) (has_row-rows a.id (all given p))

      on_fault : long_fault rules false (arg_by_long rules a.id) None (hold given p) ≡ use_fault false a [] (rows (all given p))
      on_fault = switch_fault_is None ∙ (λ i. or_else (settle_passes given p allowed i) (use_fault false a [] (settle_rows given p allowed i)))

      on_read : (may : Bool) → may_have usage (all given p) a.id (codes "true") ≡ may
          → flag_read usage (all given p) (left n) a.id None (flag_of usage a.id) ≡ option_map (λ (more : List Given). Between more (left n)) (if may then Some (all given p ++ (a.id, codes "true") ∷ []) else None)
      on_read may e = ap (flag_read usage (all given p) (left n) a.id None) is
          ∙ ap (λ b. option_map (λ (more : List Given). Between more (left n)) (if b then Some (all given p ++ (a.id, codes "true") ∷ []) else None)) e

      on_leads : (may : Bool) → may_have usage (all given p) a.id (codes "true") ≡ may → FlagLeads a.id None
      on_leads true may = inl (
        between (all given p ++ (a.id, codes "true") ∷ []) n None,
        (
          (taken_more usage a.id (all given p) (codes "true") (taken_all given p taken allowed) (both _ (takes usage a.id (codes "true")) may).1, tt),
          (
            on_read true may,
            (
              on_fault ∙ switch_use_is ∙ kinds_pass (is_some (value_of a.id (all given p))) (takes usage a.id (codes "true")) may,
              (
                ap (λ (m : Held × Step). step_fault s (position_of n) m.0 m.1) switch_is,
                ap (λ (m : Held × Step). after_step rules word here m.0 m.1) switch_is
                    ∙ ap (λ rs. walk_at (held (used a [] rs) None) idle n false) (settle_rows given p allowed)
                    ∙ ap (λ rs. walk_at (held rs None) idle n false) (switch.leaves (rows (all given p)) ∙ added a.id (all given p) (codes "true") (not_some _ (both _ (takes usage a.id (codes "true")) may).0)),
              ),
            ),
          ),
        ),
      )
      on_leads false may = inr (
        on_read false may,
        subst Fails (sym (on_fault ∙ switch_use_is)) (kinds_fail (is_some (value_of a.id (all given p))) (takes usage a.id (codes "true")) may),
      )

      switch_leads : (text : Option Text) → FlagLeads a.id text
      switch_leads None = on_leads (may_have usage (all given p) a.id (codes "true")) refl
      switch_leads (Some text) = inr (
        ap (flag_read usage (all given p) (left n) a.id (Some text)) is,
        subst Fails (sym (switch_fault_is (Some text))) tt,
      )

    neither_fails : (flag : Text) → NamesNeither usage rules flag → (text : Option Text) → FlagLeads flag text
    neither_fails flag none text = inr (ap (flag_read usage (all given p) (left n) flag text) none.0 ∙ no_flag text, none.1 text (hold given p))
      where
        no_flag : (text : Option Text) → flag_read usage (all given p) (left n) flag text None ≡ None
        no_flag None = refl
        no_flag (Some text) = refl

    by_named : (flag : Text) (text : Option Text) → IsNamed usage rules flag → FlagLeads flag text
    by_named flag text (inl o) = subst (λ f. FlagLeads f text) o.2 (option_leads o.0 o.1 o.3 text)
    by_named flag text (inr (inl w)) = subst (λ f. FlagLeads f text) w.2 (switch_leads w.0 w.1 w.3 text)
    by_named flag text (inr (inr none)) = neither_fails flag none text

    flag_leads : ends_flags word ≡ false → is_flag word ≡ true → Leads (between given n p) word
    unfolding walked
    flag_leads ends flag = elim (is_long_or_fails (rows given) (pend p) rules (λ x rest onward. line.short x rest (hold given p) onward) word ends flag) [
      | inl found ↦ long_leads found.0.0 found.0.1 found.1
      | inr fails ↦ no_long (long_of word) refl fails
    ]
      where
        read : (found : Option (Text × Option Text)) → long_of word ≡ found
            → word_read usage (read_at (between given n p)) word ≡ option_and_then (λ (f : Text × Option Text). flag_read usage (all given p) (left n) f.0 f.1 (flag_of usage f.0)) found
        read found long = λ i. read_by (ends i) (flag i) (long i)

        turn : (found : Option (Text × Option Text)) → long_of word ≡ found
            → turn_fault s [] here word ≡ or_else (flag_word_fault rules false found word (hold given p))
            (step_fault s (position_of n) (long_or_other rules idle word found (hold given p)).0 (long_or_other rules idle word found (hold given p)).1)
        turn found long = λ i. or_else (if ends i then [] else flag_word_fault rules false (long i) word (hold given p))
            (step_fault s (position_of n) (met_by (ends i) (long_or_other rules idle word (long i) (hold given p))).0 (met_by (ends i) (long_or_other rules idle word (long i) (hold given p))).1)

        walk : (found : Option (Text × Option Text)) → long_of word ≡ found
            → walked rules [] here word ≡ after_step rules word here (long_or_other rules idle word found (hold given p)).0 (long_or_other rules idle word found (hold given p)).1
        walk found long = λ i. after_step rules word here (met_by (ends i) (long_or_other rules idle word (long i) (hold given p))).0 (met_by (ends i) (long_or_other rules idle word (long i) (hold given p))).1

        long_leads : (flag : Text) (text : Option Text) → long_of word ≡ Some (flag, text) → Leads (between given n p) word
        long_leads flag text long = elim (by_named flag text (line.named flag)) [
          | inl r ↦ inl (
            r.0,
            (
              r.1.0,
              (
                read (Some (flag, text)) long ∙ r.1.1.0,
                (
                  turn (Some (flag, text)) long ∙ (λ i. or_else (r.1.1.1.0 i) (r.1.1.1.1.0 i)),
                  walk (Some (flag, text)) long ∙ r.1.1.1.1.1,
                ),
              ),
            ),
          )
          | inr r ↦ inr (
            read (Some (flag, text)) long ∙ r.0,
            λ more. turn_fails here word more (subst Fails (sym (turn (Some (flag, text)) long)) (first_fails (long_fault rules false (arg_by_long rules flag) text (hold given p)) _ r.1)),
          )
        ]

        no_long : (found : Option (Text × Option Text)) → long_of word ≡ found → Fails (flag_word_fault rules false (long_of word) word (hold given p)) → Leads (between given n p) word
        no_long (Some f) long fails = long_leads f.0 f.1 long
        no_long None long fails = inr (
          read None long,
          λ more. turn_fails here word more (subst Fails (sym (turn (long_of word) refl)) (first_fails (flag_word_fault rules false (long_of word) word (hold given p)) _ fails)),
        )

  -- ---- a word before which an option waits for its value

  option_word_is : (a : Rule) → TakesOne usage rules a → (given : List Given) (word : Text)
      → option_word (arg_by_id rules a.id) a.id word (held (rows given) (Some (a.id, []))) ≡ (held (rows given) (Some (a.id, word ∷ [])), idle)
  option_word_is a one given word =
      ap (λ o. option_word o a.id word (held (rows given) (Some (a.id, [])))) one.found
      ∙ (λ i. waiting_by (held (rows given) (Some (a.id, word ∷ []))) a.id (if one.same i then 1 else 0) (one.most i))

  module _ (given : List Given) (n : ℕ) (a : Rule) (taken : Taken usage given) (opt : IsOption usage rules a) (word : Text) where
    abbrev waiting_held : Held
    waiting_held = held (rows given) (Some (a.id, []))

    abbrev waiting_walk : Walk
    waiting_walk = walk_of (before given n a)

    abbrev waiting_met : Bool → Held × Step → Held × Step
    waiting_met ends met = if ends then (waiting_held, trailing (position_of n)) else met

    no_ends : is_flag word ≡ false → ends_flags word ≡ false
    no_ends flag = go (ends_flags word) refl
      where
        go : (b : Bool) → ends_flags word ≡ b → ends_flags word ≡ false
        go true e = absurd (true≢false (sym (ends_is_flag word e) ∙ flag))
        go false e = e

    waiting_leads : (flag : Bool) → is_flag word ≡ flag → Leads (before given n a) word
    unfolding walked
    waiting_leads true flag = inr (
      ap (λ b. if b then None else option_map (λ (more : List Given). Between more (left n)) (with_value usage given a.id word)) flag,
      λ more. waiting_flag_bad (rows given) (Some (a.id, [])) (no_value a opt.one given) a.id n word more (ends_flags word) refl flag,
    )
    waiting_leads false flag = by_may (may_have usage given a.id word) refl
      where
        ends : ends_flags word ≡ false
        ends = no_ends flag

        passed : (flag_word_fault rules false (long_of word) word waiting_held ≡ [])
            × (long_or_other rules (option a.id) word (long_of word) waiting_held ≡ plain_word rules (option a.id) word waiting_held)
        passed = word_passes (rows given) (Some (a.id, [])) rules (option a.id) word flag

        turn : turn_fault s [] waiting_walk word ≡ []
        turn = λ i. or_else (if ends i then [] else passed.0 i) (step_fault s (position_of n) (waiting_met (ends i) (passed.1 i)).0 (waiting_met (ends i) (passed.1 i)).1)

        walk : walked rules [] waiting_walk word ≡ walk_at (held (rows given) (Some (a.id, word ∷ []))) idle n false
        walk = (λ i. after_step rules word waiting_walk (waiting_met (ends i) (passed.1 i)).0 (waiting_met (ends i) (passed.1 i)).1)
            ∙ ap (λ (m : Held × Waiting). walk_at m.0 m.1 n false) (option_word_is a opt.one given word)

        read : (may : Bool) → may_have usage given a.id word ≡ may
            → word_read usage (Before given (left n) a.id) word ≡ option_map (λ (more : List Given). Between more (left n)) (if may then Some (given ++ (a.id, word) ∷ []) else None)
        read may e = λ i. if flag i then None else option_map (λ (more : List Given). Between more (left n)) (if e i then Some (given ++ (a.id, word) ∷ []) else None)

        by_may : (may : Bool) → may_have usage given a.id word ≡ may → Leads (before given n a) word
        by_may true may = inl (between given n (Some (a, word)), ((taken, (opt.one, may)), (read true may, (turn, walk))))
        by_may false may = inr (
          read false may,
          λ more. subst Fails (sym (fault_leads waiting_walk (walk_at (held (rows given) (Some (a.id, word ∷ []))) idle n false) word turn walk more))
              (idle_bad (rows given) (Some (a.id, word ∷ [])) (subst Fails (sym (settle_is a opt.one (word ∷ []) (rows given))) (use_fails a opt.one given word may)) n more),
        )

  -- ---- the end of the words

  abbrev IsReadTo : Stand → List Text → List Given → Type 0
  IsReadTo stand words given = (option_and_then given_at (words_read usage (read_at stand) words) ≡ Some given)
      × ((fault_from (walk_of stand) words ≡ missing_kinds rules given) × AreFound usage rules given (rows_from (walk_of stand) words))

  abbrev IsNotRead : Stand → List Text → Type 0
  IsNotRead stand words = (option_and_then given_at (words_read usage (read_at stand) words) ≡ None) × Fails (fault_from (walk_of stand) words)

  abbrev IsRead : Stand → List Text → Type 0
  IsRead stand words = ((given : List Given) × IsReadTo stand words given) ⊎ IsNotRead stand words

  module _ (given : List Given) (p : Part) (taken : Taken usage given) (allowed : Allowed given p) where
    abbrev at_end : List Row
    at_end = fold with_default (rows (all given p)) rules

    finished_is : finished rules (hold given p) ≡ at_end
    finished_is = ap (λ rs. fold with_default rs rules) (settle_rows given p allowed)

    given_is : (id : Text) → is_given id at_end ≡ is_some (value_of id (all given p))
    given_is id = (all_defaulted rules (rows (all given p)) (rows_have_values (all given p))).given id ∙ is_given-rows id (all given p)

    end_fault_is : end_fault (hold given p) ≡ missing_kinds rules (all given p)
    end_fault_is = (λ i. or_else (settle_passes given p allowed i) (or_else (defaults_fault (settle_rows given p allowed i) rules) (check_fault s (finished_is i) false)))
        ∙ ap (λ k. or_else k (check_fault s at_end false)) (no_default_fault rules (rows (all given p)) line.defaults)
        ∙ ap (λ b. check_kinds false false b) (missing_is rules at_end (all given p) given_is)

    found_is : AreFound usage rules (all given p) (finished rules (hold given p))
    found_is = record {
      taken = taken_all given p taken allowed;
      values = λ id. ap (first_of id) finished_is ∙ ((all_defaulted rules (rows (all given p)) (rows_have_values (all given p))).valued id
          ∙ ap (λ o. or_value o (default_in id rules)) (first_of-rows id (all given p)));
    }

  -- ---- all words

  leads : (stand : Stand) → Stands stand → (word : Text) → Leads stand word
  leads (between given n p) stands word = go (ends_flags word) (is_flag word) refl refl
    where
      go : (ends flag : Bool) → ends_flags word ≡ ends → is_flag word ≡ flag → Leads (between given n p) word
      go true flag e h = ends_leads given n p stands.0 stands.1 word e
      go false true e h = flag_leads given n p stands.0 stands.1 word e h
      go false false e h = value_leads given n p stands.0 stands.1 word e h
  leads (before given n a) stands word = waiting_leads given n a stands.0 stands.1 word (is_flag word) refl
  leads (behind given n p) stands word = behind_leads given n p stands.0 stands.1 word

  end_reads : (stand : Stand) → Stands stand → IsRead stand []
  unfolding walk_fault
  end_reads (between given n p) stands = inl (all given p, (refl, (end_fault_is given p stands.0 stands.1, found_is given p stands.0 stands.1)))
  end_reads (before given n a) stands = inr (refl, waiting_end_bad (rows given) (Some (a.id, [])) (no_value a stands.1.one given) a.id n)
  end_reads (behind given n p) stands = inl (all given p, (refl, (end_fault_is given p stands.0 stands.1, found_is given p stands.0 stands.1)))

  stand_reads : (words : List Text) (stand : Stand) → Stands stand → IsRead stand words
  stand_reads [] stand stands = end_reads stand stands
  stand_reads (word ∷ more) stand stands = elim (leads stand stands word) [
    | inl r ↦ led r.0 r.1.1.0 r.1.1.1.0 r.1.1.1.1 (stand_reads more r.0 r.1.0)
    | inr r ↦ inr (ap (λ o. option_and_then given_at (option_and_then (λ (place : Place). words_read usage place more) o)) r.0, r.1 more)
  ]
    where
      led : (onward : Stand) → word_read usage (read_at stand) word ≡ Some (read_at onward) → turn_fault s [] (walk_of stand) word ≡ [] → walked rules [] (walk_of stand) word ≡ walk_of onward
          → IsRead onward more → IsRead stand (word ∷ more)
      led onward read turn walk (inl q) = inl (
        q.0,
        (
          ap (λ o. option_and_then given_at (option_and_then (λ (place : Place). words_read usage place more) o)) read ∙ q.1.0,
          (
            fault_leads (walk_of stand) (walk_of onward) word turn walk more ∙ q.1.1.0,
            subst (AreFound usage rules q.0) (sym (rows_lead (walk_of stand) (walk_of onward) word turn walk more)) q.1.1.1,
          ),
        ),
      )
      led onward read turn walk (inr q) = inr (
        ap (λ o. option_and_then given_at (option_and_then (λ (place : Place). words_read usage place more) o)) read ∙ q.0,
        subst Fails (sym (fault_leads (walk_of stand) (walk_of onward) word turn walk more)) q.1,
      )

  pub line_reads : (words : List Text) → LineReads name usage rules words
  line_reads words = stand_reads words (between [] 0 None) ((λ id text e. absurd (some≢none text (sym e))), tt)
