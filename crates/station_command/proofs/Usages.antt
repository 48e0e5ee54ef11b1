-- The arguments of a command, whichever they are, are read as they say, if no two have one name.
use Rattle.std.proofs.Common.{◌≡◌, ◌≤◌, ◌+◌, ◌&&◌, ◌||◌, ℕ, zero, suc, Bool, true, false, not, List, [], ◌∷◌, ◌++◌, Option, Some, None, is_some, if◌then◌else◌, refl, inl, inr, ◌⊎◌, sym, ap, subst, ◌∙◌, codes, cond, drop, length, map, min, nat_eq, nat_le, slice_get, eq-eqb, arith}
use Rattle.std.proofs.lemmas.Bool.{false≢true, leb-true, ne_eqb, true≢false}
use Rattle.std.proofs.lemmas.Slice.Eq.{bytes_eq-Decides}
use Rattle.std.specs.List.{list_any}
use Rattle.std.specs.Str.{bytes_eq}
use Rattle.clap.specs.Lexer.{usize_max}
use Rattle.clap.specs.Kinds.{Kinds}
use Rattle.clap.specs.Faults.{given_default_fault, long_fault, short_fault}
use Rattle.clap.specs.Simple.{filled, filled_from, help_rule, index_after, with_index}
use Rattle.clap.specs.Walk.{Held, Rule, Text, arg_by_id, arg_by_index, arg_by_long, arg_by_short, has_long, has_row, has_short, is_empty}
use Rattle.station_command.proofs.Defaults.{DefaultsPass, default_in}
use Rattle.station_command.proofs.Given.{kinds_of, or_none, or_value}
use Rattle.station_command.proofs.Rules.{IsFile, IsHelp, IsLine, IsNamed, TakesOne, names_help, names_nothing, short_help, short_nothing}
use Rattle.station_command.proofs.WordsRead.{Fails, both}
use Rattle.station_command.specs.Commands.{Argument, File, Kind, Number, Switch, Word}
use Rattle.station_command.specs.CommandWords.{files_of, fits, flag_of, is_file, is_switch, takes}
use Rattle.station_command.specs.Line.{rule_of}

-- ---- words on lists and tests

abbrev pub Each : {X : Type 0} → (X → Type 0) → List X → Type 0
Each P [] = Unit {0}
Each P (x ∷ xs) = P x × Each P xs

-- what holds of each by two facts
pub each_by : {X : Type 0} (P Q R : X → Type 0) → ((x : X) → P x → Q x → R x) → (xs : List X) → Each P xs → Each Q xs → Each R xs
each_by P Q R by [] p q = tt
each_by P Q R by (x ∷ xs) p q = (by x p.0 q.0, each_by P Q R by xs p.1 q.1)

pub same_bytes : (text : Text) → bytes_eq text text ≡ true
same_bytes text = (bytes_eq-Decides text text).1 refl

or_false : (b : Bool) → (b || false) ≡ b
or_false true = refl
or_false false = refl

pub not_true : (b : Bool) → not b ≡ true → b ≡ false
not_true true e = absurd (true≢false (sym e))
not_true false e = refl

-- two texts differ from either side
differ_back : (a b : Text) → bytes_eq a b ≡ false → bytes_eq b a ≡ false
differ_back a b e = go (bytes_eq b a) refl
  where
    go : (same : Bool) → bytes_eq b a ≡ same → bytes_eq b a ≡ false
    go false is = is
    go true is = absurd (true≢false (sym ((bytes_eq-Decides a b).1 (sym ((bytes_eq-Decides b a).0 is))) ∙ e))

-- two texts are compared from either side
pub same_test : (a b : Text) → bytes_eq a b ≡ bytes_eq b a
same_test a b = go (bytes_eq a b) refl
  where
    go : (same : Bool) → bytes_eq a b ≡ same → same ≡ bytes_eq b a
    go true e = sym ((bytes_eq-Decides b a).1 (sym ((bytes_eq-Decides a b).0 e)))
    go false e = sym (differ_back a b e)

-- ---- the rules of arguments

-- the rule of an argument, as it is built where it would be the file at this place
abbrev pub built_rule : ℕ → Argument → Rule
built_rule place argument = with_index place (filled (rule_of argument))

abbrev pub built_help : Rule
built_help = with_index 0 (filled help_rule)

-- the rules of a command, whose first file is at this place, and that of its help
abbrev pub rules_from : ℕ → List Argument → List Rule
rules_from place usage = filled_from place (map rule_of usage ++ help_rule ∷ [])

abbrev pub rules_of : List Argument → List Rule
rules_of usage = rules_from 1 usage

-- the place of the next file after an argument
abbrev pub next_place : ℕ → Argument → ℕ
next_place place argument = index_after place (rule_of argument)

abbrev pub of_kind : Kind → Text → Bool → Argument
of_kind kind name needed = record { name = name; kind = kind; is_needed = needed }

pub id_is : (place : ℕ) (kind : Kind) (name : Text) (needed : Bool) → (built_rule place (of_kind kind name needed)).id ≡ name
id_is place File name needed = refl
id_is place Word name needed = refl
id_is place (Number low high) name needed = refl
id_is place Switch name needed = refl

-- ---- names that differ

-- a name differs from those of all arguments, and from that of the help
abbrev pub differs : Text → List Argument → Bool
differs name [] = not (bytes_eq name (codes "help"))
differs name (argument ∷ usage) = not (bytes_eq name argument.name) && differs name usage

abbrev pub is_distinct : List Argument → Bool
is_distinct [] = true
is_distinct (argument ∷ usage) = differs argument.name usage && is_distinct usage

-- a name is that of no argument
abbrev IsOther : Text → Argument → Type 0
IsOther name argument = bytes_eq name argument.name ≡ false

others : (name : Text) (usage : List Argument) → differs name usage ≡ true → Each (IsOther name) usage
others name [] e = tt
others name (a ∷ usage) e =
    let parts = both (not (bytes_eq name a.name)) (differs name usage) e in
    (not_true (bytes_eq name a.name) parts.0, others name usage parts.1)

other_ids : (place : ℕ) (name : Text) (usage : List Argument) → differs name usage ≡ true → Each (λ r. bytes_eq name r.id ≡ false) (rules_from place usage)
other_ids place name [] e = (not_true (bytes_eq name (codes "help")) e, tt)
other_ids place name (a ∷ usage) e =
    let parts = both (not (bytes_eq name a.name)) (differs name usage) e in (
      ap (bytes_eq name) (id_is place a.kind a.name a.is_needed) ∙ not_true (bytes_eq name a.name) parts.0,
      other_ids (next_place place a) name usage parts.1,
    )

-- each rule is found by its name
abbrev IsOwn : List Rule → Rule → Type 0
IsOwn rules r = arg_by_id rules r.id ≡ Some r

own_ids : (place : ℕ) (usage : List Argument) → is_distinct usage ≡ true → Each (IsOwn (rules_from place usage)) (rules_from place usage)
own_ids place [] e = (refl, tt)
own_ids place (a ∷ usage) e =
    let parts = both (differs a.name usage) (is_distinct usage) e in
    let first = built_rule place a in
    let id = id_is place a.kind a.name a.is_needed in
    let rest = rules_from (next_place place a) usage in (
      ap (λ b. cond b (Some first) (arg_by_id rest first.id)) (same_bytes first.id),
      each_by (λ r. bytes_eq a.name r.id ≡ false) (IsOwn rest) (IsOwn (first ∷ rest))
          (λ r other own. ap (λ b. cond b (Some first) (arg_by_id rest r.id)) (ap (λ n. bytes_eq n r.id) id ∙ other) ∙ own)
          rest (other_ids (next_place place a) a.name usage parts.0) (own_ids (next_place place a) usage parts.1),
    )

-- each argument takes what its kind takes
abbrev pub TakesFit : List Argument → Argument → Type 0
TakesFit usage a = (text : Text) → takes usage a.name text ≡ fits a.kind text

pub takes_fit : (usage : List Argument) → is_distinct usage ≡ true → Each (TakesFit usage) usage
takes_fit [] e = tt
takes_fit (a ∷ usage) e =
    let parts = both (differs a.name usage) (is_distinct usage) e in (
      (λ text. ap (λ b. cond b (fits a.kind text) (takes usage a.name text)) (same_bytes a.name)),
      each_by (IsOther a.name) (TakesFit usage) (TakesFit (a ∷ usage))
          (λ x other fit text. ap (λ b. cond b (fits a.kind text) (takes usage x.name text)) other ∙ fit text)
          usage (others a.name usage parts.0) (takes_fit usage parts.1),
    )

-- ---- defaults

-- what stands where an argument of this kind isn't given
abbrev pub default_of : Kind → Option Text
default_of Switch = Some (codes "false")
default_of _ = None

default_is : (place : ℕ) (kind : Kind) (name : Text) (needed : Bool) → slice_get (built_rule place (of_kind kind name needed)).defaults 0 ≡ default_of kind
default_is place File name needed = refl
default_is place Word name needed = refl
default_is place (Number low high) name needed = refl
default_is place Switch name needed = refl

no_default_in : (place : ℕ) (name : Text) (usage : List Argument) → differs name usage ≡ true → default_in name (rules_from place usage) ≡ None
no_default_in place name [] e = ap (λ b. or_value (cond b None None) None) (differ_back name (codes "help") (not_true (bytes_eq name (codes "help")) e))
no_default_in place name (a ∷ usage) e =
    let parts = both (not (bytes_eq name a.name)) (differs name usage) e in
    let first = built_rule place a in
    let other : bytes_eq first.id name ≡ false =
    ap (λ n. bytes_eq n name) (id_is place a.kind a.name a.is_needed) ∙ differ_back name a.name (not_true (bytes_eq name a.name) parts.0) in
    λ i. or_value (cond (other i) (slice_get first.defaults 0) None) (no_default_in (next_place place a) name usage parts.1 i)

abbrev pub HasDefault : List Rule → Argument → Type 0
HasDefault rules a = default_in a.name rules ≡ default_of a.kind

pub have_defaults : (place : ℕ) (usage : List Argument) → is_distinct usage ≡ true → Each (HasDefault (rules_from place usage)) usage
have_defaults place [] e = tt
have_defaults place (a ∷ usage) e =
    let parts = both (differs a.name usage) (is_distinct usage) e in
    let first = built_rule place a in
    let id = id_is place a.kind a.name a.is_needed in
    let rest = rules_from (next_place place a) usage in
    let same : bytes_eq first.id a.name ≡ true = ap (λ n. bytes_eq n a.name) id ∙ same_bytes a.name in (
      (λ i. or_value (cond (same i) (default_is place a.kind a.name a.is_needed i) None) (no_default_in (next_place place a) a.name usage parts.0 i)) ∙ or_none (default_of a.kind),
      each_by (IsOther a.name) (HasDefault rest) (HasDefault (first ∷ rest))
          (λ x other has. ap (λ b. or_value (cond b (slice_get first.defaults 0) None) (default_in x.name rest)) (ap (λ n. bytes_eq n x.name) id ∙ other) ∙ has)
          usage (others a.name usage parts.0) (have_defaults (next_place place a) usage parts.1),
    )

default_passes : (place : ℕ) (kind : Kind) (name : Text) (needed : Bool)
    → cond (is_empty (built_rule place (of_kind kind name needed)).defaults) [] (given_default_fault (built_rule place (of_kind kind name needed)) (built_rule place (of_kind kind name needed)).defaults) ≡ []
default_passes place File name needed = refl
default_passes place Word name needed = refl
default_passes place (Number low high) name needed = refl
default_passes place Switch name needed = refl

defaults_pass : (place : ℕ) (usage : List Argument) → DefaultsPass (rules_from place usage)
defaults_pass place [] = (refl, tt)
defaults_pass place (a ∷ usage) = (default_passes place a.kind a.name a.is_needed, defaults_pass (next_place place a) usage)

-- ---- short flags

no_short : (x : ℕ) (place : ℕ) (kind : Kind) (name : Text) (needed : Bool)
    → (not (is_some (built_rule place (of_kind kind name needed)).index) && has_short (built_rule place (of_kind kind name needed)) x) ≡ false
no_short x place File name needed = refl
no_short x place Word name needed = refl
no_short x place (Number low high) name needed = refl
no_short x place Switch name needed = refl

-- there is none but that of the help
short_is : (x : ℕ) (place : ℕ) (usage : List Argument) → arg_by_short (rules_from place usage) x ≡ (if nat_eq 104 x then Some built_help else None)
short_is x place [] = ap (λ b. cond b (Some built_help) None) (or_false (nat_eq 104 x))
short_is x place (a ∷ usage) =
    ap (λ b. cond b (Some (built_rule place a)) (arg_by_short (rules_from (next_place place a) usage) x)) (no_short x place a.kind a.name a.is_needed)
    ∙ short_is x (next_place place a) usage

help_is : IsHelp built_help
help_is = record { valueless = refl; fails = λ rs. tt }

shorts_fail : (usage : List Argument) (x : ℕ) (rest : Text) (h : Held) (after : Held → Kinds) → Fails (short_fault (rules_of usage) false (arg_by_short (rules_of usage) x) rest h after)
shorts_fail usage x rest h after = go (nat_eq 104 x) (short_is x 1 usage)
  where
    go : (is_help : Bool) → arg_by_short (rules_of usage) x ≡ (if is_help then Some built_help else None)
        → Fails (short_fault (rules_of usage) false (arg_by_short (rules_of usage) x) rest h after)
    go true e = short_help (rules_of usage) x built_help e help_is rest h after
    go false e = short_nothing (rules_of usage) x e rest h after

-- ---- long flags

-- a file has no flag, and what is no file has its name
no_long : (name : Text) (place : ℕ) (n : Text) (needed : Bool)
    → (not (is_some (built_rule place (of_kind File n needed)).index) && has_long (built_rule place (of_kind File n needed)) name) ≡ false
no_long name place n needed = refl

abbrev is_long : Text → ℕ → Argument → Bool
is_long name place a = not (is_some (built_rule place a).index) && has_long (built_rule place a) name

long_is : (name : Text) (place : ℕ) (kind : Kind) (n : Text) (needed : Bool) → is_file kind ≡ false → is_long name place (of_kind kind n needed) ≡ bytes_eq n name
long_is name place File n needed e = absurd (true≢false e)
long_is name place Word n needed e = or_false (bytes_eq n name)
long_is name place (Number low high) n needed e = or_false (bytes_eq n name)
long_is name place Switch n needed e = or_false (bytes_eq n name)

-- the flag of a name: that of an argument of which two facts hold, or that of the help, or none
module _ (name : Text) (Q : Argument → Type 0) (R : Rule → Type 0) where
  pub record Flagged (place : ℕ) (usage : List Argument) : Type 0 where
    pub argument : Argument
    pub at : ℕ
    pub no_file : is_file argument.kind ≡ false
    pub named : argument.name ≡ name
    pub flag : flag_of usage name ≡ Some (is_switch argument.kind)
    pub found : arg_by_long (rules_from place usage) name ≡ Some (built_rule at argument)
    pub first : Q argument
    pub second : R (built_rule at argument)

  abbrev Unflagged : ℕ → List Argument → Type 0
  Unflagged place usage = (flag_of usage name ≡ None) × (arg_by_long (rules_from place usage) name ≡ (if bytes_eq (codes "help") name then Some built_help else None))

  -- an argument before others
  module _ (place : ℕ) (a : Argument) (usage : List Argument) where
    abbrev found_by : Bool → Option Rule
    found_by b = cond b (Some (built_rule place a)) (arg_by_long (rules_from (next_place place a) usage) name)

    abbrev flag_by : Bool → Option Bool
    flag_by b = cond b (Some (is_switch a.kind)) (flag_of usage name)

    module _ (is_found : is_long name place a ≡ false) (is_flag : (not (is_file a.kind) && bytes_eq a.name name) ≡ false) where
      passed : Flagged (next_place place a) usage ⊎ Unflagged (next_place place a) usage → Flagged place (a ∷ usage) ⊎ Unflagged place (a ∷ usage)
      passed (inl f) = inl (record {
        argument = f.argument;
        at = f.at;
        no_file = f.no_file;
        named = f.named;
        flag = ap flag_by is_flag ∙ f.flag;
        found = ap found_by is_found ∙ f.found;
        first = f.first;
        second = f.second;
      })
      passed (inr n) = inr (ap flag_by is_flag ∙ n.0, ap found_by is_found ∙ n.1)

    no_file_leads : is_file a.kind ≡ false → Q a → R (built_rule place a) → Flagged (next_place place a) usage ⊎ Unflagged (next_place place a) usage
        → Flagged place (a ∷ usage) ⊎ Unflagged place (a ∷ usage)
    no_file_leads none q r rest = go (bytes_eq a.name name) refl
      where
        go : (b : Bool) → bytes_eq a.name name ≡ b → Flagged place (a ∷ usage) ⊎ Unflagged place (a ∷ usage)
        go true e = inl (record {
          argument = a;
          at = place;
          no_file = none;
          named = (bytes_eq-Decides a.name name).0 e;
          flag = λ i. cond (not (none i) && e i) (Some (is_switch a.kind)) (flag_of usage name);
          found = ap found_by (long_is name place a.kind a.name a.is_needed none ∙ e);
          first = q;
          second = r;
        })
        go false e = passed (long_is name place a.kind a.name a.is_needed none ∙ e) (λ i. not (none i) && e i) rest

    file_leads : (kind : Kind) → a.kind ≡ kind → is_file kind ≡ true → Flagged (next_place place a) usage ⊎ Unflagged (next_place place a) usage
        → Flagged place (a ∷ usage) ⊎ Unflagged place (a ∷ usage)
    file_leads File is file rest =
        passed (subst (λ k. is_long name place (of_kind k a.name a.is_needed) ≡ false) (sym is) refl) (ap (λ k. not (is_file k) && bytes_eq a.name name) is) rest
    file_leads Word is file rest = absurd (false≢true file)
    file_leads (Number low high) is file rest = absurd (false≢true file)
    file_leads Switch is file rest = absurd (false≢true file)

  by_file : (place : ℕ) (a : Argument) (usage : List Argument) (file : Bool) → is_file a.kind ≡ file → Q a → R (built_rule place a)
      → Flagged (next_place place a) usage ⊎ Unflagged (next_place place a) usage → Flagged place (a ∷ usage) ⊎ Unflagged place (a ∷ usage)
  by_file place a usage true e q r rest = file_leads place a usage a.kind refl e rest
  by_file place a usage false e q r rest = no_file_leads place a usage e q r rest

  flagged : (place : ℕ) (usage : List Argument) → Each Q usage → Each R (rules_from place usage) → Flagged place usage ⊎ Unflagged place usage
  flagged place [] q r = inr (refl, ap (λ b. cond b (Some built_help) None) (or_false (bytes_eq (codes "help") name)))
  flagged place (a ∷ usage) q r = by_file place a usage (is_file a.kind) refl q.0 r.0 (flagged (next_place place a) usage q.1 r.1)

-- ---- files

-- the file at a place: an argument of which two facts hold, or none
module _ (Q : Argument → Type 0) (R : Rule → Type 0) where
  pub record Filed (place n k : ℕ) (usage : List Argument) : Type 0 where
    pub name : Text
    pub needed : Bool
    pub at : ℕ
    pub found : arg_by_index (rules_from place usage) n ≡ Some (built_rule at (of_kind File name needed))
    pub left : drop k (files_of usage) ≡ name ∷ drop (suc k) (files_of usage)
    pub within : n + 1 ≤ usize_max
    pub first : Q (of_kind File name needed)
    pub second : R (built_rule at (of_kind File name needed))

  abbrev Unfiled : ℕ → ℕ → ℕ → List Argument → Type 0
  Unfiled place n k usage = (arg_by_index (rules_from place usage) n ≡ None) × (drop k (files_of usage) ≡ [])

  abbrev IsFiled : ℕ → ℕ → ℕ → List Argument → Type 0
  IsFiled place n k usage = Filed place n k usage ⊎ Unfiled place n k usage

  -- after a file
  module _ (place n k : ℕ) (name : Text) (needed : Bool) (usage : List Argument) (other : nat_eq place n ≡ false) where
    abbrev file_by : Bool → Option Rule
    file_by b = cond b (Some (built_rule place (of_kind File name needed))) (arg_by_index (rules_from (min (place + 1) usize_max) usage) n)

    behind_file : IsFiled (min (place + 1) usize_max) n k usage → IsFiled place n (suc k) (of_kind File name needed ∷ usage)
    behind_file (inl f) = inl (record {
      name = f.name;
      needed = f.needed;
      at = f.at;
      found = ap file_by other ∙ f.found;
      left = f.left;
      within = f.within;
      first = f.first;
      second = f.second;
    })
    behind_file (inr u) = inr (ap file_by other ∙ u.0, u.1)

  -- after another argument
  behind_other : (place n k : ℕ) (kind : Kind) (name : Text) (needed : Bool) (usage : List Argument) → is_file kind ≡ false
      → IsFiled place n k usage → IsFiled place n k (of_kind kind name needed ∷ usage)
  behind_other place n k File name needed usage none rest = absurd (true≢false none)
  behind_other place n k Word name needed usage none (inl f) =
      inl (record { name = f.name; needed = f.needed; at = f.at; found = f.found; left = f.left; within = f.within; first = f.first; second = f.second })
  behind_other place n k Word name needed usage none (inr u) = inr (u.0, u.1)
  behind_other place n k (Number low high) name needed usage none (inl f) =
      inl (record { name = f.name; needed = f.needed; at = f.at; found = f.found; left = f.left; within = f.within; first = f.first; second = f.second })
  behind_other place n k (Number low high) name needed usage none (inr u) = inr (u.0, u.1)
  behind_other place n k Switch name needed usage none (inl f) =
      inl (record { name = f.name; needed = f.needed; at = f.at; found = f.found; left = f.left; within = f.within; first = f.first; second = f.second })
  behind_other place n k Switch name needed usage none (inr u) = inr (u.0, u.1)

  place_after : (place : ℕ) → place + 1 ≤ usize_max → min (place + 1) usize_max ≡ place + 1
  place_after place within = omega arith

  by_kind : (place n k : ℕ) (kind : Kind) (name : Text) (needed : Bool) (usage : List Argument) → n ≡ place + k → place + length (of_kind kind name needed ∷ usage) ≤ usize_max
      → Q (of_kind kind name needed) → Each R (rules_from place (of_kind kind name needed ∷ usage))
      → ((later j : ℕ) → n ≡ later + j → later + length usage ≤ usize_max → Each R (rules_from later usage) → IsFiled later n j usage)
      → IsFiled place n k (of_kind kind name needed ∷ usage)
  by_kind place n zero File name needed usage is within q r rest =
      let here : place ≡ n = omega arith in
      inl (record {
        name = name;
        needed = needed;
        at = place;
        found = ap (λ b. cond b (Some (built_rule place (of_kind File name needed))) (arg_by_index (rules_from (min (place + 1) usize_max) usage) n)) (eq-eqb place n here);
        left = refl;
        within = omega arith;
        first = q;
        second = r.0;
      })
  by_kind place n (suc k) File name needed usage is within q r rest =
      let next : min (place + 1) usize_max ≡ place + 1 = place_after place (omega arith) in
      behind_file place n k name needed usage (ne_eqb place n (λ same. omega arith)) (rest (min (place + 1) usize_max) k (omega arith) (omega arith) r.1)
  by_kind place n k Word name needed usage is within q r rest = behind_other place n k Word name needed usage refl (rest place k is (omega arith) r.1)
  by_kind place n k (Number low high) name needed usage is within q r rest = behind_other place n k (Number low high) name needed usage refl (rest place k is (omega arith) r.1)
  by_kind place n k Switch name needed usage is within q r rest = behind_other place n k Switch name needed usage refl (rest place k is (omega arith) r.1)

  filed : (place n k : ℕ) (usage : List Argument) → n ≡ place + k → place + length usage ≤ usize_max → Each Q usage → Each R (rules_from place usage) → IsFiled place n k usage
  filed place n zero [] is within q r = inr (refl, refl)
  filed place n (suc k) [] is within q r = inr (refl, refl)
  filed place n k (a ∷ usage) is within q r =
      by_kind place n k a.kind a.name a.is_needed usage is within q.0 r (λ later j same fit more. filed later n j usage same fit q.1 more)

-- ---- a command

-- No two arguments have one name, they are few, and no switch is needed.
abbrev pub is_sound : List Argument → Bool
is_sound usage = is_distinct usage && (nat_le (length usage) 1000 && not (list_any (λ argument. argument.is_needed && is_switch argument.kind) usage))

-- the parts of it
module _ (usage : List Argument) (sound : is_sound usage ≡ true) where
  abbrev needed_switch : Bool
  needed_switch = list_any (λ argument. argument.is_needed && is_switch argument.kind) usage

  pub usage_distinct : is_distinct usage ≡ true
  usage_distinct = (both (is_distinct usage) (nat_le (length usage) 1000 && not needed_switch) sound).0

  rest_sound : (nat_le (length usage) 1000 && not needed_switch) ≡ true
  rest_sound = (both (is_distinct usage) (nat_le (length usage) 1000 && not needed_switch) sound).1

  usage_few : length usage ≤ 1000
  usage_few = leb-true (length usage) 1000 (both (nat_le (length usage) 1000) (not needed_switch) rest_sound).0

  pub usage_plain : list_any (λ argument. argument.is_needed && is_switch argument.kind) usage ≡ false
  usage_plain = not_true needed_switch (both (nat_le (length usage) 1000) (not needed_switch) rest_sound).1

module _ (usage : List Argument) where
  abbrev rules : List Rule
  rules = rules_of usage

  -- an argument with a value
  module _ (place : ℕ) (name : Text) (needed : Bool) (low high : ℕ) where
    file_takes_one : TakesFit usage (of_kind File name needed) → IsOwn rules (built_rule place (of_kind File name needed)) → TakesOne usage rules (built_rule place (of_kind File name needed))
    file_takes_one fit own = record {
      found = own;
      same = same_bytes name;
      fault = λ text rs. ap (kinds_of (has_row name rs)) (sym (fit text));
      empty = λ rs. tt;
      leaves = λ text rs. refl;
      most = refl;
      alone = refl;
      once = refl;
      further = refl;
    }

    word_takes_one : TakesFit usage (of_kind Word name needed) → IsOwn rules (built_rule place (of_kind Word name needed)) → TakesOne usage rules (built_rule place (of_kind Word name needed))
    word_takes_one fit own = record {
      found = own;
      same = same_bytes name;
      fault = λ text rs. ap (kinds_of (has_row name rs)) (sym (fit text));
      empty = λ rs. tt;
      leaves = λ text rs. refl;
      most = refl;
      alone = refl;
      once = refl;
      further = refl;
    }

    number_takes_one : TakesFit usage (of_kind (Number low high) name needed) → IsOwn rules (built_rule place (of_kind (Number low high) name needed))
        → TakesOne usage rules (built_rule place (of_kind (Number low high) name needed))
    number_takes_one fit own = record {
      found = own;
      same = same_bytes name;
      fault = λ text rs. ap (kinds_of (has_row name rs)) (sym (fit text));
      empty = λ rs. tt;
      leaves = λ text rs. refl;
      most = refl;
      alone = refl;
      once = refl;
      further = refl;
    }

  -- the flag of a name, by the kind of its argument
  by_flag : (name : Text) (place : ℕ) (kind : Kind) (id : Text) (needed : Bool) → is_file kind ≡ false → id ≡ name → flag_of usage name ≡ Some (is_switch kind)
      → arg_by_long rules name ≡ Some (built_rule place (of_kind kind id needed)) → TakesFit usage (of_kind kind id needed) → IsOwn rules (built_rule place (of_kind kind id needed))
      → IsNamed usage rules name
  by_flag name place File id needed none same flag found fit own = absurd (true≢false none)
  by_flag name place Word id needed none same flag found fit own = inl (
    built_rule place (of_kind Word id needed),
    record { one = word_takes_one place id needed 0 0 fit own; long = ap (arg_by_long rules) same ∙ found },
    same,
    ap (flag_of usage) same ∙ flag,
  )
  by_flag name place (Number low high) id needed none same flag found fit own = inl (
    built_rule place (of_kind (Number low high) id needed),
    record { one = number_takes_one place id needed low high fit own; long = ap (arg_by_long rules) same ∙ found },
    same,
    ap (flag_of usage) same ∙ flag,
  )
  by_flag name place Switch id needed none same flag found fit own = inr (inl (
    built_rule place (of_kind Switch id needed),
    record {
      long = ap (arg_by_long rules) same ∙ found;
      valueless = refl;
      fault = λ rs. ap (kinds_of (has_row id rs)) (sym (fit (codes "true")));
      leaves = λ rs. refl;
    },
    same,
    ap (flag_of usage) same ∙ flag,
  ))

  module _ (sound : is_sound usage ≡ true) where
    abbrev distinct : is_distinct usage ≡ true
    distinct = usage_distinct usage sound

    named : (name : Text) → IsNamed usage rules name
    named name = go (flagged name (TakesFit usage) (IsOwn rules) 1 usage (takes_fit usage distinct) (own_ids 1 usage distinct))
      where
        by_help : (is_help : Bool) → arg_by_long rules name ≡ (if is_help then Some built_help else None) → (text : Option Text) (h : Held) → Fails (long_fault rules false (arg_by_long rules name) text h)
        by_help true e = names_help rules name built_help e help_is
        by_help false e = names_nothing rules name e

        go : Flagged name (TakesFit usage) (IsOwn rules) 1 usage ⊎ Unflagged name (TakesFit usage) (IsOwn rules) 1 usage → IsNamed usage rules name
        go (inl f) = by_flag name f.at f.argument.kind f.argument.name f.argument.is_needed f.no_file f.named f.flag f.found f.first f.second
        go (inr u) = inr (inr (u.0, by_help (bytes_eq (codes "help") name) u.1))

    file : (n : ℕ) → IsFile usage rules n
    file n =
        let few : length usage ≤ 1000 = usage_few usage sound in
        let place : n + 1 ≡ 1 + n = omega arith in
        let bound : 1 + length usage ≤ usize_max = omega arith in
        go (filed (TakesFit usage) (IsOwn rules) 1 (n + 1) n usage place bound (takes_fit usage distinct) (own_ids 1 usage distinct))
      where
        go : IsFiled (TakesFit usage) (IsOwn rules) 1 (n + 1) n usage → IsFile usage rules n
        go (inl f) =
            let within : (n + 1) + 1 ≤ usize_max = f.within in
            let steps : min ((n + 1) + 1) usize_max ≡ suc n + 1 = omega arith in
            inl (
              built_rule f.at (of_kind File f.name f.needed),
              record { one = file_takes_one f.at f.name f.needed 0 0 f.first f.second; found = f.found; left = f.left; steps = steps },
            )
        go (inr u) = inr (u.0, u.1)

    pub is_line : IsLine usage rules
    is_line = record { file = file; named = named; short = shorts_fail usage; defaults = defaults_pass 1 usage }
