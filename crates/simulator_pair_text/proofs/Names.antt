-- The words `END=E` one after the other.
use Rattle.std.proofs.Common.{◌≡◌, ℕ, List, Result, Ok, Err, Bor, refl, ap, sym, ◌∙◌, arith}
use Rattle.std.proofs.lemmas.Bool.Decides.{nat_tests}
use Rattle.std.specs.Result.{MatchResult}
use Rattle.rasta_core.specs.identity.Role.{Role}
use Rattle.replay_words.specs.declared.fault.Fault.{Fault}
use Rattle.replay_words.specs.Fault.{both, lower, ◌>>=◌}

-- nothing, or the fault
abbrev pub emptied : {A : Type 0} → Result A Fault → Result (Unit {0}) Fault
emptied r = r >>= (λ _. Ok tt)

-- of three faults the lowest is told, in whatever order they are found
pub lower-assoc : (a b c : Fault) → lower (lower a b) c ≡ lower a (lower b c)
lower-assoc a b c = grind (arith, nat_tests)

pub emptied-both-assoc : {A B : Type 0} (a : Result (Unit {0}) Fault) (b : Result A Fault) (c : Result B Fault)
    → emptied (both (emptied (both a b)) c) ≡ emptied (both a (emptied (both b c)))
emptied-both-assoc (Ok a) (Ok b) (Ok c) = refl
emptied-both-assoc (Ok a) (Ok b) (Err z) = refl
emptied-both-assoc (Ok a) (Err y) (Ok c) = refl
emptied-both-assoc (Ok a) (Err y) (Err z) = refl
emptied-both-assoc (Err x) (Ok b) (Ok c) = refl
emptied-both-assoc (Err x) (Ok b) (Err z) = refl
emptied-both-assoc (Err x) (Err y) (Ok c) = refl
emptied-both-assoc (Err x) (Err y) (Err z) = ap Err (lower-assoc x y z)

-- of what was found only the fault counts
pub emptied-both-emptied : {A B : Type 0} (a : Result A Fault) (b : Result B Fault) → emptied (both (emptied a) b) ≡ emptied (both a b)
emptied-both-emptied (Ok a) (Ok b) = refl
emptied-both-emptied (Ok a) (Err y) = refl
emptied-both-emptied (Err x) (Ok b) = refl
emptied-both-emptied (Err x) (Err y) = refl

-- a word as it is read has the fault of the word
pub emptied-read : (read : Result (Role × Bor (List ℕ)) Fault) (word : Result (Role × List ℕ) Fault)
    → MatchResult read (λ of. word ≡ Ok (of.0, of.1.now)) (λ fault. word ≡ Err fault) → emptied read ≡ emptied word
emptied-read (Ok of) word h = ap emptied (sym h)
emptied-read (Err fault) word h = ap emptied (sym h)

-- one word further: what was found up to it, beside what the words after it have
pub found_further : (lowest more after : Result (Unit {0}) Fault) (read : Result (Role × Bor (List ℕ)) Fault) (word : Result (Role × List ℕ) Fault)
    → MatchResult read (λ of. word ≡ Ok (of.0, of.1.now)) (λ fault. word ≡ Err fault) → after ≡ emptied (both lowest read)
    → emptied (both after more) ≡ emptied (both lowest (emptied (both word more)))
found_further lowest more after read word h e =
    ap (λ r. emptied (both r more)) e
    ∙ emptied-both-assoc lowest read more
    ∙ ap (λ r. emptied (both lowest r)) (sym (emptied-both-emptied read more) ∙ ap (λ r. emptied (both r more)) (emptied-read read word h) ∙ emptied-both-emptied word more)
