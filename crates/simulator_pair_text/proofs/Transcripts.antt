-- Lines written one after the other.
use Rattle.std.proofs.Common.{◌≡◌, ℕ, List, [], ◌∷◌, ◌++◌, Option, Some, None, Result, Ok, Err, ap, sym, ◌∙◌, subst, Bool, false}
use Rattle.std.specs.Prelude.{OnOk, cond}
use Rattle.std.specs.Io.KnownBytes.{Appends, Keeps}
use Rattle.std.proofs.lemmas.List.{append_assoc, append-nil}
use Rattle.simulator_pair_text.specs.declared.line.PairLine.{PairLine}
use Rattle.simulator_pair_text.specs.declared.text.LineFault.{LineFault}
use Rattle.simulator_pair_text.specs.Flow.{Flowing}
use Rattle.replay_words.specs.declared.fault.Fault.{Fault}
use Rattle.replay_words.specs.Cut.{is_passed_over}
use Rattle.simulator_pair_text.specs.Line.{line as read}
use Rattle.simulator_pair_text.specs.Text.{at_line, said}
use Rattle.simulator_pair_text.specs.Transcript.{Writes, Transcript, beginning, feed, line}

-- nothing was written yet
pub appends-none : (known : Option (List ℕ)) → Appends known known []
appends-none None = tt
appends-none (Some bytes) = sym (append-nil bytes)

-- known bytes grow twice
pub appends-twice : (a b c : Option (List ℕ)) (first second : List ℕ) → Appends a b first → Appends b c second → Appends a c (first ++ second)
appends-twice None b c first second p q = tt
appends-twice (Some xs) None c first second p q = absurd p
appends-twice (Some xs) (Some ys) None first second p q = absurd q
appends-twice (Some xs) (Some ys) (Some zs) first second p q = q ∙ ap (λ front. front ++ second) p ∙ append_assoc xs first second

-- what is flushed stays
pub appends-kept : (a b c : Option (List ℕ)) (written : List ℕ) → Appends a b written → Keeps b c → Appends a c written
appends-kept None b c written p q = tt
appends-kept (Some xs) None c written p q = absurd p
appends-kept (Some xs) (Some ys) None written p q = absurd q
appends-kept (Some xs) (Some ys) (Some zs) written p q = q ∙ p

-- What was written so far goes on to a transcript of the whole text, whatever the lines that are left write.
abbrev pub GoesOn : Result (List PairLine) LineFault → List ℕ → Flowing → Result (List PairLine) LineFault → Type 0
GoesOn whole written now left =
    (later : List PairLine) (rest : List ℕ) → left ≡ Ok later → Transcript now later rest
    → (all : List PairLine) × (whole ≡ Ok all) × Transcript beginning all (written ++ rest)

pub goes-on-begins : (whole : Result (List PairLine) LineFault) → GoesOn whole [] beginning whole
goes-on-begins whole later rest e t = (later, e, t)

pub goes-on-further : (whole left : Result (List PairLine) LineFault) (number : ℕ) (this : PairLine) (written text : List ℕ) (now next : Flowing)
    → GoesOn whole written now (at_line number (Ok this) left) → Writes now this text next → GoesOn whole (written ++ text) next left
goes-on-further whole left number this written text now next before writes later rest e t =
    let found = before (this ∷ later) (text ++ rest) (ap (at_line number (Ok this)) e) (line writes t)
    in (found.0, found.1, subst (Transcript beginning found.0) (sym (append_assoc written text rest)) found.2)

-- what a line writes
pub wrote : {E : Type 0} (result : Result (Unit {0}) E) (old new : Option (List ℕ)) (was is : Flowing) (said : PairLine) (text : List ℕ)
    → OnOk result (Appends old new (feed text)) → Writes was said (feed text) is
    → OnOk result ((written : List ℕ) × Writes was said written is × Appends old new written)
wrote (Ok done) old new was is said text bytes writes = (feed text, writes, bytes)
wrote (Err why) old new was is said text bytes writes = tt

-- a line that isn't passed over, and those after it
pub said-line : (lines later : List (ℕ × List ℕ)) (number : ℕ) (text : List ℕ) (this : PairLine) → lines ≡ (number, text) ∷ later
    → is_passed_over text ≡ false → read text ≡ Ok this → said lines ≡ at_line number (Ok this) (said later)
said-line lines later number text this e stays reads =
    ap said e
    ∙ ap (λ (over : Bool). cond over (said later) (at_line number (read text) (said later))) stays
    ∙ ap (λ (r : Result PairLine Fault). at_line number r (said later)) reads

-- a faulty line that isn't passed over
pub said-fault : (lines later : List (ℕ × List ℕ)) (number : ℕ) (text : List ℕ) (fault : Fault) → lines ≡ (number, text) ∷ later
    → is_passed_over text ≡ false → read text ≡ Err fault → said lines ≡ Err (record { line = number; fault = fault })
said-fault lines later number text fault e stays reads =
    ap said e
    ∙ ap (λ (over : Bool). cond over (said later) (at_line number (read text) (said later))) stays
    ∙ ap (λ (r : Result PairLine Fault). at_line number r (said later)) reads
