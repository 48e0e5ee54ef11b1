-- The lines of a file stand where they may.
use Rattle.std.proofs.Common.{◌≡◌, ℕ, Bool, true, false, List, [], ◌∷◌, ◌++◌, Result, Ok, Err, refl, subst, if◌then◌else◌}
use Rattle.std.specs.List.{list_all, list_any}
use Rattle.replay_words.specs.declared.fault.Fault.{Fault}
use Rattle.replay_words.specs.declared.fault.Fault.TheVariants.{Name, Order}
use Rattle.replay_words.specs.Fault.{◌>>=◌}
use Rattle.replay_words.specs.Cut.{is_passed_over}
use Rattle.ixl_spec.specs.layout.Entries.{Site}
use Rattle.replay_lines.specs.declared.line.SimLine.{SimLine}
use Rattle.replay_lines.specs.declared.line.SimLine.TheVariants as said
use Rattle.replay_lines.specs.declared.text.SessionFault.{SessionFault}
use Rattle.replay_lines.specs.Line.{line}
use Rattle.replay_lines.specs.Outset.{AllStandBehind, StandsBehind, begins_same, is_begun, may_stand}
use Rattle.replay_lines.specs.Text.{at_line, before, line_behind, said as lines_behind}

same_Ok : {A E : Type 0} (one other : A) → ◌≡◌ {A = Result A E} (Ok one) (Ok other) → one ≡ other
same_Ok one other e = cc

no_Ok : {A E : Type 0} (one : A) (fault : E) → ◌≡◌ {A = Result A E} (Err fault) (Ok one) → ⊥
no_Ok one fault e = cc (e)

-- ---- one line

begun_stands : (first_alone named : Bool) → ◌≡◌ {A = Result (Unit {0}) Fault} (if named then Err Name else if first_alone then Ok tt else Err Order) (Ok tt) → (first_alone ≡ true) × (named ≡ false)
begun_stands first_alone true e = absurd (no_Ok tt Name e)
begun_stands true false e = (refl, refl)
begun_stands false false e = absurd (no_Ok tt Order e)

stands : (earlier : List SimLine) (this : SimLine) → may_stand earlier this ≡ Ok tt → StandsBehind earlier this
stands earlier (said.Begins this) may = begun_stands (list_all is_begun earlier) (list_any (begins_same this) earlier) may
stands earlier (said.Event event) may = tt
stands earlier (said.Flow length) may = tt
stands earlier said.Picture may = tt

stands_checked : (earlier : List SimLine) (this that : SimLine) (verdict : Result (Unit {0}) Fault) → may_stand earlier that ≡ verdict → (verdict >>= (λ checked. Ok that)) ≡ Ok this → StandsBehind earlier this
stands_checked earlier this that (Ok checked) is e = subst (StandsBehind earlier) (same_Ok that this e) (stands earlier that is)
stands_checked earlier this that (Err fault) is e = absurd (no_Ok this fault e)

stands_read : (earlier : List SimLine) (this : SimLine) (read : Result SimLine Fault) → (read >>= (λ that. may_stand earlier that >>= (λ checked. Ok that))) ≡ Ok this → StandsBehind earlier this
stands_read earlier this (Ok that) e = stands_checked earlier this that (may_stand earlier that) refl e
stands_read earlier this (Err fault) e = absurd (no_Ok this fault e)

-- ---- all lines

module _ (site : Site) (earlier : List SimLine) (more : List (ℕ × List ℕ))
    (on : (this : SimLine) (later : List SimLine) → lines_behind site (earlier ++ this ∷ []) more ≡ Ok later → AllStandBehind (earlier ++ this ∷ []) later) where
  behind_this : (number : ℕ) (this : SimLine) (rest : List SimLine) → StandsBehind earlier this → (left : Result (List SimLine) SessionFault) → lines_behind site (earlier ++ this ∷ []) more ≡ left
      → at_line number (Ok this) left ≡ Ok rest → AllStandBehind earlier rest
  behind_this number this rest here (Ok later) is e = subst (AllStandBehind earlier) (same_Ok (this ∷ later) rest e) (here, on this later is)
  behind_this number this rest here (Err fault) is e = absurd (no_Ok rest fault e)

  behind_line : (number : ℕ) (text : List ℕ) (rest : List SimLine) (read : Result SimLine Fault) → line_behind site earlier text ≡ read
      → before number read (λ this. lines_behind site (earlier ++ this ∷ []) more) ≡ Ok rest → AllStandBehind earlier rest
  behind_line number text rest (Ok this) is e = behind_this number this rest (stands_read earlier this (line site text) is) (lines_behind site (earlier ++ this ∷ []) more) refl e
  behind_line number text rest (Err fault) is e = absurd (no_Ok rest _ e)

  behind_both : (number : ℕ) (text : List ℕ) (rest : List SimLine) (passed : Bool) → ((later : List SimLine) → lines_behind site earlier more ≡ Ok later → AllStandBehind earlier later)
      → (if passed then lines_behind site earlier more else before number (line_behind site earlier text) (λ this. lines_behind site (earlier ++ this ∷ []) more)) ≡ Ok rest
      → AllStandBehind earlier rest
  behind_both number text rest true same e = same rest e
  behind_both number text rest false same e = behind_line number text rest (line_behind site earlier text) refl e

pub all_stand : (site : Site) (numbered : List (ℕ × List ℕ)) (earlier rest : List SimLine) → lines_behind site earlier numbered ≡ Ok rest → AllStandBehind earlier rest
all_stand site [] earlier rest e = subst (AllStandBehind earlier) (same_Ok [] rest e) tt
all_stand site (l ∷ more) earlier rest e =
    behind_both site earlier more (λ this later is. all_stand site more (earlier ++ this ∷ []) later is)
    l.0 l.1 rest (is_passed_over l.1) (λ later is. all_stand site more earlier later is) e
