-- A verdict is told where it is so, and there alone.
use Rattle.std.proofs.Common.{◌≡◌, ◌↔◌, ◌+◌, ◌∙◌, ℕ, suc, List, ◌∷◌, Result, Ok, Err, refl, subst, sym, ap}
use Rattle.std.specs.Prelude.{IfOk}
use Rattle.simulator.specs.layout.Entries.{Site}
use Rattle.simulator.specs.simulator_spec.Tried.{Played}
use Rattle.replay_lines.specs.declared.session.Entry.{Entry}
use Rattle.replay_lines.specs.declared.agreement.Replayed.{Replayed}
use Rattle.replay_lines.specs.declared.agreement.Replayed.TheVariants.{Differs, Same}
use Rattle.replay_lines.specs.Replay.{AllAgree, DiffersBehind, Judges, agrees, behind, differs, none}
use Rattle.replay.specs.World.{AnswersOtherwiseAt, AnswersSame, IsFirst, worlds}

-- what agrees doesn't differ
never_both : {n : ℕ} {old : Played} {entries : List Entry} → AllAgree worlds old entries → DiffersBehind worlds n old entries → ⊥
never_both none at = elim at [ ]
never_both (agrees same more) (differs other) = other same
never_both (agrees same more) (behind {n = n} before later) = never_both {n = n} more later

-- there is one first entry that differs
one_differs : {n m : ℕ} {old : Played} {entries : List Entry} → DiffersBehind worlds n old entries → DiffersBehind worlds m old entries → n ≡ m
one_differs (differs other) (differs others) = refl
one_differs (differs other) (behind same later) = absurd (other same)
one_differs (behind same later) (differs other) = absurd (other same)
one_differs (behind {n = n} same later) (behind {n = m} before further) = ap suc (one_differs {n = n} {m = m} later further)

same_exactly : (first : Played) (entries : List Entry) (verdict : Replayed) → Judges worlds first entries verdict → (verdict ≡ Same) ↔ AnswersSame first entries
same_exactly first entries Same judged = (λ is. judged, λ all. refl)
same_exactly first entries (Differs number) judged = (
  λ is. subst (λ v. Judges worlds first entries v) is judged,
  λ all. absurd (never_both all judged.2),
)

differs_exactly : (first : Played) (entries : List Entry) (verdict : Replayed) → Judges worlds first entries verdict → (line : ℕ) → (verdict ≡ Differs line) ↔ AnswersOtherwiseAt line first entries
differs_exactly first entries Same judged line = (
  λ is. subst (λ v. Judges worlds first entries v) is judged,
  λ at. absurd (never_both judged at.2),
)
differs_exactly first entries (Differs number) judged line = (
  λ is. subst (λ v. Judges worlds first entries v) is judged,
  λ at. ap Differs (judged.1 ∙ (ap (λ n. n + 1) (one_differs judged.2 at.2) ∙ sym at.1)),
)

-- so it is of the answer of a call
pub told_same : {E : Type 0} (site : Site) (first : Played) (entries : List Entry) (told : Result Replayed E) → IsFirst site first → IfOk told (Judges worlds first entries)
    → IfOk told (λ verdict. (first : Played) × IsFirst site first × ((verdict ≡ Same) ↔ AnswersSame first entries))
told_same site first entries (Ok verdict) begins judged = (first, begins, same_exactly first entries verdict judged)
told_same site first entries (Err error) begins judged = tt

pub told_differs : {E : Type 0} (site : Site) (first : Played) (entries : List Entry) (told : Result Replayed E) → IsFirst site first → IfOk told (Judges worlds first entries)
    → IfOk told (λ verdict. (first : Played) × IsFirst site first × ((line : ℕ) → (verdict ≡ Differs line) ↔ AnswersOtherwiseAt line first entries))
told_differs site first entries (Ok verdict) begins judged = (first, begins, differs_exactly first entries verdict judged)
told_differs site first entries (Err error) begins judged = tt

-- a first world answers as the verdict says
pub judged : {site : Site} {entries : List Entry} (verdict : Replayed)
    → ((first : Played) × IsFirst site first × ((verdict ≡ Same) ↔ AnswersSame first entries))
    → ((first : Played) × IsFirst site first × ((line : ℕ) → (verdict ≡ Differs line) ↔ AnswersOtherwiseAt line first entries))
    → (first : Played) × IsFirst site first × Judges worlds first entries verdict
judged Same same apart = (same.0, same.1, same.2.0 refl)
judged (Differs line) same apart = (apart.0, apart.1, (apart.2 line).0 refl)
