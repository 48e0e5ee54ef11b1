-- What a route with authority holds.
use Rattle.std.proofs.Common.{◌≡◌, ℕ, ◌<◌, true, drop, refl, sym, subst}
use Rattle.std.specs.List.{Contains}
use Rattle.std.proofs.lemmas.Bool.{false≢true}
use Rattle.ixl_state.specs.ixl_spec.Due.{HoldsPoint, HoldsSection}
use Rattle.ixl_state.specs.ixl_spec.Table.{Need, Row}
use Rattle.ixl_state.specs.ixl_spec.View.{freed_sections, has_authority, is_set}
use Rattle.ixl_state.specs.ixl_spec.declared.phase.Phase.{Phase}
use Rattle.ixl_state.specs.ixl_spec.declared.phase.Phase.TheVariants as phase

pub nothing_freed : (p : Phase) → has_authority p ≡ true → freed_sections p ≡ 0
nothing_freed phase.Free is = absurd (false≢true is)
nothing_freed phase.Waiting is = absurd (false≢true is)
nothing_freed phase.Proceeding is = refl
nothing_freed phase.Withdrawn is = refl
nothing_freed (phase.Ended clock done) is = absurd (false≢true is)

authority_set : (p : Phase) → has_authority p ≡ true → is_set p ≡ true
authority_set phase.Free is = absurd (false≢true is)
authority_set phase.Waiting is = absurd (false≢true is)
authority_set phase.Proceeding is = refl
authority_set phase.Withdrawn is = refl
authority_set (phase.Ended clock done) is = absurd (false≢true is)

pub all_sections : (row : Row) (p : Phase) (section : ℕ) → has_authority p ≡ true → Contains row.sections section → HoldsSection row p section
all_sections row p section is within =
    (authority_set p is, subst (λ n. Contains (drop n row.sections) section) (sym (nothing_freed p is)) within)

pub all_points : (row : Row) (p : Phase) (need : Need) → has_authority p ≡ true → Contains row.needs need → 0 < need.until → HoldsPoint row p need.point need.side
all_points row p need is within some =
    (authority_set p is, (need, within, refl, refl, subst (λ n. n < need.until) (sym (nothing_freed p is)) some))
