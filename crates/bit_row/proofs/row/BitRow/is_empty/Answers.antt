use Rattle.std.proofs.Common.{rules, subst, refl, ◌<◌, ◌^◌, ◌==◌, MatchBool}
use Rattle.std.specs.FinSet.{empty}
use Rattle.bit_row.specs.Places.{HasSome, Places}
use Rattle.bit_row.proofs.BitLaws.{some-or-none}
use Rattle.std.proofs.Common.{◌≡◌}
use Rattle.bit_row.proofs.row.BitRow.is_empty.Goals as goal

pub returns : goal.returns
returns c =
    let n = c.self.inside.bits in
    let fits : n < 2 ^ 64 = search rules in
    subst (λ (s : Places). MatchBool (n == 0) (s ≡ empty) (HasSome s)) c.self.view_is (some-or-none n (n == 0) refl fits)
