use Rattle.std.proofs.Common.{rules, subst, ◌≢◌, ◌<◌, ◌^◌}
use Rattle.std.specs.Int.{trailing_zeros, w64}
use Rattle.bit_row.specs.Places.{IsLeast}
use Rattle.bit_row.proofs.BitLaws.{least}
use Rattle.bit_row.proofs.row.BitRow.first.Goals as goal

pub returns-in_default-clause-least : goal.returns-in_default-clause-least
returns-in_default-clause-least c =
    let fits : c.self.inside.bits < 2 ^ 64 = search rules in
    let some : c.self.inside.bits ≢ 0 = search rules in
    subst (λ s. IsLeast s (trailing_zeros w64 c.self.inside.bits)) c.self.view_is (least c.self.inside.bits some fits)
