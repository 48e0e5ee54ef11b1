use Rattle.std.proofs.Common.{refl}
use Rattle.std.proofs.lemmas.Result.{on_ok_weaker}
use Rattle.lane_chart.proofs.picture.add_named.Goals as goal

pub returns : goal.returns
returns c =
    on_ok_weaker c.add_group.result (λ more. record { face = _; is = refl; added = more })
    (c.add_group.ensures _ _ c.from_str-id.ensures.ok c.from_str-title.ensures.ok)
