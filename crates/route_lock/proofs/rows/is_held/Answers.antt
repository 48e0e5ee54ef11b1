use Rattle.route_lock.proofs.rows.is_held.Goals as goal

pub returns-then-same_side : goal.returns-then-same_side
returns-then-same_side c =
    let awaited = c.awaited.ensures in
    let met = c.intersects.ensures in (
      λ h. let m = met.0 h in (c.same_side.ensures.0 c.if-same_side.true, (record { 0 = m.0 }, (awaited (record { 0 = m.0 })).0 m.1, m.2)),
      λ h. met.1 (h.1.0.0, (awaited h.1.0).1 h.1.1, h.1.2),
    )
