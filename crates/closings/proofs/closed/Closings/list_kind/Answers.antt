use Rattle.std.proofs.Common.{◌∙◌, [], ◌∷◌, ◌++◌, append_assoc, filter, sym, ap}
use Rattle.closings.specs.Closed.{is_closed}
use Rattle.closings.specs.Things.{first_things, thing_at}
use Rattle.closings.proofs.Listed.{listed_more}
use Rattle.closings.proofs.closed.Closings.list_kind.Goals as goal

pub loop-place-preserved : goal.loop-place-preserved
loop-place-preserved c =
    let p = is_closed c.args.self.now in
    let before = c.args.things.now.items in
    let first = filter p (first_things c.args.kind c.loop-place.place) in
    let one = filter p (thing_at c.args.kind c.loop-place.place ∷ []) in
    c.in_ok-list_one.ensures
    ∙ ap (λ t. c.loop-place.things.items ++ filter p (t ∷ [])) c.thing_at.ensures
    ∙ ap (λ listed. listed ++ one) c.loop-place.invariant
    ∙ append_assoc before first one
    ∙ ap (λ more. before ++ more) (sym (listed_more p c.args.kind c.loop-place.place))
