use Rattle.std.proofs.Common.{◌∙◌, length, refl, sym}
use Rattle.std.proofs.lemmas.Bool.{false≢true}
use Rattle.std.proofs.lemmas.Option.{slice_get_read}
use Rattle.ixl_state.proofs.RouteFound.{none-at-all, none-more}
use Rattle.ixl_state.proofs.route_locks.some_holds_with_authority.Goals as goal

pub returns-then-holds_with_authority : goal.returns-then-holds_with_authority
returns-then-holds_with_authority c =
    let routes = c.args.routes.now in
    let n = c.loop-number.number in
    let one = c.index-routes-number.result in
    ((λ t. (n, one, slice_get_read routes (length routes) n one refl c.loop-number-test.true c.index-routes-number.is, c.holds_with_authority.ensures.0 c.if-holds_with_authority.true)), (λ h. refl))

pub loop-number-preserved : goal.loop-number-preserved
loop-number-preserved c =
    none-more c.args.locks.now c.args.routes.now c.args.point c.loop-number.number c.index-routes-number.result c.loop-number-test.true c.index-routes-number.is
    (λ h. false≢true (sym c.if-holds_with_authority.false ∙ c.holds_with_authority.ensures.1 h)) c.loop-number.invariant

pub returns : goal.returns
returns c =
    ((λ h. absurd (false≢true h)), (λ h. absurd (none-at-all c.args.locks.now c.args.routes.now c.args.point c.loop-number.number c.loop-number-test.false c.loop-number.invariant h)))
