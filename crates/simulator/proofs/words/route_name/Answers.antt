use Rattle.std.proofs.Common.{◌≡◌, ◌∙◌, refl, sym, subst, length, List, Some, None, slice_get}
use Rattle.std.proofs.lemmas.Option.{slice_get_past, slice_get_read}
use Rattle.ixl_state.specs.layout.Entries.{RouteEntry}
use Rattle.simulator.proofs.Lines.{named, unnamed}
use Rattle.simulator.proofs.words.route_name.Goals as goal

pub returns-in-Some : goal.returns-in-Some
returns-in-Some c =
    let number = c.args.route.0
    in let found = c.in-Some.ensures.lookup
    in let lent : slice_get c.routes.result.now number ≡ Some c.in-Some.route.now = slice_get_read c.routes.result.now (length c.routes.result.now) number c.in-Some.route.now refl found.3.0 found.1
    in let at : slice_get c.args.layout.now.routes number ≡ Some c.in-Some.route.now = subst (λ (l : List RouteEntry). slice_get l number ≡ Some c.in-Some.route.now) c.routes.ensures lent
    in c.as_str.ensures ∙ c.name.ensures ∙ sym (named c.args.layout.now.routes number c.in-Some.route.now at)

pub returns-in-None : goal.returns-in-None
returns-in-None c =
    let number = c.args.route.0
    in let lent : slice_get c.routes.result.now number ≡ None = slice_get_past c.routes.result.now number c.in-None.ensures.lookup.3
    in let at : slice_get c.args.layout.now.routes number ≡ None = subst (λ (l : List RouteEntry). slice_get l number ≡ None) c.routes.ensures lent
    in sym (unnamed c.args.layout.now.routes number at)
