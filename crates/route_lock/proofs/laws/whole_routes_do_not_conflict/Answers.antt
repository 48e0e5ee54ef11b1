use Rattle.std.proofs.Common.{⊎_elim, sym}
use Rattle.route_lock.proofs.laws.whole_routes_do_not_conflict.Goals as goal

pub returns : goal.returns
returns c = λ st station once sound apart a b whole also conflict.
    let holds = c.whole_routes_hold_what_they_require.ensures st station once sound in
    let here = apart a b conflict.0 whole.0 also.0 in
    let there = apart b a (λ e. conflict.0 (sym e)) also.0 whole.0 in
    ⊎_elim here.entries
    (⊎_elim (λ s. here.sections s.0 (whole.1 s.0 s.1) (also.1 s.0 s.2))
    (⊎_elim (λ d. d.3 (here.points d.0 d.1 d.2 (holds a d.0 d.1 whole d.4) (holds b d.0 d.2 also d.5)))
    (⊎_elim here.extra there.extra)))
    conflict.1
