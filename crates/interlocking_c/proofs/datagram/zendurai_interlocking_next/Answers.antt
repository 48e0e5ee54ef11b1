use Rattle.std.proofs.Common.{◌≡◌, ◌∙◌, ap, subst, sym, Some}
use Rattle.embedded_ixl.specs.Embedded.{EmbeddedIxlState, leaving_to}
use Rattle.interlocking_c.specs.declared.handle.Handle.{Handle}
use Rattle.interlocking_c.proofs.Kept.{is_held}
use Rattle.interlocking_c.proofs.datagram.zendurai_interlocking_next.Goals as goal

pub returns-clause-given : goal.returns-clause-given
returns-clause-given c zero it leaves there left =
    let held = ap (λ (h : Handle). h.held) (sym c.is_started.ensures.1) ∙ c.get.ensures.value in
    let same = is_held c.args.handle.now.held c.get.result.now it held there in
    c.next.ensures.given zero leaves (subst (λ (s : EmbeddedIxlState). leaving_to c.args.now s ≡ Some leaves) (sym same) left)
