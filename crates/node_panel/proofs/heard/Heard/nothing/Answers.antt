use Rattle.std.proofs.Common.{◌∙◌, false, None, ap, length, rules}
use Rattle.std.specs.Prelude.{replicate}
use Rattle.node_panel.proofs.Lists.{is_unheard}
use Rattle.node_panel.proofs.heard.Heard.nothing.Goals as goal

pub returns : goal.returns
returns c =
    is_unheard c.args.layout.now _ _ _ _ _ _ _ _ _ _ _ _ _
    (c.in_ok-vec.ensures.items_if_clones_equal (search rules) ∙ ap (λ count. replicate count false) c.links.ensures.value)
    (c.in_ok-vec-2.ensures.items_if_clones_equal (search rules) ∙ ap (λ all. replicate (length all) None) c.sections.ensures)
    (c.in_ok-vec-3.ensures.items_if_clones_equal (search rules) ∙ ap (λ all. replicate (length all) None) c.points-points.ensures)
    (c.in_ok-vec-4.ensures.items_if_clones_equal (search rules) ∙ ap (λ all. replicate (length all) None) c.signals-signals.ensures)
    (c.in_ok-vec-5.ensures.items_if_clones_equal (search rules) ∙ ap (λ all. replicate (length all) None) c.signals-signals.ensures)
    (c.in_ok-vec-6.ensures.items_if_clones_equal (search rules) ∙ ap (λ all. replicate (length all) false) c.routes.ensures)
    (c.in_ok-vec-7.ensures.items_if_clones_equal (search rules) ∙ ap (λ all. replicate (length all) false) c.routes-2.ensures)
    c.in_ok-nothing.ensures
    c.none.ensures
    (c.in_ok-vec-8.ensures.items_if_clones_equal (search rules) ∙ ap (λ count. replicate count None) c.links-2.ensures.value)
    (c.in_ok-vec-9.ensures.items_if_clones_equal (search rules) ∙ ap (λ count. replicate count None) c.links-3.ensures.value)
    c.new.ensures.items
    c.in_ok-nothing-2.ensures
