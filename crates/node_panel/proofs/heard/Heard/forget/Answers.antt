use Rattle.std.proofs.Common.{◌∙◌, false, None, refl, ap}
use Rattle.node_panel.specs.Heard.{HeardView, forgotten}
use Rattle.node_panel.proofs.Lists.{all_put, is_forgotten}
use Rattle.node_panel.proofs.heard.Heard.forget.Goals as goal

pub returns : goal.returns
returns c =
    let i = c.self.inside in
    let before : HeardView = record {
      millis = i.millis;
      joined = i.joined;
      mode = i.mode;
      links = i.links.items;
      sections = i.sections.items;
      points = i.points.items;
      authorities = i.authorities.items;
      indications = i.indications.items;
      routes = i.routes.items;
      released = i.released.items;
      closed = i.closed;
      counts = i.counts;
      first_lost = i.first_lost.items;
      second_lost = i.second_lost.items;
      asked = i.asked.items;
      numbers = i.numbers;
      questioned = i.questioned;
    } in
    is_forgotten before _ _ _ _ _ _ _ _ _ _ _ _ _ _
    (all_put c.self.inside.links _ _ false c.deref_mut.ensures.value c.put_all.ensures)
    (all_put c.self.inside.sections _ _ None c.deref_mut-2.ensures.value c.put_all-2.ensures)
    (all_put c.self.inside.points _ _ None c.deref_mut-3.ensures.value c.put_all-3.ensures)
    (all_put c.self.inside.authorities _ _ None c.deref_mut-4.ensures.value c.put_all-4.ensures)
    (all_put c.self.inside.indications _ _ None c.deref_mut-5.ensures.value c.put_all-5.ensures)
    (all_put c.self.inside.routes _ _ false c.deref_mut-6.ensures.value c.put_all-6.ensures)
    (all_put c.self.inside.released _ _ false c.deref_mut-7.ensures.value c.put_all-7.ensures)
    c.forget.ensures
    c.none-self-inside.ensures
    (all_put c.self.inside.first_lost _ _ None c.deref_mut-8.ensures.value c.put_all-8.ensures)
    (all_put c.self.inside.second_lost _ _ None c.deref_mut-9.ensures.value c.put_all-9.ensures)
    c.clear.ensures.items
    c.forget-2.ensures
    refl
    ∙ ap forgotten c.self.view_is
