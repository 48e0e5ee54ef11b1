use Rattle.std.proofs.Common.{◌≡◌, ◌∙◌, sym, is_some, false}
use Rattle.std.specs.Map.{lookup}
use Rattle.indexmap.proofs.CallerLemmas.{insert_entry-new}
use Rattle.layout.proofs.KnownLemmas.{not_known, is_noted}
use Rattle.layout.proofs.known.note_key.Goals as goal

pub returns : goal.returns
returns g c =
    let absent : is_some (lookup (g.K.PartialEq.eq c.args.key) c.args.known.now.entries) ≡ false = sym c.contains_key.ensures ∙ c.if-contains_key.false in
    is_noted g.K.PartialEq.eq c.args.double c.args.known.now.entries c.insert.new.self.entries c.args.key c.args.place absent
    (c.in_ok-insert.ensures.entries ∙ insert_entry-new g.K.PartialEq.eq c.args.known.now c.args.key c.args.place (not_known g.K.PartialEq.eq c.args.known.now.entries c.args.key absent))
