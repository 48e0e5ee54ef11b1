use Rattle.std.proofs.lemmas.Bool.Decides.{Decides-at}
use Rattle.station_layout.proofs.ReasonLaws.{one_lists_is, require_differently_is, same_entry_is, share_section_is}
use Rattle.station_layout.proofs.conflict_reasons.reasons.Goals as goal

pub returns : goal.returns
returns c =
    let l = c.args.table.now in
    let first = c.masks-first.ensures in
    let second = c.masks-second.ensures in
    record {
      entry = same_entry_is l c.args.a c.args.b _ _ first second c.requires.first c.requires.second;
      section = share_section_is l c.args.a c.args.b _ _ first second _ c.intersects.ensures;
      point = require_differently_is l c.args.a c.args.b _ _ first second _ _ c.intersects-2.ensures c.intersects-3.ensures;
      extra = one_lists_is l c.args.a c.args.b _ _ first second _ _ (Decides-at _ _ c.contains.ensures ((λ h. h), λ h. h)) (Decides-at _ _ c.contains-2.ensures ((λ h. h), λ h. h));
    }
