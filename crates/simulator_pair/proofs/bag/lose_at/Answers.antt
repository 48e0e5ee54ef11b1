use Rattle.std.proofs.Common.{get_or, ap, sym, ◌∙◌}
use Rattle.std.proofs.Math.ListN.{set}
use Rattle.place_index.specs.Places.{IndexState, no_key}
use Rattle.rasta_core.specs.Ends.{Sent}
use Rattle.simulator_pair.specs.inside.Indexed.{keys_of}
use Rattle.simulator_pair.proofs.Copies.{keys-lost}
use Rattle.simulator_pair.proofs.bag.lose_at.Goals as goal

pub returns-clause-indexed : goal.returns-clause-indexed
returns-clause-indexed c =
    ap (λ (i : IndexState). i.keys) c.remove.ensures
    ∙ ap (λ k. set k c.args.place no_key) c.requires.indexed
    ∙ sym (ap (λ (s : Sent). keys_of (set c.args.sent.now c.args.place s)) c.lose.ensures ∙ keys-lost c.args.sent.now c.args.place (get_or c.args.sent.now c.args.place c.index-sent-place.result))
