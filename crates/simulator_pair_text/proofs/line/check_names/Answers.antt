use Rattle.std.proofs.Common.{rules, ◌≡◌, sym, ◌∙◌, ap}
use Rattle.replay_words.specs.Fault.{both}
use Rattle.simulator_pair_text.specs.Line.{named, names}
use Rattle.simulator_pair_text.proofs.Names.{emptied, found_further}
use Rattle.simulator_pair_text.proofs.line.check_names.Goals as goal

pub loop-word-preserved : goal.loop-word-preserved
loop-word-preserved c =
    let found : c.map-lowest.result ≡ emptied (both c.loop-word.lowest c.named.result) = rw (← c.both.ensures) (search rules) in
    let further = found_further c.loop-word.lowest (names c.next.new.self) c.map-lowest.result c.named.result (named c.in-Some.word.now) c.named.ensures found in
    further ∙ ap (λ ws. emptied (both c.loop-word.lowest (names ws))) (sym c.in-Some.ensures.steps) ∙ c.loop-word.invariant
