use Rattle.std.proofs.Common.{◌∷◌, [], ◌++◌, ◌∙◌, append_assoc, sym, ap, map}
use Rattle.node_drive.specs.Inside.{waiting_of_code}
use Rattle.node_drive.specs.Waiting.{Addressed, Waiting, waiting_of, waiting_one}
use Rattle.node_drive.proofs.Lists.{first_taken, map_push}
use Rattle.node_drive.proofs.Nodes.{handed_on}
use Rattle.node_drive.proofs.datagrams_sent.add_datagrams.Goals as goal

pub loop-one-preserved : goal.loop-one-preserved
loop-one-preserved g c =
    let n = g.N.NodeMachine.node in
    let before = c.loop-one.invariant in
    let one : Addressed = (c.in-Some.one.to, c.in-Some.one.datagram.items) in
    let rest = c.in-Some.ensures.rest in
    let delayed : Waiting = waiting_one c.args.behind c.args.since one in (
      before.0 ++ one ∷ [],
      ap (λ n. (before.0 ++ one ∷ []) ++ n.handed) rest ∙ first_taken before.0 (n c.args.node.now).handed (n c.loop-one.node).handed one c.in-Some.ensures.value before.1,
      ap (map waiting_of_code) c.in_ok-push_back.ensures.items
          ∙ map_push waiting_of_code c.loop-one.waiting.items _
          ∙ ap (λ l. l ++ delayed ∷ []) before.2
          ∙ append_assoc (map waiting_of_code c.args.waiting.now.items) (waiting_of c.args.behind c.args.since before.0) (delayed ∷ [])
          ∙ ap (λ l. map waiting_of_code c.args.waiting.now.items ++ l) (sym (map_push (waiting_one c.args.behind c.args.since) before.0 one)),
      handed_on (n c.args.node.now) (n c.loop-one.node) (n c.take_datagram.new.self) _ rest before.3,
    )
