use Rattle.std.proofs.Common.{◌≡◌, ◌++◌, drop}
use Rattle.std.specs.Prelude.{string_bytes}
use Rattle.node_network.specs.News.{lines_from, news_text}
use Rattle.node_network.proofs.networks_seen.NetworksSeen.text.Given as goal

-- what was told so far, and after it what is told of the nodes that are left
abbrev pub invariant-loop-node : goal.invariant-loop-node
invariant-loop-node l = string_bytes l.text ++ lines_from l.self.layout.now l.telling l.node (drop l.node l.self.watch) ≡ news_text l.self.layout.now l.telling l.self.watch
