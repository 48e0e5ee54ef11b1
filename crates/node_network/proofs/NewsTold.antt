-- What is told of networks, one node after the other.
use Rattle.std.proofs.Common.{◌≡◌, ◌∙◌, ◌+◌, ◌<◌, ℕ, suc, List, ◌++◌, length, drop, slice_get, sym, ap, append_assoc, arith}
use Rattle.std.proofs.lemmas.List.{drop_more}
use Rattle.std.proofs.lemmas.Option.{slice_get-get_or}
use Rattle.network_watch.specs.Links.{new_link}
use Rattle.network_watch.specs.declared.link_watch.LinkWatch.{LinkWatch}
use Rattle.network_watch.specs.declared.network_watch.Telling.{Telling}
use Rattle.node_drive.specs.layout.Entries.{Site}
use Rattle.node_network.specs.News.{lines_from, news_text, node_lines}

-- those of a node, and those after it
lines_split : (site : Site) (telling : Telling) (node : ℕ) (links : List LinkWatch) → node < length links
    → lines_from site telling node (drop node links) ≡ node_lines site telling node (slice_get links node) ++ lines_from site telling (node + 1) (drop (node + 1) links)
lines_split site telling node links within =
    let next : suc node ≡ node + 1 = omega arith in
    ap (λ l. lines_from site telling node l) (drop_more links node new_link within)
    ∙ ap (λ one. node_lines site telling node one ++ lines_from site telling (suc node) (drop (node + 1) links)) (sym (slice_get-get_or links node new_link within))
    ∙ ap (λ n. node_lines site telling node (slice_get links node) ++ lines_from site telling n (drop (node + 1) links)) next

pub told_next : (site : Site) (telling : Telling) (node : ℕ) (links : List LinkWatch) (old new : List ℕ) → node < length links → new ≡ old ++ node_lines site telling node (slice_get links node)
    → old ++ lines_from site telling node (drop node links) ≡ news_text site telling links → new ++ lines_from site telling (node + 1) (drop (node + 1) links) ≡ news_text site telling links
told_next site telling node links old new within added before =
    ap (λ t. t ++ lines_from site telling (node + 1) (drop (node + 1) links)) added
    ∙ (append_assoc old (node_lines site telling node (slice_get links node)) (lines_from site telling (node + 1) (drop (node + 1) links))
    ∙ (ap (λ t. old ++ t) (sym (lines_split site telling node links within)) ∙ before))
