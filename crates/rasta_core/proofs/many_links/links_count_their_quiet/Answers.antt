use Rattle.rasta_core.specs.Links.{start_of}
use Rattle.rasta_core.proofs.Quiet.{link_anew, link_left, link_stays}
use Rattle.rasta_core.proofs.many_links.links_count_their_quiet.Goals as goal

pub returns-clause-made : goal.returns-clause-made
returns-clause-made c = λ count names start are link below. c.quiet_is_counted.ensures.made (names link) (start_of link start) (are.each link below)

pub returns-clause-made_anew : goal.returns-clause-made_anew
returns-clause-made_anew c = link_anew c.quiet_is_counted.ensures.made_anew

pub returns-clause-left : goal.returns-clause-left
returns-clause-left c = link_left c.quiet_is_counted.ensures.left

pub returns-clause-kept : goal.returns-clause-kept
returns-clause-kept c = link_stays c.quiet_is_counted.ensures.kept
