use Rattle.std.proofs.Common.{rules, ◌++◌, ◌∷◌, [], subst, sym}
use Rattle.capture_file.specs.Journeys.{Sent}
use Rattle.capture_file.specs.Captures.{IsCapture}
use Rattle.capture_file.proofs.Files.{one_more}
use Rattle.capture_file.proofs.block.push_datagram.Goals as goal

pub returns-clause-exact : goal.returns-clause-exact
returns-clause-exact c = search rules

pub returns-clause-is : goal.returns-clause-is
returns-clause-is c = λ sent is.
    let one : Sent = record { journey = c.args.journey.now; payload = c.args.payload.now; comment = c.args.comment.now } in
    subst (λ b. IsCapture (sent ++ one ∷ []) b) (sym (returns-clause-exact c))
    (one_more sent one c.args.file.now.items c.requires.0 c.requires.1 c.in_ok-packet.ensures.is.is.addresses is)
