use Rattle.std.proofs.Common.{◌≡◌, ◌≤◌, ◌+◌, ◌++◌, length, length-append, arith}
use Rattle.std.proofs.KnownBytes.{Consumes-trans}
use Rattle.limited_text.proofs.readers.bytes_up_to.Goals as goal

-- what was read before stays taken, also where the system gives no more
pub returns-in_err-append-clause-taken : goal.returns-in_err-append-clause-taken
returns-in_err-append-clause-taken g c =
    let before = c.loop.bytes.items in
    let more = c.append.ensures.appended in
    let few = more.1 in
    let so_far = c.loop.invariant.0 in
    let longer = length-append before more.0 in
    (before ++ more.0, omega (arith, few, so_far, longer), Consumes-trans _ _ _ before more.0 c.loop.invariant.1 more.2)
