-- What steps of an end and of a pair share.
use Rattle.std.proofs.Common.{◌≡◌, refl, sym, ap, ◌∙◌, ℕ, ◌+◌, Bool, List, [], ◌++◌, length, arith, Option}
use Rattle.std.proofs.lemmas.List.{append-nil, length-append, length-map}
use Rattle.std.proofs.lemmas.Grind.{common_steps}
use Rattle.rasta_core.specs.Outbox.{OutboxState, posted}
use Rattle.rasta_core.specs.State.{is_open}
use Rattle.rasta_core.specs.Ends.{EndState, Outcome, end_after}
use Rattle.rasta_pdu.specs.declared.key.Key.{Key}
use Rattle.rasta_pdu.specs.declared.pdu.Pdu.{Pdu}
use Rattle.simulator_pair.specs.inside.Seen.{noted, concluded}

pub ruleset stepping = (append-nil, length-map, common_steps)

concluded_plainly : (end : EndState) (made : Outcome) (moment : ℕ) → concluded (is_open end.link.phase) made.enters made.given made.taken (moment + length made.pdus) (record end { link = made.link }) ≡ end_after made moment end
unfolding concluded noted end_after
concluded_plainly end made moment = refl

-- what the code notes after a call is the end after it
pub concluded-end : (end : EndState) (made : Outcome) (moment count : ℕ) (was_open : Bool) (enters : Option ℕ) (given taken : List (List ℕ)) → was_open ≡ is_open end.link.phase → enters ≡ made.enters → given ≡ made.given → taken ≡ made.taken → count ≡ length made.pdus → concluded was_open enters given taken (moment + count) (record end { link = made.link }) ≡ end_after made moment end
concluded-end end made moment count was_open enters given taken open-is enters-is given-is taken-is count-is =
    let mid = record end { link = made.link }
    in ap (λ w. concluded w enters given taken (moment + count) mid) open-is
    ∙ ap (λ e. concluded (is_open end.link.phase) e given taken (moment + count) mid) enters-is
    ∙ ap (λ g. concluded (is_open end.link.phase) made.enters g taken (moment + count) mid) given-is
    ∙ ap (λ t. concluded (is_open end.link.phase) made.enters made.given t (moment + count) mid) taken-is
    ∙ ap (λ n. concluded (is_open end.link.phase) made.enters made.given made.taken (moment + n) mid) count-is
    ∙ concluded_plainly end made moment

length-posted : (key : Key) (pdus : List Pdu) (box : OutboxState) → length (posted key pdus box).datagrams ≡ length box.datagrams + length pdus
unfolding posted
length-posted key pdus box = simp (length-append, length-map)

-- how many datagrams stand in an outbox that was empty
pub length-posted_alone : (key : Key) (pdus : List Pdu) (box after : OutboxState) → box.datagrams ≡ [] → after ≡ posted key pdus box → length after.datagrams ≡ length pdus
length-posted_alone key pdus box after empty posted-is =
    ap (λ b. length b.datagrams) posted-is ∙ length-posted key pdus box ∙ ap (λ xs. length xs + length pdus) empty ∙ grind arith

pub capacity-posted_after : (key : Key) (pdus : List Pdu) (box after : OutboxState) → after ≡ posted key pdus box → after.capacity ≡ box.capacity
unfolding posted
capacity-posted_after key pdus box after posted-is = ap (λ b. b.capacity) posted-is
