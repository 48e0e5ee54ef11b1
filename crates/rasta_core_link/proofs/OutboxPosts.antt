-- What handing out PDUs does to an outbox.
use Rattle.std.proofs.Common.{◌≡◌, ℕ, ◌+◌, List, [], ◌++◌, length, append_assoc, refl, ap}
use Rattle.std.proofs.lemmas.List.{append-nil, map-append, length-append, length-map}
use Rattle.std.proofs.lemmas.Grind.{common_steps}
use Rattle.rasta_core_link.specs.Outbox.{OutboxState, posted}
use Rattle.rasta_pdu.specs.declared.key.Key.{Key}
use Rattle.rasta_pdu.specs.declared.pdu.Pdu.{Pdu}

-- nothing handed out leaves the outbox
pub posted_nothing : (key : Key) (box : OutboxState) → posted key [] box ≡ box
unfolding posted
posted_nothing key box = ap (λ (ds : List (List ℕ)). record { datagrams = ds; capacity = box.capacity }) (append-nil box.datagrams)

-- one list of PDUs after another
pub posted_more : (key : Key) (more pdus : List Pdu) (box : OutboxState) → posted key more (posted key pdus box) ≡ posted key (pdus ++ more) box
unfolding posted
posted_more key more pdus box = ap (λ (ds : List (List ℕ)). record { datagrams = ds; capacity = box.capacity }) (simp (map-append, append_assoc))

-- how many datagrams there are then
pub length-posted : (key : Key) (pdus : List Pdu) (box : OutboxState) → length (posted key pdus box).datagrams ≡ length box.datagrams + length pdus
unfolding posted
length-posted key pdus box = simp (length-append, length-map)

pub capacity-posted : (key : Key) (pdus : List Pdu) (box : OutboxState) → (posted key pdus box).capacity ≡ box.capacity
unfolding posted
capacity-posted key pdus box = refl

pub ruleset posting = (posted_nothing, posted_more, length-posted, capacity-posted, common_steps)
