-- What a link sees of an event of its world.
use Rattle.std.proofs.Common.{◌≡◌, ◌≢◌, refl, sym, ap, ◌∙◌, inl, inr, ℕ, suc, ◌+◌, Bool, true, false, List, [], ◌∷◌, ◌++◌, length, arith}
use Rattle.std.specs.Prelude.{◌⊎◌, ◌==◌, if◌then◌else◌}
use Rattle.std.proofs.lemmas.Bool.Decides.{nat_tests}
use Rattle.std.proofs.lemmas.List.{append-nil, length-append, length-map}
use Rattle.rasta_core_spec.specs.identity.Role.{Role}
use Rattle.rasta_core_spec.specs.identity.Role.TheVariants.{Client, Server}
use Rattle.rasta_core_spec.specs.Bag.{is_copy, without_oldest}
use Rattle.rasta_core_spec.specs.Ends.{Sent, EndState, Call}
use Rattle.rasta_core_spec.specs.Run.{Ends, called, later, lost, restarted}
use Rattle.rasta_core_spec.specs.Events.{Elsewhere, IsAmong, happened}
use Rattle.rasta_core.specs.Links.{IsAmongAll, Links, is_oldest_on, CallsOn, PassesFor, LosesAny, RestartsOn, OnLink, TwoEnds, happened_to, of_link, seen, sent_by, sent_on, without_oldest_of_all}

pub same_number : (one other : ℕ) → (one == other) ≡ true → one ≡ other
same_number one other told = grind (arith, nat_tests)

pub other_number : (one other : ℕ) → (one == other) ≡ false → one ≢ other
other_number one other told = λ same. grind (arith, nat_tests)

pub itself : (one : ℕ) → (one == one) ≡ true
itself one = grind (arith, nat_tests)

differs_back : (one other : ℕ) → (one == other) ≡ false → (other == one) ≡ false
differs_back one other told = grind (arith, nat_tests)

-- ---- the datagrams of a link

of_link_append : (link : ℕ) (earlier later : List OnLink) → of_link link (earlier ++ later) ≡ of_link link earlier ++ of_link link later
of_link_append link [] later = refl
of_link_append link (first ∷ others) later = by_link (first.link == link) refl (of_link_append link others later) where
  by_link : (mine : Bool) → (first.link == link) ≡ mine → of_link link (others ++ later) ≡ of_link link others ++ of_link link later
      → of_link link (first ∷ others ++ later) ≡ of_link link (first ∷ others) ++ of_link link later
  by_link true e inner = rw e (ap (λ (rest : List Sent). first.datagram ∷ rest) inner)
  by_link false e inner = rw e inner

own_sent : (link : ℕ) (sent : List Sent) → of_link link (sent_on link sent) ≡ sent
own_sent link [] = refl
own_sent link (first ∷ others) = rw (itself link) (ap (λ (rest : List Sent). first ∷ rest) (own_sent link others))

others_sent : (link other : ℕ) (sent : List Sent) → (link == other) ≡ false → of_link other (sent_on link sent) ≡ []
others_sent link other [] e = refl
others_sent link other (first ∷ later) e = rw e (others_sent link other later e)

-- ---- calls

same_ends : (one other : Ends) → one.time ≡ other.time → one.client ≡ other.client → one.server ≡ other.server → one.sent ≡ other.sent → one.moment ≡ other.moment → one ≡ other
same_ends one other time client server sent moment =
    ap (λ (t : ℕ). record one { time = t }) time
    ∙ ap (λ (c : EndState). record one { time = other.time; client = c }) client
    ∙ ap (λ (s : EndState). record one { time = other.time; client = other.client; server = s }) server
    ∙ ap (λ (d : List Sent). record one { time = other.time; client = other.client; server = other.server; sent = d }) sent
    ∙ ap (λ (m : ℕ). record one { time = other.time; client = other.client; server = other.server; sent = other.sent; moment = m }) moment

called_time : (who : Role) (call : Call) (ends : Ends) → (called who call ends).time ≡ ends.time
unfolding called
called_time Client call ends = refl
called_time Server call ends = refl

called_sent : (who : Role) (call : Call) (ends : Ends) → (called who call ends).sent ≡ ends.sent ++ sent_by who call ends
unfolding called sent_by
called_sent who call ends = refl

called_moment : (who : Role) (call : Call) (ends : Ends) → (called who call ends).moment ≡ ends.moment + length (sent_by who call ends)
unfolding called sent_by
called_moment who call ends = rw (length-map, length-map) refl

sent_length : (link : ℕ) (sent : List Sent) → length (sent_on link sent) ≡ length sent
sent_length link [] = refl
sent_length link (first ∷ others) = ap (λ (n : ℕ). suc n) (sent_length link others)

all_length : (link : ℕ) (earlier : List OnLink) (sent : List Sent) → length (earlier ++ sent_on link sent) ≡ length earlier + length sent
all_length link earlier sent = length-append earlier (sent_on link sent) ∙ ap (λ (n : ℕ). length earlier + n) (sent_length link sent)

pub own_call : (link : ℕ) (who : Role) (call : Call) (links : Links) → seen link (happened_to (CallsOn link who call) links) ≡ called who call (seen link links)
own_call link who call links =
    let new = called who call (seen link links)
    in let sent = sent_by who call (seen link links)
    in let own : (if link == link then (record { client = new.client; server = new.server }) else links.ends link) ≡ (record { client = new.client; server = new.server }) = rw (itself link) refl
    in same_ends _ new
    (sym (called_time who call (seen link links)))
    (ap (λ (e : TwoEnds). e.client) own)
    (ap (λ (e : TwoEnds). e.server) own)
    (of_link_append link links.sent (sent_on link sent) ∙ ap (λ (s : List Sent). of_link link links.sent ++ s) (own_sent link sent) ∙ sym (called_sent who call (seen link links)))
    (all_length link links.sent sent ∙ sym (called_moment who call (seen link links)))

pub other_call : (link other : ℕ) (who : Role) (call : Call) (links : Links) → (other == link) ≡ false
    → seen other (happened_to (CallsOn link who call) links) ≡ happened (Elsewhere (length (sent_by who call (seen link links)))) (seen other links)
other_call link other who call links differ =
    let new = called who call (seen link links)
    in let sent = sent_by who call (seen link links)
    in let theirs : (if other == link then (record { client = new.client; server = new.server }) else links.ends other) ≡ links.ends other = rw differ refl
    in same_ends _ _
    refl
    (ap (λ (e : TwoEnds). e.client) theirs)
    (ap (λ (e : TwoEnds). e.server) theirs)
    (of_link_append other links.sent (sent_on link sent) ∙ ap (λ (s : List Sent). of_link other links.sent ++ s) (others_sent link other sent (differs_back other link differ)) ∙ append-nil (of_link other links.sent))
    (all_length link links.sent sent)

-- ---- restarts

restarted_time : (who : Role) (clock first : ℕ) (ends : Ends) → ((restarted who clock first ends).time ≡ ends.time) × ((restarted who clock first ends).sent ≡ ends.sent) × ((restarted who clock first ends).moment ≡ ends.moment)
unfolding restarted
restarted_time Client clock first ends = (refl, refl, refl)
restarted_time Server clock first ends = (refl, refl, refl)

pub own_restart : (link : ℕ) (who : Role) (clock first : ℕ) (links : Links) → seen link (happened_to (RestartsOn link who clock first) links) ≡ restarted who clock first (seen link links)
own_restart link who clock first links =
    let new = restarted who clock first (seen link links)
    in let own : (if link == link then (record { client = new.client; server = new.server }) else links.ends link) ≡ (record { client = new.client; server = new.server }) = rw (itself link) refl
    in let kept = restarted_time who clock first (seen link links)
    in same_ends _ new (sym kept.0) (ap (λ (e : TwoEnds). e.client) own) (ap (λ (e : TwoEnds). e.server) own) (sym kept.1) (sym kept.2)

pub other_restart : (link other : ℕ) (who : Role) (clock first : ℕ) (links : Links) → (other == link) ≡ false → seen other (happened_to (RestartsOn link who clock first) links) ≡ seen other links
other_restart link other who clock first links differ =
    let new = restarted who clock first (seen link links)
    in let theirs : (if other == link then (record { client = new.client; server = new.server }) else links.ends other) ≡ links.ends other = rw differ refl
    in same_ends _ _ refl (ap (λ (e : TwoEnds). e.client) theirs) (ap (λ (e : TwoEnds). e.server) theirs) refl refl

-- ---- time goes on

pub all_later : (link elapsed : ℕ) (of_clients of_servers : ℕ → ℕ) (links : Links) → seen link (happened_to (PassesFor elapsed of_clients of_servers) links) ≡ later elapsed (of_clients link) (of_servers link) (seen link links)
unfolding later
all_later link elapsed of_clients of_servers links = refl

-- ---- losses

pub lost_length : (bytes : List ℕ) (sent : List OnLink) → length (without_oldest_of_all bytes sent) ≡ length sent
lost_length bytes [] = refl
lost_length bytes (first ∷ others) = by_copy (is_copy bytes first.datagram) refl (lost_length bytes others) where
  by_copy : (copy : Bool) → is_copy bytes first.datagram ≡ copy → length (without_oldest_of_all bytes others) ≡ length others → length (without_oldest_of_all bytes (first ∷ others)) ≡ length (first ∷ others)
  by_copy true e inner = rw e refl
  by_copy false e inner = rw e (ap (λ (n : ℕ). suc n) inner)

-- what the network loses is of a link, or of another
abbrev pub LosesOwn : ℕ → List ℕ → List OnLink → Type 0
LosesOwn link bytes sent = of_link link (without_oldest_of_all bytes sent) ≡ without_oldest bytes (of_link link sent)

abbrev pub LosesOther : ℕ → List ℕ → List OnLink → Type 0
LosesOther link bytes sent = of_link link (without_oldest_of_all bytes sent) ≡ of_link link sent

pub loses_own : (link : ℕ) (bytes : List ℕ) (sent : List OnLink) → is_oldest_on link bytes sent ≡ true → LosesOwn link bytes sent
loses_own link bytes [] told = refl
loses_own link bytes (first ∷ others) told = by_both (is_copy bytes first.datagram) (first.link == link) refl refl told (loses_own link bytes others) where
  by_both : (copy mine : Bool) → is_copy bytes first.datagram ≡ copy → (first.link == link) ≡ mine
      → (if copy then mine else is_oldest_on link bytes others) ≡ true
      → (is_oldest_on link bytes others ≡ true → LosesOwn link bytes others) → LosesOwn link bytes (first ∷ others)
  by_both true true e f here inner = rw (e, f) (rw e refl)
  by_both true false e f here inner = absurd (cc here)
  by_both false true e f here inner = rw (e, f) (rw e (ap (λ (rest : List Sent). first.datagram ∷ rest) (inner here)))
  by_both false false e f here inner = rw (e, f) (inner here)

pub loses_other : (link : ℕ) (bytes : List ℕ) (sent : List OnLink) → is_oldest_on link bytes sent ≡ false → LosesOther link bytes sent
loses_other link bytes [] told = refl
loses_other link bytes (first ∷ others) told = by_both (is_copy bytes first.datagram) (first.link == link) refl refl told (loses_other link bytes others) where
  by_both : (copy mine : Bool) → is_copy bytes first.datagram ≡ copy → (first.link == link) ≡ mine
      → (if copy then mine else is_oldest_on link bytes others) ≡ false
      → (is_oldest_on link bytes others ≡ false → LosesOther link bytes others) → LosesOther link bytes (first ∷ others)
  by_both true true e f here inner = absurd (cc here)
  by_both true false e f here inner = rw (e, f) refl
  by_both false true e f here inner = rw (e, f) (ap (λ (rest : List Sent). first.datagram ∷ rest) (inner here))
  by_both false false e f here inner = rw (e, f) (inner here)

pub own_lost : (link : ℕ) (bytes : List ℕ) (links : Links) → LosesOwn link bytes links.sent → seen link (happened_to (LosesAny bytes) links) ≡ lost bytes (seen link links)
unfolding lost
own_lost link bytes links own = same_ends _ _ refl refl refl own (lost_length bytes links.sent)

pub other_lost : (link : ℕ) (bytes : List ℕ) (links : Links) → LosesOther link bytes links.sent → seen link (happened_to (LosesAny bytes) links) ≡ seen link links
other_lost link bytes links other = same_ends _ _ refl refl refl other (lost_length bytes links.sent)

-- ---- one datagram

pub among_link : (link : ℕ) (one : OnLink) (sent : List OnLink) → (one.link == link) ≡ true → IsAmongAll one sent → IsAmong one.datagram (of_link link sent)
among_link link one [] mine among = absurd among
among_link link one (first ∷ others) mine among = by_place among (first.link == link) refl (λ (later : IsAmongAll one others). among_link link one others mine later) where
  by_place : (first ≡ one) ⊎ IsAmongAll one others → (first_mine : Bool) → (first.link == link) ≡ first_mine → (IsAmongAll one others → IsAmong one.datagram (of_link link others)) → IsAmong one.datagram (of_link link (first ∷ others))
  by_place (inl same) true e inner = rw e (inl (ap (λ (o : OnLink). o.datagram) same))
  by_place (inl same) false e inner = let told : (first.link == link) ≡ true = ap (λ (o : OnLink). o.link == link) same ∙ mine in cc
  by_place (inr later) true e inner = rw e (inr (inner later))
  by_place (inr later) false e inner = rw e (inner later)
