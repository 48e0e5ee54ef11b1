-- The rounds of a pair are, from the second on, good rounds of two ends.
use Rattle.std.proofs.Common.{◌≡◌, ℕ, zero, suc, ◌∙◌, ◌+◌, ◌*◌, ◌≤◌, ◌<◌, Bool, true, false, ◌&&◌, not, nat_le, nat_lt, List, [], ◌∷◌, ◌++◌, append_assoc, append-nil, length, drop, Option, Some, None, if◌then◌else◌, refl, sym, ap, subst, arith}
use Rattle.std.specs.Prelude.{◌||◌, ◌-◌, is_none, slice_get}
use Rattle.std.specs.Str.{bytes_eq}
use Rattle.std.proofs.lemmas.Bool.Decides.{nat_tests}
use Rattle.std.proofs.lemmas.Slice.Eq.{bytes_eq-Decides}
use Rattle.rasta_core_spec.specs.Bag.{is_alive_copy, lifetime, newest_copy}
use Rattle.rasta_core_spec.specs.identity.Role.{Role}
use Rattle.rasta_core_spec.specs.identity.Role.TheVariants as role
use Rattle.rasta_core_spec.specs.Each.{Each}
use Rattle.rasta_core_spec.specs.Ends.{Sent, Call, Ticks, Opens, Receives, end_later}
use Rattle.rasta_core_spec.specs.Run.{Ends, called, later}
use Rattle.rasta_core_spec.specs.Events.{Event, Calls, MayCall, happened, run}
use Rattle.rasta_core_spec.specs.Names as names_of
use Rattle.rasta_core_recovery.specs.Rounds.{Flow, can_come, comings, own_work, good_round, good_rounds}
use Rattle.simulator_pair.specs.Pair.{PairState, stepped}
use Rattle.simulator_pair.specs.Events.{clock_limit, connection_of, copy_of, happens, refusal, refusal_of_delivery, refusal_of_time}
use Rattle.simulator_pair.specs.Theorem.{names}
use Rattle.simulator_pair.specs.declared.event.PairEvent.TheVariants as event
use Rattle.simulator_pair_text.specs.Flow.{Flowing, arrived, arriving, arriving_from, partner_of, round, rounds, tried}
use Rattle.simulator_pair_recovery.specs.Recovery.{HasTime}
use Rattle.simulator_pair_recovery.proofs.Reached.{Laws, Reached, reached_timely, reached_stepped, reached_then, tried_reached, may_receive, none_is}
use Rattle.simulator_pair_recovery.proofs.Fresh.{HandsOut, WrittenIsShort, IsFresh, Adds, adds_none, adds_then, called_adds}
use Rattle.simulator_pair_recovery.proofs.Alike.{AlikeSent, AllAlike, Alike, SameCall, ticks, opens, receives, called_alike, later_alike}

-- ---- what is found of a datagram that is under way

pub found_later : (time : ℕ) (bytes : List ℕ) (first : Sent) (later : List Sent) (copy : Sent) → newest_copy time bytes later ≡ Some copy → newest_copy time bytes (first ∷ later) ≡ Some copy
found_later time bytes first later copy found = rw found refl

pub found_first : (time : ℕ) (bytes : List ℕ) (first : Sent) (later : List Sent) → newest_copy time bytes later ≡ None → is_alive_copy time bytes first ≡ true → newest_copy time bytes (first ∷ later) ≡ Some first
found_first time bytes first later none_later alive = rw (none_later, alive) refl

-- some copy is found of one that is alive
has_copy : (time : ℕ) (d : Sent) (front rest : List Sent) → is_alive_copy time d.bytes d ≡ true → (copy : Sent) × (newest_copy time d.bytes (front ++ d ∷ rest) ≡ Some copy)
has_copy time d [] rest alive = choose (newest_copy time d.bytes rest) refl
  where
    choose : (o : Option Sent) → newest_copy time d.bytes rest ≡ o → (copy : Sent) × (newest_copy time d.bytes (d ∷ rest) ≡ Some copy)
    choose None e = (d, found_first time d.bytes d rest e alive)
    choose (Some copy) e = (copy, found_later time d.bytes d rest copy e)
has_copy time d (x ∷ front) rest alive = let found = has_copy time d front rest alive in (found.0, found_later time d.bytes x (front ++ d ∷ rest) found.0 found.1)

pub get_after : (front rest : List Sent) (d : Sent) → slice_get (front ++ d ∷ rest) (length front) ≡ Some d
get_after [] rest d = refl
get_after (x ∷ front) rest d = get_after front rest d

-- it can still come 10 ms after this time, and is short
pub record Comes (time : ℕ) (d : Sent) : Type 0 where
  pub in_time : nat_le (time + 10000) (d.at + lifetime) ≡ true
  pub there : d.is_lost ≡ false
  pub short : length d.bytes ≤ 225

fresh_comes : (time : ℕ) (d : Sent) → IsFresh time d → Comes time d
fresh_comes time d is = record { in_time = in_time; there = is.there; short = is.short }
  where
    in_time : nat_le (time + 10000) (d.at + lifetime) ≡ true
    in_time = let e = is.at in grind (arith, nat_tests)

is_alive : (time : ℕ) (d : Sent) → Comes time d → is_alive_copy (time + 10000) d.bytes d ≡ true
is_alive time d is = rw (is.in_time, is.there, same) refl
  where
    same : bytes_eq d.bytes d.bytes ≡ true
    same = (bytes_eq-Decides d.bytes d.bytes).1 refl

-- one that can come has a copy
copy_there : (ends : Ends) (time : ℕ) (d : Sent) (front rest : List Sent) → ends.time ≡ time + 10000 → ends.sent ≡ front ++ d ∷ rest → Comes time d
    → (copy : Sent) × (copy_of d.bytes ends ≡ Some copy)
copy_there ends time d front rest at sent is = let copy = has_copy (time + 10000) d front rest (is_alive time d is) in
    (copy.0, ap (λ (t : ℕ). newest_copy t d.bytes ends.sent) at ∙ ap (newest_copy (time + 10000) d.bytes) sent ∙ copy.1)

-- and what has a copy isn't refused
copy_goes : (who : Role) (ends : Ends) (d copy : Sent) → copy_of d.bytes ends ≡ Some copy → is_none (refusal_of_delivery who d.bytes ends) ≡ true
unfolding refusal_of_delivery
copy_goes who ends d copy found = rw found refl

stepped_ends : (who : Role) (call : Call) (pair : PairState) → (stepped who call pair).ends ≡ called who call pair.ends
unfolding stepped
stepped_ends who call pair = refl

-- ---- what arrives

pub record LawsHere : Type 0 where
  pub laws : Laws
  pub hands : HandsOut
  pub short : WrittenIsShort

arrived_adds : LawsHere → (who : Role) (bytes : List ℕ) (pair : PairState) → Reached pair.ends → Adds pair.ends (arrived who bytes pair).ends
unfolding arrived
arrived_adds law who bytes pair is = choose (is_none (refusal_of_delivery who bytes pair.ends)) refl
  where
    choose : (b : Bool) → is_none (refusal_of_delivery who bytes pair.ends) ≡ b
        → Adds pair.ends (if b then stepped who (Receives bytes (connection_of (copy_of bytes pair.ends))) pair else pair).ends
    choose true f = subst (Adds pair.ends) (sym (stepped_ends who (Receives bytes (connection_of (copy_of bytes pair.ends))) pair))
        (called_adds law.hands law.short who (Receives bytes (connection_of (copy_of bytes pair.ends))) pair.ends (reached_timely law.laws pair.ends is)
        (may_receive law.laws who bytes pair.ends (reached_timely law.laws pair.ends is) (none_is (refusal_of_delivery who bytes pair.ends) f)))
    choose false f = adds_none pair.ends

pub arriving_adds : LawsHere → (o : Option Sent) (pair : PairState) → Reached pair.ends → Adds pair.ends (arriving o pair).ends
unfolding arriving
arriving_adds law None pair is = adds_none pair.ends
arriving_adds law (Some sent) pair is = choose (sent.is_lost || nat_lt 512 (length sent.bytes))
  where
    choose : (b : Bool) → Adds pair.ends (if b then pair else arrived (partner_of sent.sender) sent.bytes pair).ends
    choose true = adds_none pair.ends
    choose false = arrived_adds law (partner_of sent.sender) sent.bytes pair is

-- how far a pair and two ends have come in a round
pub record Both (time : ℕ) (a : Ends) (b : Ends) (before : Ends) : Type 0 where
  pub reached : Reached a
  pub alike : Alike a b
  pub adds : Adds before a

same_partner : (who : Role) → partner_of who ≡ names_of.partner_of who
same_partner role.Client = refl
same_partner role.Server = refl

pub can_come_too : (time : ℕ) (d e : Sent) → Comes time d → AlikeSent d e → can_come (time + 10000) e ≡ true
can_come_too time d e is same = ap (λ (b : Bool). not b && nat_le (time + 10000) (e.at + lifetime)) (sym same.is_lost ∙ is.there) ∙ in_time
  where
    in_time : nat_le (time + 10000) (e.at + lifetime) ≡ true
    in_time = subst (λ (at : ℕ). nat_le (time + 10000) (at + lifetime) ≡ true) same.at is.in_time

-- it has a copy, so it arrives
pub copy_arrives : (pair : PairState) (d copy : Sent) → d.is_lost ≡ false → length d.bytes ≤ 225 → copy_of d.bytes pair.ends ≡ Some copy
    → arriving (Some d) pair ≡ stepped (partner_of d.sender) (Receives d.bytes (connection_of (copy_of d.bytes pair.ends))) pair
unfolding arriving arrived
copy_arrives pair d copy there few found = rw (there, short, copy_goes (partner_of d.sender) pair.ends d copy found) refl
  where
    short : nat_lt 512 (length d.bytes) ≡ false
    short = let e = few in grind (arith, nat_tests)

-- and two ends hear the same where they hear another of the same bytes
pub one_comes : LawsHere → (time : ℕ) (d e copy : Sent) (pair : PairState) (b before : Ends) → d.is_lost ≡ false → length d.bytes ≤ 225 → copy_of d.bytes pair.ends ≡ Some copy
    → d.bytes ≡ e.bytes → d.sender ≡ e.sender
    → Both time pair.ends b before → Both time (arriving (Some d) pair).ends (called (names_of.partner_of e.sender) (Receives e.bytes e.connection) b) before
one_comes law time d e copy pair b before there few found same_bytes same_sender both = record {
  reached = reached;
  alike = subst (λ (x : Ends). Alike x (called (names_of.partner_of e.sender) (Receives e.bytes e.connection) b)) (sym ends)
      (subst (λ (w : Role). Alike (called who call pair.ends) (called w (Receives e.bytes e.connection) b)) (same_partner d.sender ∙ ap names_of.partner_of same_sender)
      (called_alike who call (Receives e.bytes e.connection) pair.ends b (receives d.bytes e.bytes _ e.connection same_bytes) both.alike));
  adds = adds_then before pair.ends (arriving (Some d) pair).ends both.adds (subst (Adds pair.ends) (sym ends) (called_adds law.hands law.short who call pair.ends (reached_timely law.laws pair.ends both.reached) may));
}
  where
    who : Role
    who = partner_of d.sender

    call : Call
    call = Receives d.bytes (connection_of (copy_of d.bytes pair.ends))

    ends : (arriving (Some d) pair).ends ≡ called who call pair.ends
    ends = ap (λ (p : PairState). p.ends) (copy_arrives pair d copy there few found) ∙ stepped_ends who call pair

    may : MayCall names who call pair.ends
    may = may_receive law.laws who d.bytes pair.ends (reached_timely law.laws pair.ends both.reached)
        (none_is (refusal_of_delivery who d.bytes pair.ends) (copy_goes who pair.ends d copy found))

    reached : Reached (arriving (Some d) pair).ends
    reached = subst Reached (sym (ap (λ (p : PairState). p.ends) (copy_arrives pair d copy there few found))) (reached_stepped who call pair both.reached may)

one_arrives : LawsHere → (time : ℕ) (d e : Sent) (pair : PairState) (b before : Ends) (front rest : List Sent) → pair.ends.time ≡ time + 10000
    → pair.ends.sent ≡ front ++ d ∷ rest → Comes time d → AlikeSent d e
    → Both time pair.ends b before → Both time (arriving (Some d) pair).ends (called (names_of.partner_of e.sender) (Receives e.bytes e.connection) b) before
one_arrives law time d e pair b before front rest at sent is same both = let copy = copy_there pair.ends time d front rest at sent is in
    one_comes law time d e copy.0 pair b before is.there is.short copy.1 same.bytes same.sender both

all_arrive : LawsHere → (time : ℕ) (ds es : List Sent) (pair : PairState) (b before : Ends) (front rest : List Sent) → before.time ≡ time + 10000 → pair.ends.sent ≡ front ++ (ds ++ rest) → Each (IsFresh time) ds → AllAlike ds es
    → Both time pair.ends b before → Both time (arriving_from (length front) (length ds) pair).ends (run (comings (time + 10000) es) b) before
unfolding arriving_from
all_arrive law time [] [] pair b before front rest at sent fresh alike both = both
all_arrive law time [] (e ∷ es) pair b before front rest at sent fresh alike both = absurd alike
all_arrive law time (d ∷ ds) [] pair b before front rest at sent fresh alike both = absurd alike
all_arrive law time (d ∷ ds) (e ∷ es) pair b before front rest at sent fresh alike both =
    subst (λ (x : Ends). Both time (arriving_from (suc (length front)) (length ds) (arriving (slice_get pair.ends.sent (length front)) pair)).ends x before) (sym comes)
    (subst (λ (o : Option Sent). Both time (arriving_from (suc (length front)) (length ds) (arriving o pair)).ends (run (comings (time + 10000) es) next) before) (sym got)
    (subst (λ (k : ℕ). Both time (arriving_from k (length ds) (arriving (Some d) pair)).ends (run (comings (time + 10000) es) next) before) longer
    (all_arrive law time ds es (arriving (Some d) pair) next before (front ++ d ∷ []) (rest ++ added.more) at then_sent fresh.1 alike.1 one)))
  where
    comes_here : Comes time d
    comes_here = fresh_comes time d fresh.0

    next : Ends
    next = called (names_of.partner_of e.sender) (Receives e.bytes e.connection) b

    got : slice_get pair.ends.sent (length front) ≡ Some d
    got = ap (λ (s : List Sent). slice_get s (length front)) sent ∙ get_after front (ds ++ rest) d

    longer : length (front ++ d ∷ []) ≡ suc (length front)
    longer = count front
      where
        count : (xs : List Sent) → length (xs ++ d ∷ []) ≡ suc (length xs)
        count [] = refl
        count (x ∷ xs) = ap suc (count xs)

    now : pair.ends.time ≡ time + 10000
    now = both.adds.time ∙ at

    one : Both time (arriving (Some d) pair).ends next before
    one = one_arrives law time d e pair b before front (ds ++ rest) now sent comes_here alike.0 both

    added : Adds pair.ends (arriving (Some d) pair).ends
    added = arriving_adds law (Some d) pair both.reached

    then_sent : (arriving (Some d) pair).ends.sent ≡ (front ++ d ∷ []) ++ (ds ++ (rest ++ added.more))
    then_sent = added.sent ∙ ap (λ (s : List Sent). s ++ added.more) sent ∙ append_assoc front (d ∷ (ds ++ rest)) added.more
        ∙ ap (λ (s : List Sent). front ++ d ∷ s) (append_assoc ds rest added.more) ∙ sym (append_assoc front (d ∷ []) (ds ++ (rest ++ added.more)))

    comes : run (comings (time + 10000) (e ∷ es)) b ≡ run (comings (time + 10000) es) next
    comes = ap (λ (c : Bool). run (if c then Calls (names_of.partner_of e.sender) (Receives e.bytes e.connection) ∷ comings (time + 10000) es else comings (time + 10000) es) b) (can_come_too time d e comes_here alike.0)

-- ---- the ends' own work

ticks_client : (pair : PairState) → (tried (event.Tick role.Client) pair).ends ≡ called role.Client Opens (called role.Client Ticks pair.ends)
unfolding tried refusal happens stepped
ticks_client pair = refl

ticks_server : (pair : PairState) → (tried (event.Tick role.Server) pair).ends ≡ called role.Server Ticks pair.ends
unfolding tried refusal happens stepped
ticks_server pair = refl

pub own_work_done : LawsHere → (time : ℕ) (a b before : Ends) → Both time a b before → Both time (called role.Server Ticks (called role.Client Opens (called role.Client Ticks a))) (run own_work b) before
own_work_done law time a b before both =
    step role.Server Ticks _ _ ticks tt (step role.Client Opens _ _ opens tt (step role.Client Ticks a b ticks tt both))
  where
    step : (who : Role) (call : Call) (x y : Ends) → SameCall call call → MayCall names who call x → Both time x y before → Both time (called who call x) (called who call y) before
    step who call x y same may both = record {
      reached = reached_then (Calls who call) x both.reached may;
      alike = called_alike who call call x y same both.alike;
      adds = adds_then before x (called who call x) both.adds (called_adds law.hands law.short who call x (reached_timely law.laws x both.reached) may);
    }

-- ---- time

time_goes : (pair : PairState) → pair.ends.time + 10000 ≤ clock_limit → pair.ends.client.clock + 10000 ≤ clock_limit → pair.ends.server.clock + 10000 ≤ clock_limit
    → (tried (event.Time 10000 10000 10000) pair).ends ≡ later 10000 10000 10000 pair.ends
unfolding tried refusal happens refusal_of_time
time_goes pair t c s = rw (le t, le c, le s) refl
  where
    le : {a b : ℕ} → a ≤ b → nat_le a b ≡ true
    le {a} {b} h = let g = h in grind (arith, nat_tests)

pub later_is : (ends : Ends) → ((later 10000 10000 10000 ends).time ≡ ends.time + 10000) × ((later 10000 10000 10000 ends).sent ≡ ends.sent)
    × ((later 10000 10000 10000 ends).client.clock ≡ ends.client.clock + 10000) × ((later 10000 10000 10000 ends).server.clock ≡ ends.server.clock + 10000)
unfolding later end_later
later_is ends = (refl, refl, refl, refl)

-- ---- a round of both

-- how far a pair and two ends have come after so many rounds
pub record Goes (k : ℕ) (first f : Flowing) (g : Flow) : Type 0 where
  pub reached : Reached f.pair.ends
  pub alike : Alike f.pair.ends g.ends
  pub passed : f.passed ≡ g.passed
  pub old : List Sent
  pub more : List Sent
  pub split : f.pair.ends.sent ≡ old ++ more
  pub counted : length old ≡ f.passed
  pub fresh : Each (IsFresh f.pair.ends.time) more
  pub time : f.pair.ends.time ≡ first.pair.ends.time + 10000 * k
  pub client_clock : f.pair.ends.client.clock ≡ first.pair.ends.client.clock + 10000 * k
  pub server_clock : f.pair.ends.server.clock ≡ first.pair.ends.server.clock + 10000 * k

drop_alike : (old more gs : List Sent) → AllAlike (old ++ more) gs → AllAlike more (drop (length old) gs)
drop_alike [] more gs a = a
drop_alike (x ∷ old) more [] a = absurd a
drop_alike (x ∷ old) more (g ∷ gs) a = drop_alike old more gs a.1

same_length : (xs ys : List Sent) → AllAlike xs ys → length xs ≡ length ys
same_length [] [] a = refl
same_length [] (y ∷ ys) a = absurd a
same_length (x ∷ xs) [] a = absurd a
same_length (x ∷ xs) (y ∷ ys) a = ap suc (same_length xs ys a.1)

length_both : (xs ys : List Sent) → length (xs ++ ys) ≡ length xs + length ys
length_both [] ys = omega arith
length_both (x ∷ xs) ys = let e = length_both xs ys in omega (arith, e)

pub run_both : (a b : List Event) (ends : Ends) → run (a ++ b) ends ≡ run b (run a ends)
run_both [] b ends = refl
run_both (e ∷ a) b ends = run_both a b (happened e ends)

-- what a round of a pair makes of its ends
pub round_ends : (f : Flowing) → (round f).pair.ends ≡ called role.Server Ticks (called role.Client Opens (called role.Client Ticks (arriving_from f.passed (length f.pair.ends.sent - f.passed) (tried (event.Time 10000 10000 10000) f.pair)).ends))
unfolding round
round_ends f = ticks_server _ ∙ ap (called role.Server Ticks) (ticks_client _)

round_passed : (f : Flowing) → (round f).passed ≡ length f.pair.ends.sent
unfolding round
round_passed f = refl

good_ends : (g : Flow) → (good_round g).ends ≡ run own_work (run (comings (g.ends.time + 10000) (drop g.passed g.ends.sent)) (later 10000 10000 10000 g.ends))
unfolding good_round
good_ends g = run_both (comings (g.ends.time + 10000) (drop g.passed g.ends.sent)) own_work (later 10000 10000 10000 g.ends)

good_passed : (g : Flow) → (good_round g).passed ≡ length g.ends.sent
unfolding good_round
good_passed g = refl

pub record CanGo (k n : ℕ) (first : Flowing) : Type 0 where
  pub time : HasTime n first
  pub before : k < n

pub time_passes : (k n : ℕ) (first f : Flowing) → CanGo k n first → f.pair.ends.time ≡ first.pair.ends.time + 10000 * k → f.pair.ends.client.clock ≡ first.pair.ends.client.clock + 10000 * k → f.pair.ends.server.clock ≡ first.pair.ends.server.clock + 10000 * k
    → (tried (event.Time 10000 10000 10000) f.pair).ends ≡ later 10000 10000 10000 f.pair.ends
time_passes k n first f can t c s = let x = can.time.time in let y = can.time.client in let z = can.time.server in let b = can.before in
    time_goes f.pair (omega (arith, t, x, b)) (omega (arith, c, y, b)) (omega (arith, s, z, b))

-- what a round leaves, by what its last part has
pub goes_from : (k n : ℕ) (first f : Flowing) (g h : Flow) (new : Ends) → Both f.pair.ends.time (round f).pair.ends new (later 10000 10000 10000 f.pair.ends)
    → length f.pair.ends.sent ≡ length g.ends.sent → h.ends ≡ new
    → h.passed ≡ length g.ends.sent → f.pair.ends.time ≡ first.pair.ends.time + 10000 * k → f.pair.ends.client.clock ≡ first.pair.ends.client.clock + 10000 * k
    → f.pair.ends.server.clock ≡ first.pair.ends.server.clock + 10000 * k → Goes (suc k) first (round f) h
goes_from k n first f g h new both same is at t c s = let l = later_is f.pair.ends in record {
  reached = both.reached;
  alike = subst (Alike (round f).pair.ends) (sym is) both.alike;
  passed = round_passed f ∙ same ∙ sym at;
  old = f.pair.ends.sent;
  more = both.adds.more;
  split = both.adds.sent ∙ ap (λ (xs : List Sent). xs ++ both.adds.more) l.1;
  counted = sym (round_passed f);
  fresh = subst (λ (x : ℕ). Each (IsFresh x) both.adds.more) (sym both.adds.time) both.adds.fresh;
  time = omega (arith, both.adds.time, l.0, t);
  client_clock = omega (arith, both.adds.client_clock, l.2, c);
  server_clock = omega (arith, both.adds.server_clock, l.3, s);
}

round_goes : LawsHere → (k n : ℕ) (first f : Flowing) (g : Flow) → CanGo k n first → Goes k first f g → Goes (suc k) first (round f) (good_round g)
round_goes law k n first f g can goes = goes_from k n first f g (good_round g) _
    (subst (λ (x : Ends). Both f.pair.ends.time x (run own_work (run (comings (g.ends.time + 10000) es) (later 10000 10000 10000 g.ends))) later_f)
    (sym (round_ends f)) worked)
    (same_length f.pair.ends.sent g.ends.sent goes.alike.sent) (good_ends g) (good_passed g) goes.time goes.client_clock goes.server_clock
  where
    es : List Sent
    es = drop g.passed g.ends.sent

    later_f : Ends
    later_f = later 10000 10000 10000 f.pair.ends

    p0 : PairState
    p0 = tried (event.Time 10000 10000 10000) f.pair

    passes : p0.ends ≡ later_f
    passes = time_passes k n first f can goes.time goes.client_clock goes.server_clock

    begins : Both f.pair.ends.time p0.ends (later 10000 10000 10000 g.ends) later_f
    begins = subst (λ (x : Ends). Both f.pair.ends.time x (later 10000 10000 10000 g.ends) later_f) (sym passes) (record {
      reached = subst Reached passes (tried_reached law.laws (event.Time 10000 10000 10000) f.pair tt goes.reached);
      alike = later_alike 10000 10000 10000 f.pair.ends g.ends goes.alike;
      adds = adds_none later_f;
    })

    sent_is : p0.ends.sent ≡ goes.old ++ (goes.more ++ [])
    sent_is = ap (λ (x : Ends). x.sent) passes ∙ (later_is f.pair.ends).1 ∙ goes.split ∙ ap (λ (xs : List Sent). goes.old ++ xs) (sym (append-nil goes.more))

    more_alike : AllAlike goes.more es
    more_alike = subst (λ (m : ℕ). AllAlike goes.more (drop m g.ends.sent)) (goes.counted ∙ goes.passed)
        (drop_alike goes.old goes.more g.ends.sent (subst (λ (xs : List Sent). AllAlike xs g.ends.sent) goes.split goes.alike.sent))

    came : Both f.pair.ends.time (arriving_from (length goes.old) (length goes.more) p0).ends (run (comings (f.pair.ends.time + 10000) es) (later 10000 10000 10000 g.ends)) later_f
    came = all_arrive law f.pair.ends.time goes.more es p0 (later 10000 10000 10000 g.ends) later_f goes.old [] (later_is f.pair.ends).0 sent_is goes.fresh more_alike begins

    how_many : length goes.more ≡ length f.pair.ends.sent - f.passed
    how_many = let a = ap (λ (xs : List Sent). length xs) goes.split in let b = length_both goes.old goes.more in let c = goes.counted in omega (arith, a, b, c)

    came_here : Both f.pair.ends.time (arriving_from f.passed (length f.pair.ends.sent - f.passed) p0).ends (run (comings (g.ends.time + 10000) es) (later 10000 10000 10000 g.ends)) later_f
    came_here = subst (λ (t : ℕ). Both f.pair.ends.time (arriving_from f.passed (length f.pair.ends.sent - f.passed) p0).ends (run (comings (t + 10000) es) (later 10000 10000 10000 g.ends)) later_f) goes.alike.time
        (subst (λ (m : ℕ). Both f.pair.ends.time (arriving_from f.passed m p0).ends (run (comings (f.pair.ends.time + 10000) es) (later 10000 10000 10000 g.ends)) later_f) how_many
        (subst (λ (i : ℕ). Both f.pair.ends.time (arriving_from i (length goes.more) p0).ends (run (comings (f.pair.ends.time + 10000) es) (later 10000 10000 10000 g.ends)) later_f) goes.counted came))

    worked : Both f.pair.ends.time (called role.Server Ticks (called role.Client Opens (called role.Client Ticks (arriving_from f.passed (length f.pair.ends.sent - f.passed) p0).ends)))
        (run own_work (run (comings (g.ends.time + 10000) es) (later 10000 10000 10000 g.ends))) later_f
    worked = own_work_done law f.pair.ends.time _ _ later_f came_here

pub rounds_first : (k : ℕ) (f : Flowing) → rounds k (round f) ≡ rounds (suc k) f
unfolding rounds
rounds_first zero f = refl
rounds_first (suc k) f = ap round (rounds_first k f)

pub all_go : LawsHere → (k n : ℕ) (first : Flowing) (g : Flow) → HasTime n first → k < n → Goes 1 first (round first) g → Goes (suc k) first (rounds k (round first)) (good_rounds k g)
unfolding rounds
all_go law zero n first g time most goes = goes
all_go law (suc k) n first g time most goes = round_goes law (suc k) n first (rounds k (round first)) (good_rounds k g) (record { time = time; before = most }) (all_go law k n first g time (omega (arith, most)) goes)
