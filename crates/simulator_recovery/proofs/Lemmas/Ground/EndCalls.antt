-- What an end of a link is called to by events of the links.
use Rattle.simulator_recovery.proofs.Words.Basics.{◌≡◌, ℕ, zero, suc, ◌+◌, ◌<◌, length, Some, slice_get, slice_set, arith, List, [], ◌∷◌, ◌++◌, append_assoc, append-nil, map, refl, sym, ap, ◌∙◌, none-some, same_Some, ◌==◌, Bool, true, false, if◌then◌else◌}
use Rattle.simulator_recovery.proofs.Words.Links.{Each, IsBeforeTick, IsBehindTick, IsCall, all_coming, called_in, calls_in, coming, Call, Closes, Opens, Receives, Sends, Ticks, Calls, Elsewhere, Event as LinkEvent, is_same, CallsOn, Links, LinksEvent, LosesAny, PassesFor, RestartsOn, events_on, happened_to, run_on, seen, sent_by, Role}

-- ---- a list that grew, and what holds of each that was added

pub each_both : {X : Type 0} (P : X → Type 0) (one other : List X) → Each P one → Each P other → Each P (one ++ other)
each_both P [] other first second = second
each_both P (head ∷ one) other first second = (first.0, each_both P one other first.1 second)

pub each_mapped : {X Y : Type 0} (P : Y → Type 0) (f : X → Y) (list : List X) → Each (λ x. P (f x)) list → Each P (map f list)
each_mapped P f [] each = tt
each_mapped P f (first ∷ others) each = (each.0, each_mapped P f others each.1)

pub map_both : {X Y : Type 0} (f : X → Y) (one other : List X) → map f (one ++ other) ≡ map f one ++ map f other
map_both f [] other = refl
map_both f (first ∷ one) other = ap (λ rest. f first ∷ rest) (map_both f one other)

-- so much was added after what there was
pub record Grows {X : Type 0} (P : X → Type 0) (old new : List X) : Type 0 where
  pub more : List X
  pub are : new ≡ old ++ more
  pub each : Each P more

pub grows_none : {X : Type 0} (P : X → Type 0) (list : List X) → Grows P list list
grows_none P list = record { more = []; are = sym (append-nil list); each = tt }

pub grows_by : {X : Type 0} (P : X → Type 0) (list more : List X) → Each P more → Grows P list (list ++ more)
grows_by P list more each = record { more = more; are = refl; each = each }

pub grows_then : {X : Type 0} (P : X → Type 0) (one two three : List X) → Grows P one two → Grows P two three → Grows P one three
grows_then P one two three first second = record {
  more = first.more ++ second.more;
  are = second.are ∙ ap (λ list. list ++ second.more) first.are ∙ append_assoc one first.more second.more;
  each = each_both P first.more second.more first.each second.each;
}

pub map_length : {X Y : Type 0} (f : X → Y) (list : List X) → length (map f list) ≡ length list
map_length f [] = refl
map_length f (first ∷ others) = ap suc (map_length f others)

-- what stands at a place of a list that is longer
pub at_place : {X : Type 0} (list : List X) (place : ℕ) → place < length list → (one : X) × (slice_get list place ≡ Some one)
at_place [] place below = absurd (omega (arith, below))
at_place (first ∷ others) zero below = (first, refl)
at_place (first ∷ others) (suc place) below = at_place others place (omega (arith, below))

pub none_long : {A : Type 0} (list : List A) → length list ≡ 0 → list ≡ []
none_long [] e = refl
none_long (first ∷ others) e = absurd (omega (arith, e))

pub count_push : {X : Type 0} (list : List X) (one : X) → length (list ++ one ∷ []) ≡ length list + 1
count_push [] one = omega arith
count_push (first ∷ list) one = let e = count_push list one in omega (arith, e)

pub set_own : {X : Type 0} (list : List X) (place : ℕ) (new y : X) → slice_get (slice_set list place new) place ≡ Some y → y ≡ new
set_own [] place new y e = absurd (none-some y e)
set_own (x ∷ list) zero new y e = sym (same_Some new y e)
set_own (x ∷ list) (suc place) new y e = set_own list place new y e

-- ---- what an end of a link is called to by events of the links

-- ---- calls at the ends of links

abbrev pub IsCallOn : LinksEvent → Type 0
IsCallOn (CallsOn link who call) = Unit {0}
IsCallOn _ = ⊥

-- those at this end of this link
abbrev pub called_at : Role → ℕ → LinksEvent → List Call
called_at who link (CallsOn at whose call) = if link == at then (if is_same whose who then call ∷ [] else []) else []
called_at who link (PassesFor elapsed of_clients of_servers) = []
called_at who link (LosesAny bytes) = []
called_at who link (RestartsOn at whose clock first) = []

abbrev pub all_called_at : Role → ℕ → List LinksEvent → List Call
all_called_at who link [] = []
all_called_at who link (first ∷ others) = called_at who link first ++ all_called_at who link others

pub called_both : (who : Role) (link : ℕ) (one other : List LinksEvent) → all_called_at who link (one ++ other) ≡ all_called_at who link one ++ all_called_at who link other
called_both who link [] other = refl
called_both who link (first ∷ one) other =
    ap (λ (rest : List Call). called_at who link first ++ rest) (called_both who link one other) ∙ sym (append_assoc (called_at who link first) (all_called_at who link one) (all_called_at who link other))

calls_both : (who : Role) (one other : List LinkEvent) → calls_in who (one ++ other) ≡ calls_in who one ++ calls_in who other
calls_both who [] other = refl
calls_both who (first ∷ one) other =
    ap (λ (rest : List Call). called_in who first ++ rest) (calls_both who one other) ∙ sym (append_assoc (called_in who first) (calls_in who one) (calls_in who other))

nil_right : {X : Type 0} (list : List X) → list ++ [] ≡ list
nil_right [] = refl
nil_right (first ∷ others) = ap (λ rest. first ∷ rest) (nil_right others)

-- the link sees them so
seen_one : (who : Role) (link : ℕ) (one : LinksEvent) (before : Links) → IsCallOn one → calls_in who (events_on link one before) ≡ called_at who link one
seen_one who link (CallsOn at whose call) before is = choose (link == at)
  where
    choose : (b : Bool) → calls_in who (if b then Calls whose call ∷ [] else Elsewhere (length (sent_by whose call (seen at before))) ∷ []) ≡ (if b then (if is_same whose who then call ∷ [] else []) else [])
    choose true = nil_right (if is_same whose who then call ∷ [] else [])
    choose false = refl
seen_one who link (PassesFor elapsed of_clients of_servers) before is = absurd is
seen_one who link (LosesAny bytes) before is = absurd is
seen_one who link (RestartsOn at whose clock first) before is = absurd is

pub seen_calls : (who : Role) (link : ℕ) (events : List LinksEvent) (before : Links) → Each IsCallOn events → calls_in who (run_on link events before) ≡ all_called_at who link events
seen_calls who link [] before each = refl
seen_calls who link (first ∷ others) before each =
    calls_both who (events_on link first before) (run_on link others (happened_to first before))
    ∙ ap (λ (front : List Call). front ++ calls_in who (run_on link others (happened_to first before))) (seen_one who link first before each.0)
    ∙ ap (λ (rest : List Call). called_at who link first ++ rest) (seen_calls who link others (happened_to first before) each.1)

call_on : (link : ℕ) (one : LinksEvent) (before : Links) → IsCallOn one → Each IsCall (events_on link one before)
call_on link (CallsOn at who call) before is = choose (link == at)
  where
    choose : (b : Bool) → Each IsCall (if b then Calls who call ∷ [] else Elsewhere (length (sent_by who call (seen at before))) ∷ [])
    choose true = (tt, tt)
    choose false = (tt, tt)
call_on link (PassesFor elapsed of_clients of_servers) before is = absurd is
call_on link (LosesAny bytes) before is = absurd is
call_on link (RestartsOn at who clock first) before is = absurd is

pub calls_alone : (link : ℕ) (events : List LinksEvent) (before : Links) → Each IsCallOn events → Each IsCall (run_on link events before)
calls_alone link [] before each = tt
calls_alone link (first ∷ others) before each =
    each_both IsCall (events_on link first before) (run_on link others (happened_to first before)) (call_on link first before each.0) (calls_alone link others (happened_to first before) each.1)

-- ---- something is said

-- an end is given an item, or is closed
abbrev pub SaysOn : LinksEvent → Type 0
SaysOn (CallsOn at who call) = IsBehindTick call
SaysOn _ = ⊥

one_says : (who : Role) (link : ℕ) (one : LinksEvent) → SaysOn one → Each IsBehindTick (called_at who link one)
one_says who link (CallsOn at whose call) says = choose (link == at) (is_same whose who)
  where
    choose : (b c : Bool) → Each IsBehindTick (if b then (if c then call ∷ [] else []) else [])
    choose true true = (says, tt)
    choose true false = tt
    choose false c = tt
one_says who link (PassesFor elapsed of_clients of_servers) says = absurd says
one_says who link (LosesAny bytes) says = absurd says
one_says who link (RestartsOn at whose clock first) says = absurd says

pub all_say : (who : Role) (link : ℕ) (events : List LinksEvent) → Each SaysOn events → Each IsBehindTick (all_called_at who link events)
all_say who link [] each = tt
all_say who link (first ∷ others) each = each_both IsBehindTick (called_at who link first) (all_called_at who link others) (one_says who link first each.0) (all_say who link others each.1)

-- ---- what stands before a tick

-- these bytes come, and something is said
pub record IsFront (due : List (List ℕ)) (calls : List Call) : Type 0 where
  pub comes : all_coming calls ≡ due
  pub before : Each IsBeforeTick calls

coming_both : (one other : List Call) → all_coming (one ++ other) ≡ all_coming one ++ all_coming other
coming_both [] other = refl
coming_both (first ∷ one) other =
    ap (λ (rest : List (List ℕ)). coming first ++ rest) (coming_both one other) ∙ sym (append_assoc (coming first) (all_coming one) (all_coming other))

pub front_then : (due more : List (List ℕ)) (one other : List Call) → IsFront due one → IsFront more other → IsFront (due ++ more) (one ++ other)
front_then due more one other first second = record {
  comes = coming_both one other ∙ two first.comes second.comes;
  before = each_both IsBeforeTick one other first.before second.before;
}
  where
    two : {a b c d : List (List ℕ)} → a ≡ b → c ≡ d → a ++ c ≡ b ++ d
    two e f = cc (e, f)

pub front_said : (calls : List Call) → Each IsBehindTick calls → IsFront [] calls
front_said [] each = record { comes = refl; before = tt }
front_said (Ticks ∷ others) each = absurd each.0
front_said (Opens ∷ others) each = absurd each.0
front_said (Closes why ∷ others) each = let rest = front_said others each.1 in record { comes = rest.comes; before = (tt, rest.before) }
front_said (Sends item ∷ others) each = let rest = front_said others each.1 in record { comes = rest.comes; before = (tt, rest.before) }
front_said (Receives bytes connection ∷ others) each = absurd each.0

pub front_comes : (bytes : List ℕ) (connection : ℕ) → IsFront (bytes ∷ []) (Receives bytes connection ∷ [])
front_comes bytes connection = record { comes = refl; before = (tt, tt) }
