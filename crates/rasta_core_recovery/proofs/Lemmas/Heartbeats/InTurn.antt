-- A round at an end that takes all that comes, in turn: what it says confirms what it has taken, and what it takes confirms what it gave.
use Rattle.rasta_core_recovery.proofs.Words.Basics.{◌≡◌, ℕ, ◌∙◌, ◌+◌, ◌-◌, ◌^◌, ◌≤◌, ◌<◌, ◌⊎◌, inl, inr, Bool, true, false, ◌&&◌, ◌==◌, nat_le, List, [], ◌∷◌, ◌++◌, length, if◌then◌else◌, append_assoc, refl, sym, ap, subst, arith, leb-false, is_ok, nat_tests}
use Rattle.rasta_core_recovery.proofs.Words.Links.{wire, before, LinkState, is_up, is_asking, acceptance, sending_item, Step, giving, header_of, pdu_of, sending, silent, then_do, ahead, behind, hearing, still_waiting, taking, Header, Unconfirmed, Pdu, RetransmissionResponse, Each, Rises}
use Rattle.rasta_core_recovery.proofs.Lemmas.Rounds.Links.{heard}
use Rattle.rasta_core_recovery.proofs.Lemmas.Rounds.Acts.{Act, Hears, Beats, Asks, Gives, did, all_did, brought, all_brought, HasRoom, Roomy}
use Rattle.rasta_core_recovery.proofs.Lemmas.Rounds.Calls.{entered_lives, heard_lives, opening_lives, ticking_beats, ticking_calm}
use Rattle.rasta_core_recovery.proofs.Lemmas.Rounds.Lists.{each_append}
use Rattle.rasta_core_recovery.proofs.Lemmas.Rounds.Words.{IsPlain, IsSimple, Says, simple_plain}
use Rattle.rasta_core_recovery.proofs.Lemmas.Rounds.Deed.{Deed, InTurn, Taken, leaves, keeps, asks, takes, hears}
use Rattle.rasta_core_recovery.proofs.Lemmas.Rounds.Fold.{Lively, same_clock}
use Rattle.rasta_core_recovery.proofs.Lemmas.Rounds.Own.{IsOwnAct, Utters, lives_of, own_utters}
use Rattle.rasta_core_recovery.proofs.Lemmas.Rounds.Course.{Joined, lively}
use Rattle.rasta_core_recovery.proofs.Lemmas.Windows.WindowNumbers.{before_is as before_one}
use Rattle.rasta_core_recovery.proofs.Lemmas.Rounds.Within.{Within, each_split}
use Rattle.rasta_core_recovery.proofs.Lemmas.AtWork.WorkTurn.{expects_still, IsSimplePdu}
use Rattle.rasta_core_recovery.proofs.Lemmas.Rounds.Blocks.{as_many_both}

-- ---- items that wait, by the PDUs under which they do

rises_from : (low least high : ℕ) (waiting : List Unconfirmed) → least ≤ low → Rises low high waiting → Rises least high waiting
rises_from low least high [] below rises = tt
rises_from low least high (first ∷ others) below rises = (omega (arith, below, rises.0), rises.1, rises.2)

rises_to : (low high most : ℕ) (waiting : List Unconfirmed) → high ≤ most → Rises low high waiting → Rises low most waiting
rises_to low high most [] below rises = tt
rises_to low high most (first ∷ others) below rises = (rises.0, omega (arith, below, rises.1), rises_to (first.tag + 1) high most others below rises.2)

-- what still waits waits where it did, and above what is confirmed
rises_still : (confirmed low high : ℕ) (waiting : List Unconfirmed) → Rises low high waiting → Rises low high (still_waiting confirmed waiting) × Rises (confirmed + 1) high (still_waiting confirmed waiting)
unfolding still_waiting
rises_still confirmed low high [] rises = (tt, tt)
rises_still confirmed low high (first ∷ others) rises = choose (nat_le first.tag confirmed) refl (rises_still confirmed (first.tag + 1) high others rises.2)
  where
    choose : (a : Bool) → nat_le first.tag confirmed ≡ a → Rises (first.tag + 1) high (still_waiting confirmed others) × Rises (confirmed + 1) high (still_waiting confirmed others)
        → Rises low high (if a then still_waiting confirmed others else first ∷ others) × Rises (confirmed + 1) high (if a then still_waiting confirmed others else first ∷ others)
    choose true e more = (rises_from (first.tag + 1) low high (still_waiting confirmed others) (omega (arith, rises.0)) more.0, more.1)
    choose false e more = (rises, (omega (arith, leb-false _ _ e), rises.1, rises.2))

-- an item that is given waits under the next PDU
rises_given : (low high : ℕ) (waiting : List Unconfirmed) (item : List ℕ) → low ≤ high → Rises low high waiting → Rises low (high + 1) (waiting ++ (record { tag = high; item = item }) ∷ [])
rises_given low high [] item below rises = (below, omega arith, tt)
rises_given low high (first ∷ others) item below rises = (rises.0, omega (arith, rises.1), rises_given (first.tag + 1) high others item (omega (arith, rises.1)) rises.2)

-- ---- an act of its own

pub gives_at_once : (now : ℕ) (item : List ℕ) (l : LinkState) → Lively now l → HasRoom l → did now (Gives item) l ≡ (if is_ok (acceptance l) then giving item l else silent l)
unfolding did sending_item
gives_at_once now item l is room = ap (λ (s : Step). then_do s (λ k. if is_ok (acceptance k) then giving item k else silent k)) (entered_lives now l (lives_of now l is room) ∙ ap silent (same_clock now l is.clock))

giving_rises : (item : List ℕ) (l : LinkState) (low : ℕ) → low ≤ l.sent → Rises low l.sent l.waiting → Rises low (giving item l).link.sent (giving item l).link.waiting
unfolding giving sending
giving_rises item l low below rises = rises_given low l.sent l.waiting item below rises

own_rises : (now : ℕ) (a : Act) (l : LinkState) → IsOwnAct a → Lively now l → HasRoom l → (low : ℕ) → low ≤ l.sent → Rises low l.sent l.waiting → Rises low (did now a l).link.sent (did now a l).link.waiting
unfolding did sending
own_rises now (Hears pdu) l own is room low below rises = absurd own
own_rises now Beats l own is room low below rises = choose (is_up l.phase && nat_le 300 (now - l.sent_at)) refl
  where
    choose : (b : Bool) → (is_up l.phase && nat_le 300 (now - l.sent_at)) ≡ b → Rises low (did now Beats l).link.sent (did now Beats l).link.waiting
    choose false e = subst (λ (s : Step). Rises low s.link.sent s.link.waiting) (sym (ticking_calm now l (lives_of now l is room) e)) rises
    choose true e = subst (λ (s : Step). Rises low s.link.sent s.link.waiting) (sym (ticking_beats now l (lives_of now l is room) e)) (rises_to low l.sent (l.sent + 1) l.waiting (omega arith) rises)
own_rises now Asks l own is room low below rises = subst (λ (s : Step). Rises low s.link.sent s.link.waiting) (sym (opening_lives now l (lives_of now l is room))) rises
own_rises now (Gives item) l own is room low below rises = subst (λ (s : Step). Rises low s.link.sent s.link.waiting) (sym (gives_at_once now item l is room)) (choose (is_ok (acceptance l)))
  where
    choose : (b : Bool) → Rises low (if b then giving item l else silent l).link.sent (if b then giving item l else silent l).link.waiting
    choose false = rises
    choose true = giving_rises item l low below rises

-- ---- a PDU that comes

-- it is taken in turn, or the end expects what it did before
data Meets (p : Pdu) (l k : LinkState) (ps : List Pdu) : Type 0 where
  skips : k.expected ≡ l.expected → Meets p l k ps
  turns : Taken p l k ps → (ahead p l == 0) ≡ true → Meets p l k ps

no_answer : (p : Pdu) → IsSimple p.body → p.body ≡ RetransmissionResponse → ⊥
no_answer p simple is = subst IsSimple is simple

deed_hears : (p : Pdu) (l k : LinkState) (ps : List Pdu) → IsSimple p.body → Deed p l k ps → Meets p l k ps
deed_hears p l k ps simple (leaves why left) = absurd (why simple)
deed_hears p l k ps simple (keeps b same none) = skips (ap (λ (j : LinkState). j.expected) same)
deed_hears p l k ps simple (asks passes apart a) = skips (ap (λ (j : LinkState). j.expected) a.link)
deed_hears p l k ps simple (takes passes t) = choose t.turn
  where
    choose : (p.body ≡ RetransmissionResponse) ⊎ InTurn p l → Meets p l k ps
    choose (inl answer) = absurd (no_answer p simple answer)
    choose (inr turn) = turns t turn.0

one_hears : (now : ℕ) (p : Pdu) (l : LinkState) → Joined now l → HasRoom l → IsSimple p.body → Meets p l (did now (Hears p) l).link (did now (Hears p) l).pdus
unfolding did
one_hears now p l is room simple = deed_hears p l (heard now p l).link (heard now p l).pdus simple
    (subst (λ (s : Step). Deed p l s.link s.pdus) (sym same) (hears p l is.connected is.joined (omega (arith, is.young, is.clock))))
  where
    same : heard now p l ≡ record { link = (hearing p l).link; pdus = (hearing p l).pdus }
    same = heard_lives now p l (record { connected = is.connected; young = is.young; room = room is.connected })
        ∙ ap (λ (k : LinkState). record { link = (hearing p k).link; pdus = (hearing p k).pdus }) (same_clock now l is.clock)

zero_of : (n : ℕ) → (n == 0) ≡ true → n ≡ 0
zero_of n e = grind (arith, nat_tests, e)

next_expected : (p : Pdu) (l k : LinkState) (ps : List Pdu) → Taken p l k ps → (ahead p l == 0) ≡ true → l.expected + 1 < 2 ^ 31 → k.expected ≡ l.expected + 1
next_expected p l k ps t turn fits = t.expected ∙ ap (λ (n : ℕ). wire l.expected (n + 1)) (zero_of (ahead p l) turn) ∙ one_on l.expected fits
  where
    one_on : (n : ℕ) → n + 1 < 2 ^ 31 → wire n (0 + 1) ≡ n + 1
    one_on n few = omega (arith, few)

-- ---- how far an end comes at most

one_most : (now : ℕ) (a : Act) (l : LinkState) → Joined now l → HasRoom l → Each IsSimplePdu (brought a) → l.expected + length (brought a) < 2 ^ 31 → (did now a l).link.expected ≤ l.expected + length (brought a)
one_most now (Hears p) l is room simple fits = choose (one_hears now p l is room simple.0)
  where
    choose : Meets p l (did now (Hears p) l).link (did now (Hears p) l).pdus → (did now (Hears p) l).link.expected ≤ l.expected + 1
    choose (skips e) = omega (arith, e)
    choose (turns t turn) = let e = next_expected p l _ _ t turn fits in omega (arith, e)
one_most now Beats l is room simple fits = let e = expects_still l _ _ (own_utters now Beats l tt (lively now l is) room) in omega (arith, e)
one_most now Asks l is room simple fits = let e = expects_still l _ _ (own_utters now Asks l tt (lively now l is) room) in omega (arith, e)
one_most now (Gives item) l is room simple fits = let e = expects_still l _ _ (own_utters now (Gives item) l tt (lively now l is) room) in omega (arith, e)

within_first : (now : ℕ) (acts : List Act) (l : LinkState) → Within now acts l → Joined now l
within_first now [] l within = within
within_first now (a ∷ acts) l within = within.0

-- with each PDU that comes it expects at most one further
pub all_most : (now : ℕ) (acts : List Act) (l : LinkState) → Within now acts l → Roomy now acts l → Each IsSimplePdu (all_brought acts) → l.expected + length (all_brought acts) < 2 ^ 31
    → (all_did now acts l).link.expected ≤ l.expected + length (all_brought acts)
unfolding all_did
all_most now [] l within room simple fits = omega arith
all_most now (a ∷ acts) l within room simple fits =
    let each = each_split IsSimplePdu (brought a) (all_brought acts) simple
    in let many = as_many_both (brought a) (all_brought acts)
    in let one = one_most now a l within.0 room.0 each.0 (omega (arith, fits, many))
    in let more = all_most now acts (did now a l).link within.1 room.1 each.1 (omega (arith, fits, many, one))
    in omega (arith, one, more, many)

-- ---- an end that takes all that comes

-- it stays in its connection, and comes as far as what comes leads
pub record Whole (now : ℕ) (acts : List Act) (l : LinkState) : Type 0 where
  pub within : Within now acts l
  pub room : Roomy now acts l
  pub simple : Each IsSimplePdu (all_brought acts)
  pub fits : l.expected + length (all_brought acts) < 2 ^ 31
  pub reaches : (all_did now acts l).link.expected ≡ l.expected + length (all_brought acts)

-- so it is after the first act
pub whole_then : (now : ℕ) (a : Act) (acts : List Act) (l : LinkState) → Whole now (a ∷ acts) l → Whole now acts (did now a l).link × ((did now a l).link.expected ≡ l.expected + length (brought a))
unfolding all_did
whole_then now a acts l w =
    let each = each_split IsSimplePdu (brought a) (all_brought acts) w.simple
    in let many = as_many_both (brought a) (all_brought acts)
    in let one = one_most now a l w.within.0 w.room.0 each.0 (omega (arith, w.fits, many))
    in let more = all_most now acts (did now a l).link w.within.1 w.room.1 each.1 (omega (arith, w.fits, many, one))
    in let level : (did now a l).link.expected ≡ l.expected + length (brought a) = omega (arith, w.reaches, many, one, more)
    in (record { within = w.within.1; room = w.room.1; simple = each.1; fits = omega (arith, w.fits, many, level); reaches = omega (arith, w.reaches, many, level) }, level)

pub whole_rest : (now : ℕ) (one other : List Act) (l : LinkState) → Whole now (one ++ other) l → Whole now other (all_did now one l).link
unfolding all_did
whole_rest now [] other l w = w
whole_rest now (a ∷ one) other l w = whole_rest now one other (did now a l).link (whole_then now a (one ++ other) l w).0

pub whole_joined : (now : ℕ) (acts : List Act) (l : LinkState) → Whole now acts l → Joined now l
whole_joined now acts l w = within_first now acts l w.within

-- what is done in two parts
pub links_both : (now : ℕ) (one other : List Act) (l : LinkState) → (all_did now (one ++ other) l).link ≡ (all_did now other (all_did now one l).link).link
unfolding all_did
links_both now [] other l = refl
links_both now (a ∷ one) other l = links_both now one other (did now a l).link

pub pdus_both : (now : ℕ) (one other : List Act) (l : LinkState) → (all_did now (one ++ other) l).pdus ≡ (all_did now one l).pdus ++ (all_did now other (all_did now one l).link).pdus
unfolding all_did
pdus_both now [] other l = refl
pdus_both now (a ∷ one) other l =
    ap (λ (ps : List Pdu). (did now a l).pdus ++ ps) (pdus_both now one other (did now a l).link)
    ∙ sym (append_assoc (did now a l).pdus (all_did now one (did now a l).link).pdus (all_did now other (all_did now one (did now a l).link).link).pdus)

-- ---- what it says

-- a PDU confirms a count between these
pub record Tells (first least most : ℕ) (p : Pdu) : Type 0 where
  pub count : ℕ
  pub confirms : p.confirmed_sequence_number ≡ wire first count
  pub low : least ≤ count
  pub high : count ≤ most

says_tell : (first least most : ℕ) (l : LinkState) (n end : ℕ) (ps : List Pdu) → is_asking l ≡ false → l.partner_first ≡ first → least + 1 ≤ l.expected → l.expected ≤ most + 1 → most + 1 < 2 ^ 31
    → Says IsSimple (header_of l) n ps end → Each (Tells first least most) ps
unfolding header_of pdu_of
says_tell first least most l n end [] joined is_first low high fits s = tt
says_tell first least most l n end (p ∷ ps) joined is_first low high fits s = (
  record {
    count = l.expected - 1;
    confirms = ap (λ (q : Pdu). q.confirmed_sequence_number) s.0 ∙ ap (λ (b : Bool). if b then 0 else wire l.partner_first (before l.expected)) joined
        ∙ ap (wire l.partner_first) (before_one l.expected (omega (arith, low)) (omega (arith, high, fits))) ∙ ap (λ (f : ℕ). wire f (l.expected - 1)) is_first;
    low = omega (arith, low);
    high = omega (arith, high);
  },
  says_tell first least most l (n + 1) end ps joined is_first low high fits s.2,
)

-- an act of an end that takes what comes
record Made (now : ℕ) (a : Act) (l : LinkState) : Type 0 where
  partner_first : (did now a l).link.partner_first ≡ l.partner_first
  own_first : (did now a l).link.own_first ≡ l.own_first
  sent : l.sent ≤ (did now a l).link.sent
  tells : (first least most : ℕ) → l.partner_first ≡ first → least + 1 ≤ l.expected → l.expected ≤ most + 1 → most + 1 < 2 ^ 31 → Each (Tells first least most) (did now a l).pdus

own_made : (now : ℕ) (a : Act) (l : LinkState) → IsOwnAct a → Joined now l → HasRoom l → Made now a l
own_made now a l own is room = record {
  partner_first = ap (λ (j : LinkState). j.partner_first) u.same;
  own_first = ap (λ (j : LinkState). j.own_first) u.same;
  sent = u.grows.sent;
  tells = λ first least most is_first low high fits. says_tell first least most l l.sent (did now a l).link.sent (did now a l).pdus is.joined is_first low high fits u.says;
}
  where
    u : Utters l (did now a l).link (did now a l).pdus
    u = own_utters now a l own (lively now l is) room

-- a PDU that comes is taken, and nothing is said
pub record Takes (now : ℕ) (p : Pdu) (l : LinkState) : Type 0 where
  pub taken : Taken p l (did now (Hears p) l).link (did now (Hears p) l).pdus
  pub plain : IsPlain p.body
  pub silent_is : (did now (Hears p) l).pdus ≡ []
  pub sent : (did now (Hears p) l).link.sent ≡ l.sent

pub hears_takes : (now : ℕ) (p : Pdu) (acts : List Act) (l : LinkState) → Whole now (Hears p ∷ acts) l → Takes now p l
hears_takes now p acts l w = choose (one_hears now p l w.within.0 w.room.0 w.simple.0)
  where
    plain : IsPlain p.body
    plain = simple_plain p.body w.simple.0

    choose : Meets p l (did now (Hears p) l).link (did now (Hears p) l).pdus → Takes now p l
    choose (skips e) = absurd (omega (arith, e, (whole_then now (Hears p) acts l w).1))
    choose (turns t turn) = record {
      taken = t;
      plain = plain;
      silent_is = t.calm plain;
      sent = sym (no_more (header_of (taking p l)) l.sent (did now (Hears p) l).link.sent (did now (Hears p) l).pdus (t.calm plain) t.answers);
    }
      where
        no_more : (h : Header) (n m : ℕ) (ps : List Pdu) → ps ≡ [] → Says IsPlain h n ps m → n ≡ m
        no_more h n m [] e s = s
        no_more h n m (q ∷ qs) e s = absurd (cc e)

one_made : (now : ℕ) (a : Act) (acts : List Act) (l : LinkState) → Whole now (a ∷ acts) l → Made now a l
one_made now (Hears p) acts l w =
    let t = hears_takes now p acts l w in record {
      partner_first = t.taken.stays.partner_first;
      own_first = t.taken.stays.own_first;
      sent = omega (arith, t.sent);
      tells = λ first least most is_first low high fits. subst (Each (Tells first least most)) (sym t.silent_is) tt;
    }
one_made now Beats acts l w = own_made now Beats l tt w.within.0 w.room.0
one_made now Asks acts l w = own_made now Asks l tt w.within.0 w.room.0
one_made now (Gives item) acts l w = own_made now (Gives item) l tt w.within.0 w.room.0

pub same_first : (now : ℕ) (acts : List Act) (l : LinkState) → Whole now acts l → (all_did now acts l).link.partner_first ≡ l.partner_first
unfolding all_did
same_first now [] l w = refl
same_first now (a ∷ acts) l w = same_first now acts (did now a l).link (whole_then now a acts l w).0 ∙ (one_made now a acts l w).partner_first

-- all that it says confirms what it has taken
pub all_tell : (first least most now : ℕ) (acts : List Act) (l : LinkState) → Whole now acts l → l.partner_first ≡ first → least + 1 ≤ l.expected → l.expected + length (all_brought acts) ≤ most + 1 → most + 1 < 2 ^ 31
    → Each (Tells first least most) (all_did now acts l).pdus
unfolding all_did
all_tell first least most now [] l w is_first low high fits = tt
all_tell first least most now (a ∷ acts) l w is_first low high fits =
    let many = as_many_both (brought a) (all_brought acts)
    in let made = one_made now a acts l w
    in let next = whole_then now a acts l w
    in each_append (Tells first least most) (did now a l).pdus (all_did now acts (did now a l).link).pdus (made.tells first least most is_first low (omega (arith, high, many)) fits)
    (all_tell first least most now acts (did now a l).link next.0 (made.partner_first ∙ is_first) (omega (arith, low, next.1)) (omega (arith, high, many, next.1)) fits)

-- ---- what it takes

-- so it is of the last of these
abbrev pub IsLast : (Pdu → Type 0) → List Pdu → Type 0
IsLast Q [] = ⊥
IsLast Q (p ∷ []) = Q p
IsLast Q (p ∷ (q ∷ ps)) = IsLast Q (q ∷ ps)

pub last_of : (Q : Pdu → Type 0) (ps : List Pdu) → Each Q ps → (ps ≡ [] → ⊥) → IsLast Q ps
last_of Q [] each some = absurd (some refl)
last_of Q (p ∷ []) each some = each.0
last_of Q (p ∷ (q ∷ ps)) each some = last_of Q (q ∷ ps) each.1 (λ e. cc e)

pub last_then : (Q : Pdu → Type 0) (ps qs : List Pdu) → IsLast Q qs → IsLast Q (ps ++ qs)
last_then Q [] qs last = last
last_then Q (p ∷ []) [] last = absurd last
last_then Q (p ∷ []) (q ∷ qs) last = last
last_then Q (p ∷ (r ∷ ps)) qs last = last_then Q (r ∷ ps) qs last

-- what waits rises from some number on; and either that one is above what is confirmed, or the PDU that confirms it is to come
record Awaits (Q : Pdu → Type 0) (least : ℕ) (acts : List Act) (k : LinkState) : Type 0 where
  low : ℕ
  under : low ≤ k.sent
  rises : Rises low k.sent k.waiting
  told : IsLast Q (all_brought acts) ⊎ (least + 1 ≤ low)

confirmed_is : (first least most : ℕ) (p : Pdu) (l : LinkState) → l.own_first ≡ first → most < l.sent → l.sent < 2 ^ 31 → Tells first least most p → least ≤ l.sent - 1 - behind p l
unfolding behind
confirmed_is first least most p l is_first below fits t =
    let c = t.confirms in let low = t.low in let high = t.high in omega (arith, c, low, high, below, fits, is_first)

hears_on : (first least most now : ℕ) (p : Pdu) (acts : List Act) (l : LinkState) → Whole now (Hears p ∷ acts) l → l.own_first ≡ first → most < l.sent → Awaits (Tells first least most) least (Hears p ∷ acts) l
    → Awaits (Tells first least most) least acts (did now (Hears p) l).link
hears_on first least most now p acts l w is_first below a = choose a.told
  where
    k : LinkState
    k = (did now (Hears p) l).link

    t : Takes now p l
    t = hears_takes now p acts l w

    x : ℕ
    x = l.sent - 1 - behind p l

    both : Rises a.low l.sent (still_waiting x l.waiting) × Rises (x + 1) l.sent (still_waiting x l.waiting)
    both = rises_still x a.low l.sent l.waiting a.rises

    as_it_is : (low : ℕ) → Rises low l.sent (still_waiting x l.waiting) → Rises low k.sent k.waiting
    as_it_is low rises = subst (λ (n : ℕ). Rises low n k.waiting) (sym t.sent) (subst (Rises low l.sent) (sym (t.taken.waiting t.plain)) rises)

    young : l.sent < 2 ^ 31
    young = let room = w.room.0 w.within.0.connected in omega (arith, room)

    kept_low : a.low ≤ k.sent
    kept_low = let s = t.sent in let u = a.under in omega (arith, s, u)

    by_rest : (qs : List Pdu) → all_brought acts ≡ qs → IsLast (Tells first least most) (p ∷ qs) → Awaits (Tells first least most) least acts k
    by_rest [] e last = let least_is = confirmed_is first least most p l is_first below young last in record {
      low = least + 1;
      under = let s = t.sent in let low = last.low in let high = last.high in omega (arith, s, low, high, below);
      rises = rises_from (x + 1) (least + 1) k.sent k.waiting (omega (arith, least_is)) (as_it_is (x + 1) both.1);
      told = inr (omega arith);
    }
    by_rest (q ∷ qs) e last = record { low = a.low; under = kept_low; rises = as_it_is a.low both.0; told = inl (subst (IsLast (Tells first least most)) (sym e) last) }

    choose : IsLast (Tells first least most) (p ∷ all_brought acts) ⊎ (least + 1 ≤ a.low) → Awaits (Tells first least most) least acts k
    choose (inl last) = by_rest (all_brought acts) refl last
    choose (inr above) = record { low = a.low; under = kept_low; rises = as_it_is a.low both.0; told = inr above }

own_on : (first least most now : ℕ) (a : Act) (acts : List Act) (l : LinkState) → IsOwnAct a → all_brought (a ∷ acts) ≡ all_brought acts → Whole now (a ∷ acts) l → Awaits (Tells first least most) least (a ∷ acts) l
    → Awaits (Tells first least most) least acts (did now a l).link
own_on first least most now a acts l own same w s = record {
  low = s.low;
  under = let more = (one_made now a acts l w).sent in let u = s.under in omega (arith, more, u);
  rises = own_rises now a l own (lively now l w.within.0) w.room.0 s.low s.under s.rises;
  told = choose s.told;
}
  where
    choose : IsLast (Tells first least most) (all_brought (a ∷ acts)) ⊎ (least + 1 ≤ s.low) → IsLast (Tells first least most) (all_brought acts) ⊎ (least + 1 ≤ s.low)
    choose (inl last) = inl (subst (IsLast (Tells first least most)) same last)
    choose (inr above) = inr above

one_on : (first least most now : ℕ) (a : Act) (acts : List Act) (l : LinkState) → Whole now (a ∷ acts) l → l.own_first ≡ first → most < l.sent → Awaits (Tells first least most) least (a ∷ acts) l
    → Awaits (Tells first least most) least acts (did now a l).link
one_on first least most now (Hears p) acts l w is_first below s = hears_on first least most now p acts l w is_first below s
one_on first least most now Beats acts l w is_first below s = own_on first least most now Beats acts l tt refl w s
one_on first least most now Asks acts l w is_first below s = own_on first least most now Asks acts l tt refl w s
one_on first least most now (Gives item) acts l w is_first below s = own_on first least most now (Gives item) acts l tt refl w s

all_on : (first least most now : ℕ) (acts : List Act) (l : LinkState) → Whole now acts l → l.own_first ≡ first → most < l.sent → Awaits (Tells first least most) least acts l
    → Rises (least + 1) (all_did now acts l).link.sent (all_did now acts l).link.waiting
unfolding all_did
all_on first least most now [] l w is_first below s = choose s.told
  where
    choose : ⊥ ⊎ (least + 1 ≤ s.low) → Rises (least + 1) l.sent l.waiting
    choose (inl none) = absurd none
    choose (inr above) = rises_from s.low (least + 1) l.sent l.waiting above s.rises
all_on first least most now (a ∷ acts) l w is_first below s =
    let made = one_made now a acts l w
    in let more = made.sent
    in all_on first least most now acts (did now a l).link (whole_then now a acts l w).0 (made.own_first ∙ is_first) (omega (arith, below, more)) (one_on first least most now a acts l w is_first below s)

-- where the last PDU that comes confirms a count, what waits after them waits above it
pub waits_above : (first least most now : ℕ) (acts : List Act) (l : LinkState) → Whole now acts l → l.own_first ≡ first → most < l.sent → Rises 0 l.sent l.waiting → IsLast (Tells first least most) (all_brought acts)
    → Rises (least + 1) (all_did now acts l).link.sent (all_did now acts l).link.waiting
waits_above first least most now acts l w is_first below rises last = all_on first least most now acts l w is_first below (record { low = 0; under = omega arith; rises = rises; told = inl last })
