-- A connection that opens at work: items are given between its first PDUs, and where an end isn't up they come to nothing.
use Rattle.rasta_core_recovery.proofs.Words.Basics.{◌≡◌, ℕ, ◌∙◌, ◌+◌, ◌-◌, ◌^◌, ◌≤◌, ◌<◌, true, false, ◌==◌, nat_lt, if◌then◌else◌, List, [], ◌∷◌, ◌++◌, append_assoc, refl, sym, ap, subst, arith, is_ok, nat_tests}
use Rattle.rasta_core_recovery.proofs.Words.Links.{wire, stamp, distance, LinkState, is_up, settled, deadline, state_at, Step, silent, then_do, entered, limited, beating, giving, sending, header_of, pdu_of, requesting, beginning, meeting, judging, granting, joining, hearing, by_state, resting, connected, asking, testing, ahead, behind, age, admitting, in_turn, bringing, taking, still_waiting, ticking, opening, sending_item, acceptance, Role, Pdu, Each, Names}
use Rattle.rasta_core_recovery.proofs.Lemmas.Rounds.Fold.{settled_in}
use Rattle.rasta_core_recovery.proofs.Lemmas.Rounds.Links.{heard}
use Rattle.rasta_core_recovery.proofs.Lemmas.Rounds.Acts.{Act, Hears, Beats, Asks, Gives, did, all_did, acted, all_brought, clock_acts, IsBefore, IsGift, IsWork, HasRoom, Roomy}
use Rattle.rasta_core_recovery.proofs.Lemmas.Rounds.Calls.{Lives, entered_lives, opening_lives, heard_lives}
use Rattle.rasta_core_recovery.proofs.Lemmas.Rounds.Lists.{each_append}
use Rattle.rasta_core_recovery.proofs.Lemmas.Rounds.Words.{Voice, voice_of, Chain, chain_then}
use Rattle.rasta_core_recovery.proofs.Lemmas.ComingUp.Opens.{Left, resting_link, asking_link, request, granted_link, response, joined_link, first_beat, up_link, not_quiet, same_eq}
use Rattle.rasta_core_recovery.proofs.Lemmas.ComingUp.Stays.{settled_out, entered_out}
use Rattle.rasta_core_recovery.proofs.Lemmas.Rounds.Own.{Utters, Calm}
use Rattle.rasta_core_recovery.proofs.Lemmas.AtWork.WorkFold.{Done, gone_done, so_done, works_through}
use Rattle.rasta_core_recovery.proofs.Lemmas.Rounds.Course.{Joined, lively, Goes, goes_none, goes_then, voice_goes}
use Rattle.rasta_core_recovery.proofs.Lemmas.AtWork.WorkTurn.{IsSimplePdu, utters_joined, utters_goes, utters_chain, utters_simple}

-- ---- the parts of a round

-- where nothing comes items alone are given before the tick
pub gifts_of : (front : List Act) → Each IsBefore front → all_brought front ≡ [] → Each IsGift front
gifts_of [] before none = tt
gifts_of (Hears p ∷ front) before none = absurd (some_came none)
  where
    some_came : p ∷ all_brought front ≡ [] → ⊥
    some_came e = cc
gifts_of (Beats ∷ front) before none = absurd before.0
gifts_of (Asks ∷ front) before none = absurd before.0
gifts_of (Gives item ∷ front) before none = (tt, gifts_of front before.1 none)

-- where this comes first
pub record Comes (q : Pdu) (qs : List Pdu) (front : List Act) : Type 0 where
  pub gifts : List Act
  pub rest : List Act
  pub are : front ≡ gifts ++ (Hears q ∷ rest)
  pub given : Each IsGift gifts
  pub before : Each IsBefore rest
  pub brings : all_brought rest ≡ qs

pub comes_first : (q : Pdu) (qs : List Pdu) (front : List Act) → Each IsBefore front → all_brought front ≡ q ∷ qs → Comes q qs front
comes_first q qs [] before e = absurd (cc e)
comes_first q qs (Hears p ∷ front) before e = record {
  gifts = [];
  rest = front;
  are = ap (λ (x : Pdu). Hears x ∷ front) first_is;
  given = tt;
  before = before.1;
  brings = others_are;
}
  where
    first_is : p ≡ q
    first_is = cc e

    others_are : all_brought front ≡ qs
    others_are = cc e
comes_first q qs (Beats ∷ front) before e = absurd before.0
comes_first q qs (Asks ∷ front) before e = absurd before.0
comes_first q qs (Gives item ∷ front) before e = let c = comes_first q qs front before.1 e in record {
  gifts = Gives item ∷ c.gifts;
  rest = c.rest;
  are = ap (λ (acts : List Act). Gives item ∷ acts) c.are;
  given = (tt, c.given);
  before = c.before;
  brings = c.brings;
}

-- ---- an end that isn't up

-- it is given items, and ticks, in vain
pub mute_gives : (now : ℕ) (item : List ℕ) (l : LinkState) → entered now l ≡ silent l → is_up l.phase ≡ false → did now (Gives item) l ≡ silent l
unfolding did sending_item acceptance
mute_gives now item l enters down = ap (λ (s : Step). then_do s (λ k. if is_ok (acceptance k) then giving item k else silent k)) enters ∙ rw down refl

mute_ticks : (now : ℕ) (l : LinkState) → entered now l ≡ silent l → is_up l.phase ≡ false → did now Beats l ≡ silent l
unfolding did ticking beating
mute_ticks now l enters down = ap (λ (s : Step). then_do s beating) enters ∙ rw down refl

-- what begins with such an act goes on as if it weren't there
pub passes_over : (now : ℕ) (a : Act) (others : List Act) (l : LinkState) → did now a l ≡ silent l → all_did now (a ∷ others) l ≡ all_did now others l
unfolding all_did
passes_over now a others l e = ap (λ (s : Step). then_do s (λ k. all_did now others k)) e

mute_front : (now : ℕ) (gifts others : List Act) (l : LinkState) → Each IsGift gifts → entered now l ≡ silent l → is_up l.phase ≡ false → all_did now (gifts ++ others) l ≡ all_did now others l
mute_front now [] others l given enters down = refl
mute_front now (Hears p ∷ gifts) others l given enters down = absurd given.0
mute_front now (Beats ∷ gifts) others l given enters down = absurd given.0
mute_front now (Asks ∷ gifts) others l given enters down = absurd given.0
mute_front now (Gives item ∷ gifts) others l given enters down = passes_over now (Gives item) (gifts ++ others) l (mute_gives now item l enters down) ∙ mute_front now gifts others l given.1 enters down

mute_gifts : (now : ℕ) (gifts : List Act) (l : LinkState) → Each IsGift gifts → entered now l ≡ silent l → is_up l.phase ≡ false → all_did now gifts l ≡ silent l
unfolding all_did
mute_gifts now [] l given enters down = refl
mute_gifts now (Hears p ∷ gifts) l given enters down = absurd given.0
mute_gifts now (Beats ∷ gifts) l given enters down = absurd given.0
mute_gifts now (Asks ∷ gifts) l given enters down = absurd given.0
mute_gifts now (Gives item ∷ gifts) l given enters down = passes_over now (Gives item) gifts l (mute_gives now item l enters down) ∙ mute_gifts now gifts l given.1 enters down

pub mute_server : (now : ℕ) (gifts back : List Act) (l : LinkState) → Each IsGift gifts → Each IsGift back → entered now l ≡ silent l → is_up l.phase ≡ false → all_did now (gifts ++ (clock_acts Role.Server ++ back)) l ≡ silent l
mute_server now gifts back l given behind enters down =
    mute_front now gifts (Beats ∷ back) l given enters down ∙ passes_over now Beats back l (mute_ticks now l enters down) ∙ mute_gifts now back l behind enters down

pub mute_client : (now : ℕ) (gifts back : List Act) (l : LinkState) → Each IsGift gifts → Each IsGift back → entered now l ≡ silent l → is_up l.phase ≡ false → opening now l ≡ silent l → all_did now (gifts ++ (clock_acts Role.Client ++ back)) l ≡ silent l
unfolding did
mute_client now gifts back l given behind enters down shut =
    mute_front now gifts (Beats ∷ (Asks ∷ back)) l given enters down ∙ passes_over now Beats (Asks ∷ back) l (mute_ticks now l enters down) ∙ passes_over now Asks back l shut ∙ mute_gifts now back l behind enters down

-- a round by its parts
pub round_is : (who : Role) (now : ℕ) (due : List Pdu) (acts : List Act) (l : LinkState) (w : IsWork who due acts) → acted now acts l ≡ all_did now (w.front ++ (clock_acts who ++ w.back)) (settled now l)
unfolding acted
round_is who now due acts l w = ap (λ (bs : List Act). all_did now bs (settled now l)) w.are

-- one in which this comes first, to an end that isn't up till then
pub hears_first : (now : ℕ) (q : Pdu) (gifts rest behind : List Act) (l : LinkState) → Each IsGift gifts → entered now l ≡ silent l → is_up l.phase ≡ false
    → all_did now ((gifts ++ (Hears q ∷ rest)) ++ behind) l ≡ then_do (heard now q l) (λ k. all_did now (rest ++ behind) k)
unfolding all_did did
hears_first now q gifts rest behind l given enters down = ap (λ (acts : List Act). all_did now acts l) (append_assoc gifts (Hears q ∷ rest) behind) ∙ mute_front now gifts (Hears q ∷ (rest ++ behind)) l given enters down

-- ---- an end outside

pub server_rests_at_work : (names : Names) (now clock closed_at : ℕ) (left : Left) (acts : List Act) → IsWork Role.Server [] acts
    → acted now acts (resting_link names Role.Server clock closed_at left) ≡ silent (resting_link names Role.Server now closed_at left)
server_rests_at_work names now clock closed_at left acts w =
    round_is Role.Server now [] acts (resting_link names Role.Server clock closed_at left) w
    ∙ ap (λ (k : LinkState). all_did now (w.front ++ (clock_acts Role.Server ++ w.back)) k) (settled_out now (resting_link names Role.Server clock closed_at left) refl)
    ∙ mute_server now w.front w.back (resting_link names Role.Server now closed_at left) (gifts_of w.front w.before w.brings) w.behind (entered_out now (resting_link names Role.Server now closed_at left) refl) refl

opens_now : (names : Names) (now closed_at : ℕ) (left : Left) → closed_at + 6000 ≤ now
    → opening now (resting_link names Role.Client now closed_at left) ≡ record { link = asking_link names now closed_at (wire left.own_first left.sent) now; pdus = request names (wire left.own_first left.sent) now ∷ [] }
unfolding opening entered limited settled deadline state_at requesting beginning sending header_of pdu_of
opens_now names now closed_at left h = rw (not_quiet _ _ h) refl

pub client_opens_at_work : (names : Names) (now clock closed_at : ℕ) (left : Left) (acts : List Act) → closed_at + 6000 ≤ now → IsWork Role.Client [] acts
    → acted now acts (resting_link names Role.Client clock closed_at left) ≡ record { link = asking_link names now closed_at (wire left.own_first left.sent) now; pdus = request names (wire left.own_first left.sent) now ∷ [] }
unfolding all_did did
client_opens_at_work names now clock closed_at left acts over w =
    round_is Role.Client now [] acts (resting_link names Role.Client clock closed_at left) w
    ∙ ap (λ (k : LinkState). all_did now (w.front ++ (clock_acts Role.Client ++ w.back)) k) (settled_out now (resting_link names Role.Client clock closed_at left) refl)
    ∙ mute_front now w.front (Beats ∷ (Asks ∷ w.back)) down (gifts_of w.front w.before w.brings) enters refl
    ∙ passes_over now Beats (Asks ∷ w.back) down (mute_ticks now down enters refl)
    ∙ ap (λ (s : Step). then_do s (λ k. all_did now w.back k)) (opens_now names now closed_at left over)
    ∙ ap (λ (s : Step). record { link = s.link; pdus = (request names (wire left.own_first left.sent) now ∷ []) ++ s.pdus }) (mute_gifts now w.back asked w.behind asked_enters refl)
  where
    down : LinkState
    down = resting_link names Role.Client now closed_at left

    enters : entered now down ≡ silent down
    enters = entered_out now down refl

    asked : LinkState
    asked = asking_link names now closed_at (wire left.own_first left.sent) now

    asked_enters : entered now asked ≡ silent asked
    asked_enters = entered_lives now asked (record { connected = refl; young = omega arith; room = omega arith })

-- ---- a client that has asked

pub client_waits_at_work : (names : Names) (now closed_at first at clock : ℕ) (acts : List Act) → now < at + 1800 → IsWork Role.Client [] acts
    → acted now acts (asking_link names clock closed_at first at) ≡ silent (asking_link names now closed_at first at)
client_waits_at_work names now closed_at first at clock acts young w =
    round_is Role.Client now [] acts (asking_link names clock closed_at first at) w
    ∙ ap (λ (k : LinkState). all_did now (w.front ++ (clock_acts Role.Client ++ w.back)) k) (settled_in now (asking_link names clock closed_at first at) refl young)
    ∙ mute_client now w.front w.back asked (gifts_of w.front w.before w.brings) w.behind (entered_lives now asked lives) refl (opening_lives now asked lives)
  where
    asked : LinkState
    asked = asking_link names now closed_at first at

    lives : Lives now asked
    lives = record { connected = refl; young = young; room = omega arith }

-- ---- a server takes its request

heard_grants : (names : Names) (now closed_at first at : ℕ) (left : Left) → closed_at + 6000 ≤ now
    → heard now (request names first at) (resting_link names Role.Server now closed_at left)
    ≡ record { link = granted_link names now closed_at (wire left.own_first left.sent) (request names first at) now; pdus = response names (wire left.own_first left.sent) (request names first at) now ∷ [] }
unfolding heard hearing by_state resting granting judging meeting settled deadline entered limited state_at beginning sending header_of pdu_of
heard_grants names now closed_at first at left h = rw (not_quiet _ _ h, same_eq names.server, same_eq names.client) refl

pub server_grants_at_work : (names : Names) (now clock closed_at first at : ℕ) (left : Left) (acts : List Act) → closed_at + 6000 ≤ now → IsWork Role.Server (request names first at ∷ []) acts
    → acted now acts (resting_link names Role.Server clock closed_at left)
    ≡ record { link = granted_link names now closed_at (wire left.own_first left.sent) (request names first at) now; pdus = response names (wire left.own_first left.sent) (request names first at) now ∷ [] }
server_grants_at_work names now clock closed_at first at left acts over w =
    round_is Role.Server now (request names first at ∷ []) acts (resting_link names Role.Server clock closed_at left) w
    ∙ ap (λ (k : LinkState). all_did now (w.front ++ (clock_acts Role.Server ++ w.back)) k) (settled_out now (resting_link names Role.Server clock closed_at left) refl)
    ∙ ap (λ (bs : List Act). all_did now (bs ++ (clock_acts Role.Server ++ w.back)) down) c.are
    ∙ hears_first now (request names first at) c.gifts c.rest (clock_acts Role.Server ++ w.back) down c.given (entered_out now down refl) refl
    ∙ ap (λ (s : Step). then_do s (λ k. all_did now (c.rest ++ (clock_acts Role.Server ++ w.back)) k)) (heard_grants names now closed_at first at left over)
    ∙ ap (λ (s : Step). record { link = s.link; pdus = (response names (wire left.own_first left.sent) (request names first at) now ∷ []) ++ s.pdus })
    (mute_server now c.rest w.back granted (gifts_of c.rest c.before c.brings) w.behind (entered_lives now granted (record { connected = refl; young = omega arith; room = omega arith })) refl)
  where
    c : Comes (request names first at) [] w.front
    c = comes_first (request names first at) [] w.front w.before w.brings

    down : LinkState
    down = resting_link names Role.Server now closed_at left

    granted : LinkState
    granted = granted_link names now closed_at (wire left.own_first left.sent) (request names first at) now

pub server_waits_at_work : (names : Names) (now closed_at first at clock : ℕ) (pdu : Pdu) (acts : List Act) → now < at + 1800 → IsWork Role.Server [] acts
    → acted now acts (granted_link names clock closed_at first pdu at) ≡ silent (granted_link names now closed_at first pdu at)
server_waits_at_work names now closed_at first at clock pdu acts young w =
    round_is Role.Server now [] acts (granted_link names clock closed_at first pdu at) w
    ∙ ap (λ (k : LinkState). all_did now (w.front ++ (clock_acts Role.Server ++ w.back)) k) (settled_in now (granted_link names clock closed_at first pdu at) refl young)
    ∙ mute_server now w.front w.back (granted_link names now closed_at first pdu at) (gifts_of w.front w.before w.brings) w.behind
    (entered_lives now (granted_link names now closed_at first pdu at) (record { connected = refl; young = young; room = omega arith })) refl

-- ---- what an end that is up says where nothing comes

pub record Tells (now kept : ℕ) (l : LinkState) (ps : List Pdu) (k : LinkState) : Type 0 where
  pub same : k ≡ record l { sent = k.sent; sent_at = k.sent_at; waiting = k.waiting; given = k.given }
  pub is : Joined now l → Joined now k
  pub goes : Goes now l ps k
  pub chain : Chain (voice_of l) l.sent (l.expected - 1) kept ps k.sent (l.expected - 1) kept
  pub simple : Each IsSimplePdu ps

tells_none : (now kept : ℕ) (l : LinkState) → Tells now kept l [] l
tells_none now kept l = record { same = refl; is = λ j. j; goes = goes_none now l; chain = (refl, omega arith, omega arith); simple = tt }

tells_then : (now kept : ℕ) (l k j : LinkState) (ps qs : List Pdu) → Tells now kept l ps k → Tells now kept k qs j → Tells now kept l (ps ++ qs) j
tells_then now kept l k j ps qs a b = record {
  same = b.same ∙ ap (λ (m : LinkState). record m { sent = j.sent; sent_at = j.sent_at; waiting = j.waiting; given = j.given }) a.same;
  is = λ is. b.is (a.is is);
  goes = goes_then now l k j ps qs a.goes b.goes;
  chain = chain_then (voice_of l) l.sent (l.expected - 1) kept k.sent (l.expected - 1) kept j.sent (l.expected - 1) kept ps qs a.chain
      (subst (λ (v : Voice). Chain v k.sent (l.expected - 1) kept qs j.sent (l.expected - 1) kept) (voice_goes now l k ps a.goes)
      (subst (λ (y : ℕ). Chain (voice_of k) k.sent (y - 1) kept qs j.sent (y - 1) kept) (ap (λ (m : LinkState). m.expected) a.same) b.chain));
  simple = each_append IsSimplePdu ps qs a.simple b.simple;
}

utters_tells : (now kept : ℕ) (l k : LinkState) (qs : List Pdu) → Joined now l → 1 ≤ l.expected → l.expected < 2 ^ 31 → l.partner_stamp ≡ stamp kept → Utters l k qs → Tells now kept l qs k
utters_tells now kept l k qs is some fits kept_is u = record {
  same = u.same;
  is = λ j. utters_joined now l k qs j u;
  goes = utters_goes now l k qs is.clock u;
  chain = subst (λ (y : ℕ). Chain (voice_of l) l.sent (l.expected - 1) kept qs k.sent (y - 1) kept) (ap (λ (m : LinkState). m.expected) u.same) (utters_chain now kept l k qs is some fits kept_is u);
  simple = utters_simple l k qs u;
}

-- an end to which nothing comes
record Speaker (now kept : ℕ) (ps : List Pdu) (l : LinkState) : Type 0 where
  is : Joined now l
  some : 1 ≤ l.expected
  fits : l.expected < 2 ^ 31
  kept_is : l.partner_stamp ≡ stamp kept
  none : ps ≡ []

-- it stays, has told this, and ticked
pub record TellsAll (now kept : ℕ) (l : LinkState) (s : Step) : Type 0 where
  pub tells : Tells now kept l s.pdus s.link
  pub is : Joined now s.link
  pub calm : Calm now s.link

pub tells_through : (who : Role) (now kept : ℕ) (acts : List Act) (l : LinkState) → IsWork who [] acts → Joined now l → 1 ≤ l.expected → l.expected < 2 ^ 31 → l.partner_stamp ≡ stamp kept → Roomy now acts l → TellsAll now kept l (all_did now acts l)
tells_through who now kept acts l w is some fits kept_is room = finish (works_through ⊥ ℕ now (λ g ps k. Speaker now kept ps k) (λ g k ps h j. Tells now kept k ps j) (λ g k. tells_none now kept k) (λ g h i l k j ps qs a b. tells_then now kept l k j ps qs a b) (λ g ps k q. lively now k q.is) hear own
    who [] acts w 0 l (record { is = is; some = some; fits = fits; kept_is = kept_is; none = refl }) room)
  where
    hear : (g : ℕ) (p : Pdu) (ps : List Pdu) (k : LinkState) → Speaker now kept (p ∷ ps) k → HasRoom k → Done ⊥ ℕ now (λ g ps k. Speaker now kept ps k) (λ g k ps h j. Tells now kept k ps j) g k ps (heard now p k)
    hear g p ps k q roomy = absurd (some_came q.none)
      where
        some_came : p ∷ ps ≡ [] → ⊥
        some_came e = cc

    own : (g : ℕ) (ps : List Pdu) (k j : LinkState) (qs : List Pdu) → Speaker now kept ps k → Utters k j qs → Speaker now kept ps j × Tells now kept k qs j
    own g ps k j qs q u = let e = ap (λ (m : LinkState). m.expected) u.same in (
      record { is = utters_joined now k j qs q.is u; some = omega (arith, q.some, e); fits = omega (arith, q.fits, e); kept_is = ap (λ (m : LinkState). m.partner_stamp) u.same ∙ q.kept_is; none = q.none },
      utters_tells now kept k j qs q.is q.some q.fits q.kept_is u,
    )

    finish : Done ⊥ ℕ now (λ g ps k. Speaker now kept ps k × Calm now k) (λ g k ps h j. Tells now kept k ps j) 0 l [] (all_did now acts l) → TellsAll now kept l (all_did now acts l)
    finish (gone_done why left) = absurd why
    finish (so_done h (q, calm) o) = record { tells = o; is = q.is; calm = calm }

-- ---- the client joins

heard_joins : (names : Names) (now closed_at first at server_first reading : ℕ) → now < at + 1800 → first < 2 ^ 32
    → heard now (response names server_first (request names first at) reading) (asking_link names now closed_at first at)
    ≡ record {
      link = joined_link names now closed_at first at (response names server_first (request names first at) reading);
      pdus = first_beat names now first (response names server_first (request names first at) reading) ∷ [];
    }
unfolding hearing by_state asking joining judging meeting deadline state_at sending header_of pdu_of
heard_joins names now closed_at first at server_first reading young fits =
    heard_lives now (response names server_first (request names first at) reading) (asking_link names now closed_at first at) (record { connected = refl; young = young; room = omega arith })
    ∙ rw (alive_lt, same_eq names.server, same_eq names.client, answers, same_eq (stamp at)) refl
  where
    alive_lt : nat_lt now (at + 1800) ≡ true
    alive_lt = let y = young in grind (arith, nat_tests)

    once : wire (wire first 0) 0 ≡ first
    once = omega (arith, fits)

    answers : (wire (wire first 0) 0 == first) ≡ true
    answers = rw once (same_eq first)

-- what it has said by the end of that round
pub record Joins (now kept : ℕ) (l : LinkState) (beat : Pdu) (s : Step) : Type 0 where
  pub others : List Pdu
  pub pdus : s.pdus ≡ beat ∷ others
  pub tells : Tells now kept l others s.link
  pub is : Joined now s.link

room_behind : (now : ℕ) (gifts others : List Act) (l : LinkState) → Each IsGift gifts → entered now l ≡ silent l → is_up l.phase ≡ false → Roomy now (gifts ++ others) l → Roomy now others l
room_behind now [] others l given enters down room = room
room_behind now (Hears p ∷ gifts) others l given enters down room = absurd given.0
room_behind now (Beats ∷ gifts) others l given enters down room = absurd given.0
room_behind now (Asks ∷ gifts) others l given enters down room = absurd given.0
room_behind now (Gives item ∷ gifts) others l given enters down room = room_behind now gifts others l given.1 enters down
    (subst (λ (s : Step). Roomy now (gifts ++ others) s.link) (mute_gives now item l enters down) room.1)

-- the room that is left after what came first
room_then : (now : ℕ) (q : Pdu) (gifts rest behind acts : List Act) (l : LinkState) → acts ≡ (gifts ++ (Hears q ∷ rest)) ++ behind → Each IsGift gifts → entered now l ≡ silent l → is_up l.phase ≡ false → Roomy now acts l
    → Roomy now (rest ++ behind) (heard now q l).link
unfolding did
room_then now q gifts rest behind acts l are given enters down room =
    (room_behind now gifts (Hears q ∷ (rest ++ behind)) l given enters down (subst (λ (bs : List Act). Roomy now bs l) (are ∙ append_assoc gifts (Hears q ∷ rest) behind) room)).1

pub client_joins_at_work : (names : Names) (now closed_at first at clock server_first reading : ℕ) (acts : List Act) → now < at + 1800 → at ≤ now → first < 2 ^ 32
    → IsWork Role.Client (response names server_first (request names first at) reading ∷ []) acts → Roomy now acts (settled now (asking_link names clock closed_at first at))
    → let answer = response names server_first (request names first at) reading in
    Joins now reading (joined_link names now closed_at first at answer) (first_beat names now first answer) (acted now acts (asking_link names clock closed_at first at))
unfolding header_of pdu_of
client_joins_at_work names now closed_at first at clock server_first reading acts young before fits w room =
    subst (Joins now reading joined beat) (sym whole) (record { others = (all_did now tail joined).pdus; pdus = refl; tells = all.tells; is = all.is })
  where
    answer : Pdu
    answer = response names server_first (request names first at) reading

    c : Comes answer [] w.front
    c = comes_first answer [] w.front w.before w.brings

    asked : LinkState
    asked = asking_link names now closed_at first at

    joined : LinkState
    joined = joined_link names now closed_at first at answer

    beat : Pdu
    beat = first_beat names now first answer

    tail : List Act
    tail = c.rest ++ (clock_acts Role.Client ++ w.back)

    enters : entered now asked ≡ silent asked
    enters = entered_lives now asked (record { connected = refl; young = young; room = omega arith })

    settles : settled now (asking_link names clock closed_at first at) ≡ asked
    settles = settled_in now (asking_link names clock closed_at first at) refl young

    joins_it : heard now answer asked ≡ record { link = joined; pdus = beat ∷ [] }
    joins_it = heard_joins names now closed_at first at server_first reading young fits

    whole : acted now acts (asking_link names clock closed_at first at) ≡ record { link = (all_did now tail joined).link; pdus = (beat ∷ []) ++ (all_did now tail joined).pdus }
    whole = round_is Role.Client now (answer ∷ []) acts (asking_link names clock closed_at first at) w
        ∙ ap (λ (k : LinkState). all_did now (w.front ++ (clock_acts Role.Client ++ w.back)) k) settles
        ∙ ap (λ (bs : List Act). all_did now (bs ++ (clock_acts Role.Client ++ w.back)) asked) c.are
        ∙ hears_first now answer c.gifts c.rest (clock_acts Role.Client ++ w.back) asked c.given enters refl
        ∙ ap (λ (s : Step). then_do s (λ k. all_did now tail k)) joins_it

    room_tail : Roomy now tail joined
    room_tail = subst (λ (s : Step). Roomy now tail s.link) joins_it
        (room_then now answer c.gifts c.rest (clock_acts Role.Client ++ w.back) acts asked (w.are ∙ ap (λ (bs : List Act). bs ++ (clock_acts Role.Client ++ w.back)) c.are) c.given enters refl (subst (Roomy now acts) settles room))

    all : TellsAll now reading joined (all_did now tail joined)
    all = tells_through Role.Client now reading tail joined (record { front = c.rest; back = w.back; are = refl; brings = c.brings; before = c.before; behind = w.behind })
        (record { clock = refl; connected = refl; joined = refl; young = young; own = before }) (omega arith) (omega arith) refl room_tail

-- ---- and the server comes up

pub heard_comes_up : (names : Names) (closed_at first asked server_first at now beat : ℕ) → at ≤ now → now < at + 300 → first < 2 ^ 32 → server_first < 2 ^ 32
    → heard now (first_beat names beat first (response names server_first (request names first asked) at)) (granted_link names now closed_at server_first (request names first asked) at)
    ≡ record { link = up_link names now closed_at server_first (request names first asked) at (stamp beat); pdus = [] }
unfolding hearing by_state connected testing ahead behind age admitting in_turn bringing taking still_waiting deadline state_at
heard_comes_up names closed_at first asked server_first at now beat g h fits server_fits =
    heard_lives now (first_beat names beat first (response names server_first (request names first asked) at)) (granted_link names now closed_at server_first (request names first asked) at) (record { connected = refl; young = omega (arith, g, h); room = omega arith })
    ∙ rw (alive_lt, same_eq names.server, same_eq names.client, level, confirmed, young, not_stale) (ap (λ (own : ℕ). record { link = record (up_link names now closed_at server_first (request names first asked) at (stamp beat)) { own_stamp = own }; pdus = [] }) back)
  where
    alive_lt : nat_lt now (at + 1800) ≡ true
    alive_lt = let g' = g in let h' = h in grind (arith, nat_tests)

    level : distance (wire (wire first 0) 1) (wire first 1) ≡ 0
    level = omega (arith, fits)

    confirmed : distance (wire (wire server_first 0) 0) (wire server_first 0) ≡ 0
    confirmed = omega (arith, server_fits)

    young : distance (stamp at) (stamp now) ≡ now - at
    young = omega (arith, g, h)

    not_stale : nat_lt (now - at) (now - at) ≡ false
    not_stale = let g' = g in let h' = h in grind (arith, nat_tests)

    back : now - (now - at) ≡ at
    back = omega (arith, g)

-- what is left to the server after the first heartbeat, and where it begins
pub record ComesUp (now : ℕ) (up : LinkState) (qs : List Pdu) (s : Step) : Type 0 where
  pub acts : List Act
  pub work : IsWork Role.Server qs acts
  pub room : Roomy now acts up
  pub does : s ≡ all_did now acts up

pub server_comes_up_at_work : (names : Names) (closed_at first asked server_first at clock now beat : ℕ) (qs : List Pdu) (acts : List Act) → at ≤ now → now < at + 300 → first < 2 ^ 32 → server_first < 2 ^ 32
    → let answer = response names server_first (request names first asked) at in
    IsWork Role.Server (first_beat names beat first answer ∷ qs) acts → Roomy now acts (settled now (granted_link names clock closed_at server_first (request names first asked) at))
    → ComesUp now (up_link names now closed_at server_first (request names first asked) at (stamp beat)) qs (acted now acts (granted_link names clock closed_at server_first (request names first asked) at))
server_comes_up_at_work names closed_at first asked server_first at clock now beat qs acts g h fits server_fits w room = record {
  acts = tail;
  work = record { front = c.rest; back = w.back; are = refl; brings = c.brings; before = c.before; behind = w.behind };
  room = subst (λ (s : Step). Roomy now tail s.link) comes_it
      (room_then now spoken c.gifts c.rest (clock_acts Role.Server ++ w.back) acts granted (w.are ∙ ap (λ (bs : List Act). bs ++ (clock_acts Role.Server ++ w.back)) c.are) c.given enters refl (subst (Roomy now acts) settles room));
  does = round_is Role.Server now (spoken ∷ qs) acts (granted_link names clock closed_at server_first (request names first asked) at) w
      ∙ ap (λ (k : LinkState). all_did now (w.front ++ (clock_acts Role.Server ++ w.back)) k) settles
      ∙ ap (λ (bs : List Act). all_did now (bs ++ (clock_acts Role.Server ++ w.back)) granted) c.are
      ∙ hears_first now spoken c.gifts c.rest (clock_acts Role.Server ++ w.back) granted c.given enters refl
      ∙ ap (λ (s : Step). then_do s (λ k. all_did now tail k)) comes_it;
}
  where
    spoken : Pdu
    spoken = first_beat names beat first (response names server_first (request names first asked) at)

    c : Comes spoken qs w.front
    c = comes_first spoken qs w.front w.before w.brings

    granted : LinkState
    granted = granted_link names now closed_at server_first (request names first asked) at

    tail : List Act
    tail = c.rest ++ (clock_acts Role.Server ++ w.back)

    lives : Lives now granted
    lives = record { connected = refl; young = omega (arith, g, h); room = omega arith }

    enters : entered now granted ≡ silent granted
    enters = entered_lives now granted lives

    settles : settled now (granted_link names clock closed_at server_first (request names first asked) at) ≡ granted
    settles = settled_in now (granted_link names clock closed_at server_first (request names first asked) at) refl (omega (arith, g, h))

    comes_it : heard now spoken granted ≡ record { link = up_link names now closed_at server_first (request names first asked) at (stamp beat); pdus = [] }
    comes_it = heard_comes_up names closed_at first asked server_first at now beat g h fits server_fits
