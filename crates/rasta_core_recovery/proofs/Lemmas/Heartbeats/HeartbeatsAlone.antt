-- A client that is given nothing says heartbeats alone: in a round after all that comes, and never in two rounds one after the other.
use Rattle.rasta_core_recovery.proofs.Words.Basics.{◌≡◌, ℕ, ◌∙◌, ◌+◌, ◌-◌, ◌^◌, ◌≤◌, ◌<◌, ◌⊎◌, inl, inr, Bool, true, false, ◌&&◌, nat_le, List, [], ◌∷◌, ◌++◌, length, append-nil, if◌then◌else◌, refl, sym, ap, subst, arith, leb-true, is_ok}
use Rattle.rasta_core_recovery.proofs.Words.Links.{stops_at_greatest, LinkState, confirmed_items, is_up, settled, acceptance, Step, giving, sending, silent, Role, Pdu, Each, Names}
use Rattle.rasta_core_recovery.proofs.Lemmas.Rounds.Links.{Pair}
use Rattle.rasta_core_recovery.proofs.Lemmas.Rounds.Acts.{Act, Hears, Beats, Asks, Gives, IsBefore, IsGift, did, all_did, brought, all_brought, HasRoom, IsWork, WorkRound, behind}
use Rattle.rasta_core_recovery.proofs.Lemmas.Rounds.Calls.{opening_lives, ticking_beats, ticking_calm}
use Rattle.rasta_core_recovery.proofs.Lemmas.Rounds.Course.{Joined, lively}
use Rattle.rasta_core_recovery.proofs.Lemmas.ComingUp.Hale.{Hale, hale_on}
use Rattle.rasta_core_recovery.proofs.Lemmas.Heartbeats.InTurn.{Takes, Tells, Whole, all_tell, gives_at_once, hears_takes, pdus_both, links_both, same_first, whole_joined, whole_rest, whole_then}
use Rattle.rasta_core_recovery.proofs.Lemmas.Rounds.Lists.{none_of_both}
use Rattle.rasta_core_recovery.proofs.Lemmas.Rounds.Own.{lives_of}
use Rattle.rasta_core_recovery.proofs.Lemmas.Heartbeats.HaleRounds.{client_did, client_is, client_whole, server_brings, server_did, server_is, server_whole}
use Rattle.rasta_core_recovery.proofs.Lemmas.Heartbeats.Heartbeats.{client_lasts}
use Rattle.rasta_core_recovery.proofs.Lemmas.Windows.WindowNumbers.{count_one}
use Rattle.rasta_core_recovery.proofs.Lemmas.Rounds.Within.{all_grow, clock_brings_none, did_grows, each_split}
use Rattle.rasta_core_recovery.proofs.Lemmas.AtWork.WorkTurn.{IsSimplePdu}

-- ---- an act that says nothing

-- all but a heartbeat
abbrev IsNoBeat : Act → Type 0
IsNoBeat (Hears pdu) = Unit {0}
IsNoBeat Beats = ⊥
IsNoBeat Asks = Unit {0}
IsNoBeat (Gives item) = Unit {0}

-- an end says nothing, and last sent when it did before
record IsMute (l k : LinkState) (ps : List Pdu) : Type 0 where
  none : ps ≡ []
  sent_at : k.sent_at ≡ l.sent_at

not_counted : (n : ℕ) → stops_at_greatest (n + 1) ≤ n → stops_at_greatest (n + 1) < 2 ^ 31 → ⊥
not_counted n most few = omega (arith, most, counts few)
  where
    counts : stops_at_greatest (n + 1) < 2 ^ 31 → stops_at_greatest (n + 1) ≡ n + 1
    counts less = grind (arith, less)

one_mute : (now : ℕ) (a : Act) (acts : List Act) (l : LinkState) → IsNoBeat a → Whole now (a ∷ acts) l → (did now a l).link.given ≤ l.given → (did now a l).link.given < 2 ^ 31 → IsMute l (did now a l).link (did now a l).pdus
unfolding did giving
one_mute now (Hears p) acts l unbeaten w most few = record { none = t.silent_is; sent_at = choose t.taken.sent_at }
  where
    t : Takes now p l
    t = hears_takes now p acts l w

    choose : (((did now (Hears p) l).pdus ≡ []) × ((did now (Hears p) l).link.sent_at ≡ l.sent_at)) ⊎ (((did now (Hears p) l).link.sent_at ≡ l.clock) × ((did now (Hears p) l).pdus ≡ [] → ⊥)) → (did now (Hears p) l).link.sent_at ≡ l.sent_at
    choose (inl same) = same.1
    choose (inr said) = absurd (said.1 t.silent_is)
one_mute now Beats acts l unbeaten w most few = absurd unbeaten
one_mute now Asks acts l unbeaten w most few =
    let e = opening_lives now l (lives_of now l (lively now l w.within.0) w.room.0)
    in record { none = ap (λ (s : Step). s.pdus) e; sent_at = ap (λ (s : Step). s.link.sent_at) e }
one_mute now (Gives item) acts l unbeaten w most few = choose (is_ok (acceptance l)) (gives_at_once now item l (lively now l w.within.0) w.room.0)
  where
    choose : (b : Bool) → did now (Gives item) l ≡ (if b then giving item l else silent l) → IsMute l (did now (Gives item) l).link (did now (Gives item) l).pdus
    choose false e = record { none = ap (λ (s : Step). s.pdus) e; sent_at = ap (λ (s : Step). s.link.sent_at) e }
    choose true e = let given_is : (did now (Gives item) l).link.given ≡ stops_at_greatest (l.given + 1) = ap (λ (s : Step). s.link.given) e in absurd (not_counted l.given (omega (arith, given_is, most)) (omega (arith, given_is, few)))

none_both : (ps qs : List Pdu) → ps ≡ [] → qs ≡ [] → ps ++ qs ≡ []
none_both ps qs one other = ap (λ (rs : List Pdu). rs ++ qs) one ∙ other

-- so do acts, after which no fewer items have been given
record AreMute (now : ℕ) (acts : List Act) (l : LinkState) : Type 0 where
  mute : IsMute l (all_did now acts l).link (all_did now acts l).pdus
  given : l.given ≤ (all_did now acts l).link.given

-- where no more items have been given after them and other acts, acts without a heartbeat say nothing
all_mute : (now : ℕ) (front rest : List Act) (l : LinkState) → Each IsNoBeat front → Whole now (front ++ rest) l → (all_did now (front ++ rest) l).link.given ≤ l.given → (all_did now (front ++ rest) l).link.given < 2 ^ 31 → AreMute now front l
unfolding all_did
all_mute now [] rest l unbeaten w most few = record { mute = record { none = refl; sent_at = refl }; given = omega arith }
all_mute now (a ∷ front) rest l unbeaten w most few =
    let k : LinkState = (did now a l).link
    in let each = each_split IsSimplePdu (brought a) (all_brought (front ++ rest)) w.simple
    in let one = did_grows now a l w.within.0 w.room.0 each.0
    in let more = (all_grow now (front ++ rest) k one.0 w.room.1 each.1).1
    in let low = (more.waits (omega (arith, few))).0
    in let high = (one.1.waits (omega (arith, low, few))).0
    in let now_mute = one_mute now a (front ++ rest) l unbeaten.0 w (omega (arith, low, most)) (omega (arith, low, few))
    in let then_mute = all_mute now front rest k unbeaten.1 (whole_then now a (front ++ rest) l w).0 (omega (arith, most, high)) few
    in record {
      mute = record { none = none_both (did now a l).pdus (all_did now front k).pdus now_mute.none then_mute.mute.none; sent_at = then_mute.mute.sent_at ∙ now_mute.sent_at };
      given = let g = then_mute.given in omega (arith, g, high);
    }

before_no_beat : (acts : List Act) → Each IsBefore acts → Each IsNoBeat acts
before_no_beat [] each = tt
before_no_beat (Hears pdu ∷ acts) each = (tt, before_no_beat acts each.1)
before_no_beat (Beats ∷ acts) each = absurd each.0
before_no_beat (Asks ∷ acts) each = absurd each.0
before_no_beat (Gives item ∷ acts) each = (tt, before_no_beat acts each.1)

gifts_no_beat : (acts : List Act) → Each IsGift acts → Each IsNoBeat acts
gifts_no_beat [] each = tt
gifts_no_beat (Hears pdu ∷ acts) each = absurd each.0
gifts_no_beat (Beats ∷ acts) each = absurd each.0
gifts_no_beat (Asks ∷ acts) each = absurd each.0
gifts_no_beat (Gives item ∷ acts) each = (tt, gifts_no_beat acts each.1)

-- a tick says nothing, or it is due and says so now
pub data Beaten (now : ℕ) (l k : LinkState) (ps : List Pdu) : Type 0 where
  calm : ps ≡ [] → Beaten now l k ps
  due : l.sent_at + 300 ≤ now → k.sent_at ≡ now → Beaten now l k ps

beat : (now : ℕ) (l : LinkState) → Joined now l → HasRoom l → Beaten now l (did now Beats l).link (did now Beats l).pdus
unfolding did sending
beat now l is room = choose (is_up l.phase) (nat_le 300 (now - l.sent_at)) refl refl
  where
    choose : (a b : Bool) → is_up l.phase ≡ a → nat_le 300 (now - l.sent_at) ≡ b → Beaten now l (did now Beats l).link (did now Beats l).pdus
    choose true true e f =
        let s = ticking_beats now l (lives_of now l (lively now l is) room) (both e f)
        in due (let long = leb-true _ _ f in omega (arith, long)) (ap (λ (s : Step). s.link.sent_at) s)
      where
        both : is_up l.phase ≡ true → nat_le 300 (now - l.sent_at) ≡ true → (is_up l.phase && nat_le 300 (now - l.sent_at)) ≡ true
        both x y = rw (x, y) refl
    choose true false e f = calm (ap (λ (s : Step). s.pdus) (ticking_calm now l (lives_of now l (lively now l is) room) (rw (e, f) refl)))
    choose false b e f = calm (ap (λ (s : Step). s.pdus) (ticking_calm now l (lives_of now l (lively now l is) room) (rw e refl)))

-- ---- a round of a client that is given nothing

module _ (names : Names) (p : Pair) (r : WorkRound p) (h : Hale names p) (few : (behind p r).client.given < 2 ^ 31) (quiet : (behind p r).client.given ≤ p.client.given) where
  abbrev p1 : Pair
  p1 = behind p r

  abbrev now : ℕ
  now = p.client.clock + 10

  abbrev first : LinkState
  first = settled now p.client

  first_is : first ≡ record p.client { clock = now }
  first_is = client_is names p r h

  abbrev work : IsWork Role.Client p.to_client r.client_acts
  work = r.client_work

  abbrev back : List Act
  back = Asks ∷ work.back

  abbrev rest : List Act
  rest = Beats ∷ back

  end_is : p1.client ≡ (all_did now (work.front ++ rest) first).link
  end_is = ap (λ (s : Step). s.link) (client_did p r) ∙ ap (λ (acts : List Act). (all_did now acts first).link) work.are

  says : p1.to_server ≡ (all_did now (work.front ++ rest) first).pdus
  says = ap (λ (s : Step). s.pdus) (client_did p r) ∙ ap (λ (acts : List Act). (all_did now acts first).pdus) work.are

  whole : Whole now (work.front ++ rest) first
  whole = subst (λ (acts : List Act). Whole now acts first) work.are (client_whole names p r h)

  same_given : (all_did now (work.front ++ rest) first).link.given ≤ first.given
  same_given = let e = ap (λ (l : LinkState). l.given) end_is in let f = ap (λ (l : LinkState). l.given) first_is in omega (arith, e, f, quiet)

  few_given : (all_did now (work.front ++ rest) first).link.given < 2 ^ 31
  few_given = let e = ap (λ (l : LinkState). l.given) end_is in omega (arith, e, few)

  front_mute : AreMute now work.front first
  front_mute = all_mute now work.front rest first (before_no_beat work.front work.before) whole same_given few_given

  abbrev k : LinkState
  k = (all_did now work.front first).link

  at_beat : Whole now rest k
  at_beat = whole_rest now work.front rest first whole

  abbrev j : LinkState
  j = (did now Beats k).link

  at_back : Whole now back j
  at_back = (whole_then now Beats back k at_beat).0

  rest_is : (all_did now (work.front ++ rest) first).link ≡ (all_did now back j).link
  unfolding all_did
  rest_is = links_both now work.front rest first

  back_mute : AreMute now back j
  back_mute = all_mute now back [] j (tt, gifts_no_beat work.back work.behind) (subst (λ (acts : List Act). Whole now acts j) (sym (append-nil back)) at_back)
      (omega (arith, end, same_given, low, high, front_mute.given)) (omega (arith, end, few_given))
    where
      end : (all_did now (back ++ []) j).link.given ≡ (all_did now (work.front ++ rest) first).link.given
      end = ap (λ (acts : List Act). (all_did now acts j).link.given) (append-nil back) ∙ ap (λ (l : LinkState). l.given) (sym rest_is)

      later : (all_did now (work.front ++ rest) first).link.given ≡ (all_did now back j).link.given
      later = ap (λ (l : LinkState). l.given) rest_is

      low : j.given ≤ (all_did now back j).link.given
      low = ((all_grow now back j (whole_joined now back j at_back) at_back.room at_back.simple).1.waits (omega (arith, later, few_given))).0

      high : k.given ≤ j.given
      high = ((did_grows now Beats k (whole_joined now rest k at_beat) at_beat.room.0 tt).1.waits (omega (arith, later, few_given, low))).0

  rest_says : p1.to_server ≡ (all_did now rest k).pdus
  rest_says = says ∙ pdus_both now work.front rest first ∙ ap (λ (ps : List Pdu). ps ++ (all_did now rest k).pdus) front_mute.mute.none

  beat_says : p1.to_server ≡ (did now Beats k).pdus
  unfolding all_did
  beat_says = rest_says ∙ ap (λ (ps : List Pdu). (did now Beats k).pdus ++ ps) back_mute.mute.none ∙ append-nil (did now Beats k).pdus

  -- it says nothing, or its heartbeat is due
  pub spoke : Beaten now p.client p1.client p1.to_server
  spoke = choose (beat now k (whole_joined now rest k at_beat) at_beat.room.0)
    where
      was : k.sent_at ≡ p.client.sent_at
      was = front_mute.mute.sent_at ∙ ap (λ (l : LinkState). l.sent_at) first_is

      choose : Beaten now k j (did now Beats k).pdus → Beaten now p.client p1.client p1.to_server
      choose (calm none) = calm (beat_says ∙ none)
      choose (due long at) = due (omega (arith, long, was)) (ap (λ (l : LinkState). l.sent_at) (end_is ∙ rest_is) ∙ back_mute.mute.sent_at ∙ at)

  abbrev least : ℕ
  least = p1.client.expected - 1

  -- and that confirms all that it has taken
  pub told : Each (Tells p1.server.own_first least least) p1.to_server
  told =
      let near = (hale_on names p r h).near.to_client.way
      in let some = near.some
      in let end = ap (λ (l : LinkState). l.expected) (end_is ∙ links_both now work.front rest first)
      in let first_of = ap (λ (l : LinkState). l.partner_first) (end_is ∙ links_both now work.front rest first)
      in let none = ap length (clock_brings_none Role.Client work.back work.behind)
      in let reaches = at_beat.reaches
      in let fits = at_beat.fits
      in subst (Each (Tells p1.server.own_first least least)) (sym rest_says)
      (all_tell p1.server.own_first least least now rest k at_beat (sym (same_first now rest k at_beat) ∙ sym first_of ∙ near.first) (omega (arith, some, end, none, reaches)) (omega (arith, some, end, none, reaches)) (omega (arith, some, end, none, reaches, fits)))

-- it doesn't speak in two rounds one after the other
pub pauses : (names : Names) (p : Pair) (r : WorkRound p) (h : Hale names p) (few : (behind p r).client.given < 2 ^ 31) (quiet : (behind p r).client.given ≤ p.client.given)
    (s : WorkRound (behind p r)) (few_then : (behind (behind p r) s).client.given < 2 ^ 31) (quiet_then : (behind (behind p r) s).client.given ≤ (behind p r).client.given) → ((behind (behind p r) s).to_server ≡ [] → ⊥) → (behind p r).to_server ≡ []
pauses names p r h few quiet s few_then quiet_then some = choose (spoke names p r h few quiet) (spoke names (behind p r) s (hale_on names p r h) few_then quiet_then)
  where
    clock : (behind p r).client.clock ≡ p.client.clock + 10
    clock = (client_lasts names p r h).clock

    choose : Beaten (p.client.clock + 10) p.client (behind p r).client (behind p r).to_server → Beaten ((behind p r).client.clock + 10) (behind p r).client (behind (behind p r) s).client (behind (behind p r) s).to_server → (behind p r).to_server ≡ []
    choose one (calm none) = absurd (some none)
    choose (calm none) (due long at) = none
    choose (due long at) (due long_then at_then) = absurd (omega (arith, clock, at, long_then))

-- ---- an end that hears nothing

one_unconfirmed : (now : ℕ) (a : Act) (l : LinkState) → brought a ≡ [] → Joined now l → HasRoom l → confirmed_items (did now a l).link ≤ confirmed_items l
unfolding did giving sending
one_unconfirmed now (Hears p) l none is room = absurd (cc none)
one_unconfirmed now Beats l none is room = choose (is_up l.phase && nat_le 300 (now - l.sent_at)) refl
  where
    choose : (b : Bool) → (is_up l.phase && nat_le 300 (now - l.sent_at)) ≡ b → confirmed_items (did now Beats l).link ≤ confirmed_items l
    choose false e = let s = ap (λ (s : Step). confirmed_items s.link) (ticking_calm now l (lives_of now l (lively now l is) room) e) in omega (arith, s)
    choose true e = let s = ap (λ (s : Step). confirmed_items s.link) (ticking_beats now l (lives_of now l (lively now l is) room) e) in omega (arith, s)
one_unconfirmed now Asks l none is room = let s = ap (λ (s : Step). confirmed_items s.link) (opening_lives now l (lives_of now l (lively now l is) room)) in omega (arith, s)
one_unconfirmed now (Gives item) l none is room = choose (is_ok (acceptance l)) (gives_at_once now item l (lively now l is) room)
  where
    choose : (b : Bool) → did now (Gives item) l ≡ (if b then giving item l else silent l) → confirmed_items (did now (Gives item) l).link ≤ confirmed_items l
    choose false e = let s = ap (λ (s : Step). confirmed_items s.link) e in omega (arith, s)
    choose true e =
        let s : confirmed_items (did now (Gives item) l).link ≡ stops_at_greatest (l.given + 1) - length (l.waiting ++ (record { tag = l.sent; item = item }) ∷ []) = ap (λ (s : Step). confirmed_items s.link) e
        in let more = count_one l.waiting (record { tag = l.sent; item = item })
        in let most = no_greater (l.given + 1)
        in omega (arith, s, more, most)
      where
        no_greater : (n : ℕ) → stops_at_greatest n ≤ n
        no_greater n = grind arith

all_unconfirmed : (now : ℕ) (acts : List Act) (l : LinkState) → all_brought acts ≡ [] → Whole now acts l → confirmed_items (all_did now acts l).link ≤ confirmed_items l
unfolding all_did
all_unconfirmed now [] l none w = omega arith
all_unconfirmed now (a ∷ acts) l none w =
    let both = none_of_both (brought a) (all_brought acts) none
    in let one = one_unconfirmed now a l both.0 w.within.0 w.room.0
    in let more = all_unconfirmed now acts (did now a l).link both.1 (whole_then now a acts l w).0
    in omega (arith, one, more)

-- a server that hears nothing holds no more for confirmed
pub unconfirmed : (names : Names) (p : Pair) (r : WorkRound p) → Hale names p → p.to_server ≡ [] → confirmed_items (behind p r).server ≤ confirmed_items p.server
unconfirmed names p r h none =
    let now : ℕ = p.server.clock + 10
    in let more = all_unconfirmed now r.server_acts (settled now p.server) (server_brings names p r h ∙ none) (server_whole names p r h)
    in let e = ap (λ (s : Step). confirmed_items s.link) (server_did p r)
    in let f = ap confirmed_items (server_is names p r h)
    in omega (arith, more, e, f)
