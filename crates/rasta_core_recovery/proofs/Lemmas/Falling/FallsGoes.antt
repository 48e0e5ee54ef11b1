-- What a call at one of two ends makes of what both have sent: nothing of it falls.
use Rattle.rasta_core_recovery.proofs.Words.Basics.{◌≡◌, ℕ, ◌∙◌, ◌+◌, ◌-◌, ◌*◌, ◌/◌, ◌^◌, ◌≤◌, ◌<◌, ◌⊎◌, inl, inr, Bool, true, false, nat_le, ◌==◌, List, [], ◌∷◌, ◌++◌, Option, Some, Ok, if◌then◌else◌, refl, sym, ap, subst, arith, leb-true, leb-false, false≢true}
use Rattle.rasta_core_recovery.proofs.Words.Links.{stamp, wire, LinkState, is_asking, is_open, lifetime, Sent, handed_out, IsAmong, Each, ahead, behind, Names, spellings, IsPdu, Unconfirmed, reading, Pdu, Rises as TagsRise}
use Rattle.rasta_core_recovery.proofs.Words.Recovery.{IsMarked, IsOf, IsPaired, IsToldAt, Keeps, Mark, NoneFalls, Rises, Speaker, Stand, WaitFrom, confirmed_by, nothing_sent, stands, LawsBelow}
use Rattle.rasta_core_recovery.proofs.Lemmas.Rounds.Course.{Joined, answers_chain, counted, placed, returned, speaks_now}
use Rattle.rasta_core_recovery.proofs.Lemmas.Rounds.Deed.{Passes, Taken}
use Rattle.rasta_core_recovery.proofs.Lemmas.Asking.Asks.{Met}
use Rattle.rasta_core_recovery.proofs.Lemmas.Falling.FallsCalls.{Moved, hears_one, speaks}
use Rattle.rasta_core_recovery.proofs.Lemmas.Falling.FallsLists.{Placed, none_falls, rises_among, rises_append, rises_low, rises_others, rises_said, rises_turned}
use Rattle.rasta_core_recovery.proofs.Lemmas.Rounds.Lists.{each_append}
use Rattle.rasta_core_recovery.proofs.Lemmas.Rounds.Words.{Chain, IsSimple, chain_ends, says_chain, simple_talk, voice_of}
use Rattle.rasta_core_recovery.proofs.Lemmas.Rounds.Facts.{each_map}
use Rattle.rasta_core_recovery.proofs.Lemmas.ComingUp.Health.{chosen_not}

abbrev pub the_stand : ℕ → ℕ → ℕ → ℕ → Stand
the_stand sent now confirms returns = record { sent = sent; now = now; confirms = confirms; returns = returns }

same_stand : {a b c d e f g h : ℕ} → a ≡ b → c ≡ d → e ≡ f → g ≡ h → the_stand a c e g ≡ the_stand b d f h
same_stand p q r s = cc

pub confirms_joined : (l : LinkState) → is_asking l ≡ false → confirmed_by l ≡ l.expected - 1
confirms_joined l joined = chosen_not (is_asking l) (l.expected - 1) joined

-- it confirms none that its partner hasn't sent
pub confirms_few : (l : LinkState) (n : ℕ) → 1 ≤ n → (is_asking l ≡ false → l.expected ≤ n) → confirmed_by l < n
confirms_few l n some most = choose (is_asking l) refl
  where
    choose : (b : Bool) → is_asking l ≡ b → (if b then 0 else l.expected - 1) < n
    choose true e = omega (arith, some)
    choose false e = let m = most e in omega (arith, some, m)

-- a datagram that came, of the partner
pub record Brought (names : Names) (other : Speaker) (sent : List Sent) (p : Pdu) : Type 0 where
  pub datagram : Sent
  pub among : IsAmong datagram sent
  pub sender : datagram.sender ≡ other.who
  pub connection : other.connection ≡ Some datagram.connection
  pub read : reading names.key datagram.bytes ≡ Ok p
  pub sent_before : datagram.at ≤ other.time
  pub in_time : other.time ≤ datagram.at + lifetime

abbrev pub heard_of : Speaker → ℕ → ℕ → Speaker
heard_of other expected kept = record other { expected = expected; kept = kept }

-- what both have sent after a call of one of them
pub record Gone (names : Names) (own other : Speaker) (k m : LinkState) (other_kept : ℕ) (sent : List Sent) : Type 0 where
  pub kept : ℕ
  pub keeps : Keeps k own.clock other.clock kept
  pub marked : IsMarked own.mark own.partner_mark k kept
  pub own_rises : Rises (IsOf names own) nothing_sent sent (stands k kept)
  pub other_rises : Rises (IsOf names (heard_of other k.expected kept)) nothing_sent sent (stands m other_kept)

module _ (laws : LawsBelow) (names : Names) (own other : Speaker) (l k m : LinkState) (kept other_kept : ℕ) (sent : List Sent) (connection : Option ℕ) (ps : List Pdu) (are : Each IsPdu ps)
    (now : l.clock ≡ own.clock / 1000) (time : other.time ≡ own.time) (partner_clock : own.partner_clock ≡ other.clock) (first : l.own_first ≡ own.first) (apart : other.who ≡ own.who → ⊥)
    (other_before : own.kept ≤ l.clock) (one_kept : own.kept ≡ other_kept) (one_mark : other.mark ≡ own.partner_mark) (other_mark : other.partner_mark ≡ own.mark)
    (is_marked : IsMarked own.mark own.partner_mark l kept)
    (own_rises : Rises (IsOf names own) nothing_sent sent (stands l kept)) (other_rises : Rises (IsOf names other) nothing_sent sent (stands m other_kept)) where
  abbrev pub more : List Sent
  more = handed_out own.time own.who connection (spellings names.key ps)

  -- what the partner has sent, where its PDUs are to be fresh from another one on
  others_rise : (expected to_keep : ℕ) → Rises (IsOf names (heard_of other expected to_keep)) nothing_sent sent (stands m other_kept)
      → Rises (IsOf names (heard_of other expected to_keep)) nothing_sent (sent ++ more) (stands m other_kept)
  others_rise expected to_keep rises = rises_append (IsOf names (heard_of other expected to_keep)) nothing_sent (stands m other_kept) (stands m other_kept) sent more rises
      (rises_others (IsOf names (heard_of other expected to_keep)) own.who (stands m other_kept) own.time connection (spellings names.key ps)
      (λ d at from sender same in_time pdu read. absurd (apart (sym sender ∙ from))))

  -- what a PDU that was taken from it makes fresh
  fresher : (d : Sent) (found : Placed (IsOf names other) nothing_sent (stands m other_kept) d sent) (expected : ℕ) → expected ≡ found.at.sent
      → Rises (IsOf names (heard_of other expected found.at.now)) nothing_sent sent (stands m other_kept)
  fresher d found expected is = rises_turned _ (IsOf names (heard_of other expected found.at.now)) nothing_sent (stands m other_kept) sent
      (λ e at most q sender same in_time pdu read. let t = q.0 sender same in_time pdu read in record {
        some = t.some;
        number = t.number;
        stamped = t.stamped;
        was_read = t.was_read;
        confirms = t.confirms;
        returns = t.returns;
        recent = t.recent;
        fresh = λ behind. above at q.1 behind;
        early = t.early;
        paired = t.paired;
      }) found.others
    where
      above : (at : Stand) → NoneFalls at found.at ⊎ NoneFalls found.at at → expected < at.sent → found.at.now ≤ at.now
      above at (inl below) behind = absurd (omega (arith, below.0, behind, is))
      above at (inr over) behind = over.1

  -- an end that has joined
  module _ (Came : Pdu → Type 0) (in_it : Joined l.clock l) (keeps : Keeps l own.clock other.clock kept) (expected : other.expected ≡ l.expected) (keeping : other.kept ≡ kept)
      (partner : l.partner_first ≡ own.partner_first) (meets : other.first ≡ l.partner_first)
      (some : 1 ≤ l.expected) (most : l.expected ≤ m.sent) (fits : m.sent < 2 ^ 31)
      (partner_clock_is : other.partner_clock ≡ own.clock) (own_met : 2 ≤ m.sent → other.partner_first ≡ l.own_first) (confirmable : confirmed_by m < l.sent) (own_fits : l.sent < 2 ^ 31)
      (tags_rise : TagsRise 0 l.sent l.waiting)
      (find : (p : Pdu) → Came p → (p.receiver == l.identity.own) ≡ true → (p.sender == l.identity.partner) ≡ true → Brought names other sent p) where
    start : stands l kept ≡ the_stand l.sent l.clock (l.expected - 1) kept
    start = same_stand refl refl (confirms_joined l in_it.joined) refl

    recent : 1000 * own.partner_clock ≤ 1000000 * kept + 3820000000
    recent = let y = keeps.lately in let z = in_it.young in omega (arith, y, z, now, partner_clock)

    said : (end d q : ℕ) → l.expected - 1 ≤ d → kept ≤ q → IsPaired own.partner_mark d q → Chain (voice_of l) l.sent d q ps end d q
        → Rises (IsOf names own) nothing_sent (sent ++ more) (the_stand end l.clock d q)
    said end d q up over paired chain = rises_append (IsOf names own) nothing_sent (stands l kept) (the_stand end l.clock d q) sent more own_rises
        (subst (λ (s : Stand). Rises (IsOf names own) s more (the_stand end l.clock d q)) (sym start)
        (rises_low (IsOf names own) (the_stand l.sent l.clock (l.expected - 1) kept) (the_stand l.sent l.clock d q) (the_stand end l.clock d q) more (omega arith, omega arith, up, over)
        (rises_said laws names own (voice_of l) l.clock now refl first partner other_before connection l.clock l.sent d q end d q ps (omega arith) (omega (arith, recent, over))
        is_marked.before (omega arith) (omega arith) paired are chain)))

    -- it takes what came
    module _ (p : Pdu) (came : Came p) (receiver : (p.receiver == l.identity.own) ≡ true) (sender : (p.sender == l.identity.partner) ≡ true) (passes : Passes p l) (t : Taken p l k ps) where
      takes_from : Brought names other sent p
      takes_from = find p came receiver sender

      stood : Placed (IsOf names other) nothing_sent (stands m other_kept) takes_from.datagram sent
      stood = rises_among (IsOf names other) nothing_sent (stands m other_kept) takes_from.datagram sent takes_from.among other_rises

      abbrev stood_at : Stand
      stood_at = stood.at

      told_then : IsToldAt other takes_from.datagram.at stood_at p
      told_then = stood.holds takes_from.sender takes_from.connection takes_from.in_time p takes_from.read

      place : (l.expected ≤ stood_at.sent - 1) × (wire l.expected (ahead p l + 1) ≡ stood_at.sent - 1 + 1)
      place = placed (record { receiver = 0; sender = 0; first = other.first; partner_first = 0; stamp = 0 }) (stood_at.sent - 1) m.sent p l meets told_then.number
          (omega (arith, told_then.some, stood.before.0)) fits most passes.near

      stands_then : k.expected ≡ stood_at.sent
      stands_then = t.expected ∙ place.1 ∙ omega (arith, told_then.some)

      fresh : kept ≤ stood_at.now
      fresh = let f = told_then.fresh (omega (arith, expected, place.0, told_then.some)) in omega (arith, f, keeping)

      answers : Chain (voice_of l) l.sent (stood_at.sent - 1) stood_at.now ps k.sent (stood_at.sent - 1) stood_at.now
      answers = answers_chain l.clock (stood_at.sent - 1) stood_at.now p l k ps in_it t place.1 (omega (arith, stood.before.0, fits)) told_then.stamped

      -- what it expects now and what it keeps belong together
      now_paired : IsPaired own.partner_mark (stood_at.sent - 1) stood_at.now
      now_paired few =
          let mark = ap (λ (x : Mark). x.sent) one_mark in let moment = ap (λ (x : Mark). x.now) one_mark
          in let early = told_then.early (omega (arith, few, mark, told_then.some)) in omega (arith, early, moment)

      two : 2 ≤ stood_at.sent
      two = let p = place.0 in omega (arith, p, some, told_then.some)

      own_now : k.own_stamp ≡ stood_at.returns
      own_now =
          let before : stood_at.returns ≤ l.clock = let b = stood.before.3 in omega (arith, b, one_kept, other_before)
          in let lately : l.clock < stood_at.returns + 2 ^ 31 = let r = told_then.recent two in let i = takes_from.in_time in omega (arith, r, i, now, partner_clock_is)
          in let aged = returned stood_at.returns l.clock p l refl (told_then.returns two) before lately
          in let o = t.own_stamp in omega (arith, o, aged, before)

      confirmed_now : l.sent - 1 - behind p l ≡ stood_at.confirms
      confirmed_now =
          let few : stood_at.confirms < l.sent = let b = stood.before.2 in omega (arith, b, confirmable)
          in let back = counted (record { receiver = 0; sender = 0; first = 0; partner_first = other.partner_first; stamp = 0 }) stood_at.confirms p l
          (own_met (let b = stood.before.0 in omega (arith, b, two))) (told_then.confirms two) few own_fits
          in omega (arith, back, few)

      -- where its own stamp is younger than the marked moment, a PDU that it sent since is confirmed; so what waits was sent since
      waits_now : own.mark.now < k.own_stamp → WaitFrom own.mark.sent k
      waits_now young = each_map (λ (held : Unconfirmed). l.sent - 1 - behind p l < held.tag) (λ (held : Unconfirmed). own.mark.sent ≤ held.tag)
          (λ held over. let m = so_many in let c = confirmed_now in omega (arith, over, m, c)) k.waiting (t.above tags_rise)
        where
          choose : (b : Bool) → nat_le own.mark.sent stood_at.confirms ≡ b → own.mark.sent ≤ stood_at.confirms
          choose true e = leb-true _ _ e
          choose false e = absurd
              (let few = leb-false _ _ e in let mark = ap (λ (x : Mark). x.sent) other_mark in let moment = ap (λ (x : Mark). x.now) other_mark
              in let old = told_then.paired (omega (arith, few, mark)) in omega (arith, old, moment, young, own_now))

          so_many : own.mark.sent ≤ stood_at.confirms
          so_many = choose (nat_le own.mark.sent stood_at.confirms) refl

      taken : Gone names own other k m other_kept (sent ++ more)
      taken = record {
        kept = stood_at.now;
        marked = record {
          before = let n = (chain_ends (voice_of l) l.sent (stood_at.sent - 1) stood_at.now k.sent (stood_at.sent - 1) stood_at.now ps answers).0 in let b = is_marked.before in omega (arith, n, b);
          paired = λ few. now_paired (let c = confirms_joined k t.stays.joined in omega (arith, few, c, stands_then));
          waits = waits_now;
        };
        keeps = record {
          kept_is = t.partner_stamp ∙ told_then.stamped;
          before = let w = told_then.was_read.before in omega (arith, w);
          lately = let w = told_then.was_read.most in let y = takes_from.in_time in let z = t.own_stamp in omega (arith, w, y, z, now);
        };
        own_rises = subst (Rises (IsOf names own) nothing_sent (sent ++ more)) (sym (same_stand refl t.stays.clock (confirms_joined k t.stays.joined ∙ ap (λ (n : ℕ). n - 1) stands_then) refl))
            (said k.sent (stood_at.sent - 1) stood_at.now (omega (arith, place.0)) fresh now_paired answers);
        other_rises = others_rise k.expected stood_at.now (fresher takes_from.datagram stood k.expected stands_then);
      }

    as_paired : IsPaired own.partner_mark (l.expected - 1) kept
    as_paired few = is_marked.paired (let c = confirms_joined l in_it.joined in omega (arith, few, c))

    pub moved : Moved Came kept l k ps → Gone names own other k m other_kept (sent ++ more)
    moved (speaks stayed e s o chain) = record {
      kept = kept;
      marked = record {
        before = let n = (chain_ends (voice_of l) l.sent (l.expected - 1) kept k.sent (l.expected - 1) kept ps chain).0 in let b = is_marked.before in omega (arith, n, b);
        paired = λ few. as_paired (let c = confirms_joined k stayed.joined in omega (arith, few, c, e));
        waits = λ young. waits_on stayed.waiting (is_marked.waits (omega (arith, young, o)));
      };
      keeps = record { kept_is = s ∙ keeps.kept_is; before = keeps.before; lately = let y = keeps.lately in omega (arith, y, o) };
      own_rises = subst (Rises (IsOf names own) nothing_sent (sent ++ more)) (sym (same_stand refl stayed.clock (confirms_joined k stayed.joined ∙ ap (λ (n : ℕ). n - 1) e) refl))
          (said k.sent (l.expected - 1) kept (omega arith) (omega arith) as_paired chain);
      other_rises = others_rise k.expected kept (subst (λ (n : ℕ). Rises (IsOf names (heard_of other n kept)) nothing_sent sent (stands m other_kept)) (expected ∙ sym e)
          (subst (λ (n : ℕ). Rises (IsOf names (heard_of other other.expected n)) nothing_sent sent (stands m other_kept)) keeping other_rises));
    }
      where
        waits_on : (k.waiting ≡ l.waiting) ⊎ ((item : List ℕ) × (k.waiting ≡ l.waiting ++ (record { tag = l.sent; item = item }) ∷ [])) → WaitFrom own.mark.sent l → WaitFrom own.mark.sent k
        waits_on (inl same) each = subst (Each (λ (held : Unconfirmed). own.mark.sent ≤ held.tag)) (sym same) each
        waits_on (inr (item, same)) each = subst (Each (λ (held : Unconfirmed). own.mark.sent ≤ held.tag)) (sym same)
            (each_append (λ (held : Unconfirmed). own.mark.sent ≤ held.tag) l.waiting ((record { tag = l.sent; item = item }) ∷ []) each (is_marked.before, tt))
    moved (hears_one p came receiver sender passes t) = taken p came receiver sender passes t

  -- a client that asks
  module _ (Came : Pdu → Type 0) (asking : is_asking l ≡ true) (none_kept : kept ≡ 0) (alone : l.sent ≤ 1) (own_past : l.own_stamp ≤ l.clock) (k_first : k.own_first ≡ own.first)
      (find : (p : Pdu) → Came p → (p.receiver == l.identity.own) ≡ true → (p.sender == l.identity.partner) ≡ true → Brought names other sent p) where
    chosen_none : (b : Bool) (x : ℕ) → b ≡ true → (if b then 0 else x) ≡ 0
    chosen_none true x e = refl
    chosen_none false x e = absurd (false≢true e)

    nothing_yet : stands l kept ≡ the_stand l.sent l.clock 0 0
    nothing_yet = same_stand refl refl (chosen_none (is_asking l) (l.expected - 1) asking) none_kept

    pub silent_on : ps ≡ [] → Rises (IsOf names own) nothing_sent (sent ++ more) (stands l kept)
    silent_on none = rises_append (IsOf names own) nothing_sent (stands l kept) (stands l kept) sent more own_rises
        (subst (λ (qs : List Pdu). Rises (IsOf names own) (stands l kept) (handed_out own.time own.who connection (spellings names.key qs)) (stands l kept)) (sym none) (none_falls (stands l kept)))

    pub partner_on : Rises (IsOf names other) nothing_sent (sent ++ more) (stands m other_kept)
    partner_on = others_rise other.expected other.kept other_rises

    -- it joins
    module _ (p : Pdu) (came : Came p) (receiver : (p.receiver == l.identity.own) ≡ true) (sender : (p.sender == l.identity.partner) ≡ true) (clock : k.clock ≡ l.clock)
        (joined : is_asking k ≡ false) (own_is : k.own_stamp ≡ l.own_stamp) (waiting_is : k.waiting ≡ l.waiting) (sent_is : k.sent ≡ l.sent + 1) (met : Met p l k ps)
        (is_in : is_open k.phase ≡ true) (young : k.clock < k.own_stamp + 1800) (meets : k.partner_first ≡ other.first) (fits : m.sent < 2 ^ 31) where
      brought : Brought names other sent p
      brought = find p came receiver sender

      found : Placed (IsOf names other) nothing_sent (stands m other_kept) brought.datagram sent
      found = rises_among (IsOf names other) nothing_sent (stands m other_kept) brought.datagram sent brought.among other_rises

      abbrev at : Stand
      at = found.at

      told : IsToldAt other brought.datagram.at at p
      told = found.holds brought.sender brought.connection brought.in_time p brought.read

      stands_at : k.expected ≡ at.sent
      stands_at = met.expected ∙ sym (one_sent (sym met.first ∙ meets))
        where
          one_sent : p.sequence_number ≡ other.first → at.sent ≡ 1
          one_sent is = omega (arith, is, told.number, told.some, found.before.0, fits)

      abbrev joined_own : Speaker
      joined_own = record own { partner_first = k.partner_first }

      kept_is : k.partner_stamp ≡ stamp at.now
      kept_is = met.heard ∙ told.stamped

      chain : Chain (voice_of k) l.sent (k.expected - 1) at.now ps k.sent (k.expected - 1) at.now
      chain = says_chain IsSimple simple_talk (voice_of k) k l.sent k.sent (k.expected - 1) at.now ps
          (speaks_now k.clock k at.now (record { clock = refl; connected = is_in; joined = joined; young = young; own = omega (arith, clock, own_is, own_past) })
          (omega (arith, met.expected)) (omega (arith, met.expected)) kept_is) met.says

      lately_kept : 1000 * own.partner_clock ≤ 1000000 * at.now + 3820000000
      lately_kept = let w = told.was_read.most in let y = brought.in_time in omega (arith, w, y, partner_clock)

      joined_paired : IsPaired own.partner_mark (k.expected - 1) at.now
      joined_paired few =
          let mark = ap (λ (x : Mark). x.sent) one_mark in let moment = ap (λ (x : Mark). x.now) one_mark
          in let early = told.early (omega (arith, few, mark, told.some, stands_at)) in omega (arith, early, moment)

      pub joins : Gone names joined_own other k m other_kept (sent ++ more)
      joins = record {
        kept = at.now;
        marked = record {
          before = let b = is_marked.before in omega (arith, b, sent_is);
          paired = λ few. joined_paired (let c = confirms_joined k joined in omega (arith, few, c));
          waits = λ young. subst (Each (λ (held : Unconfirmed). own.mark.sent ≤ held.tag)) (sym waiting_is) (is_marked.waits (omega (arith, young, own_is)));
        };
        keeps = record {
          kept_is = kept_is;
          before = let w = told.was_read.before in omega (arith, w);
          lately = let w = told.was_read.most in let y = brought.in_time in omega (arith, w, y, own_is, own_past, now);
        };
        own_rises = rises_append (IsOf names joined_own) nothing_sent (the_stand l.sent l.clock 0 0) (stands k at.now) sent more
            (rises_turned (IsOf names own) (IsOf names joined_own) nothing_sent (the_stand l.sent l.clock 0 0) sent as_before (subst (Rises (IsOf names own) nothing_sent sent) nothing_yet own_rises))
            (rises_low (IsOf names joined_own) (the_stand l.sent l.clock 0 0) (the_stand l.sent k.clock (k.expected - 1) at.now) (stands k at.now) more
            (omega arith, omega (arith, clock), omega arith, omega arith)
            (subst (Rises (IsOf names joined_own) (the_stand l.sent k.clock (k.expected - 1) at.now) more) (sym (same_stand refl refl (confirms_joined k joined) refl))
            (rises_said laws names joined_own (voice_of k) k.clock (clock ∙ now) refl k_first refl (omega (arith, other_before, clock)) connection k.clock l.sent (k.expected - 1) at.now
            k.sent (k.expected - 1) at.now ps (omega arith) lately_kept is_marked.before (omega arith) (omega arith) joined_paired are chain)));
        other_rises = others_rise k.expected at.now (fresher brought.datagram found k.expected stands_at);
      }
        where
          as_before : (d : Sent) (there : Stand) → NoneFalls there (the_stand l.sent l.clock 0 0) → IsOf names own d there → IsOf names joined_own d there
          as_before d there most of from same in_time pdu read = let t = of from same in_time pdu read in record {
            some = t.some;
            number = t.number;
            stamped = t.stamped;
            was_read = t.was_read;
            confirms = λ more_sent. absurd (omega (arith, more_sent, most.0, alone));
            returns = t.returns;
            recent = t.recent;
            fresh = t.fresh;
            early = t.early;
            paired = t.paired;
          }
