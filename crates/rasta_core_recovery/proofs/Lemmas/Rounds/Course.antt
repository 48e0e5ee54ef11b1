-- A round at an end that has joined a connection: what it hears of what its partner said in the last round, and what it says.
use Rattle.rasta_core_recovery.proofs.Words.Basics.{◌≡◌, ℕ, ◌∙◌, ◌+◌, ◌-◌, ◌^◌, ◌≤◌, ◌<◌, ◌⊎◌, inl, inr, true, false, nat_lt, List, [], ◌∷◌, ◌++◌, refl, sym, ap, subst, arith, ltb-false}
use Rattle.rasta_core_recovery.proofs.Words.Links.{wire, stamp, distance, LinkState, is_open, is_asking, header_of, pdu_of, age, ahead, behind, is_stale, taking, Identity, Pdu, RetransmissionRequest}
use Rattle.rasta_core_recovery.proofs.Lemmas.Rounds.Words.{IsTalk, IsPlain, plain_talk, Voice, voice_of, Chain, Speaks, says_chain}
use Rattle.rasta_core_recovery.proofs.Lemmas.Rounds.Deed.{Passes, Taken, Asked}
use Rattle.rasta_core_recovery.proofs.Lemmas.Rounds.Fold.{Lively}

-- an end that has joined a connection, at a reading of its clock
pub record Joined (now : ℕ) (l : LinkState) : Type 0 where
  pub clock : l.clock ≡ now
  pub connected : is_open l.phase ≡ true
  pub joined : is_asking l ≡ false
  pub young : now < l.own_stamp + 1800
  pub own : l.own_stamp ≤ now

pub lively : (now : ℕ) (l : LinkState) → Joined now l → Lively now l
lively now l is = record { clock = is.clock; connected = is.connected; young = is.young }

-- from one state of an end to another in a round: it stays, and has spoken now if at all
pub record Goes (now : ℕ) (l : LinkState) (ps : List Pdu) (k : LinkState) : Type 0 where
  pub identity : k.identity ≡ l.identity
  pub own_first : k.own_first ≡ l.own_first
  pub partner_first : k.partner_first ≡ l.partner_first
  pub clock : l.clock ≡ k.clock
  pub sent_at : (k.sent_at ≡ l.sent_at) ⊎ (k.sent_at ≡ now)
  pub spoken : ps ≡ [] → (k.sent_at ≡ l.sent_at)

pub goes_none : (now : ℕ) (l : LinkState) → Goes now l [] l
goes_none now l = record { identity = refl; own_first = refl; partner_first = refl; clock = refl; sent_at = inl refl; spoken = λ e. refl }

none_before : (ps qs : List Pdu) → ps ++ qs ≡ [] → (ps ≡ []) × (qs ≡ [])
none_before [] qs e = (refl, e)
none_before (p ∷ ps) qs e = cc

pub goes_then : (now : ℕ) (l k j : LinkState) (ps qs : List Pdu) → Goes now l ps k → Goes now k qs j → Goes now l (ps ++ qs) j
goes_then now l k j ps qs a b = record {
  identity = b.identity ∙ a.identity;
  own_first = b.own_first ∙ a.own_first;
  partner_first = b.partner_first ∙ a.partner_first;
  clock = a.clock ∙ b.clock;
  sent_at = either b.sent_at a.sent_at;
  spoken = λ e. let n = none_before ps qs e in b.spoken n.1 ∙ a.spoken n.0;
}
  where
    either : (j.sent_at ≡ k.sent_at) ⊎ (j.sent_at ≡ now) → (k.sent_at ≡ l.sent_at) ⊎ (k.sent_at ≡ now) → (j.sent_at ≡ l.sent_at) ⊎ (j.sent_at ≡ now)
    either (inl e) (inl f) = inl (e ∙ f)
    either (inl e) (inr f) = inr (e ∙ f)
    either (inr e) f = inr e

-- its voice stays
pub voice_goes : (now : ℕ) (l k : LinkState) (ps : List Pdu) → Goes now l ps k → voice_of k ≡ voice_of l
voice_goes now l k ps g = five (ap (λ (i : Identity). i.partner) g.identity) (ap (λ (i : Identity). i.own) g.identity) g.own_first g.partner_first (ap stamp (sym g.clock))
  where
    packed : ℕ → ℕ → ℕ → ℕ → ℕ → Voice
    packed a b c d e = record { receiver = a; sender = b; first = c; partner_first = d; stamp = e }

    five : {a b c d e f g h i j : ℕ} → a ≡ b → c ≡ d → e ≡ f → g ≡ h → i ≡ j → packed a c e g i ≡ packed b d f h j
    five p q r s t = cc

-- ---- what the tests say

pub fresh_age : (p : Pdu) (l : LinkState) → is_stale p l ≡ false → age p l ≤ l.clock - l.own_stamp
fresh_age p l e = ltb-false _ _ e

-- an end that takes a PDU lives as long as before, or longer
pub taken_joined : (now : ℕ) (p : Pdu) (l k : LinkState) (ps : List Pdu) → Joined now l → Passes p l → Taken p l k ps → Joined now k
taken_joined now p l k ps is passes t = let f = fresh_age p l passes.fresh in record {
  clock = t.stays.clock ∙ is.clock;
  connected = t.stays.connected;
  joined = t.stays.joined;
  young = omega (arith, f, is.young, is.clock, is.own, t.own_stamp);
  own = omega (arith, t.own_stamp, is.clock);
}

-- the place of a PDU that passes
pub placed : (v : Voice) (n most : ℕ) (p : Pdu) (l : LinkState) → v.first ≡ l.partner_first → p.sequence_number ≡ wire v.first n → n < most → most < 2 ^ 31 → l.expected ≤ most
    → nat_lt 200 (ahead p l) ≡ false → (l.expected ≤ n) × (wire l.expected (ahead p l + 1) ≡ n + 1)
unfolding ahead
placed v n most p l first number before_end fits expected near =
    let f = ltb-false 200 _ near in let g = ap (λ (x : ℕ). wire x n) first in let h : p.sequence_number ≡ wire l.partner_first n = number ∙ g in
    let at = apart h f in (at, omega (arith, h, at, before_end, fits))
  where
    apart : p.sequence_number ≡ wire l.partner_first n → distance (wire l.partner_first l.expected) p.sequence_number ≤ 200 → l.expected ≤ n
    apart h f = omega (arith, h, f, before_end, fits, expected)

-- the reading that a PDU returns
pub returned : (q now : ℕ) (p : Pdu) (l : LinkState) → l.clock ≡ now → p.confirmed_time_stamp ≡ stamp q → q ≤ now → now < q + 2 ^ 31 → age p l ≡ now - q
unfolding age
returned q now p l at returns old recent = omega (arith, at, returns, old, recent)

-- the count that a PDU confirms
pub counted : (v : Voice) (d : ℕ) (p : Pdu) (l : LinkState) → v.partner_first ≡ l.own_first → p.confirmed_sequence_number ≡ wire v.partner_first d → d < l.sent → l.sent < 2 ^ 31 → behind p l ≡ l.sent - 1 - d
unfolding behind
counted v d p l first number counts fits = let h : p.confirmed_sequence_number ≡ wire l.own_first d = number ∙ ap (λ (x : ℕ). wire x d) first in omega (arith, h, counts, fits)

-- ---- what an end says in the middle of a round

pub speaks_now : (now : ℕ) (l : LinkState) (kept : ℕ) → Joined now l → 1 ≤ l.expected → l.expected < 2 ^ 31 → l.partner_stamp ≡ stamp kept → Speaks l (voice_of l) (l.expected - 1) kept
speaks_now now l kept is some fits kept_is = record { joined = is.joined; voice = refl; some = omega (arith, some); fits = omega (arith, fits); kept_is = kept_is }

-- the answers of an end that took a PDU
pub answers_chain : (now n kept : ℕ) (p : Pdu) (l k : LinkState) (ps : List Pdu) → Joined now l → Taken p l k ps → wire l.expected (ahead p l + 1) ≡ n + 1 → n < 2 ^ 31 → p.time_stamp ≡ stamp kept
    → Chain (voice_of l) l.sent n kept ps k.sent n kept
unfolding taking
answers_chain now n kept p l k ps is t place fits stamped =
    says_chain IsPlain plain_talk (voice_of l) (taking p l) l.sent k.sent n kept ps (record { joined = is.joined; voice = refl; some = place; fits = fits; kept_is = stamped }) t.answers

pub asked_chain : (now kept : ℕ) (l k : LinkState) (ps : List Pdu) → Joined now l → Asked l k ps → 1 ≤ l.expected → l.expected < 2 ^ 31 → l.partner_stamp ≡ stamp kept
    → Chain (voice_of l) l.sent (l.expected - 1) kept ps k.sent (l.expected - 1) kept
unfolding pdu_of header_of
asked_chain now kept l k ps is a some fits kept_is =
    subst (λ (qs : List Pdu). Chain (voice_of l) l.sent (l.expected - 1) kept qs k.sent (l.expected - 1) kept) (sym a.pdus)
    (says_chain IsTalk (λ b t. t) (voice_of l) l l.sent k.sent (l.expected - 1) kept (pdu_of (header_of l) l.sent RetransmissionRequest ∷ []) (speaks_now now l kept is some fits kept_is)
    (refl, tt, sym (ap (λ (j : LinkState). j.sent) a.link)))

pub asked_joined : (now : ℕ) (l k : LinkState) (ps : List Pdu) → Joined now l → Asked l k ps → Joined now k
asked_joined now l k ps is a = subst (Joined now) (sym a.link) (record { clock = is.clock; connected = refl; joined = refl; young = is.young; own = is.own })

pub asked_goes : (now : ℕ) (l k : LinkState) (ps : List Pdu) → Joined now l → Asked l k ps → Goes now l ps k
asked_goes now l k ps is a = subst (Goes now l ps) (sym a.link) (record {
  identity = refl;
  own_first = refl;
  partner_first = refl;
  clock = refl;
  sent_at = inr is.clock;
  spoken = λ e. absurd (some_said (sym a.pdus ∙ e));
})
  where
    some_said : {p : Pdu} → p ∷ [] ≡ [] → ⊥
    some_said e = cc

pub taken_goes : (now : ℕ) (p : Pdu) (l k : LinkState) (ps : List Pdu) → Joined now l → Taken p l k ps → Goes now l ps k
taken_goes now p l k ps is t = record {
  identity = t.stays.identity;
  own_first = t.stays.own_first;
  partner_first = t.stays.partner_first;
  clock = sym t.stays.clock;
  sent_at = either t.sent_at;
  spoken = silent_said t.sent_at;
}
  where
    either : ((ps ≡ []) × (k.sent_at ≡ l.sent_at)) ⊎ ((k.sent_at ≡ l.clock) × (ps ≡ [] → ⊥)) → (k.sent_at ≡ l.sent_at) ⊎ (k.sent_at ≡ now)
    either (inl e) = inl e.1
    either (inr e) = inr (e.0 ∙ is.clock)

    silent_said : ((ps ≡ []) × (k.sent_at ≡ l.sent_at)) ⊎ ((k.sent_at ≡ l.clock) × (ps ≡ [] → ⊥)) → ps ≡ [] → k.sent_at ≡ l.sent_at
    silent_said (inl e) none = e.1
    silent_said (inr e) none = absurd (e.1 none)
