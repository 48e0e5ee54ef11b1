-- One direction after the first round, from what its end has come to.
use Rattle.rasta_core_recovery.proofs.Words.Basics.{◌≡◌, ℕ, suc, ◌∙◌, ◌+◌, ◌-◌, ◌^◌, ◌≤◌, ◌<◌, ◌⊎◌, inl, inr, List, drop, sym, subst, arith}
use Rattle.rasta_core_recovery.proofs.Words.Links.{stamp, LinkState, Pdu}
use Rattle.rasta_core_recovery.proofs.Lemmas.Rounds.Course.{Joined}
use Rattle.rasta_core_recovery.proofs.Lemmas.Rounds.Deed.{Passes, Taken}
use Rattle.rasta_core_recovery.proofs.Lemmas.FirstRound.FirstBoth.{Direction, HasTaken}
use Rattle.rasta_core_recovery.proofs.Lemmas.FirstRound.FirstNew.{Stood}
use Rattle.rasta_core_recovery.proofs.Lemmas.FirstRound.FirstTalk.{same_kept}
use Rattle.rasta_core_recovery.proofs.Lemmas.Rounds.Words.{Chain, voice_of}

module _ (first bound last : ℕ) (l m : LinkState) (r c kept other_kept : ℕ) (said : List Pdu) (chain : Chain (voice_of m) bound c r said m.sent (m.expected - 1) other_kept)
    (is_first : (voice_of m).first ≡ first) (fits : m.sent < 2 ^ 31) (confirmed_fits : m.expected - 1 < 2 ^ 31) (old : other_kept ≤ l.clock) (low : l.clock < r + 2 ^ 31)
    (R : Pdu → Type 0) (S : ℕ → Type 0) (turn : (p : Pdu) (j k : LinkState) (qs : List Pdu) → R p → Joined l.clock j → Passes p j → Taken p j k qs → S k.own_stamp)
    (is : Joined l.clock l) (same_first : l.partner_first ≡ m.own_first) (some : 1 ≤ l.expected) (most : l.expected ≤ m.sent) (kept_is : l.partner_stamp ≡ stamp kept) (before : kept ≤ m.clock)
    (recent : m.clock ≤ kept + 4000) (sent_before : m.sent_at ≤ m.clock) (since : l.clock ≤ r + 6000) (time : m.clock ≡ last + 10) where
  abbrev Stands : Type 0
  Stands = Stood first bound last l.clock (voice_of m) r m.sent (m.expected - 1) other_kept c said chain is_first fits confirmed_fits old low R S turn l

  direction_by : (number count reading : ℕ) → Chain (voice_of m) number count reading (drop (l.expected - bound) said) m.sent (m.expected - 1) other_kept → l.clock ≤ reading + 6000 → l.expected ≤ number
      → (kept ≤ last) ⊎ HasTaken l m number count reading kept → Direction last kept other_kept l m (drop (l.expected - bound) said)
  direction_by number count reading rest late level heard = record {
    is = is;
    first = same_first;
    some = some;
    most = most;
    kept_is = kept_is;
    before = before;
    recent = recent;
    sent_before = sent_before;
    number = number;
    count = count;
    reading = reading;
    chain = rest;
    since = late;
    level = level;
    heard = heard;
  }

  -- so it is of what comes to it but for what it has passed
  pub direction_of : Stands → Direction last kept other_kept l m (drop (l.expected - bound) said)
  direction_of (inl (o, z)) = direction_by bound c r (let e : 0 ≡ l.expected - bound = omega (arith, o.most) in subst (λ (i : ℕ). Chain (voice_of m) bound c r (drop i said) m.sent (m.expected - 1) other_kept) e chain)
      since o.most (inl (omega (arith, same_kept kept o.kept m.clock before (omega (arith, recent)) (omega (arith, o.before, time)) (omega (arith, o.recent, time)) (sym kept_is ∙ o.kept_is), o.before)))
  direction_of (inr h) = direction_by (bound + h.place + 1) h.at.count h.at.reading
      (let e : suc h.place ≡ l.expected - bound = omega (arith, h.expected) in
      subst (λ (i : ℕ). Chain (voice_of m) (bound + h.place + 1) h.at.count h.at.reading (drop i said) m.sent (m.expected - 1) other_kept) e h.at.rest)
      (let x = h.at.least in omega (arith, since, x)) (omega (arith, h.expected))
      (inr (record {
        expected = h.expected;
        confirmed = omega (arith, h.confirms_is);
        own = omega (arith, h.own);
        kept_now = same_kept kept m.clock m.clock before (omega (arith, recent)) (omega arith) (omega arith) (sym kept_is ∙ h.kept);
        phase = h.phase;
      }))
