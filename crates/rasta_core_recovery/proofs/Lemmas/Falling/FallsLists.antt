-- Datagrams with the stands of their sender, which don't fall.
use Rattle.rasta_core_recovery.proofs.Words.Basics.{◌≡◌, ℕ, ◌∙◌, ◌+◌, ◌*◌, ◌/◌, ◌≤◌, ◌⊎◌, inl, inr, Bool, true, false, List, [], ◌∷◌, ◌++◌, Option, if◌then◌else◌, refl, ap, subst, arith}
use Rattle.rasta_core_recovery.proofs.Words.Links.{is_copy, without_oldest, Each, Sent, handed_out, IsAmong, Names, spellings, stamp, wire, IsPdu, Role, Pdu}
use Rattle.rasta_core_recovery.proofs.Words.Recovery.{Stand, NoneFalls, Rises, Speaker, IsPaired, IsToldAt, IsOf, LawsBelow}
use Rattle.rasta_core_recovery.proofs.Lemmas.Rounds.Words.{Voice, IsWord, Chain, chain_ends}
use Rattle.rasta_core_recovery.proofs.Lemmas.Rounds.Bridge.{reads_as}

pub none_falls : (one : Stand) → NoneFalls one one
none_falls one = (omega arith, omega arith, omega arith, omega arith)

pub none_then : (one other last : Stand) → NoneFalls one other → NoneFalls other last → NoneFalls one last
none_then one other last a b = (omega (arith, a.0, b.0), omega (arith, a.1, b.1), omega (arith, a.2, b.2), omega (arith, a.3, b.3))

pub rises_ends : (Q : Sent → Stand → Type 0) (low high : Stand) (ds : List Sent) → Rises Q low ds high → NoneFalls low high
rises_ends Q low high [] rises = rises
rises_ends Q low high (d ∷ ds) (at, up, q, more) = none_then low at high up (rises_ends Q at high ds more)

pub rises_low : (Q : Sent → Stand → Type 0) (lower low high : Stand) (ds : List Sent) → NoneFalls lower low → Rises Q low ds high → Rises Q lower ds high
rises_low Q lower low high [] below rises = none_then lower low high below rises
rises_low Q lower low high (d ∷ ds) below (at, up, q, more) = (at, none_then lower low at below up, q, more)

pub rises_append : (Q : Sent → Stand → Type 0) (low mid high : Stand) (ds es : List Sent) → Rises Q low ds mid → Rises Q mid es high → Rises Q low (ds ++ es) high
rises_append Q low mid high [] es up rises = rises_low Q low mid high es up rises
rises_append Q low mid high (d ∷ ds) es (at, up, q, more) rises = (at, up, q, rises_append Q at mid high ds es more rises)

pub rises_high : (Q : Sent → Stand → Type 0) (low high higher : Stand) (ds : List Sent) → NoneFalls high higher → Rises Q low ds high → Rises Q low ds higher
rises_high Q low high higher [] up rises = none_then low high higher rises up
rises_high Q low high higher (d ∷ ds) up (at, first, q, more) = (at, first, q, rises_high Q at high higher ds up more)

-- what holds of them up to where they end, holds of others
pub rises_turned : (P Q : Sent → Stand → Type 0) (low high : Stand) (ds : List Sent) → ((d : Sent) (at : Stand) → NoneFalls at high → P d at → Q d at) → Rises P low ds high → Rises Q low ds high
rises_turned P Q low high [] turn rises = rises
rises_turned P Q low high (d ∷ ds) turn (at, up, p, more) = (at, up, turn d at (rises_ends P at high ds more) p, rises_turned P Q at high ds turn more)

-- what the other end hands out changes nothing
pub rises_others : (Q : Sent → Stand → Type 0) (who : Role) (low : Stand) (time : ℕ) (connection : Option ℕ) (bs : List (List ℕ)) → ((d : Sent) (at : Stand) → d.sender ≡ who → Q d at)
    → Rises Q low (handed_out time who connection bs) low
rises_others Q who low time connection [] any = none_falls low
rises_others Q who low time connection (b ∷ bs) any = (low, none_falls low, any _ low refl, rises_others Q who low time connection bs any)

-- nor does a loss
pub rises_without : (Q : Sent → Stand → Type 0) → ((d : Sent) (is_lost : Bool) (at : Stand) → Q d at → Q (record d { is_lost = is_lost }) at)
    → (bytes : List ℕ) (low high : Stand) (ds : List Sent) → Rises Q low ds high → Rises Q low (without_oldest bytes ds) high
rises_without Q turn bytes low high [] rises = rises
rises_without Q turn bytes low high (d ∷ ds) (at, up, q, more) = choose (is_copy bytes d) (rises_without Q turn bytes at high ds more)
  where
    choose : (b : Bool) → Rises Q at (without_oldest bytes ds) high → Rises Q low (if b then (record d { is_lost = true }) ∷ ds else d ∷ without_oldest bytes ds) high
    choose true rest = (at, up, turn d true at q, more)
    choose false rest = (at, up, q, rest)

rises_above : (Q : Sent → Stand → Type 0) (base low high : Stand) (ds : List Sent) → NoneFalls base low → Rises Q low ds high → Rises (λ d at. Q d at × NoneFalls base at) low ds high
rises_above Q base low high [] above rises = rises
rises_above Q base low high (d ∷ ds) above (at, up, q, more) = let over = none_then base low at above up in (at, up, (q, over), rises_above Q base at high ds over more)

-- One of them stands at a place, and each of the others before it or after.
pub record Placed (Q : Sent → Stand → Type 0) (low high : Stand) (datagram : Sent) (ds : List Sent) : Type 0 where
  pub at : Stand
  pub holds : Q datagram at
  pub after : NoneFalls low at
  pub before : NoneFalls at high
  pub others : Rises (λ d there. Q d there × (NoneFalls there at ⊎ NoneFalls at there)) low ds high

pub rises_among : (Q : Sent → Stand → Type 0) (low high : Stand) (datagram : Sent) (ds : List Sent) → IsAmong datagram ds → Rises Q low ds high → Placed Q low high datagram ds
rises_among Q low high datagram [] is rises = absurd is
rises_among Q low high datagram (d ∷ ds) (inl same) (at, up, q, more) = record {
  at = at;
  holds = subst (λ (e : Sent). Q e at) same q;
  after = up;
  before = rises_ends Q at high ds more;
  others = (at, up, (q, inl (none_falls at)), rises_turned _ _ at high ds (λ e there most p. (p.0, inr p.1)) (rises_above Q at at high ds (none_falls at) more));
}
rises_among Q low high datagram (d ∷ ds) (inr is) (at, up, q, more) = let found = rises_among Q at high datagram ds is more in record {
  at = found.at;
  holds = found.holds;
  after = none_then low at found.at up found.after;
  before = found.before;
  others = (at, up, (q, inl found.after), found.others);
}

-- all of them stand at one place
pub rises_alike : (Q : Sent → Stand → Type 0) (at : Stand) (ds : List Sent) → Each (λ d. Q d at) ds → Rises Q at ds at
rises_alike Q at [] each = none_falls at
rises_alike Q at (d ∷ ds) each = (at, none_falls at, each.0, rises_alike Q at ds each.1)

-- ---- what an end says now

-- each PDU of a chain, as it is handed out
module _ (laws : LawsBelow) (names : Names) (speaker : Speaker) (v : Voice) (now : ℕ) (read_now : now ≡ speaker.clock / 1000) (stamped : v.stamp ≡ stamp now) (first : v.first ≡ speaker.first) (partner_first : v.partner_first ≡ speaker.partner_first)
    (kept : speaker.kept ≤ now) where
  told : (n d q : ℕ) (p : Pdu) → 1000 * speaker.partner_clock ≤ 1000000 * q + 3820000000 → speaker.mark.sent ≤ n → IsPaired speaker.partner_mark d q → IsWord v n d q p
      → IsToldAt speaker speaker.time (record { sent = n + 1; now = now; confirms = d; returns = q }) p
  told n d q p recent since paired w = record {
    some = omega arith;
    number = w.numbered.number ∙ ap (λ (f : ℕ). wire f n) first ∙ ap (wire speaker.first) (omega arith);
    stamped = w.numbered.stamped ∙ stamped;
    was_read = record { before = omega (arith, read_now); least = omega (arith, read_now); most = omega (arith, read_now) };
    confirms = λ more. w.confirms ∙ ap (λ (f : ℕ). wire f d) partner_first;
    returns = λ more. w.returns;
    recent = λ more. omega (arith, recent);
    fresh = λ expected. kept;
    early = λ few. absurd (omega (arith, few, since));
    paired = paired;
  }

  pub rises_said : (connection : Option ℕ) (before n c r end d q : ℕ) (ps : List Pdu) → before ≤ now → 1000 * speaker.partner_clock ≤ 1000000 * r + 3820000000
      → speaker.mark.sent ≤ n → d ≤ c → q ≤ r → IsPaired speaker.partner_mark d q → Each IsPdu ps
      → Chain v n c r ps end d q
      → Rises (IsOf names speaker) (record { sent = n; now = before; confirms = c; returns = r }) (handed_out speaker.time speaker.who connection (spellings names.key ps))
      (record { sent = end; now = now; confirms = d; returns = q })
  rises_said connection before n c r end d q [] early recent since still same paired are chain = (omega (arith, chain.0), early, chain.1, chain.2)
  rises_said connection before n c r end d q (p ∷ ps) early recent since still same paired are (x, y, h, i, w, more) = (
    record { sent = n + 1; now = now; confirms = x; returns = y },
    (omega arith, early, h, i),
    λ sender same in_time pdu read. subst (IsToldAt speaker speaker.time (record { sent = n + 1; now = now; confirms = x; returns = y })) (reads_as laws names.key p pdu are.0 read)
        (told n x y p (omega (arith, recent, i)) since pair w),
    rises_said connection now (n + 1) x y end d q ps (omega arith) (omega (arith, recent, i)) (omega (arith, since)) (omega (arith, still, h)) (omega (arith, same, i)) paired are.1 more,
  )
    where
      pair : IsPaired speaker.partner_mark x y
      pair few = let most = chain_ends v (n + 1) x y end d q ps more in let early = paired (omega (arith, few, most.1, h, still)) in omega (arith, early, most.2)
