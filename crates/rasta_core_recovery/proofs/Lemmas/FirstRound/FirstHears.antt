-- What comes in the first good round was sent before it: an end that has joined comes to expect and to keep nothing younger by it.
use Rattle.rasta_core_recovery.proofs.Words.Basics.{◌≡◌, ℕ, ◌∙◌, ◌+◌, ◌-◌, ◌^◌, ◌≤◌, ◌<◌, ◌⊎◌, inl, inr, Bool, true, false, List, [], ◌∷◌, ◌++◌, refl, sym, ap, subst, arith}
use Rattle.rasta_core_recovery.proofs.Words.Links.{stamp, wire, LinkState, is_asking, Step, then_do, hearing, Each, Pdu}
use Rattle.rasta_core_recovery.proofs.Words.Recovery.{Stand, stands}
use Rattle.rasta_core_recovery.proofs.Lemmas.Rounds.Links.{Pair, all_heard, end_round, heard, worked}
use Rattle.rasta_core_recovery.proofs.Lemmas.Rounds.Calls.{at_reading, spoken}
use Rattle.rasta_core_recovery.proofs.Lemmas.Rounds.Course.{Joined, asked_joined, lively, placed, taken_joined}
use Rattle.rasta_core_recovery.proofs.Lemmas.Rounds.Deed.{Deed, asks, hears, keeps, leaves, takes}
use Rattle.rasta_core_recovery.proofs.Lemmas.FirstRound.FirstRises.{Climbs, KeepsOf, PdusRise}
use Rattle.rasta_core_recovery.proofs.Lemmas.Rounds.Fold.{Begins, Next, Out, all_hear, begins, gone_next, heard_case, late, on, round_on, stays_next, stays_out, works_out}
use Rattle.rasta_core_recovery.proofs.Lemmas.Rounds.Turn.{Either, Ended, done, ends, gone, gone_end, reading_joined, so, spoken_joined}

-- a PDU of a place below this one, and with a stamp of this reading at most, but of lately
pub record IsBelow (first bound last : ℕ) (p : Pdu) : Type 0 where
  pub place : ℕ
  pub number : p.sequence_number ≡ wire first place
  pub below : place < bound
  pub read_as : ℕ
  pub stamped : p.time_stamp ≡ stamp read_as
  pub before : read_as ≤ last
  pub recent : last ≤ read_as + 4000

each_below : (l m : LinkState) (low high : Stand) (ps : List Pdu) → high.sent ≡ m.sent → PdusRise l m low ps high → Each (IsBelow m.own_first m.sent m.clock) ps
each_below l m low high [] same rises = tt
each_below l m low high (p ∷ ps) same (at, up, said, more) = (
  record {
    place = at.sent - 1;
    number = said.number;
    below = omega (arith, said.some, same, ends_at at ps more);
    read_as = at.now;
    stamped = said.stamped;
    before = said.before;
    recent = said.recent;
  },
  each_below l m at high ps same more,
)
  where
    ends_at : (low : Stand) (qs : List Pdu) → PdusRise l m low qs high → low.sent ≤ high.sent
    ends_at low [] rises = rises.0
    ends_at low (q ∷ qs) (there, going, saying, others) = let e = ends_at there qs others in omega (arith, e, going.0)

-- what two ends keep of each other, and that all that comes to either was said before now: in any order, and again and again
pub record Below (p : Pair) : Type 0 where
  pub client_kept : ℕ
  pub server_kept : ℕ
  pub client_keeps : is_asking p.client ≡ false → KeepsOf p.client p.server client_kept
  pub server_keeps : KeepsOf p.server p.client server_kept
  pub to_client : Each (IsBelow p.server.own_first p.server.sent p.server.clock) p.to_client
  pub to_server : Each (IsBelow p.client.own_first p.client.sent p.client.clock) p.to_server

-- so it is where it comes in the order of its sending
pub below_of : (p : Pair) → Climbs p → Below p
below_of p climbs = record {
  client_kept = climbs.client_kept;
  server_kept = climbs.server_kept;
  client_keeps = climbs.client_keeps;
  server_keeps = climbs.server_keeps;
  to_client = each_below p.client p.server climbs.server_low (stands p.server climbs.server_kept) p.to_client refl climbs.to_client;
  to_server = each_below p.server p.client climbs.client_low (stands p.client climbs.client_kept) p.to_server refl climbs.to_server;
}

-- an end that expects none above this place, and keeps a stamp of this reading at most
pub record IsOld (bound last now : ℕ) (l : LinkState) : Type 0 where
  pub is : Joined now l
  pub most : l.expected ≤ bound
  pub kept : ℕ
  pub kept_is : l.partner_stamp ≡ stamp kept
  pub before : kept ≤ last
  pub recent : last ≤ kept + 4000

module _ (first bound last now : ℕ) (fits : bound < 2 ^ 31) where
  abbrev pub Hears : ℕ → List Pdu → LinkState → Type 0
  Hears g ps l = IsOld bound last now l × (l.partner_first ≡ first) × Each (IsBelow first bound last) ps

  abbrev pub Any : ℕ → LinkState → List Pdu → ℕ → LinkState → Type 0
  Any g l ps h k = Unit {0}

  old_deed : (p : Pdu) (l k : LinkState) (qs : List Pdu) → IsOld bound last now l → l.partner_first ≡ first → IsBelow first bound last p → Deed p l k qs
      → Out now k ⊎ (IsOld bound last now k × (k.partner_first ≡ first))
  old_deed p l k qs o f b (leaves why left) =
      inl (record { clock = left.clock ∙ o.is.clock; is_out = left.is_out; quiet = omega (arith, left.closed_at, o.is.clock); lately = omega (arith, left.closed_at, o.is.clock) })
  old_deed p l k qs o f b (keeps why same none) = inr (subst (IsOld bound last now) (sym same) o, ap (λ (j : LinkState). j.partner_first) same ∙ f)
  old_deed p l k qs o f b (asks passes apart a) = inr (
    record {
      is = asked_joined now l k qs o.is a;
      most = omega (arith, ap (λ (j : LinkState). j.expected) a.link, o.most);
      kept = o.kept;
      kept_is = ap (λ (j : LinkState). j.partner_stamp) a.link ∙ o.kept_is;
      before = o.before;
      recent = o.recent;
    },
    ap (λ (j : LinkState). j.partner_first) a.link ∙ f,
  )
  old_deed p l k qs o f b (takes passes t) =
      let at = placed (record { receiver = 0; sender = 0; first = first; partner_first = 0; stamp = 0 }) b.place bound p l (sym f) b.number b.below fits o.most passes.near in inr (
        record {
          is = taken_joined now p l k qs o.is passes t;
          most = omega (arith, t.expected, at.1, b.below);
          kept = b.read_as;
          kept_is = t.partner_stamp ∙ b.stamped;
          before = b.before;
          recent = b.recent;
        },
        t.stays.partner_first ∙ f,
      )

  pub old_step : (g : ℕ) (p : Pdu) (ps : List Pdu) (l : LinkState) → Hears g (p ∷ ps) l → Next ℕ now Hears Any g l ps (heard now p l)
  old_step g p ps l (o, f, each) = choose (heard_case now p l (lively now l o.is))
    where
      next : Out now (heard now p l).link ⊎ (IsOld bound last now (heard now p l).link × ((heard now p l).link.partner_first ≡ first)) → Next ℕ now Hears Any g l ps (heard now p l)
      next (inl left) = gone_next left
      next (inr (a, b)) = stays_next 0 (a, b, each.1) tt

      choose : Out now (heard now p l).link ⊎ ((l.sent < 2147483000) × ((heard now p l).link ≡ (hearing p l).link) × ((heard now p l).pdus ≡ (hearing p l).pdus))
          → Next ℕ now Hears Any g l ps (heard now p l)
      choose (inl left) = gone_next left
      choose (inr (room, e, g2)) = next (old_deed p l (heard now p l).link (heard now p l).pdus o f each.0
          (subst (λ (k : LinkState). Deed p l k (heard now p l).pdus) (sym e)
          (subst (λ (qs : List Pdu). Deed p l (hearing p l).link qs) (sym g2) (hears p l o.is.connected o.is.joined (omega (arith, o.is.young, o.is.clock))))))

  spoken_old : (b : Bool) (k : LinkState) → IsOld bound last now k → IsOld bound last now (spoken b k)
  spoken_old false k o = o
  spoken_old true k o = record { is = spoken_joined now true k o.is; most = o.most; kept = o.kept; kept_is = o.kept_is; before = o.before; recent = o.recent }

  -- so it is after the round
  pub old_behind : (ps : List Pdu) (l : LinkState) → now ≡ l.clock + 10 → Joined l.clock l → l.partner_first ≡ first → l.expected ≤ bound → (kept : ℕ) → l.partner_stamp ≡ stamp kept
      → kept ≤ last → last ≤ kept + 4000 → Each (IsBelow first bound last) ps
      → Either now (end_round now ps l).link (IsOld bound last now (end_round now ps l).link)
  old_behind ps l at is f most kept kept_is before recent each = choose (begins now l at is.connected is.young)
    where
      j : LinkState
      j = at_reading now l

      Goal : Step → Type 0
      Goal s = Either now s.link (IsOld bound last now s.link)

      heard_all : Step
      heard_all = all_heard now ps j

      ended : (k : LinkState) (qs : List Pdu) → IsOld bound last now k → Ended now k (worked now l.identity.role k)
          → Goal (record { link = (worked now l.identity.role k).link; pdus = qs ++ (worked now l.identity.role k).pdus })
      ended k qs o (gone_end left) = gone left
      ended k qs o (done b e calm up) = subst (λ (s : Step). Goal (record { link = s.link; pdus = qs ++ s.pdus })) (sym e) (so (spoken_old b k o))

      heard_then : Next ℕ now Hears Any 0 j [] heard_all → Goal (then_do heard_all (λ k. worked now l.identity.role k))
      heard_then (gone_next left) = gone (works_out now l.identity.role heard_all.link left)
      heard_then (stays_next g a o) = ended heard_all.link heard_all.pdus a.0 (ends now l.identity.role heard_all.link a.0.is)

      choose : Begins now l → Goal (end_round now ps l)
      choose (late left) = gone (stays_out now ps l left)
      choose (on e young) = subst Goal (sym (round_on now ps l e))
          (heard_then (all_hear ℕ now Hears Any (λ g l a. tt) (λ g h i l k j ps qs a b. tt) old_step ps 0 j
          (record { is = reading_joined now l is at young; most = most; kept = kept; kept_is = kept_is; before = before; recent = recent }, f, each)))
