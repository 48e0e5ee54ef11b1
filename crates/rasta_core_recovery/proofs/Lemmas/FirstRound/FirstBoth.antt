-- What both ends know of what is under way after a round in which also comes what either says in it.
use Rattle.rasta_core_recovery.proofs.Words.Basics.{◌≡◌, ℕ, ◌⊎◌, inl, ◌+◌, ◌-◌, ◌≤◌, Bool, true, false, List, arith}
use Rattle.rasta_core_recovery.proofs.Words.Links.{stamp, LinkState, Names, identity_of, Role, Pdu}
use Rattle.rasta_core_recovery.proofs.Lemmas.ComingUp.Converse.{Way, WayMode}
use Rattle.rasta_core_recovery.proofs.Lemmas.Rounds.Course.{Joined}
use Rattle.rasta_core_recovery.proofs.Lemmas.ComingUp.Healthy.{is_reading, waits}
use Rattle.rasta_core_recovery.proofs.Lemmas.Rounds.Links.{Pair}
use Rattle.rasta_core_recovery.proofs.Lemmas.Rounds.Words.{Chain, voice_of}

-- an end that took one of the last round last, and of which what comes to it next is the next
pub record HasTaken (l m : LinkState) (number count reading kept : ℕ) : Type 0 where
  pub expected : l.expected ≡ number
  pub confirmed : l.confirmed ≤ count
  pub own : l.own_stamp ≤ reading
  pub kept_now : kept ≡ m.clock
  pub phase : (is_reading l.phase ≡ true) ⊎ (waits l.phase ≡ true)

-- One direction after the round: an end, its partner, and what is under way to it, but for what it has passed. It keeps no stamp that is
-- younger than this reading, or it took one of the round.
pub record Direction (last kept other_kept : ℕ) (l m : LinkState) (ps : List Pdu) : Type 0 where
  pub is : Joined l.clock l
  pub first : l.partner_first ≡ m.own_first
  pub some : 1 ≤ l.expected
  pub most : l.expected ≤ m.sent
  pub kept_is : l.partner_stamp ≡ stamp kept
  pub before : kept ≤ m.clock
  pub recent : m.clock ≤ kept + 4000
  pub sent_before : m.sent_at ≤ m.clock
  pub number : ℕ
  pub count : ℕ
  pub reading : ℕ
  pub chain : Chain (voice_of m) number count reading ps m.sent (m.expected - 1) other_kept
  pub since : l.clock ≤ reading + 6000
  pub level : l.expected ≤ number
  pub heard : (kept ≤ last) ⊎ HasTaken l m number count reading kept

-- where it doesn't it takes the rest
module _ (last kept other_kept : ℕ) (l m : LinkState) (ps : List Pdu) (d : Direction last kept other_kept l m ps) where
  abbrev pub WayFrom : ℕ → ℕ → Bool → Type 0
  WayFrom start own_start tuned = Way start own_start tuned kept other_kept l m ps

  abbrev way : (start own_start : ℕ) (tuned : Bool) → start ≤ m.clock → own_start ≤ l.clock → WayMode tuned start kept l m d.number d.count d.reading ps → (tuned ≡ true → start ≤ kept)
      → (tuned ≡ false → (l.expected ≤ d.number) × (l.own_stamp ≤ own_start)) → WayFrom start own_start tuned
  way start own_start tuned now own_now mode young deaf = record {
    is = d.is;
    first = d.first;
    some = d.some;
    most = d.most;
    kept_is = d.kept_is;
    before = d.before;
    low = let r = d.recent in omega (arith, now, r);
    sent_before = d.sent_before;
    number = d.number;
    count = d.count;
    reading = d.reading;
    chain = d.chain;
    since = let r = d.since in omega (arith, own_now, r);
    mode = mode;
    later = now;
    young = young;
    deaf = deaf;
  }

  unfoldable pub way_deaf : (start own_start : ℕ) → start ≤ m.clock → own_start ≤ l.clock → kept ≤ start → m.own_stamp ≤ start → l.own_stamp ≤ own_start → WayFrom start own_start false
  way_deaf start own_start now own_now old other_old own_old = way start own_start false now own_now (old, other_old) (λ e. absurd (cc e)) (λ e. (d.level, own_old))

  unfoldable pub way_tuned : (start own_start : ℕ) → start ≤ m.clock → own_start ≤ l.clock → (t : HasTaken l m d.number d.count d.reading kept) → is_reading l.phase ≡ true → WayFrom start own_start true
  way_tuned start own_start now own_now t reads = way start own_start true now own_now
      (record { reading = reads; expected = t.expected; confirmed = t.confirmed; own = t.own }, λ none. let k = t.kept_now in let b = d.sent_before in omega (arith, k, b))
      (λ e. let k = t.kept_now in omega (arith, k, now)) (λ e. absurd (cc e))

-- ---- both directions

pub record Directions (names : Names) (client_last server_last : ℕ) (p : Pair) : Type 0 where
  pub client : p.client.identity ≡ identity_of Role.Client names
  pub server : p.server.identity ≡ identity_of Role.Server names
  pub client_kept : ℕ
  pub server_kept : ℕ
  pub to_client : Direction server_last client_kept server_kept p.client p.server p.to_client
  pub to_server : Direction client_last server_kept client_kept p.server p.client p.to_server

module _ (names : Names) (client_last last : ℕ) (p : Pair) (d : Directions names client_last last p) (now : last ≤ p.server.clock)
    (own : (d.client_kept ≤ last) ⊎ (d.server_kept ≤ client_last) → p.server.own_stamp ≤ last) where
  pub client_deaf : d.client_kept ≤ last → WayFrom last d.client_kept d.server_kept p.client p.server p.to_client d.to_client last p.client.clock false
  client_deaf old = way_deaf last d.client_kept d.server_kept p.client p.server p.to_client d.to_client last p.client.clock now (omega arith) old (own (inl old)) d.to_client.is.own

  pub server_deaf : p.server.own_stamp ≤ last → WayFrom client_last d.server_kept d.client_kept p.server p.client p.to_server d.to_server p.client.clock last false
  server_deaf old = way_deaf client_last d.server_kept d.client_kept p.server p.client p.to_server d.to_server p.client.clock last (omega arith) now d.to_server.before d.to_client.is.own old
