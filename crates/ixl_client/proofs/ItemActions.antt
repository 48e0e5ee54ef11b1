-- Acting on the items of a datagram, one after another.
use Rattle.std.proofs.Common.{◌≡◌, ℕ, ◌+◌, ◌*◌, ◌<◌, ◌≤◌, Bool, true, false, if◌then◌else◌, List, [], ◌∷◌, drop, length, get_or, arith, refl, ap, sym, ◌∙◌, subst}
use Rattle.std.proofs.lemmas.List.{at_drop_more, at_drop_all}
use Rattle.rasta_core.specs.State.{is_open}
use Rattle.rasta_core.specs.State.{LinkState, is_up}
use Rattle.rasta_core.specs.Calls.{receiving}
use Rattle.rasta_core.specs.Outbox.{OutboxState}
use Rattle.ixl_client.specs.declared.indication.Indication.{Indication}
use Rattle.ixl_client.specs.Client.{ClientState}
use Rattle.sci_telegram.specs.declared.message.Message.{Message}
use Rattle.ixl_client.specs.declared.command.Command.{Command}
use Rattle.ixl_client.specs.declared.stage.Stage.{Stage}
use Rattle.ixl_client.specs.declared.stage.Stage.TheVariants as stage
use Rattle.ixl_client.specs.ClientSoFar.{Opens, ClientSoFar, Receives, Seen, Ticks, calling, seen}
use Rattle.ixl_client.specs.Step.{acting, acting_all, at_stage, commanding, ending, fallen, hearing, message_of, posting, rising, stage_after_command, ticking}
use Rattle.ixl_client.specs.Way.{Goes}
use Rattle.ixl_client.proofs.PartsFollow.{going_as, going_more, going_nowhere, going_then, part_at, staged}

-- the items before this place were acted on, and those from it on are left
pub record IsActing (now : ℕ) (items : List (List ℕ)) (start : Seen) (place : ℕ) (view : Seen) : Type 0 where
  pub on : (more : ℕ) (last : Seen) → Goes now more (acting_all now (drop place items)) view last → Goes now (2 * place + more) (acting_all now items) start last
  pub clock : view.client.link.clock ≡ now
  pub capacity : view.outbox.capacity ≡ start.outbox.capacity
  pub few : length view.outbox.datagrams ≤ length start.outbox.datagrams + 2 * place
  pub heard : length view.heard ≤ place

pub begins : (now : ℕ) (items : List (List ℕ)) (start : Seen) → start.client.link.clock ≡ now → start.heard ≡ [] → IsActing now items start 0 start
begins now items start at none = record {
  on = λ more last way. going_more now more (2 * 0 + more) (acting_all now items) start last (omega arith) way;
  clock = at;
  capacity = refl;
  few = omega arith;
  heard = omega (arith, ap length none);
}

nothing_left : (now : ℕ) (view : Seen) → view.client.link.clock ≡ now → Goes now 0 (acting_all now []) view view
unfolding acting_all
nothing_left now view at = going_nowhere now view at

pub closed_drops : (now : ℕ) (items : List (List ℕ)) (view : Seen) → view.client.link.clock ≡ now → is_open view.client.link.phase ≡ false → Goes now 0 (acting_all now items) view view
unfolding acting_all
closed_drops now [] view at closed = going_nowhere now view at
closed_drops now (item ∷ others) view at closed = going_as now 0 0 (λ part. part) (acting_all now (item ∷ others)) view view (omega arith) (λ calls acted. rw closed refl) (going_nowhere now view at)

one_item : (now more : ℕ) (item : List ℕ) (others : List (List ℕ)) (a b c : Seen) → is_open a.client.link.phase ≡ true → Goes now 2 (acting now item) a b →
    Goes now more (acting_all now others) b c → Goes now (2 + more) (acting_all now (item ∷ others)) a c
unfolding acting_all
one_item now more item others a b c opened one next =
    going_as now (2 + more) (2 + more) (λ part. acting_all now others (acting now item part)) (acting_all now (item ∷ others)) a c (omega arith)
    (λ calls acted. rw opened refl) (going_then now 2 more (acting now item) (acting_all now others) a b c one next)

pub acts_on : (now place : ℕ) (items : List (List ℕ)) (item : List ℕ) (start view next : Seen) → IsActing now items start place view →
    place < length items → item ≡ get_or items place item → is_open view.client.link.phase ≡ true → Goes now 2 (acting now item) view next →
    length next.heard ≤ length view.heard + 1 → IsActing now items start (place + 1) next
acts_on now place items item start view next state within is_item opened made one =
    let rest : drop place items ≡ item ∷ drop (place + 1) items =
    at_drop_more (λ rest. rest) items place item within ∙ ap (λ i. i ∷ drop (place + 1) items) (sym is_item)
    in record {
      on = λ more last way.
          let whole = state.on (2 + more) last
          (subst (λ left. Goes now (2 + more) (acting_all now left) view last) (sym rest) (one_item now more item (drop (place + 1) items) view next last opened made way))
          in going_more now (2 * place + (2 + more)) (2 * (place + 1) + more) (acting_all now items) start last (omega arith) whole;
      clock = made.clock;
      capacity = made.capacity ∙ state.capacity;
      few = omega (arith, made.few, state.few);
      heard = omega (arith, one, state.heard);
    }

pub ends : (now place : ℕ) (items : List (List ℕ)) (start view : Seen) → IsActing now items start place view → length items ≤ place → place ≤ 3 →
    Goes now 6 (acting_all now items) start view
ends now place items start view state past most =
    going_more now (2 * place + 0) 6 (acting_all now items) start view (omega (arith, most)) (state.on 0 view
    (subst (λ left. Goes now 0 (acting_all now left) view view) (sym (at_drop_all (λ rest. rest) items place past)) (nothing_left now view state.clock)))

pub ends_closed : (now place : ℕ) (items : List (List ℕ)) (start view : Seen) → IsActing now items start place view → is_open view.client.link.phase ≡ false → place ≤ 3 →
    Goes now 6 (acting_all now items) start view
ends_closed now place items start view state closed most =
    going_more now (2 * place + 0) 6 (acting_all now items) start view (omega (arith, most)) (state.on 0 view (closed_drops now (drop place items) view state.clock closed))

pub fallen_link : (client : ClientState) → (fallen client).link ≡ client.link
unfolding fallen
fallen_link client = cases (is_up client.link.phase) where
  cases : (b : Bool) → (if b then client else record client { stage = stage.Outside }).link ≡ client.link
  cases true = refl
  cases false = refl

-- the client is outside after a part that left its link so
pub falls : (now most : ℕ) (does : ClientSoFar → ClientSoFar) (a b : Seen) (new : ClientState) → Goes now most does a b → new ≡ fallen b.client →
    Goes now most (λ part. ending (does part)) a (record { client = new; outbox = b.outbox; heard = b.heard })
falls now most does a b new way is =
    let link_is : new.link ≡ b.client.link = ap (λ (c : ClientState). c.link) is ∙ fallen_link b.client
    in record {
      leads = λ part same. ap (λ (v : Seen). record { client = fallen v.client; outbox = v.outbox; heard = v.heard }) (way.leads part same)
          ∙ ap (λ (c : ClientState). record { client = c; outbox = b.outbox; heard = b.heard }) (sym is);
      clock = ap (λ (l : LinkState). l.clock) link_is ∙ way.clock;
      identity = ap (λ (l : LinkState). l.identity) link_is ∙ way.identity;
      capacity = way.capacity;
      few = way.few;
    }

pub hears : (now : ℕ) (bytes : List ℕ) (items : List (List ℕ)) (a b c d : Seen) (new : ClientState) →
    Goes now 22 (calling now (Receives bytes)) a b → Goes now 2 (rising now) b c → items ≡ (receiving now bytes a.client.link).items →
    Goes now 6 (acting_all now items) c d → new ≡ fallen d.client →
    Goes now 30 (hearing now bytes) a (record { client = new; outbox = d.outbox; heard = d.heard })
unfolding hearing
hears now bytes items a b c d new received risen items-are acted is =
    let to_items = going_then now 22 2 (calling now (Receives bytes)) (rising now) a b c received risen
    in let all = going_then now 24 6 (λ part. rising now (calling now (Receives bytes) part)) (acting_all now items) a c d to_items acted
    in going_as now 30 30 (λ part. ending (acting_all now items (rising now (calling now (Receives bytes) part)))) (hearing now bytes) a _ (omega arith)
    (λ calls done. ap (λ is. seen (ending (acting_all now is (rising now (calling now (Receives bytes) (part_at a calls done)))))) (sym items-are))
    (falls now 30 (λ part. acting_all now items (rising now (calling now (Receives bytes) part))) a d new all is)

pub from_none : (now most : ℕ) (does : ClientSoFar → ClientSoFar) (client : ClientState) (box : OutboxState) (heard : List Indication) (b : Seen) → heard ≡ [] →
    Goes now most does (record { client = client; outbox = box; heard = heard }) b → Goes now most does (record { client = client; outbox = box; heard = [] }) b
from_none now most does client box heard b none way = subst (λ (h : List Indication). Goes now most does (record { client = client; outbox = box; heard = h }) b) none way

pub commands : (now : ℕ) (command : Command) (next : Stage) (told : Message) (a : Seen) (old staged_at new : ClientState) (box : OutboxState) (heard : List Indication) →
    next ≡ stage_after_command command a.client.stage → told ≡ message_of command →
    Goes now 2 (posting now told) a (record { client = old; outbox = box; heard = heard }) → staged_at ≡ record old { stage = next } → new ≡ fallen staged_at →
    Goes now 2 (commanding now command) a (record { client = new; outbox = box; heard = heard })
unfolding commanding
commands now command next told a old staged_at new box heard next-is told-is posted staged-is is =
    let to_stage = staged now 2 (posting now told) next a old staged_at box heard posted staged-is
    in going_as now 2 2 (λ part. ending (at_stage next (posting now told part))) (commanding now command) a _ (omega arith)
    (λ calls done. ap (λ n. seen (ending (at_stage n (posting now (message_of command) (part_at a calls done))))) (sym next-is)
    ∙ ap (λ m. seen (ending (at_stage next (posting now m (part_at a calls done))))) (sym told-is))
    (falls now 2 (λ part. at_stage next (posting now told part)) a _ new to_stage is)

pub ticks : (now : ℕ) (a b c : Seen) (new : ClientState) → Goes now 1 (calling now Ticks) a b → Goes now 1 (calling now Opens) b c → new ≡ fallen c.client →
    Goes now 2 (ticking now) a (record { client = new; outbox = c.outbox; heard = c.heard })
unfolding ticking
ticks now a b c new ticked opened is =
    falls now 2 (λ part. calling now Opens (calling now Ticks part)) a c new (going_then now 1 1 (calling now Ticks) (calling now Opens) a b c ticked opened) is

-- the same client by another name
pub from_same : (now most : ℕ) (does : ClientSoFar → ClientSoFar) (client same : ClientState) (box : OutboxState) (heard : List Indication) (b : Seen) → client ≡ same →
    Goes now most does (record { client = client; outbox = box; heard = heard }) b → Goes now most does (record { client = same; outbox = box; heard = heard }) b
from_same now most does client same box heard b is way = subst (λ (c : ClientState). Goes now most does (record { client = c; outbox = box; heard = heard }) b) is way
