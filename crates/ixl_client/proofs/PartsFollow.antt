-- One part of a step after another.
use Rattle.std.specs.Prelude.{◌&&◌}
use Rattle.sci_telegram.specs.TelegramRead.{reading}
use Rattle.sci_telegram.specs.declared.message.Initialisation.TheVariants.{InitialisationRequest, VersionCheck}
use Rattle.rasta_core.specs.State.{is_up}
use Rattle.ixl_client.specs.declared.meaning.Meaning.{Meaning}
use Rattle.ixl_client.specs.declared.meaning.Meaning.TheVariants as meanings
use Rattle.ixl_client.specs.declared.stage.Stage.TheVariants as stage
use Rattle.std.proofs.Common.{◌≡◌, ℕ, ◌+◌, ◌≤◌, Bool, true, false, List, [], ◌∷◌, ◌++◌, length, arith, refl, ap, sym, ◌∙◌, subst}
use Rattle.std.proofs.lemmas.List.{length-append, length-map}
use Rattle.rasta_core.specs.Calls.{IsAt}
use Rattle.rasta_core.specs.Outbox.{OutboxState, posted}
use Rattle.rasta_core.specs.State.{LinkState}
use Rattle.rasta_pdu.specs.declared.key.Key.{Key}
use Rattle.rasta_pdu.specs.declared.pdu.Pdu.{Pdu}
use Rattle.ixl_client.specs.Client.{ClientState, PeerState, is_outside}
use Rattle.ixl_client.specs.ClientSoFar.{LinkCall, Sends, Closes, ClientSoFar, Seen, Leads, call_made, calling, seen}
use Rattle.sci_telegram.specs.Telegrams.{writing}
use Rattle.sci_telegram.specs.declared.message.Message.{Message}
use Rattle.sci_telegram.specs.declared.message.Message.TheVariants as message
use Rattle.sci_telegram.specs.declared.message.Initialisation.{Initialisation}
use Rattle.rasta_core.specs.Calls.{answer_to_send}
use Rattle.rasta_core.specs.reason.Reason.TheVariants as reason
use Rattle.ixl_client.specs.Step.{acted_on, acting, at_stage, meaning_of_item, following, is_refused_by_window, posting, rising, saying, stage_after_report, telegram_to}
use Rattle.ixl_client.specs.Way.{Goes}
use Rattle.ixl_client.specs.declared.indication.Indication.{Indication}
use Rattle.ixl_client.specs.declared.stage.Stage.{Stage}

length-posted : (key : Key) (pdus : List Pdu) (box : OutboxState) → length (posted key pdus box).datagrams ≡ length box.datagrams + length pdus
unfolding posted
length-posted key pdus box = simp (length-append, length-map)

capacity-posted : (key : Key) (pdus : List Pdu) (box : OutboxState) → (posted key pdus box).capacity ≡ box.capacity
unfolding posted
capacity-posted key pdus box = refl

-- a part that is seen so
abbrev pub part_at : Seen → List LinkCall → List (List ℕ) → ClientSoFar
part_at view calls acted = record { client = view.client; outbox = view.outbox; heard = view.heard; calls = calls; acted = acted }

pub leads_at : (does : ClientSoFar → ClientSoFar) (before after : Seen) → ((calls : List LinkCall) (acted : List (List ℕ)) → seen (does (part_at before calls acted)) ≡ after) → Leads does before after
leads_at does before after leads part is =
    subst (λ view. seen (does (part_at view part.calls part.acted)) ≡ after) (sym is) (leads part.calls part.acted)

-- a call of the link
pub called : (now most : ℕ) (call : LinkCall) (old new : ClientState) (box out : OutboxState) (heard : List Indication) →
    new ≡ record old { link = (call_made now call old.link).link } → IsAt now old.link (call_made now call old.link).link →
    out ≡ posted old.link.identity.key (call_made now call old.link).pdus box → length (call_made now call old.link).pdus ≤ most →
    Goes now most (calling now call) (record { client = old; outbox = box; heard = heard }) (record { client = new; outbox = out; heard = heard })
unfolding calling
called now most call old new box out heard is at posts few = record {
  leads = leads_at (calling now call) (record { client = old; outbox = box; heard = heard }) (record { client = new; outbox = out; heard = heard })
      (λ calls acted. ap (λ (c : ClientState). record { client = c; outbox = posted old.link.identity.key (call_made now call old.link).pdus box; heard = heard }) (sym is)
      ∙ ap (λ (b : OutboxState). record { client = new; outbox = b; heard = heard }) (sym posts));
  clock = ap (λ (c : ClientState). c.link.clock) is ∙ at.clock;
  identity = ap (λ (c : ClientState). c.link.identity) is ∙ at.identity;
  capacity = ap (λ (b : OutboxState). b.capacity) posts ∙ capacity-posted _ _ box;
  few =
      let count : length out.datagrams ≡ length box.datagrams + length (call_made now call old.link).pdus =
      ap (λ (b : OutboxState). length b.datagrams) posts ∙ length-posted _ _ box
      in omega (arith, count, few);
}

-- a call of the link of a client with these parts
pub called_in : (now most : ℕ) (call : LinkCall) (old : ClientState) (link : LinkState) (stage : Stage) (peer : PeerState) (new : LinkState) (box out : OutboxState) (heard : List Indication) →
    record { link = link; stage = stage; peer = peer } ≡ old → new ≡ (call_made now call link).link → IsAt now link (call_made now call link).link →
    out ≡ posted link.identity.key (call_made now call link).pdus box → length (call_made now call link).pdus ≤ most →
    Goes now most (calling now call) (record { client = old; outbox = box; heard = heard }) (record { client = record { link = new; stage = stage; peer = peer }; outbox = out; heard = heard })
called_in now most call old link stage peer new box out heard old-is is at posts few =
    subst (λ (o : ClientState). Goes now most (calling now call) (record { client = o; outbox = box; heard = heard }) (record { client = record { link = new; stage = stage; peer = peer }; outbox = out; heard = heard })) old-is
    (called now most call (record { link = link; stage = stage; peer = peer }) (record { link = new; stage = stage; peer = peer }) box out heard
    (ap (λ (l : LinkState). record { link = l; stage = stage; peer = peer }) is) at posts few)

-- one after another
pub going_then : (now some more : ℕ) (first second : ClientSoFar → ClientSoFar) (a b c : Seen) → Goes now some first a b → Goes now more second b c →
    Goes now (some + more) (λ part. second (first part)) a c
going_then now some more first second a b c one next = record {
  leads = λ part is. next.leads (first part) (one.leads part is);
  clock = next.clock;
  identity = next.identity ∙ one.identity;
  capacity = next.capacity ∙ one.capacity;
  few = omega (arith, one.few, next.few);
}

-- the same by another name
pub going_as : (now most more : ℕ) (does same : ClientSoFar → ClientSoFar) (a b : Seen) → most ≤ more →
    ((calls : List LinkCall) (acted : List (List ℕ)) → seen (same (part_at a calls acted)) ≡ seen (does (part_at a calls acted))) →
    Goes now most does a b → Goes now more same a b
going_as now most more does same a b fits is way = record {
  leads = leads_at same a b (λ calls acted. is calls acted ∙ way.leads (part_at a calls acted) refl);
  clock = way.clock;
  identity = way.identity;
  capacity = way.capacity;
  few = omega (arith, fits, way.few);
}

-- nothing is done
pub going_nowhere : (now : ℕ) (a : Seen) → a.client.link.clock ≡ now → Goes now 0 (λ part. part) a a
going_nowhere now a at = record { leads = λ part is. is; clock = at; identity = refl; capacity = refl; few = omega arith }

-- a telegram that the window doesn't refuse
pub posts : (now : ℕ) (told : Message) (a b : Seen) → Goes now 1 (calling now (Sends (writing (telegram_to a.client.peer told)))) a b →
    is_refused_by_window (answer_to_send now a.client.link) ≡ false → Goes now 2 (posting now told) a b
unfolding posting
posts now told a b sent accepted =
    going_as now 1 2 (calling now (Sends (writing (telegram_to a.client.peer told)))) (posting now told) a b (omega arith)
    (λ calls acted. rw accepted refl) sent

-- and one that it refuses
pub closes_for_window : (now : ℕ) (told : Message) (a b c : Seen) → Goes now 1 (calling now (Sends (writing (telegram_to a.client.peer told)))) a b →
    Goes now 1 (calling now (Closes reason.Window)) b c → is_refused_by_window (answer_to_send now a.client.link) ≡ true → Goes now 2 (posting now told) a c
unfolding posting
closes_for_window now told a b c sent closed refused =
    going_as now 2 2 (λ part. calling now (Closes reason.Window) (calling now (Sends (writing (telegram_to a.client.peer told))) part)) (posting now told) a c (omega arith)
    (λ calls acted. rw refused refl) (going_then now 1 1 _ _ a b c sent closed)

-- the same item or message by another name
pub sends_same : (now most : ℕ) (item same : List ℕ) (a b : Seen) → item ≡ same → Goes now most (calling now (Sends item)) a b → Goes now most (calling now (Sends same)) a b
sends_same now most item same a b is way = subst (λ i. Goes now most (calling now (Sends i)) a b) is way

pub posts_same : (now most : ℕ) (told same : Message) (a b : Seen) → told ≡ same → Goes now most (posting now told) a b → Goes now most (posting now same) a b
posts_same now most told same a b is way = subst (λ m. Goes now most (posting now m) a b) is way

pub says : (now : ℕ) (initialisation : Initialisation) (a b : Seen) → Goes now 2 (posting now (message.Initialisation a.client.peer.protocol initialisation)) a b →
    Goes now 2 (saying now initialisation) a b
says now initialisation a b way =
    going_as now 2 2 (posting now (message.Initialisation a.client.peer.protocol initialisation)) (saying now initialisation) a b (omega arith) (λ calls acted. refl) way

-- the stage is set after a part
pub staged : (now most : ℕ) (does : ClientSoFar → ClientSoFar) (to : Stage) (a : Seen) (old new : ClientState) (box : OutboxState) (heard : List Indication) →
    Goes now most does a (record { client = old; outbox = box; heard = heard }) → new ≡ record old { stage = to } →
    Goes now most (λ part. at_stage to (does part)) a (record { client = new; outbox = box; heard = heard })
staged now most does to a old new box heard way is = record {
  leads = λ part same. ap (λ (v : Seen). record { client = record v.client { stage = to }; outbox = v.outbox; heard = v.heard }) (way.leads part same)
      ∙ ap (λ (c : ClientState). record { client = c; outbox = box; heard = heard }) (sym is);
  clock = ap (λ (c : ClientState). c.link.clock) is ∙ way.clock;
  identity = ap (λ (c : ClientState). c.link.identity) is ∙ way.identity;
  capacity = way.capacity;
  few = way.few;
}

-- an item is acted on before a part
pub acted_before : (now most : ℕ) (does : ClientSoFar → ClientSoFar) (item : List ℕ) (a b : Seen) → Goes now most does a b → Goes now most (λ part. does (acted_on item part)) a b
acted_before now most does item a b way = record {
  leads = λ part is. way.leads (acted_on item part) is;
  clock = way.clock;
  identity = way.identity;
  capacity = way.capacity;
  few = way.few;
}

-- what may be done more
pub going_more : (now some more : ℕ) (does : ClientSoFar → ClientSoFar) (a b : Seen) → some ≤ more → Goes now some does a b → Goes now more does a b
going_more now some more does a b fits way = going_as now some more does does a b fits (λ calls acted. refl) way

-- a connection that didn't come up, and one that did
pub stays_down : (now : ℕ) (a : Seen) → a.client.link.clock ≡ now → is_outside a.client.stage && is_up a.client.link.phase ≡ false → Goes now 2 (rising now) a a
unfolding rising
stays_down now a at not_risen =
    going_as now 0 2 (λ part. part) (rising now) a a (omega arith) (λ calls acted. rw not_risen refl) (going_nowhere now a at)

-- what follows an item
pub follows : (now : ℕ) (item : List ℕ) (c meaning : Meaning) (a b : Seen) → c ≡ meaning → Goes now 2 (following now item meaning) a b → Goes now 2 (following now item c) a b
follows now item c meaning a b is way = subst (λ k. Goes now 2 (following now item k) a b) (sym is) way

pub agrees : (now : ℕ) (item : List ℕ) (a : Seen) (old new : ClientState) (box : OutboxState) (heard : List Indication) →
    Goes now 2 (saying now InitialisationRequest) a (record { client = old; outbox = box; heard = heard }) → new ≡ record old { stage = stage.AwaitsStart } →
    Goes now 2 (following now item meanings.Agrees) a (record { client = new; outbox = box; heard = heard })
unfolding following
agrees now item a old new box heard way is =
    staged now 2 (λ part. saying now InitialisationRequest (acted_on item part)) stage.AwaitsStart a old new box heard (acted_before now 2 (saying now InitialisationRequest) item a _ way) is

pub starts : (now : ℕ) (item : List ℕ) (a : Seen) (new : ClientState) → a.client.link.clock ≡ now → new ≡ record a.client { stage = stage.AwaitsStatus (length a.client.peer.objects) } →
    Goes now 2 (following now item meanings.Starts) a (record { client = new; outbox = a.outbox; heard = a.heard })
unfolding following
starts now item a new at is =
    going_as now 0 2 (at_stage (stage.AwaitsStatus (length a.client.peer.objects))) (following now item meanings.Starts) a _ (omega arith) (λ calls acted. refl)
    (staged now 0 (λ part. part) (stage.AwaitsStatus (length a.client.peer.objects)) a a.client new a.outbox a.heard (going_nowhere now a at) is)

pub completes : (now : ℕ) (item : List ℕ) (a : Seen) (new : ClientState) → a.client.link.clock ≡ now → new ≡ record a.client { stage = stage.Completed } →
    Goes now 2 (following now item meanings.Completes) a (record { client = new; outbox = a.outbox; heard = a.heard })
unfolding following
completes now item a new at is =
    going_as now 0 2 (at_stage stage.Completed) (following now item meanings.Completes) a _ (omega arith) (λ calls acted. refl)
    (staged now 0 (λ part. part) stage.Completed a a.client new a.outbox a.heard (going_nowhere now a at) is)

pub indicates : (now : ℕ) (item : List ℕ) (indication : Indication) (a : Seen) (new : ClientState) (heard : List Indication) → a.client.link.clock ≡ now →
    new ≡ record a.client { stage = stage_after_report a.client.stage } → heard ≡ a.heard ++ indication ∷ [] →
    Goes now 2 (following now item (meanings.Indicates indication)) a (record { client = new; outbox = a.outbox; heard = heard })
unfolding following
indicates now item indication a new heard at is more = record {
  leads = leads_at (following now item (meanings.Indicates indication)) a (record { client = new; outbox = a.outbox; heard = heard })
      (λ calls acted. ap (λ (c : ClientState). record { client = c; outbox = a.outbox; heard = a.heard ++ indication ∷ [] }) (sym is)
      ∙ ap (λ (h : List Indication). record { client = new; outbox = a.outbox; heard = h }) (sym more));
  clock = ap (λ (c : ClientState). c.link.clock) is ∙ at;
  identity = ap (λ (c : ClientState). c.link.identity) is;
  capacity = refl;
  few = omega arith;
}

pub differs : (now : ℕ) (item : List ℕ) (a b : Seen) → Goes now 1 (calling now (Closes reason.Version)) a b → Goes now 2 (following now item meanings.Differs) a b
unfolding following
differs now item a b way = going_more now 1 2 (calling now (Closes reason.Version)) a b (omega arith) way

pub violates : (now : ℕ) (item : List ℕ) (a b : Seen) → Goes now 1 (calling now (Closes reason.State)) a b → Goes now 2 (following now item meanings.Violates) a b
unfolding following
violates now item a b way = going_more now 1 2 (calling now (Closes reason.State)) a b (omega arith) way

pub acts : (now : ℕ) (item : List ℕ) (meaning : Meaning) (a b : Seen) → meaning ≡ meaning_of_item a.client.peer a.client.stage (reading item) →
    Goes now 2 (following now item meaning) a b → Goes now 2 (acting now item) a b
unfolding acting
acts now item meaning a b is way =
    going_as now 2 2 (following now item meaning) (acting now item) a b (omega arith)
    (λ calls acted. ap (λ k. seen (following now item k (part_at a calls acted))) (sym is)) way

pub comes_up : (now : ℕ) (a : Seen) (old new : ClientState) (version : ℕ) (box : OutboxState) (heard : List Indication) →
    is_outside a.client.stage && is_up a.client.link.phase ≡ true → version ≡ a.client.peer.version →
    Goes now 2 (saying now (VersionCheck version)) a (record { client = old; outbox = box; heard = heard }) → new ≡ record old { stage = stage.AwaitsAnswer } →
    Goes now 2 (rising now) a (record { client = new; outbox = box; heard = heard })
unfolding rising
comes_up now a old new version box heard risen version-is way is =
    going_as now 2 2 (λ part. at_stage stage.AwaitsAnswer (saying now (VersionCheck a.client.peer.version) part)) (rising now) a _ (omega arith)
    (λ calls acted. rw risen refl)
    (subst (λ v. Goes now 2 (λ part. at_stage stage.AwaitsAnswer (saying now (VersionCheck v) part)) a (record { client = new; outbox = box; heard = heard })) version-is
    (staged now 2 (saying now (VersionCheck version)) stage.AwaitsAnswer a old new box heard way is))
