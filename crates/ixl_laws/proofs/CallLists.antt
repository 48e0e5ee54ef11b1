-- Lists of calls of one link, one after another.
use Rattle.std.proofs.Common.{◌≡◌, ℕ, List, [], ◌∷◌, ◌++◌, append_assoc, append-nil, refl, ap, sym, ◌∙◌}
use Rattle.ixl_state.specs.rasta_core.Outbox.{OutboxState, posted}
use Rattle.ixl_state.specs.rasta_core.State.{LinkState}
use Rattle.ixl_state.specs.rasta_pdu.declared.pdu.Pdu.{Pdu}
use Rattle.ixl_state.specs.ixl_client.Made.{AreOwn, link_after, outbox_after}
use Rattle.ixl_state.specs.ixl_client.ClientSoFar.{LinkCall, Closes, Opens, Receives, Sends, Ticks, call_made}
use Rattle.ixl_state.specs.ixl_spec.StepSoFar.{empty_outbox}
use Rattle.ixl_laws.specs.Called.{datagrams_of, items_taken, taken_by}

pub links_joined : (now : ℕ) (some more : List LinkCall) (link : LinkState) → link_after now (some ++ more) link ≡ link_after now more (link_after now some link)
unfolding link_after
links_joined now [] more link = refl
links_joined now (call ∷ calls) more link = links_joined now calls more (call_made now call link).link

pub own_joined : (some more : List LinkCall) → AreOwn some → AreOwn more → AreOwn (some ++ more)
own_joined [] more one next = next
own_joined (call ∷ calls) more one next = (one.0, own_joined calls more one.1 next)

-- ---- what they take

taken_joined : (now : ℕ) (some more : List LinkCall) (link : LinkState) → items_taken now (some ++ more) link ≡ items_taken now some link ++ items_taken now more (link_after now some link)
unfolding link_after items_taken
taken_joined now [] more link = refl
taken_joined now (call ∷ calls) more link =
    ap (λ items. taken_by now call link ++ items) (taken_joined now calls more (call_made now call link).link)
    ∙ sym (append_assoc (taken_by now call link) (items_taken now calls (call_made now call link).link) (items_taken now more (link_after now calls (call_made now call link).link)))

pub own_take_nothing : (now : ℕ) (calls : List LinkCall) (link : LinkState) → AreOwn calls → items_taken now calls link ≡ []
unfolding items_taken
own_take_nothing now [] link own = refl
own_take_nothing now (Opens ∷ calls) link own = own_take_nothing now calls _ own.1
own_take_nothing now (Ticks ∷ calls) link own = own_take_nothing now calls _ own.1
own_take_nothing now (Closes why ∷ calls) link own = own_take_nothing now calls _ own.1
own_take_nothing now (Sends item ∷ calls) link own = own_take_nothing now calls _ own.1
own_take_nothing now (Receives bytes ∷ calls) link own = absurd own.0

pub own_take_no_more : (now : ℕ) (some more : List LinkCall) (link : LinkState) → AreOwn more → items_taken now (some ++ more) link ≡ items_taken now some link
own_take_no_more now some more link own =
    taken_joined now some more link ∙ ap (λ items. items_taken now some link ++ items) (own_take_nothing now more (link_after now some link) own) ∙ append-nil (items_taken now some link)

-- ---- what they hand out

-- after what stands in an outbox
pub handed_out_behind : (now : ℕ) (calls : List LinkCall) (link : LinkState) (outbox : OutboxState) → (outbox_after now calls link outbox).datagrams ≡ outbox.datagrams ++ datagrams_of now calls link
unfolding outbox_after posted
handed_out_behind now [] link outbox = sym (append-nil outbox.datagrams)
handed_out_behind now (call ∷ calls) link outbox =
    handed_out_behind now calls next (posted link.identity.key pdus outbox)
    ∙ append_assoc outbox.datagrams (posted link.identity.key pdus empty_outbox).datagrams (datagrams_of now calls next)
    ∙ ap (λ datagrams. outbox.datagrams ++ datagrams) (sym (handed_out_behind now calls next (posted link.identity.key pdus empty_outbox)))
  where
    next : LinkState
    next = (call_made now call link).link

    pdus : List Pdu
    pdus = (call_made now call link).pdus

outboxes_joined : (now : ℕ) (some more : List LinkCall) (link : LinkState) (outbox : OutboxState) →
    outbox_after now (some ++ more) link outbox ≡ outbox_after now more (link_after now some link) (outbox_after now some link outbox)
unfolding link_after outbox_after
outboxes_joined now [] more link outbox = refl
outboxes_joined now (call ∷ calls) more link outbox = outboxes_joined now calls more (call_made now call link).link (posted link.identity.key (call_made now call link).pdus outbox)

pub handed_out_joined : (now : ℕ) (some more : List LinkCall) (link : LinkState) → datagrams_of now (some ++ more) link ≡ datagrams_of now some link ++ datagrams_of now more (link_after now some link)
handed_out_joined now some more link =
    ap (λ (outbox : OutboxState). outbox.datagrams) (outboxes_joined now some more link empty_outbox) ∙ handed_out_behind now more (link_after now some link) (outbox_after now some link empty_outbox)
