-- The calls that a client makes in a part of a step, as events of its link.
use Rattle.std.proofs.Common.{◌≡◌, ◌≢◌, ℕ, ◌<◌, List, [], ◌∷◌, map, refl, sym, ap, subst, ◌∙◌}
use Rattle.simulator_spec.specs.layout.Entries.{Site}
use Rattle.simulator_spec.specs.ixl_client.Made.{AreOwn, link_after, outbox_after}
use Rattle.simulator_spec.specs.ixl_client.ClientSoFar.{LinkCall, Opens, Ticks, Closes, Sends, Receives, call_made, as_call}
use Rattle.simulator_spec.specs.rasta_core.Each.{Each}
use Rattle.simulator_spec.specs.rasta_core.Ends.{Call, reading_of}
use Rattle.simulator_spec.specs.rasta_core.Links.{AreLinks, CallsOn, Links, LinksEvent, MayCallOn, MayRunLinks, happened_to, run_links}
use Rattle.simulator_spec.specs.rasta_core.Names.{Names}
use Rattle.simulator_spec.specs.rasta_core.Nodes.{calls_of}
use Rattle.simulator_spec.specs.rasta_core.Outbox.{OutboxState, posted, spellings}
use Rattle.simulator_spec.specs.rasta_core.State.{LinkState}
use Rattle.simulator_spec.specs.rasta_core.Steps.{made_by}
use Rattle.simulator_spec.specs.rasta_core.identity.Role.TheVariants as role
use Rattle.simulator_spec.specs.rasta_pdu.declared.pdu.Pdu.{Pdu}
use Rattle.simulator_spec.specs.Links.{names_at}
use Rattle.simulator_spec.specs.Nodes.{links}
use Rattle.simulator_spec.specs.Interlocking.{Sending, sending_all}
use Rattle.simulator_link_laws.proofs.InterlockingCalls.{Tells, call_tells, clock_next, link_next, others_next, sending_joined}
use Rattle.simulator_link_laws.proofs.ClientItems.{AreSendable}
use Rattle.simulator_link_laws.proofs.Controllers.{may_later}
use Rattle.simulator_link_laws.proofs.Laws.{ClientLaws, LinkLaws}

-- ---- one call

made_link : (now connection : ℕ) (call : LinkCall) (link : LinkState) → (made_by now (as_call connection call) link).link ≡ (call_made now call link).link
unfolding made_by
made_link now connection Opens link = refl
made_link now connection Ticks link = refl
made_link now connection (Closes why) link = refl
made_link now connection (Sends item) link = refl
made_link now connection (Receives bytes) link = refl

made_pdus : (now connection : ℕ) (call : LinkCall) (link : LinkState) → (made_by now (as_call connection call) link).pdus ≡ (call_made now call link).pdus
unfolding made_by
made_pdus now connection Opens link = refl
made_pdus now connection Ticks link = refl
made_pdus now connection (Closes why) link = refl
made_pdus now connection (Sends item) link = refl
made_pdus now connection (Receives bytes) link = refl

-- ---- what may be made

abbrev pub MayMake : Names → ℕ → LinkCall → Links → Type 0
MayMake names connection call before = MayCallOn names (as_call connection call) before

abbrev pub AllMayMake : Names → ℕ → List LinkCall → Links → Type 0
AllMayMake names connection list before = Each (λ call. MayMake names connection call before) list

pub all_later : (names : Names) (connection link : ℕ) (other : Call) (list : List LinkCall) (before : Links) → AllMayMake names connection list before → AllMayMake names connection list (happened_to (CallsOn link role.Client other) before)
all_later names connection link other [] before may = tt
all_later names connection link other (first ∷ others) before may = (may_later names link role.Client other (as_call connection first) before may.0, all_later names connection link other others before may.1)

pub own_sendable : (names : Names) (connection : ℕ) (list : List LinkCall) (before : Links) → AreOwn list → AreSendable list → AllMayMake names connection list before
own_sendable names connection [] before own items = tt
own_sendable names connection (Opens ∷ others) before own items = (tt, own_sendable names connection others before own.1 items)
own_sendable names connection (Ticks ∷ others) before own items = (tt, own_sendable names connection others before own.1 items)
own_sendable names connection (Closes why ∷ others) before own items = (tt, own_sendable names connection others before own.1 items)
own_sendable names connection (Sends item ∷ others) before own items = (items.0, own_sendable names connection others before own.1 items.1)
own_sendable names connection (Receives bytes ∷ others) before own items = absurd own.0

-- ---- a list of calls at one link

abbrev pub events_at : ℕ → ℕ → List LinkCall → List LinksEvent
events_at link connection list = calls_of role.Client (map (λ (call : LinkCall). record { link = link; call = as_call connection call }) list)

module _ (laws : LinkLaws) (client : ClientLaws) (site : Site) (are : AreLinks (links site) (names_at site)) (time connection now : ℕ) where
  -- where a list of calls leads
  pub record Leads (link : ℕ) (list : List LinkCall) (before : Links) (box : OutboxState) (start : Sending) : Type 0 where
    pub may : MayRunLinks (links site) (names_at site) (events_at link connection list) before
    pub tells : Tells laws client site are time (run_links (events_at link connection list) before) (sending_all site time (outbox_after now list (before.ends link).client.link box).datagrams start)
    pub link_is : ((run_links (events_at link connection list) before).ends link).client.link ≡ link_after now list (before.ends link).client.link
    pub clock_is : ((run_links (events_at link connection list) before).ends link).client.clock ≡ (before.ends link).client.clock
    pub others : (other : ℕ) → other ≢ link → (run_links (events_at link connection list) before).ends other ≡ before.ends other

  posts : (call : LinkCall) (old : LinkState) (reads : ℕ) (box : OutboxState) (start : Sending) → reads ≡ now
      → sending_all site time (spellings old.identity.key (made_by reads (as_call connection call) old).pdus) (sending_all site time box.datagrams start)
      ≡ sending_all site time (posted old.identity.key (call_made now call old).pdus box).datagrams start
  unfolding posted
  posts call old reads box start same =
      ap (λ (n : ℕ). sending_all site time (spellings old.identity.key (made_by n (as_call connection call) old).pdus) (sending_all site time box.datagrams start)) same
      ∙ ap (λ (pdus : List Pdu). sending_all site time (spellings old.identity.key pdus) (sending_all site time box.datagrams start)) (made_pdus now connection call old)
      ∙ sym (sending_joined site time box.datagrams (spellings old.identity.key (call_made now call old).pdus) start)

  pub calls_lead : (link : ℕ) (list : List LinkCall) (before : Links) (box : OutboxState) (start : Sending) → link < links site → reading_of (before.ends link).client.clock ≡ now
      → AllMayMake (names_at site link) connection list before → Tells laws client site are time before (sending_all site time box.datagrams start) → Leads link list before box start
  unfolding link_after outbox_after
  calls_lead link [] before box start below reads may tells = record { may = tt; tells = tells; link_is = refl; clock_is = refl; others = λ other differ. refl }
  calls_lead link (call ∷ list) before box start below reads may tells =
      let one : Call = as_call connection call
      in let next : Links = happened_to (CallsOn link role.Client one) before
      in let old : LinkState = (before.ends link).client.link
      in let sending : Sending = sending_all site time box.datagrams start
      in let box_next : OutboxState = posted old.identity.key (call_made now call old).pdus box
      in let link_is : (next.ends link).client.link ≡ (call_made now call old).link
      = link_next laws client site are time link below one before sending tells may.0 ∙ ap (λ (n : ℕ). (made_by n one old).link) reads ∙ made_link now connection call old
      in let clock_is : (next.ends link).client.clock ≡ (before.ends link).client.clock
      = clock_next laws client site are time link below one before sending tells may.0
      in let tells_next : Tells laws client site are time next (sending_all site time box_next.datagrams start)
      = subst (Tells laws client site are time next) (posts call old (reading_of (before.ends link).client.clock) box start reads) (call_tells laws client site are time link below one before sending tells may.0)
      in let rest : Leads link list next box_next start
      = calls_lead link list next box_next start below (ap reading_of clock_is ∙ reads) (all_later (names_at site link) connection link one list before may.1) tells_next
      in record {
        may = ((below, may.0), rest.may);
        tells = subst (λ (l : LinkState). Tells laws client site are time (run_links (events_at link connection list) next) (sending_all site time (outbox_after now list l box_next).datagrams start)) link_is rest.tells;
        link_is = rest.link_is ∙ ap (link_after now list) link_is;
        clock_is = rest.clock_is ∙ clock_is;
        others = λ other differ. rest.others other differ ∙ others_next laws client site are time link below one before sending tells may.0 other differ;
      }
