-- A loop that does part after part: what is left to do from here does what all of it does from the start.
use Rattle.std.proofs.Common.{◌≡◌, ℕ, ◌+◌, ◌≤◌, List, [], ◌∷◌, ◌++◌, length, arith, refl, ap, sym, ◌∙◌, subst}
use Rattle.rasta_core.specs.Outbox.{OutboxState, posted}
use Rattle.object_host.specs.Host.{HostState, LinkCall, HostSoFar, Ticks, Closes, Sends, Receives}
use Rattle.object_host.specs.Made.{AreItems}
use Rattle.object_host.specs.inside.Performed.{IsPerformed, may_send}
use Rattle.object_host.proofs.OutboxPosts.{posted_nothing, posted_more, length-posted, capacity-posted}

-- two lists of calls that send items
pub items_joined : (first others : List LinkCall) → AreItems first → AreItems others → AreItems (first ++ others)
items_joined [] others one more = more
items_joined (Ticks ∷ calls) others one more = items_joined calls others one more
items_joined (Closes why ∷ calls) others one more = items_joined calls others one more
items_joined (Sends item ∷ calls) others one more = (one.0, items_joined calls others one.1 more)
items_joined (Receives bytes ∷ calls) others one more = items_joined calls others one more

module _ {Object : Type 0} where
  -- what was handed out so far is no longer to be sent
  pub record IsUnderWay (now : ℕ) (start : HostState Object) (box : OutboxState) (all : HostSoFar Object) (host : HostState Object) (outbox : OutboxState) (left : HostSoFar Object) : Type 0 where
    pub identity : host.link.identity ≡ start.link.identity
    pub clock : host.link.clock ≡ now
    pub capacity : outbox.capacity ≡ box.capacity
    pub few : length outbox.datagrams + may_send host.link ≤ length box.datagrams + may_send start.link
    pub ends_same : left.host ≡ all.host
    pub posts_same : posted start.link.identity.key left.pdus outbox ≡ posted start.link.identity.key all.pdus box
    pub items_kept : AreItems left.calls → AreItems all.calls

  -- a part that leaves nothing to do
  pub record IsNothing (host : HostState Object) (left : HostSoFar Object) : Type 0 where
    pub stays : left.host ≡ host
    pub posts_none : left.pdus ≡ []
    pub calls_none : left.calls ≡ []

  -- a part of what is left, and what is left after it
  pub record IsFirst (left first next : HostSoFar Object) : Type 0 where
    pub ends_same : left.host ≡ next.host
    pub pdus_joined : left.pdus ≡ first.pdus ++ next.pdus
    pub calls_joined : left.calls ≡ first.calls ++ next.calls

  pub begins : (now : ℕ) (start : HostState Object) (box : OutboxState) (all : HostSoFar Object) → start.link.clock ≡ now → IsUnderWay now start box all start box all
  begins now start box all at = record {
    identity = refl;
    clock = at;
    capacity = refl;
    few = omega arith;
    ends_same = refl;
    posts_same = refl;
    items_kept = λ items. items;
  }

  pub goes_on : (now : ℕ) (start : HostState Object) (box : OutboxState) (all : HostSoFar Object) (host : HostState Object) (outbox : OutboxState) (left first next : HostSoFar Object) (new : HostState Object) (out : OutboxState) →
      IsUnderWay now start box all host outbox left → IsFirst left first next → IsPerformed (may_send host.link) now first host new outbox out →
      IsUnderWay now start box all new out next
  goes_on now start box all host outbox left first next new out way split made =
      let key_is : host.link.identity.key ≡ start.link.identity.key = ap (λ i. i.key) way.identity
      in let after : may_send new.link ≡ may_send first.host.link = ap (λ (h : HostState Object). may_send h.link) made.host
      in let count : length out.datagrams ≡ length outbox.datagrams + length first.pdus =
      ap (λ (b : OutboxState). length b.datagrams) made.posts ∙ length-posted _ _ outbox
      in record {
        identity = ap (λ (h : HostState Object). h.link.identity) made.host ∙ made.kept.identity ∙ way.identity;
        clock = ap (λ (h : HostState Object). h.link.clock) made.host ∙ made.kept.clock;
        capacity = ap (λ (b : OutboxState). b.capacity) made.posts ∙ capacity-posted _ _ outbox ∙ way.capacity;
        few = omega (arith, count, after, way.few, made.few);
        ends_same = sym split.ends_same ∙ way.ends_same;
        posts_same =
            ap (λ b. posted start.link.identity.key next.pdus b) (made.posts ∙ ap (λ k. posted k first.pdus outbox) key_is)
            ∙ posted_more start.link.identity.key next.pdus first.pdus outbox
            ∙ ap (λ pdus. posted start.link.identity.key pdus outbox) (sym split.pdus_joined) ∙ way.posts_same;
        items_kept = λ items. way.items_kept (subst AreItems (sym split.calls_joined) (items_joined first.calls next.calls made.items items));
      }

  pub comes_to_end : (now : ℕ) (start : HostState Object) (box : OutboxState) (all : HostSoFar Object) (host : HostState Object) (outbox : OutboxState) (left : HostSoFar Object) →
      IsUnderWay now start box all host outbox left → IsNothing host left → IsPerformed (may_send start.link) now all start host box outbox
  comes_to_end now start box all host outbox left way nothing =
      let reached : host ≡ all.host = sym nothing.stays ∙ way.ends_same
      in let out : outbox ≡ posted start.link.identity.key all.pdus box =
      sym (posted_nothing start.link.identity.key outbox)
      ∙ ap (λ pdus. posted start.link.identity.key pdus outbox) (sym nothing.posts_none) ∙ way.posts_same
      in let after : may_send host.link ≡ may_send all.host.link = ap (λ (h : HostState Object). may_send h.link) reached
      in let counted : length outbox.datagrams ≡ length box.datagrams + length all.pdus =
      ap (λ (b : OutboxState). length b.datagrams) out ∙ length-posted _ _ box
      in record {
        host = reached;
        kept = record {
          clock = sym (ap (λ (h : HostState Object). h.link.clock) reached) ∙ way.clock;
          identity = sym (ap (λ (h : HostState Object). h.link.identity) reached) ∙ way.identity;
        };
        posts = out;
        few = omega (arith, counted, after, way.few);
        items = way.items_kept (subst AreItems (sym nothing.calls_none) tt);
      }
