-- Acting on the items of a datagram, one after another.
use Rattle.std.proofs.Common.{◌≡◌, ℕ, ◌+◌, ◌<◌, ◌≤◌, true, false, List, [], ◌∷◌, drop, length, get_or, refl, ap, sym, ◌∙◌, subst}
use Rattle.std.proofs.lemmas.List.{at_drop_more, at_drop_all}
use Rattle.rasta_core.specs.State.{is_open}
use Rattle.rasta_core.specs.Outbox.{OutboxState}
use Rattle.sci_telegram.specs.TelegramRead.{reading}
use Rattle.object_host.specs.Behaviour.{Behaviour}
use Rattle.object_host.specs.Host.{HostState, HostSoFar}
use Rattle.object_host.specs.Step.{acting, acting_all}
use Rattle.object_host.specs.inside.Performed.{IsPerformed, may_send}
use Rattle.object_host.proofs.UnderWay.{IsFirst, IsNothing, IsUnderWay, goes_on}

module _ {Object : Type 0} (does : Behaviour Object) where
  abbrev pub left_at : ℕ → List (List ℕ) → ℕ → HostState Object → HostSoFar Object
  left_at now items place host = acting_all does now (drop place items) host

  -- the items before this place were acted on, and those from it on are left
  pub record IsActing (now : ℕ) (items : List (List ℕ)) (start : HostState Object) (box : OutboxState) (place : ℕ) (host : HostState Object) (outbox : OutboxState) : Type 0 where
    pub way : IsUnderWay now start box (acting_all does now items start) host outbox (left_at now items place host)

  pub no_items : (now : ℕ) (host : HostState Object) → IsNothing host (acting_all does now [] host)
  unfolding acting_all
  no_items now host = record { stays = refl; posts_none = refl; calls_none = refl }

  -- a closed link drops what is left
  pub closed_drops : (now : ℕ) (items : List (List ℕ)) (host : HostState Object) → is_open host.link.phase ≡ false → IsNothing host (acting_all does now items host)
  unfolding acting_all
  closed_drops now [] host closed = record { stays = refl; posts_none = refl; calls_none = refl }
  closed_drops now (item ∷ others) host closed = rw closed (record { stays = refl; posts_none = refl; calls_none = refl })

  first_item : (now : ℕ) (item : List ℕ) (others : List (List ℕ)) (host : HostState Object) → is_open host.link.phase ≡ true →
      IsFirst (acting_all does now (item ∷ others) host) (acting does now item (reading item) host) (acting_all does now others (acting does now item (reading item) host).host)
  unfolding acting_all
  first_item now item others host opened = rw opened (record { ends_same = refl; pdus_joined = refl; calls_joined = refl })

  pub nothing_at_end : (now place : ℕ) (items : List (List ℕ)) (host : HostState Object) → length items ≤ place → IsNothing host (left_at now items place host)
  nothing_at_end now place items host past =
      subst (λ rest. IsNothing host (acting_all does now rest host)) (sym (at_drop_all (λ rest. rest) items place past)) (no_items now host)

  pub acting_next : (now place : ℕ) (items : List (List ℕ)) (item : List ℕ) (start : HostState Object) (box : OutboxState) (host : HostState Object) (outbox : OutboxState) (new : HostState Object) (out : OutboxState) →
      IsActing now items start box place host outbox → place < length items → item ≡ get_or items place item → is_open host.link.phase ≡ true →
      IsPerformed (may_send host.link) now (acting does now item (reading item) host) host new outbox out → IsActing now items start box (place + 1) new out
  acting_next now place items item start box host outbox new out state within is_item opened made =
      let rest : drop place items ≡ item ∷ drop (place + 1) items =
      at_drop_more (λ rest. rest) items place item within ∙ ap (λ i. i ∷ drop (place + 1) items) (sym is_item)
      in let split : IsFirst (left_at now items place host) (acting does now item (reading item) host) (left_at now items (place + 1) (acting does now item (reading item) host).host) =
      subst (λ r. IsFirst (acting_all does now r host) (acting does now item (reading item) host) (left_at now items (place + 1) (acting does now item (reading item) host).host))
      (sym rest) (first_item now item (drop (place + 1) items) host opened)
      in let next = goes_on now start box _ host outbox _ _ _ new out state.way split made
      in record { way = subst (λ h. IsUnderWay now start box (acting_all does now items start) new out (left_at now items (place + 1) h)) (sym made.host) next }
