-- One node of a list after another.
use Rattle.std.proofs.Common.{◌≡◌, ℕ, suc, ◌+◌, ◌*◌, ◌<◌, ◌≤◌, List, length, get_or, slice_set, arith, add-one, refl, ap, sym, ◌∙◌, subst}
use Rattle.std.specs.Prelude.{Some, slice_get}
use Rattle.std.specs.List.{All}
use Rattle.std.proofs.lemmas.List.{length-set}
use Rattle.std.proofs.lemmas.List.Elements.{All-set}
use Rattle.std.proofs.lemmas.Option.{slice_get_read}
use Rattle.ixl_spec.specs.rasta_core.Outbox.{OutboxState}
use Rattle.ixl_spec.specs.rasta_core.identity.Identity.{Identity}
use Rattle.ixl_spec.specs.ixl_client.Client.{ClientState}
use Rattle.ixl_spec.specs.StepSoFar.{Leads, StepSoFar, over}
use Rattle.ixl_spec.specs.State.{IxlState}
use Rattle.ixl_known.specs.Nodes.{Goes}
use Rattle.ixl_known.specs.inside.Turns.{HaveTurned}
use Rattle.ixl_known.proofs.NodeEffects.{leads_nowhere, leads_then}

module _ {A : Type 0} (list_of : IxlState → List A) (with : List A → IxlState → IxlState) (client_of : A → ClientState) (now most : ℕ) (does : ℕ → StepSoFar → StepSoFar) where
  pub none_turned : (old : List A) (box : OutboxState) → ((ixl : IxlState) → with (list_of ixl) ixl ≡ ixl) → All (λ one. (client_of one).link.clock ≡ now) old → HaveTurned list_of with client_of now most does 0 old box old box
  none_turned old box same at = record {
    leads = λ ixl is. subst (λ (i : IxlState). Leads (over does 0) ixl box i box) (sym (same ixl) ∙ ap (λ list. with list ixl) is) (leads_nowhere ixl box);
    clock = at;
    keys = λ key under. under;
    each = refl;
    capacity = refl;
    few = omega arith;
  }

  pub one_turned : (each : A → OutboxState → A × OutboxState) → ((list : List A) (ixl : IxlState) → list_of (with list ixl) ≡ list) → ((list other : List A) (ixl : IxlState) → with other (with list ixl) ≡ with other ixl) →
      (done : ℕ) (old : List A) (box : OutboxState) (mid : List A) (between : OutboxState) (one new : A) (out : OutboxState) →
      ((ixl : IxlState) → slice_get (list_of ixl) done ≡ Some one → new ≡ (each one between).0 → out ≡ (each one between).1 → Leads (does done) ixl between (with (slice_set (list_of ixl) done new) ixl) out) →
      HaveTurned list_of with client_of now most does done old box mid between → done < length mid → one ≡ get_or mid done one → Goes client_of now most each one between new out →
      HaveTurned list_of with client_of now most does (done + 1) old box (slice_set mid done new) out
  one_turned each reads writes done old box mid between one new out turn so_far within is goes = record {
    leads = λ ixl was.
        let next : Leads (does done) (with mid ixl) between (with (slice_set (list_of (with mid ixl)) done new) (with mid ixl)) out =
        turn (with mid ixl) (ap (λ list. slice_get list done) (reads mid ixl) ∙ slice_get_read mid (length mid) done one refl within is) goes.node goes.outbox
        in let after : Leads (does done) (with mid ixl) between (with (slice_set mid done new) ixl) out =
        subst (λ (i : IxlState). Leads (does done) (with mid ixl) between i out) (ap (λ list. with (slice_set list done new) (with mid ixl)) (reads mid ixl) ∙ writes mid (slice_set mid done new) ixl) next
        in let both : Leads (over does (suc done)) ixl box (with (slice_set mid done new) ixl) out =
        leads_then (over does done) (does done) ixl box (with mid ixl) between (with (slice_set mid done new) ixl) out (so_far.leads ixl was) after
        in subst (λ n. Leads (over does n) ixl box (with (slice_set mid done new) ixl) out) (sym (add-one done)) both;
    clock = All-set (λ a. (client_of a).link.clock ≡ now) mid done new goes.clock so_far.clock;
    keys = λ key under.
        let before = so_far.keys key under
        in All-set (λ a. (client_of a).link.identity.key ≡ key) mid done new
        (ap (λ (i : Identity). i.key) goes.identity ∙ subst (λ (a : A). (client_of a).link.identity.key ≡ key) (sym is) (before done one within)) before;
    each = length-set mid done new ∙ so_far.each;
    capacity = goes.capacity ∙ so_far.capacity;
    few = let first : length between.datagrams ≤ length box.datagrams + most * done = so_far.few
        in let second : length out.datagrams ≤ length between.datagrams + most = goes.few
        in grind (arith, first, second);
  }

  -- of the node that was read there
  pub one_turned_at : (each : A → OutboxState → A × OutboxState) → ((list : List A) (ixl : IxlState) → list_of (with list ixl) ≡ list) → ((list other : List A) (ixl : IxlState) → with other (with list ixl) ≡ with other ixl) →
      (done : ℕ) (old : List A) (box : OutboxState) (mid : List A) (between : OutboxState) (one new : A) (out : OutboxState) →
      ((ixl : IxlState) → slice_get (list_of ixl) done ≡ Some one → new ≡ (each one between).0 → out ≡ (each one between).1 → Leads (does done) ixl between (with (slice_set (list_of ixl) done new) ixl) out) →
      HaveTurned list_of with client_of now most does done old box mid between → done < length mid → one ≡ get_or mid done one → Goes client_of now most each (get_or mid done one) between new out →
      HaveTurned list_of with client_of now most does (done + 1) old box (slice_set mid done new) out
  one_turned_at each reads writes done old box mid between one new out turn so_far within is goes =
      one_turned each reads writes done old box mid between one new out turn so_far within is (subst (λ (o : A). Goes client_of now most each o between new out) (sym is) goes)
