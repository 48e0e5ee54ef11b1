-- What a host acted on is a beginning of what its end took, event by event.
use Rattle.std.proofs.Common.{◌≡◌, ℕ, ◌+◌, Bool, true, false, List, [], ◌∷◌, ◌++◌, append_assoc, refl, ap, sym, ◌∙◌, subst}
use Rattle.std.specs.Prelude.{Option, Some, None}
use Rattle.std.proofs.lemmas.Bool.{true≢false, false≢true}
use Rattle.std.proofs.lemmas.List.{append-nil}
use Rattle.sci_telegram.specs.TelegramRead.{reading}
use Rattle.sci_telegram.specs.declared.telegram.Telegram.{Telegram}
use Rattle.rasta_core.specs.State.{LinkState, is_open}
use Rattle.rasta_core.specs.Clock.{settled}
use Rattle.rasta_core.specs.Calls.{created}
use Rattle.rasta_core.specs.identity.Role.TheVariants as role
use Rattle.rasta_core.specs.Ends.{EndState, end_later, end_restarted, kept, reading_of}
use Rattle.rasta_core.specs.Run.{Ends, called, later, lost, restarted}
use Rattle.rasta_core.specs.Events as links
use Rattle.object_host.specs.Behaviour.{Behaviour}
use Rattle.object_host.specs.Host.{HostState, HostSoFar}
use Rattle.object_host.specs.Made.{ActsOn, AreCallsFor, IsMadeOf, calls_made, command_of, commands_of, items_taken}
use Rattle.object_host.specs.Step.{host_step}
use Rattle.object_host.specs.declared.input.Input.{Input}
use Rattle.object_host_laws.specs.Acted.{IsActedOn, IsNoHostCall}
use Rattle.object_host_laws.specs.World.{called_all, entering, told_since}
use Rattle.object_host_laws.proofs.OutsideEnds.{settled_is}
use Rattle.object_host_laws.proofs.Server.{OpensNothing, links_after, now_of, stays_out, taken_after}

commands_joined : (first others : List (List ℕ)) → commands_of (first ++ others) ≡ commands_of first ++ commands_of others
unfolding commands_of
commands_joined [] others = refl
commands_joined (item ∷ items) others =
    ap (λ ts. command_of (reading item) ++ ts) (commands_joined items others) ∙ sym (append_assoc (command_of (reading item)) _ _)

-- an open link was open before the clock rules
open_before : (now : ℕ) (link : LinkState) → is_open (settled now link).phase ≡ true → is_open link.phase ≡ true
open_before now link opened = cases (is_open link.phase) refl where
  cases : (b : Bool) → is_open link.phase ≡ b → b ≡ true
  cases true is = refl
  cases false is = absurd (true≢false (sym opened ∙ ap (λ (l : LinkState). is_open l.phase) (settled_is now link is) ∙ is))

is_empty : {X : Type 0} → List X → Bool
is_empty [] = true
is_empty (x ∷ xs) = false

joined_empty : {X : Type 0} (first others : List X) → first ++ others ≡ [] → (first ≡ []) × (others ≡ [])
unfolding is_empty
joined_empty [] others none = (refl, none)
joined_empty (x ∷ xs) others none = absurd (false≢true (ap is_empty none))

-- the end stays, or only its clock and its link do not
as_acted : (old new : EndState) (acted : List (List ℕ)) (told : List Telegram) → IsActedOn old acted told → new.taken ≡ old.taken →
    (is_open new.link.phase ≡ true → is_open old.link.phase ≡ true) → IsActedOn new acted told
as_acted old new acted told is taken-same opened = record {
  dropped = is.dropped;
  beginning = taken-same ∙ is.beginning;
  whole = λ inside. is.whole (opened inside);
  told_is = is.told_is;
}

pub other_event : (event : links.Event) (ends : Ends) (acted : List (List ℕ)) (told : List Telegram) → IsNoHostCall event → IsActedOn ends.server acted told →
    IsActedOn (links.happened event ends).server acted told
unfolding called later end_later lost restarted end_restarted created
other_event (links.Calls role.Client call) ends acted told free is = is
other_event (links.Calls role.Server call) ends acted told free is = absurd free
other_event (links.Passes elapsed of_client of_server) ends acted told free is =
    as_acted ends.server _ acted told is refl (open_before (reading_of (ends.server.clock + of_server)) ends.server.link)
other_event (links.Loses bytes) ends acted told free is = is
other_event (links.Restarts role.Client clock first) ends acted told free is = is
other_event (links.Restarts role.Server clock first) ends acted told free is = as_acted ends.server _ acted told is refl (λ inside. absurd (false≢true inside))
other_event (links.Elsewhere count) ends acted told free is = is

module _ {Object : Type 0} (does : Behaviour Object) where
  -- a step, as what its end took and what was acted on
  kept_on : (enters : Option ℕ) (old new : EndState) (acted : List (List ℕ)) (told : List Telegram) (items : List (List ℕ)) (part : HostSoFar Object) → IsActedOn old acted told →
      new.taken ≡ kept enters old.taken ++ items → ActsOn items part → (is_open new.link.phase ≡ true → is_open part.host.link.phase ≡ true) →
      (enters ≡ None → is_open old.link.phase ≡ false → (items ≡ []) × (is_open new.link.phase ≡ false)) →
      IsActedOn new (kept enters acted ++ part.acted) (told_since enters told ++ part.told)
  kept_on (Some entered) old new acted told items part is taken acts phase out = record {
    dropped = acts.dropped;
    beginning = taken ∙ acts.beginning;
    whole = λ opened. acts.whole (phase opened);
    told_is = acts.told;
  }
  kept_on None old new acted told items part is taken acts phase out = cases (is_open old.link.phase) refl where
    more_told : told ++ part.told ≡ commands_of (acted ++ part.acted)
    more_told = ap (λ ts. ts ++ part.told) is.told_is ∙ ap (λ ts. commands_of acted ++ ts) acts.told ∙ sym (commands_joined acted part.acted)

    cases : (b : Bool) → is_open old.link.phase ≡ b → IsActedOn new (acted ++ part.acted) (told ++ part.told)
    cases true opened = record {
      dropped = acts.dropped;
      beginning = taken
          ∙ ap (λ xs. xs ++ items) (is.beginning ∙ ap (λ xs. acted ++ xs) (is.whole opened) ∙ append-nil acted)
          ∙ ap (λ xs. acted ++ xs) acts.beginning
          ∙ sym (append_assoc acted part.acted acts.dropped);
      whole = λ inside. acts.whole (phase inside);
      told_is = more_told;
    }
    cases false closed =
        let still = out refl closed
        in let none = joined_empty part.acted acts.dropped (sym acts.beginning ∙ still.0)
        in record {
          dropped = is.dropped;
          beginning = taken ∙ ap (λ xs. old.taken ++ xs) still.0 ∙ append-nil old.taken ∙ is.beginning
              ∙ ap (λ xs. xs ++ is.dropped) (sym (ap (λ xs. acted ++ xs) none.0 ∙ append-nil acted));
          whole = λ inside. absurd (true≢false (sym inside ∙ still.1));
          told_is = more_told;
        }

  pub step_acted : OpensNothing → ((now : ℕ) (input : Input) (host : HostState Object) → AreCallsFor input (host_step does now input host).calls) →
      ((now : ℕ) (input : Input) (host : HostState Object) → IsMadeOf now (settled now host.link) (host_step does now input host)) →
      ((now : ℕ) (input : Input) (host : HostState Object) → ActsOn (items_taken now (host_step does now input host).calls (settled now host.link)) (host_step does now input host)) →
      (input : Input) (connection : ℕ) (ends : Ends) (host : HostState Object) (acted : List (List ℕ)) (told : List Telegram) → host.link ≡ ends.server.link →
      settled (reading_of ends.server.clock) ends.server.link ≡ ends.server.link → IsActedOn ends.server acted told →
      IsActedOn (called_all connection (host_step does (reading_of ends.server.clock) input host).calls ends).server
      (kept (entering input connection ends) acted ++ (host_step does (reading_of ends.server.clock) input host).acted)
      (told_since (entering input connection ends) told ++ (host_step does (reading_of ends.server.clock) input host).told)
  step_acted opens calls_for made_of acts_on input connection ends host acted told link_is is_settled is =
      let now = now_of ends
      in let link = ends.server.link
      in let part = host_step does now input host
      in let first = calls_for now input host
      in let settled_link : settled now host.link ≡ link = ap (settled now) link_is ∙ is_settled
      in let reached : (called_all connection part.calls ends).server.link ≡ part.host.link =
      links_after connection part.calls ends ∙ ap (λ l. (calls_made now part.calls l).link) (sym settled_link) ∙ sym (made_of now input host).link_is
      in let out : entering input connection ends ≡ None → is_open link.phase ≡ false → (items_taken now part.calls link ≡ []) × (is_open (called_all connection part.calls ends).server.link.phase ≡ false) =
      λ stays closed.
      let outside = stays_out opens connection input part.calls ends first stays closed
      in (outside.no_items, ap (λ (l : LinkState). is_open l.phase) (links_after connection part.calls ends) ∙ outside.out)
      in kept_on (entering input connection ends) ends.server (called_all connection part.calls ends).server acted told (items_taken now part.calls link) part is
      (taken_after connection input part.calls ends first)
      (subst (λ l. ActsOn (items_taken now part.calls l) part) settled_link (acts_on now input host))
      (λ opened. sym (ap (λ (l : LinkState). is_open l.phase) reached) ∙ opened)
      out
