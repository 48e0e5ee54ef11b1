-- What a step of a node, and its restart, are to each link.
use Rattle.std.proofs.Common.{◌≡◌, ℕ, Bool, true, false, if◌then◌else◌, List, [], ◌∷◌, length, refl, sym, ap, subst, ◌∙◌}
use Rattle.std.specs.Prelude.{◌==◌}
use Rattle.rasta_core_spec.specs.Calls.{created}
use Rattle.rasta_core_spec.specs.identity.Role.{Role}
use Rattle.rasta_core_spec.specs.identity.Role.TheVariants.{Client, Server}
use Rattle.rasta_core_spec.specs.Ends.{Call, EndState, end_restarted, reading_of}
use Rattle.rasta_core_spec.specs.Events.{Elsewhere, happened, run}
use Rattle.rasta_core_spec.specs.Names.{partner_of}
use Rattle.rasta_core_spec.specs.Run.{Ends, called, end_of, restarted}
use Rattle.rasta_core_spec.specs.Steps.{EnterNone, IsAfter, StaysIn, calls_at}
use Rattle.rasta_core.specs.Links.{CallsOn, Links, RestartsOn, happened_to, run_links, seen, sent_by}
use Rattle.rasta_core.specs.Nodes.{NodeCall, at_link, calls_of, is_among, restarts_of}
use Rattle.rasta_core.proofs.Views.{other_call, other_restart, own_call, own_restart, same_number}

-- the laws of calls at one clock
pub record StepLaws : Type 0 where
  pub end : (who : Role) (calls : List Call) (ends : Ends) → IsAfter calls (end_of who ends) (end_of who (run (calls_at who calls) ends))
  pub items : (who : Role) (calls : List Call) (ends : Ends) → EnterNone (reading_of (end_of who ends).clock) calls (end_of who ends).link
      → StaysIn calls (end_of who ends) (end_of who (run (calls_at who calls) ends))
  pub partner : (who : Role) (calls : List Call) (ends : Ends) → end_of (partner_of who) (run (calls_at who calls) ends) ≡ end_of (partner_of who) ends
  pub nothing : (end : EndState) → IsAfter [] end end × StaysIn [] end end
  pub after : (call : Call) (others : List Call) (old mid new : EndState) → IsAfter (call ∷ []) old mid → IsAfter others mid new → IsAfter (call ∷ others) old new
  pub entering : (call : Call) (others : List Call) (old mid : EndState) → IsAfter (call ∷ []) old mid → EnterNone (reading_of old.clock) (call ∷ others) old.link
      → EnterNone (reading_of old.clock) (call ∷ []) old.link × EnterNone (reading_of mid.clock) others mid.link
  pub stays : (call : Call) (others : List Call) (old mid new : EndState) → IsAfter (call ∷ []) old mid → StaysIn (call ∷ []) old mid → StaysIn others mid new
      → StaysIn (call ∷ others) old new

-- ---- one call

own : (link at : ℕ) (who : Role) (call : Call) (links : Links) → (link == at) ≡ true → seen link (happened_to (CallsOn at who call) links) ≡ called who call (seen link links)
own link at who call links e = ap (λ (l : ℕ). seen link (happened_to (CallsOn l who call) links)) (sym (same_number link at e)) ∙ own_call link who call links

end_elsewhere : (who : Role) (count : ℕ) (ends : Ends) → end_of who (happened (Elsewhere count) ends) ≡ end_of who ends
end_elsewhere Client count ends = refl
end_elsewhere Server count ends = refl

other : (link at : ℕ) (who whose : Role) (call : Call) (links : Links) → (link == at) ≡ false → end_of whose (seen link (happened_to (CallsOn at who call) links)) ≡ end_of whose (seen link links)
other link at who whose call links e =
    ap (end_of whose) (other_call at link who call links e) ∙ end_elsewhere whose (length (sent_by who call (seen at links))) (seen link links)

-- ---- a step

pub node_after : StepLaws → (who : Role) (calls : List NodeCall) (links : Links) (link : ℕ)
    → IsAfter (at_link link calls) (end_of who (seen link links)) (end_of who (seen link (run_links (calls_of who calls) links)))
node_after laws who [] links link = (laws.nothing (end_of who (seen link links))).0
node_after laws who (first ∷ others) links link = by_place (link == first.link) refl (node_after laws who others (happened_to (CallsOn first.link who first.call) links) link) where
  next : Links
  next = happened_to (CallsOn first.link who first.call) links

  last : EndState
  last = end_of who (seen link (run_links (calls_of who others) (happened_to (CallsOn first.link who first.call) links)))

  by_place : (mine : Bool) → (link == first.link) ≡ mine → IsAfter (at_link link others) (end_of who (seen link next)) last
      → IsAfter (if link == first.link then first.call ∷ at_link link others else at_link link others) (end_of who (seen link links)) last
  by_place true e rest = subst (λ (b : Bool). IsAfter (if b then first.call ∷ at_link link others else at_link link others) (end_of who (seen link links)) last) (sym e)
      (laws.after first.call (at_link link others) (end_of who (seen link links)) (end_of who (seen link next)) last
      (subst (λ (ends : Ends). IsAfter (first.call ∷ []) (end_of who (seen link links)) (end_of who ends)) (sym (own link first.link who first.call links e)) (laws.end who (first.call ∷ []) (seen link links))) rest)
  by_place false e rest = subst (λ (b : Bool). IsAfter (if b then first.call ∷ at_link link others else at_link link others) (end_of who (seen link links)) last) (sym e)
      (subst (λ (end : EndState). IsAfter (at_link link others) end last) (other link first.link who who first.call links e) rest)

pub node_stays : StepLaws → (who : Role) (calls : List NodeCall) (links : Links) (link : ℕ) → EnterNone (reading_of (end_of who (seen link links)).clock) (at_link link calls) (end_of who (seen link links)).link
    → StaysIn (at_link link calls) (end_of who (seen link links)) (end_of who (seen link (run_links (calls_of who calls) links)))
node_stays laws who [] links link none = (laws.nothing (end_of who (seen link links))).1
node_stays laws who (first ∷ others) links link none = by_place (link == first.link) refl none (node_stays laws who others (happened_to (CallsOn first.link who first.call) links) link) where
  next : Links
  next = happened_to (CallsOn first.link who first.call) links

  last : EndState
  last = end_of who (seen link (run_links (calls_of who others) (happened_to (CallsOn first.link who first.call) links)))

  None : EndState → List Call → Type 0
  None end calls = EnterNone (reading_of end.clock) calls end.link

  by_place : (mine : Bool) → (link == first.link) ≡ mine
      → EnterNone (reading_of (end_of who (seen link links)).clock) (if link == first.link then first.call ∷ at_link link others else at_link link others) (end_of who (seen link links)).link
      → (EnterNone (reading_of (end_of who (seen link next)).clock) (at_link link others) (end_of who (seen link next)).link → StaysIn (at_link link others) (end_of who (seen link next)) last)
      → StaysIn (if link == first.link then first.call ∷ at_link link others else at_link link others) (end_of who (seen link links)) last
  by_place true e enters rest =
      let here : EnterNone (reading_of (end_of who (seen link links)).clock) (first.call ∷ at_link link others) (end_of who (seen link links)).link
      = subst (λ (b : Bool). EnterNone (reading_of (end_of who (seen link links)).clock) (if b then first.call ∷ at_link link others else at_link link others) (end_of who (seen link links)).link) e enters
      in let after : IsAfter (first.call ∷ []) (end_of who (seen link links)) (end_of who (seen link next))
      = subst (λ (ends : Ends). IsAfter (first.call ∷ []) (end_of who (seen link links)) (end_of who ends)) (sym (own link first.link who first.call links e)) (laws.end who (first.call ∷ []) (seen link links))
      in let split = laws.entering first.call (at_link link others) (end_of who (seen link links)) (end_of who (seen link next)) after here
      in subst (λ (b : Bool). StaysIn (if b then first.call ∷ at_link link others else at_link link others) (end_of who (seen link links)) last) (sym e)
      (laws.stays first.call (at_link link others) (end_of who (seen link links)) (end_of who (seen link next)) last after
      (subst (λ (ends : Ends). StaysIn (first.call ∷ []) (end_of who (seen link links)) (end_of who ends)) (sym (own link first.link who first.call links e)) (laws.items who (first.call ∷ []) (seen link links) split.0))
      (rest split.1))
  by_place false e enters rest =
      let same = other link first.link who who first.call links e
      in let here : EnterNone (reading_of (end_of who (seen link links)).clock) (at_link link others) (end_of who (seen link links)).link
      = subst (λ (b : Bool). EnterNone (reading_of (end_of who (seen link links)).clock) (if b then first.call ∷ at_link link others else at_link link others) (end_of who (seen link links)).link) e enters
      in subst (λ (b : Bool). StaysIn (if b then first.call ∷ at_link link others else at_link link others) (end_of who (seen link links)) last) (sym e)
      (subst (λ (end : EndState). StaysIn (at_link link others) end last) same
      (rest (subst (λ (end : EndState). EnterNone (reading_of end.clock) (at_link link others) end.link) (sym same) here)))

pub node_partner : StepLaws → (who : Role) (calls : List NodeCall) (links : Links) (link : ℕ) → end_of (partner_of who) (seen link (run_links (calls_of who calls) links)) ≡ end_of (partner_of who) (seen link links)
node_partner laws who [] links link = refl
node_partner laws who (first ∷ others) links link = node_partner laws who others (happened_to (CallsOn first.link who first.call) links) link ∙ by_place (link == first.link) refl where
  by_place : (mine : Bool) → (link == first.link) ≡ mine → end_of (partner_of who) (seen link (happened_to (CallsOn first.link who first.call) links)) ≡ end_of (partner_of who) (seen link links)
  by_place true e = ap (end_of (partner_of who)) (own link first.link who first.call links e) ∙ laws.partner who (first.call ∷ []) (seen link links)
  by_place false e = other link first.link who (partner_of who) first.call links e

pub node_time : (who : Role) (calls : List NodeCall) (links : Links) → (run_links (calls_of who calls) links).time ≡ links.time
node_time who [] links = refl
node_time who (first ∷ others) links = node_time who others (happened_to (CallsOn first.link who first.call) links)

-- ---- a restart

restarted_twice : (who : Role) (clock first : ℕ) (ends : Ends) → restarted who clock first (restarted who clock first ends) ≡ restarted who clock first ends
unfolding restarted end_restarted created
restarted_twice Client clock first ends = refl
restarted_twice Server clock first ends = refl

pub node_restarted : (who : Role) (clock : ℕ) (firsts : ℕ → ℕ) (numbers : List ℕ) (links : Links) (link : ℕ)
    → seen link (run_links (restarts_of who clock firsts numbers) links) ≡ (if is_among link numbers then restarted who clock (firsts link) (seen link links) else seen link links)
node_restarted who clock firsts [] links link = refl
node_restarted who clock firsts (first ∷ others) links link =
    node_restarted who clock firsts others (happened_to (RestartsOn first who clock (firsts first)) links) link ∙ by_place (link == first) (is_among link others) refl
  where
    next : Ends
    next = seen link (happened_to (RestartsOn first who clock (firsts first)) links)

    by_place : (mine again : Bool) → (link == first) ≡ mine
        → (if again then restarted who clock (firsts link) next else next) ≡ (if (if link == first then true else again) then restarted who clock (firsts link) (seen link links) else seen link links)
    by_place true again e =
        let same = same_number link first e
        in let now : next ≡ restarted who clock (firsts link) (seen link links)
        = ap (λ (l : ℕ). seen link (happened_to (RestartsOn l who clock (firsts l)) links)) (sym same) ∙ own_restart link who clock (firsts link) links
        in subst (λ (b : Bool). (if again then restarted who clock (firsts link) next else next) ≡ (if (if b then true else again) then restarted who clock (firsts link) (seen link links) else seen link links)) (sym e)
        (by_again again now)
      where
        by_again : (again : Bool) → next ≡ restarted who clock (firsts link) (seen link links) → (if again then restarted who clock (firsts link) next else next) ≡ restarted who clock (firsts link) (seen link links)
        by_again true now = ap (restarted who clock (firsts link)) now ∙ restarted_twice who clock (firsts link) (seen link links)
        by_again false now = now
    by_place false again e =
        subst (λ (b : Bool). (if again then restarted who clock (firsts link) next else next) ≡ (if (if b then true else again) then restarted who clock (firsts link) (seen link links) else seen link links)) (sym e)
        (ap (λ (ends : Ends). if again then restarted who clock (firsts link) ends else ends) (other_restart first link who clock (firsts first) links e))
