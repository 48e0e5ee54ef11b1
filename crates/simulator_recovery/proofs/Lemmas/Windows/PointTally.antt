-- What the calls of a client make of its window: what waits, against what was given.
use Rattle.simulator_recovery.proofs.Words.Basics.{◌≡◌, ℕ, ◌∙◌, ◌+◌, ◌-◌, ◌≤◌, ◌<◌, ◌&&◌, Bool, true, false, List, [], ◌∷◌, ◌++◌, length, map, nat_le, if◌then◌else◌, refl, sym, ap, subst, arith, is_ok, false≢true}
use Rattle.simulator_recovery.proofs.Words.Links.{acceptance, answer_to_send, opening, opens, sending_item, ticking, deadline, Each, beginning, requesting, Step, beating, entered, giving, sending, silent, LinkState, is_open, is_up, all_made, made_by, Heartbeat}
use Rattle.simulator_recovery.proofs.Words.Interlockings.{Closes, LinkCall, Opens, Receives, Sends, Ticks, as_call}
use Rattle.simulator_recovery.proofs.Words.Machine.{given_after, taken_after}
use Rattle.simulator_recovery.proofs.Lemmas.Ground.ClientCalls.{IsSaid}
use Rattle.simulator_recovery.proofs.Lemmas.Talk.ClientLinks.{up_open}
use Rattle.simulator_recovery.proofs.Lemmas.Ground.LinkCounts.{close_closes, entered_open, send_was_open, tick_was_open}
use Rattle.simulator_recovery.proofs.Lemmas.Ground.EndCalls.{count_push}

-- While a link is up, so many items at most wait beyond those that were given more than taken.
abbrev pub Tally : ℕ → LinkState → (given taken : List (List ℕ)) → Type 0
Tally spare link given taken = is_up link.phase ≡ true → length taken + length link.waiting ≤ length given + spare

-- nothing comes
abbrev pub IsOwn : LinkCall → Type 0
IsOwn (Receives bytes) = ⊥
IsOwn _ = Unit {0}

pub said_own : (calls : List LinkCall) → Each IsSaid calls → Each IsOwn calls
said_own [] said = tt
said_own (Sends item ∷ others) said = (tt, said_own others said.1)
said_own (Closes why ∷ others) said = (tt, said_own others said.1)
said_own (Opens ∷ others) said = absurd said.0
said_own (Ticks ∷ others) said = absurd said.0
said_own (Receives bytes ∷ others) said = absurd said.0

module _ (now : ℕ) (spare : ℕ) (l : LinkState) (given taken : List (List ℕ)) (tally : Tally spare l given taken) where
  send_tally : (item : List ℕ) → Tally spare (sending_item now item l).link (if is_ok (answer_to_send now l) then given ++ item ∷ [] else given) taken
  unfolding sending_item answer_to_send giving sending
  send_tally item up = subst (λ (s : Step). is_up (done s.link).phase ≡ true → length taken + length (done s.link).waiting ≤ length (if is_ok (acceptance s.link) then given ++ item ∷ [] else given) + spare) (sym opened.0)
      (by_answer (is_ok (acceptance at))) up
    where
      at : LinkState
      at = record l { clock = now }

      done : LinkState → LinkState
      done x = (if is_ok (acceptance x) then giving item x else silent x).link

      opened : (entered now l ≡ silent at) × (is_open l.phase ≡ true) × (now < deadline l)
      opened = send_was_open now item l (up_open _ up)

      by_answer : (b : Bool) → is_up (if b then giving item at else silent at).link.phase ≡ true → length taken + length (if b then giving item at else silent at).link.waiting ≤ length (if b then given ++ item ∷ [] else given) + spare
      by_answer true u = let t = tally u in let w = count_push l.waiting (record { tag = l.sent; item = item }) in let g = count_push given item in omega (arith, t, w, g)
      by_answer false u = tally u

  tick_tally : Tally spare (ticking now l).link given taken
  unfolding ticking beating sending
  tick_tally up = subst (λ (s : Step). is_up (beating s.link).link.phase ≡ true → length taken + length (beating s.link).link.waiting ≤ length given + spare) (sym (tick_was_open now l (up_open _ up)).0) (by_due (is_up l.phase && nat_le 300 (now - l.sent_at))) up
    where
      at : LinkState
      at = record l { clock = now }

      by_due : (b : Bool) → is_up (if b then sending Heartbeat at else silent at).link.phase ≡ true → length taken + length (if b then sending Heartbeat at else silent at).link.waiting ≤ length given + spare
      by_due true u = tally u
      by_due false u = tally u

  open_tally : Tally spare (opening now l).link (if opens now l then [] else given) (if opens now l then [] else taken)
  unfolding opening opens requesting beginning sending
  open_tally = by_opens (opens now l) refl
    where
      by_opens : (b : Bool) → opens now l ≡ b → is_up (if opens now l then requesting (entered now l).link else silent (entered now l).link).link.phase ≡ true
          → length (if opens now l then [] else taken) + length (if opens now l then requesting (entered now l).link else silent (entered now l).link).link.waiting ≤ length (if opens now l then [] else given) + spare
      by_opens true e = rw e (λ up. absurd (false≢true up))
      by_opens false e = rw e (λ up.
          let so = entered_open now l (up_open (entered now l).link.phase up)
          in subst (λ (s : Step). length taken + length s.link.waiting ≤ length given + spare) (sym so.0) (tally (ap (λ (s : Step). is_up s.link.phase) (sym so.0) ∙ up)))

-- one call after another
pub own_tally : (now connection spare : ℕ) (calls : List LinkCall) → Each IsOwn calls → (l : LinkState) (given taken : List (List ℕ)) → Tally spare l given taken
    → Tally spare (all_made now (map (as_call connection) calls) l).link (given_after now (map (as_call connection) calls) l given) (taken_after now (map (as_call connection) calls) l taken)
unfolding all_made given_after taken_after made_by
own_tally now connection spare [] own l given taken tally = tally
own_tally now connection spare (Sends item ∷ others) own l given taken tally = own_tally now connection spare others own.1 (sending_item now item l).link _ taken (send_tally now spare l given taken tally item)
own_tally now connection spare (Closes why ∷ others) own l given taken tally = own_tally now connection spare others own.1 _ given taken (λ up. absurd (false≢true (sym (close_closes now why l) ∙ up_open _ up)))
own_tally now connection spare (Ticks ∷ others) own l given taken tally = own_tally now connection spare others own.1 (ticking now l).link given taken (tick_tally now spare l given taken tally)
own_tally now connection spare (Opens ∷ others) own l given taken tally = own_tally now connection spare others own.1 (opening now l).link _ _ (open_tally now spare l given taken tally)
own_tally now connection spare (Receives bytes ∷ others) own l given taken tally = absurd own.0
