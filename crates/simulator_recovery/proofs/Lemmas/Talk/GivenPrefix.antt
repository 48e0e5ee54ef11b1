-- What a link accepts of items that are sent one after another are the first of them: after one that is refused all are.
use Rattle.simulator_recovery.proofs.Words.Basics.{◌≡◌, ℕ, ◌∙◌, Bool, true, false, List, [], ◌∷◌, ◌++◌, map, if◌then◌else◌, refl, sym, ap, is_ok, false≢true}
use Rattle.simulator_recovery.proofs.Words.Links.{acceptance, answer_to_send, sending_item, settled, Step, entered, giving, limited, silent, LinkState, is_open, is_up, Phase}
use Rattle.simulator_recovery.proofs.Words.Controllers.{LinkCall, Sends, items_given}
use Rattle.simulator_recovery.proofs.Words.Recovery.{Begins}
use Rattle.simulator_recovery.proofs.Lemmas.Talk.ClientLinks.{answer_down, up_open}
use Rattle.simulator_recovery.proofs.Lemmas.Ground.LinkCounts.{entered_closed, entered_open, limited_open, settled_twice}

module _ (now : ℕ) where
  not_up : (phase : Phase) → is_open phase ≡ false → is_up phase ≡ false
  not_up Phase.Closed e = refl
  not_up Phase.Start e = absurd (false≢true (sym e))
  not_up Phase.Up e = absurd (false≢true (sym e))
  not_up Phase.RetransmissionRequested e = absurd (false≢true (sym e))
  not_up Phase.RetransmissionRunning e = absurd (false≢true (sym e))

  -- a call at the same clock begins as the one before it
  entered_shut : (l : LinkState) → is_open l.phase ≡ false → is_open (entered now l).link.phase ≡ false
  entered_shut l e = ap (λ (s : Step). is_open s.link.phase) (entered_closed now l e) ∙ e

  entered_again : (l : LinkState) → is_open (entered now l).link.phase ≡ true → entered now (entered now l).link ≡ entered now l
  unfolding entered
  entered_again l e = ap (λ (s : Step). entered now s.link) (limited_open (settled now l) e) ∙ ap limited (settled_twice now l)

  ok_up : (l : LinkState) → is_ok (answer_to_send now l) ≡ true → is_up (entered now l).link.phase ≡ true
  unfolding answer_to_send
  ok_up l ok = by_up (is_up (entered now l).link.phase) refl
    where
      by_up : (b : Bool) → is_up (entered now l).link.phase ≡ b → is_up (entered now l).link.phase ≡ true
      by_up true e = e
      by_up false e = absurd (false≢true (sym (answer_down now (entered now l).link e) ∙ ok))

  -- an item is accepted where the link is open
  pub ok_open : (l : LinkState) → is_ok (answer_to_send now l) ≡ true → is_open l.phase ≡ true
  ok_open l ok = (entered_open now l (up_open _ (ok_up l ok))).1

  shut_refuses : (l : LinkState) → is_open l.phase ≡ false → is_ok (answer_to_send now l) ≡ false
  unfolding answer_to_send
  shut_refuses l e = answer_down now (entered now l).link (not_up _ (entered_shut l e))

  refused_stays : (item : List ℕ) (l : LinkState) → is_ok (answer_to_send now l) ≡ false → is_ok (answer_to_send now (sending_item now item l).link) ≡ false
  unfolding answer_to_send sending_item
  refused_stays item l denied = ap (λ (b : Bool). is_ok (acceptance (entered now (if b then giving item at else silent at).link).link)) denied ∙ by_open (is_open at.phase) refl
    where
      at : LinkState
      at = (entered now l).link

      by_open : (b : Bool) → is_open at.phase ≡ b → is_ok (acceptance (entered now at).link) ≡ false
      by_open true e = ap (λ (s : Step). is_ok (acceptance s.link)) (entered_again l e) ∙ denied
      by_open false e = answer_down now (entered now at).link (not_up _ (entered_shut at e))

  abbrev pub sends : List (List ℕ) → List LinkCall
  sends items = map Sends items

  pub all_refused : (items : List (List ℕ)) (l : LinkState) → is_ok (answer_to_send now l) ≡ false → items_given now (sends items) l ≡ []
  unfolding items_given
  all_refused [] l denied = refl
  all_refused (item ∷ others) l denied = ap (λ (b : Bool). (if b then item ∷ [] else []) ++ items_given now (sends others) (sending_item now item l).link) denied ∙ all_refused others (sending_item now item l).link (refused_stays item l denied)

  -- a link that is closed accepts nothing
  pub shut_gives : (items : List (List ℕ)) (l : LinkState) → is_open l.phase ≡ false → items_given now (sends items) l ≡ []
  shut_gives items l e = all_refused items l (shut_refuses l e)

  pub first_given : (items : List (List ℕ)) (l : LinkState) → Begins (items_given now (sends items) l) items
  unfolding items_given
  first_given [] l = record { rest = []; are = refl }
  first_given (item ∷ others) l = choose (is_ok (answer_to_send now l)) refl (first_given others (sending_item now item l).link)
    where
      choose : (b : Bool) → is_ok (answer_to_send now l) ≡ b → Begins (items_given now (sends others) (sending_item now item l).link) others
          → Begins ((if b then item ∷ [] else []) ++ items_given now (sends others) (sending_item now item l).link) (item ∷ others)
      choose true e more = record { rest = more.rest; are = ap (λ (list : List (List ℕ)). item ∷ list) more.are }
      choose false e more = record { rest = item ∷ others; are = ap (λ (list : List (List ℕ)). list ++ item ∷ others) (sym (all_refused others (sending_item now item l).link (refused_stays item l e))) }
