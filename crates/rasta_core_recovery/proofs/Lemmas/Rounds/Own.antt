-- What an end says of its own: a heartbeat, and the items that it is given; and what is done at an end that is outside.
use Rattle.rasta_core_recovery.proofs.Words.Basics.{◌≡◌, ℕ, ◌∙◌, ◌+◌, ◌-◌, ◌^◌, ◌<◌, ◌⊎◌, inl, inr, Bool, true, false, ◌&&◌, nat_le, if◌then◌else◌, List, [], ◌∷◌, ◌++◌, refl, sym, ap, subst, arith, is_ok}
use Rattle.rasta_core_recovery.proofs.Words.Links.{stops_at_greatest, LinkState, is_open, is_up, Step, silent, then_do, sending, entered, beating, giving, header_of, pdu_of, ticking, opening, sending_item, acceptance, Pdu, Heartbeat}
use Rattle.rasta_core_recovery.proofs.Lemmas.Rounds.Given.{Grows, grows_none, one_more_waits}
use Rattle.rasta_core_recovery.proofs.Lemmas.Rounds.Acts.{Act, Hears, Beats, Asks, Gives, did, all_did, HasRoom}
use Rattle.rasta_core_recovery.proofs.Lemmas.Rounds.Calls.{Lives, at_reading, entered_lives, ticking_calm, ticking_beats, opening_lives}
use Rattle.rasta_core_recovery.proofs.Lemmas.Rounds.Words.{IsSimple, Says}
use Rattle.rasta_core_recovery.proofs.Lemmas.ComingUp.Stays.{entered_out, quiet_opening, quiet_hears}
use Rattle.rasta_core_recovery.proofs.Lemmas.Rounds.Fold.{Out, Lively, beats_not, calm_then, due_then, not_up, same_clock}
use Rattle.rasta_core_recovery.proofs.Lemmas.Rounds.Links.{the_step}

-- an end says these of its own, if it is up, and nothing else of it changes than what it has said and been given
pub record Utters (l k : LinkState) (qs : List Pdu) : Type 0 where
  pub same : k ≡ record l { sent = k.sent; sent_at = k.sent_at; waiting = k.waiting; given = k.given }
  pub says : Says IsSimple (header_of l) l.sent qs k.sent
  pub sent_at : ((qs ≡ []) × (k.sent_at ≡ l.sent_at)) ⊎ ((k.sent_at ≡ l.clock) × (qs ≡ [] → ⊥))
  pub mute : is_up l.phase ≡ false → qs ≡ []
  pub grows : Grows l k

pub utters_none : (l : LinkState) → Utters l l []
utters_none l = record { same = refl; says = refl; sent_at = inl (refl, refl); mute = λ e. refl; grows = grows_none l }

utters_as : (l : LinkState) (s t : Step) → s ≡ t → Utters l t.link t.pdus → Utters l s.link s.pdus
utters_as l s t e u = subst (λ (x : Step). Utters l x.link x.pdus) (sym e) u

some_said : {p : Pdu} {ps : List Pdu} → p ∷ ps ≡ [] → ⊥
some_said e = cc

utters_beat : (l : LinkState) → is_up l.phase ≡ true → Utters l (sending Heartbeat l).link (sending Heartbeat l).pdus
unfolding sending pdu_of
utters_beat l up = record { same = refl; says = (refl, tt, refl); sent_at = inr (refl, λ e. some_said e); mute = λ e. absurd (cc (e, up)); grows = record { sent = omega arith; waits = λ few. (omega arith, λ number most. omega arith) } }

utters_item : (item : List ℕ) (l : LinkState) → is_up l.phase ≡ true → Utters l (giving item l).link (giving item l).pdus
unfolding giving sending pdu_of
utters_item item l up = record {
  same = refl;
  says = (refl, tt, refl);
  sent_at = inr (refl, λ e. some_said e);
  mute = λ e. absurd (cc (e, up));
  grows = record {
    sent = omega arith;
    waits = λ few. let one = one_more l.given few in (omega (arith, one), λ number most. let more = one_more_waits number l.waiting (record { tag = l.sent; item = item }) in omega (arith, one, more));
  };
}
  where
    one_more : (given : ℕ) → stops_at_greatest (given + 1) < 2 ^ 32 → stops_at_greatest (given + 1) ≡ given + 1
    one_more given few = grind (arith, few)

pub lives_of : (now : ℕ) (l : LinkState) → Lively now l → HasRoom l → Lives now l
lives_of now l is room = record { connected = is.connected; young = is.young; room = room is.connected }

accepts_up : (l : LinkState) → is_ok (acceptance l) ≡ true → is_up l.phase ≡ true
unfolding acceptance
accepts_up l e = choose (is_up l.phase) refl
  where
    choose : (b : Bool) → is_up l.phase ≡ b → is_up l.phase ≡ true
    choose true f = f
    choose false f = absurd (cc (e, not_taken))
      where
        not_taken : is_ok (acceptance l) ≡ false
        not_taken = rw f refl

-- what isn't heard
abbrev pub IsOwnAct : Act → Type 0
IsOwnAct (Hears pdu) = ⊥
IsOwnAct Beats = Unit {0}
IsOwnAct Asks = Unit {0}
IsOwnAct (Gives item) = Unit {0}

pub own_utters : (now : ℕ) (a : Act) (l : LinkState) → IsOwnAct a → Lively now l → HasRoom l → Utters l (did now a l).link (did now a l).pdus
unfolding did sending_item
own_utters now (Hears pdu) l own is room = absurd own
own_utters now Beats l own is room = choose (is_up l.phase && nat_le 300 (now - l.sent_at)) refl
  where
    same : at_reading now l ≡ l
    same = same_clock now l is.clock

    choose : (b : Bool) → (is_up l.phase && nat_le 300 (now - l.sent_at)) ≡ b → Utters l (ticking now l).link (ticking now l).pdus
    choose false e = utters_as l (ticking now l) (silent l) (ticking_calm now l (lives_of now l is room) e ∙ ap silent same) (utters_none l)
    choose true e = utters_as l (ticking now l) (sending Heartbeat l) (ticking_beats now l (lives_of now l is room) e ∙ ap (sending Heartbeat) same) (utters_beat l (due_then (is_up l.phase) (nat_le 300 (now - l.sent_at)) e))
own_utters now Asks l own is room = utters_as l (opening now l) (silent l) (opening_lives now l (lives_of now l is room) ∙ ap silent (same_clock now l is.clock)) (utters_none l)
own_utters now (Gives item) l own is room = utters_as l _ (given_or (is_ok (acceptance l))) at_once (choose (is_ok (acceptance l)) refl)
  where
    given_or : Bool → Step
    given_or b = if b then giving item l else silent l

    at_once : then_do (entered now l) (λ k. if is_ok (acceptance k) then giving item k else silent k) ≡ given_or (is_ok (acceptance l))
    at_once = ap (λ (s : Step). then_do s (λ k. if is_ok (acceptance k) then giving item k else silent k)) (entered_lives now l (lives_of now l is room) ∙ ap silent (same_clock now l is.clock))

    choose : (b : Bool) → is_ok (acceptance l) ≡ b → Utters l (given_or b).link (given_or b).pdus
    choose false e = utters_none l
    choose true e = utters_item item l (accepts_up l e)

-- an end that ticked has spoken lately, if it is up
abbrev pub Calm : ℕ → LinkState → Type 0
Calm now l = is_up l.phase ≡ true → now < l.sent_at + 300

pub ticked_calm : (now : ℕ) (l : LinkState) → Lively now l → HasRoom l → Calm now (did now Beats l).link
unfolding did sending
ticked_calm now l is room = choose (is_up l.phase && nat_le 300 (now - l.sent_at)) refl
  where
    same : at_reading now l ≡ l
    same = same_clock now l is.clock

    choose : (b : Bool) → (is_up l.phase && nat_le 300 (now - l.sent_at)) ≡ b → Calm now (ticking now l).link
    choose false e = subst (λ (s : Step). Calm now s.link) (sym (ticking_calm now l (lives_of now l is room) e ∙ ap silent same)) (calm_then (is_up l.phase) now l.sent_at e)
    choose true e = subst (λ (s : Step). Calm now s.link) (sym (ticking_beats now l (lives_of now l is room) e ∙ ap (sending Heartbeat) same)) (λ up. omega (arith, is.clock))

pub utters_calm : (now : ℕ) (l k : LinkState) (qs : List Pdu) → l.clock ≡ now → Utters l k qs → Calm now l → Calm now k
utters_calm now l k qs at u calm = λ up. by_said u.sent_at (calm (ap (λ (j : LinkState). is_up j.phase) (sym u.same) ∙ up))
  where
    by_said : ((qs ≡ []) × (k.sent_at ≡ l.sent_at)) ⊎ ((k.sent_at ≡ l.clock) × (qs ≡ [] → ⊥)) → now < l.sent_at + 300 → now < k.sent_at + 300
    by_said (inl e) lately = omega (arith, e.1, lately)
    by_said (inr e) lately = omega (arith, e.0, at)

-- ---- outside

outside_gives : (item : List ℕ) (k : LinkState) → is_open k.phase ≡ false → (if is_ok (acceptance k) then giving item k else silent k) ≡ silent k
unfolding acceptance
outside_gives item k out = rw (not_up k.phase out) refl

-- whatever is done at an end that is outside and quiet, nothing comes of it
pub quiet_did : (now : ℕ) (a : Act) (l : LinkState) → is_open l.phase ≡ false → now < l.closed_at + 6000 → did now a l ≡ silent (record l { clock = now })
unfolding did ticking sending_item
quiet_did now (Hears pdu) l out quiet = quiet_hears now pdu l out quiet
quiet_did now Beats l out quiet = ap (λ (s : Step). then_do s beating) (entered_out now l out) ∙ beats_not (record l { clock = now }) out
quiet_did now Asks l out quiet = quiet_opening now l out quiet
quiet_did now (Gives item) l out quiet =
    ap (λ (s : Step). then_do s (λ k. if is_ok (acceptance k) then giving item k else silent k)) (entered_out now l out) ∙ outside_gives item (record l { clock = now }) out

pub quiet_all : (now : ℕ) (acts : List Act) (l : LinkState) → is_open l.phase ≡ false → now < l.closed_at + 6000 → l.clock ≡ now → all_did now acts l ≡ silent l
unfolding all_did
quiet_all now [] l out quiet at = refl
quiet_all now (first ∷ others) l out quiet at =
    ap (λ (s : Step). then_do s (λ k. all_did now others k)) (quiet_did now first l out quiet ∙ ap (λ (c : ℕ). silent (record l { clock = c })) (sym at))
    ∙ ap (λ (s : Step). the_step s.link ([] ++ s.pdus)) (quiet_all now others l out quiet at)

pub out_all : (now : ℕ) (acts : List Act) (l : LinkState) → Out now l → Out now (all_did now acts l).link
out_all now acts l left = subst (λ (s : Step). Out now s.link) (sym (quiet_all now acts l left.is_out left.quiet left.clock)) left
