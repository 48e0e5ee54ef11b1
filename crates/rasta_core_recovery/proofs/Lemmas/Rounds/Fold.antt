-- What comes to an end in a round, one PDU after another, and then its own work.
use Rattle.rasta_core_recovery.proofs.Words.Basics.{◌≡◌, ℕ, ◌∙◌, ◌+◌, ◌-◌, ◌<◌, ◌⊎◌, inl, inr, Bool, true, false, ◌&&◌, nat_le, List, [], ◌∷◌, ◌++◌, refl, sym, ap, subst, arith, leb-false, nat_tests}
use Rattle.rasta_core_recovery.proofs.Words.Links.{LinkState, is_open, is_up, settled, deadline, Step, silent, then_do, sending, telling, limited, entered, beating, hearing, opening, ticking, Role, Phase, Pdu, Heartbeat}
use Rattle.rasta_core_recovery.proofs.Lemmas.Rounds.Links.{heard, all_heard, worked, end_round}
use Rattle.rasta_core_recovery.proofs.Lemmas.Rounds.Calls.{Lives, at_reading, ticking_calm, ticking_beats, opening_lives, heard_lives}
use Rattle.rasta_core_recovery.proofs.Lemmas.ComingUp.Stays.{quiet_hearing, quiet_hears_all, quiet_works, quiet_opening, quiet_may_not}

-- an end that is outside since now, or since its time was over in this round
pub record Out (now : ℕ) (k : LinkState) : Type 0 where
  pub clock : k.clock ≡ now
  pub is_out : is_open k.phase ≡ false
  pub quiet : now < k.closed_at + 6000
  pub lately : now < k.closed_at + 10

-- an end inside at a reading
pub record Lively (now : ℕ) (l : LinkState) : Type 0 where
  pub clock : l.clock ≡ now
  pub connected : is_open l.phase ≡ true
  pub young : now < l.own_stamp + 1800

pub same_clock : (now : ℕ) (l : LinkState) → l.clock ≡ now → at_reading now l ≡ l
same_clock now l at = ap (λ (c : ℕ). record l { clock = c }) (sym at)

pub settled_in : (now : ℕ) (l : LinkState) → is_open l.phase ≡ true → now < l.own_stamp + 1800 → settled now l ≡ at_reading now l
unfolding settled deadline
settled_in now l is_in young = rw (is_in, late) refl
  where
    late : nat_le (l.own_stamp + 1800) now ≡ false
    late = let y = young in grind (arith, nat_tests)

-- an end that has sent too many PDUs closes as it is entered
full_leaves : (now : ℕ) (l : LinkState) → Lively now l → nat_le 2147483000 l.sent ≡ true → Out now (entered now l).link
unfolding entered limited telling sending
full_leaves now l is full = subst (λ (k : LinkState). Out now (limited k).link) (sym settles) (rw (is.connected, full) (record { clock = refl; is_out = refl; quiet = omega arith; lately = omega arith }))
  where
    settles : settled now l ≡ at_reading now l
    settles = settled_in now l is.connected is.young

-- what becomes of one PDU: the end has left, or heard it
pub heard_case : (now : ℕ) (p : Pdu) (l : LinkState) → Lively now l
    → Out now (heard now p l).link ⊎ ((l.sent < 2147483000) × ((heard now p l).link ≡ (hearing p l).link) × ((heard now p l).pdus ≡ (hearing p l).pdus))
unfolding heard
heard_case now p l is = choose (nat_le 2147483000 l.sent) refl
  where
    choose : (b : Bool) → nat_le 2147483000 l.sent ≡ b
        → Out now (heard now p l).link ⊎ ((l.sent < 2147483000) × ((heard now p l).link ≡ (hearing p l).link) × ((heard now p l).pdus ≡ (hearing p l).pdus))
    choose true full =
        let left = full_leaves now l is full in
        let same = (quiet_hearing p (entered now l).link left.is_out (omega (arith, left.quiet, left.clock))).0 in
        inl (subst (Out now) (sym same) left)
    choose false room =
        let lives : Lives now l = record { connected = is.connected; young = is.young; room = leb-false _ _ room } in
        let e = heard_lives now p l lives in
        let at = same_clock now l is.clock in
        inr (leb-false _ _ room, ap (λ (s : Step). s.link) e ∙ ap (λ (k : LinkState). (hearing p k).link) at, ap (λ (s : Step). s.pdus) e ∙ ap (λ (k : LinkState). (hearing p k).pdus) at)

-- ---- one PDU after another

-- after a step the end has left, or what is said of it holds of what is still to come
pub data Next (G : Type 0) (now : ℕ) (P : G → List Pdu → LinkState → Type 0) (O : G → LinkState → List Pdu → G → LinkState → Type 0) (g : G) (l : LinkState) (ps : List Pdu) (s : Step) : Type 0 where
  gone_next : Out now s.link → Next G now P O g l ps s
  stays_next : (h : G) → P h ps s.link → O g l s.pdus h s.link → Next G now P O g l ps s

pub all_hear : (G : Type 0) (now : ℕ) (P : G → List Pdu → LinkState → Type 0) (O : G → LinkState → List Pdu → G → LinkState → Type 0)
    → ((g : G) (l : LinkState) → P g [] l → O g l [] g l)
    → ((g h i : G) (l k j : LinkState) (ps qs : List Pdu) → O g l ps h k → O h k qs i j → O g l (ps ++ qs) i j)
    → ((g : G) (p : Pdu) (ps : List Pdu) (l : LinkState) → P g (p ∷ ps) l → Next G now P O g l ps (heard now p l))
    → (ps : List Pdu) (g : G) (l : LinkState) → P g ps l → Next G now P O g l [] (all_heard now ps l)
unfolding all_heard
all_hear G now P O none both step [] g l is = stays_next g is (none g l is)
all_hear G now P O none both step (p ∷ ps) g l is = choose (λ h then_is. all_hear G now P O none both step ps h (heard now p l).link then_is) (step g p ps l is)
  where
    choose : ((h : G) → P h ps (heard now p l).link → Next G now P O h (heard now p l).link [] (all_heard now ps (heard now p l).link)) → Next G now P O g l ps (heard now p l) → Next G now P O g l [] (all_heard now (p ∷ ps) l)
    choose others (gone_next left) = gone_next (subst (Out now) (sym (ap (λ (s : Step). s.link) (quiet_hears_all now ps (heard now p l).link left.is_out left.quiet left.clock))) left)
    choose others (stays_next h then_is o) = follow (others h then_is)
      where
        follow : Next G now P O h (heard now p l).link [] (all_heard now ps (heard now p l).link) → Next G now P O g l [] (all_heard now (p ∷ ps) l)
        follow (gone_next left) = gone_next left
        follow (stays_next i last more) = stays_next i last (both g h i l (heard now p l).link (all_heard now ps (heard now p l).link).link (heard now p l).pdus (all_heard now ps (heard now p l).link).pdus o more)

-- ---- its own work

pub data Work (now : ℕ) (k : LinkState) (s : Step) : Type 0 where
  gone_work : Out now s.link → Work now k s
  calm_work : s ≡ silent k → (is_up k.phase ≡ true → now < k.sent_at + 300) → Work now k s
  beats_work : is_up k.phase ≡ true → s ≡ sending Heartbeat k → Work now k s

pub calm_then : (up : Bool) (now sent_at : ℕ) → (up && nat_le 300 (now - sent_at)) ≡ false → up ≡ true → now < sent_at + 300
calm_then true now sent_at e f = let g = leb-false 300 (now - sent_at) e in omega (arith, g)
calm_then false now sent_at e f = cc

pub due_then : (up due : Bool) → (up && due) ≡ true → up ≡ true
due_then true due e = refl
due_then false due e = cc

pub not_up : (p : Phase) → is_open p ≡ false → is_up p ≡ false
not_up Phase.Closed o = refl
not_up Phase.Start o = cc
not_up Phase.Up o = cc
not_up Phase.RetransmissionRequested o = cc
not_up Phase.RetransmissionRunning o = cc

pub beats_not : (j : LinkState) → is_open j.phase ≡ false → beating j ≡ silent j
unfolding beating
beats_not j shut = rw (not_up j.phase shut) refl

opening_full : (now : ℕ) (j : LinkState) → Lively now j → nat_le 2147483000 j.sent ≡ true → Out now (opening now j).link
unfolding opening
opening_full now j in_it full =
    let left = full_leaves now j in_it full in
    subst (Out now) (sym (ap (λ (s : Step). s.link) (quiet_may_not (entered now j).link left.is_out (omega (arith, left.quiet, left.clock))))) left

ticks_out : (now : ℕ) (k : LinkState) → Lively now k → nat_le 2147483000 k.sent ≡ true → Out now (ticking now k).link
unfolding ticking
ticks_out now k is full = let left = full_leaves now k is full in subst (Out now) (sym (ap (λ (s : Step). s.link) (beats_not (entered now k).link left.is_out))) left

opens_out : (now : ℕ) (k : LinkState) → Out now k → Out now (opening now k).link
opens_out now k is = subst (Out now) (sym (ap (λ (s : Step). s.link) (quiet_opens now k is))) is
  where
    quiet_opens : (now : ℕ) (k : LinkState) → Out now k → opening now k ≡ silent k
    quiet_opens now k is = quiet_opening now k is.is_out is.quiet ∙ ap (λ (c : ℕ). silent (record k { clock = c })) (sym is.clock)

pub works : (now : ℕ) (who : Role) (k : LinkState) → Lively now k → Work now k (worked now who k)
unfolding worked sending
works now who k is = choose who (nat_le 2147483000 k.sent) refl
  where
    room_of : nat_le 2147483000 k.sent ≡ false → Lives now k
    room_of room = record { connected = is.connected; young = is.young; room = leb-false _ _ room }

    same : at_reading now k ≡ k
    same = same_clock now k is.clock

    due : Bool
    due = is_up k.phase && nat_le 300 (now - k.sent_at)

    tick : (b : Bool) → due ≡ b → nat_le 2147483000 k.sent ≡ false → Work now k (ticking now k)
    tick false e room = calm_work (ticking_calm now k (room_of room) e ∙ ap silent same) (calm_then (is_up k.phase) now k.sent_at e)
    tick true e room = beats_work (due_then (is_up k.phase) (nat_le 300 (now - k.sent_at)) e) (ticking_beats now k (room_of room) e ∙ ap (sending Heartbeat) same)

    said : LinkState
    said = record k { sent = k.sent + 1; sent_at = k.clock }

    lively : Lively now said
    lively = record { clock = is.clock; connected = is.connected; young = is.young }

    opens : (b : Bool) → due ≡ b → nat_le 2147483000 k.sent ≡ false → Work now k (then_do (ticking now k) (λ l. opening now l))
    opens false e room =
        let ticks = ticking_calm now k (room_of room) e ∙ ap silent same in
        calm_work (ap (λ (s : Step). then_do s (λ l. opening now l)) ticks ∙ opening_lives now k (room_of room) ∙ ap silent same) (calm_then (is_up k.phase) now k.sent_at e)
    opens true e room = further (nat_le 2147483000 (k.sent + 1)) refl
      where
        ticks : ticking now k ≡ sending Heartbeat k
        ticks = ticking_beats now k (room_of room) e ∙ ap (sending Heartbeat) same

        further : (b : Bool) → nat_le 2147483000 (k.sent + 1) ≡ b → Work now k (then_do (ticking now k) (λ l. opening now l))
        further true full = gone_work (subst (λ (s : Step). Out now (opening now s.link).link) (sym ticks) (opening_full now said lively full))
        further false room_then = beats_work (due_then (is_up k.phase) (nat_le 300 (now - k.sent_at)) e)
            (ap (λ (s : Step). then_do s (λ l. opening now l)) ticks
            ∙ ap (λ (s : Step). record { link = s.link; pdus = (sending Heartbeat k).pdus ++ s.pdus }) (opening_lives now said (record { connected = is.connected; young = is.young; room = leb-false _ _ room_then }) ∙ ap silent (same_clock now said is.clock)))

    choose : (who : Role) → (b : Bool) → nat_le 2147483000 k.sent ≡ b → Work now k (worked now who k)
    choose Role.Server true full = gone_work (ticks_out now k is full)
    choose Role.Client true full = gone_work (opens_out now (ticking now k).link (ticks_out now k is full))
    choose Role.Server false room = tick due refl room
    choose Role.Client false room = opens due refl room

-- ---- a round

-- an end inside before a round: it closes by time, or its clock goes on
pub data Begins (now : ℕ) (l : LinkState) : Type 0 where
  late : Out now (settled now l) → Begins now l
  on : settled now l ≡ at_reading now l → now < l.own_stamp + 1800 → Begins now l

pub begins : (now : ℕ) (l : LinkState) → now ≡ l.clock + 10 → is_open l.phase ≡ true → l.clock < l.own_stamp + 1800 → Begins now l
unfolding settled deadline
begins now l at is_in young = choose (nat_le (l.own_stamp + 1800) now) refl
  where
    choose : (b : Bool) → nat_le (l.own_stamp + 1800) now ≡ b → Begins now l
    choose true e = late (rw (is_in, e) (record { clock = refl; is_out = refl; quiet = omega (arith, at, young); lately = omega (arith, at, young) }))
    choose false e = on (rw (is_in, e) refl) (leb-false _ _ e)

-- an end that is outside in a round says nothing in it, and stays so
pub late_round : (now : ℕ) (ps : List Pdu) (l : LinkState) → Out now (settled now l) → end_round now ps l ≡ silent (settled now l)
unfolding end_round
late_round now ps l left = ap (λ (s : Step). then_do s (λ k. worked now l.identity.role k)) (quiet_hears_all now ps (settled now l) left.is_out left.quiet left.clock)
    ∙ ap (λ (s : Step). unsaid s) (quiet_works now l.identity.role (settled now l) left.is_out left.quiet ∙ ap (λ (c : ℕ). silent (record (settled now l) { clock = c })) (sym left.clock))
  where
    unsaid : Step → Step
    unsaid s = record { link = s.link; pdus = [] ++ s.pdus }

pub stays_out : (now : ℕ) (ps : List Pdu) (l : LinkState) → Out now (settled now l) → Out now (end_round now ps l).link
stays_out now ps l left = subst (λ (s : Step). Out now s.link) (sym (late_round now ps l left)) left

pub works_out : (now : ℕ) (who : Role) (k : LinkState) → Out now k → Out now (worked now who k).link
works_out now who k left = subst (Out now) (sym (ap (λ (s : Step). s.link) (quiet_works now who k left.is_out left.quiet) ∙ ap (λ (c : ℕ). record k { clock = c }) (sym left.clock))) left

-- what a round is for an end whose clock goes on
pub round_on : (now : ℕ) (ps : List Pdu) (l : LinkState) → settled now l ≡ at_reading now l
    → end_round now ps l ≡ then_do (all_heard now ps (at_reading now l)) (λ k. worked now l.identity.role k)
unfolding end_round
round_on now ps l e = ap (λ (k : LinkState). then_do (all_heard now ps k) (λ j. worked now l.identity.role j)) e
