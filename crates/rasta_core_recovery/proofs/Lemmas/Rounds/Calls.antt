-- What calls do at a link that lives and has room.
use Rattle.rasta_core_recovery.proofs.Words.Basics.{◌≡◌, ℕ, ◌∙◌, ◌+◌, ◌-◌, ◌<◌, Bool, true, false, ◌&&◌, nat_le, nat_lt, if◌then◌else◌, List, [], ◌∷◌, ◌++◌, append-nil, refl, sym, ap, arith, nat_tests}
use Rattle.rasta_core_recovery.proofs.Words.Links.{LinkState, is_open, is_up, is_client, settled, deadline, state_at, open_state, Step, silent, then_do, sending, limited, entered, beating, requesting, is_down, may_open, hearing, opens, opening, ticking, Role, Phase, Heartbeat, Pdu}
use Rattle.rasta_core_recovery.proofs.Lemmas.Rounds.Links.{heard, all_heard, worked, end_round}

-- in a connection, within its time at a reading, and below the limit
pub record Lives (now : ℕ) (l : LinkState) : Type 0 where
  pub connected : is_open l.phase ≡ true
  pub young : now < l.own_stamp + 1800
  pub room : l.sent < 2147483000

abbrev pub at_reading : ℕ → LinkState → LinkState
at_reading now l = record l { clock = now }

pub settled_lives : (now : ℕ) (l : LinkState) → Lives now l → settled now l ≡ at_reading now l
unfolding settled deadline
settled_lives now l lives = rw (lives.connected, late) refl
  where
    late : nat_le (l.own_stamp + 1800) now ≡ false
    late = let y = lives.young in grind (arith, nat_tests)

pub entered_lives : (now : ℕ) (l : LinkState) → Lives now l → entered now l ≡ silent (at_reading now l)
unfolding entered limited
entered_lives now l lives = ap limited (settled_lives now l lives) ∙ rw (lives.connected, full) refl
  where
    full : nat_le 2147483000 l.sent ≡ false
    full = let y = lives.room in grind (arith, nat_tests)

-- no heartbeat is due
abbrev pub IsCalm : ℕ → LinkState → Type 0
IsCalm now l = (is_up l.phase && nat_le 300 (now - l.sent_at)) ≡ false

pub ticking_calm : (now : ℕ) (l : LinkState) → Lives now l → IsCalm now l → ticking now l ≡ silent (at_reading now l)
unfolding ticking beating
ticking_calm now l lives calm = ap (λ (s : Step). then_do s beating) (entered_lives now l lives) ∙ rw calm refl

pub ticking_beats : (now : ℕ) (l : LinkState) → Lives now l → (is_up l.phase && nat_le 300 (now - l.sent_at)) ≡ true → ticking now l ≡ sending Heartbeat (at_reading now l)
unfolding ticking beating
ticking_beats now l lives due = ap (λ (s : Step). then_do s beating) (entered_lives now l lives) ∙ rw due refl

pub not_down : (p : Phase) → is_open p ≡ true → is_down (open_state p) ≡ false
not_down Phase.Closed o = cc
not_down Phase.Start o = refl
not_down Phase.Up o = refl
not_down Phase.RetransmissionRequested o = refl
not_down Phase.RetransmissionRunning o = refl

pub opening_lives : (now : ℕ) (l : LinkState) → Lives now l → opening now l ≡ silent (at_reading now l)
unfolding opening state_at deadline
opening_lives now l lives = ap (λ (s : Step). then_do s (λ k. if may_open k then requesting k else silent k)) (entered_lives now l lives)
    ∙ rw (lives.connected, young, not_down l.phase lives.connected) (both (is_client l.identity.role))
  where
    young : nat_lt now (l.own_stamp + 1800) ≡ true
    young = let y = lives.young in grind (arith, nat_tests)

    both : (b : Bool) → (if b && false then requesting (at_reading now l) else silent (at_reading now l)) ≡ silent (at_reading now l)
    both true = refl
    both false = refl

pub may_not_open : (now : ℕ) (l : LinkState) → Lives now l → opens now l ≡ false
unfolding opens state_at deadline
may_not_open now l lives = ap (λ (s : Step). may_open s.link) (entered_lives now l lives) ∙ rw (lives.connected, young, not_down l.phase lives.connected) (never (is_client l.identity.role))
  where
    young : nat_lt now (l.own_stamp + 1800) ≡ true
    young = let y = lives.young in grind (arith, nat_tests)

    never : (b : Bool) → (b && false) ≡ false
    never true = refl
    never false = refl

pub lives_on : (now : ℕ) (l : LinkState) → Lives now l → Lives now (at_reading now l)
lives_on now l lives = record { connected = lives.connected; young = lives.young; room = lives.room }

pub worked_calm : (now : ℕ) (who : Role) (l : LinkState) → Lives now l → IsCalm now l → worked now who l ≡ silent (at_reading now l)
unfolding worked
worked_calm now Role.Client l lives calm = ap (λ (s : Step). then_do s (λ k. opening now k)) (ticking_calm now l lives calm) ∙ opening_lives now (at_reading now l) (lives_on now l lives)
worked_calm now Role.Server l lives calm = ticking_calm now l lives calm

-- a round in which nothing comes and nothing is due
pub calm_round : (now : ℕ) (l : LinkState) → Lives now l → IsCalm now l → end_round now [] l ≡ silent (at_reading now l)
unfolding end_round all_heard
calm_round now l lives calm =
    ap (λ (k : LinkState). worked now l.identity.role k) (settled_lives now l lives) ∙ worked_calm now l.identity.role (at_reading now l) (lives_on now l lives) calm

-- what comes to an end that lives
pub heard_lives : (now : ℕ) (pdu : Pdu) (l : LinkState) → Lives now l
    → heard now pdu l ≡ record { link = (hearing pdu (at_reading now l)).link; pdus = (hearing pdu (at_reading now l)).pdus }
unfolding heard
heard_lives now pdu l lives = ap (λ (s : Step). then_do s (λ k. record { link = (hearing pdu k).link; pdus = (hearing pdu k).pdus })) (entered_lives now l lives)

-- a round in which one PDU comes, after which it lives and nothing is due
pub one_heard : (now : ℕ) (pdu : Pdu) (l after : LinkState) (pdus : List Pdu) → Lives now l
    → (hearing pdu (at_reading now l)).link ≡ after → (hearing pdu (at_reading now l)).pdus ≡ pdus → l.identity.role ≡ after.identity.role
    → Lives now after → IsCalm now after → after.clock ≡ now
    → end_round now (pdu ∷ []) l ≡ record { link = after; pdus = pdus }
unfolding end_round all_heard
one_heard now pdu l after pdus lives e f same then_lives calm at =
    ap (λ (k : LinkState). then_do (then_do (heard now pdu k) silent) (λ x. worked now l.identity.role x)) (settled_lives now l lives)
    ∙ ap (λ (s : Step). then_do (then_do s silent) (λ x. worked now l.identity.role x)) (heard_lives now pdu (at_reading now l) (lives_on now l lives))
    ∙ two (λ (k : LinkState) (ps : List Pdu). record { link = (worked now l.identity.role k).link; pdus = (ps ++ []) ++ (worked now l.identity.role k).pdus }) e f
    ∙ ap (λ (s : Step). record { link = s.link; pdus = (pdus ++ []) ++ s.pdus }) (worked_calm now l.identity.role after then_lives calm)
    ∙ two (λ (k : LinkState) (ps : List Pdu). record { link = k; pdus = ps }) (ap (λ (c : ℕ). record after { clock = c }) (sym at)) (append-nil (pdus ++ []) ∙ append-nil pdus)
  where
    two : (g : LinkState → List Pdu → Step) → {a b : LinkState} → {c d : List Pdu} → a ≡ b → c ≡ d → g a c ≡ g b d
    two g e f = cc

-- a round in which one PDU comes that is answered by nothing
pub heard_round : (now : ℕ) (pdu : Pdu) (l after : LinkState) (s : Step) → Lives now l
    → (hearing pdu (at_reading now l)).link ≡ after → (hearing pdu (at_reading now l)).pdus ≡ []
    → worked now l.identity.role after ≡ s
    → end_round now (pdu ∷ []) l ≡ s
unfolding end_round all_heard
heard_round now pdu l after s lives e f works =
    ap (λ (k : LinkState). then_do (then_do (heard now pdu k) silent) (λ x. worked now l.identity.role x)) (settled_lives now l lives)
    ∙ ap (λ (t : Step). then_do (then_do t silent) (λ x. worked now l.identity.role x)) (heard_lives now pdu (at_reading now l) (lives_on now l lives))
    ∙ two (λ (k : LinkState) (ps : List Pdu). record { link = (worked now l.identity.role k).link; pdus = (ps ++ []) ++ (worked now l.identity.role k).pdus }) e f
    ∙ works
  where
    two : (g : LinkState → List Pdu → Step) → {a b : LinkState} → {c d : List Pdu} → a ≡ b → c ≡ d → g a c ≡ g b d
    two g e f = cc

pub quiet_round : (now : ℕ) (l : LinkState) (s : Step) → Lives now l → worked now l.identity.role (at_reading now l) ≡ s → end_round now [] l ≡ s
unfolding end_round all_heard
quiet_round now l s lives works = ap (λ (k : LinkState). worked now l.identity.role k) (settled_lives now l lives) ∙ works

-- an end after it sent a heartbeat, if it did
abbrev pub spoken : Bool → LinkState → LinkState
spoken false l = l
spoken true l = record l { sent = l.sent + 1; sent_at = l.clock }
