-- The moves of a signal, and of a point, that come to what the interlocking is after a part of a step.
use Rattle.std.proofs.Common.{◌≡◌, ℕ, true, false, List, [], ◌∷◌, ◌++◌, append_assoc, length, map, refl, sym, ap, ◌∙◌}
use Rattle.std.specs.Prelude.{◌-◌, None}
use Rattle.std.proofs.lemmas.List.{append-nil}
use Rattle.ixl_spec.specs.rasta_core.Clock.{state_at}
use Rattle.ixl_spec.specs.rasta_core.State.{confirmed_items, is_up}
use Rattle.ixl_spec.specs.rasta_core.phase.State.TheVariants as state
use Rattle.ixl_spec.specs.ixl_client.declared.command.Command.{Command}
use Rattle.ixl_spec.specs.State.{KnownSignalState, KnownPointState}
use Rattle.simulator_machine.specs.Lists.{last_of}
use Rattle.simulator_machine.specs.Link.{Client, Quiet, Down, Start, Up, Closes, ComesUp, QuietEnds}
use Rattle.simulator_machine.specs.Signal.{Signal, SignalMove, SignalLink, Confirms, aspects_given}
use Rattle.simulator_machine.specs.Point.{heard_next, Hears, Point, PointLink, PointMove, Position, moves_given}
use Rattle.simulator_machine.specs.Chains.{PointMayChain, SignalMayChain, point_chained, signal_chained}
use Rattle.simulator_move_laws.specs.Calls.{Items}
use Rattle.simulator_move_laws.specs.Facts.{LinkFacts, SignalFacts}
use Rattle.simulator_move_laws.specs.Link.{ClientFits, client_at, is_inside}
use Rattle.simulator_move_laws.specs.Nodes.{IsLastGiven, IsOfPoint, KnownSignalFits, KnownPointFits, openings}
use Rattle.simulator_move_laws.specs.Step.{PointStays, SignalStays}
use Rattle.simulator_move_laws.specs.Telegrams.{AreHeard, aspects_of, position_seen, positions_told}
use Rattle.simulator_move_laws.proofs.Interlocking.Places.{by_place}

pub record SignalGoes (Fits : Signal → Type 0) (old : Signal) : Type 0 where
  pub moves : List SignalMove
  pub may : SignalMayChain moves old
  pub fits : Fits (signal_chained moves old)
  pub stays : SignalStays old (signal_chained moves old)
  pub given : aspects_given (signal_chained moves old) ≡ aspects_given old

start_isnt_up : (c : Client) → c ≡ Start → c ≡ Up → ⊥
start_isnt_up c one other = cc (one, other)

-- a signal comes to where its client is, and what is confirmed is learnt
pub arrives : (now : ℕ) (known_signal : KnownSignalState) (items : Items) (commands : List Command) (signal : Signal) → ClientFits now known_signal.client items commands →
    SignalFacts now known_signal.client.link items signal → (is_inside now known_signal.client.link ≡ true → aspects_given signal ≡ aspects_of commands) →
    (is_inside now known_signal.client.link ≡ true → IsLastGiven known_signal.aspect known_signal.number commands) →
    (is_inside now known_signal.client.link ≡ true → is_up known_signal.client.link.phase ≡ false → signal.link.client ≡ Start) → SignalGoes (KnownSignalFits now known_signal items) signal
arrives now known_signal items commands signal client facts aspects last start =
    by_place (λ c. client_at now known_signal.client.link ≡ c → SignalGoes (KnownSignalFits now known_signal items) signal) now known_signal.client.link up asks quiet down refl
  where
    up : is_inside now known_signal.client.link ≡ true → is_up known_signal.client.link.phase ≡ true → client_at now known_signal.client.link ≡ Up → SignalGoes (KnownSignalFits now known_signal items) signal
    up inside is at = record {
      moves = SignalLink ComesUp ∷ Confirms (confirmed_items known_signal.client.link - openings) ∷ [];
      may = (facts.ends.up is, (facts.confirmed is, tt));
      fits = record { commands = commands; client = client; place = sym at; aspects = aspects; last = last; confirmed = λ e. refl };
      stays = record { server = refl; done = refl };
      given = refl;
    }

    asks : is_inside now known_signal.client.link ≡ true → is_up known_signal.client.link.phase ≡ false → client_at now known_signal.client.link ≡ Start → SignalGoes (KnownSignalFits now known_signal items) signal
    asks inside is at = record {
      moves = [];
      may = tt;
      fits = record { commands = commands; client = client; place = start inside is ∙ sym at; aspects = aspects; last = last; confirmed = λ e. absurd (start_isnt_up signal.link.client (start inside is) e) };
      stays = record { server = refl; done = refl };
      given = refl;
    }

    quiet : is_inside now known_signal.client.link ≡ false → client_at now known_signal.client.link ≡ Quiet → SignalGoes (KnownSignalFits now known_signal items) signal
    quiet shut at = record {
      moves = SignalLink Closes ∷ [];
      may = (tt, tt);
      fits = record { commands = commands; client = client; place = sym at; aspects = aspects; last = last; confirmed = λ e. absurd (cc (e)) };
      stays = record { server = refl; done = refl };
      given = refl;
    }

    down : is_inside now known_signal.client.link ≡ false → state_at now known_signal.client.link ≡ state.Down → client_at now known_signal.client.link ≡ Down → SignalGoes (KnownSignalFits now known_signal items) signal
    down shut is at = record {
      moves = SignalLink QuietEnds ∷ [];
      may = (facts.ends.quiet is, tt);
      fits = record { commands = commands; client = client; place = sym at; aspects = aspects; last = last; confirmed = λ e. absurd (cc (e)) };
      stays = record { server = refl; done = refl };
      given = refl;
    }

-- ---- points

pub record PointGoes (Fits : Point → Type 0) (old : Point) : Type 0 where
  pub moves : List PointMove
  pub may : PointMayChain moves old
  pub fits : Fits (point_chained moves old)
  pub stays : PointStays old (point_chained moves old)
  pub given : moves_given (point_chained moves old) ≡ moves_given old

pub point_arrives : (now : ℕ) (known_point : KnownPointState) (items : Items) (commands : List Command) (point : Point) → ClientFits now known_point.client items commands → IsOfPoint known_point.client.peer →
    LinkFacts now known_point.client.link items point.link → (is_inside now known_point.client.link ≡ true → moves_given point ≡ length commands) →
    (is_inside now known_point.client.link ≡ true → point.heard ≡ positions_told known_point.client.peer items.taken) →
    (is_inside now known_point.client.link ≡ true → AreHeard known_point.client.stage (length point.heard) (length commands)) →
    (is_inside now known_point.client.link ≡ true → last_of None point.heard ≡ position_seen known_point.side) →
    (is_inside now known_point.client.link ≡ true → is_up known_point.client.link.phase ≡ false → point.link.client ≡ Start) → PointGoes (KnownPointFits now known_point items) point
point_arrives now known_point items commands point client peer facts moves told heard last start =
    by_place (λ c. client_at now known_point.client.link ≡ c → PointGoes (KnownPointFits now known_point items) point) now known_point.client.link up asks quiet down refl
  where
    up : is_inside now known_point.client.link ≡ true → is_up known_point.client.link.phase ≡ true → client_at now known_point.client.link ≡ Up → PointGoes (KnownPointFits now known_point items) point
    up inside is at = record {
      moves = PointLink ComesUp ∷ [];
      may = (facts.up is, tt);
      fits = record { commands = commands; client = client; peer = peer; place = sym at; moves = moves; told = told; heard = heard; last = last };
      stays = record { server = refl; taken = refl; reports = refl; driven = refl; position = refl };
      given = refl;
    }

    asks : is_inside now known_point.client.link ≡ true → is_up known_point.client.link.phase ≡ false → client_at now known_point.client.link ≡ Start → PointGoes (KnownPointFits now known_point items) point
    asks inside is at = record {
      moves = [];
      may = tt;
      fits = record { commands = commands; client = client; peer = peer; place = start inside is ∙ sym at; moves = moves; told = told; heard = heard; last = last };
      stays = record { server = refl; taken = refl; reports = refl; driven = refl; position = refl };
      given = refl;
    }

    quiet : is_inside now known_point.client.link ≡ false → client_at now known_point.client.link ≡ Quiet → PointGoes (KnownPointFits now known_point items) point
    quiet shut at = record {
      moves = PointLink Closes ∷ [];
      may = (tt, tt);
      fits = record { commands = commands; client = client; peer = peer; place = sym at; moves = moves; told = told; heard = heard; last = last };
      stays = record { server = refl; taken = refl; reports = refl; driven = refl; position = refl };
      given = refl;
    }

    down : is_inside now known_point.client.link ≡ false → state_at now known_point.client.link ≡ state.Down → client_at now known_point.client.link ≡ Down → PointGoes (KnownPointFits now known_point items) point
    down shut is at = record {
      moves = PointLink QuietEnds ∷ [];
      may = (facts.quiet is, tt);
      fits = record { commands = commands; client = client; peer = peer; place = sym at; moves = moves; told = told; heard = heard; last = last };
      stays = record { server = refl; taken = refl; reports = refl; driven = refl; position = refl };
      given = refl;
    }

-- the next reports are heard
pub all_hear : List Position → List PointMove
all_hear positions = map (λ position. Hears) positions

pub may_hear : (positions : List Position) (point : Point) → PointMayChain (all_hear positions) point
unfolding all_hear
may_hear [] point = tt
may_hear (first ∷ others) point = (tt, may_hear others _)

pub heard_all : (positions rest : List Position) (point : Point) → point.coming ≡ positions ++ rest →
    point_chained (all_hear positions) point ≡ record point { heard = point.heard ++ positions; coming = rest }
unfolding all_hear
heard_all [] rest point is = ap (λ coming. record point { coming = coming }) is ∙ ap (λ heard. record point { heard = heard; coming = rest }) (sym (append-nil point.heard))
heard_all (first ∷ others) rest point is =
    ap (λ coming. point_chained (all_hear others) (heard_one coming)) is
    ∙ heard_all others rest (record point { heard = point.heard ++ first ∷ []; coming = others ++ rest }) refl
    ∙ ap (λ heard. record point { heard = heard; coming = rest }) (append_assoc point.heard (first ∷ []) others)
  where
    heard_one : List Position → Point
    heard_one coming = heard_next coming point
