-- A signal: the aspects that the interlocking gives, and the one that the signal's controller shows.
use Rattle.std.specs.Prelude.{◌≡◌, ◌≢◌, ◌≤◌, ◌⊎◌, ℕ, List, [], ◌∷◌, ◌++◌, length}
use Rattle.simulator_machine.specs.Lists.{last_of, IsOf}
use Rattle.simulator_machine.specs.Link.{Down, Up, Server, Before, In, Gone, Link, LinkMove, Opens, LinkMay, link_after}

-- stop, and any number of others
pub data Aspect : Type 0 where
  Stop : Aspect
  Proceed : (number : ℕ) → Aspect

pub record Signal : Type 0 where
  pub link : Link
  -- the aspects given in the client's last connection, oldest first: those that the controller acted on, and those that
  -- are still under way
  pub done : List Aspect
  pub flight : List Aspect
  -- how many of them the interlocking holds for confirmed
  pub confirmed : ℕ

abbrev pub aspects_given : Signal → List Aspect
aspects_given signal = signal.done ++ signal.flight

-- a controller in the connection shows the last aspect that it acted on there, any other shows stop
abbrev pub shown_by : Server → List Aspect → Aspect
shown_by Before done = Stop
shown_by In done = last_of Stop done
shown_by Gone done = Stop

abbrev pub shown : Signal → Aspect
shown signal = shown_by signal.link.server signal.done

-- An aspect other than stop that the signal shows or could still show: the controller hasn't left the connection, and
-- the aspect is the last that it acted on, or under way.
pub record IsLive (aspect : Aspect) (signal : Signal) : Type 0 where
  pub other : aspect ≢ Stop
  pub stays : signal.link.server ≢ Gone
  pub somewhere : (last_of Stop signal.done ≡ aspect) ⊎ IsOf aspect signal.flight

-- The link is up, the last aspect given there, if any, is stop, and all that were given are confirmed.
pub record HasStopConfirmed (signal : Signal) : Type 0 where
  pub up : signal.link.client ≡ Up
  pub stop : last_of Stop (aspects_given signal) ≡ Stop
  pub confirmed : length (aspects_given signal) ≤ signal.confirmed

-- known stop: stop is confirmed, or the quiet time after the last connection is over
abbrev pub IsAtKnownStop : Signal → Type 0
IsAtKnownStop signal = HasStopConfirmed signal ⊎ (signal.link.client ≡ Down)

-- what can happen at a signal alone
pub data SignalMove : Type 0 where
  -- to its link
  SignalLink : LinkMove → SignalMove
  -- the interlocking gives stop
  GivesStop : SignalMove
  -- the controller acts on the next aspect
  Acts : SignalMove
  -- the interlocking learns that so many of the aspects given were acted on
  Confirms : (count : ℕ) → SignalMove
  -- the aspects of a controller that has left are counted anew
  Recounts : (done flight : List Aspect) → SignalMove

-- when it can
abbrev pub SignalMay : SignalMove → Signal → Type 0
SignalMay (SignalLink move) signal = LinkMay move signal.link
SignalMay GivesStop signal = signal.link.client ≡ Up
SignalMay Acts signal = signal.link.server ≡ In
SignalMay (Confirms count) signal = (signal.link.server ≡ Gone) ⊎ (count ≤ length signal.done)
SignalMay (Recounts done flight) signal = signal.link.server ≡ Gone

abbrev pub aspect_given : Aspect → Signal → Signal
aspect_given aspect signal = record signal { flight = signal.flight ++ aspect ∷ [] }

-- a new connection has no aspects yet
abbrev pub signal_linked : LinkMove → Signal → Signal
signal_linked Opens signal = record { link = link_after Opens signal.link; done = []; flight = []; confirmed = 0 }
signal_linked move signal = record signal { link = link_after move signal.link }

-- the signal when the next of these aspects is acted on
abbrev pub acted : List Aspect → Signal → Signal
acted [] signal = signal
acted (next ∷ later) signal = record signal { done = signal.done ++ next ∷ []; flight = later }

abbrev pub signal_after : SignalMove → Signal → Signal
signal_after (SignalLink move) signal = signal_linked move signal
signal_after GivesStop signal = aspect_given Stop signal
signal_after Acts signal = acted signal.flight signal
signal_after (Confirms count) signal = record signal { confirmed = count }
signal_after (Recounts done flight) signal = record signal { done = done; flight = flight }
