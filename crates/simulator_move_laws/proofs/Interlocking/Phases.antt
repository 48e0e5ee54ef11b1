-- How a client's link goes on in a call that doesn't open it: it comes into no connection, and once up it doesn't ask again.
use Rattle.std.proofs.Common.{◌≡◌, Bool, true, false, not, refl, sym, subst, ◌∙◌}
use Rattle.std.proofs.lemmas.Bool.{true≢false, false≢true}
use Rattle.ixl_spec.specs.rasta_core.State.{LinkState, is_open, is_up}
use Rattle.ixl_spec.specs.rasta_core.phase.Phase.{Phase}
use Rattle.ixl_spec.specs.rasta_core.phase.Phase.TheVariants as phase

is_start : Phase → Bool
is_start phase.Closed = false
is_start phase.Start = true
is_start phase.Up = false
is_start phase.RetransmissionRequested = false
is_start phase.RetransmissionRunning = false

-- a phase may follow another
pub becomes : Phase → Phase → Bool
becomes phase.Closed new = not (is_open new)
becomes phase.Start new = true
becomes phase.Up new = not (is_start new)
becomes phase.RetransmissionRequested new = not (is_start new)
becomes phase.RetransmissionRunning new = not (is_start new)

pub record Goes (old new : LinkState) : Type 0 where
  pub identity : new.identity ≡ old.identity
  pub may : becomes old.phase new.phase ≡ true
  pub shut : is_open old.phase ≡ false → new.closed_at ≡ old.closed_at

shut_is_no_start : (p : Phase) → not (is_open p) ≡ true → not (is_start p) ≡ true
unfolding is_start
shut_is_no_start phase.Closed is = refl
shut_is_no_start phase.Start is = absurd (false≢true is)
shut_is_no_start phase.Up is = refl
shut_is_no_start phase.RetransmissionRequested is = refl
shut_is_no_start phase.RetransmissionRunning is = refl

becomes_itself : (p : Phase) → becomes p p ≡ true
unfolding becomes is_start
becomes_itself phase.Closed = refl
becomes_itself phase.Start = refl
becomes_itself phase.Up = refl
becomes_itself phase.RetransmissionRequested = refl
becomes_itself phase.RetransmissionRunning = refl

becomes_closed : (p : Phase) → becomes p phase.Closed ≡ true
unfolding becomes is_start
becomes_closed phase.Closed = refl
becomes_closed phase.Start = refl
becomes_closed phase.Up = refl
becomes_closed phase.RetransmissionRequested = refl
becomes_closed phase.RetransmissionRunning = refl

up_is_no_start : (q : Phase) → is_up q ≡ true → not (is_start q) ≡ true
unfolding is_start
up_is_no_start phase.Closed up = refl
up_is_no_start phase.Start up = absurd (false≢true up)
up_is_no_start phase.Up up = refl
up_is_no_start phase.RetransmissionRequested up = refl
up_is_no_start phase.RetransmissionRunning up = refl

becomes_up : (p q : Phase) → is_open p ≡ true → is_up q ≡ true → becomes p q ≡ true
unfolding becomes is_start
becomes_up phase.Closed q inside up = absurd (false≢true inside)
becomes_up phase.Start q inside up = refl
becomes_up phase.Up q inside up = up_is_no_start q up
becomes_up phase.RetransmissionRequested q inside up = up_is_no_start q up
becomes_up phase.RetransmissionRunning q inside up = up_is_no_start q up

up_then : (b c : Phase) → not (is_start b) ≡ true → becomes b c ≡ true → not (is_start c) ≡ true
unfolding becomes is_start
up_then phase.Closed c one next = shut_is_no_start c next
up_then phase.Start c one next = absurd (false≢true one)
up_then phase.Up c one next = next
up_then phase.RetransmissionRequested c one next = next
up_then phase.RetransmissionRunning c one next = next

becomes_then : (a b c : Phase) → becomes a b ≡ true → becomes b c ≡ true → becomes a c ≡ true
unfolding becomes is_start
becomes_then phase.Closed phase.Closed c one next = next
becomes_then phase.Closed phase.Start c one next = absurd (false≢true one)
becomes_then phase.Closed phase.Up c one next = absurd (false≢true one)
becomes_then phase.Closed phase.RetransmissionRequested c one next = absurd (false≢true one)
becomes_then phase.Closed phase.RetransmissionRunning c one next = absurd (false≢true one)
becomes_then phase.Start b c one next = refl
becomes_then phase.Up b c one next = up_then b c one next
becomes_then phase.RetransmissionRequested b c one next = up_then b c one next
becomes_then phase.RetransmissionRunning b c one next = up_then b c one next

pub stays_open : (a b : Phase) → becomes a b ≡ true → is_open b ≡ true → is_open a ≡ true
unfolding becomes
stays_open phase.Closed b may inside = absurd (true≢false (sym inside ∙ shut b may)) where
  shut : (b : Phase) → not (is_open b) ≡ true → is_open b ≡ false
  shut phase.Closed is = refl
  shut phase.Start is = absurd (false≢true is)
  shut phase.Up is = absurd (false≢true is)
  shut phase.RetransmissionRequested is = absurd (false≢true is)
  shut phase.RetransmissionRunning is = absurd (false≢true is)
stays_open phase.Start b may inside = refl
stays_open phase.Up b may inside = refl
stays_open phase.RetransmissionRequested b may inside = refl
stays_open phase.RetransmissionRunning b may inside = refl

still_up : (b : Phase) → not (is_start b) ≡ true → is_open b ≡ true → is_up b ≡ true
unfolding is_start
still_up phase.Closed may inside = absurd (false≢true inside)
still_up phase.Start may inside = absurd (false≢true may)
still_up phase.Up may inside = refl
still_up phase.RetransmissionRequested may inside = refl
still_up phase.RetransmissionRunning may inside = refl

pub stays_up : (a b : Phase) → becomes a b ≡ true → is_up a ≡ true → is_open b ≡ true → is_up b ≡ true
unfolding becomes is_start
stays_up phase.Closed b may up inside = absurd (false≢true up)
stays_up phase.Start b may up inside = absurd (false≢true up)
stays_up phase.Up b may up inside = still_up b may inside
stays_up phase.RetransmissionRequested b may up inside = still_up b may inside
stays_up phase.RetransmissionRunning b may up inside = still_up b may inside

pub up_is_open : (p : Phase) → is_up p ≡ true → is_open p ≡ true
up_is_open phase.Closed up = absurd (false≢true up)
up_is_open phase.Start up = absurd (false≢true up)
up_is_open phase.Up up = refl
up_is_open phase.RetransmissionRequested up = refl
up_is_open phase.RetransmissionRunning up = refl

pub shut_is_down : (p : Phase) → is_open p ≡ false → is_up p ≡ false
shut_is_down phase.Closed shut = refl
shut_is_down phase.Start shut = absurd (true≢false shut)
shut_is_down phase.Up shut = absurd (true≢false shut)
shut_is_down phase.RetransmissionRequested shut = absurd (true≢false shut)
shut_is_down phase.RetransmissionRunning shut = absurd (true≢false shut)

pub shut_is_closed : (p : Phase) → is_open p ≡ false → p ≡ phase.Closed
shut_is_closed phase.Closed shut = refl
shut_is_closed phase.Start shut = absurd (true≢false shut)
shut_is_closed phase.Up shut = absurd (true≢false shut)
shut_is_closed phase.RetransmissionRequested shut = absurd (true≢false shut)
shut_is_closed phase.RetransmissionRunning shut = absurd (true≢false shut)

-- ---- links

pub goes_same : (old new : LinkState) → new.identity ≡ old.identity → new.phase ≡ old.phase → new.closed_at ≡ old.closed_at → Goes old new
goes_same old new identity same at = record {
  identity = identity;
  may = subst (λ p. becomes old.phase p ≡ true) (sym same) (becomes_itself old.phase);
  shut = λ is. at;
}

pub goes_itself : (link : LinkState) → Goes link link
goes_itself link = goes_same link link refl refl refl

pub goes_closed : (old new : LinkState) → new.identity ≡ old.identity → new.phase ≡ phase.Closed → is_open old.phase ≡ true → Goes old new
goes_closed old new identity closed inside = record {
  identity = identity;
  may = subst (λ p. becomes old.phase p ≡ true) (sym closed) (becomes_closed old.phase);
  shut = λ shut. absurd (true≢false (sym inside ∙ shut));
}

pub goes_up : (old new : LinkState) → new.identity ≡ old.identity → is_open old.phase ≡ true → is_up new.phase ≡ true → Goes old new
goes_up old new identity inside up = record {
  identity = identity;
  may = becomes_up old.phase new.phase inside up;
  shut = λ shut. absurd (true≢false (sym inside ∙ shut));
}

pub goes_then : (a b c : LinkState) → Goes a b → Goes b c → Goes a c
goes_then a b c one next = record {
  identity = next.identity ∙ one.identity;
  may = becomes_then a.phase b.phase c.phase one.may next.may;
  shut = λ shut. next.shut (still_shut shut) ∙ one.shut shut;
} where
  still_shut : is_open a.phase ≡ false → is_open b.phase ≡ false
  still_shut shut = cases (is_open b.phase) refl where
    cases : (test : Bool) → is_open b.phase ≡ test → is_open b.phase ≡ false
    cases true inside = absurd (true≢false (sym (stays_open a.phase b.phase one.may inside) ∙ shut))
    cases false is = is
