-- How each call begins: the clock rules and the limit of PDUs keep the order.
use Rattle.std.proofs.Common.{◌≡◌, ℕ, ◌+◌, ◌^◌, ◌<◌, ◌≤◌, Bool, true, false, List, [], ◌++◌, length, ◌⊎◌, inl, inr, refl, sym, ap, subst, ◌∙◌, arith}
use Rattle.std.specs.Prelude.{nat_lt, nat_le, ◌&&◌}
use Rattle.std.proofs.lemmas.Bool.{leb-false, lt-ltb}
use Rattle.rasta_core_spec.specs.Parameters.{connection_limit}
use Rattle.rasta_core_spec.specs.State.{LinkState, is_open}
use Rattle.rasta_core_spec.specs.Clock.{deadline, settled}
use Rattle.rasta_core_spec.specs.PdusHandedOut.{Step, silent, telling, limited, entered}
use Rattle.rasta_core_spec.specs.reason.Reason.{Reason}
use Rattle.rasta_core_spec.specs.reason.Reason.TheVariants as reason
use Rattle.rasta_core.specs.EndFlow.{EndFlow, sent}
use Rattle.rasta_core.specs.Order.{BeginsByResponse, OpensOn, InOrder}
use Rattle.rasta_core_spec.specs.pdu.Pdu.{Pdu}
use Rattle.std.proofs.lemmas.List.{length-append}
use Rattle.rasta_core.proofs.Places.{begins_after, opens_after}
use Rattle.rasta_core.specs.LinkAndFlow.{Keeps, IsNew, IsInside, HasJoined, IsStillAsking, Plays, joined, asking, left, GoesOn}
use Rattle.rasta_core.proofs.OrderTests.{by_test}
use Rattle.rasta_core.proofs.OrderSteps.{stays, told_on}

-- where an end is after the beginning of a call: outside, or inside as before
pub data Enters (now : ℕ) (link : LinkState) (own other : EndFlow) : Type 0 where
  outside : is_open (entered now link).link.phase ≡ false → GoesOn own other (entered now link).link (entered now link).pdus [] [] → Enters now link own other
  inside : entered now link ≡ silent (record link { clock = now }) → HasJoined (record link { clock = now }) own other ⊎ IsStillAsking (record link { clock = now }) own other
      → link.sent < connection_limit → nat_lt now (deadline (record link { clock = now })) ≡ true → Enters now link own other

pub both_left : (one other : Bool) → (one && other) ≡ true → one ≡ true
both_left true other e = refl
both_left false other e = cc (e)

pub not_right : (one other : Bool) → one ≡ true → (one && other) ≡ false → other ≡ false
not_right true other is e = e
not_right false other is e = cc (is)

alive_timed : (now : ℕ) (link : LinkState) → deadline (record link { clock = now }) ≡ deadline link
unfolding deadline
alive_timed now link = refl

pub told_closed : (why : Reason) (link : LinkState) → is_open (telling why link).link.phase ≡ false
unfolding telling
told_closed why link = refl

pub still_alive : (now : ℕ) (link : LinkState) → nat_le (deadline link) now ≡ false → nat_lt now (deadline (record link { clock = now })) ≡ true
still_alive now link e = lt-ltb now (deadline (record link { clock = now })) (subst (λ until. now < until) (sym (alive_timed now link)) (leb-false (deadline link) now e))

module _ (now : ℕ) (link : LinkState) (own other : EndFlow) (order : InOrder own other) where
  keeps_inside : IsInside link own → Keeps (record link { clock = now }) own
  keeps_inside is = record { given = is.keeps.given; taken = is.keeps.taken; waiting = is.keeps.waiting }

  pub inside_later : IsInside link own → IsInside (record link { clock = now }) own
  inside_later is = record {
    keeps = keeps_inside is;
    connected = is.connected;
    own_first = is.own_first;
    counted = is.counted;
    room = is.room;
    unsaid = is.unsaid;
    alone = is.alone;
    reading = is.reading;
  }

  one_later : HasJoined link own other ⊎ IsStillAsking link own other → HasJoined (record link { clock = now }) own other ⊎ IsStillAsking (record link { clock = now }) own other
  one_later (inl has) = inl (record { inside = inside_later has.inside; joined = has.joined; partner_first = has.partner_first; expected = has.expected; come = has.come })
  one_later (inr still) = inr (record { inside = inside_later still.inside; asking = still.asking; client = still.client; reached = still.reached; partner_first = still.partner_first })

  is_connected : HasJoined link own other ⊎ IsStillAsking link own other → is_open link.phase ≡ true
  is_connected (inl has) = has.inside.connected
  is_connected (inr still) = still.inside.connected

  its_keeps : HasJoined link own other ⊎ IsStillAsking link own other → Keeps link own
  its_keeps (inl has) = has.inside.keeps
  its_keeps (inr still) = still.inside.keeps

  pub left_later : Keeps link own ⊎ IsNew link → Keeps (record link { clock = now }) own ⊎ IsNew (record link { clock = now })
  left_later (inl keeps) = inl (record { given = keeps.given; taken = keeps.taken; waiting = keeps.waiting })
  left_later (inr new) = inr (record { given = new.given; taken = new.taken })

  -- the ways in which a call begins, by what its step is
  abbrev Outside : Step → Type 0
  Outside step = ((is_open step.link.phase) ≡ false) × GoesOn own other step.link step.pdus [] []

  abbrev Begins : Step → Type 0
  Begins step = Outside step
      ⊎ ((step ≡ silent (record link { clock = now })) × (link.sent < connection_limit) × (nat_lt now (deadline (record link { clock = now })) ≡ true))

  begun_left : is_open link.phase ≡ false → Keeps link own ⊎ IsNew link → Outside (entered now link)
  unfolding entered settled limited
  begun_left shut keeps =
      by_test (λ (begun : LinkState). Outside (limited begun)) (is_open link.phase && nat_le (deadline link) now) _ (record link { clock = now })
      (λ e. absurd (cc (both_left (is_open link.phase) (nat_le (deadline link) now) e, shut)))
      (λ running. by_test Outside (is_open link.phase && nat_le connection_limit link.sent) (telling reason.Sequence (record link { clock = now })) (silent (record link { clock = now }))
      (λ e. absurd (cc (both_left (is_open link.phase) (nat_le connection_limit link.sent) e, shut)))
      (λ e. (shut, stays own other (record link { clock = now }) order (Plays.left shut (left_later keeps)))))

  begun_inside : HasJoined link own other ⊎ IsStillAsking link own other → Begins (entered now link)
  unfolding entered settled limited
  begun_inside one =
      by_test (λ (begun : LinkState). Begins (limited begun)) (is_open link.phase && nat_le (deadline link) now) _ (record link { clock = now })
      (λ e. inl (refl, stays own other _ order (Plays.left refl (inl (record { given = (its_keeps one).given; taken = (its_keeps one).taken; waiting = (its_keeps one).waiting })))))
      (λ running. by_test Begins (is_open link.phase && nat_le connection_limit link.sent) (telling reason.Sequence (record link { clock = now })) (silent (record link { clock = now }))
      (λ e. inl (told_closed reason.Sequence (record link { clock = now }), told_on reason.Sequence (record link { clock = now }) own other order (one_later one)))
      (λ e. inr (
        refl,
        leb-false connection_limit link.sent (not_right (is_open link.phase) (nat_le connection_limit link.sent) (is_connected one) e),
        still_alive now link (not_right (is_open link.phase) (nat_le (deadline link) now) (is_connected one) running),
      )))

  settled_inside : HasJoined link own other ⊎ IsStillAsking link own other → Plays (settled now link) own other
  unfolding settled
  settled_inside one =
      by_test (λ (after : LinkState). Plays after own other) (is_open link.phase && nat_le (deadline link) now) _ (record link { clock = now })
      (λ e. Plays.left refl (inl (record { given = (its_keeps one).given; taken = (its_keeps one).taken; waiting = (its_keeps one).waiting })))
      (λ e. later_plays (one_later one))
    where
      later_plays : HasJoined (record link { clock = now }) own other ⊎ IsStillAsking (record link { clock = now }) own other → Plays (record link { clock = now }) own other
      later_plays (inl has) = Plays.joined has
      later_plays (inr still) = Plays.asking still

  settled_left : is_open link.phase ≡ false → Keeps link own ⊎ IsNew link → Plays (settled now link) own other
  unfolding settled
  settled_left shut keeps =
      by_test (λ (after : LinkState). Plays after own other) (is_open link.phase && nat_le (deadline link) now) _ (record link { clock = now })
      (λ e. absurd (cc (both_left (is_open link.phase) (nat_le (deadline link) now) e, shut)))
      (λ e. Plays.left shut (left_later keeps))

  -- time goes on
  pub settled_plays : Plays link own other → Plays (settled now link) own other
  settled_plays (joined has) = settled_inside (inl has)
  settled_plays (asking still) = settled_inside (inr still)
  settled_plays (left shut keeps) = settled_left shut keeps

  enters_inside : HasJoined link own other ⊎ IsStillAsking link own other → Begins (entered now link) → Enters now link own other
  enters_inside one (inl out) = outside out.0 out.1
  enters_inside one (inr is) = inside is.0 (one_later one) is.1 is.2

  pub enters : Plays link own other → Enters now link own other
  enters (joined has) = enters_inside (inl has) (begun_inside (inl has))
  enters (asking still) = enters_inside (inr still) (begun_inside (inr still))
  enters (left shut keeps) = let out = begun_left shut keeps in outside out.0 out.1

-- what the partner does leaves a link as it is
pub partner_plays : (link : LinkState) (own other later : EndFlow) (more : List Pdu) → Plays link own other → later.first ≡ other.first → later.flow ≡ other.flow ++ more → Plays link own later
partner_plays link own other later more (joined has) is flow = joined (record {
  inside = has.inside;
  joined = has.joined;
  partner_first = has.partner_first ∙ sym is;
  expected = has.expected;
  come = record { starting = has.come.starting; heard = λ up. heard_on (has.come.heard up) };
})
  where
    longer : sent later ≡ sent other + length more
    longer = ap length flow ∙ length-append other.flow more

    heard_on : BeginsByResponse other.flow ⊎ ((2 ≤ sent other) × OpensOn other.flow) → BeginsByResponse later.flow ⊎ ((2 ≤ sent later) × OpensOn later.flow)
    heard_on (inl begins) = inl (subst BeginsByResponse (sym flow) (begins_after other.flow more begins))
    heard_on (inr (two, opens)) = inr (omega (arith, two, longer), subst OpensOn (sym flow) (opens_after other.flow more (omega (arith, two)) opens))
partner_plays link own other later more (asking still) is flow =
    asking (record { inside = still.inside; asking = still.asking; client = still.client; reached = still.reached; partner_first = subst (λ first. first < 2 ^ 32) (sym is) still.partner_first })
partner_plays link own other later more (left shut keeps) is flow = left shut keeps
