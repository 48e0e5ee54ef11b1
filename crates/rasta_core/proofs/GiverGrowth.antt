-- What stays true of one direction of a connection while its giver sends more.
use Rattle.std.proofs.Common.{◌≡◌, ℕ, ◌+◌, ◌-◌, ◌<◌, ◌≤◌, List, [], ◌++◌, length, take, ◌⊎◌, inl, inr, sym, ap, subst, ◌∙◌, arith}
use Rattle.std.proofs.lemmas.List.{length-append}
use Rattle.rasta_core_spec.specs.Sequence.{wire}
use Rattle.rasta_core_spec.specs.pdu.Pdu.{Pdu}
use Rattle.rasta_core_spec.specs.body.Body.{Body}
use Rattle.rasta_core_spec.specs.body.Body.TheVariants.{ConnectionRequest, ConnectionResponse, RetransmissionRequest, RetransmissionResponse, DisconnectionRequest, Heartbeat, Data, RetransmittedData}
use Rattle.rasta_core.specs.EndFlow.{IsAt, EndFlow, sent}
use Rattle.rasta_core.specs.Order.{IsLevel, Brings, Opens, Carries, BeginsByResponse, OpensOn, IsUnanswered, IsSent, Waits, Counts, IsAnswer, IsAsking, Way}
use Rattle.rasta_core.proofs.Places.{split, within, IsAfter, begins_before, opens_after}

-- A part with more sent: what it was stays as it was.
pub record Extends (old new : EndFlow) (more : List Pdu) : Type 0 where
  pub first : new.first ≡ old.first
  pub flow : new.flow ≡ old.flow ++ more
  pub passed : (number : ℕ) → number ≤ sent old → new.passed number ≡ old.passed number
  pub expecting : (number : ℕ) → number < sent old → new.expecting number ≡ old.expecting number
  pub given : (number : ℕ) → number ≤ length old.given → take number new.given ≡ take number old.given
  pub reached : old.reached ≤ new.reached

module _ (old new : EndFlow) (more : List Pdu) (extends : Extends old new more) (reached : ℕ) (counts : Counts old reached) where
  pub sent_more : sent new ≡ sent old + length more
  sent_more = ap length extends.flow ∙ length-append old.flow more

  brings_kept : (place : ℕ) (items : List (List ℕ)) → place < sent old → Brings old place items → Brings new place items
  brings_kept place items lt brings =
      let here = extends.passed place (omega arith)
      in let next = extends.passed (place + 1) (omega arith)
      in let take_here = extends.given (old.passed place) (counts.passed place (omega arith))
      in let take_next = extends.given (old.passed (place + 1)) (counts.passed (place + 1) (omega arith))
      in (cc (here, next, brings.0), cc (here, next, take_here, take_next, brings.1))

  opens_kept : (place : ℕ) → place < sent old → Opens old place → Opens new place
  opens_kept place lt opens = (opens.0, extends.passed 1 (omega (arith, opens.0)) ∙ opens.1)

  carries_kept : (place : ℕ) (body : Body) → place < sent old → Carries old place body → Carries new place body
  carries_kept place (ConnectionRequest opening) lt carries = (opens_kept place lt carries.0, carries.1)
  carries_kept place (ConnectionResponse opening) lt carries = (opens_kept place lt carries.0, carries.1)
  carries_kept place RetransmissionRequest lt carries = brings_kept place [] lt carries
  carries_kept place RetransmissionResponse lt carries = tt
  carries_kept place (DisconnectionRequest detail reason) lt carries = brings_kept place [] lt carries
  carries_kept place Heartbeat lt carries = brings_kept place [] lt carries
  carries_kept place (Data items) lt carries = brings_kept place items lt carries
  carries_kept place (RetransmittedData items) lt carries = brings_kept place items lt carries

  -- a place of the longer flow is an old one or one of what follows
  pub place_of : (place : ℕ) (pdu : Pdu) → IsAt place pdu new.flow → IsAt place pdu old.flow ⊎ IsAfter place pdu old.flow more
  place_of place pdu at = split place pdu old.flow more (subst (IsAt place pdu) extends.flow at)

  pub is_sent_kept : (taker_first place : ℕ) (pdu : Pdu) → place < sent old → IsSent old taker_first place pdu → IsSent new taker_first place pdu
  is_sent_kept taker_first place pdu lt is = record {
    number = is.number ∙ ap (λ first. wire first place) (sym extends.first);
    some_expected = omega (arith, is.some_expected, extends.expecting place lt);
    expected = omega (arith, is.expected, extends.expecting place lt, extends.reached);
    confirms = confirms_kept is.confirms;
    follows = λ two. subst OpensOn (sym extends.flow) (opens_after old.flow more (omega (arith, two, lt)) (is.follows two));
    carries = carries_kept place pdu.body lt is.carries;
  }
    where
      confirms_kept : (pdu.confirmed_sequence_number ≡ wire taker_first (old.expecting place - 1)) ⊎ IsUnanswered old.flow place pdu.body
          → (pdu.confirmed_sequence_number ≡ wire taker_first (new.expecting place - 1)) ⊎ IsUnanswered new.flow place pdu.body
      confirms_kept (inl same) = inl (same ∙ ap (λ expected. wire taker_first (expected - 1)) (sym (extends.expecting place lt)))
      confirms_kept (inr (inl request)) = inr (inl request)
      confirms_kept (inr (inr (second, closes, no_server))) =
          inr (inr (second, closes, λ begins. no_server (begins_before old.flow more (omega (arith, lt)) (subst BeginsByResponse extends.flow begins))))

-- nothing among these is a PDU of this type
abbrev pub HasNo : Body → List Pdu → Type 0
HasNo body more = (place : ℕ) (pdu : Pdu) → IsAt place pdu more → pdu.body ≡ body → ⊥

abbrev pub AreSent : EndFlow → EndFlow → ℕ → List Pdu → Type 0
AreSent giver taker start more = (next : ℕ) (pdu : Pdu) → IsAt next pdu more → IsSent giver taker.first (start + next) pdu

-- the giver has sent more, but for a retransmission response
module _ (old new taker : EndFlow) (more : List Pdu) (way : Way old taker) (extends : Extends old new more) (counts : Counts new taker.reached)
    (waits : Waits new) (are_sent : AreSent new taker (sent old) more) (no_answer : HasNo RetransmissionResponse more)
    (kept : (number : ℕ) → taker.reached ≤ number → number ≤ sent old → IsLevel old number → IsLevel new number)
    (added : (number : ℕ) → sent old < number → number ≤ sent new → IsLevel new number) where
  place_in : (place : ℕ) (pdu : Pdu) → IsAt place pdu new.flow → IsAt place pdu old.flow ⊎ IsAfter place pdu old.flow more
  place_in = place_of old new more extends taker.reached way.counts

  each_after : (place : ℕ) (pdu : Pdu) → IsAt place pdu old.flow ⊎ IsAfter place pdu old.flow more → IsSent new taker.first place pdu
  each_after place pdu (inl at) =
      is_sent_kept old new more extends taker.reached way.counts taker.first place pdu (within place pdu old.flow at) (way.each place pdu at)
  each_after place pdu (inr (next, is, at)) = subst (λ here. IsSent new taker.first here pdu) (sym is) (are_sent next pdu at)

  level_after : (number : ℕ) → taker.reached ≤ number → (number ≤ sent old → IsLevel old number) → number ≤ sent new → IsLevel new number
  level_after number from level most = elim (le_or_lt number (sent old)) [ inl few ↦ kept number from few (level few) | inr many ↦ added number many most ]
    where
      le_or_lt : (a b : ℕ) → (a ≤ b) ⊎ (b < a)
      le_or_lt a b = grind arith

  only_after : (place : ℕ)
      → ((number : ℕ) (pdu : Pdu) → IsAt number pdu old.flow → pdu.body ≡ RetransmissionResponse → taker.reached ≤ number → number ≡ place)
      → (number : ℕ) (pdu : Pdu) → IsAt number pdu old.flow ⊎ IsAfter number pdu old.flow more → pdu.body ≡ RetransmissionResponse → taker.reached ≤ number → number ≡ place
  only_after place only number pdu (inl at) body from = only number pdu at body from
  only_after place only number pdu (inr (next, is, at)) body from = absurd (no_answer next pdu at body)

  answer_after : (place : ℕ) (pdu : Pdu) → IsAt place pdu old.flow ⊎ IsAfter place pdu old.flow more → pdu.body ≡ RetransmissionResponse → taker.reached ≤ place
      → IsAnswer new taker.reached taker.reading place
  answer_after place pdu (inl at) body from =
      let was = way.answers place pdu at body from
      in let lt = within place pdu old.flow at
      in record {
        waited_for = was.waited_for;
        from = extends.passed (place + 1) (omega arith) ∙ was.from ∙ sym (extends.passed taker.reached way.counts.most);
        level = λ number after most. level_after number (omega arith) (λ few. was.level number after few) most;
        only = λ number other there. only_after place was.only number other (place_in number other there);
      }
  answer_after place pdu (inr (next, is, at)) body from = absurd (no_answer next pdu at body)

  unanswered_after : (number : ℕ) (pdu : Pdu) → ((other : ℕ) (pdu : Pdu) → IsAt other pdu old.flow → pdu.body ≡ RetransmissionResponse → other < taker.reached)
      → IsAt number pdu old.flow ⊎ IsAfter number pdu old.flow more → pdu.body ≡ RetransmissionResponse → number < taker.reached
  unanswered_after number pdu unanswered (inl at) body = unanswered number pdu at body
  unanswered_after number pdu unanswered (inr (next, is, at)) body = absurd (no_answer next pdu at body)

  asking_after : (place : ℕ) → IsAsking old taker place → IsAsking new taker place
  asking_after place was = record {
    waiting = was.waiting;
    still = was.still;
    unanswered = λ number pdu at. unanswered_after number pdu was.unanswered (place_in number pdu at);
    only = λ number pdu at body from. was.only number pdu at body (omega (arith, extends.reached));
  }

  pub grown : Way new taker
  grown = record {
    counts = counts;
    each = λ place pdu at. each_after place pdu (place_in place pdu at);
    waits = waits;
    taken =
        way.taken
        ∙ sym (extends.given (old.passed taker.reached) (way.counts.passed taker.reached way.counts.most))
        ∙ ap (λ number. take number new.given) (sym (extends.passed taker.reached way.counts.most));
    level = kept taker.reached (omega arith) way.counts.most way.level;
    ahead = λ reading number from most. level_after number from (λ few. way.ahead reading number from few) most;
    answers = λ place pdu at. answer_after place pdu (place_in place pdu at);
    askings = λ place pdu at body from. asking_after place (way.askings place pdu at body (omega (arith, extends.reached)));
  }
