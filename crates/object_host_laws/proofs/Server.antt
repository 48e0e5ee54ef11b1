-- What the calls of a host do at its end of the link.
use Rattle.std.proofs.Common.{◌≡◌, ℕ, Bool, true, false, nat_lt, if◌then◌else◌, List, [], ◌∷◌, ◌++◌, length, append_assoc, refl, ap, sym, ◌∙◌, subst}
use Rattle.std.specs.Prelude.{None, Ok, Err, is_ok}
use Rattle.std.proofs.lemmas.Bool.{true≢false}
use Rattle.std.proofs.lemmas.List.{append-nil}
use Rattle.std.proofs.lemmas.Option.{none-some}
use Rattle.rasta_core.specs.Parameters.{window_size}
use Rattle.rasta_core.specs.State.{LinkState, is_open, is_up}
use Rattle.rasta_core.specs.Calls.{acceptance, answer_to_send, receiving}
use Rattle.rasta_core.specs.PdusHandedOut.{Step}
use Rattle.rasta_core.specs.fault.SendFault.TheVariants as fault
use Rattle.rasta_core.specs.phase.Phase.{Phase}
use Rattle.rasta_core.specs.phase.Phase.TheVariants as phase
use Rattle.rasta_core.specs.identity.Role.TheVariants as role
use Rattle.rasta_core.specs.Ends as calls
use Rattle.rasta_core.specs.Ends.{end_after, entered_by, is_taken, kept, outcome, reading_of}
use Rattle.rasta_core.specs.Run.{Ends, called}
use Rattle.object_host.specs.Host.{LinkCall, Ticks, Closes, Sends, Receives}
use Rattle.object_host.specs.Made.{AreCallsFor, AreOwn, IsOwn, call_made, calls_made, items_given, items_given_by, items_taken}
use Rattle.object_host.specs.declared.input.Input.{Input}
use Rattle.object_host.specs.declared.input.Input.TheVariants as inputs
use Rattle.object_host_laws.specs.World.{as_call, called_all, entering}
use Rattle.object_host_laws.proofs.OutsideEnds.{entered_is, receiving_outside}

-- what the host's clock reads
abbrev pub now_of : Ends → ℕ
now_of ends = reading_of ends.server.clock

pub links_after : (connection : ℕ) (made : List LinkCall) (ends : Ends) →
    (called_all connection made ends).server.link ≡ (calls_made (now_of ends) made ends.server.link).link
unfolding called_all calls_made called outcome end_after
links_after connection [] ends = refl
links_after connection (Ticks ∷ others) ends = links_after connection others (called role.Server (as_call connection Ticks) ends)
links_after connection (Closes why ∷ others) ends = links_after connection others (called role.Server (as_call connection (Closes why)) ends)
links_after connection (Sends item ∷ others) ends = links_after connection others (called role.Server (as_call connection (Sends item)) ends)
links_after connection (Receives bytes ∷ others) ends = links_after connection others (called role.Server (as_call connection (Receives bytes)) ends)

pub clock_after : (connection : ℕ) (made : List LinkCall) (ends : Ends) → (called_all connection made ends).server.clock ≡ ends.server.clock
unfolding called_all called end_after
clock_after connection [] ends = refl
clock_after connection (call ∷ others) ends = clock_after connection others (called role.Server (as_call connection call) ends)

own_taken : (connection : ℕ) (made : List LinkCall) (ends : Ends) → AreOwn made → (called_all connection made ends).server.taken ≡ ends.server.taken
unfolding called_all called outcome end_after
own_taken connection [] ends own = refl
own_taken connection (Ticks ∷ others) ends own =
    own_taken connection others (called role.Server (as_call connection Ticks) ends) own.1 ∙ append-nil ends.server.taken
own_taken connection (Closes why ∷ others) ends own =
    own_taken connection others (called role.Server (as_call connection (Closes why)) ends) own.1 ∙ append-nil ends.server.taken
own_taken connection (Sends item ∷ others) ends own =
    own_taken connection others (called role.Server (as_call connection (Sends item)) ends) own.1 ∙ append-nil ends.server.taken
own_taken connection (Receives bytes ∷ others) ends own = absurd own.0

own_takes_nothing : (now : ℕ) (made : List LinkCall) (link : LinkState) → AreOwn made → items_taken now made link ≡ []
unfolding items_taken
own_takes_nothing now [] link own = refl
own_takes_nothing now (Ticks ∷ others) link own = own_takes_nothing now others _ own.1
own_takes_nothing now (Closes why ∷ others) link own = own_takes_nothing now others _ own.1
own_takes_nothing now (Sends item ∷ others) link own = own_takes_nothing now others _ own.1
own_takes_nothing now (Receives bytes ∷ others) link own = absurd own.0

received_taken : (connection : ℕ) (bytes : List ℕ) (others : List LinkCall) (ends : Ends) → AreOwn others →
    (called_all connection (Receives bytes ∷ others) ends).server.taken
    ≡ kept (outcome (calls.Receives bytes connection) ends.moment ends.server).enters ends.server.taken ++ items_taken (now_of ends) (Receives bytes ∷ others) ends.server.link
unfolding called_all called outcome end_after items_taken
received_taken connection bytes others ends own =
    let items = (receiving (now_of ends) bytes ends.server.link).items
    in let old = kept (entered_by ends.server.link (receiving (now_of ends) bytes ends.server.link).verdict connection) ends.server.taken
    in own_taken connection others (called role.Server (as_call connection (Receives bytes)) ends) own
    ∙ ap (λ rest. old ++ rest) (sym (ap (λ rest. items ++ rest) (own_takes_nothing (now_of ends) others _ own) ∙ append-nil items))

-- the items that the end has taken after a step
pub taken_after : (connection : ℕ) (input : Input) (made : List LinkCall) (ends : Ends) → AreCallsFor input made →
    (called_all connection made ends).server.taken ≡ kept (entering input connection ends) ends.server.taken ++ items_taken (now_of ends) made ends.server.link
taken_after connection inputs.Tick made ends own =
    own_taken connection made ends own ∙ sym (ap (λ rest. ends.server.taken ++ rest) (own_takes_nothing (now_of ends) made _ own) ∙ append-nil ends.server.taken)
taken_after connection (inputs.Datagram bytes) made ends first =
    subst (λ cs. (called_all connection cs ends).server.taken
    ≡ kept (entering (inputs.Datagram bytes) connection ends) ends.server.taken ++ items_taken (now_of ends) cs ends.server.link) (sym first.1)
    (received_taken connection bytes.now first.0 ends first.2)
taken_after connection (inputs.Sense sense) made ends own =
    own_taken connection made ends own ∙ sym (ap (λ rest. ends.server.taken ++ rest) (own_takes_nothing (now_of ends) made _ own) ∙ append-nil ends.server.taken)

-- the items that the end has given after own calls, and after a step
own_given : (connection : ℕ) (made : List LinkCall) (ends : Ends) → AreOwn made →
    (called_all connection made ends).server.given ≡ ends.server.given ++ items_given (now_of ends) made ends.server.link
unfolding called_all called outcome end_after items_given
own_given connection [] ends own = sym (append-nil ends.server.given)
own_given connection (Ticks ∷ others) ends own =
    own_given connection others (called role.Server (as_call connection Ticks) ends) own.1
    ∙ append_assoc ends.server.given (items_given_by (now_of ends) Ticks ends.server.link) _
own_given connection (Closes why ∷ others) ends own =
    own_given connection others (called role.Server (as_call connection (Closes why)) ends) own.1
    ∙ append_assoc ends.server.given (items_given_by (now_of ends) (Closes why) ends.server.link) _
own_given connection (Sends item ∷ others) ends own =
    own_given connection others (called role.Server (as_call connection (Sends item)) ends) own.1
    ∙ append_assoc ends.server.given (items_given_by (now_of ends) (Sends item) ends.server.link) _
own_given connection (Receives bytes ∷ others) ends own = absurd own.0

received_given : (connection : ℕ) (bytes : List ℕ) (others : List LinkCall) (ends : Ends) → AreOwn others →
    (called_all connection (Receives bytes ∷ others) ends).server.given
    ≡ kept (outcome (calls.Receives bytes connection) ends.moment ends.server).enters ends.server.given ++ items_given (now_of ends) (Receives bytes ∷ others) ends.server.link
unfolding called_all called outcome end_after items_given
received_given connection bytes others ends own =
    let old = kept (entered_by ends.server.link (receiving (now_of ends) bytes ends.server.link).verdict connection) ends.server.given
    in own_given connection others (called role.Server (as_call connection (Receives bytes)) ends) own
    ∙ ap (λ given. given ++ items_given (now_of ends) others (receiving (now_of ends) bytes ends.server.link).link) (append-nil old)

pub given_after : (connection : ℕ) (input : Input) (made : List LinkCall) (ends : Ends) → AreCallsFor input made →
    (called_all connection made ends).server.given ≡ kept (entering input connection ends) ends.server.given ++ items_given (now_of ends) made ends.server.link
given_after connection inputs.Tick made ends own = own_given connection made ends own
given_after connection (inputs.Datagram bytes) made ends first =
    subst (λ cs. (called_all connection cs ends).server.given
    ≡ kept (entering (inputs.Datagram bytes) connection ends) ends.server.given ++ items_given (now_of ends) cs ends.server.link) (sym first.1)
    (received_given connection bytes.now first.0 ends first.2)
given_after connection (inputs.Sense sense) made ends own = own_given connection made ends own

-- an end that stays outside in a step: it takes and gives nothing
pub record StaysOut (made : List LinkCall) (ends : Ends) : Type 0 where
  pub no_items : items_taken (now_of ends) made ends.server.link ≡ []
  pub none_given : items_given (now_of ends) made ends.server.link ≡ []
  pub out : is_open (calls_made (now_of ends) made ends.server.link).link.phase ≡ false

abbrev pub OpensNothing : Type 0
OpensNothing = (now : ℕ) (made : List LinkCall) (link : LinkState) → AreOwn made → is_open link.phase ≡ false → is_open (calls_made now made link).link.phase ≡ false

not_up : (link : LinkState) → is_open link.phase ≡ false → is_up link.phase ≡ false
not_up link closed = by link.phase closed where
  by : (p : Phase) → is_open p ≡ false → is_up p ≡ false
  by phase.Closed closed = refl
  by phase.Start closed = refl
  by phase.Up closed = absurd (true≢false closed)
  by phase.RetransmissionRequested closed = absurd (true≢false closed)
  by phase.RetransmissionRunning closed = absurd (true≢false closed)

-- out of a connection no item is accepted
refused_outside : (now : ℕ) (link : LinkState) → is_open link.phase ≡ false → is_ok (answer_to_send now link) ≡ false
unfolding answer_to_send acceptance
refused_outside now link closed =
    ap (λ (s : Step). is_ok (acceptance s.link)) (entered_is now link closed)
    ∙ ap (λ up. is_ok (if up then (if nat_lt (length link.waiting) window_size then Ok tt else Err fault.WindowFull) else Err fault.NotUp)) (not_up link closed)

stays_closed : OpensNothing → (now : ℕ) (call : LinkCall) (link : LinkState) → IsOwn call → is_open link.phase ≡ false → is_open (call_made now call link).link.phase ≡ false
unfolding calls_made
stays_closed opens now call link own closed = opens now (call ∷ []) link (own, tt) closed

own_gives_nothing : OpensNothing → (now : ℕ) (made : List LinkCall) (link : LinkState) → AreOwn made → is_open link.phase ≡ false → items_given now made link ≡ []
unfolding items_given
own_gives_nothing opens now [] link own closed = refl
own_gives_nothing opens now (Ticks ∷ others) link own closed =
    own_gives_nothing opens now others _ own.1 (stays_closed opens now Ticks link tt closed)
own_gives_nothing opens now (Closes why ∷ others) link own closed =
    own_gives_nothing opens now others _ own.1 (stays_closed opens now (Closes why) link tt closed)
own_gives_nothing opens now (Sends item ∷ others) link own closed =
    ap (λ ok. (if ok then item ∷ [] else []) ++ items_given now others (call_made now (Sends item) link).link) (refused_outside now link closed)
    ∙ own_gives_nothing opens now others _ own.1 (stays_closed opens now (Sends item) link tt closed)
own_gives_nothing opens now (Receives bytes ∷ others) link own closed = absurd own.0

received_out : OpensNothing → (connection : ℕ) (bytes : List ℕ) (others : List LinkCall) (ends : Ends) → AreOwn others →
    (outcome (calls.Receives bytes connection) ends.moment ends.server).enters ≡ None → is_open ends.server.link.phase ≡ false → StaysOut (Receives bytes ∷ others) ends
unfolding outcome items_taken items_given calls_made
received_out opens connection bytes others ends own stays closed =
    let receipt = receiving (now_of ends) bytes ends.server.link
    in let heard = receiving_outside (now_of ends) bytes ends.server.link closed
    in let out : is_open receipt.link.phase ≡ false = cases receipt.link receipt.verdict stays heard.taken (is_open receipt.link.phase) refl
    in record {
      no_items = ap (λ items. items ++ items_taken (now_of ends) others receipt.link) heard.no_items ∙ own_takes_nothing (now_of ends) others receipt.link own;
      none_given = own_gives_nothing opens (now_of ends) others receipt.link own out;
      out = opens (now_of ends) others receipt.link own out;
    }
  where
    cases : (link : LinkState) (v : _) → entered_by ends.server.link v connection ≡ None → (is_open link.phase ≡ true → is_taken v ≡ true) →
        (b : Bool) → is_open link.phase ≡ b → is_open link.phase ≡ false
    cases link v none taken true is = absurd (none-some connection (sym none ∙ rw (closed, taken is) refl))
    cases link v none taken false is = is

pub stays_out : OpensNothing → (connection : ℕ) (input : Input) (made : List LinkCall) (ends : Ends) → AreCallsFor input made →
    entering input connection ends ≡ None → is_open ends.server.link.phase ≡ false → StaysOut made ends
stays_out opens connection inputs.Tick made ends own stays closed =
    record {
      no_items = own_takes_nothing (now_of ends) made _ own;
      none_given = own_gives_nothing opens (now_of ends) made _ own closed;
      out = opens (now_of ends) made _ own closed;
    }
stays_out opens connection (inputs.Datagram bytes) made ends first stays closed =
    subst (λ cs. StaysOut cs ends) (sym first.1) (received_out opens connection bytes.now first.0 ends first.2 stays closed)
stays_out opens connection (inputs.Sense sense) made ends own stays closed =
    record {
      no_items = own_takes_nothing (now_of ends) made _ own;
      none_given = own_gives_nothing opens (now_of ends) made _ own closed;
      out = opens (now_of ends) made _ own closed;
    }
