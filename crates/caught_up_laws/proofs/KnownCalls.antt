-- A call keeps what an end knows of its partner.
use Rattle.std.proofs.Common.{◌≡◌, ℕ, suc, ◌+◌, ◌-◌, ◌<◌, ◌≤◌, ◌⊎◌, Bool, true, false, if◌then◌else◌, List, [], ◌∷◌, ◌++◌, length, Option, Some, None, inl, inr, Result, Ok, Err, refl, sym, ap, subst, ◌∙◌, arith}
use Rattle.std.proofs.lemmas.List.{length-append}
use Rattle.std.proofs.lemmas.Option.{same_Some}
use Rattle.rasta_core_spec.specs.Calls.{opens}
use Rattle.rasta_core_spec.specs.Ends.{Call, Closes, EndState, Opens, Outcome, Receives, Sends, Sent, Ticks, end_after, kept, newer, outcome, reading_of}
use Rattle.rasta_core_spec.specs.Events.{Calls, IsDelivered, MayCall}
use Rattle.rasta_core_spec.specs.Names.{AreNames, Names, identity_of, partner_of}
use Rattle.rasta_core_spec.specs.Parameters.{stops_at_greatest, time_limit}
use Rattle.rasta_core_spec.specs.PduRead.{reading}
use Rattle.rasta_core_spec.specs.Receipt.{age}
use Rattle.rasta_core_spec.specs.Run.{Ends, called, end_of}
use Rattle.rasta_core_spec.specs.Sentences.{IsOpening}
use Rattle.rasta_core_spec.specs.Sequence.{distance, stamp}
use Rattle.rasta_core_spec.specs.State.{LinkState, is_open}
use Rattle.rasta_core_spec.specs.identity.Identity.{Identity}
use Rattle.rasta_core_spec.specs.identity.Role.{Role}
use Rattle.rasta_core_spec.specs.identity.Role.TheVariants as role
use Rattle.rasta_core_spec.specs.key.Key.{Key}
use Rattle.rasta_core_spec.specs.pdu.Pdu.{Pdu}
use Rattle.rasta_core_spec.specs.pdu_fault.PduFault.{PduFault}
use Rattle.rasta_core_spec.specs.pdu_fault.PduFault.TheVariants as fault
use Rattle.rasta_core.specs.Carried.{carried}
use Rattle.rasta_core.specs.EndFlow.{IsAt, IsOf}
use Rattle.rasta_core.specs.Invariant.{Timely}
use Rattle.caught_up_laws.specs.Chain.{repeats}
use Rattle.caught_up_laws.specs.Change.{Change, TakesInTurn, joins, recovers, rests, shuts, turns}
use Rattle.caught_up_laws.specs.Exact.{pdus_of}
use Rattle.caught_up_laws.specs.Knowledge.{clock_of}
use Rattle.caught_up_laws.specs.Observer.{caught_up, is_recovering}
use Rattle.caught_up_laws.specs.inside.Laws.{Laws}
use Rattle.caught_up_laws.proofs.Changes.{IsSettled, changes_closing, changes_opening, changes_received, changes_sending, changes_ticking, clock_is}
use Rattle.caught_up_laws.proofs.Comes.{Comes, begun, comes, in_newest, of_last}
use Rattle.caught_up_laws.proofs.Knows.{Knowing, Stayed, keeps_so, none_elapses, open_alive, sees_exactly, steady_known, until_same}
use Rattle.caught_up_laws.proofs.Level.{at_back, at_front, carried-append, same_at}
use Rattle.caught_up_laws.proofs.Receptions.{opens_by, took}
use Rattle.caught_up_laws.proofs.Sent.{event_grows}
use Rattle.caught_up_laws.proofs.Since.{Since, WasSentBy, event_since}
use Rattle.caught_up_laws.proofs.Times.{told_by_then}
use Rattle.caught_up_laws.proofs.Whole.{IsWhole, WasTold, given_carried, its_place, level_at, part_of, plain_repeats, was_told, whole_kept}

-- ---- an end after a call

pub called_end : (who : Role) (call : Call) (ends : Ends) → end_of who (called who call ends) ≡ end_after (outcome call ends.moment (end_of who ends)) ends.moment (end_of who ends)
unfolding called
called_end role.Client call ends = refl
called_end role.Server call ends = refl

pub called_time : (who : Role) (call : Call) (ends : Ends) → (called who call ends).time ≡ ends.time
unfolding called
called_time role.Client call ends = refl
called_time role.Server call ends = refl

after_link : (made : Outcome) (moment : ℕ) (end : EndState) → (end_after made moment end).link ≡ made.link
unfolding end_after
after_link made moment end = refl

after_clock : (made : Outcome) (moment : ℕ) (end : EndState) → (end_after made moment end).clock ≡ end.clock
unfolding end_after
after_clock made moment end = refl

after_connection : (made : Outcome) (moment : ℕ) (end : EndState) → (end_after made moment end).connection ≡ newer made.enters end.connection
unfolding end_after
after_connection made moment end = refl

after_taken : (made : Outcome) (moment : ℕ) (end : EndState) → (end_after made moment end).taken ≡ kept made.enters end.taken ++ made.taken
unfolding end_after
after_taken made moment end = refl

identity_is : (names : Names) (who : Role) (ends : Ends) → Timely names ends → (end_of who ends).link.identity ≡ identity_of who names
identity_is names role.Client ends timely = timely.client.identity
identity_is names role.Server ends timely = timely.server.identity

counted : (names : Names) (who : Role) (ends : Ends) (connection : ℕ) → Timely names ends → (end_of who ends).connection ≡ Some connection → connection < ends.moment
counted names role.Client ends connection timely at = timely.ends_timed.client.began connection at
counted names role.Server ends connection timely at = timely.ends_timed.server.began connection at

-- what bytes a call brings
abbrev found_by : Key → Call → Result Pdu PduFault
found_by key (Receives bytes connection) = reading key bytes
found_by key _ = Err fault.TooShort

change_of : Laws → (call : Call) (moment : ℕ) (end : EndState) → IsSettled (reading_of end.clock) end.link → (outcome call moment end).enters ≡ None
    → Change end.link (found_by end.link.identity.key call) (outcome call moment end).link
unfolding outcome
change_of law Ticks moment end is none = changes_ticking (reading_of end.clock) end.link is (Err fault.TooShort)
change_of law (Closes why) moment end is none = changes_closing (reading_of end.clock) end.link is (Err fault.TooShort) why
change_of law (Sends item) moment end is none = changes_sending (reading_of end.clock) end.link is (Err fault.TooShort) item
change_of law (Receives bytes connection) moment end is none = changes_received (reading_of end.clock) end.link is law bytes
change_of law Opens moment end is none = changes_opening (reading_of end.clock) end.link is (Err fault.TooShort) (no (opens (reading_of end.clock) end.link) none)
  where
    no : (b : Bool) → (if b then Some moment else None) ≡ None → b ≡ false
    no true e = absurd (cc (e))
    no false e = refl

nothing_first : (one other : List (List ℕ)) → one ++ other ≡ [] → one ≡ []
nothing_first [] other e = refl
nothing_first (first ∷ one) other e = absurd (cc (e))

module _ (law : Laws) (names : Names) (are : AreNames names) (who : Role) (past : Ends) (was : IsWhole names past) (now : Ends) (until : ℕ) (k : Knowing names who past now until) where
  -- ---- it takes a PDU in turn

  module _ (bytes : List ℕ) (number : ℕ) (may : MayCall names who (Receives bytes number) now) (connection : ℕ) (opened : is_open (end_of who now).link.phase ≡ true)
      (at : (end_of who now).connection ≡ Some connection) (given : (end_of (partner_of who) past).connection ≡ Some connection)
      (next_link : LinkState) (t : TakesInTurn (end_of who now).link (reading (end_of who now).link.identity.key bytes) next_link) where
    pub from : Comes names who now bytes number t.pdu
    from = comes law names are who now k.whole.sound.timely bytes number may t.pdu
        (subst (λ (key : Key). reading key bytes ≡ Ok t.pdu) (ap (λ (i : Identity). i.key) (identity_is names who now k.whole.sound.timely)) t.read)
        (record {
          receiver = t.meant.receiver ∙ ap (λ (i : Identity). i.own) (identity_is names who now k.whole.sound.timely);
          sender = t.meant.sender ∙ ap (λ (i : Identity). i.partner) (identity_is names who now k.whole.sound.timely);
        })

    pub there : from.datagram.connection ≡ connection
    there = of_last names now k.whole.sound.timely bytes number from.datagram from.delivered connection (part_of law names now k.whole who connection opened t.heard at).of_client

    pub source : WasSentBy past.sent from.datagram ⊎ IsOf t.pdu (k.since connection).more
    source = (k.since connection).sources from.datagram t.pdu from.delivered.was_sent from.sender there from.read

    -- it was sent by the past moment, so what it returns had been read
    pub was_read : Stayed who past now until connection → WasSentBy past.sent from.datagram → next_link.own_stamp ≤ clock_of who past
    unfolding age
    was_read stayed sent =
        let told : WasTold who past sent.earlier t.pdu
        = was_told names who past was.sound.timely connection stayed.was_open stayed.was_in sent.earlier t.pdu sent.among (sent.same.sender ∙ from.sender) (sent.same.connection ∙ there)
        (subst (λ (b : List ℕ). reading names.key b ≡ Ok t.pdu) (sym sent.same.bytes) from.read) t.plain
        in let alive : now.time ≤ sent.earlier.at + 2000000 = omega (arith, from.delivered.in_time, sent.same.at)
        in let low : reading_of (end_of who now).clock - distance (stamp told.read) (stamp (reading_of (end_of who now).clock)) ≤ clock_of who past
        = told_by_then told.read (end_of who past).clock (end_of who now).clock past.time now.time told.back sent.earlier.at told.off told.before told.most told.small told.promptly alive stayed.time stayed.most stayed.least
        in let same : next_link.own_stamp ≡ reading_of (end_of who now).clock - distance (stamp told.read) (stamp (reading_of (end_of who now).clock))
        = t.returned ∙ ap (λ n. n - distance t.pdu.confirmed_time_stamp (stamp n)) (clock_is (reading_of (end_of who now).clock) (end_of who now).link (record { same = law.are_settled names now who k.whole.sound.timely; opened = opened }))
        ∙ ap (λ s. reading_of (end_of who now).clock - distance s (stamp (reading_of (end_of who now).clock))) told.stamp_is
        in omega (arith, low, same)

    -- it was sent later, so all that was given by then is taken with it
    pub is_level : (next : Ends) → next ≡ called who (Receives bytes number) now → (end_of who next).link ≡ next_link → (end_of who next).connection ≡ Some connection → IsOf t.pdu (k.since connection).more
        → length (end_of (partner_of who) past).given ≤ length (end_of who next).taken
    is_level next is link_is at_next of =
        let place : ℕ = length front + of.0
        in let here : IsAt place t.pdu (pdus_of names (partner_of who) connection now.sent)
        = subst (IsAt place t.pdu) (sym (k.since connection).same) (at_back of.0 t.pdu front (k.since connection).more of.1)
        in let found = its_place law names now k.whole who connection opened t.heard at t.pdu place here t.next
        in let expects : (end_of who next).link.expected ≡ suc place = ap (λ (l : LinkState). l.expected) link_is ∙ t.expected ∙ found.1
        in let whole : IsWhole names next = subst (IsWhole names) (sym is) (whole_kept law names (Calls who (Receives bytes number)) now are may k.whole)
        in let since : Since names (partner_of who) connection past.sent next.sent
        = subst (λ (e : Ends). Since names (partner_of who) connection past.sent e.sent) (sym is) (event_since names (partner_of who) connection past.sent (Calls who (Receives bytes number)) now (k.since connection))
        in let grown = event_grows law names (partner_of who) connection (Calls who (Receives bytes number)) now k.whole.sound.timely may
        in let still : IsAt place t.pdu (pdus_of names (partner_of who) connection next.sent)
        = subst (λ (e : Ends). IsAt place t.pdu (pdus_of names (partner_of who) connection e.sent)) (sym is)
        (subst (IsAt place t.pdu) (sym grown.same) (at_front place t.pdu (pdus_of names (partner_of who) connection now.sent) grown.more here))
        in let last : (pdu : Pdu) (other : ℕ) → suc other ≡ (end_of who next).link.expected → IsAt other pdu (pdus_of names (partner_of who) connection next.sent) → repeats pdu.body ≡ false
        = λ pdu other e there_too. ap (λ (p : Pdu). repeats p.body) (same_at place pdu t.pdu (pdus_of names (partner_of who) connection next.sent)
        (subst (λ (n : ℕ). IsAt n pdu (pdus_of names (partner_of who) connection next.sent)) (one_less other place (e ∙ expects)) there_too) still) ∙ plain_repeats t.pdu.body t.plain
        in let few : length front ≤ (end_of who next).link.expected = omega (arith, expects)
        in subst (λ (items : List (List ℕ)). length items ≤ length (end_of who next).taken) (sym (given_carried names past was (partner_of who) connection given))
        (level_at law names next whole who connection (ap (λ (l : LinkState). l.phase) link_is ∙ t.is_up) at_next last front since.more since.same few)
      where
        front : List Pdu
        front = pdus_of names (partner_of who) connection past.sent

        one_less : (a b : ℕ) → suc a ≡ suc b → a ≡ b
        one_less a b e = omega (arith, e)

  -- ---- it enters a connection

  pub none_given : (call : Call) → MayCall names who call now → (connection : ℕ) → (outcome call now.moment (end_of who now)).enters ≡ Some connection
      → (end_of (partner_of who) past).connection ≡ Some connection → (end_of (partner_of who) past).given ≡ []
  unfolding outcome
  none_given Ticks may connection e given = absurd (cc (e))
  none_given (Closes why) may connection e given = absurd (cc (e))
  none_given (Sends item) may connection e given = absurd (cc (e))
  none_given Opens may connection e given = absurd (go (opens (reading_of (end_of who now).clock) (end_of who now).link) e)
    where
      go : (b : Bool) → (if b then Some now.moment else None) ≡ Some connection → ⊥
      go true f = omega (arith, counted names (partner_of who) past connection was.sound.timely given, k.moment, same_Some now.moment connection f)
      go false f = cc (f)
  none_given (Receives bytes number) may connection e given = go (took law names are now k.whole.sound.timely bytes number who) refl e
    where
      not_less : (a b : ℕ) → a < b → b ≡ a → ⊥
      not_less a b f g = omega (arith, f, g)

      by_server : (server : Role) → server ≡ role.Server → (datagram : Sent) → IsDelivered now bytes number datagram → IsOpening names server now datagram
          → Since names (partner_of server) number past.sent now.sent → (end_of (partner_of server) past).connection ≡ Some number → (end_of (partner_of server) past).given ≡ []
      by_server role.Client is datagram delivered opening_it since was_in = absurd (cc (is))
      by_server role.Server is datagram delivered opening_it since was_in =
          let of_client : now.client.connection ≡ Some number
          = begun names now k.whole.sound.timely bytes number datagram delivered
          ∙ ap (λ (c : ℕ). Some c) (sym (in_newest names now k.whole.sound.timely bytes number datagram delivered) ∙ delivered.connection_same)
          in let not_server : now.server.connection ≡ Some number → ⊥ = λ f. not_less number datagram.connection (opening_it.is_new number f) delivered.connection_same
          in let none : now.client.given ≡ [] = (law.alone_gives_none names now number k.whole.sound.ordered of_client not_server).0
          in let carried_now : carried (pdus_of names role.Client number past.sent) ++ carried since.more ≡ []
          = sym (carried-append (pdus_of names role.Client number past.sent) since.more) ∙ ap carried (sym since.same) ∙ sym (given_carried names now k.whole role.Client number of_client) ∙ none
          in given_carried names past was role.Client number was_in ∙ nothing_first (carried (pdus_of names role.Client number past.sent)) (carried since.more) carried_now

      go : (b : Bool) → took law names are now k.whole.sound.timely bytes number who ≡ b → (if b then Some number else None) ≡ Some connection → (end_of (partner_of who) past).given ≡ []
      go true f g =
          let by = opens_by law names are now k.whole.sound.timely bytes number who may f
          in by_server who by.2.is_server by.0 by.1 by.2 (k.since number) (given ∙ sym g)
      go false f g = absurd (cc (g))

  -- ---- a call of the end

  open_before : (call : Call) → (outcome call now.moment (end_of who now)).enters ≡ None → is_open (outcome call now.moment (end_of who now)).link.phase ≡ true → is_open (end_of who now).link.phase ≡ true
  open_before call none opened = go (is_open (end_of who now).link.phase) refl
    where
      go : (b : Bool) → is_open (end_of who now).link.phase ≡ b → is_open (end_of who now).link.phase ≡ true
      go true e = e
      go false e = absurd (cc (opened, law.stays_out call now.moment (end_of who now) e none))

  pub link_after : (call : Call) → (end_of who (called who call now)).link ≡ (outcome call now.moment (end_of who now)).link
  link_after call = ap (λ (e : EndState). e.link) (called_end who call now) ∙ after_link (outcome call now.moment (end_of who now)) now.moment (end_of who now)

  pub clock_after : (call : Call) → (end_of who (called who call now)).clock ≡ (end_of who now).clock
  clock_after call = ap (λ (e : EndState). e.clock) (called_end who call now) ∙ after_clock (outcome call now.moment (end_of who now)) now.moment (end_of who now)

  connection_after : (call : Call) → (end_of who (called who call now)).connection ≡ newer (outcome call now.moment (end_of who now)).enters (end_of who now).connection
  connection_after call = ap (λ (e : EndState). e.connection) (called_end who call now) ∙ after_connection (outcome call now.moment (end_of who now)) now.moment (end_of who now)

  taken_after : (call : Call) → (outcome call now.moment (end_of who now)).enters ≡ None → length (end_of who now).taken ≤ length (end_of who (called who call now)).taken
  taken_after call none =
      let is : (end_of who (called who call now)).taken ≡ (end_of who now).taken ++ (outcome call now.moment (end_of who now)).taken
      = ap (λ (e : EndState). e.taken) (called_end who call now) ∙ after_taken (outcome call now.moment (end_of who now)) now.moment (end_of who now)
      ∙ ap (λ (c : Option ℕ). kept c (end_of who now).taken ++ (outcome call now.moment (end_of who now)).taken) none
      in omega (arith, ap length is ∙ length-append (end_of who now).taken (outcome call now.moment (end_of who now)).taken)

  module _ (connection : ℕ) (given : (end_of (partner_of who) past).connection ≡ Some connection) where
    turned : (call : Call) → MayCall names who call now → (outcome call now.moment (end_of who now)).enters ≡ None → is_open (end_of who (called who call now)).link.phase ≡ true
        → (end_of who (called who call now)).connection ≡ Some connection
        → is_open (end_of who now).link.phase ≡ true → (end_of who now).connection ≡ Some connection
        → TakesInTurn (end_of who now).link (found_by (end_of who now).link.identity.key call) (outcome call now.moment (end_of who now)).link
        → Stayed who past (called who call now) (caught_up until (end_of who (called who call now)).link) connection ⊎ ((end_of (partner_of who) past).given ≡ [])
    turned Ticks may none opened at was_open was_at t = let r : Err fault.TooShort ≡ Ok t.pdu = t.read in absurd (cc)
    turned Opens may none opened at was_open was_at t = let r : Err fault.TooShort ≡ Ok t.pdu = t.read in absurd (cc)
    turned (Closes why) may none opened at was_open was_at t = let r : Err fault.TooShort ≡ Ok t.pdu = t.read in absurd (cc)
    turned (Sends item) may none opened at was_open was_at t = let r : Err fault.TooShort ≡ Ok t.pdu = t.read in absurd (cc)
    turned (Receives bytes number) may none opened at was_open was_at t =
        elim (k.known connection was_open was_at given) [
          | inl stayed ↦ inl (record {
            was_open = stayed.was_open;
            was_in = stayed.was_in;
            time = omega (arith, stayed.time, called_time who (Receives bytes number) now);
            most = omega (arith, stayed.most, called_time who (Receives bytes number) now, clock_after (Receives bytes number));
            least = omega (arith, stayed.least, called_time who (Receives bytes number) now, clock_after (Receives bytes number));
            knows = λ late. elim (source bytes number may connection was_open was_at given (outcome (Receives bytes number) now.moment (end_of who now)).link t) [
              | inl sent ↦ absurd (not_late (was_read bytes number may connection was_open was_at given (outcome (Receives bytes number) now.moment (end_of who now)).link t stayed sent) late)
              | inr of ↦ is_level bytes number may connection was_open was_at given (outcome (Receives bytes number) now.moment (end_of who now)).link t (called who (Receives bytes number) now) refl (link_after (Receives bytes number)) at of
            ];
          })
          | inr none_was ↦ inr none_was
        ]
      where
        not_late : (outcome (Receives bytes number) now.moment (end_of who now)).link.own_stamp ≤ clock_of who past
            → clock_of who past + time_limit < caught_up until (end_of who (called who (Receives bytes number) now)).link → ⊥
        not_late low late =
            let is = link_after (Receives bytes number)
            in let sees : caught_up until (end_of who (called who (Receives bytes number) now)).link ≡ stops_at_greatest ((end_of who (called who (Receives bytes number) now)).link.own_stamp + time_limit)
            = sees_exactly until (end_of who (called who (Receives bytes number) now)).link (ap (λ (l : LinkState). is_recovering l.phase) is ∙ ap is_recovering t.is_up)
            ∙ open_alive (end_of who (called who (Receives bytes number) now)).link opened
            in omega (arith, low, late, sees, ap (λ (l : LinkState). l.own_stamp) is)

    pub called_known : (call : Call) → MayCall names who call now → is_open (end_of who (called who call now)).link.phase ≡ true → (end_of who (called who call now)).connection ≡ Some connection
        → Stayed who past (called who call now) (caught_up until (end_of who (called who call now)).link) connection ⊎ ((end_of (partner_of who) past).given ≡ [])
    called_known call may opened at = go (outcome call now.moment (end_of who now)).enters refl
      where
        Result : Type 0
        Result = Stayed who past (called who call now) (caught_up until (end_of who (called who call now)).link) connection ⊎ ((end_of (partner_of who) past).given ≡ [])

        made_open : is_open (outcome call now.moment (end_of who now)).link.phase ≡ true
        made_open = ap (λ (l : LinkState). is_open l.phase) (sym (link_after call)) ∙ opened

        stays : (outcome call now.moment (end_of who now)).enters ≡ None
            → (is_open (end_of who now).link.phase ≡ true → caught_up until (end_of who (called who call now)).link ≡ until) → Result
        stays none same = steady_known law names are who past was now until k (called who call now) 0 0 (none_elapses law names are who past was now until k)
            (more_none (called_time who call now)) (more_none (clock_after call)) (connection_after call ∙ ap (λ (c : Option ℕ). newer c (end_of who now).connection) none) (taken_after call none)
            (λ o. let was_open = open_before call none made_open in (was_open, same was_open)) connection opened at given
          where
            more_none : {a b : ℕ} → a ≡ b → a ≡ b + 0
            more_none e = omega (arith, e)

        by_change : (outcome call now.moment (end_of who now)).enters ≡ None → Change (end_of who now).link (found_by (end_of who now).link.identity.key call) (outcome call now.moment (end_of who now)).link → Result
        by_change none (rests same stamp_same) = stays none (λ o. until_same until (end_of who now).link (end_of who (called who call now)).link o (k.watched.exact o)
            (ap (λ (l : LinkState). is_recovering l.phase) (link_after call) ∙ ap is_recovering same) opened (ap (λ (l : LinkState). l.own_stamp) (link_after call) ∙ stamp_same))
        by_change none (recovers is) = stays none (λ o. keeps_so until (end_of who (called who call now)).link (ap (λ (l : LinkState). is_recovering l.phase) (link_after call) ∙ is))
        by_change none (shuts shut) = absurd (cc (made_open, shut))
        by_change none (joins starts ups stamp_same) = stays none (λ o. until_same until (end_of who now).link (end_of who (called who call now)).link o (k.watched.exact o)
            (ap (λ (l : LinkState). is_recovering l.phase) (link_after call) ∙ ap is_recovering ups ∙ sym (ap is_recovering starts)) opened (ap (λ (l : LinkState). l.own_stamp) (link_after call) ∙ stamp_same))
        by_change none (turns t) = turned call may none opened at (open_before call none made_open)
            (sym (connection_after call ∙ ap (λ (c : Option ℕ). newer c (end_of who now).connection) none) ∙ at) t

        go : (enters : Option ℕ) → (outcome call now.moment (end_of who now)).enters ≡ enters → Result
        go None e = by_change e (change_of law call now.moment (end_of who now)
            (record { same = law.are_settled names now who k.whole.sound.timely; opened = open_before call e made_open }) e)
        go (Some entered) e = inr (none_given call may connection (e ∙ (sym (connection_after call ∙ ap (λ (c : Option ℕ). newer c (end_of who now).connection) e) ∙ at)) given)
