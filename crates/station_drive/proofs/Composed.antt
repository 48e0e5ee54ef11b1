-- Doings one after another.
use Rattle.std.proofs.Common.{◌≡◌, ◌≤◌, ℕ, zero, suc, ◌+◌, ◌-◌, List, [], ◌∷◌, ◌++◌, length, map, drop, take, Option, Some, None, Result, Ok, Err, refl, sym, ap, ◌∙◌, subst, append_assoc, append-nil, length-append, arith}
use Rattle.std.proofs.Math.Seq.{take-append-add, take-length}
use Rattle.std.proofs.KnownBytes.{Appends-nil, Appends-trans, Appends-kept}
use Rattle.std.specs.Io.KnownBytes.{Appends, Keeps}
use Rattle.control_table.specs.layout.Entries.{Site}
use Rattle.std.specs.Prelude.{IfNone, IfSome}
use Rattle.std.specs.Result.{OnErr}
use Rattle.std.proofs.lemmas.List.{map-append, take-append-le}
use Rattle.simulator_event.specs.declared.event.Event.{Event}
use Rattle.simulator_event.specs.layout.declared.ids.NodeId.{NodeId}
use Rattle.simulator_event.specs.refused.Refused.{Refused}
use Rattle.simulator_event.specs.refused.Refused.TheVariants.{NoSuchNode, NeverSent, Drift, NotDriven, ClockLimit, OutOfMemory}
use Rattle.simulator_event.specs.declared.reply.Reply.{Reply}
use Rattle.simulator_event.specs.declared.reply.Answer.{Answer}
use Rattle.replay_lines.specs.Answers.{answer_text, recorded}
use Rattle.replay_lines.specs.Written.{event_line}
use Rattle.station_drive.specs.Told.{Asks, Call, Carried, Datagram, Grows, Heard, Nothing, Sends, heard_of}
use Rattle.station_drive.specs.Rounds.{IsSilence}
use Rattle.station_drive.specs.Doings.{added, recorded_line, Applies, Applying, Asking, Behaviour, Doing, EngineState, Performs, Stops, after_doing, state_after, calls_of, calls_of_doing, text_of, line_of_doing}

-- ---- what is told grows

pub Grows-nil : {A : Type 0} (told : Option (List A)) → Grows told told []
Grows-nil None = tt
Grows-nil (Some xs) = sym (append-nil xs)

pub Grows-trans : {A : Type 0} (a b c : Option (List A)) (xs ys : List A) → Grows a b xs → Grows b c ys → Grows a c (xs ++ ys)
Grows-trans a b None xs ys p q = tt
Grows-trans a None (Some z) xs ys p q = absurd q
Grows-trans None (Some y) (Some z) xs ys p q = absurd p
Grows-trans (Some x) (Some y) (Some z) xs ys p q = q ∙ ap (λ l. l ++ ys) p ∙ append_assoc x xs ys

-- calls after others
pub carried-on : {Net : Type 0} (carries : Net → Call → Net → Type 0) (a b c : Net) (xs ys : List Call) → Carried carries a b xs → Carried carries b c ys → Carried carries a c (xs ++ ys)
carried-on carries a b c [] ys p q = subst (λ n. Carried carries n c ys) p q
carried-on carries a b c (x ∷ xs) ys p q = (p.0, p.1, carried-on carries p.0 b c xs ys p.2 q)

-- ---- doings after others

module _ {State : Type 0} (does : Behaviour State) where
  pub state_after-append : (p : State) (xs ys : List Doing) → state_after does p (xs ++ ys) ≡ state_after does (state_after does p xs) ys
  state_after-append p [] ys = refl
  state_after-append p (x ∷ xs) ys = state_after-append (after_doing does p x) xs ys

  pub calls_of-append : (p : State) (xs ys : List Doing) → calls_of does p (xs ++ ys) ≡ calls_of does p xs ++ calls_of does (state_after does p xs) ys
  calls_of-append p [] ys = refl
  calls_of-append p (x ∷ xs) ys =
      ap (λ l. calls_of_doing does p x ++ l) (calls_of-append (after_doing does p x) xs ys)
      ∙ sym (append_assoc (calls_of_doing does p x) (calls_of does (after_doing does p x) xs) _)

  pub text_of-append : (site : Site) (p : State) (xs ys : List Doing) → text_of does site p (xs ++ ys) ≡ text_of does site p xs ++ text_of does site (state_after does p xs) ys
  text_of-append site p [] ys = refl
  text_of-append site p (x ∷ xs) ys =
      ap (λ l. line_of_doing does site p x ++ l) (text_of-append site (after_doing does p x) xs ys)
      ∙ sym (append_assoc (line_of_doing does site p x) (text_of does site (after_doing does p x) xs) _)

  -- the same of the states that were reached
  calls_joined : (a b : State) (xs ys : List Doing) → b ≡ state_after does a xs → calls_of does a xs ++ calls_of does b ys ≡ calls_of does a (xs ++ ys)
  calls_joined a b xs ys h = ap (λ p. calls_of does a xs ++ calls_of does p ys) h ∙ sym (calls_of-append a xs ys)

  text_joined : (site : Site) (a b : State) (xs ys : List Doing) → b ≡ state_after does a xs → text_of does site a xs ++ text_of does site b ys ≡ text_of does site a (xs ++ ys)
  text_joined site a b xs ys h = ap (λ p. text_of does site a xs ++ text_of does site p ys) h ∙ sym (text_of-append site a xs ys)

  -- a part of the doings has no longer text
  text_of-take : (site : Site) (p : State) (n : ℕ) (xs : List Doing) → length (text_of does site p (take n xs)) ≤ length (text_of does site p xs)
  text_of-take site p zero xs = omega arith
  text_of-take site p (suc n) [] = omega arith
  text_of-take site p (suc n) (x ∷ xs) =
      let line : List ℕ = line_of_doing does site p x in
      let rest = text_of-take site (after_doing does p x) n xs in
      let part = length-append line (text_of does site (after_doing does p x) (take n xs)) in
      let whole = length-append line (text_of does site (after_doing does p x) xs) in
      omega (arith, rest, part, whole)

  -- all but the last line of doings after others
  lines_behind : (site : Site) (xs ys : List Doing) (a b : State) (count taken : ℕ) → b ≡ state_after does a xs
      → length (text_of does site b (take (count - 1) ys)) ≤ taken
      → length (text_of does site a (take (length xs + count - 1) (xs ++ ys))) ≤ length (text_of does site a xs) + taken
  lines_behind site xs ys a b zero taken is h =
      let front : take (length xs + 0 - 1) (xs ++ ys) ≡ take (length xs + 0 - 1) xs = take-append-le (length xs + 0 - 1) xs ys (omega arith) in
      let few = text_of-take site a (length xs + 0 - 1) xs in
      subst (λ (l : List Doing). length (text_of does site a l) ≤ length (text_of does site a xs) + taken) (sym front) (omega (arith, few))
  lines_behind site xs ys a b (suc count) taken is h =
      let counted : length xs + suc count - 1 ≡ length xs + count = omega arith in
      let some : List Doing = take count ys in
      let some_is : take (suc count - 1) ys ≡ some = ap (λ (n : ℕ). take n ys) (let e : suc count - 1 ≡ count = omega arith in e) in
      let few = subst (λ (l : List Doing). length (text_of does site b l) ≤ taken) some_is h in
      let both = length-append (text_of does site a xs) (text_of does site b some) in
      let joined = ap (λ (l : List ℕ). length l) (text_joined site a b xs some is) in
      subst (λ (l : List Doing). length (text_of does site a l) ≤ length (text_of does site a xs) + taken)
      (sym (ap (λ (n : ℕ). take n (xs ++ ys)) counted ∙ take-append-add xs ys count))
      (omega (arith, few, both, joined))

-- ---- what was done, one after another

module _ {State Net : Type 0} {does : Behaviour State} {carries : Net → Call → Net → Type 0} where
  pub performs_none : (a : EngineState State Net) → Performs does carries [] a a
  performs_none a = record { same_site = refl; state_is = refl; called = refl; written = Appends-nil a.text }

  -- what comes later is of the layout and the station that were reached
  texts : {a b : EngineState State Net} {xs : List Doing} (ys : List Doing) → Performs does carries xs a b → text_of does a.site a.state xs ++ text_of does b.site b.state ys ≡ text_of does a.site a.state (xs ++ ys)
  texts {a} {b} {xs} ys first =
      ap (λ (p : Site). text_of does a.site a.state xs ++ text_of does p b.state ys) first.same_site ∙ text_joined does a.site a.state b.state xs ys first.state_is

  pub performs_then : {xs ys : List Doing} {a b c : EngineState State Net} → Performs does carries xs a b → Performs does carries ys b c → Performs does carries (xs ++ ys) a c
  performs_then {xs} {ys} {a} {b} {c} first second = record {
    same_site = second.same_site ∙ first.same_site;
    state_is = second.state_is ∙ (ap (λ p. state_after does p ys) first.state_is ∙ sym (state_after-append does a.state xs ys));
    called = subst (Carried carries a.net c.net) (calls_joined does a.state b.state xs ys first.state_is) (carried-on carries a.net b.net c.net _ _ first.called second.called);
    written = subst (Appends a.text c.text) (texts ys first) (Appends-trans a.text b.text c.text _ _ first.written second.written);
  }

  -- nothing was done
  pub stops_none : (doings : List Doing) (a : EngineState State Net) → Stops does carries doings a a
  stops_none doings a = record {
    same_site = refl;
    count = 0;
    within = omega arith;
    state_is = refl;
    called = refl;
    taken = 0;
    written = Appends-nil a.text;
    lines = omega arith;
  }

  -- nothing was changed
  pub stops_unmoved : (doings : List Doing) (a b : EngineState State Net) → b.site ≡ a.site → b.state ≡ a.state → b.net ≡ a.net → b.text ≡ a.text → Stops does carries doings a b
  stops_unmoved doings a b site state net text = record {
    same_site = site;
    count = 0;
    within = omega arith;
    state_is = state;
    called = net;
    taken = 0;
    written = subst (λ (t : Option (List ℕ)). Appends a.text t []) (sym text) (Appends-nil a.text);
    lines = omega arith;
  }

  -- all was done, and then it was given up
  pub stops_all : {xs : List Doing} {a b : EngineState State Net} → Performs does carries xs a b → (s : Stops does carries xs a b) × (length xs ≤ s.count)
  stops_all {xs} {a} {b} done =
      let all : take (length xs) xs ≡ xs = take-length xs in
      let text : List ℕ = text_of does a.site a.state xs in (
        record {
          same_site = done.same_site;
          count = length xs;
          within = omega arith;
          state_is = done.state_is ∙ ap (state_after does a.state) (sym all);
          called = subst (Carried carries a.net b.net) (ap (calls_of does a.state) (sym all)) done.called;
          taken = length text;
          written = subst (Appends a.text b.text) (sym (take-length text) ∙ ap (λ (l : List Doing). take (length text) (text_of does a.site a.state l)) (sym all)) done.written;
          lines = text_of-take does a.site a.state (length xs - 1) xs;
        },
        omega arith,
      )

  -- doings that were never come to
  pub stops_before : {xs : List Doing} {a b : EngineState State Net} (ys : List Doing) → Stops does carries xs a b → Stops does carries (xs ++ ys) a b
  stops_before {xs} {a} {b} ys s =
      let within = s.within in
      let longer = length-append xs ys in
      let fewer : s.count - 1 ≤ length xs = omega (arith, within) in
      let same : take s.count (xs ++ ys) ≡ take s.count xs = take-append-le s.count xs ys within in
      record {
        same_site = s.same_site;
        count = s.count;
        within = omega (arith, within, longer);
        state_is = s.state_is ∙ ap (state_after does a.state) (sym same);
        called = subst (Carried carries a.net b.net) (ap (calls_of does a.state) (sym same)) s.called;
        taken = s.taken;
        written = subst (Appends a.text b.text) (ap (λ (l : List Doing). take s.taken (text_of does a.site a.state l)) (sym same)) s.written;
        lines = subst (λ (l : List Doing). length (text_of does a.site a.state l) ≤ s.taken) (sym (take-append-le (s.count - 1) xs ys fewer)) s.lines;
      }

  -- what was done whole, and then a beginning of more
  pub stops_after : {xs ys : List Doing} {a b c : EngineState State Net} → Performs does carries xs a b → Stops does carries ys b c → (s : Stops does carries (xs ++ ys) a c) × (length xs ≤ s.count)
  stops_after {xs} {ys} {a} {b} {c} first second =
      let done : List Doing = take second.count ys in
      let all : xs ++ done ≡ take (length xs + second.count) (xs ++ ys) = sym (take-append-add xs ys second.count) in
      let before : List ℕ = text_of does a.site a.state xs in
      let later : List ℕ = text_of does b.site b.state done in
      let within = second.within in
      let longer = length-append xs ys in
      let lines = subst (λ (p : Site). length (text_of does p b.state (take (second.count - 1) ys)) ≤ second.taken) first.same_site second.lines in (
        record {
          same_site = second.same_site ∙ first.same_site;
          count = length xs + second.count;
          within = omega (arith, within, longer);
          state_is = second.state_is ∙ (ap (λ p. state_after does p done) first.state_is ∙ (sym (state_after-append does a.state xs done) ∙ ap (state_after does a.state) all));
          called = subst (Carried carries a.net c.net) (calls_joined does a.state b.state xs done first.state_is ∙ ap (calls_of does a.state) all) (carried-on carries a.net b.net c.net _ _ first.called second.called);
          taken = length before + second.taken;
          written = subst (Appends a.text c.text)
              (sym (take-append-add before later second.taken)
              ∙ ap (take (length before + second.taken)) (texts done first ∙ ap (text_of does a.site a.state) all))
              (Appends-trans a.text b.text c.text _ _ first.written second.written);
          lines = lines_behind does a.site xs ys a.state b.state second.count second.taken first.state_is lines;
        },
        omega arith,
      )

  pub stops_then : {xs ys : List Doing} {a b c : EngineState State Net} → Performs does carries xs a b → Stops does carries ys b c → Stops does carries (xs ++ ys) a c
  stops_then {xs} {ys} {a} {b} {c} first second = (stops_after first second).0

  -- given up before what comes after
  pub stops_now : {xs : List Doing} {a b : EngineState State Net} (ys : List Doing) → Performs does carries xs a b → Stops does carries (xs ++ ys) a b
  stops_now {xs} {a} {b} ys done = stops_before ys (stops_all done).0

  pub stops_same : {xs ys : List Doing} {a b : EngineState State Net} → xs ≡ ys → Stops does carries xs a b → Stops does carries ys a b
  stops_same {xs} {ys} {a} {b} e s = subst (λ (l : List Doing). Stops does carries l a b) e s

  pub performs_same : {xs ys : List Doing} {a b : EngineState State Net} → xs ≡ ys → Performs does carries xs a b → Performs does carries ys a b
  performs_same {xs} {ys} {a} {b} e done = subst (λ (l : List Doing). Performs does carries l a b) e done

  -- nothing was done after that
  pub performs_rest : {xs : List Doing} {a b c : EngineState State Net} → Performs does carries xs a b → Performs does carries [] b c → Performs does carries xs a c
  performs_rest {xs} {a} {b} {c} first second = performs_same (append-nil xs) (performs_then first second)

  -- what was written was handed on
  pub performs_kept : (a : EngineState State Net) (text : Option (List ℕ)) → Keeps a.text text → Performs does carries [] a (record a { text = text })
  performs_kept a text kept = record { same_site = refl; state_is = refl; called = refl; written = Appends-kept a.text a.text text [] (Appends-nil a.text) kept }

  -- one more event was applied
  pub performs_push : {event : Event} {a b c : EngineState State Net} (events : List Event) → Performs does carries (map Applying events) a b → Performs does carries (Applying event ∷ []) b c
      → Performs does carries (map Applying (events ++ event ∷ [])) a c
  performs_push {event} {a} {b} {c} events first second =
      subst (λ (l : List Doing). Performs does carries l a c) (sym (map-append Applying events (event ∷ []))) (performs_then first second)

  -- a node asked
  pub performs_asking : {node : NodeId} {heard : Heard} (a : EngineState State Net) (net : Net) → carries a.net (Asks node heard) net → Performs does carries (Asking node heard ∷ []) a (record a { net = net })
  performs_asking a net told = record { same_site = refl; state_is = refl; called = (net, told, refl); written = Appends-nil a.text }

-- what was heard, by what was answered
pub heard_some : {State Net Bytes : Type 0} (does : Behaviour State) (carries : Net → Call → Net → Type 0) (bytes : Bytes → List ℕ) (node : NodeId) (answer : Option Bytes) (a : EngineState State Net) (net : Net)
    → carries a.net (Asks node (heard_of bytes (Ok answer))) net → IfSome answer (λ datagram. Performs does carries (Asking node (Datagram (bytes datagram)) ∷ []) a (record a { net = net }))
heard_some does carries bytes node None a net told = tt
heard_some does carries bytes node (Some datagram) a net told = performs_asking a net told

pub heard_none : {State Net Bytes : Type 0} (does : Behaviour State) (carries : Net → Call → Net → Type 0) (bytes : Bytes → List ℕ) (node : NodeId) (answer : Option Bytes) (a : EngineState State Net) (net : Net)
    → carries a.net (Asks node (heard_of bytes (Ok answer))) net → IfNone answer ((last : Heard) × IsSilence last × Performs does carries (Asking node last ∷ []) a (record a { net = net }))
heard_none does carries bytes node None a net told = (Nothing, tt, performs_asking a net told)
heard_none does carries bytes node (Some datagram) a net told = tt

-- what was given up stays so, whatever fault is told
pub stopped : {T E P : Type 0} (result : Result T E) → P → OnErr result P
stopped (Ok value) h = tt
stopped (Err fault) h = h

-- ---- an event

-- where memory was lacking nothing happened
pub unchanged : {State : Type 0} (does : Behaviour State) (event : Event) (old : State) (reply : Result Reply Refused) (new : State)
    → recorded reply ≡ Err OutOfMemory → Applies does event old reply new → new ≡ old
unchanged does event old (Ok reply) new e h = absurd (let f : ⊥ = cc in f)
unchanged does event old (Err OutOfMemory) new e h = h
unchanged does event old (Err NoSuchNode) new e h = absurd (let f : ⊥ = cc in f)
unchanged does event old (Err NeverSent) new e h = absurd (let f : ⊥ = cc in f)
unchanged does event old (Err Drift) new e h = absurd (let f : ⊥ = cc in f)
unchanged does event old (Err NotDriven) new e h = absurd (let f : ⊥ = cc in f)
unchanged does event old (Err ClockLimit) new e h = absurd (let f : ⊥ = cc in f)

-- otherwise it was answered and happened
pub happened : {State : Type 0} (does : Behaviour State) (event : Event) (old : State) (reply : Result Reply Refused) (new : State)
    → (recorded reply ≡ Err OutOfMemory → ⊥) → Applies does event old reply new → (recorded reply ≡ does.answer old event) × (new ≡ does.after old event)
happened does event old (Ok reply) new e h = h
happened does event old (Err OutOfMemory) new e h = absurd (e refl)
happened does event old (Err NoSuchNode) new e h = h
happened does event old (Err NeverSent) new e h = h
happened does event old (Err Drift) new e h = h
happened does event old (Err NotDriven) new e h = h
happened does event old (Err ClockLimit) new e h = h

-- one more datagram was sent
pub sent_more : {Net : Type 0} (carries : Net → Call → Net → Type 0) (a b c : Net) (done : List (NodeId × List ℕ)) (one : NodeId × List ℕ)
    → Carried carries a b (map (λ o. Sends o.0 o.1) done) → carries b (Sends one.0 one.1) c → Carried carries a c (map (λ o. Sends o.0 o.1) (done ++ one ∷ []))
sent_more carries a b c done one first second =
    let send : NodeId × List ℕ → Call = λ o. Sends o.0 o.1 in
    subst (Carried carries a c) (sym (map-append send done (one ∷ []))) (carried-on carries a b c (map send done) (send one ∷ []) first (c, second, refl))

-- the datagrams that an event added were sent
pub event_called : {State Net : Type 0} (does : Behaviour State) (carries : Net → Call → Net → Type 0) (event : Event) (old new : State) (count : ℕ) (a b : Net)
    → new ≡ does.after old event → count ≡ length (does.sent old)
    → Carried carries a b (map (λ o. Sends o.0 o.1) (drop count (does.sent new))) → Carried carries a b (calls_of does old (Applying event ∷ []))
event_called does carries event old new count a b is counted h =
    let send : NodeId × List ℕ → Call = λ o. Sends o.0 o.1 in
    subst (Carried carries a b)
    (ap (λ p. map send (drop count (does.sent p))) is
    ∙ (ap (λ n. map send (drop n (does.sent (does.after old event)))) counted
    ∙ sym (append-nil (map send (added does old event)))))
    h

-- the line of an event with its answer
pub event_text : {State : Type 0} (does : Behaviour State) (site : Site) (event : Event) (old : State) (line : Option (List ℕ)) (table : Site) (answer : Result Answer Refused)
    → line ≡ event_line site event → table ≡ site → answer ≡ does.answer old event
    → recorded_line line (answer_text table answer) ≡ text_of does site old (Applying event ∷ [])
event_text does site event old line table answer is same answered =
    ap (λ l. recorded_line l (answer_text table answer)) is
    ∙ (ap (λ p. recorded_line (event_line site event) (answer_text p answer)) same
    ∙ (ap (λ r. recorded_line (event_line site event) (answer_text site r)) answered
    ∙ sym (append-nil (recorded_line (event_line site event) (answer_text site (does.answer old event))))))
