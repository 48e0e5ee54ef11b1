-- An end that looks, as moves of an abstract line: to where it has heard its partner, its look, and to where it has told all.
use Rattle.std.proofs.Common.{◌≡◌, ◌∙◌, ◌++◌, ◌&&◌, ℕ, Bool, true, false, cond, inl, inr, List, [], ◌∷◌, Option, ap, drop, length, map, refl, subst, sym, take}
use Rattle.std.specs.Prelude.{◌⊎◌}
use Rattle.std.proofs.lemmas.Bool.{false≢true}
use Rattle.std.proofs.lemmas.List.{append-nil, append_assoc}
use Rattle.line_host.specs.Talk.{TalkState, is_agreed, is_joined}
use Rattle.line_laws.specs.End.{End, File, Seen, file_of, unlinked}
use Rattle.line_laws.specs.Line.{Line, Outcome, Looks, Opens, Refused, Whole, after, right_rules}
use Rattle.line_laws.specs.Step.{StepSoFar, step}
use Rattle.line_laws.specs.declared.words.Item.{Item}
use Rattle.line_laws.specs.declared.words.Side.{Side}
use Rattle.line_laws.specs.declared.words.Side.TheVariants.{First, Second}
use Rattle.line_telegram.specs.declared.message.LineMessage.{LineMessage}
use Rattle.line_telegram.specs.declared.message.LineMessage.TheVariants.{Line as Says}
use Rattle.line_world.specs.Names.{link_names, other}
use Rattle.line_world.specs.declared.names.LineNames.{LineNames}
use Rattle.line_world.specs.inside.Laws.{Laws}
use Rattle.rasta_core.specs.Ends.{EndState}
use Rattle.rasta_core.specs.Run.{Ends}
use Rattle.rasta_core.specs.State.{LinkState, is_open, is_up}
use Rattle.line_world.proofs.AtEnds.{AreEnds}
use Rattle.line_world.proofs.Heard.{EntersThere, HasHeard, OnTheSide, StaysThere}
use Rattle.line_world.proofs.Looks.{left_half, looked_half, looks_joined, looks_refused, looks_unjoined}
use Rattle.line_world.proofs.Nodes.{Half, HasMore, IsThere, drop_front, items_append, items_are, items_of, line_by, opens_is, starting, unheard}
use Rattle.line_world.proofs.Quiet.{GoesIn, GoesOn, Quietly, apart_is, by_none, by_one, goes_in, goes_on, is_same, quiet_then, same_connection, same_is}
use Rattle.line_world.proofs.Received.{up_is_same}
use Rattle.line_world.proofs.Stages.{IsStaged}
use Rattle.line_world.proofs.Talked.{AreSame, Follows, Talked, begun_with, far_end, near_end, saying_more}
use Rattle.line_world.proofs.Told.{HasAgreed, HasAsked, HasGiven, HasKept, heard_joined, joined_open, joined_so, joined_up}

-- ---- an end by its talk

abbrev pub half_at : TalkState → End → File → (busy : Bool) → (said heard : List LineMessage) → Half
half_at talk end file busy said heard = record {
  opened = is_open talk.link.phase;
  joined = is_joined talk;
  end = end;
  file = file;
  busy = busy;
  said = said;
  heard = heard;
}

-- the end after the clock rules: out of any connection where it isn't joined
abbrev pub end_left : (joined : Bool) → End → End
end_left joined end = cond joined end (unlinked end)

left_twice : (joined : Bool) (end : End) → unlinked (end_left joined end) ≡ unlinked end
left_twice true end = refl
left_twice false end = refl

-- the other end, by what it has said and heard
pub record IsFar (side : Side) (ends : Ends) (far : Talked) (half : Half) : Type 0 where
  pub said : half.said ≡ far.said
  pub heard : half.heard ≡ far.heard
  pub opened : half.opened ≡ is_open (far_end side ends).link.phase

pub far_on : {side : Side} {old new : Ends} {far : Talked} {half : Half} → OnTheSide side old new → IsFar side old far half → IsFar side new far half
far_on on is = record { said = is.said; heard = is.heard; opened = is.opened ∙ ap (λ (e : EndState). is_open e.link.phase) (sym on.far_same) }

-- ---- connections

pub same_on : (side : Side) (old new : Ends) → (near_end side new).connection ≡ (near_end side old).connection → far_end side new ≡ far_end side old → is_same old ≡ is_same new
same_on First old new near far =
    ap (λ (c : Option ℕ). same_connection old.server.connection c) (sym near) ∙ ap (λ (c : Option ℕ). same_connection c new.client.connection) (ap (λ (e : EndState). e.connection) (sym far))
same_on Second old new near far =
    ap (λ (c : Option ℕ). same_connection c old.client.connection) (sym near)
    ∙ ap (λ (c : Option ℕ). same_connection new.server.connection c) (ap (λ (e : EndState). e.connection) (sym far))

-- an end in a connection is in no other than the client's last one
pub there_is : Laws → (names : LineNames) (side : Side) (ends : Ends) → AreEnds (link_names names) ends → is_open (near_end side ends).link.phase ≡ true → IsThere side (is_same ends)
there_is laws names First ends are opened = tt
there_is laws names Second ends are opened = same_is ends (laws.server_in (link_names names) ends are.timely opened)

not_second : First ≡ Second → ⊥
not_second is = cc

-- ---- to where it has heard its partner

some_begun : (side : Side) (items : List Item) (more : List LineMessage) → begun_with side items ++ more ≡ [] → ⊥
some_begun side items more is = cc

shut_down : (talk : TalkState) → is_open talk.link.phase ≡ false → is_joined talk ≡ false
shut_down talk shut = by_joined (is_joined talk) refl
  where
    by_joined : (b : Bool) → is_joined talk ≡ b → is_joined talk ≡ false
    by_joined true joined = absurd (false≢true (sym shut ∙ joined_open talk joined))
    by_joined false down = down

front_none : (front more : List LineMessage) → front ++ more ≡ [] → front ≡ []
front_none [] more is = refl
front_none (first ∷ front) more is = absurd (no_cell first (front ++ more) is)
  where
    no_cell : (one : LineMessage) (others : List LineMessage) → one ∷ others ≡ [] → ⊥
    no_cell one others none = cc

-- an end that hears, and stays
hears_on : (names : LineNames) (side : Side) (now : ℕ) (old : Ends) (talk next : TalkState) (own far : Talked) (items : List Item) (end : End) (file : File) (busy : Bool)
    → talk.link ≡ (near_end side old).link → IsStaged side talk own → (heard : HasHeard names side now old own far next items) → StaysThere side old heard.ends own heard.then heard.before
    → GoesOn (half_at talk end file busy own.said own.heard) (half_at next (end_left (is_joined talk) end) file busy heard.then.said heard.before)
hears_on names side now old talk next own far items end file busy link staged heard stays = record {
  end = λ joined. ap (λ (j : Bool). end_left j end) joined;
  out = left_twice (is_joined talk) end;
  apart = λ down joined. ap (λ (j : Bool). end_left j end) down;
  file = refl;
  busy = refl;
  said = stays.said;
  heard = stays.before_is;
  joined_open = joined_open next;
  shut = λ shut. ap (λ (l : LinkState). is_open l.phase) heard.at.link ∙ stays.shut (ap (λ (l : LinkState). is_open l.phase) (sym link) ∙ shut);
  joined = λ opened joined.
      let agreed : HasAgreed side own = joined_so side talk own staged joined
      in heard_joined side next heard.then heard.staged opened
      (λ none. some_begun (other side) agreed.heard heard.messages
      (ap (λ (list : List LineMessage). list ++ heard.messages) (sym (stays.before_is ∙ agreed.heard_is)) ∙ (sym heard.heard ∙ none)));
}

-- the second end, when it has entered
hears_in : (names : LineNames) (side : Side) (now : ℕ) (old : Ends) (talk next : TalkState) (own far : Talked) (items : List Item) (end : End) (file : File) (busy : Bool)
    → (heard : HasHeard names side now old own far next items) → EntersThere side old heard.ends far heard.then heard.before heard.messages
    → GoesIn (half_at talk end file busy own.said own.heard) (half_at next (end_left (is_joined talk) end) file busy heard.then.said heard.before)
hears_in names side now old talk next own far items end file busy heard enters = record {
  out = left_twice (is_joined talk) end;
  file = refl;
  busy = refl;
  said = enters.said;
  heard = enters.before_is;
  unjoined = by_joined (is_joined next) refl;
}
  where
    none_heard : heard.then.heard ≡ []
    none_heard = heard.heard ∙ (ap (λ (list : List LineMessage). list ++ heard.messages) enters.before_is ∙ enters.no_messages)

    by_joined : (b : Bool) → is_joined next ≡ b → is_joined next ≡ false
    by_joined true joined =
        let agreed : HasAgreed side heard.then = joined_so side next heard.then heard.staged joined
        in absurd (some_begun (other side) agreed.heard [] (append-nil (begun_with (other side) agreed.heard) ∙ (sym agreed.heard_is ∙ none_heard)))
    by_joined false down = down

pub hears_quietly : Laws → (names : LineNames) (side : Side) (now : ℕ) (old : Ends) (talk next : TalkState) (own far : Talked) (items : List Item) (end : End) (file : File) (busy : Bool)
    (half : Half) → AreEnds (link_names names) old → talk.link ≡ (near_end side old).link → IsStaged side talk own → (heard : HasHeard names side now old own far next items) → IsFar side old far half
    → Quietly (line_by side (is_same old) (half_at talk end file busy own.said own.heard) half)
    (line_by side (is_same heard.ends) (half_at next (end_left (is_joined talk) end) file busy heard.then.said heard.before) half)
hears_quietly laws names side now old talk next own far items end file busy half ends link staged heard far_is = by_entry heard.entry
  where
    before : Half
    before = half_at talk end file busy own.said own.heard

    then : Half
    then = half_at next (end_left (is_joined talk) end) file busy heard.then.said heard.before

    by_side : (s : Side) → s ≡ Second → GoesIn before then → before.opened ≡ false → before.joined ≡ false → half.said ≡ []
        → Quietly (line_by s false before half) (line_by s true then half)
    by_side First is goes shut down silent = absurd (not_second is)
    by_side Second is goes shut down silent = goes_in before then half goes shut down silent

    by_entry : EntersThere side old heard.ends far heard.then heard.before heard.messages ⊎ StaysThere side old heard.ends own heard.then heard.before
        → Quietly (line_by side (is_same old) before half) (line_by side (is_same heard.ends) then half)
    by_entry (inr stays) =
        quiet_then (goes_on side (is_same old) before then half (hears_on names side now old talk next own far items end file busy link staged heard stays)
        (λ opened. there_is laws names side old ends (ap (λ (l : LinkState). is_open l.phase) (sym link) ∙ opened)))
        (by_none (ap (λ (same : Bool). line_by side same then half) (same_on side old heard.ends stays.connection heard.on.far_same)))
    by_entry (inl enters) =
        let shut : is_open talk.link.phase ≡ false = ap (λ (l : LinkState). is_open l.phase) link ∙ enters.out
        in quiet_then (by_none (ap (λ (same : Bool). line_by side same before half) (apart_is old enters.apart)))
        (quiet_then (by_side side enters.second (hears_in names side now old talk next own far items end file busy heard enters) shut (shut_down talk shut) (far_is.said ∙ enters.silent))
        (by_none (ap (λ (same : Bool). line_by side same then half) (sym (same_is heard.ends enters.same)))))

-- ---- its look

pub record LooksTo (side : Side) (seen : Seen) (line next : Line) : Type 0 where
  pub count : ℕ
  pub outcome : Outcome
  pub is : after right_rules (Looks side seen count outcome) line ≡ next

pub has_more : (said heard : List LineMessage) → Follows said heard → HasMore said heard
has_more said heard follows = record { rest = items_of follows.rest; is = ap items_of follows.is ∙ items_append heard follows.rest }

-- what is to come to it: the items that it was told, and then what it will not have heard then
pub coming_is : (said before messages heard : List LineMessage) (items : List Item) → Follows said heard → heard ≡ before ++ messages → items_of messages ≡ items
    → unheard said before ≡ items ++ unheard said heard
coming_is said before messages heard items follows heard_is told =
    let rest : List Item = items_of follows.rest
    in let all : items_of said ≡ items_of heard ++ rest = ap items_of follows.is ∙ items_append heard follows.rest
    in let split : items_of heard ≡ items_of before ++ items_of messages = ap items_of heard_is ∙ items_append before messages
    in let later : unheard said heard ≡ rest = ap (drop (length (items_of heard))) all ∙ drop_front (items_of heard) rest
    in let whole : items_of said ≡ items_of before ++ (items_of messages ++ rest) =
    all ∙ (ap (λ (list : List Item). list ++ rest) split ∙ append_assoc (items_of before) (items_of messages) rest)
    in ap (drop (length (items_of before))) whole
    ∙ (drop_front (items_of before) (items_of messages ++ rest)
    ∙ (ap (λ (list : List Item). list ++ rest) told ∙ ap (λ (list : List Item). items ++ list) (sym later)))

more_said : (said : List LineMessage) (items : List Item) → items_of (said ++ map Says items) ≡ items_of said ++ items
more_said said items = items_append said (map Says items) ∙ ap (λ (list : List Item). items_of said ++ list) (items_are items)

-- by the half that the end is then
half_is : (opened joined opened_then joined_then : Bool) (end : End) (file : File) (busy : Bool) (said heard : List LineMessage) → opened ≡ opened_then → joined ≡ joined_then
    → ◌≡◌ {A = Half} (record { opened = opened; joined = joined; end = end; file = file; busy = busy; said = said; heard = heard })
    (record { opened = opened_then; joined = joined_then; end = end; file = file; busy = busy; said = said; heard = heard })
half_is opened joined opened_then joined_then end file busy said heard first second =
    ap (λ (o : Bool). record { opened = o; joined = joined; end = end; file = file; busy = busy; said = said; heard = heard }) first
    ∙ ap (λ (j : Bool). record { opened = opened_then; joined = j; end = end; file = file; busy = busy; said = said; heard = heard }) second

pub gives_looked : Laws → (names : LineNames) (side : Side) (now : ℕ) (old : Ends) (next last : TalkState) (own far : Talked) (items : List Item) (seen : Seen) (end : End) (file : File)
    (busy : Bool) (half : Half) → (heard : HasHeard names side now old own far next items) → is_joined next ≡ true
    → (gives : HasGiven names side now heard.ends (step side true seen items end).given last heard.then far) → IsFar side heard.ends far half
    → LooksTo side seen (line_by side (is_same heard.ends) (half_at next end file busy heard.then.said heard.before) half)
    (line_by side (is_same gives.made.ends) (half_at last (step side true seen items end).end (file_of (step side true seen items end).end) seen.busy
    (heard.then.said ++ map Says (take gives.count (step side true seen items end).given)) heard.then.heard) half)
gives_looked laws names side now old next last own far items seen end file busy half heard joined gives far_is = by_open (is_open last.link.phase) refl
  where
    so_far : StepSoFar
    so_far = step side true seen items end

    opened : is_open next.link.phase ≡ true
    opened = joined_open next joined

    same : AreSame heard.ends
    same = up_is_same laws names side heard.ends heard.at.linked.are.timely (ap (λ (l : LinkState). is_up l.phase) (sym heard.at.link) ∙ joined_up next joined)
        (ap (λ (l : LinkState). is_open l.phase) (sym heard.at.link) ∙ opened)

    near : Half
    near = half_at next end file busy heard.then.said heard.before

    said : List LineMessage
    said = heard.then.said ++ map Says (take gives.count so_far.given)

    then : Half
    then = half_at last so_far.end (file_of so_far.end) seen.busy said heard.then.heard

    coming : unheard half.said near.heard ≡ items ++ unheard half.said heard.then.heard
    coming = subst (λ (s : List LineMessage). unheard s heard.before ≡ items ++ unheard s heard.then.heard) (sym far_is.said)
        (coming_is far.said heard.before heard.messages heard.then.heard items (heard.at.linked.back same) heard.heard (heard.told opened))

    has : HasMore near.said half.heard
    has = subst (HasMore heard.then.said) (sym far_is.heard) (has_more heard.then.said far.heard (heard.at.linked.there same))

    together : is_same heard.ends ≡ true
    together = same_is heard.ends same

    together_then : true ≡ is_same gives.made.ends
    together_then = sym together ∙ same_on side heard.ends gives.made.ends gives.made.connection gives.made.on.far_same

    by_line : (count : ℕ) (outcome : Outcome) (after_it : Half) → after right_rules (Looks side seen count outcome) (line_by side true near half) ≡ line_by side true after_it half
        → after_it ≡ then → LooksTo side seen (line_by side (is_same heard.ends) near half) (line_by side (is_same gives.made.ends) then half)
    by_line count outcome after_it is then_is = record {
      count = count;
      outcome = outcome;
      is =
          ap (λ (b : Bool). after right_rules (Looks side seen count outcome) (line_by side b near half)) together
          ∙ (is ∙ (ap (λ (h : Half). line_by side true h half) then_is ∙ ap (λ (b : Bool). line_by side b then half) together_then));
    }

    still_joined : is_open last.link.phase ≡ true → is_joined next ≡ is_joined last
    still_joined still = joined ∙ sym (heard_joined side last (saying_more (map Says (take gives.count so_far.given)) heard.then) gives.staged still
        (λ none. some_begun (other side) (joined_so side next heard.then heard.staged joined).heard []
        (append-nil (begun_with (other side) (joined_so side next heard.then heard.staged joined).heard) ∙ (sym (joined_so side next heard.then heard.staged joined).heard_is ∙ none))))

    by_open : (b : Bool) → is_open last.link.phase ≡ b → LooksTo side seen (line_by side (is_same heard.ends) near half) (line_by side (is_same gives.made.ends) then half)
    by_open true still =
        by_line (length items) Whole (looked_half seen so_far said heard.then.heard near)
        (looks_joined side near half seen items said heard.then.heard opened joined coming has
        (more_said heard.then.said (take gives.count so_far.given) ∙ ap (λ (list : List Item). items_of heard.then.said ++ list) (gives.all still)))
        (half_is (is_open next.link.phase) (is_joined next) (is_open last.link.phase) (is_joined last) so_far.end (file_of so_far.end) seen.busy said heard.then.heard
        (opened ∙ sym still) (still_joined still))
    by_open false shut =
        by_line (length items) (Refused gives.count) (left_half seen so_far.end (file_of so_far.end) said heard.then.heard near)
        (looks_refused side near half seen items gives.count said heard.then.heard heard.then.heard opened joined coming has (more_said heard.then.said (take gives.count so_far.given)))
        (half_is false false (is_open last.link.phase) (is_joined last) so_far.end (file_of so_far.end) seen.busy said heard.then.heard (sym shut) (sym (shut_down last shut)))

-- what it has heard is of no account where it is in no connection
same_heard : (side : Side) (same : Bool) (near far : Half) (heard : List LineMessage) → (near.opened ≡ true → near.heard ≡ heard)
    → line_by side same near far ≡ line_by side same (record near { heard = heard }) far
same_heard side same near far heard is = by_side side near.opened refl
  where
    by_side : (s : Side) (b : Bool) → near.opened ≡ b → line_by s same near far ≡ line_by s same (record near { heard = heard }) far
    by_side s true opened = ap (λ (h : List LineMessage). line_by s same (record near { heard = h }) far) (is opened)
    by_side First false shut = rw shut refl
    by_side Second false shut = rw shut refl

pub unjoined_heard : (names : LineNames) (side : Side) (now : ℕ) (old : Ends) (next : TalkState) (own far : Talked) (items : List Item) → (heard : HasHeard names side now old own far next items)
    → is_joined next ≡ false → is_open next.link.phase ≡ true → heard.before ≡ heard.then.heard
unjoined_heard names side now old next own far items heard down opened = by_none heard.then.heard refl
  where
    by_none : (list : List LineMessage) → heard.then.heard ≡ list → heard.before ≡ heard.then.heard
    by_none [] is = front_none heard.before heard.messages (sym heard.heard ∙ is) ∙ sym is
    by_none (first ∷ others) is =
        absurd (false≢true (sym down ∙ heard_joined side next heard.then heard.staged opened (λ none. no_cell first others (sym is ∙ none))))
      where
        no_cell : (one : LineMessage) (more : List LineMessage) → one ∷ more ≡ [] → ⊥
        no_cell one more none = cc

pub unjoined_looked : (names : LineNames) (side : Side) (now : ℕ) (old : Ends) (next : TalkState) (own far : Talked) (items : List Item) (seen : Seen) (end : End) (file : File)
    (busy : Bool) (half : Half) → (heard : HasHeard names side now old own far next items) → is_joined next ≡ false
    → LooksTo side seen (line_by side (is_same heard.ends) (half_at next end file busy heard.then.said heard.before) half)
    (line_by side (is_same heard.ends) (half_at next (step side false seen items end).end (file_of (step side false seen items end).end) seen.busy heard.then.said heard.then.heard) half)
unjoined_looked names side now old next own far items seen end file busy half heard down =
    let near : Half = half_at next end file busy heard.then.said heard.before
    in let so_far : StepSoFar = step side false seen items end
    in record {
      count = length items;
      outcome = Whole;
      is =
          looks_unjoined side (is_same heard.ends) near half seen items down
          ∙ same_heard side (is_same heard.ends) (half_at next so_far.end (file_of so_far.end) seen.busy heard.then.said heard.before) half heard.then.heard
          (unjoined_heard names side now old next own far items heard down);
    }

-- ---- to where it has told all

-- by own calls by which nothing is said
pub keeps_quietly : Laws → (names : LineNames) (side : Side) (old new : Ends) (talk next : TalkState) (own : Talked) (end : End) (file : File) (busy : Bool) (half : Half)
    → AreEnds (link_names names) old → talk.link ≡ (near_end side old).link → next.greeting ≡ talk.greeting → far_end side new ≡ far_end side old → HasKept side old new talk next
    → Quietly (line_by side (is_same old) (half_at talk end file busy own.said own.heard) half) (line_by side (is_same new) (half_at next end file busy own.said own.heard) half)
keeps_quietly laws names side old new talk next own end file busy half ends link greeting far_same keeps =
    let before : Half = half_at talk end file busy own.said own.heard
    in let then : Half = half_at next end file busy own.said own.heard
    in quiet_then (goes_on side (is_same old) before then half (record {
      end = λ joined. refl;
      out = refl;
      apart = λ down joined. absurd (false≢true (sym down ∙ was_joined joined));
      file = refl;
      busy = refl;
      said = refl;
      heard = refl;
      joined_open = joined_open next;
      shut = shut_stays;
      joined = λ opened joined. same_joined opened ∙ joined;
    })
    (λ opened. there_is laws names side old ends (ap (λ (l : LinkState). is_open l.phase) (sym link) ∙ opened)))
    (by_none (ap (λ (same : Bool). line_by side same then half) (same_on side old new keeps.connection far_same)))
  where
    same_joined : is_open next.link.phase ≡ true → is_joined next ≡ is_joined talk
    same_joined opened =
        ap (λ (p : _). is_up p && is_agreed next.greeting.stage) (keeps.stays opened) ∙ ap (λ (g : _). is_up talk.link.phase && is_agreed g.stage) greeting

    was_joined : is_joined next ≡ true → is_joined talk ≡ true
    was_joined joined = sym (same_joined (joined_open next joined)) ∙ joined

    shut_stays : is_open talk.link.phase ≡ false → is_open next.link.phase ≡ false
    shut_stays shut = by_open (is_open next.link.phase) refl
      where
        by_open : (b : Bool) → is_open next.link.phase ≡ b → is_open next.link.phase ≡ false
        by_open true opened = absurd (false≢true (sym shut ∙ (sym (ap is_open (keeps.stays opened)) ∙ opened)))
        by_open false is = is

down_unjoined : (talk : TalkState) → is_up talk.link.phase ≡ false → is_joined talk ≡ false
down_unjoined talk down = ap (λ (b : Bool). b && is_agreed talk.greeting.stage) down

-- by a request
pub asks_quietly : (side : Side) (old new : Ends) (talk next : TalkState) (own then : Talked) (end : End) (file : File) (busy : Bool) (far : Talked) (half : Half)
    → HasAsked side old new talk next then → IsFar side old far half
    → Quietly (line_by side (is_same old) (half_at talk end file busy own.said own.heard) half) (line_by side (is_same new) (half_at next end file busy then.said then.heard) half)
asks_quietly side old new talk next own then end file busy far half asks far_is = by_side side asks.first
  where
    before : Half
    before = half_at talk end file busy own.said own.heard

    last : Half
    last = half_at next end file busy then.said then.heard

    then_is : starting before ≡ last
    then_is =
        half_is true false (is_open next.link.phase) (is_joined next) end file busy [] [] (sym asks.asks) (sym (down_unjoined next asks.unanswered))
        ∙ ap (λ (t : Talked). half_at next end file busy t.said t.heard) (sym asks.anew)

    by_side : (s : Side) → s ≡ First → Quietly (line_by s (is_same old) before half) (line_by s (is_same new) last half)
    by_side First is =
        by_one Opens tt (opens_is (is_same old) before half asks.shut (shut_down talk asks.shut) (far_is.opened ∙ asks.out)
        ∙ (ap (λ (h : Half). line_by First false h half) then_is ∙ ap (λ (b : Bool). line_by First b last half) (sym (apart_is new asks.apart))))
    by_side Second is = absurd (not_second (sym is))
