-- When it is told that a network is lost, or back.
use Rattle.std.proofs.Common.{◌≡◌, ◌∙◌, ◌≤◌, ◌+◌, ◌-◌, ◌&&◌, ℕ, Bool, true, false, List, [], ◌∷◌, All, Option, Some, None, if◌then◌else◌, refl, sym, ap, subst, arith}
use Rattle.std.proofs.lemmas.Bool.{le-leb, leb-true}
use Rattle.std.proofs.lemmas.List.Elements.{All-cons, All-head, All-nil, All-tail}
use Rattle.datagram_hold.specs.declared.network.Network.{Network}
use Rattle.datagram_hold.specs.declared.network.Network.TheVariants.{First, Second}
use Rattle.network_watch.specs.Histories.{IsLost, IsUpSince, Rises, RisesTo, Round, after, came_in, IsBefore, made, news_in}
use Rattle.network_watch.specs.Links.{is_silent, is_up_long, last_after, lost_after, news_by, news_of, path_after, path_in, used_after}
use Rattle.network_watch.specs.declared.link_watch.LinkWatch.{LinkWatch}
use Rattle.network_watch.specs.declared.path_seen.News.TheVariants.{Lost, Back}
use Rattle.network_watch.specs.declared.path_seen.PathSeen.{PathSeen}
use Rattle.network_watch.proofs.Up.{fits, fresh, is_up_for_long, rises_within, up_long_is}

-- ---- tests

true_not_false : true ≡ false → ⊥
true_not_false e = cc

both : (one other : Bool) → (one && other) ≡ true → (one ≡ true) × (other ≡ true)
both true other e = (refl, e)
both false other e = absurd (true_not_false (sym e))

-- ---- one network

abbrev came_now : Network → Round → LinkWatch → PathSeen
came_now over last link = record (path_in over link) { came = came_in over last }

-- how a link is used at the end of a round
abbrev used_then : Round → LinkWatch → Bool
used_then last link = is_up_long last.reading (used_after last.sent last.reading link.used)

path_made : (over : Network) (last : Round) (link : LinkWatch) → path_in over (made last link) ≡ path_after last.reading (used_then last link) (came_now over last link)
path_made First last link = refl
path_made Second last link = refl

-- what is told by the three tests
back_is_not_lost : Some Back ≡ Some Lost → ⊥
back_is_not_lost e = cc

none_is_not_lost : None ≡ Some Lost → ⊥
none_is_not_lost e = cc

none_is_not_back : None ≡ Some Back → ⊥
none_is_not_back e = cc

lost_by : (lost came due : Bool) → news_by lost came due ≡ Some Lost → (came ≡ false) × (due ≡ true)
lost_by true true due e = absurd (back_is_not_lost e)
lost_by false false true e = (refl, refl)
lost_by true false due e = absurd (none_is_not_lost e)
lost_by false true due e = absurd (none_is_not_lost e)
lost_by false false false e = absurd (none_is_not_lost e)

back_by : (lost came due : Bool) → news_by lost came due ≡ Some Back → (lost ≡ true) × (came ≡ true)
back_by true true due e = (refl, refl)
back_by false false true e = absurd (back_is_not_lost (sym e))
back_by true false due e = absurd (none_is_not_back e)
back_by false true due e = absurd (none_is_not_back e)
back_by false false false e = absurd (none_is_not_back e)

news_is : (over : Network) (last : Round) (rounds : List Round)
    → news_in over (last ∷ rounds) ≡ news_of last.reading (used_then last (after rounds)) (came_now over last (after rounds))
news_is over last rounds = ap (λ (p : PathSeen). p.news) (path_made over last (after rounds))

-- ---- silence

all_before : (over : Network) (low reading : ℕ) (rounds : List Round) → RisesTo low rounds → low + 1500 ≤ reading → All (IsBefore over reading) rounds
all_before over low reading [] rises le = All-nil (IsBefore over reading)
all_before over low reading (last ∷ rounds) rises le =
    All-cons (IsBefore over reading) last rounds (λ came. omega (arith, le, rises.0)) (all_before over last.reading reading rounds rises.1 (omega (arith, le, rises.0)))

-- nothing came in no round
path_silent : (over : Network) (reading : ℕ) → is_silent reading (path_in over (after [])).last ≡ true
path_silent First reading = refl
path_silent Second reading = refl

-- what came last in a round
last_is : (over : Network) (last : Round) (rounds : List Round) → (path_in over (after (last ∷ rounds))).last ≡ last_after last.reading (came_now over last (after rounds))
last_is over last rounds = ap (λ (p : PathSeen). p.last) (path_made over last (after rounds))

silent_by : (came : Bool) (over : Network) (reading : ℕ) (last : Round) (rounds : List Round) (before : Option ℕ) → came_in over last ≡ came → RisesTo last.reading rounds
    → (is_silent reading before ≡ true → All (IsBefore over reading) rounds) → is_silent reading (if came then Some last.reading else before) ≡ true → All (IsBefore over reading) (last ∷ rounds)
silent_by true over reading last rounds before came rises more is =
    let long = leb-true 1500 (reading - last.reading) is
    in let le : last.reading + 1500 ≤ reading = omega (arith, long)
    in All-cons (IsBefore over reading) last rounds (λ came. le) (all_before over last.reading reading rounds rises le)
silent_by false over reading last rounds before not rises more is =
    All-cons (IsBefore over reading) last rounds (λ came. absurd (true_not_false (sym came ∙ not))) (more is)

silent_is : (over : Network) (reading : ℕ) (rounds : List Round) → Rises rounds → is_silent reading (path_in over (after rounds)).last ≡ true → All (IsBefore over reading) rounds
silent_is over reading [] rises is = All-nil (IsBefore over reading)
silent_is over reading (last ∷ rounds) rises is =
    silent_by (came_in over last) over reading last rounds (path_in over (after rounds)).last refl rises
    (λ before. silent_is over reading rounds (rises_within last.reading rounds rises) before) (subst (λ l. is_silent reading l ≡ true) (last_is over last rounds) is)

silent_then_by : (came : Bool) (over : Network) (reading : ℕ) (last : Round) (before : Option ℕ) → came_in over last ≡ came → IsBefore over reading last → is_silent reading before ≡ true
    → is_silent reading (if came then Some last.reading else before) ≡ true
silent_then_by true over reading last before came is more = let le = is came in le-leb 1500 (reading - last.reading) (omega (arith, le))
silent_then_by false over reading last before not is more = more

is_silent_then : (over : Network) (reading : ℕ) (rounds : List Round) → All (IsBefore over reading) rounds → is_silent reading (path_in over (after rounds)).last ≡ true
is_silent_then over reading [] all = path_silent over reading
is_silent_then over reading (last ∷ rounds) all =
    subst (λ l. is_silent reading l ≡ true) (sym (last_is over last rounds))
    (silent_then_by (came_in over last) over reading last (path_in over (after rounds)).last refl (All-head (IsBefore over reading) last rounds all)
    (is_silent_then over reading rounds (All-tail (IsBefore over reading) last rounds all)))

-- ---- the laws

due_is : (over : Network) (last : Round) (rounds : List Round) → news_in over (last ∷ rounds) ≡ Some Lost
    → (came_in over last ≡ false) × ((used_then last (after rounds) && is_silent last.reading (path_in over (after rounds)).last) ≡ true)
due_is over last rounds told =
    lost_by (path_in over (after rounds)).is_lost (came_in over last) (used_then last (after rounds) && is_silent last.reading (path_in over (after rounds)).last) (sym (news_is over last rounds) ∙ told)

pub silent_where_lost : (over : Network) (last : Round) (rounds : List Round) → Rises (last ∷ rounds) → news_in over (last ∷ rounds) ≡ Some Lost → All (IsBefore over last.reading) (last ∷ rounds)
silent_where_lost over last rounds rises told =
    let due = due_is over last rounds told
    in let tests = both (used_then last (after rounds)) (is_silent last.reading (path_in over (after rounds)).last) due.1
    in All-cons (IsBefore over last.reading) last rounds (λ came. absurd (true_not_false (sym came ∙ due.0)))
    (silent_is over last.reading rounds (rises_within last.reading rounds rises) tests.1)

pub up_where_lost : (over : Network) (last : Round) (rounds : List Round) → Rises (last ∷ rounds) → news_in over (last ∷ rounds) ≡ Some Lost
    → (since : ℕ) × (since + 1500 ≤ last.reading) × IsUpSince since last.reading (last ∷ rounds)
up_where_lost over last rounds rises told =
    let due = due_is over last rounds told
    in let tests = both (used_then last (after rounds)) (is_silent last.reading (path_in over (after rounds)).last) due.1
    in up_long_is last.reading (last ∷ rounds) (after (last ∷ rounds)).used (fits (last ∷ rounds) rises) (fresh last.sent last.reading (after rounds).used) tests.0

not_came : (over : Network) (last : Round) (came : Bool) → came_in over last ≡ came → IsBefore over last.reading last → came ≡ false
not_came over last true is before = let late = before is in absurd (omega (arith, late))
not_came over last false is before = refl

is_lost_by : (lost came due : Bool) → came ≡ false → due ≡ true → lost_after lost (news_by lost came due) ≡ true
is_lost_by true false true not is = refl
is_lost_by false false true not is = refl
is_lost_by lost true due not is = absurd (true_not_false not)
is_lost_by lost false false not is = absurd (true_not_false (sym is))

is_both : (one other : Bool) → one ≡ true → other ≡ true → (one && other) ≡ true
is_both true true one other = refl
is_both false other one two = one
is_both true false one other = other

pub lost_where_silent : (over : Network) (since : ℕ) (last : Round) (rounds : List Round) → Rises (last ∷ rounds) → All (IsBefore over last.reading) (last ∷ rounds) → since + 1500 ≤ last.reading
    → IsUpSince since last.reading (last ∷ rounds) → IsLost over (last ∷ rounds)
lost_where_silent over since last rounds rises all long up =
    let later : RisesTo last.reading (last ∷ rounds) = (omega arith, rises)
    in let used = is_up_for_long since last.reading (last ∷ rounds) (after (last ∷ rounds)).used (fits (last ∷ rounds) rises) later long up
    in let silent = is_silent_then over last.reading rounds (All-tail (IsBefore over last.reading) last rounds all)
    in let not = not_came over last (came_in over last) refl (All-head (IsBefore over last.reading) last rounds all)
    in ap (λ (p : PathSeen). p.is_lost) (path_made over last (after rounds))
    ∙ is_lost_by (path_in over (after rounds)).is_lost (came_in over last) (used_then last (after rounds) && is_silent last.reading (path_in over (after rounds)).last) not
    (is_both (used_then last (after rounds)) (is_silent last.reading (path_in over (after rounds)).last) used silent)

pub lost_where_back : (over : Network) (last : Round) (rounds : List Round) → news_in over (last ∷ rounds) ≡ Some Back → (came_in over last ≡ true) × IsLost over rounds
lost_where_back over last rounds told =
    let tests =
    back_by (path_in over (after rounds)).is_lost (came_in over last) (used_then last (after rounds) && is_silent last.reading (path_in over (after rounds)).last) (sym (news_is over last rounds) ∙ told)
    in (tests.1, tests.0)
