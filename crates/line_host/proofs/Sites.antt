-- The file of a host, and its steps as moves of the line.
use Rattle.std.proofs.Common.{◌≡◌, ◌⊎◌, ⊎_elim, inl, inr, ℕ, Bool, true, false, cond, List, [], ◌∷◌, Option, Some, None, refl, sym, ap, ◌∙◌}
use Rattle.std.specs.Prelude.{map, Result}
use Rattle.whole_file.specs.declared.call.NotKept.{NotKept}
use Rattle.whole_file.specs.Calls.{Made, failed_call, recorded}
use Rattle.line_laws.specs.declared.words.Side.{Side}
use Rattle.line_laws.specs.declared.words.Position.{Position}
use Rattle.line_laws.specs.declared.words.Position.TheVariants.{Left, Right}
use Rattle.line_laws.specs.declared.words.Item.{Item}
use Rattle.line_laws.specs.End.{File, End, Seen, file_of, unlinked}
use Rattle.line_laws.specs.Step.{StepSoFar, step}
use Rattle.line_laws.specs.Link.{Place, is_up, coming_taken, coming_more}
use Rattle.line_laws.specs.Line as line
use Rattle.line_laws.specs.Line.{Node, Gives, Whole, right_rules, file_after, items_given}
use Rattle.line_end.specs.State.{EndState, StepOutput, changed_file, output, stepped}
use Rattle.rasta_core.specs.Clock.{settled}
use Rattle.line_host.specs.Talk.{TalkState, is_joined, meeting, giving_all}
use Rattle.line_host.specs.Host.{HostState, HostHeard, left, begun, given, heard_by, looked, to_do, ticked, told, writes, emptied, file_calls, host_step, new_host}
use Rattle.line_host.specs.Sites.{Site, StepMade, kept_file, is_kept, gone_on, site_after, all_after, IsFileKept, IsNear}
use Rattle.line_host.specs.declared.input.Input.{Input}
use Rattle.line_host.specs.declared.input.Input.TheVariants as inputs
use Rattle.line_host.specs.declared.parties.Parties.{Parties}

-- ---- the file

changed_kept : (old new : File) → kept_file (changed_file old new) old ≡ new
changed_kept old new = by_values old.token new.token old.lock new.lock
  where
    by_values : (token other : Bool) (lock place : Position) → kept_file (changed_file (record { token = token; lock = lock }) (record { token = other; lock = place })) (record { token = token; lock = lock }) ≡ record { token = other; lock = place }
    by_values true true Left Left = refl
    by_values true true Left Right = refl
    by_values true true Right Left = refl
    by_values true true Right Right = refl
    by_values true false Left Left = refl
    by_values true false Left Right = refl
    by_values true false Right Left = refl
    by_values true false Right Right = refl
    by_values false true Left Left = refl
    by_values false true Left Right = refl
    by_values false true Right Left = refl
    by_values false true Right Right = refl
    by_values false false Left Left = refl
    by_values false false Left Right = refl
    by_values false false Right Left = refl
    by_values false false Right Right = refl

left_file : (host : HostState) → file_of (left host).end.end ≡ file_of host.end.end
left_file host = by_test (is_joined host.talk)
  where
    by_test : (joined : Bool) → file_of (cond joined host (record host { end = record host.end { end = unlinked host.end.end } })).end.end ≡ file_of host.end.end
    by_test true = refl
    by_test false = refl

begun_file : (now : ℕ) (host : HostState) → file_of (begun now host).end.end ≡ file_of host.end.end
unfolding begun
begun_file now host = left_file (record host { talk = meeting now (record host.talk { link = settled now host.talk.link }) })

given_file : (now : ℕ) (input : Input) (host : HostState) → file_of (given now input host).host.end.end ≡ file_of host.end.end
unfolding given
given_file now inputs.Tick host = refl
given_file now (inputs.Datagram bytes) host = refl
given_file now inputs.Look host = refl

-- what the step leaves but for a loss in it
abbrev gone_from : ℕ → Input → Seen → HostHeard → HostState
gone_from now input seen heard = record (looked seen heard) { talk = ticked now input (giving_all now (to_do seen heard).items (looked seen heard).talk) }

step_file : (now : ℕ) (input : Input) (seen : Seen) (host : HostState)
    → file_of (host_step now input seen host).end.end ≡ file_of (looked seen (heard_by now input host)).end.end
unfolding host_step
step_file now input seen host = left_file (gone_from now input seen (heard_by now input host))

pub kept_step : (now : ℕ) (input : Input) (seen : Seen) (host : HostState) (file : File) → file ≡ file_of host.end.end
    → kept_file (writes now input seen host) file ≡ file_of (host_step now input seen host).end.end
kept_step now input seen host file is =
    let heard = heard_by now input host
    in let begins : file ≡ file_of heard.host.end.end = is ∙ (sym (begun_file now host) ∙ sym (given_file now input (begun now host)))
    in ap (kept_file (writes now input seen host)) begins
    ∙ (changed_kept (file_of heard.host.end.end) (file_of (looked seen heard).end.end) ∙ sym (step_file now input seen host))

gone_kept : (made : StepMade) (site : Site) → site.file ≡ file_of site.host.end.end → IsFileKept (gone_on made site)
gone_kept made site is = by_call (is_kept (writes made.now made.input made.seen (emptied site.host)) made.failing)
  where
    by_call : (kept : Bool) → IsFileKept (cond kept
        (record { host = host_step made.now made.input made.seen (emptied site.host); file = kept_file (writes made.now made.input made.seen (emptied site.host)) site.file })
        (record site { host = record (emptied site.host) { over = true } }))
    by_call true = λ going. kept_step made.now made.input made.seen (emptied site.host) site.file is
    by_call false = λ going. absurd (cc (going))

after_kept : (made : StepMade) (site : Site) → IsFileKept site → IsFileKept (site_after made site)
after_kept made site kept = by_over site.host.over refl
  where
    by_over : (over : Bool) → site.host.over ≡ over → IsFileKept (cond over site (gone_on made site))
    by_over true is = kept
    by_over false is = gone_kept made site (kept is)

run_kept : (steps : List StepMade) (site : Site) → IsFileKept site → IsFileKept (all_after steps site)
run_kept [] site kept = kept
run_kept (made ∷ others) site kept = run_kept others (site_after made site) (after_kept made site kept)

pub left_on_disk : (parties : Parties) (first_sequence_number now version : ℕ) (file : File) (steps : List StepMade)
    → IsFileKept (all_after steps (record { host = new_host parties first_sequence_number now version file; file = file }))
left_on_disk parties first_sequence_number now version file steps =
    run_kept steps (record { host = new_host parties first_sequence_number now version file; file = file }) (λ going. refl)

-- ---- out of any connection

left_unlinked : (host : HostState) → is_joined (left host).talk ≡ false → (left host).end.end ≡ unlinked (left host).end.end
left_unlinked host = by_test (is_joined host.talk) refl
  where
    by_test : (joined : Bool) → is_joined host.talk ≡ joined
        → is_joined (cond joined host (record host { end = record host.end { end = unlinked host.end.end } })).talk ≡ false
        → (cond joined host (record host { end = record host.end { end = unlinked host.end.end } })).end.end
        ≡ unlinked (cond joined host (record host { end = record host.end { end = unlinked host.end.end } })).end.end
    by_test true is not = absurd (cc (is, not))
    by_test false is not = refl

pub step_unlinked : (now : ℕ) (input : Input) (seen : Seen) (host : HostState) → let next = host_step now input seen host
    in is_joined next.talk ≡ false → next.end.end ≡ unlinked next.end.end
unfolding host_step
step_unlinked now input seen host = left_unlinked (gone_from now input seen (heard_by now input host))

-- ---- as a move

all_given : (items : List Item) → items_given (map Gives items) ≡ items
all_given [] = refl
all_given (item ∷ items) = ap (λ (list : List Item). item ∷ list) (all_given items)

file_stays : (items : List Item) (file : File) → file_after (map Gives items) file ≡ file
file_stays [] file = refl
file_stays (item ∷ items) file = file_stays items file

-- both make the same step
same_step : (seen : Seen) (heard : HostHeard) (count : ℕ) (near : Node) → IsNear heard count near
    → step heard.host.end.side (is_up near.place) seen (coming_taken near.place count near.coming) near.end
    ≡ step heard.host.end.side (is_joined heard.host.talk) seen heard.items heard.host.end.end
same_step seen heard count near is =
    ap (λ (up : Bool). step heard.host.end.side up seen (coming_taken near.place count near.coming) near.end) is.up
    ∙ (ap (λ (items : List Item). step heard.host.end.side (is_joined heard.host.talk) seen items near.end) is.items
    ∙ ap (λ (end : End). step heard.host.end.side (is_joined heard.host.talk) seen heard.items end) is.end)

pub moves_end : (seen : Seen) (heard : HostHeard) (count : ℕ) (near far : Node) → IsNear heard count near
    → (line.looked right_rules heard.host.end.side seen count Whole near far).near.end ≡ (looked seen heard).end.end
moves_end seen heard count near far is = ap (λ (s : StepSoFar). s.end) (same_step seen heard count near is)

pub moves_file : (seen : Seen) (heard : HostHeard) (count : ℕ) (near far : Node) → IsNear heard count near
    → (line.looked right_rules heard.host.end.side seen count Whole near far).near.file ≡ file_of (looked seen heard).end.end
moves_file seen heard count near far is =
    file_stays (step heard.host.end.side (is_up near.place) seen (coming_taken near.place count near.coming) near.end).given _
    ∙ ap (λ (s : StepSoFar). file_of s.end) (same_step seen heard count near is)

pub moves_give : (seen : Seen) (heard : HostHeard) (count : ℕ) (near far : Node) → IsNear heard count near
    → (line.looked right_rules heard.host.end.side seen count Whole near far).far.coming ≡ coming_more far.place (to_do seen heard).items far.coming
moves_give seen heard count near far is =
    ap (λ (items : List Item). coming_more far.place items far.coming)
    (all_given (step heard.host.end.side (is_up near.place) seen (coming_taken near.place count near.coming) near.end).given
    ∙ ap (λ (s : StepSoFar). s.given) (same_step seen heard count near is))

-- ---- the end looks, in the code

pub looks : (seen : Seen) (items : List Item) (old inside : HostState) (up : Bool) (end : EndState) (busy : Bool) → inside ≡ old → up ≡ is_joined inside.talk
    → end ≡ stepped up seen items inside.end → busy ≡ seen.busy → record inside { end = end; busy = busy } ≡ looked seen (record { host = old; items = items })
looks seen items old inside up end busy same up-is end-is busy-is =
    ap (λ (e : EndState). record inside { end = e; busy = busy }) (end-is ∙ ap (λ (u : Bool). stepped u seen items inside.end) up-is)
    ∙ (ap (λ (b : Bool). record inside { end = stepped (is_joined inside.talk) seen items inside.end; busy = b }) busy-is
    ∙ ap (λ (h : HostState). looked seen (record { host = h; items = items })) same)

pub hands_out : (seen : Seen) (items : List Item) (old inside : HostState) (up : Bool) (out : StepOutput) → inside ≡ old → up ≡ is_joined inside.talk
    → out ≡ output up seen items inside.end → out ≡ to_do seen (record { host = old; items = items })
hands_out seen items old inside up out same up-is is =
    is ∙ (ap (λ (u : Bool). output u seen items inside.end) up-is ∙ ap (λ (h : HostState). to_do seen (record { host = h; items = items })) same)

-- ---- the whole step, in the code

left_line : (host : HostState) → (left host).line ≡ host.line
left_line host = by_test (is_joined host.talk)
  where
    by_test : (joined : Bool) → (cond joined host (record host { end = record host.end { end = unlinked host.end.end } })).line ≡ host.line
    by_test true = refl
    by_test false = refl

left_side : (host : HostState) → (left host).end.side ≡ host.end.side
left_side host = by_test (is_joined host.talk)
  where
    by_test : (joined : Bool) → (cond joined host (record host { end = record host.end { end = unlinked host.end.end } })).end.side ≡ host.end.side
    by_test true = refl
    by_test false = refl

begun_owner : (now : ℕ) (host : HostState) → ((begun now host).line ≡ host.line) × ((begun now host).end.side ≡ host.end.side)
unfolding begun
begun_owner now host =
    let settled_host : HostState = record host { talk = meeting now (record host.talk { link = settled now host.talk.link }) }
    in (left_line settled_host, left_side settled_host)

given_owner : (now : ℕ) (input : Input) (host : HostState) → ((given now input host).host.line ≡ host.line) × ((given now input host).host.end.side ≡ host.end.side)
unfolding given
given_owner now inputs.Tick host = (refl, refl)
given_owner now (inputs.Datagram bytes) host = (refl, refl)
given_owner now inputs.Look host = (refl, refl)

heard_so : (now : ℕ) (input : Input) (old h0 h1 h2 : HostState) (items slice : List Item) → h0 ≡ emptied old → h1 ≡ begun now h0
    → record { host = h2; items = items } ≡ given now input h1 → slice ≡ items → record { host = h2; items = slice } ≡ heard_by now input (emptied old)
heard_so now input old h0 h1 h2 items slice h0-is h1-is given-is slice-is =
    ap (λ (l : List Item). record { host = h2; items = l }) slice-is ∙ (given-is ∙ ap (given now input) (h1-is ∙ ap (begun now) h0-is))

pub step_done : (now : ℕ) (input : Input) (seen : Seen) (old h0 h1 h2 : HostState) (items slice : List Item) (h3 : HostState) (out : StepOutput) (said : List Item) (last : HostState)
    → h0 ≡ emptied old → h1 ≡ begun now h0 → record { host = h2; items = items } ≡ given now input h1 → slice ≡ items
    → h3 ≡ looked seen (record { host = h2; items = slice }) → out ≡ to_do seen (record { host = h2; items = slice }) → said ≡ out.items
    → last ≡ told now input said h3 → last ≡ host_step now input seen (emptied old)
unfolding host_step
step_done now input seen old h0 h1 h2 items slice h3 out said last h0-is h1-is given-is slice-is h3-is out-is said-is last-is =
    let heard = heard_so now input old h0 h1 h2 items slice h0-is h1-is given-is slice-is
    in last-is
    ∙ (ap (λ (l : List Item). told now input l h3) (said-is ∙ ap (λ (o : StepOutput). o.items) (out-is ∙ ap (to_do seen) heard))
    ∙ ap (λ (h : HostState). told now input (to_do seen (heard_by now input (emptied old))).items h) (h3-is ∙ ap (looked seen) heard))

pub file_done : {T : Type 0} (now : ℕ) (input : Input) (seen : Seen) (old h0 h1 h2 : HostState) (items slice : List Item) (h3 : HostState) (out : StepOutput)
    (written : Option File) (answer result : Result T NotKept) (calls before : Option (List Made))
    → h0 ≡ emptied old → h1 ≡ begun now h0 → record { host = h2; items = items } ≡ given now input h1 → slice ≡ items
    → h3 ≡ looked seen (record { host = h2; items = slice }) → out ≡ to_do seen (record { host = h2; items = slice }) → written ≡ out.written
    → answer ≡ result → calls ≡ recorded (file_calls h3.line h3.end.side written (failed_call answer)) before
    → calls ≡ recorded (file_calls old.line old.end.side (writes now input seen (emptied old)) (failed_call result)) before
file_done {T} now input seen old h0 h1 h2 items slice h3 out written answer result calls before h0-is h1-is given-is slice-is h3-is out-is written-is answer-is calls-are =
    let heard = heard_so now input old h0 h1 h2 items slice h0-is h1-is given-is slice-is
    in let looks-is : h3 ≡ looked seen (heard_by now input (emptied old)) = h3-is ∙ ap (looked seen) heard
    in let from-begun = given_owner now input (begun now (emptied old))
    in let from-old = begun_owner now (emptied old)
    in let line-is : h3.line ≡ old.line = ap (λ (h : HostState). h.line) looks-is ∙ (from-begun.0 ∙ from-old.0)
    in let side-is : h3.end.side ≡ old.end.side = ap (λ (h : HostState). h.end.side) looks-is ∙ (from-begun.1 ∙ from-old.1)
    in let file-is : written ≡ writes now input seen (emptied old) = written-is ∙ ap (λ (o : StepOutput). o.written) (out-is ∙ ap (to_do seen) heard)
    in calls-are
    ∙ (ap (λ (l : List ℕ). recorded (file_calls l h3.end.side written (failed_call answer)) before) line-is
    ∙ (ap (λ (s : Side). recorded (file_calls old.line s written (failed_call answer)) before) side-is
    ∙ (ap (λ (f : Option File). recorded (file_calls old.line old.end.side f (failed_call answer)) before) file-is
    ∙ ap (λ (a : Result T NotKept). recorded (file_calls old.line old.end.side (writes now input seen (emptied old)) (failed_call a)) before) answer-is)))

-- ---- a host that isn't over goes on

left_over : (host : HostState) → (left host).over ≡ host.over
left_over host = by_test (is_joined host.talk)
  where
    by_test : (joined : Bool) → (cond joined host (record host { end = record host.end { end = unlinked host.end.end } })).over ≡ host.over
    by_test true = refl
    by_test false = refl

begun_over : (now : ℕ) (host : HostState) → (begun now host).over ≡ host.over
unfolding begun
begun_over now host = left_over (record host { talk = meeting now (record host.talk { link = settled now host.talk.link }) })

given_over : (now : ℕ) (input : Input) (host : HostState) → (given now input host).host.over ≡ host.over
unfolding given
given_over now inputs.Tick host = refl
given_over now (inputs.Datagram bytes) host = refl
given_over now inputs.Look host = refl

pub step_over : (now : ℕ) (input : Input) (seen : Seen) (host : HostState) → (host_step now input seen host).over ≡ host.over
unfolding host_step
step_over now input seen host = left_over (gone_from now input seen (heard_by now input host)) ∙ (given_over now input (begun now host) ∙ begun_over now host)

pub writes_done : (now : ℕ) (input : Input) (seen : Seen) (old h0 h1 h2 : HostState) (items slice : List Item) (out : StepOutput) (written : Option File)
    → h0 ≡ emptied old → h1 ≡ begun now h0 → record { host = h2; items = items } ≡ given now input h1 → slice ≡ items
    → out ≡ to_do seen (record { host = h2; items = slice }) → written ≡ out.written → written ≡ writes now input seen (emptied old)
writes_done now input seen old h0 h1 h2 items slice out written h0-is h1-is given-is slice-is out-is written-is =
    written-is ∙ ap (λ (o : StepOutput). o.written) (out-is ∙ ap (to_do seen) (heard_so now input old h0 h1 h2 items slice h0-is h1-is given-is slice-is))

-- the lock moves only where it is driven
pub step_moves : ((side : Side) (up : Bool) (seen : Seen) (items : List Item) (end : End) → let new = (step side up seen items end).end
    in (new.lock ≡ end.lock) ⊎ (seen.drive ≡ Some new.lock)) → (now : ℕ) (input : Input) (seen : Seen) (host : HostState)
    → ((host_step now input seen host).end.end.lock ≡ host.end.end.lock) ⊎ (seen.drive ≡ Some (host_step now input seen host).end.end.lock)
step_moves law now input seen host =
    let heard = heard_by now input host
    in let new : (host_step now input seen host).end.end.lock ≡ (step heard.host.end.side (is_joined heard.host.talk) seen heard.items heard.host.end.end).end.lock =
    ap (λ (f : File). f.lock) (step_file now input seen host)
    in let old : heard.host.end.end.lock ≡ host.end.end.lock = ap (λ (f : File). f.lock) (given_file now input (begun now host) ∙ begun_file now host)
    in ⊎_elim (λ same. inl (new ∙ (same ∙ old))) (λ driven. inr (driven ∙ ap Some (sym new)))
    (law heard.host.end.side (is_joined heard.host.talk) seen heard.items heard.host.end.end)
