-- What the code of a flow does, one part after the other, is the definition's.
use Rattle.std.proofs.Common.{◌≡◌, ◌<◌, ◌≤◌, ◌-◌, ◌+◌, ℕ, suc, List, [], ◌∷◌, ◌++◌, length, take, drop, get_or, Option, Ok, Err, refl, ap, sym, ◌∙◌, subst, arith, append-nil, append_assoc}
use Rattle.std.proofs.lemmas.List.{drop_more, drop_all, take_more}
use Rattle.simulator.specs.simulator_event.declared.event.Event.TheVariants as event
use Rattle.simulator.specs.simulator_event.layout.declared.ids.NodeId.{NodeId}
use Rattle.simulator.specs.simulator_event.refused.Refused.TheVariants.{OutOfMemory}
use Rattle.simulator.specs.simulator_event.declared.reply.Answer.TheVariants.{Done}
use Rattle.simulator.specs.simulator_spec.declared.round.FoundDriven.{FoundDriven}
use Rattle.simulator.specs.simulator_spec.declared.round.RoundEvent.{RoundEvent}
use Rattle.simulator.specs.simulator_spec.Flow.{Flowing, Flows, StopsIn, all_did, deliveries, delivery, did, goes, reach, reaches, round, rounds, stops, ticks}

one_less : (index end : ℕ) → index < end → end - index ≡ suc (end - (index + 1))
one_less index end h = omega arith

one_more : (n : ℕ) → suc n ≡ n + 1
one_more n = omega arith

none_left : (index end : ℕ) → end ≤ index → end - index ≡ 0
none_left index end h = omega arith

-- some entries are added, and then those after them
then_added : (old here later whole left new : List RoundEvent) → left ≡ here ++ later → new ≡ old ++ here → old ++ left ≡ whole → new ++ later ≡ whole
then_added old here later whole left new split e before =
    ap (λ all. all ++ later) e ∙ append_assoc old here later ∙ ap (λ all. old ++ all) (sym split) ∙ before

-- nothing is left to be added
all_added : (old left whole : List RoundEvent) → left ≡ [] → old ++ left ≡ whole → old ≡ whole
all_added old left whole none before = sym (append-nil old) ∙ ap (λ rest. old ++ rest) (sym none) ∙ before

-- ---- deliveries

pub deliveries-add : (arrival : ℕ → Option (NodeId × List ℕ)) (place end : ℕ) (old new whole : List RoundEvent) → place < end
    → new ≡ old ++ delivery place (arrival place) → old ++ deliveries arrival place (end - place) ≡ whole
    → new ++ deliveries arrival (place + 1) (end - (place + 1)) ≡ whole
unfolding deliveries
deliveries-add arrival place end old new whole h e before =
    then_added old (delivery place (arrival place)) (deliveries arrival (place + 1) (end - (place + 1))) whole (deliveries arrival place (end - place)) new
    (ap (deliveries arrival place) (one_less place end h)
    ∙ ap (λ (next : ℕ). delivery place (arrival place) ++ deliveries arrival next (end - (place + 1))) (one_more place))
    e before

pub deliveries-all : (arrival : ℕ → Option (NodeId × List ℕ)) (place end : ℕ) (old whole : List RoundEvent) → end ≤ place
    → old ++ deliveries arrival place (end - place) ≡ whole → old ≡ whole
unfolding deliveries
deliveries-all arrival place end old whole past before =
    all_added old (deliveries arrival place (end - place)) whole (ap (deliveries arrival place) (none_left place end past)) before

-- ---- ticks

pub ticks-add : (passed node nodes : ℕ) (old new whole : List RoundEvent) → node < nodes
    → new ≡ old ++ record { event = event.Tick (record { 0 = node }); passed = passed } ∷ [] → old ++ ticks passed node (nodes - node) ≡ whole
    → new ++ ticks passed (node + 1) (nodes - (node + 1)) ≡ whole
unfolding ticks
ticks-add passed node nodes old new whole h e before =
    let this : RoundEvent = record { event = event.Tick (record { 0 = node }); passed = passed }
    in then_added old (this ∷ []) (ticks passed (node + 1) (nodes - (node + 1))) whole (ticks passed node (nodes - node)) new
    (ap (ticks passed node) (one_less node nodes h) ∙ ap (λ (next : ℕ). this ∷ ticks passed next (nodes - (node + 1))) (one_more node))
    e before

pub ticks-all : (passed node nodes : ℕ) (old whole : List RoundEvent) → nodes ≤ node → old ++ ticks passed node (nodes - node) ≡ whole → old ≡ whole
unfolding ticks
ticks-all passed node nodes old whole past before =
    all_added old (ticks passed node (nodes - node)) whole (ap (ticks passed node) (none_left node nodes past)) before

-- ---- points that come to lie

pub reaches-add : (passed place : ℕ) (drives : List (Option FoundDriven)) (default : Option FoundDriven) (old new whole : List RoundEvent) → place < length drives
    → new ≡ old ++ reach passed place (get_or drives place default) → old ++ reaches passed place (drop place drives) ≡ whole
    → new ++ reaches passed (place + 1) (drop (place + 1) drives) ≡ whole
unfolding reaches
reaches-add passed place drives default old new whole h e before =
    let drive = get_or drives place default
    in then_added old (reach passed place drive) (reaches passed (place + 1) (drop (place + 1) drives)) whole (reaches passed place (drop place drives)) new
    (ap (reaches passed place) (drop_more drives place default h)
    ∙ ap (λ (next : ℕ). reach passed place drive ++ reaches passed next (drop (place + 1) drives)) (one_more place))
    e before

pub reaches-all : (passed place : ℕ) (drives : List (Option FoundDriven)) (old whole : List RoundEvent) → length drives ≤ place
    → old ++ reaches passed place (drop place drives) ≡ whole → old ≡ whole
unfolding reaches
reaches-all passed place drives old whole past before =
    all_added old (reaches passed place (drop place drives)) whole (ap (reaches passed place) (drop_all place drives past)) before

-- ---- events one after the other

all_did-one : (first : List RoundEvent) (one : RoundEvent) (flowing : Flowing) → all_did (first ++ one ∷ []) flowing ≡ did one (all_did first flowing)
unfolding all_did
all_did-one [] one flowing = refl
all_did-one (other ∷ first) one flowing = all_did-one first one (did other flowing)

pub none_did : (flowing : Flowing) → flowing ≡ all_did [] flowing
unfolding all_did
none_did flowing = refl

pub did-next : (all : List RoundEvent) (index : ℕ) (one : RoundEvent) (old now new : Flowing) → index < length all → one ≡ get_or all index one
    → now ≡ all_did (take index all) old → new ≡ did one now → new ≡ all_did (take (index + 1) all) old
did-next all index one old now new h at before e =
    e ∙ ap (did one) before
    ∙ sym (all_did-one (take index all) one old)
    ∙ ap (λ d. all_did (take index all ++ d ∷ []) old) at
    ∙ ap (λ first. all_did first old) (sym (take_more all index one h))

-- ---- rounds one after the other

pub rounds-none : (flowing : Flowing) → flowing ≡ rounds 0 flowing
unfolding rounds
rounds-none flowing = refl

pub rounds-next : (count : ℕ) (flowing : Flowing) → round (rounds count flowing) ≡ rounds (count + 1) flowing
unfolding rounds
rounds-next count flowing = ap (λ (n : ℕ). rounds n flowing) (one_more count)

-- a flow goes to its end, or stops in a round
pub flow-goes : (count done : ℕ) (old new : Flowing) → new ≡ rounds done old → done ≡ count → Flows count old (Ok Done) new
flow-goes count done old new e whole =
    subst (Flows count old (Ok Done)) (sym (e ∙ ap (λ (n : ℕ). rounds n old) whole)) goes

pub flow-stops : (count done : ℕ) (old now new : Flowing) → now ≡ rounds done old → done < count → StopsIn now new
    → Flows count old (Err OutOfMemory) new
flow-stops count done old now new e less within = stops done less (subst (λ (from : Flowing). StopsIn from new) e within)
