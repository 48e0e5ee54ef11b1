use Rattle.std.proofs.Common.{◌≡◌, ◌+◌, ◌<◌, ◌≤◌, ◌∙◌, ap, sym, ℕ, List, [], ◌∷◌, drop, length, get_or, arith, refl}
use Rattle.std.proofs.lemmas.List.{at_drop_more, at_drop_all}
use Rattle.signal_ctl.specs.Lamp.{Lamp}
use Rattle.sci_telegram.specs.declared.message.Aspect.{Aspect}
use Rattle.simulator_pair.specs.Pair.{indicated_by, indicated_after}
use Rattle.simulator_pair.proofs.lamp.indicate_all.Goals as goal

indicated_next : (item : List ℕ) (later : List (List ℕ)) (last : Aspect) → indicated_after (item ∷ later) last ≡ indicated_after later (indicated_by item last)
unfolding indicated_after
indicated_next item later last = refl

indicated_last : (last : Aspect) → indicated_after [] last ≡ last
unfolding indicated_after
indicated_last last = refl

-- one more item
indicated_more : (items : List (List ℕ)) (i : ℕ) (item : List ℕ) (last next : Aspect) → i < length items → item ≡ get_or items i item → next ≡ indicated_by item last → indicated_after (drop (i + 1) items) next ≡ indicated_after (drop i items) last
indicated_more items i item last next below is_item next_is =
    ap (indicated_after (drop (i + 1) items)) next_is
    ∙ sym (indicated_next item (drop (i + 1) items) last)
    ∙ ap (λ first. indicated_after (first ∷ drop (i + 1) items) last) is_item
    ∙ sym (at_drop_more (λ rest. indicated_after rest last) items i item below)

-- no more items
indicated_all : (items : List (List ℕ)) (i : ℕ) (old new : Lamp) → length items ≤ i → indicated_after (drop i items) new.indicated ≡ indicated_after items old.indicated → new.until ≡ old.until → new ≡ record old { indicated = indicated_after items old.indicated }
indicated_all items i old new past same until =
    let rest = at_drop_all (λ later. indicated_after later new.indicated) items i past
    in let indicated : new.indicated ≡ indicated_after items old.indicated = sym (rest ∙ indicated_last new.indicated) ∙ same
    in ap (λ (last : Aspect). record new { indicated = last }) indicated ∙ ap (λ (end : ℕ). record old { indicated = indicated_after items old.indicated; until = end }) until

pub loop-item-preserved : goal.loop-item-preserved
loop-item-preserved c =
    let more = indicated_more c.args.items.now c.loop-item.item-index c.item-item.result c.loop-item.lamp.indicated c.indicate.new.lamp.indicated (omega arith) c.item-item.is (ap (λ lamp. lamp.indicated) c.indicate.ensures)
    in (more ∙ c.loop-item.invariant.0, ap (λ lamp. lamp.until) c.indicate.ensures ∙ c.loop-item.invariant.1)

pub returns : goal.returns
returns c = indicated_all c.args.items.now c.loop-item.item-index c.args.lamp.now c.loop-item.lamp (omega arith) c.loop-item.invariant.0 c.loop-item.invariant.1
