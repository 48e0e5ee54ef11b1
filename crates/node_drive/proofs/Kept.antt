-- What a step asks to be kept, as it is asked for and answered.
use Rattle.std.proofs.Common.{◌≡◌, Bool, true, [], ◌∷◌, Option, Some, None, refl, sym, ap}
use Rattle.std.specs.Option.{option_map}
use Rattle.node_drive.specs.Calls.{Calls, Keeps, Told}
use Rattle.node_drive.specs.Kinds.{NodeState, AskedToKeep, node_kept}
use Rattle.node_drive.specs.Rounds.{kept_by}
use Rattle.node_drive.specs.declared.outside.ToKeep.{ToKeep}
use Rattle.node_drive.proofs.Calls.{calls_none, calls_same}

same_some : {A : Type 0} {w x : A} → Some w ≡ Some x → w ≡ x
same_some e = cc

none_asked : (asked : Option AskedToKeep) → None ≡ option_map (λ (asked : AskedToKeep). asked.all) asked → asked ≡ None
none_asked None e = refl
none_asked (Some one) e = cc

asked_is : (kept : Bool) (all : ToKeep) (asked : Option AskedToKeep) → Some all ≡ option_map (λ (asked : AskedToKeep). asked.all) asked → Keeps all kept ∷ [] ≡ kept_by kept asked
asked_is kept all None e = cc
asked_is kept all (Some one) e = ap (λ (a : ToKeep). Keeps a kept ∷ []) (same_some e)

-- nothing is asked for
pub nothing_calls : (t : Told) (asked : Option AskedToKeep) → None ≡ option_map (λ (asked : AskedToKeep). asked.all) asked → Calls t t (kept_by true asked)
nothing_calls t asked e = calls_same (ap (kept_by true) (sym (none_asked asked e))) (calls_none t)

pub nothing_kept : {State In : Type 0} (node : NodeState State In) → None ≡ option_map (λ (asked : AskedToKeep). asked.all) node.keeps → node ≡ node_kept true node
nothing_kept {State} {In} node e = ap (λ (asked : Option AskedToKeep). record node { keeps = asked }) (none_asked node.keeps e)

-- something is
pub asked_calls : {ta tb : Told} (kept : Bool) (all : ToKeep) (asked : Option AskedToKeep) → Some all ≡ option_map (λ (asked : AskedToKeep). asked.all) asked → Calls ta tb (Keeps all kept ∷ [])
    → Calls ta tb (kept_by kept asked)
asked_calls kept all asked e p = calls_same (asked_is kept all asked e) p
