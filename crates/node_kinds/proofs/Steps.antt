-- A step of the interlocking, as its code makes it part by part.
use Rattle.std.proofs.Common.{◌≡◌, ◌∙◌, ◌++◌, ℕ, ap, subst, List, Option, option_map, Result, Ok, Err}
use Rattle.std.specs.Prelude.{OnOk}
use Rattle.simulator_spec.specs.Nodes.{key_of}
use Rattle.simulator_spec.specs.ixl_spec.Step as ixl
use Rattle.simulator_spec.specs.ixl_spec.closings.declared.auxiliary.AuxiliaryCounts.{AuxiliaryCounts}
use Rattle.simulator_spec.specs.ixl_spec.closings.declared.closed.Closings.{Closings}
use Rattle.run_numbers.specs.Numbers.{NumbersState}
use Rattle.node_drive.specs.Kinds.{AskedToKeep, NodeState, node_after}
use Rattle.node_drive.specs.node_lines.declared.operator_line.Known.{Known}
use Rattle.node_kinds.specs.Counted.{numbers_after, with_links}
use Rattle.node_kinds.specs.Interlockings.{InterlockingNode, all_known, answer, changes, commands, counts_then, interlocking_kind, keeps_then, known_then, to_controllers}
use Rattle.node_kinds.specs.Kept.{to_keep, wanted}
use Rattle.node_kinds.specs.MadeInterlocking.{asked_to_keep, seen}
use Rattle.node_kinds.specs.declared.interlocking_node.InterlockingNode.{InterlockingNode as Code}
use Rattle.node_kinds.specs.declared.keeping.Keeping.{Keeping}
use Rattle.node_kinds.specs.inside.InterlockingSteps.{SteppedState, step_of, stepped_at, texts}

-- a node by its parts
abbrev view_of : SteppedState → Keeping → List (Option Known) → NumbersState → AuxiliaryCounts → Option AskedToKeep → List (List ℕ) → List ixl.Input → NodeState InterlockingNode ixl.Input
view_of stepped keeping told numbers counts keeps said left = record {
  state = record { site = stepped.sited.site; table = stepped.sited.table; keeping = keeping; ixl = stepped.ixl; told = told; numbers = numbers; counts = counts };
  reached = stepped.reached;
  handed = to_controllers stepped.sited.site stepped.datagrams;
  keeps = keeps;
  said = said;
  left = left;
}

-- what changed is to be told behind the answers, and the links are counted
pub record IsTold (now : ℕ) (answers : List (List ℕ)) (old new : Code) : Type 0 where
  pub stepped : new.stepped ≡ old.stepped
  pub keeping : new.keeping ≡ old.keeping
  pub asked : new.asked ≡ old.asked
  pub left : new.left ≡ old.left
  pub counts : new.counts ≡ old.counts
  pub told : new.told.items ≡ all_known old.stepped.sited.site old.stepped.sited.table old.counts now old.stepped.ixl
  pub said : texts new.said ≡ answers ++ changes old.stepped.sited.site old.told.items new.told.items
  pub numbers : new.numbers ≡ with_links old.told.items new.told.items old.numbers

-- what the interlocking made of its input, before anything is told
pub record IsAsked (now : ℕ) (input : ixl.Input) (old begun asked : Code) (then : SteppedState) (numbers : NumbersState) (counts : AuxiliaryCounts) (answers : List (List ℕ)) : Type 0 where
  pub begun_is : begun ≡ record old { said = begun.said }
  pub asked_is : asked ≡ record begun { stepped = then; numbers = numbers; counts = counts; asked = asked.asked }
  pub then_is : then ≡ stepped_at now input old.stepped
  pub keeps : option_map asked_to_keep asked.asked ≡ keeps_then now input (seen old).state
  pub counted : counts ≡ counts_then now input (seen old).state
  pub answers_are : answers ≡ answer now input (seen old).state
  pub numbered : (told : List (Option Known)) → with_links old.told.items told numbers ≡ numbers_after input (ixl.reply now old.stepped.sited.table (key_of old.stepped.sited.site) input old.stepped.ixl) old.told.items told old.numbers

pub node_stepped : (now : ℕ) (input : ixl.Input) (old begun asked new : Code) (then : SteppedState) (numbers : NumbersState) (counts : AuxiliaryCounts) (answers : List (List ℕ))
    → IsAsked now input old begun asked then numbers counts answers → IsTold now answers asked new → seen new ≡ node_after interlocking_kind now input (seen old)
node_stepped now input old begun asked new then numbers counts answers made told =
    let node = (seen old).state in
    let site = old.stepped.sited.site in
    let after = stepped_at now input old.stepped in
    let reply = ixl.reply now old.stepped.sited.table (key_of site) input old.stepped.ixl in
    let all = known_then now input node in
    let as_made : Code = record old { said = begun.said; stepped = then; numbers = numbers; counts = counts; asked = asked.asked } in
    let same : asked ≡ as_made = made.asked_is ∙ ap (λ (b : Code). record b { stepped = then; numbers = numbers; counts = counts; asked = asked.asked }) made.begun_is in
    let facts : IsTold now answers as_made new = subst (λ (a : Code). IsTold now answers a new) same told in
    let told_so : new.told.items ≡ all =
    facts.told
    ∙ ap (λ (s : SteppedState). all_known s.sited.site s.sited.table counts now s.ixl) made.then_is
    ∙ ap (λ k. all_known site old.stepped.sited.table k now (step_of now input old.stepped).ixl) made.counted in
    let said_so : texts new.said ≡ answer now input node ++ changes site old.told.items all =
    facts.said
    ∙ ap (λ a. a ++ changes then.sited.site old.told.items new.told.items) made.answers_are
    ∙ ap (λ (s : SteppedState). answer now input node ++ changes s.sited.site old.told.items new.told.items) made.then_is
    ∙ ap (λ t. answer now input node ++ changes site old.told.items t) told_so in
    let numbers_so : new.numbers ≡ numbers_after input reply old.told.items all old.numbers =
    facts.numbers ∙ made.numbered new.told.items ∙ ap (λ t. numbers_after input reply old.told.items t old.numbers) told_so in
    let keeps_so : option_map asked_to_keep new.asked ≡ keeps_then now input node = ap (option_map asked_to_keep) facts.asked ∙ made.keeps in
    let left = commands new.left.items in
    let keeps = option_map asked_to_keep new.asked in
    ap (λ s. view_of s new.keeping new.told.items new.numbers new.counts keeps (texts new.said) left) (facts.stepped ∙ made.then_is)
    ∙ ap (λ k. view_of after k new.told.items new.numbers new.counts keeps (texts new.said) left) facts.keeping
    ∙ ap (λ t. view_of after old.keeping t new.numbers new.counts keeps (texts new.said) left) told_so
    ∙ ap (λ n. view_of after old.keeping all n new.counts keeps (texts new.said) left) numbers_so
    ∙ ap (λ k. view_of after old.keeping all (numbers_after input reply old.told.items all old.numbers) k keeps (texts new.said) left) (facts.counts ∙ made.counted)
    ∙ ap (λ k. view_of after old.keeping all (numbers_after input reply old.told.items all old.numbers) (counts_then now input node) k (texts new.said) left) keeps_so
    ∙ ap (λ x. view_of after old.keeping all (numbers_after input reply old.told.items all old.numbers) (counts_then now input node) (keeps_then now input node) x left) said_so
    ∙ ap (λ l. view_of after old.keeping all (numbers_after input reply old.told.items all old.numbers) (counts_then now input node) (keeps_then now input node) (answer now input node ++ changes site old.told.items all) (commands l.items)) facts.left

-- what its step asks to be kept
pub keeps_so : (now : ℕ) (input : ixl.Input) (old begun : Code) (then : SteppedState) (reply : ixl.Reply) (before : Closings) (counts : AuxiliaryCounts) (asked : Option AskedToKeep) → begun ≡ record old { said = begun.said }
    → then ≡ stepped_at now input old.stepped → reply ≡ ixl.reply now old.stepped.sited.table (key_of old.stepped.sited.site) input old.stepped.ixl → before ≡ wanted old.keeping old.stepped.sited.table old.stepped.ixl
    → counts ≡ counts_then now input (seen old).state → asked ≡ to_keep then.sited.site begun.keeping input reply before (record { counts = counts; closings = wanted begun.keeping then.sited.table then.ixl })
    → asked ≡ keeps_then now input (seen old).state
keeps_so now input old begun then reply before counts asked begun_is then_is replied before_is counted asked_is =
    let after = stepped_at now input old.stepped in
    let wanted_then = wanted old.keeping after.sited.table after.ixl in
    let true_reply = ixl.reply now old.stepped.sited.table (key_of old.stepped.sited.site) input old.stepped.ixl in
    asked_is
    ∙ ap (λ (b : Code). to_keep then.sited.site b.keeping input reply before (record { counts = counts; closings = wanted b.keeping then.sited.table then.ixl })) begun_is
    ∙ ap (λ (s : SteppedState). to_keep s.sited.site old.keeping input reply before (record { counts = counts; closings = wanted old.keeping s.sited.table s.ixl })) then_is
    ∙ ap (λ r. to_keep after.sited.site old.keeping input r before (record { counts = counts; closings = wanted_then })) replied
    ∙ ap (λ b. to_keep after.sited.site old.keeping input true_reply b (record { counts = counts; closings = wanted_then })) before_is
    ∙ ap (λ k. to_keep after.sited.site old.keeping input true_reply (wanted old.keeping old.stepped.sited.table old.stepped.ixl) (record { counts = k; closings = wanted_then })) counted

-- what follows from three facts of a call that is answered
pub three_ok : {A E P Q R S : Type 0} (result : Result A E) → (P → Q → R → S) → OnOk result P → OnOk result Q → OnOk result R → OnOk result S
three_ok (Ok x) f p q r = f p q r
three_ok (Err e) f p q r = tt
