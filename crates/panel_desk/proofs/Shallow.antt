-- The state nests little.
use Rattle.std.proofs.Common.{◌≡◌, ◌≤◌, ℕ, suc, nat_lt, Bool, true, false, if◌then◌else◌, List, [], ◌∷◌, max, Some, sym, subst, arith}
use Rattle.serde_json.specs.Data.{Data, depth, items_depth}
use Rattle.serde_json.specs.Read.{read}
use Rattle.serde_json.specs.View.{items_of}
use Rattle.panel_desk.specs.Lines.{NotedView}
use Rattle.panel_desk.specs.State.{newer, newer_lines, pair_of, state_of}

one_more : (lacks : Bool) (most : ℕ) (first : Data) (more : List Data) → depth first ≤ most → items_depth (items_of more) ≤ most
    → items_depth (items_of (if lacks then first ∷ more else more)) ≤ most
one_more true most first more one others = omega (arith, one, others)
one_more false most first more one others = others

newer-shallow : (after place : ℕ) (shown : List NotedView) → items_depth (items_of (newer after place shown)) ≤ 1
newer-shallow after place [] = omega arith
newer-shallow after place (one ∷ more) = one_more (nat_lt after one.since) 1 _ _ (omega arith) (newer-shallow after (suc place) more)

lines-shallow : (after : ℕ) (log : List NotedView) → items_depth (items_of (newer_lines after log)) ≤ 1
lines-shallow after [] = omega arith
lines-shallow after (one ∷ more) = one_more (nat_lt after one.since) 1 _ _ (omega arith) (lines-shallow after more)

pub state-shallow : (after count : ℕ) (shown log : List NotedView) → depth (state_of after count shown log) ≤ 127
state-shallow after count shown log =
    let one = newer-shallow after 0 shown in
    let other = lines-shallow after log in
    omega (arith, one, other)

-- a text that reads back as a value reads as what the value is
pub read_shallow : (text : List ℕ) (written meant : Data) → (depth written ≤ 127 → read text ≡ Some written) → written ≡ meant → depth meant ≤ 127 → read text ≡ Some meant
read_shallow text written meant back same low =
    subst (λ (d : Data). read text ≡ Some d) same (back (subst (λ (d : Data). depth d ≤ 127) (sym same) low))
