-- What a page is told nests little.
use Rattle.std.proofs.Common.{◌≡◌, ◌≤◌, ℕ, List, Some, sym, subst}
use Rattle.serde_json.specs.Data.{Data, depth}
use Rattle.serde_json.specs.Read.{read}

-- a text that reads back as a value reads as what the value is
pub read_shallow : (text : List ℕ) (written meant : Data) → (depth written ≤ 127 → read text ≡ Some written) → written ≡ meant → depth meant ≤ 127 → read text ≡ Some meant
read_shallow text written meant back same low =
    subst (λ (d : Data). read text ≡ Some d) same (back (subst (λ (d : Data). depth d ≤ 127) (sym same) low))
