-- Reading values, and reading the data that they stand for.
use Rattle.std.proofs.Common.{◌≡◌, ℕ, suc, List, [], ◌∷◌, ◌++◌, map, Result, Ok, Err, String, Global, string_bytes, refl, sym, ap, ◌∙◌}
use Rattle.std.proofs.lemmas.List.{append-nil}
use Rattle.toml.specs.Data.{Data}
use Rattle.toml.specs.View.{view, members_view}
use Rattle.toml.specs.declared.value.Value.{Value}
use Rattle.sci_telegram.specs.declared.message.Side.{Side}
use Rattle.layout_text.specs.declared.fault.LayoutFault.{LayoutFault}
use Rattle.layout_text.specs.declared.fault.Place.{Place}
use Rattle.layout_text.specs.declared.fault.TableName.{TableName}
use Rattle.layout_text.specs.FirstFault.{◌>>=◌, Fails, each_of, all_of}
use Rattle.layout_text.specs.Values.{name_of, side_at}
use Rattle.layout_text.specs.Text.{sides_of}
use Rattle.layout_text.proofs.Loops.{with_front, regroup, failed}

pub all_of-view : {B : Type 0} (f : Data → Result B LayoutFault) (vs : List Value) → all_of f (map view vs) ≡ all_of (λ v. f (view v)) vs
unfolding all_of
all_of-view f [] = refl
all_of-view f (v ∷ vs) = ap (λ rest. f (view v) >>= λ y. rest >>= λ ys. Ok (y ∷ ys)) (all_of-view f vs)

pub each_of-view : {B : Type 0} (f : Place → Data → Result B LayoutFault) (table : TableName) (n : ℕ) (vs : List Value) → each_of f table n (map view vs) ≡ each_of (λ place v. f place (view v)) table n vs
unfolding each_of
each_of-view f table n [] = refl
each_of-view f table n (v ∷ vs) = ap (λ rest. f (record { table = table; entry = n }) (view v) >>= λ y. rest >>= λ ys. Ok (y ∷ ys)) (each_of-view f table (suc n) vs)

-- one more point and side
pub sides-goes_on : (place : Place) (front : List (List ℕ × Side)) (k : String Global) (v : Value) (es ts : List (String Global × Value)) (name : List ℕ) (side : Side) (total : Result (List (List ℕ × Side)) LayoutFault)
    → es ≡ (k, v) ∷ ts → name_of place (string_bytes k) ≡ Ok name → side_at place (view v) ≡ Ok side
    → with_front front (sides_of place (members_view es)) ≡ total → with_front (front ++ (name, side) ∷ []) (sides_of place (members_view ts)) ≡ total
unfolding sides_of
sides-goes_on place front k v es ts name side total split named sided so_far =
    let one : with_front front (sides_of place (members_view es)) ≡ with_front (front ++ (name, side) ∷ []) (sides_of place (members_view ts)) = rw (split, named, sided) (regroup front (name, side) (sides_of place (members_view ts))) in
    sym one ∙ so_far

pub name-ends : (place : Place) (f : LayoutFault) (front : List (List ℕ × Side)) (k : String Global) (v : Value) (es ts : List (String Global × Value)) (total : Result (List (List ℕ × Side)) LayoutFault)
    → es ≡ (k, v) ∷ ts → Fails f (name_of place (string_bytes k))
    → with_front front (sides_of place (members_view es)) ≡ total → Fails f total
unfolding sides_of
name-ends place f front k v es ts total split h so_far =
    failed f (name_of place (string_bytes k)) total h (λ e.
    let one : with_front front (sides_of place (members_view es)) ≡ Err f = rw (split, e) refl in
    sym so_far ∙ one)

pub side-ends : (place : Place) (f : LayoutFault) (front : List (List ℕ × Side)) (k : String Global) (v : Value) (es ts : List (String Global × Value)) (name : List ℕ) (total : Result (List (List ℕ × Side)) LayoutFault)
    → es ≡ (k, v) ∷ ts → name_of place (string_bytes k) ≡ Ok name → Fails f (side_at place (view v))
    → with_front front (sides_of place (members_view es)) ≡ total → Fails f total
unfolding sides_of
side-ends place f front k v es ts name total split named h so_far =
    failed f (side_at place (view v)) total h (λ e.
    let one : with_front front (sides_of place (members_view es)) ≡ Err f = rw (split, named, e) refl in
    sym so_far ∙ one)

pub sides-are_done : (place : Place) (front : List (List ℕ × Side)) (es : List (String Global × Value)) (total : Result (List (List ℕ × Side)) LayoutFault) → es ≡ []
    → with_front front (sides_of place (members_view es)) ≡ total → total ≡ Ok front
unfolding sides_of
sides-are_done place front es total ended so_far =
    let one : with_front front (sides_of place (members_view es)) ≡ Ok front = rw ended (ap Ok (append-nil front)) in
    sym so_far ∙ one
