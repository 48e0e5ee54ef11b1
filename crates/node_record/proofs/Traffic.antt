-- The datagrams of a record, and their lines.
use Rattle.std.proofs.Common.{◌≡◌, ◌∙◌, ◌+◌, ◌<◌, ℕ, List, [], ◌∷◌, ◌++◌, drop, get_or, length, Option, map, refl, ap, sym, subst, append_assoc, append-nil}
use Rattle.std.proofs.lemmas.List.{drop_more}
use Rattle.std.proofs.KnownBytes.{Appends-nil, Appends-trans, Appends-kept}
use Rattle.std.specs.Io.KnownBytes.{Appends, Keeps}
use Rattle.control_table.specs.layout.Entries.{Site}
use Rattle.node_record.specs.NodeLines.{line_text, lines_text}
use Rattle.node_record.specs.inside.Passing.{seen}
use Rattle.node_record.specs.declared.passage.Passed.{Passed as Code}
use Rattle.node_record.specs.declared.passage.Way.TheVariants.{Sent}

-- the datagram at a place and those after it
pub split_at : (all : List Code) (place : ℕ) (otherwise : Code) → place < length all → drop place all ≡ get_or all place otherwise ∷ drop (place + 1) all
split_at all place otherwise within = drop_more all place otherwise within

-- one that stands nowhere
abbrev pub nowhere : Code
nowhere = record { reading = 0; way = Sent 0; bytes = record { ref_ptr = (0, 0); now = [] } }

-- ---- their lines

-- What was written so far, and after it the lines of the datagrams that are left, are those of all.
pub record Writes (site : Site) (node : ℕ) (all left : List Code) (old new : Option (List ℕ)) : Type 0 where
  pub written : List ℕ
  pub appended : Appends old new written
  pub on : written ++ lines_text site node (map seen left) ≡ lines_text site node (map seen all)

pub writes_begins : (site : Site) (node : ℕ) (all : List Code) (known : Option (List ℕ)) → Writes site node all all known known
writes_begins site node all known = record { written = []; appended = Appends-nil known; on = refl }

pub writes_on : (site : Site) (node : ℕ) (all left more : List Code) (one : Code) (old was new : Option (List ℕ)) (text : List ℕ) → left ≡ one ∷ more
    → text ≡ line_text site node (seen one) → Appends was new text → Writes site node all left old was → Writes site node all more old new
writes_on site node all left more one old was new text split said grows before = record {
  written = before.written ++ text;
  appended = Appends-trans old was new before.written text before.appended grows;
  on = append_assoc before.written text (lines_text site node (map seen more))
      ∙ (ap (λ t. before.written ++ (t ++ lines_text site node (map seen more))) said
      ∙ (ap (λ (l : List Code). before.written ++ lines_text site node (map seen l)) (sym split) ∙ before.on));
}

pub writes_ends : (site : Site) (node : ℕ) (all left : List Code) (old was new : Option (List ℕ)) → left ≡ [] → Writes site node all left old was → Keeps was new
    → Appends old new (lines_text site node (map seen all))
writes_ends site node all left old was new none before kept =
    let whole : before.written ≡ lines_text site node (map seen all) =
    sym (append-nil before.written) ∙ (ap (λ (l : List Code). before.written ++ lines_text site node (map seen l)) (sym none) ∙ before.on) in
    subst (Appends old new) whole (Appends-kept old was new before.written before.appended kept)
