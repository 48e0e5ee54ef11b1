-- A writer's parts, where they are known.
use Rattle.std.proofs.Common.{◌≡◌, ◌≤◌, ◌-◌, ◌∙◌, ℕ, Bool, true, false, if◌then◌else◌, List, [], ◌∷◌, ◌++◌, length, take, Option, Some, None, refl, sym, ap, subst, arith, append_assoc, append-nil, length-append}
use Rattle.std.specs.Option.{option_map}
use Rattle.std.specs.Prelude.{◌==◌, ◌&&◌, IfSome}
use Rattle.std.specs.Io.KnownBytes.{Appends, Keeps}
use Rattle.run_files.specs.Parts.{Parts, all_parts, ends_line, is_full, joined, next_part, nothing, ready, with_byte, with_opened, written}
use Rattle.run_files.specs.Written.{IsKept, text_of}
use Rattle.run_files.specs.inside.Pieces.{piece}
use Rattle.run_files.proofs.Pieces.{full_with, written_piece}

-- ---- a writer that begins

pub kept_new : (size : ℕ) (parts : Option Parts) → IfSome parts (λ (p : Parts). p ≡ nothing) → IsKept size size false parts
kept_new size None is = tt
kept_new size (Some p) is = subst (λ (q : Parts). (size ≡ size - length q.opened) × (false ≡ is_full size q.opened)) (sym is) (omega arith, refl)

-- ---- the next part

pub next_ready : (size missing : ℕ) (parts : Option Parts) → IsKept size missing true parts → option_map next_part parts ≡ option_map (ready size) parts
next_ready size missing None kept = refl
next_ready size missing (Some p) kept = ap Some (ap (λ (t : Bool). if t then next_part p else p) kept.1)

pub same_ready : (size missing : ℕ) (parts : Option Parts) → IsKept size missing false parts → parts ≡ option_map (ready size) parts
same_ready size missing None kept = refl
same_ready size missing (Some p) kept = ap Some (ap (λ (t : Bool). if t then next_part p else p) kept.1)

pub kept_next : (size : ℕ) (parts : Option Parts) → IsKept size size false (option_map next_part parts)
kept_next size None = tt
kept_next size (Some p) = (omega arith, refl)

-- ---- bytes behind a part that isn't full

pub parts_behind : (size missing : ℕ) (bytes : List ℕ) (count : ℕ) (parts : Option Parts) → IsKept size missing false parts → count ≤ piece missing bytes
    → option_map (with_opened (take count bytes)) parts ≡ option_map (written size (take count bytes)) parts
parts_behind size missing bytes count None kept few = refl
parts_behind size missing bytes count (Some p) kept few = ap Some (sym (written_piece size missing p bytes count kept.0 (sym kept.1) few))

pub kept_behind : (size missing : ℕ) (bytes : List ℕ) (parts : Option Parts) → IsKept size missing false parts → 1 ≤ length bytes
    → IsKept size (missing - length bytes) (ends_line bytes && ((missing - length bytes) == 0)) (option_map (with_opened bytes) parts)
kept_behind size missing bytes None kept some = tt
kept_behind size missing bytes (Some p) kept some =
    let longer = length-append p.opened bytes in
    let had = kept.0 in
    (omega (arith, had, longer), full_with size missing p.opened bytes kept.0 some)

pub kept_none : (size missing : ℕ) (parts : Option Parts) → IsKept size missing false parts → IsKept size missing false (option_map (with_opened []) parts)
kept_none size missing None kept = tt
kept_none size missing (Some p) kept = subst (λ (l : List ℕ). (missing ≡ size - length l) × (false ≡ is_full size l)) (sym (append-nil p.opened)) kept

pub none_behind : (parts : Option Parts) → option_map (with_opened []) parts ≡ parts
none_behind None = refl
none_behind (Some p) = ap (λ (l : List ℕ). Some (record { closed = p.closed; opened = l })) (append-nil p.opened)

-- ---- the text

pub joined-append : (xs ys : List (List ℕ)) → joined (xs ++ ys) ≡ joined xs ++ joined ys
joined-append [] ys = refl
joined-append (x ∷ xs) ys = ap (λ (l : List ℕ). x ++ l) (joined-append xs ys) ∙ sym (append_assoc x (joined xs) (joined ys))

last_joined : (parts : Parts) → joined (all_parts parts) ≡ joined parts.closed ++ parts.opened
last_joined parts = joined-append parts.closed (parts.opened ∷ []) ∙ ap (λ (l : List ℕ). joined parts.closed ++ l) (append-nil parts.opened)

pub text_with : (parts : Parts) (bytes : List ℕ) → joined (all_parts (with_opened bytes parts)) ≡ joined (all_parts parts) ++ bytes
text_with parts bytes =
    last_joined (with_opened bytes parts)
    ∙ sym (append_assoc (joined parts.closed) parts.opened bytes)
    ∙ ap (λ (l : List ℕ). l ++ bytes) (sym (last_joined parts))

pub text_next : (parts : Parts) → joined (all_parts (next_part parts)) ≡ joined (all_parts parts)
text_next parts = joined-append (parts.closed ++ parts.opened ∷ []) ([] ∷ []) ∙ append-nil (joined (all_parts parts))

text_ready : (size : ℕ) (parts : Parts) (t : Bool) → joined (all_parts (if t then next_part parts else parts)) ≡ joined (all_parts parts)
text_ready size parts true = text_next parts
text_ready size parts false = refl

-- the text grows by what is written
pub text_written : (size : ℕ) (bytes : List ℕ) (parts : Parts) → joined (all_parts (written size bytes parts)) ≡ joined (all_parts parts) ++ bytes
text_written size [] parts = sym (append-nil (joined (all_parts parts)))
text_written size (byte ∷ bytes) parts =
    text_written size bytes (with_byte size byte parts)
    ∙ ap (λ (l : List ℕ). l ++ bytes) (text_with (ready size parts) (byte ∷ []) ∙ ap (λ (l : List ℕ). l ++ byte ∷ []) (text_ready size parts (is_full size parts.opened)))
    ∙ append_assoc (joined (all_parts parts)) (byte ∷ []) bytes

pub appends_written : (size : ℕ) (bytes : List ℕ) (old new : Option Parts) → new ≡ option_map (written size bytes) old → Appends (text_of old) (text_of new) bytes
appends_written size bytes None new is = tt
appends_written size bytes (Some p) new is = subst (λ (o : Option Parts). Appends (Some (joined (all_parts p))) (text_of o) bytes) (sym is) (text_written size bytes p)

pub keeps_same : (old new : Option Parts) → new ≡ old → Keeps (text_of old) (text_of new)
keeps_same None new is = tt
keeps_same (Some p) new is = subst (λ (o : Option Parts). Keeps (Some (joined (all_parts p))) (text_of o)) (sym is) refl

pub keeps_ready : (size : ℕ) (old new : Option Parts) → new ≡ option_map (ready size) old → Keeps (text_of old) (text_of new)
keeps_ready size None new is = tt
keeps_ready size (Some p) new is =
    subst (λ (o : Option Parts). Keeps (Some (joined (all_parts p))) (text_of o)) (sym is) (text_ready size p (is_full size p.opened))

ready_twice : (size : ℕ) (parts : Parts) (t : Bool) → is_full size parts.opened ≡ t → ready size (if t then next_part parts else parts) ≡ (if t then next_part parts else parts)
ready_twice size parts true full = refl
ready_twice size parts false full = ap (λ (t : Bool). if t then next_part parts else parts) full

-- a byte or more behind a part that was made ready is written as behind that part
pub ready_written : (size : ℕ) (bytes : List ℕ) (old : Option Parts) → 1 ≤ length bytes
    → option_map (written size bytes) (option_map (ready size) old) ≡ option_map (written size bytes) old
ready_written size [] old some = absurd (omega (arith, some))
ready_written size (byte ∷ bytes) None some = refl
ready_written size (byte ∷ bytes) (Some p) some = ap (λ (q : Parts). Some (written size bytes (with_opened (byte ∷ []) q))) (ready_twice size p (is_full size p.opened) refl)
