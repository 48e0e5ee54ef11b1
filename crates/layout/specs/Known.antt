-- Keys that stand in a layout once: the fault is at the first that is known already.
use Rattle.std.specs.Prelude.{ℕ, suc, Bool, false, ◌==◌, ◌&&◌, List, [], ◌∷◌, ◌++◌, is_some, Result, Ok, Err, if◌then◌else◌}
use Rattle.std.specs.Map.{lookup}
use Rattle.std.specs.Str.{bytes_eq}
use Rattle.sci_telegram.specs.Names.{name_field}
use Rattle.layout_text.specs.declared.fault.LayoutFault.{LayoutFault}
use Rattle.layout_text.specs.declared.fault.LayoutFault.TheVariants.{DoubleName, DoubleJoint}
use Rattle.layout_text.specs.declared.fault.Place.{Place}
use Rattle.layout_text.specs.declared.fault.TableName.{TableName}
use Rattle.layout.specs.declared.known.Double.{Double}
use Rattle.layout.specs.declared.known.Double.TheVariants as double
use Rattle.layout.specs.declared.port.Port.{Port}
use Rattle.layout.specs.declared.port.Element.{Element}
use Rattle.layout.specs.declared.port.Element.TheVariants.{Track, Point, Border}
use Rattle.layout_text.specs.declared.entries.End.{End}
use Rattle.layout_text.specs.declared.entries.End.TheVariants as end
use Rattle.layout_text.specs.FirstFault.{◌>>=◌}

-- names are the same where their fields in telegrams are
abbrev pub same_name : List ℕ → List ℕ → Bool
same_name a b = bytes_eq (name_field a) (name_field b)

abbrev pub same_element : Element → Element → Bool
same_element (Track t) (Track u) = t.0 == u.0
same_element (Point p) (Point q) = p.0 == q.0
same_element (Border b) (Border c) = b.0 == c.0
same_element _ _ = false

abbrev pub end_number : End → ℕ
end_number end.A = 0
end_number end.B = 1
end_number end.Tip = 2
end_number end.Left = 3
end_number end.Right = 4
end_number end.End = 5

abbrev pub same_port : Port → Port → Bool
same_port p q = same_element p.element q.element && (end_number p.end == end_number q.end)

abbrev pub double_fault : Double → Place → LayoutFault
double_fault double.Name place = DoubleName place
double_fault double.Joint place = DoubleJoint place

-- the keys that are known, with their places
abbrev pub Known : Type 0 → Type 0
Known K = List (K × Place)

module _ {K : Type 0} (same : K → K → Bool) (twice : Double) where
  -- one more key
  abbrev pub note_key : List (K × Place) → K → Place → Result (List (K × Place)) LayoutFault
  note_key known key place =
      if is_some (lookup (same key) known) then Err (double_fault twice place) else Ok (known ++ (key, place) ∷ [])

  -- the keys of a table, from place n on
  unfoldable pub note_each : TableName → ℕ → List K → List (K × Place) → Result (List (K × Place)) LayoutFault
  note_each table n [] known = Ok known
  note_each table n (key ∷ keys) known = note_key known key (record { table = table; entry = n }) >>= λ more. note_each table (suc n) keys more

  -- the keys of one entry, all at its place
  unfoldable pub note_all : Place → List K → List (K × Place) → Result (List (K × Place)) LayoutFault
  note_all place [] known = Ok known
  note_all place (key ∷ keys) known = note_key known key place >>= λ more. note_all place keys more

  -- the keys of the entries of a table, from place n on
  unfoldable pub note_lists : {A : Type 0} (keys_of : A → List K) → TableName → ℕ → List A → List (K × Place) → Result (List (K × Place)) LayoutFault
  note_lists keys_of table n [] known = Ok known
  note_lists keys_of table n (x ∷ xs) known = note_all (record { table = table; entry = n }) (keys_of x) known >>= λ more. note_lists keys_of table (suc n) xs more
