-- A name that is looked up is that of an entry of the tables that are asked, or the answer is that it is unknown.
use Rattle.std.proofs.Common.{◌≡◌, ◌⊎◌, ℕ, zero, suc, ◌-◌, ◌==◌, Bool, true, false, List, [], ◌∷◌, Contains, Option, Some, None, Result, Ok, Err, if◌then◌else◌, refl, sym, ap, subst, ◌∙◌, inl, inr, ⊎_elim, arith, rules}
use Rattle.std.proofs.lemmas.Bool.{false≢true}
use Rattle.std.proofs.lemmas.Bool.Decides.{Decides-eqb}
use Rattle.std.specs.Map.{lookup}
use Rattle.std.specs.Option.{ok_or, option_and_then}
use Rattle.std.proofs.lemmas.Option.{same_Some}
use Rattle.sci_telegram.specs.declared.message.Side.{Side}
use Rattle.layout_text.specs.declared.fault.LayoutFault.{LayoutFault}
use Rattle.layout_text.specs.declared.fault.LayoutFault.TheVariants.{UnknownName}
use Rattle.layout_text.specs.declared.fault.Place.{Place}
use Rattle.layout_text.specs.declared.fault.TableName.{TableName}
use Rattle.layout_text.specs.declared.fault.TableName.TheVariants as named
use Rattle.layout.specs.declared.port.Port.{Port}
use Rattle.layout.specs.declared.port.Element.{Element}
use Rattle.layout_text.specs.declared.entries.End.{End}
use Rattle.layout_text.specs.declared.entries.End.TheVariants as end
use Rattle.layout_text.specs.Written.{LayoutText}
use Rattle.layout_text.specs.FirstFault.{Read, ◌>>=◌}
use Rattle.layout.specs.Known.{same_name}
use Rattle.layout.specs.NamesResolved.{table_number, element_of, exit_of, has_port, number_in, number_named, section_named, signal_named, route_named, side_named, exit_named, element_named, port_named}
use Rattle.layout.specs.Faults.{names_written}
use Rattle.layout.specs.Unknown.{Use, section_use, point_use, signal_use, route_use, exit_use, table_with, port_use, IsNamed}
use Rattle.layout.proofs.Tells.{Quiet, quiet-ok, Tells, tells-held, tells-missed, tells-end}
use Rattle.layout.proofs.FaultDirectory.{Leads, look-found}

-- ---- the tables that are asked

-- the tables are told apart by their numbers
abbrev may : List TableName → TableName → Bool
may [] table = false
may (t ∷ ts) table = if table_number table == table_number t then true else may ts table

same-number : (t : TableName) → (table_number t == table_number t) ≡ true
same-number t = (Decides-eqb (table_number t) (table_number t)).1 refl

may-contain : (ts : List TableName) (table : TableName) → Contains ts table → may ts table ≡ true
may-contain [] table (k, lt, at) = absurd (omega (arith, lt))
may-contain (t ∷ ts) table (zero, lt, at) = rw (at, same-number table) refl
may-contain (t ∷ ts) table (suc k, lt, at) = by_test (table_number table == table_number t) (may-contain ts table (k, omega (arith, lt), at))
  where
    by_test : (b : Bool) → may ts table ≡ true → (if b then true else may ts table) ≡ true
    by_test true h = refl
    by_test false h = h

table_at : ℕ → TableName
table_at zero = named.Station
table_at (suc zero) = named.Section
table_at (suc (suc zero)) = named.Track
table_at (suc (suc (suc zero))) = named.Point
table_at (suc (suc (suc (suc zero)))) = named.Border
table_at (suc (suc (suc (suc (suc zero))))) = named.Joint
table_at (suc (suc (suc (suc (suc (suc zero)))))) = named.Signal
table_at (suc (suc (suc (suc (suc (suc (suc zero))))))) = named.Detector
table_at _ = named.Route

at_number : (t : TableName) → table_at (table_number t) ≡ t
unfolding table_at
at_number named.Station = refl
at_number named.Section = refl
at_number named.Track = refl
at_number named.Point = refl
at_number named.Border = refl
at_number named.Joint = refl
at_number named.Signal = refl
at_number named.Detector = refl
at_number named.Route = refl

same_table : (t u : TableName) → (table_number t == table_number u) ≡ true → u ≡ t
same_table t u h = sym (at_number u) ∙ (ap table_at (sym ((Decides-eqb (table_number t) (table_number u)).0 h)) ∙ at_number t)

-- ---- an answer for an entry that was found

abbrev Answered : {A : Type 0} → Place → List TableName → TableName → Result A LayoutFault → Type 0
Answered place tables table read = (Contains tables table × Quiet read) ⊎ ((may tables table ≡ false) × (read ≡ Err (UnknownName place)))

-- an entry of the one table that is asked
alone : (table : TableName) (t : TableName) → t ≡ table → Contains (t ∷ []) table
alone table t h = (0, omega arith, h)

number-answered : (place : Place) (directory : List (List ℕ × Place)) (table : TableName) (found : Place) → Answered place (table ∷ []) found.table (number_in directory place table (Some found))
number-answered place directory table found = by_test (table_number found.table == table_number table) refl
  where
    by_test : (b : Bool) → (table_number found.table == table_number table) ≡ b
        → (Contains (table ∷ []) found.table × Quiet {A = ℕ} (if b then Ok (found.entry - 1) else Err (UnknownName place)))
        ⊎ (((if b then true else false) ≡ false) × (◌≡◌ {A = Read ℕ} (if b then Ok (found.entry - 1) else Err (UnknownName place)) (Err (UnknownName place))))
    by_test true h = inl (alone found.table table (same_table found.table table h), quiet-ok (found.entry - 1))
    by_test false h = inr (refl, refl)

-- a signal or a border
exit-answered : (place : Place) (table : TableName) (n : ℕ) → Answered place (named.Signal ∷ named.Border ∷ []) table (ok_or (exit_of table n) (UnknownName place))
exit-answered place named.Signal n = inl ((0, omega arith, refl), quiet-ok _)
exit-answered place named.Border n = inl ((1, omega arith, refl), quiet-ok _)
exit-answered place named.Station n = inr (refl, refl)
exit-answered place named.Section n = inr (refl, refl)
exit-answered place named.Track n = inr (refl, refl)
exit-answered place named.Point n = inr (refl, refl)
exit-answered place named.Joint n = inr (refl, refl)
exit-answered place named.Detector n = inr (refl, refl)
exit-answered place named.Route n = inr (refl, refl)

-- an element that has the port
abbrev port_of : Place → End → Option Element → Read Port
port_of place port o = ok_or o (UnknownName place) >>= λ e. if has_port e port then Ok (record { element = e; end = port }) else Err (UnknownName place)

-- only elements have ports
no-port : (table : TableName) → (table_number table == 2) ≡ false → (table_number table == 3) ≡ false → (table_number table == 4) ≡ false → (port : End) → may (table_with port ∷ []) table ≡ false
no-port table track point border end.A = rw track refl
no-port table track point border end.B = rw track refl
no-port table track point border end.Tip = rw point refl
no-port table track point border end.Left = rw point refl
no-port table track point border end.Right = rw point refl
no-port table track point border end.End = rw border refl

port-answered : (place : Place) (table : TableName) (n : ℕ) (port : End) → Answered place (table_with port ∷ []) table (port_of place port (element_of table n))
port-answered place named.Track n end.A = inl (alone named.Track named.Track refl, quiet-ok _)
port-answered place named.Track n end.B = inl (alone named.Track named.Track refl, quiet-ok _)
port-answered place named.Track n end.Tip = inr (refl, refl)
port-answered place named.Track n end.Left = inr (refl, refl)
port-answered place named.Track n end.Right = inr (refl, refl)
port-answered place named.Track n end.End = inr (refl, refl)
port-answered place named.Point n end.A = inr (refl, refl)
port-answered place named.Point n end.B = inr (refl, refl)
port-answered place named.Point n end.Tip = inl (alone named.Point named.Point refl, quiet-ok _)
port-answered place named.Point n end.Left = inl (alone named.Point named.Point refl, quiet-ok _)
port-answered place named.Point n end.Right = inl (alone named.Point named.Point refl, quiet-ok _)
port-answered place named.Point n end.End = inr (refl, refl)
port-answered place named.Border n end.A = inr (refl, refl)
port-answered place named.Border n end.B = inr (refl, refl)
port-answered place named.Border n end.Tip = inr (refl, refl)
port-answered place named.Border n end.Left = inr (refl, refl)
port-answered place named.Border n end.Right = inr (refl, refl)
port-answered place named.Border n end.End = inl (alone named.Border named.Border refl, quiet-ok _)
port-answered place named.Station n port = inr (no-port named.Station refl refl refl port, refl)
port-answered place named.Section n port = inr (no-port named.Section refl refl refl port, refl)
port-answered place named.Joint n port = inr (no-port named.Joint refl refl refl port, refl)
port-answered place named.Signal n port = inr (no-port named.Signal refl refl refl port, refl)
port-answered place named.Detector n port = inr (no-port named.Detector refl refl refl port, refl)
port-answered place named.Route n port = inr (no-port named.Route refl refl refl port, refl)

module _ (text : LayoutText) (directory : List (List ℕ × Place)) (all : directory ≡ names_written text) (leads : Leads directory) (place : Place) where
  not-there : (u : Use) → lookup (same_name u.name) directory ≡ None → IsNamed text u → ⊥
  not-there u h is =
      let found = leads u.name (is.name, is.place) (subst (λ es. Contains es (is.name, is.place)) (sym all) is.entry) is.same in
      let none : None ≡ Some is.place = sym h ∙ found in
      search (rules, none)

  other-table : (u : Use) (found : Place) → lookup (same_name u.name) directory ≡ Some found → may u.tables found.table ≡ false → IsNamed text u → ⊥
  other-table u found h other is =
      let first = leads u.name (is.name, is.place) (subst (λ es. Contains es (is.name, is.place)) (sym all) is.entry) is.same in
      let one : is.place ≡ found = same_Some is.place found (sym first ∙ h) in
      false≢true (sym other ∙ may-contain u.tables found.table (subst (λ p. Contains u.tables p.table) one is.table))

  is-there : (u : Use) (found : Place) → lookup (same_name u.name) directory ≡ Some found → Contains u.tables found.table → IsNamed text u
  is-there u found h table =
      let k = look-found (same_name u.name) directory found h in
      record { name = k.0; place = found; entry = subst (λ es. Contains es (k.0, found)) all k.1; same = k.2; table = table }

  asked : {A : Type 0} (u : Use) (answer : Option Place → Result A LayoutFault) → answer None ≡ Err (UnknownName place) → ((found : Place) → Answered place u.tables found.table (answer (Some found)))
      → (o : Option Place) → lookup (same_name u.name) directory ≡ o → Tells (IsNamed text) ((u, place) ∷ []) (answer o)
  asked u answer none some None h = tells-missed (IsNamed text) u place (answer None) (not-there u h) none
  asked u answer none some (Some found) h = ⊎_elim
      (λ is. tells-held (IsNamed text) u place (answer (Some found)) (is-there u found h is.0) is.1)
      (λ not. tells-missed (IsNamed text) u place (answer (Some found)) (other-table u found h not.0) not.1)
      (some found)

  -- ---- each sort of name

  number-tells : (table : TableName) (name : List ℕ) → Tells (IsNamed text) ((record { name = name; tables = table ∷ [] }, place) ∷ []) (number_named directory place table name)
  number-tells table name = asked (record { name = name; tables = table ∷ [] }) (number_in directory place table) refl (number-answered place directory table) (lookup (same_name name) directory) refl

  pub section-tells : (name : List ℕ) → Tells (IsNamed text) ((section_use name, place) ∷ []) (section_named directory place name)
  unfolding section_named
  section-tells name = tells-end (IsNamed text) ((section_use name, place) ∷ []) (number_named directory place named.Section name) (λ n. record { 0 = n }) (number-tells named.Section name)

  pub signal-tells : (name : List ℕ) → Tells (IsNamed text) ((signal_use name, place) ∷ []) (signal_named directory place name)
  unfolding signal_named
  signal-tells name = tells-end (IsNamed text) ((signal_use name, place) ∷ []) (number_named directory place named.Signal name) (λ n. record { 0 = n }) (number-tells named.Signal name)

  pub route-tells : (name : List ℕ) → Tells (IsNamed text) ((route_use name, place) ∷ []) (route_named directory place name)
  unfolding route_named
  route-tells name = tells-end (IsNamed text) ((route_use name, place) ∷ []) (number_named directory place named.Route name) (λ n. record { 0 = n }) (number-tells named.Route name)

  pub side-tells : (p : List ℕ × Side) → Tells (IsNamed text) ((point_use p.0, place) ∷ []) (side_named directory place p)
  unfolding side_named
  side-tells p = tells-end (IsNamed text) ((point_use p.0, place) ∷ []) (number_named directory place named.Point p.0) (λ n. (record { 0 = n }, p.1)) (number-tells named.Point p.0)

  pub exit-tells : (name : List ℕ) → Tells (IsNamed text) ((exit_use name, place) ∷ []) (exit_named directory place name)
  unfolding exit_named
  exit-tells name = asked (exit_use name) (λ o. ok_or (option_and_then (λ found. exit_of found.table (found.entry - 1)) o) (UnknownName place)) refl
      (λ found. exit-answered place found.table (found.entry - 1)) (lookup (same_name name) directory) refl

  pub port-tells : (element : List ℕ) (port : End) → Tells (IsNamed text) ((port_use element port, place) ∷ []) (port_named directory place (record { element = element; end = port }))
  unfolding port_named element_named
  port-tells element port = asked (port_use element port) (λ o. port_of place port (option_and_then (λ found. element_of found.table (found.entry - 1)) o)) refl
      (λ found. port-answered place found.table (found.entry - 1) port) (lookup (same_name element) directory) refl
