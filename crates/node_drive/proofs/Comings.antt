-- What comes, one after another.
use Rattle.std.proofs.Common.{◌≡◌, ℕ, List, [], ◌∷◌, ◌++◌, refl, sym, ap, ◌∙◌, subst, append_assoc, append-nil}
use Rattle.node_drive.specs.Calls.{Calls, CallsCut, Told}
use Rattle.node_drive.specs.Drives.{Performs, Stops}
use Rattle.node_drive.specs.Kinds.{Kind}
use Rattle.node_drive.specs.Rounds.{Coming, Standing, all_come, asked, comes}
use Rattle.node_drive.proofs.Calls.{calls_none, calls_same, calls_then, cuts_all, cuts_before, cuts_none, cuts_same, cuts_then}

module _ {State In : Type 0} (kind : Kind State In) where
  pub come-standing : (xs ys : List (ℕ × Coming)) (a : Standing State) → (all_come kind (xs ++ ys) a).1 ≡ (all_come kind ys (all_come kind xs a).1).1
  come-standing [] ys a = refl
  come-standing (x ∷ xs) ys a = come-standing xs ys (comes kind x.0 x.1 a).1

  pub come-calls : (xs ys : List (ℕ × Coming)) (a : Standing State) → (all_come kind (xs ++ ys) a).0 ≡ (all_come kind xs a).0 ++ (all_come kind ys (all_come kind xs a).1).0
  come-calls [] ys a = refl
  come-calls (x ∷ xs) ys a =
      let next = comes kind x.0 x.1 a in
      ap (λ l. (asked x.0 x.1 ++ next.0) ++ l) (come-calls xs ys next.1)
      ∙ sym (append_assoc (asked x.0 x.1 ++ next.0) (all_come kind xs next.1).0 (all_come kind ys (all_come kind xs next.1).1).0)

  -- the same where a standing is known to be the one after the first
  joined : (xs ys : List (ℕ × Coming)) (a b : Standing State) → b ≡ (all_come kind xs a).1 → (all_come kind xs a).0 ++ (all_come kind ys b).0 ≡ (all_come kind (xs ++ ys) a).0
  joined xs ys a b e = ap (λ s. (all_come kind xs a).0 ++ (all_come kind ys s).0) e ∙ sym (come-calls xs ys a)

module _ {State In : Type 0} {kind : Kind State In} where
  pub performs_none : (a : Standing State) (t : Told) → Performs kind [] a a t t
  performs_none a t = record { standing_is = refl; called = calls_none t }

  pub performs_then : {xs ys : List (ℕ × Coming)} {a b c : Standing State} {ta tb tc : Told} → Performs kind xs a b ta tb → Performs kind ys b c tb tc → Performs kind (xs ++ ys) a c ta tc
  performs_then {xs} {ys} {a} {b} {c} p q = record {
    standing_is = q.standing_is ∙ ap (λ s. (all_come kind ys s).1) p.standing_is ∙ sym (come-standing kind xs ys a);
    called = calls_same (joined kind xs ys a b p.standing_is) (calls_then p.called q.called);
  }

  -- one thing came
  pub performs_one : {a b : Standing State} {ta tb : Told} (now : ℕ) (coming : Coming) → b ≡ (comes kind now coming a).1 → Calls ta tb (asked now coming ++ (comes kind now coming a).0)
      → Performs kind ((now, coming) ∷ []) a b ta tb
  performs_one {a} now coming e p = record { standing_is = e; called = calls_same (sym (append-nil (asked now coming ++ (comes kind now coming a).0))) p }

  -- nothing more was called
  pub performs_kept : {xs : List (ℕ × Coming)} {a b : Standing State} {ta tb tc : Told} → Performs kind xs a b ta tb → Calls tb tc [] → Performs kind xs a b ta tc
  performs_kept {xs} {a} p q = record { standing_is = p.standing_is; called = calls_same (append-nil (all_come kind xs a).0) (calls_then p.called q) }

  pub performs_same : {xs ys : List (ℕ × Coming)} {a b : Standing State} {ta tb : Told} → xs ≡ ys → Performs kind xs a b ta tb → Performs kind ys a b ta tb
  performs_same {xs} {ys} {a} {b} {ta} {tb} e p = subst (λ (l : List (ℕ × Coming)). Performs kind l a b ta tb) e p

  -- ---- cut off

  pub stops_none : (xs : List (ℕ × Coming)) (a : Standing State) (t : Told) → Stops kind xs a t t
  stops_none xs a t = record { cut = cuts_none t (all_come kind xs a).0 }

  pub stops_then : {xs ys : List (ℕ × Coming)} {a b : Standing State} {ta tb tc : Told} → Performs kind xs a b ta tb → Stops kind ys b tb tc → Stops kind (xs ++ ys) a ta tc
  stops_then {xs} {ys} {a} {b} p s = record { cut = cuts_same (joined kind xs ys a b p.standing_is) (cuts_then p.called s.cut) }

  pub stops_before : {xs : List (ℕ × Coming)} {a : Standing State} {ta tb : Told} (ys : List (ℕ × Coming)) → Stops kind xs a ta tb → Stops kind (xs ++ ys) a ta tb
  stops_before {xs} {a} ys s = record { cut = cuts_same (sym (come-calls kind xs ys a)) (cuts_before (all_come kind ys (all_come kind xs a).1).0 s.cut) }

  pub stops_all : {xs : List (ℕ × Coming)} {a b : Standing State} {ta tb : Told} → Performs kind xs a b ta tb → Stops kind xs a ta tb
  stops_all p = record { cut = cuts_all p.called }

  pub stops_now : {xs : List (ℕ × Coming)} {a b : Standing State} {ta tb : Told} (ys : List (ℕ × Coming)) → Performs kind xs a b ta tb → Stops kind (xs ++ ys) a ta tb
  stops_now ys p = stops_before ys (stops_all p)

  pub stops_one : {a : Standing State} {ta tb : Told} (now : ℕ) (coming : Coming) → CallsCut ta tb (asked now coming ++ (comes kind now coming a).0) → Stops kind ((now, coming) ∷ []) a ta tb
  stops_one {a} now coming s = record { cut = cuts_same (sym (append-nil (asked now coming ++ (comes kind now coming a).0))) s }

  pub stops_same : {xs ys : List (ℕ × Coming)} {a : Standing State} {ta tb : Told} → xs ≡ ys → Stops kind xs a ta tb → Stops kind ys a ta tb
  stops_same {xs} {ys} {a} {ta} {tb} e s = subst (λ (l : List (ℕ × Coming)). Stops kind l a ta tb) e s
