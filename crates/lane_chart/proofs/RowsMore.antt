-- Rows are added entry by entry.
use Rattle.std.proofs.Common.{◌≡◌, ◌∙◌, ℕ, ◌+◌, ◌<◌, ◌≤◌, get_or, List, [], ◌∷◌, ◌++◌, length, drop, ap, sym}
use Rattle.std.proofs.Math.ListN.{drop_of_length-le}
use Rattle.std.proofs.lemmas.List.{append-nil, append_assoc, drop_more}
use Rattle.lane_chart.specs.Subjects.{numbered, row_of}
use Rattle.lane_chart.specs.declared.subject.Row.{Row}
use Rattle.lane_chart.specs.declared.subject.Sort.{Sort}

pub goes_on : {A : Type 0} (name : A → List ℕ) (sort : Sort) (entries : List A) (place : ℕ) (entry : A) (old new whole : List Row) → place < length entries → entry ≡ get_or entries place entry
    → new ≡ old ++ row_of sort place (name entry) ∷ [] → old ++ numbered name sort place (drop place entries) ≡ whole
    → new ++ numbered name sort (place + 1) (drop (place + 1) entries) ≡ whole
goes_on name sort entries place entry old new whole within at push so =
    let rest = numbered name sort (place + 1) (drop (place + 1) entries)
    in ap (λ (rows : List Row). rows ++ rest) push ∙ append_assoc old (row_of sort place (name entry) ∷ []) rest
    ∙ ap (λ left. old ++ numbered name sort place left) (sym (drop_more entries place entry within ∙ ap (λ e. e ∷ drop (place + 1) entries) (sym at)))
    ∙ so

pub ends : {A : Type 0} (name : A → List ℕ) (sort : Sort) (entries : List A) (place : ℕ) (old whole : List Row) → length entries ≤ place → old ++ numbered name sort place (drop place entries) ≡ whole → old ≡ whole
ends name sort entries place old whole past so = sym (append-nil old) ∙ ap (λ left. old ++ numbered name sort place left) (sym (drop_of_length-le entries past)) ∙ so

-- of the entries of a table
pub listed : {A : Type 0} (name : A → List ℕ) (sort : Sort) (entries table : List A) (old new : List Row) → entries ≡ table → new ≡ old ++ numbered name sort 0 entries → new ≡ old ++ numbered name sort 0 table
listed name sort entries table old new same push = push ∙ ap (λ those. old ++ numbered name sort 0 those) same

-- some, and others after them
pub behind : (old mid new one other : List Row) → mid ≡ old ++ one → new ≡ mid ++ other → new ≡ old ++ (one ++ other)
behind old mid new one other first second = second ∙ ap (λ rows. rows ++ other) first ∙ append_assoc old one other
