-- What comes of calls of a disturbed network.
use Rattle.std.proofs.Common.{◌≡◌, ◌+◌, ◌<◌, ℕ, nat_le, slice_set, take, drop, Bool, true, false, List, [], ◌∷◌, ◌++◌, if◌then◌else◌, inl, inr, ◌∙◌, length, map, refl, sym, ap, subst, arith}
use Rattle.std.proofs.Math.Numerals.{add-one}
use Rattle.std.proofs.lemmas.List.{append_assoc, drop-set-lt, drop_more, map-append, take_more_set}
use Rattle.panel_desk.specs.node_lines.simulator_event.layout.declared.ids.NodeId.{NodeId}
use Rattle.station_drive.specs.Told.{Call, Sends}
use Rattle.station_panel.specs.DisturbedNetwork.{Decided, DisturbedView, GoesOn, LateView, Released, Releases, SentIf, Waits, comes_late, counted, flag_at, flags_from, late_of, saturated}
use Rattle.station_panel.specs.Inside.{FirstGoes, Keeps, LosesIf, is_first_due}
use Rattle.station_panel.specs.declared.disturbed.Late.{Late}

wrong : false ≡ true → ⊥
wrong is = let f : ⊥ = cc in f

is_none : (late : List LateView) (reading : ℕ) → length late ≡ 0 → is_first_due late reading ≡ false
is_none [] reading none = refl
is_none (first ∷ more) reading none = absurd (omega (arith, none))

-- one more flag is as it is wanted
pub flag_next : (wanted flags all : List Bool) (place : ℕ) (value : Bool) → value ≡ flag_at wanted place → place < length flags
    → take place flags ++ flags_from wanted place (drop place flags) ≡ all
    → take (place + 1) (slice_set flags place value) ++ flags_from wanted (place + 1) (drop (place + 1) (slice_set flags place value)) ≡ all
flag_next wanted flags all place value is inside before =
    let front : List Bool = take place flags in
    ap (λ (l : List Bool). l ++ flags_from wanted (place + 1) (drop (place + 1) (slice_set flags place value))) (take_more_set flags place value inside)
    ∙ (append_assoc front (value ∷ []) _
    ∙ (ap (λ (l : List Bool). front ++ value ∷ flags_from wanted (place + 1) l) (drop-set-lt (place + 1) flags place value (omega arith))
    ∙ (ap (λ (b : Bool). front ++ b ∷ flags_from wanted (place + 1) (drop (place + 1) flags)) is
    ∙ (ap (λ (n : ℕ). front ++ flag_at wanted place ∷ flags_from wanted n (drop (place + 1) flags)) (add-one place)
    ∙ (ap (λ (l : List Bool). front ++ flags_from wanted place l) (sym (drop_more flags place false inside)) ∙ before)))))

-- whether it is kept, by whether there was memory
pub keeps : {Network : Type 0} (there : Bool) (old new : List Late) (one : Late) (d : DisturbedView Network) (to : NodeId) (bytes : List ℕ) → comes_late d ≡ true → d.late ≡ map late_of old
    → late_of one ≡ record { to = to; bytes = bytes; due = saturated (d.reading + d.delay) } → new ≡ (if there then old ++ one ∷ [] else old)
    → Keeps d to bytes there (record d { late = map late_of new })
keeps true old new one d to bytes is_late late one_is is = (
  is_late,
  ap (λ (l : List LateView). record d { late = l })
      (ap (map late_of) is ∙ (map-append late_of old (one ∷ []) ∙ (ap (λ l. l ++ late_of one ∷ []) (sym late) ∙ ap (λ (o : LateView). d.late ++ o ∷ []) one_is))),
)
keeps false old new one d to bytes is_late late one_is is = ap (λ (l : List LateView). record d { late = l }) (ap (map late_of) is ∙ sym late)

-- ---- what is lost

pub lost_by_a_cut : {Network : Type 0} (cut turn : Bool) (d : DisturbedView Network) → cut ≡ true → LosesIf cut turn d true d
lost_by_a_cut true turn d is = (refl, refl)
lost_by_a_cut false turn d is = absurd (wrong is)

pub lost_in_its_turn : {Network : Type 0} (cut turn : Bool) (d : DisturbedView Network) → cut ≡ false → turn ≡ true → LosesIf cut turn d true (record d { since = 0 })
lost_in_its_turn true turn d is_not is = absurd (wrong (sym is_not))
lost_in_its_turn false true d is_not is = (refl, refl)
lost_in_its_turn false false d is_not is = absurd (wrong is)

pub not_lost : {Network : Type 0} (cut turn : Bool) (d : DisturbedView Network) (since : ℕ) → since ≡ saturated (d.since + 1) → cut ≡ false → turn ≡ false
    → LosesIf cut turn d false (record d { since = since })
not_lost true turn d since more is_not is = absurd (wrong (sym is_not))
not_lost false true d since more is_not is = absurd (wrong (sym is))
not_lost false false d since more is_not is = (refl, ap (λ (n : ℕ). record d { since = n }) more)

module _ {Network Net : Type 0} (told : Network → Net) (carries : Net → Call → Net → Type 0) where
  -- ---- what is sent

  pub lost : (cut turn late : Bool) (d new : DisturbedView Network) (to : NodeId) (bytes : List ℕ) → LosesIf cut turn d true new → SentIf told carries cut turn late d to bytes new
  lost true turn late d new to bytes is = is.1
  lost false true late d new to bytes is = is.1
  lost false false late d new to bytes is = absurd (wrong (sym is.0))

  pub waits : (cut turn : Bool) (d mid new : DisturbedView Network) (to : NodeId) (bytes : List ℕ) → LosesIf cut turn d false mid → Keeps mid to bytes true new
      → SentIf told carries cut turn (comes_late d) d to bytes new
  waits true turn d mid new to bytes is kept = absurd (wrong is.0)
  waits false true d mid new to bytes is kept = absurd (wrong is.0)
  waits false false d mid new to bytes is kept =
      subst (λ b. SentIf told carries false false b d to bytes new) (sym kept.0 ∙ ap (λ (m : DisturbedView Network). comes_late m) is.1)
      (inl (subst (λ m. Waits m to bytes new) is.1 kept.1))

  -- late or not
  goes_at_once : (late : Bool) (d new : DisturbedView Network) (to : NodeId) (bytes : List ℕ) → GoesOn told carries (counted d) (Sends to bytes) new → SentIf told carries false false late d to bytes new
  goes_at_once true d new to bytes goes = inr goes
  goes_at_once false d new to bytes goes = goes

  pub sent : (cut turn : Bool) (d mid kept new : DisturbedView Network) (to : NodeId) (bytes : List ℕ) → LosesIf cut turn d false mid → Keeps mid to bytes false kept
      → GoesOn told carries kept (Sends to bytes) new → SentIf told carries cut turn (comes_late d) d to bytes new
  sent true turn d mid kept new to bytes is not goes = absurd (wrong is.0)
  sent false true d mid kept new to bytes is not goes = absurd (wrong is.0)
  sent false false d mid kept new to bytes is not goes = goes_at_once (comes_late d) d new to bytes (subst (λ m. GoesOn told carries m (Sends to bytes) new) (not ∙ is.1) goes)

  -- ---- what waited

  none_of : (late : List LateView) (d : DisturbedView Network) → is_first_due late d.reading ≡ false → Releases told carries late d d
  none_of [] d is = refl
  none_of (first ∷ more) d is = subst (λ b. Decided b ((net : Network) × carries (told d.net) (Sends first.to first.bytes) (told net) × Releases told carries more (record d { net = net; late = more }) d) (d ≡ d)) (sym is) refl

  pub none_is_due : (d : DisturbedView Network) → is_first_due d.late d.reading ≡ false → Released told carries d d
  none_is_due d is = none_of d.late d is

  -- the first goes on
  first_of : (late : List LateView) (d new : DisturbedView Network) (first : LateView) (more : List LateView) (net : Network) → late ≡ first ∷ more → is_first_due late d.reading ≡ true
      → carries (told d.net) (Sends first.to first.bytes) (told net) → Releases told carries more (record d { net = net; late = more }) new → Releases told carries late d new
  first_of late d new first more net is due carried rest =
      let due_first : nat_le first.due d.reading ≡ true = sym (ap (λ (l : List LateView). is_first_due l d.reading) is) ∙ due in
      subst (λ (l : List LateView). Releases told carries l d new) (sym is)
      (subst (λ b. Decided b ((net : Network) × carries (told d.net) (Sends first.to first.bytes) (told net) × Releases told carries more (record d { net = net; late = more }) new) (new ≡ d)) (sym due_first)
      (net, carried, rest))

  pub nothing_waits : (d : DisturbedView Network) → length d.late ≡ 0 → Released told carries d d
  nothing_waits d none = none_is_due d (is_none d.late d.reading none)

  -- where the first of those that wait goes on, all that come of the rest come of all
  goes_of : (late : List LateView) (d new : DisturbedView Network) → is_first_due late d.reading ≡ true → FirstGoes told carries late d new
      → (length new.late + 1 ≡ length late) × ((last : DisturbedView Network) → Released told carries new last → Releases told carries late d last)
  goes_of [] d new due goes = absurd (wrong due)
  goes_of (first ∷ more) d new due goes =
      let after : new.late ≡ more = ap (λ (n : DisturbedView Network). n.late) goes.2 in
      let many : length new.late ≡ length more = ap (λ (l : List LateView). length l) after in (
        omega (arith, many),
        λ last rest. first_of (first ∷ more) d last first more goes.0 refl due goes.1 (subst (λ n. Released told carries n last) goes.2 rest),
      )

  pub goes : (d new : DisturbedView Network) → is_first_due d.late d.reading ≡ true → FirstGoes told carries d.late d new
      → (length new.late + 1 ≡ length d.late) × ((last : DisturbedView Network) → Released told carries new last → Released told carries d last)
  goes d new due goes_on = goes_of d.late d new due goes_on

  -- the first was taken
  pub none_goes : (late : List Late) (d new : DisturbedView Network) → length late ≡ 0 → FirstGoes told carries (map late_of late) d new
  none_goes [] d new none = tt
  none_goes (first ∷ more) d new none = absurd (omega (arith, none))

  pub one_goes : (late more : List Late) (first : Late) (d new : DisturbedView Network) (net : Network) → late ≡ first ∷ more
      → carries (told d.net) (Sends first.to first.bytes.items) (told net) → new ≡ record d { net = net; late = map late_of more } → FirstGoes told carries (map late_of late) d new
  one_goes late more first d new net is carried new_is = subst (λ (l : List Late). FirstGoes told carries (map late_of l) d new) (sym is) (net, carried, new_is)
