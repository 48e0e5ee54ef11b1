-- What the rows say of sections and points.
use Rattle.std.proofs.Common.{◌≡◌, ℕ, ◌<◌, ◌≤◌, Bool, false, not, List, length, get_or, refl, ap, sym, ◌∙◌}
use Rattle.std.specs.Prelude.{None}
use Rattle.std.specs.FinSet.{contains}
use Rattle.std.proofs.lemmas.Option.{slice_get_past, slice_get_read}
use Rattle.ixl_spec.specs.bit_row.Places.{Places}
use Rattle.ixl_spec.specs.sci_telegram.declared.message.Side.{Side}
use Rattle.ixl_spec.specs.ixl_client.Client.{is_ready}
use Rattle.ixl_spec.specs.Rules.{is_unmoved}
use Rattle.ixl_spec.specs.State.{KnownSignalState, KnownPointState}
use Rattle.ixl_spec.specs.Table.{Table, at, passes}
use Rattle.ixl_spec.specs.View.{indicated, indicated_by, is_at_known_stop, is_clear, is_known, is_known_signal_at_stop, is_occupied, is_signal_ready}
use Rattle.ixl_known.specs.Field.{FieldState, Rest, kept}
use Rattle.ixl_known.specs.inside.Rows.{is_at, is_told_clear, is_told_occupied}

pub clear_known : (table : Table) (rest : Rest) (inside old : FieldState) (row : Places) → inside ≡ old → ((s : ℕ) → contains row s ≡ is_told_clear inside.reporters inside.detectors s) → table.reporters ≡ old.reporters →
    (s : ℕ) → contains row s ≡ is_clear table (kept old rest) s
unfolding is_clear
clear_known table rest inside old row same fits is s =
    fits s ∙ ap (λ (f : FieldState). is_told_clear f.reporters f.detectors s) same ∙ ap (λ (r : List (ℕ × ℕ)). is_told_clear r old.detectors s) (sym is)

pub occupied_known : (table : Table) (rest : Rest) (inside old : FieldState) (row : Places) → inside ≡ old → ((s : ℕ) → contains row s ≡ is_told_occupied inside.reporters inside.detectors s) → table.reporters ≡ old.reporters →
    (s : ℕ) → contains row s ≡ is_occupied table (kept old rest) s
unfolding is_occupied
occupied_known table rest inside old row same fits is s =
    fits s ∙ ap (λ (f : FieldState). is_told_occupied f.reporters f.detectors s) same ∙ ap (λ (r : List (ℕ × ℕ)). is_told_occupied r old.detectors s) (sym is)

pub known_at : (side : Side) (rest : Rest) (inside old : FieldState) (row : Places) → inside ≡ old → ((p : ℕ) → contains row p ≡ is_at side inside.known_points p) → (p : ℕ) → contains row p ≡ is_known (kept old rest) p side
unfolding is_known
known_at side rest inside old row same fits p = fits p ∙ ap (λ (f : FieldState). is_at side f.known_points p) same

there : {A : Type 0} (list : List A) (test : A → Bool) (k : ℕ) (one : A) → k < length list → one ≡ get_or list k one → at list k test ≡ test one
unfolding at
there list test k one within is = ap (λ found. passes test found) (slice_get_read list (length list) k one refl within is)

nowhere : {A : Type 0} (list : List A) (test : A → Bool) (k : ℕ) → length list ≤ k → at list k test ≡ false
unfolding at
nowhere list test k beyond = ap (λ found. passes test found) (slice_get_past list k beyond)

pub signal_ready : (rest : Rest) (inside old : FieldState) (signal : ℕ) (known_signal : KnownSignalState) → inside ≡ old → signal < length inside.known_signals → known_signal ≡ get_or inside.known_signals signal known_signal → is_ready known_signal.client.stage ≡ is_signal_ready (kept old rest) signal
signal_ready rest inside old signal known_signal same within is = sym (there inside.known_signals (λ (l : KnownSignalState). is_ready l.client.stage) signal known_signal within is) ∙ ap (λ (f : FieldState). is_signal_ready (kept f rest) signal) same

pub no_signal_ready : (rest : Rest) (inside old : FieldState) (signal : ℕ) → inside ≡ old → length inside.known_signals ≤ signal → false ≡ is_signal_ready (kept old rest) signal
no_signal_ready rest inside old signal same beyond = sym (nowhere inside.known_signals (λ (l : KnownSignalState). is_ready l.client.stage) signal beyond) ∙ ap (λ (f : FieldState). is_signal_ready (kept f rest) signal) same

pub known_stop : (now : ℕ) (rest : Rest) (inside old : FieldState) (signal : ℕ) (known_signal : KnownSignalState) → inside ≡ old → signal < length inside.known_signals → known_signal ≡ get_or inside.known_signals signal known_signal → is_known_signal_at_stop now known_signal ≡ is_at_known_stop now (kept old rest) signal
unfolding is_at_known_stop
known_stop now rest inside old signal known_signal same within is = sym (there inside.known_signals (is_known_signal_at_stop now) signal known_signal within is) ∙ ap (λ (f : FieldState). at f.known_signals signal (is_known_signal_at_stop now)) same

pub no_known_stop : (now : ℕ) (rest : Rest) (inside old : FieldState) (signal : ℕ) → inside ≡ old → length inside.known_signals ≤ signal → false ≡ is_at_known_stop now (kept old rest) signal
unfolding is_at_known_stop
no_known_stop now rest inside old signal same beyond = sym (nowhere inside.known_signals (is_known_signal_at_stop now) signal beyond) ∙ ap (λ (f : FieldState). at f.known_signals signal (is_known_signal_at_stop now)) same

pub indicated_at : (rest : Rest) (inside old : FieldState) (signal : ℕ) (known_signal : KnownSignalState) → inside ≡ old → signal < length inside.known_signals → known_signal ≡ get_or inside.known_signals signal known_signal → known_signal.indicated ≡ indicated (kept old rest) signal
indicated_at rest inside old signal known_signal same within is =
    sym (ap indicated_by (slice_get_read inside.known_signals (length inside.known_signals) signal known_signal refl within is)) ∙ ap (λ (f : FieldState). indicated (kept f rest) signal) same

pub none_indicated : (rest : Rest) (inside old : FieldState) (signal : ℕ) → inside ≡ old → length inside.known_signals ≤ signal → None ≡ indicated (kept old rest) signal
none_indicated rest inside old signal same beyond = sym (ap indicated_by (slice_get_past inside.known_signals signal beyond)) ∙ ap (λ (f : FieldState). indicated (kept f rest) signal) same

pub unmoved : (rest : Rest) (inside old : FieldState) (point route : ℕ) (known_point : KnownPointState) → inside ≡ old → point < length inside.known_points → known_point ≡ get_or inside.known_points point known_point →
    not (contains known_point.moved route) ≡ is_unmoved (kept old rest) point route
unmoved rest inside old point route known_point same within is = sym (there inside.known_points (λ (w : KnownPointState). not (contains w.moved route)) point known_point within is) ∙ ap (λ (f : FieldState). is_unmoved (kept f rest) point route) same

pub none_unmoved : (rest : Rest) (inside old : FieldState) (point route : ℕ) → inside ≡ old → length inside.known_points ≤ point → false ≡ is_unmoved (kept old rest) point route
none_unmoved rest inside old point route same beyond = sym (nowhere inside.known_points (λ (w : KnownPointState). not (contains w.moved route)) point beyond) ∙ ap (λ (f : FieldState). is_unmoved (kept f rest) point route) same

-- a test of an object that is looked at, by its place in one of the field's lists; and past the end of the list
pub looked_at : {A : Type 0} (of : FieldState → List A) (test : A → Bool) (inside old : FieldState) (place : ℕ) (one : A) → inside ≡ old → place < length (of inside) → one ≡ get_or (of inside) place one → test one ≡ at (of old) place test
looked_at of test inside old place one same within is = sym (there (of inside) test place one within is) ∙ ap (λ (f : FieldState). at (of f) place test) same

pub looked_past : {A : Type 0} (of : FieldState → List A) (test : A → Bool) (inside old : FieldState) (place : ℕ) → inside ≡ old → length (of inside) ≤ place → false ≡ at (of old) place test
looked_past of test inside old place same beyond = sym (nowhere (of inside) test place beyond) ∙ ap (λ (f : FieldState). at (of f) place test) same
