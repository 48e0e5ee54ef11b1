-- Captures grow by one datagram after the other.
use Rattle.std.proofs.Common.{◌≡◌, ◌∙◌, ◌⊎◌, ℕ, ◌+◌, ◌<◌, ◌≤◌, List, [], ◌∷◌, ◌++◌, length, take, get_or, map, Option, Some, None, Result, Ok, Err, inl, inr, ap, sym, subst, arith, append-nil, slice_get}
use Rattle.std.specs.Prelude.{IfErr, IfOk}
use Rattle.std.proofs.lemmas.List.{flat_map_more, map-append, take_all, take_more}
use Rattle.std.proofs.lemmas.Option.{slice_get_cases}
use Rattle.capture_file.specs.Blocks.{head, packet_block}
use Rattle.capture_file.specs.Captures.{IsCapture}
use Rattle.capture_file.specs.Journeys.{Sent}
use Rattle.capture_file.specs.declared.fault.CaptureFault.TheVariants.{TooLong}
use Rattle.capture_file.specs.declared.journey.Endpoint.{Endpoint}
use Rattle.replay.specs.rasta_core.Links.{OnLink}
use Rattle.replay.specs.World.{IsFirst, Played}
use Rattle.replay.specs.layout.Entries.{Site}
use Rattle.replay.specs.replay_lines.declared.session.Entry.{Entry}
use Rattle.replay.specs.station_check.declared.failure.Failure.{Failure}
use Rattle.replay.specs.station_check.declared.failure.Failure.TheVariants.{Capture, OutOfMemory}
use Rattle.station_record.specs.CapturedSession.{IsCaptureOf, IsFileOf, captured}
use Rattle.station_record.specs.Traffic.{left_by}
use Rattle.station_record.specs.inside.CapturesSoFar.{Adds, Captures, IsNoCapture, IsNoFile}

pub begins : (given : List Endpoint) (file : List ℕ) → file ≡ head → IsCapture [] file → IsCaptureOf given [] file
begins given file exact is = record { is = is; exact = exact ∙ sym (append-nil head) }

-- one more
added : (given : List Endpoint) (sent : List OnLink) (one : OnLink) (old new : List ℕ) → Adds given one old new → IsCaptureOf given sent old → IsCaptureOf given (sent ++ one ∷ []) new
added given sent one old new adds before =
    record {
      is = subst (λ (all : List Sent). IsCapture all new) (sym (map-append (captured given) sent (one ∷ []))) (adds.is (map (captured given) sent) before.is);
      exact = adds.exact ∙ (ap (λ t. t ++ packet_block (captured given one)) before.exact ∙ flat_map_more (λ one. packet_block (captured given one)) head sent one);
    }

-- the datagram at a place, where there is one
abbrev pub Found : List OnLink → ℕ → Type 0
Found sent place =
    ((one : OnLink) × (place < length sent) × (slice_get sent place ≡ Some one) × (get_or sent place one ≡ one)) ⊎ ((length sent ≤ place) × (slice_get sent place ≡ None))

grown : (given : List Endpoint) (sent : List OnLink) (place : ℕ) (old new : List ℕ) → place < length sent → Captures given (slice_get sent place) old new → IsCaptureOf given (take place sent) old
    → Found sent place → IsCaptureOf given (take (place + 1) sent) new
grown given sent place old new within more before (inl found) =
    let one : OnLink = found.0 in
    let adds : Adds given one old new = subst (λ (o : Option OnLink). Captures given o old new) found.2 more in
    let longer : take (place + 1) sent ≡ take place sent ++ one ∷ [] = take_more sent place one within ∙ ap (λ z. take place sent ++ z ∷ []) found.3 in
    subst (λ (all : List OnLink). IsCaptureOf given all new) (sym longer) (added given (take place sent) one old new adds before)
grown given sent place old new within more before (inr past) = let beyond = past.0 in absurd (omega (arith, beyond, within))

pub grows : (given : List Endpoint) (sent : List OnLink) (count place : ℕ) (old new : List ℕ) → count ≡ length sent → place < count → Captures given (slice_get sent place) old new
    → IsCaptureOf given (take place sent) old → IsCaptureOf given (take (place + 1) sent) new
grows given sent count place old new counted within more before = grown given sent place old new (rw (sym counted) within) more before (slice_get_cases sent place).1

pub ends : (given : List Endpoint) (sent : List OnLink) (count place : ℕ) (file : List ℕ) → count ≡ length sent → count ≤ place → IsCaptureOf given (take place sent) file → IsCaptureOf given sent file
ends given sent count place file counted past is = subst (λ (all : List OnLink). IsCaptureOf given all file) (take_all place sent (rw (sym counted) past)) is

-- ---- of a session

-- what is sent from a first world on is what the session sends
pub file_told : {F : Type 0} (given : List Endpoint) (items : F → List ℕ) (site : Site) (first : Played) (entries : List Entry) (tried : Result F Failure) → IsFirst site first
    → IfOk tried (λ file. IsCaptureOf given (left_by first entries).run.sent (items file)) → IfOk tried (λ file. IsFileOf site entries given (items file))
file_told given items site first entries (Ok file) begins is = record { first = first; begins = begins; is = is }
file_told given items site first entries (Err why) begins is = tt

no_file : (site : Site) (first : Played) (entries : List Entry) (why : Failure) → IsFirst site first → IsNoCapture (left_by first entries).run.sent why → IsNoFile site entries why
no_file site first entries OutOfMemory begins so = tt
no_file site first entries (Capture TooLong) begins so = record { first = first; begins = begins; has = so }
no_file site first entries other begins so = absurd so

pub no_file_told : {F : Type 0} (site : Site) (first : Played) (entries : List Entry) (tried : Result F Failure) → IsFirst site first
    → IfErr tried (IsNoCapture (left_by first entries).run.sent) → IfErr tried (IsNoFile site entries)
no_file_told site first entries (Ok file) begins so = tt
no_file_told site first entries (Err why) begins so = no_file site first entries why begins so

-- ---- after a session

-- what a network lends that is the one of a world
pub capture_of_sent : {F : Type 0} (given : List Endpoint) (items : F → List ℕ) (sent : List OnLink) (now behind : Played) (tried : Result F Failure) → sent ≡ now.run.sent → now ≡ behind
    → IfOk tried (λ file. IsCaptureOf given sent (items file)) → IfOk tried (λ file. IsCaptureOf given behind.run.sent (items file))
capture_of_sent given items sent now behind tried same is so =
    subst (λ (all : List OnLink). IfOk tried (λ file. IsCaptureOf given all (items file))) (same ∙ ap (λ (w : Played). w.run.sent) is) so

pub no_capture_of_sent : {F : Type 0} (sent : List OnLink) (now behind : Played) (tried : Result F Failure) → sent ≡ now.run.sent → now ≡ behind → IfErr tried (IsNoCapture sent)
    → IfErr tried (IsNoCapture behind.run.sent)
no_capture_of_sent sent now behind tried same is so =
    subst (λ (all : List OnLink). IfErr tried (IsNoCapture all)) (same ∙ ap (λ (w : Played). w.run.sent) is) so
