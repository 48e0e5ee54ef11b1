-- Over which files a desk writes.
use Rattle.std.proofs.Common.{◌≡◌, inl, inr, ℕ, Bool, true, false, if◌then◌else◌, List, [], ◌∷◌, codes, Option, Some, None, Result, Ok, Err, refl, ap, bytes_eq}
use Rattle.std.specs.Fmt.{decimal}
use Rattle.std.specs.Str.{is_utf8}
use Rattle.http.specs.declared.request.Request.{Request as Incoming}
use Rattle.http_server.specs.declared.response.Response.{Response}
use Rattle.draw_desk.specs.Answers.{Answered, AnsweredTo, BeginsAt, BeginsIf, BeginsOf, ChecksIf, DeskView, SavesIf, Shows, StartedIf, Stored, called, is_running, sent_of}
use Rattle.draw_desk.specs.Asked.{asked}
use Rattle.draw_desk.specs.Calls.{Reads, Writes, recorded}
use Rattle.draw_desk.specs.Saving.{claim_of, is_same, may_write}
use Rattle.draw_desk.specs.Seen.{SentView}
use Rattle.draw_desk.specs.Writing.{MadeCalls, MayBeLost, is_asked, is_known, looks, nothing, writes}
use Rattle.draw_desk.specs.declared.claim.Claim.{Claim}
use Rattle.draw_desk.specs.declared.claim.Claim.TheVariants.{Anything, Current, Stale}
use Rattle.draw_desk.specs.declared.known.Checked.{Checked}
use Rattle.draw_desk.specs.declared.known.Known.{Known}
use Rattle.draw_desk.specs.declared.outside.Verdict.{Verdict}
use Rattle.draw_desk.specs.declared.refusal.Refusal.{Refusal}
use Rattle.draw_desk.specs.declared.request.Request.{Request}
use Rattle.draw_desk.specs.declared.request.Request.TheVariants.{Page, Layout, Check, Save, Start, Stop}
use Rattle.draw_desk.specs.declared.saving.Outcome.{Outcome}
use Rattle.draw_desk.specs.declared.saving.Outcome.TheVariants.{NotRead, Changed, NotWritten, Saved}
use Rattle.draw_desk.proofs.Comes.{comes, same_bytes}

-- ---- what may be lost

same_text : (known found : Option (List ℕ)) → is_same known found ≡ true → known ≡ found
same_text None None h = refl
same_text None (Some found) h = absurd (cc)
same_text (Some known) None h = absurd (cc)
same_text (Some known) (Some found) h = ap Some (same_bytes known found h)

-- by the tests of what was said
said_lost : (known : Known) (said : List ℕ) (found : Option (List ℕ)) (anything current : Bool) → bytes_eq said (codes "anything") ≡ anything → bytes_eq said (decimal known.number) ≡ current
    → may_write (if anything then Anything else if current then Current else Stale) known.text found ≡ true → MayBeLost known (Some said) found
said_lost known said found true current all one h = is_asked (same_bytes said _ all)
said_lost known said found false true all one h = is_known (same_bytes said _ one) (same_text known.text found h)
said_lost known said found false false all one h = absurd (cc)

lost : (known : Known) (said found : Option (List ℕ)) → may_write (claim_of known.number said) known.text found ≡ true → MayBeLost known said found
lost known None found h = absurd (cc)
lost known (Some said) found h = said_lost known said found _ _ refl refl h

-- ---- the calls of a request

-- no call was made
same : (sent : SentView) (old new : DeskView) → new.calls ≡ old.calls → MadeCalls sent old new
same sent old new h = record { calls = []; made = h; rightly = nothing }

-- the file was looked at
looked : (sent : SentView) (old new : DeskView) (found : Option (Option (List ℕ))) → new.calls ≡ recorded (Reads found) old.calls → MadeCalls sent old new
looked sent old new found h = record { calls = Reads found ∷ []; made = h; rightly = looks found }

module _ (judges : List ℕ → Verdict → Type 0) (sent : SentView) (old new : DeskView) (response : Response) where
  shows : (found : Option (Option (List ℕ))) → Shows found (called (Reads found) old) response new → MadeCalls sent old new
  shows None h = looked sent old new None (ap (λ (d : DeskView). d.calls) h.1)
  shows (Some found) (inl h) = looked sent old new (Some found) (ap (λ (d : DeskView). d.calls) h.1)
  shows (Some found) (inr h) = looked sent old new (Some found) (ap (λ (d : DeskView). d.calls) h.1)

  checks : (is_text : Bool) → ChecksIf judges is_text sent.body old response new → MadeCalls sent old new
  checks true h = same sent old new (ap (λ (d : DeskView). d.calls) h.3)
  checks false h = same sent old new (ap (λ (d : DeskView). d.calls) h.1)

  begins_at : (port : Option ℕ) (text : List ℕ) → BeginsAt port text old response new → MadeCalls sent old new
  begins_at None text h = same sent old new (ap (λ (d : DeskView). d.calls) h.1)
  begins_at (Some port) text h = same sent old new (ap (λ (d : DeskView). d.calls) h.1)

  begins_if : (sound : Bool) (checked : Checked) → BeginsIf sound checked old response new → MadeCalls sent old new
  begins_if true checked h = begins_at h.0 checked.text h.1
  begins_if false checked h = same sent old new (ap (λ (d : DeskView). d.calls) h.1)

  begins_of : (checked : Option Checked) → BeginsOf checked old response new → MadeCalls sent old new
  begins_of None h = same sent old new (ap (λ (d : DeskView). d.calls) h.1)
  begins_of (Some checked) h = begins_if _ checked h

  started : (running : Bool) → StartedIf running old response new → MadeCalls sent old new
  started true h = same sent old new (ap (λ (d : DeskView). d.calls) h.1)
  started false h = begins_of old.checked h

  stored : asked old.access sent ≡ Ok Save → (outcome : Outcome) → Stored (claim_of old.known.number sent.known) sent.body old outcome new → MadeCalls sent old new
  stored is NotRead h = looked sent old new None (ap (λ (d : DeskView). d.calls) h)
  stored is Changed h = looked sent old new (Some h.0) (ap (λ (d : DeskView). d.calls) h.2)
  stored is NotWritten h = record {
    calls = Reads (Some h.0) ∷ Writes sent.body false ∷ [];
    made = ap (λ (d : DeskView). d.calls) h.2;
    rightly = writes h.0 false (lost old.known sent.known h.0 h.1) (comes old.access sent Save is refl);
  }
  stored is Saved h = record {
    calls = Reads (Some h.0) ∷ Writes sent.body true ∷ [];
    made = ap (λ (d : DeskView). d.calls) h.2;
    rightly = writes h.0 true (lost old.known sent.known h.0 h.1) (comes old.access sent Save is refl);
  }

  saves : asked old.access sent ≡ Ok Save → (is_text : Bool) → SavesIf judges is_text sent old response new → MadeCalls sent old new
  saves is true h = stored is h.0 h.1
  saves is false h = same sent old new (ap (λ (d : DeskView). d.calls) h.1)

  answered : (wanted : Result Request Refusal) → asked old.access sent ≡ wanted → AnsweredTo judges wanted sent old response new → MadeCalls sent old new
  answered (Ok Page) is h = same sent old new (ap (λ (d : DeskView). d.calls) h.1)
  answered (Ok Layout) is h = shows h.0 h.1
  answered (Ok Check) is h = checks (is_utf8 sent.body) h
  answered (Ok Save) is h = saves is (is_utf8 sent.body) h
  answered (Ok Start) is h = started (is_running old.stage) h
  answered (Ok Stop) is h = same sent old new (ap (λ (d : DeskView). d.calls) h.1)
  answered (Err refusal) is h = same sent old new (ap (λ (d : DeskView). d.calls) h.1)

pub written : (judges : List ℕ → Verdict → Type 0) (old new : DeskView) (request : Incoming (List ℕ)) (response : Response) → Answered judges old request response new → MadeCalls (sent_of request) old new
written judges old new request response h = answered judges (sent_of request) old new response _ refl h
