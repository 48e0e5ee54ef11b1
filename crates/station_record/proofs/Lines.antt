-- The lines of a session, event by event.
use Rattle.std.proofs.Common.{◌≡◌, ◌∙◌, ℕ, ◌+◌, ◌<◌, ◌≤◌, List, [], ◌∷◌, ◌++◌, length, drop, get_or, Option, Some, None, Result, Ok, Err, refl, ap, sym, subst, append_assoc, append-nil}
use Rattle.std.specs.Prelude.{OnOk}
use Rattle.std.proofs.KnownBytes.{Appends-nil, Appends-trans, Appends-kept}
use Rattle.std.proofs.lemmas.Grind.{flat_map-append}
use Rattle.std.proofs.lemmas.List.{drop_more, drop_all}
use Rattle.std.specs.Io.KnownBytes.{Appends, Keeps}
use Rattle.replay.specs.replay_lines.declared.session.Entry.{Entry}
use Rattle.replay.specs.layout.Entries.{Site}
use Rattle.replay.specs.rasta_core.Links.{OnLink}
use Rattle.replay.specs.simulator_event.declared.event.Event.{Event}
use Rattle.replay.specs.simulator_event.refused.Refused.{Refused}
use Rattle.replay.specs.World.{IsFirst, Played, after, refusal_of}
use Rattle.station_record.specs.DecodedSession.{IsTold}
use Rattle.station_record.specs.Lines.{line_text, lines_text}
use Rattle.station_record.specs.Traffic.{OnWire, by_event, done_by, sent_behind, traffic, with_done}
use Rattle.station_record.specs.inside.Places.{line_if}
use Rattle.station_record.proofs.Applied.{data_stays}

-- What was written so far, and after it the lines of the entries from a place on, are those of all.
pub record GoesOn (site : Site) (first : Played) (all : List Entry) (place : ℕ) (now : Played) (old new : Option (List ℕ)) : Type 0 where
  pub written : List ℕ
  pub appended : Appends old new written
  pub site_is : now.sited.site ≡ site
  pub on : written ++ lines_text site (traffic now (drop place all)) ≡ lines_text site (traffic first all)

pub goes_on_begins : (site : Site) (first : Played) → first.sited.site ≡ site → (all : List Entry) (known : Option (List ℕ)) → GoesOn site first all 0 first known known
goes_on_begins site first site_is all known = record { written = []; appended = Appends-nil known; site_is = site_is; on = refl }

-- the line of what was done stands before those of what was sent
done_first : (site : Site) (done : Option OnWire) (sent : List OnWire) → line_if site done ++ lines_text site sent ≡ lines_text site (with_done done sent)
done_first site None sent = refl
done_first site (Some one) sent = refl

-- The lines of an event: that of what it does to a datagram, and after it those of what is sent by it.
pub lines_of_event : (happening : Event) (old new : Played) (site : Site) (time count : ℕ) (refused : Option Refused) (sent : List OnLink) (begun told text : List ℕ) → site ≡ old.sited.site → time ≡ old.run.time
    → count ≡ length old.run.sent → refused ≡ refusal_of happening old → new ≡ after old happening → sent ≡ new.run.sent → begun ≡ []
    → told ≡ begun ++ line_if site (done_by time refused happening) → text ≡ told ++ lines_text site (sent_behind count sent) → text ≡ lines_text old.sited.site (by_event happening old)
lines_of_event happening old new site time count refused sent begun told text site_is time_is count_is refused_is moved sent_is empty first said =
    let left : sent ≡ (after old happening).run.sent = sent_is ∙ ap (λ (w : Played). w.run.sent) moved in
    let done : told ≡ line_if site (done_by time refused happening) = first ∙ ap (λ t. t ++ line_if site (done_by time refused happening)) empty in
    let same : line_if site (done_by time refused happening) ++ lines_text site (sent_behind count sent) ≡ line_if old.sited.site (done_by old.run.time (refusal_of happening old) happening) ++ lines_text old.sited.site (sent_behind (length old.run.sent) (after old happening).run.sent) =
    λ k. line_if (site_is k) (done_by (time_is k) (refused_is k) happening) ++ lines_text (site_is k) (sent_behind (count_is k) (left k)) in
    said
    ∙ (ap (λ t. t ++ lines_text site (sent_behind count sent)) done
    ∙ (same ∙ done_first old.sited.site (done_by old.run.time (refusal_of happening old) happening) (sent_behind (length old.run.sent) (after old happening).run.sent)))

-- the lines of an event stand before those of the events after it
one_first : (site : Site) (now next : Played) (this : Entry) (left : List Entry) (text : List ℕ) → now.sited.site ≡ site
    → text ≡ lines_text now.sited.site (by_event this.event now) → next ≡ after now this.event
    → text ++ lines_text site (traffic next left) ≡ lines_text site (traffic now (this ∷ left))
one_first site now next this left text site_is said moved =
    let of_event : List ℕ = lines_text site (by_event this.event now) in
    let is : text ≡ of_event = said ∙ ap (λ (s : Site). lines_text s (by_event this.event now)) site_is in
    ap (λ t. t ++ lines_text site (traffic next left)) is
    ∙ (ap (λ (w : Played). of_event ++ lines_text site (traffic w left)) moved
    ∙ sym (flat_map-append (line_text site) (by_event this.event now) (traffic (after now this.event) left)))

pub goes_on_next : (site : Site) (first : Played) (all : List Entry) (place : ℕ) (this : Entry) (now next : Played) (old was new : Option (List ℕ)) (text : List ℕ)
    → place < length all → this ≡ get_or all place this → text ≡ lines_text now.sited.site (by_event this.event now) → next ≡ after now this.event → Appends was new text
    → GoesOn site first all place now old was → GoesOn site first all (place + 1) next old new
goes_on_next site first all place this now next old was new text within at said moved grows before =
    let left : List Entry = drop (place + 1) all in
    let split : drop place all ≡ this ∷ left = drop_more all place this within ∙ ap (λ e. e ∷ left) (sym at) in
    let later : text ++ lines_text site (traffic next left) ≡ lines_text site (traffic now (drop place all)) =
    one_first site now next this left text before.site_is said moved ∙ ap (λ l. lines_text site (traffic now l)) (sym split) in
    record {
      written = before.written ++ text;
      appended = Appends-trans old was new before.written text before.appended grows;
      site_is = ap (λ (w : Played). w.sited.site) moved ∙ (ap (λ d. d.site) (data_stays this.event now) ∙ before.site_is);
      on = append_assoc before.written text (lines_text site (traffic next left)) ∙ (ap (λ t. before.written ++ t) later ∙ before.on);
    }

pub goes_on_ends : (site : Site) (first : Played) (all : List Entry) (place : ℕ) (now : Played) (old was new : Option (List ℕ)) → length all ≤ place
    → GoesOn site first all place now old was → Keeps was new → Appends old new (lines_text site (traffic first all))
goes_on_ends site first all place now old was new past before kept =
    let whole : before.written ≡ lines_text site (traffic first all) =
    sym (append-nil before.written) ∙ (ap (λ l. before.written ++ lines_text site (traffic now l)) (sym (drop_all place all past)) ∙ before.on) in
    subst (Appends old new) whole (Appends-kept old was new before.written before.appended kept)

-- what was told of a first world's events is told of the session
pub told_of_first : {E : Type 0} (site : Site) (first : Played) (all : List Entry) (old new : Option (List ℕ)) (tried : Result Unit E) → IsFirst site first
    → OnOk tried (Appends old new (lines_text first.sited.site (traffic first all))) → OnOk tried (IsTold site all old new)
told_of_first site first all old new (Ok done) begins appended =
    record { first = first; begins = begins; appended = subst (λ (s : Site). Appends old new (lines_text s (traffic first all))) begins.site_is appended }
told_of_first site first all old new (Err why) begins appended = appended
