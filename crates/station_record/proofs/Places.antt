-- Lines of datagrams that were sent, place by place.
use Rattle.std.proofs.Common.{◌≡◌, ◌∙◌, ℕ, zero, suc, ◌+◌, ◌≤◌, List, [], ◌∷◌, ◌++◌, length, refl, ap, sym, arith, append_assoc, append-nil, slice_get}
use Rattle.std.proofs.lemmas.List.{drop_all}
use Rattle.replay.specs.layout.Entries.{Site}
use Rattle.replay.specs.rasta_core.Links.{OnLink}
use Rattle.station_record.specs.Lines.{lines_text}
use Rattle.station_record.specs.Traffic.{sent_behind}
use Rattle.station_record.specs.inside.Places.{line_at}

-- the line of a place stands before those after it
one_first : (site : Site) (sent : List OnLink) (place : ℕ) → line_at site (slice_get sent place) ++ lines_text site (sent_behind (suc place) sent) ≡ lines_text site (sent_behind place sent)
one_first site [] zero = refl
one_first site [] (suc place) = refl
one_first site (one ∷ more) zero = refl
one_first site (one ∷ more) (suc place) = one_first site more place

pub one_more : (site : Site) (sent : List OnLink) (place : ℕ) (so_far new all : List ℕ) → new ≡ so_far ++ line_at site (slice_get sent place)
    → so_far ++ lines_text site (sent_behind place sent) ≡ all → new ++ lines_text site (sent_behind (place + 1) sent) ≡ all
one_more site sent place so_far new all added before =
    let line : List ℕ = line_at site (slice_get sent place) in
    let next : place + 1 ≡ suc place = omega arith in
    ap (λ n. new ++ lines_text site (sent_behind n sent)) next
    ∙ (ap (λ text. text ++ lines_text site (sent_behind (suc place) sent)) added
    ∙ (append_assoc so_far line (lines_text site (sent_behind (suc place) sent))
    ∙ (ap (λ text. so_far ++ text) (one_first site sent place) ∙ before)))

pub all_told : (site : Site) (sent : List OnLink) (count place : ℕ) (so_far all : List ℕ) → count ≡ length sent → count ≤ place
    → so_far ++ lines_text site (sent_behind place sent) ≡ all → so_far ≡ all
all_told site sent count place so_far all counted past before =
    sym (append-nil so_far) ∙ (ap (λ (left : List OnLink). so_far ++ lines_text site (sent_behind 0 left)) (sym (drop_all place sent (rw (sym counted) past))) ∙ before)
