-- From where what is done comes.
use Rattle.std.proofs.Common.{◌≡◌, ◌≤◌, ℕ, nat_le, Bool, true, false, not, if◌then◌else◌, List, length, codes, Option, Some, None, Result, Ok, Err, refl, sym, ap, ◌∙◌, bytes_eq, arith}
use Rattle.std.proofs.lemmas.Bool.{false≢true}
use Rattle.std.proofs.lemmas.Slice.Eq.{bytes_eq-Decides}
use Rattle.draw_desk.specs.Asked.{ComesFromThePage, IsForDesk, Says, asked, does, is_given, posted, shown, word_of}
use Rattle.draw_desk.specs.Seen.{AccessView, SentView}
use Rattle.draw_desk.specs.declared.refusal.Refusal.{Refusal}
use Rattle.draw_desk.specs.declared.refusal.Refusal.TheVariants.{NoSuchTarget}
use Rattle.draw_desk.specs.declared.request.Request.{Request}
use Rattle.draw_desk.specs.declared.request.Request.TheVariants.{Page, Layout, Check, Save}

-- a test that would refuse didn't
passed : {A : Type 0} (refuses : Bool) (why : Refusal) (next : Result A Refusal) (answer : A) → (if refuses then Err why else next) ≡ Ok answer → (refuses ≡ false) × (next ≡ Ok answer)
passed true why next answer h = absurd (cc)
passed false why next answer h = (refl, h)

-- what was tested by its opposite
met : (b : Bool) → not b ≡ false → b ≡ true
met true h = refl
met false h = absurd (cc)

pub same_bytes : (xs ys : List ℕ) → bytes_eq xs ys ≡ true → xs ≡ ys
same_bytes xs ys h = (bytes_eq-Decides xs ys).0 h

given_says : (wanted : List ℕ) (field : Option (List ℕ)) → is_given wanted field ≡ true → Says field wanted
given_says wanted None h = absurd (cc)
given_says wanted (Some field) h = same_bytes field wanted h

within : (bytes most : ℕ) → nat_le bytes most ≡ true → bytes ≤ most
within bytes most h = grind (arith, h)

-- what is posted comes from the page
posted_comes : (access : AccessView) (sent : SentView) (next : Result Request Refusal) (wanted : Request) → IsForDesk access sent
    → posted access sent next ≡ Ok wanted → ComesFromThePage access sent
posted_comes access sent next wanted host h =
    let method = passed (not (bytes_eq sent.method (codes "POST"))) _ _ wanted h in
    let origin = passed (not (is_given access.origin sent.origin)) _ _ wanted method.1 in
    let token = passed (not (is_given access.token sent.token)) _ _ wanted origin.1 in
    let few = passed (not (nat_le (length sent.body) 1048576)) _ _ wanted token.1 in
    record {
      host = host;
      method = same_bytes sent.method (codes "POST") (met _ method.0);
      origin = given_says access.origin sent.origin (met _ origin.0);
      token = given_says access.token sent.token (met _ token.0);
      length = within (length sent.body) 1048576 (met _ few.0);
    }

-- what is shown isn't done
shown_none : (method : List ℕ) (request wanted : Request) → does request ≡ false → shown method request ≡ Ok wanted → does wanted ≡ true → ⊥
shown_none method request wanted idle h is =
    let next : Ok request ≡ Ok wanted = (passed (not (bytes_eq method (codes "GET"))) _ (Ok request) wanted h).1 in
    let same : request ≡ wanted = cc in
    false≢true (sym idle ∙ ap does same ∙ is)

target_comes : (access : AccessView) (sent : SentView) (wanted : Request) (page layout check save run : Bool) → IsForDesk access sent
    → (if page then shown sent.method Page else if layout then shown sent.method Layout else if check then posted access sent (Ok Check) else if save then posted access sent (Ok Save) else if run then posted access sent (word_of sent.body) else Err NoSuchTarget) ≡ Ok wanted
    → does wanted ≡ true → ComesFromThePage access sent
target_comes access sent wanted true layout check save run host h is = absurd (shown_none sent.method Page wanted refl h is)
target_comes access sent wanted false true check save run host h is = absurd (shown_none sent.method Layout wanted refl h is)
target_comes access sent wanted false false true save run host h is = posted_comes access sent _ wanted host h
target_comes access sent wanted false false false true run host h is = posted_comes access sent _ wanted host h
target_comes access sent wanted false false false false true host h is = posted_comes access sent _ wanted host h
target_comes access sent wanted false false false false false host h is = absurd (cc)

pub host_is : (access : AccessView) (sent : SentView) (wanted : Request) → asked access sent ≡ Ok wanted → IsForDesk access sent
host_is access sent wanted h = given_says access.host sent.host (met _ (passed (not (is_given access.host sent.host)) _ _ wanted h).0)

pub comes : (access : AccessView) (sent : SentView) (wanted : Request) → asked access sent ≡ Ok wanted → does wanted ≡ true → ComesFromThePage access sent
comes access sent wanted h is =
    target_comes access sent wanted (bytes_eq sent.target (codes "/")) (bytes_eq sent.target (codes "/layout")) (bytes_eq sent.target (codes "/check")) (bytes_eq sent.target (codes "/save")) (bytes_eq sent.target (codes "/run"))
    (host_is access sent wanted h) (passed (not (is_given access.host sent.host)) _ _ wanted h).1 is
