-- What a step of a detector's host gives tells of its sections as they are.
use Rattle.simulator_recovery.proofs.Words.Basics.{◌≡◌, ◌⊎◌, inl, inr, ℕ, ◌∙◌, Bool, true, false, List, [], ◌∷◌, ◌++◌, append-nil, map, Option, Some, None, slice_get, if◌then◌else◌, refl, sym, ap, subst, All, false≢true}
use Rattle.simulator_recovery.proofs.Words.Links.{alive_until, settled, Each, is_open}
use Rattle.simulator_recovery.proofs.Words.Controllers.{reading, HostSoFar, HostState, is_completed, items_given, Keeps, ObjectCall, Ticks, object_after_all, reports_paid, beginning, given as given_in, host_step, IsToldIn, IsVersionAnswer, calls_begun, contacts_of, has_lost, item_of, loss_where, Input, Report, detection_behaviour, losing, settled as settled_section, Section}
use Rattle.simulator_recovery.proofs.Words.Interlockings.{told_by, told_by_all}
use Rattle.simulator_recovery.proofs.Words.Recovery.{is_occupied, told_behind, told_in, HasNames}
use Rattle.simulator_recovery.proofs.Lemmas.Talk.ControllerTells.{item_is}
use Rattle.simulator_recovery.proofs.Lemmas.Ground.HostKeeps.{Kept, begins as begins_kept, step_keeps}
use Rattle.simulator_recovery.proofs.Lemmas.Ground.AtLink.{mapped}
use Rattle.simulator_recovery.proofs.Lemmas.Ground.EndCalls.{each_both, each_mapped}
use Rattle.simulator_recovery.proofs.Lemmas.Sections.SectionsCalls.{DetectorSays, EachOnly, Fits, IsElsewhere, answers_none, come_back, come_elsewhere, each_only, item, names_come, own_only, paid_fits, paid_only, told, told_both}
use Rattle.simulator_recovery.proofs.Lemmas.Sections.SectionsClient.{TellsOnly, behind_both, in_both}

after_both : (one other : List ObjectCall) (list : List Section) → object_after_all detection_behaviour (one ++ other) list ≡ object_after_all detection_behaviour other (object_after_all detection_behaviour one list)
unfolding object_after_all
after_both [] other list = refl
after_both (first ∷ one) other list = after_both one other _

pub at_first : (lost : Bool) (now : ℕ) (list : List Section) → object_after_all detection_behaviour (loss_where lost ++ Ticks now ∷ []) list ≡ (if lost then losing list else list)
unfolding object_after_all
at_first true now list = refl
at_first false now list = refl

at_last : (lost : Bool) (moment : ℕ) (list : List Section) → object_after_all detection_behaviour (loss_where lost ++ Keeps moment ∷ []) list ≡ (if lost then losing list else list)
unfolding object_after_all
at_last true moment list = refl
at_last false moment list = refl

module _ (d : DetectorSays) where
  abbrev KeptHost : HostState (List Section) → Type 0
  KeptHost = Kept detection_behaviour (HasNames d.names) d.version d.own_name d.peer_name d.keep

  -- While the link is open, what was given tells no section before the initialisation is completed, and each that owes nothing as it is.
  pub record Reports (host : HostState (List Section)) (given : List (List ℕ)) : Type 0 where
    pub none : is_open host.link.phase ≡ true → is_completed host.stage ≡ false → (place : ℕ) → told_in d.peer place given ≡ None
    pub fits : is_open host.link.phase ≡ true → (place : ℕ) (x : Section) → slice_get host.object place ≡ Some x → x.owes ≡ false → Fits x.occupancy (told_in d.peer place given)

  module _ (now : ℕ) (input : Input) (host : HostState (List Section)) (kept_so : KeptHost host) (t : IsToldIn detection_behaviour now input host (host_step detection_behaviour now input host)) where
    abbrev part : HostSoFar (List Section)
    part = host_step detection_behaviour now input host

    abbrev pub begun : HostState (List Section)
    begun = beginning detection_behaviour now host

    abbrev heard : HostState (List Section)
    heard = (given_in detection_behaviour now input begun).host

    pub begun_kept : KeptHost begun
    begun_kept = begins_kept detection_behaviour (HasNames d.names) d.version d.own_name d.peer_name d.keep now host kept_so

    item_there : item_of part.host ≡ item d
    item_there = item_is detection_behaviour (HasNames d.names) d.version d.own_name d.peer_name d.keep part.host (step_keeps detection_behaviour (HasNames d.names) d.version d.own_name d.peer_name d.keep now input host kept_so)

    -- after what comes, and after what is paid
    abbrev pub come : List Section
    come = object_after_all detection_behaviour t.comes begun.object

    abbrev pub paid : List Section
    paid = object_after_all detection_behaviour t.pays come

    pub come_named : HasNames d.names come
    come_named = names_come d now t.comes t.are_coming begun.object begun_kept.object

    abbrev last : List ObjectCall
    last = loss_where t.is_lost ++ Keeps (alive_until part.host.link) ∷ []

    object_so : part.host.object ≡ (if t.is_lost then losing paid else paid)
    object_so = t.object_is ∙ (after_both (calls_begun now host) ((t.comes ++ t.pays) ++ last) host.object
        ∙ (ap (λ (l : List Section). object_after_all detection_behaviour ((t.comes ++ t.pays) ++ last) l) (sym t.begun_is)
        ∙ (after_both (t.comes ++ t.pays) last begun.object ∙ (ap (object_after_all detection_behaviour last) (after_both t.comes t.pays begun.object) ∙ at_last t.is_lost (alive_until part.host.link) paid))))

    pub object_open : is_open part.host.link.phase ≡ true → part.host.object ≡ paid
    object_open opened = object_so ∙ ap (λ b. if b then losing paid else paid) (t.stays opened)

    abbrev pub items : List (List ℕ)
    items = items_given now part.calls (settled now host.link)

    pub items_are : items ≡ map (item d) (t.own ++ t.reports)
    items_are = t.gives ∙ ap (λ (f : Report → List ℕ). map f (t.own ++ t.reports)) item_there

    pub answers_so : All (IsVersionAnswer detection_behaviour d.version) t.says.answers
    answers_so = subst (λ (n : ℕ). All (IsVersionAnswer detection_behaviour n) t.says.answers) begun_kept.version_is t.says.are_answers

    -- what the host says itself tells a section that owes nothing as it is
    own_each : (place : ℕ) (x : Section) → slice_get begun.object place ≡ Some x → EachOnly d place (is_occupied x.occupancy) t.own
    own_each place x there = subst (EachOnly d place (is_occupied x.occupancy)) (sym t.says.own_is)
        (own_only d place begun.object x t.says.answers t.says.begins begun_kept.object there answers_so t.says.are_some)

    -- what was given before, in the connection that the step is in, or nothing
    pub record StartsRight (start : List (List ℕ)) : Type 0 where
      pub none : is_completed begun.stage ≡ false → (place : ℕ) → told_in d.peer place start ≡ None
      pub fits : (place : ℕ) (x : Section) → slice_get begun.object place ≡ Some x → x.owes ≡ false → Fits x.occupancy (told_in d.peer place start)

    module _ (start : List (List ℕ)) (right : StartsRight start) where
      abbrev behind_own : ℕ → Option Bool
      behind_own place = told_behind place (told_in d.peer place start) (told d t.own)

      tells_of : (place : ℕ) → told_in d.peer place (start ++ items) ≡ told_behind place (behind_own place) (told d t.reports)
      tells_of place = in_both d.peer place start items
          ∙ (ap (λ (list : List (List ℕ)). told_behind place (told_in d.peer place start) (told_by_all d.peer list)) items_are
          ∙ (ap (told_behind place (told_in d.peer place start)) (told_both d t.own t.reports) ∙ behind_both place (told_in d.peer place start) (told d t.own) (told d t.reports)))

      own_fits : (place : ℕ) (x : Section) → slice_get come place ≡ Some x → x.owes ≡ false → Fits x.occupancy (behind_own place)
      own_fits place x there free = choose (right.fits place x was free) (each_only d place (is_occupied x.occupancy) t.own (own_each place x was) (told_in d.peer place start))
        where
          was : slice_get begun.object place ≡ Some x
          was = come_back now t.comes t.are_coming begun.object place x there free

          choose : Fits x.occupancy (told_in d.peer place start) → (behind_own place ≡ told_in d.peer place start) ⊎ (behind_own place ≡ Some (is_occupied x.occupancy)) → Fits x.occupancy (behind_own place)
          choose before (inl same) = subst (Fits x.occupancy) (sym same) before
          choose before (inr now_told) = inr now_told

      -- once the initialisation is completed
      completed_fits : is_completed heard.stage ≡ true → (place : ℕ) (x : Section) → slice_get paid place ≡ Some x → x.owes ≡ false → Fits x.occupancy (told_in d.peer place (start ++ items))
      completed_fits done place x there free = subst (Fits x.occupancy) (sym (tells_of place))
          (subst (λ (reports : List Report). Fits x.occupancy (told_behind place (behind_own place) (told d reports))) (sym (t.paid done))
          (paid_fits d t.pays t.are_payments come come_named behind_own own_fits place x there free))

      -- and before nothing is told of a section
      silent_none : is_completed heard.stage ≡ false → (place : ℕ) → told_in d.peer place (start ++ items) ≡ None
      unfolding told_by_all
      silent_none early place = tells_of place
          ∙ (ap (λ (reports : List Report). told_behind place (behind_own place) (told d reports)) (t.dropped early)
          ∙ (ap (told_behind place (told_in d.peer place start)) own_none ∙ right.none (by_begun (is_completed begun.stage) refl) place))
        where
          own_none : told d t.own ≡ []
          own_none = ap (told d) (t.says.own_is ∙ (ap (λ (begins : List Report). t.says.answers ++ begins) (t.says.completes early) ∙ append-nil t.says.answers)) ∙ answers_none d t.says.answers answers_so

          by_begun : (b : Bool) → is_completed begun.stage ≡ b → is_completed begun.stage ≡ false
          by_begun false e = e
          by_begun true e = absurd (false≢true (sym early ∙ t.completed e))

      pub step_reports : Reports part.host (start ++ items)
      step_reports = record {
        none = λ opened early place. silent_none (ap is_completed (sym (t.stage_is opened)) ∙ early) place;
        fits = λ opened place x there free. by_stage (is_completed heard.stage) refl place x (ap (λ (l : List Section). slice_get l place) (sym (object_open opened)) ∙ there) free;
      }
        where
          by_stage : (b : Bool) → is_completed heard.stage ≡ b → (place : ℕ) (x : Section) → slice_get paid place ≡ Some x → x.owes ≡ false → Fits x.occupancy (told_in d.peer place (start ++ items))
          by_stage true e place x there free = completed_fits e place x there free
          by_stage false e place x there free = inl (silent_none e place)

    -- a section that owes nothing does so as a step begins
    pub begun_there : (place : ℕ) (x : Section) → slice_get host.object place ≡ Some x → x.owes ≡ false → (y : Section) × (slice_get begun.object place ≡ Some y) × (y.occupancy ≡ x.occupancy) × (y.owes ≡ false)
    begun_there place x there free = subst (λ (l : List Section). (y : Section) × (slice_get l place ≡ Some y) × (y.occupancy ≡ x.occupancy) × (y.owes ≡ false)) (sym (t.begun_is ∙ at_first (has_lost (record host { link = settled now host.link })) now host.object))
        (by_loss (has_lost (record host { link = settled now host.link })))
      where
        by_loss : (b : Bool) → (y : Section) × (slice_get (if b then losing host.object else host.object) place ≡ Some y) × (y.occupancy ≡ x.occupancy) × (y.owes ≡ false)
        by_loss false = (x, there, refl, free)
        by_loss true = (settled_section x, mapped settled_section host.object place x there, refl, refl)

    -- ---- a section of which nothing comes

    module _ (place : ℕ) (x : Section) (there : slice_get begun.object place ≡ Some x) (free : x.owes ≡ false) (elsewhere : Each (IsElsewhere place) (contacts_of input)) where
      come_there : slice_get come place ≡ Some x
      come_there = come_elsewhere now t.comes t.are_coming place (subst (Each (IsElsewhere place)) (sym t.senses) elsewhere) begun.object ∙ there

      rest : EachOnly d place (is_occupied x.occupancy) (reports_paid detection_behaviour t.pays come) × (slice_get paid place ≡ Some x)
      rest = paid_only d t.pays t.are_payments come come_named place x come_there free

      reports_each : EachOnly d place (is_occupied x.occupancy) t.reports
      reports_each = by_stage (is_completed heard.stage) refl
        where
          by_stage : (b : Bool) → is_completed heard.stage ≡ b → EachOnly d place (is_occupied x.occupancy) t.reports
          by_stage true e = subst (EachOnly d place (is_occupied x.occupancy)) (sym (t.paid e)) rest.0
          by_stage false e = subst (EachOnly d place (is_occupied x.occupancy)) (sym (t.dropped e)) tt

      -- what is given tells only this of it
      pub items_only : Each (λ (i : List ℕ). TellsOnly place (is_occupied x.occupancy) (told_by d.peer (reading i))) items
      items_only = subst (Each (λ (i : List ℕ). TellsOnly place (is_occupied x.occupancy) (told_by d.peer (reading i)))) (sym items_are)
          (each_mapped _ (item d) (t.own ++ t.reports) (each_both _ t.own t.reports (own_each place x there) reports_each))

      -- and it stays so
      pub section_stays : (y : Section) × (slice_get part.host.object place ≡ Some y) × (y.occupancy ≡ x.occupancy) × (y.owes ≡ false)
      section_stays = subst (λ (l : List Section). (y : Section) × (slice_get l place ≡ Some y) × (y.occupancy ≡ x.occupancy) × (y.owes ≡ false)) (sym object_so) (by_loss t.is_lost)
        where
          by_loss : (b : Bool) → (y : Section) × (slice_get (if b then losing paid else paid) place ≡ Some y) × (y.occupancy ≡ x.occupancy) × (y.owes ≡ false)
          by_loss false = (x, rest.1, refl, free)
          by_loss true = (settled_section x, mapped settled_section paid place x rest.1, refl, refl)
