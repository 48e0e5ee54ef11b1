use Rattle.std.proofs.Common.{◌≡◌, ◌∙◌, ap, refl, sym, true, false}
use Rattle.std.specs.Prelude.{◌&&◌, Some, None}
use Rattle.ixl_state.specs.ixl_spec.Commands.{is_point_wanting}
use Rattle.ixl_state.specs.ixl_spec.Table.{Row}
use Rattle.ixl_state.specs.ixl_spec.View.{is_at_known_stop, is_occupied, is_signal_ready, is_unknown}
use Rattle.ixl_state.specs.ixl_spec.declared.command.Refusal.TheVariants as refusals
use Rattle.ixl.specs.inside.Parts.{first_where}
use Rattle.ixl.proofs.Causes.{locking_told}
use Rattle.ixl.proofs.Views.{row_read}
use Rattle.ixl.proofs.refusals.locking_refusal.Goals as goal

pub returns-in-Some : goal.returns-in-Some
returns-in-Some c row route kept =
    locking_told c.args.now c.args.state.now.sited.table c.args.state.now.ixl c.args.number row (Some c.in-Some.blocking) _ _ _ _ (sym c.in-Some.is ∙ c.blocking.ensures row route kept) refl refl refl refl

pub returns-in-Some-first_occupied : goal.returns-in-Some-first_occupied
returns-in-Some-first_occupied c row route kept =
    let same : c.index-rows-number.result ≡ row = row_read c.args.state.now.sited c.table.result.now c.rows.result.now c.args.number c.index-rows-number.result row c.rows.ensures c.table.ensures.sited c.index-rows-number.is kept.0
    in locking_told c.args.now c.args.state.now.sited.table c.args.state.now.ixl c.args.number row None (Some c.in-Some-first_occupied.section) _ _ _ (sym c.in_default.is ∙ c.blocking.ensures row route kept)
    (sym c.in-Some-first_occupied.is ∙ c.first_occupied.ensures ∙ ap (λ s. first_where (is_occupied c.args.state.now.sited.table c.args.state.now.ixl) s) (c.sections.ensures ∙ ap (λ (r : Row). r.sections) same)) refl refl refl

pub returns-in-Some-first_wanting : goal.returns-in-Some-first_wanting
returns-in-Some-first_wanting c row route kept =
    let same : c.index-rows-number.result ≡ row = row_read c.args.state.now.sited c.table.result.now c.rows.result.now c.args.number c.index-rows-number.result row c.rows.ensures c.table.ensures.sited c.index-rows-number.is kept.0
    in ap (λ p. Some (refusals.PointUnavailable (record { 0 = p }))) c.point.ensures
    ∙ locking_told c.args.now c.args.state.now.sited.table c.args.state.now.ixl c.args.number row None None (Some c.in-Some-first_wanting.need) _ _ (sym c.in_default.is ∙ c.blocking.ensures row route kept)
    (sym c.in_default-first_occupied.is ∙ c.first_occupied.ensures ∙ ap (λ s. first_where (is_occupied c.args.state.now.sited.table c.args.state.now.ixl) s) (c.sections.ensures ∙ ap (λ (r : Row). r.sections) same))
    (sym c.in-Some-first_wanting.is ∙ c.first_wanting.ensures ∙ ap (λ n. first_where (is_point_wanting c.args.state.now.sited.table c.args.state.now.ixl) n) (c.needs.ensures ∙ ap (λ (r : Row). r.needs) same)) refl refl

pub returns-then-not-is_signal_there : goal.returns-then-not-is_signal_there
returns-then-not-is_signal_there c row route kept =
    let same : c.index-rows-number.result ≡ row = row_read c.args.state.now.sited c.table.result.now c.rows.result.now c.args.number c.index-rows-number.result row c.rows.ensures c.table.ensures.sited c.index-rows-number.is kept.0
    in locking_told c.args.now c.args.state.now.sited.table c.args.state.now.ixl c.args.number row None None None false _ (sym c.in_default.is ∙ c.blocking.ensures row route kept)
    (sym c.in_default-first_occupied.is ∙ c.first_occupied.ensures ∙ ap (λ s. first_where (is_occupied c.args.state.now.sited.table c.args.state.now.ixl) s) (c.sections.ensures ∙ ap (λ (r : Row). r.sections) same))
    (sym c.in_default-first_wanting.is ∙ c.first_wanting.ensures ∙ ap (λ n. first_where (is_point_wanting c.args.state.now.sited.table c.args.state.now.ixl) n) (c.needs.ensures ∙ ap (λ (r : Row). r.needs) same))
    (sym c.if-not-is_signal_there.true ∙ c.is_signal_there.ensures ∙ ap (λ s. is_signal_ready c.args.state.now.ixl s && is_at_known_stop c.args.now c.args.state.now.ixl s) (c.entry.ensures ∙ ap (λ (r : Row). r.entry) same)) refl

pub returns-in-Some-first_unknown : goal.returns-in-Some-first_unknown
returns-in-Some-first_unknown c row route kept =
    let same : c.index-rows-number.result ≡ row = row_read c.args.state.now.sited c.table.result.now c.rows.result.now c.args.number c.index-rows-number.result row c.rows.ensures c.table.ensures.sited c.index-rows-number.is kept.0
    in locking_told c.args.now c.args.state.now.sited.table c.args.state.now.ixl c.args.number row None None None true (Some _) (sym c.in_default.is ∙ c.blocking.ensures row route kept)
    (sym c.in_default-first_occupied.is ∙ c.first_occupied.ensures ∙ ap (λ s. first_where (is_occupied c.args.state.now.sited.table c.args.state.now.ixl) s) (c.sections.ensures ∙ ap (λ (r : Row). r.sections) same))
    (sym c.in_default-first_wanting.is ∙ c.first_wanting.ensures ∙ ap (λ n. first_where (is_point_wanting c.args.state.now.sited.table c.args.state.now.ixl) n) (c.needs.ensures ∙ ap (λ (r : Row). r.needs) same))
    (sym c.if-not-is_signal_there.false ∙ c.is_signal_there.ensures ∙ ap (λ s. is_signal_ready c.args.state.now.ixl s && is_at_known_stop c.args.now c.args.state.now.ixl s) (c.entry.ensures ∙ ap (λ (r : Row). r.entry) same))
    (sym c.in-Some-first_unknown.is ∙ c.first_unknown.ensures ∙ ap (λ s. first_where (is_unknown c.args.state.now.sited.table c.args.state.now.ixl) s) (c.sections-2.ensures ∙ ap (λ (r : Row). r.sections) same))

pub returns-in-None : goal.returns-in-None
returns-in-None c row route kept =
    let same : c.index-rows-number.result ≡ row = row_read c.args.state.now.sited c.table.result.now c.rows.result.now c.args.number c.index-rows-number.result row c.rows.ensures c.table.ensures.sited c.index-rows-number.is kept.0
    in locking_told c.args.now c.args.state.now.sited.table c.args.state.now.ixl c.args.number row None None None true None (sym c.in_default.is ∙ c.blocking.ensures row route kept)
    (sym c.in_default-first_occupied.is ∙ c.first_occupied.ensures ∙ ap (λ s. first_where (is_occupied c.args.state.now.sited.table c.args.state.now.ixl) s) (c.sections.ensures ∙ ap (λ (r : Row). r.sections) same))
    (sym c.in_default-first_wanting.is ∙ c.first_wanting.ensures ∙ ap (λ n. first_where (is_point_wanting c.args.state.now.sited.table c.args.state.now.ixl) n) (c.needs.ensures ∙ ap (λ (r : Row). r.needs) same))
    (sym c.if-not-is_signal_there.false ∙ c.is_signal_there.ensures ∙ ap (λ s. is_signal_ready c.args.state.now.ixl s && is_at_known_stop c.args.now c.args.state.now.ixl s) (c.entry.ensures ∙ ap (λ (r : Row). r.entry) same))
    (sym c.in-None.is ∙ c.first_unknown.ensures ∙ ap (λ s. first_where (is_unknown c.args.state.now.sited.table c.args.state.now.ixl) s) (c.sections-2.ensures ∙ ap (λ (r : Row). r.sections) same))
