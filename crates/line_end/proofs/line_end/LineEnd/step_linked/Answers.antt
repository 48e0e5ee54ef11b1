use Rattle.std.proofs.Common.{List, [], ap, ◌∙◌}
use Rattle.line_laws.specs.declared.words.Item.{Item}
use Rattle.line_laws.specs.Step.{introduced, made_again, partner_queried, query_answered, token_asked, token_given}
use Rattle.line_end.specs.State.{EndState, so_far}
use Rattle.line_end.proofs.line_end.LineEnd.step_linked.Goals as goal

pub returns-clause-so_far : goal.returns-clause-so_far
returns-clause-so_far c =
    c.answer_query.ensures.so_far
    ∙ ap (query_answered c.args.seen.now)
    (c.query_partner.ensures.so_far
    ∙ ap (partner_queried c.args.seen.now)
    (c.ask_for_token.ensures.so_far
    ∙ ap (token_asked c.args.seen.now)
    (c.give_token.ensures.so_far
    ∙ ap (token_given c.args.seen.now)
    (c.introduce.ensures.so_far
    ∙ (ap (λ (items : List Item). introduced c.make_again.new.self.side (so_far c.make_again.new.self items)) c.new-given.ensures
    ∙ ap (λ (state : EndState). introduced state.side (so_far state []))
    (c.make_again.ensures ∙ ap (λ (state : EndState). record state { end = made_again state.side state.end }) c.take_all.ensures))))))
