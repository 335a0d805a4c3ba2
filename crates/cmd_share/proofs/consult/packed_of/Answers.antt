use Rattle.std.proofs.Common.{ℕ, List, None, ap, ◌∙◌, subst, inr}
use Rattle.package_model.specs.Translating.{Malformed, TranslatesTo}
use Rattle.wf_loops.specs.Looped.{LoopedValue, loop_in}
use Rattle.wf_message.specs.Endings.{Refused}
use Rattle.cmd_share.proofs.consult.packed_of.Goals as goal

pub returns-in-Err-Malformed-clause-stops : goal.returns-in-Err-Malformed-clause-stops
returns-in-Err-Malformed-clause-stops c =
    let v = c.args.held.now in
    let there = subst (λ (l : LoopedValue). TranslatesTo l.accepted.grammar.core (loop_in l.steps) c.deref.result.now Malformed) c.looped.ensures.looped (c.in-Err-Malformed.ensures.malformed c.in-Err-Malformed.field-0-is) in
    inr (
      subst (λ b. TranslatesTo v.accepted.grammar.core (loop_in v.steps) b Malformed) (c.deref.ensures.value ∙ c.in-Ok.ensures) there,
      c.refused_whole.ensures ∙ ap (λ (t : List ℕ). Refused c.args.place.word.now None t) c.named.ensures,
    )
