use Rattle.std.proofs.Common.{refl, sym, ◌∙◌, true≢false}
use Rattle.wf_translate.proofs.chain.end_at.Goals as goal

pub returns-then-is_composite : goal.returns-then-is_composite
returns-then-is_composite c = (refl, refl, c.is_composite.ensures.composite.0 c.if-is_composite.true)

pub returns-else-is_composite : goal.returns-else-is_composite
returns-else-is_composite c = λ p low head. true≢false (sym (c.is_composite.ensures.composite.1 (p, (low, head))) ∙ c.if-is_composite.false)
