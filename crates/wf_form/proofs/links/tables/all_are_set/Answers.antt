use Rattle.std.proofs.Common.{sym, ◌∙◌, true≢false}
use Rattle.wf_form.proofs.links.tables.all_are_set.Goals as goal

pub returns-then-not-row_is_set : goal.returns-then-not-row_is_set
returns-then-not-row_is_set c = (
  λ t. absurd (true≢false (sym t)),
  λ h. sym c.if-not-row_is_set.true ∙ c.row_is_set.ensures.1 (λ j l. h (record { position = c.loop-k.k; port = j }) l),
)
