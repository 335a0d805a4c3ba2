use Rattle.std.proofs.Common.{ℕ, List, Option, ap, ◌∙◌}
use Rattle.wf_model.specs.Meaning.{bit_of}
use Rattle.wf_safe.proofs.Tables.{has_is}
use Rattle.wf_safe.proofs.check.compare.is_joined.Goals as goal

pub returns-in-Some : goal.returns-in-Some
returns-in-Some c = c.have_pair.ensures ∙ (has_is c.in-Some.rows.now c.args.input.0 c.args.output.0 ∙ ap (λ (z : Option (List ℕ)). bit_of z c.args.input.0 c.args.output.0) c.in-Some.ensures)
