use Rattle.std.proofs.Common.{◌≡◌, ◌++◌, length}
use Rattle.std.specs.Prelude.{option_map}
use Rattle.serde_json.specs.View.{items_view}
use Rattle.wf_json.specs.Forms.{items_form}
use Rattle.wf_json.proofs.form.items.Given as goal

abbrev pub invariant-loop-left : goal.invariant-loop-left
invariant-loop-left g l = items_form g.T.FromJson.form (items_view l.initial.left) ≡ option_map (λ ss. l.found.items ++ ss) (items_form g.T.FromJson.form (items_view l.left))

abbrev pub decreases-loop-left : goal.decreases-loop-left
decreases-loop-left g l = length l.left
