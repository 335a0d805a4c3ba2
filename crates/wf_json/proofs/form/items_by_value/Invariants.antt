use Rattle.std.proofs.Common.{◌≡◌, ◌++◌, length}
use Rattle.std.specs.Prelude.{option_map}
use Rattle.std.specs.Vec.Iter.{into_iter_items, into_iter_len}
use Rattle.serde_json.specs.View.{items_view}
use Rattle.wf_json.specs.Forms.{items_form}
use Rattle.wf_json.proofs.form.items_by_value.Given as goal

abbrev pub invariant-loop-value : goal.invariant-loop-value
invariant-loop-value g l =
    (items_form g.T.FromJson.form (items_view (into_iter_items l.initial.value-iterator)) ≡ option_map (λ ss. l.found.items ++ ss) (items_form g.T.FromJson.form (items_view (into_iter_items l.value-iterator))))
    × (into_iter_len l.value-iterator ≡ length (into_iter_items l.value-iterator))
