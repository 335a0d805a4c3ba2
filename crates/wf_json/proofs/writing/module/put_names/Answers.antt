use Rattle.std.proofs.Common.{rules, [], get_or, refl}
use Rattle.wf_json.specs.Canonical.{text_in_quotes}
use Rattle.wf_json.proofs.Joined.{list_taken}
use Rattle.wf_json.proofs.writing.module.put_names.Goals as goal

pub returns : goal.returns
returns g c = list_taken _ _ _ text_in_quotes c.args.names.now [] _ _ refl (c.put_list.ensures (λ k. text_in_quotes (get_or c.args.names.now k [])) (λ v k r w below met. search rules))
