use Rattle.std.proofs.Common.{◌≡◌, ◌++◌, codes, flat_map}
use Rattle.wf_json.specs.Canonical.{text_in_quotes}
use Rattle.numbered_names.specs.Names.{numbered_names}
use Rattle.wf_gen.proofs.text.append_others.Given as goal

abbrev pub invariant-loop-k : goal.invariant-loop-k
invariant-loop-k l = l.to.items ≡ l.initial.to.items ++ flat_map (λ n. codes "," ++ text_in_quotes n) (numbered_names l.first l.k)
