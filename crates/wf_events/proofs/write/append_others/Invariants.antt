use Rattle.std.proofs.Common.{◌≡◌, ◌++◌, codes, flat_map, take}
use Rattle.wf_json.specs.Canonical.{text_in_quotes}
use Rattle.wf_events.proofs.write.append_others.Given as goal

abbrev pub invariant-loop-name : goal.invariant-loop-name
invariant-loop-name l = l.to.items ≡ l.initial.to.items ++ flat_map (λ n. codes "," ++ text_in_quotes n) (take l.name-index l.names)
