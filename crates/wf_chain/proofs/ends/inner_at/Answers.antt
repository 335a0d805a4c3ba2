use Rattle.std.proofs.Common.{◌<◌, ◌≡◌, ◌∙◌, ℕ, List, map, ap, sym, subst, length, get_or}
use Rattle.std.proofs.lemmas.List.{length-map}
use Rattle.wf_model.specs.declared.numbers.Side.{Side}
use Rattle.wf_model.specs.declared.body.Inner.{Inner as InnerHeld}
use Rattle.wf_model.specs.Grammar.{Inner}
use Rattle.wf_model.specs.Lists.{IsAt}
use Rattle.wf_model.specs.Meaning.{inner_of}
use Rattle.wf_model.proofs.Lists.{is_at}
use Rattle.wf_model.proofs.Mapping.{at_map}
use Rattle.wf_model.proofs.Absent.{no_inner}
use Rattle.wf_chain.specs.Steps.{side_inners}
use Rattle.wf_chain.proofs.ends.inner_at.Goals as goal

-- what stands at a place of the list that was read
read_at : (held : List InnerHeld) (all : List Inner) (n : ℕ) → map inner_of held ≡ all → n < length all → IsAt (inner_of (get_or held n no_inner)) n all
read_at held all n e h = subst (IsAt (inner_of (get_or held n no_inner)) n) e (at_map inner_of (get_or held n no_inner) n held (is_at n held no_inner (subst (λ k. n < k) (sym (ap length e) ∙ length-map held inner_of) h)))

pub returns-in-Input : goal.returns-in-Input
returns-in-Input c =
    let core = c.args.rule.now.core in
    let n = c.args.port.port.0 in
    subst (λ (s : Side). IsAt (inner_of (get_or c.entries.result.now n no_inner)) n (side_inners s core)) (sym c.in-Input.is)
    (read_at c.entries.result.now core.entries n c.entries.ensures (subst (λ (s : Side). n < length (side_inners s core)) c.in-Input.is c.requires))

pub returns-in-Output : goal.returns-in-Output
returns-in-Output c =
    let core = c.args.rule.now.core in
    let n = c.args.port.port.0 in
    subst (λ (s : Side). IsAt (inner_of (get_or c.exits.result.now n no_inner)) n (side_inners s core)) (sym c.in-Output.is)
    (read_at c.exits.result.now core.exits n c.exits.ensures (subst (λ (s : Side). n < length (side_inners s core)) c.in-Output.is c.requires))
