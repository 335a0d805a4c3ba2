use Rattle.std.proofs.Common.{[], ◌∙◌, ap, ap₂, length}
use Rattle.wf_spec.specs.Held.{HeldProduction}
use Rattle.wf_json.specs.Writing.{first_text}
use Rattle.wf_json.proofs.FirstTexts.{first_text-all}
use Rattle.wf_json.proofs.Seen.{length-seen}
use Rattle.wf_json.proofs.writing.canonical.Goals as goal

pub returns : goal.returns
returns c =
    let core = c.args.g.now.core in
    c.in_ok-put_first.ensures.taken [] c.new-out.ensures.items
    ∙ ap₂ (first_text core) (ap length c.modules.ensures.modules) (length-seen (λ (p : HeldProduction). p.core) _ _ c.productions.ensures.productions) ∙ first_text-all core
