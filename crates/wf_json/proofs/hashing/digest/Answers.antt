use Rattle.std.proofs.Common.{◌≡◌, ◌∙◌, ap, ap₂, length}
use Rattle.std.proofs.lemmas.Result.{IfOk-weaker}
use Rattle.sha2.specs.Sha256.{sha256}
use Rattle.wf_spec.specs.Held.{HeldProduction}
use Rattle.wf_json.specs.Digests.{digest_of}
use Rattle.wf_json.specs.Writing.{first_text}
use Rattle.wf_json.proofs.FirstTexts.{first_text-all}
use Rattle.wf_json.proofs.Seen.{length-seen}
use Rattle.wf_json.proofs.hashing.digest.Goals as goal

pub returns : goal.returns
returns c =
    let core = c.args.g.now.core in
    let text = ap₂ (first_text core) (ap length c.modules.ensures.modules) (length-seen (λ (p : HeldProduction). p.core) _ _ c.productions.ensures.productions) ∙ first_text-all core in
    IfOk-weaker c.first_digest.result _ (λ d. d ≡ digest_of core) (λ d is. is ∙ ap sha256 text) c.first_digest.ensures
