use Rattle.std.proofs.Common.{◌≡◌, ◌∙◌, ap}
use Rattle.std.proofs.lemmas.Result.{IfOk-weaker}
use Rattle.sha2.specs.Sha256.{sha256}
use Rattle.wf_json.specs.Digests.{digest_of_version}
use Rattle.wf_json.proofs.FirstTexts.{first_text-version}
use Rattle.wf_json.proofs.hashing.version_digest.Goals as goal

pub returns : goal.returns
returns c =
    let core = c.args.g.now.core in
    let v = c.args.version in
    IfOk-weaker c.first_digest.result _ (λ d. d ≡ digest_of_version core v) (λ d is. is ∙ ap sha256 (first_text-version core v.modules v.productions c.requires)) c.first_digest.ensures
