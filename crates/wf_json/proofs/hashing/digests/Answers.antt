use Rattle.std.proofs.Common.{subst}
use Rattle.wf_model.specs.Lists.{IsIn}
use Rattle.wf_spec.proofs.Tables.{get_in}
use Rattle.wf_json.proofs.hashing.digests.Goals as goal

pub version_digest-requires : goal.version_digest-requires
version_digest-requires c =
    c.versions-versions.ensures.fit.each _ (subst (IsIn _) c.versions-versions.ensures.versions (get_in c.loop-version.version-index _ _ c.loop-version-test.true))
