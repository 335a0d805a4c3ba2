use Rattle.std.proofs.Common.{◌≡◌, ◌∷◌, map, take}
use Rattle.wf_json.specs.Digests.{digest_of, digest_of_version}
use Rattle.wf_json.proofs.hashing.digests.Given as goal

abbrev pub invariant-loop-version : goal.invariant-loop-version
invariant-loop-version l = l.digests.items ≡ digest_of l.fn.g.core ∷ map (digest_of_version l.fn.g.core) (take l.version-index l.versions)
