-- The digests of a grammar: its own, and those of its earlier versions.
use Rattle.std.specs.Prelude.{ℕ, List, ◌∷◌, map}
use Rattle.sha2.specs.Sha256.{sha256}
use Rattle.wf_model.specs.Grammar.{Grammar}
use Rattle.wf_model.specs.Versions.{version_of}
use Rattle.wf_spec.specs.declared.version.Version.{Version}
use Rattle.wf_spec.specs.Held.{HeldGrammar}
use Rattle.wf_json.specs.Canonical.{canonical_of}

-- the digest of a grammar: the SHA-256 of its canonical text
abbrev pub digest_of : Grammar → List ℕ
digest_of g = sha256 (canonical_of g)

-- the digest of an earlier version of a grammar: that of its own grammar
abbrev pub digest_of_version : Grammar → Version → List ℕ
digest_of_version g v = digest_of (version_of g v.modules v.productions)

-- the digest of a grammar, and then those of its earlier versions, in order
abbrev pub digests_of : HeldGrammar → List (List ℕ)
digests_of h = digest_of h.core ∷ map (digest_of_version h.core) h.versions
