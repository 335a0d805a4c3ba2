use Rattle.std.proofs.Common.{inr}
use Rattle.wf_form.specs.Forming.{HaveVersions}
use Rattle.wf_form.proofs.VersionRules.{too_many, bad_version, good_versions, held_versions, held_whole, small_versions}
use Rattle.wf_form.proofs.versions.versioned.Goals as goal
use Rattle.wf_form.proofs.versions.versioned.Goals.{In_default}

pub returns-then-versions-gt-MOST_VERSIONS-clause-refused : goal.returns-then-versions-gt-MOST_VERSIONS-clause-refused
returns-then-versions-gt-MOST_VERSIONS-clause-refused c =
    inr (too_many c.args.parts.now c.args.grammar.core c.items-versions.result.now c.requires.grammar c.items-versions.ensures c.if-versions-gt-MOST_VERSIONS.true)

pub returns-in-Some-clause-refused : goal.returns-in-Some-clause-refused
returns-in-Some-clause-refused c =
    inr (bad_version c.args.parts.now c.args.grammar.core c.items-versions.result.now c.requires.grammar c.items-versions.ensures c.in-Some.k c.if-versions-gt-MOST_VERSIONS.false c.in-Some.ensures)

have_versions : (c : In_default) → HaveVersions c.args.parts.now
have_versions c = good_versions c.args.parts.now c.args.grammar.core c.items-versions.result.now c.requires.grammar c.items-versions.ensures c.if-versions-gt-MOST_VERSIONS.false c.in_default.ensures

pub versions_from-requires : goal.versions_from-requires
versions_from-requires c =
    small_versions c.args.parts.now c.args.grammar.core c.items-versions.result.now c.requires.grammar c.items-versions.ensures c.requires.kept (have_versions c)

pub with_versions-requires : goal.with_versions-requires
with_versions-requires c =
    held_versions c.args.parts.now c.args.grammar.core c.items-versions.result.now c.requires.grammar c.items-versions.ensures (have_versions (goal.at.with_versions-requires c).In_default) c.in_ok-list.list c.in_ok-list.ensures

pub returns-clause-accepted : goal.returns-clause-accepted
returns-clause-accepted c = (
  held_whole c.args.parts.now c.args.grammar.core c.items-versions.result.now c.requires.grammar c.items-versions.ensures c.in_ok-list.list c.with_versions.result c.in_ok-list.ensures c.with_versions.ensures,
  have_versions (goal.at.returns-clause-accepted c).In_default,
)
