use Rattle.wf_model.specs.declared.parts.DepsPart.{DepsPart}
use Rattle.wf_spec.specs.Naming.{names_of, place_of, module_in}
use Rattle.wf_spec.specs.Pairs.{HasKnownPairs}
use Rattle.wf_form.proofs.Numbering.{holds_to_end, name_read}
use Rattle.wf_spec.proofs.Pairs.{pairs_give, pairs_from}
use Rattle.wf_spec.proofs.PairsOf.{read_module}
use Rattle.wf_spec.proofs.FirstFaults.{holds_more, fails_at}
use Rattle.wf_form.proofs.links.pairs.first_unknown_pair.Goals as goal
use Rattle.wf_form.proofs.links.pairs.first_unknown_pair.Goals.{After-are_pairs_of}
use Rattle.std.proofs.Common.{◌≡◌}

the_module : (c : After-are_pairs_of) → c.index-modules-number.result ≡ module_in c.args.modules.now (place_of (names_of c.args.modules.now) c.index-deps-k.result.«module»)
the_module c =
    (read_module c.args.modules.now c.args.names.now c.index-deps-k.result.«module» c.bytes.result.now c.module_number-number.result.0 c.index-modules-number.result c.requires.names c.bytes.ensures
    c.module_number-number.ensures.place c.module_number-number.ensures.within c.index-modules-number.is).0

pub module_number-number-requires-clause-known : goal.module_number-number-requires-clause-known
module_number-number-requires-clause-known c =
    name_read (λ (d : DepsPart). d.«module») c.args.names.now c.args.deps.now c.loop-k.k c.index-deps-k.result c.bytes.result.now c.requires.known c.index-deps-k.is c.loop-k-test.true c.bytes.ensures

pub returns-then-not-are_pairs_of : goal.returns-then-not-are_pairs_of
returns-then-not-are_pairs_of c =
    fails_at (HasKnownPairs c.args.modules.now) c.args.deps.now c.loop-k.k c.index-deps-k.result c.loop-k.invariant
    (pairs_from c.args.modules.now c.index-deps-k.result c.index-modules-number.result c.items.result.now c.are_pairs_of.result
    (the_module (goal.at.returns-then-not-are_pairs_of c).After-are_pairs_of) c.items.ensures c.are_pairs_of.ensures c.if-not-are_pairs_of.true)
    c.index-deps-k.is c.loop-k-test.true

pub loop-k-preserved : goal.loop-k-preserved
loop-k-preserved c =
    holds_more (HasKnownPairs c.args.modules.now) c.args.deps.now c.loop-k.k c.index-deps-k.result c.loop-k.invariant
    (pairs_give c.args.modules.now c.index-deps-k.result c.index-modules-number.result c.items.result.now c.are_pairs_of.result
    (the_module (goal.at.loop-k-preserved c).After-are_pairs_of) c.items.ensures c.are_pairs_of.ensures c.if-not-are_pairs_of.false)
    c.index-deps-k.is

pub returns : goal.returns
returns c = holds_to_end (HasKnownPairs c.args.modules.now) c.args.deps.now c.loop-k.k c.loop-k.invariant c.loop-k-test.false
