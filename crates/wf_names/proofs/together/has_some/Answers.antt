use Rattle.std.proofs.Common.{◌∙◌, sym, map}
use Rattle.wf_names.specs.declared.hashed.HashedName.{HashedName}
use Rattle.wf_names.proofs.TwiceNames.{twice_of, in_map}
use Rattle.wf_names.proofs.HashedNames.{hashed_at}
use Rattle.wf_names.proofs.together.has_some.Goals as goal

pub has-requires-clause-name : goal.has-requires-clause-name
has-requires-clause-name g c = hashed_at c.args.keyed.now (λ n. n.hash) (λ n. n.bytes.now) c.args.names.now c.loop-name.name-index _ c.loop-name-test.true c.requires.names

pub returns-then-has : goal.returns-then-has
returns-then-has g c =
    let names = c.args.names.now in
    let i = c.loop-name.name-index in
    let there = c.loop-name-test.true in
    λ _. twice_of (map (λ k. g.K.HeldName.name k.held) c.args.keys.now.keys) (map (λ n. n.bytes.now) names) _
    (in_map (λ (n : HashedName). n.bytes.now) names i _ there) (sym c.has.ensures ∙ c.if-has.true)
