use Rattle.std.proofs.Common.{◌≡◌, ◌∙◌, ap, subst, take, map}
use Rattle.std.specs.Bool.{OnFalse}
use Rattle.wf_names.proofs.HashedNames.{hashed_at}
use Rattle.wf_names.proofs.together.put_each.Goals as goal

pub put-requires-clause-name : goal.put-requires-clause-name
put-requires-clause-name g c = hashed_at c.args.keyed.now (λ n. n.hash) (λ n. n.bytes.now) c.args.names.now c.loop-name.name-index _ c.loop-name-test.true c.requires.names

pub returns-in_err-put-clause-begins : goal.returns-in_err-put-clause-begins
returns-in_err-put-clause-begins g c =
    (map (λ n. n.bytes.now) (take c.loop-name.name-index c.args.names.now), ap (map (λ k. g.K.HeldName.name k.held)) c.in_err-put.ensures.err ∙ c.loop-name.invariant.added)

pub returns-then-not-branch-clause-begins : goal.returns-then-not-branch-clause-begins
returns-then-not-branch-clause-begins g c =
    let same = subst (λ b. OnFalse b (c.put.new.keys.keys ≡ c.loop-name.keys.keys)) c.if-not-branch.true c.in_ok-put.ensures.taken in
    (map (λ n. n.bytes.now) (take c.loop-name.name-index c.args.names.now), ap (map (λ k. g.K.HeldName.name k.held)) same ∙ c.loop-name.invariant.added)
