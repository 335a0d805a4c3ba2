use Rattle.wf_names.proofs.InsertedNames.{is_absent, goes_last, stays, stay_hashed}
use Rattle.wf_names.proofs.keys.put.Goals as goal

pub returns-clause-is_new : goal.returns-clause-is_new
returns-clause-is_new g c =
    let n = c.in_ok-is_new.ensures in
    is_absent c.args.keyed.now (λ k. k.hash) (λ k. g.K.HeldName.name k.held) _ c.args.name.bytes.now c.args.keys.now.keys _ c.in_ok-held.ensures c.requires.name c.requires.keys _ n.added n.keys

pub returns-clause-added : goal.returns-clause-added
returns-clause-added g c =
    let n = c.in_ok-is_new.ensures in
    goes_last c.args.keyed.now (λ k. k.hash) (λ k. g.K.HeldName.name k.held) _ c.args.name.bytes.now c.args.keys.now.keys _ c.in_ok-held.ensures c.requires.name c.requires.keys _ n.added n.keys

pub returns-clause-taken : goal.returns-clause-taken
returns-clause-taken g c =
    let n = c.in_ok-is_new.ensures in
    stays c.args.keyed.now (λ k. k.hash) (λ k. g.K.HeldName.name k.held) _ c.args.name.bytes.now c.args.keys.now.keys _ c.in_ok-held.ensures c.requires.name c.requires.keys _ n.added n.keys

pub returns-clause-keys : goal.returns-clause-keys
returns-clause-keys g c =
    let n = c.in_ok-is_new.ensures in
    stay_hashed c.args.keyed.now (λ k. k.hash) (λ k. g.K.HeldName.name k.held) _ c.args.name.bytes.now c.args.keys.now.keys _ c.in_ok-held.ensures c.requires.name c.requires.keys _ n.added n.keys
