use Rattle.std.proofs.Common.{◌∙◌, sym}
use Rattle.std.specs.Prelude.{bytes_eq}
use Rattle.wf_names.proofs.Found.{position_through}
use Rattle.wf_names.proofs.HashedNames.{position_named}
use Rattle.wf_names.proofs.keys.find_key.Goals as goal

pub returns-clause-place : goal.returns-clause-place
returns-clause-place g c =
    let name = c.args.name in
    c.get_index_of.ensures.index
    ∙ (position_named c.args.keyed.now (λ k. k.hash) (λ k. g.K.HeldName.name k.held) name.hash name.bytes.now c.requires.name c.args.keys.now.keys c.requires.keys
    ∙ sym (position_through (bytes_eq name.bytes.now) (λ k. g.K.HeldName.name k.held) c.args.keys.now.keys))
