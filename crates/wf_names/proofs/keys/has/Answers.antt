use Rattle.std.proofs.Common.{◌∙◌, sym}
use Rattle.std.specs.Prelude.{bytes_eq}
use Rattle.wf_names.proofs.Found.{some_through}
use Rattle.wf_names.proofs.HashedNames.{any_named}
use Rattle.wf_names.proofs.keys.has.Goals as goal

pub returns : goal.returns
returns g c =
    let name = c.args.name in
    c.contains.ensures
    ∙ (any_named c.args.keyed.now (λ k. k.hash) (λ k. g.K.HeldName.name k.held) name.hash name.bytes.now c.requires.name c.args.keys.now.keys c.requires.keys
    ∙ sym (some_through (bytes_eq name.bytes.now) (λ k. g.K.HeldName.name k.held) c.args.keys.now.keys))
