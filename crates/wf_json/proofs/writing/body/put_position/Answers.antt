use Rattle.std.proofs.Common.{◌∙◌, ap}
use Rattle.wf_model.specs.Grammar.{Module}
use Rattle.wf_json.proofs.Taken.{paired, renamed}
use Rattle.wf_json.proofs.writing.body.put_position.Goals as goal

pub returns : goal.returns
returns g c =
    paired _ _ c.in_ok-put.ensures (renamed c.place.ensures.name c.in_ok-put-2.ensures) c.in_ok-put-3.ensures (renamed (c.name.ensures ∙ ap (λ (m : Module). m.name) c.place.ensures.stands) c.in_ok-put-4.ensures) c.put-5.ensures
