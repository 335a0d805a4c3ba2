use Rattle.std.proofs.Common.{OnOk, ap, refl, subst}
use Rattle.wf_model.specs.Grammar.{Module}
use Rattle.wf_json.specs.Canonical.{list_of, module_text, text_in_quotes}
use Rattle.wf_json.specs.Writing.{Takes}
use Rattle.wf_json.proofs.Seen.{read_at}
use Rattle.wf_json.proofs.Taken.{behind, last_behind, renamed}
use Rattle.wf_json.proofs.writing.module.put_module.Goals as goal

pub returns : goal.returns
returns g c =
    let s0 = behind c.in_ok-put.ensures (renamed (ap text_in_quotes c.name.ensures) c.in_ok-put_quoted.ensures) in
    let s1 = behind (behind s0 c.in_ok-put-2.ensures) (renamed (ap (list_of text_in_quotes) c.inputs.ensures) c.in_ok-put_names.ensures) in
    let s2 = behind (behind s1 c.in_ok-put-3.ensures) (renamed (ap (list_of text_in_quotes) c.outputs.ensures) c.in_ok-put_names-2.ensures) in
    subst (λ (m : Module). OnOk c.put-4.result (Takes g.S.TextSink.holds c.args.out.now c.put-4.new.self (module_text m))) (read_at _ _ c.args.k _ _ refl c.index-modules-k.is c.requires) (last_behind _ _ _ s2 c.put-4.ensures)
