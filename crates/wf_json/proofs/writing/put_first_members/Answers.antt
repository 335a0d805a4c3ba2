use Rattle.std.proofs.Common.{◌<◌, ◌∙◌, length, ap, subst, sym, take}
use Rattle.wf_model.specs.Grammar.{Module, module_at}
use Rattle.wf_json.specs.Canonical.{list_of, module_text, text_in_quotes}
use Rattle.wf_json.proofs.Seen.{read_at}
use Rattle.wf_json.proofs.Taken.{behind, last_behind, renamed}
use Rattle.wf_json.proofs.writing.put_first_members.Goals as goal

pub returns : goal.returns
returns g c =
    let core = c.args.g.now.core in
    let inside = subst (λ k. k < length core.modules) (sym c.start.ensures.start) c.start.ensures.formed.start in
    let start = read_at _ _ c.start.result.0 _ _ c.modules.ensures.modules c.index-modules-start.is inside ∙ ap (module_at core) c.start.ensures.start in
    let name = c.name.ensures ∙ ap (λ (m : Module). m.name) start in
    let s0 = behind c.in_ok-put.ensures (renamed (ap text_in_quotes name) c.in_ok-put_quoted.ensures) in
    let s1 = behind (behind s0 c.in_ok-put-2.ensures) (renamed (ap (λ ms. list_of module_text (take c.args.modules ms)) c.modules-2.ensures.modules) c.in_ok-put_modules.ensures) in
    last_behind _ _ _ (behind s1 c.in_ok-put-3.ensures) c.put_productions.ensures
