use Rattle.std.proofs.Common.{ap, sym, ◌∙◌}
use Rattle.std.specs.Prelude.{is_some}
use Rattle.wf_flat.specs.declared.table.Inst.{Inst}
use Rattle.wf_flat.specs.Table.{Table}
use Rattle.wf_flat.proofs.Instances.{unknown, known, its_module, its_expansion, its_read}
use Rattle.wf_flat.proofs.table.PlainRun.found.Goals as goal

pub returns-in_default-clause-found : goal.returns-in_default-clause-found
returns-in_default-clause-found c g run = unknown g c.args.self.now run c.args.name.now (sym c.requires ∙ c.in_default.is)

pub returns-clause-found : goal.returns-clause-found
returns-clause-found c g run =
    let t = c.args.self.now in
    let n = c.args.name.now in
    let place = sym c.requires ∙ c.in-Some.is in
    let x = sym (its_read g t run n _ _ _ place (ap (λ (t : Table). t.instances) c.self.view_is) c.index-x.ensures) in
    (known g t run n _ place, its_module g t run n _ place ∙ ap (λ (x : Inst). x.module.0) x, its_expansion g t run n _ place ∙ (ap (λ (x : Inst). is_some x.production) x ∙ sym c.is_some.ensures))
