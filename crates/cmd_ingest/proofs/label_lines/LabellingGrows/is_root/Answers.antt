use Rattle.std.proofs.Common.{◌∷◌, ap, sym, ◌∙◌, subst, get_or, [], bytes_eq}
use Rattle.wf_model.specs.declared.event.Event.TheVariants.{Start}
use Rattle.wf_run.specs.Runs.{RunSeen, name_at, IsRunOf}
use Rattle.cmd_ingest.proofs.label_lines.LabellingGrows.is_root.Goals as goal

pub returns : goal.returns
returns c = λ root later run.
    c.eq.ensures ∙
    ap (λ n. bytes_eq n c.args.name.now)
    (c.name_of.ensures (Start root ∷ later) (subst (λ (r : RunSeen). IsRunOf r (Start root ∷ later)) (sym c.run.ensures) run) ∙ (ap (λ (r : RunSeen). name_at r 0) c.run.ensures ∙ ap (λ ns. get_or ns 0 []) run.names))
