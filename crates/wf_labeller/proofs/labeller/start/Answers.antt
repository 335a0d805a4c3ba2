use Rattle.std.proofs.Common.{◌++◌, ◌∷◌, [], map, subst}
use Rattle.wf_model.specs.declared.event.Event.TheVariants.{Start}
use Rattle.label_model.specs.Files.{entry_of}
use Rattle.label_model.specs.RunLabels.{labelled_by}
use Rattle.wf_spec.specs.Held.{HeldGrammar}
use Rattle.wf_labeller.specs.Keeping.{Adds}
use Rattle.wf_labeller.proofs.Expansions.{root_short}
use Rattle.wf_labeller.proofs.labeller.start.Goals as goal

pub returns-clause-entries : goal.returns-clause-entries
returns-clause-entries g c events run =
    let event = Start c.args.name.now in
    let short = root_short c.args.run.now events run c.args.name.now (c.in_ok-start.ensures.extends events run) in
    subst (λ (h : HeldGrammar). Adds g.K.Keeper.parts_of (g.K.Keeper.kept c.args.to.now) (g.K.Keeper.kept c.keep_root.new.to) (map entry_of (labelled_by h.core (events ++ event ∷ []) event))) c.grammar.ensures.grammar
    (c.in_ok-keep_root.ensures.ok short (events ++ event ∷ []))
