use Rattle.std.proofs.Common.{◌≡◌, ◌<◌, List, length, ap, sym, subst, ◌∙◌}
use Rattle.wf_model.specs.declared.parts.PairPart.{PairPart}
use Rattle.wf_model.specs.Grammar.{Module, module_at}
use Rattle.wf_model.specs.WellFormed.{IsWellFormedModule}
use Rattle.wf_spec.proofs.PairsOf.{read_pairs}
use Rattle.wf_view.specs.Rules.{number_in}
use Rattle.wf_view.specs.Tables.{names_pair, AreRowsBy}
use Rattle.wf_view.proofs.Keeping.{part_taken}
use Rattle.wf_view.proofs.Naming.{module_is, module_formed}
use Rattle.wf_view.proofs.assemble.table.take_in.Goals as goal
use Rattle.wf_view.proofs.assemble.table.take_in.Goals.{After-items}

the_module : (c : After-items) → c.index-modules-m.result ≡ module_at c.args.g.now.core c.known_module-m.result.0
the_module c = module_is c.args.g.now.core c.modules.result.now c.known_module-m.result.0 c.index-modules-m.result c.modules.ensures.modules c.known_module-m.ensures.within c.index-modules-m.is

the_number : (c : After-items) → c.known_module-m.result.0 ≡ number_in c.args.g.now.core c.args.part.now.«module»
the_number c = c.known_module-m.ensures.place ∙ ap (number_in c.args.g.now.core) c.bytes.ensures

pub named_rows-requires-clause-formed : goal.named_rows-requires-clause-formed
named_rows-requires-clause-formed c =
    subst IsWellFormedModule (sym (the_module c)) (module_formed c.args.g.now.core c.modules.ensures.formed c.known_module-m.result.0 c.known_module-m.ensures.within)

pub named_rows-requires-clause-known : goal.named_rows-requires-clause-known
named_rows-requires-clause-known c =
    read_pairs c.args.g.now.core.modules c.args.part.now c.index-modules-m.result c.items.result.now (the_module c ∙ ap (module_at c.args.g.now.core) (the_number c)) c.items.ensures c.requires.pairs

pub returns : goal.returns
returns c =
    let g = c.args.g.now.core in
    let d = c.args.part.now in
    let m = c.known_module-m.result.0 in
    let rows = c.in_ok-rows.rows in
    let read = (goal.at.returns c).After-items in
    part_taken g c.modules.ensures.formed d c.requires.known m (the_number read) rows
    (subst (λ (k : Module). AreRowsBy (length k.inputs) (length k.outputs) (names_pair k d.pairs) rows.items) (the_module read)
    (subst (λ (l : List PairPart). AreRowsBy (length (c.index-modules-m).result.inputs) (length (c.index-modules-m).result.outputs) (names_pair c.index-modules-m.result l) rows.items) c.items.ensures c.in_ok-rows.ensures))
    c.args.table.now (subst (λ n. m < n) (sym c.requires.one_each) c.known_module-m.ensures.within)
