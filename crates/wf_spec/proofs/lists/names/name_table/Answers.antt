use Rattle.std.proofs.Common.{sym, subst, ◌<◌}
use Rattle.std.proofs.lemmas.List.{length-map}
use Rattle.wf_model.specs.Grammar.{Module}
use Rattle.wf_spec.specs.Naming.{names_of}
use Rattle.wf_spec.proofs.NewNames.{differ_new, names_more, not_held}
use Rattle.wf_spec.proofs.lists.names.name_table.Goals as goal

pub add-requires : goal.add-requires
add-requires c =
    not_held (λ (m : Module). m.name) c.args.modules.now c.loop-one.one-index c.one-item.result c.one-item.is c.loop-one-test.true c.loop-one.names c.name.result.now c.loop-one.invariant c.name.ensures
    (differ_new (names_of c.args.modules.now) c.requires c.loop-one.one-index
    (subst (λ n. c.loop-one.one-index < n) (sym (length-map c.args.modules.now (λ (m : Module). m.name))) c.loop-one-test.true))

pub loop-one-preserved : goal.loop-one-preserved
loop-one-preserved c =
    names_more (λ (m : Module). m.name) c.args.modules.now c.loop-one.one-index c.one-item.result c.one-item.is c.loop-one-test.true c.loop-one.names c.add.new.self c.name.result.now
    c.loop-one.invariant c.name.ensures c.in_ok-add.ensures.added
