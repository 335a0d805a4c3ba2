use Rattle.std.proofs.Common.{inl, inr, refl, sym, ◌∙◌}
use Rattle.wf_model.specs.declared.parts.ModulePart.{ModulePart}
use Rattle.wf_spec.proofs.NewNames.{first_not_new, new_more, names_more}
use Rattle.wf_form.proofs.checks.numbering.numbered_names.Goals as goal

pub returns-then-holds-clause-refused : goal.returns-then-holds-clause-refused
returns-then-holds-clause-refused c =
    let m = c.index-modules-k.result in
    let fails = first_not_new (λ (p : ModulePart). p.name) c.args.modules.now c.loop-k.k m c.index-modules-k.is c.loop-k-test.true c.loop-k.names c.bytes-name.result.now c.loop-k.invariant.names c.bytes-name.ensures (sym c.holds.ensures ∙ c.if-holds.true) c.loop-k.invariant.new in
    inr (inl (c.loop-k.k, fails, refl))

pub loop-k-preserved : goal.loop-k-preserved
loop-k-preserved c =
    let m = c.index-modules-k.result in
    record {
      names = names_more (λ (p : ModulePart). p.name) c.args.modules.now c.loop-k.k m c.index-modules-k.is c.loop-k-test.true c.loop-k.names c.add.new.self c.bytes-name.result.now c.loop-k.invariant.names c.bytes-name.ensures c.in_ok-add.ensures.added;
      new = new_more (λ (p : ModulePart). p.name) c.args.modules.now c.loop-k.k m c.index-modules-k.is c.loop-k-test.true c.loop-k.names c.bytes-name.result.now c.loop-k.invariant.names c.bytes-name.ensures (sym c.holds.ensures ∙ c.if-holds.false) c.loop-k.invariant.new;
    }
