use Rattle.std.proofs.Common.{◌∙◌, sym, subst}
use Rattle.std.proofs.lemmas.List.{length-map}
use Rattle.wf_model.specs.declared.parts.DepsPart.{DepsPart}
use Rattle.wf_spec.specs.Naming.{IsNewAt}
use Rattle.wf_spec.specs.FirstFaults.{FailsFirstAt}
use Rattle.wf_spec.proofs.NewNames.{first_not_new, new_more, names_more}
use Rattle.wf_view.specs.Rules.{deps_names}
use Rattle.wf_view.proofs.checks.twice.first_part_twice.Goals as goal

pub returns-then-holds : goal.returns-then-holds
returns-then-holds c =
    let d = c.index-deps-k.result in
    let deps = c.args.deps.now in
    subst (λ n. FailsFirstAt n (IsNewAt (deps_names deps)) c.loop-k.k) (sym (length-map deps (λ (p : DepsPart). p.«module»)))
    (first_not_new (λ (p : DepsPart). p.«module») deps c.loop-k.k d c.index-deps-k.is c.loop-k-test.true c.loop-k.taken c.bytes-name.result.now c.loop-k.invariant.taken c.bytes-name.ensures
    (sym c.holds.ensures ∙ c.if-holds.true) c.loop-k.invariant.new)

pub loop-k-preserved : goal.loop-k-preserved
loop-k-preserved c =
    let d = c.index-deps-k.result in
    let deps = c.args.deps.now in
    record {
      taken = names_more (λ (p : DepsPart). p.«module») deps c.loop-k.k d c.index-deps-k.is c.loop-k-test.true c.loop-k.taken c.add.new.self c.bytes-name.result.now c.loop-k.invariant.taken c.bytes-name.ensures c.in_ok-add.ensures.added;
      new = new_more (λ (p : DepsPart). p.«module») deps c.loop-k.k d c.index-deps-k.is c.loop-k-test.true c.loop-k.taken c.bytes-name.result.now c.loop-k.invariant.taken c.bytes-name.ensures
          (sym c.holds.ensures ∙ c.if-holds.false) c.loop-k.invariant.new;
    }
