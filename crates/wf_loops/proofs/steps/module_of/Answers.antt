use Rattle.std.proofs.Common.{◌∙◌, ℕ, bytes_eq, MatchOption, option_map, sym, ap, subst, true≢false}
use Rattle.std.specs.Prelude.{position}
use Rattle.wf_model.specs.declared.numbers.ModNo.{ModNo}
use Rattle.wf_model.specs.Linear.{IsStepOf}
use Rattle.wf_spec.specs.Naming.{names_of}
use Rattle.wf_loops.specs.Entries.{IsEntryOf}
use Rattle.wf_loops.proofs.NamedModules.{one_named, found_module, found_none}
use Rattle.wf_loops.proofs.steps.module_of.Goals as goal

pub returns-in_err-m : goal.returns-in_err-m
returns-in_err-m c =
    let g = c.args.g.now.core in
    let e = c.args.entry.now in
    let is = c.find.ensures.place ∙ ap (λ n. position (bytes_eq n) (names_of g.modules)) c.name.ensures in
    subst (λ o. MatchOption o ((m : ℕ) → IsEntryOf g e m → ⊥) (λ (m : ModNo). IsEntryOf g e m.0)) (sym c.from_residual.ensures)
    (λ m h. found_none g e (option_map (λ (m : ModNo). m.0) c.find.result) is (ap (option_map (λ (m : ModNo). m.0)) c.in_err-m.was) m h.0)

pub returns-then-is_step_of : goal.returns-then-is_step_of
returns-then-is_step_of c =
    let g = c.args.g.now.core in
    let e = c.args.entry.now in
    let is = c.find.ensures.place ∙ ap (λ n. position (bytes_eq n) (names_of g.modules)) c.name.ensures in (
      found_module g e (option_map (λ (m : ModNo). m.0) c.find.result) c.in_ok-m.m.0 is (ap (option_map (λ (m : ModNo). m.0)) c.in_ok-m.was),
      subst (IsStepOf g c.in_ok-m.m.0) c.step.ensures (c.is_step_of.ensures.0 c.if-is_step_of.true),
    )

pub returns-else-is_step_of : goal.returns-else-is_step_of
returns-else-is_step_of c = λ n h.
    let g = c.args.g.now.core in
    let e = c.args.entry.now in
    let is = c.find.ensures.place ∙ ap (λ n. position (bytes_eq n) (names_of g.modules)) c.name.ensures in
    let named = found_module g e (option_map (λ (m : ModNo). m.0) c.find.result) c.in_ok-m.m.0 is (ap (option_map (λ (m : ModNo). m.0)) c.in_ok-m.was) in
    let same = one_named g c.modules-modules.ensures.formed e n c.in_ok-m.m.0 h.0 named in
    let of = subst (λ k. IsStepOf g k e.step) same h.1 in
    true≢false (sym (c.is_step_of.ensures.1 (subst (IsStepOf g c.in_ok-m.m.0) (sym c.step.ensures) of)) ∙ c.if-is_step_of.false)
