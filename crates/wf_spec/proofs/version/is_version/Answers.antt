use Rattle.std.proofs.Common.{◌≡◌, ◌<◌, ◌≤◌, ◌∙◌, length, take, sym, ap, rules, tests, arith}
use Rattle.std.specs.List.{list_all}
use Rattle.std.proofs.lemmas.List.{length-map}
use Rattle.std.proofs.lemmas.Iterator.{YieldsList-from_slice}
use Rattle.std.proofs.lemmas.Iterator.Search.{all_from_yields_List}
use Rattle.wf_spec.specs.Held.{HeldProduction}
use Rattle.wf_spec.proofs.Versions.{has_first, passes_gives, version_passes, held_pass}
use Rattle.wf_spec.proofs.version.is_version.Goals as goal

pub returns-then-from-modules : goal.returns-then-from-modules
returns-then-from-modules c =
    let g = c.args.g.now.core in
    let m = c.args.modules in
    let p = c.args.productions in
    let held = c.productions-2.result.now in
    let pass : c.all.result ≡ list_all (has_first m) (take p g.productions) =
    all_from_yields_List (λ (r : HeldProduction). has_first m r.core) _ _ c.all.result c.all.ensures.ran (YieldsList-from_slice (take p held) cc) (λ x b q k. search (rules, tests))
    ∙ held_pass g m p held c.productions-2.ensures.productions in
    let modules : length c.modules.result.now ≡ length g.modules = ap length c.modules.ensures.modules in
    let productions : length c.productions.result.now ≡ length g.productions = sym (length-map c.productions.result.now (λ (r : HeldProduction). r.core)) ∙ ap length c.productions.ensures.productions in
    let few : m ≤ length g.modules = omega arith in
    let within : p ≤ length g.productions = omega arith in
    let start : g.start < m = omega (arith, c.start.ensures.start, c.from.ensures) in
    (λ e. passes_gives g m p within few start (sym pass ∙ e), λ is. pass ∙ version_passes g m p within is)
