use Rattle.std.proofs.Common.{◌∷◌, [], ◌++◌, ◌∙◌, ap, sym, subst, refl, inr}
use Rattle.std.specs.Prelude.{option_map}
use Rattle.wf_model.specs.declared.numbers.ModNo.{ModNo}
use Rattle.wf_model.specs.Lists.{IsIn}
use Rattle.wf_spec.specs.Naming.{names_of, place_of}
use Rattle.wf_spec.proofs.Finding.{not_found, found_there}
use Rattle.wf_automaton.proofs.Ruled.{move_is}
use Rattle.wf_automaton.proofs.moves.add_move.Goals as goal

pub returns-in_default-clause-refused : goal.returns-in_default-clause-refused
returns-in_default-clause-refused c =
    let name = c.bytes.result.now in
    let names = names_of c.args.g.now.core.modules in
    inr (
      refl,
      λ h. not_found names name (option_map (λ (m : ModNo). m.0) c.find.result) c.find.ensures.place (ap (option_map (λ (m : ModNo). m.0)) c.in_default.is) (subst (λ n. IsIn n names) (sym c.bytes.ensures) h),
    )

pub returns-clause-added : goal.returns-clause-added
returns-clause-added c =
    let g = c.args.g.now.core in
    let part = c.args.part.now in
    let names = names_of g.modules in
    let found = found_there names c.bytes.result.now (option_map (λ (m : ModNo). m.0) c.find.result) c.in-Some.«module».0 c.find.ensures.place (ap (option_map (λ (m : ModNo). m.0)) c.in-Some.is) in
    c.in_ok-push.ensures.items
    ∙ ap (λ v. c.args.moves.now.items ++ v ∷ []) (move_is g part c.new.result c.in-Some.«module».0 c.new.ensures.from c.new.ensures.passed (found.0 ∙ ap (place_of names) c.bytes.ensures) c.new.ensures.to)

pub returns-clause-known : goal.returns-clause-known
returns-clause-known c =
    let names = names_of c.args.g.now.core.modules in
    subst (λ n. IsIn n names) c.bytes.ensures
    (found_there names c.bytes.result.now (option_map (λ (m : ModNo). m.0) c.find.result) c.in-Some.«module».0 c.find.ensures.place (ap (option_map (λ (m : ModNo). m.0)) c.in-Some.is)).1
