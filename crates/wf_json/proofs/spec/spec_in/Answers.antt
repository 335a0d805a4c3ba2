use Rattle.std.proofs.Common.{◌≡◌, ◌∙◌, codes, length, sym, ap, arith}
use Rattle.serde_json.specs.Find.{as_object}
use Rattle.serde_json.specs.View.{view}
use Rattle.wf_json.specs.declared.fault.Member.TheVariants.{Top, Start, Modules, Productions}
use Rattle.wf_json.specs.Forms.{text_form, list_form, member_form, list_member}
use Rattle.wf_json.specs.SpecForm.{module_form, production_form, spec_of}
use Rattle.wf_json.specs.SpecRest.{spec_from_deps}
use Rattle.wf_json.proofs.Told.{there, not_there, tested, not_tested, said_by, same_list, same_from_deps, from_start, from_modules, from_productions}
use Rattle.wf_json.proofs.spec.spec_in.Goals as goal
use Rattle.wf_json.proofs.spec.spec_in.Goals.{In_ok-start, In_ok-modules, In_ok-productions}

pub returns-then-not-is_object : goal.returns-then-not-is_object
returns-then-not-is_object c = not_tested Top (as_object (view c.args.value.now)) (from_start (view c.args.value.now)) c.is_object.result c.is_object.ensures c.if-not-is_object.true

at_start : (c : In_ok-start) → spec_of (view c.args.value.now) ≡ from_start (view c.args.value.now)
at_start c = tested Top (as_object (view c.args.value.now)) (from_start (view c.args.value.now)) c.is_object.result c.is_object.ensures c.if-not-is_object.false

pub returns-in_default : goal.returns-in_default
returns-in_default c =
    let d = view c.args.value.now in
    at_start (goal.at.returns-in_default c).In_ok-start ∙ not_there Start (member_form (codes "start") text_form d) c.in_ok-start.field-0 (from_modules d) c.in_ok-start.ensures c.in_default.is

at_modules : (c : In_ok-modules) → spec_of (view c.args.value.now) ≡ from_modules (view c.args.value.now) c.in-Some.start
at_modules c =
    let d = view c.args.value.now in
    tested Top (as_object d) (from_start d) c.is_object.result c.is_object.ensures c.if-not-is_object.false
    ∙ there Start (member_form (codes "start") text_form d) c.in_ok-start.field-0 c.in-Some.start (from_modules d) c.in_ok-start.ensures c.in-Some.is

pub returns-in_default-2 : goal.returns-in_default-2
returns-in_default-2 c =
    let d = view c.args.value.now in
    at_modules (goal.at.returns-in_default-2 c).In_ok-modules
    ∙ not_there Modules (member_form (codes "modules") (list_form module_form) d) c.in_ok-modules.field-0 (from_productions d c.in-Some.start) c.in_ok-modules.ensures.list c.in_default-2.is

at_productions : (c : In_ok-productions) → spec_of (view c.args.value.now) ≡ from_productions (view c.args.value.now) c.in-Some.start c.in-Some-2.modules
at_productions c =
    let d = view c.args.value.now in
    tested Top (as_object d) (from_start d) c.is_object.result c.is_object.ensures c.if-not-is_object.false
    ∙ there Start (member_form (codes "start") text_form d) c.in_ok-start.field-0 c.in-Some.start (from_modules d) c.in_ok-start.ensures c.in-Some.is
    ∙ there Modules (member_form (codes "modules") (list_form module_form) d) c.in_ok-modules.field-0 c.in-Some-2.modules (from_productions d c.in-Some.start) c.in_ok-modules.ensures.list c.in-Some-2.is

-- the productions are those of the value from which the modules were taken
productions_read : (c : In_ok-productions) → c.in_ok-productions.field-0 ≡ list_member (codes "productions") production_form (view c.args.value.now)
productions_read c =
    c.in_ok-productions.ensures.list
    ∙ same_list (codes "productions") production_form (view c.args.value.now) (view c.take_list.new.value) (c.in_ok-modules.ensures.others (codes "productions") (λ e. let n = ap length e in omega arith))

pub returns-in_default-3 : goal.returns-in_default-3
returns-in_default-3 c =
    let d = view c.args.value.now in
    let at = (goal.at.returns-in_default-3 c).In_ok-productions in
    at_productions at
    ∙ not_there Productions (list_member (codes "productions") production_form d) c.in_ok-productions.field-0 (λ ps. spec_from_deps c.in-Some.start c.in-Some-2.modules ps d) (productions_read at) c.in_default-3.is

pub returns : goal.returns
returns c =
    let d = view c.args.value.now in
    let at = (goal.at.returns c).In_ok-productions in
    let rest = spec_from_deps c.in-Some.start c.in-Some-2.modules c.in-Some-3.productions in
    let deps = c.in_ok-productions.ensures.others (codes "deps") (λ e. let n = ap length e in omega arith) ∙ c.in_ok-modules.ensures.others (codes "deps") (λ e. let n = ap length e in omega arith) in
    let versions = c.in_ok-productions.ensures.others (codes "versions") (λ e. let n = ap length e in omega arith) ∙ c.in_ok-modules.ensures.others (codes "versions") (λ e. let n = ap length e in omega arith) in
    said_by spec_of rest d (view c.take_member_list.new.value) c.spec_with.result
    (at_productions at
    ∙ there Productions (list_member (codes "productions") production_form d) c.in_ok-productions.field-0 c.in-Some-3.productions (λ ps. spec_from_deps c.in-Some.start c.in-Some-2.modules ps d) (productions_read at) c.in-Some-3.is
    ∙ sym (same_from_deps c.in-Some.start c.in-Some-2.modules c.in-Some-3.productions d (view c.take_member_list.new.value) deps versions))
    c.spec_with.ensures
