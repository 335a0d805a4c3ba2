use Rattle.std.proofs.Common.{◌≡◌, ◌↔◌, Bool, IsTrue, not, ap, ◌∙◌, rules, tests}
use Rattle.std.proofs.lemmas.Bool.Decides.{same_from_decides}
use Rattle.std.proofs.lemmas.Iterator.{YieldsList-from_slice}
use Rattle.std.proofs.lemmas.Iterator.Search.{position_from_yields_List}
use Rattle.wf_model.specs.declared.parts.VersionPart.{VersionPart}
use Rattle.wf_model.specs.Grammar.{Grammar}
use Rattle.wf_model.specs.Versions.{IsVersion}
use Rattle.wf_model.proofs.Deciding.{Either, is_so, so_gives, so_from}
use Rattle.wf_spec.proofs.FirstFaults.{first_that_is_not}
use Rattle.wf_form.proofs.VersionOrNot.{version_either}
use Rattle.wf_form.specs.declared.fault.FormFault.TheVariants.{VersionBad}
use Rattle.wf_form.proofs.versions.first_bad_version.Goals as goal

abbrev one_of : (g : Grammar) (v : VersionPart) → Either (IsVersion g v.modules v.productions)
one_of g v = version_either g v.modules v.productions

not_told : {P : Type 0} (e : Either P) (r b : Bool) → b ≡ not r → (IsTrue r ↔ P) → b ≡ not (is_so e)
not_told e r b is told = is ∙ ap not (same_from_decides r (is_so e) told (so_gives e, so_from e))

pub returns : goal.returns
returns c =
    first_that_is_not (λ (v : VersionPart). is_so (one_of c.args.grammar.now.core v)) (λ (v : VersionPart). IsVersion c.args.grammar.now.core v.modules v.productions) VersionBad c.args.versions.now c.position.result
    (λ v i. so_gives (one_of c.args.grammar.now.core v)) (λ v i. so_from (one_of c.args.grammar.now.core v))
    (position_from_yields_List (λ (v : VersionPart). not (is_so (one_of c.args.grammar.now.core v))) _ _ c.position.result c.position.ensures.ran (YieldsList-from_slice c.args.versions.now cc)
    (λ x b q k. (search (rules, tests), search (rules, not_told (one_of c.args.grammar.now.core x.now)))))
