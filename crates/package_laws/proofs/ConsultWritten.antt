-- Labels have by the package that is read from its text the verdicts that they have under the view.
use Rattle.std.proofs.Common.{◌≡◌, ◌↔◌, sym, subst}
use Rattle.wf_spec.specs.Held.{HeldGrammar}
use Rattle.verdict_model.specs.Verdicts.{IsVerdict}
use Rattle.package_model.specs.Shown.{shown_of}
use Rattle.package_model.specs.Packages.{loop_of}
use Rattle.package_model.specs.Translating.{Loops}
use Rattle.package_model.specs.Consulting.{IsConsulted}
use Rattle.package_model.specs.TranslationLaws.{ConsultLaw}
use Rattle.wf_loops.specs.Looped.{loop_in}
use Rattle.package_laws.specs.ReadBack.{ReadBackLaw}
use Rattle.package_laws.specs.ConsultWritten.{ConsultWrittenLaw}

pub consult_written : ReadBackLaw → ConsultLaw → ConsultWrittenLaw
consult_written read_back consult g u formed proper linear composites safe text is p told x y first second label_x label_y bits_x bits_y v =
    let s = shown_of g u is.0 is.1 in
    let held = (read_back g u is.0 is.1 formed proper linear composites safe is.2 text is).held p told in
    let loops : loop_in p.steps ≡ loop_of s = λ n m. held.loops m n in
    let here = consult g u is.0 is.1 formed proper linear composites safe is.2 x y first second label_x label_y bits_x bits_y v in
    subst (λ (loop : Loops). IsConsulted p.accepted.grammar.core loop first second v ↔ IsVerdict g u x y v) (sym loops)
    (subst (λ (k : HeldGrammar). IsConsulted k.core (loop_of s) first second v ↔ IsVerdict g u x y v) (sym held.grammar) here)
