-- Parts of a view that name nothing break no rule, and describe a default view.
use Rattle.std.proofs.Common.{◌≡◌, sym, ◌∙◌, ap, subst, refl, arith}
use Rattle.wf_model.specs.declared.parts.ViewParts.{ViewParts}
use Rattle.wf_model.specs.Grammar.{Grammar}
use Rattle.wf_model.specs.WellFormed.{IsWellFormed}
use Rattle.wf_model.specs.View.{View, IsDefaultView}
use Rattle.wf_view.specs.Viewing.{view_of}
use Rattle.wf_view.specs.Rules.{IsViewed}
use Rattle.wf_view.proofs.Described.{law}
use Rattle.package_file.specs.Packed.{empty_parts}

empty_viewed : (g : Grammar) → IsViewed g empty_parts
empty_viewed g = (λ k h. absurd (omega arith), (λ k h. absurd (omega arith), (λ k h. absurd (omega arith), (λ k h. absurd (omega arith), (λ k h. absurd (omega arith), (λ k h. absurd (omega arith), (λ k h. absurd (omega arith), tt)))))))

empty_default : (g : Grammar) → IsWellFormed g → IsDefaultView g (view_of g empty_parts)
empty_default g formed =
    let d = law g empty_parts formed (empty_viewed g) in
    record { expanded = λ m. d.all refl m; shown = λ m h shut. d.by_default m h shut (λ i. absurd i) }

-- so do parts that are the same
pub empty_seen : (g : Grammar) (parts : ViewParts) (u : View) → IsWellFormed g → parts ≡ empty_parts → u ≡ view_of g parts → IsDefaultView g u
empty_seen g parts u formed is told = subst (IsDefaultView g) (sym (told ∙ ap (view_of g) is)) (empty_default g formed)
