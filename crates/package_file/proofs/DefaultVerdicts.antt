-- Two default views of one grammar give its labels the same verdicts, where one of them is safe.
use Rattle.std.proofs.Common.{◌≡◌, ◌⊎◌, ℕ, List, [], get_or, Result, Ok, Err, refl, sym, ◌∙◌, subst, inl, inr}
use Rattle.std.specs.Prelude.{IfOk}
use Rattle.wf_model.specs.Lists.{IsAt}
use Rattle.wf_model.specs.Grammar.{Grammar, Edge, Assignment, production_at}
use Rattle.wf_model.specs.WellFormed.{IsWellFormed}
use Rattle.wf_model.specs.Proper.{IsProper}
use Rattle.wf_model.specs.View.{View, IsDefaultView}
use Rattle.wf_model.specs.DefaultView.{default_view}
use Rattle.wf_model.proofs.DefaultView.{default_is_default}
use Rattle.wf_view.specs.Held.{HeldView}
use Rattle.wf_model.specs.Safe.{IsSafe, IsInduced}
use Rattle.wf_model.specs.Reach.{Step, module_along}
use Rattle.wf_model.proofs.Lists.{is_at}
use Rattle.wf_laws.proofs.Full.{full_law, safe_full_law}
use Rattle.label_model.specs.Labels.{Label, Input, Output, OfEdge, IsLabel}
use Rattle.verdict_model.specs.declared.verdict.Verdict.{Verdict}
use Rattle.verdict_model.specs.declared.verdict.Verdict.TheVariants.{Hidden1, Hidden2, Clash, Yes, No}
use Rattle.verdict_model.specs.Telling.{Tells, ConsumedAt, ProducedAt}
use Rattle.verdict_model.specs.Laws.{IsAnswered}
use Rattle.verdict_model.specs.Verdicts.{IsHidden, AreShown, AreClashing, AlwaysDepends, IsVerdict}
use Rattle.verdict_model.proofs.Answering.{answer_induced}
use Rattle.verdict_model.proofs.LabelsTold.{telling_law}
use Rattle.verdict_model.proofs.SomeVerdict.{some_verdict}
use Rattle.package_file.specs.Packed.{GiveSameVerdicts}
use Rattle.package_file.proofs.DefaultViews.{default_composites, same_expands, induced_too, safe_too}

module _ (g : Grammar) (formed : IsWellFormed g) where
  edge_told : (a : List Step) (p e : ℕ) (l : Label) → Tells g l a p e → (x : Edge) × IsAt x e (production_at g p).edges
  edge_told a p e l t =
      let d : Edge = record { from = record { position = 0; port = 0 }; to = record { position = 0; port = 0 } } in
      (get_or (production_at g p).edges e d, is_at e (production_at g p).edges d t.ending.edge)

  -- each label but that of an output is consumed, and each but that of an input is produced
  ends_of : (x : Label) → IsLabel g x → (((a : List Step) × (i : ℕ) × ConsumedAt g x a i) ⊎ ((p : ℕ) × (x ≡ Output p))) × (((b : List Step) × (o : ℕ) × ProducedAt g x b o) ⊎ ((p : ℕ) × (x ≡ Input p)))
  ends_of (Input p) l = (inl ([], p, (refl, refl)), inr (p, refl))
  ends_of (Output p) l = (inr (p, refl), inl ([], p, (refl, refl)))
  ends_of (OfEdge q) l =
      let t = (telling_law g formed).each q l in
      let x = edge_told t.0 t.1 t.2 (OfEdge q) t.3 in
      (inl (_, _, (t.0, t.1, t.2, x.0, t.3, x.1, refl, refl)), inl (_, _, (t.0, t.1, t.2, x.0, t.3, x.1, refl, refl)))

  -- where the same pairs tell the answer of two labels under two views, what always holds under the one cannot fail under the other
  not_yes_no : (u w : View) (d : Assignment) (x y : Label) → IsLabel g x → IsLabel g y → IsAnswered g u d x y → IsAnswered g w d x y → AlwaysDepends g u x y → (AlwaysDepends g w x y → ⊥) → ⊥
  not_yes_no u w d x y lx ly one other always never = go (ends_of x lx).0 (ends_of y ly).1
    where
      go : ((a : List Step) × (i : ℕ) × ConsumedAt g x a i) ⊎ ((p : ℕ) × (x ≡ Output p)) → ((b : List Step) × (o : ℕ) × ProducedAt g y b o) ⊎ ((p : ℕ) × (y ≡ Input p)) → ⊥
      go (inr o) p = (one.from_output o.0 o.1).1 always
      go (inl c) (inr i) = (one.to_input i.0 i.1).1 always
      go (inl c) (inl p) = (one.no c.0 p.0 c.1 p.1 c.2 p.2 (λ r. never (other.yes c.0 p.0 c.1 p.1 c.2 p.2 r))).1 always

  module _ (proper : IsProper g) (u w : View) (one : IsDefaultView g u) (other : IsDefaultView g w) (safe : IsSafe g u) where
    -- a label that is hidden under the one is hidden under the other
    hidden_too : (l : Label) → IsHidden g u l → IsHidden g w l
    hidden_too l h = (h.0, h.1, h.2, sym (same_expands g u w one other (module_along g g.start h.0)) ∙ h.3)

    hidden_back : (l : Label) → IsHidden g w l → IsHidden g u l
    hidden_back l h = (h.0, h.1, h.2, same_expands g u w one other (module_along g g.start h.0) ∙ h.3)

    module _ (x y : Label) (lx : IsLabel g x) (ly : IsLabel g y) where
      shown_too : AreShown g u x y → AreShown g w x y
      shown_too s = (λ h. s.0 (hidden_back x h), λ h. s.1 (hidden_back y h))

      always_too : AreShown g u x y → (AreClashing g x y → ⊥) → AlwaysDepends g u x y → AlwaysDepends g w x y
      always_too shown apart always =
          let v = some_verdict g w formed proper (default_composites g w other) (safe_too g u w one other formed proper safe) x y lx ly in
          by v.0 v.1
        where
          induced : (d : Assignment) × IsInduced g u d
          induced =
              let composites = default_composites g u one in
              let full = safe_full_law g u formed proper composites safe in
              (full.0, (full_law g u full.0 formed proper composites).0 full.1)

          here : IsAnswered g u induced.0 x y
          here = answer_induced g u induced.0 formed proper (default_composites g u one) induced.1 x y lx ly shown apart

          there : IsAnswered g w induced.0 x y
          there = answer_induced g w induced.0 formed proper (default_composites g w other) (induced_too g u w one other formed induced.0 induced.1) x y lx ly (shown_too shown) apart

          by : (v : Verdict) → IsVerdict g w x y v → AlwaysDepends g w x y
          by Hidden1 h = absurd ((shown_too shown).0 h)
          by Hidden2 h = absurd ((shown_too shown).1 h.1)
          by Clash h = absurd (apart h.1)
          by Yes h = h.2
          by No h = absurd (not_yes_no u w induced.0 x y lx ly here there always h.2)

  module _ (proper : IsProper g) (u w : View) (one : IsDefaultView g u) (other : IsDefaultView g w) (safe : IsSafe g u) (x y : Label) (lx : IsLabel g x) (ly : IsLabel g y) where
    safe_there : IsSafe g w
    safe_there = safe_too g u w one other formed proper safe

    -- a verdict under the one is the verdict under the other
    pub verdict_too : (v : Verdict) → IsVerdict g u x y v → IsVerdict g w x y v
    verdict_too Hidden1 h = hidden_too proper u w one other safe x h
    verdict_too Hidden2 h = (λ k. h.0 (hidden_back proper u w one other safe x k), hidden_too proper u w one other safe y h.1)
    verdict_too Clash h = (shown_too proper u w one other safe x y lx ly h.0, h.1)
    verdict_too Yes h = (shown_too proper u w one other safe x y lx ly h.0, h.1, always_too proper u w one other safe x y lx ly h.0 h.1 h.2)
    verdict_too No h =
        let shown = shown_too proper u w one other safe x y lx ly h.0 in
        (shown, h.1, λ always. h.2 (always_too proper w u other one safe_there x y lx ly shown h.1 always))

-- so the labels of a grammar have the same verdicts under both
pub same_verdicts : (g : Grammar) (u w : View) → IsWellFormed g → IsProper g → IsDefaultView g u → IsDefaultView g w → IsSafe g u → GiveSameVerdicts g u w
same_verdicts g u w formed proper one other safe x y lx ly v = (
  verdict_too g formed proper u w one other safe x y lx ly v,
  verdict_too g formed proper w u other one (safe_too g u w one other formed proper safe) x y lx ly v,
)

-- so a view that is a default view gives the verdicts of the default view
pub default_verdicts : {S E : Type 0} (g : Grammar) (seen : S → HeldView) (held : HeldView) (r : Result S E) → IsWellFormed g → IsProper g → IsDefaultView g held.core → IsSafe g held.core → IfOk r (λ v. seen v ≡ held) → IfOk r (λ v. GiveSameVerdicts g (seen v).core (default_view g))
default_verdicts g seen held (Ok v) formed proper default safe is = subst (λ (w : HeldView). GiveSameVerdicts g w.core (default_view g)) (sym is) (same_verdicts g held.core (default_view g) formed proper default (default_is_default g) safe)
default_verdicts g seen held (Err e) formed proper default safe is = tt
