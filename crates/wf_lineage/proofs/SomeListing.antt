-- There is a text for each item.
use Rattle.std.proofs.Common.{◌≡◌, ◌⊎◌, ℕ, List, refl, sym, inl, inr, ⊎_elim}
use Rattle.std.specs.Prelude.{codes}
use Rattle.wf_model.specs.Lists.{IsIn}
use Rattle.wf_model.specs.Grammar.{Grammar}
use Rattle.wf_model.specs.WellFormed.{IsWellFormed}
use Rattle.wf_model.specs.Proper.{IsProper}
use Rattle.wf_model.specs.View.{View}
use Rattle.wf_model.specs.Safe.{IsSafe}
use Rattle.wf_model.specs.Finishing.{ExpandsComposites}
use Rattle.wf_model.proofs.Lists.{in_map_from}
use Rattle.wf_model.proofs.Deciding.{bytes_either, in_either}
use Rattle.label_model.specs.Labels.{Label, IsLabel}
use Rattle.label_model.specs.Files.{Entry, names_of_entries}
use Rattle.label_model.proofs.OpenedLabels.{HaveLabels}
use Rattle.verdict_model.specs.declared.verdict.Verdict.{Verdict}
use Rattle.verdict_model.specs.declared.verdict.Verdict.TheVariants.{Hidden1, Hidden2, Clash, Yes, No}
use Rattle.verdict_model.specs.Verdicts.{IsHidden, IsVerdict}
use Rattle.verdict_model.proofs.SomeVerdict.{some_verdict}
use Rattle.wf_lineage.specs.declared.direction.Direction.{Direction}
use Rattle.wf_lineage.specs.declared.direction.Direction.TheVariants.{Upstream, Downstream}
use Rattle.wf_lineage.specs.Listed.{IsVerdictOn, IsListed, lines_of, IsListing, IsListingText}
use Rattle.wf_lineage.proofs.ListedNames.{some_listed}
use Rattle.wf_lineage.proofs.OneListing.{listed_by, listed_only_by}

-- a verdict is yes, or not
yes_or_not : (v : Verdict) → (v ≡ Yes) ⊎ (v ≡ Yes → ⊥)
yes_or_not Hidden1 = inr (λ e. (cc))
yes_or_not Hidden2 = inr (λ e. (cc))
yes_or_not Clash = inr (λ e. (cc))
yes_or_not Yes = inl refl
yes_or_not No = inr (λ e. (cc))

module _ (g : Grammar) (u : View) (formed : IsWellFormed g) (proper : IsProper g) (composites : ExpandsComposites g u) (safe : IsSafe g u) (es : List Entry) (labels : HaveLabels g es) (d : Direction) where
  -- two labels have a verdict in a direction
  some_verdict_on : (d : Direction) (y x : Label) → IsLabel g y → IsLabel g x → (v : Verdict) × IsVerdictOn g u d y x v
  some_verdict_on Upstream y x p q = some_verdict g u formed proper composites safe x y q p
  some_verdict_on Downstream y x p q = some_verdict g u formed proper composites safe y x p q

  -- an entry is listed, or not
  listed_or_not : (y : Label) → IsLabel g y → (e : Entry) → IsIn e es → IsListed g u d y e ⊎ (IsListed g u d y e → ⊥)
  listed_or_not y of e i =
      let x = labels e i in
      let v = some_verdict_on d y x.0 of x.1 in
      ⊎_elim
      (λ is. inl (listed_by g u d y e x.0 x.1 x.2 v.0 v.1 is))
      (λ other. inr (λ listed. other (listed_only_by g u d y e x.0 x.1 x.2 v.0 v.1 listed)))
      (yes_or_not v.0)

  -- a label is hidden, or not: so says the verdict on it and itself
  hidden_or_not : (y : Label) → IsLabel g y → IsHidden g u y ⊎ (IsHidden g u y → ⊥)
  hidden_or_not y of = let v = some_verdict g u formed proper composites safe y y of of in by v.0 v.1
    where
      by : (v : Verdict) → IsVerdict g u y y v → IsHidden g u y ⊎ (IsHidden g u y → ⊥)
      by Hidden1 h = inl h
      by Hidden2 h = inr h.0
      by Clash h = inr h.0.0
      by Yes h = inr h.0.0
      by No h = inr h.0.0

  some_listing : (y : Label) → IsLabel g y → (text : List ℕ) × IsListing g u d es y text
  some_listing y of = ⊎_elim
      (λ hidden. (codes "hidden\n", inl (hidden, refl)))
      (λ shown. let names = some_listed (IsListed g u d y) es (listed_or_not y of) in (lines_of names.0, inr (shown, (names.0, names.1, refl))))
      (hidden_or_not y of)

  pub some_listing_text : (item : List ℕ) → (text : List ℕ) × IsListingText g u d es item text
  some_listing_text item = ⊎_elim (λ i. found i) (λ none. (codes "unknown\n", inl (none, refl))) (in_either bytes_either item (names_of_entries es))
    where
      found : IsIn item (names_of_entries es) → (text : List ℕ) × IsListingText g u d es item text
      found i =
          let e = in_map_from (λ (z : Entry). z.name) item es i in
          let y = labels e.0 e.1 in
          let text = some_listing y.0 y.1 in
          (text.0, inr (y.0, (e.0, e.1, sym e.2, y.1, y.2), text.1))
