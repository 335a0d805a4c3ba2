-- What is listed is what queries are answered yes for.
use Rattle.std.proofs.Common.{◌≡◌, ℕ, List, refl, subst, inl, inr}
use Rattle.std.specs.Prelude.{◌↔◌, codes}
use Rattle.wf_model.specs.Lists.{IsIn, AllDiffer}
use Rattle.wf_model.specs.Grammar.{Grammar}
use Rattle.wf_model.specs.View.{View}
use Rattle.label_model.specs.Files.{Entry, names_of_entries}
use Rattle.verdict_model.specs.declared.verdict.Verdict.{Verdict}
use Rattle.verdict_model.specs.declared.verdict.Verdict.TheVariants.{Hidden1, Hidden2, Clash as ClashTold, Yes as YesTold, No as NoTold}
use Rattle.verdict_model.specs.Verdicts.{IsVerdict}
use Rattle.wf_query.specs.declared.answers.Answer.{Answer}
use Rattle.wf_query.specs.declared.answers.Answer.TheVariants.{Unknown, Hidden, Clash, Yes, No}
use Rattle.wf_query.specs.Answers.{AreDecided, IsAnswerOfLabels, answer_of, answer_text, IsAnswerText}
use Rattle.wf_query.proofs.Entries.{one_label}
use Rattle.wf_lineage.specs.declared.direction.Direction.TheVariants.{Upstream, Downstream}
use Rattle.wf_lineage.specs.Listed.{IsListed}
use Rattle.wf_lineage.specs.Laws.{AreListedFor, AnswersYesLaw, MirrorLaw}
use Rattle.wf_lineage.proofs.ListedNames.{listed_in, in_listed}

-- the word `yes` is that of one answer
only_yes : (a : Answer) → codes "yes" ≡ answer_text a → a ≡ Yes
only_yes Unknown e = absurd (cc)
only_yes Hidden e = absurd (cc)
only_yes Clash e = absurd (cc)
only_yes Yes e = refl
only_yes No e = absurd (cc)

-- which is that of one verdict
yes_of : (v : Verdict) → Yes ≡ answer_of v → v ≡ YesTold
yes_of Hidden1 e = absurd (cc)
yes_of Hidden2 e = absurd (cc)
yes_of ClashTold e = absurd (cc)
yes_of YesTold e = refl
yes_of NoTold e = absurd (cc)

module _ (g : Grammar) (u : View) (es : List Entry) where
  -- two entries whose labels have the verdict yes
  abbrev AreYes : List ℕ → List ℕ → Type 0
  AreYes first second = AreDecided g u es first second YesTold

  answered : (first second : List ℕ) → AreYes first second → IsAnswerText g u es first second (codes "yes")
  answered first second d = (Yes, inr (YesTold, d, refl), refl)

  decided : (first second : List ℕ) → IsAnswerText g u es first second (codes "yes") → AreYes first second
  decided first second h = by (subst (λ a. IsAnswerOfLabels g u es first second a) (only_yes h.0 h.2) h.1)
    where
      by : IsAnswerOfLabels g u es first second Yes → AreYes first second
      by (inl p) = absurd (let e = p.1 in (cc))
      by (inr p) = subst (λ v. AreDecided g u es first second v) (yes_of p.0 p.2) p.1

  module _ (differ : AllDiffer (names_of_entries es)) (item other : List ℕ) (names : List (List ℕ)) where
    pub upstream_law : AreListedFor g u Upstream es item names → IsIn other names ↔ IsAnswerText g u es other item (codes "yes")
    upstream_law h = (to, from)
      where
        to : IsIn other names → IsAnswerText g u es other item (codes "yes")
        to i =
            let r = in_listed (IsListed g u Upstream h.0) es names h.2 other i in
            answered other item (record { x = r.2.0; y = h.0; first_entry = (r.0, r.1, r.3, r.2.1, r.2.2); second_entry = h.1; verdict = r.2.3 })

        from : IsAnswerText g u es other item (codes "yes") → IsIn other names
        from a =
            let d = decided other item a in
            let e = d.first_entry in
            let same = one_label g u es differ item d.y h.0 d.second_entry h.1 in
            subst (λ z. IsIn z names) e.2 (listed_in (IsListed g u Upstream h.0) es names h.2 e.0 e.1 (d.x, e.3, e.4, subst (λ z. IsVerdict g u d.x z YesTold) same d.verdict))

    pub downstream_law : AreListedFor g u Downstream es item names → IsIn other names ↔ IsAnswerText g u es item other (codes "yes")
    downstream_law h = (to, from)
      where
        to : IsIn other names → IsAnswerText g u es item other (codes "yes")
        to i =
            let r = in_listed (IsListed g u Downstream h.0) es names h.2 other i in
            answered item other (record { x = h.0; y = r.2.0; first_entry = h.1; second_entry = (r.0, r.1, r.3, r.2.1, r.2.2); verdict = r.2.3 })

        from : IsAnswerText g u es item other (codes "yes") → IsIn other names
        from a =
            let d = decided item other a in
            let e = d.second_entry in
            let same = one_label g u es differ item d.x h.0 d.first_entry h.1 in
            subst (λ z. IsIn z names) e.2 (listed_in (IsListed g u Downstream h.0) es names h.2 e.0 e.1 (d.y, e.3, e.4, subst (λ z. IsVerdict g u z d.y YesTold) same d.verdict))

pub answers_yes_law : AnswersYesLaw
answers_yes_law g u es differ item other names = record { upstream = upstream_law g u es differ item other names; downstream = downstream_law g u es differ item other names }

pub mirror_law : MirrorLaw
mirror_law g u es differ one other lineage impact up down =
    let a = upstream_law g u es differ other one lineage up in
    let b = downstream_law g u es differ one other impact down in
    (λ i. b.1 (a.0 i), λ i. a.1 (b.0 i))
