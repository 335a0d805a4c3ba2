-- What a fine view reaches, a coarse view that denies no pair reaches too, and one that adds none reaches no more.
use Rattle.std.proofs.Common.{◌≡◌, ◌↔◌, ℕ, ◌<◌, Bool, true, false, IsTrue, length, None, refl, sym, ◌∙◌}
use Rattle.wf_model.specs.Grammar.{Grammar, Assignment, inputs_of, outputs_of, head_of}
use Rattle.wf_model.specs.View.{View, expands, shows, IsSeenModule, at_start}
use Rattle.wf_model.specs.Safe.{IsInduced, IsFull, BodyJoins}
use Rattle.wf_model.specs.Links.{input, output}
use Rattle.wf_model.specs.Finishing.{ExpandsComposites}
use Rattle.wf_model.specs.Proper.{IsProper}
use Rattle.wf_laws.proofs.Full.{full_law}
use Rattle.compare_model.specs.Pairs.{IsBorderPair, DeniesNone, AddsNone}
use Rattle.compare_model.specs.Laws.{AreCompared, ReachAgreementLaw}
use Rattle.compare_model.proofs.SeenByRank.{of_seen}
use Rattle.compare_model.proofs.MorePairs.{HasAll, path_more, reaches_more}
use Rattle.compare_model.proofs.SeenByBoth.{modules_too}

-- for the head of each production of a module that the view sees and expands, the pairs are assigned that its body joins
abbrev pub AreInducedWithin : Grammar → View → Assignment → Type 0
AreInducedWithin g v d =
    (p : ℕ) → p < length g.productions → IsSeenModule g v (head_of g p) → IsTrue (expands v (head_of g p)) →
    (i o : ℕ) → i < inputs_of g (head_of g p) → o < outputs_of g (head_of g p) → IsTrue (d (head_of g p) i o) ↔ BodyJoins g d p i o

-- where one of two assignments has all pairs of the other at the border, it has all within it
pub all_seen : (g : Grammar) (v : View) → ExpandsComposites g v → IsProper g → (a b : Assignment) → AreInducedWithin g v a → AreInducedWithin g v b →
    ((m : ℕ) → IsSeenModule g v m → expands v m ≡ false → HasAll g a b m) → (m : ℕ) → IsSeenModule g v m → HasAll g a b m
all_seen g v composites proper a b of_a of_b border = of_seen g v (HasAll g a b) border
    (λ p l s ex all i o hi ho t. (of_b p l s ex i o hi ho).1 (path_more g a b p all (input None i) (output None o) ((of_a p l s ex i o hi ho).0 t)))
    composites proper

module _ (g : Grammar) (c u : View) (d : Assignment) (x : AreCompared g c u d) where
  pub fine_induced : IsInduced g u d
  fine_induced = (full_law g u d x.formed x.proper x.fine_composites).0 x.full

  fine_within : AreInducedWithin g c d
  fine_within p l s ex = fine_induced.induced p l (modules_too g c u x.coarser (head_of g p) s) (x.coarser (head_of g p) ex)

  a_pair : (m : ℕ) → IsSeenModule g c m → expands c m ≡ false → (i o : ℕ) → i < inputs_of g m → o < outputs_of g m → IsBorderPair g c (record { module_no = m; input = i; output = o })
  a_pair m s ex i o hi ho = record { border = (s, ex); input_there = hi; output_there = ho }

  module _ (e : Assignment) (full : IsFull g c e) where
    coarse_induced : IsInduced g c e
    coarse_induced = (full_law g c e x.formed x.proper x.coarse_composites).0 full

    kept_pairs : DeniesNone g c d → (m : ℕ) → IsSeenModule g c m → HasAll g d e m
    kept_pairs none = all_seen g c x.coarse_composites x.proper d e fine_within coarse_induced.induced (λ m s ex i o hi ho t. go m s ex i o hi ho t (shows c m i o) refl)
      where
        go : (m : ℕ) → IsSeenModule g c m → expands c m ≡ false → (i o : ℕ) → i < inputs_of g m → o < outputs_of g m → IsTrue (d m i o) → (b : Bool) → shows c m i o ≡ b → IsTrue (e m i o)
        go m s ex i o hi ho t true q = coarse_induced.shown m s ex i o hi ho ∙ q
        go m s ex i o hi ho t false q = absurd (none (record { module_no = m; input = i; output = o }) (record { pair = a_pair m s ex i o hi ho; fine = t; coarse = q }))

    no_more_pairs : AddsNone g c d → (m : ℕ) → IsSeenModule g c m → HasAll g e d m
    no_more_pairs none = all_seen g c x.coarse_composites x.proper e d coarse_induced.induced fine_within (λ m s ex i o hi ho t. go m s ex i o hi ho t (d m i o) refl)
      where
        go : (m : ℕ) → IsSeenModule g c m → expands c m ≡ false → (i o : ℕ) → i < inputs_of g m → o < outputs_of g m → IsTrue (e m i o) → (b : Bool) → d m i o ≡ b → IsTrue (d m i o)
        go m s ex i o hi ho t true q = q
        go m s ex i o hi ho t false q =
            absurd (none (record { module_no = m; input = i; output = o }) (record { pair = a_pair m s ex i o hi ho; fine = q; coarse = sym (coarse_induced.shown m s ex i o hi ho) ∙ t }))

pub reach_agreement_law : ReachAgreementLaw
reach_agreement_law g c u d e x full a b oa ob agree i o hi ho = record {
  kept = λ none q. reaches_more g d e c (kept_pairs g c u d x e full none) a b agree g.start (at_start refl) oa ob i o hi ho q;
  no_more = λ none q. reaches_more g e d c (no_more_pairs g c u d x e full none) a b agree g.start (at_start refl) oa ob i o hi ho q;
}
