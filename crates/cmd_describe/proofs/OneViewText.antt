-- A view of a proper grammar has one text, whichever test of seen modules and full assignment it is written by.
use Rattle.std.proofs.Common.{◌≡◌, ◌↔◌, IsTrue, ℕ, ◌<◌, Bool, cond, List, [], ◌∷◌, ◌++◌, length, refl, ap, ◌∙◌, inl, inr, ⊎_elim, arith}
use Rattle.std.specs.Prelude.{codes, filter, flat_map}
use Rattle.wf_model.specs.declared.event.Event.{Event}
use Rattle.wf_model.specs.declared.event.Event.TheVariants.{Start}
use Rattle.wf_model.specs.Lists.{IsIn, numbers_from}
use Rattle.wf_model.specs.Grammar.{Grammar, Assignment, inputs_of, outputs_of}
use Rattle.wf_model.specs.Proper.{IsProper}
use Rattle.wf_model.specs.View.{View, expands, IsSeenModule}
use Rattle.wf_model.specs.Run.{IsName, IsRun}
use Rattle.wf_model.specs.Safe.{IsExpansion, IsFull}
use Rattle.wf_model.specs.Finishing.{ExpandsComposites}
use Rattle.wf_model.proofs.Lists.{filter_same, in_filter_from}
use Rattle.wf_laws.proofs.Growth.{finishing_law}
use Rattle.wf_view.specs.Viewing.{name_of}
use Rattle.cmd_describe.specs.ViewText.{pair_text, row_text, state_text, module_line, IsSeenTest, view_text_of}
use Rattle.std.specs.Cmp.Derive.{one_truth}
use Rattle.wf_view.proofs.Viewed.{below_all}

-- two tests that tell the same are the same
one_test : {P : Type 0} (s t : Bool) → IsTrue s ↔ P → IsTrue t ↔ P → s ≡ t
one_test s t p q = one_truth s t (λ e. q.1 (p.0 e)) (λ e. p.1 (q.0 e))

-- texts of the same elements are the same
each_same : (f h : ℕ → List ℕ) (xs : List ℕ) → ((x : ℕ) → IsIn x xs → f x ≡ h x) → flat_map f xs ≡ flat_map h xs
each_same f h [] e = refl
each_same f h (x ∷ xs) e = ap (λ l. l ++ flat_map f xs) (e x (inl refl)) ∙ ap (λ l. h x ++ l) (each_same f h xs (λ y i. e y (inr i)))

-- each module has an expansion: the start event of any name is finished
expanded : (g : Grammar) (u : View) → IsProper g → ExpandsComposites g u → (m : ℕ) → (e : List Event) × IsExpansion g u m e
expanded g u proper composites m =
    let more = finishing_law g u proper composites m (Start name ∷ []) run in (
      Start name ∷ more.0,
      record { run = more.1.run; started = λ e. absurd (cc); finished = more.1.finished },
    )
  where
    name : List ℕ
    name = 97 ∷ []

    good : IsName name
    good = (omega arith, λ b h. inl (⊎_elim (λ e. (omega arith, omega arith)) (λ e. absurd e) h))

    run : IsRun g m (Start name ∷ [])
    run = ((refl, good), tt)

module _ (g : Grammar) (u : View) (proper : IsProper g) (composites : ExpandsComposites g u) (seen test : ℕ → Bool) (c d : Assignment) (s : IsSeenTest g u seen) (t : IsSeenTest g u test) (p : IsFull g u c) (q : IsFull g u d) where
  -- a pair of a seen module is joined by each of its expansions, so both assignments have it or neither
  same_pair : (m : ℕ) → IsSeenModule g u m → (i o : ℕ) → i < inputs_of g m → o < outputs_of g m → c m i o ≡ d m i o
  same_pair m h i o j k = let e = expanded g u proper composites m in one_test (c m i o) (d m i o) (p m h e.0 e.1 i o j k) (q m h e.0 e.1 i o j k)

  -- so its line is one
  same_line : (m : ℕ) → IsSeenModule g u m → module_line g u c m ≡ module_line g u d m
  same_line m h =
      ap (λ l. (name_of g m ++ state_text (expands u m)) ++ (l ++ codes "\n"))
      (each_same (row_text g c m) (row_text g d m) (numbers_from 0 (inputs_of g m)) (λ i j.
      each_same (λ o. cond (c m i o) (pair_text g m i o) []) (λ o. cond (d m i o) (pair_text g m i o) []) (numbers_from 0 (outputs_of g m)) (λ o k.
      ap (λ b. cond b (pair_text g m i o) []) (same_pair m h i o (below_all i (inputs_of g m) j) (below_all o (outputs_of g m) k)))))

  pub one_view_text : view_text_of g u seen c ≡ view_text_of g u test d
  one_view_text =
      let all = numbers_from 0 (length g.modules) in
      ap (flat_map (module_line g u c)) (filter_same seen test all (λ m i. one_test (seen m) (test m) (s m (below_all m (length g.modules) i)) (t m (below_all m (length g.modules) i))))
      ∙ each_same (module_line g u c) (module_line g u d) (filter test all) (λ m i. let r = in_filter_from test m all i in same_line m ((t m (below_all m (length g.modules) r.0)).0 r.1))
