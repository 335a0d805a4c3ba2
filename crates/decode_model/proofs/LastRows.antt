-- What the last row tells, over a crossing, down alone and up alone.
use Rattle.std.proofs.Common.{◌≡◌, ℕ, ◌<◌, IsTrue, List, [], ◌∷◌, ◌++◌, length, get_or, refl, sym, ap, subst}
use Rattle.bool_mat.specs.Matrix.{has, Then}
use Rattle.bool_mat.proofs.Relations.{Same, same_trans, then_same}
use Rattle.wf_model.specs.Grammar.{Grammar, Assignment, inputs_of, outputs_of, body_of}
use Rattle.wf_model.specs.View.{View, IsSeenModule}
use Rattle.wf_model.specs.Reach.{Step, target_of, module_along}
use Rattle.wf_laws.specs.Splits.{IntoAll, OutAll}
use Rattle.decode_model.specs.Ways.{Pairs, Crosses}
use Rattle.decode_model.specs.Rows.{Along}
use Rattle.wf_model.specs.OpenRoutes.{IsOpenStep}
use Rattle.decode_model.specs.Matrices.{Within, Across, ViewMatrices, AreMatrices}
use Rattle.decode_model.specs.Legs.{Leg, way_steps, way_down, way_up, AreLegs, crossing}
use Rattle.decode_model.specs.RowLaws.{RowsLaw, DownRowsLaw, UpRowsLaw}
use Rattle.decode_model.proofs.RowProducts.{through_law, along_append, along_one}
use Rattle.wf_model.proofs.OpenRoutes.{step_seen}
use Rattle.decode_model.proofs.SeenLegs.{legs_seen}
use Rattle.decode_model.proofs.LegRows.{down_way, up_way}

-- a way down ends at an input of the last module, and a way up begins at an output of it
into_in : (g : Grammar) (d : Assignment) (m : ℕ) (steps : List Step) (i j : ℕ) → i < inputs_of g m → IntoAll g d steps i j → j < inputs_of g (module_along g m steps)
into_in g d m [] i j l h = subst (λ z. z < inputs_of g m) h l
into_in g d m (s ∷ steps) i j l h = into_in g d (target_of g s) steps h.0 j h.1.0 h.2

out_in : (g : Grammar) (d : Assignment) (m : ℕ) (steps : List Step) (j o : ℕ) → o < outputs_of g m → OutAll g d steps j o → j < outputs_of g (module_along g m steps)
out_in g d m [] j o l h = subst (λ z. z < outputs_of g m) (sym h) l
out_in g d m (s ∷ steps) j o l h = out_in g d (target_of g s) steps j h.0 h.1.0 h.2

module _ (g : Grammar) (u : View) (d : Assignment) (v : ViewMatrices) (are : AreMatrices g u d v) where
  -- what the row products of a crossing come to, as relations
  crossing_along : (s t : Step) (a b : List Leg) → IsOpenStep g u s → IsOpenStep g u t → s.production ≡ t.production → AreLegs g u (target_of g s) a → AreLegs g u (target_of g t) b →
      Same (Along (crossing g v s a t b)) (Then (OutAll g d (way_steps a)) (Then (Across g d s t.position) (Then (IntoAll g d (way_steps b)) (Within g d (module_along g (target_of g t) (way_steps b))))))
  crossing_along s t a b os ot e xa xb =
      let last = module_along g (target_of g t) (way_steps b) in
      let seen : IsSeenModule g u last = legs_seen g u (target_of g t) b (step_seen g u t ot) xb in
      let position : t.position < length (body_of g s.production) = subst (λ z. t.position < length (body_of g z)) (sym e) ot.position in
      same_trans (along_append (way_up v a) (v.between s t.position ∷ (way_down v b ++ v.full last ∷ [])))
      (then_same (up_way g u d v are (target_of g s) a xa)
      (then_same (are.between s t.position os position)
      (same_trans (along_append (way_down v b) (v.full last ∷ [])) (then_same (down_way g u d v are (target_of g t) b xb) (same_trans (along_one (v.full last)) (are.full last seen))))))

-- the relation of a whole crossing
abbrev Whole : Grammar → Assignment → Step → List Leg → Step → List Leg → ℕ → ℕ → Type 0
Whole g d s a t b = Then (OutAll g d (way_steps a)) (Then (Across g d s t.position) (Then (IntoAll g d (way_steps b)) (Within g d (module_along g (target_of g t) (way_steps b)))))

module _ (g : Grammar) (u : View) (d : Assignment) (v : ViewMatrices) (are : AreMatrices g u d v) (s t : Step) (a b : List Leg) (last o i : ℕ) where
  rows_to : (IsTrue (has last o) → (j : ℕ) × IsTrue (has (get_or (v.full (module_along g (target_of g s) (way_steps a))).rows i 0) j) × Along (crossing g v s a t b) j o) →
      ((j : ℕ) → IsTrue (has (get_or (v.full (module_along g (target_of g s) (way_steps a))).rows i 0) j) → Within g d (module_along g (target_of g s) (way_steps a)) i j) →
      ((j : ℕ) → Along (crossing g v s a t b) j o → Whole g d s a t b j o) →
      target_of g (record { production = s.production; position = t.position }) ≡ target_of g t →
      IsTrue (has last o) → Crosses g d s (way_steps a) t (way_steps b) i o
  rows_to r first c same_target h =
      let x = r h in
      let f = first x.0 x.1 in
      let w = c x.0 x.2 in
      let across = w.2.1 in
      let down = w.2.2 in
      (w.0, w.2.0, across.0, subst (λ z. w.2.0 < inputs_of g z) same_target across.1, (x.0, f.2, w.1), across.2, (down.0, down.1, down.2.2))

  rows_from : i < inputs_of g (module_along g (target_of g s) (way_steps a)) → o < outputs_of g (module_along g (target_of g t) (way_steps b)) →
      (((j : ℕ) × IsTrue (has (get_or (v.full (module_along g (target_of g s) (way_steps a))).rows i 0) j) × Along (crossing g v s a t b) j o) → IsTrue (has last o)) →
      ((j : ℕ) → Within g d (module_along g (target_of g s) (way_steps a)) i j → IsTrue (has (get_or (v.full (module_along g (target_of g s) (way_steps a))).rows i 0) j)) →
      ((j : ℕ) → Whole g d s a t b j o → Along (crossing g v s a t b) j o) →
      target_of g (record { production = s.production; position = t.position }) ≡ target_of g t →
      Crosses g d s (way_steps a) t (way_steps b) i o → IsTrue (has last o)
  rows_from li lo r first c same_target h =
      let up = h.4 in
      let down = h.6 in
      let j_in : up.0 < outputs_of g (module_along g (target_of g s) (way_steps a)) = out_in g d (target_of g s) (way_steps a) up.0 h.0 h.2 up.2 in
      let k_in : down.0 < inputs_of g (module_along g (target_of g t) (way_steps b)) = into_in g d (target_of g t) (way_steps b) h.1 down.0 h.3 down.1 in
      r (up.0, first up.0 (li, j_in, up.1), c up.0 (h.0, up.2, (h.1, (h.2, subst (λ z. h.1 < inputs_of g z) (sym same_target) h.3, h.5), (down.0, down.1, (k_in, lo, down.2)))))

pub rows_law : RowsLaw
rows_law g u d v are s t a b os ot e xa xb i o last li lo through =
    let ma = module_along g (target_of g s) (way_steps a) in
    let mb = module_along g (target_of g t) (way_steps b) in
    let seen : IsSeenModule g u ma = legs_seen g u (target_of g s) a (step_seen g u s os) xa in
    let first = are.full ma seen i in
    let r = through_law (crossing g v s a t b) (get_or (v.full ma).rows i 0) last through o in
    let c = crossing_along g u d v are s t a b os ot e xa xb in
    let same_target : target_of g (record { production = s.production; position = t.position }) ≡ target_of g t = ap (λ z. target_of g (record { production = z; position = t.position })) e in (
      rows_to g u d v are s t a b last o i (λ h. r.0 h) (λ j. (first j).0) (λ j. (c j o).0) same_target,
      rows_from g u d v are s t a b last o i li lo (λ h. r.1 h) (λ j. (first j).1) (λ j. (c j o).1) same_target,
    )

pub down_rows_law : DownRowsLaw
down_rows_law g u d v are m seen b xb i o first last li lo alone through =
    let mb = module_along g m (way_steps b) in
    let r = through_law (way_down v b ++ v.full mb ∷ []) first last through o in
    let c : Same (Along (way_down v b ++ v.full mb ∷ [])) (Then (IntoAll g d (way_steps b)) (Within g d mb)) =
    same_trans (along_append (way_down v b) (v.full mb ∷ [])) (then_same (down_way g u d v are m b xb) (same_trans (along_one (v.full mb)) (are.full mb (legs_seen g u m b seen xb)))) in
    (down_to r.0 c, down_from r.1 c)
  where
    down_to : (IsTrue (has last o) → (j : ℕ) × IsTrue (has first j) × Along (way_down v b ++ v.full (module_along g m (way_steps b)) ∷ []) j o) →
        Same (Along (way_down v b ++ v.full (module_along g m (way_steps b)) ∷ [])) (Then (IntoAll g d (way_steps b)) (Within g d (module_along g m (way_steps b)))) →
        IsTrue (has last o) → Then (IntoAll g d (way_steps b)) (Pairs d (module_along g m (way_steps b))) i o
    down_to r c h =
        let x = r h in
        let e = (alone x.0).0 x.1 in
        let w = (c i o).0 (subst (λ z. Along (way_down v b ++ v.full (module_along g m (way_steps b)) ∷ []) z o) e x.2) in
        (w.0, w.1, w.2.2)

    down_from : (((j : ℕ) × IsTrue (has first j) × Along (way_down v b ++ v.full (module_along g m (way_steps b)) ∷ []) j o) → IsTrue (has last o)) →
        Same (Along (way_down v b ++ v.full (module_along g m (way_steps b)) ∷ [])) (Then (IntoAll g d (way_steps b)) (Within g d (module_along g m (way_steps b)))) →
        Then (IntoAll g d (way_steps b)) (Pairs d (module_along g m (way_steps b))) i o → IsTrue (has last o)
    down_from r c h =
        r (i, (alone i).1 refl, (c i o).1 (h.0, h.1, (into_in g d m (way_steps b) i h.0 li h.1, lo, h.2)))

pub up_rows_law : UpRowsLaw
up_rows_law g u d v are m seen a xa i o last li lo through =
    let ma = module_along g m (way_steps a) in
    let r = through_law (way_up v a) (get_or (v.full ma).rows i 0) last through o in
    let first = are.full ma (legs_seen g u m a seen xa) i in
    let c = up_way g u d v are m a xa in (
      (λ h. let x = r.0 h in let f = (first x.0).0 x.1 in (x.0, f.2, (c x.0 o).0 x.2)),
      λ h. r.1 (h.0, (first h.0).1 (li, out_in g d m (way_steps a) h.0 o lo h.2, h.1), (c h.0 o).1 h.2),
    )
