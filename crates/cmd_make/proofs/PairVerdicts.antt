-- The verdicts on pairs of labels.
use Rattle.std.proofs.Common.{◌≡◌, ℕ, zero, suc, ◌+◌, ◌<◌, ◌≤◌, List, [], ◌∷◌, ◌++◌, length, map, take, get_or, refl, sym, ap, ◌∙◌, subst, arith, inl, inr}
use Rattle.std.specs.Prelude.{cond, count_by}
use Rattle.std.proofs.lemmas.List.{take_more, take_all}
use Rattle.std.proofs.lemmas.List.Sums.{sum_by-cons}
use Rattle.rand_pcg.specs.Lcg.{Lcg}
use Rattle.wf_model.specs.Grammar.{Grammar}
use Rattle.wf_model.specs.Lists.{IsIn}
use Rattle.wf_model.specs.View.{View}
use Rattle.label_model.specs.Labels.{Label}
use Rattle.verdict_model.specs.declared.verdict.Verdict.{Verdict}
use Rattle.verdict_model.specs.declared.verdict.Verdict.TheVariants.{Hidden1, Hidden2, Clash, Yes, No}
use Rattle.verdict_model.specs.Verdicts.{IsVerdict}
use Rattle.verdict_model.proofs.OneVerdict.{one_verdict}
use Rattle.wf_gen.specs.Draws.{drawn}
use Rattle.cmd_make.specs.DrillText.{pair_count, pairs_drawn, label_no, AreVerdicts, is_yes, is_no, is_hidden}
use Rattle.cmd_make.specs.HeldLabels.{AreWithin, no_pair}

module _ (g : Grammar) (u : View) (ls : List Label) where
  -- a verdict on one pair more
  pub one_more : (ps : List (ℕ × ℕ)) (vs : List Verdict) (p : ℕ × ℕ) (v : Verdict) → AreVerdicts g u ls ps vs → IsVerdict g u (label_no ls p.0) (label_no ls p.1) v → AreVerdicts g u ls (ps ++ p ∷ []) (vs ++ v ∷ [])
  one_more [] [] p v all is = (is, tt)
  one_more [] (w ∷ vs) p v all is = absurd all
  one_more (q ∷ ps) [] p v all is = absurd all
  one_more (q ∷ ps) (w ∷ vs) p v all is = (all.0, one_more ps vs p v all.1 is)

  -- pairs have one list of verdicts
  pub one_list : (ps : List (ℕ × ℕ)) (vs ws : List Verdict) → AreVerdicts g u ls ps vs → AreVerdicts g u ls ps ws → vs ≡ ws
  one_list [] [] [] a b = refl
  one_list [] [] (w ∷ ws) a b = absurd b
  one_list [] (v ∷ vs) ws a b = absurd a
  one_list (p ∷ ps) [] ws a b = absurd a
  one_list (p ∷ ps) (v ∷ vs) [] a b = absurd b
  one_list (p ∷ ps) (v ∷ vs) (w ∷ ws) a b =
      ap (λ x. x ∷ vs) (one_verdict g u (label_no ls p.0) (label_no ls p.1) v w a.0 b.0) ∙ ap (λ xs. w ∷ xs) (one_list ps vs ws a.1 b.1)

  -- pairs have verdicts where each two labels have one
  pub some_list : (ps : List (ℕ × ℕ)) → ((p : ℕ × ℕ) → IsIn p ps → (v : Verdict) × IsVerdict g u (label_no ls p.0) (label_no ls p.1) v) → (vs : List Verdict) × AreVerdicts g u ls ps vs
  some_list [] each = ([], tt)
  some_list (p ∷ ps) each =
      let v = each p (inl refl) in
      let vs = some_list ps (λ q i. each q (inr i)) in
      (v.0 ∷ vs.0, (v.1, vs.1))

-- pairs, with a verdict on the next one
pub next_verdict : (ps : List (ℕ × ℕ)) (k : ℕ) → k < length ps → (g : Grammar) (u : View) (ls : List Label) (vs new : List Verdict) (v : Verdict) → AreVerdicts g u ls (take k ps) vs → IsVerdict g u (label_no ls (get_or ps k no_pair).0) (label_no ls (get_or ps k no_pair).1) v → new ≡ vs ++ v ∷ [] →
    AreVerdicts g u ls (take (k + 1) ps) new
next_verdict ps k below g u ls vs new v all is push =
    let p = get_or ps k no_pair in
    subst (λ l. AreVerdicts g u ls l new) (sym (take_more ps k no_pair below)) (subst (λ l. AreVerdicts g u ls (take k ps ++ p ∷ []) l) (sym push) (one_more g u ls (take k ps) vs p v all is))

-- the verdicts on all of them
pub all_verdicts : (ps : List (ℕ × ℕ)) (k : ℕ) → length ps ≤ k → (g : Grammar) (u : View) (ls : List Label) (vs : List Verdict) → AreVerdicts g u ls (take k ps) vs → AreVerdicts g u ls ps vs
all_verdicts ps k end g u ls vs all = subst (λ l. AreVerdicts g u ls l vs) (take_all k ps end) all

-- drawn pairs are of the items that there are
pub drawn_within : (n items : ℕ) (r : Lcg) → (0 < n → 0 < items) → AreWithin items (pairs_drawn n items r)
drawn_within zero items r some p i = absurd i
drawn_within (suc n) items r some p (inl e) =
    let h = some (omega arith) in
    (subst (λ (q : ℕ × ℕ). q.0 < items) (sym e) (omega (arith, h)), subst (λ (q : ℕ × ℕ). q.1 < items) (sym e) (omega (arith, h)))
drawn_within (suc n) items r some p (inr i) = drawn_within n items (drawn (drawn r)) (λ z. some (omega arith)) p i

-- where there are no items, none are drawn
pub some_items : (items : ℕ) → 0 < pair_count items → 0 < items
some_items zero h = absurd (omega (arith, h))
some_items (suc k) h = omega arith

-- there are as many as were asked for
pub length-drawn : (n items : ℕ) (r : Lcg) → length (pairs_drawn n items r) ≡ n
length-drawn zero items r = refl
length-drawn (suc n) items r = ap suc (length-drawn n items (drawn (drawn r)))

-- how often a verdict is counted, and all of them
times : Verdict → ℕ
times v = cond (is_yes v) 1 0 + cond (is_no v) 1 0 + cond (is_hidden v) 1 0

all_counted : List Verdict → ℕ
all_counted vs = count_by is_yes vs + count_by is_no vs + count_by is_hidden vs

counted-cons : (v : Verdict) (vs : List Verdict) → all_counted (v ∷ vs) ≡ times v + all_counted vs
unfolding times all_counted
counted-cons v vs =
    let yes = sum_by-cons (λ w. cond (is_yes w) 1 0) v vs in
    let no_too = sum_by-cons (λ w. cond (is_no w) 1 0) v vs in
    let hidden = sum_by-cons (λ w. cond (is_hidden w) 1 0) v vs in
    omega (arith, yes, no_too, hidden)

nothing_counted : all_counted [] ≡ 0
unfolding all_counted
nothing_counted = refl

module _ (g : Grammar) (u : View) (ls : List Label) where
  -- a verdict that is no clash is counted once
  once : (p : ℕ × ℕ) (v : Verdict) → IsVerdict g u (label_no ls p.0) (label_no ls p.1) v → (IsVerdict g u (label_no ls p.0) (label_no ls p.1) Clash → ⊥) → times v ≡ 1
  unfolding times
  once p Yes is none = refl
  once p No is none = refl
  once p Hidden1 is none = refl
  once p Hidden2 is none = refl
  once p Clash is none = absurd (none is)

  -- where none is a clash, there are as many verdicts as pairs
  once_each : (ps : List (ℕ × ℕ)) (vs : List Verdict) → ((p : ℕ × ℕ) → IsIn p ps → IsVerdict g u (label_no ls p.0) (label_no ls p.1) Clash → ⊥) → AreVerdicts g u ls ps vs → all_counted vs ≡ length ps
  once_each [] [] none all = nothing_counted
  once_each [] (v ∷ vs) none all = absurd all
  once_each (p ∷ ps) [] none all = absurd all
  once_each (p ∷ ps) (v ∷ vs) none all =
      let one = once p v all.0 (none p (inl refl)) in
      let h = once_each ps vs (λ q i. none q (inr i)) all.1 in
      counted-cons v vs ∙ (ap (λ n. n + all_counted vs) one ∙ (ap (λ n. 1 + n) h ∙ omega arith))

  pub counted_once : (ps : List (ℕ × ℕ)) (vs : List Verdict) → ((p : ℕ × ℕ) → IsIn p ps → IsVerdict g u (label_no ls p.0) (label_no ls p.1) Clash → ⊥) → AreVerdicts g u ls ps vs →
      count_by is_yes vs + count_by is_no vs + count_by is_hidden vs ≡ length ps
  unfolding all_counted
  counted_once ps vs none all = once_each ps vs none all
