-- Views that leave modules to the defaults show a version alike.
use Rattle.std.proofs.Common.{◌≡◌, ◌⊎◌, ◌&&◌, ℕ, ◌<◌, Bool, true, false, cond, eqb, ltb, length, sym, ap, ◌∙◌, subst, inl, inr, ⊎_elim, true≢false}
use Rattle.std.proofs.lemmas.Bool.{cases_Bool, eqb-true, lt-ltb, and_parts}
use Rattle.wf_model.specs.Lists.{some}
use Rattle.wf_model.specs.Grammar.{Grammar, Given, inputs_of, outputs_of, IsAtomic, IsComposite, is_given}
use Rattle.wf_model.specs.WellFormed.{IsWellFormed}
use Rattle.wf_model.specs.View.{View, shows, IsShownByDefault}
use Rattle.wf_model.specs.Composite.{is_composite}
use Rattle.wf_model.proofs.Lists.{some_gives, some-filter}
use Rattle.wf_model.proofs.Composites.{composite_gives, composite_is}
use Rattle.wf_model.specs.Versions.{version_of, IsVersion}
use Rattle.version_model.specs.Laws.{VersionViewLaw}
use Rattle.version_model.proofs.SameParts.{count_modules, in_version, in_grammar, head_same, ins_same, outs_same}

-- a module is composite or atomic
composite_or_atomic : (g : Grammar) (k : ℕ) → IsComposite g k ⊎ IsAtomic g k
composite_or_atomic g k = ⊎_elim
    (λ e. inl (composite_gives g k e))
    (λ e. inr (λ p h q. true≢false (sym (composite_is g k (p, (h, q))) ∙ e)))
    (cases_Bool (is_composite g k))

-- a part of the pairs that are given to a module, and whether it has this one
abbrev part_of : ℕ → Given → Bool
part_of k d = eqb d.module_no k

abbrev part_with : ℕ → ℕ → ℕ → Given → Bool
part_with k i o d = eqb d.module_no k && some (λ (e : ℕ × ℕ). eqb e.0 i && eqb e.1 o) d.pairs

module _ (g : Grammar) (m p : ℕ) (is : IsVersion g m p) (k : ℕ) (hk : k < m) where
  composite_up : IsComposite (version_of g m p) k → IsComposite g k
  composite_up c = let h = in_version g m p is c.0 c.1.0 in (c.0, (in_grammar g m p is c.0 h, sym (head_same g m p is c.0 h) ∙ c.1.1))

  below : (d : Given) → eqb d.module_no k ≡ true → ltb d.module_no m ≡ true
  below d e = lt-ltb d.module_no m (subst (λ z. z < m) (sym (eqb-true d.module_no k e)) hk)

  -- the pairs given to a module of the version are those of the grammar
  given_same : (i o : ℕ) → is_given (version_of g m p).given k i o ≡ is_given g.given k i o
  given_same i o =
      ap (λ b. cond b (some (part_with k i o) (version_of g m p).given) true) (some-filter (part_of k) (λ (d : Given). ltb d.module_no m) g.given below) ∙
      ap (λ b. cond (some (part_of k) g.given) b true)
      (some-filter (part_with k i o) (λ (d : Given). ltb d.module_no m) g.given (λ d e. below d (and_parts (eqb d.module_no k) (some (λ (e : ℕ × ℕ). eqb e.0 i && eqb e.1 o) d.pairs) e).0))

  -- none are given to a composite module
  all_given : IsWellFormed g → IsComposite g k → (i o : ℕ) → is_given g.given k i o ≡ true
  all_given wf c i o = ap (λ b. cond b (some (part_with k i o) g.given) true) none
    where
      none : some (part_of k) g.given ≡ false
      none = ⊎_elim
          (λ e.
          let d = some_gives (part_of k) g.given e in
          absurd ((wf.given_atomic d.0 d.1).1 c.0 c.1.0 (c.1.1 ∙ sym (eqb-true d.0.module_no k d.2))))
          (λ e. e)
          (cases_Bool (some (part_of k) g.given))

  -- what two views show by default is the same
  module _ (wf : IsWellFormed g) (u w : View) (one : IsShownByDefault (version_of g m p) u k) (two : IsShownByDefault g w k) (i o : ℕ) (hi : i < inputs_of (version_of g m p) k) (ho : o < outputs_of (version_of g m p) k) where
    hi2 : i < inputs_of g k
    hi2 = subst (λ z. i < z) (ins_same g m p is k hk) hi

    ho2 : o < outputs_of g k
    ho2 = subst (λ z. o < z) (outs_same g m p is k hk) ho

    default_same : shows w k i o ≡ shows u k i o
    default_same = by (composite_or_atomic (version_of g m p) k) (composite_or_atomic g k)
      where
        by : IsComposite (version_of g m p) k ⊎ IsAtomic (version_of g m p) k → IsComposite g k ⊎ IsAtomic g k → shows w k i o ≡ shows u k i o
        by (inl c) q = two.composite (composite_up c) i o hi2 ho2 ∙ sym (one.composite c i o hi ho)
        by (inr a) (inl c) = two.composite c i o hi2 ho2 ∙ (sym (all_given wf c i o) ∙ (sym (given_same i o) ∙ sym (one.atomic a i o hi ho)))
        by (inr a) (inr b) = two.atomic b i o hi2 ho2 ∙ (sym (given_same i o) ∙ sym (one.atomic a i o hi ho))

pub version_view_law : VersionViewLaw
version_view_law g m p is wf u w expanded shown = record {
  expanded = λ k h. expanded k (in_it k h);
  shown = λ k h ex i o hi ho. ⊎_elim
      (λ same. same i o (subst (λ z. i < z) (ins_same g m p is k (in_it k h)) hi) (subst (λ z. o < z) (outs_same g m p is k (in_it k h)) ho))
      (λ d. default_same g m p is k (in_it k h) wf u w d.0 d.1 i o hi ho)
      (shown k (in_it k h) ex);
}
  where
    in_it : (k : ℕ) → k < length (version_of g m p).modules → k < m
    in_it k h = subst (λ z. k < z) (count_modules g m p is) h
