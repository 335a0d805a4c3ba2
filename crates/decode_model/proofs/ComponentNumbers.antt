-- Numbers of strong components and of cycles: how many lower modules are least in theirs.
use Rattle.std.proofs.Common.{◌≡◌, ℕ, ◌<◌, ◌≤◌, ◌⊎◌, ◌&&◌, Bool, true, ◌∷◌, length, filter, count_by, is_some, sym, ap, subst, inl, inr, ⊎_elim, arith}
use Rattle.std.proofs.lemmas.Bool.{and_from, cases_lt}
use Rattle.std.proofs.lemmas.List.Sums.{length-filter}
use Rattle.wf_model.specs.Lists.{numbers_from}
use Rattle.wf_model.specs.Grammar.{Grammar, IsComposite}
use Rattle.wf_model.specs.WellFormed.{IsWellFormed}
use Rattle.wf_model.specs.Proper.{Derives}
use Rattle.wf_model.specs.Linear.{IsOnCycle}
use Rattle.wf_model.proofs.Lists.{in_filter_from}
use Rattle.wf_model.proofs.Level.{in_numbers}
use Rattle.wf_model.proofs.Walks.{walk-append}
use Rattle.label_model.specs.Continuing.{continuing, is_least}
use Rattle.wf_model.proofs.Composites.{composite_is}
use Rattle.label_model.proofs.ContinuingSteps.{continuing_found}
use Rattle.label_model.proofs.Differing.{no_more_below, numbers_differ, differ_filter}
use Rattle.label_model.proofs.LeastModules.{least, least_is, composite_up, cycle_up}
use Rattle.decode_model.specs.Counts.{Numbers}
use Rattle.decode_model.specs.CostLaws.{NumbersLaw}
use Rattle.wf_model.specs.Composite.{is_composite}

-- below a higher number more pass, if the lower one passes
more_pass : (p : ℕ → Bool) (a b : ℕ) → a < b → p a ≡ true → count_by p (numbers_from 0 a) < count_by p (numbers_from 0 b)
more_pass p a b l t =
    let ns = numbers_from 0 a in
    let r = no_more_below p b (a ∷ filter p ns) (
      (λ i. let k = in_numbers a 0 a (in_filter_from p a ns i).0 in absurd (omega arith)),
      differ_filter p ns (numbers_differ 0 a),
    ) (λ x i. ⊎_elim
    (λ (e : x ≡ a). (subst (λ z. z < b) (sym e) l, subst (λ z. p z ≡ true) (sym e) t))
    (λ j. let q = in_filter_from p x ns j in let k = in_numbers x 0 a q.0 in (omega arith, q.1)) i) in
    omega (arith, r, length-filter p ns)

module _ (g : Grammar) (wf : IsWellFormed g) where
  -- modules with one least module derive each other
  one_least : (m n : ℕ) → least g m ≡ least g n → Derives g m n
  one_least m n e = walk-append (least_is g wf m).down (subst (λ z. Derives g z n) (sym e) (least_is g wf n).up)

  -- the modules of a kind are numbered by their least modules, if these pass a test
  numbered : (Kind : ℕ → Type 0) (p : ℕ → Bool) → ((m : ℕ) → Kind m → (m < length g.modules) × (p (least g m) ≡ true)) →
      Numbers g Kind (λ m. count_by p (numbers_from 0 (least g m))) (count_by p (numbers_from 0 (length g.modules)))
  numbered Kind p pass =
      record {
        below = λ m k. let low = (least_is g wf m).low in let small = (pass m k).0 in more_pass p (least g m) (length g.modules) (omega arith) (pass m k).1;
        same = λ m n k j e. one_least m n (equal m n k j e (cases_lt (least g m) (least g n)) (cases_lt (least g n) (least g m)));
      }
    where
      equal : (m n : ℕ) → Kind m → Kind n → count_by p (numbers_from 0 (least g m)) ≡ count_by p (numbers_from 0 (least g n)) →
          (least g m < least g n) ⊎ (least g n ≤ least g m) → (least g n < least g m) ⊎ (least g m ≤ least g n) → least g m ≡ least g n
      equal m n k j e (inl l) y = let r = more_pass p (least g m) (least g n) l (pass m k).1 in absurd (omega arith)
      equal m n k j e (inr x) (inl l) = let r = more_pass p (least g n) (least g m) l (pass n j).1 in absurd (omega arith)
      equal m n k j e (inr x) (inr y) = omega arith

  composite_passes : (m : ℕ) → IsComposite g m → (m < length g.modules) × ((is_composite g (least g m) && is_least g (least g m)) ≡ true)
  composite_passes m h =
      let l = least_is g wf m in (
        subst (λ z. z < length g.modules) h.1.1 (wf.heads h.0 h.1.0),
        and_from (is_composite g (least g m)) (is_least g (least g m)) (composite_up g wf l.up (composite_is g m h)) l.first,
      )

  cycle_passes : (m : ℕ) → IsOnCycle g m → (m < length g.modules) × ((is_some (continuing g (least g m)) && is_least g (least g m)) ≡ true)
  cycle_passes m h =
      let l = least_is g wf m in
      let t = continuing_found g wf m h.0 h.1 in (
        subst (λ z. z < length g.modules) h.1.0.head (wf.heads h.0.production h.1.0.in_range),
        and_from (is_some (continuing g (least g m))) (is_least g (least g m)) (cycle_up g wf l.up l.down (ap is_some t.1)) l.first,
      )

pub numbers_law : NumbersLaw
numbers_law g wf =
    record {
      composites = (_, numbered g wf (IsComposite g) (λ m. is_composite g m && is_least g m) (composite_passes g wf));
      on_cycles = (_, numbered g wf (IsOnCycle g) (λ m. is_some (continuing g m) && is_least g m) (cycle_passes g wf));
    }
