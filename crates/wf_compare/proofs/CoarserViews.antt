-- Whether a view expands a module alone.
use Rattle.std.proofs.Common.{◌≡◌, ℕ, ◌+◌, ◌<◌, ◌≤◌, ◌⊎◌, ◌&&◌, Bool, true, false, not, length, refl, sym, ap, ◌∙◌, subst, ⊎_elim, arith, true≢false}
use Rattle.std.proofs.lemmas.Bool.{cases_Bool}
use Rattle.wf_model.specs.Grammar.{Grammar}
use Rattle.wf_model.specs.WellFormed.{IsWellFormed}
use Rattle.wf_model.specs.View.{View, expands, IsViewOf}
use Rattle.wf_model.proofs.Composites.{composite_below}
use Rattle.compare_model.specs.Coarser.{IsCoarser, IsExpandedAlone, IsFirstExpandedAlone}
use Rattle.wf_compare.specs.Flags.{is_expanded_alone}

alone_gives : (c u : View) (m : ℕ) → is_expanded_alone c u m ≡ true → IsExpandedAlone c u m
alone_gives c u m t = go (expands c m) (expands u m) refl refl t
  where
    go : (a b : Bool) → expands c m ≡ a → expands u m ≡ b → a && not b ≡ true → IsExpandedAlone c u m
    go true true e f h = absurd (true≢false (sym h))
    go true false e f h = (e, f)
    go false b e f h = absurd (true≢false (sym h))

alone_tested : (c u : View) (m : ℕ) → IsExpandedAlone c u m → is_expanded_alone c u m ≡ true
alone_tested c u m a = ap (λ b. b && not (expands u m)) a.0 ∙ ap not a.1

pub not_alone : (c u : View) (m : ℕ) → is_expanded_alone c u m ≡ false → IsExpandedAlone c u m → ⊥
not_alone c u m f a = true≢false (sym (alone_tested c u m a) ∙ f)

-- none so far, and the next is none
pub next_passed : (c u : View) (k : ℕ) → ((m : ℕ) → m < k → IsExpandedAlone c u m → ⊥) → (IsExpandedAlone c u k → ⊥) → (m : ℕ) → m < k + 1 → IsExpandedAlone c u m → ⊥
next_passed c u k before this m l a = ⊎_elim (λ (h : m < k). before m h a) (λ (h : m ≡ k). this (subst (IsExpandedAlone c u) h a)) cases
  where
    cases : (m < k) ⊎ (m ≡ k)
    cases = grind arith

pub is_first : (c u : View) (k : ℕ) → ((m : ℕ) → m < k → IsExpandedAlone c u m → ⊥) → is_expanded_alone c u k ≡ true → IsFirstExpandedAlone c u k
is_first c u k before t = (alone_gives c u k t, λ m a. ⊎_elim (λ (h : m < k). absurd (before m h a)) (λ (h : k ≤ m). h) (cases m))
  where
    cases : (m : ℕ) → (m < k) ⊎ (k ≤ m)
    cases m = grind arith

pub none_alone : (g : Grammar) (c u : View) (n : ℕ) → IsWellFormed g → IsViewOf g c → length g.modules ≤ n → ((m : ℕ) → m < n → IsExpandedAlone c u m → ⊥) → IsCoarser c u
none_alone g c u n formed view all none m e = ⊎_elim
    (λ t. t)
    (λ f. absurd (none m (let l = composite_below g formed m (view.expanded m e) in omega arith) (e, f)))
    (cases_Bool (expands u m))
