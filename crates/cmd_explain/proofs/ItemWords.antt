-- Whether a word is the name of an item.
use Rattle.std.proofs.Common.{◌≡◌, ℕ, Bool, true, false, cond, ◌==◌, ◌&&◌, List, [], ◌∷◌, ◌++◌, refl, sym, ap, ◌∙◌, inl, inr, arith, append_assoc, append-nil}
use Rattle.std.specs.Prelude.{Option, Some, None, is_some, IfSome, IfNone}
use Rattle.std.specs.Borrow.{Bor}
use Rattle.std.proofs.lemmas.Bool.Decides.{nat_tests}
use Rattle.wf_model.specs.Lists.{IsIn}
use Rattle.wf_model.specs.Faults.{is_short_name}
use Rattle.wf_model.specs.Items.{IsItemName, IsNameOf}
use Rattle.wf_model.proofs.Taking.{short_gives, short_from}
use Rattle.wf_model.proofs.ItemNames.{dotted_at}
use Rattle.name_text.proofs.Names.{no_dot}
use Rattle.name_text.proofs.NamesOrNot.{cut_or_lacks, IsCutAt}
use Rattle.cmd_explain.specs.Words.{is_item_behind, is_item_name}

-- a byte that is found to be a dot is one
dot_told : (b : ℕ) → (b == 46) ≡ true → 46 ≡ b
dot_told b e = grind (arith, nat_tests, e)

-- a byte that is no dot is passed
passed : (b : ℕ) → (46 ≡ b → ⊥) → (b == 46) ≡ false
passed b h = go (b == 46) refl
  where
    go : (t : Bool) → (b == 46) ≡ t → (b == 46) ≡ false
    go true e = absurd (h (dot_told b e))
    go false e = e

-- behind bytes without a dot, and a dot, two names are tried
at_dot : (p a b : List ℕ) → (IsIn 46 a → ⊥) → is_item_behind p (a ++ 46 ∷ b) ≡ is_short_name (p ++ a) && is_short_name b
at_dot p [] b none = ap (λ z. is_short_name z && is_short_name b) (sym (append-nil p))
at_dot p (x ∷ a) b none =
    ap (λ t. cond t (is_short_name p && is_short_name (a ++ 46 ∷ b)) (is_item_behind (p ++ x ∷ []) (a ++ 46 ∷ b))) (passed x (λ e. none (inl e))) ∙
    (at_dot (p ++ x ∷ []) a b (λ i. none (inr i)) ∙ ap (λ z. is_short_name z && is_short_name b) (append_assoc p (x ∷ []) a))

-- bytes without a dot are no name of an item
without_dot : (p a : List ℕ) → (IsIn 46 a → ⊥) → is_item_behind p a ≡ false
without_dot p [] none = refl
without_dot p (x ∷ a) none =
    ap (λ t. cond t (is_short_name p && is_short_name a) (is_item_behind (p ++ x ∷ []) a)) (passed x (λ e. none (inl e))) ∙ without_dot (p ++ x ∷ []) a (λ i. none (inr i))

-- the name of an item is found to be one
pub item_passes : (w a b : List ℕ) → IsNameOf w a b → is_item_name w ≡ true
item_passes w a b h =
    ap is_item_name (h.0 ∙ dotted_at a b) ∙ (at_dot [] a b (no_dot a h.1) ∙
    (ap (λ t. t && is_short_name b) (short_from a h.1.0 h.1.1) ∙ short_from b h.2.0 h.2.1))

-- and nothing else is
pub item_only : (w : List ℕ) → (IsItemName w → ⊥) → is_item_name w ≡ false
item_only w none = elim (cut_or_lacks 46 w) [ inl r ↦ by_cut r | inr lacks ↦ without_dot [] w lacks ]
  where
    both : (x y : Bool) → (x ≡ true → y ≡ true → ⊥) → (x && y) ≡ false
    both true true h = absurd (h refl refl)
    both true false h = refl
    both false y h = refl

    by_cut : IsCutAt 46 w → is_item_name w ≡ false
    by_cut r =
        ap is_item_name r.2 ∙ (at_dot [] r.0 r.1 r.3 ∙
        both (is_short_name r.0) (is_short_name r.1) (λ x y. none (r.0, r.1, (r.2 ∙ sym (dotted_at r.0 r.1), short_gives r.0 x, short_gives r.1 y))))

-- so says whether a word is split into the names of an instance and of a port
pub item_told : (w : List ℕ) (o : Option (Bor (List ℕ) × Bor (List ℕ))) → IfSome o (λ p. IsNameOf w p.0.now p.1.now) → IfNone o (IsItemName w → ⊥) → is_some o ≡ is_item_name w
item_told w None some none = sym (item_only w none)
item_told w (Some p) some none = sym (item_passes w p.0.now p.1.now some)
